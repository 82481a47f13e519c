use Rattle.std.proofs.Common.{rules, ◌∙◌, List, ℕ, ap}
use Rattle.std.specs.List.{filter}
use Rattle.std.proofs.lemmas.Fn.{filter_same}
use Rattle.hys_number.specs.Number.{Number}
use Rattle.hys_relax.specs.declared.multipliers.Multipliers.{Multipliers}
use Rattle.hys_answer.specs.Reading.{is_counted}
use Rattle.hys_answer.proofs.places.read_multipliers.Goals as goal

pub returns : goal.returns
returns c =
    let made : List (ℕ × Number) → Multipliers = λ ps. record { pairs = ps } in
    (c.in_ok-pairs.ensures.0, ap made (c.of.ensures ∙ filter_same _ is_counted _ (λ x b f' k. search rules) _ _ c.retain.ensures.filtered ∙ ap (filter is_counted) c.in_ok-pairs.ensures.1))
