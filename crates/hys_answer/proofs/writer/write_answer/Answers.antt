use Rattle.std.proofs.Common.{◌≡◌, ◌++◌, ◌∙◌, ap, sym, subst, string_bytes, IsUtf8}
use Rattle.std.specs.List.{AllByRecursion}
use Rattle.std.proofs.lemmas.Str.{IsUtf8-string_bytes}
use Rattle.serde_json.specs.Written.{compact_text, has_float}
use Rattle.hys_tree.specs.declared.answer.Answer.{Answer}
use Rattle.hys_answer.specs.Fitting.{PlaceFits}
use Rattle.hys_answer.specs.Shown.{claim_data, places_data}
use Rattle.hys_answer.proofs.Floats.{no_claim_float, no_place_float}
use Rattle.hys_answer.proofs.Written.{joined, reads_as}
use Rattle.hys_answer.proofs.writer.write_answer.Goals as goal

pub push_value-requires : goal.push_value-requires
push_value-requires c = ap has_float c.in_ok-claim_value.ensures.value ∙ no_claim_float c.args.answer.now.claim

pub push_list-requires : goal.push_list-requires
push_list-requires c = rw (c.items.ensures) (no_place_float c.args.answer.now.tree.places)

pub returns-clause-text : goal.returns-clause-text
returns-clause-text c =
    let a : Answer = c.args.answer.now in
    let claim : string_bytes c.push_value.new.text ≡ string_bytes c.put.new.text ++ compact_text (claim_data a.claim) =
    c.in_ok-push_value.ensures ∙ ap (λ d. string_bytes c.put.new.text ++ compact_text d) c.in_ok-claim_value.ensures.value in
    let places : string_bytes c.push_list.new.text ≡ string_bytes c.put-2.new.text ++ compact_text (places_data a.tree.places) =
    c.in_ok-push_list.ensures.text ∙ ap (λ ts. string_bytes c.put-2.new.text ++ compact_text (places_data ts)) c.items.ensures in
    ap (λ v. v.items) c.into_bytes.ensures.value ∙ joined a.claim a.tree.places _ _ _ _ _ _ c.new-text.ensures.bytes c.in_ok-put.ensures claim c.in_ok-put-2.ensures places c.in_ok-put-3.ensures

pub returns-clause-reads : goal.returns-clause-reads
returns-clause-reads c =
    let a : Answer = c.args.answer.now in
    let fit : AllByRecursion PlaceFits a.tree.places = subst (AllByRecursion PlaceFits) c.items.ensures c.in_ok-push_list.ensures.fit in
    let bytes = ap (λ v. v.items) c.into_bytes.ensures.value in
    reads_as a _ (c.in_ok-claim_value.ensures.fits, fit) (subst IsUtf8 (sym bytes) (IsUtf8-string_bytes c.put-3.new.text)) (returns-clause-text c)
