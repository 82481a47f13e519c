use Rattle.std.proofs.Common.{◌≡◌, ◌∙◌, ℕ, zero, suc, List, [], ◌∷◌, Some, None, get_or, ap, sym, refl}
use Rattle.csv.specs.Records.{field_at, fields_of}
use Rattle.hys_sim.specs.Fields.{stripped}
use Rattle.hys_sim.proofs.records.field_at.Goals as goal

found : (fs : List (List ℕ)) (i : ℕ) (f : List ℕ) → Some f ≡ field_at fs i → get_or fs i [] ≡ f
unfolding field_at
found [] i f e = absurd (cc)
found (x ∷ xs) zero f e = cc
found (x ∷ xs) (suc i) f e = found xs i f e

missing : (fs : List (List ℕ)) (i : ℕ) → field_at fs i ≡ None → get_or fs i [] ≡ []
unfolding field_at
missing [] i e = refl
missing (x ∷ xs) zero e = absurd (cc)
missing (x ∷ xs) (suc i) e = missing xs i e

pub returns-in-Some : goal.returns-in-Some
returns-in-Some c = c.strip.ensures ∙ ap stripped (sym (found (fields_of c.args.row.now) c.args.place c.in-Some.field.now c.in-Some.ensures.value))

pub returns-in-None : goal.returns-in-None
returns-in-None c = c.strip-in-None.ensures ∙ ap stripped (sym (missing (fields_of c.args.row.now) c.args.place (sym c.in-None.ensures.value)))
