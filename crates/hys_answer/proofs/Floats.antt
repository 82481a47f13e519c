-- The text of an answer has no float.
use Rattle.std.proofs.Common.{◌≡◌, ℕ, List, [], ◌∷◌, map, false, refl, Option, Some, None}
use Rattle.serde_json.specs.View.{items_of}
use Rattle.serde_json.specs.Written.{has_float, items_have_float}
use Rattle.hys_number.specs.Number.{Number}
use Rattle.hys_relax.specs.declared.range.TablePlace.{TablePlace}
use Rattle.hys_relax.specs.declared.range.TablePlace.TheVariants.{Cell, Value, Sum}
use Rattle.hys_tree.specs.declared.answer.Best.{Best}
use Rattle.hys_tree.specs.declared.answer.Claim.{Claim}
use Rattle.hys_tree.specs.declared.answer.Claim.TheVariants.{Least, NoneExists, AtLeast}
use Rattle.hys_tree.specs.declared.answer.Why.{Why}
use Rattle.hys_tree.specs.declared.answer.Why.TheVariants.{Spent, Range}
use Rattle.hys_tree.specs.declared.tree.TreePlace.{TreePlace}
use Rattle.hys_tree.specs.declared.tree.TreePlace.TheVariants.{Inner, Cost, Never}
use Rattle.hys_json.specs.Shown.{fraction_data}
use Rattle.hys_answer.specs.Shown.{pair_data, place_data, best_data, cell_data, at_data, why_data, claim_data}

pairs : (ps : List (ℕ × Number)) → items_have_float (items_of (map pair_data ps)) ≡ false
pairs [] = refl
pairs (p ∷ ps) = pairs ps

numbers : (v : List Number) → items_have_float (items_of (map fraction_data v)) ≡ false
numbers [] = refl
numbers (x ∷ v) = numbers v

cells : (cs : List (ℕ × ℕ)) → items_have_float (items_of (map cell_data cs)) ≡ false
cells [] = refl
cells (c ∷ cs) = cells cs

pub no_place_float : (ts : List TreePlace) → items_have_float (items_of (map place_data ts)) ≡ false
no_place_float [] = refl
no_place_float (Inner c ∷ ts) = no_place_float ts
no_place_float (Cost m k ∷ ts) = rw (pairs m.pairs) (no_place_float ts)
no_place_float (Never m k ∷ ts) = rw (pairs m.pairs) (no_place_float ts)

bests : (b : Option Best) → has_float (best_data b) ≡ false
bests None = refl
bests (Some b) = rw (numbers b.point.values) refl

ats : (t : TablePlace) → has_float (at_data t) ≡ false
ats (Cell r c) = refl
ats (Value r) = refl
ats Sum = refl

whys : (w : Why) → has_float (why_data w) ≡ false
whys (Spent n) = refl
whys (Range node at) = rw (ats at.at, cells at.path) refl

pub no_claim_float : (c : Claim) → has_float (claim_data c) ≡ false
no_claim_float (Least b) = rw (numbers b.point.values) refl
no_claim_float NoneExists = refl
no_claim_float (AtLeast bound best why) = rw (bests best, whys why) refl
