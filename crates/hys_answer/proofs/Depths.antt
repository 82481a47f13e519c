-- The value of an answer nests no deeper than six.
use Rattle.std.proofs.Common.{ℕ, ◌≤◌, List, [], ◌∷◌, map, Option, Some, None, arith}
use Rattle.serde_json.specs.Data.{depth, items_depth}
use Rattle.serde_json.specs.View.{items_of}
use Rattle.hys_number.specs.Number.{Number}
use Rattle.hys_relax.specs.declared.range.TablePlace.{TablePlace}
use Rattle.hys_relax.specs.declared.range.TablePlace.TheVariants.{Cell, Value, Sum}
use Rattle.hys_tree.specs.declared.answer.Best.{Best}
use Rattle.hys_tree.specs.declared.answer.Claim.{Claim}
use Rattle.hys_tree.specs.declared.answer.Claim.TheVariants.{Least, NoneExists, AtLeast}
use Rattle.hys_tree.specs.declared.answer.Why.{Why}
use Rattle.hys_tree.specs.declared.answer.Why.TheVariants.{Spent, Range}
use Rattle.hys_tree.specs.declared.tree.TreePlace.{TreePlace}
use Rattle.hys_tree.specs.declared.tree.TreePlace.TheVariants.{Inner, Cost, Never}
use Rattle.hys_json.specs.Shown.{fraction_data}
use Rattle.hys_answer.specs.Shown.{pair_data, place_data, best_data, cell_data, at_data, why_data, claim_data, answer_data}

pairs : (ps : List (ℕ × Number)) → items_depth (items_of (map pair_data ps)) ≤ 1
pairs [] = omega arith
pairs (p ∷ ps) = omega (arith, pairs ps)

numbers : (v : List Number) → items_depth (items_of (map fraction_data v)) ≤ 0
numbers [] = omega arith
numbers (x ∷ v) = omega (arith, numbers v)

cells : (cs : List (ℕ × ℕ)) → items_depth (items_of (map cell_data cs)) ≤ 1
cells [] = omega arith
cells (c ∷ cs) = omega (arith, cells cs)

places : (ts : List TreePlace) → items_depth (items_of (map place_data ts)) ≤ 3
places [] = omega arith
places (Inner c ∷ ts) = omega (arith, places ts)
places (Cost m k ∷ ts) = omega (arith, pairs m.pairs, places ts)
places (Never m k ∷ ts) = omega (arith, pairs m.pairs, places ts)

bests : (b : Option Best) → depth (best_data b) ≤ 2
bests None = omega arith
bests (Some b) = omega (arith, numbers b.point.values)

ats : (t : TablePlace) → depth (at_data t) ≤ 2
ats (Cell r c) = omega arith
ats (Value r) = omega arith
ats Sum = omega arith

whys : (w : Why) → depth (why_data w) ≤ 3
whys (Spent n) = omega arith
whys (Range node at) = omega (arith, ats at.at, cells at.path)

claims : (c : Claim) → depth (claim_data c) ≤ 4
claims (Least b) = omega (arith, numbers b.point.values)
claims NoneExists = omega arith
claims (AtLeast bound best why) = omega (arith, bests best, whys why)

pub shallow : (c : Claim) (ts : List TreePlace) → depth (answer_data c ts) ≤ 127
shallow c ts = omega (arith, claims c, places ts)
