-- The value of an answer whose numbers fit is plain: its numbers are whole, and the keys of its objects stand in byte order.
use Rattle.std.proofs.Common.{ℕ, ◌<◌, ◌^◌, List, [], ◌∷◌, map, Option, Some, None, refl, arith}
use Rattle.std.specs.List.{AllByRecursion}
use Rattle.serde_json.specs.View.{items_of}
use Rattle.hys_number.specs.Number.{Number}
use Rattle.hys_relax.specs.declared.range.TablePlace.{TablePlace}
use Rattle.hys_relax.specs.declared.range.TablePlace.TheVariants.{Cell, Value, Sum}
use Rattle.hys_tree.specs.declared.answer.Best.{Best}
use Rattle.hys_tree.specs.declared.answer.Claim.{Claim}
use Rattle.hys_tree.specs.declared.answer.Claim.TheVariants.{Least, NoneExists, AtLeast}
use Rattle.hys_tree.specs.declared.answer.Why.{Why}
use Rattle.hys_tree.specs.declared.answer.Why.TheVariants.{Spent, Range}
use Rattle.hys_tree.specs.declared.tree.TreePlace.{TreePlace}
use Rattle.hys_tree.specs.declared.tree.TreePlace.TheVariants.{Inner, Cost, Never}
use Rattle.hys_json.specs.Shown.{fraction_data}
use Rattle.hys_json.specs.Plain.{IsPlain, ArePlain}
use Rattle.hys_answer.specs.Shown.{pair_data, place_data, best_data, cell_data, at_data, why_data, claim_data, answer_data}
use Rattle.hys_answer.specs.Fitting.{IsWhole, PairFits, CellFits, PlaceFits, AtFits, WhyFits, ClaimFits, AnswerFits}

short : (n : ℕ) → IsWhole n → n < 2 ^ 64
short n h = omega arith

pairs : (ps : List (ℕ × Number)) → AllByRecursion PairFits ps → ArePlain (items_of (map pair_data ps))
pairs [] f = tt
pairs (p ∷ ps) f = ((short p.0 f.0.0, (tt, tt)), pairs ps f.1)

numbers : (v : List Number) → ArePlain (items_of (map fraction_data v))
numbers [] = tt
numbers (x ∷ v) = (tt, numbers v)

cells : (cs : List (ℕ × ℕ)) → AllByRecursion CellFits cs → ArePlain (items_of (map cell_data cs))
cells [] f = tt
cells (c ∷ cs) f = ((short c.0 f.0.0, (short c.1 f.0.1, tt)), cells cs f.1)

place : (t : TreePlace) → PlaceFits t → IsPlain (place_data t)
place (Inner c) f = ((short c f, tt), refl)
place (Cost m k) f = ((pairs m.pairs f.0, (short k f.1, tt)), refl)
place (Never m k) f = ((short k f.1, (pairs m.pairs f.0, tt)), refl)

places : (ts : List TreePlace) → AllByRecursion PlaceFits ts → ArePlain (items_of (map place_data ts))
places [] f = tt
places (t ∷ ts) f = (place t f.0, places ts f.1)

bests : (b : Option Best) → IsPlain (best_data b)
bests None = tt
bests (Some b) = ((tt, (numbers b.point.values, tt)), refl)

ats : (t : TablePlace) → AtFits t → IsPlain (at_data t)
ats (Cell r c) f = (((short r f.0, (short c f.1, tt)), tt), refl)
ats (Value r) f = ((short r f, tt), refl)
ats Sum f = tt

whys : (w : Why) → WhyFits w → IsPlain (why_data w)
whys (Spent n) f = ((tt, (short n f, tt)), refl)
whys (Range node at) f = ((ats at.at f.1, (tt, (short node f.0, (cells at.path f.2, tt)))), refl)

claims : (c : Claim) → ClaimFits c → IsPlain (claim_data c)
claims (Least b) f = ((tt, (tt, (numbers b.point.values, tt))), refl)
claims NoneExists f = ((tt, tt), refl)
claims (AtLeast bound best why) f = ((bests best, (tt, (tt, (whys why f.2, tt)))), refl)

pub plain : (c : Claim) (ts : List TreePlace) → AnswerFits c ts → IsPlain (answer_data c ts)
plain c ts f = ((claims c f.0, (tt, (places ts f.1, (short 1 (omega arith), tt)))), refl)
