-- Answers whose numbers fit: fractions as such, whole numbers below 2^32.
use Rattle.std.specs.Prelude.{ℕ, ◌<◌, ◌^◌, List, Option, Some, None, IsTrue}
use Rattle.std.specs.List.{AllByRecursion}
use Rattle.hys_number.specs.Number.{Number}
use Rattle.hys_number.specs.Ops.{fits}
use Rattle.hys_relax.specs.declared.range.TablePlace.{TablePlace}
use Rattle.hys_relax.specs.declared.range.TablePlace.TheVariants.{Cell, Value, Sum}
use Rattle.hys_tree.specs.declared.answer.Best.{Best}
use Rattle.hys_tree.specs.declared.answer.Claim.{Claim}
use Rattle.hys_tree.specs.declared.answer.Claim.TheVariants.{Least, NoneExists, AtLeast}
use Rattle.hys_tree.specs.declared.answer.Why.{Why}
use Rattle.hys_tree.specs.declared.answer.Why.TheVariants.{Spent, Range}
use Rattle.hys_tree.specs.declared.tree.TreePlace.{TreePlace}
use Rattle.hys_tree.specs.declared.tree.TreePlace.TheVariants.{Inner, Cost, Never}

abbrev pub IsWhole : ℕ → Type 0
IsWhole n = n < 2 ^ 32

abbrev pub NumberFits : Number → Type 0
NumberFits a = IsTrue (fits a)

abbrev pub PairFits : ℕ × Number → Type 0
PairFits p = IsWhole p.0 × NumberFits p.1

abbrev pub CellFits : ℕ × ℕ → Type 0
CellFits c = IsWhole c.0 × IsWhole c.1

abbrev pub PlaceFits : TreePlace → Type 0
PlaceFits (Inner c) = IsWhole c
PlaceFits (Cost m k) = AllByRecursion PairFits m.pairs × IsWhole k
PlaceFits (Never m k) = AllByRecursion PairFits m.pairs × IsWhole k

abbrev pub BestFits : Best → Type 0
BestFits b = NumberFits b.cost × AllByRecursion NumberFits b.point.values

abbrev pub AnyBestFits : Option Best → Type 0
AnyBestFits None = Unit {0}
AnyBestFits (Some b) = BestFits b

abbrev pub AtFits : TablePlace → Type 0
AtFits (Cell r c) = IsWhole r × IsWhole c
AtFits (Value r) = IsWhole r
AtFits Sum = Unit {0}

abbrev pub WhyFits : Why → Type 0
WhyFits (Spent n) = IsWhole n
WhyFits (Range node at) = IsWhole node × AtFits at.at × AllByRecursion CellFits at.path

abbrev pub ClaimFits : Claim → Type 0
ClaimFits (Least b) = BestFits b
ClaimFits NoneExists = Unit {0}
ClaimFits (AtLeast bound best why) = NumberFits bound × AnyBestFits best × WhyFits why

abbrev pub AnswerFits : Claim → List TreePlace → Type 0
AnswerFits c places = ClaimFits c × AllByRecursion PlaceFits places
