-- Tests in their order: the verdict is that of the first that fails.
use Rattle.std.specs.Prelude.{Bool, true, false, cond, List, [], ◌∷◌, Option, Some, None}
use Rattle.std.specs.Ordering.{is_le, is_lt, is_eq}
use Rattle.hys_number.specs.Number.{Number}
use Rattle.hys_frac.specs.Compare.{number_cmp}
use Rattle.hys_lin.specs.declared.lost.Lost.{Lost}
use Rattle.hys_check.specs.declared.verdict.At.{At}
use Rattle.hys_check.specs.declared.verdict.CheckWhy.{CheckWhy}
use Rattle.hys_check.specs.declared.verdict.CheckWhy.TheVariants.{Range}
use Rattle.hys_check.specs.declared.verdict.Verdict.{Verdict}
use Rattle.hys_check.specs.declared.verdict.Verdict.TheVariants.{Yes, No}

-- a test, and where and why it fails
pub record Test : Type 0 where
  pub passes : Bool
  pub place : At
  pub why : CheckWhy

abbrev pub test : Bool → At → CheckWhy → Test
test b at why = record { passes = b; place = at; why = why }

abbrev pub first_failing : List Test → Verdict
first_failing [] = Yes
first_failing (t ∷ ts) = cond t.passes (first_failing ts) (No t.place t.why)

-- that no operation of a sum is lost, or else the first of them
abbrev pub lost_tests : At → Option Lost → List Test
lost_tests at None = []
lost_tests at (Some l) = test false at (Range l) ∷ []

-- ---- tests of numbers
abbrev pub is_at_most : Number → Number → Bool
is_at_most a b = is_le (number_cmp a b)

abbrev pub is_below : Number → Number → Bool
is_below a b = is_lt (number_cmp a b)

abbrev pub is_equal : Number → Number → Bool
is_equal a b = is_eq (number_cmp a b)
