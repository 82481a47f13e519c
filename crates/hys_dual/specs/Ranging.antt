-- The ends of ranges, and the side that a value is off its range.
use Rattle.std.specs.Prelude.{ℕ, Bool, if◌then◌else◌, Option, Some, None}
use Rattle.hys_number.specs.Number.{Number}
use Rattle.hys_number.specs.Ops.{neg, whole}
use Rattle.hys_relax.specs.Node.{Boxes}
use Rattle.hys_relax.specs.LinearProgram.{LinearProgram}
use Rattle.hys_simplex.specs.Status.{lower, upper, end_or, InRange, IsOff}

-- 1 where a value is below its range, -1 where it is above
-- (also the sign of a raised cost cell that is above 0, or below)
abbrev pub side_of : Bool → Number
side_of under = if under then whole 1 else neg (whole 1)

-- the upper end of the variable's range where `above`, and where there is one, else the lower
abbrev pub range_end : LinearProgram → Boxes → ℕ → Bool → Number
range_end P B u above = if above then end_or (upper P B u) (lower P B u) else lower P B u

-- the value is in the variable's range, or off it on the side that is shown, with the end that it is off
abbrev pub IsJudged : LinearProgram → Boxes → ℕ → Number → Option (Bool × Number) → Type 0
IsJudged P B u x None = InRange P B u x
IsJudged P B u x (Some e) = IsOff P B u x (side_of e.0) e.1
