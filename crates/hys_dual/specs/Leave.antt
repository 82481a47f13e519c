-- The row that leaves the basis, as the code finds it.
use Rattle.std.specs.Prelude.{ℕ, ◌<◌, ◌≡◌}
use Rattle.hys_number.specs.Ops.{fits}
use Rattle.hys_relax.specs.Node.{Boxes}
use Rattle.hys_relax.specs.LinearProgram.{LinearProgram}
use Rattle.hys_simplex.specs.Tableau.{Tableau}
use Rattle.hys_simplex.specs.Status.{InRange, IsOff, basic_value, AllInside}
use Rattle.hys_simplex.specs.Rule.{IsLeaving}
use Rattle.hys_simplex.specs.Unfit.{SomeUnfit, value_operations, InsideBefore}
use Rattle.hys_dual.specs.Ranging.{side_of}
use Rattle.hys_dual.specs.declared.off_range.Leaving.{Leaving}
use Rattle.hys_dual.specs.declared.off_range.Leaving.TheVariants.{Inside, Off, Unfit}

-- the basic value of one row is inside its range, off it, or doesn't fit
abbrev pub IsRowState : LinearProgram → Boxes → Tableau → ℕ → Leaving → Type 0
IsRowState P B T i Inside = InRange P B (T.basic i) (basic_value P B T i)
IsRowState P B T i (Off o) = (o.row ≡ i) × IsOff P B (T.basic i) (basic_value P B T i) (side_of o.under) o.near
IsRowState P B T i (Unfit row) = (row ≡ i) × SomeUnfit fits (value_operations P B T i)

-- every basic value is inside its range, or a row is the first that isn't, or the first whose value doesn't fit
abbrev pub IsLeft : LinearProgram → Boxes → Tableau → Leaving → Type 0
IsLeft P B T Inside = AllInside P B T
IsLeft P B T (Off o) = IsLeaving P B T o.row (side_of o.under) o.near
IsLeft P B T (Unfit row) = (row < P.rows) × InsideBefore P B T row × SomeUnfit fits (value_operations P B T row)
