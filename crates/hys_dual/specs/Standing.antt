-- Where each variable of a tableau stands, and the ends at which those outside the basis stand.
use Rattle.std.specs.Prelude.{◌≡◌, ℕ, ◌+◌, ◌<◌, List}
use Rattle.std.proofs.Common.{get_or}
use Rattle.hys_relax.specs.Node.{Boxes}
use Rattle.hys_relax.specs.LinearProgram.{LinearProgram}
use Rattle.hys_simplex.specs.Tableau.{Tableau}
use Rattle.hys_simplex.specs.Status.{is_raised_above, end_value}
use Rattle.hys_dual.specs.Listed.{listed}
use Rattle.hys_dual.specs.declared.stand.Stand.{Stand}
use Rattle.hys_dual.specs.declared.stand.Stand.TheVariants.{Basic, Outside}
use Rattle.hys_dual.specs.declared.end.End.{End}

-- the variable u is basic in the row, or stands outside the basis in the column
abbrev pub StandsAt : Tableau → ℕ → Stand → Type 0
StandsAt T u (Basic i) = (i < T.rows) × (T.basic i ≡ u)
StandsAt T u (Outside j) = (j < T.columns) × (T.outside j ≡ u)

abbrev pub stand_at : List Stand → ℕ → Stand
stand_at xs u = get_or xs u (Basic 0)

-- each variable has its place
abbrev pub AllStand : Tableau → List Stand → Type 0
AllStand T xs = (u : ℕ) → u < T.columns + T.rows → StandsAt T u (stand_at xs u)

-- the end at which the variable in column j stands, and whether its raised cost cell is above 0
abbrev pub end_in : LinearProgram → Boxes → Tableau → ℕ → End
end_in P B T j = record { above = is_raised_above P T j; value = end_value P B T j }

-- the ends of all columns
abbrev pub ends_of : LinearProgram → Boxes → Tableau → List End
ends_of P B T = listed T.columns (end_in P B T)
