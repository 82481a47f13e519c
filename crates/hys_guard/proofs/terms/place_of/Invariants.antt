use Rattle.std.proofs.Common.{◌<◌, take}
use Rattle.hys_lin.specs.Sums.{EachColumn}
use Rattle.hys_guard.proofs.terms.place_of.Given as goal

-- the terms so far stand before the column
abbrev pub invariant-loop-i : goal.invariant-loop-i
invariant-loop-i l = EachColumn (λ d. d < l.column) (take l.i l.terms)
