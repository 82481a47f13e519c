-- The number that a truth value chooses.
use Rattle.std.specs.Prelude.{Bool, true, false}
use Rattle.hys_number.specs.Number.{Number}

-- the first number where the truth value is true, else the second
abbrev pub chosen : Bool → Number → Number → Number
chosen true a b = a
chosen false a b = b
