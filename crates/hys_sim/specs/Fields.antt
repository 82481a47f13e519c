-- What the fields of a table's records say.
use Rattle.std.specs.Prelude.{ℕ, ◌-◌, List, Bool, false, ◌||◌, nat_eq, length, take, drop, Result, Ok, Err}
use Rattle.std.specs.List.{prefix_len, suffix_len}
use Rattle.hys_number.specs.Number.{Number}
use Rattle.hys_number.specs.Ops.{whole}
use Rattle.hys_frac.specs.Compare.{parts_eq}
use Rattle.hys_frac.specs.Read.{reading}
use Rattle.hys_frac.specs.declared.read.FracFault.{FracFault}
use Rattle.hys_ast.specs.declared.source.Kind.{Kind}
use Rattle.hys_prog.specs.Stops.{of_kind}

-- ---- blanks
-- a space or a tab
abbrev pub is_blank : ℕ → Bool
is_blank c = nat_eq c 32 || nat_eq c 9

-- the text from its first byte that is no blank on
abbrev pub from_first : List ℕ → List ℕ
from_first text = drop (prefix_len is_blank text) text

-- the text up to its last byte that is no blank
abbrev pub up_to_last : List ℕ → List ℕ
up_to_last text = take (length text - suffix_len is_blank text) text

-- a field without the blanks round it
abbrev pub stripped : List ℕ → List ℕ
stripped field = up_to_last (from_first field)

-- ---- numbers
-- what a field says
abbrev pub field_reading : List ℕ → Result Number FracFault
field_reading field = reading (stripped field)

abbrev pub number_or_zero : Result Number FracFault → Number
number_or_zero (Ok a) = a
number_or_zero (Err e) = whole 0

-- the number that a field says; tables whose fields say none are refused
abbrev pub field_number : List ℕ → Number
field_number field = number_or_zero (field_reading field)

-- the reading is the number
abbrev pub says : Number → Result Number FracFault → Bool
says a (Ok b) = parts_eq b a
says a (Err e) = false

-- the reading is a number, and 0 or 1 where the kind is Boolean
abbrev pub suits : Kind → Result Number FracFault → Bool
suits k (Ok a) = of_kind k a
suits k (Err e) = false
