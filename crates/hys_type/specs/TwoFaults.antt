-- Small sources for the order of faults, most of them with two, written by hand: the real state x with box 0 to 10.
use Rattle.std.specs.Prelude.{ℕ, [], ◌∷◌, Option, Some, None, true, codes}
use Rattle.hys_ast.specs.declared.source.Section.TheVariants as section
use Rattle.hys_ast.specs.declared.source.Kind.{Kind}
use Rattle.hys_ast.specs.declared.source.Kind.TheVariants as kind
use Rattle.hys_ast.specs.declared.tree.BinaryOp.{BinaryOp}
use Rattle.hys_ast.specs.declared.tree.BinaryOp.TheVariants as binary
use Rattle.hys_ast.specs.declared.tree.UnaryOp.TheVariants as unary
use Rattle.hys_ast.specs.Tree.{Tree, Decl, Item, Source}
use Rattle.hys_ast.specs.Tree as tree
use Rattle.hys_number.specs.Ops.{whole, neg}
use Rattle.hys_lin.specs.Operations.{minus}
use Rattle.hys_meaning.specs.Values.{literal}
use Rattle.hys_type.specs.declared.fault.TypeFault.{TypeFault}
use Rattle.hys_type.specs.declared.fault.TypeFault.TheVariants as fault
use Rattle.hys_type.specs.Examples.{spot, digits, name, zero_at, ten_at, state, next, source}

-- the name x, and an operator between two expressions
abbrev pub x_at : ℕ → Tree
x_at n = name (codes "x") n

abbrev pub two : BinaryOp → ℕ → Tree → Tree → Tree
two op n a b = tree.Binary op a b (spot n)

-- the largest number that fits
abbrev pub largest_at : ℕ → Tree
largest_at n = digits (codes "9223372036854775807") n

abbrev pub auxiliary : Decl
auxiliary = record {
  section = section.Aux;
  kind = kind.Bool;
  name = codes "d";
  place = spot 30;
  low = None;
  high = None;
  value = None;
}

abbrev pub parameter : Kind → Option Tree → Decl
parameter k e = record {
  section = section.Parameter;
  kind = k;
  name = codes "p";
  place = spot 40;
  low = None;
  high = None;
  value = e;
}

-- the auxiliary d is a comparison with a tolerance
abbrev pub guard : Tree → Tree → Item
guard e t = record { section = section.Ad; name = Some (codes "d"); place = spot 50; shape = tree.Wide e t }

-- the state x as the left name of a LINEAR item, where none may stand
abbrev pub linear : Tree → Item
linear e = record { section = section.Linear; name = Some (codes "x"); place = spot 60; shape = tree.Plain e }

abbrev pub guarding : Tree → Tree → Source
guarding e t = source (state (zero_at 2) (ten_at 3) ∷ auxiliary ∷ []) (guard e t ∷ [])

-- ---- sources
-- z <= 0 with the tolerance 0, where z is not declared
abbrev pub unknown_in_guard : Source
unknown_in_guard = guarding (two binary.Most 51 (name (codes "z") 52) (zero_at 53)) (zero_at 54)

-- x <= 0 with the tolerance 0
abbrev pub no_tolerance : Source
no_tolerance = guarding (two binary.Most 51 (x_at 52) (zero_at 53)) (zero_at 54)

-- x * x with the tolerance 0
abbrev pub product_in_guard : Source
product_in_guard = guarding (two binary.Mul 51 (x_at 52) (x_at 53)) (zero_at 54)

-- x = 0, and then a LINEAR item x = z
abbrev pub misplaced : Source
misplaced = source (state (zero_at 2) (ten_at 3) ∷ []) (next (zero_at 6) ∷ linear (name (codes "z") 61) ∷ [])

-- x = 0, and then x = z
abbrev pub defined_again : Source
defined_again = source (state (zero_at 2) (ten_at 3) ∷ []) (next (zero_at 6) ∷ next (name (codes "z") 7) ∷ [])

-- x [10, 0], and a parameter without a value
abbrev pub empty_box_and_no_value : Source
empty_box_and_no_value = source (state (ten_at 2) (zero_at 3) ∷ parameter kind.Real None ∷ []) []

-- x [10, 0], and x = z
abbrev pub empty_box_and_unknown : Source
empty_box_and_unknown = source (state (ten_at 2) (zero_at 3) ∷ []) (next (name (codes "z") 6) ∷ [])

-- x [TRUE, z]
abbrev pub truth_as_low_end : Source
truth_as_low_end = source (state (tree.Truth true (spot 2)) (name (codes "z") 3) ∷ []) []

-- a Boolean parameter whose value is the comparison of the largest number with -1
abbrev pub compared_constants : Source
compared_constants = source (parameter kind.Bool
    (Some (two binary.Most 41 (largest_at 42) (tree.Unary unary.Neg (digits (codes "1") 44) (spot 43)))) ∷ []) []

-- the largest number times x <= -x, and + 1 behind it
abbrev pub guard_in_sum : Tree
guard_in_sum = two binary.Add 6
    (two binary.Most 7 (two binary.Mul 8 (largest_at 9) (x_at 10)) (tree.Unary unary.Neg (x_at 12) (spot 11)))
    (digits (codes "1") 13)

-- its fault: the largest number less -1 doesn't fit
abbrev pub beyond_the_largest : TypeFault
beyond_the_largest = fault.Range (spot 7) (minus (literal (codes "9223372036854775807")) (neg (whole 1)))

-- x / (x - x)
abbrev pub by_no_term : Tree
by_no_term = two binary.Div 6 (x_at 7) (two binary.Sub 8 (x_at 9) (x_at 10))

-- x / 0 + z
abbrev pub by_zero_and_unknown : Tree
by_zero_and_unknown = two binary.Add 6 (two binary.Div 7 (x_at 8) (zero_at 9)) (name (codes "z") 10)
