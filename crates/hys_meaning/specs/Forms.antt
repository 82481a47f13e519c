-- The affine form of a real expression: a factor for each name, and a constant. Parameters are
-- constants.
use Rattle.std.specs.Prelude.{◌≡◌, ℕ, List, Option, Some, None, Bool, true, false, cond, ◌≢◌, ◌⊎◌}
use Rattle.std.specs.Str.{bytes_eq}
use Rattle.hys_number.specs.Number.{Number}
use Rattle.hys_number.specs.Ops.{◌+ₙ◌, ◌*ₙ◌, ◌-ₙ◌, ◌/ₙ◌, whole}
use Rattle.hys_ast.specs.declared.tree.BinaryOp.{BinaryOp}
use Rattle.hys_ast.specs.declared.tree.BinaryOp.TheVariants as binary
use Rattle.hys_ast.specs.Tree as tree
use Rattle.hys_meaning.specs.Values.{literal, signed}
use Rattle.hys_meaning.specs.Names.{Name, look, is_parameter}

pub record Form : Type 0 where
  pub factor : List ℕ → Number
  pub constant : Number

-- no name has a factor
abbrev pub IsConstant : Form → Type 0
IsConstant f = (n : List ℕ) → f.factor n ≡ whole 0

abbrev pub number_form : Number → Form
number_form a = record { factor = λ n. whole 0; constant = a }

-- a name alone
abbrev pub unit_form : List ℕ → Form
unit_form n = record { factor = λ m. cond (bytes_eq n m) (whole 1) (whole 0); constant = whole 0 }

abbrev pub parameter_or : List ℕ → Number → Bool → Form
parameter_or n a true = number_form a
parameter_or n a false = unit_form n

abbrev pub looked_up : List ℕ → Option Name → Form
looked_up n (Some m) = parameter_or n m.value (is_parameter m.section)
looked_up n None = number_form (whole 0)

-- the parts of a product that have one name or none: all of it where a side is constant
abbrev pub product : Form → Form → Form
product f g = record { factor = λ n. f.factor n *ₙ g.constant +ₙ f.constant *ₙ g.factor n; constant = f.constant *ₙ g.constant }

abbrev pub combined : BinaryOp → Form → Form → Form
combined binary.Add f g = record { factor = λ n. f.factor n +ₙ g.factor n; constant = f.constant +ₙ g.constant }
combined binary.Sub f g = record { factor = λ n. f.factor n -ₙ g.factor n; constant = f.constant -ₙ g.constant }
combined binary.Mul f g = product f g
combined binary.Div f g = record { factor = λ n. f.factor n /ₙ g.constant; constant = f.constant /ₙ g.constant }
combined binary.And f g = number_form (whole 0)
combined binary.Or f g = number_form (whole 0)
combined binary.Iff f g = number_form (whole 0)
combined binary.Then f g = number_form (whole 0)
combined binary.From f g = number_form (whole 0)
combined binary.Most f g = number_form (whole 0)
combined binary.Least f g = number_form (whole 0)
combined binary.Equal f g = number_form (whole 0)

-- the affine form of a real expression over the declared names
abbrev pub form : List Name → tree.Tree → Form
form ns (tree.Number text p) = number_form (literal text)
form ns (tree.Name n p) = looked_up n (look ns n)
form ns (tree.Truth b p) = number_form (whole 0)
form ns (tree.Cast n p) = looked_up n (look ns n)
form ns (tree.Unary op a p) = record { factor = λ n. signed op ((form ns a).factor n); constant = signed op (form ns a).constant }
form ns (tree.Binary op a b p) = combined op (form ns a) (form ns b)

-- what may stand between two real expressions: in a product one side is constant, a divisor is
-- constant and not 0
abbrev pub Folds : BinaryOp → Form → Form → Type 0
Folds binary.Add f g = Unit {0}
Folds binary.Sub f g = Unit {0}
Folds binary.Mul f g = IsConstant f ⊎ IsConstant g
Folds binary.Div f g = IsConstant g × (g.constant ≢ whole 0)
Folds binary.And f g = ⊥
Folds binary.Or f g = ⊥
Folds binary.Iff f g = ⊥
Folds binary.Then f g = ⊥
Folds binary.From f g = ⊥
Folds binary.Most f g = ⊥
Folds binary.Least f g = ⊥
Folds binary.Equal f g = ⊥

-- the form of a guard number
abbrev pub guard_between : BinaryOp → Form → Form → Form
guard_between binary.Most f g = combined binary.Sub f g
guard_between binary.Least f g = combined binary.Sub g f
guard_between binary.Add f g = number_form (whole 0)
guard_between binary.Sub f g = number_form (whole 0)
guard_between binary.Mul f g = number_form (whole 0)
guard_between binary.Div f g = number_form (whole 0)
guard_between binary.And f g = number_form (whole 0)
guard_between binary.Or f g = number_form (whole 0)
guard_between binary.Iff f g = number_form (whole 0)
guard_between binary.Then f g = number_form (whole 0)
guard_between binary.From f g = number_form (whole 0)
guard_between binary.Equal f g = number_form (whole 0)

abbrev pub guard_form : List Name → tree.Tree → Form
guard_form ns (tree.Number text p) = number_form (whole 0)
guard_form ns (tree.Name n p) = number_form (whole 0)
guard_form ns (tree.Truth b p) = number_form (whole 0)
guard_form ns (tree.Cast n p) = number_form (whole 0)
guard_form ns (tree.Unary op a p) = number_form (whole 0)
guard_form ns (tree.Binary op a b p) = guard_between op (form ns a) (form ns b)
