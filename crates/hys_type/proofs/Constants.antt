-- The checks of constant expressions.
use Rattle.std.proofs.Common.{◌≡◌, ℕ, List, [], ◌∷◌, ◌++◌, Option, Some, None, true, false, refl, sym, ◌∙◌, ap}
use Rattle.std.specs.Str.{bytes_eq}
use Rattle.hys_number.specs.Number.{Number, make}
use Rattle.hys_number.specs.Gcd.{gcd}
use Rattle.hys_number.specs.Ops.{whole}
use Rattle.hys_ast.specs.declared.place.Place.{Place}
use Rattle.hys_ast.specs.declared.tree.UnaryOp.{UnaryOp}
use Rattle.hys_ast.specs.declared.tree.BinaryOp.{BinaryOp}
use Rattle.hys_ast.specs.Tree.{Tree}
use Rattle.hys_ast.specs.Tree as tree
use Rattle.hys_meaning.specs.Values.{value}
use Rattle.hys_meaning.specs.Folding.{is_zero}
use Rattle.hys_type.specs.Sorts.{Sort, Real, Bool', takes_unary}
use Rattle.hys_type.specs.Faults.{Check, check, first_fault}
use Rattle.hys_type.specs.Constants.{find_known, known_values, known_sort, constant_checks, operator_checks, constant_sort, constant_number, IsWorth}
use Rattle.hys_type.specs.declared.constant.Known.{Known}
use Rattle.hys_type.specs.declared.constant.Constant.{Constant}
use Rattle.hys_type.specs.declared.constant.Constant.TheVariants as constant
use Rattle.hys_type.specs.declared.fault.TypeFault.{TypeFault}
use Rattle.hys_type.specs.declared.fault.TypeFault.TheVariants as fault
use Rattle.hys_type.proofs.Tops.{operator_at}
use Rattle.hys_type.proofs.Firsts.{fault_after, fault_before}

-- ---- names
pub found_here : (ks : List Known) (k : Known) (rest : List Known) (n : List ℕ) → ks ≡ k ∷ rest → bytes_eq k.text n ≡ true → find_known ks n ≡ Some k
found_here ks k rest n e h = rw e (rw h refl)

pub found_behind : (ks : List Known) (k : Known) (rest : List Known) (n : List ℕ) → ks ≡ k ∷ rest → bytes_eq k.text n ≡ false → find_known ks n ≡ find_known rest n
found_behind ks k rest n e h = rw e (rw h refl)

-- ---- divisors
zero_is : is_zero (whole 0) ≡ true
unfolding is_zero whole make gcd
zero_is = refl

pub no_zero : (a : Number) → is_zero a ≡ false → ¬ (a ≡ whole 0)
no_zero a h e = never (sym h ∙ ap is_zero e ∙ zero_is)
  where
    never : false ≡ true → ⊥
    never e = absurd (cc)

-- ---- an operand
pub sort_is : (ks : List Known) (e : Tree) (o : Constant) → IsWorth ks e o → known_sort ks e ≡ constant_sort o
sort_is ks e (constant.Real a) h = h.0
sort_is ks e (constant.Bool b) h = h.0

pub unary_operand : (ks : List Known) (a : Tree) (op : UnaryOp) (p : Place) (f : TypeFault) → Some f ≡ first_fault (constant_checks ks a) → Some f ≡ first_fault (constant_checks ks (tree.Unary op a p))
unary_operand ks a op p f h = fault_before (constant_checks ks a) _ f h

pub unary_node : (ks : List Known) (a : Tree) (op : UnaryOp) (p : Place) (o : Constant) (x : Option TypeFault) →
    None ≡ first_fault (constant_checks ks a) → IsWorth ks a o → x ≡ first_fault (check (takes_unary op (constant_sort o)) (fault.Kind p) ∷ []) → x ≡ first_fault (constant_checks ks (tree.Unary op a p))
unary_node ks a op p o x h w e =
    e ∙ ap (λ (s : Sort). first_fault (check (takes_unary op s) (fault.Kind p) ∷ [])) (sym (sort_is ks a o w)) ∙ sym (fault_after (constant_checks ks a) (check (takes_unary op (known_sort ks a)) (fault.Kind p) ∷ []) h)

-- ---- two operands
pub left_operand : (ks : List Known) (a b : Tree) (op : BinaryOp) (p : Place) (f : TypeFault) → Some f ≡ first_fault (constant_checks ks a) → Some f ≡ first_fault (constant_checks ks (tree.Binary op a b p))
left_operand ks a b op p f h = fault_before (constant_checks ks a) _ f h

pub right_operand : (ks : List Known) (a b : Tree) (op : BinaryOp) (p : Place) (f : TypeFault) → None ≡ first_fault (constant_checks ks a) → Some f ≡ first_fault (constant_checks ks b) → Some f ≡ first_fault (constant_checks ks (tree.Binary op a b p))
right_operand ks a b op p f h k = fault_before (constant_checks ks b) _ f k ∙ sym (fault_after (constant_checks ks a) (constant_checks ks b ++ operator_checks op (known_sort ks a) (known_sort ks b) (value (known_values ks) a) (value (known_values ks) b) p) h)

-- the numbers matter only between real operands
same_checks : (op : BinaryOp) (p : Place) (ks : List Known) (a b : Tree) (l r : Constant) → IsWorth ks a l → IsWorth ks b r →
    first_fault (operator_checks op (constant_sort l) (constant_sort r) (constant_number l) (constant_number r) p)
    ≡ first_fault (operator_checks op (known_sort ks a) (known_sort ks b) (value (known_values ks) a) (value (known_values ks) b) p)
same_checks op p ks a b (constant.Real m) (constant.Real n) h k = rw (h.0, k.0, sym h.1, sym k.1) refl
same_checks op p ks a b (constant.Real m) (constant.Bool n) h k = rw (h.0, k.0) (operator_at (λ (o : BinaryOp).
    first_fault (operator_checks o Real Bool' m (whole 0) p) ≡ first_fault (operator_checks o Real Bool' (value (known_values ks) a) (value (known_values ks) b) p))
    refl refl refl refl refl refl refl refl refl refl refl refl op)
same_checks op p ks a b (constant.Bool m) (constant.Real n) h k = rw (h.0, k.0) (operator_at (λ (o : BinaryOp).
    first_fault (operator_checks o Bool' Real (whole 0) n p) ≡ first_fault (operator_checks o Bool' Real (value (known_values ks) a) (value (known_values ks) b) p))
    refl refl refl refl refl refl refl refl refl refl refl refl op)
same_checks op p ks a b (constant.Bool m) (constant.Bool n) h k = rw (h.0, k.0) (operator_at (λ (o : BinaryOp).
    first_fault (operator_checks o Bool' Bool' (whole 0) (whole 0) p) ≡ first_fault (operator_checks o Bool' Bool' (value (known_values ks) a) (value (known_values ks) b) p))
    refl refl refl refl refl refl refl refl refl refl refl refl op)

pub binary_node : (ks : List Known) (a b : Tree) (op : BinaryOp) (p : Place) (l r : Constant) (x : Option TypeFault) →
    None ≡ first_fault (constant_checks ks a) → IsWorth ks a l → None ≡ first_fault (constant_checks ks b) → IsWorth ks b r →
    x ≡ first_fault (operator_checks op (constant_sort l) (constant_sort r) (constant_number l) (constant_number r) p) → x ≡ first_fault (constant_checks ks (tree.Binary op a b p))
binary_node ks a b op p l r x h w k v e =
    let last : List Check = operator_checks op (known_sort ks a) (known_sort ks b) (value (known_values ks) a) (value (known_values ks) b) p in
    e ∙ same_checks op p ks a b l r w v ∙ sym (fault_after (constant_checks ks b) last k) ∙ sym (fault_after (constant_checks ks a) (constant_checks ks b ++ last) h)
