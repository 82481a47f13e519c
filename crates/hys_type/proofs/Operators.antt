-- Nodes with operands: their checks, and what they are.
use Rattle.std.proofs.Common.{◌≡◌, ℕ, List, [], ◌∷◌, ◌++◌, Some, None, Bool, true, false, ◌&&◌, cond, map, length, refl, sym, ◌∙◌, ap, ap₂, subst, Result, Ok, Err, IfOk, ℤ, pos, arith}
use Rattle.std.specs.List.{list_all}
use Rattle.std.specs.Ordering.{int_eq}
use Rattle.std.proofs.lemmas.List.{length-map}
use borrow.Author.Differences.{ints}
use Rattle.hys_number.specs.Number.{Number}
use Rattle.hys_number.specs.Ops.{◌+ₙ◌, ◌*ₙ◌, neg, whole}
use Rattle.hys_number.proofs.Field.{mul_comm, mul_zero, add_comm, add_zero}
use Rattle.hys_number.proofs.Inverse.{zero_num}
use Rattle.hys_lin.specs.declared.lost.Op.TheVariants as operation
use Rattle.hys_lin.specs.declared.lost.Op.{Op}
use Rattle.hys_lin.specs.Operations.{result_of}
use Rattle.hys_ast.specs.declared.place.Place.{Place}
use Rattle.hys_ast.specs.declared.tree.UnaryOp.{UnaryOp}
use Rattle.hys_ast.specs.declared.tree.UnaryOp.TheVariants as unary
use Rattle.hys_ast.specs.declared.tree.BinaryOp.{BinaryOp}
use Rattle.hys_ast.specs.declared.tree.BinaryOp.TheVariants as binary
use Rattle.hys_ast.specs.Tree.{Tree}
use Rattle.hys_ast.specs.Tree as tree
use Rattle.hys_meaning.specs.Names.{Name}
use Rattle.hys_meaning.specs.Forms.{Form, form, combined}
use Rattle.hys_meaning.specs.Forms as forms
use Rattle.hys_meaning.specs.Folding.{is_zero, is_constant, each}
use Rattle.hys_meaning.specs.Folding as folding
use Rattle.hys_type.specs.Sorts.{Sort, Real, Bool', Neither, is_real, is_bool, takes_unary}
use Rattle.hys_type.specs.Faults.{Check, check, first_fault, in_range, Answers}
use Rattle.hys_type.specs.Nodes.{sort, takes_binary, node_checks, operator_checks}
use Rattle.hys_type.specs.Dense.{IsDense, between, zipped, folded_by, folded_form, spread}
use Rattle.hys_type.specs.Operands.{node_sort, IsNode, AreAlike, negated, signed_node, has_none, linear, multiplied, product, operations, real_checks, combined_node, joined_checks, joined_node}
use Rattle.hys_type.specs.declared.dense.Dense.{Dense}
use Rattle.hys_type.specs.declared.node.Node.{Node}
use Rattle.hys_type.specs.declared.node.Node.TheVariants as node
use Rattle.hys_type.specs.declared.fault.TypeFault.{TypeFault}
use Rattle.hys_type.specs.declared.fault.TypeFault.TheVariants as fault
use Rattle.hys_type.proofs.Tops.{operator_at}
use Rattle.hys_type.proofs.Firsts.{fault_after, fault_before}
use Rattle.hys_type.proofs.Zips.{each_name, spread_over}

-- ---- answers
pub answers_as : {T : Type 0} (r : Result T TypeFault) (cs ds : List Check) → first_fault cs ≡ first_fault ds → Answers r cs → Answers r ds
answers_as (Ok x) cs ds e h = h ∙ e
answers_as (Err f) cs ds e h = λ n. h n ∙ e

pub answers_behind : {T : Type 0} (r : Result T TypeFault) (xs ys : List Check) → None ≡ first_fault xs → Answers r ys → Answers r (xs ++ ys)
answers_behind r xs ys h k = answers_as r ys (xs ++ ys) (sym (fault_after xs ys h)) k

pub fault_first : (xs ys : List Check) (f : TypeFault) → (¬ (f ≡ fault.Memory) → Some f ≡ first_fault xs) → ¬ (f ≡ fault.Memory) → Some f ≡ first_fault (xs ++ ys)
fault_first xs ys f h n = fault_before xs ys f (h n)

pub fault_behind : (xs ys : List Check) (f : TypeFault) → None ≡ first_fault xs → (¬ (f ≡ fault.Memory) → Some f ≡ first_fault ys) → ¬ (f ≡ fault.Memory) → Some f ≡ first_fault (xs ++ ys)
fault_behind xs ys f h k n = k n ∙ sym (fault_after xs ys h)

-- ---- forms
zip_of : {A : Type 0} (h : Number → Number → A) (ns : List Name) (f g : List ℕ → Number) → zipped h (map (λ (n : Name). f n.text) ns) (map (λ (n : Name). g n.text) ns) ≡ map (λ (n : Name). h (f n.text) (g n.text)) ns
zip_of h [] f g = refl
zip_of h (n ∷ ns) f g = ap (λ xs. h (f n.text) (g n.text) ∷ xs) (zip_of h ns f g)

zipped_are : (o : Op) (ns : List Name) (f g : List ℕ → Number) (xs ys : List Number) → xs ≡ map (λ (n : Name). f n.text) ns → ys ≡ map (λ (n : Name). g n.text) ns → zipped (result_of o) xs ys ≡ map (λ (n : Name). result_of o (f n.text) (g n.text)) ns
zipped_are o ns f g xs ys h k = ap₂ (zipped (result_of o)) h k ∙ zip_of (result_of o) ns f g

pub folded_is : (o : Op) (ns : List Name) (f g k : Form) (d e : Dense) → IsDense ns f d → IsDense ns g e → map (λ (n : Name). result_of o (f.factor n.text) (g.factor n.text)) ns ≡ map (λ (n : Name). k.factor n.text) ns → result_of o f.constant g.constant ≡ k.constant → IsDense ns k (folded_form o d e)
folded_is o ns f g k d e h i x y = record { factors = zipped_are o ns f.factor g.factor d.factors e.factors h.factors i.factors ∙ x; constant = ap₂ (result_of o) h.constant i.constant ∙ y }

abbrev spread_form : Form → Form
spread_form f = record { factor = λ n. f.constant; constant = f.constant }

spread_is : (ns : List Name) (f : Form) (d : Dense) → IsDense ns f d → IsDense ns (spread_form f) (spread d)
spread_is ns f d h = record { factors = spread_over ns f.factor d.constant f.constant d.factors h.factors h.constant; constant = h.constant }

none_is : (ns : List Name) (f : Form) (d : Dense) → IsDense ns f d → has_none d ≡ is_constant ns f
none_is ns f d h = ap (list_all is_zero) h.factors ∙ over ns
  where
    over : (ns : List Name) → list_all is_zero (map (λ (n : Name). f.factor n.text) ns) ≡ list_all (λ (n : Name). is_zero (f.factor n.text)) ns
    over [] = refl
    over (n ∷ ns) = ap (λ (b : Bool). is_zero (f.factor n.text) && b) (over ns)

-- ---- products
pub zero_is : (a : Number) → is_zero a ≡ true → a ≡ whole 0
unfolding is_zero
zero_is a e = (zero_num a).0 (int_eq_is a.num (pos 0) e)
  where
    int_eq_is : (x y : ℤ) → int_eq x y ≡ true → x ≡ y
    int_eq_is x y = grind (arith, ints)

both_true : (a b : Bool) → a && b ≡ true → (a ≡ true) × (b ≡ true)
both_true true b e = (refl, e)
both_true false b e = absurd (cc)

zero_left : (f b x : Number) → f ≡ whole 0 → f *ₙ b +ₙ x ≡ x
zero_left f b x e = rw (e, mul_comm (whole 0) b, mul_zero b, add_comm (whole 0) x) (add_zero x)

zero_right : (a g x : Number) → g ≡ whole 0 → x +ₙ a *ₙ g ≡ x
zero_right a g x e = rw (e, mul_zero a) (add_zero x)

left_factors : (ns : List Name) (f g : Form) → is_constant ns f ≡ true → map (λ (n : Name). f.constant *ₙ g.factor n.text) ns ≡ map (λ (n : Name). (forms.product f g).factor n.text) ns
left_factors [] f g z = refl
left_factors (n ∷ ns) f g z =
    let t = both_true (is_zero (f.factor n.text)) (list_all (λ (n : Name). is_zero (f.factor n.text)) ns) z in
    ap₂ (λ (x : Number) (xs : List Number). x ∷ xs) (sym (zero_left (f.factor n.text) g.constant (f.constant *ₙ g.factor n.text) (zero_is (f.factor n.text) t.0))) (left_factors ns f g t.1)

right_factors : (ns : List Name) (f g : Form) → is_constant ns g ≡ true → map (λ (n : Name). f.factor n.text *ₙ g.constant) ns ≡ map (λ (n : Name). (forms.product f g).factor n.text) ns
right_factors [] f g z = refl
right_factors (n ∷ ns) f g z =
    let t = both_true (is_zero (g.factor n.text)) (list_all (λ (n : Name). is_zero (g.factor n.text)) ns) z in
    ap₂ (λ (x : Number) (xs : List Number). x ∷ xs) (sym (zero_right f.constant (g.factor n.text) (f.factor n.text *ₙ g.constant) (zero_is (g.factor n.text) t.0))) (right_factors ns f g t.1)

product_is : (ns : List Name) (f g : Form) (d e : Dense) (p : Place) (rest : List Check) → IsDense ns f d → IsDense ns g e → None ≡ first_fault (linear binary.Mul d e p ++ rest) → IsDense ns (forms.product f g) (product (has_none d) d e)
product_is ns f g d e p rest h i w = by_side (has_none d) (has_none e) refl refl w
  where
    by_side : (b c : Bool) → has_none d ≡ b → has_none e ≡ c → None ≡ cond (cond b true c) (first_fault rest) (Some (fault.NotLinear p)) → IsDense ns (forms.product f g) (product b d e)
    by_side true c x y w = folded_is operation.Mul ns (spread_form f) g (forms.product f g) (spread d) e (spread_is ns f d h) i (left_factors ns f g (sym (none_is ns f d h) ∙ x)) refl
    by_side false true x y w = folded_is operation.Mul ns f (spread_form g) (forms.product f g) d (spread e) h (spread_is ns g e i) (right_factors ns f g (sym (none_is ns g e i) ∙ y)) refl
    by_side false false x y w = absurd (cc)

-- ---- one operand
negated_is : (ns : List Name) (f : Form) (d : Dense) → IsDense ns f d → IsDense ns (record { factor = λ n. neg (f.factor n); constant = neg f.constant }) (negated d)
negated_is ns f d h = record { factors = ap (map neg) h.factors ∙ over ns; constant = ap neg h.constant }
  where
    over : (ns : List Name) → map neg (map (λ (n : Name). f.factor n.text) ns) ≡ map (λ (n : Name). neg (f.factor n.text)) ns
    over [] = refl
    over (n ∷ ns) = ap (λ xs. neg (f.factor n.text) ∷ xs) (over ns)

pub sort_is : (ns : List Name) (e : Tree) (o : Node) → IsNode ns e o → sort ns e ≡ node_sort o
sort_is ns e (node.Real d) h = h.0
sort_is ns e node.Bool h = h
sort_is ns e node.Neither h = h

pub unary_checks : (ns : List Name) (a : Tree) (op : UnaryOp) (p : Place) (o : Node) → None ≡ first_fault (node_checks ns a) → IsNode ns a o →
    first_fault (check (takes_unary op (node_sort o)) (fault.Kind p) ∷ []) ≡ first_fault (node_checks ns (tree.Unary op a p))
unary_checks ns a op p o h w =
    ap (λ (s : Sort). first_fault (check (takes_unary op s) (fault.Kind p) ∷ [])) (sym (sort_is ns a o w)) ∙ sym (fault_after (node_checks ns a) (check (takes_unary op (sort ns a)) (fault.Kind p) ∷ []) h)

signed_one : (ns : List Name) (a : Tree) (op : UnaryOp) (p : Place) (o : Node) → IsNode ns a o → None ≡ first_fault (check (takes_unary op (node_sort o)) (fault.Kind p) ∷ []) → IsNode ns (tree.Unary op a p) (signed_node op o)
signed_one ns a unary.Not p (node.Real d) h w = absurd (cc)
signed_one ns a unary.Not p node.Bool h w = refl
signed_one ns a unary.Not p node.Neither h w = absurd (cc)
signed_one ns a unary.Neg p (node.Real d) h w = (refl, negated_is ns (form ns a) d h.1)
signed_one ns a unary.Neg p node.Bool h w = absurd (cc)
signed_one ns a unary.Neg p node.Neither h w = absurd (cc)
signed_one ns a unary.Plus p (node.Real d) h w = (refl, record { factors = h.1.factors; constant = h.1.constant })
signed_one ns a unary.Plus p node.Bool h w = absurd (cc)
signed_one ns a unary.Plus p node.Neither h w = absurd (cc)

pub signed_is : (ns : List Name) (a : Tree) (op : UnaryOp) (p : Place) (o : Node) (r : Result Node TypeFault) → IsNode ns a o → Answers r (check (takes_unary op (node_sort o)) (fault.Kind p) ∷ []) → IfOk r (λ n. n ≡ signed_node op o) → IfOk r (λ n. IsNode ns (tree.Unary op a p) n)
signed_is ns a op p o (Ok n) h w e = subst (IsNode ns (tree.Unary op a p)) (sym e) (signed_one ns a op p o h w)
signed_is ns a op p o (Err f) h w e = tt

-- ---- two operands
pub are_alike : (ns : List Name) (a b : Tree) (l r : Node) → IsNode ns a l → IsNode ns b r → AreAlike l r
are_alike ns a b (node.Real d) (node.Real e) h k = ap length h.1.factors ∙ length-map ns (λ (n : Name). (form ns a).factor n.text) ∙ sym (length-map ns (λ (n : Name). (form ns b).factor n.text)) ∙ sym (ap length k.1.factors)
are_alike ns a b (node.Real d) node.Bool h k = tt
are_alike ns a b (node.Real d) node.Neither h k = tt
are_alike ns a b node.Bool r h k = tt
are_alike ns a b node.Neither r h k = tt

unlike : (op : BinaryOp) (s t : Sort) → is_real s && is_real t ≡ false → is_bool s && is_bool t ≡ false → takes_binary op s t ≡ false
unlike binary.Add s t h k = h
unlike binary.Sub s t h k = h
unlike binary.Mul s t h k = h
unlike binary.Div s t h k = h
unlike binary.And s t h k = k
unlike binary.Or s t h k = k
unlike binary.Iff s t h k = k
unlike binary.Then s t h k = k
unlike binary.From s t h k = k
unlike binary.Most s t h k = h
unlike binary.Least s t h k = h
unlike binary.Equal s t h k = h

real_same : (op : BinaryOp) (p : Place) (ns : List Name) (f g : Form) (d e : Dense) → IsDense ns f d → IsDense ns g e → first_fault (real_checks op d e p) ≡ first_fault (operator_checks ns op Real Real f g p)
real_same op p ns f g d e h k = by_op op
  where
    matched : (o : Op) → folded_by o d e ≡ folding.matched (between o) ns f g
    matched o = each_name o ns f.factor g.factor f.constant g.constant d.factors e.factors d.constant e.constant h.factors k.factors h.constant k.constant

    turned : (o : Op) → folded_by o e d ≡ folding.matched (between o) ns g f
    turned o = each_name o ns g.factor f.factor g.constant f.constant e.factors d.factors e.constant d.constant k.factors h.factors k.constant h.constant

    right : (o : Op) → folded_by o d (spread e) ≡ each (between o) ns f.factor (λ n. g.constant) f.constant g.constant
    right o = each_name o ns f.factor (λ n. g.constant) f.constant g.constant d.factors (spread e).factors d.constant e.constant h.factors (spread_over ns g.factor e.constant g.constant e.factors k.factors k.constant) h.constant k.constant

    left : (o : Op) → folded_by o (spread d) e ≡ each (between o) ns (λ n. f.constant) g.factor f.constant g.constant
    left o = each_name o ns (λ n. f.constant) g.factor f.constant g.constant (spread d).factors e.factors d.constant e.constant (spread_over ns f.factor d.constant f.constant d.factors h.factors h.constant) k.factors h.constant k.constant

    times : (b : Bool) → multiplied b d e ≡ folding.multiplied b ns f g
    times true = left operation.Mul
    times false = right operation.Mul

    by_op : (op : BinaryOp) → first_fault (real_checks op d e p) ≡ first_fault (operator_checks ns op Real Real f g p)
    by_op binary.Add = ap (λ os. first_fault (in_range p os)) (matched operation.Add)
    by_op binary.Sub = ap (λ os. first_fault (in_range p os)) (matched operation.Sub)
    by_op binary.Mul = rw (none_is ns f d h, none_is ns g e k, times (is_constant ns f)) refl
    by_op binary.Div = rw (right operation.Div, none_is ns g e k, k.constant) refl
    by_op binary.And = refl
    by_op binary.Or = refl
    by_op binary.Iff = refl
    by_op binary.Then = refl
    by_op binary.From = refl
    by_op binary.Most = ap (λ os. first_fault (in_range p os)) (matched operation.Sub)
    by_op binary.Least = ap (λ os. first_fault (in_range p os)) (turned operation.Sub)
    by_op binary.Equal = ap (λ os. first_fault (in_range p os)) (matched operation.Sub)

same_checks : (op : BinaryOp) (p : Place) (ns : List Name) (a b : Tree) (l r : Node) → IsNode ns a l → IsNode ns b r →
    first_fault (joined_checks op l r p) ≡ first_fault (operator_checks ns op (sort ns a) (sort ns b) (form ns a) (form ns b) p)
same_checks op p ns a b (node.Real d) (node.Real e) h k = rw (h.0, k.0) (real_same op p ns (form ns a) (form ns b) d e h.1 k.1)
same_checks op p ns a b (node.Real d) node.Bool h k = rw (h.0, k, unlike op Real Bool' refl refl) refl
same_checks op p ns a b (node.Real d) node.Neither h k = rw (h.0, k, unlike op Real Neither refl refl) refl
same_checks op p ns a b node.Bool (node.Real e) h k = rw (h, k.0, unlike op Bool' Real refl refl) refl
same_checks op p ns a b node.Bool node.Bool h k = rw (h, k) (operator_at (λ (o : BinaryOp).
    first_fault (joined_checks o node.Bool node.Bool p) ≡ first_fault (operator_checks ns o Bool' Bool' (form ns a) (form ns b) p))
    refl refl refl refl refl refl refl refl refl refl refl refl op)
same_checks op p ns a b node.Bool node.Neither h k = rw (h, k, unlike op Bool' Neither refl refl) refl
same_checks op p ns a b node.Neither r h k = rw (h, unlike op Neither (sort ns b) refl refl) refl

pub binary_checks : (ns : List Name) (a b : Tree) (op : BinaryOp) (p : Place) (l r : Node) → None ≡ first_fault (node_checks ns a) → IsNode ns a l → None ≡ first_fault (node_checks ns b) → IsNode ns b r →
    first_fault (joined_checks op l r p) ≡ first_fault (node_checks ns (tree.Binary op a b p))
binary_checks ns a b op p l r h w k v =
    let last : List Check = operator_checks ns op (sort ns a) (sort ns b) (form ns a) (form ns b) p in
    same_checks op p ns a b l r w v ∙ sym (fault_after (node_checks ns b) last k) ∙ sym (fault_after (node_checks ns a) (node_checks ns b ++ last) h)

joined_one : (op : BinaryOp) (p : Place) (ns : List Name) (a b : Tree) (l r : Node) → IsNode ns a l → IsNode ns b r → None ≡ first_fault (joined_checks op l r p) → IsNode ns (tree.Binary op a b p) (joined_node op l r)
joined_one op p ns a b (node.Real d) (node.Real e) h k w = by_op op w
  where
    by_op : (op : BinaryOp) → None ≡ first_fault (real_checks op d e p) → IsNode ns (tree.Binary op a b p) (combined_node op d e)
    by_op binary.Add w = (refl, folded_is operation.Add ns (form ns a) (form ns b) (combined binary.Add (form ns a) (form ns b)) d e h.1 k.1 refl refl)
    by_op binary.Sub w = (refl, folded_is operation.Sub ns (form ns a) (form ns b) (combined binary.Sub (form ns a) (form ns b)) d e h.1 k.1 refl refl)
    by_op binary.Mul w = (refl, product_is ns (form ns a) (form ns b) d e p (in_range p (operations binary.Mul d e)) h.1 k.1 w)
    by_op binary.Div w = (refl, folded_is operation.Div ns (form ns a) (spread_form (form ns b)) (combined binary.Div (form ns a) (form ns b)) d (spread e) h.1 (spread_is ns (form ns b) e k.1) refl refl)
    by_op binary.And w = absurd (cc)
    by_op binary.Or w = absurd (cc)
    by_op binary.Iff w = absurd (cc)
    by_op binary.Then w = absurd (cc)
    by_op binary.From w = absurd (cc)
    by_op binary.Most w = refl
    by_op binary.Least w = refl
    by_op binary.Equal w = refl
joined_one op p ns a b (node.Real d) node.Bool h k w = absurd (cc)
joined_one op p ns a b (node.Real d) node.Neither h k w = absurd (cc)
joined_one op p ns a b node.Bool (node.Real e) h k w = absurd (cc)
joined_one op p ns a b node.Bool node.Bool h k w = by_op op w
  where
    by_op : (op : BinaryOp) → None ≡ first_fault (joined_checks op node.Bool node.Bool p) → IsNode ns (tree.Binary op a b p) node.Bool
    by_op binary.Add w = absurd (cc)
    by_op binary.Sub w = absurd (cc)
    by_op binary.Mul w = absurd (cc)
    by_op binary.Div w = absurd (cc)
    by_op binary.And w = refl
    by_op binary.Or w = refl
    by_op binary.Iff w = refl
    by_op binary.Then w = refl
    by_op binary.From w = refl
    by_op binary.Most w = absurd (cc)
    by_op binary.Least w = absurd (cc)
    by_op binary.Equal w = absurd (cc)
joined_one op p ns a b node.Bool node.Neither h k w = absurd (cc)
joined_one op p ns a b node.Neither r h k w = absurd (cc)

pub joined_is : (ns : List Name) (a b : Tree) (op : BinaryOp) (p : Place) (l r : Node) (x : Result Node TypeFault) → IsNode ns a l → IsNode ns b r → Answers x (joined_checks op l r p) → IfOk x (λ n. n ≡ joined_node op l r) → IfOk x (λ n. IsNode ns (tree.Binary op a b p) n)
joined_is ns a b op p l r (Ok n) h k w e = subst (IsNode ns (tree.Binary op a b p)) (sym e) (joined_one op p ns a b l r h k w)
joined_is ns a b op p l r (Err f) h k w e = tt
