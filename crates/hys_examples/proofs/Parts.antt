-- Where the numbers of an expression fit, so do the parts of its form; where those of a range fit,
-- so do its ends.
use Rattle.std.proofs.Common.{◌≡◌, ℕ, List, [], ◌∷◌, ◌++◌, refl, sym, ◌∙◌, ap, ap₂, arith, ◌^◌, ℤ, pos, neg_ℤ, unsigned_abs, nat_lt, Bool, true, false, cond, ◌&&◌, Option, Some, None, ◌⊎◌, inl, inr, IsTrue}
use Rattle.std.specs.Str.{bytes_eq}
use Rattle.std.specs.List.{AllByRecursion, list_all}
use Rattle.std.specs.Ordering.{int_eq}
use borrow.Author.Differences.{ints}
use Rattle.hys_number.specs.Number.{Number, make, make_reduced}
use Rattle.hys_number.specs.Gcd.{gcd}
use Rattle.hys_number.specs.Ops.{◌+ₙ◌, ◌*ₙ◌, neg, whole, fits}
use Rattle.hys_number.proofs.Field.{mul_comm, mul_zero, add_comm, add_zero}
use Rattle.hys_number.proofs.Inverse.{zero_num}
use Rattle.hys_number.proofs.Regroup.{ring}
use Rattle.hys_lin.specs.declared.form.Term.{Term}
use Rattle.hys_lin.specs.Ranges.{end_at}
use Rattle.hys_lin.specs.declared.lost.Lost.{Lost}
use Rattle.hys_lin.specs.Operations.{outcome, plus, minus, times, summing, sum_by}
use Rattle.hys_ast.specs.declared.place.Place.{Place}
use Rattle.hys_ast.specs.declared.tree.UnaryOp.TheVariants as unary
use Rattle.hys_ast.specs.declared.tree.BinaryOp.TheVariants as binary
use Rattle.hys_ast.specs.Tree.{Tree}
use Rattle.hys_ast.specs.Tree as tree
use Rattle.hys_meaning.specs.Names.{Name, look, is_parameter}
use Rattle.hys_meaning.specs.Forms.{Form, form, guard_form, looked_up, parameter_or, product, IsConstant}
use Rattle.hys_meaning.specs.Unfolded.{is_inequality}
use Rattle.hys_meaning.specs.Typed.{IsReal, IsComparison}
use Rattle.hys_meaning.specs.Folding.{Computed, FormFits, result, first_unfit, numbers_of, is_zero, is_constant, multiplied, all_at, each, over}
use Rattle.hys_examples.specs.Ranges.{ranging, interval_of, over_names, boxes_of}
use Rattle.hys_examples.proofs.Numbers.{never}

-- ---- lists
abbrev Fit : Computed → Type 0
Fit c = IsTrue (fits (result c.what))

each_fit : (cs : List Computed) → first_unfit cs ≡ None → AllByRecursion Fit cs
each_fit [] e = tt
each_fit (c ∷ cs) e = let h = by_test (fits (result c.what)) e in (h.0, each_fit cs h.1)
  where
    is_some : Some c ≡ None → ⊥
    is_some g = absurd (cc)

    by_test : (b : Bool) → cond b (first_unfit cs) (Some c) ≡ None → (b ≡ true) × (first_unfit cs ≡ None)
    by_test true h = (refl, h)
    by_test false h = absurd (is_some h)

both_lists : (xs ys : List Computed) → AllByRecursion Fit (xs ++ ys) → AllByRecursion Fit xs × AllByRecursion Fit ys
both_lists [] ys h = (tt, h)
both_lists (x ∷ xs) ys h = let r = both_lists xs ys h.1 in ((h.0, r.0), r.1)

each_part : (p : Place) (op : Number → Number → Lost) (ns : List Name) (f g : List ℕ → Number) (a b : Number) → AllByRecursion Fit (all_at p (each op ns f g a b)) →
    AllByRecursion (λ n. IsTrue (fits (outcome (op (f n.text) (g n.text))))) ns × IsTrue (fits (outcome (op a b)))
each_part p op [] f g a b h = (tt, h.0)
each_part p op (n ∷ ns) f g a b h = let r = each_part p op ns f g a b h.1 in ((h.0, r.0), r.1)

each_of : (P Q : Name → Type 0) → ((n : Name) → P n → Q n) → (ns : List Name) → AllByRecursion P ns → AllByRecursion Q ns
each_of P Q k [] h = tt
each_of P Q k (n ∷ ns) h = (k n h.0, each_of P Q k ns h.1)

-- ---- 0 and 1
zero_fits : fits (whole 0) ≡ true
unfolding fits whole make gcd
zero_fits = refl

one_fits : fits (whole 1) ≡ true
unfolding fits whole make gcd
one_fits = refl

zeros : (ns : List Name) → AllByRecursion (λ n. IsTrue (fits (whole 0))) ns
zeros [] = tt
zeros (n ∷ ns) = (zero_fits, zeros ns)

units : (n : List ℕ) (ns : List Name) → AllByRecursion (λ m. IsTrue (fits (cond (bytes_eq n m.text) (whole 1) (whole 0)))) ns
units n [] = tt
units n (m ∷ ns) = (by_test (bytes_eq n m.text), units n ns)
  where
    by_test : (b : Bool) → fits (cond b (whole 1) (whole 0)) ≡ true
    by_test true = one_fits
    by_test false = zero_fits

-- a number fits where the one with the other sign does
abs_neg : (z : ℤ) → unsigned_abs (neg_ℤ z) ≡ unsigned_abs z
abs_neg z = omega (arith, ints)

neg_parts : (a : Number) → ((neg a).num ≡ neg_ℤ a.num) × ((neg a).den ≡ a.den)
unfolding neg
neg_parts a = make_reduced (neg_ℤ a.num) a.den a.positive (ap (λ (n : ℕ). gcd n a.den) (abs_neg a.num) ∙ a.reduced)

fits_neg : (a : Number) → fits (neg a) ≡ fits a
unfolding fits
fits_neg a = ap₂ (λ (m n : ℕ). nat_lt m (2 ^ 63) && nat_lt n (2 ^ 63)) (ap unsigned_abs (neg_parts a).0 ∙ abs_neg a.num) (neg_parts a).1

-- ---- names
abbrev ValueFits : Option Name → Type 0
ValueFits None = Unit {0}
ValueFits (Some n) = IsTrue (fits n.value)

found_fits : (n : List ℕ) (ns : List Name) → AllByRecursion (λ n. IsTrue (fits n.value)) ns → ValueFits (look ns n)
found_fits n [] h = tt
found_fits n (m ∷ ns) h = by_test (bytes_eq m.text n) (found_fits n ns h.1)
  where
    by_test : (b : Bool) → ValueFits (look ns n) → ValueFits (cond b (Some m) (look ns n))
    by_test true k = h.0
    by_test false k = k

name_fits : (ns : List Name) (n : List ℕ) (o : Option Name) → ValueFits o → FormFits ns (looked_up n o)
name_fits ns n None h = (zeros ns, zero_fits)
name_fits ns n (Some m) h = by_test (is_parameter m.section)
  where
    by_test : (b : Bool) → FormFits ns (parameter_or n m.value b)
    by_test true = (zeros ns, h)
    by_test false = (units n ns, zero_fits)

-- ---- products
is_zero-is : (a : Number) → is_zero a ≡ true → a ≡ whole 0
unfolding is_zero
is_zero-is a e = (zero_num a).0 (int_eq_is a.num (pos 0) e)
  where
    int_eq_is : (x y : ℤ) → int_eq x y ≡ true → x ≡ y
    int_eq_is x y = grind (arith, ints)

zero_is : is_zero (whole 0) ≡ true
unfolding is_zero whole make gcd
zero_is = refl

both_true : (a b : Bool) → a && b ≡ true → (a ≡ true) × (b ≡ true)
both_true true b e = (refl, e)
both_true false b e = never e

zero_left : (f b x : Number) → f ≡ whole 0 → f *ₙ b +ₙ x ≡ x
zero_left f b x e = rw (e, mul_comm (whole 0) b, mul_zero b, add_comm (whole 0) x) (add_zero x)

zero_right : (a g x : Number) → g ≡ whole 0 → x +ₙ a *ₙ g ≡ x
zero_right a g x e = rw (e, mul_zero a) (add_zero x)

left_parts : (ns : List Name) (f g : List ℕ → Number) (a b : Number) → list_all (λ n. is_zero (f n.text)) ns ≡ true → AllByRecursion (λ n. IsTrue (fits (a *ₙ g n.text))) ns →
    AllByRecursion (λ n. IsTrue (fits (f n.text *ₙ b +ₙ a *ₙ g n.text))) ns
left_parts [] f g a b z h = tt
left_parts (n ∷ ns) f g a b z h =
    let t = both_true (is_zero (f n.text)) (list_all (λ n. is_zero (f n.text)) ns) z in
    (ap fits (zero_left (f n.text) b (a *ₙ g n.text) (is_zero-is (f n.text) t.0)) ∙ h.0, left_parts ns f g a b t.1 h.1)

right_parts : (ns : List Name) (f g : List ℕ → Number) (a b : Number) → ((n : List ℕ) → g n ≡ whole 0) → AllByRecursion (λ n. IsTrue (fits (f n.text *ₙ b))) ns →
    AllByRecursion (λ n. IsTrue (fits (f n.text *ₙ b +ₙ a *ₙ g n.text))) ns
right_parts ns f g a b z h = each_of _ _ (λ n k. ap fits (zero_right a (g n.text) (f n.text *ₙ b) (z n.text)) ∙ k) ns h

all_zero : (ns : List Name) (f : List ℕ → Number) → ((n : List ℕ) → f n ≡ whole 0) → list_all (λ n. is_zero (f n.text)) ns ≡ true
all_zero [] f z = refl
all_zero (n ∷ ns) f z = rw (z n.text, zero_is) (all_zero ns f z)

product_fits : (ns : List Name) (p : Place) (f g : Form) → IsConstant f ⊎ IsConstant g → AllByRecursion Fit (all_at p (multiplied (is_constant ns f) ns f g)) → FormFits ns (product f g)
product_fits ns p f g c h = by_test (is_constant ns f) refl h
  where
    of_right : is_constant ns f ≡ false → IsConstant f ⊎ IsConstant g → IsConstant g
    of_right e (inl z) = never (sym e ∙ all_zero ns f.factor z)
    of_right e (inr z) = z

    by_test : (b : Bool) → is_constant ns f ≡ b → AllByRecursion Fit (all_at p (multiplied b ns f g)) → FormFits ns (product f g)
    by_test true e h = let r = each_part p times ns (λ n. f.constant) g.factor f.constant g.constant h in (left_parts ns f.factor g.factor f.constant g.constant e r.0, r.1)
    by_test false e h = let r = each_part p times ns f.factor (λ n. g.constant) f.constant g.constant h in (right_parts ns f.factor g.factor f.constant g.constant (of_right e c) r.0, r.1)

-- ---- expressions
fits_by : (ns : List Name) (e : Tree) → AllByRecursion (λ n. IsTrue (fits n.value)) ns → IsReal ns e → AllByRecursion Fit (numbers_of ns e) → FormFits ns (form ns e)
fits_by ns (tree.Number text p) v r h = (zeros ns, h.0)
fits_by ns (tree.Name n p) v r h = name_fits ns n (look ns n) (found_fits n ns v)
fits_by ns (tree.Truth b p) v r h = absurd r
fits_by ns (tree.Cast n p) v r h = name_fits ns n (look ns n) (found_fits n ns v)
fits_by ns (tree.Unary unary.Not a p) v r h = never r.0
fits_by ns (tree.Unary unary.Neg a p) v r h = let k = fits_by ns a v r.1 h in (each_of _ _ (λ n f. fits_neg ((form ns a).factor n.text) ∙ f) ns k.0, fits_neg (form ns a).constant ∙ k.1)
fits_by ns (tree.Unary unary.Plus a p) v r h = fits_by ns a v r.1 h
fits_by ns (tree.Binary binary.Add a b p) v r h = each_part p plus ns _ _ _ _ (both_lists (numbers_of ns b) _ (both_lists (numbers_of ns a) _ h).1).1
fits_by ns (tree.Binary binary.Sub a b p) v r h = each_part p minus ns _ _ _ _ (both_lists (numbers_of ns b) _ (both_lists (numbers_of ns a) _ h).1).1
fits_by ns (tree.Binary binary.Mul a b p) v r h = product_fits ns p (form ns a) (form ns b) r.2 (both_lists (numbers_of ns b) _ (both_lists (numbers_of ns a) _ h).1).1
fits_by ns (tree.Binary binary.Div a b p) v r h = each_part p over ns _ _ _ _ (both_lists (numbers_of ns b) _ (both_lists (numbers_of ns a) _ h).1).1
fits_by ns (tree.Binary binary.And a b p) v r h = absurd r.2
fits_by ns (tree.Binary binary.Or a b p) v r h = absurd r.2
fits_by ns (tree.Binary binary.Iff a b p) v r h = absurd r.2
fits_by ns (tree.Binary binary.Then a b p) v r h = absurd r.2
fits_by ns (tree.Binary binary.From a b p) v r h = absurd r.2
fits_by ns (tree.Binary binary.Most a b p) v r h = absurd r.2
fits_by ns (tree.Binary binary.Least a b p) v r h = absurd r.2
fits_by ns (tree.Binary binary.Equal a b p) v r h = absurd r.2

pub parts_fit : (ns : List Name) (e : Tree) → AllByRecursion (λ n. IsTrue (fits n.value)) ns → IsReal ns e → first_unfit (numbers_of ns e) ≡ None → FormFits ns (form ns e)
parts_fit ns e v r h = fits_by ns e v r (each_fit (numbers_of ns e) h)

pub guard_fit : (ns : List Name) (e : Tree) → IsComparison is_inequality ns e → first_unfit (numbers_of ns e) ≡ None → FormFits ns (guard_form ns e)
guard_fit ns e r h = go e r (each_fit (numbers_of ns e) h)
  where
    go : (e : Tree) → IsComparison is_inequality ns e → AllByRecursion Fit (numbers_of ns e) → FormFits ns (guard_form ns e)
    go (tree.Binary binary.Most a b p) r h = each_part p minus ns _ _ _ _ (both_lists (numbers_of ns b) _ (both_lists (numbers_of ns a) _ h).1).1
    go (tree.Binary binary.Least a b p) r h = each_part p minus ns _ _ _ _ (both_lists (numbers_of ns b) _ (both_lists (numbers_of ns a) _ h).1).1
    go (tree.Binary binary.Equal a b p) r h = never r.0
    go (tree.Binary binary.Add a b p) r h = never r.0
    go (tree.Binary binary.Sub a b p) r h = never r.0
    go (tree.Binary binary.Mul a b p) r h = never r.0
    go (tree.Binary binary.Div a b p) r h = never r.0
    go (tree.Binary binary.And a b p) r h = never r.0
    go (tree.Binary binary.Or a b p) r h = never r.0
    go (tree.Binary binary.Iff a b p) r h = never r.0
    go (tree.Binary binary.Then a b p) r h = never r.0
    go (tree.Binary binary.From a b p) r h = never r.0
    go (tree.Number text p) r h = absurd r
    go (tree.Name n p) r h = absurd r
    go (tree.Truth b p) r h = absurd r
    go (tree.Cast n p) r h = absurd r
    go (tree.Unary op a p) r h = absurd r

-- ---- intervals
sum_fits : (p : Place) (at : Term → Number) (ts : List Term) (start : Number) → IsTrue (fits start) → AllByRecursion Fit (all_at p (summing start ts at)) → IsTrue (fits (start +ₙ sum_by ts at))
sum_fits p at [] start s h = ap fits (add_zero start) ∙ s
sum_fits p at (t ∷ ts) start s h = ap fits (sym (regroup start (t.factor *ₙ at t) (sum_by ts at))) ∙ sum_fits p at ts (start +ₙ t.factor *ₙ at t) h.1.0 h.1.1
  where
    regroup : (a b c : Number) → (a +ₙ b) +ₙ c ≡ a +ₙ (b +ₙ c)
    regroup a b c = simp ring

two_lists : (p : Place) (xs ys : List Lost) → AllByRecursion Fit (all_at p (xs ++ ys)) → AllByRecursion Fit (all_at p xs) × AllByRecursion Fit (all_at p ys)
two_lists p [] ys h = (tt, h)
two_lists p (x ∷ xs) ys h = let r = two_lists p xs ys h.1 in ((h.0, r.0), r.1)

pub ends_fit : (p : Place) (ns : List Name) (f : Form) → IsTrue (fits f.constant) → first_unfit (all_at p (ranging ns f)) ≡ None → IsTrue (fits (interval_of ns f).low) × IsTrue (fits (interval_of ns f).high)
ends_fit p ns f c h =
    let r = two_lists p _ _ (each_fit (all_at p (ranging ns f)) h) in
    (sum_fits p (end_at false (boxes_of ns)) (over_names ns f).terms f.constant c r.0, sum_fits p (end_at true (boxes_of ns)) (over_names ns f).terms f.constant c r.1)
