-- The unnamed guards of an expression whose nodes pass their checks are its comparisons, numbered one after the other.
use Rattle.std.proofs.Common.{◌≡◌, ℕ, suc, ◌+◌, List, [], ◌∷◌, ◌++◌, None, Bool, true, false, ◌&&◌, cond, length, refl, sym, ◌∙◌, ap, ap₂, arith}
use Rattle.std.proofs.lemmas.List.{length-append}
use Rattle.hys_ast.specs.declared.place.Place.{Place}
use Rattle.hys_ast.specs.declared.tree.UnaryOp.{UnaryOp}
use Rattle.hys_ast.specs.declared.tree.UnaryOp.TheVariants as unary
use Rattle.hys_ast.specs.declared.tree.BinaryOp.{BinaryOp}
use Rattle.hys_ast.specs.declared.tree.BinaryOp.TheVariants as binary
use Rattle.hys_ast.specs.Tree.{Tree}
use Rattle.hys_ast.specs.Tree as tree
use Rattle.hys_meaning.specs.Names.{Name}
use Rattle.hys_meaning.specs.Forms.{form}
use Rattle.hys_meaning.specs.Unfolded.{Guard, Naming, is_inequality, unchanged, mapped, paired, guarded, guarded_if, named}
use Rattle.hys_type.specs.Sorts.{Sort, Real, Bool', Neither, sort_of_unary, sort_of_binary, is_real, takes_unary}
use Rattle.hys_type.specs.Nodes.{sort, takes_binary, linear_checks, node_checks}
use Rattle.hys_meaning.specs.Folding.{folding}
use Rattle.hys_type.specs.Faults.{Check, check, first_fault, in_range}
use Rattle.hys_type.specs.Declarations.{place_of}
use Rattle.hys_type.specs.Built.{comparisons}
use Rattle.hys_type.specs.declared.fault.TypeFault.TheVariants as fault
use Rattle.hys_type.proofs.Wholes.{front_passes, back_passes, passed}

-- ---- sorts
-- each operator has operands that it takes
abbrev pub WellSorted : List Name → Tree → Type 0
WellSorted ns (tree.Number text p) = Unit {0}
WellSorted ns (tree.Name n p) = Unit {0}
WellSorted ns (tree.Truth b p) = Unit {0}
WellSorted ns (tree.Cast n p) = Unit {0}
WellSorted ns (tree.Unary op a p) = WellSorted ns a × (takes_unary op (sort ns a) ≡ true)
WellSorted ns (tree.Binary op a b p) = (WellSorted ns a × WellSorted ns b) × (takes_binary op (sort ns a) (sort ns b) ≡ true)

pub well_sorted : (ns : List Name) (e : Tree) → None ≡ first_fault (node_checks ns e) → WellSorted ns e
well_sorted ns (tree.Number text p) h = tt
well_sorted ns (tree.Name n p) h = tt
well_sorted ns (tree.Truth b p) h = tt
well_sorted ns (tree.Cast n p) h = tt
well_sorted ns (tree.Unary op a p) h =
    let c : Check = check (takes_unary op (sort ns a)) (fault.Kind p) in
    (well_sorted ns a (front_passes (node_checks ns a) (c ∷ []) h), passed c [] (back_passes (node_checks ns a) (c ∷ []) h))
well_sorted ns (tree.Binary op a b p) h =
    let c : Check = check (takes_binary op (sort ns a) (sort ns b)) (fault.Kind p) in
    let cs : List Check = linear_checks ns op (form ns a) (form ns b) p ++ in_range p (folding ns op (form ns a) (form ns b)) in
    let i = back_passes (node_checks ns a) (node_checks ns b ++ (c ∷ cs)) h in
    ((well_sorted ns a (front_passes (node_checks ns a) (node_checks ns b ++ (c ∷ cs)) h), well_sorted ns b (front_passes (node_checks ns b) (c ∷ cs) i)), passed c cs (back_passes (node_checks ns b) (c ∷ cs) i))

pub real_sort : (s : Sort) → is_real s ≡ true → s ≡ Real
real_sort Real h = refl
real_sort Bool' h = absurd (cc)
real_sort Neither h = absurd (cc)

pub both_real : (s t : Sort) → is_real s && is_real t ≡ true → (s ≡ Real) × (t ≡ Real)
both_real Real t h = (refl, real_sort t h)
both_real Bool' t h = absurd (cc)
both_real Neither t h = absurd (cc)

-- ---- no guards
pub record IsPlain (k : ℕ) (e : Tree) : Type 0 where
  pub same : named k e ≡ unchanged k e
  pub none : comparisons e ≡ []

pub both_unchanged : {A B C : Type 0} (f : A → B → C) (k : ℕ) (a : A) (b : B) (u : Naming A) (v : Naming B) → u ≡ unchanged k a → v ≡ unchanged u.next b → paired f u v ≡ unchanged k (f a b)
both_unchanged f k a b u v e d = ap₂ (λ (s : Naming _) (t : Naming _). paired f s t) e (d ∙ ap (λ (s : Naming _). unchanged s.next b) e)

-- the operands of an operator with a real value are real, and it is no inequality
real_operands : (op : BinaryOp) (s t : Sort) → takes_binary op s t ≡ true → sort_of_binary op ≡ Real → (is_inequality op ≡ false) × ((s ≡ Real) × (t ≡ Real))
real_operands binary.Add s t h e = (refl, both_real s t h)
real_operands binary.Sub s t h e = (refl, both_real s t h)
real_operands binary.Mul s t h e = (refl, both_real s t h)
real_operands binary.Div s t h e = (refl, both_real s t h)
real_operands binary.And s t h e = absurd (cc)
real_operands binary.Or s t h e = absurd (cc)
real_operands binary.Iff s t h e = absurd (cc)
real_operands binary.Then s t h e = absurd (cc)
real_operands binary.From s t h e = absurd (cc)
real_operands binary.Most s t h e = absurd (cc)
real_operands binary.Least s t h e = absurd (cc)
real_operands binary.Equal s t h e = absurd (cc)

real_operand : (op : UnaryOp) (s : Sort) → takes_unary op s ≡ true → sort_of_unary op ≡ Real → s ≡ Real
real_operand unary.Not s h e = absurd (cc)
real_operand unary.Neg s h e = real_sort s h
real_operand unary.Plus s h e = real_sort s h

under : (k : ℕ) (op : UnaryOp) (a : Tree) (p : Place) → IsPlain k a → IsPlain k (tree.Unary op a p)
under k op a p h = record { same = ap (λ (u : Naming Tree). mapped (λ (a : Tree). tree.Unary op a p) u) h.same; none = h.none }

between : (k : ℕ) (op : BinaryOp) (a b : Tree) (p : Place) → is_inequality op ≡ false → IsPlain k a → IsPlain (named k a).next b → IsPlain k (tree.Binary op a b p)
between k op a b p e h g =
    let u = named k a in
    let v = named u.next b in
    record {
      same = ap (λ (t : Bool). guarded_if t p (paired (λ (a b : Tree). tree.Binary op a b p) u v)) e ∙ both_unchanged (λ (a b : Tree). tree.Binary op a b p) k a b u v h.same g.same;
      none = ap (λ (t : Bool). cond t (tree.Binary op a b p ∷ []) (comparisons a ++ comparisons b)) e ∙ ap₂ (λ (xs ys : List Tree). xs ++ ys) h.none g.none;
    }

pub real_plain : (ns : List Name) (k : ℕ) (e : Tree) → WellSorted ns e → sort ns e ≡ Real → IsPlain k e
real_plain ns k (tree.Number text p) w s = record { same = refl; none = refl }
real_plain ns k (tree.Name n p) w s = record { same = refl; none = refl }
real_plain ns k (tree.Truth b p) w s = record { same = refl; none = refl }
real_plain ns k (tree.Cast n p) w s = record { same = refl; none = refl }
real_plain ns k (tree.Unary op a p) w s = under k op a p (real_plain ns k a w.0 (real_operand op (sort ns a) w.1 s))
real_plain ns k (tree.Binary op a b p) w s =
    let r = real_operands op (sort ns a) (sort ns b) w.1 s in
    between k op a b p r.0 (real_plain ns k a w.0.0 r.1.0) (real_plain ns (named k a).next b w.0.1 r.1.1)

-- ---- numbers
-- comparisons with their numbers, from one on
abbrev pub numbered : ℕ → List Tree → List Guard
numbered k [] = []
numbered k (c ∷ cs) = record { number = k; comparison = c; place = place_of c } ∷ numbered (suc k) cs

pub numbered_both : (k : ℕ) (xs ys : List Tree) → numbered k (xs ++ ys) ≡ numbered k xs ++ numbered (k + length xs) ys
numbered_both k [] ys = ap (λ (j : ℕ). numbered j ys) (and_none k)
  where
    and_none : (k : ℕ) → k ≡ k + 0
    and_none k = omega arith
numbered_both k (x ∷ xs) ys = ap (λ (gs : List Guard). record { number = k; comparison = x; place = place_of x } ∷ gs) (numbered_both (suc k) xs ys ∙ ap (λ (j : ℕ). numbered (suc k) xs ++ numbered j ys) (shifted k (length xs)))
  where
    shifted : (k n : ℕ) → suc k + n ≡ k + suc n
    shifted k n = omega arith

pub record IsNumbered (k : ℕ) (e : Tree) : Type 0 where
  pub guards : (named k e).guards ≡ numbered k (comparisons e)
  pub next : (named k e).next ≡ k + length (comparisons e)

pub none_numbered : (k : ℕ) → k ≡ k + 0
none_numbered k = omega arith

-- a comparison of real expressions
compared : (k : ℕ) (op : BinaryOp) (a b : Tree) (p : Place) → is_inequality op ≡ true → IsPlain k a → IsPlain (named k a).next b → IsNumbered k (tree.Binary op a b p)
compared k op a b p e h g =
    let u = named k a in
    let v = named u.next b in
    let f : Tree → Tree → Tree = λ a b. tree.Binary op a b p in
    let whole : named k (tree.Binary op a b p) ≡ guarded p (unchanged k (tree.Binary op a b p)) = ap (λ (t : Bool). guarded_if t p (paired f u v)) e ∙ ap (guarded p) (both_unchanged f k a b u v h.same g.same) in
    let one : comparisons (tree.Binary op a b p) ≡ tree.Binary op a b p ∷ [] = ap (λ (t : Bool). cond t (tree.Binary op a b p ∷ []) (comparisons a ++ comparisons b)) e in
    record {
      guards = ap (λ (n : Naming Tree). n.guards) whole ∙ sym (ap (numbered k) one);
      next = ap (λ (n : Naming Tree). n.next) whole ∙ one_more k ∙ sym (ap (λ (cs : List Tree). k + length cs) one);
    }
  where
    one_more : (k : ℕ) → suc k ≡ k + 1
    one_more k = omega arith

-- the guards of the right operand follow those of the left one
split : (k : ℕ) (op : BinaryOp) (a b : Tree) (p : Place) → is_inequality op ≡ false → IsNumbered k a → IsNumbered (named k a).next b → IsNumbered k (tree.Binary op a b p)
split k op a b p e h g =
    let u = named k a in
    let v = named u.next b in
    let f : Tree → Tree → Tree = λ a b. tree.Binary op a b p in
    let whole : named k (tree.Binary op a b p) ≡ paired f u v = ap (λ (t : Bool). guarded_if t p (paired f u v)) e in
    let two : comparisons (tree.Binary op a b p) ≡ comparisons a ++ comparisons b = ap (λ (t : Bool). cond t (tree.Binary op a b p ∷ []) (comparisons a ++ comparisons b)) e in
    record {
      guards = ap (λ (n : Naming Tree). n.guards) whole ∙ ap₂ (λ (xs ys : List Guard). xs ++ ys) h.guards (g.guards ∙ ap (λ (j : ℕ). numbered j (comparisons b)) h.next)
          ∙ sym (ap (numbered k) two ∙ numbered_both k (comparisons a) (comparisons b));
      next = ap (λ (n : Naming Tree). n.next) whole ∙ added k (length (comparisons a)) (length (comparisons b)) u.next v.next (length (comparisons a ++ comparisons b)) h.next g.next (length-append (comparisons a) (comparisons b))
          ∙ sym (ap (λ (cs : List Tree). k + length cs) two);
    }
  where
    added : (k m n i j l : ℕ) → i ≡ k + m → j ≡ i + n → l ≡ m + n → j ≡ k + l
    added k m n i j l e f g = omega (arith, e, f, g)

pub inequality_operands : (op : BinaryOp) (s t : Sort) → is_inequality op ≡ true → takes_binary op s t ≡ true → (s ≡ Real) × (t ≡ Real)
inequality_operands binary.Add s t e h = absurd (cc)
inequality_operands binary.Sub s t e h = absurd (cc)
inequality_operands binary.Mul s t e h = absurd (cc)
inequality_operands binary.Div s t e h = absurd (cc)
inequality_operands binary.And s t e h = absurd (cc)
inequality_operands binary.Or s t e h = absurd (cc)
inequality_operands binary.Iff s t e h = absurd (cc)
inequality_operands binary.Then s t e h = absurd (cc)
inequality_operands binary.From s t e h = absurd (cc)
inequality_operands binary.Most s t e h = both_real s t h
inequality_operands binary.Least s t e h = both_real s t h
inequality_operands binary.Equal s t e h = absurd (cc)

pub sorted_numbered : (ns : List Name) (k : ℕ) (e : Tree) → WellSorted ns e → IsNumbered k e
sorted_numbered ns k (tree.Number text p) w = record { guards = refl; next = none_numbered k }
sorted_numbered ns k (tree.Name n p) w = record { guards = refl; next = none_numbered k }
sorted_numbered ns k (tree.Truth b p) w = record { guards = refl; next = none_numbered k }
sorted_numbered ns k (tree.Cast n p) w = record { guards = refl; next = none_numbered k }
sorted_numbered ns k (tree.Unary op a p) w = let h = sorted_numbered ns k a w.0 in record { guards = h.guards; next = h.next }
sorted_numbered ns k (tree.Binary op a b p) w = go (is_inequality op) refl (sorted_numbered ns k a w.0.0) (sorted_numbered ns (named k a).next b w.0.1)
  where
    go : (t : Bool) → is_inequality op ≡ t → IsNumbered k a → IsNumbered (named k a).next b → IsNumbered k (tree.Binary op a b p)
    go true e h g = let r = inequality_operands op (sort ns a) (sort ns b) e w.1 in compared k op a b p e (real_plain ns k a w.0.0 r.0) (real_plain ns (named k a).next b w.0.1 r.1)
    go false e h g = split k op a b p e h g
