-- Lists made step by step.
use Rattle.std.proofs.Common.{◌≡◌, ℕ, suc, ◌+◌, ◌-◌, ◌^◌, ◌<◌, List, [], ◌∷◌, ◌++◌, sym, ◌∙◌, ap, arith, add-one, append_assoc}
use Rattle.hys_lin.specs.Sums.{EachColumn}
use Rattle.hys_lin.specs.declared.form.Term.{Term}
use Rattle.hys_stack.specs.Stacking.{each_step}

-- the first of the steps that are left
pub each_next : {X : Type 0} (f : ℕ → List X) (t n : ℕ) → t < n → each_step t (n - t) f ≡ f t ++ each_step (t + 1) (n - (t + 1)) f
each_next f t n l =
    let e : n - t ≡ suc (n - (t + 1)) = omega arith in
    ap (λ m. each_step t m f) e ∙ ap (λ s. f t ++ each_step s (n - (t + 1)) f) (sym (add-one t))

-- one step more is made
pub each_on : {X : Type 0} (f : ℕ → List X) (t n : ℕ) (old new whole : List X) → t < n → old ++ each_step t (n - t) f ≡ whole → new ≡ old ++ f t → new ++ each_step (t + 1) (n - (t + 1)) f ≡ whole
each_on f t n old new whole l h e = ap (λ xs. xs ++ each_step (t + 1) (n - (t + 1)) f) e ∙ append_assoc old (f t) (each_step (t + 1) (n - (t + 1)) f) ∙ ap (λ xs. old ++ xs) (sym (each_next f t n l)) ∙ h

-- the columns of terms stay small when they are moved on
pub column_room : (offset columns : ℕ) (ts : List Term) → offset + columns < 2 ^ 32 → EachColumn (λ c. c < columns) ts → EachColumn (λ c. offset + c < 2 ^ 32) ts
column_room offset columns [] l h = tt
column_room offset columns (t ∷ ts) l h = (omega (arith, l, h.0), column_room offset columns ts l h.1)
