-- The value of a form by places is the sum of the form that it stands for over the declared names.
use Rattle.std.proofs.Common.{◌≡◌, ℕ, suc, ◌+◌, ◌<◌, ◌≤◌, List, [], ◌∷◌, Bool, true, false, cond, length, refl, sym, ◌∙◌, ap, ap₂, subst, arith, eqb, eqb→eq, T}
use Rattle.std.specs.Prelude.{nat_eq}
use Rattle.std.proofs.Math.Dec.{eqb_refl}
use Rattle.hys_number.specs.Number.{Number}
use Rattle.hys_number.specs.Ops.{◌+ₙ◌, ◌*ₙ◌, whole}
use Rattle.hys_number.proofs.Ring.{by_ring, v, k, ◌⊕◌, ◌⊗◌}
use Rattle.hys_lin.specs.declared.form.Term.{Term}
use Rattle.hys_lin.specs.declared.form.Affine.{Affine}
use Rattle.hys_lin.specs.Sums.{sum_of, AreTerms, EachColumn}
use Rattle.hys_lin.specs.Sums.{Assignment as PlaceAssignment, value as form_value}
use Rattle.hys_lin.specs.Scaled.{coefficient}
use Rattle.hys_lin.proofs.Lists.{each_more}
use Rattle.hys_meaning.specs.Values.{Assignment}
use Rattle.hys_meaning.specs.Names.{Name}
use Rattle.hys_meaning.specs.Forms.{Form}
use Rattle.hys_type.specs.Translation.{HaveFactors, IsFormOf}
use Rattle.hys_type.proofs.Agree.{Agree}
use Rattle.hys_type.proofs.FormSums.{form_sum, form_number}

-- ---- coefficients
pub same_column : (c j : ℕ) → nat_eq c j ≡ true → c ≡ j
same_column c j e = eqb→eq c j (subst T (sym e) tt)

pub other_column : (c j : ℕ) → ¬ (c ≡ j) → nat_eq c j ≡ false
other_column c j d = go (eqb c j) refl
  where
    go : (x : Bool) → eqb c j ≡ x → x ≡ false
    go true e = absurd (d (eqb→eq c j (subst T (sym e) tt)))
    go false e = refl

pub own_column : (j : ℕ) → nat_eq j j ≡ true
own_column j = go (eqb j j) (eqb_refl j)
  where
    go : (x : Bool) → T x → x ≡ true
    go true h = refl
    go false h = absurd h

above : (c j : ℕ) → nat_eq c j ≡ false → j ≤ c → j < c
above c j e l = differs (λ s. absurd (never (sym e ∙ ap (λ i. nat_eq i j) s ∙ own_column j))) l
  where
    never : false ≡ true → ⊥
    never e = absurd (cc)

    differs : ¬ (c ≡ j) → j ≤ c → j < c
    differs d l = grind arith

no_coefficient : (ts : List Term) (c : ℕ) → EachColumn (λ d. suc c ≤ d) ts → coefficient ts c ≡ whole 0
no_coefficient [] c h = refl
no_coefficient (t ∷ ts) c h = ap (λ b. cond b t.factor (coefficient ts c)) (other_column t.column c (λ e. absurd (omega (arith, e, h.0)))) ∙ no_coefficient ts c h.1

-- a term below all the places doesn't count
drop_term : (j : ℕ) (ns : List Name) (g : Form) (t : Term) (ts : List Term) → t.column < j → HaveFactors j ns g (t ∷ ts) → HaveFactors j ns g ts
drop_term j [] g t ts l h = tt
drop_term j (n ∷ ns) g t ts l h = (
  sym (ap (λ b. cond b t.factor (coefficient ts j)) (other_column t.column j (λ e. absurd (omega (arith, e, l))))) ∙ h.0,
  drop_term (suc j) ns g t ts (omega (arith, l)) h.1,
)

term_step : (a x s r : Number) → whole 0 ≡ a → s ≡ r → s ≡ a *ₙ x +ₙ r
term_step a x s r e h = h ∙ by_ring (x ∷ r ∷ []) (v 1) (k 0 ⊗ v 0 ⊕ v 1) refl ∙ ap (λ y. y *ₙ x +ₙ r) e

sum_places : (j : ℕ) (ns : List Name) (g : Form) (ts : List Term) (w : Assignment) (y : PlaceAssignment) → AreTerms ts → EachColumn (λ c. j ≤ c) ts → EachColumn (λ c. c < j + length ns) ts →
    HaveFactors j ns g ts → Agree j ns w y → sum_of ts y ≡ form_sum ns g.factor w
sum_places j [] g [] w y r l b h a = refl
sum_places j [] g (t ∷ ts) w y r l b h a = absurd (omega (arith, l.0, b.0))
sum_places j (n ∷ ns) g [] w y r l b h a = term_step (g.factor n.text) (w n.text) (whole 0) (form_sum ns g.factor w) h.0 (sum_places (suc j) ns g [] w y tt tt tt h.1 a.1)
sum_places j (n ∷ ns) g (t ∷ ts) w y r l b h a =
    go (nat_eq t.column j) refl h.0
    (λ m. sum_places (suc j) ns g (t ∷ ts) w y r m (each_more (λ c. c < j + length (n ∷ ns)) (λ c. c < suc j + length ns) (t ∷ ts) (λ c i. omega (arith, i)) b) h.1 a.1)
    (λ i. sum_places (suc j) ns g ts w y r.2 (each_more (λ c. t.column < c) (λ c. suc j ≤ c) ts (λ c m. omega (arith, i, m)) r.1)
    (each_more (λ c. c < j + length (n ∷ ns)) (λ c. c < suc j + length ns) ts (λ c m. omega (arith, m)) b.1) (drop_term (suc j) ns g t ts (omega (arith, i)) h.1) a.1)
  where
    go : (q : Bool) → nat_eq t.column j ≡ q → cond q t.factor (coefficient ts j) ≡ g.factor n.text → (EachColumn (λ c. suc j ≤ c) (t ∷ ts) → sum_of (t ∷ ts) y ≡ form_sum ns g.factor w) →
        (t.column ≡ j → sum_of ts y ≡ form_sum ns g.factor w) → sum_of (t ∷ ts) y ≡ g.factor n.text *ₙ w n.text +ₙ form_sum ns g.factor w
    go true e f later here =
        let s : t.column ≡ j = same_column t.column j e in
        ap₂ (λ x z. x *ₙ z +ₙ sum_of ts y) f (ap y s ∙ a.0) ∙ ap (λ z. g.factor n.text *ₙ w n.text +ₙ z) (here s)
    go false e f later here =
        let o : j < t.column = above t.column j e l.0 in
        let m : EachColumn (λ c. suc j ≤ c) (t ∷ ts) = (omega (arith, o), each_more (λ c. t.column < c) (λ c. suc j ≤ c) ts (λ c i. omega (arith, i, o)) r.1) in
        term_step (g.factor n.text) (w n.text) (sum_of (t ∷ ts) y) (form_sum ns g.factor w) (sym (no_coefficient ts j m.1) ∙ f) (later m)

pub value_places : (ns : List Name) (g : Form) (f : Affine) (w : Assignment) (y : PlaceAssignment) → IsFormOf ns g f → Agree 0 ns w y → form_value f y ≡ form_number ns g w
unfolding form_value
value_places ns g f w y h a = ap₂ (λ s c. s +ₙ c)
    (sum_places 0 ns g f.terms w y h.terms.rise (each_more (λ c. c < length ns) (λ c. 0 ≤ c) f.terms (λ c m. omega arith) h.terms.below) (each_more (λ c. c < length ns) (λ c. c < 0 + length ns) f.terms (λ c m. omega (arith, m)) h.terms.below) h.factors a)
    h.constant
