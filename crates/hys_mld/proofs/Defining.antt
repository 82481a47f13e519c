-- The names that items define, and their forms.
use Rattle.std.proofs.Common.{◌≡◌, ℕ, zero, suc, ◌+◌, ◌<◌, List, [], ◌∷◌, Bool, true, false, cond, length, map, get_or, refl, sym, subst, arith, ap, ap₂, ◌∙◌}
use Rattle.hys_lin.specs.declared.form.Affine.{Affine}
use Rattle.hys_prog.specs.declared.program.Name.{Name}
use Rattle.hys_prog.specs.declared.program.ProgItem.{ProgItem}
use Rattle.hys_prog.specs.declared.program.Program.{Program}
use Rattle.hys_prog.specs.declared.program.Role.TheVariants.{State, Output}
use Rattle.hys_prog.specs.Programs.{IsProgram, NameAt, is_defined}
use Rattle.hys_prog.specs.Places.{ArePlaces}
use Rattle.hys_prog.specs.Steps.{places, is_state}
use Rattle.hys_prog.specs.Walk.{IsFirstAt}
use Rattle.hys_prog.proofs.Placing.{placed, in_part, name_map, state_defined, output_defined}
use Rattle.hys_prog.proofs.Walking.{placed_below}
use Rattle.hys_exact.specs.Automata.{kind_of}
use Rattle.hys_exact.specs.Built.{form_for, is_output_name, output_with}
use Rattle.hys_exact.specs.Columns.{of_each}
use Rattle.hys_exact.proofs.Names.{Stands, stands_as}
use Rattle.hys_exact.proofs.Places.{map_same}
use Rattle.hys_rows.specs.Parts.{no_form}
use Rattle.hys_mld.specs.Forms.{HaveForms, form_at, output_at}

pub name_here : (P : Name → Type 0) (xs : List Name) (n : ℕ) (x : Name) → n < length xs → x ≡ get_or xs n x → P x → NameAt xs n P
name_here P [] n x b e h = absurd (omega arith)
name_here P (y ∷ xs) zero x b e h = subst P e h
name_here P (y ∷ xs) (suc n) x b e h = name_here P xs n x (omega arith) e h

pub name_within : (names : List Name) (places : List ℕ) (forms : List Affine) (n : ℕ) → HaveForms names places forms → n < length names → n < length places
name_within names places forms n h b = let e = h.long in omega arith

pub state_form : (names : List Name) (places : List ℕ) (forms : List Affine) (n : ℕ) (x : Name) → HaveForms names places forms → n < length names → x ≡ get_or names n x → x.role ≡ State → get_or places n 0 < length forms
state_form names places forms n x h b e r = h.within n (name_here (λ x. is_defined x.role ≡ true) names n x b e (ap is_defined r))

pub output_form : (names : List Name) (places : List ℕ) (forms : List Affine) (n : ℕ) (x : Name) → HaveForms names places forms → n < length names → x ≡ get_or names n x → x.role ≡ Output → get_or places n 0 < length forms
output_form names places forms n x h b e r = h.within n (name_here (λ x. is_defined x.role ≡ true) names n x b e (ap is_defined r))

-- ---- the one item that defines a name
pub have_forms : (p : Program) (ps : List ℕ) (forms : List Affine) → IsProgram p → ArePlaces p ps → length ps ≡ length p.names → length forms ≡ length p.items → HaveForms p.names ps forms
have_forms p ps forms g a l f = record {
  long = l;
  within = λ n h. (let b : get_or ps n 0 < length p.items = placed_below p.items ps n (placed p ps n g a l h) in omega arith);
}

form_first : (ts : List ProgItem) (fs : List Affine) (k n : ℕ) → length fs ≡ length ts → IsFirstAt ts k n → form_for ts fs n ≡ get_or fs k no_form
form_first [] fs k n e h = absurd h
form_first (t ∷ ts) [] k n e h = absurd (omega arith)
form_first (t ∷ ts) (f ∷ fs) zero n e h = ap (λ b. cond b f (form_for ts fs n)) h
form_first (t ∷ ts) (f ∷ fs) (suc k) n e h = ap (λ b. cond b f (form_for ts fs n)) h.0 ∙ form_first ts fs k n (omega arith) h.1

pub form_is : (p : Program) (ps : List ℕ) (forms : List Affine) (n : ℕ) → IsProgram p → ArePlaces p ps → length ps ≡ length p.names → length forms ≡ length p.items → NameAt p.names n (λ x. is_defined x.role ≡ true) → form_at ps forms n ≡ form_for p.items forms n
form_is p ps forms n g a l f h = sym (form_first p.items forms (get_or ps n 0) n f (placed p ps n g a l h).first)

pub next_is : (p : Program) (ps : List ℕ) (forms : List Affine) → IsProgram p → ArePlaces p ps → length ps ≡ length p.names → length forms ≡ length p.items → map (form_at ps forms) (places is_state p) ≡ map (form_for p.items forms) (places is_state p)
next_is p ps forms g a l f = map_same (places is_state p) (form_at ps forms) (form_for p.items forms) (λ n i. form_is p ps forms n g a l f (name_map (λ (x : Name). is_state x.role ≡ true) (λ (x : Name). is_defined x.role ≡ true) p.names n (λ x e. state_defined x.role e) (in_part is_state p n i)))

each_same : {X : Type 0} (t : Name → Bool) (f g : ℕ → Name → X) (k : ℕ) (xs : List Name) → ((n j : ℕ) (x : Name) → n ≡ k + j → Stands xs j x → t x ≡ true → f n x ≡ g n x) → of_each t f k xs ≡ of_each t g k xs
each_same t f g k [] h = refl
each_same t f g k (x ∷ xs) h = go (t x) refl (each_same t f g (suc k) xs (λ n j y e i. h n (suc j) y (omega arith) i))
  where
    go : (b : Bool) → t x ≡ b → of_each t f (suc k) xs ≡ of_each t g (suc k) xs →
        cond b (f k x ∷ of_each t f (suc k) xs) (of_each t f (suc k) xs) ≡ cond b (g k x ∷ of_each t g (suc k) xs) (of_each t g (suc k) xs)
    go true q e = ap₂ ◌∷◌ (h k 0 x (omega arith) refl q) e
    go false q e = e

pub outputs_are : (p : Program) (ps : List ℕ) (forms : List Affine) → IsProgram p → ArePlaces p ps → length ps ≡ length p.names → length forms ≡ length p.items → of_each is_output_name (output_at ps forms) 0 p.names ≡ of_each is_output_name (output_with p.items forms) 0 p.names
outputs_are p ps forms g a l f = each_same is_output_name (output_at ps forms) (output_with p.items forms) 0 p.names go
  where
    go : (n j : ℕ) (x : Name) → n ≡ 0 + j → Stands p.names j x → is_output_name x ≡ true → output_at ps forms n x ≡ output_with p.items forms n x
    go n j x e i o =
        let q : j ≡ n = omega arith in
        let h : NameAt p.names n (λ y. is_defined y.role ≡ true) = subst (λ (m : ℕ). NameAt p.names m (λ y. is_defined y.role ≡ true)) q (stands_as (λ y. is_defined y.role ≡ true) p.names j x i (output_defined x.role o)) in
        ap (λ (z : Affine). record { name = x.text; kind = kind_of x.kind; form = z }) (form_is p ps forms n g a l f h)
