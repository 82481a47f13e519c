-- The same numbers by the texts of names and by their places.
use Rattle.std.proofs.Common.{◌≡◌, ℕ, zero, suc, List, [], ◌∷◌, Bool, true, false, cond, length, map, refl, sym, ◌∙◌, ap, ap₂, arith, bytes_eq}
use Rattle.std.proofs.lemmas.Slice.Eq.{bytes_eq-Decides}
use Rattle.hys_base.specs.Differ.{Apart, Differ}
use Rattle.hys_number.specs.Number.{Number}
use Rattle.hys_number.specs.Ops.{whole}
use Rattle.hys_prog.specs.declared.program.Name.{Name}
use Rattle.hys_prog.specs.Programs.{text_of}
use Rattle.hys_sys.specs.Exact.{Named}
use Rattle.hys_exact.specs.Automata.{by_places}
use Rattle.hys_exact.proofs.Names.{Stands}

-- the number at the place of the first name with the text
pub named_by : List Name → List Number → Named
named_by [] vs t = whole 0
named_by (x ∷ xs) [] t = whole 0
named_by (x ∷ xs) (a ∷ vs) t = cond (bytes_eq x.text t) a (named_by xs vs t)

other_text : (n m : List ℕ) → ¬ (n ≡ m) → bytes_eq n m ≡ false
other_text n m d = go (bytes_eq n m) refl
  where
    go : (b : Bool) → bytes_eq n m ≡ b → b ≡ false
    go true e = absurd (d ((bytes_eq-Decides n m).0 e))
    go false e = refl

apart_later : (x : Name) (a : Number) (xs ys : List Name) (vs : List Number) → Apart x.text (map text_of ys) → map (λ (y : Name). cond (bytes_eq x.text y.text) a (named_by xs vs y.text)) ys ≡ map (λ (y : Name). named_by xs vs y.text) ys
apart_later x a xs [] vs h = refl
apart_later x a xs (y ∷ ys) vs h = ap₂ (λ (b : Number) (bs : List Number). b ∷ bs) (ap (λ c. cond c a (named_by xs vs y.text)) (other_text x.text y.text (λ e. h.0 (sym e)))) (apart_later x a xs ys vs h.1)

-- the texts of names give back the numbers at their places
pub texts_again : (xs : List Name) (vs : List Number) → Differ (map text_of xs) → length vs ≡ length xs → map (λ (x : Name). named_by xs vs x.text) xs ≡ vs
unfolding named_by
texts_again [] [] d l = refl
texts_again [] (a ∷ vs) d l = absurd (omega arith)
texts_again (x ∷ xs) [] d l = absurd (omega arith)
texts_again (x ∷ xs) (a ∷ vs) d l =
    let e : bytes_eq x.text x.text ≡ true = (bytes_eq-Decides x.text x.text).1 refl in
    ap₂ (λ (b : Number) (bs : List Number). b ∷ bs) (ap (λ c. cond c a (named_by xs vs x.text)) e) (apart_later x a xs xs vs d.0 ∙ texts_again xs vs d.1 (omega arith))

-- at the place of a name stands the number of its text
pub by_place : (xs : List Name) (w : Named) (n : ℕ) (x : Name) → Stands xs n x → by_places xs w n ≡ w x.text
by_place [] w n x h = absurd h
by_place (y ∷ xs) w zero x h = ap (λ (z : Name). w z.text) (sym h)
by_place (y ∷ xs) w (suc n) x h = by_place xs w n x h
