-- One byte more before a place.
use Rattle.std.proofs.Common.{◌≡◌, ℕ, suc, ◌+◌, ◌≤◌, Bool, true, false, eqb, cond, List, [], ◌∷◌, ◌++◌, length, take, refl, ap, ◌∙◌, arith, length-append, length-take}
use Rattle.std.proofs.lemmas.Bool.{eqb-true}
use Rattle.hys_ast.specs.declared.place.Place.{Place}
use Rattle.hys_ast.specs.Places.{line_feeds, since_line_feed, place_at}

step_cond : (t : Bool) (x y : ℕ) → x ≡ suc y → cond t (suc x) x ≡ suc (cond t (suc y) y)
step_cond true x y e = ap suc e
step_cond false x y e = e

same_cond : (t : Bool) (x y : ℕ) → x ≡ y → cond t (suc x) x ≡ cond t (suc y) y
same_cond t x y e = ap (λ z. cond t (suc z) z) e

feeds_break : (bs : List ℕ) (b : ℕ) → eqb b 10 ≡ true → line_feeds (bs ++ b ∷ []) ≡ suc (line_feeds bs)
feeds_break [] b e = rw e refl
feeds_break (x ∷ bs) b e = step_cond (eqb x 10) (line_feeds (bs ++ b ∷ [])) (line_feeds bs) (feeds_break bs b e)

feeds_other : (bs : List ℕ) (b : ℕ) → eqb b 10 ≡ false → line_feeds (bs ++ b ∷ []) ≡ line_feeds bs
feeds_other [] b e = rw e refl
feeds_other (x ∷ bs) b e = same_cond (eqb x 10) (line_feeds (bs ++ b ∷ [])) (line_feeds bs) (feeds_other bs b e)

nonzero : (n m x y : ℕ) → n ≡ suc m → cond (eqb n 0) x y ≡ y
nonzero n m x y e = go (eqb n 0) refl
  where
    go : (t : Bool) → eqb n 0 ≡ t → cond t x y ≡ y
    go true h = absurd (omega (arith, eqb-true n 0 h))
    go false h = refl

since_break : (bs : List ℕ) (b : ℕ) → eqb b 10 ≡ true → since_line_feed (bs ++ b ∷ []) ≡ 0
since_break [] b e = rw e refl
since_break (x ∷ bs) b e = nonzero (line_feeds (x ∷ (bs ++ b ∷ []))) (line_feeds (x ∷ bs)) (suc (length (bs ++ b ∷ []))) (since_line_feed (bs ++ b ∷ [])) (feeds_break (x ∷ bs) b e) ∙ since_break bs b e

longer_cond : (n m x y z w : ℕ) → n ≡ m → x ≡ suc y → z ≡ suc w → cond (eqb n 0) x z ≡ suc (cond (eqb m 0) y w)
longer_cond n m x y z w e f g = rw e (go (eqb m 0))
  where
    go : (t : Bool) → cond t x z ≡ suc (cond t y w)
    go true = f
    go false = g

since_other : (bs : List ℕ) (b : ℕ) → eqb b 10 ≡ false → since_line_feed (bs ++ b ∷ []) ≡ suc (since_line_feed bs)
since_other [] b e = rw e refl
since_other (x ∷ bs) b e = longer_cond (line_feeds (x ∷ (bs ++ b ∷ []))) (line_feeds (x ∷ bs)) (suc (length (bs ++ b ∷ []))) (suc (length bs)) (since_line_feed (bs ++ b ∷ [])) (since_line_feed bs) (feeds_other (x ∷ bs) b e)
    (omega (arith, length-append bs (b ∷ []))) (since_other bs b e)

most_cond : (t : Bool) (x y n : ℕ) → x ≤ n → y ≤ n → cond t x y ≤ n
most_cond true x y n p q = p
most_cond false x y n p q = q

feeds_most : (bs : List ℕ) → line_feeds bs ≤ length bs
feeds_most [] = omega arith
feeds_most (x ∷ bs) = most_cond (eqb x 10) (suc (line_feeds bs)) (line_feeds bs) (suc (length bs)) (omega (arith, feeds_most bs)) (omega (arith, feeds_most bs))

since_most : (bs : List ℕ) → since_line_feed bs ≤ length bs
since_most [] = omega arith
since_most (x ∷ bs) = most_cond (eqb (line_feeds (x ∷ bs)) 0) (suc (length bs)) (since_line_feed bs) (suc (length bs)) (omega arith) (omega (arith, since_most bs))

-- The line and the column of a place.
pub record Reached (text : List ℕ) (at line col : ℕ) : Type 0 where
  pub line_is : line ≡ 1 + line_feeds (take at text)
  pub col_is : col ≡ 1 + since_line_feed (take at text)
  pub line_most : line ≤ at + 1
  pub col_most : col ≤ at + 1

pub reached : (text : List ℕ) (at line col : ℕ) → line ≡ 1 + line_feeds (take at text) → col ≡ 1 + since_line_feed (take at text) → Reached text at line col
reached text at line col l c = record {
  line_is = l;
  col_is = c;
  line_most = omega (arith, l, feeds_most (take at text), length-take at text);
  col_most = omega (arith, c, since_most (take at text), length-take at text);
}

pub breaks : (text : List ℕ) (at line col b : ℕ) → take (at + 1) text ≡ take at text ++ b ∷ [] → eqb b 10 ≡ true → Reached text at line col → Reached text (at + 1) (line + 1) 1
breaks text at line col b t e r = reached text (at + 1) (line + 1) 1 (rw t (omega (arith, r.line_is, feeds_break (take at text) b e))) (rw t (omega (arith, since_break (take at text) b e)))

pub goes_on : (text : List ℕ) (at line col b : ℕ) → take (at + 1) text ≡ take at text ++ b ∷ [] → eqb b 10 ≡ false → Reached text at line col → Reached text (at + 1) line (col + 1)
goes_on text at line col b t e r = reached text (at + 1) line (col + 1) (rw t (omega (arith, r.line_is, feeds_other (take at text) b e))) (rw t (omega (arith, r.col_is, since_other (take at text) b e)))

pub starts : (text : List ℕ) (place : Place) → place ≡ place_at text place.byte → Reached text place.byte place.line place.col
unfolding place_at
starts text place e = reached text place.byte place.line place.col (ap (λ (p : Place). p.line) e) (ap (λ (p : Place). p.col) e)

pub ends : (text : List ℕ) (at line col : ℕ) → Reached text at line col → (record { byte = at; line = line; col = col }) ≡ place_at text at
unfolding place_at
ends text at line col r = let l = r.line_is in let c = r.col_is in cc

pub keeps_byte : (text : List ℕ) (at : ℕ) → (place_at text at).byte ≡ at
unfolding place_at
keeps_byte text at = refl

pub differs : (b : ℕ) → (b ≡ 10 → ⊥) → eqb b 10 ≡ false
differs b ne = go (eqb b 10) refl
  where
    go : (t : Bool) → eqb b 10 ≡ t → t ≡ false
    go true h = absurd (ne (eqb-true b 10 h))
    go false h = refl
