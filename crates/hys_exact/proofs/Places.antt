-- Lists with an entry for each column: those of the names in front, fresh ones, and those of the names behind.
use Rattle.std.proofs.Common.{◌≡◌, ℕ, ◌+◌, ◌-◌, ◌<◌, ◌≤◌, List, [], ◌∷◌, ◌++◌, length, get_or, map, refl, sym, ◌∙◌, ap, ap₂, arith, subst, inl, inr, ◌⊎◌, length-append}
use Rattle.std.proofs.lemmas.Bool.{cases_lt}
use Rattle.std.proofs.lemmas.List.{get_or_append_left, get_or-append-add, get_or-map, length-map, ext_get_or}
use Rattle.hys_prog.specs.Orders.{IsIn}
use Rattle.hys_prog.proofs.Members.{at_in, in_at}

abbrev pub spread : {X : Type 0} → List ℕ → List ℕ → (ℕ → X) → List X → List X
spread A B f mid = map f A ++ (mid ++ map f B)

pub spread_before : {X : Type 0} (A B : List ℕ) (f : ℕ → X) (mid : List X) (d : X) (i : ℕ) → i < length A → get_or (spread A B f mid) i d ≡ f (get_or A i 0)
spread_before A B f mid d i l = get_or_append_left (map f A) (mid ++ map f B) d i (rw length-map l) ∙ get_or-map f A i 0 d l

pub spread_middle : {X : Type 0} (A B : List ℕ) (f : ℕ → X) (mid : List X) (d : X) (i : ℕ) → i < length mid → get_or (spread A B f mid) (length A + i) d ≡ get_or mid i d
spread_middle A B f mid d i l =
    let s : length (map f A) ≡ length A = length-map A f in
    (rw s at (get_or-append-add (map f A) (mid ++ map f B) i d)) ∙ get_or_append_left mid (map f B) d i l

pub spread_behind : {X : Type 0} (A B : List ℕ) (f : ℕ → X) (mid : List X) (d : X) (F i : ℕ) → length mid ≡ F → i < length B → get_or (spread A B f mid) (length A + (F + i)) d ≡ f (get_or B i 0)
spread_behind A B f mid d F i e l =
    let s : length (map f A) ≡ length A = length-map A f in
    (rw s at (get_or-append-add (map f A) (mid ++ map f B) (F + i) d)) ∙ (rw e at (get_or-append-add mid (map f B) i d)) ∙ get_or-map f B i 0 d l

pub length-spread : {X : Type 0} (A B : List ℕ) (f : ℕ → X) (mid : List X) → length (spread A B f mid) ≡ length A + (length mid + length B)
length-spread A B f mid = simp (length-append, length-map)

pub map_same : {X : Type 0} (xs : List ℕ) (f g : ℕ → X) → ((n : ℕ) → IsIn n xs → f n ≡ g n) → map f xs ≡ map g xs
map_same [] f g h = refl
map_same (x ∷ xs) f g h = ap₂ ◌∷◌ (h x (inl refl)) (map_same xs f g (λ n i. h n (inr i)))

pub spread_same : {X : Type 0} (A B : List ℕ) (f g : ℕ → X) (mid : List X) → ((n : ℕ) → IsIn n A ⊎ IsIn n B → f n ≡ g n) → spread A B f mid ≡ spread A B g mid
spread_same A B f g mid h = ap₂ (λ a b. a ++ (mid ++ b)) (map_same A f g (λ n i. h n (inl i))) (map_same B f g (λ n i. h n (inr i)))

-- ---- the columns of the names
pub record Placed (A B : List ℕ) (F : ℕ) (c : ℕ → ℕ) : Type 0 where
  pub before : (i : ℕ) → i < length A → c (get_or A i 0) ≡ i
  pub after : (i : ℕ) → i < length B → c (get_or B i 0) ≡ length A + (F + i)

-- the entry at a name's column is the name's
pub spread_at : {X : Type 0} (A B : List ℕ) (F : ℕ) (c : ℕ → ℕ) → Placed A B F c → (f : ℕ → X) (mid : List X) (d : X) → length mid ≡ F → (n : ℕ) → IsIn n A ⊎ IsIn n B → get_or (spread A B f mid) (c n) d ≡ f n
spread_at A B F c a f mid d e n (inl h) =
    let k : (i : ℕ) × (i < length A) × (get_or A i 0 ≡ n) = at_in A n h in
    let s : c n ≡ k.0 = subst (λ (m : ℕ). c m ≡ k.0) k.2 (a.before k.0 k.1) in
    rw s (spread_before A B f mid d k.0 k.1 ∙ ap f k.2)
spread_at A B F c a f mid d e n (inr h) =
    let k : (i : ℕ) × (i < length B) × (get_or B i 0 ≡ n) = at_in B n h in
    let s : c n ≡ length A + (F + k.0) = subst (λ (m : ℕ). c m ≡ length A + (F + k.0)) k.2 (a.after k.0 k.1) in
    rw s (spread_behind A B f mid d F k.0 e k.1 ∙ ap f k.2)

pub place_below : (A B : List ℕ) (F : ℕ) (c : ℕ → ℕ) → Placed A B F c → (n : ℕ) → IsIn n A ⊎ IsIn n B → c n < length A + (F + length B)
place_below A B F c a n (inl h) =
    let k : (i : ℕ) × (i < length A) × (get_or A i 0 ≡ n) = at_in A n h in
    let s : c n ≡ k.0 = subst (λ (m : ℕ). c m ≡ k.0) k.2 (a.before k.0 k.1) in
    let l : k.0 < length A = k.1 in
    omega arith
place_below A B F c a n (inr h) =
    let k : (i : ℕ) × (i < length B) × (get_or B i 0 ≡ n) = at_in B n h in
    let s : c n ≡ length A + (F + k.0) = subst (λ (m : ℕ). c m ≡ length A + (F + k.0)) k.2 (a.after k.0 k.1) in
    let l : k.0 < length B = k.1 in
    omega arith

-- ---- the parts of a column's place
-- a place of a column is that of a name in front or behind, or a fresh one
pub data Side (A B : List ℕ) (F : ℕ) (c : ℕ → ℕ) (i : ℕ) : Type 0 where
  of_name : (n : ℕ) → IsIn n A ⊎ IsIn n B → i ≡ c n → Side A B F c i
  fresh : (j : ℕ) → j < F → i ≡ length A + j → Side A B F c i

pub side_of : (A B : List ℕ) (F : ℕ) (c : ℕ → ℕ) → Placed A B F c → (i : ℕ) → i < length A + (F + length B) → Side A B F c i
side_of A B F c a i l = go (cases_lt i (length A)) (cases_lt i (length A + F))
  where
    go : (i < length A) ⊎ (length A ≤ i) → (i < length A + F) ⊎ (length A + F ≤ i) → Side A B F c i
    go (inl x) y = of_name (get_or A i 0) (inl (in_at A i x)) (sym (a.before i x))
    go (inr x) (inl y) = fresh (i - length A) (omega arith) (omega arith)
    go (inr x) (inr y) =
        let j : ℕ = i - (length A + F) in
        let e : i ≡ length A + (F + (i - (length A + F))) = omega arith in
        let b : i - (length A + F) < length B = omega arith in
        of_name (get_or B (i - (length A + F)) 0) (inr (in_at B (i - (length A + F)) b)) (e ∙ sym (a.after (i - (length A + F)) b))

-- a list with these entries is the spread list
pub spread_is : {X : Type 0} (A B : List ℕ) (F : ℕ) (c : ℕ → ℕ) → Placed A B F c → (xs : List X) (d : X) (f : ℕ → X) (mid : List X) → length mid ≡ F → length xs ≡ length A + (F + length B) →
    ((n : ℕ) → IsIn n A ⊎ IsIn n B → get_or xs (c n) d ≡ f n) → ((j : ℕ) → j < F → get_or xs (length A + j) d ≡ get_or mid j d) → xs ≡ spread A B f mid
spread_is {X} A B F c a xs d f mid e l h m = ext_get_or d xs (spread A B f mid) (l ∙ sym (rw e at (length-spread A B f mid))) (λ i b. go i (side_of A B F c a i (omega arith)))
  where
    go : (i : ℕ) → Side A B F c i → get_or xs i d ≡ get_or (spread A B f mid) i d
    go i (of_name n k s) = rw s (h n k ∙ sym (spread_at A B F c a f mid d e n k))
    go i (fresh j b s) = rw s (m j b ∙ sym (spread_middle A B f mid d j (omega arith)))
