-- Members of lists, and the first of a list that has a property.
use Rattle.std.proofs.Common.{◌≡◌, ℕ, zero, suc, ◌<◌, List, [], ◌∷◌, ◌++◌, length, get_or, append-nil, refl, sym, subst, arith, inl, inr, ◌⊎◌, ◌↔◌}
use Rattle.std.specs.List.{AllByRecursion}
use Rattle.hys_prog.specs.Orders.{IsIn, IsNone, AreDifferent, IsFirst}

pub in_at : (xs : List ℕ) (k : ℕ) → k < length xs → IsIn (get_or xs k 0) xs
in_at [] k b = absurd (omega arith)
in_at (x ∷ xs) zero b = inl refl
in_at (x ∷ xs) (suc k) b = inr (in_at xs k (omega arith))

pub at_in : (xs : List ℕ) (m : ℕ) → IsIn m xs → (k : ℕ) × (k < length xs) × (get_or xs k 0 ≡ m)
at_in [] m h = absurd h
at_in (x ∷ xs) m (inl e) = (0, omega arith, e)
at_in (x ∷ xs) m (inr h) = let r = at_in xs m h in let b : r.0 < length xs = r.1 in (suc r.0, omega arith, r.2)

pub none_in : (xs : List ℕ) (m : ℕ) → IsNone m xs → IsIn m xs → ⊥
none_in [] m n h = absurd h
none_in (x ∷ xs) m n (inl e) = n.0 e
none_in (x ∷ xs) m n (inr h) = none_in xs m n.1 h

pub all_of : (P : ℕ → Type 0) (xs : List ℕ) → ((m : ℕ) → IsIn m xs → P m) → AllByRecursion P xs
all_of P [] h = tt
all_of P (x ∷ xs) h = (h x (inl refl), all_of P xs (λ m i. h m (inr i)))

pub each_of : (P : ℕ → Type 0) (xs : List ℕ) (m : ℕ) → AllByRecursion P xs → IsIn m xs → P m
each_of P [] m h i = absurd i
each_of P (x ∷ xs) m h (inl e) = subst P e h.0
each_of P (x ∷ xs) m h (inr i) = each_of P xs m h.1 i

pub in_left : (xs ys : List ℕ) (m : ℕ) → IsIn m xs → IsIn m (xs ++ ys)
in_left [] ys m h = absurd h
in_left (x ∷ xs) ys m (inl e) = inl e
in_left (x ∷ xs) ys m (inr h) = inr (in_left xs ys m h)

pub in_right : (xs ys : List ℕ) (m : ℕ) → IsIn m ys → IsIn m (xs ++ ys)
in_right [] ys m h = h
in_right (x ∷ xs) ys m h = inr (in_right xs ys m h)

pub in_parts : (xs ys : List ℕ) (m : ℕ) → IsIn m (xs ++ ys) → IsIn m xs ⊎ IsIn m ys
in_parts [] ys m h = inr h
in_parts (x ∷ xs) ys m (inl e) = inl (inl e)
in_parts (x ∷ xs) ys m (inr h) = go (in_parts xs ys m h)
  where
    go : IsIn m xs ⊎ IsIn m ys → IsIn m (x ∷ xs) ⊎ IsIn m ys
    go (inl i) = inl (inr i)
    go (inr i) = inr i

pub none_parts : (xs ys : List ℕ) (m : ℕ) → IsNone m xs → IsNone m ys → IsNone m (xs ++ ys)
none_parts [] ys m a b = b
none_parts (x ∷ xs) ys m a b = (a.0, none_parts xs ys m a.1 b)

pub none_left : (xs ys : List ℕ) (m : ℕ) → IsNone m (xs ++ ys) → IsNone m xs
none_left [] ys m h = tt
none_left (x ∷ xs) ys m h = (h.0, none_left xs ys m h.1)

pub none_right : (xs ys : List ℕ) (m : ℕ) → IsNone m (xs ++ ys) → IsNone m ys
none_right [] ys m h = h
none_right (x ∷ xs) ys m h = none_right xs ys m h.1

-- a name put between names that differ from it
pub different_between : (ys xs : List ℕ) (x : ℕ) → AreDifferent (ys ++ xs) → IsNone x (ys ++ xs) → AreDifferent (ys ++ x ∷ xs)
different_between [] xs x d n = (n, d)
different_between (y ∷ ys) xs x d n = (none_parts ys (x ∷ xs) y (none_left ys xs y d.0) (λ e. n.0 (sym e), none_right ys xs y d.0), different_between ys xs x d.1 n.1)

pub different_turned : (xs ys : List ℕ) → AreDifferent (xs ++ ys) → AreDifferent (ys ++ xs)
different_turned [] ys d = rw append-nil d
different_turned (x ∷ xs) ys d = different_between ys xs x (different_turned xs ys d.1) (none_parts ys xs x (none_right xs ys x d.0) (none_left xs ys x d.0))

pub different_right : (xs ys : List ℕ) → AreDifferent (xs ++ ys) → AreDifferent ys
different_right [] ys d = d
different_right (x ∷ xs) ys d = different_right xs ys d.1

pub all_parts : (P : ℕ → Type 0) (xs ys : List ℕ) → AllByRecursion P xs → AllByRecursion P ys → AllByRecursion P (xs ++ ys)
all_parts P [] ys a b = b
all_parts P (x ∷ xs) ys a b = (a.0, all_parts P xs ys a.1 b)

pub all_left : (P : ℕ → Type 0) (xs ys : List ℕ) → AllByRecursion P (xs ++ ys) → AllByRecursion P xs
all_left P [] ys h = tt
all_left P (x ∷ xs) ys h = (h.0, all_left P xs ys h.1)

pub all_right : (P : ℕ → Type 0) (xs ys : List ℕ) → AllByRecursion P (xs ++ ys) → AllByRecursion P ys
all_right P [] ys h = h
all_right P (x ∷ xs) ys h = all_right P xs ys h.1

-- ---- the first
pub first_at : (P : ℕ → Type 0) (xs : List ℕ) (k : ℕ) → k < length xs → ((j : ℕ) → j < k → ¬ (P (get_or xs j 0))) → P (get_or xs k 0) → IsFirst P (get_or xs k 0) xs
first_at P [] k b h p = absurd (omega arith)
first_at P (x ∷ xs) zero b h p = inl (p, refl)
first_at P (x ∷ xs) (suc k) b h p = inr (h zero (omega arith), first_at P xs k (omega arith) (λ j l. h (suc j) (omega arith)) p)

pub first_holds : (P : ℕ → Type 0) (xs : List ℕ) (n : ℕ) → IsFirst P n xs → P n
first_holds P [] n h = absurd h
first_holds P (x ∷ xs) n (inl h) = subst P h.1 h.0
first_holds P (x ∷ xs) n (inr h) = first_holds P xs n h.1

pub first_in : (P : ℕ → Type 0) (xs : List ℕ) (n : ℕ) → IsFirst P n xs → IsIn n xs
first_in P [] n h = absurd h
first_in P (x ∷ xs) n (inl h) = inl h.1
first_in P (x ∷ xs) n (inr h) = inr (first_in P xs n h.1)

pub first_map : (P Q : ℕ → Type 0) (xs : List ℕ) (n : ℕ) → ((m : ℕ) → IsIn m xs → P m ↔ Q m) → IsFirst P n xs → IsFirst Q n xs
first_map P Q [] n f h = absurd h
first_map P Q (x ∷ xs) n f (inl h) = inl ((f x (inl refl)).0 h.0, h.1)
first_map P Q (x ∷ xs) n f (inr h) = inr (λ q. h.0 ((f x (inl refl)).1 q), first_map P Q xs n (λ m i. f m (inr i)) h.1)

-- there is one first
pub first_same : (P : ℕ → Type 0) (xs : List ℕ) (n m : ℕ) → IsFirst P n xs → IsFirst P m xs → n ≡ m
first_same P [] n m h k = absurd h
first_same P (x ∷ xs) n m (inl h) (inl k) = let a = h.1 in let b = k.1 in cc
first_same P (x ∷ xs) n m (inl h) (inr k) = absurd (k.0 h.0)
first_same P (x ∷ xs) n m (inr h) (inl k) = absurd (h.0 k.0)
first_same P (x ∷ xs) n m (inr h) (inr k) = first_same P xs n m h.1 k.1
