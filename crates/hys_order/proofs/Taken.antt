-- Names that are taken one after the other.
use Rattle.std.proofs.Common.{◌≡◌, ℕ, zero, suc, ◌<◌, ◌≤◌, List, [], ◌∷◌, ◌++◌, Bool, true, false, length, get_or, set, get_or-set_same, get_or-set_other, refl, subst, arith, inl, inr, ◌⊎◌, append_assoc, append-nil}
use Rattle.std.proofs.lemmas.Bool.{cases_eq}
use Rattle.hys_prog.specs.Orders.{IsFirst}
use Rattle.hys_order.specs.Links.{link, Untaken, unset, Passed, Ready, Taking, AreCursors}
use Rattle.hys_prog.proofs.Members.{first_holds}

pub either_mark : (taken : List Bool) (n : ℕ) → (get_or taken n true ≡ true) ⊎ Untaken taken n
either_mark taken n = go (get_or taken n true) refl
  where
    go : (b : Bool) → get_or taken n true ≡ b → (get_or taken n true ≡ true) ⊎ Untaken taken n
    go true e = inl e
    go false e = inr e

pub untaken_below : (taken : List Bool) (n : ℕ) → Untaken taken n → n < length taken
untaken_below [] n h = absurd (cc)
untaken_below (b ∷ bs) zero h = omega arith
untaken_below (b ∷ bs) (suc n) h = let k = untaken_below bs n h in omega arith

pub taken_set : (taken : List Bool) (n m : ℕ) → get_or taken m true ≡ true → get_or (set taken n true) m true ≡ true
taken_set [] n m h = h
taken_set (b ∷ bs) zero zero h = refl
taken_set (b ∷ bs) zero (suc m) h = h
taken_set (b ∷ bs) (suc n) zero h = h
taken_set (b ∷ bs) (suc n) (suc m) h = taken_set bs n m h

pub unset_set : (taken : List Bool) (n : ℕ) → Untaken taken n → unset (set taken n true) < unset taken
unset_set [] n h = absurd (cc)
unset_set (true ∷ bs) zero h = absurd (cc)
unset_set (false ∷ bs) zero h = omega arith
unset_set (true ∷ bs) (suc n) h = unset_set bs n h
unset_set (false ∷ bs) (suc n) h = let k = unset_set bs n h in omega arith

pub cursors_set : (taken : List Bool) (links : List (List ℕ)) (cs : List ℕ) (n place : ℕ) → AreCursors taken links cs → length cs ≡ length links → place ≤ length (link links n) → Passed taken (link links n) place → AreCursors taken links (set cs n place)
cursors_set taken links cs n place h e b p m l = go (cases_eq m n)
  where
    go : (m ≡ n) ⊎ (m ≡ n → ⊥) → (get_or (set cs n place) m 0 ≤ length (link links m)) × Passed taken (link links m) (get_or (set cs n place) m 0)
    go (inl f) = let w : m < length cs = omega arith in
        let g : get_or (set cs n place) m 0 ≡ place = subst (λ (y : ℕ). get_or (set cs y place) m 0 ≡ place) f (get_or-set_same cs m place 0 w) in
        rw (g, f) (b, p)
    go (inr f) = rw (get_or-set_other cs n m place 0 f) (h m l)

pub cursors_taken : (taken : List Bool) (links : List (List ℕ)) (cs : List ℕ) (n : ℕ) → AreCursors taken links cs → AreCursors (set taken n true) links cs
cursors_taken taken links cs n h m l = ((h m l).0, λ k b. taken_set taken n (get_or (link links m) k 0) ((h m l).1 k b))

pub ready_untaken : (taken : List Bool) (links : List (List ℕ)) (names : List ℕ) (n : ℕ) → IsFirst (Ready taken links) n names → Untaken taken n
ready_untaken taken links names n h = (first_holds (Ready taken links) names n h).free

-- what is still to be taken, from the start on
pub record Onward (links : List (List ℕ)) (names : List ℕ) (start now : List Bool) (done : List ℕ) : Type 0 where
  pub onward : (rest : List ℕ) (end : List Bool) → Taking links names now rest end → Taking links names start (done ++ rest) end

pub onward_start : (links : List (List ℕ)) (names : List ℕ) (start : List Bool) → Onward links names start start []
onward_start links names start = record { onward = λ rest end h. h }

pub onward_more : (links : List (List ℕ)) (names : List ℕ) (start now : List Bool) (done : List ℕ) (n : ℕ) → Onward links names start now done → IsFirst (Ready now links) n names → Onward links names start (set now n true) (done ++ n ∷ [])
onward_more links names start now done n h f = record { onward = λ rest end t. rw append_assoc (h.onward (n ∷ rest) end (f, t)) }

pub onward_end : (links : List (List ℕ)) (names : List ℕ) (start now : List Bool) (done : List ℕ) → Onward links names start now done → Taking links names start done now
onward_end links names start now done h = rw append-nil at (h.onward [] now refl)

-- what isn't taken in the end wasn't at the start
pub taking_grows : (links : List (List ℕ)) (names : List ℕ) (taken : List Bool) (ns : List ℕ) (end : List Bool) (n : ℕ) → Taking links names taken ns end → get_or taken n true ≡ true → get_or end n true ≡ true
taking_grows links names taken [] end n h e = rw h at e
taking_grows links names taken (m ∷ ns) end n h e = taking_grows links names (set taken m true) ns end n h.1 (taken_set taken m n e)

pub untaken_at : (taken : List Bool) (n : ℕ) (d : Bool) → n < length taken → get_or taken n d ≡ false → Untaken taken n
untaken_at [] n d b h = absurd (omega arith)
untaken_at (x ∷ bs) zero d b h = h
untaken_at (x ∷ bs) (suc n) d b h = untaken_at bs n d (omega arith) h

pub seen_at : (seen : List Bool) (n : ℕ) (d : Bool) → n < length seen → get_or seen n d ≡ true → get_or seen n true ≡ true
seen_at [] n d b h = refl
seen_at (x ∷ bs) zero d b h = h
seen_at (x ∷ bs) (suc n) d b h = seen_at bs n d (omega arith) h
