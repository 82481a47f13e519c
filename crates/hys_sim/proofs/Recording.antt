-- The records of a text.
use Rattle.std.proofs.Common.{◌≡◌, ◌⊎◌, ◌∙◌, ℕ, zero, suc, ◌+◌, ◌≤◌, List, [], ◌∷◌, ◌++◌, Bool, true, false, length, Option, Some, None, refl, sym, ap, ap₂, inl, inr, arith}
use Rattle.std.specs.Prelude.{if◌then◌else◌, unwrap_or}
use Rattle.csv.specs.Machine.{Read, next_record, step, is_end, fields_after, field_after, ends_at_end}
use Rattle.csv.specs.Reading.{ReadRecord, Reached, default_config, reader_state, records_from, records_next, source_of, took_first}
use Rattle.csv.specs.declared.parser.State.{State}
use Rattle.csv.specs.declared.parser.State.TheVariants as st
use Rattle.csv.specs.declared.reader.Reader.{Reader}
use Rattle.csv.proofs.ReadFacts.{rows-end, rows-more}
use Rattle.hys_sim.specs.Recorded.{IsNext, IsReading, records_after, records_left}

-- a record takes a byte at least, or stands at the end of the text, and then nothing is left
abbrev IsShorter : List ℕ → Read → Type 0
IsShorter xs p = (length p.2 + 1 ≤ length xs) ⊎ ((p.1 ≡ st.StartRecord) × (p.2 ≡ []))

some_read : (p q : Read) → Some p ≡ Some q → p ≡ q
some_read p q e = cc

shorter : (s : State) (fields : List (List ℕ)) (field xs : List ℕ) (p : Read) → next_record default_config s fields field xs ≡ Some p → IsShorter xs p
unfolding next_record
shorter s fields field [] p e = go (ends_at_end s) e
  where
    go : (b : Bool) → (if b then Some (fields ++ (field ∷ []), st.StartRecord, []) else None) ≡ Some p → IsShorter [] p
    go true e = let q = some_read (fields ++ (field ∷ []), st.StartRecord, []) p e in inr (ap (λ (r : Read). r.1) (sym q), ap (λ (r : Read). r.2) (sym q))
    go false e = absurd (cc)
shorter s fields field (c ∷ rest) p e =
    let t = step default_config s c in
    go (is_end t.1) e (shorter t.0 (fields_after t.1 fields field) (field_after t.1 c field) rest p)
  where
    more : IsShorter rest p → IsShorter (c ∷ rest) p
    more (inl h) = inl (omega arith)
    more (inr h) = inr h

    go : (b : Bool) → (if b then Some (fields_after (step default_config s c).1 fields field, (step default_config s c).0, rest) else next_record default_config (step default_config s c).0 (fields_after (step default_config s c).1 fields field) (field_after (step default_config s c).1 c field) rest) ≡ Some p
        → (next_record default_config (step default_config s c).0 (fields_after (step default_config s c).1 fields field) (field_after (step default_config s c).1 c field) rest ≡ Some p → IsShorter rest p) → IsShorter (c ∷ rest) p
    go true e h =
        let q : rest ≡ p.2 = ap (λ (r : Read). r.2) (some_read (fields_after (step default_config s c).1 fields field, (step default_config s c).0, rest) p e) in
        let l : length p.2 ≡ length rest = ap length (sym q) in
        inl (omega arith)
    go false e h = more (h e)

-- nothing is left at the end of a text
nothing : (n : ℕ) → records_from default_config n st.StartRecord [] ≡ []
unfolding records_from next_record
nothing zero = refl
nothing (suc n) = refl

some_of : (o : Option Read) → (o ≡ None) ⊎ ((p : Read) × (o ≡ Some p))
some_of None = inl refl
some_of (Some p) = inr (p, refl)

-- as many as there are bytes and one more are all
enough : (n m : ℕ) (s : State) (xs : List ℕ) → length xs + 1 ≤ n → length xs + 1 ≤ m → records_from default_config n s xs ≡ records_from default_config m s xs
unfolding records_from
enough zero m s xs a b = absurd (omega arith)
enough (suc n) zero s xs a b = absurd (omega arith)
enough (suc n) (suc m) s xs a b = go (some_of (next_record default_config s [] [] xs)) (λ q l k. enough n m q.1 q.2 l k)
  where
    rest : (p : Read) → (length p.2 + 1 ≤ n → length p.2 + 1 ≤ m → records_from default_config n p.1 p.2 ≡ records_from default_config m p.1 p.2) → IsShorter xs p → records_from default_config n p.1 p.2 ≡ records_from default_config m p.1 p.2
    rest p f (inl h) = f (omega arith) (omega arith)
    rest p f (inr h) = ap₂ (λ (t : State) (ys : List ℕ). records_from default_config n t ys) h.0 h.1 ∙ nothing n ∙ sym (nothing m) ∙ sym (ap₂ (λ (t : State) (ys : List ℕ). records_from default_config m t ys) h.0 h.1)

    go : (next_record default_config s [] [] xs ≡ None) ⊎ ((p : Read) × (next_record default_config s [] [] xs ≡ Some p)) → ((q : Read) → length q.2 + 1 ≤ n → length q.2 + 1 ≤ m → records_from default_config n q.1 q.2 ≡ records_from default_config m q.1 q.2) →
        records_next (records_from default_config n) (next_record default_config s [] [] xs) ≡ records_next (records_from default_config m) (next_record default_config s [] [] xs)
    go (inl e) f = ap (records_next (records_from default_config n)) e ∙ sym (ap (records_next (records_from default_config m)) e)
    go (inr q) f =
        ap (records_next (records_from default_config n)) q.1 ∙ ap (λ (rs : List (List (List ℕ))). q.0.0 ∷ rs) (rest q.0 (f q.0) (shorter s [] [] xs q.0 q.1))
        ∙ sym (ap (records_next (records_from default_config m)) q.1)

top : (n : ℕ) (s : State) (xs : List ℕ) (o : Option Read) → n ≡ suc (length xs) → next_record default_config s [] [] xs ≡ o → records_from default_config n s xs ≡ records_next (records_from default_config (length xs)) o
unfolding records_from
top n s xs o q e = ap (λ (k : ℕ). records_from default_config k s xs) q ∙ ap (records_next (records_from default_config (length xs))) e

-- the next record, and those after it
next_left : (s : State) (xs : List ℕ) (p : Read) → next_record default_config s [] [] xs ≡ Some p → records_after s xs ≡ p.0 ∷ records_after p.1 p.2
next_left s xs p e = top (length xs + 1) s xs (Some p) (omega arith) e ∙ ap (λ (rs : List (List (List ℕ))). p.0 ∷ rs) (rest (shorter s [] [] xs p e))
  where
    rest : IsShorter xs p → records_from default_config (length xs) p.1 p.2 ≡ records_after p.1 p.2
    rest (inl h) = enough (length xs) (length p.2 + 1) p.1 p.2 h (omega arith)
    rest (inr h) = ap₂ (λ (t : State) (ys : List ℕ). records_from default_config (length xs) t ys) h.0 h.1 ∙ nothing (length xs) ∙ sym (nothing 1) ∙ sym (ap₂ (λ (t : State) (ys : List ℕ). records_after t ys) h.0 h.1)

none_after : (s : State) (xs : List ℕ) → next_record default_config s [] [] xs ≡ None → records_after s xs ≡ []
none_after s xs e = top (length xs + 1) s xs None (omega arith) e

-- ---- readers
left_is : {R : Type 0} (rem : R → Option (List ℕ)) (r : Reader R) (y : List ℕ) → source_of rem r ≡ Some y → records_left rem r ≡ records_after (reader_state r) y
left_is rem r y e = ap (λ (o : Option (List ℕ)). records_after (reader_state r) (unwrap_or o [])) e

same : (s : State) (xs : List ℕ) → Reached default_config s xs [] s xs
unfolding Reached
same s xs = (refl, refl)

one : (s : State) (xs : List ℕ) (f : List (List ℕ)) (t : State) (ys : List ℕ) → Reached default_config s xs (f ∷ []) t ys → (p : Read) × (next_record default_config s [] [] xs ≡ Some p) × (f ≡ p.0) × (p.1 ≡ t) × (p.2 ≡ ys)
unfolding Reached
one s xs f t ys h = (h.0, h.1, h.2, h.3.0, h.3.1)

-- what a read of a record leaves
pub reads_next : {R : Type 0} (rem : R → Option (List ℕ)) (a b : Reader R) (found : Bool) (fields : List (List ℕ)) → IsReading rem a → ReadRecord rem a b found fields → IsNext found fields (records_left rem a) (records_left rem b)
reads_next rem a b true fields h r =
    let m = rows-more rem a b fields default_config (reader_state a) h.text h.text [] h.config h.source (same (reader_state a) h.text) r in
    let q = one (reader_state a) h.text fields (reader_state b) m.0 m.2 in
    left_is rem a h.text h.source ∙ next_left (reader_state a) h.text q.0 q.1 ∙ ap₂ (λ (f : List (List ℕ)) (rs : List (List (List ℕ))). f ∷ rs) (sym q.2) (ap₂ records_after q.3 q.4 ∙ sym (left_is rem b m.0 m.1))
reads_next rem a b false fields h r = left_is rem a h.text h.source ∙ none_after (reader_state a) h.text (rows-end rem a b fields default_config h.text h.config h.source r)

-- after a record it goes on reading
pub reads_on : {R : Type 0} (rem : R → Option (List ℕ)) (a b : Reader R) (found : Bool) (fields : List (List ℕ)) → found ≡ true → IsReading rem a → ReadRecord rem a b found fields → took_first b ≡ true → IsReading rem b
reads_on rem a b true fields e h r t =
    let m = rows-more rem a b fields default_config (reader_state a) h.text h.text [] h.config h.source (same (reader_state a) h.text) r in
    record { trim = r.3 ∙ h.trim; ready = inl t; config = r.2 ∙ h.config; text = m.0; source = m.1 }
reads_on rem a b false fields e h r t = absurd (cc)

-- what a reader has left whose state and bytes are these
pub left_at : {R : Type 0} (rem : R → Option (List ℕ)) (r : Reader R) (s : State) (y : List ℕ) → reader_state r ≡ s → source_of rem r ≡ Some y → records_left rem r ≡ records_after s y
left_at rem r s y e h = left_is rem r y h ∙ ap (λ (t : State). records_after t y) e
