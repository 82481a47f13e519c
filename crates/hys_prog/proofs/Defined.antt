-- The items that define names.
use Rattle.std.proofs.Common.{◌≡◌, ℕ, zero, suc, ◌+◌, ◌<◌, List, [], ◌∷◌, length, take, get_or, set, Option, Some, None, Bool, true, false, cond, refl, sym, ap, subst, arith, inl, inr, ◌⊎◌, get_or-set_same, get_or-set_other, length-set, add-one, eqb-true, ◌∙◌, ◌≤◌}
use Rattle.std.proofs.lemmas.Bool.{cases_eq}
use Rattle.std.proofs.lemmas.List.{take_all}
use Rattle.hys_prog.specs.declared.program.ProgItem.{ProgItem}
use Rattle.hys_prog.specs.declared.program.Name.{Name}
use Rattle.hys_prog.specs.declared.program.Program.{Program}
use Rattle.hys_prog.specs.Programs.{IsProgram, EachItem, NameAt, Named, Suits, definitions, is_named, is_defined}
use Rattle.hys_prog.specs.Orders.{SomeItem}
use Rattle.hys_prog.specs.Steps.{OfName}
use Rattle.hys_prog.specs.Places.{ItemAt, Defines, noted, AreFound, ArePlaces}

pub each_at : (P : ProgItem → Type 0) (ts : List ProgItem) (k : ℕ) (t : ProgItem) → EachItem P ts → k < length ts → t ≡ get_or ts k t → P t
each_at P [] k t h b e = absurd (omega arith)
each_at P (x ∷ ts) zero t h b e = subst P (sym e) h.0
each_at P (x ∷ ts) (suc k) t h b e = each_at P ts k t h.1 (omega arith) e

pub at_item : (P : ProgItem → Type 0) (ts : List ProgItem) (k : ℕ) (t : ProgItem) → P t → k < length ts → t ≡ get_or ts k t → ItemAt ts k P
at_item P [] k t h b e = absurd (omega arith)
at_item P (x ∷ ts) zero t h b e = subst P e h
at_item P (x ∷ ts) (suc k) t h b e = at_item P ts k t h (omega arith) e

pub some_more : (P : ProgItem → Type 0) (ts : List ProgItem) (k : ℕ) (t : ProgItem) → SomeItem P (take (suc k) ts) → k < length ts → t ≡ get_or ts k t → SomeItem P (take k ts) ⊎ P t
some_more P [] k t h b e = absurd (omega arith)
some_more P (x ∷ ts) zero t (inl h) b e = inr (subst P (sym e) h)
some_more P (x ∷ ts) zero t (inr h) b e = absurd h
some_more P (x ∷ ts) (suc k) t (inl h) b e = inl (inl h)
some_more P (x ∷ ts) (suc k) t (inr h) b e = go (some_more P ts k t h (omega arith) e)
  where
    go : SomeItem P (take k ts) ⊎ P t → (P x ⊎ SomeItem P (take k ts)) ⊎ P t
    go (inl h) = inl (inr h)
    go (inr h) = inr h

pub name_below : (P : Name → Type 0) (xs : List Name) (n : ℕ) → NameAt xs n P → n < length xs
name_below P [] n h = absurd h
name_below P (x ∷ xs) zero h = omega arith
name_below P (x ∷ xs) (suc n) h = let b = name_below P xs n h in omega arith

pub some_named : (n : ℕ) (o : Option ℕ) → is_named n o ≡ true → o ≡ Some n
some_named n None e = absurd (cc)
some_named n (Some m) e = ap Some (eqb-true m n e)

-- a name with a definition is defined by an item
pub some_defines : (n : ℕ) (ts : List ProgItem) → 0 < definitions n ts → SomeItem (Defines n) ts
some_defines n [] h = absurd (omega arith)
some_defines n (t ∷ ts) h = go (λ k. some_defines n ts k) (is_named n t.name) refl h
  where
    go : (0 < definitions n ts → SomeItem (Defines n) ts) → (b : Bool) → is_named n t.name ≡ b → 0 < cond b 1 0 + definitions n ts → SomeItem (Defines n) (t ∷ ts)
    go more true e h = inl (some_named n t.name e)
    go more false e h = inr (more (omega arith))

some_same : (n x : ℕ) → Some n ≡ Some x → n ≡ x
some_same n x e = cc

-- one more item
pub found_more : (ts : List ProgItem) (k : ℕ) (ps qs : List ℕ) (t : ProgItem) → AreFound ts k ps → k < length ts → t ≡ get_or ts k t → qs ≡ noted ps t.name k → AreFound ts (k + 1) qs
found_more ts k ps qs t h b e q = rw (q, add-one) (record { found = λ n m s. go n t.name refl m (some_more (Defines n) ts k t s b e) })
  where
    go : (n : ℕ) (o : Option ℕ) → t.name ≡ o → n < length (noted ps o k) → SomeItem (Defines n) (take k ts) ⊎ Defines n t → ItemAt ts (get_or (noted ps o k) n 0) (Defines n)
    go n None i m (inl s) = h.found n m s
    go n None i m (inr d) = absurd (cc)
    go n (Some x) i m s = at (cases_eq n x)
      where
        at : (n ≡ x) ⊎ (n ≡ x → ⊥) → ItemAt ts (get_or (set ps x k) n 0) (Defines n)
        at (inl f) = let w : n < length ps = rw (← length-set ps x k) m in
            let g : get_or (set ps x k) n 0 ≡ k = subst (λ (y : ℕ). get_or (set ps y k) n 0 ≡ k) f (get_or-set_same ps n k 0 w) in
            rw g (at_item (Defines n) ts k t (i ∙ ap Some (sym f)) b e)
        at (inr f) = let w : n < length ps = rw (← length-set ps x k) m in
            rw (get_or-set_other ps x n k 0 f) (h.found n w (other s))
          where
            other : SomeItem (Defines n) (take k ts) ⊎ Defines n t → SomeItem (Defines n) (take k ts)
            other (inl s) = s
            other (inr d) = absurd (f (some_same n x (sym d ∙ i)))

pub named_within : (names : List Name) (places : List ℕ) (t : ProgItem) → Named names t.name t.body → length places ≡ length names → OfName (λ n. n < length places) t.name
named_within names places t h e = go t.name h
  where
    go : (o : Option ℕ) → Named names o t.body → OfName (λ n. n < length places) o
    go None h = tt
    go (Some n) h = let b = name_below (Suits t.body) names n h in omega arith

pub none_found : (ts : List ProgItem) (ps : List ℕ) → AreFound ts 0 ps
none_found ts ps = record { found = λ n m s. absurd (s) }

pub all_found : (p : Program) (k : ℕ) (ps : List ℕ) → IsProgram p → length ps ≡ length p.names → AreFound p.items k ps → length p.items ≤ k → ArePlaces p ps
all_found p k ps h e f l n m =
    let b = name_below (λ (x : Name). is_defined x.role ≡ true) p.names n m in
    let d = h.once n m in
    f.found n (omega arith) (rw (take_all k p.items l) (some_defines n p.items (omega arith)))

pub noted_length : (ps : List ℕ) (o : Option ℕ) (k : ℕ) → length (noted ps o k) ≡ length ps
noted_length ps None k = refl
noted_length ps (Some n) k = length-set ps n k
