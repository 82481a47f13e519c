-- The unnamed guards of a source stand in the order of their numbers behind its declared names.
use Rattle.std.proofs.Common.{◌≡◌, ℕ, zero, suc, ◌+◌, ◌<◌, ◌^◌, List, [], ◌∷◌, ◌++◌, Option, Some, None, Bool, true, false, cond, map, length, refl, sym, ◌∙◌, ap, subst, arith}
use Rattle.std.specs.Str.{bytes_eq}
use Rattle.hys_lin.specs.Bits.{is_one}
use Rattle.hys_meaning.specs.Values.{Assignment}
use Rattle.hys_meaning.specs.Names.{Name, name_of, look, is_parameter}
use Rattle.hys_meaning.specs.Unfolded.{Guard, guard_name, guard_decl}
use Rattle.hys_formula.specs.Formulas.{constant, named}
use Rattle.hys_type.specs.Translation.{place_in, name_formula}
use Rattle.hys_type.proofs.KnownValues.{own_text}
use Rattle.hys_type.proofs.Fronts.{AreNew}
use Rattle.hys_type.proofs.GuardCounts.{Counted, other_guard}
use Rattle.hys_type.proofs.NamedFormulas.{StandFrom}

abbrev pub names_behind : Assignment → List Guard → List Name
names_behind w gs = map (name_of w) (map guard_decl gs)

abbrev IsNoParameter : Option Name → Type 0
IsNoParameter (Some m) = is_parameter m.section ≡ false
IsNoParameter None = ⊥

record StandsAt (ns : List Name) (n : List ℕ) (i : ℕ) : Type 0 where
  place : place_in ns n ≡ i
  found : IsNoParameter (look ns n)

here : (x : Name) (ns : List Name) (n : List ℕ) → bytes_eq x.text n ≡ true → is_parameter x.section ≡ false → StandsAt (x ∷ ns) n 0
here x ns n e p = record {
  place = ap (λ (b : Bool). cond b 0 (suc (place_in ns n))) e;
  found = subst IsNoParameter (sym (ap (λ (b : Bool). cond b (Some x) (look ns n)) e)) p;
}

further : (x : Name) (ns : List Name) (n : List ℕ) (i : ℕ) → bytes_eq x.text n ≡ false → StandsAt ns n i → StandsAt (x ∷ ns) n (suc i)
further x ns n i e h = record {
  place = ap (λ (b : Bool). cond b 0 (suc (place_in ns n))) e ∙ ap suc h.place;
  found = subst IsNoParameter (sym (ap (λ (b : Bool). cond b (Some x) (look ns n)) e)) h.found;
}

guards_stand : (w : Assignment) (q m : ℕ) (gs : List Guard) → q + length gs < 2 ^ 64 → Counted q gs m → (i : ℕ) → i < length gs → StandsAt (names_behind w gs) (guard_name (q + i)) i
guards_stand w q m [] b c i l = absurd (omega (arith, l))
guards_stand w q m (g ∷ gs) b c zero l =
    here (name_of w (guard_decl g)) (names_behind w gs) (guard_name (q + 0)) (ap (λ (n : ℕ). bytes_eq (guard_name g.number) (guard_name n)) (first q g.number c.0) ∙ own_text (guard_name g.number)) refl
  where
    first : (q n : ℕ) → n ≡ q → q + 0 ≡ n
    first q n e = omega (arith, e)
guards_stand w q m (g ∷ gs) b c (suc i) l =
    further (name_of w (guard_decl g)) (names_behind w gs) (guard_name (q + suc i)) i
    (other_guard g.number (q + suc i) (omega (arith, b, c.0)) (omega (arith, b, l)) (λ e. omega (arith, e, c.0)))
    (subst (λ (n : ℕ). StandsAt (names_behind w gs) (guard_name n) i) (shifted q i) (guards_stand w (suc q) m gs (omega (arith, b)) c.1 i (omega (arith, l))))
  where
    shifted : (q i : ℕ) → suc q + i ≡ q + suc i
    shifted q i = omega arith

-- ---- behind other names
behind : (ns ms : List Name) (n : List ℕ) (i : ℕ) → look ns n ≡ None → StandsAt ms n i → StandsAt (ns ++ ms) n (length ns + i)
behind [] ms n i e h = record { place = h.place ∙ none i; found = h.found }
  where
    none : (i : ℕ) → i ≡ 0 + i
    none i = omega arith
behind (x ∷ ns) ms n i e h = subst (λ (j : ℕ). StandsAt (x ∷ (ns ++ ms)) n j) (one_more (length ns) i) (go (bytes_eq x.text n) refl e (λ t. behind ns ms n i t h))
  where
    go : (b : Bool) → bytes_eq x.text n ≡ b → cond b (Some x) (look ns n) ≡ None → (look ns n ≡ None → StandsAt (ns ++ ms) n (length ns + i)) → StandsAt (x ∷ (ns ++ ms)) n (suc (length ns + i))
    go true f e r = absurd (cc)
    go false f e r = further x (ns ++ ms) n (length ns + i) f (r e)

    one_more : (k i : ℕ) → suc (k + i) ≡ suc k + i
    one_more k i = omega arith

stands_formula : (ns : List Name) (n : List ℕ) (i : ℕ) → StandsAt ns n i → name_formula ns n (look ns n) ≡ named i
stands_formula ns n i h = go (look ns n) h.found ∙ ap named h.place
  where
    go : (o : Option Name) → IsNoParameter o → name_formula ns n o ≡ named (place_in ns n)
    go None e = absurd e
    go (Some m) e = ap (λ (b : Bool). cond b (constant (is_one m.value)) (named (place_in ns n))) e

-- no declared name is that of an unnamed guard
abbrev pub HasNoGuards : List Name → Type 0
HasNoGuards ns = (k : ℕ) → look ns (guard_name k) ≡ None

pub all_stand : (w : Assignment) (ns : List Name) (q m : ℕ) (gs : List Guard) → HasNoGuards ns → q + length gs < 2 ^ 64 → Counted q gs m → StandFrom (ns ++ names_behind w gs) q (length ns) (length gs)
all_stand w ns q m gs h b c i l =
    stands_formula (ns ++ names_behind w gs) (guard_name (q + i)) (length ns + i) (behind ns (names_behind w gs) (guard_name (q + i)) i (h (q + i)) (guards_stand w q m gs b c i l))

pub all_new : (w : Assignment) (ns : List Name) (gs : List Guard) → HasNoGuards ns → AreNew ns (names_behind w gs)
all_new w ns [] h = tt
all_new w ns (g ∷ gs) h = (h g.number, all_new w ns gs h)
