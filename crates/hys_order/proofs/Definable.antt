-- What is taken one after the other is the order of definition; a round is circular; the two exclude each other.
use Rattle.std.proofs.Common.{◌≡◌, ℕ, zero, suc, ◌+◌, ◌<◌, List, [], ◌∷◌, Bool, true, false, not, cond, length, get_or, set, length-set, get_or-set_same, get_or-set_other, refl, sym, ◌∙◌, ap, subst, arith, inl, inr, ◌⊎◌, ◌↔◌}
use Rattle.std.specs.List.{AllByRecursion}
use Rattle.std.proofs.lemmas.Bool.{cases_eq}
use Rattle.hys_prog.specs.declared.program.Program.{Program}
use Rattle.hys_prog.specs.declared.program.Name.{Name}
use Rattle.hys_prog.specs.declared.program.Order.{Order}
use Rattle.hys_prog.specs.Programs.{NameAt}
use Rattle.hys_prog.specs.Steps.{places, places_from, is_auxiliary}
use Rattle.hys_prog.specs.Orders.{IsIn, IsNone, Leads, LeadsTo, Circular, IsReady, IsOrderAfter, IsOrder}
use Rattle.hys_order.specs.Lists.{others}
use Rattle.hys_order.specs.Links.{link, Untaken, Ready, Taking, IsStuck, AreLinksOf, Chain, IsRound}
use Rattle.hys_prog.proofs.Members.{in_at, at_in, none_in, all_of, each_of, first_holds, first_in, first_map, first_same}
use Rattle.hys_order.proofs.Taken.{either_mark, untaken_below, taking_grows}
use Rattle.hys_prog.proofs.Defined.{name_below}
use Rattle.hys_prog.proofs.Names.{IsAuxiliary, aux_at}

-- ---- marks
-- the names marked as taken are those that are no auxiliary, and those that are done
record Marks (p : Program) (done : List ℕ) (taken : List Bool) : Type 0 where
  count : length taken ≡ length p.names
  marked : (n : ℕ) → get_or taken n true ≡ true → IsIn n (places is_auxiliary p) → IsIn n done
  unmarked : (n : ℕ) → Untaken taken n → IsNone n done × IsIn n (places is_auxiliary p)

pub others_count : (xs : List Name) → length (others xs) ≡ length xs
others_count [] = refl
others_count (x ∷ xs) = ap suc (others_count xs)

aux_free : (xs : List Name) (n : ℕ) → NameAt xs n IsAuxiliary → get_or (others xs) n true ≡ true → ⊥
aux_free [] n h e = absurd h
aux_free (x ∷ xs) zero h e = let f : not true ≡ true = rw h at e in absurd (cc)
aux_free (x ∷ xs) (suc n) h e = aux_free xs n h e

free_aux : (xs : List Name) (n k j : ℕ) → j ≡ k + n → Untaken (others xs) n → IsIn j (places_from k is_auxiliary xs)
free_aux [] n k j e h = absurd (cc)
free_aux (x ∷ xs) zero k j e h = go (is_auxiliary x.role) h
  where
    go : (b : Bool) → not b ≡ false → IsIn j (cond b (k ∷ places_from (suc k) is_auxiliary xs) (places_from (suc k) is_auxiliary xs))
    go true h = inl (omega arith)
    go false h = absurd (cc)
free_aux (x ∷ xs) (suc n) k j e h = go (is_auxiliary x.role) (free_aux xs n (suc k) j (omega arith) h)
  where
    go : (b : Bool) → IsIn j (places_from (suc k) is_auxiliary xs) → IsIn j (cond b (k ∷ places_from (suc k) is_auxiliary xs) (places_from (suc k) is_auxiliary xs))
    go true i = inr i
    go false i = i

marks_start : (p : Program) → Marks p [] (others p.names)
marks_start p = record {
  count = others_count p.names;
  marked = λ n e i. absurd (aux_free p.names n (aux_at p n i) e);
  unmarked = λ n u. (tt, free_aux p.names n 0 n (omega arith) u);
}

marks_more : (p : Program) (done : List ℕ) (taken : List Bool) (n : ℕ) → Marks p done taken → Untaken taken n → Marks p (n ∷ done) (set taken n true)
marks_more p done taken n h u = record { count = length-set taken n true ∙ h.count; marked = marked; unmarked = unmarked }
  where
    marked : (m : ℕ) → get_or (set taken n true) m true ≡ true → IsIn m (places is_auxiliary p) → IsIn m (n ∷ done)
    marked m e i = go (cases_eq m n)
      where
        go : (m ≡ n) ⊎ (m ≡ n → ⊥) → IsIn m (n ∷ done)
        go (inl q) = inl (sym q)
        go (inr q) = inr (h.marked m (sym (get_or-set_other taken n m true true q) ∙ e) i)

    unmarked : (m : ℕ) → Untaken (set taken n true) m → IsNone m (n ∷ done) × IsIn m (places is_auxiliary p)
    unmarked m e = go (cases_eq m n)
      where
        go : (m ≡ n) ⊎ (m ≡ n → ⊥) → IsNone m (n ∷ done) × IsIn m (places is_auxiliary p)
        go (inl q) = let b = untaken_below taken n u in
            let g : get_or (set taken n true) n true ≡ true = get_or-set_same taken n true true b in
            let k : get_or (set taken n true) n true ≡ false = rw q at e in absurd (cc)
        go (inr q) = let r = h.unmarked m (sym (get_or-set_other taken n m true true q) ∙ e) in (((λ r. q (sym r)), r.0), r.1)

-- ---- ready names
ready_same : (p : Program) (links : List (List ℕ)) (done : List ℕ) (taken : List Bool) (n : ℕ) → AreLinksOf p links → Marks p done taken → IsIn n (places is_auxiliary p) → Ready taken links n ↔ IsReady p done n
ready_same p links done taken n l h i = (to, from)
  where
    to : Ready taken links n → IsReady p done n
    to r = ((h.unmarked n r.free).0, all_of (λ m. Leads p n m → IsIn m done) (places is_auxiliary p) (λ m j d. done_at m j (at_in (link links n) m ((l.leads n m i).0 d))))
      where
        done_at : (m : ℕ) → IsIn m (places is_auxiliary p) → ((k : ℕ) × (k < length (link links n)) × (get_or (link links n) k 0 ≡ m)) → IsIn m done
        done_at m j k = h.marked m (subst (λ (y : ℕ). get_or taken y true ≡ true) k.2 (r.passed k.0 k.1)) j

    from : IsReady p done n → Ready taken links n
    from r = record { free = free (either_mark taken n); passed = λ k b. passed (get_or (link links n) k 0) (in_at (link links n) k b) (either_mark taken (get_or (link links n) k 0)) }
      where
        free : (get_or taken n true ≡ true) ⊎ Untaken taken n → Untaken taken n
        free (inl e) = absurd (none_in done n r.0 (h.marked n e i))
        free (inr u) = u

        passed : (m : ℕ) → IsIn m (link links n) → (get_or taken m true ≡ true) ⊎ Untaken taken m → get_or taken m true ≡ true
        passed m j (inl e) = e
        passed m j (inr u) = let v = h.unmarked m u in absurd (none_in done m v.0 (each_of (λ m. Leads p n m → IsIn m done) (places is_auxiliary p) m r.1 v.1 ((l.leads n m i).1 j)))

-- ---- the order
taking_order : (p : Program) (links : List (List ℕ)) (done : List ℕ) (taken : List Bool) (ns : List ℕ) (end : List Bool) → AreLinksOf p links → Marks p done taken → Taking links (places is_auxiliary p) taken ns end → ((k : ℕ) → k < length (places is_auxiliary p) → get_or end (get_or (places is_auxiliary p) k 0) true ≡ true) → IsOrderAfter p done ns
taking_order p links done taken [] end l h t a = all_of (λ n. IsIn n done) (places is_auxiliary p) (λ n i. at n i (at_in (places is_auxiliary p) n i))
  where
    at : (n : ℕ) → IsIn n (places is_auxiliary p) → ((k : ℕ) × (k < length (places is_auxiliary p)) × (get_or (places is_auxiliary p) k 0 ≡ n)) → IsIn n done
    at n i k = h.marked n (rw t (subst (λ (y : ℕ). get_or end y true ≡ true) k.2 (a k.0 k.1))) i
taking_order p links done taken (n ∷ ns) end l h t a = (
  first_map (Ready taken links) (IsReady p done) (places is_auxiliary p) n (λ m i. ready_same p links done taken m l h i) t.0,
  taking_order p links (n ∷ done) (set taken n true) ns end l (marks_more p done taken n h (first_holds (Ready taken links) (places is_auxiliary p) n t.0).free) t.1 a,
)

pub ordered : (p : Program) (links : List (List ℕ)) (taken : List Bool) (ns : List ℕ) (end : List Bool) (o : Order) → AreLinksOf p links → taken ≡ others p.names → Taking links (places is_auxiliary p) taken ns end → ((k : ℕ) → k < length (places is_auxiliary p) → get_or end (get_or (places is_auxiliary p) k 0) true ≡ true) → o.names ≡ ns → IsOrder p o
ordered p links taken ns end o l e t a q = rw q (taking_order p links [] taken ns end l (rw e (marks_start p)) t a)

-- ---- rounds
free_start : (p : Program) (links : List (List ℕ)) (taken : List Bool) (ns : List ℕ) (end : List Bool) (n : ℕ) → taken ≡ others p.names → Taking links (places is_auxiliary p) taken ns end → Untaken end n → IsIn n (places is_auxiliary p)
free_start p links taken ns end n e t u = go (either_mark taken n)
  where
    go : (get_or taken n true ≡ true) ⊎ Untaken taken n → IsIn n (places is_auxiliary p)
    go (inl f) = let g : get_or end n true ≡ true = taking_grows links (places is_auxiliary p) taken ns end n t f in absurd (cc)
    go (inr f) = ((marks_start p).unmarked n (rw e at f)).1

chain_leads : (p : Program) (links : List (List ℕ)) (first : ℕ) (ns : List ℕ) → AreLinksOf p links → AllByRecursion (λ m. IsIn m (places is_auxiliary p)) ns → Chain links first ns → LeadsTo p first ns
chain_leads p links first [] l a h = tt
chain_leads p links first (n ∷ []) l a h = (l.leads n first a.0).1 h.0
chain_leads p links first (n ∷ m ∷ ns) l a h = ((l.leads n m a.0).1 h.0, chain_leads p links first (m ∷ ns) l a.1 h.1)

pub circular : (p : Program) (links : List (List ℕ)) (taken : List Bool) (order : List ℕ) (end : List Bool) (ns : List ℕ) → AreLinksOf p links → taken ≡ others p.names → Taking links (places is_auxiliary p) taken order end → IsRound end links ns → Circular p ns
circular p links taken order end [] l e t r = absurd r
circular p links taken order end (n ∷ ns) l e t r =
    let a = all_of (λ m. IsIn m (places is_auxiliary p)) (n ∷ ns) (λ m i. free_start p links taken order end m e t (each_of (Untaken end) (n ∷ ns) m r.free i)) in
    (a, r.different, chain_leads p links n (n ∷ ns) l a r.chain)

pub none_ready : (p : Program) (links : List (List ℕ)) (taken : List Bool) (order : List ℕ) (end : List Bool) → taken ≡ others p.names → Taking links (places is_auxiliary p) taken order end → IsStuck links (places is_auxiliary p) end → (n : ℕ) → Untaken end n → ¬ (Ready end links n)
none_ready p links taken order end e t s n u r = go (at_in (places is_auxiliary p) n (free_start p links taken order end n e t u))
  where
    go : ((k : ℕ) × (k < length (places is_auxiliary p)) × (get_or (places is_auxiliary p) k 0 ≡ n)) → ⊥
    go k = s k.0 k.1 (subst (λ (y : ℕ). Ready end links y) (sym k.2) r)

-- ---- an order excludes circular lists
successor : (p : Program) (first : ℕ) (ns : List ℕ) (n : ℕ) → LeadsTo p first ns → IsIn n ns → (m : ℕ) × (IsIn m ns ⊎ (m ≡ first)) × Leads p n m
successor p first [] n h i = absurd i
successor p first (a ∷ []) n h (inl e) = (first, inr refl, subst (λ (y : ℕ). Leads p y first) e h)
successor p first (a ∷ []) n h (inr i) = absurd i
successor p first (a ∷ b ∷ ns) n h (inl e) = (b, inl (inr (inl refl)), subst (λ (y : ℕ). Leads p y b) e h.0)
successor p first (a ∷ b ∷ ns) n h (inr i) = go (successor p first (b ∷ ns) n h.1 i)
  where
    go : ((m : ℕ) × (IsIn m (b ∷ ns) ⊎ (m ≡ first)) × Leads p n m) → (m : ℕ) × (IsIn m (a ∷ b ∷ ns) ⊎ (m ≡ first)) × Leads p n m
    go r = (r.0, later r.1, r.2)
      where
        later : IsIn r.0 (b ∷ ns) ⊎ (r.0 ≡ first) → IsIn r.0 (a ∷ b ∷ ns) ⊎ (r.0 ≡ first)
        later (inl i) = inl (inr i)
        later (inr e) = inr e

excludes : (p : Program) (c : ℕ) (cs : List ℕ) (taken ns : List ℕ) → Circular p (c ∷ cs) → ((n : ℕ) → IsIn n (c ∷ cs) → IsNone n taken) → IsOrderAfter p taken ns → ⊥
excludes p c cs taken [] h f o = none_in taken c (f c (inl refl)) (each_of (λ n. IsIn n taken) (places is_auxiliary p) c o h.0.0)
excludes p c cs taken (n ∷ ns) h f o = excludes p c cs (n ∷ taken) ns h (λ m i. ((λ e. out m i e), f m i)) o.1
  where
    out : (m : ℕ) → IsIn m (c ∷ cs) → n ≡ m → ⊥
    out m i e = go (successor p c (c ∷ cs) m h.2 i)
      where
        ready : IsReady p taken m
        ready = subst (IsReady p taken) e (first_holds (IsReady p taken) (places is_auxiliary p) n o.0)

        at : (k : ℕ) → IsIn k (c ∷ cs) → Leads p m k → ⊥
        at k j l = none_in taken k (f k j) (each_of (λ q. Leads p m q → IsIn q taken) (places is_auxiliary p) k ready.1 (each_of (λ q. IsIn q (places is_auxiliary p)) (c ∷ cs) k h.0 j) l)

        go : ((k : ℕ) × (IsIn k (c ∷ cs) ⊎ (k ≡ c)) × Leads p m k) → ⊥
        go r = within r.1
          where
            within : IsIn r.0 (c ∷ cs) ⊎ (r.0 ≡ c) → ⊥
            within (inl j) = at r.0 j r.2
            within (inr q) = at r.0 (inl (sym q)) r.2

pub acyclic : (p : Program) (o : Order) (ns : List ℕ) → IsOrder p o → Circular p ns → ⊥
acyclic p o [] h c = absurd c
acyclic p o (c ∷ cs) h r = excludes p c cs [] o.names r (λ n i. tt) h

-- ---- there is one order
same_after : (p : Program) (taken ns ms : List ℕ) → IsOrderAfter p taken ns → IsOrderAfter p taken ms → ns ≡ ms
same_after p taken [] [] h k = refl
same_after p taken [] (m ∷ ms) h k = absurd (none_in taken m (first_holds (IsReady p taken) (places is_auxiliary p) m k.0).0 (each_of (λ n. IsIn n taken) (places is_auxiliary p) m h (first_in (IsReady p taken) (places is_auxiliary p) m k.0)))
same_after p taken (n ∷ ns) [] h k = absurd (none_in taken n (first_holds (IsReady p taken) (places is_auxiliary p) n h.0).0 (each_of (λ n. IsIn n taken) (places is_auxiliary p) n k (first_in (IsReady p taken) (places is_auxiliary p) n h.0)))
same_after p taken (n ∷ ns) (m ∷ ms) h k =
    let e = first_same (IsReady p taken) (places is_auxiliary p) n m h.0 k.0 in
    let r = same_after p (n ∷ taken) ns ms h.1 (subst (λ (y : ℕ). IsOrderAfter p (y ∷ taken) ms) (sym e) k.1) in cc

pub one_order : (p : Program) (o q : Order) → IsOrder p o → IsOrder p q → o.names ≡ q.names
one_order p o q h k = same_after p [] o.names q.names h k

-- ---- the auxiliaries are names
pub auxiliaries_below : (p : Program) (k : ℕ) → k < length (places is_auxiliary p) → get_or (places is_auxiliary p) k 0 < length p.names
auxiliaries_below p k b = name_below IsAuxiliary p.names (get_or (places is_auxiliary p) k 0) (aux_at p (get_or (places is_auxiliary p) k 0) (in_at (places is_auxiliary p) k b))
