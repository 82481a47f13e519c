-- Every program has an order of definition or a circular list: a model on lists, which no memory can stop.
use Rattle.std.proofs.Common.{◌≡◌, ℕ, zero, suc, ◌+◌, ◌<◌, ◌≤◌, List, [], ◌∷◌, ◌++◌, Bool, true, false, cond, length, get_or, set, drop, length-set, refl, sym, ◌∙◌, ap, subst, arith, inl, inr, ◌⊎◌, replicate}
use Rattle.hys_prog.specs.declared.program.Program.{Program}
use Rattle.hys_prog.specs.declared.program.ProgItem.{ProgItem}
use Rattle.hys_prog.specs.declared.program.Name.{Name}
use Rattle.hys_prog.specs.declared.program.Order.{Order}
use Rattle.hys_prog.specs.Programs.{IsProgram, definitions, is_named, is_defined}
use Rattle.hys_prog.specs.Places.{ItemAt, Defines, ArePlaces}
use Rattle.hys_prog.specs.Steps.{places, is_auxiliary}
use Rattle.hys_prog.specs.Orders.{IsIn, IsFirst, IsOrder, Circular}
use Rattle.hys_prog.proofs.Defined.{name_below, some_named}
use Rattle.hys_prog.proofs.Members.{at_in}
use Rattle.hys_order.specs.Lists.{links_from, others}
use Rattle.hys_order.specs.Links.{link, Untaken, unset, Passed, Ready, Taking, IsStuck, IsRound, AreLinksOf}
use Rattle.hys_order.proofs.Taken.{either_mark, untaken_below, unset_set, ready_untaken}
use Rattle.hys_order.proofs.Linked.{linked}
use Rattle.hys_order.proofs.Rounds.{IsPath, path_start, path_more, path_end}
use Rattle.hys_order.proofs.Definable.{others_count, ordered, circular, none_ready}

-- ---- one or the other
passed_or : (taken : List Bool) (ms : List ℕ) → Passed taken ms (length ms) ⊎ ((m : ℕ) × IsIn m ms × Untaken taken m)
passed_or taken [] = inl (λ k b. absurd (omega arith))
passed_or taken (m ∷ ms) = go (either_mark taken m) (passed_or taken ms)
  where
    go : (get_or taken m true ≡ true) ⊎ Untaken taken m → Passed taken ms (length ms) ⊎ ((m : ℕ) × IsIn m ms × Untaken taken m) → Passed taken (m ∷ ms) (length (m ∷ ms)) ⊎ ((n : ℕ) × IsIn n (m ∷ ms) × Untaken taken n)
    go (inr u) r = inr (m, inl refl, u)
    go (inl e) (inr r) = inr (r.0, inr r.1, r.2)
    go (inl e) (inl h) = inl at
      where
        at : (k : ℕ) → k < length (m ∷ ms) → get_or taken (get_or (m ∷ ms) k 0) true ≡ true
        at zero b = e
        at (suc k) b = h k (omega arith)

ready_or : (taken : List Bool) (links : List (List ℕ)) (n : ℕ) → Ready taken links n ⊎ ¬ (Ready taken links n)
ready_or taken links n = go (either_mark taken n) (passed_or taken (link links n))
  where
    go : (get_or taken n true ≡ true) ⊎ Untaken taken n → Passed taken (link links n) (length (link links n)) ⊎ ((m : ℕ) × IsIn m (link links n) × Untaken taken m) → Ready taken links n ⊎ ¬ (Ready taken links n)
    go (inl e) p = inr (λ r. let f = r.free in absurd (cc))
    go (inr u) (inl p) = inl (record { free = u; passed = p })
    go (inr u) (inr m) = inr (λ r. off r (at_in (link links n) m.0 m.1))
      where
        off : Ready taken links n → ((k : ℕ) × (k < length (link links n)) × (get_or (link links n) k 0 ≡ m.0)) → ⊥
        off r k = let f = m.2 in let e : get_or taken m.0 true ≡ true = subst (λ (y : ℕ). get_or taken y true ≡ true) k.2 (r.passed k.0 k.1) in absurd (cc)

first_or : (P : ℕ → Type 0) → ((n : ℕ) → P n ⊎ ¬ (P n)) → (xs : List ℕ) → ((n : ℕ) × IsFirst P n xs) ⊎ ((k : ℕ) → k < length xs → ¬ (P (get_or xs k 0)))
first_or P d [] = inr (λ k b. absurd (omega arith))
first_or P d (x ∷ xs) = go (d x) (first_or P d xs)
  where
    go : P x ⊎ ¬ (P x) → ((n : ℕ) × IsFirst P n xs) ⊎ ((k : ℕ) → k < length xs → ¬ (P (get_or xs k 0))) → ((n : ℕ) × IsFirst P n (x ∷ xs)) ⊎ ((k : ℕ) → k < length (x ∷ xs) → ¬ (P (get_or (x ∷ xs) k 0)))
    go (inl h) r = inl (x, inl (h, refl))
    go (inr h) (inl r) = inl (r.0, inr (h, r.1))
    go (inr h) (inr r) = inr at
      where
        at : (k : ℕ) → k < length (x ∷ xs) → ¬ (P (get_or (x ∷ xs) k 0))
        at zero b = h
        at (suc k) b = r k (omega arith)

-- ---- again and again the first that is ready
record Taken (links : List (List ℕ)) (names : List ℕ) (taken : List Bool) : Type 0 where
  order : List ℕ
  end : List Bool
  taking : Taking links names taken order end
  stuck : IsStuck links names end

take_first : (links : List (List ℕ)) (names : List ℕ) (taken : List Bool) → ((n : ℕ) → unset (set taken n true) < unset taken → Taken links names (set taken n true)) → ((n : ℕ) × IsFirst (Ready taken links) n names) ⊎ IsStuck links names taken → Taken links names taken
take_first links names taken more (inr s) = record { order = []; end = taken; taking = refl; stuck = s }
take_first links names taken more (inl f) =
    let r = more f.0 (unset_set taken f.0 (ready_untaken taken links names f.0 f.1)) in
    record { order = f.0 ∷ r.order; end = r.end; taking = (f.1, r.taking); stuck = r.stuck }

take_all : (links : List (List ℕ)) (names : List ℕ) (count : ℕ) (taken : List Bool) → unset taken ≤ count → Taken links names taken
take_all links names zero taken b = take_first links names taken (λ n l. absurd (omega arith)) (first_or (Ready taken links) (ready_or taken links) names)
take_all links names (suc count) taken b = take_first links names taken (λ n l. take_all links names count (set taken n true) (omega arith)) (first_or (Ready taken links) (ready_or taken links) names)

taking_count : (links : List (List ℕ)) (names : List ℕ) (taken : List Bool) (ns : List ℕ) (end : List Bool) → Taking links names taken ns end → length end ≡ length taken
taking_count links names taken [] end h = ap (λ (bs : List Bool). length bs) (sym h)
taking_count links names taken (n ∷ ns) end h = taking_count links names (set taken n true) ns end h.1 ∙ length-set taken n true

-- ---- from an untaken name to untaken names until one comes again
abbrev IsAnyRound : List Bool → List (List ℕ) → Type 0
IsAnyRound taken links = (ns : List ℕ) × IsRound taken links ns

path_on : (taken : List Bool) (links : List (List ℕ)) (seen : List Bool) (path : List ℕ) (name : ℕ) → length taken ≡ length links → ((n : ℕ) → Untaken taken n → ¬ (Ready taken links n)) → IsPath taken links seen path name →
    ((next : ℕ) → unset (set seen name true) < unset seen → IsPath taken links (set seen name true) (path ++ name ∷ []) next → IsAnyRound taken links) → IsAnyRound taken links
path_on taken links seen path name c stuck h more = go (either_mark seen name) (passed_or taken (link links name))
  where
    ended : ((k : ℕ) × (k < length path) × (get_or path k 0 ≡ name)) → IsAnyRound taken links
    ended k = (drop k.0 path, path_end taken links seen path name k.0 h k.1 k.2)

    go : (get_or seen name true ≡ true) ⊎ Untaken seen name → Passed taken (link links name) (length (link links name)) ⊎ ((m : ℕ) × IsIn m (link links name) × Untaken taken m) → IsAnyRound taken links
    go (inl s) r = let b = untaken_below taken name h.free in ended (at_in path name (h.on name (omega arith) s))
    go (inr u) (inl p) = absurd (stuck name h.free (record { free = h.free; passed = p }))
    go (inr u) (inr m) = more m.0 (unset_set seen name u) (path_more taken links seen path name m.0 h u m.1 m.2)

round_of : (taken : List Bool) (links : List (List ℕ)) (count : ℕ) (seen : List Bool) (path : List ℕ) (name : ℕ) → length taken ≡ length links → ((n : ℕ) → Untaken taken n → ¬ (Ready taken links n)) → unset seen ≤ count → IsPath taken links seen path name → IsAnyRound taken links
round_of taken links zero seen path name c stuck b h = path_on taken links seen path name c stuck h (λ next l i. absurd (omega arith))
round_of taken links (suc count) seen path name c stuck b h = path_on taken links seen path name c stuck h (λ next l i. round_of taken links count (set seen name true) (path ++ name ∷ []) next c stuck (omega arith) i)

-- ---- a program's lists
abbrev first_place : List ProgItem → ℕ → ℕ
first_place [] n = 0
first_place (t ∷ ts) n = cond (is_named n t.name) 0 (suc (first_place ts n))

first_defines : (n : ℕ) (ts : List ProgItem) → 0 < definitions n ts → ItemAt ts (first_place ts n) (Defines n)
first_defines n [] h = absurd (omega arith)
first_defines n (t ∷ ts) h = go (λ k. first_defines n ts k) (is_named n t.name) refl h
  where
    go : (0 < definitions n ts → ItemAt ts (first_place ts n) (Defines n)) → (b : Bool) → is_named n t.name ≡ b → 0 < cond b 1 0 + definitions n ts → ItemAt (t ∷ ts) (cond b 0 (suc (first_place ts n))) (Defines n)
    go more true e h = some_named n t.name e
    go more false e h = more (omega arith)

abbrev first_places : List ProgItem → ℕ → List Name → List ℕ
first_places ts k [] = []
first_places ts k (x ∷ xs) = first_place ts k ∷ first_places ts (suc k) xs

first_places_at : (ts : List ProgItem) (k : ℕ) (xs : List Name) (i n : ℕ) → n ≡ k + i → i < length xs → get_or (first_places ts k xs) i 0 ≡ first_place ts n
first_places_at ts k [] i n e b = absurd (omega arith)
first_places_at ts k (x ∷ xs) zero n e b = let q : k ≡ n = omega arith in ap (λ (y : ℕ). first_place ts y) q
first_places_at ts k (x ∷ xs) (suc i) n e b = first_places_at ts (suc k) xs i n (omega arith) (omega arith)

are_places : (p : Program) → IsProgram p → ArePlaces p (first_places p.items 0 p.names)
are_places p g n d =
    let b = name_below (λ (x : Name). is_defined x.role ≡ true) p.names n d in
    let c = g.once n d in
    rw (first_places_at p.items 0 p.names n n (omega arith) b) (first_defines n p.items (omega arith))

-- ---- the law
pub order_or_cycle : (p : Program) → IsProgram p → ((o : Order) × IsOrder p o) ⊎ ((ns : List ℕ) × Circular p ns)
order_or_cycle p g = go (take_all links (places is_auxiliary p) (unset (others p.names)) (others p.names) (omega arith))
  where
    links : List (List ℕ)
    links = links_from p.items (first_places p.items 0 p.names) 0 p.names

    are_links : AreLinksOf p links
    are_links = linked p (first_places p.items 0 p.names) links g (are_places p g) refl

    go : Taken links (places is_auxiliary p) (others p.names) → ((o : Order) × IsOrder p o) ⊎ ((ns : List ℕ) × Circular p ns)
    go t = end (passed_or t.end (places is_auxiliary p))
      where
        end : Passed t.end (places is_auxiliary p) (length (places is_auxiliary p)) ⊎ ((m : ℕ) × IsIn m (places is_auxiliary p) × Untaken t.end m) → ((o : Order) × IsOrder p o) ⊎ ((ns : List ℕ) × Circular p ns)
        end (inl a) = inl (record { names = t.order }, ordered p links (others p.names) t.order t.end (record { names = t.order }) are_links refl t.taking a refl)
        end (inr m) =
            let c : length t.end ≡ length links = taking_count links (places is_auxiliary p) (others p.names) t.order t.end t.taking ∙ others_count p.names ∙ sym are_links.count in
            let s = none_ready p links (others p.names) t.order t.end refl t.taking t.stuck in
            let r = round_of t.end links (unset (replicate (length links) false)) (replicate (length links) false) [] m.0 c s (omega arith) (path_start t.end links (replicate (length links) false) m.0 m.2 refl) in
            inr (r.0, circular p links (others p.names) t.order t.end r.0 are_links refl t.taking r.1)
