-- Rounds of names that aren't taken.
use Rattle.std.proofs.Common.{◌≡◌, ℕ, zero, suc, ◌<◌, ◌≤◌, List, [], ◌∷◌, ◌++◌, Bool, true, false, length, get_or, set, take, drop, length-set, get_or-set_same, get_or-set_other, refl, sym, ◌∙◌, ap, subst, arith, inl, inr, ◌⊎◌, append-nil, replicate}
use Rattle.std.proofs.lemmas.List.{get_or-replicate, length-replicate}
use Rattle.std.specs.List.{AllByRecursion}
use Rattle.std.proofs.lemmas.Bool.{cases_eq, cases_lt}
use Rattle.hys_prog.specs.Orders.{IsIn, IsNone, AreDifferent}
use Rattle.hys_order.specs.Links.{link, Untaken, Passed, Ready, head_or, Chain, IsRound, IsTurned}
use Rattle.hys_order.specs.Answers.{BeginsWithLeast}
use Rattle.hys_prog.proofs.Members.{in_at, at_in, all_of, in_left, in_right, in_parts, none_parts, different_between, different_turned, different_right, all_parts, all_left, all_right}
use Rattle.hys_order.proofs.Taken.{untaken_below, untaken_at}

-- ---- chains
pub chain_parts : (links : List (List ℕ)) (f : ℕ) (xs ys : List ℕ) → Chain links f (xs ++ ys) → Chain links (head_or f ys) xs × Chain links f ys
chain_parts links f [] ys h = (tt, h)
chain_parts links f (x ∷ []) [] h = ((h.0, tt), h.1)
chain_parts links f (x ∷ []) (y ∷ ys) h = ((h.0, tt), h.1)
chain_parts links f (x ∷ a ∷ xs) ys h = let r = chain_parts links f (a ∷ xs) ys h.1 in ((h.0, r.0), r.1)

pub chain_joined : (links : List (List ℕ)) (f : ℕ) (xs ys : List ℕ) → Chain links (head_or f ys) xs → Chain links f ys → Chain links f (xs ++ ys)
chain_joined links f [] ys a b = b
chain_joined links f (x ∷ []) [] a b = a
chain_joined links f (x ∷ []) (y ∷ ys) a b = (a.0, b)
chain_joined links f (x ∷ z ∷ xs) ys a b = (a.0, chain_joined links f (z ∷ xs) ys a.1 b)

-- ---- the path
-- a path of different names that aren't taken, each leading to the next and the last to a name; those seen are
-- the names of the path
pub record IsPath (taken : List Bool) (links : List (List ℕ)) (seen : List Bool) (path : List ℕ) (name : ℕ) : Type 0 where
  pub count : length seen ≡ length links
  pub free : Untaken taken name
  pub frees : AllByRecursion (Untaken taken) path
  pub different : AreDifferent path
  pub chain : Chain links name path
  pub on : (n : ℕ) → n < length links → get_or seen n true ≡ true → IsIn n path
  pub off : (n : ℕ) → Untaken seen n → IsNone n path

below_true : (n k : ℕ) → k < n → get_or (replicate n false) k true ≡ false
below_true n k h = get_or-replicate n k false true h

pub path_start : (taken : List Bool) (links : List (List ℕ)) (seen : List Bool) (start : ℕ) → Untaken taken start → seen ≡ replicate (length links) false → IsPath taken links seen [] start
path_start taken links seen start u e = rw e (record {
  count = length-replicate (length links) false;
  free = u;
  frees = tt;
  different = tt;
  chain = tt;
  on = λ n b h. let f = below_true (length links) n b in absurd (cc);
  off = λ n h. tt;
})

pub path_more : (taken : List Bool) (links : List (List ℕ)) (seen : List Bool) (path : List ℕ) (name next : ℕ) → IsPath taken links seen path name → Untaken seen name → IsIn next (link links name) → Untaken taken next → IsPath taken links (set seen name true) (path ++ name ∷ []) next
path_more taken links seen path name next h u i f = record {
  count = length-set seen name true ∙ h.count;
  free = f;
  frees = all_parts (Untaken taken) path (name ∷ []) h.frees (h.free, tt);
  different = different_between path [] name (rw append-nil h.different) (rw append-nil (h.off name u));
  chain = chain_joined links next path (name ∷ []) h.chain (i, tt);
  on = on;
  off = off;
}
  where
    on : (n : ℕ) → n < length links → get_or (set seen name true) n true ≡ true → IsIn n (path ++ name ∷ [])
    on n b e = go (cases_eq n name)
      where
        go : (n ≡ name) ⊎ (n ≡ name → ⊥) → IsIn n (path ++ name ∷ [])
        go (inl q) = in_right path (name ∷ []) n (inl (sym q))
        go (inr q) = in_left path (name ∷ []) n (h.on n b (sym (get_or-set_other seen name n true true q) ∙ e))

    off : (n : ℕ) → Untaken (set seen name true) n → IsNone n (path ++ name ∷ [])
    off n e = go (cases_eq n name)
      where
        go : (n ≡ name) ⊎ (n ≡ name → ⊥) → IsNone n (path ++ name ∷ [])
        go (inl q) = let b = untaken_below seen name u in
            let g : get_or (set seen name true) name true ≡ true = get_or-set_same seen name true true b in
            let k : get_or (set seen name true) name true ≡ false = rw q at e in absurd (cc)
        go (inr q) = none_parts path (name ∷ []) n (h.off n (sym (get_or-set_other seen name n true true q) ∙ e)) (λ r. q (sym r), tt)

-- ---- the round at its end
dropped : (xs : List ℕ) (k n : ℕ) → k < length xs → get_or xs k 0 ≡ n → drop k xs ≡ n ∷ drop (suc k) xs
dropped [] k n b e = absurd (omega arith)
dropped (x ∷ xs) zero n b e = ap (λ (y : ℕ). y ∷ xs) e
dropped (x ∷ xs) (suc k) n b e = dropped xs k n (omega arith) e

parts : (xs : List ℕ) (k : ℕ) → take k xs ++ drop k xs ≡ xs
parts [] zero = refl
parts [] (suc k) = refl
parts (x ∷ xs) zero = refl
parts (x ∷ xs) (suc k) = ap (λ (ys : List ℕ). x ∷ ys) (parts xs k)

pub path_end : (taken : List Bool) (links : List (List ℕ)) (seen : List Bool) (path : List ℕ) (name from : ℕ) → IsPath taken links seen path name → from < length path → get_or path from 0 ≡ name → IsRound taken links (drop from path)
path_end taken links seen path name from h b e =
    let q : take from path ++ name ∷ drop (suc from) path ≡ path = rw (← dropped path from name b e) (parts path from) in
    rw (dropped path from name b e) (record {
      free = all_right (Untaken taken) (take from path) (name ∷ drop (suc from) path) (rw q h.frees);
      different = different_right (take from path) (name ∷ drop (suc from) path) (rw q h.different);
      chain = (chain_parts links name (take from path) (name ∷ drop (suc from) path) (rw q h.chain)).1;
    })

-- a name that was seen stands at a place of the path
pub found_within : (taken : List Bool) (links : List (List ℕ)) (seen : List Bool) (path : List ℕ) (name from : ℕ) → length taken ≡ length links → IsPath taken links seen path name → get_or seen name true ≡ true → from ≤ length path → ((k : ℕ) → k < from → ¬ (get_or path k 0 ≡ name)) → from < length path
found_within taken links seen path name from c h s w before =
    let b = untaken_below taken name h.free in
    let r = at_in path name (h.on name (omega arith) s) in
    go r.0 r.1 r.2 (cases_lt r.0 from)
  where
    go : (k : ℕ) → k < length path → get_or path k 0 ≡ name → (k < from) ⊎ (from ≤ k) → from < length path
    go k b e (inl l) = absurd (before k l e)
    go k b e (inr l) = omega arith

-- a name that isn't ready leads to one that isn't taken
pub place_within : (taken : List Bool) (links : List (List ℕ)) (name place : ℕ) → Untaken taken name → ¬ (Ready taken links name) → place ≤ length (link links name) → Passed taken (link links name) place → place < length (link links name)
place_within taken links name place u r w p = go (cases_lt place (length (link links name)))
  where
    go : (place < length (link links name)) ⊎ (length (link links name) ≤ place) → place < length (link links name)
    go (inl l) = l
    go (inr l) = absurd (r (record { free = u; passed = λ k b. p k (omega arith) }))

-- ---- one turn
linked_list : (links : List (List ℕ)) (n : ℕ) (ls : List ℕ) → n < length links → ls ≡ get_or links n ls → ls ≡ link links n
linked_list [] n ls b e = absurd (omega arith)
linked_list (x ∷ xs) zero ls b e = e
linked_list (x ∷ xs) (suc n) ls b e = linked_list xs n ls (omega arith) e

pub unseen : (seen : List Bool) (n : ℕ) (b : Bool) → n < length seen → b ≡ get_or seen n b → b ≡ false → Untaken seen n
unseen seen n b l e f = untaken_at seen n b l (sym e ∙ f)

pub name_within : (taken : List Bool) (links : List (List ℕ)) (seen : List Bool) (path : List ℕ) (name : ℕ) → IsPath taken links seen path name → length taken ≡ length links → name < length seen
name_within taken links seen path name h c = let b = untaken_below taken name h.free in let e = h.count in omega arith

pub path_onward : (taken : List Bool) (links : List (List ℕ)) (seen : List Bool) (path : List ℕ) (name : ℕ) (ms ls : List ℕ) (place : ℕ) (b : Bool) →
    IsPath taken links seen path name → length taken ≡ length links → ((n : ℕ) → Untaken taken n → ¬ (Ready taken links n)) →
    b ≡ get_or seen name b → b ≡ false → ms ≡ ls → ls ≡ get_or links name ls →
    place ≤ length ms → Passed taken ms place → (place < length ms → get_or taken (get_or ms place 0) true ≡ false) →
    IsPath taken links (set seen name true) (path ++ name ∷ []) (get_or ms place 0)
path_onward taken links seen path name ms ls place b h c stuck e f m l w p here =
    let v = name_within taken links seen path name h c in
    let k = h.count in
    let q : ms ≡ link links name = m ∙ linked_list links name ls (omega arith) l in
    let i : place < length ms = rw q (place_within taken links name place h.free (stuck name h.free) (rw q at w) (rw q at p)) in
    path_more taken links seen path name (get_or ms place 0) h (unseen seen name b v e f) (rw (← q) (in_at ms place i)) (here i)

-- ---- the round from its least name on
turned_chain : (links : List (List ℕ)) (n b : ℕ) (bs xs ys : List ℕ) → xs ++ b ∷ bs ≡ n ∷ ys → Chain links n (xs ++ b ∷ bs) → Chain links b ((b ∷ bs) ++ xs)
turned_chain links n b bs [] ys e h = subst (λ (zs : List ℕ). Chain links b (b ∷ zs)) (sym (append-nil bs)) (let q : n ≡ b = cc in subst (λ (y : ℕ). Chain links y (b ∷ bs)) q h)
turned_chain links n b bs (x ∷ xs) ys e h =
    let r = chain_parts links n (x ∷ xs) (b ∷ bs) h in
    let q : n ≡ x = cc in
    chain_joined links b (b ∷ bs) (x ∷ xs) (subst (λ (y : ℕ). Chain links y (b ∷ bs)) q r.1) r.0

pub turned_round : (taken : List Bool) (links : List (List ℕ)) (ns ms : List ℕ) → IsRound taken links ns → IsTurned ns ms → IsRound taken links ms × BeginsWithLeast ms
turned_round taken links [] ms h t = absurd h
turned_round taken links (n ∷ ns) ms h t = go (take t.place (n ∷ ns)) (drop t.place (n ∷ ns)) (get_or (n ∷ ns) t.place 0) (dropped (n ∷ ns) t.place (get_or (n ∷ ns) t.place 0) t.within refl) (parts (n ∷ ns) t.place) t.turned_is (λ m i. let r = at_in (n ∷ ns) m i in subst (λ (y : ℕ). get_or (n ∷ ns) t.place 0 ≤ y) r.2 (t.least r.0 r.1))
  where
    go : (xs ds : List ℕ) (b : ℕ) → ds ≡ b ∷ drop (suc t.place) (n ∷ ns) → xs ++ ds ≡ n ∷ ns → ms ≡ ds ++ xs → ((m : ℕ) → IsIn m (n ∷ ns) → b ≤ m) → IsRound taken links ms × BeginsWithLeast ms
    go xs ds b d q e l = at (drop (suc t.place) (n ∷ ns)) (rw d at q) (rw d at e)
      where
        at : (bs : List ℕ) → xs ++ b ∷ bs ≡ n ∷ ns → ms ≡ (b ∷ bs) ++ xs → IsRound taken links ms × BeginsWithLeast ms
        at bs q e = rw e (
          record {
            free = all_parts (Untaken taken) (b ∷ bs) xs (all_right (Untaken taken) xs (b ∷ bs) (rw q h.free)) (all_left (Untaken taken) xs (b ∷ bs) (rw q h.free));
            different = different_turned xs (b ∷ bs) (rw q h.different);
            chain = turned_chain links n b bs xs ns q (rw q h.chain);
          },
          all_of (λ m. b ≤ m) (bs ++ xs) (λ m i. l m (rw q at (inside m (in_parts bs xs m i)))),
        )
          where
            inside : (m : ℕ) → IsIn m bs ⊎ IsIn m xs → IsIn m (xs ++ b ∷ bs)
            inside m (inl i) = in_right xs (b ∷ bs) m (inr i)
            inside m (inr i) = in_left xs (b ∷ bs) m i
