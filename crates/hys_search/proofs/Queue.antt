-- The waiting nodes: the one that was picked leaves the list, new ones stand at its front.
use Rattle.std.proofs.Common.{◌≡◌, ℕ, zero, suc, ◌<◌, ◌≤◌, Bool, true, false, List, [], ◌∷◌, ◌++◌, length, get_or, set, map, refl, ◌∙◌, ap, ap₂, arith, if◌then◌else◌}
use Rattle.std.specs.List.{remove}
use Rattle.std.proofs.lemmas.List.{get_or_append_left, get_or-set_same, get_or-set_other}
use Rattle.hys_search.specs.Nodes.{no_node, node_at, waits, waits_below}
use Rattle.hys_search.specs.declared.nodes.Node.{Node}
use Rattle.hys_search.specs.declared.nodes.Waiting.{Waiting}

-- lists that agree at the first n places
waits_same : (ns ms : List Node) (n : ℕ) → ((k : ℕ) → k < n → node_at ms k ≡ node_at ns k) → waits_below ms n ≡ waits_below ns n
waits_same ns ms zero h = refl
waits_same ns ms (suc n) h = ap₂ (λ (x : Node) (xs : List ℕ). if waits x.standing then n ∷ xs else xs) (h n (omega arith)) (waits_same ns ms n (λ k l. h k (omega arith)))

pub waits-append : (ns zs : List Node) (n : ℕ) → n ≤ length ns → waits_below (ns ++ zs) n ≡ waits_below ns n
waits-append ns zs n l = waits_same ns (ns ++ zs) n (λ k m. get_or_append_left ns zs no_node k (omega arith))

-- what stands at a place of the list of waiting nodes
pub record IsPicked (ns : List Node) (n : ℕ) (queue : List ℕ) (which : ℕ) : Type 0 where
  pub place : ℕ
  pub there : place < n
  pub is : get_or queue which 0 ≡ place
  pub waiting : waits (node_at ns place).standing ≡ true
  pub gone : (y : Node) → waits y.standing ≡ false → waits_below (set ns place y) n ≡ remove queue which

passed : (n : ℕ) (x : Node) (xs : List ℕ) → waits x.standing ≡ false → (if waits x.standing then n ∷ xs else xs) ≡ xs
passed n x xs e = ap (λ b. if b then n ∷ xs else xs) e

stays : (n : ℕ) (x : Node) (xs : List ℕ) → waits x.standing ≡ true → (if waits x.standing then n ∷ xs else xs) ≡ n ∷ xs
stays n x xs e = ap (λ b. if b then n ∷ xs else xs) e

picked_here : (ns : List Node) (n : ℕ) → n < length ns → waits (node_at ns n).standing ≡ true → IsPicked ns (suc n) (n ∷ waits_below ns n) zero
picked_here ns n l e = record {
  place = n;
  there = omega arith;
  is = refl;
  waiting = e;
  gone = λ y f.
      passed n (node_at (set ns n y) n) (waits_below (set ns n y) n) (ap (λ x. waits x.standing) (get_or-set_same ns n y no_node l) ∙ f)
      ∙ waits_same ns (set ns n y) n (λ k m. get_or-set_other ns n k y no_node (omega arith));
}

-- the last of the first nodes is another one
picked_behind : (ns : List Node) (n w : ℕ) → waits (node_at ns n).standing ≡ true → IsPicked ns n (waits_below ns n) w → IsPicked ns (suc n) (n ∷ waits_below ns n) (suc w)
picked_behind ns n w e p = let t = p.there in record {
  place = p.place;
  there = omega arith;
  is = p.is;
  waiting = p.waiting;
  gone = λ y f.
      stays n (node_at (set ns p.place y) n) (waits_below (set ns p.place y) n) (ap (λ x. waits x.standing) (get_or-set_other ns p.place n y no_node (omega arith)) ∙ e)
      ∙ ap (λ z. n ∷ z) (p.gone y f);
}

picked_past : (ns : List Node) (n w : ℕ) → waits (node_at ns n).standing ≡ false → IsPicked ns n (waits_below ns n) w → IsPicked ns (suc n) (waits_below ns n) w
picked_past ns n w e p = let t = p.there in record {
  place = p.place;
  there = omega arith;
  is = p.is;
  waiting = p.waiting;
  gone = λ y f.
      passed n (node_at (set ns p.place y) n) (waits_below (set ns p.place y) n) (ap (λ x. waits x.standing) (get_or-set_other ns p.place n y no_node (omega arith)) ∙ e)
      ∙ p.gone y f;
}

picked_last : (ns : List Node) (n which : ℕ) (b : Bool) → n < length ns → waits (node_at ns n).standing ≡ b → ((w : ℕ) → w < length (waits_below ns n) → IsPicked ns n (waits_below ns n) w) → which < length (if b then n ∷ waits_below ns n else waits_below ns n) → IsPicked ns (suc n) (if b then n ∷ waits_below ns n else waits_below ns n) which
picked_last ns n which false t e rest l = picked_past ns n which e (rest which l)
picked_last ns n zero true t e rest l = picked_here ns n t e
picked_last ns n (suc w) true t e rest l = picked_behind ns n w e (rest w (omega arith))

pub picked : (ns : List Node) (n which : ℕ) → n ≤ length ns → which < length (waits_below ns n) → IsPicked ns n (waits_below ns n) which
picked ns zero which t l = absurd (omega arith)
picked ns (suc n) which t l = picked_last ns n which (waits (node_at ns n).standing) (omega arith) refl (λ w h. picked ns n w (omega arith) h) l

-- two functions that agree at the waiting nodes
map_if : (g h : ℕ → Waiting) (b : Bool) (i : ℕ) (xs : List ℕ) → (b ≡ true → g i ≡ h i) → map g xs ≡ map h xs → map g (if b then i ∷ xs else xs) ≡ map h (if b then i ∷ xs else xs)
map_if g h true i xs e m = ap₂ (λ x y. x ∷ y) (e refl) m
map_if g h false i xs e m = m

pub map-waits : (g h : ℕ → Waiting) (ns : List Node) (n : ℕ) → ((k : ℕ) → k < n → waits (node_at ns k).standing ≡ true → g k ≡ h k) → map g (waits_below ns n) ≡ map h (waits_below ns n)
map-waits g h ns zero e = refl
map-waits g h ns (suc n) e = map_if g h (waits (node_at ns n).standing) n (waits_below ns n) (λ t. e n (omega arith) t) (map-waits g h ns n (λ k l t. e k (omega arith) t))

pub map-remove : (g : ℕ → Waiting) (xs : List ℕ) (i : ℕ) → remove (map g xs) i ≡ map g (remove xs i)
map-remove g [] zero = refl
map-remove g [] (suc i) = refl
map-remove g (x ∷ xs) zero = refl
map-remove g (x ∷ xs) (suc i) = ap (λ z. g x ∷ z) (map-remove g xs i)
