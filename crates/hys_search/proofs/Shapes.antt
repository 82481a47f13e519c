-- The tree of the nodes: unchanged where leaves stay leaves, and how a leaf that gets children changes it.
use Rattle.std.proofs.Common.{◌≡◌, ◌≢◌, ℕ, zero, suc, ◌+◌, ◌*◌, ◌<◌, ◌≤◌, Bool, true, false, List, length, refl, sym, ◌∙◌, ap, ap₂, subst, arith, Option, Some, None, ◌==◌, if◌then◌else◌}
use Rattle.hys_search.specs.Nodes.{IsRising, Shape, child_at, fork, grow, shape, shape_at, sum_below, tip, weigh}
use Rattle.hys_search.specs.declared.nodes.Node.{Node}

pub same_test : (j i : ℕ) → j == i ≡ true → j ≡ i
same_test j i e = grind arith

pub other_test : (j i : ℕ) → j == i ≡ false → j ≢ i
other_test j i e = grind arith

grow_same : (i : ℕ) (o : Option ℕ) (a b : ℕ → Shape) → ((k : ℕ) → o ≡ Some k → (a k ≡ b k) × (a (suc k) ≡ b (suc k))) → grow i o a ≡ grow i o b
grow_same i None a b h = refl
grow_same i (Some k) a b h = ap₂ (λ x y. fork i x y) (h k refl).0 (h k refl).1

-- more turns than nodes that are left change nothing
pub enough : (ns : List Node) → IsRising ns → (turns j : ℕ) → j < length ns → length ns ≤ turns + j → shape_at ns (suc turns) j ≡ shape_at ns turns j
enough ns r zero j l m = absurd (omega arith)
enough ns r (suc turns) j l m = grow_same j (child_at ns j) (shape_at ns (suc turns)) (shape_at ns turns) (λ k e. let w : (j < k) × (suc k < length ns) = r.rises j k l e in (enough ns r turns k (omega arith) (omega arith), enough ns r turns (suc k) w.1 (omega arith)))

-- the tree depends on the children alone
pub same_children : (ns ms : List Node) → ((j : ℕ) → child_at ns j ≡ child_at ms j) → (turns j : ℕ) → shape_at ns turns j ≡ shape_at ms turns j
same_children ns ms h zero j = refl
same_children ns ms h (suc turns) j = ap (λ o. grow j o (shape_at ns turns)) (h j) ∙ grow_same j (child_at ms j) (shape_at ns turns) (shape_at ms turns) (λ k e. (same_children ns ms h turns k, same_children ns ms h turns (suc k)))

-- the tree with two tips below the tip i
abbrev pub graft : ℕ → ℕ → Shape → Shape
graft i n (tip j) = if j == i then fork j (tip n) (tip (suc n)) else tip j
graft i n (fork j a b) = fork j (graft i n a) (graft i n b)

-- the second list has children of i at its end, and is else the first
pub record IsBranched (ns ms : List Node) (i : ℕ) : Type 0 where
  pub here : i < length ns
  pub was : child_at ns i ≡ None
  pub is : child_at ms i ≡ Some (length ns)
  pub others : (j : ℕ) → j < length ns → j ≢ i → child_at ms j ≡ child_at ns j
  pub first : child_at ms (length ns) ≡ None
  pub second : child_at ms (suc (length ns)) ≡ None
  pub longer : length ms ≡ suc (suc (length ns))

at_tip : (ms : List Node) (turns j : ℕ) → child_at ms j ≡ None → shape_at ms turns j ≡ tip j
at_tip ms zero j e = refl
at_tip ms (suc turns) j e = ap (λ o. grow j o (shape_at ms turns)) e

graft_same : (i : ℕ) → (n : ℕ) → graft i n (tip i) ≡ fork i (tip n) (tip (suc n))
graft_same i n = go (i == i) refl
  where
    go : (b : Bool) → i == i ≡ b → (if b then fork i (tip n) (tip (suc n)) else tip i) ≡ fork i (tip n) (tip (suc n))
    go true e = refl
    go false e = absurd (grind arith)

graft_other : (i n j : ℕ) → j ≢ i → graft i n (tip j) ≡ tip j
graft_other i n j ne = go (j == i) refl
  where
    go : (b : Bool) → j == i ≡ b → (if b then fork j (tip n) (tip (suc n)) else tip j) ≡ tip j
    go true e = let q : j ≡ i = same_test j i e in absurd (ne q)
    go false e = refl

graft_grow : (i n j : ℕ) (o : Option ℕ) (a b : ℕ → Shape) → j ≢ i → ((k : ℕ) → o ≡ Some k → (a k ≡ graft i n (b k)) × (a (suc k) ≡ graft i n (b (suc k)))) → grow j o a ≡ graft i n (grow j o b)
graft_grow i n j None a b ne h = sym (graft_other i n j ne)
graft_grow i n j (Some k) a b ne h = ap₂ (λ x y. fork j x y) (h k refl).0 (h k refl).1

at_branched : (ns ms : List Node) (i : ℕ) → IsBranched ns ms i → (turns : ℕ) → grow i (child_at ms i) (shape_at ms (suc turns)) ≡ graft i (length ns) (grow i (child_at ns i) (shape_at ns turns))
at_branched ns ms i h turns = ap (λ o. grow i o (shape_at ms (suc turns))) h.is
    ∙ ap₂ (λ x y. fork i x y) (at_tip ms (suc turns) (length ns) h.first) (at_tip ms (suc turns) (suc (length ns)) h.second)
    ∙ sym (graft_same i (length ns))
    ∙ ap (λ o. graft i (length ns) (grow i o (shape_at ns turns))) (sym h.was)

grafted_here : (ns ms : List Node) (i : ℕ) → IsBranched ns ms i → (turns j : ℕ) → j < length ns →
    ((k : ℕ) → child_at ns j ≡ Some k → (shape_at ms (suc turns) k ≡ graft i (length ns) (shape_at ns turns k)) × (shape_at ms (suc turns) (suc k) ≡ graft i (length ns) (shape_at ns turns (suc k)))) →
    (b : Bool) → j == i ≡ b → grow j (child_at ms j) (shape_at ms (suc turns)) ≡ graft i (length ns) (grow j (child_at ns j) (shape_at ns turns))
grafted_here ns ms i h turns j l below true e = let q : j ≡ i = same_test j i e in subst (λ z. grow z (child_at ms z) (shape_at ms (suc turns)) ≡ graft i (length ns) (grow z (child_at ns z) (shape_at ns turns))) (sym q) (at_branched ns ms i h turns)
grafted_here ns ms i h turns j l below false e = let ne : j ≢ i = other_test j i e in ap (λ o. grow j o (shape_at ms (suc turns))) (h.others j l ne) ∙ graft_grow i (length ns) j (child_at ns j) (shape_at ms (suc turns)) (shape_at ns turns) ne below

pub grafted : (ns ms : List Node) (i : ℕ) → IsRising ns → IsBranched ns ms i → (turns j : ℕ) → j < length ns → length ns ≤ turns + j → shape_at ms (suc turns) j ≡ graft i (length ns) (shape_at ns turns j)
grafted ns ms i r h zero j l m = absurd (omega arith)
grafted ns ms i r h (suc turns) j l m = grafted_here ns ms i h turns j l (λ k e. let w : (j < k) × (suc k < length ns) = r.rises j k l e in (grafted ns ms i r h turns k (omega arith) (omega arith), grafted ns ms i r h turns (suc k) w.1 (omega arith))) (j == i) refl

-- ---- sums over the tree
abbrev pub is_here : ℕ → ℕ → ℕ
is_here i j = if j == i then 1 else 0

-- how many tips are i
abbrev pub tips : ℕ → Shape → ℕ
tips i (tip j) = is_here i j
tips i (fork j a b) = tips i a + tips i b

weigh_if : (f : ℕ → ℕ) (j n : ℕ) (b : Bool) → weigh f (if b then fork j (tip n) (tip (suc n)) else tip j) ≡ f j + (if b then 1 else 0) * (f n + f (suc n))
weigh_if f j n true = omega arith
weigh_if f j n false = omega arith

pub weigh-graft : (f : ℕ → ℕ) (i n : ℕ) (s : Shape) → weigh f (graft i n s) ≡ weigh f s + tips i s * (f n + f (suc n))
weigh-graft f i n (tip j) = weigh_if f j n (j == i)
weigh-graft f i n (fork j a b) = let p = weigh-graft f i n a in let q = weigh-graft f i n b in rw (p, q) (omega arith)

is_here-other : (i j : ℕ) → j ≢ i → is_here i j ≡ 0
is_here-other i j ne = go (j == i) refl
  where
    go : (b : Bool) → j == i ≡ b → ◌≡◌ {A = ℕ} (if b then 1 else 0) 0
    go true e = let q : j ≡ i = same_test j i e in absurd (ne q)
    go false e = refl

is_here-same : (i : ℕ) → is_here i i ≡ 1
is_here-same i = go (i == i) refl
  where
    go : (b : Bool) → i == i ≡ b → ◌≡◌ {A = ℕ} (if b then 1 else 0) 1
    go true e = refl
    go false e = absurd (grind arith)

tips_grow : (ns : List Node) (i : ℕ) → child_at ns i ≡ None → (below : ℕ → Shape) → ((k : ℕ) → tips i (below k) ≡ weigh (is_here i) (below k)) → (j : ℕ) (o : Option ℕ) → child_at ns j ≡ o → tips i (grow j o below) ≡ weigh (is_here i) (grow j o below)
tips_grow ns i n below h j None e = refl
tips_grow ns i n below h j (Some k) e = let p = h k in let q = h (suc k) in let z : is_here i j ≡ 0 = is_here-other i j (λ s. let w : child_at ns i ≡ Some k = subst (λ x. child_at ns x ≡ Some k) s e in cc) in rw (p, q, z) (omega arith)

pub tips_are : (ns : List Node) (i : ℕ) → child_at ns i ≡ None → (turns j : ℕ) → tips i (shape_at ns turns j) ≡ weigh (is_here i) (shape_at ns turns j)
tips_are ns i n zero j = refl
tips_are ns i n (suc turns) j = tips_grow ns i n (shape_at ns turns) (λ k. tips_are ns i n turns k) j (child_at ns j) refl

-- ---- sums over numbers
sum_below-none : (i n : ℕ) → n ≤ i → sum_below (is_here i) n ≡ 0
sum_below-none i zero l = refl
sum_below-none i (suc n) l = let p = sum_below-none i n (omega arith) in let z : is_here i n ≡ 0 = is_here-other i n (omega arith) in rw (p, z) refl

last_here : (i n : ℕ) → i ≡ n → sum_below (is_here i) n + is_here i n ≡ 1
last_here i n e = subst (λ m. sum_below (is_here i) m + is_here i m ≡ 1) e (let p = sum_below-none i i (omega arith) in let z = is_here-same i in rw (p, z) refl)

pub sum_below-here : (i n : ℕ) → i < n → sum_below (is_here i) n ≡ 1
sum_below-here i zero l = absurd (omega arith)
sum_below-here i (suc n) l = go (i == n) refl (sum_below-here i n)
  where
    go : (b : Bool) → i == n ≡ b → (i < n → sum_below (is_here i) n ≡ 1) → sum_below (is_here i) n + is_here i n ≡ 1
    go true e h = last_here i n (same_test i n e)
    go false e h = let d : i ≢ n = other_test i n e in let ne : n ≢ i = λ x. d (sym x) in let m : i < n = omega arith in let z : is_here i n ≡ 0 = is_here-other i n ne in let p : sum_below (is_here i) n ≡ 1 = h m in omega arith

-- ---- each node stands once in the tree, before and after
pub once_same : (ns ms : List Node) → length ms ≡ length ns → ((j : ℕ) → child_at ns j ≡ child_at ms j) → ((f : ℕ → ℕ) → weigh f (shape ns) ≡ sum_below f (length ns)) → (f : ℕ → ℕ) → weigh f (shape ms) ≡ sum_below f (length ms)
unfolding shape
once_same ns ms e h w f = ap (weigh f) (ap (λ t. shape_at ms t 0) e ∙ sym (same_children ns ms h (length ns) 0)) ∙ w f ∙ ap (sum_below f) (sym e)

shape_branched : (ns ms : List Node) (i : ℕ) → IsRising ns → IsBranched ns ms i → shape ms ≡ graft i (length ns) (shape ns)
unfolding shape
shape_branched ns ms i r h =
    let l : 0 < length ns = let z = h.here in omega arith in
    ap (λ t. shape_at ms t 0) h.longer
    ∙ grafted ns ms i r h (suc (length ns)) 0 l (omega arith)
    ∙ ap (graft i (length ns)) (enough ns r (length ns) 0 l (omega arith))

tips_once : (ns : List Node) (i : ℕ) → child_at ns i ≡ None → i < length ns → ((f : ℕ → ℕ) → weigh f (shape ns) ≡ sum_below f (length ns)) → tips i (shape ns) ≡ 1
unfolding shape
tips_once ns i n l w = tips_are ns i n (length ns) 0 ∙ w (is_here i) ∙ sum_below-here i (length ns) l

pub once_branched : (ns ms : List Node) (i : ℕ) → IsRising ns → IsBranched ns ms i → ((f : ℕ → ℕ) → weigh f (shape ns) ≡ sum_below f (length ns)) → (f : ℕ → ℕ) → weigh f (shape ms) ≡ sum_below f (length ms)
once_branched ns ms i r h w f =
    let a : weigh f (shape ms) ≡ weigh f (graft i (length ns) (shape ns)) = ap (weigh f) (shape_branched ns ms i r h) in
    let b : weigh f (graft i (length ns) (shape ns)) ≡ weigh f (shape ns) + tips i (shape ns) * (f (length ns) + f (suc (length ns))) = weigh-graft f i (length ns) (shape ns) in
    let c : tips i (shape ns) ≡ 1 = tips_once ns i h.was h.here w in
    let d : weigh f (shape ns) ≡ sum_below f (length ns) = w f in
    let e : sum_below f (length ms) ≡ (sum_below f (length ns) + f (length ns)) + f (suc (length ns)) = ap (sum_below f) h.longer in
    a ∙ b ∙ rw (c, d, e) (omega arith)
