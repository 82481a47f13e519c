-- How many nodes there can be.
use Rattle.std.proofs.Common.{◌≡◌, ℕ, zero, suc, ◌+◌, ◌^◌, ◌<◌, ◌≤◌, Bool, true, false, List, [], ◌∷◌, ◌++◌, length, length-append, refl, sym, ◌∙◌, ap, subst, arith, ◌||◌, if◌then◌else◌}
use Rattle.std.specs.Prelude.{nat_eq}
use Rattle.std.specs.List.{list_any}
use Rattle.hys_relax.proofs.Dense.{same_column}
use Rattle.std.proofs.Math.Nat.{pow-succ'}
use Rattle.hys_search.specs.declared.nodes.Standing.TheVariants.{Waits, Inner, Never, Closed, Kept}
use Rattle.hys_relax.specs.Node.{is_fixed}
use Rattle.hys_relax.specs.declared.fixing.Fixing.{Fixing}
use Rattle.hys_search.proofs.Certified.{child_path}
use Rattle.hys_search.proofs.Paths.{path-root}
use Rattle.hys_search.specs.Core.{Core, Holds}
use Rattle.hys_search.specs.Nodes.{AreParents, Shape, first_child, fork, grow, labels, node_at, path, shape, shape_at, sum_below, tip, weigh}
use Rattle.hys_search.specs.Standings.{Stands}
use Rattle.hys_search.specs.declared.nodes.Standing.{Standing}

-- ---- a fixing leaves one free column less
-- how many of the columns no fixing names
abbrev pub free_columns : List ℕ → List Fixing → ℕ
free_columns [] fs = 0
free_columns (c ∷ cs) fs = if is_fixed fs c then free_columns cs fs else 1 + free_columns cs fs

fixed_snoc : (c : ℕ) (fs : List Fixing) (f : Fixing) → (is_fixed fs c ≡ true → is_fixed (fs ++ (f ∷ [])) c ≡ true) × (nat_eq f.column c ≡ true → is_fixed (fs ++ (f ∷ [])) c ≡ true)
fixed_snoc c [] f = (λ e. absurd (let n : false ≡ true = e in cc), λ e. ap (λ b. b || false) e)
fixed_snoc c (g ∷ fs) f = let r = fixed_snoc c fs f in (λ e. first (nat_eq g.column c) e r.0, λ e. second (nat_eq g.column c) (r.1 e))
  where
    first : (b : Bool) → (b || is_fixed fs c) ≡ true → (is_fixed fs c ≡ true → is_fixed (fs ++ (f ∷ [])) c ≡ true) → (b || is_fixed (fs ++ (f ∷ [])) c) ≡ true
    first true e h = refl
    first false e h = h e

    second : (b : Bool) → is_fixed (fs ++ (f ∷ [])) c ≡ true → (b || is_fixed (fs ++ (f ∷ [])) c) ≡ true
    second true h = refl
    second false h = h

free_if : (b d : Bool) (m n : ℕ) → (b ≡ true → d ≡ true) → m ≤ n → (if d then m else 1 + m) ≤ (if b then n else 1 + n)
free_if true d m n h l = subst (λ d. (if d then m else 1 + m) ≤ n) (sym (h refl)) l
free_if false true m n h l = omega arith
free_if false false m n h l = omega arith

free_fewer : (B : List ℕ) (fs : List Fixing) (f : Fixing) → free_columns B (fs ++ (f ∷ [])) ≤ free_columns B fs
free_fewer [] fs f = omega arith
free_fewer (x ∷ B) fs f = free_if (is_fixed fs x) (is_fixed (fs ++ (f ∷ [])) x) (free_columns B (fs ++ (f ∷ []))) (free_columns B fs) (fixed_snoc x fs f).0 (free_fewer B fs f)

free_if_less : (b d : Bool) (m n : ℕ) → (b ≡ true → d ≡ true) → m + 1 ≤ n → (if d then m else 1 + m) + 1 ≤ (if b then n else 1 + n)
free_if_less true d m n h l = subst (λ d. (if d then m else 1 + m) + 1 ≤ n) (sym (h refl)) l
free_if_less false true m n h l = omega arith
free_if_less false false m n h l = omega arith

free_if_here : (b d : Bool) (m n : ℕ) → b ≡ false → d ≡ true → m ≤ n → (if d then m else 1 + m) + 1 ≤ (if b then n else 1 + n)
free_if_here b d m n e f l = subst (λ b. (if d then m else 1 + m) + 1 ≤ (if b then n else 1 + n)) (sym e) (subst (λ d. (if d then m else 1 + m) + 1 ≤ 1 + n) (sym f) (omega arith))

free_less : (B : List ℕ) (fs : List Fixing) (f : Fixing) → list_any (nat_eq f.column) B ≡ true → is_fixed fs f.column ≡ false → free_columns B (fs ++ (f ∷ [])) + 1 ≤ free_columns B fs
free_less [] fs f h e = absurd (let n : false ≡ true = h in cc)
free_less (x ∷ B) fs f h e = go (nat_eq f.column x) refl h (λ t. free_less B fs f t e)
  where
    go : (b : Bool) → nat_eq f.column x ≡ b → (b || list_any (nat_eq f.column) B) ≡ true → (list_any (nat_eq f.column) B ≡ true → free_columns B (fs ++ (f ∷ [])) + 1 ≤ free_columns B fs) → (if is_fixed (fs ++ (f ∷ [])) x then free_columns B (fs ++ (f ∷ [])) else 1 + free_columns B (fs ++ (f ∷ []))) + 1 ≤ (if is_fixed fs x then free_columns B fs else 1 + free_columns B fs)
    go true q t rest =
        let s : f.column ≡ x = same_column f.column x q in
        free_if_here (is_fixed fs x) (is_fixed (fs ++ (f ∷ [])) x) (free_columns B (fs ++ (f ∷ []))) (free_columns B fs) (subst (λ z. is_fixed fs z ≡ false) s e) ((fixed_snoc x fs f).1 q) (free_fewer B fs f)
    go false q t rest = free_if_less (is_fixed fs x) (is_fixed (fs ++ (f ∷ [])) x) (free_columns B (fs ++ (f ∷ []))) (free_columns B fs) (fixed_snoc x fs f).0 (rest t)

pub free_none : (B : List ℕ) → free_columns B [] ≡ length B
free_none [] = refl
free_none (x ∷ B) = let e = free_none B in omega arith

-- ---- powers
power_positive : (k : ℕ) → 1 ≤ 2 ^ k
power_positive zero = omega arith
power_positive (suc k) = let h = power_positive k in let e = pow-succ' 2 k in omega arith

power_mono : (j k : ℕ) → j ≤ k → 2 ^ j ≤ 2 ^ k
power_mono zero k l = power_positive k
power_mono (suc j) zero l = absurd (omega arith)
power_mono (suc j) (suc k) l = let h = power_mono j k (omega arith) in let e = pow-succ' 2 k in let f = pow-succ' 2 j in omega arith

-- ---- the tree below a node is no larger than its free columns allow
abbrev one_each : ℕ → ℕ
one_each i = 1

abbrev IsSmall : ℕ → ℕ → Type 0
IsSmall size columns = size + 1 ≤ 2 ^ suc columns

small_tip : (columns : ℕ) → IsSmall 1 columns
small_tip columns = let h = power_positive columns in let e = pow-succ' 2 columns in omega arith

small_fork : (a b m n k : ℕ) → IsSmall a m → IsSmall b n → m + 1 ≤ k → n + 1 ≤ k → IsSmall (1 + (a + b)) k
small_fork a b m n k h g l r =
    let e = pow-succ' 2 k in
    let p : 2 ^ suc m ≤ 2 ^ k = power_mono (suc m) k (omega arith) in
    let q : 2 ^ suc n ≤ 2 ^ k = power_mono (suc n) k (omega arith) in
    omega arith

small_at : (C : Core) (j : ℕ) (below_it : ℕ → Shape) → AreParents C.nodes → ((k : ℕ) → j < k → k < length C.nodes → IsSmall (weigh one_each (below_it k)) (free_columns C.problem.branch (path C.nodes k))) → (held : ℕ) (s : Standing) → Stands C.problem C.certificates C.faults C.found C.nodes j held (path C.nodes j) s → IsSmall (weigh one_each (grow j (first_child s) below_it)) (free_columns C.problem.branch (path C.nodes j))
small_at C j b up rest held Waits h = small_tip (free_columns C.problem.branch (path C.nodes j))
small_at C j b up rest held (Inner c k) h =
    let w = h.2 in
    let B : List ℕ = C.problem.branch in
    let fs : List Fixing = path C.nodes j in
    let l : j < k = w.later in
    let t : suc k < length C.nodes = w.there in
    let p : path C.nodes k ≡ fs ++ (record { column = c; one = false } ∷ []) = child_path C.nodes j k c false up l (omega arith) w.parent_0 w.fixing_0 in
    let q : path C.nodes (suc k) ≡ fs ++ (record { column = c; one = true } ∷ []) = child_path C.nodes j (suc k) c true up (omega arith) t w.parent_1 w.fixing_1 in
    let m : free_columns B (path C.nodes k) + 1 ≤ free_columns B fs = subst (λ (z : List Fixing). free_columns B z + 1 ≤ free_columns B fs) (sym p) (free_less B fs (record { column = c; one = false }) h.0.branch h.0.free) in
    let n : free_columns B (path C.nodes (suc k)) + 1 ≤ free_columns B fs = subst (λ (z : List Fixing). free_columns B z + 1 ≤ free_columns B fs) (sym q) (free_less B fs (record { column = c; one = true }) h.0.branch h.0.free) in
    small_fork (weigh one_each (b k)) (weigh one_each (b (suc k))) (free_columns B (path C.nodes k)) (free_columns B (path C.nodes (suc k))) (free_columns B fs) (rest k l (omega arith)) (rest (suc k) (omega arith) t) m n
small_at C j b up rest held Never h = small_tip (free_columns C.problem.branch (path C.nodes j))
small_at C j b up rest held Closed h = small_tip (free_columns C.problem.branch (path C.nodes j))
small_at C j b up rest held (Kept a) h = small_tip (free_columns C.problem.branch (path C.nodes j))

small_from : (C : Core) → Holds C → (turns j : ℕ) → j < length C.nodes → length C.nodes ≤ turns + j → IsSmall (weigh one_each (shape_at C.nodes turns j)) (free_columns C.problem.branch (path C.nodes j))
small_from C h zero j l m = absurd (omega arith)
small_from C h (suc turns) j l m = small_at C j (shape_at C.nodes turns) h.parents (λ k u t. small_from C h turns k t (omega arith)) (node_at C.nodes j).held (node_at C.nodes j).standing (h.each j l)

sum_ones : (n : ℕ) → sum_below one_each n ≡ n
sum_ones zero = refl
sum_ones (suc n) = let e = sum_ones n in omega arith

-- b branch columns allow at most 2^(b+1) - 1 nodes
pub few_nodes : (C : Core) → Holds C → length C.nodes + 1 ≤ 2 ^ suc (length C.problem.branch)
unfolding shape
few_nodes C h =
    let a : IsSmall (weigh one_each (shape_at C.nodes (length C.nodes) 0)) (free_columns C.problem.branch (path C.nodes 0)) = small_from C h (length C.nodes) 0 h.rooted (omega arith) in
    let e : weigh one_each (shape_at C.nodes (length C.nodes) 0) ≡ length C.nodes = h.once one_each ∙ sum_ones (length C.nodes) in
    let f : free_columns C.problem.branch (path C.nodes 0) ≡ length C.problem.branch = ap (free_columns C.problem.branch) (path-root C.nodes) ∙ free_none C.problem.branch in
    subst (λ n. n + 1 ≤ 2 ^ suc (length C.problem.branch)) e (subst (λ k. weigh one_each (shape_at C.nodes (length C.nodes) 0) + 1 ≤ 2 ^ suc k) f a)

-- ---- as many places as nodes
count_labels : (s : Shape) → length (labels s) ≡ weigh one_each s
count_labels (tip i) = refl
count_labels (fork i a b) = let p = count_labels a in let q = count_labels b in let n = length-append (labels a) (labels b) in omega arith

pub places_count : (C : Core) → Holds C → length (labels (shape C.nodes)) ≡ length C.nodes
places_count C h = count_labels (shape C.nodes) ∙ h.once one_each ∙ sum_ones (length C.nodes)
