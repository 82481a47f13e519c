-- Paths from the root: each keeps while nodes are appended or change what became of them.
use Rattle.std.proofs.Common.{◌≡◌, ℕ, zero, suc, ◌+◌, ◌<◌, List, [], ◌∷◌, ◌++◌, length, get_or, set, refl, sym, ◌∙◌, ap, ap₂, subst, arith, length-append}
use Rattle.std.proofs.lemmas.List.{get_or_append_left, get_or_at}
use Rattle.hys_relax.specs.declared.fixing.Fixing.{Fixing}
use Rattle.hys_search.specs.Nodes.{node_at, path, paths_from, paths_of, step}
use Rattle.hys_search.specs.declared.nodes.Node.{Node}

Paths : Type 0
Paths = List (List Fixing)

length_from : (ps : List (List Fixing)) (ns : List Node) → length (paths_from ps ns) ≡ length ps + length ns
length_from ps [] = omega arith
length_from ps (n ∷ ns) = let e : length (paths_from (ps ++ (step ps n ∷ [])) ns) ≡ length (ps ++ (step ps n ∷ [])) + length ns = length_from (ps ++ (step ps n ∷ [])) ns in let g : length (ps ++ (step ps n ∷ [])) ≡ length ps + 1 = length-append ps (step ps n ∷ []) in omega arith

kept_from : (ps : List (List Fixing)) (ns : List Node) (i : ℕ) → i < length ps → get_or (paths_from ps ns) i [] ≡ get_or ps i []
kept_from ps [] i l = refl
kept_from ps (n ∷ ns) i l = let g : length (ps ++ (step ps n ∷ [])) ≡ length ps + 1 = length-append ps (step ps n ∷ []) in kept_from (ps ++ (step ps n ∷ [])) ns i (omega arith) ∙ get_or_append_left ps (step ps n ∷ []) [] i l

append_from : (ps : List (List Fixing)) (xs ys : List Node) → paths_from ps (xs ++ ys) ≡ paths_from (paths_from ps xs) ys
append_from ps [] ys = refl
append_from ps (x ∷ xs) ys = append_from (ps ++ (step ps x ∷ [])) xs ys

same_step : (ps : List (List Fixing)) (x y : Node) → y.parent ≡ x.parent → y.fixing ≡ x.fixing → step ps y ≡ step ps x
same_step ps x y p f = ap₂ (λ (a : ℕ) (b : Fixing). get_or ps a [] ++ (b ∷ [])) p f

set_from : (ps : List (List Fixing)) (ns : List Node) (i : ℕ) (y : Node) → y.parent ≡ (node_at ns i).parent → y.fixing ≡ (node_at ns i).fixing → paths_from ps (set ns i y) ≡ paths_from ps ns
set_from ps [] i y p f = refl
set_from ps (n ∷ ns) zero y p f = ap (λ z. paths_from (ps ++ (z ∷ [])) ns) (same_step ps n y p f)
set_from ps (n ∷ ns) (suc i) y p f = set_from (ps ++ (step ps n ∷ [])) ns i y p f

by_parent_from : (ps : List (List Fixing)) (ns : List Node) (k : ℕ) → k < length ns → (node_at ns k).parent < length ps + k → get_or (paths_from ps ns) (length ps + k) [] ≡ get_or (paths_from ps ns) (node_at ns k).parent [] ++ ((node_at ns k).fixing ∷ [])
by_parent_from ps [] k l p = absurd (omega arith)
by_parent_from ps (n ∷ ns) zero l p =
    let g : length (ps ++ (step ps n ∷ [])) ≡ length ps + 1 = length-append ps (step ps n ∷ []) in
    let a : get_or (paths_from (ps ++ (step ps n ∷ [])) ns) (length ps + 0) [] ≡ get_or (ps ++ (step ps n ∷ [])) (length ps + 0) [] = kept_from (ps ++ (step ps n ∷ [])) ns (length ps + 0) (omega arith) in
    let b : get_or (ps ++ (step ps n ∷ [])) (length ps + 0) [] ≡ step ps n = get_or_at ps (step ps n) [] [] (length ps + 0) (omega arith) in
    let c : get_or (paths_from (ps ++ (step ps n ∷ [])) ns) n.parent [] ≡ get_or ps n.parent [] = kept_from ps (n ∷ ns) n.parent (omega arith) in
    a ∙ b ∙ ap (λ z. z ++ (n.fixing ∷ [])) (sym c)
by_parent_from ps (n ∷ ns) (suc k) l p =
    let g : length (ps ++ (step ps n ∷ [])) ≡ length ps + 1 = length-append ps (step ps n ∷ []) in
    let i : length (ps ++ (step ps n ∷ [])) + k ≡ length ps + suc k = omega arith in
    let q : (node_at ns k).parent < length (ps ++ (step ps n ∷ [])) + k = omega arith in
    let m : k < length ns = omega arith in
    subst (λ z. get_or (paths_from (ps ++ (step ps n ∷ [])) ns) z [] ≡ get_or (paths_from (ps ++ (step ps n ∷ [])) ns) (node_at ns k).parent [] ++ ((node_at ns k).fixing ∷ [])) i (by_parent_from (ps ++ (step ps n ∷ [])) ns k m q)

-- ---- of all nodes
pub length_paths : (ns : List Node) → length (paths_of ns) ≡ length ns
length_paths [] = refl
length_paths (n ∷ ns) = let e : length (paths_from ([] ∷ []) ns) ≡ 1 + length ns = length_from ([] ∷ []) ns in omega arith

append_paths : (ns ms : List Node) → 0 < length ns → paths_of (ns ++ ms) ≡ paths_from (paths_of ns) ms
append_paths [] ms l = absurd (omega arith)
append_paths (n ∷ ns) ms l = append_from ([] ∷ []) ns ms

set_paths : (ns : List Node) (i : ℕ) (y : Node) → y.parent ≡ (node_at ns i).parent → y.fixing ≡ (node_at ns i).fixing → paths_of (set ns i y) ≡ paths_of ns
set_paths [] i y p f = refl
set_paths (n ∷ ns) zero y p f = refl
set_paths (n ∷ ns) (suc i) y p f = set_from ([] ∷ []) ns i y p f

pub path-root : (ns : List Node) → path ns 0 ≡ []
unfolding path
path-root [] = refl
path-root (n ∷ ns) = kept_from ([] ∷ []) ns 0 (omega arith)

-- a node's path is its parent's and its own fixing
pub path-parent : (ns : List Node) (j : ℕ) → 0 < j → j < length ns → (node_at ns j).parent < j → path ns j ≡ path ns (node_at ns j).parent ++ ((node_at ns j).fixing ∷ [])
unfolding path
path-parent [] j z l p = absurd (omega arith)
path-parent (n ∷ ns) zero z l p = absurd (omega arith)
path-parent (n ∷ ns) (suc k) z l p =
    let e : 1 + k ≡ suc k = omega arith in
    let m : k < length ns = omega arith in
    let q : (node_at ns k).parent < 1 + k = omega arith in
    subst (λ z. get_or (paths_from ([] ∷ []) ns) z [] ≡ get_or (paths_from ([] ∷ []) ns) (node_at ns k).parent [] ++ ((node_at ns k).fixing ∷ [])) e (by_parent_from ([] ∷ []) ns k m q)

pub path-set : (ns : List Node) (i j : ℕ) (y : Node) → y.parent ≡ (node_at ns i).parent → y.fixing ≡ (node_at ns i).fixing → path (set ns i y) j ≡ path ns j
unfolding path
path-set ns i j y p f = ap (λ z. get_or z j []) (set_paths ns i y p f)

pub path-append : (ns ms : List Node) (j : ℕ) → j < length ns → path (ns ++ ms) j ≡ path ns j
unfolding path
path-append ns ms j l = ap (λ z. get_or z j []) (append_paths ns ms (omega arith)) ∙ kept_from (paths_of ns) ms j (let e = length_paths ns in omega arith)
