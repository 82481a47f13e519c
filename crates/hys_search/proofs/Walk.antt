-- Up from a node to the root, its fixings last first.
use Rattle.std.proofs.Common.{◌≡◌, ℕ, zero, suc, ◌+◌, ◌<◌, ◌≤◌, List, [], ◌∷◌, ◌++◌, length, reverse, map, get_or, length-append, refl, sym, ◌∙◌, ap, subst, arith, append_assoc}
use Rattle.std.proofs.lemmas.List.{reverse-append, length-map}
use Rattle.hys_relax.specs.declared.fixing.Fixing.{Fixing}
use Rattle.hys_search.proofs.Paths.{path-parent, path-root}
use Rattle.hys_search.specs.Core.{Core, Holds, entry, picked_of}
use Rattle.hys_search.specs.Nodes.{AreParents, node_at, path}
use Rattle.hys_search.specs.declared.nodes.Node.{Node}
use Rattle.hys_search.specs.declared.nodes.Waiting.{Waiting}

pub walk_up : (ns : List Node) (at : ℕ) → AreParents ns → 0 < at → at < length ns → (out out' whole : List Fixing) → path ns at ++ reverse out ≡ whole → out' ≡ out ++ ((node_at ns at).fixing ∷ []) → ((node_at ns at).parent < length ns) × (path ns (node_at ns at).parent ++ reverse out' ≡ whole)
walk_up ns at up z l out out' whole e f =
    let p : (node_at ns at).parent < at = up at z l in
    let a : path ns at ≡ path ns (node_at ns at).parent ++ ((node_at ns at).fixing ∷ []) = path-parent ns at z l p in
    let b : reverse out' ≡ (node_at ns at).fixing ∷ reverse out = ap reverse f ∙ reverse-append out ((node_at ns at).fixing ∷ []) in
    (omega arith, ap (λ z. path ns (node_at ns at).parent ++ z) b ∙ sym (append_assoc (path ns (node_at ns at).parent) ((node_at ns at).fixing ∷ []) (reverse out)) ∙ ap (λ z. z ++ reverse out) (sym a) ∙ e)

pub walked : (ns : List Node) (at : ℕ) → (out whole : List Fixing) → at ≡ 0 → path ns at ++ reverse out ≡ whole → reverse out ≡ whole
walked ns at out whole z e = ap (λ x. x ++ reverse out) (sym (ap (path ns) z ∙ path-root ns)) ∙ e

-- a path is no longer than its node's place
short : (ns : List Node) → AreParents ns → (most j : ℕ) → j ≤ most → j < length ns → length (path ns j) ≤ j
short ns up zero j l t = let e : j ≡ 0 = omega arith in subst (λ z. length (path ns z) ≤ z) (sym e) (subst (λ (z : List Fixing). length z ≤ 0) (sym (path-root ns)) (omega arith))
short ns up (suc most) zero l t = subst (λ (z : List Fixing). length z ≤ 0) (sym (path-root ns)) (omega arith)
short ns up (suc most) (suc j) l t =
    let p : (node_at ns (suc j)).parent < suc j = up (suc j) (omega arith) t in
    let r : length (path ns (node_at ns (suc j)).parent) ≤ (node_at ns (suc j)).parent = short ns up most (node_at ns (suc j)).parent (omega arith) (omega arith) in
    let a : length (path ns (suc j)) ≡ length (path ns (node_at ns (suc j)).parent) + 1 = ap length (path-parent ns (suc j) (omega arith) t p) ∙ length-append (path ns (node_at ns (suc j)).parent) ((node_at ns (suc j)).fixing ∷ []) in
    omega arith

pub path_short : (ns : List Node) → AreParents ns → (j : ℕ) → j < length ns → length (path ns j) ≤ j
path_short ns up j t = short ns up j j (omega arith) t

pub get_or-map : {A B : Type 0} (f : A → B) (xs : List A) (i : ℕ) (a : A) (b : B) → i < length xs → get_or (map f xs) i b ≡ f (get_or xs i a)
get_or-map f [] i a b l = absurd (omega arith)
get_or-map f (x ∷ xs) zero a b l = refl
get_or-map f (x ∷ xs) (suc i) a b l = get_or-map f xs i a b (omega arith)

-- the picked node's entry
pub entry_is : (C : Core) (which : ℕ) (d : Waiting) → Holds C → which < length C.queue → get_or C.waiting which d ≡ entry C.nodes C.certificates (picked_of C which)
entry_is C which d h w = ap (λ z. get_or z which d) h.entered ∙ get_or-map (entry C.nodes C.certificates) C.queue which 0 d w

pub as_many : (C : Core) → Holds C → length C.waiting ≡ length C.queue
as_many C h = ap length h.entered ∙ length-map C.queue (entry C.nodes C.certificates)
