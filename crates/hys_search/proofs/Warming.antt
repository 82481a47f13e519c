-- Another tableau is kept.
use Rattle.std.proofs.Common.{◌≡◌, ℕ, ◌<◌, List, [], ◌∷◌, ◌++◌, length, take, length-append, sym, ◌∙◌, ap, subst, arith, inl, inr}
use Rattle.std.proofs.lemmas.List.{take-append-le, take_all}
use Rattle.hys_dual.proofs.Lawful.{warm_below}
use Rattle.hys_search.specs.declared.expand.Expanded.TheVariants.{Never, Closed, Found, Branched, Kept}
use Rattle.hys_dual.specs.Relaxing.{IsWarm}
use Rattle.hys_dual.specs.declared.warm.Warm.{Warm}
use Rattle.hys_relax.specs.declared.fixing.Fixing.{Fixing}
use Rattle.hys_search.proofs.Changes.{node_cases}
use Rattle.hys_search.proofs.Paths.{path-parent}
use Rattle.hys_search.specs.Answers.{Answered, IsExpanded, PathAfter, WentOn}
use Rattle.hys_search.specs.Core.{Core, Holds}
use Rattle.hys_search.specs.Nodes.{node_at, path}
use Rattle.hys_search.specs.declared.expand.Expanded.{Expanded}

abbrev pub with_warm : Core → Warm → ℕ → Core
with_warm C w i = record C { warm = w; warm_at = i }

pub warm_holds : (C : Core) (w : Warm) (i : ℕ) → Holds C → i < length C.nodes → IsWarm C.problem (path C.nodes i) w → Holds (with_warm C w i)
warm_holds C w i h l r = record {
  sound = h.sound;
  rooted = h.rooted;
  root = h.root;
  parents = h.parents;
  apart = h.apart;
  each = h.each;
  once = h.once;
  queued = h.queued;
  entered = h.entered;
  best = h.best;
  counted = h.counted;
  doubled = h.doubled;
  kept_to = h.kept_to;
  limited = h.limited;
  warm_there = l;
  warmed = r;
}

-- an expansion speaks of what was kept after it alone
again : (C : Core) (w : Warm) (i which : ℕ) (D : Core) (e : Expanded) → Answered (with_warm C w i) which D e → Answered C which D e
again C w i which D Never h = h
again C w i which D Closed h = h
again C w i which D Found h = let f = h.1 in (
  h.0,
  record {
    found = f.found;
    solution = f.solution;
    relaxed = f.relaxed;
    cost = f.cost;
    beats = f.beats;
    closed = f.closed;
    bound = f.bound;
    risen = f.risen;
    reached = record { node = f.reached.node; ruled = f.reached.ruled };
    point = f.point;
  },
)
again C w i which D Branched h = let f = h.1 in (
  h.0,
  record {
    inner = f.inner;
    free = f.free;
    why = f.why;
    risen = f.risen;
    heirs = record { first = f.heirs.first; second = f.heirs.second };
    found = f.found;
    reached = record { node = f.reached.node; ruled = f.reached.ruled };
  },
)
again C w i which D Kept h = let f = h.1 in (h.0, record { kept = f.kept; fixed = f.fixed; unfit = f.unfit; risen = f.risen; found = f.found })

pub warm_expanded : (C : Core) (w : Warm) (i which : ℕ) (D : Core) (e : Expanded) → IsExpanded (with_warm C w i) which D e → IsExpanded C which D e
warm_expanded C w i which D e h = record {
  holds = h.holds;
  problem = h.problem;
  limit = h.limit;
  counted = h.counted;
  others = h.others;
  lasting = h.lasting;
  grown = h.grown;
  answered = again C w i which D e h.answered;
}

-- where the kept path goes on, it does so under every answer
pub path_after : (C : Core) (which : ℕ) (D : Core) (e : Expanded) → WentOn C which D → PathAfter C which D e
path_after C which D Never h = h
path_after C which D Closed h = tt
path_after C which D Found h = h
path_after C which D Branched h = h
path_after C which D Kept h = h

-- ---- the kept tableau serves the children of its node, and the root
serves_root : (C : Core) (i : ℕ) → Holds C → i ≡ 0 → (node_at C.nodes i).parent ≡ C.warm_at → IsWarm C.problem (path C.nodes i) C.warm
serves_root C i h z p =
    let a : C.warm_at ≡ i = sym p ∙ ap (λ j. (node_at C.nodes j).parent) z ∙ h.root ∙ sym z in
    subst (λ j. IsWarm C.problem (path C.nodes j) C.warm) a h.warmed

taken_front : (fs gs : List Fixing) → take (length fs) (fs ++ gs) ≡ fs
taken_front fs gs = take-append-le (length fs) fs gs (omega arith) ∙ take_all (length fs) fs (omega arith)

serves_child : (C : Core) (i : ℕ) → Holds C → 0 < i → i < length C.nodes → (node_at C.nodes i).parent ≡ C.warm_at → IsWarm C.problem (path C.nodes i) C.warm
serves_child C i h z l p =
    let fs : List Fixing = path C.nodes C.warm_at in
    let f : Fixing = (node_at C.nodes i).fixing in
    let e : path C.nodes i ≡ fs ++ (f ∷ []) = path-parent C.nodes i z l (h.parents i z l) ∙ ap (λ j. path C.nodes j ++ (f ∷ [])) p in
    let n = length-append fs (f ∷ []) in
    let w : IsWarm C.problem (fs ++ (f ∷ [])) C.warm = warm_below C.problem (length fs) (fs ++ (f ∷ [])) C.warm (omega arith) (subst (λ (z : List Fixing). IsWarm C.problem z C.warm) (sym (taken_front fs (f ∷ []))) h.warmed) in
    subst (λ (z : List Fixing). IsWarm C.problem z C.warm) (sym e) w

pub serves : (C : Core) (i : ℕ) (fs : List Fixing) → Holds C → i < length C.nodes → fs ≡ path C.nodes i → (node_at C.nodes i).parent ≡ C.warm_at → IsWarm C.problem fs C.warm
serves C i fs h l e p = subst (λ (z : List Fixing). IsWarm C.problem z C.warm) (sym e) (elim (node_cases i 0) as (λ _. IsWarm C.problem (path C.nodes i) C.warm) [
  | inl z ↦ serves_root C i h z p
  | inr ne ↦ serves_child C i h (omega arith) l p
])
