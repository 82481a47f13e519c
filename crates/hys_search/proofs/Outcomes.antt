-- What each answer of an expansion leaves.
use Rattle.std.proofs.Common.{◌≡◌, IsTrue, ℕ, ◌+◌, ◌<◌, Bool, true, false, List, [], ◌∷◌, ◌++◌, length, get_or, set, take, map, refl, sym, ◌∙◌, ap, subst, arith, ◌⊎◌, inl, inr, Option, Some, None, length-append}
use Rattle.std.proofs.lemmas.List.{get_or_read, get_or_append_left, get_or_at, length-set, get_or-set_same, take_all}
use Rattle.hys_number.specs.Ops.{◌≤ₙ◌, ◌<ₙ◌, whole}
use Rattle.hys_number.proofs.Order.{le_of_lt, le_trans, le_refl', lt_irrefl}
use Rattle.hys_relax.proofs.Bounds.{node_duality}
use Rattle.hys_relax.proofs.Children.{point_above, within}
use Rattle.hys_dual.proofs.Lawful.{least_above}
use Rattle.hys_search.specs.declared.nodes.Standing.TheVariants.{Waits, Inner, Never, Closed, Kept}
use Rattle.hys_search.specs.declared.expand.Expanded.TheVariants.{Never as never, Closed as closed, Found as found_it, Branched as branched_it, Kept as kept}
use Rattle.hys_dual.specs.Bounding.{IsBoundAt}
use Rattle.hys_dual.specs.Relaxing.{IsLeast, IsNever, IsPointAfter, IsStuck, PointFits}
use Rattle.hys_lin.specs.Bits.{IsBit}
use Rattle.hys_lin.specs.Problem.{IsProblem}
use Rattle.hys_lin.specs.declared.form.Point.{Point}
use Rattle.hys_lin.specs.declared.problem.Problem.{Problem}
use Rattle.hys_number.specs.Number.{Number}
use Rattle.hys_relax.specs.Bound.{AreLawful, AreMultipliers, costless, plain_bound}
use Rattle.hys_relax.specs.BoundSum.{BoundFits}
use Rattle.hys_relax.specs.Node.{IsLeastRelaxed, IsNode, RelaxedPoint, StackedSolution, is_branch, is_fixed}
use Rattle.hys_relax.specs.declared.fixing.Fixing.{Fixing}
use Rattle.hys_relax.specs.declared.multipliers.Multipliers.{Multipliers}
use Rattle.hys_relax.specs.declared.range.RangeAt.{RangeAt}
use Rattle.hys_search.proofs.Changes.{LastingBest, LastingFaults, Lasts, best_later, branched_holds, family_of, held_there, later_set, picked_in, settled_holds, stands_on}
use Rattle.hys_search.proofs.Queue.{map-waits}
use Rattle.hys_search.proofs.Walk.{entry_is}
use Rattle.hys_search.specs.Answers.{AreHeirs, BranchCause, IsExpanded}
use Rattle.hys_search.specs.Branching.{AllFixed, AreUnits, IsBetween, IsJustified, IsUnfit, bound_at, column_of, cost_at, never_at}
use Rattle.hys_search.specs.Core.{Core, Holds, IsHeldBetter, LastingCertificates, branched, entry, picked_of, picked_path, settled, with_standing}
use Rattle.hys_search.specs.Nodes.{first_child, no_node, node_at, path, waits_below}
use Rattle.hys_search.specs.Standings.{bound_of, Beats, Certifies, Excludes, FoundHolds, IsBest, IsCertified, IsExcluded, IsSettledBy, NodeHolds, Stands, certificate_at, no_certificate, no_fault}
use Rattle.hys_search.specs.declared.nodes.Certificate.{Certificate}
use Rattle.hys_search.specs.declared.nodes.Node.{Node}
use Rattle.hys_search.specs.declared.nodes.Standing.{Standing}
use Rattle.hys_search.specs.declared.nodes.Waiting.{Waiting}
use Rattle.hys_simplex.specs.Path.{IsPathAt}
use Rattle.hys_tree.specs.Shows.{InnerHolds}
use Rattle.hys_tree.specs.declared.answer.Best.{Best}

-- ---- certificates and faults that came later
pub lasting_push : (cs : List Certificate) (c : Certificate) → LastingCertificates cs (cs ++ (c ∷ []))
lasting_push cs c h l = (let n = length-append cs (c ∷ []) in omega arith, get_or_append_left cs (c ∷ []) no_certificate h l)

pub lasting_faults : (rs : List RangeAt) (r : RangeAt) → LastingFaults rs (rs ++ (r ∷ []))
lasting_faults rs r h l = (let n = length-append rs (r ∷ []) in omega arith, get_or_append_left rs (r ∷ []) no_fault h l)

pub same_certificates : (cs : List Certificate) → LastingCertificates cs cs
same_certificates cs h l = (l, refl)

pub same_faults : (rs : List RangeAt) → LastingFaults rs rs
same_faults rs h l = (l, refl)

abbrev pub with_lists : Core → List Certificate → List RangeAt → Core
with_lists C ds qs = record C { certificates = ds; faults = qs }

same_best : (P : Problem) (ns : List Node) (cs ds : List Certificate) (rs : List RangeAt) (b : Option Best) → LastingCertificates cs ds → ((j : ℕ) → j < length ns → NodeHolds P cs rs b ns j) → (f : Option Best) → FoundHolds P ns cs f → FoundHolds P ns ds f
same_best P ns cs ds rs b l each None h = tt
same_best P ns cs ds rs b l each (Some f) h =
    let g : Stands P cs rs b ns h.place (node_at ns h.place).held (path ns h.place) Closed = subst (λ s. Stands P cs rs b ns h.place (node_at ns h.place).held (path ns h.place) s) h.closed (each h.place h.there) in
    record { solution = h.solution; cost = h.cost; point_fits = h.point_fits; place = h.place; there = h.there; closed = h.closed; bound = ap (λ z. z.bound) (l (node_at ns h.place).held g.0.0).1 ∙ h.bound }

pub lists_hold : (C : Core) (ds : List Certificate) (qs : List RangeAt) → Holds C → LastingCertificates C.certificates ds → LastingFaults C.faults qs → Holds (with_lists C ds qs)
lists_hold C ds qs h l m =
    let lasts : Lasts C.certificates ds C.faults qs C.found C.found = record { certificates = l; faults = m; best = λ z t. t } in
    let e : map (entry C.nodes C.certificates) (waits_below C.nodes (length C.nodes)) ≡ map (entry C.nodes ds) (waits_below C.nodes (length C.nodes)) = map-waits (entry C.nodes C.certificates) (entry C.nodes ds) C.nodes (length C.nodes)
    (λ k t w. (ap (λ (c : Certificate). record { depth = length (path C.nodes k); bound = c.bound }) (sym (l (node_at C.nodes k).held (held_there C.problem C.certificates C.faults C.found C.nodes k (node_at C.nodes k).held (path C.nodes k) (node_at C.nodes k).standing w (h.each k t))).1))) in
    record {
      sound = h.sound;
      rooted = h.rooted;
      root = h.root;
      parents = h.parents;
      apart = h.apart;
      each = λ j t. stands_on C.problem C.certificates ds C.faults qs C.found C.found C.nodes C.nodes j (node_at C.nodes j).held (path C.nodes j) lasts (λ d k x. x) (node_at C.nodes j).standing (h.each j t);
      once = h.once;
      queued = h.queued;
      entered = h.entered ∙ subst (λ q. map (entry C.nodes C.certificates) q ≡ map (entry C.nodes ds) q) (sym h.queued) e;
      best = same_best C.problem C.nodes C.certificates ds C.faults C.found l h.each C.found h.best;
      counted = h.counted;
      doubled = h.doubled;
      kept_to = h.kept_to;
      limited = h.limited;
      warm_there = h.warm_there;
      warmed = h.warmed;
    }

-- ---- the picked node after a step
pub settled_at : (C : Core) (which held : ℕ) (s : Standing) (found : Option Best) → picked_of C which < length C.nodes → node_at (settled C which held s found).nodes (picked_of C which) ≡ with_standing (node_at C.nodes (picked_of C which)) held s
unfolding settled
settled_at C which held s found l = get_or-set_same C.nodes (picked_of C which) (with_standing (node_at C.nodes (picked_of C which)) held s) no_node l

settled_others : (C : Core) (which held : ℕ) (s : Standing) (found : Option Best) → (j : ℕ) → j < length C.nodes → (j ≡ picked_of C which → ⊥) → node_at (settled C which held s found).nodes j ≡ node_at C.nodes j
unfolding settled
settled_others C which held s found j l ne = (later_set C.nodes (picked_of C which) (with_standing (node_at C.nodes (picked_of C which)) held s) refl refl).others j l ne

branched_at : (C : Core) (which held c : ℕ) → picked_of C which < length C.nodes → node_at (branched C which held c).nodes (picked_of C which) ≡ with_standing (node_at C.nodes (picked_of C which)) held (Inner c (length C.nodes))
unfolding branched
branched_at C which held c l = (family_of C.nodes (picked_of C which) c held l).parent

branched_others : (C : Core) (which held c : ℕ) → picked_of C which < length C.nodes → (j : ℕ) → j < length C.nodes → (j ≡ picked_of C which → ⊥) → node_at (branched C which held c).nodes j ≡ node_at C.nodes j
unfolding branched
branched_others C which held c t j l ne = (family_of C.nodes (picked_of C which) c held t).later.others j l ne

settled_long : (C : Core) (which held : ℕ) (s : Standing) (found : Option Best) → length (settled C which held s found).nodes ≡ length C.nodes + 0
unfolding settled
settled_long C which held s found = let e = length-set C.nodes (picked_of C which) (with_standing (node_at C.nodes (picked_of C which)) held s) in omega arith

branched_long : (C : Core) (which held c : ℕ) → picked_of C which < length C.nodes → length (branched C which held c).nodes ≡ length C.nodes + 2
unfolding branched
branched_long C which held c l = let e = (family_of C.nodes (picked_of C which) c held l).longer in omega arith

-- the children hold what the branched node holds
branched_heirs : (C : Core) (which held c : ℕ) → picked_of C which < length C.nodes → AreHeirs C which (branched C which held c)
unfolding branched
branched_heirs C which held c l =
    let f = family_of C.nodes (picked_of C which) c held l in
    let p = sym (ap (λ (n : Node). n.held) f.parent) in
    record { first = ap (λ (n : Node). n.held) f.first ∙ p; second = ap (λ (n : Node). n.held) f.second ∙ p }

-- ---- the answers
-- the bound that was kept at the picked node isn't above that of a certificate
abbrev pub IsOver : Core → ℕ → Certificate → Type 0
IsOver C which c = bound_of C.nodes C.certificates (picked_of C which) ≤ₙ c.bound

-- a leaf with the best as it was
best_stays : (C : Core) (which held : ℕ) (s : Standing) → Holds C → which < length C.queue → FoundHolds C.problem (settled C which held s C.found).nodes C.certificates C.found
unfolding settled
best_stays C which held s h w = let q = picked_in C which h w in best_later C.problem C.certificates C.nodes (set C.nodes (picked_of C which) (with_standing (node_at C.nodes (picked_of C which)) held s)) (picked_of C which) C.found (later_set C.nodes (picked_of C which) (with_standing (node_at C.nodes (picked_of C which)) held s) refl refl) q.waiting h.best

pub never_step : (C : Core) (ds : List Certificate) (which held : ℕ) → Holds C → LastingCertificates C.certificates ds → which < length C.queue → C.expanded < C.limit → IsExcluded C.problem ds held (path C.nodes (picked_of C which)) → IsExpanded C which (settled (with_lists C ds C.faults) which held Never C.found) never
unfolding settled
never_step C ds which held h l w x n =
    let D : Core = with_lists C ds C.faults in
    let g : Holds D = lists_hold C ds C.faults h l (same_faults C.faults) in
    let q = picked_in D which g w in
    record {
      holds = settled_holds D which held Never C.found g (record { within = w; left = x; leaf = (refl, refl); lasts = λ z t. t; stands = n; best = best_stays D which held Never g w });
      problem = refl;
      limit = refl;
      counted = refl;
      others = settled_others D which held Never C.found;
      lasting = l;
      grown = settled_long D which held Never C.found;
      answered = (ap (λ n. n.standing) (settled_at D which held Never C.found q.there), refl);
    }

pub closed_step : (C : Core) (ds : List Certificate) (which held : ℕ) → Holds C → LastingCertificates C.certificates ds → which < length C.queue → C.expanded < C.limit → IsCertified C.problem ds held (path C.nodes (picked_of C which)) → IsSettledBy C.found (certificate_at ds held).bound → IsOver C which (certificate_at ds held) → IsExpanded C which (settled (with_lists C ds C.faults) which held Closed C.found) closed
unfolding settled
closed_step C ds which held h l w x n s o =
    let D : Core = with_lists C ds C.faults in
    let g : Holds D = lists_hold C ds C.faults h l (same_faults C.faults) in
    let q = picked_in D which g w in
    let e = settled_at D which held Closed C.found q.there in
    record {
      holds = settled_holds D which held Closed C.found g (record { within = w; left = x; leaf = (refl, refl); lasts = λ z t. t; stands = (n, s); best = best_stays D which held Closed g w });
      problem = refl;
      limit = refl;
      counted = refl;
      others = settled_others D which held Closed C.found;
      lasting = l;
      grown = settled_long D which held Closed C.found;
      answered = (ap (λ n. n.standing) e, subst (λ (n : Node). IsSettledBy C.found (certificate_at ds n.held).bound) (sym e) s, subst (λ (n : Node). IsOver C which (certificate_at ds n.held)) (sym e) o, refl);
    }

pub kept_step : (C : Core) (ds : List Certificate) (r : RangeAt) (which held : ℕ) → Holds C → LastingCertificates C.certificates ds → which < length C.queue → C.expanded < C.limit → IsCertified C.problem ds held (path C.nodes (picked_of C which)) → AllFixed C.problem (path C.nodes (picked_of C which)) → IsUnfit C.problem (path C.nodes (picked_of C which)) r → IsOver C which (certificate_at ds held) → IsExpanded C which (settled (with_lists C ds (C.faults ++ (r ∷ []))) which held (Kept (length C.faults)) C.found) kept
unfolding settled
kept_step C ds r which held h l w x n f u o =
    let a : ℕ = length C.faults in
    let qs : List RangeAt = C.faults ++ (r ∷ []) in
    let D : Core = with_lists C ds qs in
    let g : Holds D = lists_hold C ds qs h l (lasting_faults C.faults r) in
    let q = picked_in D which g w in
    let e = settled_at D which held (Kept a) C.found q.there in
    let m : length qs ≡ a + 1 = length-append C.faults (r ∷ []) in
    let v : get_or qs a no_fault ≡ r = get_or_at C.faults r [] no_fault a refl in
    let z : IsUnfit C.problem (path C.nodes (picked_of C which)) (get_or qs a no_fault) = subst (λ y. IsUnfit C.problem (path C.nodes (picked_of C which)) y) (sym v) u in
    record {
      holds = settled_holds D which held (Kept a) C.found g (record { within = w; left = x; leaf = (refl, refl); lasts = λ z t. t; stands = (n, (let t : a < length qs = omega arith in t), f, z); best = best_stays D which held (Kept a) g w });
      problem = refl;
      limit = refl;
      counted = refl;
      others = settled_others D which held (Kept a) C.found;
      lasting = l;
      grown = settled_long D which held (Kept a) C.found;
      answered = (a, record { kept = ap (λ n. n.standing) e; fixed = f; unfit = z; risen = subst (λ (n : Node). IsOver C which (certificate_at ds n.held)) (sym e) o; found = refl });
    }

-- the kept path is ruled at the node that it was made at
ruled_at : (C : Core) (which : ℕ) → Holds C → C.warm_at ≡ picked_of C which → IsPathAt C.problem (path C.nodes (picked_of C which)) C.warm.path
ruled_at C which h r = subst (λ j. IsPathAt C.problem (path C.nodes j) C.warm.path) r h.warmed.ruled

-- a better solution
settles_more : (b : Best) (o : Option Best) → Beats o b.cost → LastingBest o (Some b)
settles_more b None h z s = absurd s
settles_more b (Some c) h z s = le_trans b.cost c.cost z (le_of_lt b.cost c.cost h) s

new_best : (C : Core) (which held : ℕ) (b : Best) → picked_of C which < length C.nodes → StackedSolution C.problem b.point.values → cost_at C.problem b.point ≡ b.cost → PointFits C.problem b.point.values → (certificate_at C.certificates held).bound ≡ b.cost → IsBest C.problem (settled C which held Closed (Some b)).nodes C.certificates b
unfolding settled
new_best C which held b l s c p k =
    let e = settled_at C which held Closed (Some b) l in
    let n = length-set C.nodes (picked_of C which) (with_standing (node_at C.nodes (picked_of C which)) held Closed) in
    record {
      solution = s;
      cost = c;
      point_fits = p;
      place = picked_of C which;
      there = omega arith;
      closed = ap (λ n. n.standing) e;
      bound = subst (λ (n : Node). (certificate_at C.certificates n.held).bound ≡ b.cost) (sym e) k;
    }

pub found_step : (C : Core) (ds : List Certificate) (which held : ℕ) (b : Best) → Holds C → LastingCertificates C.certificates ds → which < length C.queue → C.expanded < C.limit → IsCertified C.problem ds held (path C.nodes (picked_of C which)) → (certificate_at ds held).bound ≡ b.cost → StackedSolution C.problem b.point.values → RelaxedPoint C.problem (path C.nodes (picked_of C which)) b.point.values → cost_at C.problem b.point ≡ b.cost → PointFits C.problem b.point.values → Beats C.found b.cost → C.warm_at ≡ picked_of C which → IsPointAfter C.problem (path C.nodes (picked_of C which)) C.warm.path b.point.values → IsOver C which (certificate_at ds held) → IsExpanded C which (settled (with_lists C ds C.faults) which held Closed (Some b)) found_it
unfolding settled
found_step C ds which held b h l w x n k s r c p m y z o =
    let D : Core = with_lists C ds C.faults in
    let g : Holds D = lists_hold C ds C.faults h l (same_faults C.faults) in
    let q = picked_in D which g w in
    let e = settled_at D which held Closed (Some b) q.there in
    record {
      holds = settled_holds D which held Closed (Some b) g (record { within = w; left = x; leaf = (refl, refl); lasts = settles_more b C.found m; stands = (n, subst (λ (z : Number). b.cost ≤ₙ z) (sym k) (le_refl' b.cost)); best = new_best D which held b q.there s c p k });
      problem = refl;
      limit = refl;
      counted = refl;
      others = settled_others D which held Closed (Some b);
      lasting = l;
      grown = settled_long D which held Closed (Some b);
      answered = (b, record { found = refl; solution = s; relaxed = r; cost = c; beats = m; closed = ap (λ n. n.standing) e; bound = subst (λ (n : Node). (certificate_at ds n.held).bound ≡ b.cost) (sym e) k; risen = subst (λ (n : Node). IsOver C which (certificate_at ds n.held)) (sym e) o; reached = record { node = y; ruled = ruled_at C which h y }; point = z });
    }

justified : (C : Core) (which : ℕ) (D : Core) (c : ℕ) → BranchCause C which D c → IsJustified C.problem (path C.nodes (picked_of C which)) c
justified C which D c (inl a) = inl a
justified C which D c (inr a) = inr (a.0, a.1, a.2)

-- the cause, with the certificate that is kept in place of what came of the step
abbrev pub CauseOf : Core → ℕ → Certificate → ℕ → Type 0
CauseOf C which z c =
    ((r : RangeAt) × IsUnfit C.problem (picked_path C which) r)
    ⊎ ((x : Point) × IsLeastRelaxed C.problem (picked_path C which) x.values × IsBetween (column_of x c)
    × Beats C.found (cost_at C.problem x) × (z.bound ≡ cost_at C.problem x))

cause_after : (C : Core) (ds : List Certificate) (which held c : ℕ) → picked_of C which < length C.nodes → CauseOf C which (certificate_at ds held) c → BranchCause C which (branched (with_lists C ds C.faults) which held c) c
unfolding branched
cause_after C ds which held c l (inl a) = inl a
cause_after C ds which held c l (inr a) = inr (a.0, a.1, a.2, a.3, subst (λ (n : Node). (certificate_at ds n.held).bound ≡ cost_at C.problem a.0) (sym (branched_at (with_lists C ds C.faults) which held c l)) a.4)

heirs_of : (C : Core) (ds : List Certificate) (which held c : ℕ) → picked_of C which < length C.nodes → AreHeirs C which (branched (with_lists C ds C.faults) which held c)
heirs_of C ds which held c l = let a = branched_heirs (with_lists C ds C.faults) which held c l in record { first = a.first; second = a.second }

pub branched_step : (C : Core) (ds : List Certificate) (which held c : ℕ) → Holds C → LastingCertificates C.certificates ds → which < length C.queue → C.expanded < C.limit → IsCertified C.problem ds held (path C.nodes (picked_of C which)) → InnerHolds C.problem (path C.nodes (picked_of C which)) c → CauseOf C which (certificate_at ds held) c → C.warm_at ≡ picked_of C which → IsOver C which (certificate_at ds held) → IsExpanded C which (branched (with_lists C ds C.faults) which held c) branched_it
unfolding branched
branched_step C ds which held c h l w x n f k r o =
    let D : Core = with_lists C ds C.faults in
    let g : Holds D = lists_hold C ds C.faults h l (same_faults C.faults) in
    let q = picked_in D which g w in
    let e = branched_at D which held c q.there in
    let y : BranchCause C which (branched D which held c) c = cause_after C ds which held c q.there k in
    record {
      holds = branched_holds D which held c g (record { within = w; left = x; free = f; justified = justified C which (branched D which held c) c y; certified = n });
      problem = refl;
      limit = refl;
      counted = refl;
      others = branched_others D which held c q.there;
      lasting = l;
      grown = branched_long D which held c q.there;
      answered = (c, record { inner = ap (λ n. n.standing) e; free = f; why = y; risen = subst (λ (n : Node). IsOver C which (certificate_at ds n.held)) (sym e) o; heirs = heirs_of C ds which held c q.there; found = refl; reached = record { node = r; ruled = ruled_at C which h r } });
    }

-- ---- a column strictly between 0 and 1 is free
no_between : (a : Number) → IsBit a → IsBetween a → ⊥
no_between a (inl e) h = lt_irrefl (whole 0) (subst (λ z. whole 0 <ₙ z) e h.0)
no_between a (inr e) h = lt_irrefl (whole 1) (subst (λ z. z <ₙ whole 1) e h.1)

pub between_free : (P : Problem) (fs : List Fixing) (x : Point) (c : ℕ) → IsProblem P → IsNode P fs → RelaxedPoint P fs x.values → IsTrue (is_branch P c) → IsBetween (column_of x c) → is_fixed fs c ≡ false
between_free P fs x c h n r b w = go (is_fixed fs c) refl
  where
    go : (t : Bool) → is_fixed fs c ≡ t → t ≡ false
    go false e = refl
    go true e = absurd (no_between (column_of x c) ((within P fs x.values c h n r b).1 e) w)

pub units_of : (P : Problem) (fs : List Fixing) (x : Point) → IsProblem P → IsNode P fs → RelaxedPoint P fs x.values → AreUnits P x
units_of P fs x h n r = λ c b. (within P fs x.values c h n r b).0

-- ---- new multipliers
held_new : (cs ds : List Certificate) (c : Certificate) (held : ℕ) → held ≡ length cs → ds ≡ cs ++ (c ∷ []) → (held < length ds) × (certificate_at ds held ≡ c)
held_new cs ds c held e f =
    let n : length (cs ++ (c ∷ [])) ≡ length cs + 1 = length-append cs (c ∷ []) in
    let m : length ds ≡ length (cs ++ (c ∷ [])) = ap length f in
    (omega arith, ap (λ z. get_or z held no_certificate) f ∙ get_or_at cs c [] no_certificate held (sym e))

pub lasting_new : (cs ds : List Certificate) (c : Certificate) → ds ≡ cs ++ (c ∷ []) → LastingCertificates cs ds
lasting_new cs ds c f = subst (LastingCertificates cs) (sym f) (lasting_push cs c)

pub excluded_new : (P : Problem) (cs ds : List Certificate) (m : Multipliers) (depth : ℕ) (b : Number) (held : ℕ) (fs : List Fixing) → held ≡ length cs → ds ≡ cs ++ (record { multipliers = m; depth = depth; bound = b } ∷ []) → depth ≡ length fs → IsNever P fs m.pairs → IsExcluded P ds held fs
excluded_new P cs ds m depth b held fs e f d n =
    let c : Certificate = record { multipliers = m; depth = depth; bound = b } in
    let w = held_new cs ds c held e f in
    let t : take depth fs ≡ fs = take_all depth fs (omega arith) in
    let x : Excludes P c fs = record {
      within = omega arith;
      rise = n.rise;
      lawful = n.lawful;
      above = subst (λ (z : List Fixing). whole 0 <ₙ never_at P z m) (sym t) n.above;
      sum_fits = subst (λ (z : List Fixing). BoundFits (costless P) z m.pairs) (sym t) n.sum_fits;
    } in
    (w.0, subst (λ z. Excludes P z fs) (sym w.1) x)

pub certified_new : (P : Problem) (cs ds : List Certificate) (m : Multipliers) (depth : ℕ) (b : Number) (held : ℕ) (fs : List Fixing) → held ≡ length cs → ds ≡ cs ++ (record { multipliers = m; depth = depth; bound = b } ∷ []) → depth ≡ length fs → AreMultipliers m.pairs → AreLawful P m.pairs → b ≡ bound_at P fs m → BoundFits P fs m.pairs → plain_bound P ≤ₙ b → IsCertified P ds held fs × ((certificate_at ds held).bound ≡ b)
certified_new P cs ds m depth b held fs e f d r l a s p =
    let c : Certificate = record { multipliers = m; depth = depth; bound = b } in
    let w = held_new cs ds c held e f in
    let t : take depth fs ≡ fs = take_all depth fs (omega arith) in
    let x : Certifies P c fs = record {
      within = omega arith;
      rise = r;
      lawful = l;
      bound = subst (λ (z : List Fixing). b ≡ bound_at P z m) (sym t) a;
      sum_fits = subst (λ (z : List Fixing). BoundFits P z m.pairs) (sym t) s;
      least = p;
    } in
    ((w.0, subst (λ z. Certifies P z fs) (sym w.1) x), ap (λ z. z.bound) w.1)

-- those of a least point
pub certified_least : (P : Problem) (cs ds : List Certificate) (x : Point) (m : Multipliers) (depth : ℕ) (b : Number) (held : ℕ) (fs : List Fixing) → held ≡ length cs → ds ≡ cs ++ (record { multipliers = m; depth = depth; bound = b } ∷ []) → depth ≡ length fs → IsProblem P → IsNode P fs → IsLeast P fs x.values m.pairs → cost_at P x ≡ b → IsCertified P ds held fs × ((certificate_at ds held).bound ≡ b)
certified_least P cs ds x m depth b held fs e f d h n l c =
    let q : b ≡ bound_at P fs m = sym c ∙ sym l.bound in
    certified_new P cs ds m depth b held fs e f d l.rise l.lawful q l.sum_fits (subst (λ z. plain_bound P ≤ₙ z) (sym q) (least_above P fs x.values m.pairs h n l))

-- a certificate of the node that isn't below the one at a place of the list before, in a list that keeps those before
abbrev pub IsBetter : Problem → List Certificate → ℕ → List Certificate → ℕ → List Fixing → Type 0
IsBetter P cs held ds result fs = IsCertified P ds result fs × LastingCertificates cs ds × ((certificate_at cs held).bound ≤ₙ (certificate_at ds result).bound)

as_before : (P : Problem) (cs ds : List Certificate) (held result : ℕ) (fs : List Fixing) → IsCertified P cs held fs → (ds ≡ cs) × (result ≡ held) → IsBetter P cs held ds result fs
as_before P cs ds held result fs c h = subst (λ xs. IsBetter P cs held xs result fs) (sym h.0) (subst (λ k. IsBetter P cs held cs k fs) (sym h.1) (c, same_certificates cs, le_refl' (certificate_at cs held).bound))

-- those of a relaxation that stuck, where their bound is better, or those held before
pub better_certified : (P : Problem) (cs ds : List Certificate) (held : ℕ) (m : Multipliers) (depth : ℕ) (b : Option Number) (result : ℕ) (fs : List Fixing) (r : RangeAt) → depth ≡ length fs → IsCertified P cs held fs → IsStuck P fs r m.pairs → IsBoundAt P fs m.pairs b → IsHeldBetter cs held m depth b ds result →
    IsBetter P cs held ds result fs
better_certified P cs ds held m depth None result fs r d c s e h = as_before P cs ds held result fs c h
better_certified P cs ds held m depth (Some z) result fs r d c s e (inl h) = as_before P cs ds held result fs c h
better_certified P cs ds held m depth (Some z) result fs r d c s e (inr h) =
    let n = certified_new P cs ds m depth z result fs h.1 h.0 d s.rise s.lawful e.0 e.1 (subst (λ x. plain_bound P ≤ₙ x) (sym e.0) s.bound) in
    (n.0, lasting_new cs ds (record { multipliers = m; depth = depth; bound = z }) h.0, subst (λ (x : Number). (certificate_at cs held).bound ≤ₙ x) (sym n.1) (le_of_lt (certificate_at cs held).bound z h.2))

pub held_before : (C : Core) (which : ℕ) → Holds C → which < length C.queue → IsCertified C.problem C.certificates (node_at C.nodes (picked_of C which)).held (path C.nodes (picked_of C which))
held_before C which h w = let q = picked_in C which h w in subst (λ s. Stands C.problem C.certificates C.faults C.found C.nodes (picked_of C which) (node_at C.nodes (picked_of C which)).held (path C.nodes (picked_of C which)) s) q.waiting (h.each (picked_of C which) q.there)

-- by weak duality no relaxed point of the picked node costs less than the bound that was kept there
pub over_kept : (C : Core) (which : ℕ) (x : Point) (c : Certificate) → Holds C → which < length C.queue → RelaxedPoint C.problem (picked_path C which) x.values → cost_at C.problem x ≡ c.bound → IsOver C which c
over_kept C which x c h w r e =
    let k = held_before C which h w in
    let a : Certificate = certificate_at C.certificates (node_at C.nodes (picked_of C which)).held in
    let n : IsNode C.problem (picked_path C which) = h.apart (picked_of C which) (picked_in C which h w).there in
    let d = node_duality C.problem (take a.depth (picked_path C which)) a.multipliers.pairs x.values h.sound k.1.lawful (point_above C.problem a.depth (picked_path C which) x.values h.sound n r) in
    subst (λ (z : Number). z ≤ₙ c.bound) (sym k.1.bound) (subst (λ (z : Number). bound_at C.problem (take a.depth (picked_path C which)) a.multipliers ≤ₙ z) e d)

-- a leaf holds multipliers
held_leaf : (P : Problem) (cs : List Certificate) (rs : List RangeAt) (b : Option Best) (ns : List Node) (j held : ℕ) (fs : List Fixing) → (s : Standing) → first_child s ≡ None → Stands P cs rs b ns j held fs s → held < length cs
held_leaf P cs rs b ns j held fs Waits e h = h.0
held_leaf P cs rs b ns j held fs (Inner c k) e h = cc
held_leaf P cs rs b ns j held fs Never e h = h.0
held_leaf P cs rs b ns j held fs Closed e h = h.0.0
held_leaf P cs rs b ns j held fs (Kept a) e h = h.0.0

pub leaf_held : (C : Core) → Holds C → (j : ℕ) (n : Node) → j < length C.nodes → n ≡ node_at C.nodes j → first_child n.standing ≡ None → n.held < length C.certificates
leaf_held C h j n l e f = subst (λ (n : Node). first_child n.standing ≡ None → n.held < length C.certificates) (sym e) (λ g. held_leaf C.problem C.certificates C.faults C.found C.nodes j (node_at C.nodes j).held (path C.nodes j) (node_at C.nodes j).standing g (h.each j l)) f

pub kept_fault : (C : Core) → Holds C → (j a : ℕ) → j < length C.nodes → (node_at C.nodes j).standing ≡ Kept a → a < length C.faults
kept_fault C h j a l e = (subst (λ s. Stands C.problem C.certificates C.faults C.found C.nodes j (node_at C.nodes j).held (path C.nodes j) s) e (h.each j l)).1

-- ---- the picked node, as the code reads it
pub picked_node : (C : Core) (which : ℕ) → Holds C → which < length C.queue → IsNode C.problem (picked_path C which)
picked_node C which h w = h.apart (picked_of C which) (picked_in C which h w).there

-- the depth that is shown of it is the length of its path
pub depth_is : (C : Core) (which : ℕ) (x : Waiting) → Holds C → which < length C.queue → x ≡ get_or C.waiting which x → x.depth ≡ length (picked_path C which)
depth_is C which x h w e = ap (λ (y : Waiting). y.depth) (e ∙ entry_is C which x h w)

-- its node with the multipliers of a relaxation that stuck
pub stuck_held : (C : Core) (which : ℕ) (ds : List Certificate) (i : ℕ) (n : Node) (m : Multipliers) (x : Waiting) (b : Option Number) (result : ℕ) (r : RangeAt) → Holds C → which < length C.queue → i ≡ get_or C.queue which i → n ≡ get_or C.nodes i n → x ≡ get_or C.waiting which x → IsStuck C.problem (picked_path C which) r m.pairs → IsBoundAt C.problem (picked_path C which) m.pairs b → IsHeldBetter C.certificates n.held m x.depth b ds result →
    IsBetter C.problem C.certificates (node_at C.nodes (picked_of C which)).held ds result (picked_path C which)
stuck_held C which ds i n m x b result r h w ei en ex s f g =
    let p : i ≡ picked_of C which = get_or_read C.queue which i w ei 0 in
    let q = (picked_in C which h w).there in
    let l : i < length C.nodes = omega arith in
    let e : n ≡ node_at C.nodes (picked_of C which) = get_or_read C.nodes i n l en no_node ∙ ap (node_at C.nodes) p in
    subst (λ (n : Node). IsBetter C.problem C.certificates n.held ds result (picked_path C which)) e
    (better_certified C.problem C.certificates ds n.held m x.depth b result (picked_path C which) r (depth_is C which x h w ex) (subst (λ (n : Node). IsCertified C.problem C.certificates n.held (picked_path C which)) (sym e) (held_before C which h w)) s f g)
