-- A Yes says that the tree shows the claim and that every number fits, and the other way round.
use Rattle.std.proofs.Common.{◌≡◌, ◌↔◌, List, [], ◌∷◌, sym, ◌∙◌, subst}
use Rattle.hys_lin.specs.declared.problem.Problem.{Problem}
use Rattle.hys_tree.specs.Certificate.{Certificate}
use Rattle.hys_tree.specs.Shows.{Shows, TreeShows, goal_of}
use Rattle.hys_tree.specs.Fits.{Fits, TreeFits}
use Rattle.hys_tree.specs.declared.answer.Claim.{Claim}
use Rattle.hys_tree.specs.declared.tree.TreePlace.{TreePlace}
use Rattle.hys_tree.proofs.Unique.{one_tree}
use Rattle.hys_check.specs.TreeTests.{tree_tests}
use Rattle.hys_check.specs.ClaimTests.{claim_tests}
use Rattle.hys_check.specs.Verdict.{IsShown, verdict_of}
use Rattle.hys_check.specs.declared.verdict.Verdict.{Verdict}
use Rattle.hys_check.specs.declared.verdict.Verdict.TheVariants.{Yes}
use Rattle.hys_check.proofs.Verdicts.{both_pass, pass_both}
use Rattle.hys_check.proofs.Trees.{IsTree, tree_shown, tree_passes}
use Rattle.hys_check.proofs.Points.{claim_holds, claim_passes}

shown : (p : Problem) (places : List TreePlace) (c : Claim) → verdict_of p places c ≡ Yes → IsShown p places c
shown p places c h =
    let w = both_pass (tree_tests p (goal_of c) 0 ([] ∷ []) places) (claim_tests p c) h in
    let t : IsTree p (goal_of c) places = tree_shown p (goal_of c) places w.0 in
    let s = claim_holds p c w.1 in
    record {
      shows = record { tree = t.tree; preordered = t.preordered; shows = t.shows; claim = s.0 };
      fits = record { tree = t.tree; preordered = t.preordered; fits = t.fits; claim = s.1 };
    }

passes : (p : Problem) (places : List TreePlace) (c : Claim) → IsShown p places c → verdict_of p places c ≡ Yes
passes p places c h =
    let e : h.fits.tree ≡ h.shows.tree = one_tree h.fits.tree h.shows.tree (h.fits.preordered ∙ sym h.shows.preordered) in
    pass_both (tree_tests p (goal_of c) 0 ([] ∷ []) places) (claim_tests p c)
    (tree_passes p (goal_of c) places h.shows.tree h.shows.preordered h.shows.shows (subst (TreeFits p []) e h.fits.fits))
    (claim_passes p c h.shows.claim h.fits.claim)

pub is_shown : (p : Problem) (places : List TreePlace) (c : Claim) (v : Verdict) → v ≡ verdict_of p places c → (v ≡ Yes) ↔ IsShown p places c
is_shown p places c v e = (λ h. shown p places c (sym e ∙ h), λ h. e ∙ passes p places c h)
