-- That a check accepts the answer of a plan, and that the answer's text is read again.
use Rattle.std.proofs.Common.{◌≡◌, ℕ, zero, suc, ◌+◌, ◌*◌, ◌<◌, ◌≤◌, List, [], ◌∷◌, ◌++◌, length, map, get_or, true, false, Bool, refl, sym, ap, subst, ◌∙◌, Result, Ok, Err, IfOk, arith}
use Rattle.std.specs.declared.alloc.AllocError.{AllocError}
use Rattle.hys_lin.specs.declared.problem.Problem.{Problem}
use Rattle.hys_relax.specs.Laws.{child}
use Rattle.hys_relax.specs.declared.fixing.Fixing.{Fixing}
use Rattle.hys_tree.specs.Certificate.{Certificate, cost, never, fork, preorder}
use Rattle.hys_tree.specs.Multiplied.{IsMultiplied, AreMultiplied}
use Rattle.hys_tree.specs.Shows.{Shows}
use Rattle.hys_tree.specs.Fits.{Fits}
use Rattle.hys_tree.specs.declared.answer.Answer.{Answer}
use Rattle.hys_tree.specs.declared.tree.TreePlace.{TreePlace}
use Rattle.hys_tree.specs.declared.tree.TreePlace.TheVariants.{Inner, Cost, Never}
use Rattle.hys_search.specs.Places.{Visit, walk, visit, no_visit}
use Rattle.hys_plan.specs.Answer.{HasRising, IsAnswered, count, one_if, is_inner_or_never}
use Rattle.hys_check.specs.Verdict.{IsShown, verdict_of}
use Rattle.hys_check.specs.declared.verdict.Verdict.TheVariants.{Yes}
use Rattle.hys_check.proofs.Shown.{is_shown}
use Rattle.hys_answer.specs.Reading.{most_places}
use Rattle.hys_answer.specs.Shown.{answer_text}
use Rattle.hys_answer.specs.Texts.{ReadsAs, most_bytes}
use Rattle.hys_app.specs.Planning.{IsReadAgain}
use Rattle.hys_app.specs.declared.outcome.Outcome.{Outcome}

-- ---- the verdict
pub is_accepted : (p : Problem) (a : Answer) → Shows p a.tree.places a.claim → Fits p a.tree.places a.claim → verdict_of p a.tree.places a.claim ≡ Yes
is_accepted p a s f = (is_shown p a.tree.places a.claim (verdict_of p a.tree.places a.claim) refl).1 (record { shows = s; fits = f })

-- ---- multipliers
abbrev pub placed : List Visit → List TreePlace
placed [] = []
placed (v ∷ vs) = v.place ∷ placed vs

placed_after : (us vs : List Visit) → placed (us ++ vs) ≡ placed us ++ placed vs
placed_after [] vs = refl
placed_after (u ∷ us) vs = ap (λ (ts : List TreePlace). u.place ∷ ts) (placed_after us vs)

walk_places : (fs : List Fixing) (t : Certificate) → placed (walk fs t) ≡ preorder t
walk_places fs (cost m k) = refl
walk_places fs (never m k) = refl
walk_places fs (fork c a b) =
    ap (λ (ts : List TreePlace). Inner c ∷ ts)
    (placed_after (walk (child fs c false) a) (walk (child fs c true) b)
    ∙ (ap (λ (ts : List TreePlace). ts ++ placed (walk (child fs c true) b)) (walk_places (child fs c false) a)
    ∙ ap (λ (ts : List TreePlace). preorder a ++ ts) (walk_places (child fs c true) b)))

is_multiplied : (t : TreePlace) → HasRising t → IsMultiplied t
is_multiplied (Inner c) h = h
is_multiplied (Cost m k) h = h
is_multiplied (Never m k) h = h

all_multiplied : (vs : List Visit) → ((i : ℕ) → i < length vs → HasRising (get_or vs i no_visit).place) → AreMultiplied (placed vs)
all_multiplied [] h = tt
all_multiplied (v ∷ vs) h = (is_multiplied v.place (h 0 (omega arith)), all_multiplied vs (λ i l. h (suc i) (omega (arith, l))))

pub are_multiplied : (p : Problem) (nodes : ℕ) (a : Answer) → IsAnswered p nodes a → AreMultiplied a.tree.places
are_multiplied p nodes a h =
    subst AreMultiplied (walk_places [] h.tree ∙ h.preordered) (all_multiplied (walk [] h.tree) h.rising)

-- ---- as many places as a search has
abbrev pub inners : Certificate → ℕ
inners (cost m k) = 0
inners (never m k) = 0
inners (fork c a b) = suc (inners a + inners b)

length_after : (us vs : List TreePlace) → length (us ++ vs) ≡ length us + length vs
length_after [] vs = omega arith
length_after (u ∷ us) vs = omega (arith, length_after us vs)

count_after : (us vs : List TreePlace) → count (us ++ vs) ≡ count us + count vs
count_after [] vs = omega arith
count_after (u ∷ us) vs = let e = count_after us vs in omega (arith, e)

places_are : (t : Certificate) → length (preorder t) ≡ 2 * inners t + 1
places_are (cost m k) = omega arith
places_are (never m k) = omega arith
places_are (fork c a b) = omega (arith, length_after (preorder a) (preorder b), places_are a, places_are b)

inners_counted : (t : Certificate) → inners t ≤ count (preorder t)
inners_counted (cost m k) = omega arith
inners_counted (never m k) = omega arith
inners_counted (fork c a b) = omega (arith, count_after (preorder a) (preorder b), inners_counted a, inners_counted b)

few_of : (t : Certificate) (places : List TreePlace) (expanded nodes : ℕ) → preorder t ≡ places → count places ≤ expanded → expanded ≤ nodes → nodes ≤ 500000 →
    length places ≤ most_places
few_of t places expanded nodes e c x n =
    let l : length (preorder t) ≡ length places = ap (λ (ts : List TreePlace). length ts) e in
    let k : count (preorder t) ≡ count places = ap count e in
    omega (arith, l, k, places_are t, inners_counted t, c, x, n)

pub few_places : (p : Problem) (nodes : ℕ) (a : Answer) → IsAnswered p nodes a → nodes ≤ 500000 → length a.tree.places ≤ most_places
few_places p nodes a h n = few_of h.tree a.tree.places a.expanded nodes h.preordered h.fewest h.within n

-- ---- the text
pub reads_as : (a : Answer) (text : List ℕ) → text ≡ answer_text a.claim a.tree.places → ReadsAs text a → ReadsAs (answer_text a.claim a.tree.places) a
reads_as a text e h = subst (λ (t : List ℕ). ReadsAs t a) e h

pub read_again : (p : Problem) (nodes : ℕ) (a : Answer) → IsAnswered p nodes a → nodes ≤ 500000 → ReadsAs (answer_text a.claim a.tree.places) a → IsReadAgain a
read_again p nodes a h n reads = λ few. reads (are_multiplied p nodes a h) (few_places p nodes a h n) few
