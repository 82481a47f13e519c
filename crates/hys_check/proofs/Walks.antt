-- The walk with one path, and the paths that are still to come.
use Rattle.std.proofs.Common.{◌≡◌, ℕ, zero, suc, ◌+◌, ◌<◌, refl, sym, ◌∙◌, ap, ap₂, subst, arith, add-one, Bool, true, false, not, cond, List, [], ◌∷◌, ◌++◌, append_assoc, length, take, drop, get_or, set, slice_set, drop-cons}
use Rattle.std.specs.List.{AllByRecursion}
use Rattle.hys_lin.specs.Problem.{IsProblem}
use Rattle.hys_lin.specs.declared.problem.Problem.{Problem}
use Rattle.hys_relax.specs.Laws.{child}
use Rattle.hys_relax.proofs.Nodes.{there}
use Rattle.hys_relax.specs.declared.fixing.Fixing.{Fixing}
use Rattle.hys_tree.specs.Shows.{Goal}
use Rattle.hys_tree.specs.declared.tree.TreePlace.{TreePlace}
use Rattle.hys_tree.specs.declared.tree.TreePlace.TheVariants.{Inner, Cost, Never}
use Rattle.hys_lagrange.specs.Fixed.{AreWithin}
use Rattle.hys_check.specs.Testing.{Test, first_failing}
use Rattle.hys_check.specs.TreeTests.{place_tests, paths_below, tree_tests}
use Rattle.hys_tree.specs.Multiplied.{AreMultiplied, IsMultiplied}
use Rattle.hys_check.specs.Walk.{pending_after, pending, paths_with, IsColumnWithin}
use Rattle.hys_check.specs.declared.verdict.At.TheVariants.{Node}
use Rattle.hys_check.specs.declared.verdict.CheckWhy.TheVariants.{Shape}
use Rattle.hys_check.specs.declared.verdict.Verdict.{Verdict}
use Rattle.hys_check.specs.declared.verdict.Verdict.TheVariants.{Yes, No}
use Rattle.hys_check.proofs.Verdicts.{Pass, passes_then, failed_first}
use Rattle.hys_check.proofs.Leaves.{inner_shown}

-- ---- the last fixing of a path
other_side : List Fixing → Fixing → List (List Fixing)
other_side above f = cond f.one [] (child above f.column true ∷ [])

append_end : (xs ys zs : List Fixing) → (xs ++ ys) ++ zs ≡ xs ++ (ys ++ zs)
append_end xs ys zs = append_assoc xs ys zs

nil_end : (xs : List Fixing) → xs ++ [] ≡ xs
nil_end [] = refl
nil_end (x ∷ xs) = ap (λ z. x ∷ z) (nil_end xs)

pending_last : (above fs : List Fixing) (f : Fixing) → pending_after above (fs ++ f ∷ []) ≡ cond f.one [] (child (above ++ fs) f.column true ∷ []) ++ pending_after above fs
pending_last above [] f = ap (λ z. cond f.one [] (child z f.column true ∷ [])) (sym (nil_end above)) ∙ sym (paths_end (cond f.one [] (child (above ++ []) f.column true ∷ [])))
  where
    paths_end : (xs : List (List Fixing)) → xs ++ [] ≡ xs
    paths_end [] = refl
    paths_end (x ∷ xs) = ap (λ z. x ∷ z) (paths_end xs)
pending_last above (g ∷ fs) f =
    ap (λ z. z ++ cond g.one [] (child above g.column true ∷ [])) (pending_last (above ++ g ∷ []) fs f)
    ∙ append_assoc (cond f.one [] (child ((above ++ g ∷ []) ++ fs) f.column true ∷ [])) (pending_after (above ++ g ∷ []) fs) (cond g.one [] (child above g.column true ∷ []))
    ∙ ap (λ z. cond f.one [] (child z f.column true ∷ []) ++ (pending_after (above ++ g ∷ []) fs ++ cond g.one [] (child above g.column true ∷ []))) (append_end above (g ∷ []) fs)

pub pending_zero : (fs : List Fixing) (c : ℕ) → pending (fs ++ record { column = c; one = false } ∷ []) ≡ child fs c true ∷ pending fs
pending_zero fs c = pending_last [] fs (record { column = c; one = false })

pub pending_one : (fs : List Fixing) (c : ℕ) → pending (fs ++ record { column = c; one = true } ∷ []) ≡ pending fs
pending_one fs c = pending_last [] fs (record { column = c; one = true })

-- ---- a path by its last fixing
pub last_apart : {X : Type 0} (xs : List X) (n : ℕ) (d : X) → length xs ≡ suc n → xs ≡ take n xs ++ get_or xs n d ∷ []
last_apart [] n d e = absurd (omega (arith, e))
last_apart (x ∷ []) zero d e = refl
last_apart (x ∷ []) (suc n) d e = absurd (omega (arith, e))
last_apart (x ∷ y ∷ xs) zero d e = absurd (omega (arith, e))
last_apart (x ∷ y ∷ xs) (suc n) d e = ap (λ z. x ∷ z) (last_apart (y ∷ xs) n d (omega (arith, e)))

pub last_set : {X : Type 0} (xs : List X) (n : ℕ) (y : X) → length xs ≡ suc n → slice_set xs n y ≡ take n xs ++ y ∷ []
last_set [] n y e = absurd (omega (arith, e))
last_set (x ∷ []) zero y e = refl
last_set (x ∷ []) (suc n) y e = absurd (omega (arith, e))
last_set (x ∷ z ∷ xs) zero y e = absurd (omega (arith, e))
last_set (x ∷ z ∷ xs) (suc n) y e = ap (λ w. x ∷ w) (last_set (z ∷ xs) n y (omega (arith, e)))

pub within_take : (n m : ℕ) (fs : List Fixing) → AreWithin n fs → AreWithin n (take m fs)
within_take n zero [] h = tt
within_take n zero (f ∷ fs) h = tt
within_take n (suc m) [] h = tt
within_take n (suc m) (f ∷ fs) h = (h.0, within_take n m fs h.1)

pub within_push : (n : ℕ) (fs : List Fixing) (f : Fixing) → AreWithin n fs → f.column < n → AreWithin n (fs ++ f ∷ [])
within_push n [] f h l = (l, tt)
within_push n (g ∷ fs) f h l = (h.0, within_push n fs f h.1 l)

pub within_at : (n m : ℕ) (fs : List Fixing) (d : Fixing) → AreWithin n fs → m < length fs → (get_or fs m d).column < n
within_at n m [] d h l = absurd (omega arith)
within_at n zero (f ∷ fs) d h l = h.0
within_at n (suc m) (f ∷ fs) d h l = within_at n m fs d h.1 (omega arith)

one_more : (n : ℕ) → suc n ≡ n + 1
one_more n = omega arith

-- ---- one place more
pub record IsWalked (p : Problem) (g : Goal) (places : List TreePlace) (n : ℕ) (more : Bool) (path : List Fixing) : Type 0 where
  pub within : AreWithin (length p.boxes) path
  pub same : first_failing (tree_tests p g 0 ([] ∷ []) places) ≡ first_failing (tree_tests p g n (paths_with more path) (drop n places))

pub place_here : (places : List TreePlace) (n : ℕ) (place d : TreePlace) → n < length places → place ≡ get_or places n d → drop n places ≡ place ∷ drop (n + 1) places
place_here places n place d l e = rw (add-one, drop-cons places n d l, ← e) refl

pub walked_on : (p : Problem) (g : Goal) (places : List TreePlace) (n : ℕ) (path new : List Fixing) (more : Bool) (place : TreePlace) → drop n places ≡ place ∷ drop (n + 1) places →
    Pass (place_tests p g n path place) → paths_with more new ≡ paths_below path place ++ pending path → AreWithin (length p.boxes) new →
    IsWalked p g places n true path → IsWalked p g places (n + 1) more new
walked_on p g places n path new more place e h f w k = record {
  within = w;
  same = k.same ∙ ap (λ z. first_failing (tree_tests p g n (path ∷ pending path) z)) e
      ∙ passes_then (place_tests p g n path place) (tree_tests p g (suc n) (paths_below path place ++ pending path) (drop (n + 1) places)) h
      ∙ ap₂ (λ m z. first_failing (tree_tests p g m z (drop (n + 1) places))) (one_more n) (sym f);
}

-- ---- a turn to the other side
fixing_is : (f : Fixing) (b : Bool) → f.one ≡ b → f ≡ record { column = f.column; one = b }
fixing_is f b e = ap (λ (x : Bool). record { column = f.column; one = x }) e

not_on : (b : Bool) → not b ≡ true → b ≡ false
not_on true e = absurd (cc)
not_on false e = refl

is_on : (b : Bool) → not b ≡ false → b ≡ true
is_on true e = refl
is_on false e = absurd (cc)

path_is : (path : List Fixing) (m : ℕ) (f d : Fixing) (b : Bool) → length path ≡ suc m → f ≡ get_or path m d → f.one ≡ b → path ≡ take m path ++ record { column = f.column; one = b } ∷ []
path_is path m f d b l e q = last_apart path m d l ∙ ap (λ x. take m path ++ x ∷ []) (sym e ∙ fixing_is f b q)

pub turned : (old path : List Fixing) (m : ℕ) (f d : Fixing) → length path ≡ suc m → f ≡ get_or path m d → not f.one ≡ true → pending path ≡ pending old →
    slice_set path m (record { column = f.column; one = true }) ∷ pending (slice_set path m (record { column = f.column; one = true })) ≡ pending old
turned old path m f d l e q s =
    ap (λ z. z ∷ pending z) (last_set path m (record { column = f.column; one = true }) l)
    ∙ ap (λ z. child (take m path) f.column true ∷ z) (pending_one (take m path) f.column)
    ∙ sym (pending_zero (take m path) f.column)
    ∙ ap pending (sym (path_is path m f d false l e (not_on f.one q))) ∙ s

pub turned_within : (n m : ℕ) (path : List Fixing) (f d : Fixing) → length path ≡ suc m → f ≡ get_or path m d → AreWithin n path → AreWithin n (slice_set path m (record { column = f.column; one = true }))
turned_within n m path f d l e h = subst (AreWithin n) (sym (last_set path m (record { column = f.column; one = true }) l))
    (within_push n (take m path) (record { column = f.column; one = true }) (within_take n m path h) (subst (λ (x : Fixing). x.column < n) (sym e) (within_at n m path d h (omega (arith, l)))))

pub shortened : (path : List Fixing) (m : ℕ) (f d : Fixing) → length path ≡ suc m → f ≡ get_or path m d → not f.one ≡ false → pending (take m path) ≡ pending path
shortened path m f d l e q = sym (ap pending (path_is path m f d true l e (is_on f.one q)) ∙ pending_one (take m path) f.column)

pub pushed : (old new : List Fixing) (c : ℕ) → new ≡ old ++ record { column = c; one = false } ∷ [] → new ∷ pending new ≡ child old c false ∷ child old c true ∷ pending old
pushed old new c e = ap (λ z. z ∷ pending z) e ∙ ap (λ z. child old c false ∷ z) (pending_zero old c)

-- ---- the ends of the walk
pub is_walked_on : (p : Problem) (g : Goal) (places : List TreePlace) (n : ℕ) (more b : Bool) (path : List Fixing) → more ≡ b → IsWalked p g places n more path → IsWalked p g places n b path
is_walked_on p g places n more b path e w = subst (λ x. IsWalked p g places n x path) e w

pub left_over : (p : Problem) (g : Goal) (places : List TreePlace) (n : ℕ) (more : Bool) (path : List Fixing) (v : Verdict) → more ≡ false → n < length places → v ≡ No (Node n) Shape → IsWalked p g places n more path →
    v ≡ first_failing (tree_tests p g 0 ([] ∷ []) places)
left_over p g places n more path v e l q w =
    q ∙ sym ((is_walked_on p g places n more false path e w).same ∙ ap (λ z. first_failing (tree_tests p g n [] z)) (drop-cons places n (Inner 0) l))

pub failed_at : (p : Problem) (g : Goal) (places : List TreePlace) (n : ℕ) (more : Bool) (path now : List Fixing) (place : TreePlace) (v : Verdict) → more ≡ true → drop n places ≡ place ∷ drop (n + 1) places → now ≡ path →
    v ≡ first_failing (place_tests p g n now place) → (v ≡ Yes → ⊥) → IsWalked p g places n more path → v ≡ first_failing (tree_tests p g 0 ([] ∷ []) places)
failed_at p g places n more path now place v m e q h d w =
    failed_first v (place_tests p g n path place) (tree_tests p g (suc n) (paths_below path place ++ pending path) (drop (n + 1) places)) (h ∙ ap (λ z. first_failing (place_tests p g n z place)) q) d
    ∙ sym ((is_walked_on p g places n more true path m w).same ∙ ap (λ z. first_failing (tree_tests p g n (path ∷ pending path) z)) e)

pub column_there : (p : Problem) → IsProblem p → (g : Goal) (n : ℕ) (path : List Fixing) (place : TreePlace) → Pass (place_tests p g n path place) → IsColumnWithin (length p.boxes) place
column_there p i g n path (Inner c) h = there p i c (inner_shown p n path c h).branch
column_there p i g n path (Cost m k) h = tt
column_there p i g n path (Never m k) h = tt
