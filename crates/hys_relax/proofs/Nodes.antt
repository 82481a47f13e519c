-- The boxes of nodes, and the points of nodes.
use Rattle.std.proofs.Common.{◌≡◌, ℕ, zero, suc, ◌<◌, refl, sym, ◌∙◌, ap, ap₂, subst, arith, ◌||◌, Bool, true, false, cond, IsTrue, List, [], ◌∷◌, take, length}
use Rattle.std.specs.Prelude.{nat_eq}
use Rattle.std.specs.List.{AllByRecursion, list_any}
use Rattle.std.proofs.lemmas.List.Elements.{recursion_from_All}
use Rattle.hys_number.specs.Number.{Number}
use Rattle.hys_number.specs.Ops.{◌≤ₙ◌, whole}
use Rattle.hys_number.proofs.Laws.{whole-ratio}
use Rattle.hys_number.proofs.Order.{le_refl'}
use Rattle.hys_number.proofs.Scale.{overs}
use Rattle.hys_lin.specs.Bits.{bit}
use Rattle.hys_lin.specs.Sums.{Assignment, at, Within, IsInterval}
use Rattle.hys_lin.specs.Ranges.{box_at, InBoxes}
use Rattle.hys_lin.specs.declared.problem.Problem.{Problem}
use Rattle.hys_lin.specs.Problem.{IsProblem, IsBranch}
use Rattle.hys_relax.specs.Node.{is_branch, unit_box, StackedSolution, IsNode, only, box_under, node_boxes, Inside, RelaxedPoint, Agrees}
use Rattle.hys_relax.specs.declared.fixing.Fixing.{Fixing}
use Rattle.hys_relax.proofs.Dense.{all_at, same_column}

pub zero_one : whole 0 ≤ₙ whole 1
zero_one = let h : 0 < 1 = omega arith in rw (whole-ratio 0 1 h, whole-ratio 1 1 h) (simp (overs, h) (omega arith))

bit_in_unit : (b : Bool) → Within unit_box (bit b)
bit_in_unit true = record { low = zero_one; high = le_refl' (whole 1) }
bit_in_unit false = record { low = le_refl' (whole 0); high = zero_one }

pub box_ordered : (p : Problem) → IsProblem p → (j : ℕ) → j < length p.boxes → IsInterval (box_at p.boxes j)
box_ordered p h j l = all_at IsInterval p.boxes j (record { low = whole 0; high = whole 0 }) (recursion_from_All IsInterval p.boxes h.boxes) l

-- a branch column is there, and its box is 0 to 1
branch_of : (p : Problem) (bs : List ℕ) (c : ℕ) → list_any (nat_eq c) bs ≡ true → AllByRecursion (IsBranch p.boxes) bs → IsBranch p.boxes c
branch_of p [] c e h = absurd (let n : false ≡ true = e in cc)
branch_of p (b ∷ bs) c e h = go (nat_eq c b) refl e (branch_of p bs c)
  where
    go : (t : Bool) → nat_eq c b ≡ t → (t || list_any (nat_eq c) bs) ≡ true → (list_any (nat_eq c) bs ≡ true → AllByRecursion (IsBranch p.boxes) bs → IsBranch p.boxes c) → IsBranch p.boxes c
    go true q f rest = subst (IsBranch p.boxes) (sym (same_column c b q)) h.0
    go false q f rest = rest f h.1

branch : (p : Problem) → IsProblem p → (c : ℕ) → is_branch p c ≡ true → IsBranch p.boxes c
branch p h c e = branch_of p p.branch c e (recursion_from_All (IsBranch p.boxes) p.branch h.branch)

pub there : (p : Problem) → IsProblem p → (c : ℕ) → is_branch p c ≡ true → c < length p.boxes
there p h c e = (branch p h c e).below

pub units : (p : Problem) → IsProblem p → (c : ℕ) → is_branch p c ≡ true → box_at p.boxes c ≡ unit_box
units p h c e = let u = (branch p h c e).unit in ap₂ (λ low high. record { low = low; high = high }) u.0 u.1

-- the fixed columns alone, without that they differ
abbrev pub AreFixable : Problem → List Fixing → Type 0
AreFixable p [] = Unit {0}
AreFixable p (f ∷ fs) = IsTrue (is_branch p f.column) × AreFixable p fs

pub fixable : (p : Problem) (fs : List Fixing) → IsNode p fs → AreFixable p fs
fixable p [] n = tt
fixable p (f ∷ fs) n = (n.0, fixable p fs n.2)

-- the box of a column under fixings lies in the box under the first of them
pub under_within : (p : Problem) → IsProblem p → (m : ℕ) (fs : List Fixing) → AreFixable p fs → (j : ℕ) → j < length p.boxes →
    Within (box_under (take m fs) (box_at p.boxes j) j) (node_boxes p fs j).low × Within (box_under (take m fs) (box_at p.boxes j) j) (node_boxes p fs j).high
under_within p h zero [] a j l = (record { low = le_refl' _; high = box_ordered p h j l }, record { low = box_ordered p h j l; high = le_refl' _ })
under_within p h (suc m) [] a j l = (record { low = le_refl' _; high = box_ordered p h j l }, record { low = box_ordered p h j l; high = le_refl' _ })
under_within p h zero (f ∷ fs) a j l = go (nat_eq f.column j) refl (under_within p h zero fs a.1 j l)
  where
    go : (b : Bool) → nat_eq f.column j ≡ b → Within (box_at p.boxes j) (node_boxes p fs j).low × Within (box_at p.boxes j) (node_boxes p fs j).high →
        Within (box_at p.boxes j) (cond b (only (bit f.one)) (node_boxes p fs j)).low × Within (box_at p.boxes j) (cond b (only (bit f.one)) (node_boxes p fs j)).high
    go true e w = let u : Within (box_at p.boxes j) (bit f.one) = subst (λ z. Within z (bit f.one)) (sym (subst (λ z. box_at p.boxes z ≡ unit_box) (same_column f.column j e) (units p h f.column a.0))) (bit_in_unit f.one) in (u, u)
    go false e w = w
under_within p h (suc m) (f ∷ fs) a j l = go (nat_eq f.column j) (under_within p h m fs a.1 j l)
  where
    go : (b : Bool) → Within (box_under (take m fs) (box_at p.boxes j) j) (node_boxes p fs j).low × Within (box_under (take m fs) (box_at p.boxes j) j) (node_boxes p fs j).high →
        Within (cond b (only (bit f.one)) (box_under (take m fs) (box_at p.boxes j) j)) (cond b (only (bit f.one)) (node_boxes p fs j)).low
        × Within (cond b (only (bit f.one)) (box_under (take m fs) (box_at p.boxes j) j)) (cond b (only (bit f.one)) (node_boxes p fs j)).high
    go true w = let u : Within (only (bit f.one)) (bit f.one) = record { low = le_refl' _; high = le_refl' _ } in (u, u)
    go false w = w

-- the boxes of a node aren't empty
pub node_ordered : (p : Problem) → IsProblem p → (fs : List Fixing) (j : ℕ) → j < length p.boxes → IsInterval (node_boxes p fs j)
node_ordered p h [] j l = box_ordered p h j l
node_ordered p h (f ∷ fs) j l = go (nat_eq f.column j) (node_ordered p h fs j l)
  where
    go : (b : Bool) → IsInterval (node_boxes p fs j) → IsInterval (cond b (only (bit f.one)) (node_boxes p fs j))
    go true w = le_refl' (bit f.one)
    go false w = w

-- a point that agrees with the fixings lies in the node's boxes
pub inside_node : (p : Problem) (fs : List Fixing) (x : Assignment) → InBoxes p.boxes x → Agrees fs x → Inside (length p.boxes) (node_boxes p fs) x
inside_node p [] x h o = h
inside_node p (f ∷ fs) x h o = λ j l. go j (nat_eq f.column j) refl (inside_node p fs x h o.1 j l)
  where
    go : (j : ℕ) (b : Bool) → nat_eq f.column j ≡ b → Within (node_boxes p fs j) (x j) → Within (cond b (only (bit f.one)) (node_boxes p fs j)) (x j)
    go j true e r = subst (Within (only (bit f.one))) (sym o.0 ∙ ap x (same_column f.column j e)) (record { low = le_refl' _; high = le_refl' _ })
    go j false e r = r

pub relaxes : (p : Problem) (fs : List Fixing) (u : List Number) → StackedSolution p u → Agrees fs (at u) → RelaxedPoint p fs u
relaxes p fs u s o = record { long = s.long; inside = inside_node p fs (at u) s.inside o; rows = s.rows }
