-- Nodes below a node, and points whose branch columns are 0 or 1.
use Rattle.std.proofs.Common.{◌≡◌, ℕ, ◌<◌, ◌⊎◌, inl, inr, refl, sym, ◌∙◌, ap, subst, Bool, true, false, ◌||◌, cond, List, [], ◌∷◌, ◌++◌, take, length}
use Rattle.std.specs.Prelude.{nat_eq}
use Rattle.hys_number.specs.Number.{Number}
use Rattle.hys_number.specs.Ops.{whole}
use Rattle.hys_number.proofs.Order.{le_trans, le_antisymm}
use Rattle.hys_lin.specs.Bits.{bit, IsBit}
use Rattle.hys_lin.specs.Sums.{Assignment, at, Within}
use Rattle.hys_lin.specs.Ranges.{box_at}
use Rattle.hys_lin.specs.declared.form.Interval.{Interval}
use Rattle.hys_lin.specs.declared.problem.Problem.{Problem}
use Rattle.hys_lin.specs.Problem.{IsProblem}
use Rattle.hys_relax.specs.Node.{is_branch, unit_box, StackedSolution, is_fixed, IsNode, only, box_under, node_boxes, Inside, RelaxedPoint, Agrees}
use Rattle.hys_relax.specs.declared.fixing.Fixing.{Fixing}
use Rattle.hys_relax.proofs.Dense.{other_column, own_column}
use Rattle.hys_relax.proofs.Nodes.{under_within, fixable, there, units}

-- ---- one fixing more
any_append : (fs gs : List Fixing) (c : ℕ) → is_fixed fs c ≡ false → is_fixed gs c ≡ false → is_fixed (fs ++ gs) c ≡ false
any_append [] gs c h g = g
any_append (f ∷ fs) gs c h g = go (nat_eq f.column c) h (any_append fs gs c)
  where
    go : (b : Bool) → (b || is_fixed fs c) ≡ false → (is_fixed fs c ≡ false → is_fixed gs c ≡ false → is_fixed (fs ++ gs) c ≡ false) → (b || is_fixed (fs ++ gs) c) ≡ false
    go true e r = e
    go false e r = r e g

not_same : (c d : ℕ) → nat_eq c d ≡ false → c ≡ d → ⊥
not_same c d e f = absurd (let q : nat_eq c c ≡ false = subst (λ z. nat_eq c z ≡ false) (sym f) e in let r : nat_eq c c ≡ true = own_column c in let s : true ≡ false = sym r ∙ q in cc)

pub node_child : (p : Problem) (fs : List Fixing) (f : Fixing) → IsNode p fs → is_branch p f.column ≡ true → is_fixed fs f.column ≡ false → IsNode p (fs ++ f ∷ [])
node_child p [] f n b e = (b, refl, tt)
node_child p (g ∷ fs) f n b e = go (nat_eq g.column f.column) refl e (λ r. node_child p fs f n.2 b r)
  where
    turned : (c d : ℕ) → nat_eq c d ≡ false → nat_eq d c ≡ false
    turned c d q = other_column d c (λ x. not_same c d q (sym x))

    go : (x : Bool) → nat_eq g.column f.column ≡ x → (x || is_fixed fs f.column) ≡ false → (is_fixed fs f.column ≡ false → IsNode p (fs ++ f ∷ [])) → IsNode p ((g ∷ fs) ++ f ∷ [])
    go true q r rest = absurd (let s : true ≡ false = r in cc)
    go false q r rest = (n.0, any_append fs (f ∷ []) g.column n.1 (ap (λ z. z || false) (turned g.column f.column q)), rest r)

agrees_more : (fs gs : List Fixing) (x : Assignment) → Agrees fs x → Agrees gs x → Agrees (fs ++ gs) x
agrees_more [] gs x h g = g
agrees_more (f ∷ fs) gs x h g = (h.0, agrees_more fs gs x h.1 g)

-- a solution agrees with one of the two children
pub children_cover : (p : Problem) (fs : List Fixing) (c : ℕ) (u : List Number) → StackedSolution p u → Agrees fs (at u) → is_branch p c ≡ true →
    Agrees (fs ++ record { column = c; one = false } ∷ []) (at u) ⊎ Agrees (fs ++ record { column = c; one = true } ∷ []) (at u)
children_cover p fs c u s h b = elim (s.bits c b) as (λ _. Agrees (fs ++ record { column = c; one = false } ∷ []) (at u) ⊎ Agrees (fs ++ record { column = c; one = true } ∷ []) (at u)) [
  | inl e ↦ inl (agrees_more fs (record { column = c; one = false } ∷ []) (at u) h (e, tt))
  | inr e ↦ inr (agrees_more fs (record { column = c; one = true } ∷ []) (at u) h (e, tt))
]

-- ---- points of nodes
wider : (b c : Interval) (x : Number) → Within b c.low → Within b c.high → Within c x → Within b x
wider b c x l h w = record { low = le_trans b.low c.low x l.low w.low; high = le_trans x c.high b.high w.high h.high }

-- a relaxed point of a node is one of each node above
pub point_above : (p : Problem) (m : ℕ) (fs : List Fixing) (u : List Number) → IsProblem p → IsNode p fs → RelaxedPoint p fs u → RelaxedPoint p (take m fs) u
point_above p m fs u h n r = record {
  long = r.long;
  inside = λ j l. let w : Within (node_boxes p (take m fs) j) (node_boxes p fs j).low × Within (node_boxes p (take m fs) j) (node_boxes p fs j).high = under_within p h m fs (fixable p fs n) j l in
      wider (node_boxes p (take m fs) j) (node_boxes p fs j) (at u j) w.0 w.1 (r.inside j l);
  rows = r.rows;
}

none_taken : (fs : List Fixing) → take 0 fs ≡ []
none_taken [] = refl
none_taken (f ∷ fs) = refl

in_root : (p : Problem) (fs : List Fixing) (u : List Number) → IsProblem p → IsNode p fs → RelaxedPoint p fs u → Inside (length p.boxes) (box_at p.boxes) (at u)
in_root p fs u h n r = subst (λ z. Inside (length p.boxes) (node_boxes p z) (at u)) (none_taken fs) (point_above p 0 fs u h n r).inside

-- its branch columns lie between 0 and 1
pub branch_within : (p : Problem) (fs : List Fixing) (u : List Number) (c : ℕ) → IsProblem p → IsNode p fs → RelaxedPoint p fs u → is_branch p c ≡ true → Within unit_box (at u c)
branch_within p fs u c h n r b = subst (λ z. Within z (at u c)) (units p h c b) (in_root p fs u h n r c (there p h c b))

-- and are 0 or 1 where they are fixed
fixed_box : (fs : List Fixing) (box : Interval) (c : ℕ) (x : Number) → is_fixed fs c ≡ true → Within (box_under fs box c) x → IsBit x
fixed_box [] box c x e w = absurd (let s : false ≡ true = e in cc)
fixed_box (f ∷ fs) box c x e w = go (nat_eq f.column c) e w (fixed_box fs box c x)
  where
    only_bit : (b : Bool) → Within (only (bit b)) x → IsBit x
    only_bit true v = inr (le_antisymm x (whole 1) v.high v.low)
    only_bit false v = inl (le_antisymm x (whole 0) v.high v.low)

    go : (b : Bool) → (b || is_fixed fs c) ≡ true → Within (cond b (only (bit f.one)) (box_under fs box c)) x → (is_fixed fs c ≡ true → Within (box_under fs box c) x → IsBit x) → IsBit x
    go true q v rest = only_bit f.one v
    go false q v rest = rest q v

pub fixed_bit : (p : Problem) (fs : List Fixing) (u : List Number) (c : ℕ) → RelaxedPoint p fs u → c < length p.boxes → is_fixed fs c ≡ true → IsBit (at u c)
fixed_bit p fs u c r l e = fixed_box fs (box_at p.boxes c) c (at u c) e (r.inside c l)

-- a relaxed point whose branch columns are 0 or 1 is a solution
pub point_solves : (p : Problem) (fs : List Fixing) (u : List Number) → IsProblem p → IsNode p fs → RelaxedPoint p fs u → ((c : ℕ) → is_branch p c ≡ true → IsBit (at u c)) → StackedSolution p u
point_solves p fs u h n r b = record { long = r.long; inside = in_root p fs u h n r; bits = b; rows = r.rows }

pub within : (p : Problem) (fs : List Fixing) (u : List Number) (c : ℕ) → IsProblem p → IsNode p fs → RelaxedPoint p fs u → is_branch p c ≡ true → Within unit_box (at u c) × (is_fixed fs c ≡ true → IsBit (at u c))
within p fs u c h n r b = (branch_within p fs u c h n r b, λ e. fixed_bit p fs u c r (there p h c b) e)
