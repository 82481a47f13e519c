-- The slack of an equation, and sums that don't fit, by computation.
use Rattle.std.proofs.Common.{◌≡◌, ℕ, ◌+◌, inl, inr, refl, subst, arith, true, [], ◌∷◌}
use Rattle.hys_number.specs.Number.{Number, make}
use Rattle.hys_number.specs.Gcd.{gcd}
use Rattle.hys_number.specs.Ops.{◌+ₙ◌, ◌*ₙ◌, ◌≤ₙ◌, neg, inverse, whole, fits}
use Rattle.hys_lin.specs.Sums.{at}
use Rattle.hys_relax.specs.Node.{node_boxes}
use Rattle.hys_relax.specs.Bound.{costless}
use Rattle.hys_relax.specs.BoundSum.{bound_operations}
use Rattle.hys_relax.specs.LinearProgram.{linear_program}
use Rattle.hys_relax.specs.declared.range.TablePlace.TheVariants.{Value, Sum}
use Rattle.hys_simplex.specs.Tableau.{start}
use Rattle.hys_simplex.specs.Status.{IsOff, under, over, basic_value, AllInside, status_point}
use Rattle.hys_simplex.specs.Rule.{MayEnter, IsLeaving, IsBlocked, IsRuled}
use Rattle.hys_simplex.specs.Path.{tableau_after}
use Rattle.hys_simplex.specs.Unfit.{SomeUnfit, Unfit, RowSumUnfit, point_operations, cost_pairs, row_pairs}
use Rattle.hys_simplex.specs.Worked.{equated, costly, doubled, dear, sunk}
use Rattle.hys_simplex.specs.Laws.{EquationSlack}
use Rattle.hys_number.proofs.Order.{le_refl'}
use Rattle.hys_simplex.proofs.Relations.{IsOrdered}
use Rattle.hys_simplex.proofs.Runs.{start_feasible}
use Rattle.hys_simplex.proofs.Stranded.{stranded}
use Rattle.hys_simplex.proofs.NodePaths.{row_lawful}
use Rattle.hys_simplex.proofs.Places.{start_of}
use Rattle.hys_simplex.proofs.Decide.{rule_test, beneath, beyond, rule_yes, inside_to, inside_yes, inside_not_off, lt_test, lt_yes}

-- ---- the slack of an equation
first_test : rule_test (linear_program equated) (node_boxes equated []) (start (linear_program equated)) beyond 0 0 ≡ true
unfolding ◌+ₙ◌ ◌*ₙ◌ neg inverse whole make gcd
first_test = refl

second_test : rule_test (linear_program equated) (node_boxes equated []) (tableau_after equated ((0, 0) ∷ [])) beneath 1 1 ≡ true
unfolding ◌+ₙ◌ ◌*ₙ◌ neg inverse whole make gcd
second_test = refl

-- its box is one number, so it isn't movable
not_slack : IsRuled (linear_program equated) (node_boxes equated []) (tableau_after equated ((0, 0) ∷ [])) 1 0 → ⊥
not_slack q = q.entering.enters.movable refl

pub equation_slack : EquationSlack
equation_slack = record {
  first = (0, omega arith, omega arith, rule_yes (linear_program equated) (node_boxes equated []) (start (linear_program equated)) beyond 0 0 first_test, tt);
  ruled = rule_yes (linear_program equated) (node_boxes equated []) (tableau_after equated ((0, 0) ∷ [])) beneath 1 1 second_test;
  not_slack = not_slack;
}

-- ---- sums where all is inside
doubled_inside : inside_to (linear_program doubled) (node_boxes doubled []) (start (linear_program doubled)) 1 ≡ true
unfolding ◌+ₙ◌ ◌*ₙ◌ neg inverse whole make gcd
doubled_inside = refl

doubled_unfit : SomeUnfit fits (point_operations doubled (at (status_point (linear_program doubled) (node_boxes doubled []) (start (linear_program doubled)))) 0)
unfolding ◌+ₙ◌ ◌*ₙ◌ neg inverse whole make gcd fits
doubled_unfit = refl

pub point_sum : Unfit fits doubled [] [] (Value 0)
point_sum = (tt, inr (omega arith, inside_yes (linear_program doubled) (node_boxes doubled []) (start (linear_program doubled)) 1 doubled_inside, doubled_unfit))

dear_unfit : SomeUnfit fits (point_operations dear (at (status_point (linear_program dear) (node_boxes dear []) (start (linear_program dear)))) 0)
unfolding ◌+ₙ◌ ◌*ₙ◌ neg inverse whole make gcd fits
dear_unfit = refl

nothing_outside : AllInside (linear_program dear) (node_boxes dear []) (start (linear_program dear))
nothing_outside i l = absurd (omega arith)

pub point_cost : Unfit fits dear [] [] (Value 0)
point_cost = (tt, inr (omega arith, nothing_outside, dear_unfit))

bound_unfit : SomeUnfit fits (bound_operations dear (node_boxes dear []) (cost_pairs dear (start (linear_program dear))))
unfolding ◌+ₙ◌ ◌*ₙ◌ neg inverse whole make gcd fits
bound_unfit = refl

pub bound_sum : Unfit fits dear [] [] Sum
bound_sum = (tt, inl (nothing_outside, bound_unfit))

-- ---- the sum of a row that can't be brought to its range
sunk_test : lt_test (basic_value (linear_program sunk) (node_boxes sunk []) (start (linear_program sunk)) 0) (whole 0) ≡ true
unfolding ◌+ₙ◌ ◌*ₙ◌ neg inverse whole make gcd
sunk_test = refl

sunk_leaving : IsLeaving (linear_program sunk) (node_boxes sunk []) (start (linear_program sunk)) 0 (whole 1) (whole 0)
sunk_leaving = record {
  row = omega arith;
  before = λ i l. absurd (omega arith);
  off = under refl refl (lt_yes (basic_value (linear_program sunk) (node_boxes sunk []) (start (linear_program sunk)) 0) (whole 0) sunk_test);
}

sunk_blocked : IsBlocked (linear_program sunk) (node_boxes sunk []) (start (linear_program sunk)) 0 (whole 1) (whole 0)
sunk_blocked = record {
  leaving = sunk_leaving;
  closed = λ j l m. let e : j ≡ 0 = omega (arith, l) in (subst (MayEnter (linear_program sunk) (node_boxes sunk []) (start (linear_program sunk)) 0 (whole 1)) e m).movable refl;
}

sunk_ordered : IsOrdered 1 (node_boxes sunk [])
sunk_ordered j l = let e : 0 ≡ j = omega (arith, l) in subst (λ z. (node_boxes sunk [] z).low ≤ₙ (node_boxes sunk [] z).high) e (le_refl' (whole 9223372036854775807))

sunk_unfit : SomeUnfit fits (bound_operations (costless sunk) (node_boxes sunk []) (row_pairs sunk (start (linear_program sunk)) 0 (whole 1)))
unfolding ◌+ₙ◌ ◌*ₙ◌ neg inverse whole make gcd fits
sunk_unfit = refl

pub row_sum : Unfit fits sunk [] [] Sum
row_sum = (
  tt,
  inr
      (record {
        row = 0;
        side = whole 1;
        near = whole 0;
        leaving = sunk_leaving;
        stranded = stranded (linear_program sunk) (node_boxes sunk []) (start (linear_program sunk)) 0 (whole 1) (whole 0) (start_of (linear_program sunk)) (start_feasible (linear_program sunk)) sunk_blocked;
        lawful = row_lawful sunk (node_boxes sunk []) (start (linear_program sunk)) 0 (whole 1) (whole 0) (start_of (linear_program sunk)) (start_feasible (linear_program sunk)) sunk_ordered sunk_blocked;
        unfit = sunk_unfit;
      }),
)

-- ---- the sum of a row has cost 0
low_test : lt_test (basic_value (linear_program costly) (node_boxes costly []) (start (linear_program costly)) 0) (whole 0) ≡ true
unfolding ◌+ₙ◌ ◌*ₙ◌ neg inverse whole make gcd
low_test = refl

costly_off : IsOff (linear_program costly) (node_boxes costly []) 1 (basic_value (linear_program costly) (node_boxes costly []) (start (linear_program costly)) 0) (whole 1) (whole 0)
costly_off = under refl refl (lt_yes (basic_value (linear_program costly) (node_boxes costly []) (start (linear_program costly)) 0) (whole 0) low_test)

row_fits : SomeUnfit fits (bound_operations (costless costly) (node_boxes costly []) (row_pairs costly (start (linear_program costly)) 0 (whole 1))) → ⊥
unfolding ◌+ₙ◌ ◌*ₙ◌ neg inverse whole make gcd fits
row_fits h = absurd (cc)

-- its side can only be that below
only_under : (x side near : Number) → IsOff (linear_program costly) (node_boxes costly []) 1 x side near → side ≡ whole 1
only_under x side near (under e f l) = e
only_under x side near (over e f l) = absurd (cc)

pub without_cost : Unfit fits costly [] [] Sum → ⊥
without_cost (u, inl h) = inside_not_off (linear_program costly) (node_boxes costly []) 1 (basic_value (linear_program costly) (node_boxes costly []) (start (linear_program costly)) 0) (whole 1) (whole 0) (h.0 0 (omega arith)) costly_off
without_cost (u, inr h) = row_sum h
  where
    at_row : (r : ℕ) (side near : Number) → r ≡ 0 → IsOff (linear_program costly) (node_boxes costly []) (1 + r) (basic_value (linear_program costly) (node_boxes costly []) (start (linear_program costly)) r) side near →
        SomeUnfit fits (bound_operations (costless costly) (node_boxes costly []) (row_pairs costly (start (linear_program costly)) r side)) → ⊥
    at_row r side near e o f =
        let q : IsOff (linear_program costly) (node_boxes costly []) 1 (basic_value (linear_program costly) (node_boxes costly []) (start (linear_program costly)) 0) side near =
        subst (λ z. IsOff (linear_program costly) (node_boxes costly []) (1 + z) (basic_value (linear_program costly) (node_boxes costly []) (start (linear_program costly)) z) side near) e o in
        row_fits (subst (λ z. SomeUnfit fits (bound_operations (costless costly) (node_boxes costly []) (row_pairs costly (start (linear_program costly)) 0 z))) (only_under _ side near q)
        (subst (λ z. SomeUnfit fits (bound_operations (costless costly) (node_boxes costly []) (row_pairs costly (start (linear_program costly)) z side))) e f))

    row_sum : RowSumUnfit fits costly (node_boxes costly []) (start (linear_program costly)) → ⊥
    row_sum q = at_row q.row q.side q.near (omega (arith, q.leaving.row)) q.leaving.off q.unfit
