-- A value in which nothing is wrong stands for a request for the system.
use Rattle.std.proofs.Common.{◌≡◌, ◌⊎◌, ℕ, zero, suc, ◌*◌, ◌≤◌, List, [], ◌∷◌, map, Option, Some, None, Bool, true, false, not, cond, ◌&&◌, ◌||◌, refl, sym, ◌∙◌, ap, subst, arith, inl, inr, codes}
use Rattle.std.specs.Prelude.{nat_lt}
use Rattle.std.specs.declared.cmp.Ordering.{Ordering}
use Rattle.std.specs.declared.cmp.Ordering.TheVariants.{Less, Equal, Greater}
use Rattle.std.specs.Ordering.{MatchOrdering}
use Rattle.std.proofs.lemmas.List.{length-map}
use Rattle.std.proofs.lemmas.Bool.{cases_lt}
use Rattle.serde_json.specs.Data.{Data}
use Rattle.hys_number.specs.Number.{Number}
use Rattle.hys_number.specs.Ops.{whole, ◌≤ₙ◌, ◌<ₙ◌}
use Rattle.hys_number.proofs.Bools.{and_both, lt_true}
use Rattle.hys_number.proofs.Order.{le_of_lt, le_refl'}
use Rattle.hys_frac.specs.Compare.{number_cmp, number_ranks}
use Rattle.hys_json.specs.Values.{member_in}
use Rattle.hys_sys.specs.Solution.{IsOfKind}
use Rattle.hys_sys.specs.declared.system.Kind2.{Kind2}
use Rattle.hys_sys.specs.declared.system.Kind2.TheVariants as kind
use Rattle.hys_sys.specs.declared.system.Column.{Column}
use Rattle.hys_sys.specs.declared.system.System.{System}
use Rattle.hys_stack.specs.declared.fault.RequestFault.{RequestFault}
use Rattle.hys_stack.specs.Requests.{state_columns, IsStart, AreStarts, AreWeights, IsRequestOf, most_steps, most_nodes, most_stacked, most_work}
use Rattle.hys_stack.specs.Reading.{or_else, unless, isnt_greater, is_equal, is_of_kind, is_start, weight_in, column_name, column_weight, output_weight, outside_fault, state_names, start_fault, back_fault, limit_fault, count_fault, size_fault, value_fault, fields_fault, request_fault, request_in, start_in, is_counted}
use Rattle.hys_stack.proofs.Problems.{states_counted}

-- ---- nothing is wrong in either part
pub both_none : (o p : Option RequestFault) → or_else o p ≡ None → (o ≡ None) × (p ≡ None)
unfolding or_else
both_none None p e = (refl, e)
both_none (Some f) p e = absurd (cc)

pub rule_holds : (b : Bool) (f : RequestFault) → unless b f ≡ None → b ≡ true
rule_holds true f e = refl
rule_holds false f e = absurd (cc)

passed : (b : Bool) (rest : Option RequestFault) (f : RequestFault) → cond b rest (Some f) ≡ None → (b ≡ true) × (rest ≡ None)
passed true rest f h = (refl, h)
passed false rest f h = absurd (cc)

-- ---- numbers
at_most : (a b : Number) → isnt_greater (number_cmp a b) ≡ true → a ≤ₙ b
at_most a b e = go (number_cmp a b) (number_ranks a b) e
  where
    go : (o : Ordering) → MatchOrdering o (a <ₙ b) (a ≡ b) (b <ₙ a) → isnt_greater o ≡ true → a ≤ₙ b
    go Less h e = le_of_lt a b h
    go Equal h e = subst (λ z. a ≤ₙ z) h (le_refl' a)
    go Greater h e = absurd (let n : false ≡ true = e in cc)

equals : (a b : Number) → is_equal (number_cmp a b) ≡ true → a ≡ b
equals a b e = go (number_cmp a b) (number_ranks a b) e
  where
    go : (o : Ordering) → MatchOrdering o (a <ₙ b) (a ≡ b) (b <ₙ a) → is_equal o ≡ true → a ≡ b
    go Less h e = absurd (let n : false ≡ true = e in cc)
    go Equal h e = h
    go Greater h e = absurd (let n : false ≡ true = e in cc)

either : (a b : Bool) → a || b ≡ true → (a ≡ true) ⊎ (b ≡ true)
either true b e = inl refl
either false b e = inr e

of_kind : (K : Kind2) (a : Number) → is_of_kind K a ≡ true → IsOfKind K a
of_kind kind.Real a e = tt
of_kind kind.Bool a e = elim (either (is_equal (number_cmp a (whole 0))) (is_equal (number_cmp a (whole 1))) e) [ inl h ↦ inl (equals a (whole 0) h) | inr h ↦ inr (equals a (whole 1) h) ]

start_is : (c : Column) (a : Number) → is_start c a ≡ true → IsStart c a
start_is c a e =
    let p : (isnt_greater (number_cmp c.bounds.low a) ≡ true) × (isnt_greater (number_cmp a c.bounds.high) && is_of_kind c.kind a ≡ true) = and_both _ _ e in
    let q : (isnt_greater (number_cmp a c.bounds.high) ≡ true) × (is_of_kind c.kind a ≡ true) = and_both _ _ p.1 in
    record { within = record { low = at_most c.bounds.low a p.0; high = at_most a c.bounds.high q.0 }; kind = of_kind c.kind a q.1 }

starts_are : (cs : List Column) (d : Data) → outside_fault cs d ≡ None → AreStarts cs (map (weight_in d) (map column_name cs))
starts_are [] d h = tt
starts_are (c ∷ cs) d h = let p : (is_start c (weight_in d c.name) ≡ true) × (outside_fault cs d ≡ None) = passed _ _ _ h in (start_is c (weight_in d c.name) p.0, starts_are cs d p.1)

weights_are : (cs : List Column) (d : Data) → AreWeights cs (map (column_weight d) cs)
weights_are [] d = tt
weights_are (c ∷ cs) d = (λ e. ap (λ b. cond b (whole 0) (weight_in d c.name)) e, weights_are cs d)

-- ---- limits
not_above : (m n : ℕ) → not (nat_lt m n) ≡ true → n ≤ m
not_above m n e = elim (cases_lt m n) [ inl l ↦ absurd (let q : not true ≡ true = ap not (sym (lt_true m n l)) ∙ e in let r : false ≡ true = q in cc) | inr l ↦ l ]

above_zero : (n : ℕ) → nat_lt 0 n ≡ true → 1 ≤ n
above_zero zero e = absurd (let q : false ≡ true = e in cc)
above_zero (suc n) e = omega arith

counted : (most n : ℕ) → is_counted most n ≡ true → (1 ≤ n) × (n ≤ most)
counted most n e = let p : (nat_lt 0 n ≡ true) × (not (nat_lt most n) ≡ true) = and_both _ _ e in (above_zero n p.0, not_above most n p.1)

-- ---- the request
pub start_lawful : (path : List ℕ) (S : System) (d : Data) → start_fault path S d ≡ None → AreStarts (state_columns S.columns) (start_in S d)
unfolding start_fault
start_lawful path S d h = starts_are (state_columns S.columns) d (both_none _ _ (both_none _ _ h).1).1

pub request_lawful : (S : System) (d : Data) → request_fault S d ≡ None → IsRequestOf S (request_in S d)
unfolding request_fault value_fault fields_fault back_fault limit_fault count_fault size_fault
request_lawful S d h =
    let whole_value = both_none _ _ h in
    let parts = both_none _ _ (both_none _ _ (both_none _ _ whole_value.0).1).1 in
    let limits = both_none _ _ whole_value.1 in
    let more = both_none _ _ limits.1 in
    let horizon = counted most_steps (request_in S d).horizon (rule_holds _ _ limits.0) in
    let nodes = counted most_nodes (request_in S d).nodes (rule_holds _ _ more.0) in
    let small = and_both (not (nat_lt most_stacked ((request_in S d).horizon * S.weight))) (not (nat_lt most_work ((request_in S d).nodes * ((request_in S d).horizon * S.weight)))) (rule_holds _ _ more.1) in
    record {
      start = start_lawful (codes "start") S (member_in (codes "start") d) parts.0;
      step_cost = weights_are S.columns (member_in (codes "step") d);
      output_cost = length-map S.outputs (output_weight (member_in (codes "step") d));
      final_cost = length-map (state_names S) (weight_in (member_in (codes "final") d)) ∙ length-map (state_columns S.columns) column_name ∙ sym (states_counted S.columns);
      some_steps = horizon.0;
      few_steps = horizon.1;
      some_nodes = nodes.0;
      few_nodes = nodes.1;
      small = not_above most_stacked ((request_in S d).horizon * S.weight) small.0;
      little_work = not_above most_work ((request_in S d).nodes * ((request_in S d).horizon * S.weight)) small.1;
    }
