-- The numbers of small sources, by computation.
use Rattle.std.proofs.Common.{◌≡◌, [], ◌∷◌, ◌++◌, codes, refl, ap, map, None, inl, inr}
use Rattle.std.specs.Float.Numeral.{scan_numeral}
use Rattle.std.specs.Str.{bytes_eq}
use Rattle.hys_number.specs.Number.{make}
use Rattle.hys_number.specs.Gcd.{gcd}
use Rattle.hys_number.specs.Ops.{◌+ₙ◌, ◌*ₙ◌, inverse, neg, whole, fits}
use Rattle.hys_number.proofs.Field.{add_zero}
use Rattle.hys_frac.specs.Compare.{number_cmp}
use Rattle.hys_lin.specs.Operations.{plus, minus, times}
use Rattle.hys_ast.specs.declared.tree.BinaryOp.TheVariants as binary
use Rattle.hys_lin.specs.Bits.{is_one}
use Rattle.hys_meaning.specs.Values.{literal}
use Rattle.hys_meaning.specs.Names.{names}
use Rattle.hys_meaning.specs.Circular.{Leads}
use Rattle.hys_meaning.specs.Forms.{form, IsConstant}
use Rattle.hys_meaning.specs.Folding.{Written, Operation, first_unfit, numbers_of, is_zero, all_at, over}
use Rattle.hys_examples.specs.Ranges.{IsOrder, IsReady, range_numbers, found}
use Rattle.hys_examples.specs.RowNumbers.{row_numbers, Declared, Fresh, columns, literal_of}
use Rattle.hys_examples.specs.Fitting.{Fits, IsFirstUnfit}
use Rattle.hys_examples.specs.Trees.{number, name, both, negated, place, somewhere}
use Rattle.hys_examples.specs.Sources.{ends_at, too_steep, too_wide, in_turn, guarded, switched, choosing, summed, halved, halved_far, long_twice, mixed, spread, graded, decided, thermostat, boxed_by, n_over, tolerance}
use Rattle.hys_examples.specs.Systems.{term}
use Rattle.hys_examples.proofs.Numbers.{never, three_tenths}

pub most : Fits tolerance (ends_at (codes "9223372036854775807"))
unfolding fits literal scan_numeral whole make gcd
most = record { expressions = refl; order = []; is_order = tt; built_fit = refl }

pub tiny : Fits tolerance (ends_at (codes "1e-18"))
unfolding fits literal scan_numeral whole make gcd
tiny = record { expressions = refl; order = []; is_order = tt; built_fit = refl }

pub long : IsFirstUnfit tolerance (ends_at (codes "9223372036854775808")) (record { place = place 42 1 43; what = Written (whole 9223372036854775808) })
unfolding fits literal scan_numeral whole make gcd
long = inl refl

pub small : IsFirstUnfit tolerance (ends_at (codes "1e-19")) (record { place = place 42 1 43; what = Written (n_over 1 10000000000000000000) })
unfolding fits literal scan_numeral whole make gcd
small = inl refl

pub tenths : Fits tolerance (boxed_by (both binary.Add (number (codes "0.1")) (number (codes "0.2"))))
unfolding fits literal scan_numeral whole make gcd ◌+ₙ◌
tenths = record { expressions = refl; order = []; is_order = tt; built_fit = refl }

pub tenths_form : ((form [] (both binary.Add (number (codes "0.1")) (number (codes "0.2")))).constant ≡ n_over 3 10) × IsConstant (form [] (both binary.Add (number (codes "0.1")) (number (codes "0.2"))))
tenths_form = (three_tenths, λ n. add_zero (whole 0))

pub steep : IsFirstUnfit tolerance too_steep (record { place = place 108 4 27; what = Operation (plus (whole 9223372036854775807) (whole 1)) })
unfolding fits literal scan_numeral whole make gcd ◌+ₙ◌ ◌*ₙ◌ neg is_zero
steep = inl refl

pub wide_order : IsOrder too_wide (codes "d" ∷ [])
unfolding whole make gcd ◌+ₙ◌ neg
wide_order = (inl ((λ t. never t, (λ l. elim l [ inl p ↦ absurd (p.1 refl) | inr q ↦ elim q [ inl p ↦ never p.0 | inr r ↦ absurd r ] ], tt)), refl), (refl, tt))

pub wide : IsFirstUnfit tolerance too_wide (record { place = place 106 3 1; what = Operation (plus (whole 1) (whole 9223372036854775807)) })
unfolding fits literal scan_numeral whole make gcd ◌+ₙ◌ ◌*ₙ◌ neg is_zero
wide = inr (record { expressions = refl; order = codes "d" ∷ []; is_order = wide_order; first = refl })

pub guard_order : IsOrder guarded (codes "d" ∷ [])
unfolding whole make gcd ◌+ₙ◌ neg
guard_order = (inl ((λ t. never t, (λ l. elim l [ inl p ↦ absurd (p.1 refl) | inr q ↦ elim q [ inl p ↦ never p.0 | inr r ↦ absurd r ] ], tt)), refl), (refl, tt))

pub guard_fits : Fits tolerance guarded
unfolding fits literal scan_numeral whole make gcd ◌+ₙ◌ ◌*ₙ◌ neg is_zero
guard_fits = record { expressions = refl; order = codes "d" ∷ []; is_order = guard_order; built_fit = refl }

pub guard_rows : row_numbers tolerance guarded (codes "d" ∷ []) ≡ all_at somewhere (minus (neg (whole 5)) (n_over 1 1000) ∷ minus (whole 5) (whole 5) ∷ minus (whole 5) (n_over 1 1000) ∷ [])
unfolding literal scan_numeral whole make gcd ◌+ₙ◌ ◌*ₙ◌ neg
guard_rows = refl

-- ---- an order of definition that isn't that of declaration
far_leads : Leads in_turn (codes "far") (codes "near")
unfolding literal scan_numeral whole make gcd ◌+ₙ◌ ◌*ₙ◌ is_zero
far_leads = inl (refl, λ e. never (ap is_zero e))

far_not_first : ¬ (IsReady in_turn [] (codes "far"))
far_not_first r = never (r.1.1.0 far_leads)

near_ready : IsReady in_turn [] (codes "near")
unfolding whole make gcd ◌+ₙ◌
near_ready = (
  λ t. never t,
  (
    λ l. elim l [ inl p ↦ never p.0 | inr q ↦ elim q [ inl p ↦ absurd (p.1 refl) | inr r ↦ elim r [ inl p ↦ never p.0 | inr z ↦ absurd z ] ] ],
    (λ l. elim l [ inl p ↦ never p.0 | inr q ↦ elim q [ inl p ↦ absurd (p.1 refl) | inr r ↦ elim r [ inl p ↦ never p.0 | inr z ↦ absurd z ] ] ], tt),
  ),
)

far_ready : IsReady in_turn (codes "near" ∷ []) (codes "far")
unfolding literal scan_numeral whole make gcd ◌+ₙ◌ ◌*ₙ◌
far_ready = (
  λ t. never t,
  (
    λ l. elim l [ inl p ↦ absurd (p.1 refl) | inr q ↦ elim q [ inl p ↦ never p.0 | inr r ↦ elim r [ inl p ↦ never p.0 | inr z ↦ absurd z ] ] ],
    (λ l. refl, tt),
  ),
)

turn_order : IsOrder in_turn (codes "near" ∷ codes "far" ∷ [])
turn_order = (inr (far_not_first, inl (near_ready, refl)), (inl (far_ready, refl), (refl, (refl, tt))))

not_declared : ¬ (IsOrder in_turn (codes "far" ∷ codes "near" ∷ []))
not_declared o = elim o.0 [ inl p ↦ far_not_first p.0 | inr q ↦ elim q.1 [ inl p ↦ differ p.1 | inr r ↦ r.1 ] ]
  where
    differ : codes "near" ≡ codes "far" → ⊥
    differ e = never (ap (λ n. bytes_eq n (codes "far")) e)

pub turn : IsOrder in_turn (codes "near" ∷ codes "far" ∷ []) × ¬ (IsOrder in_turn (codes "far" ∷ codes "near" ∷ []))
turn = (turn_order, not_declared)

pub turn_numbers : range_numbers in_turn (codes "near" ∷ codes "far" ∷ [])
    ≡ all_at (place 115 4 1) (times (whole 1) (whole 0) ∷ plus (whole 1) (whole 0) ∷ times (whole 1) (whole 10) ∷ plus (whole 1) (whole 10) ∷ [])
    ++ all_at (place 101 3 1) (times (whole 2) (whole 1) ∷ plus (whole 0) (whole 2) ∷ times (whole 2) (whole 11) ∷ plus (whole 0) (whole 22) ∷ [])
unfolding literal scan_numeral whole make gcd ◌+ₙ◌ ◌*ₙ◌ neg
turn_numbers = refl

pub turn_fits : Fits tolerance in_turn
unfolding fits literal scan_numeral whole make gcd ◌+ₙ◌ ◌*ₙ◌ neg is_zero
turn_fits = record { expressions = refl; order = codes "near" ∷ codes "far" ∷ []; is_order = turn_order; built_fit = refl }

-- ---- a tolerance of a large denominator
halved_order : IsOrder halved (codes "d" ∷ [])
unfolding whole make gcd ◌+ₙ◌ neg
halved_order = (inl ((λ t. never t, (λ l. elim l [ inl p ↦ absurd (p.1 refl) | inr q ↦ elim q [ inl p ↦ never p.0 | inr r ↦ absurd r ] ], tt)), refl), (refl, tt))

pub halved_ranges : first_unfit (range_numbers halved (codes "d" ∷ [])) ≡ None
unfolding fits literal scan_numeral whole make gcd ◌+ₙ◌ ◌*ₙ◌ neg
halved_ranges = refl

pub halved_first : IsFirstUnfit (n_over 1 9223372036854775807) halved (record { place = somewhere; what = Operation (minus (neg (n_over 19 2)) (n_over 1 9223372036854775807)) })
unfolding fits literal scan_numeral whole make gcd ◌+ₙ◌ ◌*ₙ◌ neg is_zero
halved_first = inr (record { expressions = refl; order = codes "d" ∷ []; is_order = halved_order; first = refl })

far_order : IsOrder halved_far (codes "d" ∷ [])
unfolding whole make gcd ◌+ₙ◌ neg
far_order = (inl ((λ t. never t, (λ l. elim l [ inl p ↦ absurd (p.1 refl) | inr q ↦ elim q [ inl p ↦ never p.0 | inr r ↦ absurd r ] ], tt)), refl), (refl, tt))

pub far_first : IsFirstUnfit (n_over 1 9223372036854775807) halved_far (record { place = somewhere; what = Operation (plus (n_over 1 2) (neg (whole 9223372036854775807))) })
unfolding fits literal scan_numeral whole make gcd ◌+ₙ◌ ◌*ₙ◌ neg is_zero
far_first = inr (record { expressions = refl; order = codes "d" ∷ []; is_order = far_order; first = refl })

pub halved_fits : Fits tolerance halved
unfolding fits literal scan_numeral whole make gcd ◌+ₙ◌ ◌*ₙ◌ neg is_zero
halved_fits = record { expressions = refl; order = codes "d" ∷ []; is_order = halved_order; built_fit = refl }

-- ---- a choice
switched_order : IsOrder switched (codes "z" ∷ [])
unfolding literal scan_numeral whole make gcd ◌+ₙ◌ ◌*ₙ◌
switched_order = (
  inl (
    (
      λ t. never t,
      (
        λ l. elim l [
          | inl p ↦ elim p.1 [ inl e ↦ never e | inr f ↦ elim f [ inl g ↦ absurd (g refl) | inr g ↦ absurd g ] ]
          | inr q ↦ elim q [ inl p ↦ never p.0 | inr r ↦ absurd r ]
        ],
        tt,
      ),
    ),
    refl,
  ),
  (refl, tt),
)

pub switched_fits : Fits tolerance switched
unfolding fits literal scan_numeral whole make gcd ◌+ₙ◌ ◌*ₙ◌ neg is_zero
switched_fits = record { expressions = refl; order = codes "z" ∷ []; is_order = switched_order; built_fit = refl }

pub switched_rows : row_numbers tolerance switched (codes "z" ∷ [])
    ≡ all_at somewhere (minus (whole 0) (whole 20) ∷ minus (whole 0) (whole 0) ∷ [])
    ++ (all_at somewhere (times (neg (whole 20)) (whole 1) ∷ minus (neg (whole 20)) (whole 0) ∷ times (neg (whole 20)) (whole 0) ∷ minus (whole 0) (whole 0) ∷ [])
    ++ (all_at somewhere (times (whole 0) (whole 1) ∷ plus (whole 0) (whole 0) ∷ times (whole 0) (whole 0) ∷ minus (whole 0) (whole 0) ∷ [])
    ++ (all_at somewhere (minus (whole 1) (whole 0) ∷ [])
    ++ (all_at somewhere (times (whole 0) (neg (whole 1)) ∷ minus (whole 0) (whole 0) ∷ times (whole 0) (whole 1) ∷ minus (whole 0) (whole 0) ∷ [])
    ++ all_at somewhere (times (neg (whole 20)) (neg (whole 1)) ∷ plus (whole 20) (whole 0) ∷ times (neg (whole 20)) (whole 1) ∷ minus (whole 0) (neg (whole 20)) ∷ [])))))
unfolding literal scan_numeral whole make gcd ◌+ₙ◌ ◌*ₙ◌ neg number_cmp
switched_rows = refl

-- ---- literals of formulas
pub of_connective : literal_of (columns choosing) (names choosing) 0 (both binary.Iff (name (codes "a")) (negated (name (codes "b")))) ≡ record { terms = term 3 (whole 1) ∷ []; constant = whole 0 }
of_connective = refl

pub of_negation : literal_of (columns choosing) (names choosing) 0 (negated (name (codes "b"))) ≡ record { terms = term 2 (neg (whole 1)) ∷ []; constant = whole 1 }
unfolding whole make gcd ◌+ₙ◌ neg
of_negation = refl

pub of_two : literal_of (columns choosing) (names choosing) 0 (negated (negated (name (codes "a")))) ≡ record { terms = term 1 (whole 1) ∷ []; constant = whole 0 }
unfolding whole make gcd ◌+ₙ◌ neg
of_two = refl

-- ---- operators over x and u

pub at_left : numbers_of (names summed) (both binary.Mul (number (codes "2")) (name (codes "x"))) ≡ record { place = somewhere; what = Written (whole 2) } ∷ all_at somewhere (times (whole 2) (whole 1) ∷ times (whole 2) (whole 0) ∷ times (whole 2) (whole 0) ∷ [])
unfolding literal scan_numeral whole make gcd ◌+ₙ◌ ◌*ₙ◌ neg number_cmp is_zero inverse is_one
at_left = refl

pub at_right : numbers_of (names summed) (both binary.Mul (name (codes "x")) (number (codes "2"))) ≡ record { place = somewhere; what = Written (whole 2) } ∷ all_at somewhere (times (whole 1) (whole 2) ∷ times (whole 0) (whole 2) ∷ times (whole 0) (whole 2) ∷ [])
unfolding literal scan_numeral whole make gcd ◌+ₙ◌ ◌*ₙ◌ neg number_cmp is_zero inverse is_one
at_right = refl

pub at_quotient : numbers_of (names summed) (both binary.Div (name (codes "x")) (number (codes "2"))) ≡ record { place = somewhere; what = Written (whole 2) } ∷ all_at somewhere (over (whole 1) (whole 2) ∷ over (whole 0) (whole 2) ∷ over (whole 0) (whole 2) ∷ [])
unfolding literal scan_numeral whole make gcd ◌+ₙ◌ ◌*ₙ◌ neg number_cmp is_zero inverse is_one
at_quotient = refl

pub at_difference : numbers_of (names summed) (both binary.Sub (name (codes "x")) (number (codes "2"))) ≡ record { place = somewhere; what = Written (whole 2) } ∷ all_at somewhere (minus (whole 1) (whole 0) ∷ minus (whole 0) (whole 0) ∷ minus (whole 0) (whole 2) ∷ [])
unfolding literal scan_numeral whole make gcd ◌+ₙ◌ ◌*ₙ◌ neg number_cmp is_zero inverse is_one
at_difference = refl

pub at_most : numbers_of (names summed) (both binary.Most (name (codes "x")) (number (codes "5"))) ≡ record { place = somewhere; what = Written (whole 5) } ∷ all_at somewhere (minus (whole 1) (whole 0) ∷ minus (whole 0) (whole 0) ∷ minus (whole 0) (whole 5) ∷ [])
unfolding literal scan_numeral whole make gcd ◌+ₙ◌ ◌*ₙ◌ neg number_cmp is_zero inverse is_one
at_most = refl

pub at_least : numbers_of (names summed) (both binary.Least (name (codes "x")) (number (codes "5"))) ≡ record { place = somewhere; what = Written (whole 5) } ∷ all_at somewhere (minus (whole 0) (whole 1) ∷ minus (whole 0) (whole 0) ∷ minus (whole 5) (whole 0) ∷ [])
unfolding literal scan_numeral whole make gcd ◌+ₙ◌ ◌*ₙ◌ neg number_cmp is_zero inverse is_one
at_least = refl

pub at_equal : numbers_of (names summed) (both binary.Equal (name (codes "x")) (number (codes "5"))) ≡ record { place = somewhere; what = Written (whole 5) } ∷ all_at somewhere (minus (whole 1) (whole 0) ∷ minus (whole 0) (whole 0) ∷ minus (whole 0) (whole 5) ∷ [])
unfolding literal scan_numeral whole make gcd ◌+ₙ◌ ◌*ₙ◌ neg number_cmp is_zero inverse is_one
at_equal = refl

pub twice_long : IsFirstUnfit tolerance long_twice (record { place = place 87 1 88; what = Written (whole 9223372036854775809) })
unfolding fits literal scan_numeral whole make gcd
twice_long = inl refl

pub mixed_rows : row_numbers tolerance mixed (codes "z" ∷ [])
    ≡ all_at somewhere (minus (whole 1) (whole 11) ∷ minus (whole 0) (whole 1) ∷ [])
    ++ (all_at somewhere (times (neg (whole 10)) (neg (whole 1)) ∷ minus (whole 10) (whole 0) ∷ times (neg (whole 10)) (whole 1) ∷ minus (whole 1) (neg (whole 10)) ∷ [])
    ++ (all_at somewhere (times (neg (whole 1)) (neg (whole 1)) ∷ plus (whole 1) (whole 0) ∷ times (neg (whole 1)) (whole 1) ∷ minus (neg (whole 1)) (neg (whole 1)) ∷ [])
    ++ (all_at somewhere (minus (whole 1) (whole 1) ∷ [])
    ++ (all_at somewhere (times (neg (whole 1)) (whole 1) ∷ minus (neg (whole 1)) (whole 1) ∷ times (neg (whole 1)) (whole 0) ∷ minus (whole 0) (whole 0) ∷ [])
    ++ all_at somewhere (times (neg (whole 10)) (whole 1) ∷ plus (neg (whole 10)) (whole 1) ∷ times (neg (whole 10)) (whole 0) ∷ minus (whole 0) (whole 0) ∷ [])))))
unfolding literal scan_numeral whole make gcd ◌+ₙ◌ ◌*ₙ◌ neg number_cmp is_zero inverse is_one
mixed_rows = refl

pub decided_rows : row_numbers tolerance decided (codes "z" ∷ [])
    ≡ all_at somewhere (minus (whole 0) (whole 10) ∷ minus (whole 0) (whole 0) ∷ [])
    ++ (all_at somewhere (times (neg (whole 10)) (whole 1) ∷ minus (whole 0) (neg (whole 10)) ∷ times (whole 0) (whole 1) ∷ minus (whole 0) (whole 0) ∷ [])
    ++ (all_at somewhere (minus (whole 1) (whole 1) ∷ [])
    ++ all_at somewhere (times (whole 0) (whole 0) ∷ minus (whole 0) (whole 0) ∷ times (neg (whole 10)) (whole 0) ∷ minus (whole 0) (whole 0) ∷ [])))
unfolding literal scan_numeral whole make gcd ◌+ₙ◌ ◌*ₙ◌ neg number_cmp is_zero inverse is_one
decided_rows = refl

-- ---- the two cases of a choice
pub spread_low : map (λ n. n.low) (found spread (codes "z" ∷ []) (names spread)) ≡ whole 0 ∷ whole 0 ∷ neg (whole 3) ∷ []
unfolding literal scan_numeral whole make gcd ◌+ₙ◌ ◌*ₙ◌ neg number_cmp
spread_low = refl

pub spread_high : map (λ n. n.high) (found spread (codes "z" ∷ []) (names spread)) ≡ whole 10 ∷ whole 1 ∷ whole 20 ∷ []
unfolding literal scan_numeral whole make gcd ◌+ₙ◌ ◌*ₙ◌ neg number_cmp
spread_high = refl

pub spread_numbers : range_numbers spread (codes "z" ∷ []) ≡ all_at somewhere (times (whole 1) (whole 0) ∷ plus (neg (whole 3)) (whole 0) ∷ times (whole 1) (whole 10) ∷ plus (neg (whole 3)) (whole 10) ∷ times (whole 2) (whole 0) ∷ plus (whole 0) (whole 0) ∷ times (whole 2) (whole 10) ∷ plus (whole 0) (whole 20) ∷ [])
unfolding literal scan_numeral whole make gcd ◌+ₙ◌ ◌*ₙ◌ neg number_cmp
spread_numbers = refl

-- ---- the columns of the thermostat
pub warm_columns : columns thermostat ≡ Declared (codes "T") ∷ Declared (codes "on") ∷ Declared (codes "amb") ∷ Declared (codes "hot") ∷ Declared (codes "cold") ∷ Fresh 0 ∷ Fresh 1 ∷ Declared (codes "heat") ∷ []
warm_columns = refl

pub warm_last : literal_of (columns thermostat) (names thermostat) 0 (both binary.Or (name (codes "cold")) (both binary.And (name (codes "on")) (negated (name (codes "hot"))))) ≡ record { terms = term 6 (whole 1) ∷ []; constant = whole 0 }
warm_last = refl

-- ---- a Boolean auxiliary in a form
pub graded_low : map (λ n. n.low) (found graded (codes "d" ∷ codes "z" ∷ []) (names graded)) ≡ whole 0 ∷ whole 0 ∷ whole 0 ∷ []
unfolding literal scan_numeral whole make gcd ◌+ₙ◌ ◌*ₙ◌ neg number_cmp
graded_low = refl

pub graded_high : map (λ n. n.high) (found graded (codes "d" ∷ codes "z" ∷ []) (names graded)) ≡ whole 10 ∷ whole 3 ∷ whole 1 ∷ []
unfolding literal scan_numeral whole make gcd ◌+ₙ◌ ◌*ₙ◌ neg number_cmp
graded_high = refl

pub graded_numbers : range_numbers graded (codes "d" ∷ codes "z" ∷ []) ≡ all_at somewhere (times (neg (whole 1)) (whole 10) ∷ plus (whole 5) (neg (whole 10)) ∷ times (neg (whole 1)) (whole 0) ∷ plus (whole 5) (whole 0) ∷ times (whole 3) (whole 0) ∷ plus (whole 0) (whole 0) ∷ times (whole 3) (whole 1) ∷ plus (whole 0) (whole 3) ∷ [])
unfolding literal scan_numeral whole make gcd ◌+ₙ◌ ◌*ₙ◌ neg number_cmp
graded_numbers = refl

pub graded_rows : row_numbers tolerance graded (codes "d" ∷ codes "z" ∷ []) ≡ row_numbers tolerance guarded (codes "d" ∷ [])
unfolding literal scan_numeral whole make gcd ◌+ₙ◌ ◌*ₙ◌ neg number_cmp
graded_rows = refl
