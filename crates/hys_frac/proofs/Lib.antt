-- Notes on how this crate is proved: forms that worked, and traps.
-- - `Frac::ZERO` and `Frac::ONE` ask in each crate above for an invariant: call `Frac::whole(0)` and `Frac::whole(1)`, whose
--   clauses say the number, or test by `is_zero`, `is_negative`, `is_positive`.
-- - Backward invariants: "what is still to be done from here (`drop i list`) gives the same whole value and the same
--   first loss as the whole from the start". One `drop_here` step and one unfolding close each turn, the end is
--   `drop_all`, and no lemma on `take (i + 1)` or `++` is needed. `sum_from`, `end`, `push_scaled`, `merge`,
--   `number` and `all_zero` all have this shape, and most of their goals close with no answer.
-- - "The first operation that is lost" is `first_lost : List Lost → Option Lost` over a list of operations. A clause
--   is `result_err result ≡ first_lost (operations ..)`; two lemmas compose it: `lost_after` (all of the first list
--   fit) and `lost_before` (one of the first list is lost).
-- - Where memory may be wanting as well, one definition by cases of the answer (`AnswersLost`) says it all;
--   `answers_before`, `answers_shown` and `answers_same` carry it through `?`.
-- - A merge of two sorted lists: a model `merged` by recursion on the first list with the recursion on the second
--   inside (`merging a xs rest by bs`), the loop's invariant is `out ++ merged (drop i left) (drop j right) ≡
--   whole`, and one call that takes the next column answers an `Ordering`, on which the loop matches. Each arm of
--   the `match` is then a goal of its own (`loop-i-preserved-in-Less`).
-- - `to_z w128 (of_z w128 x)` is best left in the statement of a lemma over plain variables, with `to_z-of_z`
--   inside; in an answer, transport a clause by `value_along` and `fits_along` of `hys_frac.proofs.Fracs` over one
--   equation of numbers.
-- - `==` on `Frac`: `eq_is` of `hys_frac.specs.Compare`. `<`, `<=`, `>`, `>=`: `is_lt-cmp`, `is_le-cmp`, `is_gt-
--   cmp`, `is_ge-cmp` of `hys_frac.proofs.Comparisons`. `cmp` on two Fracs by value says `MatchOrdering`; `Ord::cmp`
--   says `number_cmp`, and `number_ranks`, `number_cmp_is` go between.
-- - A module and a function of one name clash: `scale` stands in `multiple.rt`. A file of proofs/ and a module whose
--   names differ in case alone clash too (`proofs/Digits.antt` beside `src/digits.rt`).
-- - `v` and `k` of `Ring` are constructors: a file that imports them can bind no variable of these names. `∷` binds
--   tighter than `*ₙ` in a list.
-- - `as` in antt is reserved: name lists `xs`, `ys`.
-- - An argument under a recursive definition isn't inferred (`front _ text e`, never `front _ _ e`); antt then
--   prints the term that would fit.
-- - `A = Nothing` trick: where an implicit type of an answer isn't determined (`AnswersLost {T = ..} (Err e)`), name
--   `Unit {0}` by a definition of the file.
-- - std's literal is usable as it is: `scan_numeral` of `Rattle.std.specs.Float.Numeral` cuts the longest literal,
--   `scan_numeral-text_of` reads written parts back, and the proofs of core's `dec2flt/numeral` can be copied nearly
--   word for word.
-- - Numbers of any size that need few turns: divide by 10 with the common divisor taken out at each turn, and stop
--   at the first denominator above 2^63 - 1, since a denominator stays through further division (`den_stays`).
-- - `rt must-fail` in a folder where `rt check` runs meanwhile answers NOT TRIED; `rt ci NAME` works on a copy.
-- - A test that calls `dot`, `value`, `row_holds` or `range_of` owes their condition on columns: a list that a
--   helper without clauses made doesn't prove it.
-- - Order of two quotients, by continued fractions. x/y against z/w: whole parts first; where they are equal, what
--   is left over turned upside down *and with the sides exchanged*: (x, y), (z, w) become (w, z % w), (y, x % y). So
--   no flag "turned over" is kept, and the invariant is one equation, `nat_cmp (left.0 * right.1) (right.0 * left.1)
--   ≡ nat_cmp (x * w) (z * y)`, with the measure `left.1 + right.1`. Each exit is one lemma (`by_whole`, `by_zero`,
--   `turned` of hys_frac/proofs/QuotientOrder.antt); all rest on `alike`: two comparisons that go alike in the three
--   cases are equal.
-- - A product over a divisor in 128 bits. Reduce the product num/den (126 bits), then cancel it crosswise against
--   the divisor's two parts (`gcd num down`, `gcd up den`). Two gcds after the first do for the nine of three
--   factors against three: `crosswise` (hys_frac/proofs/Crosswise.antt) says that what is left has no common factor,
--   so `narrow` decides. A long factor is refused before it is multiplied, since the other factors are at least 1.
-- - Signs last. `scaled` works on sizes; one record, `Parted` (hys_frac/proofs/Scaling.antt), says of the code's
--   parts: with signs alike the size is the number, else the number turned, and either fits where the other does.
--   All five answers of `mul_div` cite it.
-- - A field of a record as `forall g h. g ≡ gcd u y → h ≡ gcd x v → Crossed ..`: prove the record at the gcds
--   themselves and carry it to the code's values by `subst₂` once (`crossed`, `lowered`); then each goal of the
--   function is one field.
-- - After a `?`: `c.in_ok-x.ensures.value` and `.fits` are the callee's clauses at `Some x`; in the other branch
--   `c.in_err-x.ensures.fits.1`, with `c.from_residual.ensures`, that the answer is None.
-- - A tuple that a function returns: a clause says `make result.0 result.1 ≡ ..`; at the next call a signed part
--   prints as `to_z w128 (of_z w128 x.result.0)`, to be joined by `to_z-of_z` (`both_quotients`).
pub mod Comparisons
pub mod Crosswise
pub mod Fracs
pub mod Wholes
pub mod Numerals
pub mod Powers
pub mod QuotientOrder
pub mod Readings
pub mod RoundTrip
pub mod Scaling
pub mod SignedOrder
pub mod Signs
