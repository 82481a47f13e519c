-- Notes on how this crate is proved: forms that worked, and traps.
-- - A system with one Boolean auxiliary: one sum type, `Decided a d` (guard at most 0 and d is 1, or guard at
--   least the tolerance and d is 0), equivalent to the two rows at a bit (`rows_on`, `rows_off`, each by `simp
--   decides (omega arith)` over one number) and to a legal step's case without gap; that there is one solution,
--   one step and that they agree are then one lemma, `same_truth`.
-- - Rows under `unfolding Holds`, next values under `unfolding value`; boxes by `zero_is`, `ten_is` (`literal`
--   against `whole`).
-- - `Differ (names S)` of a concrete system is `differ_texts (names S) refl` (hys_type/proofs/KnownValues); `cc` on
--   texts meets its bound.
-- - `All` over a concrete list: `All-from_recursion P list (a, (b, tt))` with the list written, since `_` isn't
--   settled before the tuple.
-- - Everything about a concrete source by `refl`. `first_unfit (folded s) ≡ Some c`, lists of operations,
--   intervals and columns of a concrete source all compute under one line `unfolding fits literal scan_numeral
--   whole make gcd ◌+ₙ◌ ◌*ₙ◌ neg is_zero` (with `number_cmp` where intervals are compared, `inverse` for
--   quotients, `is_one` for Boolean parameters). No `simp`, no `omega`; numbers of 20 digits are no trouble. 60
--   such lemmas check in under 10 s.
-- - Two numbers made by different roads are the same by `refl` where `make` gets parts with no common factor on
--   both sides (all denominators 1, or `-19/2` from `1/2 - 10` and from `neg (n_over 19 2)`). Where a factor
--   cancels on one side alone (`1/2 + 1/2`), go by the lemmas of hys_examples/proofs/Numbers.
-- - `whole 2 ≢ whole 0`: `λ e. never (ap is_zero e)` under `unfolding .. is_zero`. `¬ (HasFactor n f)`: `absurd
--   (p.1 refl)` under the number operators.
-- - An order as a relation by recursion on the list, "the first of the list that has the property" as `(P m × m ≡
--   n) ⊎ (¬ (P m) × IsFirst P n ms)`: uniqueness is one clause for each pair of cases, and a concrete order is a
--   tuple.
-- - "The list is complete" is a law: where all listed numbers fit, the parts of the form fit. It shows that signs,
--   names and casts need no entry.
-- - A case on the test of a `cond`: a `where` helper over the `Bool` alone; it can't call the lemma itself, so
--   pass the recursive result.
-- - Trap: A function with one named clause still answers a record: `returns c = record { first = .. }`.
-- - Trap: `proofs/Numbers.antt` and `src/numbers.rt` clash, so the module is `fitting`.
-- - Trap: `rt fmt` joins a clause that begins on a line of its own to the line of its name.
pub mod Numbers
pub mod Guarded
pub mod Ruled
pub mod Summed
pub mod Chosen
pub mod Heated
pub mod Cast
pub mod Once
pub mod Limited
pub mod Weighed
pub mod Switched
pub mod Added
pub mod Keeping
pub mod Folded
pub mod Unique
pub mod Parts
pub mod Tolerant
