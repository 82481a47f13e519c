-- Notes on how this crate is proved: forms that worked, and traps.
-- - What is answered before rows are looked for is a refusal at every tolerance: the stages have no tolerance, and
--   their lemmas take it last, so that `using(..)` proves `IfErr result (IsEarlyRefusal text)` with no file.
-- - That something of a translation doesn't depend on where formulas lie in memory: a function on body trees beside
--   it, equal to it by `refl` in each of the eleven cases, and then an induction over two lists of items with the same
--   trees (Rows). Names that are equal go by one `ap` over a program made of its parts.
-- - The automaton of a program is that of its source: the names of a part on either side are two filters over lists
--   that go one by one, so one lemma with what is shown of a name as a parameter (Translated.kept).
-- - Laws in `src/laws.rt` with named clauses are answered by `returns-clause-NAME c = lemma`, or by one record.
-- - Trap: A `where` helper can't call the lemma that it stands in: pass the call as a function of its premise.
-- - Causes as one `data` over the fault, a constructor for each cause, and for each a lemma `by_..` that takes `f
--   ≡ fault_at n place` beside the facts; named by `using(..)` on the function, they prove all branches with no
--   file.
-- - That at most one cause stands: the same causes as nested sums, a stage each (`Read`, `Lexed`, `Counted`, ..:
--   refused here, or passed and judged by the next). Two faults are compared stage by stage, four lines each,
--   where pairs of constructors would be a hundred cases.
-- - A function whose answer is a plain `Result` of a helper gets its clauses about all answers (`exact`,
--   `accepts`) by one lemma over `r : Result ..`, by cases of r.
-- - What a run's end says by two predicates (`Has` of faults, `Means` of systems) is proved once of the text that
--   was read, and carried to the file that holds it by `of_file`.
-- - A stand-in of a crate below whose body only answers want of memory, with the settled contract, lets the crates
--   above be proved before it is.
pub mod Causes
pub mod Rows
pub mod Stages
pub mod Only
pub mod Accepting
pub mod Answered
pub mod Translated
pub mod WrittenParts
pub mod Readable
pub mod OneList
pub mod GuardSizes
pub mod SmallWeights
pub mod Circles
pub mod Unfit
pub mod Compiling
