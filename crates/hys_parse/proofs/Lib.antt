-- Notes on how this crate is proved: forms that worked, and traps.
-- - A grammar as clauses on lists, `Derives symbol ts rest tree`, needs no `++` and no associativity: each
--   production names the lexemes that it takes by `l ∷ next` in its index. One family indexed by a symbol, in place
--   of a mutual block, makes every law one recursion by clauses, with implicit arguments named in the patterns.
-- - A running place: a record `Reached text at line col` as the loop's invariant, with lemmas for a byte that breaks
--   the line and one that doesn't.
-- - `laws::spans(tokens, text);` as the first line of a body brings what holds of every cut into the proof.
-- - A `where` helper can't make the recursive call: pass it, or write a helper over plain variables.
-- - Counting by one expression after the other: each helper ensures `(es : List Tree) → IsCountOf es count →
--   IsCountOf (es ++ new) result`, so the helpers compose and the loops keep it over `take index`.
-- - A parser in two steps. First each reader of the code equals a reader on lists, `Gives view result (reader_at
--   tokens.now)`, with `#[tactic(auto, unfolding(..))]`: all readers but the loops prove with no file, the cycle of
--   six functions for expressions too. Then two laws about the readers on lists alone: what is read is derived
--   (`bind_ok`, `choose_is`, `cond_is`, `expect_then` take one step apart), and what is derived is read (induction
--   on the derivation; each case is one `rw` with the equations of its lexemes). `only` and `err` follow from the
--   second: a derived tree is the one that is read. No failing branch needs a proof.
-- - Recursion through parentheses and signs: pass how deep it may go as a number (`room`) in code and definition
--   alike, so that the two are equal with no law on fuel. The reader on lists is `reader inner symbol ts` with
--   `inner` for what stands inside, and `nested (suc room) = reader (nested room)`.
-- - Loops: one turn is a function of its own (`(read, more, rest)`), which proves with no file; the loop keeps `Upto
--   turn first all a ts`, with four lemmas for every loop (`starts`, `goes_on`, `goes_not`, `ends`), so four loops
--   have the same eight lines of answers.
-- - What follows an expression: `front_rank rest < rank_of symbol`, the operator at the front binds less than the
--   symbol; one number for all levels.
-- - In a lemma that takes a step apart, `rw` at terms that come from a `let` fails ("motive not well typed"): hand
--   the parts to a lemma over plain variables that names the production (`cast_is`, `joined_is`, ..).
-- - `_` for the continuation in `bind_ok r _ y e` is solved by unification, so a chain of binds is one line each.
-- - `open`, `yes`, `no` may not name a parameter that a clause reads.
-- - The token where reading stops is exact by two facts, neither of which says enough alone: `stuck`, no grammatical
--   list begins as this one up to and with lexeme k, and `reached`, some grammatical list begins with the lexemes
--   before k. `stuck` alone is also true of every later k (of the end of the text, say), `reached` alone of every
--   earlier one. The law `one_fault` shows that the two fix k, so a wrong k can't be proved whatever the proof.
-- - Locality of readers (`stuck`): one inductive relation on two lists, `Near n m ls ts` (`gone` where fewer than n
--   lexemes are left in the first, `end`, `front l`), and one on results, `Both strict n m bound x y` (`stops`,
--   `past`, `reads`). The bound says that what is left is no more than the list had, so "past the fault nothing
--   matters" needs no second lemma per reader: `over` changes the second result once `bound < n`. Then `then`,
--   `chosen`, `either`, `takes`, `ok` carry it through all readers, and the proof of a reader is a term of the shape
--   of its `do` block, one line a step, none of which needed a second try.
-- - In the `past` case of a bind the continuation is asked at the same list twice (`gone`), so the continuation has
--   one hypothesis, with equal values on both sides.
-- - Fuel and room of the two runs differ (they are lengths): keep `one + m ≤ two + n` for rooms, a constant through
--   all readers, and `n ≤ length ls → length ts ≤ two` for a loop's fuel. Where the second fuel is 0, either the
--   first list is past the fault (`over`) or both are empty.
-- - Strictness as a `Bool` (`Below strict r bound`) serves the two readers that a loop's turns need strict;
--   `first_then` and `then_last` compose it.
-- - The viable prefix (`reached`): `Viable D ls x` says that what a reader took is derived whatever stands behind it
--   (`whole`), or that something can stand where it stopped with which it is derived (`short`). No value is shown
--   and no room or fuel is spoken of: a reader that stops for want of fuel is viable too. What completes a
--   production after a stop comes from the continuation itself, asked at the empty list (`some_are`), so no
--   production needs a completion of its own but the symbols of expressions (a name), an item of MUST and the empty
--   lists.
-- - A front of lexemes as a function (`put`) with its list beside it: fronts compose by computation, so that no
--   `append_assoc` is met before the last lemma.
-- - A turn of a loop with accumulators: `Leads D a more ts rest b` is `D a ts rest` at the last turn and `(rest : _)
--   → D b mid rest → D a ts rest` before, so one lemma `turns_viable` serves names, lines, items and sections.
-- - A small `data` with the lists in its indices (`Block`, `Parted`) in place of a product with equations: the next
--   lemma matches on it, and no `subst` is needed.
-- - Trap: An implicit function argument (`{f g : A × List Lexeme → Read B}`) of a bind lemma is refused as not
--   determined: make it explicit and write `_`.
-- - Trap: `omega arith` as an argument of a constructor whose implicit field is not yet known ("the goal is not yet
--   determined"): give the field, `Both.past {r = []} ..`, or `{k = 0}`. This happens under `rw`.
-- - Trap: A reader that answers `Err (length ts)` behind a look ahead (the section that stands twice) is out of the
--   bound of the list behind the look: a second form of the look-ahead lemma (`looked_turn`) keeps the outer bound.
-- - Trap: `length (l ∷ r) == 0` doesn't compute (native numbers): a lemma by `eqb-true`.
-- - Trap: Where a lemma about a derivation needs a first lexeme (`must`), it is not in the reader's hands: prove
--   that each derived list has one.
-- - A whole example by computation: `whole_at (lexemes_of text tokens) ≡ Ok tree` by `refl`, with all readers
--   under `unfolding`, then `whole_sound`; 250 bytes take seconds. A macro may hold a loop: invariants and answers
--   keep their names.
pub mod Heights
pub mod Chains
pub mod Turns
pub mod Steps
pub mod Sound
pub mod Complete
pub mod CompleteParts
pub mod CompleteSource
pub mod SoundParts
pub mod SoundSource
pub mod Whole
pub mod Near
pub mod NearTurns
pub mod NearExpr
pub mod NearParts
pub mod Stuck
pub mod Viable
pub mod ViableExpr
pub mod ViableParts
pub mod ViableSource
pub mod OneFault
pub mod Depths
pub mod Worked
