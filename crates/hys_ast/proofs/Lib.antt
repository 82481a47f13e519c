-- Notes on how this crate is proved: forms that worked, and traps.
-- - What is written, as a function of what follows. `Writes before after words = (rest : List Spelling) → after ++
--   spaced rest ≡ before ++ spaced (words rest)`: each function that appends has this clause with `words : List
--   Spelling → List Spelling` ("the tokens of this part, and then those that follow"). Two calls compose by one `∙`
--   at explicit lists, with no lemma on `++`; the same shape fits the grammar's `Derives symbol ts rest tree`.
--   Expressions of up to three calls prove with no file; longer chains are one line each, `e w rest refl ∙
--   c.in_ok-b.ensures .. ∙ c.in_ok-a.ensures ..`, inside `IfOk-weaker c.LAST.result _ _ (λ u e rest. ..)
--   c.LAST.ensures`.
-- - A token is put by `put(out, b"..")`, whose clause speaks of any spelling `w` with `w.bytes ≡ token.now`;
--   `put_text` takes a `&Text`, so no caller knows `as_bytes`.
-- - A loop that writes: `out ++ spaced (words held (map view (drop i xs)) rest) ≡ before ++ spaced (words None (map
--   view xs) rest)`, one turn a function of its own whose clause quantifies over the list that is left. Every turn
--   of the two loops proves with no answer; only the end needs one.
-- - A derivation from a tree: `Again symbol ts more e` (a record: the rest, the tree found, its derivation, that the
--   rest spells `more`, equal places aside) by recursion on the tree, from `Spells (words e more) ts`. `Spells` is
--   `data` with one constructor for each word, so fixed tokens are taken by patterns, `(further {l = o} k t (further
--   ..))`; where a reading stands between two tokens, hand what was read to a lemma over plain variables that
--   matches the next `further`.
-- - Places: no relabelling of derivations. The tree is read anew from the lexemes of the written text, and `bare` of
--   the two trees is compared in each case by `ap`/`cc`. That the words don't depend on places is one lemma
--   (`same_source`), so the tree of the code and the derived tree have the same words.
-- - Levels as numbers: `strength`, `symbol_at n` (0 arrow .. 8 atom), an operand's slot is `suc` of its level. One
--   `step` from `symbol_at (suc n)` to `symbol_at n`, and `climb` by `k`; a chain is made longer at its end by a
--   recursion on `Behind` (`longer`).
-- - Only what the tree can't tell is asked of the derivation: names and literals are tokens (`Valid`), declarations
--   and items have one of three shapes (`Sound`, `SoundItem`, as `data` over the tree), sections stand in `Blocks`.
--   Everything is generic in the part and its words, for declarations and items alike.
-- - Sections in blocks: `Blocks` keeps the sections seen before as an index and is given for every smaller list of
--   seen ones (`Within`), so empty sections vanish and AUX can be printed first.
-- - A fixed word is a token by `listed_sign k bytes refl` and `listed_word k bytes refl refl` under `unfolding signs
--   stands_at` (`hys_lex.proofs.Tables`).
-- - A long chain with no deep stack: `left_spine` walks down the left operands and keeps them in a `Vec<&Expr>`;
--   `spine.pop()` walks up. Invariants `Down` and `Up`, in lemmas over any `view : X → Tree`. References in a `Vec`
--   need nothing special: `map (λ e. tree_of e.now) spine.items`. The measure of the cycle wants that nothing in the
--   spine is larger than the whole (`Within n es`).
-- - A `requires` with a record of existences (`HasText`) is met by callers with no answer after `tokens` and
--   `parse`.
-- - Trap: `open` is reserved in clauses and antt: no definition's argument and no function whose proof has a file
--   may be called so (`held`, `begin_group`).
-- - Trap: A module and its function can't both be `print`: the function stands in `printer.rt`.
-- - Trap: An implicit field of a constructor of a generic `data` that stands under `++` in its index (`x ∷ (xs ++
--   ys)`) must be explicit.
-- - Trap: An arm `Number(text, _) | Name(text, _)` leaves the goal on the whole tree open, and so does a tail `put`
--   in an arm on a `&Expr`: answer with `rw c.in-Number.is (..)`.
-- - Trap: `assert_eq!` on a long text prints both as numbers, a hundred thousand of them: compare by `==` in an
--   `assert!`.
-- - Trap: Recursion along a left spine of 8,000 operators runs out of stack where the frames hold several `Result`s
--   (the first form of `expression` did); `count_nodes` and the drop of a tree don't.
pub mod PlaceSteps
pub mod LexemeSteps
pub mod Counting
pub mod PrintLoops
pub mod Spelled
pub mod Regrouped
pub mod Listed
pub mod ValidTrees
pub mod ValidParts
pub mod ItemsAgain
pub mod Blocks
pub mod ValidSections
pub mod SectionsAgain
pub mod Unplaced
pub mod SourceAgain
pub mod Spines
pub mod Needed
