-- Notes on how this crate is proved: forms that worked, and traps.
-- - A longest match is proved once over lists, never in the code: give each scanner the clause `IsLongest Shape text
--   result` (found, within, most) and compose them in lemmas (`mantissa`, `exponent`, `literal`); the code's answers
--   are then one line each.
-- - A table of words: `const WORDS: [&[u8]; N]` is seen as a list of references, `map (λ w. w.now) words.now`. Write
--   the search over a parameter `words: &[&[u8]]`, and the caller that passes the constant answers `unfolding
--   keywords .. c.place.ensures`, by computation. So the table in the code can differ from the definition's list in
--   no letter.
-- - A fact on every word of a table (non-empty, first byte, all different) is a test over the list, `refl` under
--   `unfolding`, and `AllPass-from_list_all` turns it into the fact. No case for each word.
-- - Kinds by the class of the first byte: one `data Class`, one lemma per class that says which kinds are left
--   (`gap_kind`, `word_kind`, ..). Contradictions between classes are then `cc`.
-- - Uniqueness of a cut: let `IsFront text pieces rest` have the rest as an argument. One lemma, two fronts with
--   stuck rests are equal, gives that the cut is unique, that a fault is unique, and that a fault excludes a cut.
--   The loop's invariant then needs no backward half.
-- - A nested `⊎` of records matched by clauses on two arguments at once (3 by 3 cases) outgrew the kernel's memory
--   (4 GiB); one lemma per row with `elim` on the second argument took no time.
-- - `yes`, `no` are constructors of `Dec`, so a pattern variable of that name is refused; a file of proofs/ can't be
--   called `Kinds`; `_` in a `where` helper is not settled by its use.
-- - A branch of a `match` on `Ok(Enum::Variant(a, b))` of a call: `rw (c.in-Ok-Variant.field-0-is, take_rest) at
--   c.in-Ok-Variant.ensures`, with the type written in a `let`.
-- - A slice `&text[at..]` in a clause is `take (length text - at) (drop at text)`: `rw take_rest at ..` in the
--   answer.
-- - rt fmt puts an empty line between constants, and the gate wants its layout.
pub mod Tables
pub mod Runs
pub mod Literals
pub mod Opening
pub mod Matches
pub mod Fronts
pub mod Spacing
pub mod Total
