-- A list is stuck at one place that is reached, or is derived.
use Rattle.std.proofs.Common.{◌≡◌, ℕ, suc, ◌+◌, ◌<◌, ◌≤◌, List, ◌++◌, length, take, Result, Ok, Err, ◌⊎◌, ◌-◌, refl, inl, inr, ◌∙◌, arith, length-append}
use Rattle.std.proofs.lemmas.Bool.{cases_lt}
use Rattle.std.proofs.lemmas.List.{take-append-le, length-map, length-take-le, take-take}
use Rattle.hys_lex.specs.declared.token.Token.{Token}
use Rattle.hys_ast.specs.declared.lexeme.Lexeme.{Lexeme}
use Rattle.hys_ast.specs.Places.{lexeme_of, lexemes_of}
use Rattle.hys_ast.specs.Tree.{Source}
use Rattle.hys_ast.specs.Grammar.{IsTreeOf}
use Rattle.hys_parse.specs.Depth.{IsShallow}
use Rattle.hys_parse.specs.Sections.{whole_at}
use Rattle.hys_parse.proofs.Whole.{whole_sound, whole_none}
use Rattle.hys_parse.proofs.Stuck.{stuck}
use Rattle.hys_parse.proofs.ViableSource.{reached}
use Rattle.hys_parse.specs.Cause.{IsStuckAt, IsReached, IsUngrammatical}

not_before : (ls : List Lexeme) (j k : ℕ) → k ≤ length ls → IsStuckAt ls j → IsReached ls k → j < k → ⊥
not_before ls j k fits stuck reached less =
    let size : length (take k ls) ≡ k = length-take-le k ls fits in
    let count : length (take k ls ++ reached.more) ≡ length (take k ls) + length reached.more = length-append (take k ls) reached.more in
    let alike : take (suc j) (take k ls ++ reached.more) ≡ take (suc j) ls = take-append-le (suc j) (take k ls) reached.more (omega arith) ∙ take-take (suc j) k ls less in
    stuck (take k ls ++ reached.more) reached.tree (inl (omega arith, omega arith, alike)) reached.derived

pub one_fault : (text : List ℕ) (tokens : List Token) (j k : ℕ) → IsUngrammatical text tokens j → IsUngrammatical text tokens k → j ≡ k
one_fault text tokens j k one two =
    let count : length (lexemes_of text tokens) ≡ length tokens = length-map tokens (lexeme_of text) in
    elim (cases_lt j k) [
      | inl less ↦ absurd (not_before (lexemes_of text tokens) j k (omega (arith, two.within)) one.stuck two.reached less)
      | inr most ↦ elim (cases_lt k j) [
        | inl less ↦ absurd (not_before (lexemes_of text tokens) k j (omega (arith, one.within)) two.stuck one.reached less)
        | inr least ↦ omega arith
      ]
    ]

-- what a list gives where reading it stops
pub stops_at : (text : List ℕ) (tokens : List Token) (left k : ℕ) → IsShallow tokens → whole_at (lexemes_of text tokens) ≡ Err left → k ≡ length tokens - left → IsUngrammatical text tokens k
stops_at text tokens left k shallow stopped place =
    let lexemes = lexemes_of text tokens in
    let count : length lexemes ≡ length tokens = length-map tokens (lexeme_of text) in
    record {
      within = omega arith;
      shallow = shallow;
      none = λ tree derived. whole_none lexemes left tree stopped derived;
      reached = reached lexemes left k stopped (omega (arith, count));
      stuck = stuck lexemes left k stopped (omega (arith, count));
    }

pub tree_or_fault : (text : List ℕ) (tokens : List Token) → IsShallow tokens → ((tree : Source) × IsTreeOf text tokens tree) ⊎ ((k : ℕ) × IsUngrammatical text tokens k)
tree_or_fault text tokens shallow = go (whole_at (lexemes_of text tokens)) refl
  where
    go : (r : Result Source ℕ) → whole_at (lexemes_of text tokens) ≡ r → ((tree : Source) × IsTreeOf text tokens tree) ⊎ ((k : ℕ) × IsUngrammatical text tokens k)
    go (Ok tree) e = inl (tree, whole_sound (lexemes_of text tokens) tree e)
    go (Err left) e = inr (length tokens - left, stops_at text tokens left (length tokens - left) shallow e refl)
