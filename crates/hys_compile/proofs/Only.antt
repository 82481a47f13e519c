-- What a text has only one of, so that no cause stands in a text that is compiled.
use Rattle.std.proofs.Common.{◌≡◌, ℕ, ◌<◌, List, length, Some, None, sym, ◌∙◌, ap, subst, arith}
use Rattle.hys_number.specs.Number.{Number}
use Rattle.hys_lex.specs.Cut.{Cut, IsFirstFault}
use Rattle.hys_lex.specs.declared.token.Token.{Token}
use Rattle.hys_lex.specs.declared.cut.LexFault.{LexFault}
use Rattle.hys_lex.specs.declared.cut.LexFault.TheVariants as lexing
use Rattle.hys_ast.specs.Tree.{Source}
use Rattle.hys_ast.specs.Grammar.{IsTreeOf}
use Rattle.hys_ast.specs.Nodes.{expressions, total, largest}
use Rattle.hys_parse.specs.Depth.{IsFirstDeep}
use Rattle.hys_parse.specs.Cause.{IsUngrammatical}
use Rattle.hys_type.specs.Checks.{fault_of}
use Rattle.hys_meaning.specs.Circular.{Circular}
use Rattle.hys_meaning.specs.Unfolded.{unfolded}
use Rattle.hys_compile.specs.Sources.{AreRangeNumbers, AreRowNumbers}
use Rattle.hys_compile.specs.declared.fault.SourceFault.{SourceFault}
use Rattle.hys_compile.specs.Text.{most_tokens, most_nodes, most_nodes_of_one, IsLexed, IsParsed, IsCompilable, IsCause, too_long, byte, comment, long, many, deep, syntax, nodes, expression, typed, cycle, interval, row}
use Rattle.hys_compile.proofs.Accepting.{faultless}

-- what holds of cuts and trees
pub record AreOnly (text : List ℕ) : Type 0 where
  pub cut : (a b : List Token) → Cut text a → Cut text b → a ≡ b
  pub fault : (a b : LexFault) → IsFirstFault text a → IsFirstFault text b → a ≡ b
  pub apart : (fault : LexFault) (tokens : List Token) → IsFirstFault text fault → Cut text tokens → ⊥
  pub stuck : (tokens : List Token) (j k : ℕ) → IsUngrammatical text tokens j → IsUngrammatical text tokens k → j ≡ k
  pub tree : (tokens : List Token) (a b : Source) → IsTreeOf text tokens a → IsTreeOf text tokens b → a ≡ b

same_cut : (text : List ℕ) (a b : List Token) → AreOnly text → IsLexed text a → IsLexed text b → a ≡ b
same_cut text a b only h k = only.cut a b h.cut k.cut

same_tree : (text : List ℕ) (a b : List Token) (s t : Source) → AreOnly text → IsParsed text a s → IsParsed text b t → s ≡ t
same_tree text a b s t only h k =
    let e : a ≡ b = same_cut text a b only h.counted.lexed k.counted.lexed in
    only.tree a s t h.derived (subst (λ z. IsTreeOf text z t) (sym e) k.derived)

pub no_cause : (tolerance : Number) (text : List ℕ) (f : SourceFault) → AreOnly text → IsCompilable tolerance text → IsCause tolerance text f → ⊥
no_cause tolerance text f only c (too_long more) = absurd (omega (arith, c.measured.parsed.counted.lexed.bytes))
no_cause tolerance text f only c (byte at short h) = absurd (only.apart (lexing.Byte at) c.tokens h c.measured.parsed.counted.lexed.cut)
no_cause tolerance text f only c (comment at short h) = absurd (only.apart (lexing.Comment at) c.tokens h c.measured.parsed.counted.lexed.cut)
no_cause tolerance text f only c (long at short h) = absurd (only.apart (lexing.Long at) c.tokens h c.measured.parsed.counted.lexed.cut)
no_cause tolerance text f only c (many ts h more) =
    let e : ts ≡ c.tokens = same_cut text ts c.tokens only h c.measured.parsed.counted.lexed in
    let more' : most_tokens < length c.tokens = subst (λ z. most_tokens < length z) e more in
    absurd (omega (arith, c.measured.parsed.counted.few))
no_cause tolerance text f only c (deep ts k h d) =
    let e : ts ≡ c.tokens = same_cut text ts c.tokens only h.lexed c.measured.parsed.counted.lexed in
    let d' : IsFirstDeep c.tokens k = subst (λ z. IsFirstDeep z k) e d in
    absurd (omega (arith, d'.deep, c.measured.parsed.shallow k d'.within))
no_cause tolerance text f only c (syntax ts k h u) =
    let e : ts ≡ c.tokens = same_cut text ts c.tokens only h.lexed c.measured.parsed.counted.lexed in
    absurd (u.none c.tree (subst (λ z. IsTreeOf text z c.tree) (sym e) c.measured.parsed.derived))
no_cause tolerance text f only c (nodes ts t h more) =
    let s : t ≡ c.tree = same_tree text ts c.tokens t c.tree only h c.measured.parsed in
    let more' : most_nodes < total (expressions c.tree) = subst (λ z. most_nodes < total (expressions z)) s more in
    absurd (omega (arith, c.measured.nodes))
no_cause tolerance text f only c (expression ts t h few more) =
    let s : t ≡ c.tree = same_tree text ts c.tokens t c.tree only h c.measured.parsed in
    let more' : most_nodes_of_one < largest (expressions c.tree) = subst (λ z. most_nodes_of_one < largest (expressions z)) s more in
    absurd (omega (arith, c.measured.expression))
no_cause tolerance text f only c (typed ts t fault h found) =
    let s : t ≡ c.tree = same_tree text ts c.tokens t c.tree only h.parsed c.measured.parsed in
    let same : Some fault ≡ None = sym found ∙ ap fault_of s ∙ faultless tolerance text c.tokens c.tree c.measured c.accepted c.fit in
    absurd (cc)
no_cause tolerance text f only c (cycle g h) =
    let s : h.tree ≡ c.tree = same_tree text h.tokens c.tokens h.tree c.tree only h.typed.measured.parsed c.measured.parsed in
    absurd (c.accepted.rules.orders h.circle (subst (λ (z : Source). Circular (unfolded z) h.circle) s h.circular))
no_cause tolerance text f only c (interval ts t numbers lost place h ranges found stands) =
    let s : t ≡ c.tree = same_tree text ts c.tokens t c.tree only h.typed.measured.parsed c.measured.parsed in
    let same : None ≡ Some lost = sym (c.fit.intervals numbers (subst (λ (z : Source). AreRangeNumbers z numbers) s ranges)) ∙ found in
    absurd (cc)
no_cause tolerance text f only c (row ts t numbers lost place h rows found stands) =
    let s : t ≡ c.tree = same_tree text ts c.tokens t c.tree only h.ordered.typed.measured.parsed c.measured.parsed in
    let same : None ≡ Some lost = sym (c.fit.rows numbers (subst (λ (z : Source). AreRowNumbers tolerance z numbers) s rows)) ∙ found in
    absurd (cc)
