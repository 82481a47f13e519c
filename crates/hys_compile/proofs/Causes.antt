-- From what the parts of the compiler find to the causes that it answers.
use Rattle.std.proofs.Common.{◌≡◌, ℕ, ◌<◌, ◌≤◌, List, length, Some, None, Result, Err, ◌⊎◌, sym, subst, ap, ◌∙◌, inl, inr, refl, arith}
use Rattle.hys_number.specs.Number.{Number}
use Rattle.hys_lex.specs.Cut.{IsFirstFault}
use Rattle.hys_lex.specs.declared.token.Token.{Token}
use Rattle.hys_lex.specs.declared.cut.LexFault.TheVariants as lexing
use Rattle.hys_ast.specs.Tree.{Source}
use Rattle.hys_ast.specs.Places.{place_at}
use Rattle.hys_ast.specs.Nodes.{expressions, IsCountOf}
use Rattle.hys_ast.specs.declared.count.NodeCount.{NodeCount}
use Rattle.hys_parse.specs.Depth.{IsFirstDeep}
use Rattle.hys_parse.specs.Cause.{IsUngrammatical}
use Rattle.hys_type.specs.Faults.{Check, Answers, first_fault}
use Rattle.hys_type.specs.Checks.{checks}
use Rattle.hys_type.specs.declared.fault.TypeFault.{TypeFault}
use Rattle.hys_type.specs.declared.fault.TypeFault.TheVariants as typing
use Rattle.hys_compile.specs.declared.fault.SourceFault.{SourceFault}
use Rattle.hys_compile.specs.declared.fault.LimitKind.TheVariants as limit
use Rattle.hys_compile.specs.declared.number.TheConstants as number
use Rattle.hys_compile.specs.Faults.{fault_at, over_limit, no_memory, shown}
use Rattle.hys_compile.specs.Text.{most_bytes, most_tokens, most_nodes, most_nodes_of_one, byte_of, IsLexed, IsCounted, IsParsed, IsMeasured, IsTyped, IsCause, IsRefusal, too_long, byte, comment, long, many, deep, syntax, nodes, expression, typed}

pub by_bytes : (text : List ℕ) (f : SourceFault) → f ≡ over_limit limit.Bytes → most_bytes < length text → (tolerance : Number) → IsRefusal tolerance text f
by_bytes text f e h tolerance = inr (subst (IsCause tolerance text) (sym e) (too_long h))

pub by_memory : (text : List ℕ) (f : SourceFault) → f ≡ no_memory → (tolerance : Number) → IsRefusal tolerance text f
by_memory text f e tolerance = inl e

pub by_byte : (text : List ℕ) (at : ℕ) (f : SourceFault) → f ≡ fault_at number.BYTE (place_at text at) → length text ≤ most_bytes → IsFirstFault text (lexing.Byte at) → (tolerance : Number) → IsRefusal tolerance text f
by_byte text at f e short h tolerance = inr (subst (IsCause tolerance text) (sym e) (byte at short h))

pub by_comment : (text : List ℕ) (at : ℕ) (f : SourceFault) → f ≡ fault_at number.COMMENT (place_at text at) → length text ≤ most_bytes → IsFirstFault text (lexing.Comment at) → (tolerance : Number) → IsRefusal tolerance text f
by_comment text at f e short h tolerance = inr (subst (IsCause tolerance text) (sym e) (comment at short h))

pub by_long : (text : List ℕ) (at : ℕ) (f : SourceFault) → f ≡ fault_at number.LONG (place_at text at) → length text ≤ most_bytes → IsFirstFault text (lexing.Long at) → (tolerance : Number) → IsRefusal tolerance text f
by_long text at f e short h tolerance = inr (subst (IsCause tolerance text) (sym e) (long at short h))

pub by_tokens : (text : List ℕ) (tokens : List Token) (f : SourceFault) → f ≡ over_limit limit.Tokens → IsLexed text tokens → most_tokens < length tokens → (tolerance : Number) → IsRefusal tolerance text f
by_tokens text tokens f e h more tolerance = inr (subst (IsCause tolerance text) (sym e) (many tokens h more))

pub by_depth : (text : List ℕ) (tokens : List Token) (k : ℕ) (f : SourceFault) → f ≡ over_limit limit.Nesting → IsCounted text tokens → IsFirstDeep tokens k → (tolerance : Number) → IsRefusal tolerance text f
by_depth text tokens k f e h d tolerance = inr (subst (IsCause tolerance text) (sym e) (deep tokens k h d))

pub by_syntax : (text : List ℕ) (tokens : List Token) (k : ℕ) (f : SourceFault) → f ≡ fault_at number.SYNTAX (place_at text (byte_of text tokens k)) → IsCounted text tokens → IsUngrammatical text tokens k → (tolerance : Number) → IsRefusal tolerance text f
by_syntax text tokens k f e h u tolerance = inr (subst (IsCause tolerance text) (sym e) (syntax tokens k h u))

pub by_nodes : (text : List ℕ) (tokens : List Token) (tree : Source) (c : NodeCount) (f : SourceFault) → f ≡ over_limit limit.Nodes → IsParsed text tokens tree → IsCountOf (expressions tree) c → most_nodes < c.total → (tolerance : Number) → IsRefusal tolerance text f
by_nodes text tokens tree c f e h count more tolerance = inr (subst (IsCause tolerance text) (sym e) (nodes tokens tree h (omega (arith, count.total_is))))

pub by_expression : (text : List ℕ) (tokens : List Token) (tree : Source) (c : NodeCount) (f : SourceFault) → f ≡ over_limit limit.Expression → IsParsed text tokens tree → IsCountOf (expressions tree) c → c.total ≤ most_nodes → most_nodes_of_one < c.largest → (tolerance : Number) → IsRefusal tolerance text f
by_expression text tokens tree c f e h count few more tolerance = inr (subst (IsCause tolerance text) (sym e) (expression tokens tree h (omega (arith, count.total_is)) (omega (arith, count.largest_is))))

is_memory : (e : TypeFault) → (e ≡ typing.Memory) ⊎ (¬ (e ≡ typing.Memory))
is_memory (typing.Twice p) = inr (λ e. absurd (cc))
is_memory typing.Limit = inr (λ e. absurd (cc))
is_memory (typing.NoValue p) = inr (λ e. absurd (cc))
is_memory (typing.NoBounds p) = inr (λ e. absurd (cc))
is_memory (typing.EmptyBounds p a b) = inr (λ e. absurd (cc))
is_memory (typing.Unknown p) = inr (λ e. absurd (cc))
is_memory (typing.WrongSection p) = inr (λ e. absurd (cc))
is_memory (typing.DefinedTwice p) = inr (λ e. absurd (cc))
is_memory (typing.Kind p) = inr (λ e. absurd (cc))
is_memory (typing.NotLinear p) = inr (λ e. absurd (cc))
is_memory (typing.ZeroDivisor p) = inr (λ e. absurd (cc))
is_memory (typing.Literal p) = inr (λ e. absurd (cc))
is_memory (typing.Range p l) = inr (λ e. absurd (cc))
is_memory (typing.Tolerance p a) = inr (λ e. absurd (cc))
is_memory (typing.Missing n) = inr (λ e. absurd (cc))
is_memory typing.Memory = inl refl

pub by_typing : (text : List ℕ) (tokens : List Token) (tree : Source) (e : TypeFault) (f : SourceFault) → f ≡ shown e → IsMeasured text tokens tree → (¬ (e ≡ typing.Memory) → Some e ≡ first_fault (checks tree)) → (tolerance : Number) → IsRefusal tolerance text f
by_typing text tokens tree e f s h found tolerance = elim (is_memory e) [
  | inl m ↦ inl (s ∙ ap shown m)
  | inr n ↦ inr (subst (IsCause tolerance text) (sym s) (typed tokens tree e h (sym (found n))))
]

pub answered : {T : Type 0} (r : Result T TypeFault) (e : TypeFault) (cs : List Check) → r ≡ Err e → Answers r cs → ¬ (e ≡ typing.Memory) → Some e ≡ first_fault cs
answered {T = T} r e cs i h = let A : Result T TypeFault → Type 0 = λ x. Answers x cs in subst A i h

pub passes_typing : (text : List ℕ) (tokens : List Token) (tree : Source) → IsMeasured text tokens tree → None ≡ first_fault (checks tree) → IsTyped text tokens tree
passes_typing text tokens tree h none = record { measured = h; faultless = sym none }
