-- The causes of a text by the stage at which it is refused: at most one stage stands.
use Rattle.std.proofs.Common.{◌≡◌, ℕ, ◌<◌, ◌≤◌, ◌⊎◌, List, length, Some, None, refl, sym, ap₂, subst, ◌∙◌, inl, inr, arith}
use Rattle.hys_number.specs.Number.{Number}
use Rattle.hys_lex.specs.Cut.{Cut, IsFirstFault}
use Rattle.hys_lex.specs.declared.token.Token.{Token}
use Rattle.hys_lex.specs.declared.cut.LexFault.{LexFault}
use Rattle.hys_lex.specs.declared.cut.LexFault.TheVariants as lexing
use Rattle.hys_ast.specs.declared.place.Place.{Place}
use Rattle.hys_ast.specs.Tree.{Source}
use Rattle.hys_ast.specs.Places.{place_at}
use Rattle.hys_ast.specs.Grammar.{IsTreeOf}
use Rattle.hys_ast.specs.Nodes.{expressions, total, largest}
use Rattle.hys_parse.specs.Depth.{IsFirstDeep, IsShallow}
use Rattle.hys_parse.specs.Cause.{IsUngrammatical}
use Rattle.hys_type.specs.Checks.{fault_of}
use Rattle.hys_type.specs.declared.fault.TypeFault.{TypeFault}
use Rattle.hys_meaning.specs.Circular.{Circular}
use Rattle.hys_meaning.specs.Unfolded.{unfolded}
use Rattle.hys_bound.specs.Ranges.{Placed, first_unfit}
use Rattle.hys_compile.specs.declared.fault.SourceFault.{SourceFault}
use Rattle.hys_compile.specs.declared.fault.LimitKind.TheVariants as limit
use Rattle.hys_compile.specs.declared.number.TheConstants as number
use Rattle.hys_compile.specs.Faults.{fault_at, over_limit, no_memory, shown, range_fault}
use Rattle.hys_compile.specs.Sources.{StandsAt, AreRangeNumbers, AreRowNumbers}
use Rattle.hys_compile.specs.Text.{most_bytes, most_tokens, most_nodes, most_nodes_of_one, byte_of, IsMeasured, IsCircle, IsSameCause, IsCause, too_long, byte, comment, long, many, deep, syntax, nodes, expression, typed, cycle, interval, row}
use Rattle.hys_compile.proofs.Only.{AreOnly}
use Rattle.hys_compile.proofs.Unfit.{same_ranges, one_place}
use Rattle.hys_compile.proofs.Rows.{same_rows}

lexical : List ℕ → LexFault → SourceFault
lexical text (lexing.Byte at) = fault_at number.BYTE (place_at text at)
lexical text (lexing.Comment at) = fault_at number.COMMENT (place_at text at)
lexical text (lexing.Long at) = fault_at number.LONG (place_at text at)
lexical text lexing.Memory = no_memory

-- the place at which an item stands, with a number of it that doesn't fit
abbrev Unfit : Source → List Placed → SourceFault → Type 0
Unfit t numbers f = (lost : Placed) × (place : Place) × (first_unfit numbers ≡ Some lost) × StandsAt (unfolded t).items lost.item place × (f ≡ range_fault place lost.what)

-- each stage: the text is refused at it, or passes it and is judged by the next
abbrev Rowed : Number → Source → SourceFault → Type 0
Rowed tolerance t f = (numbers : List Placed) × AreRowNumbers tolerance t numbers × Unfit t numbers f

abbrev Ranged : Number → Source → SourceFault → Type 0
Ranged tolerance t f = (numbers : List Placed) × AreRangeNumbers t numbers × (Unfit t numbers f ⊎ ((first_unfit numbers ≡ None) × Rowed tolerance t f))

abbrev Ordered : Number → List ℕ → List Token → Source → SourceFault → Type 0
Ordered tolerance text ts t f = ((ns : List (List ℕ)) × Circular (unfolded t) ns × IsCircle text f) ⊎ (((ns : List (List ℕ)) → ¬ (Circular (unfolded t) ns)) × Ranged tolerance t f)

abbrev Typed : Number → List ℕ → List Token → Source → SourceFault → Type 0
Typed tolerance text ts t f = ((e : TypeFault) × (fault_of t ≡ Some e) × (f ≡ shown e)) ⊎ ((fault_of t ≡ None) × Ordered tolerance text ts t f)

abbrev Sized : Number → List ℕ → List Token → Source → SourceFault → Type 0
Sized tolerance text ts t f = ((most_nodes_of_one < largest (expressions t)) × (f ≡ over_limit limit.Expression)) ⊎ ((largest (expressions t) ≤ most_nodes_of_one) × Typed tolerance text ts t f)

abbrev Measured : Number → List ℕ → List Token → Source → SourceFault → Type 0
Measured tolerance text ts t f = ((most_nodes < total (expressions t)) × (f ≡ over_limit limit.Nodes)) ⊎ ((total (expressions t) ≤ most_nodes) × Sized tolerance text ts t f)

abbrev Parsed : Number → List ℕ → List Token → SourceFault → Type 0
Parsed tolerance text ts f = ((k : ℕ) × IsUngrammatical text ts k × (f ≡ fault_at number.SYNTAX (place_at text (byte_of text ts k)))) ⊎ ((t : Source) × IsTreeOf text ts t × Measured tolerance text ts t f)

abbrev Nested : Number → List ℕ → List Token → SourceFault → Type 0
Nested tolerance text ts f = ((k : ℕ) × IsFirstDeep ts k × (f ≡ over_limit limit.Nesting)) ⊎ (IsShallow ts × Parsed tolerance text ts f)

abbrev Counted : Number → List ℕ → List Token → SourceFault → Type 0
Counted tolerance text ts f = ((most_tokens < length ts) × (f ≡ over_limit limit.Tokens)) ⊎ ((length ts ≤ most_tokens) × Nested tolerance text ts f)

abbrev Lexed : Number → List ℕ → SourceFault → Type 0
Lexed tolerance text f = ((e : LexFault) × IsFirstFault text e × (f ≡ lexical text e)) ⊎ ((ts : List Token) × Cut text ts × Counted tolerance text ts f)

abbrev Read : Number → List ℕ → SourceFault → Type 0
Read tolerance text f = ((most_bytes < length text) × (f ≡ over_limit limit.Bytes)) ⊎ ((length text ≤ most_bytes) × Lexed tolerance text f)

-- a text that passes all stages up to the measure of its tree
from_measured : (tolerance : Number) (text : List ℕ) (ts : List Token) (t : Source) (f : SourceFault) → IsMeasured text ts t → Typed tolerance text ts t f → Read tolerance text f
from_measured tolerance text ts t f m r =
    inr (m.parsed.counted.lexed.bytes, inr (ts, m.parsed.counted.lexed.cut, inr (m.parsed.counted.few, inr (m.parsed.shallow, inr (t, m.parsed.derived, inr (m.nodes, inr (m.expression, r)))))))

staged : (tolerance : Number) (text : List ℕ) (f : SourceFault) → IsCause tolerance text f → Read tolerance text f
unfolding lexical
staged tolerance text f (too_long more) = inl (more, refl)
staged tolerance text f (byte at short h) = inr (short, inl (lexing.Byte at, h, refl))
staged tolerance text f (comment at short h) = inr (short, inl (lexing.Comment at, h, refl))
staged tolerance text f (long at short h) = inr (short, inl (lexing.Long at, h, refl))
staged tolerance text f (many ts h more) = inr (h.bytes, inr (ts, h.cut, inl (more, refl)))
staged tolerance text f (deep ts k h d) = inr (h.lexed.bytes, inr (ts, h.lexed.cut, inr (h.few, inl (k, d, refl))))
staged tolerance text f (syntax ts k h u) = inr (h.lexed.bytes, inr (ts, h.lexed.cut, inr (h.few, inr (u.shallow, inl (k, u, refl)))))
staged tolerance text f (nodes ts t h more) = inr (h.counted.lexed.bytes, inr (ts, h.counted.lexed.cut, inr (h.counted.few, inr (h.shallow, inr (t, h.derived, inl (more, refl))))))
staged tolerance text f (expression ts t h few more) =
    inr (h.counted.lexed.bytes, inr (ts, h.counted.lexed.cut, inr (h.counted.few, inr (h.shallow, inr (t, h.derived, inr (few, inl (more, refl)))))))
staged tolerance text f (typed ts t e h found) = from_measured tolerance text ts t (shown e) h (inl (e, found, refl))
staged tolerance text f (cycle g c) =
    from_measured tolerance text c.tokens c.tree g c.typed.measured (inr (c.typed.faultless, inl (c.circle, c.circular, c)))
staged tolerance text f (interval ts t numbers lost place h ranges found stands) =
    from_measured tolerance text ts t (range_fault place lost.what) h.typed.measured
    (inr (h.typed.faultless, inr (h.orders, (numbers, ranges, inl (lost, place, found, stands, refl)))))
staged tolerance text f (row ts t numbers lost place h rows found stands) =
    from_measured tolerance text ts t (range_fault place lost.what) h.ordered.typed.measured
    (inr (h.ordered.typed.faultless, inr (h.ordered.orders, (h.numbers, h.ranges, inr (h.fit, (numbers, rows, (lost, place, found, stands, refl)))))))

-- ---- two faults at each stage
same : (text : List ℕ) (f g h : SourceFault) → f ≡ h → g ≡ h → IsSameCause text f g
same text f g h a b = inl (a ∙ sym b)

some_fault : (e d : TypeFault) → Some e ≡ Some d → e ≡ d
some_fault e d h = cc

some_placed : (e d : Placed) → Some e ≡ Some d → e ≡ d
some_placed e d h = cc

unfit_alike : (text : List ℕ) (t : Source) (numbers : List Placed) (f g : SourceFault) → Unfit t numbers f → Unfit t numbers g → IsSameCause text f g
unfit_alike text t numbers f g (c, p, m, x, a) (d, q, n, y, b) =
    let e : d ≡ c = some_placed d c (sym n ∙ m) in
    let z : q ≡ p = one_place (unfolded t).items c.item q p (subst (λ (l : Placed). StandsAt (unfolded t).items l.item q) e y) x in
    same text f g (range_fault p c.what) a (b ∙ ap₂ (λ (r : Place) (l : Placed). range_fault r l.what) z e)

rowed_alike : (tolerance : Number) (text : List ℕ) (t : Source) (f g : SourceFault) → Rowed tolerance t f → Rowed tolerance t g → IsSameCause text f g
rowed_alike tolerance text t f g (xs, x, a) (ys, y, b) = unfit_alike text t xs f g a (subst (λ (zs : List Placed). Unfit t zs g) (same_rows tolerance t ys xs y x) b)

fit_alike : (tolerance : Number) (text : List ℕ) (t : Source) (numbers : List Placed) (f g : SourceFault) → Unfit t numbers f ⊎ ((first_unfit numbers ≡ None) × Rowed tolerance t f) →
    Unfit t numbers g ⊎ ((first_unfit numbers ≡ None) × Rowed tolerance t g) → IsSameCause text f g
fit_alike tolerance text t numbers f g (inl a) (inl b) = unfit_alike text t numbers f g a b
fit_alike tolerance text t numbers f g (inl (c, p, m, x, a)) (inr (n, b)) = let no : Some c ≡ None = sym m ∙ n in absurd (cc)
fit_alike tolerance text t numbers f g (inr (m, a)) (inl (d, q, n, y, b)) = let no : Some d ≡ None = sym n ∙ m in absurd (cc)
fit_alike tolerance text t numbers f g (inr (m, a)) (inr (n, b)) = rowed_alike tolerance text t f g a b

ranged_alike : (tolerance : Number) (text : List ℕ) (t : Source) (f g : SourceFault) → Ranged tolerance t f → Ranged tolerance t g → IsSameCause text f g
ranged_alike tolerance text t f g (xs, x, a) (ys, y, b) =
    fit_alike tolerance text t xs f g a (subst (λ (zs : List Placed). Unfit t zs g ⊎ ((first_unfit zs ≡ None) × Rowed tolerance t g)) (same_ranges t ys xs y x) b)

ordered_alike : (tolerance : Number) (text : List ℕ) (ts : List Token) (t : Source) (f g : SourceFault) → Ordered tolerance text ts t f → Ordered tolerance text ts t g → IsSameCause text f g
ordered_alike tolerance text ts t f g (inl (ns, c, a)) (inl (ms, d, b)) = inr (a, b)
ordered_alike tolerance text ts t f g (inl (ns, c, a)) (inr (none, b)) = absurd (none ns c)
ordered_alike tolerance text ts t f g (inr (none, a)) (inl (ms, d, b)) = absurd (none ms d)
ordered_alike tolerance text ts t f g (inr (n, a)) (inr (m, b)) = ranged_alike tolerance text t f g a b

typed_alike : (tolerance : Number) (text : List ℕ) (ts : List Token) (t : Source) (f g : SourceFault) → Typed tolerance text ts t f → Typed tolerance text ts t g → IsSameCause text f g
typed_alike tolerance text ts t f g (inl (e, m, a)) (inl (d, n, b)) = same text f g (shown e) a (subst (λ x. g ≡ shown x) (some_fault d e (sym n ∙ m)) b)
typed_alike tolerance text ts t f g (inl (e, m, a)) (inr (n, b)) = let no : Some e ≡ None = sym m ∙ n in absurd (cc)
typed_alike tolerance text ts t f g (inr (m, a)) (inl (d, n, b)) = let no : Some d ≡ None = sym n ∙ m in absurd (cc)
typed_alike tolerance text ts t f g (inr (m, a)) (inr (n, b)) = ordered_alike tolerance text ts t f g a b

sized : (tolerance : Number) (text : List ℕ) (ts : List Token) (t : Source) (f g : SourceFault) → Sized tolerance text ts t f → Sized tolerance text ts t g → IsSameCause text f g
sized tolerance text ts t f g (inl (m, a)) (inl (n, b)) = same text f g (over_limit limit.Expression) a b
sized tolerance text ts t f g (inl (m, a)) (inr (n, b)) = absurd (omega arith)
sized tolerance text ts t f g (inr (m, a)) (inl (n, b)) = absurd (omega arith)
sized tolerance text ts t f g (inr (m, a)) (inr (n, b)) = typed_alike tolerance text ts t f g a b

measured : (tolerance : Number) (text : List ℕ) (ts : List Token) (t : Source) (f g : SourceFault) → Measured tolerance text ts t f → Measured tolerance text ts t g → IsSameCause text f g
measured tolerance text ts t f g (inl (m, a)) (inl (n, b)) = same text f g (over_limit limit.Nodes) a b
measured tolerance text ts t f g (inl (m, a)) (inr (n, b)) = absurd (omega arith)
measured tolerance text ts t f g (inr (m, a)) (inl (n, b)) = absurd (omega arith)
measured tolerance text ts t f g (inr (m, a)) (inr (n, b)) = sized tolerance text ts t f g a b

parsed : (tolerance : Number) (text : List ℕ) (ts : List Token) (f g : SourceFault) → AreOnly text → Parsed tolerance text ts f → Parsed tolerance text ts g → IsSameCause text f g
parsed tolerance text ts f g only (inl (k, m, a)) (inl (j, n, b)) =
    same text f g (fault_at number.SYNTAX (place_at text (byte_of text ts k))) a (subst (λ i. g ≡ fault_at number.SYNTAX (place_at text (byte_of text ts i))) (only.stuck ts j k n m) b)
parsed tolerance text ts f g only (inl (k, m, a)) (inr (t, d, b)) = absurd (m.none t d)
parsed tolerance text ts f g only (inr (t, d, a)) (inl (j, n, b)) = absurd (n.none t d)
parsed tolerance text ts f g only (inr (t, d, a)) (inr (s, e, b)) = measured tolerance text ts t f g a (subst (λ x. Measured tolerance text ts x g) (only.tree ts s t e d) b)

nested : (tolerance : Number) (text : List ℕ) (ts : List Token) (f g : SourceFault) → AreOnly text → Nested tolerance text ts f → Nested tolerance text ts g → IsSameCause text f g
nested tolerance text ts f g only (inl (k, m, a)) (inl (j, n, b)) = same text f g (over_limit limit.Nesting) a b
nested tolerance text ts f g only (inl (k, m, a)) (inr (n, b)) = absurd (omega (arith, m.deep, n k m.within))
nested tolerance text ts f g only (inr (m, a)) (inl (j, n, b)) = absurd (omega (arith, n.deep, m j n.within))
nested tolerance text ts f g only (inr (m, a)) (inr (n, b)) = parsed tolerance text ts f g only a b

counted : (tolerance : Number) (text : List ℕ) (ts : List Token) (f g : SourceFault) → AreOnly text → Counted tolerance text ts f → Counted tolerance text ts g → IsSameCause text f g
counted tolerance text ts f g only (inl (m, a)) (inl (n, b)) = same text f g (over_limit limit.Tokens) a b
counted tolerance text ts f g only (inl (m, a)) (inr (n, b)) = absurd (omega arith)
counted tolerance text ts f g only (inr (m, a)) (inl (n, b)) = absurd (omega arith)
counted tolerance text ts f g only (inr (m, a)) (inr (n, b)) = nested tolerance text ts f g only a b

lexed : (tolerance : Number) (text : List ℕ) (f g : SourceFault) → AreOnly text → Lexed tolerance text f → Lexed tolerance text g → IsSameCause text f g
lexed tolerance text f g only (inl (e, m, a)) (inl (d, n, b)) = same text f g (lexical text e) a (subst (λ x. g ≡ lexical text x) (only.fault d e n m) b)
lexed tolerance text f g only (inl (e, m, a)) (inr (ts, n, b)) = absurd (only.apart e ts m n)
lexed tolerance text f g only (inr (ts, m, a)) (inl (d, n, b)) = absurd (only.apart d ts n m)
lexed tolerance text f g only (inr (ts, m, a)) (inr (us, n, b)) = counted tolerance text ts f g only a (subst (λ x. Counted tolerance text x g) (only.cut us ts n m) b)

read : (tolerance : Number) (text : List ℕ) (f g : SourceFault) → AreOnly text → Read tolerance text f → Read tolerance text g → IsSameCause text f g
read tolerance text f g only (inl (m, a)) (inl (n, b)) = same text f g (over_limit limit.Bytes) a b
read tolerance text f g only (inl (m, a)) (inr (n, b)) = absurd (omega arith)
read tolerance text f g only (inr (m, a)) (inl (n, b)) = absurd (omega arith)
read tolerance text f g only (inr (m, a)) (inr (n, b)) = lexed tolerance text f g only a b

pub same_cause : (tolerance : Number) (text : List ℕ) (f g : SourceFault) → AreOnly text → IsCause tolerance text f → IsCause tolerance text g → IsSameCause text f g
same_cause tolerance text f g only a b = read tolerance text f g only (staged tolerance text f a) (staged tolerance text g b)
