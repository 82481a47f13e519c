use Rattle.std.proofs.Common.{◌≡◌, ℕ, List, ◌∙◌, sym, arith, below_more, Bor, true}
use Rattle.std.proofs.lemmas.List.{length-map}
use Rattle.std.proofs.lemmas.Slice.Eq.{bytes_eq-Decides}
use Rattle.hys_lex.proofs.Tables.{read}
use Rattle.hys_lex.proofs.words.place.Goals as goal

pub returns-then-eq : goal.returns-then-eq
returns-then-eq c = (
  omega (arith, length-map c.args.words.now (λ (w : Bor (List ℕ)). w.now)),
  read c.args.words.now c.loop-k.k _ (omega arith) ∙ (bytes_eq-Decides _ c.args.word.now).0 (sym c.eq.ensures ∙ c.if-eq.true),
)

pub loop-k-preserved : goal.loop-k-preserved
loop-k-preserved c =
    below_more _ _ c.loop-k.invariant
    (λ is.
    let yes : c.eq.result ≡ true = c.eq.ensures ∙ (bytes_eq-Decides _ c.args.word.now).1 (sym (read c.args.words.now c.loop-k.k _ (omega arith)) ∙ is) in
    absurd (cc c.if-eq.false))

pub returns : goal.returns
returns c = λ k at. c.loop-k.invariant k (omega (arith, at.0, length-map c.args.words.now (λ (w : Bor (List ℕ)). w.now))) at.1
