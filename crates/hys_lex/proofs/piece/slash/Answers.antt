use Rattle.std.proofs.Common.{arith}
use Rattle.std.proofs.lemmas.List.{get_or_past}
use Rattle.hys_lex.specs.Pieces.{Line, Block}
use Rattle.hys_lex.proofs.Matches.{block_match, line_match, division_match}
use Rattle.hys_lex.proofs.piece.slash.Goals as goal
use Rattle.hys_lex.proofs.piece.slash.Goals.{in-Some, in-None}
use Rattle.hys_lex.proofs.piece.slash.Goals.{else-text-gt1-via-then-text-gt1+else-text-eq42, else-text-gt1-via-else-text-gt1, else-text-gt1-2-via-then-text-gt1-2+else-text-eq47, else-text-gt1-2-via-else-text-gt1-2}

pub returns-then-text-eq42 : goal.returns-then-text-eq42
returns-then-text-eq42 c = elim c.match-block_len.branch [
  | in-Some w ↦ rw w.result-is (Block, tt, block_match c.args.text.now _ (c.requires, c.if-text-eq42.true) w.in-Some.ensures.0 w.in-Some.ensures.1)
  | in-None w ↦ rw w.result-is (record { opens = (c.requires, c.if-text-eq42.true); open_to_end = w.in-None.ensures })
]

pub returns-then-text-eq47 : goal.returns-then-text-eq47
returns-then-text-eq47 c = (Line, tt, line_match c.args.text.now _ c.requires c.if-text-eq47.true c.if-text-gt1-2.true c.line_len.ensures.within c.line_len.ensures.before c.line_len.ensures.stops)

pub returns : goal.returns
returns c = (
  division_match c.args.text.now c.requires
      (λ second. elim c.else-text-gt1.branch [
        | else-text-gt1-via-then-text-gt1+else-text-eq42 w ↦ w.if-text-eq42.false second
        | else-text-gt1-via-else-text-gt1 w ↦ absurd (omega (arith, second, get_or_past c.args.text.now 1 0 w.if-text-gt1.false))
      ])
      (λ second. elim c.else-text-gt1-2.branch [
        | else-text-gt1-2-via-then-text-gt1-2+else-text-eq47 w ↦ w.if-text-eq47.false second
        | else-text-gt1-2-via-else-text-gt1-2 w ↦ absurd (omega (arith, second, get_or_past c.args.text.now 1 0 w.if-text-gt1-2.false))
      ]),
  tt,
)
