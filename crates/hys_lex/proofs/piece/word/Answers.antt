use Rattle.std.proofs.Common.{inl}
use Rattle.hys_lex.proofs.Matches.{WordAt, word_at, keyword_match, name_match}
use Rattle.hys_lex.proofs.piece.word.Goals as goal

pub returns-in-Some : goal.returns-in-Some
returns-in-Some c =
    let w : WordAt c.args.text.now c.word_len-len.result = word_at c.args.text.now _ c.requires c.word_len-len.ensures.value in
    (keyword_match c.args.text.now _ _ w c.in-Some.ensures, tt)

pub returns-in-None : goal.returns-in-None
returns-in-None c =
    let w : WordAt c.args.text.now c.word_len-len.result = word_at c.args.text.now _ c.requires c.word_len-len.ensures.value in
    inl (c.word_len-len.result, c.if-len-gt-NAME_LIMIT.true, name_match c.args.text.now _ w c.in-None.ensures)

pub returns-in-None-2 : goal.returns-in-None-2
returns-in-None-2 c =
    let w : WordAt c.args.text.now c.word_len-len.result = word_at c.args.text.now _ c.requires c.word_len-len.ensures.value in
    (name_match c.args.text.now _ w c.in-None-2.ensures, c.if-len-gt-NAME_LIMIT.false)
