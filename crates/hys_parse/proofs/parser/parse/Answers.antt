use Rattle.std.proofs.Common.{◌≡◌, Err, sym, ap, ◌∙◌, arith}
use Rattle.hys_ast.specs.Places.{lexemes_of}
use Rattle.hys_ast.specs.Seen.{source_of}
use Rattle.hys_parse.specs.Sections.{whole_at}
use Rattle.hys_parse.proofs.Whole.{whole_sound, whole_only, whole_none, fewer}
use Rattle.hys_parse.proofs.OneFault.{stops_at}
use Rattle.hys_parse.proofs.parser.parse.Goals as goal

pub first_deep-requires : goal.first_deep-requires
first_deep-requires c = let few = fewer c.args.text.now c.args.tokens.now c.spans.ensures.each c.spans.ensures.rising in omega (arith, few, c.requires.small)

pub place-requires : goal.place-requires
place-requires c = let few = fewer c.args.text.now c.args.tokens.now c.spans.ensures.each c.spans.ensures.rising in omega (arith, few, c.requires.small)

pub returns-in-Ok-clause-ok : goal.returns-in-Ok-clause-ok
returns-in-Ok-clause-ok c =
    let same : c.as_slice.result.now ≡ lexemes_of c.args.text.now c.args.tokens.now = c.as_slice.ensures.value ∙ c.in_ok-lexemes.ensures in
    whole_sound (lexemes_of c.args.text.now c.args.tokens.now) (source_of c.in-Ok.source) (ap whole_at (sym same) ∙ c.in-Ok.ensures)

pub returns-in-Ok-clause-only : goal.returns-in-Ok-clause-only
returns-in-Ok-clause-only c = λ tree derived.
    let same : c.as_slice.result.now ≡ lexemes_of c.args.text.now c.args.tokens.now = c.as_slice.ensures.value ∙ c.in_ok-lexemes.ensures in
    whole_only (lexemes_of c.args.text.now c.args.tokens.now) (source_of c.in-Ok.source) tree (ap whole_at (sym same) ∙ c.in-Ok.ensures) derived

pub returns-in-Err-Left-clause-err : goal.returns-in-Err-Left-clause-err
returns-in-Err-Left-clause-err c =
    let lexemes = lexemes_of c.args.text.now c.args.tokens.now in
    let same : c.as_slice.result.now ≡ lexemes_of c.args.text.now c.args.tokens.now = c.as_slice.ensures.value ∙ c.in_ok-lexemes.ensures in
    let failed : whole_at c.as_slice.result.now ≡ Err c.in-Err-Left.left = rw c.in-Err-Left.field-0-is at c.in-Err-Left.ensures in
    let stopped : whole_at lexemes ≡ Err c.in-Err-Left.left = ap whole_at (sym same) ∙ failed in
    stops_at c.args.text.now c.args.tokens.now c.in-Err-Left.left c.place.result c.in_default.ensures stopped c.place.ensures

pub returns-in-Err-Left-clause-accepts : goal.returns-in-Err-Left-clause-accepts
returns-in-Err-Left-clause-accepts c = λ tree derived shallow.
    let same : c.as_slice.result.now ≡ lexemes_of c.args.text.now c.args.tokens.now = c.as_slice.ensures.value ∙ c.in_ok-lexemes.ensures in
    let failed : whole_at c.as_slice.result.now ≡ Err c.in-Err-Left.left = rw c.in-Err-Left.field-0-is at c.in-Err-Left.ensures in
    absurd (whole_none (lexemes_of c.args.text.now c.args.tokens.now) c.in-Err-Left.left tree (ap whole_at (sym same) ∙ failed) derived)
