use Rattle.hys_ast.specs.Seen.{source_of}
use Rattle.hys_type.specs.Checks.{checks}
use Rattle.hys_compile.proofs.Causes.{by_typing, answered}
use Rattle.hys_compile.proofs.typing.translate.Goals as goal

pub returns-in-Err-clause-err : goal.returns-in-Err-clause-err
returns-in-Err-clause-err c = by_typing c.args.text.now c.args.tokens.now (source_of c.args.source.now) c.in-Err.fault c.show.result c.show.ensures c.requires.measured (answered c.program.result c.in-Err.fault (checks (source_of c.args.source.now)) c.in-Err.is c.program.ensures.fault)
