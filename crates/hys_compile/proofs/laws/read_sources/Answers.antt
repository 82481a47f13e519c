use Rattle.hys_compile.proofs.Readable.{cut_literals, cut_declarations, cut_written}
use Rattle.hys_compile.proofs.laws.read_sources.Goals as goal

pub returns-clause-literals : goal.returns-clause-literals
returns-clause-literals c = cut_literals

pub returns-clause-declarations : goal.returns-clause-declarations
returns-clause-declarations c = cut_declarations

pub returns-clause-written : goal.returns-clause-written
returns-clause-written c = cut_written
