use Rattle.hys_type.proofs.ProgramItems.{translation_program}
use Rattle.hys_type.proofs.laws.translations_are_programs.Goals as goal

pub returns : goal.returns
returns c = λ tolerance s p h r d l. translation_program tolerance s p h r d l
