use Rattle.std.proofs.Common.{refl}
use Rattle.std.specs.Fmt.{digits}
use Rattle.hys_gen.specs.Tanks.{item_text, name_text, section_text, sections_text, interface, implementation}
use Rattle.hys_gen.specs.Tanks.{interface_text, implementation_text, tanks_text}
use Rattle.hys_gen.proofs.laws.worked_sources.Goals as goal

pub returns-clause-one : goal.returns-clause-one
unfolding item_text name_text section_text sections_text interface implementation interface_text implementation_text tanks_text digits
returns-clause-one c = refl

pub returns-clause-two : goal.returns-clause-two
unfolding item_text name_text section_text sections_text interface implementation interface_text implementation_text tanks_text digits
returns-clause-two c = refl
