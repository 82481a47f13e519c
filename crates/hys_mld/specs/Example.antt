-- Names of which a real auxiliary is declared before a state and a Boolean auxiliary.
use Rattle.std.specs.Prelude.{List, [], ◌∷◌, codes}
use Rattle.hys_number.specs.Ops.{whole}
use Rattle.hys_prog.specs.declared.program.Name.{Name}
use Rattle.hys_prog.specs.declared.program.Role.TheVariants.{Aux}
use Rattle.hys_prog.specs.Example.{real_name}
use Rattle.hys_prog.specs.Guarded.{d_name, x_name}

abbrev pub three : List Name
three = real_name (codes "z") Aux (whole 0) ∷ x_name ∷ d_name ∷ []
