-- The columns of a program's names, by the places of the names.
use Rattle.std.specs.Prelude.{ℕ, suc, ◌+◌, ◌<◌, ◌^◌, List, [], ◌∷◌}
use Rattle.hys_ast.specs.declared.source.Kind.{Kind}
use Rattle.hys_ast.specs.declared.source.Kind.TheVariants as kind
use Rattle.hys_prog.specs.declared.program.Name.{Name}
use Rattle.hys_prog.specs.declared.program.Program.{Program}
use Rattle.hys_prog.specs.declared.program.Role.{Role}
use Rattle.hys_prog.specs.declared.program.Role.TheVariants.{State, Input, Output, Parameter, Aux}
use Rattle.hys_mld.specs.declared.placing.Free.{Free}

-- the free column that a name of the role and the kind takes; a name without a column has 0 in its place
abbrev pub taken : Role → Kind → Free → ℕ
taken State k s = s.state
taken Input k s = s.input
taken Output k s = 0
taken Parameter k s = 0
taken Aux kind.Real s = s.real
taken Aux kind.Bool s = s.boolean

-- the free columns after such a name
abbrev pub freed : Role → Kind → Free → Free
freed State k s = record { state = suc s.state; input = s.input; boolean = s.boolean; real = s.real }
freed Input k s = record { state = s.state; input = suc s.input; boolean = s.boolean; real = s.real }
freed Output k s = s
freed Parameter k s = s
freed Aux kind.Real s = record { state = s.state; input = s.input; boolean = s.boolean; real = suc s.real }
freed Aux kind.Bool s = record { state = s.state; input = s.input; boolean = suc s.boolean; real = s.real }

abbrev pub after_name : Name → Free → Free
after_name x s = freed x.role x.kind s

-- each name takes the next free column of its sort, in order of declaration
abbrev pub placed_from : Free → List Name → List ℕ
placed_from s [] = []
placed_from s (x ∷ xs) = taken x.role x.kind s ∷ placed_from (after_name x s) xs

abbrev pub after_names : Free → List Name → Free
after_names s [] = s
after_names s (x ∷ xs) = after_names (after_name x s) xs

abbrev pub nowhere : Free
nowhere = record { state = 0; input = 0; boolean = 0; real = 0 }

-- how many names of each sort there are
abbrev pub counts : List Name → Free
counts xs = after_names nowhere xs

-- the columns of states, inputs and Boolean auxiliaries, so many fresh ones, and those of real auxiliaries stand one
-- behind the other
abbrev pub start_of : Free → ℕ → Free
start_of c fresh = record {
  state = 0;
  input = c.state;
  boolean = c.state + c.input;
  real = c.state + c.input + c.boolean + fresh;
}

-- the columns of the names, where there are so many fresh ones
abbrev pub placing_of : Program → ℕ → List ℕ
placing_of p fresh = placed_from (start_of (counts p.names) fresh) p.names

-- each is a number of 32 bits
pub record AreNumbers (s : Free) : Type 0 where
  pub state : s.state < 2 ^ 32
  pub input : s.input < 2 ^ 32
  pub boolean : s.boolean < 2 ^ 32
  pub real : s.real < 2 ^ 32
