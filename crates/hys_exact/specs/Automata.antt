-- The automaton of a program, and its legal steps by the texts of names.
use Rattle.std.specs.Prelude.{List, map, filter, Bool}
use Rattle.hys_lin.specs.Sums.{Assignment, at}
use Rattle.hys_ast.specs.declared.source.Kind.{Kind}
use Rattle.hys_ast.specs.declared.source.Kind.TheVariants as source
use Rattle.hys_prog.specs.declared.program.Role.{Role}
use Rattle.hys_prog.specs.declared.program.Name.{Name}
use Rattle.hys_prog.specs.declared.program.Program.{Program}
use Rattle.hys_prog.specs.Steps.{Legal, is_state, is_input, is_auxiliary, is_output}
use Rattle.hys_sys.specs.declared.system.Kind2.{Kind2}
use Rattle.hys_sys.specs.declared.system.Kind2.TheVariants as kind
use Rattle.hys_sys.specs.Exact.{Automaton, Boxed, Variable, Named, Steps}

abbrev pub kind_of : Kind → Kind2
kind_of source.Real = kind.Real
kind_of source.Bool = kind.Bool

-- a state or an input with its box
abbrev pub boxed_of : Name → Boxed
boxed_of x = record { name = x.text; kind = kind_of x.kind; box = x.bounds }

abbrev pub variable_of : Name → Variable
variable_of x = record { name = x.text; kind = kind_of x.kind }

-- the names with a role of the part, in order of declaration
abbrev pub named : (Role → Bool) → Program → List Name
named part p = filter (λ x. part x.role) p.names

-- the auxiliaries of guards that have no name in the source are among the program's names
abbrev pub automaton_of : Program → Automaton
automaton_of p = record {
  name = p.system;
  states = map boxed_of (named is_state p);
  inputs = map boxed_of (named is_input p);
  auxiliaries = map variable_of (named is_auxiliary p);
  outputs = map variable_of (named is_output p);
}

-- at the place of a name stands the number of its text
abbrev pub by_places : List Name → Named → Assignment
by_places names w = at (map (λ (x : Name). w x.text) names)

-- the legal steps over numbers for texts
abbrev pub LegalSteps : Program → Steps
LegalSteps p x u w x' y = Legal p x u (by_places p.names w) x' y
