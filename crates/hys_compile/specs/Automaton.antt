-- The automaton of a source, and what it is for a system to be exact for it.
use Rattle.std.specs.Prelude.{List, map, filter, Bool}
use Rattle.hys_number.specs.Number.{Number}
use Rattle.hys_ast.specs.declared.source.Section.{Section}
use Rattle.hys_ast.specs.Tree.{Source}
use Rattle.hys_meaning.specs.Unfolded.{unfolded}
use Rattle.hys_meaning.specs.Names.{Name, names, is_state, is_input, is_auxiliary, is_output}
use Rattle.hys_meaning.specs.Steps.{Legal}
use Rattle.hys_sys.specs.declared.system.System.{System}
use Rattle.hys_exact.specs.Automata.{kind_of}
use Rattle.hys_sys.specs.Exact.{Automaton, Boxed, Variable, Exact}

abbrev pub boxed_of : Name → Boxed
boxed_of n = record { name = n.text; kind = kind_of n.kind; box = record { low = n.low; high = n.high } }

abbrev pub variable_of : Name → Variable
variable_of n = record { name = n.text; kind = kind_of n.kind }

-- the names in a part
abbrev pub named : (Section → Bool) → Source → List Name
named part s = filter (λ n. part n.section) (names s)

abbrev pub automaton_of : Source → Automaton
automaton_of s = record {
  name = s.system;
  states = map boxed_of (named is_state s);
  inputs = map boxed_of (named is_input s);
  auxiliaries = map variable_of (named is_auxiliary s);
  outputs = map variable_of (named is_output s);
}

-- the system is exact for the automaton of a source in which each guard has a name, whose steps are the legal ones
abbrev pub IsExactNamed : Number → Source → System → Type 0
IsExactNamed tolerance s system = Exact (automaton_of s) (Legal tolerance s) system

-- the system is exact for the source at the tolerance, which counts for each guard that has none of its own
abbrev pub IsExactFor : Number → Source → System → Type 0
IsExactFor tolerance s system = IsExactNamed tolerance (unfolded s) system
