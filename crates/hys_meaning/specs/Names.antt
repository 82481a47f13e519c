-- The declared names of a source, with their boxes and the values of parameters.
use Rattle.std.specs.Prelude.{ℕ, List, [], ◌∷◌, Option, Some, None, Bool, true, false, map, cond}
use Rattle.std.specs.Str.{bytes_eq}
use Rattle.std.specs.List.{find, filter}
use Rattle.hys_number.specs.Number.{Number}
use Rattle.hys_number.specs.Ops.{whole}
use Rattle.hys_ast.specs.declared.source.Section.{Section}
use Rattle.hys_ast.specs.declared.source.Section.TheVariants as section
use Rattle.hys_ast.specs.declared.source.Kind.{Kind}
use Rattle.hys_ast.specs.declared.source.Kind.TheVariants as kind
use Rattle.hys_ast.specs.Tree.{Tree, Decl, Source}
use Rattle.hys_meaning.specs.Values.{Assignment, value, given}

-- A declared name. The box matters for states and inputs, and is 0 to 1 for a Boolean one; the
-- value matters for parameters.
pub record Name : Type 0 where
  pub text : List ℕ
  pub section : Section
  pub kind : Kind
  pub low : Number
  pub high : Number
  pub value : Number

-- ---- the part that a name has
abbrev pub is_state : Section → Bool
is_state section.State = true
is_state section.Input = false
is_state section.Output = false
is_state section.Parameter = false
is_state section.Aux = false
is_state section.Ad = false
is_state section.Da = false
is_state section.Logic = false
is_state section.Linear = false
is_state section.Automata = false
is_state section.Continuous = false
is_state section.OutputItem = false
is_state section.Must = false

abbrev pub is_input : Section → Bool
is_input section.State = false
is_input section.Input = true
is_input section.Output = false
is_input section.Parameter = false
is_input section.Aux = false
is_input section.Ad = false
is_input section.Da = false
is_input section.Logic = false
is_input section.Linear = false
is_input section.Automata = false
is_input section.Continuous = false
is_input section.OutputItem = false
is_input section.Must = false

abbrev pub is_output : Section → Bool
is_output section.State = false
is_output section.Input = false
is_output section.Output = true
is_output section.Parameter = false
is_output section.Aux = false
is_output section.Ad = false
is_output section.Da = false
is_output section.Logic = false
is_output section.Linear = false
is_output section.Automata = false
is_output section.Continuous = false
is_output section.OutputItem = false
is_output section.Must = false

abbrev pub is_parameter : Section → Bool
is_parameter section.State = false
is_parameter section.Input = false
is_parameter section.Output = false
is_parameter section.Parameter = true
is_parameter section.Aux = false
is_parameter section.Ad = false
is_parameter section.Da = false
is_parameter section.Logic = false
is_parameter section.Linear = false
is_parameter section.Automata = false
is_parameter section.Continuous = false
is_parameter section.OutputItem = false
is_parameter section.Must = false

abbrev pub is_auxiliary : Section → Bool
is_auxiliary section.State = false
is_auxiliary section.Input = false
is_auxiliary section.Output = false
is_auxiliary section.Parameter = false
is_auxiliary section.Aux = true
is_auxiliary section.Ad = false
is_auxiliary section.Da = false
is_auxiliary section.Logic = false
is_auxiliary section.Linear = false
is_auxiliary section.Automata = false
is_auxiliary section.Continuous = false
is_auxiliary section.OutputItem = false
is_auxiliary section.Must = false

-- ---- values of parameters
abbrev pub set_to : List ℕ → Number → Assignment → Assignment
set_to n a w m = cond (bytes_eq n m) a (w m)

abbrev pub with_value : Bool → Kind → List ℕ → Option Tree → Assignment → Assignment
with_value true k n (Some e) w = set_to n (given k w e) w
with_value true k n None w = w
with_value false k n e w = w

-- the values of the parameters, each by the values of those that are declared before it
abbrev pub valued : Assignment → List Decl → Assignment
valued w [] = w
valued w (d ∷ ds) = valued (with_value (is_parameter d.section) d.kind d.name d.value w) ds

abbrev pub parameters : List Decl → Assignment
parameters ds = valued (λ n. whole 0) ds

-- ---- the names
-- an end of a declared box
abbrev pub end_of : Kind → Number → Assignment → Option Tree → Number
end_of kind.Bool usual w e = usual
end_of kind.Real usual w (Some e) = value w e
end_of kind.Real usual w None = whole 0

abbrev pub name_of : Assignment → Decl → Name
name_of w d = record {
  text = d.name;
  section = d.section;
  kind = d.kind;
  low = end_of d.kind (whole 0) w d.low;
  high = end_of d.kind (whole 1) w d.high;
  value = w d.name;
}

-- the declared names in order
abbrev pub names : Source → List Name
names s = map (name_of (parameters s.decls)) s.decls

-- the name that is declared with a text
abbrev pub look : List Name → List ℕ → Option Name
look ns n = find (λ m. bytes_eq m.text n) ns

-- the texts of the names in a part
abbrev pub texts : (Section → Bool) → List Name → List (List ℕ)
texts part ns = map (λ n. n.text) (filter (λ n. part n.section) ns)
