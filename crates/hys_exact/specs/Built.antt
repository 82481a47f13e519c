-- Systems that are made of parts that mean the items of a program.
use Rattle.std.specs.Prelude.{◌≡◌, ◌<◌, ◌^◌, ℕ, List, [], ◌∷◌, Bool, cond, length, map}
use Rattle.hys_number.specs.Ops.{whole}
use Rattle.hys_lin.specs.declared.form.Affine.{Affine}
use Rattle.hys_lin.specs.declared.form.Interval.{Interval}
use Rattle.hys_prog.specs.declared.program.Name.{Name}
use Rattle.hys_prog.specs.declared.program.ProgItem.{ProgItem}
use Rattle.hys_prog.specs.declared.program.Program.{Program}
use Rattle.hys_prog.specs.declared.program.Order.{Order}
use Rattle.hys_prog.specs.Programs.{is_named, IsProgram}
use Rattle.hys_prog.specs.Orders.{IsOrder}
use Rattle.hys_prog.specs.Steps.{places, is_state, is_output}
use Rattle.hys_sys.specs.declared.system.Output.{Output}
use Rattle.hys_sys.specs.declared.system.System.{System}
use Rattle.hys_sys.specs.Exact.{Exact}
use Rattle.hys_sys.specs.System.{IsSystem}
use Rattle.hys_bound.specs.Ranges.{intervals}
use Rattle.hys_exact.specs.Sound.{AreSound}
use Rattle.hys_exact.specs.Automata.{kind_of, automaton_of, LegalSteps}
use Rattle.hys_exact.specs.Columns.{IsPlacing, columns_of, front, of_each}
use Rattle.hys_exact.specs.Parts.{Part, AreParts, rows_of, count_of, forms_of}
use Rattle.hys_exact.specs.Labels.{labels_of}

-- the form of the first item that defines the name; where none does a form without terms
abbrev pub form_for : List ProgItem → List Affine → ℕ → Affine
form_for [] fs n = record { terms = []; constant = whole 0 }
form_for (t ∷ ts) [] n = record { terms = []; constant = whole 0 }
form_for (t ∷ ts) (f ∷ fs) n = cond (is_named n t.name) f (form_for ts fs n)

abbrev pub is_output_name : Name → Bool
is_output_name x = is_output x.role

abbrev pub output_with : List ProgItem → List Affine → ℕ → Name → Output
output_with items forms n x = record { name = x.text; kind = kind_of x.kind; form = form_for items forms n }

-- The system has the program's name and columns, with these intervals of its names; its rows are those of the parts,
-- and the forms of next values and outputs are those of the items that define them.
pub record IsBuilt (p : Program) (boxes : List Interval) (S : System) : Type 0 where
  pub parts : List Part
  pub place : List ℕ
  pub placing : IsPlacing p (count_of parts) place
  pub mean : AreParts p.names boxes place (length (front p)) p.items parts
  pub name : S.name ≡ p.system
  pub columns : S.columns ≡ columns_of p boxes (count_of parts)
  pub rows : S.rows ≡ rows_of parts
  pub labels : S.labels ≡ labels_of p.names p.items parts
  pub next : S.next ≡ map (form_for p.items (forms_of parts)) (places is_state p)
  pub outputs : S.outputs ≡ of_each is_output_name (output_with p.items (forms_of parts)) 0 p.names

-- made of parts that mean the items of the program, over its intervals
abbrev pub IsBuiltAlong : Program → Order → System → Type 0
IsBuiltAlong p o S = IsBuilt p (intervals p o) S

-- exact for the legal steps of the program
abbrev pub IsExactForProgram : Program → System → Type 0
IsExactForProgram p S = Exact (automaton_of p) (LegalSteps p) S

-- exact, where it is made of such parts
abbrev pub IsExactWhereBuilt : Program → Order → System → Type 0
IsExactWhereBuilt p o S = IsBuiltAlong p o S → IsExactForProgram p S

-- lawful, where the program is, each part is sound and the weight is the program's
abbrev pub IsLawfulWhereSound : Program → Order → System → List Part → Type 0
IsLawfulWhereSound p o S parts =
    IsProgram p → IsOrder p o → AreSound (length S.columns) p.items parts → S.weight ≡ p.weight → p.weight < 2 ^ 32 → IsSystem S
