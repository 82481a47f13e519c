-- The forms of next values and outputs, by the places of the items that define them.
use Rattle.std.specs.Prelude.{◌≡◌, ℕ, ◌<◌, List, length, true}
use Rattle.std.proofs.Common.{get_or}
use Rattle.hys_lin.specs.declared.form.Affine.{Affine}
use Rattle.hys_prog.specs.declared.program.Name.{Name}
use Rattle.hys_prog.specs.Programs.{NameAt, is_defined}
use Rattle.hys_sys.specs.declared.system.Output.{Output}
use Rattle.hys_exact.specs.Automata.{kind_of}
use Rattle.hys_rows.specs.Parts.{no_form}

-- the form of the item whose place the list has for the name
abbrev pub form_at : List ℕ → List Affine → ℕ → Affine
form_at places forms n = get_or forms (get_or places n 0) no_form

abbrev pub output_at : List ℕ → List Affine → ℕ → Name → Output
output_at places forms n x = record { name = x.text; kind = kind_of x.kind; form = form_at places forms n }

-- each name that is defined has a form
pub record HaveForms (names : List Name) (places : List ℕ) (forms : List Affine) : Type 0 where
  pub long : length places ≡ length names
  pub within : (n : ℕ) → NameAt names n (λ x. is_defined x.role ≡ true) → get_or places n 0 < length forms
