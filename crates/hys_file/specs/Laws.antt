-- What holds of all matrix texts.
use Rattle.std.specs.Prelude.{◌≡◌, ℕ, List, [], map, codes}
use Rattle.serde_json.specs.Data.{Data, number, unsigned}
use Rattle.hys_json.specs.Values.{member_in}
use Rattle.hys_lin.specs.declared.form.Row.{Row}
use Rattle.hys_sys.specs.declared.system.System.{System}
use Rattle.hys_sys.specs.System.{IsSystem}
use Rattle.hys_file.specs.declared.fault.FileFault.{FileFault}
use Rattle.hys_file.specs.Texts.{IsValueOf, IsTextOf, IsCause}

-- a text has at most one cause to be refused
abbrev pub HaveOneCause : Type 0
HaveOneCause = (text : List ℕ) (f g : FileFault) → IsCause text f → IsCause text g → f ≡ g

-- a text stands for at most one system
abbrev pub StandForOne : Type 0
StandForOne = (text : List ℕ) (s t : System) → IsTextOf text s → IsTextOf text t → s ≡ t

-- a text that stands for a system has no cause to be refused
abbrev pub NoneIsBoth : Type 0
NoneIsBoth = (text : List ℕ) (s : System) (f : FileFault) → IsTextOf text s → IsCause text f → ⊥

-- the system that a text stands for is lawful
abbrev pub StandForLawful : Type 0
StandForLawful = (text : List ℕ) (s : System) → IsTextOf text s → IsSystem s

-- the text's version is 1
pub record IsOfFirstVersion (text : List ℕ) : Type 0 where
  pub read : Data
  pub value : IsValueOf text read
  pub version : member_in (codes "version") read ≡ number (unsigned 1)

-- the system of a text of version 1 has an empty label for each row
abbrev pub FirstHaveNoLabels : Type 0
FirstHaveNoLabels =
    (text : List ℕ) (s : System) → IsOfFirstVersion text → IsTextOf text s → s.labels ≡ map (λ (r : Row). []) s.rows
