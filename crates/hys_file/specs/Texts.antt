-- The matrix texts that are read, and why others are refused.
use Rattle.std.specs.Prelude.{◌≡◌, ℕ, ◌<◌, ◌≤◌, ◌*◌, List, [], ◌∷◌, ◌++◌, length, codes, Some, None, Result, Ok, Err, ◌⊎◌, IsUtf8}
use Rattle.serde_json.specs.Data.{Data}
use Rattle.serde_json.specs.Read.{read as read_text}
use Rattle.hys_json.specs.Checks.{first_fault}
use Rattle.hys_json.specs.declared.fault.ValueFault.{ValueFault}
use Rattle.hys_json.specs.declared.fault.ValueFault.TheVariants as value
use Rattle.hys_sys.specs.declared.system.System.{System}
use Rattle.hys_sys.specs.System.{IsSystem}
use Rattle.hys_file.specs.Reading.{matrix_checks, system_in, most_weight, limit_of}
use Rattle.hys_file.specs.declared.fault.FileFault.{FileFault}
use Rattle.hys_file.specs.declared.fault.FileFault.TheVariants as file

abbrev pub most_bytes : ℕ
most_bytes = 64 * 1048576

-- the keys and places joined by points; `root` where the value itself is wrong
abbrev pub pointed : List (List ℕ) → List ℕ
pointed [] = []
pointed (key ∷ keys) = (codes "." ++ key) ++ pointed keys

abbrev pub shown_path : List (List ℕ) → List ℕ
shown_path [] = codes "root"
shown_path (key ∷ keys) = key ++ pointed keys

-- the fault of a value is shown as that of its file
abbrev pub IsShownAs : ValueFault → FileFault → Type 0
IsShownAs (value.Shape path) f = f ≡ file.Shape (shown_path path)
IsShownAs (value.Number path) f = f ≡ file.Number (shown_path path)
IsShownAs value.Memory f = f ≡ file.Memory

-- the bytes are within the limit and are the text of this JSON value
pub record IsValueOf (text : List ℕ) (d : Data) : Type 0 where
  pub few : length text ≤ most_bytes
  pub utf8 : IsUtf8 text
  pub read : read_text text ≡ Some d

-- the text stands for the system: nothing is wrong with its value, and the system is within the limits
pub record IsTextOf (text : List ℕ) (s : System) : Type 0 where
  pub read : Data
  pub value : IsValueOf text read
  pub right : first_fault (matrix_checks read) ≡ None
  pub within : limit_of (system_in read) ≡ None
  pub system : s ≡ system_in read

-- why a text is refused, and the one fault that is answered then
pub data IsCause (text : List ℕ) : FileFault → Type 0 where
  bytes : most_bytes < length text → IsCause text (file.Limit (codes "bytes"))
  json : length text ≤ most_bytes → ((d : Data) → ¬ (IsValueOf text d)) → IsCause text file.Json
  shape : (d : Data) (path : List (List ℕ)) → IsValueOf text d → first_fault (matrix_checks d) ≡ Some (value.Shape path) → IsCause text (file.Shape (shown_path path))
  number : (d : Data) (path : List (List ℕ)) → IsValueOf text d → first_fault (matrix_checks d) ≡ Some (value.Number path) → IsCause text (file.Number (shown_path path))
  limit : (d : Data) (what : List ℕ) → IsValueOf text d → first_fault (matrix_checks d) ≡ None → limit_of (system_in d) ≡ Some what → IsCause text (file.Limit what)

-- memory aside, what is answered: the system that the text stands for, or a cause to refuse it
abbrev pub IsRead : List ℕ → Result System FileFault → Type 0
IsRead text (Ok s) = IsTextOf text s
IsRead text (Err f) = (f ≡ file.Memory) ⊎ IsCause text f

-- a lawful system within the limits is what the text stands for
abbrev pub ReadsAs : List ℕ → System → Type 0
ReadsAs text s = IsSystem s → s.weight ≤ most_weight → length text ≤ most_bytes → IsTextOf text s
