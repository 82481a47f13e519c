-- The texts of answers that are read, and why others are refused.
use Rattle.std.specs.Prelude.{◌≡◌, ℕ, ◌<◌, ◌≤◌, ◌*◌, List, length, codes, Some, None, Result, Ok, Err, ◌⊎◌, IsUtf8}
use Rattle.serde_json.specs.Data.{Data}
use Rattle.serde_json.specs.Read.{read as read_text}
use Rattle.hys_json.specs.Checks.{first_fault}
use Rattle.hys_json.specs.declared.fault.ValueFault.TheVariants as value
use Rattle.hys_file.specs.Texts.{shown_path}
use Rattle.hys_file.specs.declared.fault.FileFault.{FileFault}
use Rattle.hys_file.specs.declared.fault.FileFault.TheVariants as file
use Rattle.hys_tree.specs.Multiplied.{AreMultiplied}
use Rattle.hys_tree.specs.declared.answer.Answer.{Answer}
use Rattle.hys_answer.specs.Reading.{answer_checks, answer_in, most_places}

abbrev pub most_bytes : ℕ
most_bytes = 128 * 1048576

-- the bytes are within the limit and are the text of this JSON value
pub record IsValueOf (text : List ℕ) (d : Data) : Type 0 where
  pub few : length text ≤ most_bytes
  pub utf8 : IsUtf8 text
  pub read : read_text text ≡ Some d

-- the text stands for the answer: nothing is wrong with its value, and the tree is within the limit
pub record IsAnswerText (text : List ℕ) (a : Answer) : Type 0 where
  pub read : Data
  pub value : IsValueOf text read
  pub right : first_fault (answer_checks read) ≡ None
  pub within : length (answer_in read).tree.places ≤ most_places
  pub answer : a ≡ answer_in read

-- why a text is refused, and the one fault that is answered then
pub data IsAnswerCause (text : List ℕ) : FileFault → Type 0 where
  bytes : most_bytes < length text → IsAnswerCause text (file.Limit (codes "bytes"))
  json : length text ≤ most_bytes → ((d : Data) → ¬ (IsValueOf text d)) → IsAnswerCause text file.Json
  shape : (d : Data) (path : List (List ℕ)) → IsValueOf text d → first_fault (answer_checks d) ≡ Some (value.Shape path) →
      IsAnswerCause text (file.Shape (shown_path path))
  number : (d : Data) (path : List (List ℕ)) → IsValueOf text d → first_fault (answer_checks d) ≡ Some (value.Number path) →
      IsAnswerCause text (file.Number (shown_path path))
  places : (d : Data) → IsValueOf text d → first_fault (answer_checks d) ≡ None → most_places < length (answer_in d).tree.places →
      IsAnswerCause text (file.Limit (codes "tree"))

-- memory aside, what is answered: the answer that the text stands for, or a cause to refuse it
abbrev pub IsAnswerRead : List ℕ → Result Answer FileFault → Type 0
IsAnswerRead text (Ok a) = IsAnswerText text a
IsAnswerRead text (Err f) = (f ≡ file.Memory) ⊎ IsAnswerCause text f

-- ---- what is written
-- the answer as far as a text says it: not how many nodes were expanded
abbrev pub unexpanded : Answer → Answer
unexpanded a = record { claim = a.claim; tree = a.tree; expanded = 0 }

-- where rows of multipliers rise and none is 0, nothing is wrong with the value and the answer is what it stands for
abbrev pub StandsFor : Data → Answer → Type 0
StandsFor d a = AreMultiplied a.tree.places → (first_fault (answer_checks d) ≡ None) × (answer_in d ≡ unexpanded a)

-- the same answer, of a tree and a text within the limits, is what the text stands for
abbrev pub ReadsAs : List ℕ → Answer → Type 0
ReadsAs text a =
    AreMultiplied a.tree.places → length a.tree.places ≤ most_places → length text ≤ most_bytes → IsAnswerText text (unexpanded a)
