-- The records that a reader of a table has left.
use Rattle.std.specs.Prelude.{◌≡◌, ℕ, ◌+◌, List, [], ◌∷◌, Option, Some, Bool, true, false, length, unwrap_or}
use Rattle.csv.specs.Reading.{Ready, default_config, reader_config, reader_state, reader_trim, records_from, source_of}
use Rattle.csv.specs.declared.parser.State.{State}
use Rattle.csv.specs.declared.reader.Reader.{Reader}
use Rattle.csv.specs.declared.reader.Trim.TheVariants as trim

-- the records of a text from a state on
abbrev pub records_after : State → List ℕ → List (List (List ℕ))
records_after s text = records_from default_config (length text + 1) s text

-- those that the reader has left
abbrev pub records_left : {R : Type 0} → (R → Option (List ℕ)) → Reader R → List (List (List ℕ))
records_left rem r = records_after (reader_state r) (unwrap_or (source_of rem r) [])

-- the reader reads records by the default settings from bytes that are known
pub record IsReading {R : Type 0} (rem : R → Option (List ℕ)) (r : Reader R) : Type 0 where
  pub trim : reader_trim r ≡ trim.None
  pub ready : Ready r
  pub config : reader_config r ≡ default_config
  pub text : List ℕ
  pub source : source_of rem r ≡ Some text

-- the record is the first of those that were left, or none was
abbrev pub IsNext : Bool → List (List ℕ) → List (List (List ℕ)) → List (List (List ℕ)) → Type 0
IsNext true fields before after = before ≡ fields ∷ after
IsNext false fields before after = before ≡ []
