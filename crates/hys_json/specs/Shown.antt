-- How fractions are shown in JSON values.
use Rattle.std.specs.Prelude.{ℕ, List, map}
use Rattle.serde_json.specs.View.{items_of}
use Rattle.serde_json.specs.Written.{compact_text}
use Rattle.serde_json.specs.Data.{Data, number, unsigned, string, array, no_items, item}
use Rattle.hys_number.specs.Number.{Number}
use Rattle.hys_frac.specs.Written.{number_text}

-- a fraction is a string
abbrev pub fraction_data : Number → Data
fraction_data a = string (number_text a)

-- a column or a row and its fraction are a list of two
abbrev pub pair_data : ℕ → Number → Data
pair_data n a = array (item (number (unsigned n)) (item (fraction_data a) no_items))

-- the text of a list of items
abbrev pub list_text : {A : Type 0} → (A → Data) → List A → List ℕ
list_text shown items = compact_text (array (items_of (map shown items)))
