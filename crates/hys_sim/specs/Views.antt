-- What lists of references, records and readers of tables stand for.
use Rattle.std.specs.Prelude.{ℕ, List, [], Some, map, drop, get_or}
use denote.Ref.{Bor}
use Rattle.csv.specs.Records.{Row, fields_of}
use Rattle.csv.specs.declared.reader.Reader.{Reader}
use Rattle.hys_sim.specs.Fields.{stripped}
use Rattle.hys_sim.specs.Recorded.{records_left}

-- what the references of a list point to
abbrev pub lent : {X : Type 0} → List (Bor X) → List X
lent xs = map (λ x. x.now) xs

-- ---- records
-- the field at the place, without the blanks round it, and empty where there is none
abbrev pub field_in : Row → ℕ → List ℕ
field_in r place = stripped (get_or (fields_of r) place [])

-- the fields of a header, stripped
abbrev pub header_fields : Row → List (List ℕ)
header_fields r = map stripped (fields_of r)

-- those after the first
abbrev pub header_columns : Row → List (List ℕ)
header_columns r = drop 1 (header_fields r)

-- ---- readers
-- the records that a reader of bytes has left
abbrev pub left_in : Reader (Bor (List ℕ)) → List (List (List ℕ))
left_in r = records_left (λ s. Some s.now) r
