-- What files and a sink in memory keep, and which calls they refuse.
use Rattle.std.specs.Prelude.{ℕ, List, ◌++◌, ◌⊎◌, Bool, if◌then◌else◌, Some, IsNone, Contains, String, Vec, refl}
use Rattle.std.specs.declared.alloc.Global.{Global}
use Rattle.std.specs.Coded.{Coded, code_by, coded×, coded_ℕ, coded_list}
use Rattle.std.specs.FinMap as map
use Rattle.hys_io.specs.Outside.{Named, raised, IfAppended}
use Rattle.hys_io.specs.Entries.{files_of}

-- files, the numbers of the calls that are to fail, the number of the latest call, and the counts of faults
pub record FilesInMemory : Type 0 where
  pub files : Named
  pub failing : List ℕ
  pub calls : ℕ
  pub read_faults : ℕ
  pub put_faults : ℕ

abbrev pub files_code : Coded FilesInMemory
files_code =
    code_by (Named × (List ℕ × (ℕ × (ℕ × ℕ)))) (coded× (map.code (coded_list coded_ℕ) (coded_list coded_ℕ)) (coded× (coded_list coded_ℕ) (coded× coded_ℕ (coded× coded_ℕ coded_ℕ))))
    (λ m. (m.files, (m.failing, (m.calls, (m.read_faults, m.put_faults)))))
    (λ p. record { files = p.0; failing = p.1.0; calls = p.1.1.0; read_faults = p.1.1.1.0; put_faults = p.1.1.1.1 })
    (λ _. refl)

-- what was written, the numbers of the calls that are to fail, the number of the latest call, and the count of faults
pub record SinkInMemory : Type 0 where
  pub written : List ℕ
  pub failing : List ℕ
  pub calls : ℕ
  pub faults : ℕ

-- ---- calls
-- files with these entries, before any call
abbrev pub given_files : List (String Global × Vec ℕ Global) → List ℕ → FilesInMemory
given_files es failing = record { files = files_of es; failing = failing; calls = 0; read_faults = 0; put_faults = 0 }

-- the call is listed to fail, or the name isn't there
abbrev pub IsRefusedRead : FilesInMemory → List ℕ → Type 0
IsRefusedRead m name = Contains m.failing (raised m.calls) ⊎ IsNone (map.get m.files name)

-- after a read that went well, or failed
abbrev pub after_read : Bool → FilesInMemory → FilesInMemory
after_read well m = record m { calls = raised m.calls; read_faults = if well then m.read_faults else raised m.read_faults }

-- after a put
abbrev pub after_put : FilesInMemory → List ℕ → List ℕ → FilesInMemory
after_put m name bytes = record m { files = map.insert m.files name bytes; calls = raised m.calls }

-- after a put that failed
abbrev pub after_failed_put : FilesInMemory → FilesInMemory
after_failed_put m = record m { calls = raised m.calls; put_faults = raised m.put_faults }

-- this piece was appended
abbrev pub Appends : SinkInMemory → SinkInMemory → List ℕ → Type 0
Appends old new piece = IfAppended (Some old.written) (Some new.written) piece

-- after a write
abbrev pub after_write : SinkInMemory → List ℕ → SinkInMemory
after_write s piece = record s { written = s.written ++ piece; calls = raised s.calls }

-- after a write that failed
abbrev pub after_failed_write : SinkInMemory → SinkInMemory
after_failed_write s = record s { calls = raised s.calls; faults = raised s.faults }
