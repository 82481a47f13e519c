-- The files that a list of names and bytes stands for: of a name that stands twice the last counts.
use Rattle.std.specs.Prelude.{List, [], ◌∷◌, ℕ, String, Vec, string_bytes}
use Rattle.std.specs.declared.alloc.Global.{Global}
use Rattle.std.specs.FinMap as map
use Rattle.hys_io.specs.Outside.{Named}

-- the files, after these entries are put one after another
abbrev pub with_files : Named → List (String Global × Vec ℕ Global) → Named
with_files m [] = m
with_files m (e ∷ es) = with_files (map.insert m (string_bytes e.0) e.1.items) es

abbrev pub files_of : List (String Global × Vec ℕ Global) → Named
files_of es = with_files map.empty es
