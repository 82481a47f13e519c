-- Files by name, sinks, and the counts of their faults.
use Rattle.std.specs.Prelude.{◌≡◌, ℕ, ◌+◌, ◌-◌, ◌^◌, ◌≤◌, ◌⊎◌, ◌↔◌, min, List, ◌++◌, length, take, drop, Option, None, Some}
use Rattle.std.specs.Ordering.{nat_cmp}
use Rattle.std.specs.Cmp.Lexicographic.{slice_cmp}
use Rattle.std.specs.FinMap as map

-- files: from names to bytes
abbrev pub Named : Type 0
Named = map.FinMap (slice_cmp nat_cmp) (List ℕ)

-- a count after one more, which stays at its end
abbrev pub raised : ℕ → ℕ
raised count = min (count + 1) (2 ^ 64 - 1)

-- the count has risen, or stands at its end
abbrev pub Rose : ℕ → ℕ → Type 0
Rose before now = raised before ≤ now

-- a count at its end stays there
abbrev pub Stays : ℕ → ℕ → Type 0
Stays before now = before ≡ 2 ^ 64 - 1 → now ≡ 2 ^ 64 - 1

-- so many bytes of a file, from a place on, are the front of what was read into
pub record ReadsAt (file : List ℕ) (at count : ℕ) (into : List ℕ) : Type 0 where
  pub bytes : take count into ≡ take count (drop at file)
  pub within : count ≤ length file - at
  pub none : (count ≡ 0) ↔ ((length into ≡ 0) ⊎ (length file ≤ at))

-- where the files are told: the name is there, and is read
abbrev pub IfRead : Option Named → List ℕ → ℕ → ℕ → List ℕ → Type 0
IfRead None name at count into = Unit {0}
IfRead (Some files) name at count into = (file : List ℕ) × (map.get files name ≡ Some file) × ReadsAt file at count into

-- where the files are told: the name holds exactly these bytes, and nothing else has changed
abbrev pub IfPut : Option Named → Option Named → List ℕ → List ℕ → Type 0
IfPut None new name bytes = Unit {0}
IfPut (Some files) new name bytes = new ≡ Some (map.insert files name bytes)

-- where the files are told: nothing has changed, or the name alone, which holds a prefix of these bytes
abbrev pub IfTorn : Option Named → Option Named → List ℕ → List ℕ → Type 0
IfTorn None new name bytes = Unit {0}
IfTorn (Some files) new name bytes = (new ≡ Some files) ⊎ ((n : ℕ) × (new ≡ Some (map.insert files name (take n bytes))))

-- where the files are told: the name is there, with bytes of which this holds
abbrev pub IfHolds : Option Named → List ℕ → (List ℕ → Type 0) → Type 0
IfHolds None name P = Unit {0}
IfHolds (Some files) name P = (file : List ℕ) × (map.get files name ≡ Some file) × P file

-- where the text is told: this piece was appended
abbrev pub IfAppended : Option (List ℕ) → Option (List ℕ) → List ℕ → Type 0
IfAppended None new piece = Unit {0}
IfAppended (Some old) new piece = new ≡ Some (old ++ piece)
