-- The JSON values whose text reads as the value again.
use Rattle.std.specs.Prelude.{◌≡◌, ◌<◌, ◌^◌}
use Rattle.serde_json.specs.Data.{Num, unsigned, negative, float, Data, null, boolean, number, string, array, object, Items, no_items, item, Members, no_members, member, put}

-- the members put one after another, as they are read
abbrev pub placed : Members → Members → Members
placed no_members found = found
placed (member k d ms) found = placed ms (put k d found)

-- a whole number of 64 bits
abbrev pub IsShort : Num → Type 0
IsShort (unsigned n) = n < 2 ^ 64
IsShort (negative z) = ⊥
IsShort (float x) = ⊥

-- its numbers are whole ones of 64 bits, and its members stand in the order of their keys
abbrev mutual
  pub IsPlain : Data → Type 0
  IsPlain null = Unit {0}
  IsPlain (boolean b) = Unit {0}
  IsPlain (number n) = IsShort n
  IsPlain (string s) = Unit {0}
  IsPlain (array ds) = ArePlain ds
  IsPlain (object ms) = MembersArePlain ms × (placed ms no_members ≡ ms)

  pub ArePlain : Items → Type 0
  ArePlain no_items = Unit {0}
  ArePlain (item d ds) = IsPlain d × ArePlain ds

  pub MembersArePlain : Members → Type 0
  MembersArePlain no_members = Unit {0}
  MembersArePlain (member k d ms) = IsPlain d × MembersArePlain ms
