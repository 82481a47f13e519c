-- The readings of JSON values: texts, fractions, whole numbers, lists, closed objects.
use Rattle.std.specs.Prelude.{◌≡◌, ℕ, suc, ◌^◌, map, String, Vec, List, [], ◌∷◌, ◌++◌, Option, Some, None, is_some, Bool, true, false, cond, nat_lt, Result, Ok, Err}
use denote.Ref.{Bor}
use Rattle.std.specs.declared.alloc.Global.{Global}
use Rattle.std.specs.Fmt.{decimal}
use Rattle.std.specs.Str.{bytes_eq}
use Rattle.serde_json.specs.Data.{Data, null, boolean, number as numeral, string, array, object, unsigned, negative, float, Items, no_items, item, Members, no_members, member}
use Rattle.serde_json.specs.declared.value.Value.{Value}
use Rattle.serde_json.specs.View.{members_view}
use Rattle.serde_json.specs.Find.{get, as_str, as_array, as_object}
use Rattle.hys_number.specs.Number.{Number}
use Rattle.hys_number.specs.Ops.{whole}
use Rattle.hys_frac.specs.Read.{reading}
use Rattle.hys_frac.specs.declared.read.FracFault.{FracFault}
use Rattle.hys_json.specs.Checks.{Check, shape, number, under, deeper_check}

-- ---- texts and words
abbrev pub text_by : Option (List ℕ) → List ℕ
text_by None = []
text_by (Some text) = text

abbrev pub text_in : Data → List ℕ
text_in d = text_by (as_str d)

abbrev pub is_text : Data → Bool
is_text d = is_some (as_str d)

abbrev pub text_checks : Data → List Check
text_checks d = shape (is_text d) ∷ []

abbrev pub is_word_by : List ℕ → Option (List ℕ) → Bool
is_word_by word None = false
is_word_by word (Some text) = bytes_eq text word

-- the string is this word
abbrev pub word_checks : List ℕ → Data → List Check
word_checks word d = shape (is_word_by word (as_str d)) ∷ []

-- ---- fractions: strings that are number texts
abbrev pub fits_by : Result Number FracFault → Bool
fits_by (Ok a) = true
fits_by (Err e) = false

abbrev pub fraction_by : Result Number FracFault → Number
fraction_by (Ok a) = a
fraction_by (Err e) = whole 0

abbrev pub fraction_in : Data → Number
fraction_in d = fraction_by (reading (text_in d))

abbrev pub fraction_checks : Data → List Check
fraction_checks d = shape (is_text d) ∷ number (fits_by (reading (text_in d))) ∷ []

-- ---- whole numbers: JSON numbers in digits alone, below 2^32
abbrev pub whole_by : Data → Option ℕ
whole_by null = None
whole_by (boolean b) = None
whole_by (numeral (unsigned n)) = cond (nat_lt n (2 ^ 32)) (Some n) None
whole_by (numeral (negative z)) = None
whole_by (numeral (float x)) = None
whole_by (string s) = None
whole_by (array ds) = None
whole_by (object ms) = None

abbrev pub or_zero : Option ℕ → ℕ
or_zero None = 0
or_zero (Some n) = n

abbrev pub whole_in : Data → ℕ
whole_in d = or_zero (whole_by d)

abbrev pub whole_checks : Data → List Check
whole_checks d = shape (is_some (whole_by d)) ∷ []

-- ---- lists
abbrev pub list_of : Items → List Data
list_of no_items = []
list_of (item d ds) = d ∷ list_of ds

abbrev pub items_by : Option Items → List Data
items_by None = []
items_by (Some ds) = list_of ds

abbrev pub items_in : Data → List Data
items_in d = items_by (as_array d)

abbrev pub is_list : Data → Bool
is_list d = is_some (as_array d)

-- The checks of the items from place k on, one after the other. What is asked of an item may turn on what those
-- before it were, which the state keeps.
abbrev pub each_from : {S : Type 0} → (S → Data → List Check) → (S → Data → S) → ℕ → S → List Data → List Check
each_from asked after k s [] = []
each_from asked after k s (d ∷ ds) = under (decimal k) (asked s d) ++ each_from asked after (suc k) (after s d) ds

-- the checks of a list and of its items
unfoldable pub list_checks : {S : Type 0} → (S → Data → List Check) → (S → Data → S) → S → Data → List Check
list_checks asked after s d = shape (is_list d) ∷ each_from asked after 0 s (items_in d)

-- ---- closed objects
abbrev pub keys_of : Members → List (List ℕ)
keys_of no_members = []
keys_of (member key d ms) = key ∷ keys_of ms

abbrev pub keys_by : Option Members → List (List ℕ)
keys_by None = []
keys_by (Some ms) = keys_of ms

-- the keys that a value has, in byte order
abbrev pub keys_in : Data → List (List ℕ)
keys_in d = keys_by (as_object d)

abbrev pub is_object : Data → Bool
is_object d = is_some (as_object d)

abbrev pub has : List ℕ → Data → Bool
has key d = is_some (get key d)

abbrev pub or_null : Option Data → Data
or_null None = null
or_null (Some d) = d

-- what stands under the key
abbrev pub member_in : List ℕ → Data → Data
member_in key d = or_null (get key d)

abbrev pub is_one_of : List (List ℕ) → List ℕ → Bool
is_one_of [] key = false
is_one_of (k ∷ keys) key = cond (bytes_eq k key) true (is_one_of keys key)

abbrev pub missing_checks : List (List ℕ) → Data → List Check
missing_checks [] d = []
missing_checks (key ∷ keys) d = deeper_check key (shape (has key d)) ∷ missing_checks keys d

abbrev pub unknown_checks : List (List ℕ) → List (List ℕ) → List Check
unknown_checks known [] = []
unknown_checks known (key ∷ keys) = deeper_check key (shape (is_one_of known key)) ∷ unknown_checks known keys

-- an object that has each of the keys, which are given in byte order, and no other
unfoldable pub closed_checks : List (List ℕ) → Data → List Check
closed_checks keys d = shape (is_object d) ∷ (missing_checks keys d ++ unknown_checks keys (keys_in d))

-- each item of a list as what it stands for
abbrev pub AreRead : {A : Type 0} → (Data → A) → Data → Vec A Global → Type 0
AreRead meant d xs = xs.items ≡ map meant (items_in d)

-- the keys that are borrowed
abbrev pub lent_keys : List (Bor (List ℕ)) → List (List ℕ)
lent_keys keys = map (λ k. k.now) keys

-- the keys of an object's entries
abbrev pub entry_keys : List (String Global × Value) → List (List ℕ)
entry_keys entries = keys_of (members_view entries)
