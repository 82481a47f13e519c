-- What a JSON value says of a request for a system: the first thing that is wrong, in the order in which it is looked
-- for, and the request that the value stands for.
use Rattle.std.specs.Prelude.{◌≡◌, ℕ, ◌*◌, List, [], ◌∷◌, ◌++◌, Option, Some, None, is_some, Bool, true, false, not, ◌&&◌, ◌||◌, map, filter, cond, codes, nat_lt, ◌⊎◌, Result, Ok, Err}
use Rattle.std.specs.Borrow.{Bor}
use Rattle.std.specs.declared.cmp.Ordering.{Ordering}
use Rattle.std.specs.declared.cmp.Ordering.TheVariants.{Less, Equal, Greater}
use Rattle.serde_json.specs.Data.{Data, Members, no_members, member}
use Rattle.serde_json.specs.Find.{get, as_str, as_object}
use Rattle.hys_number.specs.Number.{Number}
use Rattle.hys_number.specs.Ops.{whole}
use Rattle.hys_frac.specs.Compare.{number_cmp}
use Rattle.hys_frac.specs.Read.{reading}
use Rattle.hys_json.specs.Values.{text_in, is_text, is_word_by, fraction_in, fits_by, whole_by, whole_in, keys_of, has, member_in, is_one_of}
use Rattle.hys_sys.specs.declared.system.Kind2.{Kind2}
use Rattle.hys_sys.specs.declared.system.Kind2.TheVariants as kind
use Rattle.hys_sys.specs.declared.system.Column.{Column}
use Rattle.hys_sys.specs.declared.system.Output.{Output}
use Rattle.hys_sys.specs.declared.system.System.{System}
use Rattle.hys_stack.specs.Requests.{state_columns, is_fresh, most_steps, most_nodes, most_stacked, most_work}
use Rattle.hys_stack.specs.declared.request.Pick.{Pick}
use Rattle.hys_stack.specs.declared.request.Pick.TheVariants.{Bound, Depth}
use Rattle.hys_stack.specs.declared.request.Request.{Request}
use Rattle.hys_stack.specs.declared.reader.Front.{Front}
use Rattle.hys_stack.specs.declared.reader.Search.{Search}
use Rattle.hys_stack.specs.declared.reader.Back.{Back}
use Rattle.hys_stack.specs.declared.fault.RequestFault.{RequestFault}
use Rattle.hys_stack.specs.declared.fault.RequestFault.TheVariants as fault

-- ---- the first thing that is wrong
-- the first of the two, if there is one
unfoldable pub or_else : Option RequestFault → Option RequestFault → Option RequestFault
or_else None p = p
or_else (Some f) p = Some f

-- memory aside, a fault that is answered is this one
abbrev pub Refuses : Option RequestFault → RequestFault → Type 0
Refuses o f = (f ≡ fault.Memory) ⊎ (o ≡ Some f)

-- memory aside, what is answered: this fault, or where there is none what is said
abbrev pub Answers : {T : Type 0} → Option RequestFault → (T → Type 0) → Result T RequestFault → Type 0
Answers o Is (Ok x) = (o ≡ None) × Is x
Answers o Is (Err f) = Refuses o f

-- the same where nothing is said besides the fault
abbrev pub AnswersFault : {T : Type 0} → Option RequestFault → Result T RequestFault → Type 0
AnswersFault o r = Answers o (λ _. Unit {0}) r

-- a rule that holds, or its fault
abbrev pub unless : Bool → RequestFault → Option RequestFault
unless holds f = cond holds None (Some f)

-- ---- paths: the empty one is that of the root, which is shown as `root`
abbrev pub own_path : List ℕ → List ℕ
own_path [] = codes "root"
own_path (b ∷ bs) = b ∷ bs

abbrev pub path_to : List ℕ → List ℕ → List ℕ
path_to [] key = key
path_to (b ∷ bs) key = (b ∷ bs) ++ codes "." ++ key

-- ---- members
-- the keys of an object with their values, in byte order of the keys
abbrev pub pairs_of : Members → List (List ℕ × Data)
pairs_of no_members = []
pairs_of (member key d ms) = (key, d) ∷ pairs_of ms

-- the first key that isn't required is missing, or isn't known
abbrev pub missing_fault : List ℕ → List (List ℕ) → Data → Option RequestFault
missing_fault path [] d = None
missing_fault path (key ∷ keys) d = cond (has key d) (missing_fault path keys d) (Some (fault.Shape (path_to path key)))

abbrev pub unknown_fault : List ℕ → List (List ℕ) → List (List ℕ) → Option RequestFault
unknown_fault path known [] = None
unknown_fault path known (key ∷ keys) = cond (is_one_of known key) (unknown_fault path known keys) (Some (fault.Shape (path_to path key)))

-- ---- whole numbers and words
unfoldable pub whole_fault : List ℕ → Data → Option RequestFault
whole_fault path d = unless (is_some (whole_by d)) (fault.Shape (own_path path))

abbrev pub has_word : List ℕ → Data → Bool
has_word word d = is_word_by word (as_str d)

unfoldable pub pick_fault : List ℕ → Data → Option RequestFault
pick_fault path d = unless (has_word (codes "bound") d || has_word (codes "depth") d) (fault.Shape (own_path path))

abbrev pub pick_in : Data → Pick
pick_in d = cond (has_word (codes "bound") d) Bound Depth

-- ---- objects from names to fractions: first each shape, then each number, then the names
abbrev pub shape_fault : List ℕ → List (List ℕ × Data) → Option RequestFault
shape_fault path [] = None
shape_fault path (p ∷ ps) = cond (is_text p.1) (shape_fault path ps) (Some (fault.Shape (path_to path p.0)))

abbrev pub number_fault : List ℕ → List (List ℕ × Data) → Option RequestFault
number_fault path [] = None
number_fault path (p ∷ ps) = cond (fits_by (reading (text_in p.1))) (number_fault path ps) (Some (fault.Number (path_to path p.0)))

-- the names that a list of references holds
abbrev pub names_in : List (Bor (List ℕ)) → List (List ℕ)
names_in names = map (λ k. k.now) names

-- the first key that is none of these names
abbrev pub name_fault : List (List ℕ) → List (List ℕ) → Option RequestFault
name_fault names [] = None
name_fault names (key ∷ keys) = cond (is_one_of names key) (name_fault names keys) (Some (fault.Name key))

-- of an object's members
unfoldable pub members_fault : List ℕ → List (List ℕ) → Members → Option RequestFault
members_fault path names ms =
    or_else (shape_fault path (pairs_of ms)) (or_else (number_fault path (pairs_of ms)) (name_fault names (keys_of ms)))

abbrev pub named_by : List ℕ → List (List ℕ) → Option Members → Option RequestFault
named_by path names None = Some (fault.Shape (own_path path))
named_by path names (Some ms) = members_fault path names ms

-- of an object from some of the names to fractions
unfoldable pub named_fault : List ℕ → List (List ℕ) → Data → Option RequestFault
named_fault path names d = named_by path names (as_object d)

-- the number under a name, 0 where there is none
abbrev pub weight_by : Option Data → Number
weight_by None = whole 0
weight_by (Some d) = fraction_in d

abbrev pub weight_in : Data → List ℕ → Number
weight_in d name = weight_by (get name d)

abbrev pub column_name : Column → List ℕ
column_name c = c.name

abbrev pub output_name : Output → List ℕ
output_name o = o.name

abbrev pub state_names : System → List (List ℕ)
state_names S = map column_name (state_columns S.columns)

-- ---- the weights after the last step
abbrev pub final_in : System → Data → List Number
final_in S d = map (weight_in d) (state_names S)

-- the weights are those that the value gives
abbrev pub IsFinalIn : System → Data → List Number → Type 0
IsFinalIn S d ws = ws ≡ final_in S d

unfoldable pub final_fault : List ℕ → System → Data → Option RequestFault
final_fault path S d = named_fault path (state_names S) d

-- ---- the weights of a step: those of the columns, of which fresh ones have none, and those of the outputs
abbrev pub isnt_fresh : List ℕ → Bool
isnt_fresh name = not (is_fresh name)

-- the names of the columns that aren't fresh
abbrev pub own_names : List Column → List (List ℕ)
own_names cs = filter isnt_fresh (map column_name cs)

abbrev pub step_names : System → List (List ℕ)
step_names S = own_names S.columns ++ map output_name S.outputs

abbrev pub column_weight : Data → Column → Number
column_weight d c = cond (is_fresh c.name) (whole 0) (weight_in d c.name)

abbrev pub output_weight : Data → Output → Number
output_weight d o = weight_in d o.name

abbrev pub step_in : System → Data → List Number × List Number
step_in S d = (map (column_weight d) S.columns, map (output_weight d) S.outputs)

-- the weights are those that the value gives
abbrev pub IsStepIn : System → Data → List Number × List Number → Type 0
IsStepIn S d ws = ws ≡ step_in S d

unfoldable pub step_fault : List ℕ → System → Data → Option RequestFault
step_fault path S d = named_fault path (step_names S) d

-- ---- the start
abbrev pub start_in : System → Data → List Number
start_in S d = map (weight_in d) (state_names S)

-- the numbers are those that the value gives
abbrev pub IsStartIn : System → Data → List Number → Type 0
IsStartIn S d start = start ≡ start_in S d

-- the first state that isn't named
abbrev pub unnamed_fault : List (List ℕ) → Data → Option RequestFault
unnamed_fault [] d = None
unnamed_fault (name ∷ names) d = cond (has name d) (unnamed_fault names d) (Some (fault.Name name))

abbrev pub isnt_greater : Ordering → Bool
isnt_greater Less = true
isnt_greater Equal = true
isnt_greater Greater = false

abbrev pub is_equal : Ordering → Bool
is_equal Less = false
is_equal Equal = true
is_equal Greater = false

abbrev pub is_of_kind : Kind2 → Number → Bool
is_of_kind kind.Real a = true
is_of_kind kind.Bool a = is_equal (number_cmp a (whole 0)) || is_equal (number_cmp a (whole 1))

-- the number is in the state's box, and 0 or 1 where the state is Boolean
abbrev pub is_start : Column → Number → Bool
is_start c a = isnt_greater (number_cmp c.bounds.low a) && (isnt_greater (number_cmp a c.bounds.high) && is_of_kind c.kind a)

-- the first state that can't start from its number
abbrev pub outside_fault : List Column → Data → Option RequestFault
outside_fault [] d = None
outside_fault (c ∷ cs) d = cond (is_start c (weight_in d c.name)) (outside_fault cs d) (Some (fault.Start c.name))

unfoldable pub start_fault : List ℕ → System → Data → Option RequestFault
start_fault path S d =
    or_else (named_fault path (state_names S) d) (or_else (unnamed_fault (state_names S) d) (outside_fault (state_columns S.columns) d))

-- ---- the whole value
abbrev pub required_keys : List (List ℕ)
required_keys = codes "horizon" ∷ codes "nodes" ∷ codes "pick" ∷ codes "start" ∷ []

abbrev pub known_keys : List (List ℕ)
known_keys = codes "final" ∷ codes "horizon" ∷ codes "nodes" ∷ codes "pick" ∷ codes "start" ∷ codes "step" ∷ []

unfoldable pub keys_fault : Data → Members → Option RequestFault
keys_fault d ms = or_else (missing_fault [] required_keys d) (unknown_fault [] known_keys (keys_of ms))

abbrev pub root_by : Data → Option Members → Option RequestFault
root_by d None = Some (fault.Shape (own_path []))
root_by d (Some ms) = keys_fault d ms

unfoldable pub root_fault : Data → Option RequestFault
root_fault d = root_by d (as_object d)

-- a field that may be left out
abbrev pub if_given : (Data → Option RequestFault) → Option Data → Option RequestFault
if_given judge None = None
if_given judge (Some d) = judge d

-- the weights of a request, each left out or judged
abbrev pub given_final_fault : System → Data → Option RequestFault
given_final_fault S d = if_given (final_fault (codes "final") S) (get (codes "final") d)

abbrev pub given_step_fault : System → Data → Option RequestFault
given_step_fault S d = if_given (step_fault (codes "step") S) (get (codes "step") d)

-- and what they are then: those of nothing where they are left out
abbrev pub IsGivenFinal : System → Data → List Number → Type 0
IsGivenFinal S d ws = IsFinalIn S (member_in (codes "final") d) ws

abbrev pub IsGivenStep : System → Data → List Number × List Number → Type 0
IsGivenStep S d ws = IsStepIn S (member_in (codes "step") d) ws

abbrev pub request_in : System → Data → Request
request_in S d = record {
  horizon = whole_in (member_in (codes "horizon") d);
  start = start_in S (member_in (codes "start") d);
  step_cost = (step_in S (member_in (codes "step") d)).0;
  output_cost = (step_in S (member_in (codes "step") d)).1;
  final_cost = final_in S (member_in (codes "final") d);
  nodes = whole_in (member_in (codes "nodes") d);
  pick = pick_in (member_in (codes "pick") d);
}

-- from 1 to the most
abbrev pub is_counted : ℕ → ℕ → Bool
is_counted most n = nat_lt 0 n && not (nat_lt most n)

-- the limits on single numbers, and then those on what they come to with the system's weight
abbrev pub is_small : ℕ → ℕ → ℕ → Bool
is_small horizon nodes weight = not (nat_lt most_stacked (horizon * weight)) && not (nat_lt most_work (nodes * (horizon * weight)))

unfoldable pub count_fault : ℕ → List ℕ → ℕ → Option RequestFault
count_fault most what n = unless (is_counted most n) (fault.Limit what)

unfoldable pub size_fault : ℕ → ℕ → ℕ → Option RequestFault
size_fault horizon nodes weight = unless (is_small horizon nodes weight) fault.TooLarge

unfoldable pub limit_fault : System → Request → Option RequestFault
limit_fault S r =
    or_else (count_fault most_steps (codes "horizon") r.horizon)
    (or_else (count_fault most_nodes (codes "nodes") r.nodes) (size_fault r.horizon r.nodes S.weight))

-- the fields in byte order of their keys
unfoldable pub counts_fault : Data → Option RequestFault
counts_fault d =
    or_else (whole_fault (codes "horizon") (member_in (codes "horizon") d)) (whole_fault (codes "nodes") (member_in (codes "nodes") d))

abbrev pub counts_in : Data → ℕ × ℕ
counts_in d = (whole_in (member_in (codes "horizon") d), whole_in (member_in (codes "nodes") d))

unfoldable pub search_fault : Data → Option RequestFault
search_fault d = or_else (counts_fault d) (pick_fault (codes "pick") (member_in (codes "pick") d))

unfoldable pub front_fault : System → Data → Option RequestFault
front_fault S d = or_else (given_final_fault S d) (search_fault d)

unfoldable pub back_fault : System → Data → Option RequestFault
back_fault S d =
    or_else (start_fault (codes "start") S (member_in (codes "start") d)) (given_step_fault S d)

unfoldable pub fields_fault : System → Data → Option RequestFault
fields_fault S d = or_else (front_fault S d) (back_fault S d)

-- the root, its fields, and then the limits
unfoldable pub value_fault : System → Data → Option RequestFault
value_fault S d = or_else (root_fault d) (fields_fault S d)

unfoldable pub request_fault : System → Data → Option RequestFault
request_fault S d = or_else (value_fault S d) (limit_fault S (request_in S d))

-- ---- what single functions read
-- the value has each key that a request must have
abbrev pub HasKeys : Data → Type 0
HasKeys d = root_fault d ≡ None

-- the parts before the start are those of the value
pub record IsFront (S : System) (d : Data) (f : Front) : Type 0 where
  pub final_cost : f.final_cost ≡ final_in S (member_in (codes "final") d)
  pub horizon : f.horizon ≡ whole_in (member_in (codes "horizon") d)
  pub nodes : f.nodes ≡ whole_in (member_in (codes "nodes") d)
  pub pick : f.pick ≡ pick_in (member_in (codes "pick") d)

-- and the parts from it on
pub record IsBack (S : System) (d : Data) (b : Back) : Type 0 where
  pub start : b.start ≡ start_in S (member_in (codes "start") d)
  pub step_cost : b.step_cost ≡ (step_in S (member_in (codes "step") d)).0
  pub output_cost : b.output_cost ≡ (step_in S (member_in (codes "step") d)).1

-- and those that a search is told
pub record IsSearch (d : Data) (s : Search) : Type 0 where
  pub horizon : s.horizon ≡ whole_in (member_in (codes "horizon") d)
  pub nodes : s.nodes ≡ whole_in (member_in (codes "nodes") d)
  pub pick : s.pick ≡ pick_in (member_in (codes "pick") d)
