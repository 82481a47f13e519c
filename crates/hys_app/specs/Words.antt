-- The forms of the words.
use Rattle.std.specs.Prelude.{ℕ, suc, List, [], ◌∷◌, map, String, string_bytes, Option, None, Some, Result, Ok, Err, codes, bytes_eq, take, drop, pos, cond, if◌then◌else◌}
use Rattle.std.specs.Global.{Global}
use Rattle.std.specs.Ordering.{is_lt}
use Rattle.hys_number.specs.Number.{Number}
use Rattle.hys_number.specs.Ops.{◌/ₙ◌, int, whole}
use Rattle.hys_frac.specs.Compare.{number_cmp}
use Rattle.hys_frac.specs.Read.{reading}
use Rattle.hys_frac.specs.declared.read.FracFault.{FracFault}

-- the bytes of each word
abbrev pub texts_of : List (String Global) → List (List ℕ)
texts_of words = map string_bytes words

-- ---- tolerances
-- the tolerance of guards without one of their own, where the words have none
abbrev pub usual_tolerance : Number
usual_tolerance = int (pos 1) /ₙ int (pos 1000)

-- a number that is read and above 0
abbrev pub if_positive : Result Number FracFault → Option Number
if_positive (Ok a) = cond (is_lt (number_cmp (whole 0) a)) (Some a) None
if_positive (Err e) = None

-- what follows `eps=` in a word that begins so
abbrev pub text_of_tolerance : List ℕ → Option (List ℕ)
text_of_tolerance word = if bytes_eq (take 4 word) (codes "eps=") then Some (drop 4 word) else None

-- the tolerance of a word `eps=F`, where F is a number text
abbrev pub tolerance_of : List ℕ → Option Number
tolerance_of word = if bytes_eq (take 4 word) (codes "eps=") then if_positive (reading (drop 4 word)) else None

-- ---- commands, with the names of the files that they read and put
pub data Command : Type 0 where
  -- a source, and the matrix text that is put
  compile : List ℕ → List ℕ → Number → Command
  -- a source, the tables of the start and of the inputs, and the table of the run that is put
  sim : List ℕ → List ℕ → List ℕ → List ℕ → Number → Command
  -- a source, a request, and the answer that is put
  plan : List ℕ → List ℕ → List ℕ → Number → Command
  -- a matrix text, a request, and the answer that is checked
  check : List ℕ → List ℕ → List ℕ → Command
  -- a number of tanks
  demo : ℕ → Command
  -- a matrix text of either version, and the one of the newest that is put
  migrate : List ℕ → List ℕ → Command

-- a command whose last argument is the tolerance
abbrev pub with_tolerance : (Number → Command) → Option Number → Option Command
with_tolerance make None = None
with_tolerance make (Some tolerance) = Some (make tolerance)

-- `compile SRC MLD` and `compile SRC MLD eps=F`
abbrev pub compile_form : List (List ℕ) → Option Command
compile_form [] = None
compile_form (a ∷ []) = None
compile_form (a ∷ b ∷ []) = None
compile_form (command ∷ source ∷ target ∷ []) =
    if bytes_eq command (codes "compile") then Some (compile source target usual_tolerance) else None
compile_form (command ∷ source ∷ target ∷ word ∷ []) =
    if bytes_eq command (codes "compile") then with_tolerance (compile source target) (tolerance_of word) else None
compile_form (a ∷ b ∷ c ∷ d ∷ e ∷ rest) = None

-- `sim SRC START INPUTS OUT` and `sim SRC START INPUTS OUT eps=F`
abbrev pub sim_form : List (List ℕ) → Option Command
sim_form [] = None
sim_form (a ∷ []) = None
sim_form (a ∷ b ∷ []) = None
sim_form (a ∷ b ∷ c ∷ []) = None
sim_form (a ∷ b ∷ c ∷ d ∷ []) = None
sim_form (command ∷ source ∷ start ∷ inputs ∷ target ∷ []) =
    if bytes_eq command (codes "sim") then Some (sim source start inputs target usual_tolerance) else None
sim_form (command ∷ source ∷ start ∷ inputs ∷ target ∷ word ∷ []) =
    if bytes_eq command (codes "sim") then with_tolerance (sim source start inputs target) (tolerance_of word) else None
sim_form (a ∷ b ∷ c ∷ d ∷ e ∷ f ∷ g ∷ rest) = None

-- `plan SRC REQ ANS` and `plan SRC REQ ANS eps=F`
abbrev pub plan_form : List (List ℕ) → Option Command
plan_form [] = None
plan_form (a ∷ []) = None
plan_form (a ∷ b ∷ []) = None
plan_form (a ∷ b ∷ c ∷ []) = None
plan_form (command ∷ source ∷ request ∷ target ∷ []) =
    if bytes_eq command (codes "plan") then Some (plan source request target usual_tolerance) else None
plan_form (command ∷ source ∷ request ∷ target ∷ word ∷ []) =
    if bytes_eq command (codes "plan") then with_tolerance (plan source request target) (tolerance_of word) else None
plan_form (a ∷ b ∷ c ∷ d ∷ e ∷ f ∷ rest) = None

-- `check MLD REQ ANS`
abbrev pub check_form : List (List ℕ) → Option Command
check_form [] = None
check_form (a ∷ []) = None
check_form (a ∷ b ∷ []) = None
check_form (a ∷ b ∷ c ∷ []) = None
check_form (command ∷ matrices ∷ request ∷ answer ∷ []) =
    if bytes_eq command (codes "check") then Some (check matrices request answer) else None
check_form (a ∷ b ∷ c ∷ d ∷ e ∷ rest) = None

-- the numbers of tanks, from 1 on
abbrev pub tank_words : List (List ℕ)
tank_words =
    codes "1" ∷ codes "2" ∷ codes "3" ∷ codes "4" ∷ codes "5" ∷ codes "6" ∷ codes "7" ∷ codes "8" ∷ codes "9" ∷ codes "10"
    ∷ codes "11" ∷ codes "12" ∷ codes "13" ∷ codes "14" ∷ codes "15" ∷ codes "16" ∷ codes "17" ∷ codes "18" ∷ codes "19"
    ∷ codes "20" ∷ []

-- the place of a word in a list whose first place has the number n
abbrev pub place_in : ℕ → List (List ℕ) → List ℕ → Option ℕ
place_in n [] word = None
place_in n (w ∷ ws) word = if bytes_eq word w then Some n else place_in (suc n) ws word

-- a number from 1 to 20, in digits alone
abbrev pub tanks_of : List ℕ → Option ℕ
tanks_of word = place_in 1 tank_words word

abbrev pub demo_of : Option ℕ → Option Command
demo_of None = None
demo_of (Some k) = Some (demo k)

-- `demo K`
abbrev pub demo_form : List (List ℕ) → Option Command
demo_form [] = None
demo_form (a ∷ []) = None
demo_form (command ∷ word ∷ []) = if bytes_eq command (codes "demo") then demo_of (tanks_of word) else None
demo_form (a ∷ b ∷ c ∷ rest) = None

-- `migrate OLD NEW`
abbrev pub migrate_form : List (List ℕ) → Option Command
migrate_form [] = None
migrate_form (a ∷ []) = None
migrate_form (a ∷ b ∷ []) = None
migrate_form (command ∷ old ∷ new ∷ []) = if bytes_eq command (codes "migrate") then Some (migrate old new) else None
migrate_form (a ∷ b ∷ c ∷ d ∷ rest) = None

-- one form or the other; no words have two, since each begins with its own word
abbrev pub or_form : Option Command → Option Command → Option Command
or_form None other = other
or_form (Some c) other = Some c

-- the forms from `demo` on, from `check` on, from `plan` on, and from `sim` on
unfoldable pub from_demo : List (List ℕ) → Option Command
from_demo words = or_form (demo_form words) (migrate_form words)

unfoldable pub from_check : List (List ℕ) → Option Command
from_check words = or_form (check_form words) (from_demo words)

unfoldable pub from_plan : List (List ℕ) → Option Command
from_plan words = or_form (plan_form words) (from_check words)

unfoldable pub from_sim : List (List ℕ) → Option Command
from_sim words = or_form (sim_form words) (from_plan words)

-- the command that the words after the program's name ask for
unfoldable pub form_of : List (List ℕ) → Option Command
form_of words = or_form (compile_form words) (from_sim words)
