-- The texts of requests, and why others are refused.
use Rattle.std.specs.Prelude.{◌≡◌, ◌⊎◌, ℕ, ◌<◌, ◌≤◌, ◌*◌, List, length, codes, Some, None, Result, Ok, Err, IsUtf8}
use Rattle.serde_json.specs.Data.{Data}
use Rattle.serde_json.specs.Read.{read as read_text}
use Rattle.hys_sys.specs.declared.system.System.{System}
use Rattle.hys_stack.specs.declared.request.Request.{Request}
use Rattle.hys_stack.specs.declared.fault.RequestFault.{RequestFault}
use Rattle.hys_stack.specs.declared.fault.RequestFault.TheVariants as fault
use Rattle.hys_stack.specs.Requests.{IsRequestOf}
use Rattle.hys_stack.specs.Reading.{request_fault, request_in}

abbrev pub most_bytes : ℕ
most_bytes = 64 * 1048576

-- the bytes are within the limit and are the text of this JSON value
pub record IsValueOf (text : List ℕ) (d : Data) : Type 0 where
  pub few : length text ≤ most_bytes
  pub utf8 : IsUtf8 text
  pub read : read_text text ≡ Some d

-- the text stands for the request: nothing is wrong with its value; and then it is one for the system
pub record IsTextOf (S : System) (text : List ℕ) (r : Request) : Type 0 where
  pub read : Data
  pub value : IsValueOf text read
  pub right : request_fault S read ≡ None
  pub request : r ≡ request_in S read
  pub lawful : IsRequestOf S r

-- why a text is refused, and the one fault that is answered then
pub data IsCause (S : System) (text : List ℕ) : RequestFault → Type 0 where
  bytes : most_bytes < length text → IsCause S text (fault.Limit (codes "bytes"))
  json : length text ≤ most_bytes → ((d : Data) → ¬ (IsValueOf text d)) → IsCause S text fault.Json
  wrong : (d : Data) (f : RequestFault) → IsValueOf text d → request_fault S d ≡ Some f → IsCause S text f

-- memory aside, what is answered: the request that the text stands for, or a cause to refuse it
abbrev pub IsRead : System → List ℕ → Result Request RequestFault → Type 0
IsRead S text (Ok r) = IsTextOf S text r
IsRead S text (Err f) = (f ≡ fault.Memory) ⊎ IsCause S text f
