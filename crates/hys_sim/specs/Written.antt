-- The text of a run's table: records of fields with a comma between each two, each record ended by LF.
use Rattle.std.specs.Prelude.{ℕ, suc, Bool, List, [], ◌∷◌, ◌++◌, map, length, replicate, codes}
use Rattle.std.specs.Fmt.{decimal}
use Rattle.hys_number.specs.Number.{Number}
use Rattle.hys_frac.specs.Written.{number_text}
use Rattle.hys_prog.specs.declared.program.Role.{Role}
use Rattle.hys_prog.specs.declared.program.Program.{Program}
use Rattle.hys_prog.specs.declared.stop.Stepped.{Stepped}
use Rattle.hys_prog.specs.Programs.{text_of}
use Rattle.hys_prog.specs.Steps.{is_state, is_input, is_auxiliary, is_output}
use Rattle.hys_sim.specs.Tables.{names_of}
use Rattle.hys_sim.specs.Runs.{Transition}

-- ---- records
-- the fields, each after a comma
abbrev pub after_commas : List (List ℕ) → List ℕ
after_commas [] = []
after_commas (f ∷ fs) = 44 ∷ (f ++ after_commas fs)

-- a record of a first field and the others; no field needs quotes
abbrev pub record_text : List ℕ → List (List ℕ) → List ℕ
record_text first others = first ++ (after_commas others ++ 10 ∷ [])

-- ---- tables
abbrev pub texts_of : (Role → Bool) → Program → List (List ℕ)
texts_of part p = map text_of (names_of part p)

-- the step, and the names of the states, inputs, auxiliaries and outputs
abbrev pub header_text : Program → List ℕ
header_text p =
    record_text (codes "step")
    (texts_of is_state p ++ (texts_of is_input p ++ (texts_of is_auxiliary p ++ texts_of is_output p)))

abbrev pub numbers_text : List Number → List (List ℕ)
numbers_text numbers = map number_text numbers

-- the number of the step, and the numbers of the transition in the same order
abbrev pub transition_text : ℕ → Transition → List ℕ
transition_text n t =
    record_text (decimal n) (numbers_text t.state ++ (numbers_text t.input ++
    (numbers_text t.stepped.aux ++ numbers_text t.stepped.outputs)))

-- the same of a step from a state with inputs
abbrev pub step_text : ℕ → List Number → List Number → Stepped → List ℕ
step_text n x u s = transition_text n (record { state = x; input = u; stepped = s })

-- the transitions, of which the first is step n
abbrev pub transitions_text : ℕ → List Transition → List ℕ
transitions_text n [] = []
transitions_text n (t ∷ ts) = transition_text n t ++ transitions_text (suc n) ts

-- an empty field for each name with a role of the part
abbrev pub empty_of : (Role → Bool) → Program → List (List ℕ)
empty_of part p = replicate (length (names_of part p)) []

-- the number of steps, the state that is reached, and empty fields
abbrev pub last_text : Program → ℕ → List Number → List ℕ
last_text p n y =
    record_text (decimal n)
    (numbers_text y ++ (empty_of is_input p ++ (empty_of is_auxiliary p ++ empty_of is_output p)))

abbrev pub run_text : Program → List Transition → List Number → List ℕ
run_text p ts y = header_text p ++ (transitions_text 0 ts ++ last_text p (length ts) y)
