-- What holds of all texts of answers.
use Rattle.std.specs.Prelude.{◌≡◌, ℕ, List}
use Rattle.hys_file.specs.declared.fault.FileFault.{FileFault}
use Rattle.hys_tree.specs.Multiplied.{AreMultiplied}
use Rattle.hys_tree.specs.declared.answer.Answer.{Answer}
use Rattle.hys_answer.specs.Texts.{IsAnswerText, IsAnswerCause}

-- a text has at most one cause to be refused
abbrev pub HaveOneCause : Type 0
HaveOneCause = (text : List ℕ) (f g : FileFault) → IsAnswerCause text f → IsAnswerCause text g → f ≡ g

-- a text stands for at most one answer
abbrev pub StandForOne : Type 0
StandForOne = (text : List ℕ) (a b : Answer) → IsAnswerText text a → IsAnswerText text b → a ≡ b

-- a text that stands for an answer has no cause to be refused
abbrev pub NoneIsBoth : Type 0
NoneIsBoth = (text : List ℕ) (a : Answer) (f : FileFault) → IsAnswerText text a → IsAnswerCause text f → ⊥

-- in the tree that a text stands for the rows of multipliers rise and no multiplier is 0
abbrev pub StandForMultiplied : Type 0
StandForMultiplied = (text : List ℕ) (a : Answer) → IsAnswerText text a → AreMultiplied a.tree.places
