-- What an answer says of the causes of its text.
use Rattle.std.proofs.Common.{◌≡◌, ◌⊎◌, ℕ, List, Result, Ok, Err, IfOk, IfErr, inl, inr}
use Rattle.std.specs.Result.{IsErrAnd}
use Rattle.hys_number.specs.Number.{Number}
use Rattle.hys_compile.specs.declared.compiler.Compiled.{Compiled}
use Rattle.hys_compile.specs.declared.fault.SourceFault.{SourceFault}
use Rattle.hys_compile.specs.Faults.{no_memory}
use Rattle.hys_compile.specs.Text.{IsCause, IsCompilable, IsCompiled, IsRefusal, AnswersCause, HasOneCause, HasNoCause}

compiled_compilable : (tolerance : Number) (text : List ℕ) (c : Compiled) → IsCompiled tolerance text c → IsCompilable tolerance text
compiled_compilable tolerance text c h = record { tokens = h.tokens; tree = h.tree; measured = h.measured; accepted = h.accepted; fit = h.fit }

-- a cause of the text is the fault that is answered, or shows another circular list, memory aside
pub exactly : (tolerance : Number) (text : List ℕ) (r : Result Compiled SourceFault) (f : SourceFault) → HasOneCause tolerance text →
    (IsCompilable tolerance text → HasNoCause tolerance text) → IfOk r (IsCompiled tolerance text) → IfErr r (IsRefusal tolerance text) → IsCause tolerance text f → IsErrAnd r (AnswersCause text f)
exactly tolerance text (Ok c) f one none h k cause = absurd (none (compiled_compilable tolerance text c h) f cause)
exactly tolerance text (Err g) f one none h (inl e) cause = inl e
exactly tolerance text (Err g) f one none h (inr k) cause = inr (one g f k cause)

-- a text that can be compiled is refused for want of memory alone
pub only_memory : (tolerance : Number) (text : List ℕ) (r : Result Compiled SourceFault) → (IsCompilable tolerance text → HasNoCause tolerance text) → IfErr r (IsRefusal tolerance text) → IsCompilable tolerance text → IfErr r (λ f. f ≡ no_memory)
only_memory tolerance text (Ok c) none h k = tt
only_memory tolerance text (Err f) none (inl e) k = e
only_memory tolerance text (Err f) none (inr h) k = absurd (none k f h)

-- what is compiled can be compiled
pub is_compilable : (tolerance : Number) (text : List ℕ) (r : Result Compiled SourceFault) → IfOk r (IsCompiled tolerance text) → IfOk r (λ c. IsCompilable tolerance text)
is_compilable tolerance text (Ok c) h = compiled_compilable tolerance text c h
is_compilable tolerance text (Err f) h = tt
