-- The stage of the source, and what `compile` comes to.
use Rattle.std.proofs.Common.{◌≡◌, ◌≢◌, ℕ, List, length, Option, None, Some, ◌<◌, ◌≤◌, ◌⊎◌, refl, sym, ap, subst, ◌∙◌, inl, inr, arith, Result, Ok, Err, IfOk}
use Rattle.std.specs.FinMap as map
use Rattle.std.specs.declared.alloc.AllocError.{AllocError}
use Rattle.hys_io.specs.Outside.{Named, IfHolds}
use Rattle.hys_number.specs.Number.{Number}
use Rattle.hys_compile.specs.declared.compiler.Compiled.{Compiled}
use Rattle.hys_compile.specs.declared.fault.SourceFault.{SourceFault}
use Rattle.hys_compile.specs.declared.fault.LimitKind.TheVariants.{Bytes}
use Rattle.hys_compile.specs.Faults.{over_limit, no_memory}
use Rattle.hys_compile.specs.Text.{most_bytes, IsCause, IsCompiled, IsCompilable, IsRefusal, too_long}
use Rattle.hys_app.specs.Lines.{refused_line}
use Rattle.hys_app.specs.Ends.{IsReached}
use Rattle.hys_app.specs.Stages.{saying, putting, After, IsStage, IsWhole, IsLong, IsUnread}
use Rattle.hys_app.specs.Compiling.{HoldsCompilable, IsSourceEnd, unread, refused, CompiledFrom, IsTextEnd, faulty, IsTextStage, IsPutFor, IsCompileOutcome}
use Rattle.hys_app.specs.declared.stage.Stage.{Stage}
use Rattle.hys_app.specs.declared.stage.Stage.TheVariants.{End, Next}
use Rattle.hys_app.specs.declared.status.Status.TheVariants.{Done, Source}
use Rattle.hys_app.specs.declared.outcome.Outcome.{Outcome}
use Rattle.hys_app.proofs.Stages.{of_file, implied, calm_by, calm_reached, weaker, after_end, after_next}

-- ---- texts that were read
pub text_refused : (tolerance : Number) (text : List ℕ) (fault : SourceFault) (o : Outcome) → o ≡ saying Source (refused_line fault) →
    fault ≢ no_memory → IsRefusal tolerance text fault → (IsCompilable tolerance text → fault ≡ no_memory) → IsTextEnd tolerance text o
text_refused tolerance text fault o e other (inl memory) fit = absurd (other memory)
text_refused tolerance text fault o e other (inr cause) fit =
    subst (IsTextEnd tolerance text) (sym e) (faulty fault cause other (λ p. other (fit p)))

-- ---- from the bytes that were read to the source that the files tell
some_same : {A : Type 0} (x y : A) → Some x ≡ Some y → x ≡ y
some_same x y e = cc

-- bytes of which something holds can't be compiled where that excludes a text that can
not_compilable : (tolerance : Number) (held : Option Named) (name : List ℕ) (P : List ℕ → Type 0) →
    ((file : List ℕ) → P file → IsCompilable tolerance file → ⊥) → IfHolds held name P → HoldsCompilable tolerance held name → ⊥
not_compilable tolerance None name P never h p = absurd (cc p.told)
not_compilable tolerance (Some files) name P never (file, there, q) p =
    never file q (subst (IsCompilable tolerance) (some_same p.file file
    (sym p.there ∙ (ap (λ (m : Named). map.get m name) (sym (some_same files p.files p.told)) ∙ there))) p.compilable)

text_ended : (tolerance : Number) (held : Option Named) (source text : List ℕ) (o : Outcome) → IsWhole held source text →
    IsTextEnd tolerance text o → IsSourceEnd tolerance held source o
text_ended tolerance held source text o h (faulty fault cause other never) =
    refused fault (of_file held source text (λ file. IsCause tolerance file fault) h cause) other
    (not_compilable tolerance held source (λ file. text ≡ file) (λ file e p. never (subst (IsCompilable tolerance) (sym e) p)) h)

text_status : (tolerance : Number) (text : List ℕ) (o : Outcome) → IsTextEnd tolerance text o → o.status ≡ Source
text_status tolerance text o (faulty fault cause other never) = refl

calm_source : (L : Outcome → Type 0) (o : Outcome) (r r' : ℕ) → o.status ≡ Source → L o → r' ≡ r → IsReached L o r r'
calm_source L o r r' e l c = calm_reached L o r r' (calm_by o.status Source e refl) l c

-- ---- the stage of the source
pub source_unread : (tolerance : Number) (held : Option Named) (source : List ℕ) (o : Outcome) (r r' : ℕ) → IsReached (IsUnread source) o r r' →
    IsReached (IsSourceEnd tolerance held source) o r r'
source_unread tolerance held source o r r' h =
    weaker (IsUnread source) (IsSourceEnd tolerance held source) o r r' (λ e. subst (IsSourceEnd tolerance held source) (sym e) unread) h

over_not_memory : over_limit Bytes ≡ no_memory → ⊥
over_not_memory e = let d = ap (λ (f : SourceFault). f.detail) e in absurd (cc)

long_unfit : (tolerance : Number) (file : List ℕ) → most_bytes < length file → IsCompilable tolerance file → ⊥
long_unfit tolerance file more p = omega (arith, p.measured.parsed.counted.lexed.bytes, more)

pub source_long : (tolerance : Number) (held : Option Named) (source : List ℕ) (fault : SourceFault) (o : Outcome) (r r' : ℕ) →
    o ≡ saying Source (refused_line fault) → fault ≡ over_limit Bytes → IsLong held source most_bytes → r' ≡ r →
    IsReached (IsSourceEnd tolerance held source) o r r'
source_long tolerance held source fault o r r' e f long c =
    calm_source (IsSourceEnd tolerance held source) o r r' (ap (λ (p : Outcome). p.status) e)
    (subst (IsSourceEnd tolerance held source) (sym e)
    (refused fault (implied held source (λ file. most_bytes < length file) (λ file. IsCause tolerance file fault) (λ file more. subst (IsCause tolerance file) (sym f) (too_long more)) long)
    (λ m. over_not_memory (sym f ∙ m)) (not_compilable tolerance held source (λ file. most_bytes < length file) (long_unfit tolerance) long))) c

stage_of : (tolerance : Number) (held : Option Named) (source text : List ℕ) (s : Stage Compiled) (r r' : ℕ) → IsTextStage tolerance text s →
    IsWhole held source text → r' ≡ r → IsStage (IsSourceEnd tolerance held source) (CompiledFrom tolerance held source) r r' s
stage_of tolerance held source text (End o) r r' h w c =
    calm_source (IsSourceEnd tolerance held source) o r r' (text_status tolerance text o h) (text_ended tolerance held source text o w h) c
stage_of tolerance held source text (Next x) r r' h w c = (record { text = text; whole = w; compiled = h }, c)

pub source_text : (tolerance : Number) (held : Option Named) (source text : List ℕ) (x : Result (Stage Compiled) AllocError) (r r' : ℕ) →
    IfOk x (IsTextStage tolerance text) → IsWhole held source text → r' ≡ r →
    IfOk x (IsStage (IsSourceEnd tolerance held source) (CompiledFrom tolerance held source) r r')
source_text tolerance held source text (Ok s) r r' h w c = stage_of tolerance held source text s r r' h w c
source_text tolerance held source text (Err e) r r' h w c = tt

-- ---- `compile`
pub compile_ended : (tolerance : Number) (held : Option Named) (source target : List ℕ) (o : Outcome) (r r' : ℕ) →
    IsReached (IsSourceEnd tolerance held source) o r r' → IsReached (IsCompileOutcome tolerance held source target) o r r'
compile_ended tolerance held source target o r r' h =
    after_end (IsSourceEnd tolerance held source) (CompiledFrom tolerance held source) (λ c. IsPutFor c.system target) o r r' h

put_reached : (target : List ℕ) (c : Compiled) (o : Outcome) (r : ℕ) → IsPutFor c.system target o → IsReached (IsPutFor c.system target) o r r
put_reached target c o r e = calm_reached (IsPutFor c.system target) o r r (calm_by o.status Done (ap (λ (p : Outcome). p.status) e) refl) e refl

pub compile_done : (tolerance : Number) (held : Option Named) (source target : List ℕ) (c : Compiled) (x : Result Outcome AllocError) (r r' : ℕ) →
    CompiledFrom tolerance held source c → r' ≡ r → IfOk x (IsPutFor c.system target) →
    IfOk x (λ o. IsReached (IsCompileOutcome tolerance held source target) o r r')
compile_done tolerance held source target c (Ok o) r r' from e h =
    after_next (IsSourceEnd tolerance held source) (CompiledFrom tolerance held source) (λ c. IsPutFor c.system target) c o r r' r' from e
    (put_reached target c o r' h)
compile_done tolerance held source target c (Err a) r r' from e h = tt
