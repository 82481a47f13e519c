-- What follows from how an outcome is carried out.
use Rattle.std.proofs.Common.{◌≡◌, ◌≢◌, ◌≤◌, ◌⊎◌, Option, None, Some, refl, sym, inl, inr, arith}
use Rattle.hys_io.specs.Outside.{Named, Rose, IfAppended}
use Rattle.hys_app.specs.declared.status.Status.{Status}
use Rattle.hys_app.specs.declared.status.Status.TheVariants.{Done, NoTrajectory, Usage, Read, Write, Source, Input, Stopped, Spent, Range, Memory}
use Rattle.hys_app.specs.declared.outcome.NewFile.{NewFile}
use Rattle.hys_app.specs.declared.outcome.Outcome.{Outcome}
use Rattle.hys_app.specs.Ends.{Outside, HasFailedRead, IsCarriedOut, unput, torn, cut, short, whole, IsPut, IsTorn}

apart : Write ≡ Memory → ⊥
apart e = cc

pub done : (o : Outcome) (result : Status) (old new : Outside) → IsCarriedOut o result old new → result ≢ Write → result ≢ Memory →
    (result ≡ o.status) × IsPut o.file old.held new.held × IfAppended old.written new.written o.line
done o result old new (unput m u) w n = absurd (n m)
done o result old new (torn e t f s g) w n = absurd (w e)
done o result old new (cut e p part f) w n = absurd (w e)
done o result old new (short m p part f) w n = absurd (n m)
done o result old new (whole e p said f) w n = (e, p.put, said)

pub write : (o : Outcome) (old new : Outside) → o.status ≢ Write → IsCarriedOut o Write old new → Rose old.put_faults new.put_faults ⊎ Rose old.faults new.faults
write o old new w (unput m u) = absurd (apart m)
write o old new w (torn e t f s g) = inl f.1
write o old new w (cut e p part f) = inr f.1
write o old new w (short m p part f) = absurd (apart m)
write o old new w (whole e p said f) = absurd (w (sym e))

pub silent : (o : Outcome) (old new : Outside) → o.status ≢ Write → IsCarriedOut o Write old new → Rose old.faults new.faults ⊎ (new.written ≡ old.written)
silent o old new w (unput m u) = absurd (apart m)
silent o old new w (torn e t f s g) = inr s
silent o old new w (cut e p part f) = inl f.1
silent o old new w (short m p part f) = absurd (apart m)
silent o old new w (whole e p said f) = absurd (w (sym e))

pub standing : (o : Outcome) (old new : Outside) → o.status ≢ Write → IsCarriedOut o Write old new → Rose old.put_faults new.put_faults ⊎ IsPut o.file old.held new.held
standing o old new w (unput m u) = absurd (apart m)
standing o old new w (torn e t f s g) = inl f.1
standing o old new w (cut e p part f) = inr p.put
standing o old new w (short m p part f) = absurd (apart m)
standing o old new w (whole e p said f) = absurd (w (sym e))

pub counted : (o : Outcome) (result : Status) (old new : Outside) → IsCarriedOut o result old new → (old.put_faults ≤ new.put_faults) × (old.faults ≤ new.faults)
counted o result old new (unput m u) = (omega (arith, u.put_faults), omega (arith, u.faults))
counted o result old new (torn e t f s g) = (f.0, omega (arith, g))
counted o result old new (cut e p part f) = (omega (arith, p.put_faults), f.0)
counted o result old new (short m p part f) = (omega (arith, p.put_faults), omega (arith, f))
counted o result old new (whole e p said f) = (omega (arith, p.put_faults), omega (arith, f))

pub failed_put : (o : Outcome) (result : Status) (old new : Outside) → IsCarriedOut o result old new → new.put_faults ≢ old.put_faults → (result ≡ Write) × (new.written ≡ old.written)
failed_put o result old new (unput m u) never = absurd (never u.put_faults)
failed_put o result old new (torn e t f s g) never = (e, s)
failed_put o result old new (cut e p part f) never = absurd (never p.put_faults)
failed_put o result old new (short m p part f) never = absurd (never p.put_faults)
failed_put o result old new (whole e p said f) never = absurd (never p.put_faults)

-- a status is that of a failed read, or another
read_or_other : (s : Status) → (s ≡ Read) ⊎ (s ≢ Read)
read_or_other Done = inr (λ e. cc)
read_or_other NoTrajectory = inr (λ e. cc)
read_or_other Usage = inr (λ e. cc)
read_or_other Read = inl refl
read_or_other Write = inr (λ e. cc)
read_or_other Source = inr (λ e. cc)
read_or_other Input = inr (λ e. cc)
read_or_other Stopped = inr (λ e. cc)
read_or_other Spent = inr (λ e. cc)
read_or_other Range = inr (λ e. cc)
read_or_other Memory = inr (λ e. cc)

nothing_put : (file : Option NewFile) (held held' : Option Named) → file ≡ None → IsPut file held held' → held' ≡ held
nothing_put None held held' e p = p
nothing_put (Some f) held held' e p = absurd (cc)

nothing_torn : (file : Option NewFile) (held held' : Option Named) → file ≡ None → IsTorn file held held' → held' ≡ held
nothing_torn None held held' e p = p
nothing_torn (Some f) held held' e p = absurd (cc)

carried : (o : Outcome) (result : Status) (old new : Outside) → o.file ≡ None → IsCarriedOut o result old new → new.held ≡ old.held
carried o result old new n (unput m u) = u.held
carried o result old new n (torn e t f s g) = nothing_torn o.file old.held new.held n t
carried o result old new n (cut e p part f) = nothing_put o.file old.held new.held n p.put
carried o result old new n (short m p part f) = nothing_put o.file old.held new.held n p.put
carried o result old new n (whole e p said f) = nothing_put o.file old.held new.held n p.put

pub failed_read : (o : Outcome) (result : Status) (old new : Outside) → IsCarriedOut o result old new → HasFailedRead o old new → new.held ≡ old.held
failed_read o result old new c (r, never) = elim (read_or_other o.status) [
  | inl e ↦ carried o result old new (r.unput e) c
  | inr other ↦ absurd (never (r.calm other))
]

pub memory : (o : Outcome) (old new : Outside) → o.status ≢ Memory → IsCarriedOut o Memory old new → (new.held ≡ old.held) ⊎ IsPut o.file old.held new.held
memory o old new w (unput m u) = inl u.held
memory o old new w (torn e t f s g) = absurd (apart (sym e))
memory o old new w (cut e p part f) = absurd (apart (sym e))
memory o old new w (short m p part f) = inr p.put
memory o old new w (whole e p said f) = absurd (w (sym e))
