-- From what the calls say to how a run ends.
use Rattle.std.proofs.Common.{◌≡◌, ◌≤◌, sym, ◌∙◌}
use Rattle.hys_io.specs.Outside.{Rose, IfAppended}
use Rattle.hys_app.specs.declared.status.Status.{Status}
use Rattle.hys_app.specs.declared.status.Status.TheVariants.{Write, Memory}
use Rattle.hys_app.specs.declared.outcome.Outcome.{Outcome}
use Rattle.hys_app.specs.Ends.{Outside, Ends, unmade, reached, IsCarriedOut, unput, torn, cut, short, whole, IsPut, IsTorn, IsReached, IfPart}

pub by_unput : (o : Outcome) (result : Status) (old new : Outside) → result ≡ Memory → new.held ≡ old.held → new.put_faults ≡ old.put_faults →
    new.written ≡ old.written → new.faults ≡ old.faults → IsCarriedOut o result old new
by_unput o result old new e h p w f = unput e (record { held = h; put_faults = p; written = w; faults = f })

pub by_torn : (o : Outcome) (result : Status) (old new : Outside) → result ≡ Write → IsTorn o.file old.held new.held → old.put_faults ≤ new.put_faults → Rose old.put_faults new.put_faults →
    new.written ≡ old.written → new.faults ≡ old.faults → IsCarriedOut o result old new
by_torn o result old new e t m r w f = torn e t (m, r) w f

pub by_cut : (o : Outcome) (result : Status) (old new : Outside) → result ≡ Write → IsPut o.file old.held new.held → new.put_faults ≡ old.put_faults →
    IfPart old.written new.written o.line → old.faults ≤ new.faults → Rose old.faults new.faults → IsCarriedOut o result old new
by_cut o result old new e h p w m f = cut e (record { put = h; put_faults = p }) w (m, f)

pub by_short : (o : Outcome) (result : Status) (old new : Outside) → result ≡ Memory → IsPut o.file old.held new.held → new.put_faults ≡ old.put_faults →
    IfPart old.written new.written o.line → new.faults ≡ old.faults → IsCarriedOut o result old new
by_short o result old new e h p w f = short e (record { put = h; put_faults = p }) w f

pub by_whole : (o : Outcome) (result : Status) (old new : Outside) → result ≡ o.status → IsPut o.file old.held new.held → new.put_faults ≡ old.put_faults →
    IfAppended old.written new.written o.line → new.faults ≡ old.faults → IsCarriedOut o result old new
by_whole o result old new e h p w f = whole e (record { put = h; put_faults = p }) w f

pub by_unmade : (Lawful : Outcome → Type 0) (result : Status) (old new : Outside) → result ≡ Memory → old.read_faults ≤ new.read_faults →
    new.held ≡ old.held → new.put_faults ≡ old.put_faults → new.written ≡ old.written → new.faults ≡ old.faults → Ends Lawful result old new
by_unmade Lawful result old new e r h p w f = unmade e r (record { held = h; put_faults = p; written = w; faults = f })

-- an outcome is carried out alike, however many reads have failed before
moved : (o : Outcome) (result : Status) (old mid new : Outside) → mid.held ≡ old.held → mid.put_faults ≡ old.put_faults →
    mid.written ≡ old.written → mid.faults ≡ old.faults → IsCarriedOut o result mid new → IsCarriedOut o result old new
moved o result old mid new h p w f (unput e u) =
    unput e (record { held = u.held ∙ h; put_faults = u.put_faults ∙ p; written = u.written ∙ w; faults = u.faults ∙ f })
moved o result old mid new h p w f (torn e t r s g) = torn e (rw h at t) (rw p at r) (s ∙ w) (g ∙ f)
moved o result old mid new h p w f (cut e put part r) = cut e (record { put = rw h at put.put; put_faults = put.put_faults ∙ p }) (rw w at part) (rw f at r)
moved o result old mid new h p w f (short e put part g) = short e (record { put = rw h at put.put; put_faults = put.put_faults ∙ p }) (rw w at part) (g ∙ f)
moved o result old mid new h p w f (whole e put said g) = whole e (record { put = rw h at put.put; put_faults = put.put_faults ∙ p }) (rw w at said) (g ∙ f)

pub by_reached : (Lawful : Outcome → Type 0) (o : Outcome) (result : Status) (old mid new : Outside) → IsCarriedOut o result mid new →
    mid.held ≡ old.held → mid.put_faults ≡ old.put_faults → mid.written ≡ old.written → mid.faults ≡ old.faults → new.read_faults ≡ mid.read_faults →
    IsReached Lawful o old.read_faults mid.read_faults → Ends Lawful result old new
by_reached Lawful o result old mid new c h p w f r reach =
    reached o (rw (sym r) at reach) (moved o result old mid new h p w f c)
