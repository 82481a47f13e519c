-- The stages of tables, and what `sim` comes to.
use Rattle.std.proofs.Common.{◌≡◌, ◌≢◌, ℕ, List, Option, None, Some, refl, sym, ap, subst, true, Result, Ok, Err, IfOk, codes}
use Rattle.std.specs.declared.alloc.AllocError.{AllocError}
use Rattle.hys_io.specs.Outside.{Named}
use Rattle.hys_prog.specs.declared.stop.Stop.{Stop}
use Rattle.hys_prog.specs.declared.stop.Stop.TheVariants.{Bounds, Gap, Must}
use Rattle.hys_prog.specs.declared.stop.Stop.TheVariants.{Range as Overflow}
use Rattle.hys_sim.specs.Checks.{Check, first_fault, IsFault}
use Rattle.hys_sim.specs.Tables.{table_checks}
use Rattle.hys_sim.specs.Simulations.{IsSimulated}
use Rattle.hys_sim.specs.declared.fault.SimFault.{SimFault}
use Rattle.hys_sim.specs.declared.fault.SimFault.TheVariants.{Csv, Rows, Column, Value, Limit, Memory}
use Rattle.hys_sim.specs.declared.fault.Simulated.{Simulated}
use Rattle.hys_compile.specs.declared.compiler.Compiled.{Compiled}
use Rattle.hys_app.specs.Lines.{file_line}
use Rattle.hys_app.specs.Ends.{IsReached}
use Rattle.hys_app.specs.Stages.{saying, IsLong, IsUnread}
use Rattle.hys_app.specs.Simulating.{most_bytes, IsTableEnd, unread, long, putting_run, refusing_table, run_status, IsRunOutcome, refused, run}
use Rattle.hys_app.specs.declared.status.Status.TheVariants.{Input}
use Rattle.hys_app.specs.declared.outcome.Outcome.{Outcome}
use Rattle.hys_app.proofs.Stages.{is_calm, calm_by, calm_reached, weaker}

-- ---- a table
pub table_unread : (held : Option Named) (name : List ℕ) (o : Outcome) (r r' : ℕ) → IsReached (IsUnread name) o r r' → IsReached (IsTableEnd held name) o r r'
table_unread held name o r r' h = weaker (IsUnread name) (IsTableEnd held name) o r r' (λ e. subst (IsTableEnd held name) (sym e) unread) h

pub table_long : (held : Option Named) (name : List ℕ) (o : Outcome) (r r' : ℕ) →
    o ≡ saying Input (file_line name (codes "limit bytes")) → IsLong held name most_bytes → r' ≡ r → IsReached (IsTableEnd held name) o r r'
table_long held name o r r' e l c =
    calm_reached (IsTableEnd held name) o r r' (calm_by o.status Input (ap (λ (p : Outcome). p.status) e) refl)
    (subst (IsTableEnd held name) (sym e) (long l)) c

-- ---- a run
fault_first : (cs : List Check) (f : SimFault) → f ≢ Memory → IsFault cs f → first_fault cs ≡ Some f
fault_first cs (Csv w r) n h = h
fault_first cs (Rows w r) n h = h
fault_first cs (Column w t) n h = h
fault_first cs (Value w r c) n h = h
fault_first cs Limit n h = h
fault_first cs Memory n h = absurd (n refl)

pub tables_refused : (c : Compiled) (start inputs target first others : List ℕ) (fault : SimFault) (x : Result Outcome AllocError) →
    IsFault (table_checks c.program first others) fault →
    IfOk x (λ o. o ≡ refusing_table start inputs fault) → IfOk x (λ o. fault ≢ Memory) →
    IfOk x (IsRunOutcome c start inputs target first others)
tables_refused c start inputs target first others fault (Ok o) h e other =
    subst (IsRunOutcome c start inputs target first others) (sym e) (refused fault (fault_first (table_checks c.program first others) fault other h))
tables_refused c start inputs target first others fault (Err a) h e other = tt

pub tables_run : (c : Compiled) (start inputs target first others : List ℕ) (r : Simulated) (x : Result Outcome AllocError) →
    first_fault (table_checks c.program first others) ≡ None → IsSimulated c.program c.order first others r →
    IfOk x (λ o. o ≡ putting_run target c.program r) →
    IfOk x (IsRunOutcome c start inputs target first others)
tables_run c start inputs target first others r (Ok o) n h e = subst (IsRunOutcome c start inputs target first others) (sym e) (run r n h)
tables_run c start inputs target first others r (Err a) n h e = tt

-- a run's status is none that a failure of the outside gives
run_calm : (s : Option Stop) → is_calm (run_status s) ≡ true
run_calm None = refl
run_calm (Some (Bounds n)) = refl
run_calm (Some (Gap k)) = refl
run_calm (Some (Must k)) = refl
run_calm (Some (Overflow k lost)) = refl

pub outcome_calm : (c : Compiled) (start inputs target first others : List ℕ) (o : Outcome) → IsRunOutcome c start inputs target first others o → is_calm o.status ≡ true
outcome_calm c start inputs target first others o (refused fault h) = refl
outcome_calm c start inputs target first others o (run r n h) = run_calm r.stop
