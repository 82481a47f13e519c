use Rattle.std.proofs.Common.{refl, sym, subst, map, string_bytes}
use Rattle.hys_app.specs.Words.{form_of}
use Rattle.hys_app.specs.Ends.{outside, IsReached}
use Rattle.hys_app.specs.Commands.{IsOutcomeOf}
use Rattle.hys_app.proofs.Ends.{by_reached}
use Rattle.hys_app.proofs.top.run.Goals as goal

pub returns-in-Ok-clause-ends : goal.returns-in-Ok-clause-ends
returns-in-Ok-clause-ends g c =
    let held = g.F.Files.held c.args.files.now in
    by_reached (IsOutcomeOf held (form_of (map string_bytes c.args.words.now.items))) c.in-Ok.outcome c.carry_out.result (outside g.F.Files g.S.Sink c.args.files.now c.args.out.now) (outside g.F.Files g.S.Sink c.conclude.new.files c.args.out.now)
    (outside g.F.Files g.S.Sink c.carry_out.new.files c.carry_out.new.out) c.carry_out.ensures.carried c.conclude.ensures.held c.conclude.ensures.puts refl refl c.carry_out.ensures.reads
    (subst (λ w. IsReached (IsOutcomeOf held (form_of (map string_bytes w))) c.in-Ok.outcome (g.F.Files.read_faults c.args.files.now) (g.F.Files.read_faults c.conclude.new.files)) c.deref.ensures.value c.in-Ok.ensures.reached)
