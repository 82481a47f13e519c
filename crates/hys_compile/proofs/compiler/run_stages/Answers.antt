use Rattle.hys_ast.specs.Seen.{source_of}
use Rattle.hys_compile.proofs.Compiling.{is_compiled}
use Rattle.hys_compile.proofs.compiler.run_stages.Goals as goal

pub returns-clause-done : goal.returns-clause-done
returns-clause-done c =
    is_compiled c.args.eps c.args.text.now c.as_slice-tokens.result.now (source_of c.in_ok-source.source) (record { program = c.in_ok-program.program; order = c.in_ok-order.order; system = c.in_ok-system.system }) c.in_ok-system.ensures.rowed
    c.in_ok-program.ensures.translation c.in_ok-program.ensures.program c.in_ok-order.ensures.order c.in_ok-system.ensures.exact c.in_ok-system.ensures.lawful c.in_ok-system.ensures.weight c.in_ok-system.ensures.built c.in_ok-system.ensures.stated c.in_ok-system.ensures.written
