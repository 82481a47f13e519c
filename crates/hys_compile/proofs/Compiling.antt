-- What the stages give together is what a source is compiled to.
use Rattle.std.proofs.Common.{◌≡◌, ℕ, List, ◌∙◌}
use Rattle.hys_number.specs.Number.{Number}
use Rattle.hys_lex.specs.declared.token.Token.{Token}
use Rattle.hys_ast.specs.Tree.{Source}
use Rattle.hys_prog.specs.Programs.{IsProgram}
use Rattle.hys_prog.specs.Orders.{IsOrder}
use Rattle.hys_bound.specs.Ranges.{intervals}
use Rattle.hys_type.specs.Translation.{IsTranslation}
use Rattle.hys_type.proofs.SameCircles.{unfolded_declared}
use Rattle.hys_exact.specs.Automata.{LegalSteps, automaton_of}
use Rattle.hys_exact.specs.Built.{IsBuilt}
use Rattle.hys_mld.specs.Stated.{AreStated}
use Rattle.hys_mld.specs.Written.{IsWritten}
use Rattle.hys_sys.specs.Exact.{Exact}
use Rattle.hys_sys.specs.System.{IsSystem}
use Rattle.hys_compile.specs.declared.compiler.Compiled.{Compiled}
use Rattle.hys_compile.specs.Text.{IsTyped, IsRowed, IsCompiled}
use Rattle.hys_compile.proofs.Accepting.{accepted, numbers_fit}
use Rattle.hys_compile.proofs.Circles.{keeps_typing}
use Rattle.hys_compile.proofs.Readable.{measured_declarations}
use Rattle.hys_compile.proofs.Translated.{exact_source}

pub is_compiled : (tolerance : Number) (text : List ℕ) (tokens : List Token) (tree : Source) (c : Compiled) → IsRowed tolerance text tokens tree → IsTranslation tolerance tree c.program → IsProgram c.program → IsOrder c.program c.order →
    Exact (automaton_of c.program) (LegalSteps c.program) c.system → IsSystem c.system → c.system.weight ≡ c.program.weight → IsBuilt c.program (intervals c.program c.order) c.system → AreStated c.program (intervals c.program c.order) c.system.rows →
    IsWritten c.program (intervals c.program c.order) c.system → IsCompiled tolerance text c
is_compiled tolerance text tokens tree c h t p o e s w b r i =
    let typed : IsTyped text tokens tree = h.ranged.ordered.typed in
    record {
      tokens = tokens;
      tree = tree;
      measured = typed.measured;
      accepted = accepted text tokens tree h.ranged.ordered;
      fit = numbers_fit tolerance text tokens tree h;
      translation = t;
      program = p;
      order = o;
      lawful = s;
      weight = w ∙ t.weight;
      exact = exact_source tolerance tree c.program c.system t (keeps_typing text tokens tree typed) (unfolded_declared tree (measured_declarations text tokens tree typed.measured)) e;
      built = b;
      stated = r;
      written = i;
    }
