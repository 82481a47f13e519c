use Rattle.std.proofs.Common.{Bor, List, ℕ, ◌∙◌, Some, inr}
use Rattle.csv.specs.Reading.{strip_bom}
use Rattle.csv.specs.declared.parser.State.TheVariants as st
use Rattle.hys_sim.proofs.Recording.{left_at}
use Rattle.hys_sim.proofs.records.reader_of.Goals as goal

pub returns : goal.returns
returns c =
    let fr = c.from_reader.ensures in
    let e = c.has_headers.ensures in
    let f = c.flexible.ensures in
    record {
      reading = record {
        trim = rw (f, e) at fr.trim ∙ c.new.ensures.trim;
        ready = inr (inr (rw (f, e) at fr.has_headers, fr.headers));
        config = rw (f, e) at fr.config ∙ c.new.ensures.config;
        text = strip_bom c.args.text.now;
        source = fr.source;
      };
      left = left_at (λ (s : Bor (List ℕ)). Some s.now) c.from_reader.result st.StartRecord (strip_bom c.args.text.now) fr.state fr.source;
    }
