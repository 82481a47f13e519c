use Rattle.std.proofs.Common.{Bor, List, ℕ, Some}
use Rattle.csv.specs.Records.{fields_of}
use Rattle.hys_sim.proofs.Recording.{reads_next, reads_on}
use Rattle.hys_sim.proofs.records.next.Goals as goal

pub returns : goal.returns
returns c =
    let h = c.requires in
    let r = c.in-Ok.ensures.reads h.trim h.ready in
    record {
      reading = λ e. reads_on (λ (s : Bor (List ℕ)). Some s.now) c.args.reader.now c.read_byte_record.new.self c.in-Ok.found (fields_of c.read_byte_record.new.row) e h r (c.in-Ok.ensures.ready h.trim);
      next = reads_next (λ (s : Bor (List ℕ)). Some s.now) c.args.reader.now c.read_byte_record.new.self c.in-Ok.found (fields_of c.read_byte_record.new.row) h r;
    }
