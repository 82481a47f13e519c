use Rattle.std.proofs.Common.{◌≡◌, ◌≤◌, vec_len, ◌-◌}
use Rattle.hys_io.proofs.Fronts.{Front}
use Rattle.hys_io.proofs.reading.read_all.Given as goal

abbrev pub invariant-loop-bytes : goal.invariant-loop-bytes
invariant-loop-bytes g l = record {
  within : l.filled ≤ vec_len l.bytes;
  below : l.filled ≤ l.limit;
  front : Front (g.F.Files.held l.fn.files) l.name l.filled l.bytes.items;
  same : g.F.Files.held l.files ≡ g.F.Files.held l.fn.files;
  calm : g.F.Files.read_faults l.files ≡ g.F.Files.read_faults l.fn.files;
  puts : g.F.Files.put_faults l.files ≡ g.F.Files.put_faults l.fn.files;
}

abbrev pub decreases-loop-bytes : goal.decreases-loop-bytes
decreases-loop-bytes g l = l.limit - l.filled
