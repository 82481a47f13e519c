-- What the files of the system tell: how often they have failed.
use Rattle.std.specs.Prelude.{ℕ, Bool, if◌then◌else◌}
use Rattle.hys_io.specs.Outside.{raised}

pub record FaultCounts : Type 0 where
  pub read_faults : ℕ
  pub put_faults : ℕ

-- after a read that went well, or failed
abbrev pub counted_read : Bool → FaultCounts → FaultCounts
counted_read well c = record c { read_faults = if well then c.read_faults else raised c.read_faults }

-- after a put that went well, or failed
abbrev pub counted_put : Bool → FaultCounts → FaultCounts
counted_put well c = record c { put_faults = if well then c.put_faults else raised c.put_faults }
