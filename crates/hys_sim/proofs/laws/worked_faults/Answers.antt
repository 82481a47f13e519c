use Rattle.std.proofs.Common.{refl}
use Rattle.std.specs.Float.Numeral.{scan_numeral}
use Rattle.std.specs.Str.{chars, is_utf8}
use Rattle.csv.proofs.OnLiterals.{csv_on_literals}
use Rattle.hys_number.specs.Gcd.{gcd}
use Rattle.hys_number.specs.Number.{make}
use Rattle.hys_number.specs.Ops.{whole, fits}
use Rattle.hys_frac.specs.Read.{reading, unsigned_reading, literal_reading}
use Rattle.hys_sim.proofs.laws.worked_faults.Goals as goal

pub returns-clause-column : goal.returns-clause-column
unfolding csv_on_literals chars is_utf8 lib.Utf8.encode
returns-clause-column c = refl

pub returns-clause-missing : goal.returns-clause-missing
unfolding csv_on_literals chars is_utf8 lib.Utf8.encode
returns-clause-missing c = refl

pub returns-clause-header : goal.returns-clause-header
unfolding csv_on_literals
returns-clause-header c = refl

pub returns-clause-length : goal.returns-clause-length
unfolding csv_on_literals chars is_utf8 lib.Utf8.encode
returns-clause-length c = refl

pub returns-clause-rows : goal.returns-clause-rows
unfolding csv_on_literals chars is_utf8 lib.Utf8.encode
returns-clause-rows c = refl

pub returns-clause-value : goal.returns-clause-value
unfolding csv_on_literals chars is_utf8 lib.Utf8.encode scan_numeral reading unsigned_reading literal_reading fits whole make gcd
returns-clause-value c = refl
