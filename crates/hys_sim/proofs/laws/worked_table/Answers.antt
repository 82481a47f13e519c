use Rattle.std.proofs.Common.{refl}
use Rattle.std.specs.Float.Numeral.{scan_numeral}
use Rattle.std.specs.Str.{chars, is_utf8}
use Rattle.std.specs.Fmt.{digits}
use Rattle.csv.proofs.OnLiterals.{csv_on_literals}
use Rattle.hys_number.specs.Gcd.{gcd}
use Rattle.hys_number.specs.Number.{make}
use Rattle.hys_number.specs.Ops.{whole, fits}
use Rattle.hys_frac.specs.Read.{reading, unsigned_reading, literal_reading}
use Rattle.hys_frac.specs.Written.{number_text}
use Rattle.hys_sim.proofs.laws.worked_table.Goals as goal

pub returns-clause-passes : goal.returns-clause-passes
unfolding csv_on_literals chars is_utf8 lib.Utf8.encode scan_numeral reading unsigned_reading literal_reading fits whole make gcd
returns-clause-passes c = refl

pub returns-clause-start : goal.returns-clause-start
unfolding csv_on_literals scan_numeral reading unsigned_reading literal_reading fits whole make gcd
returns-clause-start c = refl

pub returns-clause-inputs : goal.returns-clause-inputs
unfolding csv_on_literals
returns-clause-inputs c = refl

pub returns-clause-text : goal.returns-clause-text
unfolding number_text whole make gcd digits
returns-clause-text c = refl
