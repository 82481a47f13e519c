-- Intervals that are those of the definitions over themselves.
use Rattle.std.specs.Prelude.{◌≡◌, ℕ, List, cond, length}
use Rattle.hys_lin.specs.declared.form.Interval.{Interval}
use Rattle.hys_lin.specs.Ranges.{box_at}
use Rattle.hys_prog.specs.declared.program.Name.{Name}
use Rattle.hys_prog.specs.declared.program.Program.{Program}
use Rattle.hys_prog.specs.Steps.{EachNameFrom, is_auxiliary}
use Rattle.hys_bound.specs.Ranges.{declared_interval, interval_at, place_in}

-- the interval of the name at the place: that of its definition over the intervals for an auxiliary, else as it is
-- declared
abbrev pub own_interval : List Interval → Program → ℕ → Name → Interval
own_interval boxes p n x =
    cond (is_auxiliary x.role) (interval_at boxes p.items (place_in p.items n)) (declared_interval x.role x)

-- each name has its own interval over all of them; there is no order of definition in it
pub record AreFixed (p : Program) (boxes : List Interval) : Type 0 where
  pub count : length boxes ≡ length p.names
  pub own : EachNameFrom 0 (λ n x. box_at boxes n ≡ own_interval boxes p n x) p.names
