-- The exit statuses of the program.
use Rattle.std.specs.Prelude.{ℕ}
use Rattle.hys_app.specs.declared.status.Status.{Status}
use Rattle.hys_app.specs.declared.status.Status.TheVariants.{Done, NoTrajectory, Usage, Read, Write, Source, Input, Stopped, Spent, Range, Memory}

unfoldable pub number_of : Status → ℕ
number_of Done = 0
number_of NoTrajectory = 1
number_of Usage = 2
number_of Read = 3
number_of Write = 4
number_of Source = 5
number_of Input = 6
number_of Stopped = 7
number_of Spent = 8
number_of Range = 9
number_of Memory = 10
