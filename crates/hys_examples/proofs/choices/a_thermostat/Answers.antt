use Rattle.hys_examples.proofs.Heated.{thermostat_accepted, first, second, run}
use Rattle.hys_examples.proofs.choices.a_thermostat.Goals as goal

pub returns : goal.returns
returns c = record { accepted = thermostat_accepted; first = first; second = second; run = run }
