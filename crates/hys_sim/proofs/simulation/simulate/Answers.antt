use Rattle.hys_sim.proofs.simulation.simulate.Goals as goal

pub returns-in-Ok-run-clause-simulated : goal.returns-in-Ok-run-clause-simulated
returns-in-Ok-run-clause-simulated c = record {
  state = c.in-Ok.state.items;
  started = c.in-Ok.ensures.value;
  runs = rw (c.deref.ensures.value, c.in-Ok-input_places.ensures.places) at c.in-Ok-run.ensures;
}
