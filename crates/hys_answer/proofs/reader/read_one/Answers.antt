use Rattle.serde_json.specs.View.{view}
use Rattle.hys_answer.proofs.Multiplied.{read_multiplied}
use Rattle.hys_answer.proofs.reader.read_one.Goals as goal

pub returns-clause-multiplied : goal.returns-clause-multiplied
returns-clause-multiplied c = read_multiplied (view c.args.value.now) c.read_value.result c.read_value.ensures
