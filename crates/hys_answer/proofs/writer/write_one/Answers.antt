use Rattle.hys_answer.proofs.Claimed.{all_stand}
use Rattle.hys_answer.proofs.writer.write_one.Goals as goal

pub returns-clause-reads : goal.returns-clause-reads
returns-clause-reads c = all_stand c.args.answer.now c.answer_value.result c.answer_value.ensures.value c.answer_value.ensures.fits
