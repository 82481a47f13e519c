use Rattle.std.proofs.Common.{subst, refl, Contains}
use Rattle.hys_io.specs.Outside.{raised}
use Rattle.hys_io.proofs.mem_files.MemFilesFiles.put.Goals as goal

pub returns-then-fails-clause-refused : goal.returns-then-fails-clause-refused
returns-then-fails-clause-refused c = (
  λ _. subst (λ s. Contains s.failing (raised s.calls)) c.self.view_is (c.fails.ensures.listed.0 c.if-fails.true),
  λ _. refl,
)
