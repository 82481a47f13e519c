use Rattle.hys_ast.specs.Places.{lexemes_of}
use Rattle.hys_parse.proofs.Whole.{whole_complete, whole_only}
use Rattle.hys_parse.proofs.laws.one_tree.Goals as goal

pub returns : goal.returns
returns c = λ text tokens a b one other. whole_only (lexemes_of text tokens) b a (whole_complete (lexemes_of text tokens) b other) one
