use Rattle.std.proofs.Common.{◌<◌, length, ◌+◌, ◌*◌}
use Rattle.hys_ast.specs.Seen.{tree_of}
use Rattle.hys_parse.specs.Reading.{operand_at, nested}
use Rattle.hys_parse.proofs.Chains.{Upto}
use Rattle.hys_parse.proofs.Heights.{height}
use Rattle.hys_parse.proofs.descent.+grammar.Given as goal

abbrev pub decreases-group : goal.decreases-group
decreases-group l = 20 * l.room

abbrev pub decreases-atom : goal.decreases-atom
decreases-atom l = 20 * l.room + 1

abbrev pub decreases-signed : goal.decreases-signed
decreases-signed l = 20 * l.room + 2

abbrev pub decreases-negation : goal.decreases-negation
decreases-negation l = 20 * l.room + 9

abbrev pub decreases-operand : goal.decreases-operand
decreases-operand l = 20 * l.room + height l.level

abbrev pub decreases-binary : goal.decreases-binary
decreases-binary l = 20 * l.room + height l.level + 1

abbrev pub invariant-binary-loop-op : goal.invariant-binary-loop-op
invariant-binary-loop-op l = (length l.rest < length l.tokens) × Upto l.level (operand_at (nested l.room) l.level) l.tokens (tree_of l.left) l.rest

abbrev pub decreases-binary-loop-op : goal.decreases-binary-loop-op
decreases-binary-loop-op l = length l.rest
