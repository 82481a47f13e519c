use Rattle.std.proofs.Common.{◌≡◌, ◌++◌, drop}
use Rattle.hys_order.specs.Lists.{columns}
use Rattle.hys_order.proofs.mentions.add_columns.Given as goal

-- with the columns of the terms that are left the names are those of all
abbrev pub invariant-loop-term : goal.invariant-loop-term
invariant-loop-term l = l.fn.names.items ++ columns l.terms ≡ l.names.items ++ columns (drop l.term-index l.terms)
