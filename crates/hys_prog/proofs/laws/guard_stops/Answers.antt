use Rattle.hys_prog.proofs.Guards.{edge, edge_value, gap, tolerance, tolerance_value, outside, range, is_program, is_order, valued}
use Rattle.hys_prog.proofs.laws.guard_stops.Goals as goal

pub returns-clause-edge : goal.returns-clause-edge
returns-clause-edge c = edge

pub returns-clause-edge_value : goal.returns-clause-edge_value
returns-clause-edge_value c = edge_value

pub returns-clause-gap : goal.returns-clause-gap
returns-clause-gap c = gap

pub returns-clause-tolerance : goal.returns-clause-tolerance
returns-clause-tolerance c = tolerance

pub returns-clause-tolerance_value : goal.returns-clause-tolerance_value
returns-clause-tolerance_value c = tolerance_value

pub returns-clause-outside : goal.returns-clause-outside
returns-clause-outside c = outside

pub returns-clause-range : goal.returns-clause-range
returns-clause-range c = range

pub returns-clause-program : goal.returns-clause-program
returns-clause-program c = is_program

pub returns-clause-order : goal.returns-clause-order
returns-clause-order c = is_order

pub returns-clause-valued : goal.returns-clause-valued
returns-clause-valued c = valued
