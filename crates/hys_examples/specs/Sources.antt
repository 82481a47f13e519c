-- The sources that are worked out.
use Rattle.std.specs.Prelude.{ℕ, List, [], ◌∷◌, codes, pos, Some, None, true}
use Rattle.hys_number.specs.Number.{Number, make}
use Rattle.hys_ast.specs.declared.tree.BinaryOp.TheVariants as binary
use Rattle.hys_ast.specs.declared.source.Section.TheVariants as section
use Rattle.hys_ast.specs.Tree.{Tree, Item, Source}
use Rattle.hys_examples.specs.Trees.{number, name, cast, truth, negated, minus, both, real_in, real, bool, parameter, bool_parameter, item, choice, must, place, number_at, both_at, item_at}

abbrev pub n_over : ℕ → ℕ → Number
n_over n d = make (pos n) d

-- the tolerance of guards
abbrev pub tolerance : Number
tolerance = n_over 1 1000

-- STATE { REAL x [0, 10]; }, AUX { BOOL d; }, AD { d = e; }, CONTINUOUS { x = x; }
abbrev pub guarded_by : Tree → Source
guarded_by e = record {
  system = codes "g";
  decls = real_in section.State (codes "x") (number (codes "0")) (number (codes "10")) ∷ bool section.Aux (codes "d") ∷ [];
  items = item section.Ad (codes "d") e ∷ item section.Continuous (codes "x") (name (codes "x")) ∷ [];
}

-- d = x >= 5
abbrev pub guarded : Source
guarded = guarded_by (both binary.Least (name (codes "x")) (number (codes "5")))

-- d = x <= 20
abbrev pub always : Source
always = guarded_by (both binary.Most (name (codes "x")) (number (codes "20")))

-- AUX { BOOL d1, d2; }, LOGIC { d1 = d2; d2 = ~d1; }
abbrev pub led_round : Source
led_round = record {
  system = codes "y";
  decls = bool section.Aux (codes "d1") ∷ bool section.Aux (codes "d2") ∷ [];
  items = item section.Logic (codes "d1") (name (codes "d2")) ∷ item section.Logic (codes "d2") (negated (name (codes "d1"))) ∷ [];
}

-- AUX { BOOL d; }, LOGIC { d = d; }
abbrev pub led_to_itself : Source
led_to_itself = record {
  system = codes "y";
  decls = bool section.Aux (codes "d") ∷ [];
  items = item section.Logic (codes "d") (name (codes "d")) ∷ [];
}

-- STATE { REAL x [3, high]; }, CONTINUOUS { x = x; }
abbrev pub boxed : List ℕ → Source
boxed high = record {
  system = codes "p";
  decls = real_in section.State (codes "x") (number (codes "3")) (number high) ∷ [];
  items = item section.Continuous (codes "x") (name (codes "x")) ∷ [];
}

-- STATE { REAL x [0, 10]; }, INPUT { REAL y [0, 1]; BOOL a; }, CONTINUOUS { x = e; }
abbrev pub goes_to : Tree → Source
goes_to e = record {
  system = codes "k";
  decls = real_in section.State (codes "x") (number (codes "0")) (number (codes "10")) ∷ real_in section.Input (codes "y") (number (codes "0")) (number (codes "1")) ∷ bool section.Input (codes "a") ∷ [];
  items = item section.Continuous (codes "x") e ∷ [];
}

-- x * y
abbrev pub two_names : Source
two_names = goes_to (both binary.Mul (name (codes "x")) (name (codes "y")))

-- x / (2 - 2)
abbrev pub by_zero : Source
by_zero = goes_to (both binary.Div (name (codes "x")) (both binary.Sub (number (codes "2")) (number (codes "2"))))

-- a + 1
abbrev pub of_two_kinds : Source
of_two_kinds = goes_to (both binary.Add (name (codes "a")) (number (codes "1")))

-- x * 2, the like of which is right
abbrev pub doubled : Source
doubled = goes_to (both binary.Mul (name (codes "x")) (number (codes "2")))

-- STATE { REAL x [0, 10]; }, INPUT { REAL u [-1, 1]; }, CONTINUOUS { x = x + u; }, and more items
abbrev pub summing : List Item → Source
summing more = record {
  system = codes "s";
  decls = real_in section.State (codes "x") (number (codes "0")) (number (codes "10")) ∷ real_in section.Input (codes "u") (minus (number (codes "1"))) (number (codes "1")) ∷ [];
  items = item section.Continuous (codes "x") (both binary.Add (name (codes "x")) (name (codes "u"))) ∷ more;
}

abbrev pub summed : Source
summed = summing []

-- MUST { x <= 5; }
abbrev pub demanding : Source
demanding = summing (must (both binary.Most (name (codes "x")) (number (codes "5"))) ∷ [])

-- STATE { REAL x [0, 10]; }, INPUT { BOOL a, b; }, AUX { REAL z; },
-- DA { z = { IF a <-> ~b THEN 2*x }; }, CONTINUOUS { x = x; }
abbrev pub choosing : Source
choosing = record {
  system = codes "c";
  decls = real_in section.State (codes "x") (number (codes "0")) (number (codes "10")) ∷ bool section.Input (codes "a") ∷ bool section.Input (codes "b") ∷ real section.Aux (codes "z") ∷ [];
  items =
      choice (codes "z") (both binary.Iff (name (codes "a")) (negated (name (codes "b")))) (both binary.Mul (number (codes "2")) (name (codes "x"))) None
      ∷ item section.Continuous (codes "x") (name (codes "x")) ∷ [];
}

-- A thermostat. STATE { REAL T [-10, 60]; BOOL on; }, INPUT { REAL amb [-10, 30]; }, OUTPUT { REAL y; },
-- PARAMETER { REAL a = 0.8; REAL b = 1 - a; }, AUX { BOOL hot, cold; REAL heat; },
-- AD { hot = T >= 22; cold = T <= 18; }, DA { heat = { IF on THEN 30 ELSE 0 }; },
-- AUTOMATA { on = cold | (on & ~hot); }, CONTINUOUS { T = a*T + b*(amb + heat); },
-- OUTPUT { y = T; }, MUST { T <= 55; }
abbrev pub thermostat : Source
thermostat = record {
  system = codes "thermostat";
  decls =
      real_in section.State (codes "T") (minus (number (codes "10"))) (number (codes "60"))
      ∷ bool section.State (codes "on")
      ∷ real_in section.Input (codes "amb") (minus (number (codes "10"))) (number (codes "30"))
      ∷ real section.Output (codes "y")
      ∷ parameter (codes "a") (number (codes "0.8"))
      ∷ parameter (codes "b") (both binary.Sub (number (codes "1")) (name (codes "a")))
      ∷ bool section.Aux (codes "hot")
      ∷ bool section.Aux (codes "cold")
      ∷ real section.Aux (codes "heat")
      ∷ [];
  items =
      item section.Ad (codes "hot") (both binary.Least (name (codes "T")) (number (codes "22")))
      ∷ item section.Ad (codes "cold") (both binary.Most (name (codes "T")) (number (codes "18")))
      ∷ choice (codes "heat") (name (codes "on")) (number (codes "30")) (Some (number (codes "0")))
      ∷ item section.Automata (codes "on") (both binary.Or (name (codes "cold")) (both binary.And (name (codes "on")) (negated (name (codes "hot")))))
      ∷ item section.Continuous (codes "T")
      (both binary.Add (both binary.Mul (name (codes "a")) (name (codes "T"))) (both binary.Mul (name (codes "b")) (both binary.Add (name (codes "amb")) (name (codes "heat")))))
      ∷ item section.OutputItem (codes "y") (name (codes "T"))
      ∷ must (both binary.Most (name (codes "T")) (number (codes "55")))
      ∷ [];
}

-- STATE { REAL x [0, 10]; }, INPUT { BOOL a, b; }, CONTINUOUS { x = x + 3*(REAL a) + 2*(REAL b); },
-- MUST { 3*(REAL a) + 2*(REAL b) <= 4; }
abbrev pub weighed : Tree → Tree → Tree
weighed a b = both binary.Add (both binary.Mul (number (codes "3")) a) (both binary.Mul (number (codes "2")) b)

abbrev pub casting : Source
casting = record {
  system = codes "b";
  decls = real_in section.State (codes "x") (number (codes "0")) (number (codes "10")) ∷ bool section.Input (codes "a") ∷ bool section.Input (codes "b") ∷ [];
  items =
      item section.Continuous (codes "x") (both binary.Add (both binary.Add (name (codes "x")) (both binary.Mul (number (codes "3")) (cast (codes "a")))) (both binary.Mul (number (codes "2")) (cast (codes "b"))))
      ∷ must (both binary.Most (weighed (cast (codes "a")) (cast (codes "b"))) (number (codes "4"))) ∷ [];
}

-- STATE { REAL x [0, high]; }, CONTINUOUS { x = x; }
abbrev pub boxed_by : Tree → Source
boxed_by high = record {
  system = codes "p";
  decls = real_in section.State (codes "x") (number (codes "0")) high ∷ [];
  items = item section.Continuous (codes "x") (name (codes "x")) ∷ [];
}

-- INPUT { REAL u [0, 1]; }, AUX { REAL z; }, LINEAR { z = e; }
abbrev pub linear_by : Tree → Source
linear_by e = record {
  system = codes "l";
  decls = real_in section.Input (codes "u") (number (codes "0")) (number (codes "1")) ∷ real section.Aux (codes "z") ∷ [];
  items = item section.Linear (codes "z") e ∷ [];
}

-- z - z + u
abbrev pub cancelled : Source
cancelled = linear_by (both binary.Add (both binary.Sub (name (codes "z")) (name (codes "z"))) (name (codes "u")))

-- z + u
abbrev pub kept : Source
kept = linear_by (both binary.Add (name (codes "z")) (name (codes "u")))

-- PARAMETER { REAL b = a; REAL a = 1; }
abbrev pub too_early : Source
too_early = record {
  system = codes "q";
  decls = parameter (codes "b") (name (codes "a")) ∷ parameter (codes "a") (number (codes "1")) ∷ [];
  items = [];
}

-- STATE { REAL x [0, a]; }, PARAMETER { REAL a = 1; }, CONTINUOUS { x = x; }
abbrev pub bounded_later : Source
bounded_later = record {
  system = codes "q";
  decls = real_in section.State (codes "x") (number (codes "0")) (name (codes "a")) ∷ parameter (codes "a") (number (codes "1")) ∷ [];
  items = item section.Continuous (codes "x") (name (codes "x")) ∷ [];
}

-- ---- one rule broken in each
-- STATE { REAL x [0, 10]; }, INPUT { BOOL x; }, CONTINUOUS { x = x; }
abbrev pub declared_twice : Source
declared_twice = record {
  system = codes "t";
  decls = real_in section.State (codes "x") (number (codes "0")) (number (codes "10")) ∷ bool section.Input (codes "x") ∷ [];
  items = item section.Continuous (codes "x") (name (codes "x")) ∷ [];
}

-- PARAMETER { REAL a; }
abbrev pub without_value : Source
without_value = record { system = codes "v"; decls = real section.Parameter (codes "a") ∷ []; items = [] }

-- STATE { REAL x; }, CONTINUOUS { x = x; }
abbrev pub without_box : Source
without_box = record { system = codes "v"; decls = real section.State (codes "x") ∷ []; items = item section.Continuous (codes "x") (name (codes "x")) ∷ [] }

-- AUX { BOOL d; }, OUTPUT { REAL y; } and some items
abbrev pub with_items : List Item → Source
with_items is = record { system = codes "i"; decls = bool section.Aux (codes "d") ∷ real section.Output (codes "y") ∷ []; items = is }

-- y = 1
abbrev pub shown : Item
shown = item section.OutputItem (codes "y") (number (codes "1"))

-- d = TRUE
abbrev pub settled : Item
settled = item section.Logic (codes "d") (truth true)

-- ---- numbers of 64 bits
-- one line, with the upper end at byte 42: STATE { REAL x [0, E]; }, CONTINUOUS { x = x; }
abbrev pub ends_at : List ℕ → Source
ends_at text = boxed_by (number_at (place 42 1 43) text)

-- line 4, behind 82 bytes: STATE { REAL x [0, 10]; }, CONTINUOUS { x = 9223372036854775807*x + x; }
abbrev pub too_steep : Source
too_steep = record {
  system = codes "t";
  decls = real_in section.State (codes "x") (number (codes "0")) (number (codes "10")) ∷ [];
  items =
      item_at (place 82 4 1) section.Continuous (codes "x")
      (both_at (place 108 4 27) binary.Add (both_at (place 105 4 24) binary.Mul (number_at (place 86 4 5) (codes "9223372036854775807")) (name (codes "x"))) (name (codes "x"))) ∷ [];
}

-- line 3, behind 106 bytes: STATE { REAL x [0, 9223372036854775807]; }, AUX { BOOL d; }, AD { d = x <= -1; },
-- CONTINUOUS { x = x; }
abbrev pub too_wide : Source
too_wide = record {
  system = codes "w";
  decls = real_in section.State (codes "x") (number (codes "0")) (number (codes "9223372036854775807")) ∷ bool section.Aux (codes "d") ∷ [];
  items = item_at (place 106 3 1) section.Ad (codes "d") (both binary.Most (name (codes "x")) (minus (number (codes "1")))) ∷ item section.Continuous (codes "x") (name (codes "x")) ∷ [];
}

-- lines 3 and 4, behind 101 bytes: STATE { REAL x [0, 10]; }, AUX { REAL far, near; }, LINEAR { far = 2*near; near = x + 1; },
-- CONTINUOUS { x = x; }
abbrev pub in_turn : Source
in_turn = record {
  system = codes "o";
  decls = real_in section.State (codes "x") (number (codes "0")) (number (codes "10")) ∷ real section.Aux (codes "far") ∷ real section.Aux (codes "near") ∷ [];
  items =
      item_at (place 101 3 1) section.Linear (codes "far") (both binary.Mul (number (codes "2")) (name (codes "near")))
      ∷ item_at (place 115 4 1) section.Linear (codes "near") (both binary.Add (name (codes "x")) (number (codes "1")))
      ∷ item section.Continuous (codes "x") (name (codes "x")) ∷ [];
}

-- STATE { REAL x [0, 10]; }, INPUT { BOOL a; }, AUX { REAL z; }, DA { z = { IF a THEN 2*x }; },
-- CONTINUOUS { x = x; }
abbrev pub switched : Source
switched = record {
  system = codes "c";
  decls = real_in section.State (codes "x") (number (codes "0")) (number (codes "10")) ∷ bool section.Input (codes "a") ∷ real section.Aux (codes "z") ∷ [];
  items = choice (codes "z") (name (codes "a")) (both binary.Mul (number (codes "2")) (name (codes "x"))) None ∷ item section.Continuous (codes "x") (name (codes "x")) ∷ [];
}

-- the same with z = { IF ~a THEN x + (REAL a) ELSE 1 }
abbrev pub mixed : Source
mixed = record {
  system = codes "c";
  decls = real_in section.State (codes "x") (number (codes "0")) (number (codes "10")) ∷ bool section.Input (codes "a") ∷ real section.Aux (codes "z") ∷ [];
  items = choice (codes "z") (negated (name (codes "a"))) (both binary.Add (name (codes "x")) (cast (codes "a"))) (Some (number (codes "1"))) ∷ item section.Continuous (codes "x") (name (codes "x")) ∷ [];
}

-- the same with z = { IF a THEN x - 3 ELSE 2*x }
abbrev pub spread : Source
spread = record {
  system = codes "c";
  decls = real_in section.State (codes "x") (number (codes "0")) (number (codes "10")) ∷ bool section.Input (codes "a") ∷ real section.Aux (codes "z") ∷ [];
  items =
      choice (codes "z") (name (codes "a")) (both binary.Sub (name (codes "x")) (number (codes "3"))) (Some (both binary.Mul (number (codes "2")) (name (codes "x"))))
      ∷ item section.Continuous (codes "x") (name (codes "x")) ∷ [];
}

-- STATE { REAL x [0, 10]; }, AUX { REAL z; BOOL d; }, LINEAR { z = 3*(REAL d); }, AD { d = x >= 5; },
-- CONTINUOUS { x = x; }
abbrev pub graded : Source
graded = record {
  system = codes "r";
  decls = real_in section.State (codes "x") (number (codes "0")) (number (codes "10")) ∷ real section.Aux (codes "z") ∷ bool section.Aux (codes "d") ∷ [];
  items =
      item section.Linear (codes "z") (both binary.Mul (number (codes "3")) (cast (codes "d")))
      ∷ item section.Ad (codes "d") (both binary.Least (name (codes "x")) (number (codes "5")))
      ∷ item section.Continuous (codes "x") (name (codes "x")) ∷ [];
}

-- STATE { REAL x [0, 10]; }, PARAMETER { BOOL p = TRUE; }, AUX { REAL z; }, DA { z = { IF p THEN x }; },
-- CONTINUOUS { x = x; }
abbrev pub decided : Source
decided = record {
  system = codes "c";
  decls = real_in section.State (codes "x") (number (codes "0")) (number (codes "10")) ∷ bool_parameter (codes "p") (truth true) ∷ real section.Aux (codes "z") ∷ [];
  items = choice (codes "z") (name (codes "p")) (name (codes "x")) None ∷ item section.Continuous (codes "x") (name (codes "x")) ∷ [];
}

-- one line, with two literals that don't fit, in a bound and behind it in a parameter's value:
-- STATE { REAL x [0, 9223372036854775808]; }, PARAMETER { REAL a = 9223372036854775809; },
-- CONTINUOUS { x = x; }
abbrev pub long_twice : Source
long_twice = record {
  system = codes "p";
  decls = real_in section.State (codes "x") (number (codes "0")) (number_at (place 42 1 43) (codes "9223372036854775808")) ∷ parameter (codes "a") (number_at (place 87 1 88) (codes "9223372036854775809")) ∷ [];
  items = item section.Continuous (codes "x") (name (codes "x")) ∷ [];
}

-- d = x >= 0.5
abbrev pub halved : Source
halved = guarded_by (both binary.Least (name (codes "x")) (number (codes "0.5")))

-- the same over a box of 0 to 9223372036854775807
abbrev pub halved_far : Source
halved_far = record {
  system = codes "g";
  decls = real_in section.State (codes "x") (number (codes "0")) (number (codes "9223372036854775807")) ∷ bool section.Aux (codes "d") ∷ [];
  items = item section.Ad (codes "d") (both binary.Least (name (codes "x")) (number (codes "0.5"))) ∷ item section.Continuous (codes "x") (name (codes "x")) ∷ [];
}
