-- What is made of the unnamed guards of a source: their names, and their items.
use Rattle.std.specs.Prelude.{ℕ, suc, ◌+◌, ◌-◌, List, [], ◌∷◌, ◌++◌, Some, length}
use Rattle.hys_number.specs.Number.{Number}
use Rattle.hys_number.specs.Ops.{whole}
use Rattle.hys_ast.specs.declared.place.Place.{Place}
use Rattle.hys_ast.specs.declared.source.Kind.TheVariants as kind
use Rattle.hys_meaning.specs.Unfolded.{guard_name}
use Rattle.hys_prog.specs.declared.program.Role.TheVariants as role
use Rattle.hys_prog.specs.declared.program.Body.TheVariants as means
use Rattle.hys_prog.specs.declared.program.Name.{Name as ProgName}
use Rattle.hys_prog.specs.declared.program.ProgItem.{ProgItem}
use Rattle.hys_type.specs.declared.built.Guard.{Guard}

-- the name of the unnamed guard with a number, whose sign stands at the place
abbrev pub name_of_guard : ℕ → Place → ProgName
name_of_guard k p = record {
  text = guard_name k;
  role = role.Aux;
  kind = kind.Bool;
  place = p;
  bounds = record { low = whole 0; high = whole 1 };
  value = whole 0;
}

-- the names of guards with numbers from k on
abbrev pub names_of_guards : ℕ → List Guard → List ProgName
names_of_guards k [] = []
names_of_guards k (g ∷ gs) = name_of_guard k g.place ∷ names_of_guards (suc k) gs

-- the item of a guard whose name stands at a place
abbrev pub item_of_guard : ℕ → Number → Guard → ProgItem
item_of_guard j tolerance g = record { name = Some j; place = g.place; body = means.Guard g.number tolerance }

-- the items of guards whose names stand from a place on
abbrev pub items_of_guards : ℕ → Number → List Guard → List ProgItem
items_of_guards j tolerance [] = []
items_of_guards j tolerance (g ∷ gs) = item_of_guard j tolerance g ∷ items_of_guards (suc j) tolerance gs

-- names, of which so many are declared, and those of guards behind them
abbrev pub put_guard_names : ℕ → List ProgName → List Guard → List ProgName
put_guard_names declared ns gs = ns ++ names_of_guards (length ns - declared + 1) gs

-- items, and those of guards whose names stand behind the names
abbrev pub put_guard_items : List ProgName → Number → List ProgItem → List Guard → List ProgItem
put_guard_items ns tolerance is gs = is ++ items_of_guards (length ns) tolerance gs
