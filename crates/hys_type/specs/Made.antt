-- What is made of each declaration: its name for items, and its name in the program.
use Rattle.hys_ast.specs.Tree.{Decl, Source}
use Rattle.hys_prog.specs.declared.program.Name.{Name as ProgName}
use Rattle.hys_type.specs.Constants.{known_values}
use Rattle.hys_type.specs.Declarations.{box_of}
use Rattle.hys_type.specs.Translation.{role_in, IsNameOf, OneByOne}
use Rattle.hys_type.specs.declared.constant.Known.{Known}
use Rattle.hys_type.specs.declared.scope.Declared.{Declared}
use Rattle.std.specs.Prelude.{◌≡◌, List, ◌++◌, cond}
use Rattle.hys_number.specs.Ops.{whole}
use Rattle.hys_meaning.specs.Values.{Assignment}
use Rattle.hys_meaning.specs.Names.{parameters, is_parameter}

-- as items know it, with the value of a known parameter, or 0
abbrev pub declared : List Known → Decl → Declared
declared ks d = record { text = d.name; section = d.section; kind = d.kind; value = known_values ks d.name }

-- in the program, with its box and the value of a parameter
abbrev pub program_name : List Known → Decl → ProgName
program_name ks d = record {
  text = d.name;
  role = role_in d.section;
  kind = d.kind;
  place = d.place;
  bounds = box_of ks d;
  value = cond (is_parameter d.section) (known_values ks d.name) (whole 0);
}

-- the names of the declarations come first, in their order
pub record AreDeclaredFirst (w : Assignment) (ds : List Decl) (ns : List ProgName) : Type 0 where
  pub front : List ProgName
  pub more : List ProgName
  pub same : ns ≡ front ++ more
  pub names : OneByOne (IsNameOf w) ds front

-- the names are one by one those of the declarations of a source
abbrev pub AreNamesOf : Source → List ProgName → Type 0
AreNamesOf s ns = OneByOne (IsNameOf (parameters s.decls)) s.decls ns

-- those of the declarations of a source come first
abbrev pub AreNamesFirst : Source → List ProgName → Type 0
AreNamesFirst s ns = AreDeclaredFirst (parameters s.decls) s.decls ns
