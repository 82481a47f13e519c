-- Sources with guards that have a tolerance of their own, or no name.
use Rattle.std.specs.Prelude.{◌≡◌, ℕ, List, [], ◌∷◌, codes, Some, None}
use Rattle.hys_ast.specs.declared.tree.BinaryOp.TheVariants as binary
use Rattle.hys_ast.specs.declared.source.Section.TheVariants as section
use Rattle.hys_ast.specs.Tree.{Tree, Decl, Item, Source}
use Rattle.hys_ast.specs.Tree as tree
use Rattle.hys_meaning.specs.Typed.{Typed}
use Rattle.hys_meaning.specs.Circular.{Circular, Leads}
use Rattle.hys_meaning.specs.Unfolded.{unfolded}
use Rattle.hys_meaning.specs.Weight.{weight}
use Rattle.hys_examples.specs.Trees.{somewhere, number, name, cast, negated, both, real_in, real, bool, item, choice, must}

-- d = x >= 5 [e]
abbrev pub tolerant : Tree → Item
tolerant e = record { section = section.Ad; name = Some (codes "d"); place = somewhere; shape = tree.Wide (both binary.Least (name (codes "x")) (number (codes "5"))) e }

-- STATE { REAL x [0, 10]; }, AUX { BOOL d; }, AD { d = x >= 5 [e]; }, CONTINUOUS { x = x; }
abbrev pub tolerant_by : Tree → Source
tolerant_by e = record {
  system = codes "g";
  decls = real_in section.State (codes "x") (number (codes "0")) (number (codes "10")) ∷ bool section.Aux (codes "d") ∷ [];
  items = tolerant e ∷ item section.Continuous (codes "x") (name (codes "x")) ∷ [];
}

-- 1/2
abbrev pub half : Tree
half = both binary.Div (number (codes "1")) (number (codes "2"))

abbrev pub own : Source
own = tolerant_by half

-- x <= 4
abbrev pub low : Tree
low = both binary.Most (name (codes "x")) (number (codes "4"))

-- the declarations STATE { REAL x [0, 10]; }, INPUT { BOOL a; }, AUX { BOOL d; }
abbrev pub declared : List Decl
declared = real_in section.State (codes "x") (number (codes "0")) (number (codes "10")) ∷ bool section.Input (codes "a") ∷ bool section.Aux (codes "d") ∷ []

-- LOGIC { d = a & x <= 4; }, CONTINUOUS { x = x; }
abbrev pub inner : Source
inner = record {
  system = codes "h";
  decls = declared;
  items = item section.Logic (codes "d") (both binary.And (name (codes "a")) low) ∷ item section.Continuous (codes "x") (name (codes "x")) ∷ [];
}

-- the same with a name for the guard
abbrev pub inner_by : List ℕ → Source
inner_by n = record {
  system = codes "h";
  decls = real_in section.State (codes "x") (number (codes "0")) (number (codes "10")) ∷ bool section.Input (codes "a") ∷ bool section.Aux (codes "d") ∷ bool section.Aux n ∷ [];
  items = item section.Ad n low ∷ item section.Logic (codes "d") (both binary.And (name (codes "a")) (name n)) ∷ item section.Continuous (codes "x") (name (codes "x")) ∷ [];
}

-- AUX { BOOL d; REAL z; }, LOGIC { d = z <= 5; }, LINEAR { z = (REAL d); }
abbrev pub through_guard : Source
through_guard = record {
  system = codes "y";
  decls = bool section.Aux (codes "d") ∷ real section.Aux (codes "z") ∷ [];
  items = item section.Logic (codes "d") (both binary.Most (name (codes "z")) (number (codes "5"))) ∷ item section.Linear (codes "z") (cast (codes "d")) ∷ [];
}

-- the same with a name for the guard
abbrev pub through_by : List ℕ → Source
through_by n = record {
  system = codes "y";
  decls = bool section.Aux (codes "d") ∷ real section.Aux (codes "z") ∷ bool section.Aux n ∷ [];
  items = item section.Ad n (both binary.Most (name (codes "z")) (number (codes "5"))) ∷ item section.Logic (codes "d") (name n) ∷ item section.Linear (codes "z") (cast (codes "d")) ∷ [];
}

-- comparisons in a demand, at its top, in an output, in a condition, and at the top of an AD item
abbrev pub everywhere : List Item
everywhere =
    must low ∷ must (negated low) ∷ item section.OutputItem (codes "y") low
    ∷ choice (codes "z") (both binary.Or low (both binary.Least (name (codes "x")) (number (codes "5")))) (name (codes "x")) None
    ∷ item section.Ad (codes "d") low ∷ []

-- what they are with names for their guards: the tops of MUST and AD stay
abbrev pub everywhere_by : (a b c d : List ℕ) → List Item
everywhere_by a b c d =
    must low ∷ item section.Ad a low ∷ must (negated (name a)) ∷ item section.Ad b low ∷ item section.OutputItem (codes "y") (name b)
    ∷ item section.Ad c low ∷ item section.Ad d (both binary.Least (name (codes "x")) (number (codes "5")))
    ∷ choice (codes "z") (both binary.Or (name c) (name d)) (name (codes "x")) None
    ∷ item section.Ad (codes "d") low ∷ []

abbrev pub with_all : List Item → Source
with_all is = record { system = codes "e"; decls = declared; items = is }

-- what is said of these sources
pub record LastForm : Type 0 where
  -- the guard within a formula gets its name, and weighs as much as a declared one
  pub inner_named : unfolded inner ≡ inner_by (codes "@1")
  pub inner_weight : weight inner ≡ 5
  -- an inner comparison at every place, numbered by items
  pub all_named : (unfolded (with_all everywhere)).items ≡ everywhere_by (codes "@1") (codes "@2") (codes "@3") (codes "@4")
  -- typed with a tolerance above 0, and not with 0
  pub tolerance_typed : Typed (unfolded own)
  pub zero_refused : ¬ (Typed (unfolded (tolerant_by (number (codes "0")))))
  -- a comparison is no tolerance
  pub comparison_refused : ¬ (Typed (unfolded (tolerant_by low)))
  -- what stands within a comparison is no mention by the item around it
  pub no_mention : ¬ (Leads (unfolded through_guard) (codes "d") (codes "z"))
  -- a circle through a guard
  pub circle : Circular (unfolded through_guard) (codes "d" ∷ codes "@1" ∷ codes "z" ∷ [])
