-- The names that a definition mentions, as a list.
use Rattle.std.specs.Prelude.{ℕ, zero, suc, Bool, not, List, [], ◌∷◌, ◌++◌}
use Rattle.std.proofs.Common.{get_or}
use Rattle.hys_lin.specs.declared.form.Term.{Term}
use Rattle.hys_formula.specs.Formulas.{FormulaTree, constant, named, negated, joined, tree_of}
use Rattle.hys_prog.specs.declared.program.ProgItem.{ProgItem}
use Rattle.hys_prog.specs.declared.program.Name.{Name}
use Rattle.hys_prog.specs.declared.program.Role.{Role}
use Rattle.hys_prog.specs.declared.program.Role.TheVariants.{State, Input, Output, Parameter, Aux}
use Rattle.hys_prog.specs.Steps.{is_auxiliary}
use Rattle.hys_prog.specs.declared.program.Body.{Body}
use Rattle.hys_prog.specs.declared.program.Body.TheVariants.{Guard, Choice, Logic, Linear, NextBool, NextReal, OutBool, OutReal, MustHold, MustMost, MustZero}

-- the names of a formula, from left to right
abbrev pub standing : FormulaTree → List ℕ
standing (constant b) = []
standing (named n) = n ∷ []
standing (negated f) = standing f
standing (joined c f g) = standing f ++ standing g

abbrev pub columns : List Term → List ℕ
columns [] = []
columns (t ∷ ts) = t.column ∷ columns ts

-- the names that the definition of an auxiliary mentions, from left to right
abbrev pub mentioned : Body → List ℕ
mentioned (Guard f e) = columns f.terms
mentioned (Choice l a b) = standing (tree_of l) ++ (columns a.terms ++ columns b.terms)
mentioned (Logic l) = standing (tree_of l)
mentioned (Linear f) = columns f.terms
mentioned (NextBool l) = []
mentioned (NextReal f) = []
mentioned (OutBool l) = []
mentioned (OutReal f) = []
mentioned (MustHold l) = []
mentioned (MustMost f) = []
mentioned (MustZero f) = []

-- what the definition at the place mentions
abbrev pub mentioned_at : List ProgItem → ℕ → List ℕ
mentioned_at [] k = []
mentioned_at (t ∷ ts) zero = mentioned t.body
mentioned_at (t ∷ ts) (suc k) = mentioned_at ts k

-- what a name of the role leads to, with the place of the item that defines it
abbrev pub link_of : List ProgItem → Role → ℕ → List ℕ
link_of items State k = []
link_of items Input k = []
link_of items Output k = []
link_of items Parameter k = []
link_of items Aux k = mentioned_at items k

-- what the names lead to, of which the first stands at place n
abbrev pub links_from : List ProgItem → List ℕ → ℕ → List Name → List (List ℕ)
links_from items places n [] = []
links_from items places n (x ∷ xs) = link_of items x.role (get_or places n 0) ∷ links_from items places (suc n) xs

-- of each name whether it is no auxiliary
abbrev pub others : List Name → List Bool
others [] = []
others (x ∷ xs) = not (is_auxiliary x.role) ∷ others xs
