-- Free columns only rise.
use Rattle.std.proofs.Common.{◌≡◌, ℕ, suc, ◌<◌, ◌≤◌, List, [], ◌∷◌, sym, ◌∙◌, ap, subst, arith, length, drop, get_or}
use Rattle.hys_prog.proofs.Walking.{drop_here}
use Rattle.hys_ast.specs.declared.source.Kind.{Kind}
use Rattle.hys_ast.specs.declared.source.Kind.TheVariants as kind
use Rattle.hys_prog.specs.declared.program.Name.{Name}
use Rattle.hys_prog.specs.declared.program.Role.{Role}
use Rattle.hys_prog.specs.declared.program.Role.TheVariants.{State, Input, Output, Parameter, Aux}
use Rattle.hys_mld.specs.declared.placing.Free.{Free}
use Rattle.hys_mld.specs.Placing.{freed, after_name, after_names, AreNumbers}

-- each is at most the other's
pub record Below (s t : Free) : Type 0 where
  pub state : s.state ≤ t.state
  pub input : s.input ≤ t.input
  pub boolean : s.boolean ≤ t.boolean
  pub real : s.real ≤ t.real

one_rises : (r : Role) (d : Kind) (s : Free) → Below s (freed r d s)
one_rises State d s = record { state = omega arith; input = omega arith; boolean = omega arith; real = omega arith }
one_rises Input d s = record { state = omega arith; input = omega arith; boolean = omega arith; real = omega arith }
one_rises Output d s = record { state = omega arith; input = omega arith; boolean = omega arith; real = omega arith }
one_rises Parameter d s = record { state = omega arith; input = omega arith; boolean = omega arith; real = omega arith }
one_rises Aux kind.Real s = record { state = omega arith; input = omega arith; boolean = omega arith; real = omega arith }
one_rises Aux kind.Bool s = record { state = omega arith; input = omega arith; boolean = omega arith; real = omega arith }

below_numbers : (s t : Free) → Below s t → AreNumbers t → AreNumbers s
below_numbers s t b n =
    let b1 = b.state in let b2 = b.input in let b3 = b.boolean in let b4 = b.real in
    let n1 = n.state in let n2 = n.input in let n3 = n.boolean in let n4 = n.real in
    record { state = omega arith; input = omega arith; boolean = omega arith; real = omega arith }

-- where the last are numbers of 32 bits, the first are
pub numbers_before : (s : Free) (xs : List Name) → AreNumbers (after_names s xs) → AreNumbers s
numbers_before s [] n = n
numbers_before s (x ∷ xs) n = below_numbers s (after_name x s) (one_rises x.role x.kind s) (numbers_before (after_name x s) xs n)

-- at a name of the list
pub numbers_here : (xs : List Name) (i : ℕ) (x : Name) (s t : Free) → after_names s (drop i xs) ≡ t → AreNumbers t → i < length xs → x ≡ get_or xs i x → AreNumbers (after_name x s)
numbers_here xs i x s t e n b h = numbers_before (after_name x s) (drop (suc i) xs) (subst AreNumbers (sym e ∙ ap (after_names s) (drop_here xs i x b h)) n)
