-- Items.
use Rattle.std.proofs.Common.{◌≡◌, ℕ, zero, suc, ◌<◌, List, [], ◌∷◌, ◌++◌, map, drop, length, get_or, ap, sym, subst, Result}
use Rattle.std.specs.List.{AllByRecursion}
use Rattle.std.proofs.Math.Seq.{drop-nil}
use Rattle.hys_ast.specs.Tree as tree
use Rattle.hys_ast.specs.declared.source.Item.{Item}
use Rattle.hys_ast.specs.Seen.{item_of}
use Rattle.std.proofs.lemmas.List.{append-nil}
use Rattle.hys_type.specs.Faults.{Check, first_fault, Answers}
use Rattle.hys_type.specs.declared.fault.TypeFault.{TypeFault}
use Rattle.hys_type.proofs.Operators.{answers_as}
use Rattle.hys_type.proofs.Walks.{drop_here}

pub no_tolerance : {T : Type 0} (r : Result T TypeFault) (cs : List Check) → Answers r cs → Answers r (cs ++ [])
no_tolerance r cs h = answers_as r cs (cs ++ []) (ap first_fault (sym (append-nil cs))) h

-- what holds of each item
dropped : (P : tree.Item → Type 0) (xs : List Item) (n : ℕ) → AllByRecursion P (map item_of xs) → AllByRecursion P (map item_of (drop n xs))
dropped P [] n w = subst (λ ys. AllByRecursion P (map item_of ys)) (sym (drop-nil n)) tt
dropped P (x ∷ xs) zero w = w
dropped P (x ∷ xs) (suc n) w = dropped P xs n w.1

pub each_item : (P : tree.Item → Type 0) (is : List Item) (k : ℕ) (i : Item) → k < length is → i ≡ get_or is k i → AllByRecursion P (map item_of is) → P (item_of i)
each_item P is k i h e w = (subst (λ zs. AllByRecursion P (map item_of zs)) (drop_here is k i h e) (dropped P is k w)).0
