-- Expressions in their places.
use Rattle.std.proofs.Common.{◌≡◌, List, [], ◌∷◌, Option, Some, None, Bool, sym, ◌∙◌, ap, ap₂, subst, Result, Ok, Err, IfOk}
use Rattle.std.specs.Result.{result_err, IsErr, IsErrAnd}
use Rattle.hys_ast.specs.declared.place.Place.{Place}
use Rattle.hys_ast.specs.declared.source.Kind.TheVariants as kind
use Rattle.hys_ast.specs.Tree.{Tree}
use Rattle.hys_number.specs.Number.{Number}
use Rattle.hys_number.specs.Ops.{whole}
use Rattle.hys_frac.specs.Compare.{number_cmp}
use Rattle.hys_meaning.specs.Names.{Name}
use Rattle.hys_meaning.specs.Values.{value, given}
use Rattle.hys_type.specs.Faults.{Check, check, first_fault, Answers}
use Rattle.hys_type.specs.Constants.{known_values}
use Rattle.hys_type.specs.Nodes.{node_checks}
use Rattle.hys_type.specs.Declarations.{place_of, constant_of_kind}
use Rattle.hys_type.specs.Checks.{expression, is_less, tolerance_checks}
use Rattle.hys_type.specs.Operands.{IsNode}
use Rattle.hys_type.specs.declared.constant.Known.{Known}
use Rattle.hys_type.specs.declared.node.Node.{Node}
use Rattle.hys_type.specs.declared.node.Node.TheVariants as node
use Rattle.hys_type.specs.declared.dense.Dense.{Dense}
use Rattle.hys_type.specs.Dense.{IsDense}
use Rattle.hys_meaning.specs.Forms.{form}
use Rattle.hys_type.specs.declared.fault.TypeFault.{TypeFault}
use Rattle.hys_type.specs.declared.fault.TypeFault.TheVariants as fault
use Rattle.hys_type.proofs.Firsts.{fault_after, fault_before, handed}
use Rattle.hys_type.proofs.Operators.{fault_first}

-- the fault of a node, handed on
pub nodes_first : {T : Type 0} (ns : List Name) (test : Tree → Bool) (e : Tree) (r : Result T TypeFault) (f : TypeFault) → IsErr r × IsErrAnd r (λ e. e ≡ f) → (¬ (f ≡ fault.Memory) → Some f ≡ first_fault (node_checks ns e)) → Answers r (expression ns test e)
nodes_first ns test e r f h k = handed r f (expression ns test e) h (fault_first (node_checks ns e) (check (test e) (fault.Kind (place_of e)) ∷ []) f k)

pub of_err : {T : Type 0} (r : Result T TypeFault) (cs : List Check) → result_err r ≡ first_fault cs → Answers r cs
of_err (Ok x) cs h = h
of_err (Err f) cs h = λ n. h

pub top_last : {T : Type 0} (ns : List Name) (test : Tree → Bool) (e : Tree) (p : Place) (b : Bool) (r : Result T TypeFault) → None ≡ first_fault (node_checks ns e) → p ≡ place_of e → b ≡ test e → result_err r ≡ first_fault (check b (fault.Kind p) ∷ []) →
    Answers r (expression ns test e)
top_last ns test e p b r h o t w =
    of_err r (expression ns test e) (w ∙ ap₂ (λ (x : Bool) (q : Place). first_fault (check x (fault.Kind q) ∷ [])) t o ∙ sym (fault_after (node_checks ns e) (check (test e) (fault.Kind (place_of e)) ∷ []) h))

pub real_form : (ns : List Name) (e : Tree) (n : Node) (r : Result Dense TypeFault) → IsNode ns e n → IfOk r (λ d. n ≡ node.Real d) → IfOk r (λ d. IsDense ns (form ns e) d)
real_form ns e n (Ok d) h w = (subst (IsNode ns e) w h).1
real_form ns e n (Err f) h w = tt

-- ---- tolerances
pub tolerance_first : (ks : List Known) (p : Place) (e : Tree) (f : TypeFault) → Some f ≡ first_fault (constant_of_kind kind.Real ks e) → Some f ≡ first_fault (tolerance_checks ks p e)
tolerance_first ks p e f h = fault_before (constant_of_kind kind.Real ks e) _ f h

pub tolerance_last : (ks : List Known) (p : Place) (e : Tree) (a : Number) (x : Option TypeFault) → None ≡ first_fault (constant_of_kind kind.Real ks e) → a ≡ given kind.Real (known_values ks) e →
    x ≡ first_fault (check (is_less (number_cmp (whole 0) a)) (fault.Tolerance p a) ∷ []) → x ≡ first_fault (tolerance_checks ks p e)
tolerance_last ks p e a x h k w =
    let b = value (known_values ks) e in
    w ∙ ap (λ (m : Number). first_fault (check (is_less (number_cmp (whole 0) m)) (fault.Tolerance p m) ∷ [])) k ∙ sym (fault_after (constant_of_kind kind.Real ks e) (check (is_less (number_cmp (whole 0) b)) (fault.Tolerance p b) ∷ []) h)
