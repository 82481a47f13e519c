-- Constant expressions of a wanted kind.
use Rattle.std.proofs.Common.{◌≡◌, List, [], ◌∷◌, Option, Some, None, Result, Ok, Err, IfOk, sym, ◌∙◌, ap}
use Rattle.hys_number.specs.Number.{Number}
use Rattle.hys_lin.specs.Bits.{bit}
use Rattle.hys_ast.specs.declared.source.Kind.{Kind}
use Rattle.hys_ast.specs.declared.source.Kind.TheVariants as kind
use Rattle.hys_ast.specs.declared.place.Place.{Place}
use Rattle.hys_ast.specs.Tree.{Tree}
use Rattle.hys_meaning.specs.Values.{given}
use Rattle.hys_type.specs.Sorts.{Sort}
use Rattle.hys_type.specs.Faults.{check, first_fault}
use Rattle.hys_type.specs.Constants.{known_values, known_sort, constant_checks, constant_sort, IsWorth, IsNumberOf}
use Rattle.hys_type.specs.Declarations.{place_of, is_of_kind, constant_of_kind}
use Rattle.hys_type.specs.declared.constant.Known.{Known}
use Rattle.hys_type.specs.declared.constant.Constant.{Constant}
use Rattle.hys_type.specs.declared.constant.Constant.TheVariants as constant
use Rattle.hys_type.specs.declared.fault.TypeFault.{TypeFault}
use Rattle.hys_type.specs.declared.fault.TypeFault.TheVariants as fault
use Rattle.hys_type.proofs.Firsts.{fault_after, fault_before}
use Rattle.hys_type.proofs.Constants.{sort_is}

pub before_kind : (k : Kind) (ks : List Known) (e : Tree) (f : TypeFault) → Some f ≡ first_fault (constant_checks ks e) → Some f ≡ first_fault (constant_of_kind k ks e)
before_kind k ks e f h = fault_before (constant_checks ks e) _ f h

pub of_kind : (k : Kind) (ks : List Known) (e : Tree) (c : Constant) (p : Place) (x : Option TypeFault) → p ≡ place_of e → None ≡ first_fault (constant_checks ks e) → IsWorth ks e c →
    x ≡ first_fault (check (is_of_kind k (constant_sort c)) (fault.Kind p) ∷ []) → x ≡ first_fault (constant_of_kind k ks e)
of_kind k ks e c p x o h w i =
    i ∙ ap (λ (q : Place). first_fault (check (is_of_kind k (constant_sort c)) (fault.Kind q) ∷ [])) o ∙ ap (λ (s : Sort). first_fault (check (is_of_kind k s) (fault.Kind (place_of e)) ∷ [])) (sym (sort_is ks e c w)) ∙ sym (fault_after (constant_checks ks e) (check (is_of_kind k (known_sort ks e)) (fault.Kind (place_of e)) ∷ []) h)

number_is : (k : Kind) (ks : List Known) (e : Tree) (c : Constant) (n : Number) → IsWorth ks e c → IsNumberOf k c n → n ≡ given k (known_values ks) e
number_is kind.Real ks e (constant.Real a) n w h = h ∙ w.1
number_is kind.Real ks e (constant.Bool b) n w h = absurd h
number_is kind.Bool ks e (constant.Real a) n w h = absurd h
number_is kind.Bool ks e (constant.Bool b) n w h = h ∙ ap bit w.1

pub given_is : (k : Kind) (ks : List Known) (e : Tree) (c : Constant) (r : Result Number TypeFault) → IsWorth ks e c → IfOk r (λ n. IsNumberOf k c n) → IfOk r (λ n. n ≡ given k (known_values ks) e)
given_is k ks e c (Ok n) w h = number_is k ks e c n w h
given_is k ks e c (Err f) w h = tt
