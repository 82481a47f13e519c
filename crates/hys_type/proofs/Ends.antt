-- Faults of the two ends of a box.
use Rattle.std.proofs.Common.{◌≡◌, List, ◌++◌, Option, Some, None, sym, ◌∙◌, ap}
use Rattle.hys_number.specs.Number.{Number}
use Rattle.hys_ast.specs.declared.place.Place.{Place}
use Rattle.hys_ast.specs.declared.source.Kind.TheVariants as kind
use Rattle.hys_ast.specs.Tree.{Tree}
use Rattle.hys_meaning.specs.Values.{value}
use Rattle.hys_type.specs.Faults.{Check, first_fault}
use Rattle.hys_type.specs.Constants.{known_values}
use Rattle.hys_type.specs.Declarations.{constant_of_kind, ends_checks, bounds_checks}
use Rattle.hys_type.specs.declared.constant.Known.{Known}
use Rattle.hys_type.specs.declared.fault.TypeFault.{TypeFault}
use Rattle.hys_type.proofs.Firsts.{fault_after, fault_before}

pub low_end : (ks : List Known) (low high : Tree) (p : Place) (f : TypeFault) → Some f ≡ first_fault (constant_of_kind kind.Real ks low) → Some f ≡ first_fault (bounds_checks ks low high p)
low_end ks low high p f h = fault_before (constant_of_kind kind.Real ks low) _ f h

pub high_end : (ks : List Known) (low high : Tree) (p : Place) (f : TypeFault) → None ≡ first_fault (constant_of_kind kind.Real ks low) → Some f ≡ first_fault (constant_of_kind kind.Real ks high) → Some f ≡ first_fault (bounds_checks ks low high p)
high_end ks low high p f h k =
    fault_before (constant_of_kind kind.Real ks high) _ f k
    ∙ sym (fault_after (constant_of_kind kind.Real ks low) (constant_of_kind kind.Real ks high ++ ends_checks (value (known_values ks) low) (value (known_values ks) high) p) h)

pub both_ends : (ks : List Known) (low high : Tree) (p : Place) (a b : Number) (x : Option TypeFault) → None ≡ first_fault (constant_of_kind kind.Real ks low) → None ≡ first_fault (constant_of_kind kind.Real ks high) →
    a ≡ value (known_values ks) low → b ≡ value (known_values ks) high → x ≡ first_fault (ends_checks a b p) → x ≡ first_fault (bounds_checks ks low high p)
both_ends ks low high p a b x h k e o i =
    let last : List Check = ends_checks (value (known_values ks) low) (value (known_values ks) high) p in
    i ∙ ap (λ (m : Number). first_fault (ends_checks m b p)) e ∙ ap (λ (m : Number). first_fault (ends_checks (value (known_values ks) low) m p)) o
    ∙ sym (fault_after (constant_of_kind kind.Real ks high) last k) ∙ sym (fault_after (constant_of_kind kind.Real ks low) (constant_of_kind kind.Real ks high ++ last) h)
