use Rattle.std.proofs.Common.{◌≡◌, ℤ, pos, Bool, ◌&&◌, int_eq, unsigned_abs, ◌∙◌, sym, ap₂}
use Rattle.hys_number.specs.Number.{Number, make}
use Rattle.hys_frac.specs.Frac.{IsReduced}
use Rattle.hys_frac.proofs.Fracs.{parts_is}
use Rattle.hys_frac.proofs.frac.FracPartialEq.eq.Goals as goal

tested : (q r : Number) (n d n' d' : ℤ) (x y : Bool) → make n (unsigned_abs d) ≡ q → IsReduced n d → make n' (unsigned_abs d') ≡ r → IsReduced n' d' →
    x ≡ int_eq n n' → y ≡ x && int_eq d d' → y ≡ int_eq q.num r.num && int_eq (pos q.den) (pos r.den)
tested q r n d n' d' x y e h e' h' i j =
    let p : (q.num ≡ n) × (pos q.den ≡ d) = parts_is q n d e h in
    let p' : (r.num ≡ n') × (pos r.den ≡ d') = parts_is r n' d' e' h' in
    j ∙ ap₂ ◌&&◌ (i ∙ sym (ap₂ int_eq p.0 p'.0)) (sym (ap₂ int_eq p.1 p'.1))

pub returns : goal.returns
returns c = tested _ _ _ _ _ _ _ _ c.t1-1.view_is c.t1-1.invariant c.t2-1.view_is c.t2-1.invariant c.eq.ensures c.and_eq.ensures
