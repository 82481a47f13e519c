-- The small program is the translation of the small source.
use Rattle.std.proofs.Common.{◌≡◌, ◌↔◌, ◌∷◌, None, Option, codes, refl, sym, ap, subst, arith, inl, inr}
use Rattle.std.proofs.Math.Path.{subst₂}
use Rattle.std.specs.Float.Numeral.{scan_numeral}
use Rattle.std.proofs.lemmas.Fmt.{decimal-digits_of}
use Rattle.hys_number.specs.Number.{Number, make}
use Rattle.hys_number.specs.Gcd.{gcd}
use Rattle.hys_number.specs.Ops.{whole, neg, ◌+ₙ◌, ◌*ₙ◌}
use Rattle.hys_lin.specs.Bits.{is_one}
use Rattle.hys_meaning.specs.Values.{literal}
use Rattle.hys_meaning.specs.Names.{parameters}
use Rattle.hys_meaning.specs.Forms.{form}
use Rattle.hys_meaning.specs.Unfolded.{unfolded, guard_name}
use Rattle.hys_meaning.specs.Typed.{DeclaredOnce, Typed}
use Rattle.hys_type.specs.SameMeaning.{Translates}
use Rattle.hys_lin.specs.declared.form.Affine.{Affine}
use Rattle.hys_ast.specs.declared.source.Kind.{Kind}
use Rattle.hys_ast.specs.Tree.{Tree}
use Rattle.hys_ast.specs.Tree as tree
use Rattle.hys_ast.specs.declared.tree.BinaryOp.TheVariants as binary
use Rattle.hys_type.specs.Examples.{spot, digits, name}
use Rattle.hys_meaning.specs.Bodies as said
use Rattle.hys_meaning.specs.Steps.{tolerance_of}
use Rattle.hys_prog.specs.declared.program.Body.TheVariants as means
use Rattle.hys_type.specs.Translation.{Setting, IsBodyOf, choice, linear, next_bool, out_bool, out_real, must_zero, IsTranslation, IsNamedTranslation, IsNameOf, OneByOne, IsFormOf, IsItemOf, setting, guard, logic, next_real, must_most, must_hold}
use Rattle.hys_type.specs.SmallProgram.{small, small_by, small_program}

pub two_is_not_zero : ¬ (whole 2 ≡ whole 0)
unfolding whole make gcd
two_is_not_zero e = let f = ap (λ (x : Number). x.num) e in absurd (cc)

pub one_is_not_zero : ¬ (whole 1 ≡ whole 0)
unfolding whole make gcd
one_is_not_zero e = let f = ap (λ (x : Number). x.num) e in absurd (cc)

pub minus_one_is_not_zero : ¬ (neg (whole 1) ≡ whole 0)
unfolding whole make gcd neg
minus_one_is_not_zero e = let f = ap (λ (x : Number). x.num) e in absurd (cc)

small_names : (tolerance : Number) → OneByOne (IsNameOf (parameters (small_by (codes "@1")).decls)) (small_by (codes "@1")).decls (small_program tolerance (whole 2)).names
unfolding literal scan_numeral whole make gcd ◌+ₙ◌ ◌*ₙ◌ neg
small_names tolerance = (record { text = refl; role = refl; kind = refl; place = refl; low = λ h. refl; high = λ h. refl; usual = λ h. absurd (cc); value = λ h. absurd (cc); no_value = λ h. refl }, (record { text = refl; role = refl; kind = refl; place = refl; low = λ h. absurd (cc); high = λ h. absurd (cc); usual = λ h. refl; value = λ h. refl; no_value = λ h. absurd (cc) }, (record { text = refl; role = refl; kind = refl; place = refl; low = λ h. absurd (cc); high = λ h. absurd (cc); usual = λ h. refl; value = λ h. refl; no_value = λ h. absurd (cc) }, (record { text = refl; role = refl; kind = refl; place = refl; low = λ h. absurd (cc); high = λ h. absurd (cc); usual = λ h. refl; value = λ h. absurd (cc); no_value = λ h. refl }, (record { text = refl; role = refl; kind = refl; place = refl; low = λ h. absurd (cc); high = λ h. absurd (cc); usual = λ h. refl; value = λ h. absurd (cc); no_value = λ h. refl }, (record { text = refl; role = refl; kind = refl; place = refl; low = λ h. absurd (cc); high = λ h. absurd (cc); usual = λ h. refl; value = λ h. absurd (cc); no_value = λ h. refl }, tt))))))

small_items : (tolerance : Number) → OneByOne (IsItemOf (setting tolerance (small_by (codes "@1")))) (small_by (codes "@1")).items (small_program tolerance (whole 2)).items
unfolding literal scan_numeral whole make gcd ◌+ₙ◌ ◌*ₙ◌ neg is_one
small_items tolerance = (record { name = refl; place = refl; body = guard refl refl (record { terms = record { rise = (minus_one_is_not_zero, tt, tt); below = (omega arith, tt) }; factors = (refl, (refl, (refl, (refl, (refl, (refl, tt)))))); constant = refl }) refl }, (record { name = refl; place = refl; body = logic refl refl refl }, (record { name = refl; place = refl; body = logic refl refl refl }, (record { name = refl; place = refl; body = next_real refl refl (record { terms = record { rise = (two_is_not_zero, tt, tt); below = (omega arith, tt) }; factors = (refl, (refl, (refl, (refl, (refl, (refl, tt)))))); constant = refl }) }, (record { name = refl; place = refl; body = must_most refl refl refl (record { terms = record { rise = (one_is_not_zero, tt, tt); below = (omega arith, tt) }; factors = (refl, (refl, (refl, (refl, (refl, (refl, tt)))))); constant = refl }) }, (record { name = refl; place = refl; body = must_hold refl refl refl refl }, tt))))))

named_translated : (tolerance : Number) → IsNamedTranslation tolerance (small_by (codes "@1")) (small_program tolerance (whole 2))
named_translated tolerance = record { system = refl; names = small_names tolerance; items = small_items tolerance; weight = refl }

guard_text : guard_name 1 ≡ codes "@1"
guard_text = ap (λ ds. 64 ∷ ds) (decimal-digits_of 1 (omega arith) (omega arith))

small_named : unfolded small ≡ small_by (codes "@1")
small_named = ap small_by guard_text

small_translated : (tolerance : Number) → IsTranslation tolerance small (small_program tolerance (whole 2))
small_translated tolerance = subst (λ s. IsNamedTranslation tolerance s (small_program tolerance (whole 2))) (sym small_named) (named_translated tolerance)

-- ---- no other tolerance or factor
guard_tolerance : (c : Setting) (k : Option Kind) (e : Tree) (t : Option Tree) (f : Affine) (eps : Number) → IsBodyOf c k (said.Guard e t) (means.Guard f eps) → eps ≡ tolerance_of c.tolerance c.values t
guard_tolerance c k e t f eps (guard i j q z) = cc
guard_tolerance c k e t f eps (choice i j q z y) = absurd (cc)
guard_tolerance c k e t f eps (logic i j z) = absurd (cc)
guard_tolerance c k e t f eps (linear i j z) = absurd (cc)
guard_tolerance c k e t f eps (next_bool i j z) = absurd (cc)
guard_tolerance c k e t f eps (next_real i j z) = absurd (cc)
guard_tolerance c k e t f eps (out_bool y i j z) = absurd (cc)
guard_tolerance c k e t f eps (out_real y i j z) = absurd (cc)
guard_tolerance c k e t f eps (must_hold y i j z) = absurd (cc)
guard_tolerance c k e t f eps (must_most y i j z) = absurd (cc)
guard_tolerance c k e t f eps (must_zero i j z) = absurd (cc)

next_form : (c : Setting) (k : Option Kind) (e : Tree) (f : Affine) → IsBodyOf c k (said.NextReal e) (means.NextReal f) → IsFormOf c.names (form c.names e) f
next_form c k e f (guard i j q z) = absurd (cc)
next_form c k e f (choice i j q z y) = absurd (cc)
next_form c k e f (logic i j z) = absurd (cc)
next_form c k e f (linear i j z) = absurd (cc)
next_form c k e f (next_bool i j z) = absurd (cc)
next_form c k e f (next_real {e = x} {f = g} i j z) =
    let p : x ≡ e = cc in let q : g ≡ f = cc in
    subst₂ (λ e f. IsFormOf c.names (form c.names e) f) p q z
next_form c k e f (out_bool y i j z) = absurd (cc)
next_form c k e f (out_real y i j z) = absurd (cc)
next_form c k e f (must_hold y i j z) = absurd (cc)
next_form c k e f (must_most y i j z) = absurd (cc)
next_form c k e f (must_zero i j z) = absurd (cc)

next_said : Tree
next_said = tree.Binary binary.Add (tree.Binary binary.Mul (name (codes "p") 17) (name (codes "x") 19) (spot 18)) (digits (codes "1") 21) (spot 20)

only_named : (tolerance eps factor : Number) → IsNamedTranslation tolerance (small_by (codes "@1")) (small_program eps factor) → (eps ≡ tolerance) × (factor ≡ whole 2)
unfolding literal scan_numeral whole make gcd ◌+ₙ◌ ◌*ₙ◌ neg next_said
only_named tolerance eps factor h = (
  guard_tolerance (setting tolerance (small_by (codes "@1"))) _ _ None _ eps h.items.0.body,
  (next_form (setting tolerance (small_by (codes "@1"))) _ next_said _ h.items.1.1.1.0.body).factors.0,
)

pub small_only : (tolerance eps factor : Number) → IsTranslation tolerance small (small_program eps factor) ↔ ((eps ≡ tolerance) × (factor ≡ whole 2))
small_only tolerance eps factor = (
  λ h. only_named tolerance eps factor (subst (λ s. IsNamedTranslation tolerance s (small_program eps factor)) small_named h),
  λ e. subst₂ (λ (a b : Number). IsTranslation tolerance small (small_program a b)) (sym e.0) (sym e.1) (small_translated tolerance),
)

-- ---- the source is typed
small_typed : Typed (small_by (codes "@1"))
unfolding literal scan_numeral whole make gcd ◌+ₙ◌ ◌*ₙ◌ neg
small_typed = record {
  values = (tt, (tt, (tt, (tt, (tt, (tt, tt))))));
  boxes = ((tt, tt), ((tt, tt), ((tt, tt), ((tt, tt), ((tt, tt), ((tt, tt), tt))))));
  items = (
    (refl, ((refl, refl, tt), tt)),
    ((refl, refl), ((refl, refl), ((refl, ((refl, refl, inl (λ n. refl)), tt, tt)), ((refl, inr (refl, refl, tt)), ((refl, inl refl), tt))))),
  );
}

pub small_translates : (tolerance : Number) → Translates tolerance small (small_program tolerance (whole 2))
small_translates tolerance = record {
  translation = small_translated tolerance;
  once = subst DeclaredOnce (sym small_named) refl;
  typed = subst Typed (sym small_named) small_typed;
}
