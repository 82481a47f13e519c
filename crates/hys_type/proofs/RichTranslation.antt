-- The rich program is the translation of the rich source.
use Rattle.std.proofs.Common.{◌≡◌, ◌<◌, ◌∷◌, codes, refl, sym, ◌∙◌, ap, ap₂, subst, arith, inl, inr}
use Rattle.std.specs.Float.Numeral.{scan_numeral}
use Rattle.std.proofs.lemmas.Fmt.{decimal-digits_of}
use Rattle.hys_number.specs.Number.{Number, make}
use Rattle.hys_number.specs.Gcd.{gcd}
use Rattle.hys_number.proofs.Laws.{whole-ratio}
use Rattle.hys_number.proofs.Field.{mul_comm, mul_zero, ratios}
use Rattle.hys_number.specs.Ops.{whole, neg, inverse, ◌+ₙ◌, ◌*ₙ◌, ◌/ₙ◌, ◌<ₙ◌}
use Rattle.hys_lin.specs.Bits.{is_one}
use Rattle.hys_ast.specs.Tree.{Source}
use Rattle.hys_meaning.specs.Values.{literal}
use Rattle.hys_meaning.specs.Names.{parameters}
use Rattle.hys_meaning.specs.Unfolded.{unfolded, guard_name}
use Rattle.hys_meaning.specs.Typed.{DeclaredOnce, Typed}
use Rattle.hys_formula.specs.declared.formula.Formula.{Formula}
use Rattle.hys_formula.specs.Formulas.{tree_of}
use Rattle.hys_type.specs.SameMeaning.{Translates}
use Rattle.hys_type.specs.Translation.{guard, choice, linear, next_bool, next_real, out_bool, out_real, must_hold, must_most, must_zero, IsNamedTranslation, IsNameOf, OneByOne, IsItemOf, setting}
use Rattle.hys_type.specs.RichProgram.{rich, rich_by, rich_program, when_tree, next_tree, demand_tree}
use Rattle.hys_type.proofs.SmallTranslation.{one_is_not_zero, two_is_not_zero, minus_one_is_not_zero}

half_is_not_zero : ¬ (whole 1 /ₙ whole 2 ≡ whole 0)
unfolding whole make gcd ◌*ₙ◌ inverse
half_is_not_zero e = let f = ap (λ (x : Number). x.num) e in absurd (cc)

zero_over : whole 0 ≡ whole 0 /ₙ whole 2
zero_over = sym (mul_comm (whole 0) (inverse (whole 2)) ∙ mul_zero (inverse (whole 2)))

above_zero : 0 < 1
above_zero = omega arith

three_above : whole 0 <ₙ whole 3
three_above = rw (whole-ratio 0 1 above_zero, whole-ratio 3 1 above_zero) (simp (ratios, above_zero) (omega arith))

-- the source with names for its unnamed guards
abbrev by_name : Source
by_name = rich_by (codes "@1") (codes "@2")

rich_names : (tolerance : Number) (when next demand : Formula) → OneByOne (IsNameOf (parameters by_name.decls)) by_name.decls (rich_program tolerance when next demand).names
unfolding literal scan_numeral whole make gcd ◌+ₙ◌ ◌*ₙ◌ neg
rich_names tolerance when next demand = (record { text = refl; role = refl; kind = refl; place = refl; low = λ h. refl; high = λ h. refl; usual = λ h. absurd (cc); value = λ h. absurd (cc); no_value = λ h. refl }, (record { text = refl; role = refl; kind = refl; place = refl; low = λ h. refl; high = λ h. refl; usual = λ h. absurd (cc); value = λ h. absurd (cc); no_value = λ h. refl }, (record { text = refl; role = refl; kind = refl; place = refl; low = λ h. refl; high = λ h. refl; usual = λ h. absurd (cc); value = λ h. absurd (cc); no_value = λ h. refl }, (record { text = refl; role = refl; kind = refl; place = refl; low = λ h. absurd (cc); high = λ h. absurd (cc); usual = λ h. refl; value = λ h. absurd (cc); no_value = λ h. refl }, (record { text = refl; role = refl; kind = refl; place = refl; low = λ h. absurd (cc); high = λ h. absurd (cc); usual = λ h. refl; value = λ h. absurd (cc); no_value = λ h. refl }, (record { text = refl; role = refl; kind = refl; place = refl; low = λ h. absurd (cc); high = λ h. absurd (cc); usual = λ h. refl; value = λ h. refl; no_value = λ h. absurd (cc) }, (record { text = refl; role = refl; kind = refl; place = refl; low = λ h. absurd (cc); high = λ h. absurd (cc); usual = λ h. refl; value = λ h. refl; no_value = λ h. absurd (cc) }, (record { text = refl; role = refl; kind = refl; place = refl; low = λ h. absurd (cc); high = λ h. absurd (cc); usual = λ h. refl; value = λ h. absurd (cc); no_value = λ h. refl }, (record { text = refl; role = refl; kind = refl; place = refl; low = λ h. absurd (cc); high = λ h. absurd (cc); usual = λ h. refl; value = λ h. absurd (cc); no_value = λ h. refl }, (record { text = refl; role = refl; kind = refl; place = refl; low = λ h. absurd (cc); high = λ h. absurd (cc); usual = λ h. refl; value = λ h. absurd (cc); no_value = λ h. refl }, (record { text = refl; role = refl; kind = refl; place = refl; low = λ h. absurd (cc); high = λ h. absurd (cc); usual = λ h. refl; value = λ h. absurd (cc); no_value = λ h. refl }, (record { text = refl; role = refl; kind = refl; place = refl; low = λ h. absurd (cc); high = λ h. absurd (cc); usual = λ h. refl; value = λ h. absurd (cc); no_value = λ h. refl }, tt))))))))))))

rich_items : (tolerance : Number) (when next demand : Formula) → tree_of when ≡ when_tree → tree_of next ≡ next_tree → tree_of demand ≡ demand_tree →
    OneByOne (IsItemOf (setting tolerance by_name)) by_name.items (rich_program tolerance when next demand).items
unfolding literal scan_numeral whole make gcd ◌+ₙ◌ ◌*ₙ◌ neg inverse is_one
rich_items tolerance when next demand w n d = (record { name = refl; place = refl; body = guard refl refl (record { terms = record { rise = (one_is_not_zero, (omega arith, tt), (one_is_not_zero, tt, tt)); below = (omega arith, (omega arith, tt)) }; factors = (refl, (refl, (refl, (refl, (refl, (refl, (refl, (refl, (refl, (refl, (refl, (refl, tt)))))))))))); constant = refl }) refl }, (record { name = refl; place = refl; body = guard refl refl (record { terms = record { rise = (minus_one_is_not_zero, tt, tt); below = (omega arith, tt) }; factors = (refl, (refl, (refl, (refl, (refl, (refl, (refl, (refl, (refl, (refl, (refl, (refl, tt)))))))))))); constant = refl }) refl }, (record { name = refl; place = refl; body = choice refl refl w (record { terms = record { rise = (two_is_not_zero, tt, tt); below = (omega arith, tt) }; factors = (refl, (refl, (refl, (refl, (refl, (refl, (refl, (refl, (refl, (refl, (refl, (refl, tt)))))))))))); constant = refl }) (record { terms = record { rise = (one_is_not_zero, tt, tt); below = (omega arith, tt) }; factors = (refl, (refl, (refl, (refl, (refl, (refl, (refl, (refl, (refl, (refl, (refl, (refl, tt)))))))))))); constant = refl }) }, (record { name = refl; place = refl; body = linear refl refl (record { terms = record { rise = (one_is_not_zero, (omega arith, tt), (minus_one_is_not_zero, tt, tt)); below = (omega arith, (omega arith, tt)) }; factors = (refl, (refl, (refl, (refl, (refl, (refl, (refl, (refl, (refl, (refl, (refl, (refl, tt)))))))))))); constant = refl }) }, (record { name = refl; place = refl; body = next_bool refl refl n }, (record { name = refl; place = refl; body = next_real refl refl (record { terms = record { rise = (one_is_not_zero, (omega arith, tt), (one_is_not_zero, tt, tt)); below = (omega arith, (omega arith, tt)) }; factors = (refl, (refl, (refl, (refl, (refl, (refl, (refl, (refl, (refl, (refl, (refl, (refl, tt)))))))))))); constant = refl }) }, (record { name = refl; place = refl; body = out_real refl refl refl (record { terms = record { rise = (half_is_not_zero, tt, tt); below = (omega arith, tt) }; factors = (refl, (zero_over, (zero_over, (zero_over, (zero_over, (zero_over, (zero_over, (zero_over, (zero_over, (zero_over, (zero_over, (zero_over, tt)))))))))))); constant = zero_over }) }, (record { name = refl; place = refl; body = guard refl refl (record { terms = record { rise = (one_is_not_zero, tt, tt); below = (omega arith, tt) }; factors = (refl, (refl, (refl, (refl, (refl, (refl, (refl, (refl, (refl, (refl, (refl, (refl, tt)))))))))))); constant = refl }) refl }, (record { name = refl; place = refl; body = out_bool refl refl refl refl }, (record { name = refl; place = refl; body = must_zero refl refl (record { terms = record { rise = (one_is_not_zero, (omega arith, tt), (minus_one_is_not_zero, tt, tt)); below = (omega arith, (omega arith, tt)) }; factors = (refl, (refl, (refl, (refl, (refl, (refl, (refl, (refl, (refl, (refl, (refl, (refl, tt)))))))))))); constant = refl }) }, (record { name = refl; place = refl; body = must_most refl refl refl (record { terms = record { rise = (one_is_not_zero, (omega arith, tt), (minus_one_is_not_zero, tt, tt)); below = (omega arith, (omega arith, tt)) }; factors = (refl, (refl, (refl, (refl, (refl, (refl, (refl, (refl, (refl, (refl, (refl, (refl, tt)))))))))))); constant = refl }) }, (record { name = refl; place = refl; body = must_hold refl refl refl d }, tt))))))))))))

named_translated : (tolerance : Number) (when next demand : Formula) → tree_of when ≡ when_tree → tree_of next ≡ next_tree → tree_of demand ≡ demand_tree → IsNamedTranslation tolerance by_name (rich_program tolerance when next demand)
named_translated tolerance when next demand w n d = record { system = refl; names = rich_names tolerance when next demand; items = rich_items tolerance when next demand w n d; weight = refl }

first_text : guard_name 1 ≡ codes "@1"
first_text = ap (λ ds. 64 ∷ ds) (decimal-digits_of 1 (omega arith) (omega arith))

second_text : guard_name 2 ≡ codes "@2"
second_text = ap (λ ds. 64 ∷ ds) (decimal-digits_of 2 (omega arith) (omega arith))

rich_named : unfolded rich ≡ by_name
rich_named = ap₂ rich_by first_text second_text

-- ---- the source is typed
rich_typed : Typed by_name
unfolding literal scan_numeral whole make gcd ◌+ₙ◌ ◌*ₙ◌ neg inverse ◌<ₙ◌
rich_typed = record {
  values = (tt, (tt, (tt, (tt, (tt, (tt, (tt, (tt, (tt, (tt, (tt, (tt, tt))))))))))));
  boxes = ((tt, tt), ((tt, tt), ((tt, tt), ((tt, tt), ((tt, tt), ((tt, tt), ((tt, tt), ((tt, tt), ((tt, tt), ((tt, tt), ((tt, tt), ((tt, tt), tt))))))))))));
  items = ((refl, ((refl, (refl, refl, tt), refl), ((refl, tt, tt), three_above))), ((refl, ((refl, refl, tt), tt)), ((refl, ((refl, refl, refl), (refl, refl, inl (λ n. refl)), refl)), ((refl, (refl, refl, tt)), ((refl, (refl, (refl, refl), refl)), ((refl, (refl, refl, tt)), ((refl, (refl, refl, ((λ n. refl), two_is_not_zero))), ((refl, ((refl, refl, tt), tt)), ((refl, refl), ((refl, inr (refl, refl, (refl, tt, tt))), ((refl, inr (refl, refl, refl)), ((refl, inl (refl, refl, refl)), tt))))))))))));
}

pub rich_translates : (tolerance : Number) (when next demand : Formula) → tree_of when ≡ when_tree → tree_of next ≡ next_tree → tree_of demand ≡ demand_tree → Translates tolerance rich (rich_program tolerance when next demand)
rich_translates tolerance when next demand w n d = record {
  translation = subst (λ s. IsNamedTranslation tolerance s (rich_program tolerance when next demand)) (sym rich_named) (named_translated tolerance when next demand w n d);
  once = subst DeclaredOnce (sym rich_named) refl;
  typed = subst Typed (sym rich_named) rich_typed;
}
