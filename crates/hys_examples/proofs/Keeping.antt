-- The systems keep what every system keeps.
use Rattle.std.proofs.Common.{◌≡◌, ◌≤◌, [], ◌∷◌, codes, pos, refl, arith, false}
use Rattle.std.proofs.lemmas.List.Elements.{All-from_recursion}
use Rattle.hys_number.specs.Number.{make}
use Rattle.hys_number.specs.Ops.{neg, ◌≤ₙ◌, whole}
use Rattle.hys_lin.specs.Over.{AreTermsOver}
use Rattle.hys_lin.specs.declared.form.Affine.{Affine}
use Rattle.hys_lin.specs.declared.form.Row.{Row}
use Rattle.hys_sys.specs.System.{IsSystem, IsBox, rank, names}
use Rattle.hys_sys.specs.declared.system.ColumnRole.TheVariants.{Input, D}
use Rattle.hys_sys.specs.declared.system.Kind2.TheVariants.{Real}
use Rattle.hys_sys.specs.declared.system.Column.{Column}
use Rattle.hys_sys.specs.declared.system.Output.{Output}
use Rattle.hys_type.proofs.KnownValues.{differ_texts}
use Rattle.hys_examples.specs.Systems.{bool_column, casting_system, guarded_system, summed_system}
use Rattle.hys_examples.proofs.Numbers.{whole-is, over-is, decides}

zero_ten : whole 0 ≤ₙ whole 10
zero_ten = rw (whole-is 0, whole-is 10) (simp decides (omega arith))

one_not_zero : ¬ (whole 1 ≡ whole 0)
one_not_zero = rw (whole-is 0, whole-is 1) (simp decides (omega arith))

two_not_zero : ¬ (whole 2 ≡ whole 0)
two_not_zero = rw (whole-is 0, whole-is 2) (simp decides (omega arith))

three_not_zero : ¬ (whole 3 ≡ whole 0)
three_not_zero = rw (whole-is 0, whole-is 3) (simp decides (omega arith))

five_not_zero : ¬ (whole 5 ≡ whole 0)
five_not_zero = rw (whole-is 0, whole-is 5) (simp decides (omega arith))

minus_one_not_zero : ¬ (neg (whole 1) ≡ whole 0)
minus_one_not_zero = rw (whole-is 0, whole-is 1) (simp decides (omega arith))

drop_not_zero : ¬ (neg (make (pos 5001) 1000) ≡ whole 0)
drop_not_zero = rw (whole-is 0, over-is 5001 1000 (omega arith)) (simp decides (omega arith))

pub casting_lawful : IsSystem casting_system
casting_lawful = record {
  order = (All-from_recursion (λ (d : Column). 0 ≤ rank d.role) (bool_column (codes "a") Input ∷ bool_column (codes "b") Input ∷ []) (omega arith, (omega arith, tt)), (All-from_recursion (λ (d : Column). 1 ≤ rank d.role) (bool_column (codes "b") Input ∷ []) (omega arith, tt), (All-from_recursion (λ (d : Column). 1 ≤ rank d.role) [] tt, tt)));
  boxes = All-from_recursion (λ (c : Column). IsBox c.kind c.bounds) casting_system.columns (zero_ten, ((refl, refl), ((refl, refl), tt)));
  differ = differ_texts (names casting_system) refl;
  each = refl;
  next = All-from_recursion (λ (f : Affine). AreTermsOver 3 f.terms) casting_system.next (record { rise = (one_not_zero, (omega arith, (omega arith, tt)), (three_not_zero, (omega arith, tt), (two_not_zero, tt, tt))); below = (omega arith, (omega arith, (omega arith, tt))) }, tt);
  outputs = All-from_recursion (λ (o : Output). AreTermsOver 3 o.form.terms) [] tt;
  rows = All-from_recursion (λ (r : Row). AreTermsOver 3 r.terms) casting_system.rows (record { rise = (three_not_zero, (omega arith, tt), (two_not_zero, tt, tt)); below = (omega arith, (omega arith, tt)) }, tt);
  no_equation = All-from_recursion (λ (r : Row). r.eq ≡ false) casting_system.rows (refl, tt);
  labelled = refl;
  few_columns = omega arith;
  few_rows = omega arith;
}

pub guarded_lawful : IsSystem guarded_system
guarded_lawful = record {
  order = (All-from_recursion (λ (d : Column). 0 ≤ rank d.role) (bool_column (codes "d") D ∷ []) (omega arith, tt), (All-from_recursion (λ (d : Column). 2 ≤ rank d.role) [] tt, tt));
  boxes = All-from_recursion (λ (c : Column). IsBox c.kind c.bounds) guarded_system.columns (zero_ten, ((refl, refl), tt));
  differ = differ_texts (names guarded_system) refl;
  each = refl;
  next = All-from_recursion (λ (f : Affine). AreTermsOver 2 f.terms) guarded_system.next (record { rise = (one_not_zero, tt, tt); below = (omega arith, tt) }, tt);
  outputs = All-from_recursion (λ (o : Output). AreTermsOver 2 o.form.terms) [] tt;
  rows = All-from_recursion (λ (r : Row). AreTermsOver 2 r.terms) guarded_system.rows (
    record { rise = (minus_one_not_zero, (omega arith, tt), (five_not_zero, tt, tt)); below = (omega arith, (omega arith, tt)) },
    (record { rise = (one_not_zero, (omega arith, tt), (drop_not_zero, tt, tt)); below = (omega arith, (omega arith, tt)) }, tt),
  );
  no_equation = All-from_recursion (λ (r : Row). r.eq ≡ false) guarded_system.rows (refl, (refl, tt));
  labelled = refl;
  few_columns = omega arith;
  few_rows = omega arith;
}

minus_one_one : neg (whole 1) ≤ₙ whole 1
minus_one_one = rw (whole-is 1) (simp decides (omega arith))

pub summed_lawful : IsSystem summed_system
summed_lawful = record {
  order = (All-from_recursion (λ (d : Column). 0 ≤ rank d.role) (record { name = codes "u"; role = Input; kind = Real; bounds = record { low = neg (whole 1); high = whole 1 } } ∷ []) (omega arith, tt), (All-from_recursion (λ (d : Column). 1 ≤ rank d.role) [] tt, tt));
  boxes = All-from_recursion (λ (c : Column). IsBox c.kind c.bounds) summed_system.columns (zero_ten, (minus_one_one, tt));
  differ = differ_texts (names summed_system) refl;
  each = refl;
  next = All-from_recursion (λ (f : Affine). AreTermsOver 2 f.terms) summed_system.next (record { rise = (one_not_zero, (omega arith, tt), (one_not_zero, tt, tt)); below = (omega arith, (omega arith, tt)) }, tt);
  outputs = All-from_recursion (λ (o : Output). AreTermsOver 2 o.form.terms) [] tt;
  rows = All-from_recursion (λ (r : Row). AreTermsOver 2 r.terms) [] tt;
  no_equation = All-from_recursion (λ (r : Row). r.eq ≡ false) [] tt;
  labelled = refl;
  few_columns = omega arith;
  few_rows = omega arith;
}
