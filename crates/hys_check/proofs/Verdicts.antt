-- One list of tests after another.
use Rattle.std.proofs.Common.{◌≡◌, List, [], ◌∷◌, ◌++◌, Bool, true, false, cond, Option, Some, None, refl, sym, ◌∙◌, ap}
use Rattle.hys_lin.specs.declared.lost.Lost.{Lost}
use Rattle.hys_check.specs.Testing.{Test, test, first_failing, lost_tests}
use Rattle.hys_check.specs.declared.verdict.At.{At}
use Rattle.hys_check.specs.declared.verdict.CheckWhy.{CheckWhy}
use Rattle.hys_check.specs.declared.verdict.CheckWhy.TheVariants.{Range}
use Rattle.hys_check.specs.declared.verdict.Verdict.{Verdict}
use Rattle.hys_check.specs.declared.verdict.Verdict.TheVariants.{Yes, No}

-- no test fails
abbrev pub Pass : List Test → Type 0
Pass ts = first_failing ts ≡ Yes

pub no_isnt_yes : (a : At) (w : CheckWhy) → No a w ≡ Yes → ⊥
no_isnt_yes a w e = cc

pub passes_then : (xs ys : List Test) → Pass xs → first_failing (xs ++ ys) ≡ first_failing ys
passes_then [] ys h = refl
passes_then (x ∷ xs) ys h = go x.passes h (passes_then xs ys)
  where
    go : (b : Bool) → cond b (first_failing xs) (No x.place x.why) ≡ Yes → (Pass xs → first_failing (xs ++ ys) ≡ first_failing ys) →
        cond b (first_failing (xs ++ ys)) (No x.place x.why) ≡ first_failing ys
    go true h k = k h
    go false h k = absurd (no_isnt_yes x.place x.why h)

pub fails_then : (xs ys : List Test) (a : At) (w : CheckWhy) → first_failing xs ≡ No a w → first_failing (xs ++ ys) ≡ No a w
fails_then [] ys a w h = absurd (no_isnt_yes a w (sym h))
fails_then (x ∷ xs) ys a w h = go x.passes h (fails_then xs ys a w)
  where
    go : (b : Bool) → cond b (first_failing xs) (No x.place x.why) ≡ No a w → (first_failing xs ≡ No a w → first_failing (xs ++ ys) ≡ No a w) →
        cond b (first_failing (xs ++ ys)) (No x.place x.why) ≡ No a w
    go true h k = k h
    go false h k = h

pub both_pass : (xs ys : List Test) → Pass (xs ++ ys) → Pass xs × Pass ys
both_pass [] ys h = (refl, h)
both_pass (x ∷ xs) ys h = go x.passes h (both_pass xs ys)
  where
    go : (b : Bool) → cond b (first_failing (xs ++ ys)) (No x.place x.why) ≡ Yes → (Pass (xs ++ ys) → Pass xs × Pass ys) →
        (cond b (first_failing xs) (No x.place x.why) ≡ Yes) × Pass ys
    go true h k = k h
    go false h k = absurd (no_isnt_yes x.place x.why h)

pub pass_both : (xs ys : List Test) → Pass xs → Pass ys → Pass (xs ++ ys)
pass_both xs ys h k = passes_then xs ys h ∙ k

-- a verdict that is no Yes is that of the whole
pub failed_first : (v : Verdict) (xs ys : List Test) → v ≡ first_failing xs → (v ≡ Yes → ⊥) → v ≡ first_failing (xs ++ ys)
failed_first Yes xs ys e d = absurd (d refl)
failed_first (No a w) xs ys e d = sym (fails_then xs ys a w (sym e))

pub then_second : (v : Verdict) (xs ys : List Test) → Pass xs → v ≡ first_failing ys → v ≡ first_failing (xs ++ ys)
then_second v xs ys h e = e ∙ sym (passes_then xs ys h)

-- ---- one test
pub one_passes : (b : Bool) (a : At) (w : CheckWhy) → Pass (test b a w ∷ []) → b ≡ true
one_passes true a w h = refl
one_passes false a w h = absurd (no_isnt_yes a w h)

pub first_passes : (b : Bool) (a : At) (w : CheckWhy) (ts : List Test) → Pass (test b a w ∷ ts) → (b ≡ true) × Pass ts
first_passes true a w ts h = (refl, h)
first_passes false a w ts h = absurd (no_isnt_yes a w h)

pub pass_first : (b : Bool) (a : At) (w : CheckWhy) (ts : List Test) → b ≡ true → Pass ts → Pass (test b a w ∷ ts)
pass_first true a w ts e h = h
pass_first false a w ts e h = absurd (cc)

pub after_pass : (b : Bool) (a : At) (w : CheckWhy) (ts : List Test) → b ≡ true → first_failing (test b a w ∷ ts) ≡ first_failing ts
after_pass true a w ts e = refl
after_pass false a w ts e = absurd (cc)

pub at_failure : (b : Bool) (a : At) (w : CheckWhy) (ts : List Test) → b ≡ false → first_failing (test b a w ∷ ts) ≡ No a w
at_failure true a w ts e = absurd (cc)
at_failure false a w ts e = refl

-- ---- sums
pub none_lost : (a : At) (o : Option Lost) → Pass (lost_tests a o) → o ≡ None
none_lost a None h = refl
none_lost a (Some l) h = absurd (no_isnt_yes a (Range l) h)

pub pass_unlost : (a : At) (o : Option Lost) → o ≡ None → Pass (lost_tests a o)
pass_unlost a None e = refl
pass_unlost a (Some l) e = absurd (cc)

pub fail_lost : (a : At) (o : Option Lost) (l : Lost) → o ≡ Some l → first_failing (lost_tests a o) ≡ No a (Range l)
fail_lost a o l e = ap (λ x. first_failing (lost_tests a x)) e
