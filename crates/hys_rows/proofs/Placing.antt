-- What is given of an item by names gives what its rows need of columns.
use Rattle.std.proofs.Common.{◌≡◌, ℕ, ◌+◌, ◌<◌, ◌≤◌, List, [], ◌∷◌, length, Option, Some, None, refl, sym, ap, subst, arith, inl, inr}
use Rattle.hys_lin.specs.declared.form.Affine.{Affine}
use Rattle.hys_lin.specs.declared.form.Interval.{Interval}
use Rattle.hys_lin.specs.declared.form.Term.{Term}
use Rattle.hys_lin.specs.Sums.{EachColumn}
use Rattle.hys_lin.proofs.Lists.{each_more}
use Rattle.hys_ast.specs.declared.source.Kind.TheVariants.{Real, Bool as Truth}
use Rattle.hys_formula.specs.declared.formula.Formula.{Formula}
use Rattle.hys_formula.specs.Formulas.{FormulaTree, constant, named, negated, joined, tree_of, EachName}
use Rattle.hys_prog.specs.declared.program.Role.TheVariants.{Aux}
use Rattle.hys_prog.specs.declared.program.Body.{Body}
use Rattle.hys_prog.specs.declared.program.Body.TheVariants.{Guard, Choice, Logic, Linear, NextBool, NextReal, OutBool, OutReal, MustHold, MustMost, MustZero}
use Rattle.hys_prog.specs.declared.program.Name.{Name}
use Rattle.hys_prog.specs.Programs.{NameAt, IsVariable, IsBooleanVariable, Has, has_column, BodyOver, FormOver, FormulaOver, Named, Suits}
use Rattle.hys_prog.specs.Orders.{Stands, HasTerm, MentionedIn}
use Rattle.hys_prog.specs.Steps.{OfName}
use Rattle.hys_prog.proofs.Defined.{name_below}
use Rattle.hys_prog.proofs.Names.{name_map}
use Rattle.hys_logic.specs.declared.literal.Literal.{Literal}
use Rattle.hys_logic.specs.declared.literal.Literal.TheVariants.{Fixed, Column}
use Rattle.hys_logic.specs.declared.usage.Use.TheVariants.{Read, Define}
use Rattle.hys_logic.specs.Literals.{column_in, LiteralBelow}
use Rattle.hys_logic.specs.Rows.{own_terms}
use Rattle.hys_logic.specs.Uses.{literal_by, fresh_count, IsFree}
use Rattle.hys_logic.proofs.Truths.{name_more}
use Rattle.hys_logic.proofs.Used.{used_below}
use Rattle.hys_rows.specs.Items.{fresh_in, AreColumns}
use Rattle.hys_rows.specs.Moved.{moved}
use Rattle.hys_rows.specs.Parts.{own_column, literal_form}
use Rattle.hys_rows.specs.Adding.{IsPlaced, IsBoxed, IsApart, IsPlacedFormula, IsPlacedBody}
use Rattle.hys_rows.proofs.Moving.{moved_each, moved_terms}

-- ---- names
pub boolean_variable : (names : List Name) (n : ℕ) → NameAt names n IsBooleanVariable → NameAt names n IsVariable
boolean_variable names n h = name_map IsBooleanVariable IsVariable names n (λ x q. q.0) h

pub truth_boolean : (names : List Name) (n : ℕ) → NameAt names n (Has Aux Truth) → NameAt names n IsBooleanVariable
truth_boolean names n h = name_map (Has Aux Truth) IsBooleanVariable names n (λ x q. (ap has_column q.0, q.1)) h

pub real_variable : (names : List Name) (n : ℕ) → NameAt names n (Has Aux Real) → NameAt names n IsVariable
real_variable names n h = name_map (Has Aux Real) IsVariable names n (λ x q. ap has_column q.0) h

-- each column of the terms that has the one property has the other, where it has a term
some_columns : (P Q : ℕ → Type 0) (ts : List Term) → EachColumn P ts → ((m : ℕ) → P m → HasTerm m ts → Q m) → EachColumn Q ts
some_columns P Q [] h f = tt
some_columns P Q (t ∷ ts) h f = (f t.column h.0 (inl refl), some_columns P Q ts h.1 (λ m p i. f m p (inr i)))

some_names : (P Q : ℕ → Type 0) (f : FormulaTree) → EachName P f → ((m : ℕ) → P m → Stands m f → Q m) → EachName Q f
some_names P Q (constant b) h f = tt
some_names P Q (named n) h f = f n h refl
some_names P Q (negated g) h f = some_names P Q g h f
some_names P Q (joined c g k) h f = (some_names P Q g h.0 (λ m p i. f m p (inl i)), some_names P Q k h.1 (λ m p i. f m p (inr i)))

-- ---- forms
pub form_placed : (names : List Name) (columns : List ℕ) (k count : ℕ) (f : Affine) → AreColumns names columns k count → FormOver names f → IsPlaced columns f
form_placed names columns k count f a h = record {
  within = each_more (λ n. NameAt names n IsVariable) (λ n. n < length columns) f.terms (λ n q. let b : n < length names = name_below IsVariable names n q in let l : length columns ≡ length names = a.long in omega arith) h.1;
  terms = moved_terms (λ n. NameAt names n IsVariable) columns f a.differ h.1 h.0;
}

form_boxed : (names : List Name) (boxes : List Interval) (f : Affine) → length boxes ≡ length names → FormOver names f → IsBoxed boxes f
form_boxed names boxes f l h = each_more (λ n. NameAt names n IsVariable) (λ n. n < length boxes) f.terms (λ n q. let b : n < length names = name_below IsVariable names n q in omega arith) h.1

form_apart : (names : List Name) (columns : List ℕ) (k count n : ℕ) (f : Affine) → AreColumns names columns k count → FormOver names f → NameAt names n IsVariable → ¬ (HasTerm n f.terms) → IsApart (column_in columns n) (moved columns f)
form_apart names columns k count n f a h q m =
    moved_each (λ c. ¬ (c ≡ column_in columns n)) columns [] f.terms tt
    (some_columns (λ i. NameAt names i IsVariable) (λ i. ¬ (column_in columns i ≡ column_in columns n)) f.terms h.1 (λ i p t e. m (subst (λ (j : ℕ). HasTerm j f.terms) (a.differ i n p q e) t)))

-- ---- formulas
pub formula_placed : (names : List Name) (columns : List ℕ) (k count : ℕ) (l : Formula) → AreColumns names columns k count → FormulaOver names l → IsPlacedFormula columns k l
formula_placed names columns k count l a h = name_more (λ n. NameAt names n IsBooleanVariable) (λ n. (n < length columns) × (column_in columns n < k)) (tree_of l)
    (λ n q. let b : n < length names = name_below IsBooleanVariable names n q in let e : length columns ≡ length names = a.long in (omega arith, a.booleans n q)) h

formula_free : (names : List Name) (columns : List ℕ) (k count n : ℕ) (l : Formula) → AreColumns names columns k count → FormulaOver names l → NameAt names n IsBooleanVariable → ¬ (Stands n (tree_of l)) → IsFree (Define (column_in columns n)) columns k (tree_of l)
formula_free names columns k count n l a h q m = (
  a.booleans n q,
  some_names (λ i. NameAt names i IsBooleanVariable) (λ i. column_in columns n ≡ column_in columns i → ⊥) (tree_of l) h
      (λ i p t e. m (subst (λ (j : ℕ). Stands j (tree_of l)) (a.differ i n (boolean_variable names i p) (boolean_variable names n q) (sym e)) t)),
)

literal_terms : (P : ℕ → Type 0) (k : ℕ) (l : Literal) → LiteralBelow k l → ((c : ℕ) → c < k → P c) → EachColumn P (own_terms l)
literal_terms P k (Fixed b) h f = tt
literal_terms P k (Column c n) h f = (f c h, tt)

-- the literal's column is below the one that is free behind the fresh ones
pub literal_below : (P : ℕ → Type 0) (columns : List ℕ) (k : ℕ) (l : Formula) → IsPlacedFormula columns k l → ((c : ℕ) → c < k + fresh_count Read (column_in columns) (tree_of l) → P c) → EachColumn P (literal_form columns k l).terms
literal_below P columns k l h f = literal_terms P (k + fresh_count Read (column_in columns) (tree_of l)) (literal_by Read (column_in columns) k (tree_of l))
    (used_below Read columns k (tree_of l) (name_more (λ n. (n < length columns) × (column_in columns n < k)) (λ n. column_in columns n < k) (tree_of l) (λ n q. q.1) h) tt) f

-- ---- bodies
pub body_placed : (names : List Name) (boxes : List Interval) (columns : List ℕ) (k : ℕ) (name : Option ℕ) (b : Body) → AreColumns names columns k (fresh_in columns b) → BodyOver names b → Named names name b → OfName (λ n. ¬ (MentionedIn n b)) name →
    length boxes ≡ length names → IsPlacedBody boxes columns k (own_column columns name) b
body_placed names boxes columns k (Some n) (Guard f e) a h s m l =
    let q : NameAt names n IsVariable = boolean_variable names n (truth_boolean names n s) in
    (h.1, form_placed names columns k 0 f a h.0, form_boxed names boxes f l h.0, form_apart names columns k 0 n f a h.0 q m)
body_placed names boxes columns k None (Guard f e) a h s m l = absurd (cc)
body_placed names boxes columns k (Some n) (Choice t f g) a h s m l =
    let q : NameAt names n IsVariable = real_variable names n s in
    let c : ℕ = fresh_count Read (column_in columns) (tree_of t) in
    let p : IsPlacedFormula columns k t = formula_placed names columns k c t a h.0 in (
      p,
      literal_below (λ d. ¬ (d ≡ column_in columns n)) columns k t p (λ d i e. let r : k + fresh_count Read (column_in columns) (tree_of t) ≤ column_in columns n = a.reals n s in omega arith),
      form_placed names columns k c f a h.1,
      form_boxed names boxes f l h.1,
      form_apart names columns k c n f a h.1 q (λ i. m (inr (inl i))),
      form_placed names columns k c g a h.2,
      form_boxed names boxes g l h.2,
      form_apart names columns k c n g a h.2 q (λ i. m (inr (inr i))),
    )
body_placed names boxes columns k None (Choice t f g) a h s m l = absurd (cc)
body_placed names boxes columns k (Some n) (Logic t) a h s m l =
    let c : ℕ = fresh_count (Define 0) (column_in columns) (tree_of t) in
    (formula_placed names columns k c t a h, formula_free names columns k c n t a h (truth_boolean names n s) m)
body_placed names boxes columns k None (Logic t) a h s m l = absurd (cc)
body_placed names boxes columns k (Some n) (Linear f) a h s m l = (form_placed names columns k 0 f a h, form_apart names columns k 0 n f a h (real_variable names n s) m)
body_placed names boxes columns k None (Linear f) a h s m l = absurd (cc)
body_placed names boxes columns k name (NextBool t) a h s m l = formula_placed names columns k _ t a h
body_placed names boxes columns k name (NextReal f) a h s m l = form_placed names columns k 0 f a h
body_placed names boxes columns k name (OutBool t) a h s m l = formula_placed names columns k _ t a h
body_placed names boxes columns k name (OutReal f) a h s m l = form_placed names columns k 0 f a h
body_placed names boxes columns k name (MustHold t) a h s m l = formula_placed names columns k _ t a h
body_placed names boxes columns k name (MustMost f) a h s m l = form_placed names columns k 0 f a h
body_placed names boxes columns k name (MustZero f) a h s m l = form_placed names columns k 0 f a h

-- the name that an item defines has a column
pub own_within : (names : List Name) (columns : List ℕ) (k count : ℕ) (name : Option ℕ) (b : Body) → AreColumns names columns k count → Named names name b → OfName (λ n. n < length columns) name
own_within names columns k count (Some n) b a h = let l : n < length names = name_below (Suits b) names n h in let e : length columns ≡ length names = a.long in omega arith
own_within names columns k count None b a h = tt
