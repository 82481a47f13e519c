-- Forms over names with more names behind: the same form is one over all of them, where it has no factor for those
-- behind.
use Rattle.std.proofs.Common.{◌≡◌, ℕ, suc, ◌+◌, ◌<◌, ◌≤◌, List, [], ◌∷◌, ◌++◌, Option, Some, None, Bool, true, false, cond, length, refl, sym, ◌∙◌, ap, subst, arith}
use Rattle.std.specs.Str.{bytes_eq}
use Rattle.std.specs.List.{AllByRecursion}
use Rattle.std.proofs.lemmas.List.{length-append}
use Rattle.hys_number.specs.Ops.{whole}
use Rattle.hys_lin.specs.declared.form.Affine.{Affine}
use Rattle.hys_lin.specs.declared.form.Term.{Term}
use Rattle.hys_lin.specs.Sums.{EachColumn}
use Rattle.hys_lin.proofs.Lists.{each_more}
use Rattle.hys_meaning.specs.Names.{Name, look}
use Rattle.hys_meaning.specs.Forms.{Form, form, guard_form, guard_between}
use Rattle.hys_ast.specs.declared.tree.BinaryOp.{BinaryOp}
use Rattle.hys_ast.specs.declared.tree.BinaryOp.TheVariants as binary
use Rattle.hys_ast.specs.Tree.{Tree}
use Rattle.hys_ast.specs.Tree as tree
use Rattle.hys_type.specs.Translation.{HaveFactors, IsFormOf, else_form, difference_form, place_in}
use Rattle.hys_type.proofs.Linear.{Outside, outside, combined_zero}
use Rattle.hys_type.proofs.SparseForms.{no_column}

-- ---- names
pub look_front : (ns ms : List Name) (n : List ℕ) (m : Name) → look ns n ≡ Some m → look (ns ++ ms) n ≡ Some m
look_front [] ms n m h = absurd (cc)
look_front (k ∷ ns) ms n m h = go (bytes_eq k.text n) h (λ g. look_front ns ms n m g)
  where
    go : (b : Bool) → cond b (Some k) (look ns n) ≡ Some m → (look ns n ≡ Some m → look (ns ++ ms) n ≡ Some m) → cond b (Some k) (look (ns ++ ms) n) ≡ Some m
    go true h f = h
    go false h f = f h

pub place_front : (ns ms : List Name) (n : List ℕ) (m : Name) → look ns n ≡ Some m → place_in (ns ++ ms) n ≡ place_in ns n
place_front [] ms n m h = absurd (cc)
place_front (k ∷ ns) ms n m h = go (bytes_eq k.text n) h (λ g. place_front ns ms n m g)
  where
    go : (b : Bool) → cond b (Some k) (look ns n) ≡ Some m → (look ns n ≡ Some m → place_in (ns ++ ms) n ≡ place_in ns n) → cond b 0 (suc (place_in (ns ++ ms) n)) ≡ cond b 0 (suc (place_in ns n))
    go true h f = refl
    go false h f = ap suc (f h)

-- ---- forms
-- the form has no factor for these names
abbrev pub HasNone : List Name → Form → Type 0
HasNone [] g = Unit {0}
HasNone (n ∷ ns) g = (g.factor n.text ≡ whole 0) × HasNone ns g

behind : (k j : ℕ) (ms : List Name) (g : Form) (ts : List Term) → EachColumn (λ c. c < k) ts → k ≤ j → HasNone ms g → HaveFactors j ms g ts
behind k j [] g ts h l z = tt
behind k j (m ∷ ms) g ts h l z = (
  no_column j ts (each_more (λ c. c < k) (λ c. ¬ (c ≡ j)) ts (λ c a e. omega (arith, a, e, l)) h) ∙ sym z.0,
  behind k (suc j) ms g ts h (more k j l) z.1,
)
  where
    more : (k j : ℕ) → k ≤ j → k ≤ suc j
    more k j l = omega (arith, l)

both_parts : (j : ℕ) (ns ms : List Name) (g : Form) (ts : List Term) → HaveFactors j ns g ts → HaveFactors (j + length ns) ms g ts → HaveFactors j (ns ++ ms) g ts
both_parts j [] ms g ts h k = subst (λ (i : ℕ). HaveFactors i ms g ts) (none j) k
  where
    none : (j : ℕ) → j + 0 ≡ j
    none j = omega arith
both_parts j (n ∷ ns) ms g ts h k = (h.0, both_parts (suc j) ns ms g ts h.1 (subst (λ (i : ℕ). HaveFactors i ms g ts) (shifted j (length ns)) k))
  where
    shifted : (j n : ℕ) → j + suc n ≡ suc j + n
    shifted j n = omega arith

-- a form over the names so far is one over more names for which it has no factor
pub form_front : (ns ms : List Name) (g : Form) (f : Affine) → HasNone ms g → IsFormOf ns g f → IsFormOf (ns ++ ms) g f
form_front ns ms g f z h = record {
  terms = record { rise = h.terms.rise; below = each_more (λ c. c < length ns) (λ c. c < length (ns ++ ms)) f.terms (λ c a. longer c (length ns) (length ms) (length (ns ++ ms)) (length-append ns ms) a) h.terms.below };
  factors = both_parts 0 ns ms g f.terms h.factors (behind (length ns) (0 + length ns) ms g f.terms h.terms.below (same (length ns)) z);
  constant = h.constant;
}
  where
    longer : (c m n k : ℕ) → k ≡ m + n → c < m → c < k
    longer c m n k e a = omega (arith, e, a)

    same : (n : ℕ) → n ≤ 0 + n
    same n = omega arith

-- ---- names that aren't declared
abbrev pub AreNew : List Name → List Name → Type 0
AreNew ns ms = AllByRecursion (λ (m : Name). look ns m.text ≡ None) ms

has_none : (ns ms : List Name) (g : Form) → Outside ns g → AreNew ns ms → HasNone ms g
has_none ns [] g o h = tt
has_none ns (m ∷ ms) g o h = (o m.text h.0, has_none ns ms g o h.1)

-- the same form over more names, of which none is declared so far
pub form_wider : (ns ms : List Name) (g h : Form) (f : Affine) → Outside ns g → AreNew ns ms → h ≡ g → IsFormOf ns g f → IsFormOf (ns ++ ms) h f
form_wider ns ms g h f o n e i = subst (λ (x : Form). IsFormOf (ns ++ ms) x f) (sym e) (form_front ns ms g f (has_none ns ms g o n) i)

between_outside : (ns : List Name) (op : BinaryOp) (f g : Form) → Outside ns f → Outside ns g → Outside ns (guard_between op f g)
between_outside ns binary.Most f g o q n h = combined_zero n binary.Sub f g (o n h) (q n h)
between_outside ns binary.Least f g o q n h = combined_zero n binary.Sub g f (q n h) (o n h)
between_outside ns binary.Add f g o q n h = refl
between_outside ns binary.Sub f g o q n h = refl
between_outside ns binary.Mul f g o q n h = refl
between_outside ns binary.Div f g o q n h = refl
between_outside ns binary.And f g o q n h = refl
between_outside ns binary.Or f g o q n h = refl
between_outside ns binary.Iff f g o q n h = refl
between_outside ns binary.Then f g o q n h = refl
between_outside ns binary.From f g o q n h = refl
between_outside ns binary.Equal f g o q n h = refl

pub guard_outside : (ns : List Name) (e : Tree) → Outside ns (guard_form ns e)
guard_outside ns (tree.Number text p) n h = refl
guard_outside ns (tree.Name m p) n h = refl
guard_outside ns (tree.Truth b p) n h = refl
guard_outside ns (tree.Cast m p) n h = refl
guard_outside ns (tree.Unary op a p) n h = refl
guard_outside ns (tree.Binary op a b p) n h = between_outside ns op (form ns a) (form ns b) (outside ns a) (outside ns b) n h

pub difference_outside : (ns : List Name) (a b : Tree) → Outside ns (difference_form ns a b)
difference_outside ns a b n h = combined_zero n binary.Sub (form ns a) (form ns b) (outside ns a n h) (outside ns b n h)

pub else_outside : (ns : List Name) (o : Option Tree) → Outside ns (else_form ns o)
else_outside ns (Some e) n h = outside ns e n h
else_outside ns None n h = refl
