-- The declarations and items that the grammar gives stand as they are written, and none has the name of an unnamed guard.
use Rattle.std.proofs.Common.{◌≡◌, ℕ, true, false, List, Some, None, refl, sym, ◌∙◌, subst}
use Rattle.std.specs.List.{AllByRecursion}
use Rattle.hys_lex.specs.Spaced.{IsSpelled}
use Rattle.hys_ast.specs.declared.source.Section.{Section}
use Rattle.hys_ast.specs.declared.source.Section.TheVariants as section
use Rattle.hys_ast.specs.declared.source.Kind.{Kind}
use Rattle.hys_ast.specs.declared.source.Kind.TheVariants as kind
use Rattle.hys_ast.specs.Grammar.{has_bounds, has_formulas}
use Rattle.hys_ast.specs.Nodes.{shape_expressions}
use Rattle.hys_ast.specs.Printed.{name}
use Rattle.hys_ast.specs.Tree.{Tree, Decl, Shape, Item}
use Rattle.hys_ast.specs.Tree as tree
use Rattle.hys_ast.proofs.ValidTrees.{Valid}
use Rattle.hys_ast.proofs.ValidParts.{Sound, alone, bounded, valued, SoundChoice, short, long, SoundGuard, narrow, wide, SoundItem, formula, guard, choice, must}
use Rattle.hys_meaning.specs.Bodies.{body_in}
use Rattle.hys_meaning.specs.Typed.{has_box}
use Rattle.hys_type.specs.Written.{IsNoGuard, NamesNoGuard, IsReadDecl, HasRight, IsReadItem}
use Rattle.hys_type.proofs.WordNames.{word_differs}

never : false ≡ true → ⊥
never q = absurd (cc)

-- ---- names
no_guard : (n : List ℕ) → IsSpelled (name n) → IsNoGuard n
no_guard n w k = word_differs n k w

names_no_guard : (e : Tree) → Valid e → NamesNoGuard e
names_no_guard (tree.Number text p) v = tt
names_no_guard (tree.Name n p) v = no_guard n v
names_no_guard (tree.Truth b p) v = tt
names_no_guard (tree.Cast n p) v = no_guard n v
names_no_guard (tree.Unary op a p) v = names_no_guard a v
names_no_guard (tree.Binary op a b p) v = (names_no_guard a v.0, names_no_guard b v.1)

-- ---- declarations
bounds_box : (d : Decl) (s : Section) (k : Kind) → d.section ≡ s → d.kind ≡ k → has_bounds s k ≡ true → has_box d ≡ true
bounds_box d section.State kind.Real e f h = cc
bounds_box d section.State kind.Bool e f h = absurd (cc)
bounds_box d section.Input kind.Real e f h = cc
bounds_box d section.Input kind.Bool e f h = absurd (cc)
bounds_box d section.Output k e f h = absurd (cc)
bounds_box d section.Parameter k e f h = absurd (cc)
bounds_box d section.Aux k e f h = absurd (cc)
bounds_box d section.Ad k e f h = absurd (cc)
bounds_box d section.Da k e f h = absurd (cc)
bounds_box d section.Logic k e f h = absurd (cc)
bounds_box d section.Linear k e f h = absurd (cc)
bounds_box d section.Automata k e f h = absurd (cc)
bounds_box d section.Continuous k e f h = absurd (cc)
bounds_box d section.OutputItem k e f h = absurd (cc)
bounds_box d section.Must k e f h = absurd (cc)

pub decl_written : (d : Decl) → Sound d → IsReadDecl d
decl_written _ (alone {n = n} w) = (no_guard n w, λ e. refl, λ e. (refl, refl))
decl_written _ (bounded {s = s} {k = k} {n = n} {p = p} {low = low} {high = high} g w v u) =
    (no_guard n w, λ e. refl, λ e. absurd (never (sym e ∙ bounds_box (record { section = s; kind = k; name = n; place = p; low = Some low; high = Some high; value = None }) s k refl refl g)))
decl_written _ (valued {n = n} w v) = (no_guard n w, λ e. absurd (never (sym e)), λ e. (refl, refl))

-- ---- items
formula_right : (s : Section) (e : Tree) → has_formulas s ≡ true → HasRight (body_in s (tree.Plain e))
formula_right section.State e h = absurd (cc)
formula_right section.Input e h = absurd (cc)
formula_right section.Output e h = absurd (cc)
formula_right section.Parameter e h = absurd (cc)
formula_right section.Aux e h = absurd (cc)
formula_right section.Ad e h = absurd (cc)
formula_right section.Da e h = absurd (cc)
formula_right section.Logic e h = tt
formula_right section.Linear e h = tt
formula_right section.Automata e h = tt
formula_right section.Continuous e h = tt
formula_right section.OutputItem e h = tt
formula_right section.Must e h = absurd (cc)

guard_right : (r : Shape) → SoundGuard r → HasRight (body_in section.Ad r)
guard_right _ (narrow v) = tt
guard_right _ (wide v w) = tt

guard_names : (r : Shape) → SoundGuard r → AllByRecursion NamesNoGuard (shape_expressions r)
guard_names _ (narrow {e = e} v) = (names_no_guard e v, tt)
guard_names _ (wide {a = a} {b = b} v w) = (names_no_guard a v, (names_no_guard b w, tt))

choice_right : (r : Shape) → SoundChoice r → HasRight (body_in section.Da r)
choice_right _ (short v w) = tt
choice_right _ (long v w x) = tt

choice_names : (r : Shape) → SoundChoice r → AllByRecursion NamesNoGuard (shape_expressions r)
choice_names _ (short {a = a} {b = b} v w) = (names_no_guard a v, (names_no_guard b w, tt))
choice_names _ (long {a = a} {b = b} {c = c} v w x) = (names_no_guard a v, (names_no_guard b w, (names_no_guard c x, tt)))

left_word : (n m : List ℕ) → IsSpelled (name n) → Some n ≡ Some m → IsNoGuard m
left_word n m w q = let e : n ≡ m = cc in subst IsNoGuard e (no_guard n w)

pub item_written : (i : Item) → SoundItem i → IsReadItem i
item_written _ (formula {s = s} {n = n} {e = e} g w v) =
    record { right = formula_right s e g; demands = λ q. absurd (cc); left = λ m q. left_word n m w q; names = (names_no_guard e v, tt) }
item_written _ (guard {n = n} {shape = r} w c) = record { right = guard_right r c; demands = λ q. absurd (cc); left = λ m q. left_word n m w q; names = guard_names r c }
item_written _ (choice {n = n} {shape = r} w c) = record { right = choice_right r c; demands = λ q. absurd (cc); left = λ m q. left_word n m w q; names = choice_names r c }
item_written _ (must {e = e} v) = record { right = tt; demands = λ q. refl; left = λ m q. absurd (cc); names = (names_no_guard e v, tt) }
