-- A source has one translation: what each of its items says leaves nothing of the body free.
use Rattle.std.proofs.Common.{◌≡◌, ℕ, List, [], ◌∷◌, Option, Some, None, Bool, true, false, map, refl, sym, ◌∙◌, ap, ap₂}
use Rattle.hys_number.specs.Number.{Number}
use Rattle.hys_lin.specs.declared.form.Interval.{Interval}
use Rattle.hys_ast.specs.declared.place.Place.{Place}
use Rattle.hys_ast.specs.declared.source.Kind.{Kind}
use Rattle.hys_ast.specs.declared.source.Kind.TheVariants as kind
use Rattle.hys_ast.specs.declared.tree.BinaryOp.{BinaryOp}
use Rattle.hys_ast.specs.declared.tree.BinaryOp.TheVariants as binary
use Rattle.hys_ast.specs.Tree.{Tree, Decl, Item, Source}
use Rattle.hys_ast.specs.Tree as tree
use Rattle.hys_meaning.specs.Values.{Assignment}
use Rattle.hys_meaning.specs.Names.{parameters, is_parameter}
use Rattle.hys_meaning.specs.Steps.{is_given, tolerance_of}
use Rattle.hys_meaning.specs.Typed.{is_comparison}
use Rattle.hys_meaning.specs.Unfolded.{unfolded, is_inequality}
use Rattle.hys_meaning.specs.Forms.{form, guard_form}
use Rattle.hys_meaning.specs.Bodies.{body}
use Rattle.hys_meaning.specs.Bodies as said
use Rattle.hys_formula.specs.Formulas.{FormulaTree, constant}
use Rattle.hys_prog.specs.declared.program.Role.{Role}
use Rattle.hys_prog.specs.declared.program.Body.{Body}
use Rattle.hys_prog.specs.declared.program.Name.{Name as ProgName}
use Rattle.hys_prog.specs.declared.program.ProgItem.{ProgItem}
use Rattle.hys_prog.specs.declared.program.Program.{Program}
use Rattle.hys_type.specs.Checks.{has_top}
use Rattle.hys_type.specs.ProgramTrees.{BodyTree, Guard, Choice, Logic, Linear, NextBool, NextReal, OutBool, OutReal, MustHold, MustMost, MustZero, body_tree, ItemTree, item_tree, ProgramTree, program_tree}
use Rattle.hys_type.specs.Translation.{Setting, setting, place_if, left_kind, else_form, difference_form, formula, IsNameOf, OneByOne, IsBodyOf, guard, choice, logic, linear, next_bool, next_real, out_bool, out_real, must_hold, must_most, must_zero, IsItemOf, IsNamedTranslation, IsTranslation}
use Rattle.hys_type.proofs.Tops.{no_comparison_at, inequality_at}
use Rattle.hys_type.proofs.OneForm.{only, only_form}

-- ---- bodies
-- what no item has
abbrev no_body : BodyTree
no_body = Logic (constant false)

abbrev output_as : Setting → Option Kind → Tree → BodyTree
output_as c (Some kind.Bool) e = OutBool (formula c.names e)
output_as c (Some kind.Real) e = OutReal (only c.names (form c.names e))
output_as c None e = no_body

abbrev compared_as : Setting → BinaryOp → Tree → Tree → Place → BodyTree
compared_as c binary.Add a b p = MustHold (formula c.names (tree.Binary binary.Add a b p))
compared_as c binary.Sub a b p = MustHold (formula c.names (tree.Binary binary.Sub a b p))
compared_as c binary.Mul a b p = MustHold (formula c.names (tree.Binary binary.Mul a b p))
compared_as c binary.Div a b p = MustHold (formula c.names (tree.Binary binary.Div a b p))
compared_as c binary.And a b p = MustHold (formula c.names (tree.Binary binary.And a b p))
compared_as c binary.Or a b p = MustHold (formula c.names (tree.Binary binary.Or a b p))
compared_as c binary.Iff a b p = MustHold (formula c.names (tree.Binary binary.Iff a b p))
compared_as c binary.Then a b p = MustHold (formula c.names (tree.Binary binary.Then a b p))
compared_as c binary.From a b p = MustHold (formula c.names (tree.Binary binary.From a b p))
compared_as c binary.Most a b p = MustMost (only c.names (guard_form c.names (tree.Binary binary.Most a b p)))
compared_as c binary.Least a b p = MustMost (only c.names (guard_form c.names (tree.Binary binary.Least a b p)))
compared_as c binary.Equal a b p = MustZero (only c.names (difference_form c.names a b))

abbrev demand_as : Setting → Tree → BodyTree
demand_as c (tree.Number text p) = MustHold (formula c.names (tree.Number text p))
demand_as c (tree.Name n p) = MustHold (formula c.names (tree.Name n p))
demand_as c (tree.Truth b p) = MustHold (formula c.names (tree.Truth b p))
demand_as c (tree.Cast n p) = MustHold (formula c.names (tree.Cast n p))
demand_as c (tree.Unary op a p) = MustHold (formula c.names (tree.Unary op a p))
demand_as c (tree.Binary op a b p) = compared_as c op a b p

holds_as : (c : Setting) (e : Tree) → has_top is_comparison e ≡ false → demand_as c e ≡ MustHold (formula c.names e)
holds_as c (tree.Number text p) h = refl
holds_as c (tree.Name n p) h = refl
holds_as c (tree.Truth b p) h = refl
holds_as c (tree.Cast n p) h = refl
holds_as c (tree.Unary op a p) h = refl
holds_as c (tree.Binary op a b p) h =
    no_comparison_at (λ (o : BinaryOp). compared_as c o a b p ≡ MustHold (formula c.names (tree.Binary o a b p))) refl refl refl refl refl refl refl refl refl op h

most_as : (c : Setting) (e : Tree) → has_top is_inequality e ≡ true → demand_as c e ≡ MustMost (only c.names (guard_form c.names e))
most_as c (tree.Number text p) h = absurd (cc)
most_as c (tree.Name n p) h = absurd (cc)
most_as c (tree.Truth b p) h = absurd (cc)
most_as c (tree.Cast n p) h = absurd (cc)
most_as c (tree.Unary op a p) h = absurd (cc)
most_as c (tree.Binary op a b p) h =
    inequality_at (λ (o : BinaryOp). compared_as c o a b p ≡ MustMost (only c.names (guard_form c.names (tree.Binary o a b p)))) refl refl op h

abbrev body_as : Setting → Option Kind → said.Body → BodyTree
body_as c k (said.Guard e t) = Guard (only c.names (guard_form c.names e)) (tolerance_of c.tolerance c.values t)
body_as c k (said.Choice e h o) = Choice (formula c.names e) (only c.names (form c.names h)) (only c.names (else_form c.names o))
body_as c k (said.Logic e) = Logic (formula c.names e)
body_as c k (said.Linear e) = Linear (only c.names (form c.names e))
body_as c k (said.NextBool e) = NextBool (formula c.names e)
body_as c k (said.NextReal e) = NextReal (only c.names (form c.names e))
body_as c k (said.Output e) = output_as c k e
body_as c k (said.Must e) = demand_as c e
body_as c k said.Nothing = no_body

body_is : (c : Setting) (k : Option Kind) (s : said.Body) (b : Body) → IsBodyOf c k s b → body_tree b ≡ body_as c k s
body_is c k s b (guard {e = e} {f = f} i j x y) =
    ap body_tree j ∙ ap₂ Guard (only_form c.names (guard_form c.names e) f x) y ∙ sym (ap (body_as c k) i)
body_is c k s b (choice {e = e} {h = h} {o = o} {l = l} {f = f} {g = g} i j w x y) =
    ap body_tree j ∙ ap (λ (t : FormulaTree). Choice t f g) w
    ∙ ap₂ (Choice (formula c.names e)) (only_form c.names (form c.names h) f x) (only_form c.names (else_form c.names o) g y)
    ∙ sym (ap (body_as c k) i)
body_is c k s b (logic i j x) = ap body_tree j ∙ ap Logic x ∙ sym (ap (body_as c k) i)
body_is c k s b (linear {e = e} {f = f} i j x) =
    ap body_tree j ∙ ap Linear (only_form c.names (form c.names e) f x) ∙ sym (ap (body_as c k) i)
body_is c k s b (next_bool i j x) = ap body_tree j ∙ ap NextBool x ∙ sym (ap (body_as c k) i)
body_is c k s b (next_real {e = e} {f = f} i j x) =
    ap body_tree j ∙ ap NextReal (only_form c.names (form c.names e) f x) ∙ sym (ap (body_as c k) i)
body_is c k s b (out_bool {e = e} q i j x) =
    ap body_tree j ∙ ap OutBool x ∙ sym (ap (body_as c k) i ∙ ap (λ (o : Option Kind). output_as c o e) q)
body_is c k s b (out_real {e = e} {f = f} q i j x) =
    ap body_tree j ∙ ap OutReal (only_form c.names (form c.names e) f x) ∙ sym (ap (body_as c k) i ∙ ap (λ (o : Option Kind). output_as c o e) q)
body_is c k s b (must_hold {e = e} q i j x) = ap body_tree j ∙ ap MustHold x ∙ sym (ap (body_as c k) i ∙ holds_as c e q)
body_is c k s b (must_most {e = e} {f = f} q i j x) =
    ap body_tree j ∙ ap MustMost (only_form c.names (guard_form c.names e) f x) ∙ sym (ap (body_as c k) i ∙ most_as c e q)
body_is c k s b (must_zero {x = x} {y = y} {f = f} i j z) =
    ap body_tree j ∙ ap MustZero (only_form c.names (difference_form c.names x y) f z) ∙ sym (ap (body_as c k) i)

-- ---- items
abbrev of_item : Option ℕ → Place → BodyTree → ItemTree
of_item n p b = record { name = n; place = p; body = b }

abbrev item_as : Setting → Item → ItemTree
item_as c i = of_item (place_if c.names i.name) i.place (body_as c (left_kind c.names i.name) (body i))

item_is : (c : Setting) (i : Item) (t : ProgItem) → IsItemOf c i t → item_tree t ≡ item_as c i
item_is c i t h =
    ap₂ (λ (n : Option ℕ) (p : Place). of_item n p (body_tree t.body)) h.name h.place
    ∙ ap (of_item (place_if c.names i.name) i.place) (body_is c (left_kind c.names i.name) (body i) t.body h.body)

items_are : (c : Setting) (is : List Item) (ts : List ProgItem) → OneByOne (IsItemOf c) is ts → map item_tree ts ≡ map (item_as c) is
items_are c [] [] h = refl
items_are c [] (t ∷ ts) h = absurd h
items_are c (i ∷ is) [] h = absurd h
items_are c (i ∷ is) (t ∷ ts) h = ap₂ (λ (x : ItemTree) (xs : List ItemTree). x ∷ xs) (item_is c i t h.0) (items_are c is ts h.1)

-- ---- names
abbrev of_interval : Number → Number → Interval
of_interval a b = record { low = a; high = b }

same_interval : (i j : Interval) → i.low ≡ j.low → i.high ≡ j.high → i ≡ j
same_interval i j e h = ap₂ of_interval e h

abbrev of_name : List ℕ → Role → Kind → Place → Interval → Number → ProgName
of_name n r k p i a = record { text = n; role = r; kind = k; place = p; bounds = i; value = a }

one_box : (w : Assignment) (d : Decl) (x y : ProgName) → IsNameOf w d x → IsNameOf w d y → x.bounds ≡ y.bounds
one_box w d x y h k = go (is_given d.section) refl
  where
    go : (b : Bool) → is_given d.section ≡ b → x.bounds ≡ y.bounds
    go true e = same_interval x.bounds y.bounds (h.low e ∙ sym (k.low e)) (h.high e ∙ sym (k.high e))
    go false e = h.usual e ∙ sym (k.usual e)

one_value : (w : Assignment) (d : Decl) (x y : ProgName) → IsNameOf w d x → IsNameOf w d y → x.value ≡ y.value
one_value w d x y h k = go (is_parameter d.section) refl
  where
    go : (b : Bool) → is_parameter d.section ≡ b → x.value ≡ y.value
    go true e = h.value e ∙ sym (k.value e)
    go false e = h.no_value e ∙ sym (k.no_value e)

one_name : (w : Assignment) (d : Decl) (x y : ProgName) → IsNameOf w d x → IsNameOf w d y → x ≡ y
one_name w d x y h k =
    ap₂ (λ (n : List ℕ) (r : Role). of_name n r x.kind x.place x.bounds x.value) (h.text ∙ sym k.text) (h.role ∙ sym k.role)
    ∙ ap₂ (λ (o : Kind) (p : Place). of_name y.text y.role o p x.bounds x.value) (h.kind ∙ sym k.kind) (h.place ∙ sym k.place)
    ∙ ap₂ (λ (i : Interval) (a : Number). of_name y.text y.role y.kind y.place i a) (one_box w d x y h k) (one_value w d x y h k)

one_list : (w : Assignment) (ds : List Decl) (xs ys : List ProgName) → OneByOne (IsNameOf w) ds xs → OneByOne (IsNameOf w) ds ys → xs ≡ ys
one_list w [] [] [] h k = refl
one_list w [] [] (y ∷ ys) h k = absurd k
one_list w [] (x ∷ xs) ys h k = absurd h
one_list w (d ∷ ds) [] ys h k = absurd h
one_list w (d ∷ ds) (x ∷ xs) [] h k = absurd k
one_list w (d ∷ ds) (x ∷ xs) (y ∷ ys) h k =
    ap₂ (λ (z : ProgName) (zs : List ProgName). z ∷ zs) (one_name w d x y h.0 k.0) (one_list w ds xs ys h.1 k.1)

-- ---- programs
abbrev of_program : List ℕ → List ProgName → List ItemTree → ℕ → ProgramTree
of_program n ns is m = record { system = n; names = ns; items = is; weight = m }

one_program : (tolerance : Number) (s : Source) (p q : Program) → IsNamedTranslation tolerance s p → IsNamedTranslation tolerance s q → program_tree p ≡ program_tree q
one_program tolerance s p q h k =
    let c : Setting = setting tolerance s in
    ap₂ (λ (n : List ℕ) (ns : List ProgName). of_program n ns (map item_tree p.items) p.weight) (h.system ∙ sym k.system) (one_list (parameters s.decls) s.decls p.names q.names h.names k.names)
    ∙ ap₂ (of_program q.system q.names) (items_are c s.items p.items h.items ∙ sym (items_are c s.items q.items k.items)) (h.weight ∙ sym k.weight)

pub one_translation : (tolerance : Number) (s : Source) (p q : Program) → IsTranslation tolerance s p → IsTranslation tolerance s q → program_tree p ≡ program_tree q
one_translation tolerance s p q h k = one_program tolerance (unfolded s) p q h k
