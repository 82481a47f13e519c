-- The boxes of names don't matter to the checks of items.
use Rattle.std.proofs.Common.{◌≡◌, ℕ, List, [], ◌∷◌, ◌++◌, Option, Some, None, Bool, true, false, ◌&&◌, cond, not, map, refl, ◌∙◌, ap, ap₂}
use Rattle.std.specs.List.{list_any}
use Rattle.std.specs.Str.{bytes_eq}
use Rattle.hys_number.specs.Number.{Number}
use Rattle.hys_number.specs.Ops.{whole}
use Rattle.hys_lin.specs.declared.lost.Lost.{Lost}
use Rattle.hys_lin.specs.Operations.{plus, minus, times}
use Rattle.hys_ast.specs.declared.place.Place.{Place}
use Rattle.hys_ast.specs.declared.source.Section.{Section}
use Rattle.hys_ast.specs.declared.source.Section.TheVariants as section
use Rattle.hys_ast.specs.declared.source.Kind.{Kind}
use Rattle.hys_ast.specs.declared.source.Kind.TheVariants as kind
use Rattle.hys_ast.specs.declared.tree.BinaryOp.{BinaryOp}
use Rattle.hys_ast.specs.declared.tree.BinaryOp.TheVariants as binary
use Rattle.hys_ast.specs.Tree.{Tree, Item, Decl}
use Rattle.hys_ast.specs.Tree as tree
use Rattle.hys_meaning.specs.Values.{signed}
use Rattle.hys_meaning.specs.Names.{Name, look}
use Rattle.hys_meaning.specs.Forms.{Form, form, looked_up, combined}
use Rattle.hys_meaning.specs.Folding.{is_zero, is_constant, each, over, multiplied, folding}
use Rattle.hys_meaning.specs.Typed.{suits, defines}
use Rattle.hys_meaning.specs.Bodies.{Body, body}
use Rattle.hys_meaning.specs.Bodies as body
use Rattle.hys_meaning.specs.Unfolded.{is_inequality}
use Rattle.hys_type.specs.Faults.{Check, check}
use Rattle.hys_type.specs.Nodes.{is_declared, may_stand, may_be_cast, name_checks, sort_of_name, sort, linear_checks, node_checks}
use Rattle.hys_type.specs.Declarations.{if_some, place_of}
use Rattle.hys_type.specs.Checks.{scoped, expression, of_kind, has_top, demanded, tolerance_checks, output_checks, left_checks, left_name, right_checks, item_checks}
use Rattle.hys_type.specs.declared.constant.Known.{Known}
use Rattle.hys_type.specs.declared.fault.TypeFault.TheVariants as fault

abbrev pub unboxed : Name → Name
unboxed n = record { text = n.text; section = n.section; kind = n.kind; low = whole 0; high = whole 0; value = n.value }

abbrev pub unboxed_one : Option Name → Option Name
unboxed_one (Some n) = Some (unboxed n)
unboxed_one None = None

-- ---- names
pub same_look : (ns : List Name) (n : List ℕ) → look (map unboxed ns) n ≡ unboxed_one (look ns n)
same_look [] n = refl
same_look (m ∷ ns) n = go (bytes_eq m.text n) (same_look ns n)
  where
    go : (b : Bool) → look (map unboxed ns) n ≡ unboxed_one (look ns n) → cond b (Some (unboxed m)) (look (map unboxed ns) n) ≡ unboxed_one (cond b (Some m) (look ns n))
    go true h = refl
    go false h = h

-- what is asked of a found name doesn't ask for its box
asked : {A : Type 0} (f : Option Name → A) (ns : List Name) (n : List ℕ) → ((o : Option Name) → f (unboxed_one o) ≡ f o) → f (look (map unboxed ns) n) ≡ f (look ns n)
asked f ns n h = ap f (same_look ns n) ∙ h (look ns n)

same_sort : (ns : List Name) (e : Tree) → sort (map unboxed ns) e ≡ sort ns e
same_sort ns (tree.Number text p) = refl
same_sort ns (tree.Name n p) = asked sort_of_name ns n each_one
  where
    each_one : (o : Option Name) → sort_of_name (unboxed_one o) ≡ sort_of_name o
    each_one (Some n) = refl
    each_one None = refl
same_sort ns (tree.Truth b p) = refl
same_sort ns (tree.Cast n p) = refl
same_sort ns (tree.Unary op a p) = refl
same_sort ns (tree.Binary op a b p) = refl

same_looked : (n : List ℕ) (o : Option Name) → looked_up n (unboxed_one o) ≡ looked_up n o
same_looked n (Some m) = refl
same_looked n None = refl

pub same_form : (ns : List Name) (e : Tree) → form (map unboxed ns) e ≡ form ns e
same_form ns (tree.Number text p) = refl
same_form ns (tree.Name n p) = asked (looked_up n) ns n (same_looked n)
same_form ns (tree.Truth b p) = refl
same_form ns (tree.Cast n p) = asked (looked_up n) ns n (same_looked n)
same_form ns (tree.Unary op a p) = ap (λ (f : Form). record { factor = λ n. signed op (f.factor n); constant = signed op f.constant }) (same_form ns a)
same_form ns (tree.Binary op a b p) = ap₂ (combined op) (same_form ns a) (same_form ns b)

-- ---- forms
same_constant : (ns : List Name) (f : Form) → is_constant (map unboxed ns) f ≡ is_constant ns f
same_constant [] f = refl
same_constant (n ∷ ns) f = ap (λ (b : Bool). is_zero (f.factor n.text) && b) (same_constant ns f)

same_each : (o : Number → Number → Lost) (ns : List Name) (f g : List ℕ → Number) (a b : Number) → each o (map unboxed ns) f g a b ≡ each o ns f g a b
same_each o ns f g a b = ap (λ os. os ++ o a b ∷ []) (over_names ns)
  where
    over_names : (ns : List Name) → map (λ (n : Name). o (f n.text) (g n.text)) (map unboxed ns) ≡ map (λ (n : Name). o (f n.text) (g n.text)) ns
    over_names [] = refl
    over_names (n ∷ ns) = ap (λ os. o (f n.text) (g n.text) ∷ os) (over_names ns)

same_product : (ns : List Name) (b : Bool) (f g : Form) → multiplied b (map unboxed ns) f g ≡ multiplied b ns f g
same_product ns true f g = same_each times ns (λ n. f.constant) g.factor f.constant g.constant
same_product ns false f g = same_each times ns f.factor (λ n. g.constant) f.constant g.constant

same_folding : (ns : List Name) (op : BinaryOp) (f g : Form) → folding (map unboxed ns) op f g ≡ folding ns op f g
same_folding ns binary.Add f g = same_each plus ns f.factor g.factor f.constant g.constant
same_folding ns binary.Sub f g = same_each minus ns f.factor g.factor f.constant g.constant
same_folding ns binary.Mul f g = ap (λ (b : Bool). multiplied b (map unboxed ns) f g) (same_constant ns f) ∙ same_product ns (is_constant ns f) f g
same_folding ns binary.Div f g = same_each over ns f.factor (λ n. g.constant) f.constant g.constant
same_folding ns binary.Most f g = same_each minus ns f.factor g.factor f.constant g.constant
same_folding ns binary.Least f g = same_each minus ns g.factor f.factor g.constant f.constant
same_folding ns binary.Equal f g = same_each minus ns f.factor g.factor f.constant g.constant
same_folding ns binary.And f g = refl
same_folding ns binary.Or f g = refl
same_folding ns binary.Iff f g = refl
same_folding ns binary.Then f g = refl
same_folding ns binary.From f g = refl

same_linear : (ns : List Name) (op : BinaryOp) (f g : Form) (p : Place) → linear_checks (map unboxed ns) op f g p ≡ linear_checks ns op f g p
same_linear ns binary.Add f g p = refl
same_linear ns binary.Sub f g p = refl
same_linear ns binary.Mul f g p = ap₂ (λ (a b : Bool). check (cond a true b) (fault.NotLinear p) ∷ []) (same_constant ns f) (same_constant ns g)
same_linear ns binary.Div f g p = ap (λ (a : Bool). check a (fault.NotLinear p) ∷ check (not (is_zero g.constant)) (fault.ZeroDivisor p) ∷ []) (same_constant ns g)
same_linear ns binary.Most f g p = refl
same_linear ns binary.Least f g p = refl
same_linear ns binary.Equal f g p = refl
same_linear ns binary.And f g p = refl
same_linear ns binary.Or f g p = refl
same_linear ns binary.Iff f g p = refl
same_linear ns binary.Then f g p = refl
same_linear ns binary.From f g p = refl

same_nodes : (ns : List Name) (e : Tree) → node_checks (map unboxed ns) e ≡ node_checks ns e
same_nodes ns (tree.Number text p) = refl
same_nodes ns (tree.Name n p) = asked (λ o. name_checks may_stand o p) ns n each_one
  where
    each_one : (o : Option Name) → name_checks may_stand (unboxed_one o) p ≡ name_checks may_stand o p
    each_one (Some n) = refl
    each_one None = refl
same_nodes ns (tree.Truth b p) = refl
same_nodes ns (tree.Cast n p) = asked (λ o. name_checks may_be_cast o p) ns n each_one
  where
    each_one : (o : Option Name) → name_checks may_be_cast (unboxed_one o) p ≡ name_checks may_be_cast o p
    each_one (Some n) = refl
    each_one None = refl
same_nodes ns (tree.Unary op a p) = rw (same_nodes ns a, same_sort ns a) refl
same_nodes ns (tree.Binary op a b p) = rw (same_nodes ns a, same_nodes ns b, same_sort ns a, same_sort ns b, same_form ns a, same_form ns b, same_linear ns op (form ns a) (form ns b) p, same_folding ns op (form ns a) (form ns b)) refl

-- ---- items
same_kind : (k : Kind) (ns : List Name) (e : Tree) → of_kind k (map unboxed ns) e ≡ of_kind k ns e
same_kind k ns e = rw (same_nodes ns e, same_sort ns e) refl

same_suits : (s : Section) (o : Option Name) → suits s (unboxed_one o) ≡ suits s o
same_suits section.State o = refl
same_suits section.Input o = refl
same_suits section.Output o = refl
same_suits section.Parameter o = refl
same_suits section.Aux o = refl
same_suits section.Ad (Some n) = refl
same_suits section.Ad None = refl
same_suits section.Da (Some n) = refl
same_suits section.Da None = refl
same_suits section.Logic (Some n) = refl
same_suits section.Logic None = refl
same_suits section.Linear (Some n) = refl
same_suits section.Linear None = refl
same_suits section.Automata (Some n) = refl
same_suits section.Automata None = refl
same_suits section.Continuous (Some n) = refl
same_suits section.Continuous None = refl
same_suits section.OutputItem (Some n) = refl
same_suits section.OutputItem None = refl
same_suits section.Must o = refl

same_left : (ns : List Name) (before : List Item) (i : Item) (o : Option (List ℕ)) → if_some (left_checks (map unboxed ns) before i) o ≡ if_some (left_checks ns before i) o
same_left ns before i None = refl
same_left ns before i (Some n) = ap (λ o. check (is_declared o) (fault.Unknown i.place) ∷ check (suits i.section o) (fault.WrongSection i.place) ∷ check (not (list_any (λ j. defines n j.name) before)) (fault.DefinedTwice i.place) ∷ []) (same_look ns n) ∙ each_one (look ns n)
  where
    each_one : (o : Option Name) → check (is_declared (unboxed_one o)) (fault.Unknown i.place) ∷ check (suits i.section (unboxed_one o)) (fault.WrongSection i.place) ∷ check (not (list_any (λ j. defines n j.name) before)) (fault.DefinedTwice i.place) ∷ []
        ≡ check (is_declared o) (fault.Unknown i.place) ∷ check (suits i.section o) (fault.WrongSection i.place) ∷ check (not (list_any (λ j. defines n j.name) before)) (fault.DefinedTwice i.place) ∷ []
    each_one (Some m) = rw (same_suits i.section (Some m)) refl
    each_one None = refl

same_else : (ns : List Name) (o : Option Tree) → if_some (of_kind kind.Real (map unboxed ns)) o ≡ if_some (of_kind kind.Real ns) o
same_else ns (Some e) = same_kind kind.Real ns e
same_else ns None = refl

same_output : (ns : List Name) (o : Option Name) (e : Tree) → output_checks (map unboxed ns) (unboxed_one o) e ≡ output_checks ns o e
same_output ns (Some n) e = same_kind n.kind ns e
same_output ns None e = refl

same_left_name : (ns : List Name) (o : Option (List ℕ)) → left_name (map unboxed ns) o ≡ unboxed_one (left_name ns o)
same_left_name ns (Some n) = same_look ns n
same_left_name ns None = refl

same_demand : (ns : List Name) (e : Tree) → expression (map unboxed ns) (demanded (map unboxed ns)) e ≡ expression ns (demanded ns) e
same_demand ns e = rw (same_nodes ns e, same_sort ns e) refl

same_right : (ns : List Name) (ks : List Known) (o : Option Name) (p : Place) (b : Body) → right_checks (scoped (map unboxed ns) ks) (unboxed_one o) p b ≡ right_checks (scoped ns ks) o p b
same_right ns ks o p (body.Guard e t) = ap (λ (cs : List Check). (cs ++ check (has_top is_inequality e) (fault.Kind (place_of e)) ∷ []) ++ if_some (tolerance_checks ks p) t) (same_nodes ns e)
same_right ns ks o p (body.Choice a b c) = rw (same_kind kind.Bool ns a, same_kind kind.Real ns b, same_else ns c) refl
same_right ns ks o p (body.Logic e) = same_kind kind.Bool ns e
same_right ns ks o p (body.Linear e) = same_kind kind.Real ns e
same_right ns ks o p (body.NextBool e) = same_kind kind.Bool ns e
same_right ns ks o p (body.NextReal e) = same_kind kind.Real ns e
same_right ns ks o p (body.Output e) = same_output ns o e
same_right ns ks o p (body.Must e) = same_demand ns e
same_right ns ks o p body.Nothing = refl

pub same_item : (ns : List Name) (ks : List Known) (before : List Item) (i : Item) → item_checks (scoped (map unboxed ns) ks) before i ≡ item_checks (scoped ns ks) before i
same_item ns ks before i =
    ap₂ (λ (xs ys : List Check). xs ++ ys) (same_left ns before i i.name)
    (ap (λ (o : Option Name). right_checks (scoped (map unboxed ns) ks) o i.place (body i)) (same_left_name ns i.name) ∙ same_right ns ks (left_name ns i.name) i.place (body i))
