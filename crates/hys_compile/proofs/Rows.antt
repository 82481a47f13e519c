-- From the first number of the rows that doesn't fit to the fault that shows it.
use Rattle.std.proofs.Common.{◌≡◌, ℕ, suc, ◌+◌, ◌<◌, ◌≤◌, List, [], ◌∷◌, ◌++◌, Some, length, map, ap₂, refl, sym, ◌∙◌, ap, subst, arith, inr, Result, Ok, Err}
use Rattle.std.specs.List.{AllByRecursion}
use Rattle.hys_number.specs.Number.{Number}
use Rattle.hys_lin.specs.declared.form.Interval.{Interval}
use Rattle.hys_lin.specs.declared.lost.Lost.{Lost}
use Rattle.hys_lex.specs.declared.token.Token.{Token}
use Rattle.hys_ast.specs.declared.place.Place.{Place}
use Rattle.hys_ast.specs.Tree.{Source}
use Rattle.hys_meaning.specs.Unfolded.{unfolded}
use Rattle.hys_prog.specs.declared.program.Name.{Name}
use Rattle.hys_prog.specs.declared.program.Body.{Body}
use Rattle.hys_prog.specs.declared.program.Body.TheVariants as means
use Rattle.hys_prog.specs.declared.program.ProgItem.{ProgItem}
use Rattle.hys_prog.specs.declared.program.Program.{Program}
use Rattle.hys_prog.specs.declared.program.Order.{Order}
use Rattle.hys_prog.specs.Orders.{IsOrder}
use Rattle.hys_prog.specs.Places.{ItemAt}
use Rattle.hys_bound.specs.Ranges.{Placed, all_at, range, intervals, first_unfit}
use Rattle.hys_type.specs.Translation.{setting, IsTranslation}
use Rattle.hys_type.specs.ProgramTrees.{BodyTree, body_tree, ItemTree, item_tree, ProgramTree, program_tree}
use Rattle.hys_type.specs.ProgramTrees as tree
use Rattle.hys_type.proofs.OneTranslation.{one_translation}
use Rattle.hys_exact.specs.Columns.{front}
use Rattle.hys_lin.specs.Ranges.{ranging}
use Rattle.hys_logic.specs.declared.usage.Use.TheVariants.{Read, Define, Require}
use Rattle.hys_logic.specs.Literals.{column_in}
use Rattle.hys_logic.specs.Rows.{form_of}
use Rattle.hys_logic.specs.Uses.{fresh_count, literal_by}
use Rattle.hys_guard.specs.Numbers.{guard_numbers, choice_numbers}
use Rattle.hys_rows.specs.Items.{fresh_in}
use Rattle.hys_rows.specs.Moved.{moved}
use Rattle.hys_rows.specs.Numbers.{numbers_of}
use Rattle.hys_mld.specs.Placing.{placing_of}
use Rattle.hys_mld.specs.Fresh.{fresh_of_items, name_columns}
use Rattle.hys_mld.specs.Numbers.{items_numbers, row_numbers}
use Rattle.hys_mld.specs.Answers.{Judged}
use Rattle.hys_mld.specs.declared.fault.BuildFault.{BuildFault}
use Rattle.hys_mld.specs.declared.fault.BuildFault.TheVariants.{Range}
use Rattle.hys_compile.specs.declared.fault.SourceFault.{SourceFault}
use Rattle.hys_compile.specs.Faults.{range_fault}
use Rattle.hys_compile.specs.Sources.{AreRowNumbers}
use Rattle.hys_compile.specs.Text.{IsRanged, IsRowed, IsCause, IsRefusal, row}
use Rattle.hys_compile.proofs.OneList.{same_intervals}
use Rattle.hys_compile.proofs.Unfit.{Within, all_joined, all_within, first_of_all, stands_at}

-- ---- the numbers of a source, which don't depend on where formulas lie in memory
fresh_as : List ℕ → BodyTree → ℕ
fresh_as columns (tree.Guard f e) = 0
fresh_as columns (tree.Choice l a b) = fresh_count Read (column_in columns) l
fresh_as columns (tree.Logic l) = fresh_count (Define 0) (column_in columns) l
fresh_as columns (tree.Linear f) = 0
fresh_as columns (tree.NextBool l) = fresh_count Read (column_in columns) l
fresh_as columns (tree.NextReal f) = 0
fresh_as columns (tree.OutBool l) = fresh_count Read (column_in columns) l
fresh_as columns (tree.OutReal f) = 0
fresh_as columns (tree.MustHold l) = fresh_count Require (column_in columns) l
fresh_as columns (tree.MustMost f) = 0
fresh_as columns (tree.MustZero f) = 0

fresh_is : (columns : List ℕ) (b : Body) → fresh_in columns b ≡ fresh_as columns (body_tree b)
unfolding fresh_as
fresh_is columns (means.Guard f e) = refl
fresh_is columns (means.Choice l a b) = refl
fresh_is columns (means.Logic l) = refl
fresh_is columns (means.Linear f) = refl
fresh_is columns (means.NextBool l) = refl
fresh_is columns (means.NextReal f) = refl
fresh_is columns (means.OutBool l) = refl
fresh_is columns (means.OutReal f) = refl
fresh_is columns (means.MustHold l) = refl
fresh_is columns (means.MustMost f) = refl
fresh_is columns (means.MustZero f) = refl

numbers_as : List Interval → List ℕ → ℕ → BodyTree → List Lost
numbers_as boxes columns k (tree.Guard f e) = ranging boxes f ++ guard_numbers (moved columns f) (range boxes f) e
numbers_as boxes columns k (tree.Choice l a b) =
    ranging boxes a ++ (ranging boxes b ++ choice_numbers (form_of (literal_by Read (column_in columns) k l)) (moved columns a) (range boxes a) (moved columns b) (range boxes b))
numbers_as boxes columns k (tree.Logic l) = []
numbers_as boxes columns k (tree.Linear f) = []
numbers_as boxes columns k (tree.NextBool l) = []
numbers_as boxes columns k (tree.NextReal f) = []
numbers_as boxes columns k (tree.OutBool l) = []
numbers_as boxes columns k (tree.OutReal f) = []
numbers_as boxes columns k (tree.MustHold l) = []
numbers_as boxes columns k (tree.MustMost f) = []
numbers_as boxes columns k (tree.MustZero f) = []

numbers_is : (boxes : List Interval) (columns : List ℕ) (k : ℕ) (b : Body) → numbers_of boxes columns k b ≡ numbers_as boxes columns k (body_tree b)
unfolding numbers_as
numbers_is boxes columns k (means.Guard f e) = refl
numbers_is boxes columns k (means.Choice l a b) = refl
numbers_is boxes columns k (means.Logic l) = refl
numbers_is boxes columns k (means.Linear f) = refl
numbers_is boxes columns k (means.NextBool l) = refl
numbers_is boxes columns k (means.NextReal f) = refl
numbers_is boxes columns k (means.OutBool l) = refl
numbers_is boxes columns k (means.OutReal f) = refl
numbers_is boxes columns k (means.MustHold l) = refl
numbers_is boxes columns k (means.MustMost f) = refl
numbers_is boxes columns k (means.MustZero f) = refl

same_body : (t u : ProgItem) (ts us : List ProgItem) → map item_tree (t ∷ ts) ≡ map item_tree (u ∷ us) → body_tree t.body ≡ body_tree u.body
same_body t u ts us e = let i : item_tree t ≡ item_tree u = cc in ap (λ (x : ItemTree). x.body) i

same_fresh : (columns : List ℕ) (t u : ProgItem) → body_tree t.body ≡ body_tree u.body → fresh_in columns t.body ≡ fresh_in columns u.body
same_fresh columns t u e = fresh_is columns t.body ∙ ap (fresh_as columns) e ∙ sym (fresh_is columns u.body)

all_fresh : (columns : List ℕ) (ts us : List ProgItem) → map item_tree ts ≡ map item_tree us → fresh_of_items columns ts ≡ fresh_of_items columns us
all_fresh columns [] [] e = refl
all_fresh columns [] (u ∷ us) e = absurd (cc)
all_fresh columns (t ∷ ts) [] e = absurd (cc)
all_fresh columns (t ∷ ts) (u ∷ us) e =
    let rest : map item_tree ts ≡ map item_tree us = cc in
    ap₂ (λ (m n : ℕ). m + n) (same_fresh columns t u (same_body t u ts us e)) (all_fresh columns ts us rest)

all_numbers : (boxes : List Interval) (columns : List ℕ) (k i : ℕ) (ts us : List ProgItem) → map item_tree ts ≡ map item_tree us → items_numbers boxes columns k i ts ≡ items_numbers boxes columns k i us
all_numbers boxes columns k i [] [] e = refl
all_numbers boxes columns k i [] (u ∷ us) e = absurd (cc)
all_numbers boxes columns k i (t ∷ ts) [] e = absurd (cc)
all_numbers boxes columns k i (t ∷ ts) (u ∷ us) e =
    let rest : map item_tree ts ≡ map item_tree us = cc in
    let b : body_tree t.body ≡ body_tree u.body = same_body t u ts us e in
    ap₂ (λ (xs ys : List Placed). xs ++ ys)
    (ap (all_at i) (numbers_is boxes columns k t.body ∙ ap (numbers_as boxes columns k) b ∙ sym (numbers_is boxes columns k u.body)))
    (ap (λ (n : ℕ). items_numbers boxes columns (k + n) (suc i) ts) (same_fresh columns t u b) ∙ all_numbers boxes columns (k + fresh_in columns u.body) (suc i) ts us rest)

abbrev of_parts : List ℕ → List Name → List ProgItem → ℕ → Program
of_parts system names items weight = record { system = system; names = names; items = items; weight = weight }

row_numbers_as : (p q : Program) (boxes : List Interval) → program_tree p ≡ program_tree q → row_numbers p boxes ≡ row_numbers q boxes
row_numbers_as p q boxes e =
    let names : p.names ≡ q.names = ap (λ (t : ProgramTree). t.names) e in
    let items : map item_tree p.items ≡ map item_tree q.items = ap (λ (t : ProgramTree). t.items) e in
    ap (λ (ns : List Name). row_numbers (of_parts p.system ns p.items p.weight) boxes) names
    ∙ ap (λ (n : ℕ). items_numbers boxes (placing_of q n) (length (front q)) 0 p.items) (all_fresh (placing_of q 0) p.items q.items items)
    ∙ all_numbers boxes (name_columns q) (length (front q)) 0 p.items q.items items

pub same_rows : (tolerance : Number) (tree : Source) (xs ys : List Placed) → AreRowNumbers tolerance tree xs → AreRowNumbers tolerance tree ys → xs ≡ ys
same_rows tolerance tree xs ys a b =
    a.same
    ∙ row_numbers_as a.program b.program (intervals a.program a.order) (one_translation tolerance tree a.program b.program a.translation b.translation)
    ∙ ap (row_numbers b.program) (same_intervals tolerance tolerance (unfolded tree) a.program b.program a.order b.order a.translation b.translation a.ordered b.ordered)
    ∙ sym b.same

-- ---- each number is one of an item
items_within : (n : ℕ) (boxes : List Interval) (columns : List ℕ) (k i : ℕ) (ts : List ProgItem) → i + length ts ≤ n → AllByRecursion (Within n) (items_numbers boxes columns k i ts)
items_within n boxes columns k i [] h = tt
items_within n boxes columns k i (t ∷ ts) h =
    all_joined (Within n) (all_at i (numbers_of boxes columns k t.body)) (items_numbers boxes columns (k + fresh_in columns t.body) (suc i) ts)
    (all_within n i (numbers_of boxes columns k t.body) (omega arith)) (items_within n boxes columns (k + fresh_in columns t.body) (suc i) ts (omega arith))

-- ---- the answers of a builder
pub rowed : (tolerance : Number) (text : List ℕ) (tokens : List Token) (tree : Source) (p : Program) (o : Order) (boxes : List Interval) (X : Type 0) (r : Result X BuildFault) (x : X) → r ≡ Ok x → IsRanged text tokens tree → IsTranslation tolerance tree p → IsOrder p o →
    boxes ≡ intervals p o → Judged (row_numbers p boxes) r → IsRowed tolerance text tokens tree
rowed tolerance text tokens tree p o boxes X r x e h t q b j = record {
  ranged = h;
  numbers = row_numbers p boxes;
  rows = record { program = p; order = o; translation = t; ordered = q; same = ap (row_numbers p) b };
  fit = subst (λ (y : Result X BuildFault). Judged (row_numbers p boxes) y) e j;
}

lost_here : (os : List Placed) (X : Type 0) (r : Result X BuildFault) (fault : BuildFault) (k : ℕ) (l : Lost) → r ≡ Err fault → fault ≡ Range k l → Judged os r → first_unfit os ≡ Some (record { item = k; what = l })
lost_here os X r fault k l e q j = subst (λ (y : Result X BuildFault). Judged os y) (e ∙ ap Err q) j

pub lost_row_within : (p : Program) (boxes : List Interval) (X : Type 0) (r : Result X BuildFault) (fault : BuildFault) (k : ℕ) (l : Lost) (ts : List ProgItem) → r ≡ Err fault → fault ≡ Range k l → Judged (row_numbers p boxes) r → ts ≡ p.items → k < length ts
unfolding Within
lost_row_within p boxes X r fault k l ts e q j i =
    let b : k < length p.items = first_of_all (Within (length p.items)) (row_numbers p boxes) (record { item = k; what = l })
    (items_within (length p.items) boxes (name_columns p) (length (front p)) 0 p.items (omega arith)) (lost_here (row_numbers p boxes) X r fault k l e q j) in
    subst (λ (us : List ProgItem). k < length us) (sym i) b

pub by_row : (tolerance : Number) (text : List ℕ) (tokens : List Token) (tree : Source) (p : Program) (o : Order) (boxes : List Interval) (X : Type 0) (r : Result X BuildFault) (fault : BuildFault) (k : ℕ) (l : Lost) (ts : List ProgItem) (place : Place) (f : SourceFault) →
    r ≡ Err fault → fault ≡ Range k l → Judged (row_numbers p boxes) r → ts ≡ p.items → ItemAt ts k (λ t. t.place ≡ place) → f ≡ range_fault place l → IsRanged text tokens tree → IsTranslation tolerance tree p → IsOrder p o → boxes ≡ intervals p o → IsRefusal tolerance text f
by_row tolerance text tokens tree p o boxes X r fault k l ts place f e q j i a s h t d b =
    let stands = stands_at (setting tolerance (unfolded tree)) (unfolded tree).items p.items k place t.items (subst (λ (us : List ProgItem). ItemAt us k (λ t. t.place ≡ place)) i a) in
    inr (subst (IsCause tolerance text) (sym s) (row tokens tree (row_numbers p boxes) (record { item = k; what = l }) place h
    (record { program = p; order = o; translation = t; ordered = d; same = ap (row_numbers p) b }) (lost_here (row_numbers p boxes) X r fault k l e q j) stands))
