-- What the definitions of a program's auxiliaries mention.
use Rattle.std.proofs.Common.{◌≡◌, ℕ, zero, suc, ◌+◌, ◌<◌, List, [], ◌∷◌, ◌++◌, Some, Bool, true, false, cond, length, get_or, refl, ◌∙◌, ap, subst, arith, inl, inr, ◌⊎◌, ◌↔◌, IsTrue}
use Rattle.std.proofs.lemmas.Grind.{get_or_default_zero}
use Rattle.hys_lin.specs.declared.form.Term.{Term}
use Rattle.hys_lin.specs.Sums.{EachColumn}
use Rattle.hys_formula.specs.Formulas.{FormulaTree, constant, named, negated, joined, tree_of, EachName}
use Rattle.hys_prog.specs.declared.program.Body.{Body}
use Rattle.hys_prog.specs.declared.program.Body.TheVariants.{Guard, Choice, Logic, Linear, NextBool, NextReal, OutBool, OutReal, MustHold, MustMost, MustZero}
use Rattle.hys_prog.specs.declared.program.ProgItem.{ProgItem}
use Rattle.hys_prog.specs.declared.program.Name.{Name}
use Rattle.hys_prog.specs.declared.program.Program.{Program}
use Rattle.hys_prog.specs.declared.program.Role.{Role}
use Rattle.hys_prog.specs.declared.program.Role.TheVariants.{State, Input, Output, Parameter, Aux}
use Rattle.hys_prog.specs.Programs.{IsProgram, EachItem, NameAt, BodyOver, IsVariable, IsBooleanVariable, definitions, is_named, is_defined}
use Rattle.hys_prog.specs.Steps.{is_auxiliary}
use Rattle.hys_prog.specs.Orders.{Stands, HasTerm, MentionedIn, SomeItem, IsIn}
use Rattle.hys_prog.specs.Places.{ItemAt, Defines, ArePlaces}
use Rattle.hys_order.specs.Lists.{standing, columns, mentioned, mentioned_at, link_of, links_from}
use Rattle.hys_order.specs.Links.{link, AreLinksOf}
use Rattle.hys_prog.proofs.Defined.{name_below}
use Rattle.hys_prog.proofs.Names.{IsAuxiliary, aux_defined, aux_at, aux_named, named_some, at_count, place_within}
use Rattle.hys_prog.proofs.Members.{in_left, in_right, in_parts, in_at}

pub mentioned_here : (ts : List ProgItem) (k : ℕ) (t : ProgItem) (ms : List ℕ) → k < length ts → t ≡ get_or ts k t → ms ≡ mentioned t.body → ms ≡ mentioned_at ts k
mentioned_here [] k t ms b e h = absurd (omega arith)
mentioned_here (x ∷ ts) zero t ms b e h = h ∙ ap (λ (y : ProgItem). mentioned y.body) e
mentioned_here (x ∷ ts) (suc k) t ms b e h = mentioned_here ts k t ms (omega arith) e h

-- ---- mentions as a list
parted : (A B : Type 0) (m : ℕ) (xs ys : List ℕ) → A ↔ IsIn m xs → B ↔ IsIn m ys → (A ⊎ B) ↔ IsIn m (xs ++ ys)
parted A B m xs ys a b = (to, λ h. from (in_parts xs ys m h))
  where
    to : A ⊎ B → IsIn m (xs ++ ys)
    to (inl h) = in_left xs ys m (a.0 h)
    to (inr h) = in_right xs ys m (b.0 h)

    from : IsIn m xs ⊎ IsIn m ys → A ⊎ B
    from (inl h) = inl (a.1 h)
    from (inr h) = inr (b.1 h)

stands : (m : ℕ) (f : FormulaTree) → Stands m f ↔ IsIn m (standing f)
stands m (constant b) = (λ h. h, λ h. h)
stands m (named n) = (λ e. inl e, only)
  where
    only : IsIn m (n ∷ []) → n ≡ m
    only (inl e) = e
    only (inr h) = absurd h
stands m (negated f) = stands m f
stands m (joined c f g) = parted (Stands m f) (Stands m g) m (standing f) (standing g) (stands m f) (stands m g)

has_term : (m : ℕ) (ts : List Term) → HasTerm m ts ↔ IsIn m (columns ts)
has_term m [] = (λ h. h, λ h. h)
has_term m (t ∷ ts) = go (has_term m ts)
  where
    go : HasTerm m ts ↔ IsIn m (columns ts) → HasTerm m (t ∷ ts) ↔ IsIn m (columns (t ∷ ts))
    go r = (to, from)
      where
        to : HasTerm m (t ∷ ts) → IsIn m (columns (t ∷ ts))
        to (inl e) = inl e
        to (inr h) = inr (r.0 h)

        from : IsIn m (columns (t ∷ ts)) → HasTerm m (t ∷ ts)
        from (inl e) = inl e
        from (inr h) = inr (r.1 h)

pub mentions : (m : ℕ) (b : Body) → MentionedIn m b ↔ IsIn m (mentioned b)
mentions m (Guard f e) = has_term m f.terms
mentions m (Choice l a b) = parted (Stands m (tree_of l)) (HasTerm m a.terms ⊎ HasTerm m b.terms) m (standing (tree_of l)) (columns a.terms ++ columns b.terms) (stands m (tree_of l)) (parted (HasTerm m a.terms) (HasTerm m b.terms) m (columns a.terms) (columns b.terms) (has_term m a.terms) (has_term m b.terms))
mentions m (Logic l) = stands m (tree_of l)
mentions m (Linear f) = has_term m f.terms
mentions m (NextBool l) = (λ h. h, λ h. h)
mentions m (NextReal f) = (λ h. h, λ h. h)
mentions m (OutBool l) = (λ h. h, λ h. h)
mentions m (OutReal f) = (λ h. h, λ h. h)
mentions m (MustHold l) = (λ h. h, λ h. h)
mentions m (MustMost f) = (λ h. h, λ h. h)
mentions m (MustZero f) = (λ h. h, λ h. h)

-- ---- the item that defines a name
some_count : (n : ℕ) (Q : ProgItem → Type 0) (ts : List ProgItem) → SomeItem (λ t. (t.name ≡ Some n) × Q t) ts → 0 < definitions n ts
some_count n Q [] h = absurd h
some_count n Q (t ∷ ts) (inl h) = rw (named_some n t.name h.0) (omega arith)
some_count n Q (t ∷ ts) (inr h) = let l = some_count n Q ts h in omega arith

item_mentions : (n m : ℕ) (ts : List ProgItem) (k : ℕ) → definitions n ts ≡ 1 → ItemAt ts k (Defines n) → SomeItem (λ t. (t.name ≡ Some n) × MentionedIn m t.body) ts ↔ IsIn m (mentioned_at ts k)
item_mentions n m [] k d h = absurd h
item_mentions n m (t ∷ ts) zero d h = (to, λ i. inl (h, (mentions m t.body).1 i))
  where
    to : SomeItem (λ t. (t.name ≡ Some n) × MentionedIn m t.body) (t ∷ ts) → IsIn m (mentioned t.body)
    to (inl s) = (mentions m t.body).0 s.1
    to (inr s) = let l = some_count n (λ t. MentionedIn m t.body) ts s in let e = rw (named_some n t.name h) at d in absurd (omega arith)
item_mentions n m (t ∷ ts) (suc k) d h = go (item_mentions n m ts k (let l = at_count n ts k h in fewer (is_named n t.name) (definitions n ts) d l) h)
  where
    fewer : (b : Bool) (c : ℕ) → cond b 1 0 + c ≡ 1 → 0 < c → c ≡ 1
    fewer true c d l = absurd (omega arith)
    fewer false c d l = omega arith

    go : SomeItem (λ t. (t.name ≡ Some n) × MentionedIn m t.body) ts ↔ IsIn m (mentioned_at ts k) → SomeItem (λ t. (t.name ≡ Some n) × MentionedIn m t.body) (t ∷ ts) ↔ IsIn m (mentioned_at ts k)
    go r = (to, λ i. inr (r.1 i))
      where
        to : SomeItem (λ t. (t.name ≡ Some n) × MentionedIn m t.body) (t ∷ ts) → IsIn m (mentioned_at ts k)
        to (inl s) = let l = at_count n ts k h in let e = rw (named_some n t.name s.0) at d in absurd (omega arith)
        to (inr s) = r.0 s

-- ---- the lists of all names
aux_link : (items : List ProgItem) (r : Role) (k : ℕ) → is_auxiliary r ≡ true → link_of items r k ≡ mentioned_at items k
aux_link items State k e = absurd (cc)
aux_link items Input k e = absurd (cc)
aux_link items Output k e = absurd (cc)
aux_link items Parameter k e = absurd (cc)
aux_link items Aux k e = refl

link_at : (items : List ProgItem) (ps : List ℕ) (k : ℕ) (xs : List Name) (i j : ℕ) → j ≡ k + i → NameAt xs i IsAuxiliary → get_or (links_from items ps k xs) i [] ≡ mentioned_at items (get_or ps j 0)
link_at items ps k [] i j e h = absurd h
link_at items ps k (x ∷ xs) zero j e h = let q : j ≡ k = omega arith in rw q (aux_link items x.role (get_or ps k 0) h)
link_at items ps k (x ∷ xs) (suc i) j e h = link_at items ps (suc k) xs i j (omega arith) h

links_count : (items : List ProgItem) (ps : List ℕ) (k : ℕ) (xs : List Name) → length (links_from items ps k xs) ≡ length xs
links_count items ps k [] = refl
links_count items ps k (x ∷ xs) = ap suc (links_count items ps (suc k) xs)

-- ---- what is mentioned is a name
columns_below : (names : List Name) (m : ℕ) (ts : List Term) → EachColumn (λ n. NameAt names n IsVariable) ts → IsIn m (columns ts) → m < length names
columns_below names m [] h i = absurd i
columns_below names m (t ∷ ts) h (inl e) = let b = name_below IsVariable names t.column h.0 in rw e at b
columns_below names m (t ∷ ts) h (inr i) = columns_below names m ts h.1 i

either : (A B C : Type 0) → A ⊎ B → (A → C) → (B → C) → C
either A B C (inl a) f g = f a
either A B C (inr b) f g = g b

standing_below : (names : List Name) (m : ℕ) (f : FormulaTree) → EachName (λ n. NameAt names n IsBooleanVariable) f → IsIn m (standing f) → m < length names
standing_below names m (constant b) h i = absurd i
standing_below names m (named n) h (inl e) = let b = name_below IsBooleanVariable names n h in rw e at b
standing_below names m (named n) h (inr i) = absurd i
standing_below names m (negated f) h i = standing_below names m f h i
standing_below names m (joined c f g) h i = either (IsIn m (standing f)) (IsIn m (standing g)) (m < length names) (in_parts (standing f) (standing g) m i) (λ i. standing_below names m f h.0 i) (λ i. standing_below names m g h.1 i)

body_below : (names : List Name) (m : ℕ) (b : Body) → BodyOver names b → IsIn m (mentioned b) → m < length names
body_below names m (Guard f e) h i = columns_below names m f.terms h.0.1 i
body_below names m (Choice l a b) h i = either (IsIn m (standing (tree_of l))) (IsIn m (columns a.terms ++ columns b.terms)) (m < length names) (in_parts (standing (tree_of l)) (columns a.terms ++ columns b.terms) m i) (λ i. standing_below names m (tree_of l) h.0 i) (λ i. either (IsIn m (columns a.terms)) (IsIn m (columns b.terms)) (m < length names) (in_parts (columns a.terms) (columns b.terms) m i) (λ i. columns_below names m a.terms h.1.1 i) (λ i. columns_below names m b.terms h.2.1 i))
body_below names m (Logic l) h i = standing_below names m (tree_of l) h i
body_below names m (Linear f) h i = columns_below names m f.terms h.1 i
body_below names m (NextBool l) h i = absurd i
body_below names m (NextReal f) h i = absurd i
body_below names m (OutBool l) h i = absurd i
body_below names m (OutReal f) h i = absurd i
body_below names m (MustHold l) h i = absurd i
body_below names m (MustMost f) h i = absurd i
body_below names m (MustZero f) h i = absurd i

item_below : (names : List Name) (m : ℕ) (ts : List ProgItem) (k : ℕ) → EachItem (λ t. BodyOver names t.body) ts → IsIn m (mentioned_at ts k) → m < length names
item_below names m [] k h i = absurd i
item_below names m (t ∷ ts) zero h i = body_below names m t.body h.0 i
item_below names m (t ∷ ts) (suc k) h i = item_below names m ts k h.1 i

role_below : (names : List Name) (m : ℕ) (ts : List ProgItem) (r : Role) (k : ℕ) → EachItem (λ t. BodyOver names t.body) ts → IsIn m (link_of ts r k) → m < length names
role_below names m ts State k h i = absurd i
role_below names m ts Input k h i = absurd i
role_below names m ts Output k h i = absurd i
role_below names m ts Parameter k h i = absurd i
role_below names m ts Aux k h i = item_below names m ts k h i

link_below : (names : List Name) (m : ℕ) (ts : List ProgItem) (ps : List ℕ) (k : ℕ) (xs : List Name) (n : ℕ) → EachItem (λ t. BodyOver names t.body) ts → IsIn m (get_or (links_from ts ps k xs) n []) → m < length names
link_below names m ts ps k [] n h i = absurd i
link_below names m ts ps k (x ∷ xs) zero h i = role_below names m ts x.role (get_or ps k 0) h i
link_below names m ts ps k (x ∷ xs) (suc n) h i = link_below names m ts ps (suc k) xs n h i

pub linked : (p : Program) (ps : List ℕ) (links : List (List ℕ)) → IsProgram p → ArePlaces p ps → links ≡ links_from p.items ps 0 p.names → AreLinksOf p links
linked p ps links h a e = rw e (record {
  count = links_count p.items ps 0 p.names;
  below = λ n k b. let m : ℕ = get_or (link (links_from p.items ps 0 p.names) n) k 0 in rw (links_count p.items ps 0 p.names) (link_below p.names m p.items ps 0 p.names n h.bodies (in_at (link (links_from p.items ps 0 p.names) n) k b));
  leads = λ n m i. rw (link_at p.items ps 0 p.names n n (omega arith) (aux_at p n i)) (item_mentions n m p.items (get_or ps n 0) (h.once n (aux_named p n i)) (a n (aux_named p n i)));
})

-- the item that defines an auxiliary is one of the items
pub placed_within : (p : Program) (ps : List ℕ) (n k : ℕ) (x : Name) → ArePlaces p ps → n < length p.names → x ≡ get_or p.names n x → k ≡ get_or ps n k → n < length ps → IsTrue (is_auxiliary x.role) → k < length p.items
placed_within p ps n k x a b e f w t =
    let d = name_here p.names n x b e (aux_defined x.role t) in
    let q : k ≡ get_or ps n 0 = f ∙ get_or_default_zero ps n k w in
    rw q (place_within n p.items (get_or ps n 0) (a n d))
  where
    name_here : (xs : List Name) (n : ℕ) (x : Name) → n < length xs → x ≡ get_or xs n x → is_defined x.role ≡ true → NameAt xs n (λ x. is_defined x.role ≡ true)
    name_here [] n x b e d = absurd (omega arith)
    name_here (y ∷ xs) zero x b e d = subst (λ (z : Name). is_defined z.role ≡ true) e d
    name_here (y ∷ xs) (suc n) x b e d = name_here xs n x (omega arith) e d
