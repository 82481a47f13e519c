-- Two translations of a source have the same intervals to find: the numbers of their ranges are the same.
use Rattle.std.proofs.Common.{◌≡◌, ℕ, zero, suc, List, [], ◌∷◌, ◌++◌, Option, Some, cond, ◌⊎◌, inl, inr, IsTrue, refl, sym, ◌∙◌, ap, ap₂, subst}
use Rattle.std.proofs.Common.{set}
use Rattle.std.specs.List.{AllByRecursion}
use Rattle.hys_number.specs.Number.{Number}
use Rattle.hys_lin.specs.declared.form.Affine.{Affine}
use Rattle.hys_lin.specs.declared.form.Interval.{Interval}
use Rattle.hys_lin.specs.declared.lost.Lost.{Lost}
use Rattle.hys_ast.specs.declared.source.Section.{Section}
use Rattle.hys_ast.specs.declared.source.Section.TheVariants as section
use Rattle.hys_ast.specs.declared.source.Kind.{Kind}
use Rattle.hys_ast.specs.Tree.{Decl, Item, Source}
use Rattle.hys_meaning.specs.Values.{Assignment}
use Rattle.hys_meaning.specs.Names.{Name, parameters, is_parameter}
use Rattle.hys_meaning.specs.Steps.{is_given}
use Rattle.hys_meaning.specs.Forms.{form, guard_form}
use Rattle.hys_meaning.specs.Bodies.{body}
use Rattle.hys_meaning.specs.Bodies as said
use Rattle.hys_prog.specs.declared.program.Role.{Role}
use Rattle.hys_prog.specs.declared.program.Body.{Body}
use Rattle.hys_prog.specs.declared.program.Name.{Name as ProgName}
use Rattle.hys_prog.specs.declared.program.ProgItem.{ProgItem}
use Rattle.hys_prog.specs.declared.program.Program.{Program}
use Rattle.hys_prog.specs.declared.program.Order.{Order}
use Rattle.hys_prog.specs.Programs.{is_named}
use Rattle.hys_prog.specs.Steps.{places, places_from, is_auxiliary}
use Rattle.hys_prog.specs.Orders.{Stands, HasTerm, MentionedIn, SomeItem, Leads, IsIn, IsReady, IsFirst, IsOrderAfter, IsOrder}
use Rattle.hys_order.proofs.Definable.{one_order}
use Rattle.hys_lin.specs.Ranges.{ranging}
use Rattle.hys_bound.specs.Ranges.{range, hull, unit, defined_interval, asked, Placed, all_at, place_in, interval_at, asked_at, with_interval, numbers_here, numbers_along, declared_interval, declared, found, intervals, range_numbers}
use Rattle.hys_type.specs.Translation.{Setting, setting, place_if, role_in, IsNameOf, OneByOne, else_form, formula, left_kind, IsBodyOf, guard, choice, logic, linear, next_bool, next_real, out_bool, out_real, must_hold, must_most, must_zero, IsItemOf, IsNamedTranslation}
use Rattle.hys_type.proofs.OneForm.{only, only_form}

-- ---- bodies, by what the source says
abbrev asked_as : List Name → List Interval → said.Body → List Lost
asked_as ns boxes (said.Guard e t) = ranging boxes (only ns (guard_form ns e))
asked_as ns boxes (said.Choice e h o) = ranging boxes (only ns (form ns h)) ++ ranging boxes (only ns (else_form ns o))
asked_as ns boxes (said.Logic e) = []
asked_as ns boxes (said.Linear e) = ranging boxes (only ns (form ns e))
asked_as ns boxes (said.NextBool e) = []
asked_as ns boxes (said.NextReal e) = []
asked_as ns boxes (said.Output e) = []
asked_as ns boxes (said.Must e) = []
asked_as ns boxes said.Nothing = []

abbrev interval_as : List Name → List Interval → said.Body → Interval
interval_as ns boxes (said.Guard e t) = unit
interval_as ns boxes (said.Choice e h o) = hull (range boxes (only ns (form ns h))) (range boxes (only ns (else_form ns o)))
interval_as ns boxes (said.Logic e) = unit
interval_as ns boxes (said.Linear e) = range boxes (only ns (form ns e))
interval_as ns boxes (said.NextBool e) = unit
interval_as ns boxes (said.NextReal e) = unit
interval_as ns boxes (said.Output e) = unit
interval_as ns boxes (said.Must e) = unit
interval_as ns boxes said.Nothing = unit

abbrev MentionedAs : List Name → ℕ → said.Body → Type 0
MentionedAs ns n (said.Guard e t) = HasTerm n (only ns (guard_form ns e)).terms
MentionedAs ns n (said.Choice e h o) = Stands n (formula ns e) ⊎ (HasTerm n (only ns (form ns h)).terms ⊎ HasTerm n (only ns (else_form ns o)).terms)
MentionedAs ns n (said.Logic e) = Stands n (formula ns e)
MentionedAs ns n (said.Linear e) = HasTerm n (only ns (form ns e)).terms
MentionedAs ns n (said.NextBool e) = ⊥
MentionedAs ns n (said.NextReal e) = ⊥
MentionedAs ns n (said.Output e) = ⊥
MentionedAs ns n (said.Must e) = ⊥
MentionedAs ns n said.Nothing = ⊥

asked_is : (c : Setting) (k : Option Kind) (s : said.Body) (b : Body) (boxes : List Interval) → IsBodyOf c k s b → asked boxes b ≡ asked_as c.names boxes s
asked_is c k s b boxes (guard {e = e} {f = f} i j x y) = ap (asked boxes) j ∙ ap (ranging boxes) (only_form c.names (guard_form c.names e) f x) ∙ sym (ap (asked_as c.names boxes) i)
asked_is c k s b boxes (choice {e = e} {h = h} {o = o} {l = l} {f = f} {g = g} i j w x y) =
    ap (asked boxes) j ∙ ap₂ (λ (a d : Affine). ranging boxes a ++ ranging boxes d) (only_form c.names (form c.names h) f x) (only_form c.names (else_form c.names o) g y) ∙ sym (ap (asked_as c.names boxes) i)
asked_is c k s b boxes (logic i j x) = ap (asked boxes) j ∙ sym (ap (asked_as c.names boxes) i)
asked_is c k s b boxes (linear {e = e} {f = f} i j x) = ap (asked boxes) j ∙ ap (ranging boxes) (only_form c.names (form c.names e) f x) ∙ sym (ap (asked_as c.names boxes) i)
asked_is c k s b boxes (next_bool i j x) = ap (asked boxes) j ∙ sym (ap (asked_as c.names boxes) i)
asked_is c k s b boxes (next_real i j x) = ap (asked boxes) j ∙ sym (ap (asked_as c.names boxes) i)
asked_is c k s b boxes (out_bool q i j x) = ap (asked boxes) j ∙ sym (ap (asked_as c.names boxes) i)
asked_is c k s b boxes (out_real q i j x) = ap (asked boxes) j ∙ sym (ap (asked_as c.names boxes) i)
asked_is c k s b boxes (must_hold q i j x) = ap (asked boxes) j ∙ sym (ap (asked_as c.names boxes) i)
asked_is c k s b boxes (must_most q i j x) = ap (asked boxes) j ∙ sym (ap (asked_as c.names boxes) i)
asked_is c k s b boxes (must_zero i j x) = ap (asked boxes) j ∙ sym (ap (asked_as c.names boxes) i)

interval_is : (c : Setting) (k : Option Kind) (s : said.Body) (b : Body) (boxes : List Interval) → IsBodyOf c k s b → defined_interval boxes b ≡ interval_as c.names boxes s
interval_is c k s b boxes (guard i j x y) = ap (defined_interval boxes) j ∙ sym (ap (interval_as c.names boxes) i)
interval_is c k s b boxes (choice {e = e} {h = h} {o = o} {l = l} {f = f} {g = g} i j w x y) =
    ap (defined_interval boxes) j ∙ ap₂ (λ (a d : Affine). hull (range boxes a) (range boxes d)) (only_form c.names (form c.names h) f x) (only_form c.names (else_form c.names o) g y) ∙ sym (ap (interval_as c.names boxes) i)
interval_is c k s b boxes (logic i j x) = ap (defined_interval boxes) j ∙ sym (ap (interval_as c.names boxes) i)
interval_is c k s b boxes (linear {e = e} {f = f} i j x) = ap (defined_interval boxes) j ∙ ap (range boxes) (only_form c.names (form c.names e) f x) ∙ sym (ap (interval_as c.names boxes) i)
interval_is c k s b boxes (next_bool i j x) = ap (defined_interval boxes) j ∙ sym (ap (interval_as c.names boxes) i)
interval_is c k s b boxes (next_real i j x) = ap (defined_interval boxes) j ∙ sym (ap (interval_as c.names boxes) i)
interval_is c k s b boxes (out_bool q i j x) = ap (defined_interval boxes) j ∙ sym (ap (interval_as c.names boxes) i)
interval_is c k s b boxes (out_real q i j x) = ap (defined_interval boxes) j ∙ sym (ap (interval_as c.names boxes) i)
interval_is c k s b boxes (must_hold q i j x) = ap (defined_interval boxes) j ∙ sym (ap (interval_as c.names boxes) i)
interval_is c k s b boxes (must_most q i j x) = ap (defined_interval boxes) j ∙ sym (ap (interval_as c.names boxes) i)
interval_is c k s b boxes (must_zero i j x) = ap (defined_interval boxes) j ∙ sym (ap (interval_as c.names boxes) i)

mention_is : (c : Setting) (k : Option Kind) (s : said.Body) (b : Body) (n : ℕ) → IsBodyOf c k s b → MentionedIn n b ≡ MentionedAs c.names n s
mention_is c k s b n (guard {e = e} {f = f} i j x y) = ap (MentionedIn n) j ∙ ap (λ (a : Affine). HasTerm n a.terms) (only_form c.names (guard_form c.names e) f x) ∙ sym (ap (MentionedAs c.names n) i)
mention_is c k s b n (choice {e = e} {h = h} {o = o} {l = l} {f = f} {g = g} i j w x y) =
    ap (MentionedIn n) j ∙ ap (λ t. Stands n t ⊎ (HasTerm n f.terms ⊎ HasTerm n g.terms)) w
    ∙ ap₂ (λ (a d : Affine). Stands n (formula c.names e) ⊎ (HasTerm n a.terms ⊎ HasTerm n d.terms)) (only_form c.names (form c.names h) f x) (only_form c.names (else_form c.names o) g y) ∙ sym (ap (MentionedAs c.names n) i)
mention_is c k s b n (logic i j x) = ap (MentionedIn n) j ∙ ap (Stands n) x ∙ sym (ap (MentionedAs c.names n) i)
mention_is c k s b n (linear {e = e} {f = f} i j x) = ap (MentionedIn n) j ∙ ap (λ (a : Affine). HasTerm n a.terms) (only_form c.names (form c.names e) f x) ∙ sym (ap (MentionedAs c.names n) i)
mention_is c k s b n (next_bool i j x) = ap (MentionedIn n) j ∙ sym (ap (MentionedAs c.names n) i)
mention_is c k s b n (next_real i j x) = ap (MentionedIn n) j ∙ sym (ap (MentionedAs c.names n) i)
mention_is c k s b n (out_bool q i j x) = ap (MentionedIn n) j ∙ sym (ap (MentionedAs c.names n) i)
mention_is c k s b n (out_real q i j x) = ap (MentionedIn n) j ∙ sym (ap (MentionedAs c.names n) i)
mention_is c k s b n (must_hold q i j x) = ap (MentionedIn n) j ∙ sym (ap (MentionedAs c.names n) i)
mention_is c k s b n (must_most q i j x) = ap (MentionedIn n) j ∙ sym (ap (MentionedAs c.names n) i)
mention_is c k s b n (must_zero i j x) = ap (MentionedIn n) j ∙ sym (ap (MentionedAs c.names n) i)

-- ---- items
-- one by one with the same names, operations, intervals and mentions
record AreLike (t u : ProgItem) : Type 1 where
  name : t.name ≡ u.name
  asks : (boxes : List Interval) → asked boxes t.body ≡ asked boxes u.body
  finds : (boxes : List Interval) → defined_interval boxes t.body ≡ defined_interval boxes u.body
  mentions : (n : ℕ) → MentionedIn n t.body ≡ MentionedIn n u.body

like : (c d : Setting) (i : Item) (t u : ProgItem) → c.names ≡ d.names → IsItemOf c i t → IsItemOf d i u → AreLike t u
like c d i t u e h k = record {
  name = h.name ∙ ap (λ ns. place_if ns i.name) e ∙ sym k.name;
  asks = λ boxes. asked_is c (left_kind c.names i.name) (body i) t.body boxes h.body ∙ ap (λ ns. asked_as ns boxes (body i)) e ∙ sym (asked_is d (left_kind d.names i.name) (body i) u.body boxes k.body);
  finds = λ boxes. interval_is c (left_kind c.names i.name) (body i) t.body boxes h.body ∙ ap (λ ns. interval_as ns boxes (body i)) e ∙ sym (interval_is d (left_kind d.names i.name) (body i) u.body boxes k.body);
  mentions = λ n. mention_is c (left_kind c.names i.name) (body i) t.body n h.body ∙ ap (λ ns. MentionedAs ns n (body i)) e ∙ sym (mention_is d (left_kind d.names i.name) (body i) u.body n k.body);
}

data AllLike : List ProgItem → List ProgItem → Type 1 where
  none : AllLike [] []
  more : {t u : ProgItem} {ts us : List ProgItem} → AreLike t u → AllLike ts us → AllLike (t ∷ ts) (u ∷ us)

all_like : (c d : Setting) (is : List Item) (ts us : List ProgItem) → c.names ≡ d.names → OneByOne (IsItemOf c) is ts → OneByOne (IsItemOf d) is us → AllLike ts us
all_like c d [] [] [] e h k = none
all_like c d [] [] (u ∷ us) e h k = absurd k
all_like c d [] (t ∷ ts) us e h k = absurd h
all_like c d (i ∷ is) [] us e h k = absurd h
all_like c d (i ∷ is) (t ∷ ts) [] e h k = absurd k
all_like c d (i ∷ is) (t ∷ ts) (u ∷ us) e h k = more (like c d i t u e h.0 k.0) (all_like c d is ts us e h.1 k.1)

place_same : (ts us : List ProgItem) (n : ℕ) → AllLike ts us → place_in ts n ≡ place_in us n
place_same _ _ n none = refl
place_same _ _ n (more {t = t} {u = u} {ts = ts} {us = us} l r) = ap₂ (λ (o : Option ℕ) (k : ℕ). cond (is_named n o) 0 (suc k)) l.name (place_same ts us n r)

interval_same : (ts us : List ProgItem) (boxes : List Interval) (k : ℕ) → AllLike ts us → interval_at boxes ts k ≡ interval_at boxes us k
interval_same _ _ boxes k none = refl
interval_same _ _ boxes zero (more l r) = l.finds boxes
interval_same _ _ boxes (suc k) (more {ts = ts} {us = us} l r) = interval_same ts us boxes k r

asked_same : (ts us : List ProgItem) (boxes : List Interval) (k : ℕ) → AllLike ts us → asked_at boxes ts k ≡ asked_at boxes us k
asked_same _ _ boxes k none = refl
asked_same _ _ boxes zero (more l r) = l.asks boxes
asked_same _ _ boxes (suc k) (more {ts = ts} {us = us} l r) = asked_same ts us boxes k r

along_same : (ts us : List ProgItem) (ns : List ℕ) (boxes : List Interval) → AllLike ts us → numbers_along ts ns boxes ≡ numbers_along us ns boxes
along_same ts us [] boxes l = refl
along_same ts us (n ∷ ns) boxes l =
    let p : place_in ts n ≡ place_in us n = place_same ts us n l in
    let here : numbers_here ts n boxes ≡ numbers_here us n boxes = ap₂ all_at p (asked_same ts us boxes (place_in ts n) l ∙ ap (asked_at boxes us) p) in
    let found : with_interval ts n boxes ≡ with_interval us n boxes = ap (λ (i : Interval). set boxes n i) (interval_same ts us boxes (place_in ts n) l ∙ ap (interval_at boxes us) p) in
    ap₂ (λ (xs ys : List Placed). xs ++ ys) here (along_same ts us ns (with_interval ts n boxes) l ∙ ap (numbers_along us ns) found)

-- ---- names
abbrev of_interval : Number → Number → Interval
of_interval a b = record { low = a; high = b }

same_interval : (i j : Interval) → i.low ≡ j.low → i.high ≡ j.high → i ≡ j
same_interval i j e h = ap₂ of_interval e h

record AreNamesOf (w : Assignment) (d : Decl) (t : Section) (x y : ProgName) : Type 0 where
  low : IsTrue (is_given t) → x.bounds.low ≡ y.bounds.low
  high : IsTrue (is_given t) → x.bounds.high ≡ y.bounds.high
  value : IsTrue (is_parameter t) → x.value ≡ y.value

interval_by : (w : Assignment) (d : Decl) (t : Section) (x y : ProgName) → AreNamesOf w d t x y → declared_interval (role_in t) x ≡ declared_interval (role_in t) y
interval_by w d section.State x y h = same_interval x.bounds y.bounds (h.low refl) (h.high refl)
interval_by w d section.Input x y h = same_interval x.bounds y.bounds (h.low refl) (h.high refl)
interval_by w d section.Output x y h = refl
interval_by w d section.Parameter x y h = ap (λ (a : Number). record { low = a; high = a }) (h.value refl)
interval_by w d section.Aux x y h = refl
interval_by w d section.Ad x y h = refl
interval_by w d section.Da x y h = refl
interval_by w d section.Logic x y h = refl
interval_by w d section.Linear x y h = refl
interval_by w d section.Automata x y h = refl
interval_by w d section.Continuous x y h = refl
interval_by w d section.OutputItem x y h = refl
interval_by w d section.Must x y h = refl

name_same : (w : Assignment) (d : Decl) (x y : ProgName) → IsNameOf w d x → IsNameOf w d y → declared_interval x.role x ≡ declared_interval y.role y
name_same w d x y h k =
    ap (λ (r : Role). declared_interval r x) h.role
    ∙ interval_by w d d.section x y (record { low = λ g. h.low g ∙ sym (k.low g); high = λ g. h.high g ∙ sym (k.high g); value = λ g. h.value g ∙ sym (k.value g) })
    ∙ sym (ap (λ (r : Role). declared_interval r y) k.role)

declared_same : (w : Assignment) (ds : List Decl) (xs ys : List ProgName) → OneByOne (IsNameOf w) ds xs → OneByOne (IsNameOf w) ds ys → declared xs ≡ declared ys
declared_same w [] [] [] h k = refl
declared_same w [] [] (y ∷ ys) h k = absurd k
declared_same w [] (x ∷ xs) ys h k = absurd h
declared_same w (d ∷ ds) [] ys h k = absurd h
declared_same w (d ∷ ds) (x ∷ xs) [] h k = absurd k
declared_same w (d ∷ ds) (x ∷ xs) (y ∷ ys) h k = ap₂ (λ (i : Interval) (is : List Interval). i ∷ is) (name_same w d x y h.0 k.0) (declared_same w ds xs ys h.1 k.1)

places_same : (w : Assignment) (n : ℕ) (ds : List Decl) (xs ys : List ProgName) → OneByOne (IsNameOf w) ds xs → OneByOne (IsNameOf w) ds ys → places_from n is_auxiliary xs ≡ places_from n is_auxiliary ys
places_same w n [] [] [] h k = refl
places_same w n [] [] (y ∷ ys) h k = absurd k
places_same w n [] (x ∷ xs) ys h k = absurd h
places_same w n (d ∷ ds) [] ys h k = absurd h
places_same w n (d ∷ ds) (x ∷ xs) [] h k = absurd k
places_same w n (d ∷ ds) (x ∷ xs) (y ∷ ys) h k =
    ap₂ (λ (r : Role) (ms : List ℕ). cond (is_auxiliary r) (n ∷ ms) ms) (h.0.role ∙ sym k.0.role) (places_same w (suc n) ds xs ys h.1 k.1)

-- ---- orders
leads_like : (ts us : List ProgItem) (n m : ℕ) → AllLike ts us → SomeItem (λ t. (t.name ≡ Some n) × MentionedIn m t.body) ts → SomeItem (λ t. (t.name ≡ Some n) × MentionedIn m t.body) us
leads_like _ _ n m none h = h
leads_like _ _ n m (more {ts = ts} {us = us} l r) (inl h) = inl (sym l.name ∙ h.0, cast (l.mentions m) h.1)
  where
    cast : {A B : Type 0} → A ≡ B → A → B
    cast e a = subst (λ (X : Type 0). X) e a
leads_like _ _ n m (more {ts = ts} {us = us} l r) (inr h) = inr (leads_like ts us n m r h)

all_like_back : (ts us : List ProgItem) → AllLike ts us → AllLike us ts
all_like_back _ _ none = none
all_like_back _ _ (more {ts = ts} {us = us} l r) = more (record { name = sym l.name; asks = λ b. sym (l.asks b); finds = λ b. sym (l.finds b); mentions = λ n. sym (l.mentions n) }) (all_like_back ts us r)

ready_in : (p q : Program) (taken : List ℕ) (n : ℕ) → ((m : ℕ) → Leads q n m → Leads p n m) → (ms : List ℕ) → AllByRecursion (λ m. Leads p n m → IsIn m taken) ms → AllByRecursion (λ m. Leads q n m → IsIn m taken) ms
ready_in p q taken n f [] h = tt
ready_in p q taken n f (m ∷ ms) h = (λ l. h.0 (f m l), ready_in p q taken n f ms h.1)

ready_like : (p q : Program) (taken : List ℕ) (n : ℕ) → AllLike p.items q.items → places is_auxiliary p ≡ places is_auxiliary q → IsReady p taken n → IsReady q taken n
ready_like p q taken n l e h = (
  h.0,
  subst (λ (ms : List ℕ). AllByRecursion (λ m. Leads q n m → IsIn m taken) ms) e
      (ready_in p q taken n (λ m. leads_like q.items p.items n m (all_like_back p.items q.items l)) (places is_auxiliary p) h.1),
)

first_like : (P Q : ℕ → Type 0) (n : ℕ) (ms : List ℕ) → ((m : ℕ) → P m → Q m) → ((m : ℕ) → Q m → P m) → IsFirst P n ms → IsFirst Q n ms
first_like P Q n [] f g h = h
first_like P Q n (m ∷ ms) f g (inl h) = inl (f m h.0, h.1)
first_like P Q n (m ∷ ms) f g (inr h) = inr (λ x. h.0 (g m x), first_like P Q n ms f g h.1)

order_like : (p q : Program) (taken ns : List ℕ) → AllLike p.items q.items → places is_auxiliary p ≡ places is_auxiliary q → IsOrderAfter p taken ns → IsOrderAfter q taken ns
order_like p q taken [] l e h = subst (λ (ms : List ℕ). AllByRecursion (λ n. IsIn n taken) ms) e h
order_like p q taken (n ∷ ns) l e h = (
  subst (λ (ms : List ℕ). IsFirst (IsReady q taken) n ms) e
      (first_like (IsReady p taken) (IsReady q taken) n (places is_auxiliary p) (λ m. ready_like p q taken m l e) (λ m. ready_like q p taken m (all_like_back p.items q.items l) (sym e)) h.0),
  order_like p q (n ∷ taken) ns l e h.1,
)

found_same : (ts us : List ProgItem) (ns : List ℕ) (boxes : List Interval) → AllLike ts us → found ts ns boxes ≡ found us ns boxes
found_same ts us [] boxes l = refl
found_same ts us (n ∷ ns) boxes l =
    let p : place_in ts n ≡ place_in us n = place_same ts us n l in
    let here : with_interval ts n boxes ≡ with_interval us n boxes = ap (λ (i : Interval). set boxes n i) (interval_same ts us boxes (place_in ts n) l ∙ ap (interval_at boxes us) p) in
    found_same ts us ns (with_interval ts n boxes) l ∙ ap (found us ns) here

-- ---- programs
module _ (tolerance other : Number) (s : Source) (p q : Program) (o r : Order) (h : IsNamedTranslation tolerance s p) (k : IsNamedTranslation other s q) (i : IsOrder p o) (j : IsOrder q r) where
  alike : AllLike p.items q.items
  alike = all_like (setting tolerance s) (setting other s) s.items p.items q.items refl h.items k.items

  same_order : o.names ≡ r.names
  same_order = one_order q o r (order_like p q [] o.names alike (places_same (parameters s.decls) 0 s.decls p.names q.names h.names k.names) i) j

  declared_both : declared p.names ≡ declared q.names
  declared_both = declared_same (parameters s.decls) s.decls p.names q.names h.names k.names

  pub same_numbers : range_numbers p o ≡ range_numbers q r
  same_numbers = along_same p.items q.items o.names (declared p.names) alike ∙ ap₂ (λ (ns : List ℕ) (boxes : List Interval). numbers_along q.items ns boxes) same_order declared_both

  pub same_intervals : intervals p o ≡ intervals q r
  same_intervals = found_same p.items q.items o.names (declared p.names) alike ∙ ap₂ (λ (ns : List ℕ) (boxes : List Interval). found q.items ns boxes) same_order declared_both
