-- What is met under one assignment is met under each that has the same numbers for states, inputs and auxiliaries.
use Rattle.std.proofs.Common.{◌≡◌, ℕ, zero, suc, ◌+◌, ◌<◌, List, [], ◌∷◌, Option, Some, None, Bool, true, false, cond, refl, sym, ◌∙◌, ap, ap₂, arith, subst, IsTrue}
use Rattle.hys_number.specs.Number.{Number}
use Rattle.hys_number.specs.Ops.{whole, ◌≤ₙ◌}
use Rattle.hys_lin.specs.declared.form.Interval.{Interval}
use Rattle.hys_lin.specs.declared.form.Term.{Term}
use Rattle.hys_lin.specs.Bits.{IsBit, bit}
use Rattle.hys_lin.specs.Ranges.{box_at}
use Rattle.hys_lin.specs.Sums.{Assignment, value, EachColumn, Within}
use Rattle.hys_formula.specs.Formulas.{tree_of, truth}
use Rattle.hys_prog.specs.declared.program.Role.TheVariants.{Aux}
use Rattle.hys_ast.specs.declared.source.Kind.{Kind}
use Rattle.hys_ast.specs.declared.source.Kind.TheVariants.{Real, Bool as Truth}
use Rattle.hys_prog.specs.declared.program.Name.{Name}
use Rattle.hys_prog.specs.declared.program.Body.{Body}
use Rattle.hys_prog.specs.declared.program.Body.TheVariants.{Guard, Choice, Logic, Linear, NextBool, NextReal, OutBool, OutReal, MustHold, MustMost, MustZero}
use Rattle.hys_prog.specs.declared.program.ProgItem.{ProgItem}
use Rattle.hys_prog.specs.Programs.{EachItem, NameAt, BodyOver, Named, Suits, Has, IsVariable, has_column, definitions, is_named}
use Rattle.hys_prog.specs.Steps.{Case, OfName, GapAt, DemandOf}
use Rattle.hys_prog.specs.Stops.{number_of, number_in}
use Rattle.hys_prog.proofs.Names.{name_map}
use Rattle.hys_prog.proofs.Defined.{some_named}
use Rattle.hys_prog.proofs.Reading.{Reads, Same, same_value, same_truth, reads_all, named_suits}
use Rattle.hys_bound.specs.Ranges.{EachAsked}
use Rattle.hys_exact.specs.Parts.{IsMet, AreSame, AreInside, is_after}
use Rattle.hys_exact.proofs.Parts.{bit_is}

-- ---- what is read
pub columns_weaker : (P Q : ℕ → Type 0) → ((n : ℕ) → P n → Q n) → (ts : List Term) → EachColumn P ts → EachColumn Q ts
columns_weaker P Q f [] h = tt
columns_weaker P Q f (t ∷ ts) h = (f t.column h.0, columns_weaker P Q f ts h.1)

-- the names of whose forms the interval is asked are read
pub read_asked : (P Q : ℕ → Type 0) → ((n : ℕ) → P n → Q n) → (b : Body) → Reads P b → EachAsked Q b
read_asked P Q h (Guard f e) r = columns_weaker P Q h f.terms r
read_asked P Q h (Choice l a b) r = (columns_weaker P Q h a.terms r.1, columns_weaker P Q h b.terms r.2)
read_asked P Q h (Logic l) r = tt
read_asked P Q h (Linear f) r = columns_weaker P Q h f.terms r
read_asked P Q h (NextBool l) r = tt
read_asked P Q h (NextReal f) r = tt
read_asked P Q h (OutBool l) r = tt
read_asked P Q h (OutReal f) r = tt
read_asked P Q h (MustHold l) r = tt
read_asked P Q h (MustMost f) r = tt
read_asked P Q h (MustZero f) r = tt

pub all_inside : (names : List Name) (boxes : List Interval) (w : Assignment) (ts : List ProgItem) → EachItem (λ t. BodyOver names t.body) ts → ((n : ℕ) → NameAt names n IsVariable → Within (box_at boxes n) (w n)) → EachItem (λ t. AreInside boxes w t.body) ts
all_inside names boxes w [] o h = tt
all_inside names boxes w (t ∷ ts) o h =
    (read_asked (λ n. Within (box_at boxes n) (w n)) (λ n. Within (box_at boxes n) (w n)) (λ n i. i) t.body (reads_all (λ n. Within (box_at boxes n) (w n)) names t.body o.0 h), all_inside names boxes w ts o.1 h)

-- ---- one body
aux_variable : (x : Name) (d : Kind) → Has Aux d x → IsVariable x
aux_variable x d h = ap has_column h.0

own_same : (names : List Name) (v w : Assignment) (n : ℕ) (d : Kind) → NameAt names n (Has Aux d) → AreSame names v w → v n ≡ w n
own_same names v w n d s h = h n (name_map (Has Aux d) IsVariable names n (λ x q. aux_variable x d q) s)

pub case_moved : (names : List Name) (v w : Assignment) (n : ℕ) (b : Body) → NameAt names n (Suits b) → AreSame names v w → Reads (Same v w) b → Case v n b → Case w n b
case_moved names v w n (Guard f e) s h r c = let x : value f v ≡ value f w = same_value v w f r in let y : v n ≡ w n = own_same names v w n Truth s h in rw (← x, ← y) c
case_moved names v w n (Choice l a b) s h r c =
    sym (own_same names v w n Real s h) ∙ c
    ∙ ap₂ (λ (x y : Number). cond (truth (tree_of l) v) x y) (same_value v w a r.1) (same_value v w b r.2)
    ∙ ap (λ t. cond t (value a w) (value b w)) (same_truth v w (tree_of l) r.0)
case_moved names v w n (Logic l) s h r c = sym (own_same names v w n Truth s h) ∙ c ∙ ap bit (same_truth v w (tree_of l) r)
case_moved names v w n (Linear f) s h r c = sym (own_same names v w n Real s h) ∙ c ∙ same_value v w f r
case_moved names v w n (NextBool l) s h r c = tt
case_moved names v w n (NextReal f) s h r c = tt
case_moved names v w n (OutBool l) s h r c = tt
case_moved names v w n (OutReal f) s h r c = tt
case_moved names v w n (MustHold l) s h r c = tt
case_moved names v w n (MustMost f) s h r c = tt
case_moved names v w n (MustZero f) s h r c = tt

gap_moved : (v w : Assignment) (b : Body) → Reads (Same v w) b → GapAt w b → GapAt v b
gap_moved v w (Guard f e) r g = let x : value f v ≡ value f w = same_value v w f r in rw x g
gap_moved v w (Choice l a b) r g = g
gap_moved v w (Logic l) r g = g
gap_moved v w (Linear f) r g = g
gap_moved v w (NextBool l) r g = g
gap_moved v w (NextReal f) r g = g
gap_moved v w (OutBool l) r g = g
gap_moved v w (OutReal f) r g = g
gap_moved v w (MustHold l) r g = g
gap_moved v w (MustMost f) r g = g
gap_moved v w (MustZero f) r g = g

demand_moved : (v w : Assignment) (b : Body) → Reads (Same v w) b → DemandOf v b → DemandOf w b
demand_moved v w (Guard f e) r d = tt
demand_moved v w (Choice l a b) r d = tt
demand_moved v w (Logic l) r d = tt
demand_moved v w (Linear f) r d = tt
demand_moved v w (NextBool l) r d = tt
demand_moved v w (NextReal f) r d = tt
demand_moved v w (OutBool l) r d = tt
demand_moved v w (OutReal f) r d = tt
demand_moved v w (MustHold l) r d = subst IsTrue (same_truth v w (tree_of l) r) d
demand_moved v w (MustMost f) r d = subst (λ (a : Number). a ≤ₙ whole 0) (same_value v w f r) d
demand_moved v w (MustZero f) r d = sym (same_value v w f r) ∙ d

-- ---- all items
pub all_met : (names : List Name) (v w : Assignment) (ts : List ProgItem) → EachItem (λ t. BodyOver names t.body) ts → EachItem (λ t. Named names t.name t.body) ts → AreSame names v w → EachItem (IsMet v) ts → EachItem (IsMet w) ts
all_met names v w [] o s h m = tt
all_met names v w (t ∷ ts) o s h m =
    let r : Reads (Same v w) t.body = reads_all (Same v w) names t.body o.0 h in
    (record { case = moved t.name s.0 m.0.case; no_gap = λ g. m.0.no_gap (gap_moved v w t.body r g); demand = demand_moved v w t.body r m.0.demand }, all_met names v w ts o.1 s.1 h m.1)
  where
    moved : (o' : Option ℕ) → Named names o' t.body → OfName (λ n. Case v n t.body) o' → OfName (λ n. Case w n t.body) o'
    moved None s c = tt
    moved (Some n) s c = case_moved names v w n t.body s h (reads_all (Same v w) names t.body o.0 h) c

-- ---- the number of a Boolean auxiliary
pub clash_kind : (d : Kind) → d ≡ Real → d ≡ Truth → ⊥
clash_kind Real e f = absurd (cc)
clash_kind Truth e f = absurd (cc)

boolean_number : (w : Assignment) (x : Name) (b : Body) → Suits b x → Has Aux Truth x → IsBit (number_of w b)
boolean_number w x (Guard f e) s h = bit_is _
boolean_number w x (Choice l a b) s h = absurd (clash_kind x.kind s.1 h.1)
boolean_number w x (Logic l) s h = bit_is _
boolean_number w x (Linear f) s h = absurd (clash_kind x.kind s.1 h.1)
boolean_number w x (NextBool l) s h = bit_is _
boolean_number w x (NextReal f) s h = absurd (clash_kind x.kind s.1 h.1)
boolean_number w x (OutBool l) s h = bit_is _
boolean_number w x (OutReal f) s h = absurd (clash_kind x.kind s.1 h.1)
boolean_number w x (MustHold l) s h = absurd s
boolean_number w x (MustMost f) s h = absurd s
boolean_number w x (MustZero f) s h = absurd s

suited : (P : Name → Type 0) (names : List Name) (n : ℕ) (b : Body) (w : Assignment) → ((x : Name) → P x → Has Aux Truth x) → NameAt names n (Suits b) → NameAt names n P → IsBit (number_of w b)
suited P [] n b w f s h = absurd s
suited P (x ∷ xs) zero b w f s h = boolean_number w x b s (f x h)
suited P (x ∷ xs) (suc n) b w f s h = suited P xs n b w f s h

pub boolean_in : (names : List Name) (w : Assignment) (n : ℕ) (ts : List ProgItem) → EachItem (λ t. Named names t.name t.body) ts → NameAt names n (Has Aux Truth) → 0 < definitions n ts → IsBit (number_in w n ts)
boolean_in names w n [] s h d = absurd (omega arith)
boolean_in names w n (t ∷ ts) s h d = go (is_named n t.name) refl d (λ l. boolean_in names w n ts s.1 h l)
  where
    go : (c : Bool) → is_named n t.name ≡ c → 0 < cond c 1 0 + definitions n ts → (0 < definitions n ts → IsBit (number_in w n ts)) → IsBit (cond c (number_of w t.body) (number_in w n ts))
    go true e d r = suited (Has Aux Truth) names n t.body w (λ x q. q) (named_suits names n t.name t.body (some_named n t.name e) s.0) h
    go false e d r = r (omega arith)

-- ---- items of next values and outputs
after_body : (x : Name) (b : Body) → Suits b x → ¬ (x.role ≡ Aux) → IsTrue (is_after b)
after_body x (Guard f e) s h = absurd (h s.0)
after_body x (Choice l a b) s h = absurd (h s.0)
after_body x (Logic l) s h = absurd (h s.0)
after_body x (Linear f) s h = absurd (h s.0)
after_body x (NextBool l) s h = refl
after_body x (NextReal f) s h = refl
after_body x (OutBool l) s h = refl
after_body x (OutReal f) s h = refl
after_body x (MustHold l) s h = absurd s
after_body x (MustMost f) s h = absurd s
after_body x (MustZero f) s h = absurd s

after_name : (names : List Name) (n : ℕ) (b : Body) → NameAt names n (Suits b) → NameAt names n (λ x. ¬ (x.role ≡ Aux)) → IsTrue (is_after b)
after_name [] n b s h = absurd s
after_name (x ∷ xs) zero b s h = after_body x b s h
after_name (x ∷ xs) (suc n) b s h = after_name xs n b s h

-- what defines a name that is no auxiliary defines a next value or an output
pub all_after : (names : List Name) (n : ℕ) (ts : List ProgItem) → EachItem (λ t. Named names t.name t.body) ts → NameAt names n (λ x. ¬ (x.role ≡ Aux)) → EachItem (λ t. is_named n t.name ≡ true → IsTrue (is_after t.body)) ts
all_after names n [] s h = tt
all_after names n (t ∷ ts) s h = (λ e. after_name names n t.body (named_suits names n t.name t.body (some_named n t.name e) s.0) h, all_after names n ts s.1 h)
