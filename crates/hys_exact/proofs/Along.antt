-- Along an order of definition an assignment under which the items have their cases is the valued one.
use Rattle.std.proofs.Common.{◌≡◌, ℕ, ◌+◌, ◌<◌, List, [], ◌∷◌, Some, Bool, true, false, cond, refl, sym, ◌∙◌, arith, subst, inl, inr, ◌⊎◌}
use Rattle.hys_lin.specs.declared.form.Interval.{Interval}
use Rattle.hys_lin.specs.Ranges.{box_at}
use Rattle.hys_lin.specs.Sums.{Assignment, Within}
use Rattle.hys_formula.specs.Formulas.{FormulaTree, constant, named, negated, joined, tree_of, EachName}
use Rattle.hys_prog.specs.declared.program.Name.{Name}
use Rattle.hys_prog.specs.declared.program.Body.{Body}
use Rattle.hys_prog.specs.declared.program.Body.TheVariants.{Guard, Choice, Logic, Linear, NextBool, NextReal, OutBool, OutReal, MustHold, MustMost, MustZero}
use Rattle.hys_prog.specs.declared.program.ProgItem.{ProgItem}
use Rattle.hys_prog.specs.declared.program.Program.{Program}
use Rattle.hys_prog.specs.Programs.{IsProgram, EachItem, NameAt, Named, IsVariable, definitions, is_named}
use Rattle.hys_prog.specs.Steps.{CaseOf, places, is_auxiliary}
use Rattle.hys_prog.specs.Orders.{Leads, IsIn, IsReady, IsOrderAfter}
use Rattle.hys_prog.proofs.Defined.{some_named}
use Rattle.hys_prog.proofs.Members.{each_of, first_in, first_holds}
use Rattle.hys_prog.proofs.Names.{IsAuxiliary, aux_at, aux_named, place_of}
use Rattle.hys_prog.proofs.Reading.{Reads, ReadsFor, Same, same_number_of, each_reads, aux_suits, named_suits}
use Rattle.hys_prog.proofs.Valuing.{case_number, case_of}
use Rattle.hys_prog.proofs.Assigning.{Is, is_fixed, IsKnown, variable_split}
use Rattle.hys_exact.specs.Parts.{AreInside, AreSame}
use Rattle.hys_exact.proofs.Moving.{columns_weaker, read_asked}

-- ---- what is read
names_weaker : (P Q : ℕ → Type 0) → ((n : ℕ) → P n → Q n) → (f : FormulaTree) → EachName P f → EachName Q f
names_weaker P Q h (constant b) r = tt
names_weaker P Q h (named n) r = h n r
names_weaker P Q h (negated f) r = names_weaker P Q h f r
names_weaker P Q h (joined c f g) r = (names_weaker P Q h f r.0, names_weaker P Q h g r.1)

reads_weaker : (P Q : ℕ → Type 0) → ((n : ℕ) → P n → Q n) → (b : Body) → Reads P b → Reads Q b
reads_weaker P Q h (Guard f e) r = columns_weaker P Q h f.terms r
reads_weaker P Q h (Choice l a b) r = (names_weaker P Q h (tree_of l) r.0, columns_weaker P Q h a.terms r.1, columns_weaker P Q h b.terms r.2)
reads_weaker P Q h (Logic l) r = names_weaker P Q h (tree_of l) r
reads_weaker P Q h (Linear f) r = columns_weaker P Q h f.terms r
reads_weaker P Q h (NextBool l) r = names_weaker P Q h (tree_of l) r
reads_weaker P Q h (NextReal f) r = columns_weaker P Q h f.terms r
reads_weaker P Q h (OutBool l) r = names_weaker P Q h (tree_of l) r
reads_weaker P Q h (OutReal f) r = columns_weaker P Q h f.terms r
reads_weaker P Q h (MustHold l) r = names_weaker P Q h (tree_of l) r
reads_weaker P Q h (MustMost f) r = columns_weaker P Q h f.terms r
reads_weaker P Q h (MustZero f) r = columns_weaker P Q h f.terms r

-- ---- one auxiliary
-- a name has the same number, and it is in the name's interval
abbrev Agreed : List Interval → Assignment → Assignment → ℕ → Type 0
Agreed boxes s w n = (s n ≡ w n) × Within (box_at boxes n) (s n)

one_number : (names : List Name) (boxes : List Interval) (s w : Assignment) (m : ℕ) (ts : List ProgItem) → EachItem (λ t. AreInside boxes s t.body → CaseOf s t) ts → EachItem (CaseOf w) ts → EachItem (λ t. Named names t.name t.body) ts →
    NameAt names m IsAuxiliary → ReadsFor (Agreed boxes s w) m ts → 0 < definitions m ts → s m ≡ w m
one_number names boxes s w m [] c k n a r d = absurd (omega arith)
one_number names boxes s w m (t ∷ ts) c k n a r d = go (is_named m t.name) refl d (λ l. one_number names boxes s w m ts c.1 k.1 n.1 a r.1 l)
  where
    go : (b : Bool) → is_named m t.name ≡ b → 0 < cond b 1 0 + definitions m ts → (0 < definitions m ts → s m ≡ w m) → s m ≡ w m
    go true e d f =
        let q : t.name ≡ Some m = some_named m t.name e in
        let reads : Reads (Agreed boxes s w) t.body = r.0 q in
        let body = aux_suits names m t.body (named_suits names m t.name t.body q n.0) a in
        let inside : AreInside boxes s t.body = read_asked (Agreed boxes s w) (λ i. Within (box_at boxes i) (s i)) (λ i h. h.1) t.body reads in
        case_number s m t.body body (case_of s m t.name t.body q (c.0 inside))
        ∙ same_number_of s w t.body (reads_weaker (Agreed boxes s w) (Same s w) (λ i h. h.0) t.body reads)
        ∙ sym (case_number w m t.body body (case_of w m t.name t.body q k.0))
    go false e d f = f (omega arith)

-- ---- along the order
-- the states, inputs and auxiliaries that are known have the same numbers
abbrev pub AgreeKnown : Program → List ℕ → Assignment → Assignment → Type 0
AgreeKnown p taken s w = (n : ℕ) → NameAt p.names n IsVariable → IsKnown p taken n → s n ≡ w n

pub same_along : (p : Program) (boxes : List Interval) (s w : Assignment) (taken ns : List ℕ) → IsProgram p → IsOrderAfter p taken ns →
    EachItem (λ t. AreInside boxes s t.body → CaseOf s t) p.items → EachItem (CaseOf w) p.items →
    ((n : ℕ) → NameAt p.names n IsVariable → Within (box_at boxes n) (w n)) → AgreeKnown p taken s w → AreSame p.names s w
same_along p boxes s w taken [] g o c k i h = λ n v. go n v (variable_split p n v)
  where
    go : (n : ℕ) → NameAt p.names n IsVariable → Is is_fixed p n ⊎ Is is_auxiliary p n → s n ≡ w n
    go n v (inl f) = h n v (inl f)
    go n v (inr a) = h n v (inr (each_of (λ n. IsIn n taken) (places is_auxiliary p) n o (place_of is_auxiliary 0 n n p.names (omega arith) a)))
same_along p boxes s w taken (m ∷ ns) g o c k i h = same_along p boxes s w (m ∷ taken) ns g o.1 c k i (λ n v q. go n v q)
  where
    is_aux : IsIn m (places is_auxiliary p)
    is_aux = first_in (IsReady p taken) (places is_auxiliary p) m o.0

    agreed : (n : ℕ) → NameAt p.names n IsVariable → s n ≡ w n → Agreed boxes s w n
    agreed n v e = (e, rw e (i n v))

    read : (n : ℕ) → NameAt p.names n IsVariable → Leads p m n → Agreed boxes s w n
    read n v l = split (variable_split p n v)
      where
        split : Is is_fixed p n ⊎ Is is_auxiliary p n → Agreed boxes s w n
        split (inl f) = agreed n v (h n v (inl f))
        split (inr a) = agreed n v (h n v (inr (each_of (λ j. Leads p m j → IsIn j taken) (places is_auxiliary p) n (first_holds (IsReady p taken) (places is_auxiliary p) m o.0).1 (place_of is_auxiliary 0 n n p.names (omega arith) a) l)))

    here : s m ≡ w m
    here =
        let d = g.once m (aux_named p m is_aux) in
        one_number p.names boxes s w m p.items c k g.named (aux_at p m is_aux) (each_reads (Agreed boxes s w) p.names m p.items g.bodies g.named (aux_at p m is_aux) read) (omega arith)

    go : (n : ℕ) → NameAt p.names n IsVariable → IsKnown p (m ∷ taken) n → s n ≡ w n
    go n v (inl f) = h n v (inl f)
    go n v (inr (inl e)) = subst (λ (j : ℕ). s j ≡ w j) e here
    go n v (inr (inr q)) = h n v (inr q)
