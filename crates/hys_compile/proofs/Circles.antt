-- From circular lists of a program to those of its source, with the texts that are shown.
use Rattle.std.proofs.Common.{◌≡◌, ℕ, zero, suc, ◌+◌, ◌<◌, ◌≤◌, List, [], ◌∷◌, ◌++◌, Option, Some, None, Bool, true, false, cond, map, take, length, get_or, refl, sym, ◌∙◌, ap, ap₂, subst, arith, inr, Result, Ok, Err}
use Rattle.std.specs.Prelude.{IsTrue}
use Rattle.std.proofs.lemmas.List.{take_more, map-append}
use Rattle.std.specs.Str.{bytes_eq}
use Rattle.std.specs.List.{AllByRecursion}
use Rattle.hys_lex.specs.declared.token.Token.{Token}
use Rattle.hys_ast.specs.Tree.{Decl, Source}
use Rattle.hys_meaning.specs.Values.{Assignment}
use Rattle.hys_meaning.specs.Names.{Name, name_of, names, parameters, look}
use Rattle.hys_meaning.specs.Typed.{is_left, any_kind}
use Rattle.hys_meaning.specs.Names.{is_auxiliary}
use Rattle.hys_meaning.specs.Unfolded.{unfolded}
use Rattle.hys_meaning.specs.Circular.{Circular, IsAuxiliary}
use Rattle.hys_prog.specs.declared.program.Name.{Name as ProgName}
use Rattle.hys_prog.specs.declared.program.Program.{Program}
use Rattle.hys_prog.specs.declared.program.Order.{Order}
use Rattle.hys_prog.specs.Steps as steps
use Rattle.hys_prog.specs.Orders.{IsIn, IsOrder}
use Rattle.hys_prog.specs.Orders as program
use Rattle.hys_prog.proofs.Names.{aux_at, IsAuxiliary as IsAuxiliaryRole}
use Rattle.hys_prog.proofs.Defined.{name_below}
use Rattle.hys_order.specs.Answers.{BeginsWithLeast, Ordered}
use Rattle.hys_order.specs.Links.{Below}
use Rattle.hys_order.specs.declared.fault.OrderFault.{OrderFault}
use Rattle.hys_order.specs.declared.fault.OrderFault.TheVariants.{Cycle}
use Rattle.hys_type.specs.Rules.{KeepsTyping}
use Rattle.hys_type.specs.Checks.{checks}
use Rattle.hys_number.specs.Number.{Number}
use Rattle.hys_type.specs.Translation.{place_in, OneByOne, IsNameOf, IsTranslation}
use Rattle.hys_type.proofs.Passing.{none_passes}
use Rattle.hys_type.proofs.SourceRules.{source_rule}
use Rattle.hys_type.proofs.TypingRules.{typing_kept}
use Rattle.hys_type.proofs.SameCircles.{circle_places, circle_texts, unfolded_declared}
use Rattle.hys_type.proofs.KnownValues.{same_text}
use Rattle.hys_compile.specs.declared.fault.SourceFault.{SourceFault}
use Rattle.hys_compile.specs.Faults.{circle_fault}
use Rattle.hys_compile.specs.Sources.{text_at, BeginsWithFirst, IsProgramOf}
use Rattle.hys_compile.specs.Text.{IsTyped, IsOrdered, IsRefusal, cycle}
use Rattle.hys_compile.proofs.GuardSizes.{few_guards}
use Rattle.hys_compile.proofs.Readable.{measured_written, measured_declarations}

-- ---- typed sources
pub keeps_typing : (text : List ℕ) (tokens : List Token) (tree : Source) → IsTyped text tokens tree → KeepsTyping (unfolded tree)
keeps_typing text tokens tree t =
    let r = measured_written text tokens tree t.measured in
    let k = (source_rule tree r).0 (none_passes (checks tree) t.faultless) in
    typing_kept tree r (few_guards tree t.measured.nodes) k.0

pub program_of : (tolerance : Number) (tree : Source) (p : Program) → IsTranslation tolerance tree p → IsProgramOf tree p
program_of tolerance tree p t = record { tolerance = tolerance; translation = t }

-- ---- texts of names
text_is : (xs : List ProgName) (n : ℕ) (d : ProgName) → n < length xs → (get_or xs n d).text ≡ text_at xs n
text_is [] n d b = absurd (omega arith)
text_is (y ∷ xs) zero d b = refl
text_is (y ∷ xs) (suc n) d b = text_is xs n d (omega arith)

pub more_texts : (xs : List ProgName) (js : List ℕ) (i : ℕ) (ts us : List (List ℕ)) (d : ProgName) (t : List ℕ) → ts ≡ map (text_at xs) (take i js) → i < length js → get_or js i 0 < length xs → t ≡ (get_or xs (get_or js i 0) d).text → us ≡ ts ++ t ∷ [] →
    us ≡ map (text_at xs) (take (i + 1) js)
more_texts xs js i ts us d t h b l c p =
    p ∙ ap₂ (λ (a : List (List ℕ)) (y : List ℕ). a ++ y ∷ []) h (c ∙ text_is xs (get_or js i 0) d l) ∙ sym (ap (map (text_at xs)) (take_more js i 0 b) ∙ map-append (text_at xs) (take i js) (get_or js i 0 ∷ []))

own_text_at : (w : Assignment) (ds : List Decl) (xs : List ProgName) (n : List ℕ) (m : Name) → OneByOne (IsNameOf w) ds xs → look (map (name_of w) ds) n ≡ Some m → text_at xs (place_in (map (name_of w) ds) n) ≡ n
own_text_at w [] xs n m h e = absurd (cc)
own_text_at w (d ∷ ds) [] n m h e = absurd h
own_text_at w (d ∷ ds) (x ∷ xs) n m h e = go (bytes_eq d.name n) refl e (own_text_at w ds xs n m h.1)
  where
    go : (b : Bool) → bytes_eq d.name n ≡ b → cond b (Some (name_of w d)) (look (map (name_of w) ds) n) ≡ Some m → (look (map (name_of w) ds) n ≡ Some m → text_at xs (place_in (map (name_of w) ds) n) ≡ n) →
        text_at (x ∷ xs) (cond b 0 (suc (place_in (map (name_of w) ds) n))) ≡ n
    go true i q f = h.0.text ∙ same_text d.name n i
    go false i q f = f q

found : (ns : List Name) (n : List ℕ) → IsAuxiliary ns n → (m : Name) × (look ns n ≡ Some m)
found ns n h = go (look ns n) refl h
  where
    go : (o : Option Name) → look ns n ≡ o → IsTrue (is_left is_auxiliary any_kind o) → (m : Name) × (look ns n ≡ Some m)
    go None e h = absurd (cc)
    go (Some m) e h = (m, e)

texts_again : (s : Source) (xs : List ProgName) (ns : List (List ℕ)) → OneByOne (IsNameOf (parameters s.decls)) s.decls xs → AllByRecursion (IsAuxiliary (names s)) ns → map (text_at xs) (map (place_in (names s)) ns) ≡ ns
texts_again s xs [] h a = refl
texts_again s xs (n ∷ ns) h a =
    let f = found (names s) n a.0 in
    ap₂ (λ (t : List ℕ) (ts : List (List ℕ)). t ∷ ts) (own_text_at (parameters s.decls) s.decls xs n f.0 h f.1) (texts_again s xs ns h a.1)

are_auxiliaries : (s : Source) (ns : List (List ℕ)) → Circular s ns → AllByRecursion (IsAuxiliary (names s)) ns
are_auxiliaries s [] c = tt
are_auxiliaries s (n ∷ ns) c = c.0

-- ---- which of a circular list is first
least_first : (f : List ℕ → ℕ) (k : ℕ) (ns : List (List ℕ)) → AllByRecursion (λ j. k ≤ j) (map f ns) → AllByRecursion (λ n. k ≤ f n) ns
least_first f k [] h = tt
least_first f k (n ∷ ns) h = (h.0, least_first f k ns h.1)

begins_first : (ns : List Name) (ms : List (List ℕ)) → BeginsWithLeast (map (place_in ns) ms) → BeginsWithFirst ns ms
begins_first ns [] h = h
begins_first ns (m ∷ ms) h = least_first (place_in ns) (place_in ns m) ms h

-- ---- the answers of an order
pub orders_kept : (text : List ℕ) (tokens : List Token) (tree : Source) (p : Program) (r : Result Order OrderFault) (o : Order) → r ≡ Ok o → IsTyped text tokens tree → IsProgramOf tree p → Ordered p r → IsOrdered text tokens tree
orders_kept text tokens tree p r o e t i h =
    let k = keeps_typing text tokens tree t in
    let a : Ordered p (Ok o) = subst (λ (x : Result Order OrderFault). Ordered p x) e h in
    record { typed = t; orders = λ ns c. a.1 (map (place_in (names (unfolded tree))) ns) (circle_places i.tolerance (unfolded tree) p i.translation k.declared k.typed ns c) }

circle_of : (p : Program) (r : Result Order OrderFault) (fault : OrderFault) (js : List ℕ) → r ≡ Err fault → fault ≡ Cycle js → Ordered p r → program.Circular p js × BeginsWithLeast js
circle_of p r fault js e q h = subst (λ (x : Result Order OrderFault). Ordered p x) (e ∙ ap Err q) h

each_below : (p : Program) (js : List ℕ) → AllByRecursion (λ m. IsIn m (steps.places steps.is_auxiliary p)) js → (k : ℕ) → k < length js → get_or js k 0 < length p.names
each_below p [] a k b = absurd (omega arith)
each_below p (j ∷ js) a zero b = name_below IsAuxiliaryRole p.names j (aux_at p j a.0)
each_below p (j ∷ js) a (suc k) b = each_below p js a.1 k (omega arith)

all_below : (p : Program) (js : List ℕ) → program.Circular p js → Below (length p.names) js
all_below p [] c = absurd c
all_below p (j ∷ js) c = each_below p (j ∷ js) c.0

pub circle_below : (p : Program) (r : Result Order OrderFault) (fault : OrderFault) (js is : List ℕ) (xs : List ProgName) → r ≡ Err fault → fault ≡ Cycle js → Ordered p r → is ≡ js → xs ≡ p.names → Below (length xs) is
circle_below p r fault js is xs e q h i n =
    subst (λ (ys : List ProgName). Below (length ys) is) (sym n) (subst (λ (ks : List ℕ). Below (length p.names) ks) (sym i) (all_below p js (circle_of p r fault js e q h).0))

pub by_cycle : (text : List ℕ) (tokens : List Token) (tree : Source) (p : Program) (r : Result Order OrderFault) (fault : OrderFault) (js is : List ℕ) (xs : List ProgName) (f : SourceFault) →
    r ≡ Err fault → fault ≡ Cycle js → Ordered p r → is ≡ js → xs ≡ p.names → f ≡ circle_fault (map (text_at xs) is) → IsTyped text tokens tree → IsProgramOf tree p → (tolerance : Number) → IsRefusal tolerance text f
by_cycle text tokens tree p r fault js is xs f e q h i n s typed tr tolerance =
    let k = keeps_typing text tokens tree typed in
    let c = circle_of p r fault js e q h in
    let m = circle_texts tr.tolerance (unfolded tree) p tr.translation k.declared k.typed (unfolded_declared tree (measured_declarations text tokens tree typed.measured)) js c.0 in
    let again : map (text_at xs) is ≡ m.0 =
    ap₂ (λ (ys : List ProgName) (ks : List ℕ). map (text_at ys) ks) n (i ∙ sym m.1) ∙ texts_again (unfolded tree) p.names m.0 tr.translation.names (are_auxiliaries (unfolded tree) m.0 m.2) in
    inr (cycle f (record {
      tokens = tokens;
      tree = tree;
      circle = m.0;
      typed = typed;
      circular = m.2;
      first = begins_first (names (unfolded tree)) m.0 (subst BeginsWithLeast (sym m.1) c.1);
      shown_is = s ∙ ap circle_fault again;
    }))
