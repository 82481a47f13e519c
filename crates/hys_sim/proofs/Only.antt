-- Two runs are the same.
use Rattle.std.proofs.Common.{◌≡◌, ◌∙◌, ◌+◌, List, [], ◌∷◌, length, Option, refl, sym, ap, ap₂, subst, arith}
use Rattle.std.specs.List.{AllByRecursion}
use Rattle.hys_number.specs.Number.{Number}
use Rattle.hys_lin.specs.Sums.{Assignment}
use Rattle.hys_prog.specs.declared.program.Program.{Program}
use Rattle.hys_prog.specs.declared.program.Order.{Order}
use Rattle.hys_prog.specs.declared.stop.Stop.{Stop}
use Rattle.hys_prog.specs.declared.stop.Stepped.{Stepped}
use Rattle.hys_prog.specs.Steps.{places, is_state, is_input, Step}
use Rattle.hys_prog.specs.Stops.{IsStepped, IsValued}
use Rattle.hys_prog.specs.Exactness.{HasAssignments, HasOneAssignment, HasOneStep}
use Rattle.hys_sim.specs.Runs.{Transition, IsTransition, Leads, IsStopped, StopsAt}
use Rattle.hys_sim.specs.Uniqueness.{HasOneRun}
use Rattle.hys_sim.proofs.Placing.{aux_same}
use Rattle.hys_sim.proofs.Running.{next_count}

-- what is known of the program
pub record Known (p : Program) : Type 0 where
  pub exists : HasAssignments p
  pub same : HasOneAssignment p
  pub step : HasOneStep p

valued : (p : Program) (x u : List Number) (w : Assignment) (x' y : List Number) → Step p x u w x' y → IsValued p x u w
valued p x u w x' y s = record { parameters = s.parameters; states = s.states; inputs = s.inputs; cases = s.cases }

abbrev stepped_of : List Number → List Number → List Number → Stepped
stepped_of a o n = record { aux = a; outputs = o; next = n }

same_parts : (a b : Stepped) → a.aux ≡ b.aux → a.outputs ≡ b.outputs → a.next ≡ b.next → a ≡ b
same_parts a b e f g = ap (λ (v : List Number). stepped_of v a.outputs a.next) e ∙ ap (λ (v : List Number). stepped_of b.aux v a.next) f ∙ ap (λ (v : List Number). stepped_of b.aux b.outputs v) g

abbrev transition_of : List Number → List Number → Stepped → Transition
transition_of x u s = record { state = x; input = u; stepped = s }

same_fields : (t s : Transition) → t.state ≡ s.state → t.input ≡ s.input → t.stepped ≡ s.stepped → t ≡ s
same_fields t s e f g = ap (λ (v : List Number). transition_of v t.input t.stepped) e ∙ ap (λ (v : List Number). transition_of s.state v t.stepped) f ∙ ap (λ (v : Stepped). transition_of s.state s.input v) g

same_stepped : (p : Program) (x u : List Number) (a b : Stepped) → Known p → IsStepped p x u a → IsStepped p x u b → a ≡ b
same_stepped p x u a b k h i =
    let e = k.step x u h.values i.values a.next b.next a.outputs b.outputs h.legal.step i.legal.step in
    let g = k.same x u h.values i.values (valued p x u h.values a.next a.outputs h.legal.step) (valued p x u i.values b.next b.outputs i.legal.step) in
    same_parts a b (h.aux ∙ aux_same 0 h.values i.values p.names (λ m a. let z : 0 + m ≡ m = omega arith in ap h.values z ∙ g m a ∙ ap i.values (sym z)) ∙ sym i.aux) e.1 e.0

same_transition : (p : Program) (x u : List Number) (t s : Transition) → Known p → IsTransition p x u t → IsTransition p x u s → t ≡ s
same_transition p x u t s k h i = same_fields t s (h.state ∙ sym i.state) (h.input ∙ sym i.input) (same_stepped p x u t.stepped s.stepped k h.legal i.legal)

same_stop : (p : Program) (o : Order) (x u : List Number) (a b : Option Stop) → Known p → length x ≡ length (places is_state p) → length u ≡ length (places is_input p) → IsStopped p o x u a → IsStopped p o x u b → a ≡ b
same_stop p o x u a b k l m h i = let w = k.exists x u l m in sym (h.first w.0 w.1) ∙ i.first w.0 w.1

same_end : (p : Program) (o : Order) (us : List (List Number)) (x : List Number) (a b : Option Stop) → Known p → length x ≡ length (places is_state p) → AllByRecursion (λ u. length u ≡ length (places is_input p)) us → StopsAt p o x us a → StopsAt p o x us b → a ≡ b
same_end p o [] x a b k l m h i = h ∙ sym i
same_end p o (u ∷ us) x a b k l m h i = same_stop p o x u a b k l m.0 h i

pub record IsSame (ts ss : List Transition) (y z : List Number) (a b : Option Stop) : Type 0 where
  pub transitions : ts ≡ ss
  pub reached : y ≡ z
  pub stop : a ≡ b

-- a run that is over goes no further, and the other way round
no_more : (p : Program) (o : Order) (us : List (List Number)) (x : List Number) (a : Option Stop) (s : Transition) (ss : List Transition) (z : List Number) (rest : List (List Number)) → StopsAt p o x us a → Leads p x us (s ∷ ss) z rest → ⊥
no_more p o [] x a s ss z rest h i = i
no_more p o (u ∷ us) x a s ss z rest h i = h.none i.0.fitting

same : (p : Program) (o : Order) (ts ss : List Transition) (us : List (List Number)) (x y z : List Number) (q r : List (List Number)) (a b : Option Stop) → Known p → length x ≡ length (places is_state p) → AllByRecursion (λ u. length u ≡ length (places is_input p)) us → Leads p x us ts y q → StopsAt p o y q a → Leads p x us ss z r → StopsAt p o z r b → IsSame ts ss y z a b
same p o [] [] us x y z q r a b k l m h i g j =
    let e : StopsAt p o x us a = subst (λ (t : List Number). StopsAt p o t us a) (sym h.0) (subst (λ (vs : List (List Number)). StopsAt p o y vs a) (sym h.1) i) in
    let f : StopsAt p o x us b = subst (λ (t : List Number). StopsAt p o t us b) (sym g.0) (subst (λ (vs : List (List Number)). StopsAt p o z vs b) (sym g.1) j) in
    record { transitions = refl; reached = sym h.0 ∙ g.0; stop = same_end p o us x a b k l m e f }
same p o [] (s ∷ ss) us x y z q r a b k l m h i g j =
    let e : StopsAt p o x us a = subst (λ (t : List Number). StopsAt p o t us a) (sym h.0) (subst (λ (vs : List (List Number)). StopsAt p o y vs a) (sym h.1) i) in
    absurd (no_more p o us x a s ss z r e g)
same p o (t ∷ ts) [] us x y z q r a b k l m h i g j =
    let f : StopsAt p o x us b = subst (λ (t : List Number). StopsAt p o t us b) (sym g.0) (subst (λ (vs : List (List Number)). StopsAt p o z vs b) (sym g.1) j) in
    absurd (no_more p o us x b t ts y q f h)
same p o (t ∷ ts) (s ∷ ss) [] x y z q r a b k l m h i g j = absurd h
same p o (t ∷ ts) (s ∷ ss) (u ∷ us) x y z q r a b k l m h i g j =
    let e = same_transition p x u t s k h.0 g.0 in
    let d : Leads p t.stepped.next us ss z r = subst (λ (v : Transition). Leads p v.stepped.next us ss z r) (sym e) g.1 in
    let f = same p o ts ss us t.stepped.next y z q r a b k (next_count p x u t.stepped h.0.legal) m.1 h.1 i d j in
    record { transitions = ap₂ (λ (v : Transition) (vs : List Transition). v ∷ vs) e f.transitions; reached = f.reached; stop = f.stop }

pub one_run : (p : Program) (o : Order) → Known p → HasOneRun p o
one_run p o k x us l m ts ss a b r s =
    let e = same p o ts ss us x r.reached s.reached r.rest s.rest a b k l m r.leads r.stops s.leads s.stops in
    record { transitions = e.transitions; reached = e.reached; stop = e.stop }
