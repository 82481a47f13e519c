-- One more transition of a run, and what stops it.
use Rattle.std.proofs.Common.{◌≡◌, ◌∙◌, ℕ, suc, ◌+◌, List, [], ◌∷◌, ◌++◌, length, map, Option, Some, None, Result, Ok, Err, IfOk, refl, sym, ap, subst, append_assoc, append-nil, arith}
use Rattle.std.specs.declared.alloc.AllocError.{AllocError}
use Rattle.hys_number.specs.Number.{Number}
use Rattle.hys_lin.specs.Sums.{Assignment}
use Rattle.hys_prog.specs.declared.program.Program.{Program}
use Rattle.hys_prog.specs.declared.program.Order.{Order}
use Rattle.hys_prog.specs.declared.stop.Stop.{Stop}
use Rattle.hys_prog.specs.declared.stop.Stepped.{Stepped}
use Rattle.hys_prog.specs.declared.stop.StepFault.{StepFault}
use Rattle.hys_prog.specs.declared.stop.StepFault.TheVariants.{Stop as Stopped}
use Rattle.hys_prog.specs.Steps.{places, is_state}
use Rattle.hys_prog.specs.Stops.{Faulted, GivenWhere, IsStepped, IsValued, first_stop, stops}
use Rattle.hys_prog.specs.Fitting.{FittingStep}
use Rattle.hys_sim.specs.Runs.{Transition, IsTransition, Leads, IsStopped, StopsAt}
use Rattle.hys_sim.specs.Written.{header_text, last_text, transition_text, transitions_text}
use Rattle.hys_sim.specs.Tables.{values_at}
use Rattle.hys_sim.specs.Simulations.{IsRunOf}
use Rattle.hys_sim.specs.declared.fault.Simulated.{Simulated}
use Rattle.hys_sim.proofs.Placing.{length_map}
use Rattle.hys_sim.proofs.Texting.{transitions_more}

pub leads_more : (p : Program) (ts : List Transition) (us : List (List Number)) (x y u : List Number) (rest : List (List Number)) (t : Transition) → Leads p x us ts y (u ∷ rest) → IsTransition p y u t → Leads p x us (ts ++ t ∷ []) t.stepped.next rest
leads_more p [] us x y u rest t h k =
    subst (λ (vs : List (List Number)). Leads p x vs (t ∷ []) t.stepped.next rest) (sym h.1)
    (subst (λ (a : List Number). Leads p a (u ∷ rest) (t ∷ []) t.stepped.next rest) (sym h.0) (k, (refl, refl)))
leads_more p (s ∷ ts) [] x y u rest t h k = absurd h
leads_more p (s ∷ ts) (v ∷ us) x y u rest t h k = (h.0, leads_more p ts us s.stepped.next y u rest t h.1 k)

-- a transition of a step that is made
pub made : (p : Program) (x u : List Number) (s : Stepped) → IsStepped p x u s → FittingStep p x u → IsTransition p x u (record { state = x; input = u; stepped = s })
made p x u s h k = record { state = refl; input = refl; legal = h; fitting = k }

-- the next values are as many as there are states
pub next_count : (p : Program) (x u : List Number) (s : Stepped) → IsStepped p x u s → length s.next ≡ length (places is_state p)
next_count p x u s h = ap length (sym h.legal.step.end) ∙ length_map h.legal.step.after (places is_state p)

-- a step that stops
pub is_stopped : (p : Program) (o : Order) (x u : List Number) (s : Stop) → ((w : Assignment) → IsValued p x u w → first_stop (stops p o w) ≡ Some s) → ¬ (FittingStep p x u) → IsStopped p o x u (Some s)
is_stopped p o x u s h k = record { none = k; some = (s, refl); first = h }

-- ---- the loop of a run
-- what was written and where the run is, with the rest of the inputs left
pub record IsSoFar (p : Program) (x : List Number) (us rest : List (List Number)) (table : List ℕ) (steps : ℕ) (state : List Number) : Type 0 where
  pub transitions : List Transition
  pub leads : Leads p x us transitions state rest
  pub written : table ≡ header_text p ++ transitions_text 0 transitions
  pub count : steps ≡ length transitions
  pub values : length state ≡ length (places is_state p)

pub so_far_none : (p : Program) (x : List Number) (us : List (List Number)) (table : List ℕ) → length x ≡ length (places is_state p) → table ≡ header_text p → IsSoFar p x us us table 0 x
so_far_none p x us table l e = record { transitions = []; leads = (refl, refl); written = e ∙ sym (append-nil (header_text p)); count = refl; values = l }

pub so_far_more : (p : Program) (x : List Number) (us rest : List (List Number)) (u : List Number) (table longer : List ℕ) (n m : ℕ) (y : List Number) (s : Stepped) → IsSoFar p x us (u ∷ rest) table n y → IsStepped p y u s → FittingStep p y u →
    longer ≡ table ++ transition_text n (record { state = y; input = u; stepped = s }) → m ≡ suc n → IsSoFar p x us rest longer m s.next
so_far_more p x us rest u table longer n m y s h i f e g =
    let t : Transition = record { state = y; input = u; stepped = s } in
    record {
      transitions = h.transitions ++ t ∷ [];
      leads = leads_more p h.transitions us x y u rest t h.leads (made p y u s i f);
      written = e ∙ ap (λ (a : List ℕ). a ++ transition_text n t) h.written ∙ append_assoc (header_text p) (transitions_text 0 h.transitions) (transition_text n t)
          ∙ ap (λ (a : List ℕ). header_text p ++ a) (ap (λ (k : ℕ). transitions_text 0 h.transitions ++ transition_text k t) (h.count ∙ zero_more (length h.transitions)) ∙ sym (transitions_more 0 h.transitions t));
      count = g ∙ ap suc h.count ∙ sym (one_more h.transitions t);
      values = next_count p y u s i;
    }
  where
    zero_more : (k : ℕ) → k ≡ 0 + k
    zero_more k = omega arith

    one_more : (ts : List Transition) (t : Transition) → length (ts ++ t ∷ []) ≡ suc (length ts)
    one_more [] t = refl
    one_more (r ∷ ts) t = ap suc (one_more ts t)

pub ended : (p : Program) (o : Order) (x : List Number) (us rest : List (List Number)) (table : List ℕ) (n : ℕ) (y : List Number) (stop : Option Stop) (r : Simulated) → IsSoFar p x us rest table n y → StopsAt p o y rest stop →
    r.table ≡ table ++ last_text p n y → r.steps ≡ n → r.stop ≡ stop → IsRunOf p o x us r
ended p o x us rest table n y stop r h k e f g = record {
  transitions = h.transitions;
  run = record { reached = y; rest = rest; leads = h.leads; stops = subst (λ (a : Option Stop). StopsAt p o y rest a) (sym g) k };
  table = e ∙ ap (λ (a : List ℕ). a ++ last_text p n y) h.written ∙ append_assoc (header_text p) (transitions_text 0 h.transitions) (last_text p n y) ∙ ap (λ (m : ℕ). header_text p ++ (transitions_text 0 h.transitions ++ last_text p m y)) h.count;
  steps = f ∙ h.count;
}

-- the next record's inputs are the next of those that are left
pub turn : (p : Program) (x : List Number) (us : List (List Number)) (ns : List ℕ) (before after : List (List (List ℕ))) (fs : List (List ℕ)) (table : List ℕ) (n : ℕ) (y : List Number) → IsSoFar p x us (map (values_at ns) before) table n y → before ≡ fs ∷ after →
    IsSoFar p x us (values_at ns fs ∷ map (values_at ns) after) table n y
turn p x us ns before after fs table n y h e = subst (λ (rs : List (List (List ℕ))). IsSoFar p x us (map (values_at ns) rs) table n y) e h

-- a run that stops at the next record
pub stopped_there : (p : Program) (o : Order) (x : List Number) (us : List (List Number)) (ns : List ℕ) (before after : List (List (List ℕ))) (fs : List (List ℕ)) (table : List ℕ) (n : ℕ) (y : List Number) (s : Stop) (r : Simulated) → IsSoFar p x us (map (values_at ns) before) table n y → before ≡ fs ∷ after →
    ((w : Assignment) → IsValued p y (values_at ns fs) w → first_stop (stops p o w) ≡ Some s) → ¬ (FittingStep p y (values_at ns fs)) →
    r.table ≡ table ++ last_text p n y → r.steps ≡ n → r.stop ≡ Some s → IsRunOf p o x us r
stopped_there p o x us ns before after fs table n y s r h e i k a b c =
    ended p o x us (values_at ns fs ∷ map (values_at ns) after) table n y (Some s) r (turn p x us ns before after fs table n y h e) (is_stopped p o y (values_at ns fs) s i k) a b c

-- a run that comes to the end of the records
pub ended_there : (p : Program) (o : Order) (x : List Number) (us : List (List Number)) (ns : List ℕ) (before : List (List (List ℕ))) (table : List ℕ) (n : ℕ) (y : List Number) (r : Simulated) → IsSoFar p x us (map (values_at ns) before) table n y → before ≡ [] →
    r.table ≡ table ++ last_text p n y → r.steps ≡ n → r.stop ≡ None → IsRunOf p o x us r
ended_there p o x us ns before table n y r h e a b c =
    ended p o x us [] table n y None r (subst (λ (rs : List (List (List ℕ))). IsSoFar p x us (map (values_at ns) rs) table n y) e h) refl a b c

-- a step that is made
pub turned : (p : Program) (x : List Number) (us : List (List Number)) (ns : List ℕ) (before after : List (List (List ℕ))) (fs : List (List ℕ)) (table longer : List ℕ) (n m : ℕ) (y : List Number) (s : Stepped) → IsSoFar p x us (map (values_at ns) before) table n y → before ≡ fs ∷ after →
    IsStepped p y (values_at ns fs) s → FittingStep p y (values_at ns fs) → longer ≡ table ++ transition_text n (record { state = y; input = values_at ns fs; stepped = s }) → m ≡ suc n →
    IsSoFar p x us (map (values_at ns) after) longer m s.next
turned p x us ns before after fs table longer n m y s h e i f a b =
    so_far_more p x us (map (values_at ns) after) (values_at ns fs) table longer n m y s (turn p x us ns before after fs table n y h e) i f a b

-- ---- the answer of a run, where memory may be wanting
-- a and b are what the step is made from
pub stopped_answer : (p : Program) (o : Order) (x : List Number) (us : List (List Number)) (ns : List ℕ) (before after : List (List (List ℕ))) (fs : List (List ℕ)) (table : List ℕ) (n : ℕ) (y a b last : List Number) (j : StepFault) (s : Stop) (r : Result Simulated AllocError) →
    IsSoFar p x us (map (values_at ns) before) table n y → before ≡ fs ∷ after → a ≡ y → b ≡ values_at ns fs →
    j ≡ Stopped s → ((w : Assignment) → IsValued p a b w → Faulted (stops p o w) j) → GivenWhere {X = Stepped} (FittingStep p a b) (Err j) → last ≡ y →
    IfOk r (λ (q : Simulated). q.table ≡ table ++ last_text p n last) → IfOk r (λ (q : Simulated). q.steps ≡ n) → IfOk r (λ (q : Simulated). q.stop ≡ Some s) → IfOk r (λ (q : Simulated). IsRunOf p o x us q)
stopped_answer p o x us ns before after fs table n y a b last j s (Ok r) h e f g q i k l t m v =
    let i2 : (w : Assignment) → IsValued p a b w → first_stop (stops p o w) ≡ Some s = subst (λ (z : StepFault). (w : Assignment) → IsValued p a b w → Faulted (stops p o w) z) q i in
    let k2 : ¬ (FittingStep p a b) = subst (λ (z : StepFault). GivenWhere {X = Stepped} (FittingStep p a b) (Err z)) q k in
    stopped_there p o x us ns before after fs table n y s r h e
    (subst (λ (c : List Number). (w : Assignment) → IsValued p c (values_at ns fs) w → first_stop (stops p o w) ≡ Some s) f (subst (λ (d : List Number). (w : Assignment) → IsValued p a d w → first_stop (stops p o w) ≡ Some s) g i2))
    (subst (λ (c : List Number). ¬ (FittingStep p c (values_at ns fs))) f (subst (λ (d : List Number). ¬ (FittingStep p a d)) g k2))
    (t ∙ ap (λ (c : List Number). table ++ last_text p n c) l) m v
stopped_answer p o x us ns before after fs table n y a b last j s (Err d) h e f g q i k l t m v = tt

pub ended_answer : (p : Program) (o : Order) (x : List Number) (us : List (List Number)) (ns : List ℕ) (before : List (List (List ℕ))) (table : List ℕ) (n : ℕ) (y last : List Number) (r : Result Simulated AllocError) →
    IsSoFar p x us (map (values_at ns) before) table n y → before ≡ [] → last ≡ y →
    IfOk r (λ (q : Simulated). q.table ≡ table ++ last_text p n last) → IfOk r (λ (q : Simulated). q.steps ≡ n) → IfOk r (λ (q : Simulated). q.stop ≡ None) → IfOk r (λ (q : Simulated). IsRunOf p o x us q)
ended_answer p o x us ns before table n y last (Ok r) h e l t m v = ended_there p o x us ns before table n y r h e (t ∙ ap (λ (c : List Number). table ++ last_text p n c) l) m v
ended_answer p o x us ns before table n y last (Err q) h e l t m v = tt

-- c and d are what is written
pub turned_answer : (p : Program) (x : List Number) (us : List (List Number)) (ns : List ℕ) (before after : List (List (List ℕ))) (fs : List (List ℕ)) (table longer : List ℕ) (n m : ℕ) (y a b c d next : List Number) (s : Stepped) →
    IsSoFar p x us (map (values_at ns) before) table n y → before ≡ fs ∷ after → a ≡ y → b ≡ values_at ns fs → c ≡ y → d ≡ values_at ns fs → IsStepped p a b s → FittingStep p a b →
    longer ≡ table ++ transition_text n (record { state = c; input = d; stepped = s }) → m ≡ suc n → next ≡ s.next → IsSoFar p x us (map (values_at ns) after) longer m next
turned_answer p x us ns before after fs table longer n m y a b c d next s h e f g k l i j t q v =
    subst (λ (z : List Number). IsSoFar p x us (map (values_at ns) after) longer m z) (sym v)
    (turned p x us ns before after fs table longer n m y s h e
    (subst (λ (z : List Number). IsStepped p z (values_at ns fs) s) f (subst (λ (z : List Number). IsStepped p a z s) g i))
    (subst (λ (z : List Number). FittingStep p z (values_at ns fs)) f (subst (λ (z : List Number). FittingStep p a z) g j))
    (t ∙ ap (λ (z : List Number). table ++ transition_text n (record { state = z; input = d; stepped = s })) k ∙ ap (λ (z : List Number). table ++ transition_text n (record { state = y; input = z; stepped = s })) l) q)
