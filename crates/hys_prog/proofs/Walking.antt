-- Walks over names and items: what is judged here, and what is still to be judged.
use Rattle.std.proofs.Common.{◌≡◌, ℕ, zero, suc, ◌+◌, ◌<◌, List, [], ◌∷◌, ◌++◌, Option, None, drop, length, get_or, refl, sym, ◌∙◌, ap, subst, arith, add-one, set}
use Rattle.std.proofs.Math.Seq.{drop-cons}
use Rattle.std.proofs.lemmas.List.{append_assoc}
use Rattle.std.specs.List.{AllByRecursion}
use Rattle.hys_number.specs.Number.{Number}
use Rattle.hys_lin.specs.Sums.{Assignment, at}
use Rattle.hys_prog.specs.declared.program.ProgItem.{ProgItem}
use Rattle.hys_prog.specs.declared.stop.Stop.{Stop}
use Rattle.hys_prog.specs.declared.stop.StepFault.{StepFault}
use Rattle.hys_prog.specs.declared.stop.StepFault.TheVariants.{Stop as Stopped, Memory}
use Rattle.hys_prog.specs.Stops.{Check, first_stop, Faulted, body_checks, checks_of, checks_along, number_of, number_in, numbers_in}
use Rattle.hys_prog.specs.Walk.{IsFirstAt, IsPlaced, found, found_checks, with_found, advanced, started_from}
use Rattle.hys_prog.specs.Steps.{is_state, is_input}
use Rattle.hys_prog.specs.declared.program.Name.{Name}
use Rattle.hys_prog.proofs.Stopping.{stop_after, fault_before}

pub drop_here : {X : Type 0} (xs : List X) (i : ℕ) (x : X) → i < length xs → x ≡ get_or xs i x → drop i xs ≡ x ∷ drop (suc i) xs
drop_here xs i x h e = rw (drop-cons xs i x h, ← e) refl

-- none of the checks here fails
pub passed : (o : Option Stop) (whole here rest : List Check) → o ≡ first_stop whole → whole ≡ here ++ rest → first_stop here ≡ None → o ≡ first_stop rest
passed o whole here rest e q n = e ∙ ap first_stop q ∙ stop_after here rest n

-- one of the checks here fails
pub stopped : (all whole here rest : List Check) (f : StepFault) → first_stop all ≡ first_stop whole → whole ≡ here ++ rest → Faulted here f → Faulted all f
stopped all whole here rest (Stopped s) e q h = e ∙ ap first_stop q ∙ fault_before here rest (Stopped s) h
stopped all whole here rest Memory e q h = tt

-- ---- the first item that defines a name
pub first_below : (ts : List ProgItem) (k n : ℕ) → IsFirstAt ts k n → k < length ts
first_below [] k n h = absurd h
first_below (t ∷ ts) zero n h = omega arith
first_below (t ∷ ts) (suc k) n h = let b = first_below ts k n h.1 in omega arith

pub placed_below : (ts : List ProgItem) (ps : List ℕ) (n : ℕ) → IsPlaced ts ps n → get_or ps n 0 < length ts
placed_below ts ps n h = first_below ts (get_or ps n 0) n h.first

shifted : (j k : ℕ) → suc j + k ≡ j + suc k
shifted j k = omega arith

pub first_checks : (w : Assignment) (n j : ℕ) (ts : List ProgItem) (k : ℕ) (t : ProgItem) → IsFirstAt ts k n → t ≡ get_or ts k t → checks_of w n j ts ≡ body_checks w (j + k) t.body
first_checks w n j [] k t h e = absurd h
first_checks w n j (x ∷ ts) zero t h e = let z : j + 0 ≡ j = omega arith in rw (h, z) (ap (λ (y : ProgItem). body_checks w j y.body) (sym e))
first_checks w n j (x ∷ ts) (suc k) t h e = rw (h.0, ← shifted j k) (first_checks w n (suc j) ts k t h.1 e)

pub first_number : (w : Assignment) (n : ℕ) (ts : List ProgItem) (k : ℕ) (t : ProgItem) → IsFirstAt ts k n → t ≡ get_or ts k t → number_in w n ts ≡ number_of w t.body
first_number w n [] k t h e = absurd h
first_number w n (x ∷ ts) zero t h e = rw h (ap (λ (y : ProgItem). number_of w y.body) (sym e))
first_number w n (x ∷ ts) (suc k) t h e = rw h.0 (first_number w n ts k t h.1 e)

-- ---- names that are placed
pub all_next : (P : ℕ → Type 0) (ns : List ℕ) (n : ℕ) (rest : List ℕ) → AllByRecursion P ns → ns ≡ n ∷ rest → P n × AllByRecursion P rest
all_next P ns n rest h e = subst (AllByRecursion P) e h

pub checks_here : (w : Assignment) (n : ℕ) (ts : List ProgItem) (k : ℕ) (t : ProgItem) → IsFirstAt ts k n → t ≡ get_or ts k t → checks_of w n 0 ts ≡ body_checks w k t.body
checks_here w n ts k t h e = let z : 0 + k ≡ k = omega arith in first_checks w n 0 ts k t h e ∙ ap (λ (i : ℕ). body_checks w i t.body) z

pub here_first : (ns : List ℕ) (i : ℕ) → i < length ns → drop i ns ≡ get_or ns i 0 ∷ drop (i + 1) ns
here_first ns i h = rw (add-one, drop-cons ns i 0 h) refl

-- ---- one more value is found
pub found_next : (items : List ProgItem) (ns rest : List ℕ) (n : ℕ) (vs all : List Number) (number : Number) → all ≡ found items ns vs → ns ≡ n ∷ rest → number ≡ number_in (at vs) n items → all ≡ found items rest (set vs n number)
found_next items ns rest n vs all number h e v = h ∙ ap (λ (ms : List ℕ). found items ms vs) e ∙ ap (λ (z : Number). found items rest (set vs n z)) (sym v)

pub found_stop : (items : List ProgItem) (ns rest : List ℕ) (n : ℕ) (vs : List Number) (o : Option Stop) (number : Number) → o ≡ first_stop (found_checks items ns vs) → ns ≡ n ∷ rest → number ≡ number_in (at vs) n items → first_stop (checks_of (at vs) n 0 items) ≡ None → o ≡ first_stop (found_checks items rest (set vs n number))
found_stop items ns rest n vs o number h e v f =
    passed o (found_checks items ns vs) (checks_of (at vs) n 0 items) (found_checks items rest (with_found items n vs)) h (ap (λ (ms : List ℕ). found_checks items ms vs) e) f
    ∙ ap (λ (z : Number). first_stop (found_checks items rest (set vs n z))) (sym v)

pub found_fault : (items : List ProgItem) (order ns rest : List ℕ) (n : ℕ) (start vs : List Number) (f : StepFault) → first_stop (found_checks items order start) ≡ first_stop (found_checks items ns vs) → ns ≡ n ∷ rest → Faulted (checks_of (at vs) n 0 items) f → Faulted (found_checks items order start) f
found_fault items order ns rest n start vs f h e = stopped (found_checks items order start) (found_checks items ns vs) (checks_of (at vs) n 0 items) (found_checks items rest (with_found items n vs)) f h (ap (λ (ms : List ℕ). found_checks items ms vs) e)

-- ---- one more number is given
pub given_next : (w : Assignment) (items : List ProgItem) (ns rest : List ℕ) (n : ℕ) (numbers longer all : List Number) (number : Number) → numbers ++ numbers_in w items ns ≡ all → ns ≡ n ∷ rest → longer ≡ numbers ++ number ∷ [] → number ≡ number_in w n items → longer ++ numbers_in w items rest ≡ all
given_next w items ns rest n numbers longer all number h e l v =
    ap (λ (xs : List Number). xs ++ numbers_in w items rest) l ∙ append_assoc numbers (number ∷ []) (numbers_in w items rest)
    ∙ ap (λ (z : Number). numbers ++ (z ∷ numbers_in w items rest)) v ∙ ap (λ (ms : List ℕ). numbers ++ numbers_in w items ms) (sym e) ∙ h

pub given_stop : (w : Assignment) (items : List ProgItem) (ns rest : List ℕ) (n : ℕ) (o : Option Stop) → o ≡ first_stop (checks_along w items ns) → ns ≡ n ∷ rest → first_stop (checks_of w n 0 items) ≡ None → o ≡ first_stop (checks_along w items rest)
given_stop w items ns rest n o h e = passed o (checks_along w items ns) (checks_of w n 0 items) (checks_along w items rest) h (ap (λ (ms : List ℕ). checks_along w items ms) e)

pub given_fault : (w : Assignment) (items : List ProgItem) (all ns rest : List ℕ) (n : ℕ) (f : StepFault) → first_stop (checks_along w items all) ≡ first_stop (checks_along w items ns) → ns ≡ n ∷ rest → Faulted (checks_of w n 0 items) f → Faulted (checks_along w items all) f
given_fault w items all ns rest n f h e = stopped (checks_along w items all) (checks_along w items ns) (checks_of w n 0 items) (checks_along w items rest) f h (ap (λ (ms : List ℕ). checks_along w items ms) e)

pub started_count : (ks : List Name) (i j : ℕ) (x u : List Number) → length (started_from ks i j x u) ≡ length ks
started_count [] i j x u = refl
started_count (k ∷ ks) i j x u = ap suc (started_count ks (advanced i (is_state k.role)) (advanced j (is_input k.role)) x u)
