-- Fields after commas, and the text of transitions.
use Rattle.std.proofs.Common.{◌≡◌, ◌∙◌, ℕ, suc, ◌+◌, List, [], ◌∷◌, ◌++◌, length, refl, sym, ap, arith, append_assoc, append-nil}
use Rattle.hys_sim.specs.Runs.{Transition}
use Rattle.hys_sim.specs.Written.{after_commas, transition_text, transitions_text}

pub commas_append : (xs ys : List (List ℕ)) → after_commas (xs ++ ys) ≡ after_commas xs ++ after_commas ys
commas_append [] ys = refl
commas_append (x ∷ xs) ys = ap (λ (t : List ℕ). 44 ∷ (x ++ t)) (commas_append xs ys) ∙ ap (λ (t : List ℕ). 44 ∷ t) (sym (append_assoc x (after_commas xs) (after_commas ys)))

-- one more field
pub one_field : (out more : List ℕ) (f : List ℕ) (fs : List (List ℕ)) → more ≡ (out ++ 44 ∷ []) ++ f → more ++ after_commas fs ≡ out ++ after_commas (f ∷ fs)
one_field out more f fs e = ap (λ (t : List ℕ). t ++ after_commas fs) e ∙ append_assoc (out ++ 44 ∷ []) f (after_commas fs) ∙ append_assoc out (44 ∷ []) (f ++ after_commas fs)

-- one more transition
pub transitions_more : (n : ℕ) (ts : List Transition) (t : Transition) → transitions_text n (ts ++ t ∷ []) ≡ transitions_text n ts ++ transition_text (n + length ts) t
transitions_more n [] t = let z : n + 0 ≡ n = omega arith in append-nil (transition_text n t) ∙ ap (λ (m : ℕ). transition_text m t) (sym z)
transitions_more n (s ∷ ts) t =
    let z : suc n + length ts ≡ n + suc (length ts) = omega arith in
    ap (λ (x : List ℕ). transition_text n s ++ x) (transitions_more (suc n) ts t ∙ ap (λ (m : ℕ). transitions_text (suc n) ts ++ transition_text m t) z)
    ∙ sym (append_assoc (transition_text n s) (transitions_text (suc n) ts) (transition_text (n + suc (length ts)) t))

-- a record that is written in five parts, and in six
pub five_parts : (o0 o1 o2 o3 o4 o5 first : List ℕ) (a b c d : List (List ℕ)) → o0 ≡ first → o1 ≡ o0 ++ after_commas a → o2 ≡ o1 ++ after_commas b → o3 ≡ o2 ++ after_commas c → o4 ≡ o3 ++ after_commas d → o5 ≡ o4 ++ 10 ∷ [] →
    o5 ≡ first ++ (after_commas (a ++ (b ++ (c ++ d))) ++ 10 ∷ [])
five_parts o0 o1 o2 o3 o4 o5 first a b c d e0 e1 e2 e3 e4 e5 = rw (e5, e4, e3, e2, e1, e0) (simp (commas_append, append_assoc))

pub six_parts : (out o0 o1 o2 o3 o4 o5 first : List ℕ) (a b c d : List (List ℕ)) → o0 ≡ out ++ first → o1 ≡ o0 ++ after_commas a → o2 ≡ o1 ++ after_commas b → o3 ≡ o2 ++ after_commas c → o4 ≡ o3 ++ after_commas d → o5 ≡ o4 ++ 10 ∷ [] →
    o5 ≡ out ++ (first ++ (after_commas (a ++ (b ++ (c ++ d))) ++ 10 ∷ []))
six_parts out o0 o1 o2 o3 o4 o5 first a b c d e0 e1 e2 e3 e4 e5 = rw (e5, e4, e3, e2, e1, e0) (simp (commas_append, append_assoc))
