-- The program of two auxiliaries keeps what every program keeps, and has an order.
use Rattle.std.proofs.Common.{◌≡◌, true, ℕ, zero, suc, ◌<◌, List, [], ◌∷◌, codes, refl, sym, subst, ap, Result, Ok, Err, IfOk, arith, inl, inr}
use Rattle.std.proofs.lemmas.List.Elements.{All-from_recursion}
use Rattle.std.specs.declared.alloc.AllocError.{AllocError}
use Rattle.hys_number.specs.Gcd.{gcd}
use Rattle.hys_number.specs.Number.{Number, make}
use Rattle.hys_number.specs.Ops.{whole}
use Rattle.hys_prog.specs.declared.program.Name.{Name}
use Rattle.hys_prog.specs.declared.program.Program.{Program}
use Rattle.hys_prog.specs.Programs.{IsVariable, IsProgram, IsWord, IsNameText, KeepsRole, NameAt, definitions, is_defined}
use Rattle.hys_prog.specs.Orders.{HasTerm, Leads, IsReady, IsOrder}
use Rattle.hys_prog.specs.Example.{crossed, one_term}
use Rattle.hys_prog.proofs.Smallest.{one_is_not_zero, no_keyword, name_bytes, spelled, zero_ten}

spelled_z : IsWord (codes "z")
spelled_z = (((refl, λ i d h. name_bytes 122 i d refl h), no_keyword 122), omega arith)

spelled_w : IsWord (codes "w")
spelled_w = (((refl, λ i d h. name_bytes 119 i d refl h), no_keyword 119), omega arith)

two_is_not_zero : ¬ (whole 2 ≡ whole 0)
unfolding whole make gcd
two_is_not_zero e = let f = ap (λ (x : Number). x.num) e in absurd (cc)

column_over : (c : ℕ) → c < 3 → NameAt (crossed c).names c IsVariable
column_over zero h = refl
column_over (suc zero) h = refl
column_over (suc (suc zero)) h = refl
column_over (suc (suc (suc c))) h = absurd (omega arith)

crossed_once : (c n : ℕ) → NameAt (crossed c).names n (λ x. is_defined x.role ≡ true) → definitions n (crossed c).items ≡ 1
crossed_once c zero h = refl
crossed_once c (suc zero) h = refl
crossed_once c (suc (suc zero)) h = refl
crossed_once c (suc (suc (suc n))) h = absurd h

earlier_word : (a b : ℕ) → a < b → a ∷ [] ≡ b ∷ [] → ⊥
earlier_word a b l e = let q : a ≡ b = cc in absurd (omega arith)

later_word : (a b : ℕ) → b < a → a ∷ [] ≡ b ∷ [] → ⊥
later_word a b l e = earlier_word b a l (sym e)

pub crossed_program : (c : ℕ) → c < 3 → IsProgram (crossed c)
crossed_program c h = record {
  bodies = (((one_is_not_zero, tt, tt), (refl, tt)), (((two_is_not_zero, tt, tt), (column_over c h, tt)), (((one_is_not_zero, tt, tt), (refl, tt)), tt)));
  named = ((refl, refl), ((refl, refl), ((refl, refl), tt)));
  once = crossed_once c;
  texts = ((later_word 122 120 (omega arith), (earlier_word 119 120 (omega arith), tt)), ((earlier_word 119 122 (omega arith), tt), (tt, tt)));
  roles = All-from_recursion (λ (x : Name). KeepsRole x.role x) (crossed c).names (zero_ten, (tt, (tt, tt)));
  spelled = All-from_recursion (λ (x : Name). IsNameText x.text) (crossed c).names (inl spelled, (inl spelled_z, (inl spelled_w, tt)));
  weight = refl;
}

pub crossed_lawful : (c : ℕ) (r : Result Program AllocError) → c < 3 → IfOk r (λ p. p ≡ crossed c) → IfOk r (λ p. IsProgram p)
crossed_lawful c (Ok p) h e = subst IsProgram (sym e) (crossed_program c h)
crossed_lawful c (Err f) h e = tt

-- w is ready at once and z only after it
second_mentions : (n : ℕ) → Leads (crossed 0) 2 n → 0 ≡ n
second_mentions n (inl h) = let q = h.0 in absurd (cc)
second_mentions n (inr (inl h)) = only h.1
  where
    only : HasTerm n ((one_term 0 (whole 2) (whole 0)).terms) → 0 ≡ n
    only (inl e) = e
    only (inr i) = absurd i
second_mentions n (inr (inr (inl h))) = let q = h.0 in absurd (cc)
second_mentions n (inr (inr (inr h))) = absurd h

ready_second : IsReady (crossed 0) [] 2
ready_second = (tt, (λ l. let e = second_mentions 1 l in absurd (cc), (λ l. let e = second_mentions 2 l in absurd (cc), tt)))

first_mentions : Leads (crossed 0) 1 2
first_mentions = inl (refl, inl refl)

mentions_of_first : (n : ℕ) → Leads (crossed 0) 1 n → 2 ≡ n
mentions_of_first n (inl h) = only h.1
  where
    only : HasTerm n ((one_term 2 (whole 1) (whole 1)).terms) → 2 ≡ n
    only (inl e) = e
    only (inr i) = absurd i
mentions_of_first n (inr (inl h)) = let q = h.0 in absurd (cc)
mentions_of_first n (inr (inr (inl h))) = let q = h.0 in absurd (cc)
mentions_of_first n (inr (inr (inr h))) = absurd h

ready_first : IsReady (crossed 0) (2 ∷ []) 1
ready_first = ((λ e. absurd (cc), tt), (λ l. let e = mentions_of_first 1 l in absurd (cc), (λ l. inl refl, tt)))

pub crossed_ordered : (ns : List ℕ) → ns ≡ 2 ∷ 1 ∷ [] → IsOrder (crossed 0) (record { names = ns })
crossed_ordered ns e = rw e (
  inr (λ r. r.1.1.0 first_mentions, inl (ready_second, refl)),
  (inl (ready_first, refl), (inl refl, (inr (inl refl), tt))),
)
