-- The program of the tank is lawful, and its order is one of definition.
use Rattle.std.proofs.Common.{◌≡◌, ℕ, zero, suc, ◌<◌, List, [], ◌∷◌, length, codes, false, true, nat_eq, nat_lt, get_or, refl, ap, arith, slice_index_or, inl, inr, ◌⊎◌, not, Bool, ◌&&◌, All}
use Rattle.std.specs.List.{list_all}
use Rattle.std.proofs.lemmas.List.Sums.{AllPass-from_list_all}
use Rattle.std.proofs.lemmas.List.Elements.{All-cons, All-nil}
use Rattle.hys_lex.specs.Bytes.{is_name_byte}
use Rattle.hys_lex.specs.Words.{keywords, IsAt}
use Rattle.hys_number.specs.Gcd.{gcd}
use Rattle.hys_number.specs.Number.{Number, make}
use Rattle.hys_number.specs.Ops.{whole, neg, ◌≤ₙ◌, ◌<ₙ◌}
use Rattle.hys_prog.specs.Orders.{IsOrder, IsIn, Leads}
use Rattle.hys_prog.specs.Programs.{IsProgram, IsWord, IsNameText, KeepsRole, NameAt, definitions, is_defined}
use Rattle.hys_prog.specs.declared.program.Name.{Name}
use Rattle.hys_sim.specs.Tank.{x_name, step_name, u_name, d_name, y_name, items, names, tank, tank_order}

-- ---- numbers
one_is_not_zero : ¬ (whole 1 ≡ whole 0)
unfolding whole make gcd
one_is_not_zero e = let f = ap (λ (x : Number). x.num) e in absurd (cc)

two_is_not_zero : ¬ (whole 2 ≡ whole 0)
unfolding whole make gcd
two_is_not_zero e = let f = ap (λ (x : Number). x.num) e in absurd (cc)

minus_is_not_zero : ¬ (neg (whole 1) ≡ whole 0)
unfolding whole neg make gcd
minus_is_not_zero e = let f = ap (λ (x : Number). x.num) e in absurd (cc)

one_above : whole 0 <ₙ whole 1
unfolding whole make gcd ◌<ₙ◌
one_above = omega arith

zero_ten : whole 0 ≤ₙ whole 10
unfolding whole make gcd ◌≤ₙ◌
zero_ten = omega arith

minus_one : neg (whole 1) ≤ₙ whole 1
unfolding whole neg make gcd ◌≤ₙ◌
minus_one = omega arith

-- ---- texts
apart : (a b : List ℕ) → nat_eq (get_or a 0 0) (get_or b 0 0) ≡ false → nat_eq (get_or b 0 0) (get_or b 0 0) ≡ true → ¬ (a ≡ b)
apart a b f t e = let g : nat_eq (get_or a 0 0) (get_or b 0 0) ≡ nat_eq (get_or b 0 0) (get_or b 0 0) = ap (λ (z : List ℕ). nat_eq (get_or z 0 0) (get_or b 0 0)) e in absurd (cc)

-- no keyword has one byte or begins with `s`
abbrev other_word : List ℕ → Bool
other_word w = nat_lt 1 (length w) && not (nat_eq (get_or w 0 0) 115)

all_other : list_all other_word keywords ≡ true
unfolding keywords
all_other = refl

no_keyword : (w : List ℕ) (k : ℕ) → other_word w ≡ false → IsAt keywords k w → ⊥
no_keyword w k f h =
    let p : other_word (slice_index_or keywords k []) ≡ true = AllPass-from_list_all other_word keywords all_other k [] h.0 in
    let q = rw h.1 at p in absurd (cc)

one_byte : (b i d : ℕ) → is_name_byte b ≡ true → i < 1 → is_name_byte (slice_index_or (b ∷ []) i d) ≡ true
one_byte b zero d e h = e
one_byte b (suc i) d e h = absurd (omega arith)

step_bytes : (i d : ℕ) → i < 4 → is_name_byte (slice_index_or (codes "step") i d) ≡ true
step_bytes zero d h = refl
step_bytes (suc zero) d h = refl
step_bytes (suc (suc zero)) d h = refl
step_bytes (suc (suc (suc zero))) d h = refl
step_bytes (suc (suc (suc (suc i)))) d h = absurd (omega arith)

x_word : IsWord (codes "x")
x_word = (((refl, λ i d h. one_byte 120 i d refl h), λ k h. no_keyword (codes "x") k refl h), omega arith)

step_word : IsWord (codes "step")
step_word = (((refl, step_bytes), λ k h. no_keyword (codes "step") k refl h), omega arith)

u_word : IsWord (codes "u")
u_word = (((refl, λ i d h. one_byte 117 i d refl h), λ k h. no_keyword (codes "u") k refl h), omega arith)

d_word : IsWord (codes "d")
d_word = (((refl, λ i d h. one_byte 100 i d refl h), λ k h. no_keyword (codes "d") k refl h), omega arith)

y_word : IsWord (codes "y")
y_word = (((refl, λ i d h. one_byte 121 i d refl h), λ k h. no_keyword (codes "y") k refl h), omega arith)

-- ---- the program
once : (n : ℕ) → NameAt names n (λ x. is_defined x.role ≡ true) → definitions n items ≡ 1
once zero h = refl
once (suc zero) h = refl
once (suc (suc zero)) h = absurd (cc)
once (suc (suc (suc zero))) h = refl
once (suc (suc (suc (suc zero)))) h = refl
once (suc (suc (suc (suc (suc n))))) h = absurd h

each_name : (P : Name → Type 0) → P x_name → P step_name → P u_name → P d_name → P y_name → All P names
each_name P x step u d y =
    All-cons P x_name (step_name ∷ u_name ∷ d_name ∷ y_name ∷ []) x
    (All-cons P step_name (u_name ∷ d_name ∷ y_name ∷ []) step
    (All-cons P u_name (d_name ∷ y_name ∷ []) u
    (All-cons P d_name (y_name ∷ []) d
    (All-cons P y_name [] y (All-nil P)))))

filling : ((¬ (whole 1 ≡ whole 0)) × ((0 < 2) × Unit {0}) × ((¬ (whole 1 ≡ whole 0)) × Unit {0} × Unit {0})) × ((true ≡ true) × ((true ≡ true) × Unit {0}))
filling = ((one_is_not_zero, (omega arith, tt), (one_is_not_zero, tt, tt)), (refl, (refl, tt)))

pub is_program : IsProgram tank
is_program = record {
  bodies = (
    (((minus_is_not_zero, tt, tt), (refl, tt)), one_above),
    (filling, ((refl, refl), (((two_is_not_zero, tt, tt), (refl, tt)), (filling, tt)))),
  );
  named = ((refl, refl), ((refl, refl), ((refl, refl), ((refl, refl), (refl, tt)))));
  once = once;
  texts = (
    (apart _ _ refl refl, (apart _ _ refl refl, (apart _ _ refl refl, (apart _ _ refl refl, tt)))),
    ((apart _ _ refl refl, (apart _ _ refl refl, (apart _ _ refl refl, tt))), ((apart _ _ refl refl, (apart _ _ refl refl, tt)), ((apart _ _ refl refl, tt), (tt, tt)))),
  );
  roles = each_name (λ x. KeepsRole x.role x) zero_ten (refl, refl) minus_one tt tt;
  spelled = each_name (λ x. IsNameText x.text) (inl x_word) (inl step_word) (inl u_word) (inl d_word) (inl y_word);
  weight = refl;
}

no_circle : Leads tank 3 3 → IsIn 3 []
no_circle (inl h) = go h.1
  where
    go : (◌≡◌ {A = ℕ} 0 3) ⊎ ⊥ → ⊥
    go (inl e) = absurd (cc)
    go (inr e) = e
no_circle (inr (inl h)) = absurd (cc)
no_circle (inr (inr (inl h))) = absurd (cc)
no_circle (inr (inr (inr (inl h)))) = absurd (cc)
no_circle (inr (inr (inr (inr (inl h))))) = absurd (cc)
no_circle (inr (inr (inr (inr (inr h))))) = h

pub is_order : IsOrder tank tank_order
is_order = (inl ((tt, (no_circle, tt)), refl), (inl refl, tt))
