-- The longest front of a text that passes a test.
use Rattle.std.proofs.Common.{◌≡◌, ◌<◌, ◌≤◌, ℕ, List, length, get_or, take, Bool, true, false, sym, ◌∙◌, ap, subst, arith, inl, inr}
use Rattle.std.proofs.lemmas.List.{get_or-take, length-take-le}
use Rattle.std.proofs.lemmas.Bool.{cases_lt}
use Rattle.std.proofs.lemmas.List.Sums.{prefix_len_passes, prefix_len_stops, prefix_len-le-length}
use Rattle.std.specs.List.{AllPass, prefix_len}

pub front_passes : (p : ℕ → Bool) (text : List ℕ) → AllPass p (take (prefix_len p text) text)
front_passes p text = λ k d h.
    let within : k < prefix_len p text = omega (arith, length-take-le (prefix_len p text) text (prefix_len-le-length p text)) in
    rw get_or-take (prefix_len_passes p text k d within)

pub run_most : (p : ℕ → Bool) (text : List ℕ) (m : ℕ) → m ≤ length text → ((k : ℕ) → k < m → p (get_or text k 0) ≡ true) → m ≤ prefix_len p text
run_most p text m within all = elim (cases_lt (prefix_len p text) m) [
  | inl less ↦ let no : p (get_or text (prefix_len p text) 0) ≡ false = prefix_len_stops p text 0 (omega arith) in
      let yes : p (get_or text (prefix_len p text) 0) ≡ true = all (prefix_len p text) less in absurd (cc)
  | inr more ↦ omega arith
]

pub front_most : (p : ℕ → Bool) (text : List ℕ) (m : ℕ) → m ≤ length text → AllPass p (take m text) → m ≤ prefix_len p text
front_most p text m within all =
    run_most p text m within
    (λ k h.
    let is : get_or (take m text) k 0 ≡ get_or text k 0 = get_or-take m text k 0 h in
    let P : ℕ → Type 0 = λ b. p b ≡ true in
    subst P is (all k 0 (omega (arith, length-take-le m text within))))

-- the text reads as what its first bytes are
pub reads : (text front : List ℕ) (m : ℕ) → take m text ≡ front → (i : ℕ) → i < m → get_or text i 0 ≡ get_or front i 0
reads text front m e i h = sym (get_or-take m text i 0 h) ∙ ap (λ xs. get_or xs i 0) e
