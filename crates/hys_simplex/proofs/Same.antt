-- Equal and different places.
use Rattle.std.proofs.Common.{◌≡◌, ℕ, true, false, arith, ◌==◌}

pub same_yes : (c : ℕ) → c == c ≡ true
same_yes c = grind arith

pub same_no : (c j : ℕ) → ¬ (j ≡ c) → c == j ≡ false
same_no c j d = grind arith
