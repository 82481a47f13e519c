-- Parts that are put behind a text one after the other.
use Rattle.std.proofs.Common.{◌≡◌, ℕ, List, ◌++◌, append_assoc, refl}

pub joined_two : (t0 t1 t2 a b c : List ℕ) →
    t1 ≡ t0 ++ a → t2 ≡ t1 ++ b → t2 ++ c ≡ t0 ++ (a ++ (b ++ c))
joined_two t0 t1 t2 a b c e1 e2 = rw e2 (rw e1 (simp append_assoc refl))

pub joined_three : (t0 t1 t2 t3 a b c d : List ℕ) →
    t1 ≡ t0 ++ a → t2 ≡ t1 ++ b → t3 ≡ t2 ++ c → t3 ++ d ≡ t0 ++ (a ++ (b ++ (c ++ d)))
joined_three t0 t1 t2 t3 a b c d e1 e2 e3 = rw e3 (rw e2 (rw e1 (simp append_assoc refl)))

pub joined_four : (t0 t1 t2 t3 t4 a b c d e : List ℕ) →
    t1 ≡ t0 ++ a → t2 ≡ t1 ++ b → t3 ≡ t2 ++ c → t4 ≡ t3 ++ d → t4 ++ e ≡ t0 ++ (a ++ (b ++ (c ++ (d ++ e))))
joined_four t0 t1 t2 t3 t4 a b c d e e1 e2 e3 e4 = rw e4 (rw e3 (rw e2 (rw e1 (simp append_assoc refl))))
