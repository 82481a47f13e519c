-- Turns at lists that begin alike.
use Rattle.std.proofs.Common.{ℕ, zero, suc, ◌<◌, ◌≤◌, Bool, true, false, ◌&&◌, cond, List, length, Option, Ok, Err, if◌then◌else◌, inl, inr, arith}
use Rattle.std.proofs.lemmas.Bool.{cases_lt}
use Rattle.hys_ast.specs.declared.lexeme.Lexeme.{Lexeme}
use Rattle.hys_parse.specs.Reading.{Read, ◌>>=◌, choose}
use Rattle.hys_parse.specs.Sections.{Turn, turns, all_turns}
use Rattle.hys_parse.proofs.Near.{Near, gone, spread, still, Below, at_most, Both, Turned, over, carry, Ahead}

over_turn : {A : Type 0} (s : Bool) (n m bound : ℕ) (x y z : Turn A) → bound < n → Turned s n m bound x y → Turned s n m bound x z
over_turn s n m bound _ y z g (Turned.stops le h) = Turned.stops le (λ e. absurd (omega arith))
over_turn s n m bound _ y z g (Turned.past b less) = Turned.past b less
over_turn s n m bound _ _ z g (Turned.reads {more = more} {r = r} b near) = let le : length r ≤ bound = at_most (s && more) (length r) bound b in Turned.past b (omega arith)

carry_turn : {A : Type 0} (s t : Bool) (n m small bound : ℕ) (x y : Turn A) → small ≤ bound → ((more : Bool) (q : ℕ) → Below (s && more) q small → Below (t && more) q bound) → Turned s n m small x y → Turned t n m bound x y
carry_turn s t n m small bound _ y le f (Turned.stops k h) = Turned.stops (omega arith) h
carry_turn s t n m small bound _ y le f (Turned.past {more = more} {r = r} b less) = Turned.past (f more (length r) b) less
carry_turn s t n m small bound _ _ le f (Turned.reads {more = more} {r = r} b near) = Turned.reads (f more (length r) b) near

below_less : (t more : Bool) (small bound q : ℕ) → small < bound → q ≤ small → Below (t && more) q bound
below_less true true small bound q less le = omega arith
below_less true false small bound q less le = omega arith
below_less false more small bound q less le = omega arith

pub raise_turn : {A : Type 0} (t : Bool) (n m small bound : ℕ) (x y : Turn A) → small < bound → Turned false n m small x y → Turned t n m bound x y
raise_turn t n m small bound x y less b = carry_turn false t n m small bound x y (omega arith) (λ more q le. below_less t more small bound q less le) b

join_turn : {A B : Type 0} (s v : Bool) (n m bound : ℕ) (x y : Read A) (f g : A × List Lexeme → Turn B) → ((more : Bool) (r q : ℕ) → Below s r bound → q ≤ r → Below (v && more) q bound) → Both s n m bound x y →
    ((a : A) (r u : List Lexeme) → Below s (length r) bound → Near n m r u → Turned false n m (length r) (f (a, r)) (g (a, u))) → Turned v n m bound (x >>= f) (y >>= g)
join_turn s v n m bound _ y f g j (Both.stops le h) k = Turned.stops le (λ e. still y g (h e))
join_turn s v n m bound _ y f g j (Both.past {a = a} {r = r} b less) k =
    carry_turn false v n m (length r) bound (f (a, r)) (y >>= g) (at_most s (length r) bound b) (λ more q. j more (length r) q b) (over_turn false n m (length r) (f (a, r)) (g (a, r)) (y >>= g) less (k a r r b (gone less)))
join_turn s v n m bound _ _ f g j (Both.reads {a = a} {r = r} {u = u} b near) k =
    carry_turn false v n m (length r) bound (f (a, r)) (g (a, u)) (at_most s (length r) bound b) (λ more q. j more (length r) q b) (k a r u b near)

pub then_turn : {A B : Type 0} {n m bound : ℕ} {x y : Read A} (f g : A × List Lexeme → Turn B) → Both false n m bound x y →
    ((a : A) (r u : List Lexeme) → length r ≤ bound → Near n m r u → Turned false n m (length r) (f (a, r)) (g (a, u))) → Turned false n m bound (x >>= f) (y >>= g)
then_turn {n = n} {m = m} {bound = bound} {x = x} {y = y} f g b k = join_turn false false n m bound x y f g (λ more r q less le. omega arith) b k

pub first_turn : {A B : Type 0} {n m bound : ℕ} {x y : Read A} (f g : A × List Lexeme → Turn B) → Both true n m bound x y →
    ((a : A) (r u : List Lexeme) → length r < bound → Near n m r u → Turned false n m (length r) (f (a, r)) (g (a, u))) → Turned true n m bound (x >>= f) (y >>= g)
first_turn {n = n} {m = m} {bound = bound} {x = x} {y = y} f g b k = join_turn true true n m bound x y f g (λ more r q less le. below_less true more r bound q less le) b k

pub ok_turn : {A : Type 0} {n m : ℕ} {a : A} {more : Bool} {r u : List Lexeme} → Near n m r u → Turned false n m (length r) (Ok (a, more, r)) (Ok (a, more, u))
ok_turn near = Turned.reads (omega arith) near

-- the last turn may take no lexeme
pub ok_last : {A : Type 0} {n m : ℕ} {a : A} {r u : List Lexeme} → Near n m r u → Turned true n m (length r) (Ok (a, false, r)) (Ok (a, false, u))
ok_last near = Turned.reads (omega arith) near

pub looked_turn : {A I P : Type 0} {s : Bool} {n m bound : ℕ} {pack : I → List Lexeme → P} {x y : Option P} {d e : Turn A} (f g : P → Turn A) → Ahead n m bound pack x y → Turned s n m bound d e →
    ((i : I) (r u : List Lexeme) → length r < bound → Near n m r u → Turned s n m bound (f (pack i r)) (g (pack i u))) → Turned s n m bound (choose x d f) (choose y e g)
looked_turn f g Ahead.neither b k = b
looked_turn f g (Ahead.both i r u less near) b k = k i r u less near
looked_turn {s = s} {n = n} {m = m} {bound = bound} {y = y} {d = d} {e = e} f g (Ahead.far_none less) b k = over_turn s n m bound d e (choose y e g) less b
looked_turn {s = s} {n = n} {m = m} {bound = bound} {pack = pack} {y = y} {e = e} f g (Ahead.far_some i r short less) b k = over_turn s n m bound (f (pack i r)) (g (pack i r)) (choose y e g) less (k i r r short (gone (omega arith)))

pub chosen_turn : {A I P : Type 0} {s : Bool} {n m bound : ℕ} {pack : I → List Lexeme → P} {x y : Option P} {d e : Turn A} (f g : P → Turn A) → Ahead n m bound pack x y → Turned s n m bound d e →
    ((i : I) (r u : List Lexeme) → length r < bound → Near n m r u → Turned false n m (length r) (f (pack i r)) (g (pack i u))) → Turned s n m bound (choose x d f) (choose y e g)
chosen_turn {s = s} {n = n} {m = m} {bound = bound} {pack = pack} f g looks b k = looked_turn f g looks b (λ i r u less near. raise_turn s n m (length r) bound (f (pack i r)) (g (pack i u)) less (k i r u less near))

pub either_turn : {A : Type 0} {s : Bool} {n m bound : ℕ} {x1 x2 y1 y2 : Turn A} (b : Bool) → Turned s n m bound x1 y1 → Turned s n m bound x2 y2 → Turned s n m bound (cond b x1 x2) (cond b y1 y2)
either_turn true p q = p
either_turn false p q = q

pub stop_turn : {A : Type 0} {s : Bool} {n m k j : ℕ} → Turned {A = A} s n m k (Err k) (Err j)
stop_turn = Turned.stops (omega arith) (λ e. tt)

-- What holds of one turn holds of all.
abbrev pub Turning : {A : Type 0} → ℕ → ℕ → ℕ → (A → List Lexeme → Turn A) → (A → List Lexeme → Turn A) → Type 0
Turning {A} n m limit f g = (a : A) (ls ts : List Lexeme) → length ls ≤ limit → Near n m ls ts → Turned true n m (length ls) (f a ls) (g a ts)

-- one turn and those behind it
one_more : {A : Type 0} (n m bound one two : ℕ) (f g : A → List Lexeme → Turn A) (x y : Turn A) → Turned true n m bound x y →
    ((a : A) (r u : List Lexeme) → length r < bound → Near n m r u → Both false n m (length r) (turns f one a r) (turns g two a u)) →
    Both false n m bound (x >>= λ p. if p.1 then turns f one p.0 p.2 else Ok (p.0, p.2)) (y >>= λ p. if p.1 then turns g two p.0 p.2 else Ok (p.0, p.2))
one_more n m bound one two f g _ y (Turned.stops le h) later = Both.stops le (λ e. still y (λ p. if p.1 then turns g two p.0 p.2 else Ok (p.0, p.2)) (h e))
one_more n m bound one two f g _ y (Turned.past {a = a} {more = true} {r = r} b less) later =
    let z = y >>= λ p. if p.1 then turns g two p.0 p.2 else Ok (p.0, p.2) in
    carry false false n m (length r) bound (turns f one a r) z (omega arith) (λ q le. omega arith) (over false n m (length r) (turns f one a r) (turns g two a r) z less (later a r r b (gone less)))
one_more n m bound one two f g _ y (Turned.past {more = false} b less) later = Both.past b less
one_more n m bound one two f g _ _ (Turned.reads {a = a} {more = true} {r = r} {u = u} b near) later =
    carry false false n m (length r) bound (turns f one a r) (turns g two a u) (omega arith) (λ q le. omega arith) (later a r u b near)
one_more n m bound one two f g _ _ (Turned.reads {more = false} b near) later = Both.reads b near

turns_step : {A : Type 0} (n m one two : ℕ) (f g : A → List Lexeme → Turn A) (a : A) (ls ts : List Lexeme) → Turned true n m (length ls) (f a ls) (g a ts) →
    ((b : A) (r u : List Lexeme) → length r < length ls → Near n m r u → Both false n m (length r) (turns f one b r) (turns g two b u)) →
    Both false n m (length ls) (turns f (suc one) a ls) (turns g (suc two) a ts)
unfolding turns
turns_step n m one two f g a ls ts t later = one_more n m (length ls) one two f g (f a ls) (g a ts) t later

turns_near : {A : Type 0} (n m limit : ℕ) (f g : A → List Lexeme → Turn A) → Turning n m limit f g → (one two : ℕ) (a : A) (ls ts : List Lexeme) → length ls ≤ limit → Near n m ls ts → length ls < one → (n ≤ length ls → length ts < two) →
    Both false n m (length ls) (turns f one a ls) (turns g two a ts)
turns_near n m limit f g turning zero two a ls ts fits near enough wide = absurd (omega arith)
turns_near n m limit f g turning (suc one) zero a ls ts fits near enough wide = elim (cases_lt (length ls) n) [
  | inl less ↦ over false n m (length ls) (turns f (suc one) a ls) (turns g 1 a ts) (turns g zero a ts) less
      (turns_step n m one zero f g a ls ts (turning a ls ts fits near) (λ b r u short close. turns_near n m limit f g turning one zero b r u (omega arith) close (omega arith) (λ most. absurd (omega arith))))
  | inr most ↦ absurd (omega (arith, wide most))
]
turns_near n m limit f g turning (suc one) (suc two) a ls ts fits near enough wide =
    turns_step n m one two f g a ls ts (turning a ls ts fits near)
    (λ b r u short close. turns_near n m limit f g turning one two b r u (omega arith) close (omega arith) (λ most. omega (arith, wide (omega arith), spread n m ls ts near (omega arith), spread n m r u close most)))

pub all_near : {A : Type 0} {n m : ℕ} (limit : ℕ) (f g : A → List Lexeme → Turn A) → Turning n m limit f g → (a : A) (ls ts : List Lexeme) → length ls ≤ limit → Near n m ls ts → Both false n m (length ls) (all_turns f a ls) (all_turns g a ts)
unfolding all_turns
all_near {n = n} {m = m} limit f g turning a ls ts fits near = turns_near n m limit f g turning (suc (length ls)) (suc (length ts)) a ls ts fits near (omega arith) (λ most. omega arith)
