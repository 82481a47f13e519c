-- Lists that begin alike are read alike, up to where they part.
use Rattle.std.proofs.Common.{◌≡◌, ℕ, suc, ◌+◌, ◌<◌, ◌≤◌, Bool, true, false, ◌&&◌, cond, List, [], ◌∷◌, length, Option, Some, None, Result, Ok, Err, arith}
use Rattle.hys_ast.specs.declared.lexeme.Lexeme.{Lexeme}
use Rattle.hys_parse.specs.Reading.{Read, ◌>>=◌, choose}
use Rattle.hys_parse.specs.Sections.{Turn}

-- The lists go on alike up to and with the lexeme where n are left in the first and m in the
-- second, or in the first fewer are left.
pub data Near (n m : ℕ) : List Lexeme → List Lexeme → Type 0 where
  gone : {ls ts : List Lexeme} → length ls < n → Near n m ls ts
  end : n ≡ m → Near n m [] []
  front : {ls ts : List Lexeme} (l : Lexeme) → length ts + n ≡ length ls + m → Near n m ls ts → Near n m (l ∷ ls) (l ∷ ts)

pub spread : (n m : ℕ) (ls ts : List Lexeme) → Near n m ls ts → n ≤ length ls → length ts + n ≡ length ls + m
spread n m ls ts (gone less) most = absurd (omega arith)
spread n m _ _ (end e) most = omega arith
spread n m _ _ (front l e near) most = omega arith

abbrev pub Stops : {Y : Type 0} → Result Y ℕ → Type 0
Stops (Ok y) = ⊥
Stops (Err k) = Unit {0}

pub still : {X Y : Type 0} (x : Result X ℕ) (f : X → Result Y ℕ) → Stops x → Stops (x >>= f)
still (Ok x) f s = absurd s
still (Err k) f s = tt

abbrev pub Below : Bool → ℕ → ℕ → Type 0
Below true r bound = r < bound
Below false r bound = r ≤ bound

pub at_most : (s : Bool) (r bound : ℕ) → Below s r bound → r ≤ bound
at_most true r bound b = omega arith
at_most false r bound b = b

-- What a reader answers at two lists that go on alike, of which the first has so many lexemes: the
-- same, with rests that go on alike, or it stops at both; what it answers once the first list has
-- fewer than n left says nothing of the second. A strict reader takes a lexeme.
pub data Both {A : Type 0} (strict : Bool) (n m bound : ℕ) : Read A → Read A → Type 0 where
  stops : {k : ℕ} {y : Read A} → k ≤ bound → (n ≤ k → Stops y) → Both strict n m bound (Err k) y
  past : {a : A} {r : List Lexeme} {y : Read A} → Below strict (length r) bound → length r < n → Both strict n m bound (Ok (a, r)) y
  reads : {a : A} {r u : List Lexeme} → Below strict (length r) bound → Near n m r u → Both strict n m bound (Ok (a, r)) (Ok (a, u))

-- The same of a turn; one after which more follows takes a lexeme.
pub data Turned {A : Type 0} (strict : Bool) (n m bound : ℕ) : Turn A → Turn A → Type 0 where
  stops : {k : ℕ} {y : Turn A} → k ≤ bound → (n ≤ k → Stops y) → Turned strict n m bound (Err k) y
  past : {a : A} {more : Bool} {r : List Lexeme} {y : Turn A} → Below (strict && more) (length r) bound → length r < n → Turned strict n m bound (Ok (a, more, r)) y
  reads : {a : A} {more : Bool} {r u : List Lexeme} → Below (strict && more) (length r) bound → Near n m r u → Turned strict n m bound (Ok (a, more, r)) (Ok (a, more, u))

pub over : {A : Type 0} (s : Bool) (n m bound : ℕ) (x y z : Read A) → bound < n → Both s n m bound x y → Both s n m bound x z
over s n m bound _ y z g (Both.stops le h) = Both.stops le (λ e. absurd (omega arith))
over s n m bound _ y z g (Both.past b less) = Both.past b less
over s n m bound _ _ z g (Both.reads {r = r} b near) = let le : length r ≤ bound = at_most s (length r) bound b in Both.past b (omega arith)

-- What holds of a reader at a part of the list holds at the list.
pub carry : {A : Type 0} (s t : Bool) (n m small bound : ℕ) (x y : Read A) → small ≤ bound → ((q : ℕ) → Below s q small → Below t q bound) → Both s n m small x y → Both t n m bound x y
carry s t n m small bound _ y le f (Both.stops k h) = Both.stops (omega arith) h
carry s t n m small bound _ y le f (Both.past {r = r} b less) = Both.past (f (length r) b) less
carry s t n m small bound _ _ le f (Both.reads {r = r} b near) = Both.reads (f (length r) b) near

below_less : (t : Bool) (small bound q : ℕ) → small < bound → q ≤ small → Below t q bound
below_less true small bound q less le = omega arith
below_less false small bound q less le = omega arith

pub raise : {A : Type 0} (t : Bool) (n m small bound : ℕ) (x y : Read A) → small < bound → Both false n m small x y → Both t n m bound x y
raise t n m small bound x y less b = carry false t n m small bound x y (omega arith) (λ q le. below_less t small bound q less le) b

pub loosen : {A : Type 0} (n m bound : ℕ) (x y : Read A) → Both true n m bound x y → Both false n m bound x y
loosen n m bound x y b = carry true false n m bound bound x y (omega arith) (λ q less. at_most true q bound less) b

-- One reader after the other.
join : {A B : Type 0} (s t v : Bool) (n m bound : ℕ) (x y : Read A) (f g : A × List Lexeme → Read B) → ((r q : ℕ) → Below s r bound → Below t q r → Below v q bound) → Both s n m bound x y →
    ((a : A) (r u : List Lexeme) → Below s (length r) bound → Near n m r u → Both t n m (length r) (f (a, r)) (g (a, u))) → Both v n m bound (x >>= f) (y >>= g)
join s t v n m bound _ y f g j (Both.stops le h) k = Both.stops le (λ e. still y g (h e))
join s t v n m bound _ y f g j (Both.past {a = a} {r = r} b less) k =
    carry t v n m (length r) bound (f (a, r)) (y >>= g) (at_most s (length r) bound b) (λ q. j (length r) q b) (over t n m (length r) (f (a, r)) (g (a, r)) (y >>= g) less (k a r r b (gone less)))
join s t v n m bound _ _ f g j (Both.reads {a = a} {r = r} {u = u} b near) k =
    carry t v n m (length r) bound (f (a, r)) (g (a, u)) (at_most s (length r) bound b) (λ q. j (length r) q b) (k a r u b near)

pub then : {A B : Type 0} {n m bound : ℕ} {x y : Read A} (f g : A × List Lexeme → Read B) → Both false n m bound x y →
    ((a : A) (r u : List Lexeme) → length r ≤ bound → Near n m r u → Both false n m (length r) (f (a, r)) (g (a, u))) → Both false n m bound (x >>= f) (y >>= g)
then {n = n} {m = m} {bound = bound} {x = x} {y = y} f g b k = join false false false n m bound x y f g (λ r q less le. omega arith) b k

pub first_then : {A B : Type 0} {n m bound : ℕ} {x y : Read A} (f g : A × List Lexeme → Read B) → Both true n m bound x y →
    ((a : A) (r u : List Lexeme) → length r < bound → Near n m r u → Both false n m (length r) (f (a, r)) (g (a, u))) → Both true n m bound (x >>= f) (y >>= g)
first_then {n = n} {m = m} {bound = bound} {x = x} {y = y} f g b k = join true false true n m bound x y f g (λ r q less le. omega arith) b k

pub then_last : {A B : Type 0} {n m bound : ℕ} {x y : Read A} (f g : A × List Lexeme → Read B) → Both false n m bound x y →
    ((a : A) (r u : List Lexeme) → length r ≤ bound → Near n m r u → Both true n m (length r) (f (a, r)) (g (a, u))) → Both true n m bound (x >>= f) (y >>= g)
then_last {n = n} {m = m} {bound = bound} {x = x} {y = y} f g b k = join false true true n m bound x y f g (λ r q less le. omega arith) b k

pub ok : {A : Type 0} {n m : ℕ} {a : A} {r u : List Lexeme} → Near n m r u → Both false n m (length r) (Ok (a, r)) (Ok (a, u))
ok near = Both.reads (omega arith) near

pub either : {A : Type 0} {s : Bool} {n m bound : ℕ} {x1 x2 y1 y2 : Read A} (b : Bool) → Both s n m bound x1 y1 → Both s n m bound x2 y2 → Both s n m bound (cond b x1 x2) (cond b y1 y2)
either true p q = p
either false p q = q

-- The first lexeme is looked at.
pub by_first : {A : Type 0} {s : Bool} {n m : ℕ} (limit : ℕ) (f g : List Lexeme → Read A) → f [] ≡ Err 0 → g [] ≡ Err 0 →
    ((l : Lexeme) (ls ts : List Lexeme) → length ls < limit → Near n m (l ∷ ls) (l ∷ ts) → Near n m ls ts → Both s n m (suc (length ls)) (f (l ∷ ls)) (g (l ∷ ts))) → (ls ts : List Lexeme) → length ls ≤ limit → Near n m ls ts → Both s n m (length ls) (f ls) (g ts)
by_first {s = s} {n = n} {m = m} limit f g e d step ls ts fits (gone less) = far ls fits less
  where
    far : (us : List Lexeme) → length us ≤ limit → length us < n → Both s n m (length us) (f us) (g ts)
    far [] fits less = rw e (Both.stops {k = 0} (omega arith) (λ h. absurd (omega arith)))
    far (l ∷ us) fits less = over s n m (suc (length us)) (f (l ∷ us)) (g (l ∷ us)) (g ts) (omega arith) (step l us us (omega arith) (gone less) (gone (omega arith)))
by_first limit f g e d step _ _ fits (end h) = rw (e, d) (Both.stops {k = 0} (omega arith) (λ h. tt))
by_first limit f g e d step _ _ fits (front {ls = ls} {ts = ts} l h near) = step l ls ts (omega arith) (front l h near) near

-- What is seen at the fronts of two lists that go on alike, of which the first has so many lexemes.
pub data Ahead {I P : Type 0} (n m bound : ℕ) (pack : I → List Lexeme → P) : Option P → Option P → Type 0 where
  neither : Ahead n m bound pack None None
  both : (i : I) (r u : List Lexeme) → length r < bound → Near n m r u → Ahead n m bound pack (Some (pack i r)) (Some (pack i u))
  far_none : {y : Option P} → bound < n → Ahead n m bound pack None y
  far_some : {y : Option P} (i : I) (r : List Lexeme) → length r < bound → bound < n → Ahead n m bound pack (Some (pack i r)) y

-- The first lexeme tells what is seen, and the others stand behind it.
pub record Peeks {I P : Type 0} (look : List Lexeme → Option P) (pack : I → List Lexeme → P) : Type 0 where
  pub empty : look [] ≡ None
  pub tells : Lexeme → Option I
  pub first : (l : Lexeme) (ts : List Lexeme) → look (l ∷ ts) ≡ choose (tells l) None (λ i. Some (pack i ts))

pub ahead : {I P : Type 0} {n m : ℕ} (look : List Lexeme → Option P) (pack : I → List Lexeme → P) → Peeks look pack → (ls ts : List Lexeme) → Near n m ls ts → Ahead n m (length ls) pack (look ls) (look ts)
ahead {n = n} {m = m} look pack p ls ts (gone less) = far ls less
  where
    seen : {I P : Type 0} {n m : ℕ} (pack : I → List Lexeme → P) (o : Option I) (us : List Lexeme) (y : Option P) → suc (length us) < n → Ahead n m (suc (length us)) pack (choose o None (λ i. Some (pack i us))) y
    seen pack None us y less = Ahead.far_none less
    seen pack (Some i) us y less = Ahead.far_some i us (omega arith) less

    far : (us : List Lexeme) → length us < n → Ahead n m (length us) pack (look us) (look ts)
    far [] less = rw p.empty (Ahead.far_none less)
    far (l ∷ us) less = rw (p.first l us) (seen pack (p.tells l) us (look ts) less)
ahead look pack p _ _ (end h) = rw p.empty Ahead.neither
ahead {n = n} {m = m} look pack p _ _ (front {ls = ls} {ts = ts} l h near) = rw (p.first l ls, p.first l ts) (seen pack (p.tells l) ls ts near)
  where
    seen : {I P : Type 0} {n m : ℕ} (pack : I → List Lexeme → P) (o : Option I) (us vs : List Lexeme) → Near n m us vs → Ahead n m (suc (length us)) pack (choose o None (λ i. Some (pack i us))) (choose o None (λ i. Some (pack i vs)))
    seen pack None us vs near = Ahead.neither
    seen pack (Some i) us vs near = Ahead.both i us vs (omega arith) near

pub chosen : {A I P : Type 0} {s : Bool} {n m bound : ℕ} {pack : I → List Lexeme → P} {x y : Option P} {d e : Read A} (f g : P → Read A) → Ahead n m bound pack x y → Both s n m bound d e →
    ((i : I) (r u : List Lexeme) → length r < bound → Near n m r u → Both false n m (length r) (f (pack i r)) (g (pack i u))) → Both s n m bound (choose x d f) (choose y e g)
chosen f g Ahead.neither b k = b
chosen {s = s} {n = n} {m = m} {bound = bound} {pack = pack} f g (Ahead.both i r u less near) b k = raise s n m (length r) bound (f (pack i r)) (g (pack i u)) less (k i r u less near)
chosen {s = s} {n = n} {m = m} {bound = bound} {y = y} {d = d} {e = e} f g (Ahead.far_none less) b k = over s n m bound d e (choose y e g) less b
chosen {s = s} {n = n} {m = m} {bound = bound} {pack = pack} {y = y} {e = e} f g (Ahead.far_some i r short less) b k =
    over s n m bound (f (pack i r)) (g (pack i r)) (choose y e g) less (raise s n m (length r) bound (f (pack i r)) (g (pack i r)) short (k i r r short (gone (omega arith))))
