-- Where reading stops, no grammatical list goes on.
use Rattle.std.proofs.Common.{◌≡◌, ℕ, zero, suc, ◌+◌, ◌-◌, ◌<◌, ◌≤◌, Bool, true, false, eqb, cond, List, [], ◌∷◌, length, take, Result, Ok, Err, inl, inr, refl, sym, ap, subst, ◌∙◌, arith}
use Rattle.std.proofs.lemmas.Bool.{eqb-true}
use Rattle.hys_ast.specs.declared.lexeme.Lexeme.{Lexeme}
use Rattle.hys_ast.specs.Tree.{Source}
use Rattle.hys_parse.specs.Reading.{Read, ◌>>=◌}
use Rattle.hys_parse.specs.Sections.{source_at, whole_at}
use Rattle.hys_parse.specs.Cause.{IsStuckAt}
use Rattle.hys_parse.proofs.Near.{Near, gone, end, front, Stops, still, Both}
use Rattle.hys_parse.proofs.NearParts.{source_near}
use Rattle.hys_parse.proofs.Whole.{whole_complete}

near_begun : (k n m : ℕ) (ls ts : List Lexeme) → n + k ≡ length ls → m + k ≡ length ts → 0 < n → 0 < m → take (suc k) ts ≡ take (suc k) ls → Near n m ls ts
near_begun k n m [] ts e d more others same = absurd (omega arith)
near_begun k n m (l ∷ ls) [] e d more others same = absurd (omega arith)
near_begun zero n m (l ∷ ls) (t ∷ ts) e d more others same =
    let first : l ≡ t = cc in
    let P : Lexeme → Type 0 = λ x. Near n m (l ∷ ls) (x ∷ ts) in subst P first (front l (omega arith) (gone (omega arith)))
near_begun (suc k) n m (l ∷ ls) (t ∷ ts) e d more others same =
    let first : l ≡ t = cc in
    let later : take (suc k) ts ≡ take (suc k) ls = cc in
    let P : Lexeme → Type 0 = λ x. Near n m (l ∷ ls) (x ∷ ts) in subst P first (front l (omega arith) (near_begun k n m ls ts (omega arith) (omega arith) more others later))

near_self : (ls : List Lexeme) → Near 0 0 ls ls
near_self [] = end refl
near_self (l ∷ ls) = front l (omega arith) (near_self ls)

-- a source with nothing behind it
abbrev pub closed : Source × List Lexeme → Result Source ℕ
closed p = cond (eqb (length p.1) 0) (Ok p.0) (Err (length p.1))

pub whole_is : (ts : List Lexeme) → whole_at ts ≡ (source_at (length ts) ts >>= closed)
unfolding whole_at
whole_is ts = refl

some_left : (l : Lexeme) (r : List Lexeme) → eqb (length (l ∷ r)) 0 ≡ false
some_left l r = go (eqb (length (l ∷ r)) 0) refl
  where
    go : (b : Bool) → eqb (length (l ∷ r)) 0 ≡ b → b ≡ false
    go true e = absurd (omega (arith, eqb-true (length (l ∷ r)) 0 e))
    go false e = refl

closed_not : (a : Source) (l : Lexeme) (r : List Lexeme) → closed (a, l ∷ r) ≡ Err (length (l ∷ r))
closed_not a l r = rw (some_left l r) refl

not_closed : (a : Source) (l : Lexeme) (r : List Lexeme) → Stops (closed (a, l ∷ r))
not_closed a l r = rw (closed_not a l r) tt

pub more_left : (a : Source) (r : List Lexeme) (k : ℕ) → closed (a, r) ≡ Err k → (k ≡ length r) × (0 < length r)
more_left a [] k e = absurd cc
more_left a (l ∷ r) k e = let both : Err (length (l ∷ r)) ≡ Err k = sym (closed_not a l r) ∙ e in let same : length (l ∷ r) ≡ k = cc in (sym same, omega arith)

stops_too : (n m bound k : ℕ) (x y : Read Source) → Both false n m bound x y → (x >>= closed) ≡ Err k → n ≤ k → Stops (y >>= closed)
stops_too n m bound k _ y (Both.stops {k = j} le h) e most = let same : j ≡ k = cc in still y closed (h (omega arith))
stops_too n m bound k _ y (Both.past {a = a} {r = r} b less) e most = let left = more_left a r k e in absurd (omega (arith, left.0))
stops_too n m bound k _ _ (Both.reads {a = a} {r = r} {u = u} b near) e most = let left = more_left a r k e in go a r u near left.0 left.1
  where
    go : (a : Source) (r u : List Lexeme) → Near n m r u → k ≡ length r → 0 < length r → Stops (closed (a, u))
    go a r u (gone less) same some = absurd (omega arith)
    go a _ _ (end h) same some = absurd (omega arith)
    go a _ _ (front {ts = ts} l h near) same some = not_closed a l ts

within : (n m bound k : ℕ) (x y : Read Source) → Both false n m bound x y → (x >>= closed) ≡ Err k → k ≤ bound
within n m bound k _ y (Both.stops {k = j} le h) e = let same : j ≡ k = cc in omega arith
within n m bound k _ y (Both.past {a = a} {r = r} b less) e = let left = more_left a r k e in omega (arith, left.0)
within n m bound k _ _ (Both.reads {a = a} {r = r} b near) e = let left = more_left a r k e in omega (arith, left.0)

pub left_within : (ls : List Lexeme) (left : ℕ) → whole_at ls ≡ Err left → left ≤ length ls
left_within ls left e =
    within 0 0 (length ls) left (source_at (length ls) ls) (source_at (length ls) ls) (source_near (length ls) (length ls) (omega arith) ls ls (omega arith) (near_self ls)) (sym (whole_is ls) ∙ e)

stopped_not : {Y : Type 0} (x : Result Y ℕ) (y : Y) → Stops x → x ≡ Ok y → ⊥
stopped_not (Ok x) y s e = absurd s
stopped_not (Err k) y s e = absurd cc

pub stuck : (ls : List Lexeme) (left k : ℕ) → whole_at ls ≡ Err left → k ≡ length ls - left → IsStuckAt ls k
stuck ls left k e place ts tree (inl begun) derived =
    let fits : left ≤ length ls = left_within ls left e in
    let near : Near left (length ts - k) ls ts = near_begun k left (length ts - k) ls ts (omega arith) (omega (arith, begun.1)) (omega (arith, begun.0)) (omega (arith, begun.1)) begun.2 in
    let both = source_near (length ls) (length ts) (omega (arith, begun.1)) ls ts (omega arith) near in
    stopped_not (source_at (length ts) ts >>= closed) tree (stops_too left (length ts - k) (length ls) left (source_at (length ls) ls) (source_at (length ts) ts) both (sym (whole_is ls) ∙ e) (omega arith)) (sym (whole_is ts) ∙ whole_complete ts tree derived)
stuck ls left k e place ts tree (inr ended) derived =
    let read : whole_at ls ≡ Ok tree = ap whole_at (sym ended.1) ∙ whole_complete ts tree derived in
    let both : Ok tree ≡ Err left = sym read ∙ e in absurd cc
