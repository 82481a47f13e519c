-- Expressions at lists that begin alike.
use Rattle.std.proofs.Common.{◌≡◌, ℕ, zero, suc, ◌+◌, ◌<◌, ◌≤◌, Bool, true, false, eqb, cond, List, [], ◌∷◌, length, Option, Some, None, Ok, Err, inl, inr, refl, arith}
use Rattle.std.proofs.lemmas.Bool.{cases_lt}
use Rattle.hys_lex.specs.declared.token.TokenKind.{TokenKind}
use Rattle.hys_lex.specs.declared.token.TokenKind.TheVariants as token
use Rattle.hys_lex.specs.declared.sign.TheConstants as sign
use Rattle.hys_lex.specs.declared.keyword.TheConstants as keyword
use Rattle.hys_ast.specs.declared.place.Place.{Place}
use Rattle.hys_ast.specs.declared.lexeme.Lexeme.{Lexeme}
use Rattle.hys_ast.specs.declared.tree.UnaryOp.{UnaryOp}
use Rattle.hys_ast.specs.declared.tree.BinaryOp.{BinaryOp}
use Rattle.hys_ast.specs.declared.level.Level.{Level}
use Rattle.hys_ast.specs.declared.level.Level.TheVariants as level
use Rattle.hys_ast.specs.Operators.{binary_of, level_of, groups, is_not, sign_of}
use Rattle.hys_ast.specs.Grammar.{Symbol, At, Behind, Negation, Signed, Atom, truth_of}
use Rattle.hys_ast.specs.Tree.{Tree}
use Rattle.hys_ast.specs.Tree as tree
use Rattle.hys_parse.specs.Reading.{Read, choose, same_kind, same_level, expect, after, joint, not_at, sign_at, cast_at, whole_at, group_at, atom_of, atom_at, signed_at, tail_at, binary_at, compare_at, negation_at, operand_at, reader, nested}
use Rattle.hys_parse.specs.Sections.{expr_at}
use Rattle.hys_parse.proofs.Chains.{stays}
use Rattle.hys_parse.proofs.Near.{Near, gone, end, front, spread, Both, over, raise, loosen, then, ok, either, by_first, Ahead, Peeks, ahead, chosen}

-- what stands at the front

expect_first : (n m : ℕ) (k : TokenKind) (l : Lexeme) (ls ts : List Lexeme) → Near n m ls ts → Both true n m (suc (length ls)) (expect k (l ∷ ls)) (expect k (l ∷ ts))
unfolding expect
expect_first n m k l ls ts near = go (same_kind l.kind k)
  where
    go : (b : Bool) → Both true n m (suc (length ls)) (cond b (Ok (l, ls)) (Err (suc (length ls)))) (cond b (Ok (l, ts)) (Err (suc (length ts))))
    go true = Both.reads (omega arith) near
    go false = Both.stops {k = suc (length ls)} (omega arith) (λ e. tt)

expect_none : (k : TokenKind) → expect k [] ≡ Err 0
unfolding expect
expect_none k = refl

pub expects : {n m : ℕ} (k : TokenKind) (ls ts : List Lexeme) → Near n m ls ts → Both true n m (length ls) (expect k ls) (expect k ts)
expects {n = n} {m = m} k ls ts near = by_first (length ls) (expect k) (expect k) (expect_none k) (expect_none k) (λ l us vs fits whole close. expect_first n m k l us vs close) ls ts (omega arith) near

pub takes : {n m : ℕ} (k : TokenKind) (ls ts : List Lexeme) → Near n m ls ts → Both false n m (length ls) (expect k ls) (expect k ts)
takes {n = n} {m = m} k ls ts near = loosen n m (length ls) (expect k ls) (expect k ts) (expects k ls ts near)

abbrev pub rest_alone : Unit {0} → List Lexeme → List Lexeme
rest_alone i ts = ts

after_peeks : (k : TokenKind) → Peeks (after k) rest_alone
unfolding after
after_peeks k = record { empty = refl; tells = λ l. cond (same_kind l.kind k) (Some tt) None; first = λ l ts. go (same_kind l.kind k) ts }
  where
    go : (b : Bool) (ts : List Lexeme) → cond b (Some ts) None ≡ choose (cond b (Some tt) None) None (λ (i : Unit {0}). Some ts)
    go true ts = refl
    go false ts = refl

pub after_ahead : {n m : ℕ} (k : TokenKind) (ls ts : List Lexeme) → Near n m ls ts → Ahead n m (length ls) rest_alone (after k ls) (after k ts)
after_ahead k = ahead (after k) rest_alone (after_peeks k)

abbrev pub op_then : BinaryOp × Place → List Lexeme → BinaryOp × Place × List Lexeme
op_then i ts = (i.0, i.1, ts)

joint_peeks : (n : Level) → Peeks (joint n) op_then
unfolding joint
joint_peeks n = record { empty = refl; tells = λ l. choose (binary_of l.kind) None (λ op. cond (same_level (level_of op) n) (Some (op, l.place)) None); first = λ l ts. go (binary_of l.kind) l.place ts }
  where
    last : (b : Bool) (op : BinaryOp) (p : Place) (ts : List Lexeme) → cond b (Some (op, p, ts)) None ≡ choose (cond b (Some (op, p)) None) None (λ i. Some (op_then i ts))
    last true op p ts = refl
    last false op p ts = refl

    go : (o : Option BinaryOp) (p : Place) (ts : List Lexeme) → choose {B = Option (BinaryOp × Place × List Lexeme)} o None (λ op. cond (same_level (level_of op) n) (Some (op, p, ts)) None)
        ≡ choose (choose o None (λ op. cond (same_level (level_of op) n) (Some (op, p)) None)) None (λ i. Some (op_then i ts))
    go None p ts = refl
    go (Some op) p ts = last (same_level (level_of op) n) op p ts

joint_ahead : {n m : ℕ} (v : Level) (ls ts : List Lexeme) → Near n m ls ts → Ahead n m (length ls) op_then (joint v ls) (joint v ts)
joint_ahead v = ahead (joint v) op_then (joint_peeks v)

abbrev pub place_then : Place → List Lexeme → Place × List Lexeme
place_then i ts = (i, ts)

not_peeks : Peeks not_at place_then
unfolding not_at
not_peeks = record { empty = refl; tells = λ l. cond (is_not l.kind) (Some l.place) None; first = λ l ts. go (is_not l.kind) l.place ts }
  where
    go : (b : Bool) (p : Place) (ts : List Lexeme) → cond b (Some (p, ts)) None ≡ choose (cond b (Some p) None) None (λ i. Some (place_then i ts))
    go true p ts = refl
    go false p ts = refl

not_ahead : {n m : ℕ} (ls ts : List Lexeme) → Near n m ls ts → Ahead n m (length ls) place_then (not_at ls) (not_at ts)
not_ahead = ahead not_at place_then not_peeks

abbrev pub sign_then : UnaryOp × Place → List Lexeme → UnaryOp × Place × List Lexeme
sign_then i ts = (i.0, i.1, ts)

sign_peeks : Peeks sign_at sign_then
unfolding sign_at
sign_peeks = record { empty = refl; tells = λ l. choose (sign_of l.kind) None (λ op. Some (op, l.place)); first = λ l ts. go (sign_of l.kind) l.place ts }
  where
    go : (o : Option UnaryOp) (p : Place) (ts : List Lexeme) → choose {B = Option (UnaryOp × Place × List Lexeme)} o None (λ op. Some (op, p, ts)) ≡ choose (choose o None (λ op. Some (op, p))) None (λ i. Some (sign_then i ts))
    go None p ts = refl
    go (Some op) p ts = refl

sign_ahead : {n m : ℕ} (ls ts : List Lexeme) → Near n m ls ts → Ahead n m (length ls) sign_then (sign_at ls) (sign_at ts)
sign_ahead = ahead sign_at sign_then sign_peeks

-- The readers read lists alike that go on alike, up to so many lexemes.
abbrev pub Alike : {A : Type 0} → ℕ → ℕ → ℕ → (List Lexeme → Read A) → (List Lexeme → Read A) → Type 0
Alike n m limit f g = (ls ts : List Lexeme) → length ls ≤ limit → Near n m ls ts → Both false n m (length ls) (f ls) (g ts)

-- What stands inside has fewer.
abbrev pub Inside : ℕ → ℕ → ℕ → (Symbol → List Lexeme → Read Tree) → (Symbol → List Lexeme → Read Tree) → Type 0
Inside n m limit f g = (s : Symbol) (ls ts : List Lexeme) → length ls < limit → Near n m ls ts → Both false n m (length ls) (f s ls) (g s ts)

cast_near : {n m : ℕ} (ls ts : List Lexeme) → Near n m ls ts → Both false n m (length ls) (cast_at ls) (cast_at ts)
unfolding cast_at
cast_near ls ts near = then _ _ (takes token.Name ls ts near) (λ l r u le close. then _ _ (takes (token.Sign sign.CLOSE_PARENTHESIS) r u close) (λ z r2 u2 le2 close2. ok close2))

whole_near : {n m limit : ℕ} (f g : Symbol → List Lexeme → Read Tree) → Inside n m limit f g → (ls ts : List Lexeme) → length ls < limit → Near n m ls ts → Both false n m (length ls) (whole_at f ls) (whole_at g ts)
unfolding whole_at
whole_near f g inside ls ts fits near = then _ _ (inside (At level.Arrow) ls ts fits near) (λ e r u le close. then _ _ (takes (token.Sign sign.CLOSE_PARENTHESIS) r u close) (λ z r2 u2 le2 close2. ok close2))

group_near : {n m limit : ℕ} (f g : Symbol → List Lexeme → Read Tree) → Inside n m limit f g → (ls ts : List Lexeme) → length ls < limit → Near n m ls ts → Both false n m (length ls) (group_at f ls) (group_at g ts)
unfolding group_at
group_near f g inside ls ts fits near = chosen cast_at cast_at (after_ahead (token.Keyword keyword.REAL) ls ts near) (whole_near f g inside ls ts fits near) (λ i r u less close. cast_near r u close)

stop_both : {A : Type 0} {n m k j : ℕ} → Both {A = A} false n m k (Err k) (Err j)
stop_both = Both.stops (omega arith) (λ e. tt)

atom_first : {n m limit : ℕ} (f g : Symbol → List Lexeme → Read Tree) → Inside n m limit f g → (l : Lexeme) (ls ts : List Lexeme) → length ls < limit → Near n m ls ts → (k : TokenKind) → Both false n m (suc (length ls)) (atom_of f l ls k) (atom_of g l ts k)
atom_first f g inside l ls ts fits near token.Literal = Both.reads (omega arith) near
atom_first f g inside l ls ts fits near token.Name = Both.reads (omega arith) near
atom_first {n = n} {m = m} f g inside l ls ts fits near (token.Keyword k) = go (truth_of k)
  where
    go : (o : Option Bool) → Both {A = Tree} false n m (suc (length ls)) (choose o (Err (suc (length ls))) (λ value. Ok (tree.Truth value l.place, ls))) (choose o (Err (suc (length ts))) (λ value. Ok (tree.Truth value l.place, ts)))
    go None = stop_both
    go (Some value) = Both.reads (omega arith) near
atom_first {n = n} {m = m} f g inside l ls ts fits near (token.Sign s) =
    either (eqb s sign.OPEN_PARENTHESIS) (raise false n m (length ls) (suc (length ls)) (group_at f ls) (group_at g ts) (omega arith) (group_near f g inside ls ts fits near)) stop_both

atom_near : {n m limit : ℕ} (f g : Symbol → List Lexeme → Read Tree) → Inside n m limit f g → Alike n m limit (atom_at f) (atom_at g)
unfolding atom_at
atom_near {n = n} {m = m} {limit = limit} f g inside ls ts fits near = by_first limit (atom_at f) (atom_at g) refl refl (λ l us vs fit whole close. atom_first f g inside l us vs fit close l.kind) ls ts fits near

signed_near : {n m limit : ℕ} (f g : Symbol → List Lexeme → Read Tree) → Inside n m limit f g → Alike n m limit (signed_at f) (signed_at g)
unfolding signed_at
signed_near f g inside ls ts fits near = chosen _ _ (sign_ahead ls ts near) (atom_near f g inside ls ts fits near) (λ i r u less close. then _ _ (inside Signed r u (omega arith) close) (λ q r2 u2 le close2. ok close2))

-- a chain of operators

none_ahead : (v : Level) → joint v [] ≡ None
unfolding joint
none_ahead v = refl

tail_step : {n m limit : ℕ} (v : Level) (f g : List Lexeme → Read Tree) → Alike n m limit f g → (one two : ℕ) (a : Tree) (ls ts : List Lexeme) → length ls ≤ limit → Near n m ls ts →
    ((b : Tree) (r u : List Lexeme) → length r < length ls → Near n m r u → Both false n m (length r) (tail_at v f one b r) (tail_at v g two b u)) →
    Both false n m (length ls) (tail_at v f (suc one) a ls) (tail_at v g (suc two) a ts)
unfolding tail_at
tail_step v f g alike one two a ls ts fits near later =
    chosen _ _ (joint_ahead v ls ts near) (ok near) (λ i r u less close. then _ _ (alike r u (omega arith) close) (λ b r2 u2 le close2. either (groups v) (later (tree.Binary i.0 a b i.1) r2 u2 (omega arith) close2) (ok close2)))

nothing_left : (n m : ℕ) (v : Level) (f g : List Lexeme → Read Tree) (one two : ℕ) (a : Tree) (ls ts : List Lexeme) → length ls ≤ 0 → Near n m ls ts → Both false n m (length ls) (tail_at v f one a ls) (tail_at v g two a ts)
nothing_left n m v f g one two a [] ts empty (gone less) = rw (stays v f one a [] (none_ahead v)) (Both.past {a = a} {r = []} (omega arith) less)
nothing_left n m v f g one two a (l ∷ ls) ts empty (gone less) = absurd (omega arith)
nothing_left n m v f g one two a _ _ empty (end h) = rw (stays v f one a [] (none_ahead v), stays v g two a [] (none_ahead v)) (Both.reads {a = a} {r = []} {u = []} (omega arith) (end h))
nothing_left n m v f g one two a _ _ empty (front l h near) = absurd (omega arith)

tail_near : {n m limit : ℕ} (v : Level) (f g : List Lexeme → Read Tree) → Alike n m limit f g → (one two : ℕ) (a : Tree) (ls ts : List Lexeme) → length ls ≤ limit → Near n m ls ts → length ls ≤ one → (n ≤ length ls → length ts ≤ two) →
    Both false n m (length ls) (tail_at v f one a ls) (tail_at v g two a ts)
tail_near {n = n} {m = m} v f g alike zero two a ls ts fits near enough wide = nothing_left n m v f g zero two a ls ts enough near
tail_near {n = n} {m = m} v f g alike (suc one) zero a ls ts fits near enough wide = elim (cases_lt (length ls) n) [
  | inl less ↦ over false n m (length ls) (tail_at v f (suc one) a ls) (tail_at v g 1 a ts) (tail_at v g zero a ts) less
      (tail_step v f g alike one zero a ls ts fits near (λ b r u short close. tail_near v f g alike one zero b r u (omega arith) close (omega arith) (λ most. absurd (omega arith))))
  | inr most ↦ nothing_left n m v f g (suc one) zero a ls ts (no_lexeme ls ts near most (wide most)) near
]
  where
    no_lexeme : (us vs : List Lexeme) → Near n m us vs → n ≤ length us → length vs ≤ 0 → length us ≤ 0
    no_lexeme us vs (gone less) most empty = absurd (omega arith)
    no_lexeme _ _ (end h) most empty = omega arith
    no_lexeme _ _ (front l h near) most empty = absurd (omega arith)
tail_near {n = n} {m = m} v f g alike (suc one) (suc two) a ls ts fits near enough wide =
    tail_step v f g alike one two a ls ts fits near
    (λ b r u short close. tail_near v f g alike one two b r u (omega arith) close (omega arith) (λ most. omega (arith, wide (omega arith), spread n m ls ts near (omega arith), spread n m r u close most)))

binary_near : {n m limit : ℕ} (v : Level) (f g : List Lexeme → Read Tree) → Alike n m limit f g → Alike n m limit (binary_at v f) (binary_at v g)
unfolding binary_at
binary_near v f g alike ls ts fits near = then _ _ (alike ls ts fits near) (λ a r u le close. tail_near v f g alike (length r) (length u) a r u (omega arith) close (omega arith) (λ most. omega arith))

compare_near : {n m limit : ℕ} (f g : Symbol → List Lexeme → Read Tree) → Inside n m limit f g → Alike n m limit (compare_at f) (compare_at g)
unfolding compare_at
compare_near f g inside = binary_near level.Compare _ _ (binary_near level.Sum _ _ (binary_near level.Term _ _ (signed_near f g inside)))

negation_near : {n m limit : ℕ} (f g : Symbol → List Lexeme → Read Tree) → Inside n m limit f g → Alike n m limit (negation_at f) (negation_at g)
unfolding negation_at
negation_near f g inside ls ts fits near = chosen _ _ (not_ahead ls ts near) (compare_near f g inside ls ts fits near) (λ i r u less close. then _ _ (inside Negation r u (omega arith) close) (λ q r2 u2 le close2. ok close2))

operand_near : {n m limit : ℕ} (f g : Symbol → List Lexeme → Read Tree) → Inside n m limit f g → (v : Level) → Alike n m limit (operand_at f v) (operand_at g v)
unfolding operand_at
operand_near f g inside level.Arrow = binary_near level.Or _ _ (binary_near level.And _ _ (negation_near f g inside))
operand_near f g inside level.Or = binary_near level.And _ _ (negation_near f g inside)
operand_near f g inside level.And = negation_near f g inside
operand_near f g inside level.Compare = binary_near level.Sum _ _ (binary_near level.Term _ _ (signed_near f g inside))
operand_near f g inside level.Sum = binary_near level.Term _ _ (signed_near f g inside)
operand_near f g inside level.Term = signed_near f g inside

reader_near : {n m limit : ℕ} (f g : Symbol → List Lexeme → Read Tree) → Inside n m limit f g → (s : Symbol) → Alike n m limit (reader f s) (reader g s)
unfolding reader
reader_near f g inside (At v) = binary_near v _ _ (operand_near f g inside v)
reader_near f g inside (Behind v a) = λ ls ts fits near. tail_near v (operand_at f v) (operand_at g v) (operand_near f g inside v) (length ls) (length ts) a ls ts fits near (omega arith) (λ most. omega arith)
reader_near f g inside Negation = negation_near f g inside
reader_near f g inside Signed = signed_near f g inside
reader_near f g inside Atom = atom_near f g inside

-- The rooms stand to each other as the numbers of lexemes do.
nested_near : (n m one two : ℕ) → one + m ≤ two + n → Inside n m one (nested one) (nested two)
unfolding nested
nested_near n m zero two wide s ls ts fits near = absurd (omega arith)
nested_near n m (suc one) zero wide s ls ts fits near =
    over false n m (length ls) (nested (suc one) s ls) (nested (suc (one + m)) s ts) (nested zero s ts) (omega arith) (reader_near (nested one) (nested (one + m)) (nested_near n m one (one + m) (omega arith)) s ls ts (omega arith) near)
nested_near n m (suc one) (suc two) wide s ls ts fits near = reader_near (nested one) (nested two) (nested_near n m one two (omega arith)) s ls ts (omega arith) near

pub expr_near : {n m : ℕ} (one two : ℕ) → one + m ≤ two + n → Alike n m one (expr_at one) (expr_at two)
unfolding expr_at
expr_near {n = n} {m = m} one two wide = binary_near level.Arrow _ _ (operand_near (nested one) (nested two) (nested_near n m one two wide) level.Arrow)
