-- What is derived is read.
use Rattle.std.proofs.Common.{◌≡◌, ℕ, zero, suc, ◌<◌, ◌≤◌, Bool, true, false, eqb, cond, List, [], ◌∷◌, length, Option, Some, None, Ok, inl, inr, refl, sym, ap, ◌∙◌, arith}
use Rattle.std.proofs.lemmas.Bool.{eqb-true}
use Rattle.hys_lex.specs.declared.token.TokenKind.{TokenKind}
use Rattle.hys_lex.specs.declared.token.TokenKind.TheVariants as token
use Rattle.hys_lex.specs.declared.sign.TheConstants as sign
use Rattle.hys_lex.specs.declared.keyword.TheConstants as keyword
use Rattle.hys_ast.specs.declared.place.Place.{Place}
use Rattle.hys_ast.specs.declared.lexeme.Lexeme.{Lexeme}
use Rattle.hys_ast.specs.declared.tree.UnaryOp.{UnaryOp}
use Rattle.hys_ast.specs.declared.tree.UnaryOp.TheVariants as unary
use Rattle.hys_ast.specs.declared.tree.BinaryOp.{BinaryOp}
use Rattle.hys_ast.specs.declared.level.Level.{Level}
use Rattle.hys_ast.specs.declared.level.Level.TheVariants as level
use Rattle.hys_ast.specs.Operators.{binary_of, level_of, groups, is_not, sign_of}
use Rattle.hys_ast.specs.Grammar.{Symbol, At, Behind, Negation, Signed, Atom, operand, truth_of, Is, Derives, chain, alone, pair, ended, joined, negated, compared, signed, unsigned, literal, name, truth, cast, group}
use Rattle.hys_ast.specs.Tree.{Tree}
use Rattle.hys_ast.specs.Tree as tree
use Rattle.hys_parse.specs.Reading.{choose, same_kind, same_level, after, joint, not_at, sign_at, cast_at, whole_at, group_at, atom_at, signed_at, tail_at, binary_at, compare_at, negation_at, operand_at, reader, nested}
use Rattle.hys_parse.specs.Sections.{expr_at}
use Rattle.hys_parse.proofs.Steps.{cond_is, expect_is, after_is, after_not}
use Rattle.hys_parse.proofs.Chains.{stays, single, step}

pub shrinks : (s : Symbol) (ts rest : List Lexeme) (e : Tree) → Derives s ts rest e → length rest ≤ length ts
shrinks (At n) ts rest e (chain {more = more} {a = a} g first later) = omega (arith, shrinks (operand n) ts more a first, shrinks (Behind n a) more rest e later)
shrinks (At n) ts rest e (alone g first) = shrinks (operand n) ts rest e first
shrinks (At n) ts rest _ (pair {next = next} {a = a} {b = b} op l g first k h later) = omega (arith, shrinks (operand n) ts (l ∷ next) a first, shrinks (operand n) next rest b later)
shrinks (Behind n a) ts _ _ ended = omega arith
shrinks (Behind n a) _ rest e (joined {next = next} {more = more} {b = b} op l k h first later) = omega (arith, shrinks (operand n) next more b first, shrinks (Behind n (tree.Binary op a b l.place)) more rest e later)
shrinks Negation _ rest _ (negated {next = next} {a = a} l k d) = omega (arith, shrinks Negation next rest a d)
shrinks Negation ts rest e (compared d) = shrinks (At level.Compare) ts rest e d
shrinks Signed _ rest _ (signed {next = next} {a = a} op l k d) = omega (arith, shrinks Signed next rest a d)
shrinks Signed ts rest e (unsigned d) = shrinks Atom ts rest e d
shrinks Atom _ rest _ (literal l k) = omega arith
shrinks Atom _ rest _ (name l k) = omega arith
shrinks Atom _ rest _ (truth l k v i t) = omega arith
shrinks Atom _ rest _ (cast o r l c i j k m) = omega arith
shrinks Atom _ rest e (group {next = next} o c i d k) = omega (arith, shrinks (At level.Arrow) next (c ∷ rest) e d)

-- How tightly what a symbol stands for holds together: an operator that binds less ends it.
abbrev pub rank : Level → ℕ
rank level.Arrow = 1
rank level.Or = 2
rank level.And = 3
rank level.Compare = 4
rank level.Sum = 5
rank level.Term = 6

abbrev pub rank_of : Symbol → ℕ
rank_of (At n) = rank n
rank_of (Behind n a) = rank n
rank_of Negation = 4
rank_of Signed = 7
rank_of Atom = 7

operand_rank : (n : Level) → rank_of (operand n) ≡ suc (rank n)
operand_rank level.Arrow = refl
operand_rank level.Or = refl
operand_rank level.And = refl
operand_rank level.Compare = refl
operand_rank level.Sum = refl
operand_rank level.Term = refl

abbrev pub op_rank : Option BinaryOp → ℕ
op_rank None = 0
op_rank (Some op) = rank (level_of op)

abbrev pub front_rank : List Lexeme → ℕ
front_rank [] = 0
front_rank (l ∷ ts) = op_rank (binary_of l.kind)

same_level_refl : (n : Level) → same_level n n ≡ true
same_level_refl level.Arrow = refl
same_level_refl level.Or = refl
same_level_refl level.And = refl
same_level_refl level.Compare = refl
same_level_refl level.Sum = refl
same_level_refl level.Term = refl

pub same_level_true : (m n : Level) → same_level m n ≡ true → m ≡ n
same_level_true level.Arrow level.Arrow e = refl
same_level_true level.Or level.Or e = refl
same_level_true level.And level.And e = refl
same_level_true level.Compare level.Compare e = refl
same_level_true level.Sum level.Sum e = refl
same_level_true level.Term level.Term e = refl
same_level_true _ _ e = absurd cc

joint_is : (n : Level) (l : Lexeme) (ts : List Lexeme) (op : BinaryOp) → binary_of l.kind ≡ Some op → level_of op ≡ n → joint n (l ∷ ts) ≡ Some (op, l.place, ts)
unfolding joint
joint_is n l ts op k h = rw (k, h, same_level_refl n) refl

differ : (m n : Level) → rank m < rank n → same_level m n ≡ false
differ m n less = go (same_level m n) refl
  where
    go : (b : Bool) → same_level m n ≡ b → b ≡ false
    go true e = absurd (omega (arith, ap rank (same_level_true m n e)))
    go false e = refl

joint_not : (n : Level) (ts : List Lexeme) → front_rank ts < rank n → joint n ts ≡ None
unfolding joint
joint_not n [] less = refl
joint_not n (l ∷ ts) less = go (binary_of l.kind) less
  where
    go : (o : Option BinaryOp) → op_rank o < rank n → choose {B = Option (BinaryOp × Place × List Lexeme)} o None (λ op. cond (same_level (level_of op) n) (Some (op, l.place, ts)) None) ≡ None
    go None h = refl
    go (Some op) h = rw (differ (level_of op) n h) refl

joined_rank : (n : Level) (l : Lexeme) (ts : List Lexeme) (op : BinaryOp) → binary_of l.kind ≡ Some op → level_of op ≡ n → front_rank (l ∷ ts) ≡ rank n
joined_rank n l ts op k h = ap op_rank k ∙ ap rank h

behind_rank : (n : Level) (a : Tree) (ts rest : List Lexeme) (e : Tree) → Derives (Behind n a) ts rest e → front_rank rest < rank n → front_rank ts < suc (rank n)
behind_rank n a ts _ _ ended less = omega arith
behind_rank n a _ rest e (joined {next = next} op l k h first later) less = omega (arith, joined_rank n l next op k h)

-- What stands at the front of a part of an expression.
abbrev pub arithmetic : Symbol → Bool
arithmetic (At level.Compare) = true
arithmetic (At level.Sum) = true
arithmetic (At level.Term) = true
arithmetic Signed = true
arithmetic Atom = true
arithmetic _ = false

pub record Front (s : Symbol) (ts : List Lexeme) : Type 0 where
  pub no_real : after (token.Keyword keyword.REAL) ts ≡ None
  pub no_brace : after (token.Sign sign.CLOSE_BRACE) ts ≡ None
  pub no_not : arithmetic s ≡ true → not_at ts ≡ None

abbrev pub Fronts : Symbol → List Lexeme → Type 0
Fronts (Behind n a) ts = Unit {0}
Fronts (At n) ts = Front (At n) ts
Fronts Negation ts = Front Negation ts
Fronts Signed ts = Front Signed ts
Fronts Atom ts = Front Atom ts

front_up : (n : Level) (ts : List Lexeme) → Fronts (operand n) ts → Front (At n) ts
front_up level.Arrow ts f = record { no_real = f.no_real; no_brace = f.no_brace; no_not = λ h. absurd cc }
front_up level.Or ts f = record { no_real = f.no_real; no_brace = f.no_brace; no_not = λ h. absurd cc }
front_up level.And ts f = record { no_real = f.no_real; no_brace = f.no_brace; no_not = λ h. absurd cc }
front_up level.Compare ts f = record { no_real = f.no_real; no_brace = f.no_brace; no_not = f.no_not }
front_up level.Sum ts f = record { no_real = f.no_real; no_brace = f.no_brace; no_not = f.no_not }
front_up level.Term ts f = record { no_real = f.no_real; no_brace = f.no_brace; no_not = f.no_not }

-- a token whose kind is neither REAL nor says not
front_of : (s : Symbol) (k : TokenKind) (l : Lexeme) (ts : List Lexeme) → Is k l → same_kind k (token.Keyword keyword.REAL) ≡ false → same_kind k (token.Sign sign.CLOSE_BRACE) ≡ false → is_not k ≡ false → Front s (l ∷ ts)
unfolding not_at
front_of s k l ts i r b n = record { no_real = after_not (token.Keyword keyword.REAL) k l ts i r; no_brace = after_not (token.Sign sign.CLOSE_BRACE) k l ts i b; no_not = λ h. rw (i, n) refl }

truth_not_real : (k : ℕ) (v : Bool) → truth_of k ≡ Some v → eqb k keyword.REAL ≡ false
truth_not_real k v t = go (eqb k keyword.REAL) refl
  where
    go : (b : Bool) → eqb k keyword.REAL ≡ b → b ≡ false
    go true e = let bad : truth_of keyword.REAL ≡ Some v = ap truth_of (sym (eqb-true k keyword.REAL e)) ∙ t in absurd cc
    go false e = refl

not_no_brace : (s : ℕ) → is_not (token.Sign s) ≡ true → eqb s sign.CLOSE_BRACE ≡ false
not_no_brace s e = go (eqb s sign.CLOSE_BRACE) refl
  where
    go : (b : Bool) → eqb s sign.CLOSE_BRACE ≡ b → b ≡ false
    go true h = let bad : is_not (token.Sign sign.CLOSE_BRACE) ≡ true = ap (λ (n : ℕ). is_not (token.Sign n)) (sym (eqb-true s sign.CLOSE_BRACE h)) ∙ e in absurd cc
    go false h = refl

sign_no_brace : (s : ℕ) (op : UnaryOp) → sign_of (token.Sign s) ≡ Some op → eqb s sign.CLOSE_BRACE ≡ false
sign_no_brace s op e = go (eqb s sign.CLOSE_BRACE) refl
  where
    go : (b : Bool) → eqb s sign.CLOSE_BRACE ≡ b → b ≡ false
    go true h = let bad : sign_of (token.Sign sign.CLOSE_BRACE) ≡ Some op = ap (λ (n : ℕ). sign_of (token.Sign n)) (sym (eqb-true s sign.CLOSE_BRACE h)) ∙ e in absurd cc
    go false h = refl

not_front : (l : Lexeme) (ts : List Lexeme) → is_not l.kind ≡ true → Front Negation (l ∷ ts)
not_front l ts h = go l.kind refl h
  where
    go : (k : TokenKind) → l.kind ≡ k → is_not k ≡ true → Front Negation (l ∷ ts)
    go token.Name i e = absurd cc
    go token.Literal i e = absurd cc
    go (token.Keyword k) i e = absurd cc
    go (token.Sign s) i e = record {
      no_real = after_not (token.Keyword keyword.REAL) (token.Sign s) l ts i refl;
      no_brace = after_not (token.Sign sign.CLOSE_BRACE) (token.Sign s) l ts i (not_no_brace s e);
      no_not = λ w. absurd cc;
    }

sign_is_not : (s : ℕ) (op : UnaryOp) → sign_of (token.Sign s) ≡ Some op → is_not (token.Sign s) ≡ false
sign_is_not s op e = elim (cond_is (eqb s sign.MINUS) _ _ _ e) [
  | inl w ↦ ap (λ (n : ℕ). is_not (token.Sign n)) (eqb-true s sign.MINUS w.0)
  | inr w ↦ elim (cond_is (eqb s sign.PLUS) _ _ _ w.1) [
    | inl v ↦ ap (λ (n : ℕ). is_not (token.Sign n)) (eqb-true s sign.PLUS v.0)
    | inr v ↦ absurd cc
  ]
]

sign_front : (op : UnaryOp) (l : Lexeme) (ts : List Lexeme) → sign_of l.kind ≡ Some op → Front Signed (l ∷ ts)
sign_front op l ts h = go l.kind refl h
  where
    go : (k : TokenKind) → l.kind ≡ k → sign_of k ≡ Some op → Front Signed (l ∷ ts)
    go token.Name i e = absurd cc
    go token.Literal i e = absurd cc
    go (token.Keyword k) i e = absurd cc
    go (token.Sign s) i e = front_of Signed (token.Sign s) l ts i refl (sign_no_brace s op e) (sign_is_not s op e)

pub fronts : (s : Symbol) (ts rest : List Lexeme) (e : Tree) → Derives s ts rest e → Fronts s ts
fronts (At n) ts rest e (chain {more = more} {a = a} g first later) = front_up n ts (fronts (operand n) ts more a first)
fronts (At n) ts rest e (alone g first) = front_up n ts (fronts (operand n) ts rest e first)
fronts (At n) ts rest _ (pair {next = next} {a = a} op l g first k h later) = front_up n ts (fronts (operand n) ts (l ∷ next) a first)
fronts (Behind n a) ts _ _ ended = tt
fronts (Behind n a) _ rest e (joined op l k h first later) = tt
fronts Negation _ rest _ (negated {next = next} l k d) = not_front l next k
fronts Negation ts rest e (compared d) = let f = fronts (At level.Compare) ts rest e d in record { no_real = f.no_real; no_brace = f.no_brace; no_not = λ h. absurd cc }
fronts Signed _ rest _ (signed {next = next} op l k d) = sign_front op l next k
fronts Signed ts rest e (unsigned d) = let f = fronts Atom ts rest e d in record { no_real = f.no_real; no_brace = f.no_brace; no_not = λ h. f.no_not refl }
fronts Atom _ rest _ (literal l k) = front_of Atom token.Literal l rest k refl refl refl
fronts Atom _ rest _ (name l k) = front_of Atom token.Name l rest k refl refl refl
fronts Atom _ rest _ (truth l k v i t) = front_of Atom (token.Keyword k) l rest i (truth_not_real k v t) refl refl
fronts Atom _ rest _ (cast o r l c i j k m) = front_of Atom (token.Sign sign.OPEN_PARENTHESIS) o (r ∷ l ∷ c ∷ rest) i refl refl refl
fronts Atom _ rest e (group {next = next} o c i d k) = front_of Atom (token.Sign sign.OPEN_PARENTHESIS) o next i refl refl refl

unsigned_kind : (k : TokenKind) (l : Lexeme) (ts : List Lexeme) → Is k l → sign_of k ≡ None → sign_at (l ∷ ts) ≡ None
unfolding sign_at
unsigned_kind k l ts i e = rw (i, e) refl

unsigned_atom : (ts rest : List Lexeme) (e : Tree) → Derives Atom ts rest e → sign_at ts ≡ None
unsigned_atom _ rest _ (literal l k) = unsigned_kind token.Literal l rest k refl
unsigned_atom _ rest _ (name l k) = unsigned_kind token.Name l rest k refl
unsigned_atom _ rest _ (truth l k v i t) = unsigned_kind (token.Keyword k) l rest i refl
unsigned_atom _ rest _ (cast o r l c i j k m) = unsigned_kind (token.Sign sign.OPEN_PARENTHESIS) o (r ∷ l ∷ c ∷ rest) i refl
unsigned_atom _ rest e (group {next = next} o c i d k) = unsigned_kind (token.Sign sign.OPEN_PARENTHESIS) o next i refl

-- What a derivation says of reading, with this much room.
abbrev Reads : ℕ → Symbol → List Lexeme → List Lexeme → Tree → Type 0
Reads room (At n) ts rest e = reader (nested room) (At n) ts ≡ Ok (e, rest)
Reads room (Behind n a) ts rest e = groups n ≡ true → (fuel : ℕ) → length ts ≤ fuel → tail_at n (operand_at (nested room) n) fuel a ts ≡ Ok (e, rest)
Reads room Negation ts rest e = reader (nested room) Negation ts ≡ Ok (e, rest)
Reads room Signed ts rest e = reader (nested room) Signed ts ≡ Ok (e, rest)
Reads room Atom ts rest e = reader (nested room) Atom ts ≡ Ok (e, rest)

operand_reads : (room : ℕ) (n : Level) (ts rest : List Lexeme) (e : Tree) → Reads room (operand n) ts rest e → operand_at (nested room) n ts ≡ Ok (e, rest)
unfolding reader operand_at compare_at
operand_reads room level.Arrow ts rest e r = r
operand_reads room level.Or ts rest e r = r
operand_reads room level.And ts rest e r = r
operand_reads room level.Compare ts rest e r = r
operand_reads room level.Sum ts rest e r = r
operand_reads room level.Term ts rest e r = r

deeper : (room : ℕ) (s : Symbol) (ts rest : List Lexeme) (e : Tree) → 0 < room → ((r : ℕ) → room ≡ suc r → reader (nested r) s ts ≡ Ok (e, rest)) → nested room s ts ≡ Ok (e, rest)
unfolding nested
deeper zero s ts rest e less f = absurd (omega arith)
deeper (suc r) s ts rest e less f = f r refl

chain_reads : (room : ℕ) (n : Level) (ts more rest : List Lexeme) (a e : Tree) → operand_at (nested room) n ts ≡ Ok (a, more) → tail_at n (operand_at (nested room) n) (length more) a more ≡ Ok (e, rest) → reader (nested room) (At n) ts ≡ Ok (e, rest)
unfolding reader binary_at
chain_reads room n ts more rest a e first later = rw (first, later) refl

joined_reads : (room : ℕ) (n : Level) (fuel : ℕ) (a b e : Tree) (op : BinaryOp) (l : Lexeme) (next more rest : List Lexeme) → suc (length next) ≤ fuel → length more ≤ length next → joint n (l ∷ next) ≡ Some (op, l.place, next) →
    operand_at (nested room) n next ≡ Ok (b, more) → groups n ≡ true → ((left : ℕ) → length more ≤ left → tail_at n (operand_at (nested room) n) left (tree.Binary op a b l.place) more ≡ Ok (e, rest)) → tail_at n (operand_at (nested room) n) fuel a (l ∷ next) ≡ Ok (e, rest)
joined_reads room n zero a b e op l next more rest enough less j one g two = absurd (omega arith)
joined_reads room n (suc fuel) a b e op l next more rest enough less j one g two =
    step n (operand_at (nested room) n) fuel a b (l ∷ next) next more op l.place j one g ∙ two fuel (omega arith)

not_reads : (room : ℕ) (l : Lexeme) (next rest : List Lexeme) (a : Tree) → is_not l.kind ≡ true → nested room Negation next ≡ Ok (a, rest) → reader (nested room) Negation (l ∷ next) ≡ Ok (tree.Unary unary.Not a l.place, rest)
unfolding reader negation_at not_at
not_reads room l next rest a k d = rw (k, d) refl

compared_reads : (room : ℕ) (ts rest : List Lexeme) (a : Tree) → not_at ts ≡ None → reader (nested room) (At level.Compare) ts ≡ Ok (a, rest) → reader (nested room) Negation ts ≡ Ok (a, rest)
unfolding reader negation_at compare_at operand_at
compared_reads room ts rest a n d = rw (n, d) refl

signed_reads : (room : ℕ) (op : UnaryOp) (l : Lexeme) (next rest : List Lexeme) (a : Tree) → sign_of l.kind ≡ Some op → nested room Signed next ≡ Ok (a, rest) → reader (nested room) Signed (l ∷ next) ≡ Ok (tree.Unary op a l.place, rest)
unfolding reader signed_at sign_at
signed_reads room op l next rest a k d = rw (k, d) refl

unsigned_reads : (room : ℕ) (ts rest : List Lexeme) (a : Tree) → sign_at ts ≡ None → reader (nested room) Atom ts ≡ Ok (a, rest) → reader (nested room) Signed ts ≡ Ok (a, rest)
unfolding reader signed_at
unsigned_reads room ts rest a n d = rw (n, d) refl

literal_reads : (room : ℕ) (l : Lexeme) (rest : List Lexeme) → Is token.Literal l → reader (nested room) Atom (l ∷ rest) ≡ Ok (tree.Number l.text l.place, rest)
unfolding reader atom_at
literal_reads room l rest k = rw k refl

name_reads : (room : ℕ) (l : Lexeme) (rest : List Lexeme) → Is token.Name l → reader (nested room) Atom (l ∷ rest) ≡ Ok (tree.Name l.text l.place, rest)
unfolding reader atom_at
name_reads room l rest k = rw k refl

truth_reads : (room : ℕ) (l : Lexeme) (k : ℕ) (v : Bool) (rest : List Lexeme) → Is (token.Keyword k) l → truth_of k ≡ Some v → reader (nested room) Atom (l ∷ rest) ≡ Ok (tree.Truth v l.place, rest)
unfolding reader atom_at
truth_reads room l k v rest i t = rw (i, t) refl

cast_reads : (room : ℕ) (o r l c : Lexeme) (rest : List Lexeme) → Is (token.Sign sign.OPEN_PARENTHESIS) o → Is (token.Keyword keyword.REAL) r → Is token.Name l → Is (token.Sign sign.CLOSE_PARENTHESIS) c →
    reader (nested room) Atom (o ∷ r ∷ l ∷ c ∷ rest) ≡ Ok (tree.Cast l.text l.place, rest)
unfolding reader atom_at group_at cast_at
cast_reads room o r l c rest i j k m = rw (i, after_is (token.Keyword keyword.REAL) r (l ∷ c ∷ rest) j, expect_is token.Name l (c ∷ rest) k, expect_is (token.Sign sign.CLOSE_PARENTHESIS) c rest m) refl

group_reads : (room : ℕ) (o c : Lexeme) (next rest : List Lexeme) (e : Tree) → Is (token.Sign sign.OPEN_PARENTHESIS) o → after (token.Keyword keyword.REAL) next ≡ None → nested room (At level.Arrow) next ≡ Ok (e, c ∷ rest) → Is (token.Sign sign.CLOSE_PARENTHESIS) c →
    reader (nested room) Atom (o ∷ next) ≡ Ok (e, rest)
unfolding reader atom_at group_at whole_at
group_reads room o c next rest e i n d m = rw (i, n, d, expect_is (token.Sign sign.CLOSE_PARENTHESIS) c rest m) refl

pub closes : (k : TokenKind) (l : Lexeme) (ts : List Lexeme) → Is k l → binary_of k ≡ None → front_rank (l ∷ ts) < 1
closes k l ts i e = omega (arith, ap (λ (j : TokenKind). op_rank (binary_of j)) i, ap op_rank e)

pub complete : (s : Symbol) (ts rest : List Lexeme) (e : Tree) → Derives s ts rest e → (room : ℕ) → length ts ≤ room → front_rank rest < rank_of s → Reads room s ts rest e
complete (At n) ts rest e (chain {more = more} {a = a} g first later) room fits stops =
    let middle : front_rank more < suc (rank n) = behind_rank n a more rest e later stops in
    let one = operand_reads room n ts more a (complete (operand n) ts more a first room fits (omega (arith, operand_rank n))) in
    let two = complete (Behind n a) more rest e later room (omega (arith, shrinks (operand n) ts more a first)) stops g (length more) (omega arith) in
    chain_reads room n ts more rest a e one two
complete (At n) ts rest e (alone g first) room fits stops =
    let one = operand_reads room n ts rest e (complete (operand n) ts rest e first room fits (omega (arith, operand_rank n))) in
    chain_reads room n ts rest rest e e one (stays n (operand_at (nested room) n) (length rest) e rest (joint_not n rest stops))
complete (At n) ts rest _ (pair {next = next} {a = a} {b = b} op l g first k h later) room fits stops =
    let one = operand_reads room n ts (l ∷ next) a (complete (operand n) ts (l ∷ next) a first room fits (omega (arith, operand_rank n, joined_rank n l next op k h))) in
    let two = operand_reads room n next rest b (complete (operand n) next rest b later room (omega (arith, shrinks (operand n) ts (l ∷ next) a first)) (omega (arith, operand_rank n))) in
    chain_reads room n ts (l ∷ next) rest a (tree.Binary op a b l.place) one
    (single n (operand_at (nested room) n) (length next) a b (l ∷ next) next rest op l.place (joint_is n l next op k h) two g)
complete (Behind n a) ts _ _ ended room fits stops = λ g fuel enough. stays n (operand_at (nested room) n) fuel a ts (joint_not n ts stops)
complete (Behind n a) _ rest e (joined {next = next} {more = more} {b = b} op l k h first later) room fits stops = λ g fuel enough.
    let middle : front_rank more < suc (rank n) = behind_rank n (tree.Binary op a b l.place) more rest e later stops in
    let one = operand_reads room n next more b (complete (operand n) next more b first room (omega arith) (omega (arith, operand_rank n))) in
    let less : length more ≤ length next = shrinks (operand n) next more b first in
    let two = complete (Behind n (tree.Binary op a b l.place)) more rest e later room (omega arith) stops g in
    joined_reads room n fuel a b e op l next more rest enough less (joint_is n l next op k h) one g two
complete Negation _ rest _ (negated {next = next} {a = a} l k d) room fits stops =
    not_reads room l next rest a k (deeper room Negation next rest a (omega arith) (λ r same. complete Negation next rest a d r (omega arith) stops))
complete Negation ts rest e (compared d) room fits stops = compared_reads room ts rest e ((fronts (At level.Compare) ts rest e d).no_not refl) (complete (At level.Compare) ts rest e d room fits stops)
complete Signed _ rest _ (signed {next = next} {a = a} op l k d) room fits stops =
    signed_reads room op l next rest a k (deeper room Signed next rest a (omega arith) (λ r same. complete Signed next rest a d r (omega arith) stops))
complete Signed ts rest e (unsigned d) room fits stops = unsigned_reads room ts rest e (unsigned_atom ts rest e d) (complete Atom ts rest e d room fits stops)
complete Atom _ rest _ (literal l k) room fits stops = literal_reads room l rest k
complete Atom _ rest _ (name l k) room fits stops = name_reads room l rest k
complete Atom _ rest _ (truth l k v i t) room fits stops = truth_reads room l k v rest i t
complete Atom _ rest _ (cast o r l c i j k m) room fits stops = cast_reads room o r l c rest i j k m
complete Atom _ rest e (group {next = next} o c i d k) room fits stops =
    group_reads room o c next rest e i (fronts (At level.Arrow) next (c ∷ rest) e d).no_real
    (deeper room (At level.Arrow) next (c ∷ rest) e (omega arith) (λ r same. complete (At level.Arrow) next (c ∷ rest) e d r (omega arith) (closes (token.Sign sign.CLOSE_PARENTHESIS) c rest k refl))) k

pub expr_complete : (room : ℕ) (ts rest : List Lexeme) (e : Tree) → Derives (At level.Arrow) ts rest e → length ts ≤ room → front_rank rest < 1 → expr_at room ts ≡ Ok (e, rest)
unfolding expr_at reader
expr_complete room ts rest e d fits stops = complete (At level.Arrow) ts rest e d room fits stops
