-- What the readers of expressions read is derived.
use Rattle.std.proofs.Common.{◌≡◌, ℕ, zero, suc, Bool, true, false, eqb, List, [], ◌∷◌, length, Some, None, Ok, inl, inr, refl, ap, subst, ◌∙◌}
use Rattle.std.proofs.lemmas.Bool.{eqb-true}
use Rattle.hys_lex.specs.declared.token.TokenKind.{TokenKind}
use Rattle.hys_lex.specs.declared.token.TokenKind.TheVariants as token
use Rattle.hys_lex.specs.declared.sign.TheConstants as sign
use Rattle.hys_lex.specs.declared.keyword.TheConstants as keyword
use Rattle.hys_ast.specs.declared.place.Place.{Place}
use Rattle.hys_ast.specs.declared.lexeme.Lexeme.{Lexeme}
use Rattle.hys_ast.specs.declared.tree.UnaryOp.{UnaryOp}
use Rattle.hys_ast.specs.declared.tree.UnaryOp.TheVariants as unary
use Rattle.hys_ast.specs.declared.tree.BinaryOp.{BinaryOp}
use Rattle.hys_ast.specs.declared.level.Level.{Level}
use Rattle.hys_ast.specs.declared.level.Level.TheVariants as level
use Rattle.hys_ast.specs.Operators.{binary_of, level_of, groups, is_not, sign_of}
use Rattle.hys_ast.specs.Grammar.{Symbol, At, Behind, Negation, Signed, Atom, operand, truth_of, Is, Derives, chain, alone, pair, ended, joined, negated, compared, signed, unsigned, literal, name, truth, cast, group}
use Rattle.hys_ast.specs.Tree.{Tree}
use Rattle.hys_ast.specs.Tree as tree
use Rattle.hys_parse.specs.Reading.{Read, same_level, after, joint, not_at, sign_at, cast_at, whole_at, group_at, atom_of, atom_at, signed_at, tail_at, binary_at, compare_at, negation_at, operand_at, reader, nested}
use Rattle.hys_parse.specs.Sections.{expr_at}
use Rattle.hys_parse.proofs.Steps.{bind_ok, ok_is, choose_is, cond_is, if_true, if_false, expect_then, after_then}

abbrev pub Sound : Symbol → (List Lexeme → Read Tree) → Type 0
Sound s read = (ts : List Lexeme) (p : Tree × List Lexeme) → read ts ≡ Ok p → Derives s ts p.1 p.0

-- No parenthesis and no sign asks for the rest of a chain.
abbrev pub Asked : Symbol → Type 0
Asked (At n) = Unit {0}
Asked (Behind n a) = ⊥
Asked Negation = Unit {0}
Asked Signed = Unit {0}
Asked Atom = Unit {0}

abbrev pub AllSound : (Symbol → List Lexeme → Read Tree) → Type 0
AllSound inner = (s : Symbol) → Asked s → Sound s (inner s)

same_level_true : (m n : Level) → same_level m n ≡ true → m ≡ n
same_level_true level.Arrow level.Arrow e = refl
same_level_true level.Or level.Or e = refl
same_level_true level.And level.And e = refl
same_level_true level.Compare level.Compare e = refl
same_level_true level.Sum level.Sum e = refl
same_level_true level.Term level.Term e = refl
same_level_true _ _ e = absurd cc

record Joint (n : Level) (ts : List Lexeme) (p : BinaryOp × Place × List Lexeme) : Type 0 where
  sign : Lexeme
  is : ts ≡ sign ∷ p.2
  op : binary_of sign.kind ≡ Some p.0
  at : level_of p.0 ≡ n
  place : p.1 ≡ sign.place

joint_made : (n : Level) (l : Lexeme) (ts : List Lexeme) (op : BinaryOp) (p : BinaryOp × Place × List Lexeme) → binary_of l.kind ≡ Some op → level_of op ≡ n → (op, l.place, ts) ≡ p → Joint n (l ∷ ts) p
joint_made n l ts op p k h e = rw (← e) (record { sign = l; is = refl; op = k; at = h; place = refl })

joint_then : (n : Level) (ts : List Lexeme) (p : BinaryOp × Place × List Lexeme) → joint n ts ≡ Some p → Joint n ts p
unfolding joint
joint_then n [] p e = absurd cc
joint_then n (l ∷ ts) p e = elim (choose_is (binary_of l.kind) _ _ _ e) [
  | inl w ↦ absurd cc
  | inr w ↦ elim (cond_is (same_level (level_of w.0) n) _ _ _ w.2) [
    | inl v ↦ joint_made n l ts w.0 p w.1 (same_level_true (level_of w.0) n v.0) cc
    | inr v ↦ absurd cc
  ]
]

cast_is : (opening real l closing : Lexeme) (ts more rest : List Lexeme) (p : Tree × List Lexeme) → Is (token.Sign sign.OPEN_PARENTHESIS) opening → Is (token.Keyword keyword.REAL) real →
    Is token.Name l → Is (token.Sign sign.CLOSE_PARENTHESIS) closing → ts ≡ l ∷ more → more ≡ closing ∷ rest → (tree.Cast l.text l.place, rest) ≡ p → Derives Atom (opening ∷ real ∷ ts) p.1 p.0
cast_is opening real l closing ts more rest p o r k c a b q = rw (← q, a, b) (cast opening real l closing o r k c)

cast_sound : (opening real : Lexeme) (ts : List Lexeme) (p : Tree × List Lexeme) → Is (token.Sign sign.OPEN_PARENTHESIS) opening → Is (token.Keyword keyword.REAL) real → cast_at ts ≡ Ok p → Derives Atom (opening ∷ real ∷ ts) p.1 p.0
unfolding cast_at
cast_sound opening real ts p o r e =
    let a = expect_then token.Name ts _ p e in
    let b = expect_then (token.Sign sign.CLOSE_PARENTHESIS) a.rest _ p a.next in
    let q = ok_is (tree.Cast a.first.text a.first.place, b.rest) p b.next in
    cast_is opening real a.first b.first ts a.rest b.rest p o r a.kind b.kind a.is b.is q

whole_sound : (inner : Symbol → List Lexeme → Read Tree) → AllSound inner → (opening : Lexeme) (ts : List Lexeme) (p : Tree × List Lexeme) → Is (token.Sign sign.OPEN_PARENTHESIS) opening → whole_at inner ts ≡ Ok p → Derives Atom (opening ∷ ts) p.1 p.0
unfolding whole_at
whole_sound inner sound opening ts p o e =
    let a = bind_ok (inner (At level.Arrow) ts) _ p e in
    let b = expect_then (token.Sign sign.CLOSE_PARENTHESIS) a.0.1 _ p a.2 in
    let q = ok_is (a.0.0, b.rest) p b.next in
    let d : Derives (At level.Arrow) ts a.0.1 a.0.0 = sound (At level.Arrow) tt ts a.0 a.1 in
    let whole : Derives (At level.Arrow) ts (b.first ∷ b.rest) a.0.0 = rw b.is at d in
    rw (← q) (group opening b.first o whole b.kind)

group_sound : (inner : Symbol → List Lexeme → Read Tree) → AllSound inner → (opening : Lexeme) (ts : List Lexeme) (p : Tree × List Lexeme) → Is (token.Sign sign.OPEN_PARENTHESIS) opening → group_at inner ts ≡ Ok p → Derives Atom (opening ∷ ts) p.1 p.0
unfolding group_at
group_sound inner sound opening ts p o e = elim (choose_is (after (token.Keyword keyword.REAL) ts) (whole_at inner ts) cast_at (Ok p) e) [
  | inl h ↦ whole_sound inner sound opening ts p o h.1
  | inr h ↦ let t = after_then (token.Keyword keyword.REAL) ts h.0 h.1 in rw t.1 (cast_sound opening t.0 h.0 p o t.2 h.2)
]

atom_sound : (inner : Symbol → List Lexeme → Read Tree) → AllSound inner → Sound Atom (atom_at inner)
unfolding atom_at
atom_sound inner sound [] p e = absurd cc
atom_sound inner sound (l ∷ ts) p e = go l.kind refl e
  where
    go : (k : TokenKind) → l.kind ≡ k → atom_of inner l ts k ≡ Ok p → Derives Atom (l ∷ ts) p.1 p.0
    go token.Literal h e = rw (← ok_is (tree.Number l.text l.place, ts) p e) (literal l h)
    go token.Name h e = rw (← ok_is (tree.Name l.text l.place, ts) p e) (name l h)
    go (token.Keyword k) h e = elim (choose_is (truth_of k) _ _ _ e) [
      | inl w ↦ absurd cc
      | inr w ↦ rw (← ok_is (tree.Truth w.0 l.place, ts) p w.2) (truth l k w.0 h w.1)
    ]
    go (token.Sign s) h e = elim (cond_is (eqb s sign.OPEN_PARENTHESIS) _ _ _ e) [
      | inl w ↦ group_sound inner sound l ts p (h ∙ ap token.Sign (eqb-true s sign.OPEN_PARENTHESIS w.0)) w.1
      | inr w ↦ absurd cc
    ]

record SignAt (ts : List Lexeme) (p : UnaryOp × Place × List Lexeme) : Type 0 where
  sign : Lexeme
  is : ts ≡ sign ∷ p.2
  op : sign_of sign.kind ≡ Some p.0
  place : p.1 ≡ sign.place

sign_made : (l : Lexeme) (ts : List Lexeme) (op : UnaryOp) (p : UnaryOp × Place × List Lexeme) → sign_of l.kind ≡ Some op → (op, l.place, ts) ≡ p → SignAt (l ∷ ts) p
sign_made l ts op p k e = rw (← e) (record { sign = l; is = refl; op = k; place = refl })

signed_is : (op : UnaryOp) (l : Lexeme) (place : Place) (ts next rest : List Lexeme) (a : Tree) (p : Tree × List Lexeme) → sign_of l.kind ≡ Some op → ts ≡ l ∷ next → place ≡ l.place →
    Derives Signed next rest a → (tree.Unary op a place, rest) ≡ p → Derives Signed ts p.1 p.0
signed_is op l place ts next rest a p k is at d q = rw (← q, at, is) (signed op l k d)

sign_then : (ts : List Lexeme) (p : UnaryOp × Place × List Lexeme) → sign_at ts ≡ Some p → SignAt ts p
unfolding sign_at
sign_then [] p e = absurd cc
sign_then (l ∷ ts) p e = elim (choose_is (sign_of l.kind) _ _ _ e) [
  | inl w ↦ absurd cc
  | inr w ↦ sign_made l ts w.0 p w.1 cc
]

signed_sound : (inner : Symbol → List Lexeme → Read Tree) → AllSound inner → Sound Signed (signed_at inner)
unfolding signed_at
signed_sound inner sound ts p e = elim (choose_is (sign_at ts) _ _ _ e) [
  | inl w ↦ unsigned (atom_sound inner sound ts p w.1)
  | inr w ↦
      let s = sign_then ts w.0 w.1 in
      let a = bind_ok (inner Signed w.0.2) _ p w.2 in
      let q = ok_is (tree.Unary w.0.0 a.0.0 w.0.1, a.0.1) p a.2 in
      signed_is w.0.0 s.sign w.0.1 ts w.0.2 a.0.1 a.0.0 p s.op s.is s.place (sound Signed tt w.0.2 a.0 a.1) q
]

joined_is : (n : Level) (op : BinaryOp) (l : Lexeme) (place : Place) (ts next more : List Lexeme) (a b : Tree) (p : Tree × List Lexeme) → binary_of l.kind ≡ Some op → level_of op ≡ n → ts ≡ l ∷ next → place ≡ l.place →
    Derives (operand n) next more b → Derives (Behind n (tree.Binary op a b place)) more p.1 p.0 → Derives (Behind n a) ts p.1 p.0
joined_is n op l place ts next more a b p k h is at d later =
    let P : Place → Type 0 = λ x. Derives (Behind n (tree.Binary op a b x)) more p.1 p.0 in rw is (joined op l k h d (subst P at later))

pair_is : (n : Level) (op : BinaryOp) (l : Lexeme) (place : Place) (ts more next rest : List Lexeme) (a b : Tree) (p : Tree × List Lexeme) → groups n ≡ false → binary_of l.kind ≡ Some op → level_of op ≡ n → more ≡ l ∷ next → place ≡ l.place →
    Derives (operand n) ts more a → Derives (operand n) next rest b → (tree.Binary op a b place, rest) ≡ p → Derives (At n) ts p.1 p.0
pair_is n op l place ts more next rest a b p g k h is at d later q =
    let P : List Lexeme → Type 0 = λ x. Derives (operand n) ts x a in rw (← q, at) (pair op l g (subst P is d) k h later)

tail_sound : (n : Level) (read : List Lexeme → Read Tree) → groups n ≡ true → Sound (operand n) read → (fuel : ℕ) (a : Tree) (ts : List Lexeme) (p : Tree × List Lexeme) → tail_at n read fuel a ts ≡ Ok p → Derives (Behind n a) ts p.1 p.0
unfolding tail_at
tail_sound n read g sound zero a ts p e = rw (← ok_is (a, ts) p e) ended
tail_sound n read g sound (suc fuel) a ts p e = elim (choose_is (joint n ts) _ _ _ e) [
  | inl w ↦ rw (← ok_is (a, ts) p w.1) ended
  | inr w ↦
      let j = joint_then n ts w.0 w.1 in
      let b = bind_ok (read w.0.2) _ p w.2 in
      let rest = if_true (groups n) _ _ _ g b.2 in
      joined_is n w.0.0 j.sign w.0.1 ts w.0.2 b.0.1 a b.0.0 p j.op j.at j.is j.place (sound w.0.2 b.0 b.1) (tail_sound n read g sound fuel (tree.Binary w.0.0 a b.0.0 w.0.1) b.0.1 p rest)
]

once_sound : (n : Level) (read : List Lexeme → Read Tree) → groups n ≡ false → Sound (operand n) read → (fuel : ℕ) (a : Tree) (ts more : List Lexeme) (p : Tree × List Lexeme) → Derives (operand n) ts more a → tail_at n read fuel a more ≡ Ok p → Derives (At n) ts p.1 p.0
unfolding tail_at
once_sound n read g sound zero a ts more p d e = rw (← ok_is (a, more) p e) (alone g d)
once_sound n read g sound (suc fuel) a ts more p d e = elim (choose_is (joint n more) _ _ _ e) [
  | inl w ↦ rw (← ok_is (a, more) p w.1) (alone g d)
  | inr w ↦
      let j = joint_then n more w.0 w.1 in
      let b = bind_ok (read w.0.2) _ p w.2 in
      let last = if_false (groups n) _ _ _ g b.2 in
      pair_is n w.0.0 j.sign w.0.1 ts more w.0.2 b.0.1 a b.0.0 p g j.op j.at j.is j.place d (sound w.0.2 b.0 b.1) (ok_is (tree.Binary w.0.0 a b.0.0 w.0.1, b.0.1) p last)
]

binary_sound : (n : Level) (read : List Lexeme → Read Tree) → Sound (operand n) read → Sound (At n) (binary_at n read)
unfolding binary_at
binary_sound n read sound ts p e = go (groups n) refl
  where
    go : (b : Bool) → groups n ≡ b → Derives (At n) ts p.1 p.0
    go true g = let a = bind_ok (read ts) (λ q. tail_at n read (length q.1) q.0 q.1) p e in chain g (sound ts a.0 a.1) (tail_sound n read g sound (length a.0.1) a.0.0 a.0.1 p a.2)
    go false g = let a = bind_ok (read ts) (λ q. tail_at n read (length q.1) q.0 q.1) p e in once_sound n read g sound (length a.0.1) a.0.0 ts a.0.1 p (sound ts a.0 a.1) a.2

compare_sound : (inner : Symbol → List Lexeme → Read Tree) → AllSound inner → Sound (At level.Compare) (compare_at inner)
unfolding compare_at
compare_sound inner sound = binary_sound level.Compare _ (binary_sound level.Sum _ (binary_sound level.Term _ (signed_sound inner sound)))

record NotAt (ts : List Lexeme) (p : Place × List Lexeme) : Type 0 where
  sign : Lexeme
  is : ts ≡ sign ∷ p.1
  op : is_not sign.kind ≡ true
  place : p.0 ≡ sign.place

not_made : (l : Lexeme) (ts : List Lexeme) (p : Place × List Lexeme) → is_not l.kind ≡ true → (l.place, ts) ≡ p → NotAt (l ∷ ts) p
not_made l ts p k e = rw (← e) (record { sign = l; is = refl; op = k; place = refl })

negated_is : (l : Lexeme) (place : Place) (ts next rest : List Lexeme) (a : Tree) (p : Tree × List Lexeme) → is_not l.kind ≡ true → ts ≡ l ∷ next → place ≡ l.place →
    Derives Negation next rest a → (tree.Unary unary.Not a place, rest) ≡ p → Derives Negation ts p.1 p.0
negated_is l place ts next rest a p k is at d q = rw (← q, at, is) (negated l k d)

not_then : (ts : List Lexeme) (p : Place × List Lexeme) → not_at ts ≡ Some p → NotAt ts p
unfolding not_at
not_then [] p e = absurd cc
not_then (l ∷ ts) p e = elim (cond_is (is_not l.kind) (Some (l.place, ts)) None (Some p) e) [
  | inl w ↦ not_made l ts p w.0 cc
  | inr w ↦ absurd cc
]

negation_sound : (inner : Symbol → List Lexeme → Read Tree) → AllSound inner → Sound Negation (negation_at inner)
unfolding negation_at
negation_sound inner sound ts p e = elim (choose_is (not_at ts) _ _ _ e) [
  | inl w ↦ compared (compare_sound inner sound ts p w.1)
  | inr w ↦
      let s = not_then ts w.0 w.1 in
      let a = bind_ok (inner Negation w.0.1) _ p w.2 in
      let q = ok_is (tree.Unary unary.Not a.0.0 w.0.0, a.0.1) p a.2 in
      negated_is s.sign w.0.0 ts w.0.1 a.0.1 a.0.0 p s.op s.is s.place (sound Negation tt w.0.1 a.0 a.1) q
]

operand_sound : (inner : Symbol → List Lexeme → Read Tree) → AllSound inner → (n : Level) → Sound (operand n) (operand_at inner n)
unfolding operand_at
operand_sound inner sound level.Arrow = binary_sound level.Or _ (binary_sound level.And _ (negation_sound inner sound))
operand_sound inner sound level.Or = binary_sound level.And _ (negation_sound inner sound)
operand_sound inner sound level.And = negation_sound inner sound
operand_sound inner sound level.Compare = binary_sound level.Sum _ (binary_sound level.Term _ (signed_sound inner sound))
operand_sound inner sound level.Sum = binary_sound level.Term _ (signed_sound inner sound)
operand_sound inner sound level.Term = signed_sound inner sound

pub nested_sound : (room : ℕ) → AllSound (nested room)
unfolding nested reader
nested_sound zero s asked ts p e = absurd cc
nested_sound (suc room) (At n) asked ts p e = binary_sound n (operand_at (nested room) n) (operand_sound (nested room) (nested_sound room) n) ts p e
nested_sound (suc room) (Behind n a) asked ts p e = absurd asked
nested_sound (suc room) Negation asked ts p e = negation_sound (nested room) (nested_sound room) ts p e
nested_sound (suc room) Signed asked ts p e = signed_sound (nested room) (nested_sound room) ts p e
nested_sound (suc room) Atom asked ts p e = atom_sound (nested room) (nested_sound room) ts p e

pub expr_sound : (room : ℕ) → Sound (At level.Arrow) (expr_at room)
unfolding expr_at
expr_sound room = binary_sound level.Arrow (operand_at (nested room) level.Arrow) (operand_sound (nested room) (nested_sound room) level.Arrow)
