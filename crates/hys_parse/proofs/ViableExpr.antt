-- Expressions can be made whole.
use Rattle.std.proofs.Common.{◌≡◌, ℕ, zero, suc, Bool, true, false, eqb, cond, List, [], ◌∷◌, length, Option, Some, None, Ok, Err, refl, ap, ◌∙◌}
use Rattle.std.proofs.lemmas.Bool.{eqb-true}
use Rattle.hys_lex.specs.declared.token.TokenKind.{TokenKind}
use Rattle.hys_lex.specs.declared.token.TokenKind.TheVariants as token
use Rattle.hys_lex.specs.declared.sign.TheConstants as sign
use Rattle.hys_lex.specs.declared.keyword.TheConstants as keyword
use Rattle.hys_ast.specs.declared.place.Place.{Place}
use Rattle.hys_ast.specs.declared.lexeme.Lexeme.{Lexeme}
use Rattle.hys_ast.specs.declared.tree.UnaryOp.{UnaryOp}
use Rattle.hys_ast.specs.declared.tree.UnaryOp.TheVariants as unary
use Rattle.hys_ast.specs.declared.tree.BinaryOp.{BinaryOp}
use Rattle.hys_ast.specs.declared.level.Level.{Level}
use Rattle.hys_ast.specs.declared.level.Level.TheVariants as level
use Rattle.hys_ast.specs.Operators.{binary_of, level_of, groups, is_not, sign_of}
use Rattle.hys_ast.specs.Grammar.{Symbol, At, Behind, Negation, Signed, Atom, operand, truth_of, Is, Derives, DerivesExpr, chain, alone, pair, ended, joined, negated, compared, signed, unsigned, literal, name, truth, cast, group}
use Rattle.hys_ast.specs.Tree.{Tree}
use Rattle.hys_ast.specs.Tree as tree
use Rattle.hys_parse.specs.Reading.{Read, ◌>>=◌, choose, same_level, joint, not_at, sign_at, cast_at, whole_at, group_at, atom_of, atom_at, signed_at, tail_at, binary_at, compare_at, negation_at, operand_at, reader, nested}
use Rattle.hys_parse.specs.Sections.{expr_at}
use Rattle.hys_parse.proofs.Complete.{same_level_true}
use Rattle.hys_parse.proofs.Viable.{Front, one, Viable, Some_are, at_once, answers, behind, mapped, next, sample, next_is, maybe_is}

-- each part of an expression may be a name
abbrev pub a_name : Lexeme
a_name = sample token.Name

abbrev pub its_tree : Tree
its_tree = tree.Name a_name.text a_name.place

signed_name : (b : List Lexeme) → Derives Signed (a_name ∷ b) b its_tree
signed_name b = unsigned (name a_name refl)

term_name : (b : List Lexeme) → Derives (At level.Term) (a_name ∷ b) b its_tree
term_name b = chain refl (signed_name b) ended

sum_name : (b : List Lexeme) → Derives (At level.Sum) (a_name ∷ b) b its_tree
sum_name b = chain refl (term_name b) ended

compare_name : (b : List Lexeme) → Derives (At level.Compare) (a_name ∷ b) b its_tree
compare_name b = alone refl (sum_name b)

and_name : (b : List Lexeme) → Derives (At level.And) (a_name ∷ b) b its_tree
and_name b = chain refl (compared (compare_name b)) ended

or_name : (b : List Lexeme) → Derives (At level.Or) (a_name ∷ b) b its_tree
or_name b = chain refl (and_name b) ended

pub level_name : (v : Level) (b : List Lexeme) → Derives (At v) (a_name ∷ b) b its_tree
level_name level.Arrow b = alone refl (or_name b)
level_name level.Or b = or_name b
level_name level.And b = and_name b
level_name level.Compare b = compare_name b
level_name level.Sum b = sum_name b
level_name level.Term b = term_name b

some_of : (s : Symbol) → Some_are (Derives s)
some_of (At v) = record { front = one a_name; tree = its_tree; derives = level_name v }
some_of (Behind v a) = record { front = record { put = λ b. b; list = []; same = λ b. refl }; tree = a; derives = λ b. ended }
some_of Negation = record { front = one a_name; tree = its_tree; derives = λ b. compared (compare_name b) }
some_of Signed = record { front = one a_name; tree = its_tree; derives = signed_name }
some_of Atom = record { front = one a_name; tree = its_tree; derives = λ b. name a_name refl }

abbrev pub AllViable : (Symbol → List Lexeme → Read Tree) → Type 0
AllViable inner = (s : Symbol) (ls : List Lexeme) → Viable (Derives s) ls (inner s ls)

cast_viable : (o r : Lexeme) (ls : List Lexeme) → Is (token.Sign sign.OPEN_PARENTHESIS) o → Is (token.Keyword keyword.REAL) r → Viable (λ ts rest e. Derives Atom (o ∷ r ∷ ts) rest e) ls (cast_at ls)
unfolding cast_at
cast_viable o r ls i j = next_is token.Name ls _ (λ l us k. next_is (token.Sign sign.CLOSE_PARENTHESIS) us _ (λ c vs m. answers vs (λ b. cast o r l c i j k m)))

whole_viable : (inner : Symbol → List Lexeme → Read Tree) → AllViable inner → (o : Lexeme) (ls : List Lexeme) → Is (token.Sign sign.OPEN_PARENTHESIS) o → Viable (λ ts rest e. Derives Atom (o ∷ ts) rest e) ls (whole_at inner ls)
unfolding whole_at
whole_viable inner all o ls i = next {C = Derives (At level.Arrow)} _ (all (At level.Arrow) ls) (λ e f us d. next_is (token.Sign sign.CLOSE_PARENTHESIS) us _ (λ c vs k. answers vs (λ b. group o c i (d (c ∷ b)) k)))

group_viable : (inner : Symbol → List Lexeme → Read Tree) → AllViable inner → (o : Lexeme) (ls : List Lexeme) → Is (token.Sign sign.OPEN_PARENTHESIS) o → Viable (λ ts rest e. Derives Atom (o ∷ ts) rest e) ls (group_at inner ls)
unfolding group_at
group_viable inner all o ls i = maybe_is (token.Keyword keyword.REAL) ls _ _ (whole_viable inner all o ls i) (λ r us j. cast_viable o r us i j)

atom_viable : (inner : Symbol → List Lexeme → Read Tree) → AllViable inner → (ls : List Lexeme) → Viable (Derives Atom) ls (atom_at inner ls)
unfolding atom_at
atom_viable inner all [] = at_once (some_of Atom) []
atom_viable inner all (l ∷ us) = go l.kind refl
  where
    true_or_not : (k : ℕ) (o : Option Bool) → Is (token.Keyword k) l → truth_of k ≡ o → Viable (Derives Atom) (l ∷ us) (choose o (Err (suc (length us))) (λ value. Ok (tree.Truth value l.place, us)))
    true_or_not k None i e = at_once (some_of Atom) (l ∷ us)
    true_or_not k (Some v) i e = behind (one l) refl (answers us (λ b. truth l k v i e))

    open_or_not : (s : ℕ) (b : Bool) → Is (token.Sign s) l → eqb s sign.OPEN_PARENTHESIS ≡ b → Viable (Derives Atom) (l ∷ us) (cond b (group_at inner us) (Err (suc (length us))))
    open_or_not s true i e = behind (one l) refl (group_viable inner all l us (i ∙ ap token.Sign (eqb-true s sign.OPEN_PARENTHESIS e)))
    open_or_not s false i e = at_once (some_of Atom) (l ∷ us)

    go : (k : TokenKind) → l.kind ≡ k → Viable (Derives Atom) (l ∷ us) (atom_of inner l us k)
    go token.Literal i = behind (one l) refl (answers us (λ b. literal l i))
    go token.Name i = behind (one l) refl (answers us (λ b. name l i))
    go (token.Keyword k) i = true_or_not k (truth_of k) i refl
    go (token.Sign s) i = open_or_not s (eqb s sign.OPEN_PARENTHESIS) i refl

signed_viable : (inner : Symbol → List Lexeme → Read Tree) → AllViable inner → (ls : List Lexeme) → Viable (Derives Signed) ls (signed_at inner ls)
unfolding signed_at sign_at
signed_viable inner all [] = mapped (λ ts rest e d. unsigned d) (atom_viable inner all [])
signed_viable inner all (l ∷ us) = go (sign_of l.kind) refl
  where
    go : (o : Option UnaryOp) → sign_of l.kind ≡ o → Viable (Derives Signed) (l ∷ us) (choose (choose {B = Option (UnaryOp × Place × List Lexeme)} o None (λ op. Some (op, l.place, us))) (atom_at inner (l ∷ us)) (λ p. inner Signed p.2 >>= λ q. Ok (tree.Unary p.0 q.0 p.1, q.1)))
    go None e = mapped (λ ts rest e d. unsigned d) (atom_viable inner all (l ∷ us))
    go (Some op) e = behind (one l) refl (next {C = Derives Signed} _ (all Signed us) (λ a f vs d. answers vs (λ b. signed op l e (d b))))

-- a chain of operators

maybe_joint : {D : List Lexeme → List Lexeme → Tree → Type 0} (v : Level) (ls : List Lexeme) (d : Read Tree) (f : BinaryOp × Place × List Lexeme → Read Tree) → Viable D ls d →
    ((op : BinaryOp) (l : Lexeme) (r : List Lexeme) → binary_of l.kind ≡ Some op → level_of op ≡ v → Viable (λ ts rest e. D (l ∷ ts) rest e) r (f (op, l.place, r))) → Viable D ls (choose (joint v ls) d f)
unfolding joint
maybe_joint v [] d f w h = w
maybe_joint {D = D} v (l ∷ r) d f w h = go (binary_of l.kind) refl
  where
    last : (op : BinaryOp) (b : Bool) → binary_of l.kind ≡ Some op → same_level (level_of op) v ≡ b → Viable D (l ∷ r) (choose (cond b (Some (op, l.place, r)) None) d f)
    last op true e same = behind (one l) refl (h op l r e (same_level_true (level_of op) v same))
    last op false e same = w

    go : (o : Option BinaryOp) → binary_of l.kind ≡ o → Viable D (l ∷ r) (choose (choose {B = Option (BinaryOp × Place × List Lexeme)} o None (λ op. cond (same_level (level_of op) v) (Some (op, l.place, r)) None)) d f)
    go None e = w
    go (Some op) e = last op (same_level (level_of op) v) e refl

tail_viable : (v : Level) (read : List Lexeme → Read Tree) → groups v ≡ true → ((ls : List Lexeme) → Viable (Derives (operand v)) ls (read ls)) → (fuel : ℕ) (a : Tree) (ls : List Lexeme) → Viable (Derives (Behind v a)) ls (tail_at v read fuel a ls)
unfolding tail_at
tail_viable v read g reads zero a ls = answers ls (λ b. ended)
tail_viable v read g reads (suc fuel) a ls =
    maybe_joint v ls _ _ (answers ls (λ b. ended)) (λ op l r e h. next {C = Derives (operand v)} _ (reads r) (λ c f us d.
    rw g (mapped (λ ts rest t later. joined op l e h (d ts) later) (tail_viable v read g reads fuel (tree.Binary op a c l.place) us))))

once_viable : (v : Level) (read : List Lexeme → Read Tree) → groups v ≡ false → ((ls : List Lexeme) → Viable (Derives (operand v)) ls (read ls)) → (fuel : ℕ) (a : Tree) (f : Front) (ls : List Lexeme) → ((b : List Lexeme) → Derives (operand v) (f.put b) b a) →
    Viable (λ ts rest e. Derives (At v) (f.put ts) rest e) ls (tail_at v read fuel a ls)
unfolding tail_at
once_viable v read g reads zero a f ls d = answers ls (λ b. alone g (d b))
once_viable v read g reads (suc fuel) a f ls d =
    maybe_joint v ls _ _ (answers ls (λ b. alone g (d b))) (λ op l r e h. next {C = Derives (operand v)} _ (reads r) (λ c k us later.
    rw g (answers us (λ b. pair op l g (d (l ∷ k.put b)) e h (later b)))))

binary_viable : (v : Level) (read : List Lexeme → Read Tree) → ((ls : List Lexeme) → Viable (Derives (operand v)) ls (read ls)) → (ls : List Lexeme) → Viable (Derives (At v)) ls (binary_at v read ls)
unfolding binary_at
binary_viable v read reads ls = next {C = Derives (operand v)} _ (reads ls) (λ a f us d. go (groups v) refl a f us d)
  where
    go : (b : Bool) → groups v ≡ b → (a : Tree) (f : Front) (us : List Lexeme) → ((b : List Lexeme) → Derives (operand v) (f.put b) b a) → Viable (λ ts rest e. Derives (At v) (f.put ts) rest e) us (tail_at v read (length us) a us)
    go true g a f us d = mapped (λ ts rest t later. chain g (d ts) later) (tail_viable v read g reads (length us) a us)
    go false g a f us d = once_viable v read g reads (length us) a f us d

compare_viable : (inner : Symbol → List Lexeme → Read Tree) → AllViable inner → (ls : List Lexeme) → Viable (Derives (At level.Compare)) ls (compare_at inner ls)
unfolding compare_at
compare_viable inner all = binary_viable level.Compare _ (binary_viable level.Sum _ (binary_viable level.Term _ (signed_viable inner all)))

negation_viable : (inner : Symbol → List Lexeme → Read Tree) → AllViable inner → (ls : List Lexeme) → Viable (Derives Negation) ls (negation_at inner ls)
unfolding negation_at not_at
negation_viable inner all [] = mapped (λ ts rest e d. compared d) (compare_viable inner all [])
negation_viable inner all (l ∷ us) = go (is_not l.kind) refl
  where
    go : (b : Bool) → is_not l.kind ≡ b → Viable (Derives Negation) (l ∷ us) (choose {A = Place × List Lexeme} (cond b (Some (l.place, us)) None) (compare_at inner (l ∷ us)) (λ p. inner Negation p.1 >>= λ q. Ok (tree.Unary unary.Not q.0 p.0, q.1)))
    go false e = mapped (λ ts rest t d. compared d) (compare_viable inner all (l ∷ us))
    go true e = behind (one l) refl (next {C = Derives Negation} _ (all Negation us) (λ a f vs d. answers vs (λ b. negated l e (d b))))

operand_viable : (inner : Symbol → List Lexeme → Read Tree) → AllViable inner → (v : Level) (ls : List Lexeme) → Viable (Derives (operand v)) ls (operand_at inner v ls)
unfolding operand_at
operand_viable inner all level.Arrow = binary_viable level.Or _ (binary_viable level.And _ (negation_viable inner all))
operand_viable inner all level.Or = binary_viable level.And _ (negation_viable inner all)
operand_viable inner all level.And = negation_viable inner all
operand_viable inner all level.Compare = binary_viable level.Sum _ (binary_viable level.Term _ (signed_viable inner all))
operand_viable inner all level.Sum = binary_viable level.Term _ (signed_viable inner all)
operand_viable inner all level.Term = signed_viable inner all

behind_viable : (v : Level) (read : List Lexeme → Read Tree) → ((ls : List Lexeme) → Viable (Derives (operand v)) ls (read ls)) → (fuel : ℕ) (a : Tree) (ls : List Lexeme) → Viable (Derives (Behind v a)) ls (tail_at v read fuel a ls)
unfolding tail_at
behind_viable v read reads fuel a ls = go (groups v) refl fuel
  where
    go : (b : Bool) → groups v ≡ b → (left : ℕ) → Viable (Derives (Behind v a)) ls (tail_at v read left a ls)
    go true g left = tail_viable v read g reads left a ls
    go false g zero = answers ls (λ b. ended)
    go false g (suc left) = maybe_joint v ls _ _ (answers ls (λ b. ended)) (λ op l r e h. next {C = Derives (operand v)} _ (reads r) (λ c f us d. rw g (answers us (λ b. joined op l e h (d b) ended))))

nested_viable : (room : ℕ) → AllViable (nested room)
unfolding nested reader
nested_viable zero s ls = at_once (some_of s) ls
nested_viable (suc room) (At v) ls = binary_viable v _ (operand_viable (nested room) (nested_viable room) v) ls
nested_viable (suc room) (Behind v a) ls = behind_viable v _ (operand_viable (nested room) (nested_viable room) v) (length ls) a ls
nested_viable (suc room) Negation ls = negation_viable (nested room) (nested_viable room) ls
nested_viable (suc room) Signed ls = signed_viable (nested room) (nested_viable room) ls
nested_viable (suc room) Atom ls = atom_viable (nested room) (nested_viable room) ls

pub expr_viable : (room : ℕ) (ls : List Lexeme) → Viable DerivesExpr ls (expr_at room ls)
unfolding expr_at
expr_viable room = binary_viable level.Arrow _ (operand_viable (nested room) (nested_viable room) level.Arrow)
