-- What is read can be made whole, wherever reading stops.
use Rattle.std.proofs.Common.{◌≡◌, ℕ, zero, suc, Bool, true, false, cond, List, [], ◌∷◌, ◌++◌, length, Some, None, Ok, Err, refl, sym, ap, ◌∙◌, append_assoc}
use Rattle.hys_lex.specs.declared.token.TokenKind.{TokenKind}
use Rattle.hys_ast.specs.declared.lexeme.Lexeme.{Lexeme}
use Rattle.hys_ast.specs.Grammar.{Is}
use Rattle.hys_parse.specs.Reading.{Read, ◌>>=◌, choose, same_kind, expect, after}
use Rattle.hys_parse.specs.Sections.{Turn, turns, all_turns}
use Rattle.hys_parse.proofs.Steps.{same_kind_true}

-- Some lexemes, as what they make of those that stand behind them.
pub record Front : Type 0 where
  pub put : List Lexeme → List Lexeme
  pub list : List Lexeme
  pub same : (b : List Lexeme) → put b ≡ list ++ b

abbrev pub nothing : Front
nothing = record { put = λ b. b; list = []; same = λ b. refl }

abbrev pub one : Lexeme → Front
one l = record { put = λ b. l ∷ b; list = l ∷ []; same = λ b. refl }

abbrev pub joined : Front → Front → Front
joined f g = record {
  put = λ b. f.put (g.put b);
  list = f.list ++ g.list;
  same = λ b. f.same (g.put b) ∙ ap (λ (x : List Lexeme). f.list ++ x) (g.same b) ∙ sym (append_assoc f.list g.list b);
}

-- What a reader takes of a list is derived, whatever stands behind it; and where it stops,
-- something can stand there with which what it took is derived.
pub data Viable {A : Type 0} (D : List Lexeme → List Lexeme → A → Type 0) (ls : List Lexeme) : Read A → Type 0 where
  whole : {a : A} {r : List Lexeme} (f : Front) → ls ≡ f.put r → ((b : List Lexeme) → D (f.put b) b a) → Viable D ls (Ok (a, r))
  short : {left : ℕ} (f : Front) (r : List Lexeme) (g : Front) (a : A) → ls ≡ f.put r → length r ≡ left → ((b : List Lexeme) → D (f.put (g.put b)) b a) → Viable D ls (Err left)

-- Some lexemes are derived.
pub record Some_are {A : Type 0} (D : List Lexeme → List Lexeme → A → Type 0) : Type 0 where
  pub front : Front
  pub tree : A
  pub derives : (b : List Lexeme) → D (front.put b) b tree

pub some_are : {A : Type 0} {D : List Lexeme → List Lexeme → A → Type 0} {ls : List Lexeme} {x : Read A} → Viable D ls x → Some_are D
some_are (Viable.whole {a = a} f is d) = record { front = f; tree = a; derives = d }
some_are (Viable.short f r g a is n d) = record { front = joined f g; tree = a; derives = d }

-- The reader stops at the first lexeme.
pub at_once : {A : Type 0} {D : List Lexeme → List Lexeme → A → Type 0} → Some_are D → (ls : List Lexeme) → Viable D ls (Err (length ls))
at_once s ls = Viable.short nothing ls s.front s.tree refl refl s.derives

-- The reader takes no more.
pub answers : {A : Type 0} {D : List Lexeme → List Lexeme → A → Type 0} {a : A} (r : List Lexeme) → ((b : List Lexeme) → D b b a) → Viable D r (Ok (a, r))
answers r d = Viable.whole nothing refl d

-- The list has some lexemes in front.
pub behind : {A : Type 0} {D : List Lexeme → List Lexeme → A → Type 0} {ls r : List Lexeme} {x : Read A} (f : Front) → ls ≡ f.put r → Viable (λ ts rest e. D (f.put ts) rest e) r x → Viable D ls x
behind f e (Viable.whole g is d) = Viable.whole (joined f g) (e ∙ ap f.put is) d
behind f e (Viable.short g r h a is n d) = Viable.short (joined f g) r h a (e ∙ ap f.put is) n d

pub mapped : {A : Type 0} {D E : List Lexeme → List Lexeme → A → Type 0} {ls : List Lexeme} {x : Read A} → ((ts rest : List Lexeme) (a : A) → D ts rest a → E ts rest a) → Viable D ls x → Viable E ls x
mapped h (Viable.whole {a = a} {r = r} f is d) = Viable.whole f is (λ b. h (f.put b) b a (d b))
mapped h (Viable.short f r g a is n d) = Viable.short f r g a is n (λ b. h (f.put (g.put b)) b a (d b))

-- One reader after the other.
pub next : {A B : Type 0} {C : List Lexeme → List Lexeme → A → Type 0} {D : List Lexeme → List Lexeme → B → Type 0} {ls : List Lexeme} {x : Read A} (f : A × List Lexeme → Read B) → Viable C ls x →
    ((a : A) (front : Front) (r : List Lexeme) → ((b : List Lexeme) → C (front.put b) b a) → Viable (λ ts rest e. D (front.put ts) rest e) r (f (a, r))) → Viable D ls (x >>= f)
next f (Viable.whole {a = a} {r = r} front is d) k = behind front is (k a front r d)
next f (Viable.short front r g a is n d) k = let s = some_are (k a (joined front g) [] d) in Viable.short front r (joined g s.front) s.tree is n s.derives

-- a lexeme of a kind
abbrev pub sample : TokenKind → Lexeme
sample k = record { kind = k; text = []; place = record { byte = 0; line = 1; col = 1 } }

pub next_is : {B : Type 0} {D : List Lexeme → List Lexeme → B → Type 0} (k : TokenKind) (ls : List Lexeme) (f : Lexeme × List Lexeme → Read B) →
    ((l : Lexeme) (r : List Lexeme) → Is k l → Viable (λ ts rest e. D (l ∷ ts) rest e) r (f (l, r))) → Viable D ls (expect k ls >>= f)
unfolding expect
next_is {D = D} k [] f h = let s = some_are (h (sample k) [] refl) in Viable.short nothing [] (joined (one (sample k)) s.front) s.tree refl refl s.derives
next_is {D = D} k (l ∷ r) f h = go (same_kind l.kind k) refl
  where
    go : (b : Bool) → same_kind l.kind k ≡ b → Viable D (l ∷ r) (cond b (Ok (l, r)) (Err (suc (length r))) >>= f)
    go true e = behind (one l) refl (h l r (same_kind_true l.kind k e))
    go false e = let s = some_are (h (sample k) [] refl) in Viable.short nothing (l ∷ r) (joined (one (sample k)) s.front) s.tree refl refl s.derives

-- What stands at the front is looked at.
pub maybe_is : {B : Type 0} {D : List Lexeme → List Lexeme → B → Type 0} (k : TokenKind) (ls : List Lexeme) (d : Read B) (f : List Lexeme → Read B) → Viable D ls d →
    ((l : Lexeme) (r : List Lexeme) → Is k l → Viable (λ ts rest e. D (l ∷ ts) rest e) r (f r)) → Viable D ls (choose (after k ls) d f)
unfolding after
maybe_is k [] d f v h = v
maybe_is {D = D} k (l ∷ r) d f v h = go (same_kind l.kind k) refl
  where
    go : (b : Bool) → same_kind l.kind k ≡ b → Viable D (l ∷ r) (choose (cond b (Some r) None) d f)
    go true e = behind (one l) refl (h l r (same_kind_true l.kind k e))
    go false e = v

-- The same of a turn, which also says whether more follows.
pub data ViableTurn {A : Type 0} (D : Bool → List Lexeme → List Lexeme → A → Type 0) (ls : List Lexeme) : Turn A → Type 0 where
  whole : {a : A} {more : Bool} {r : List Lexeme} (f : Front) → ls ≡ f.put r → ((b : List Lexeme) → D more (f.put b) b a) → ViableTurn D ls (Ok (a, more, r))
  short : {left : ℕ} (f : Front) (r : List Lexeme) (g : Front) (a : A) (more : Bool) → ls ≡ f.put r → length r ≡ left → ((b : List Lexeme) → D more (f.put (g.put b)) b a) → ViableTurn D ls (Err left)

pub answers_turn : {A : Type 0} {D : Bool → List Lexeme → List Lexeme → A → Type 0} {a : A} {more : Bool} (r : List Lexeme) → ((b : List Lexeme) → D more b b a) → ViableTurn D r (Ok (a, more, r))
answers_turn r d = ViableTurn.whole nothing refl d

pub behind_turn : {A : Type 0} {D : Bool → List Lexeme → List Lexeme → A → Type 0} {ls r : List Lexeme} {x : Turn A} (f : Front) → ls ≡ f.put r → ViableTurn (λ more ts rest e. D more (f.put ts) rest e) r x → ViableTurn D ls x
behind_turn f e (ViableTurn.whole g is d) = ViableTurn.whole (joined f g) (e ∙ ap f.put is) d
behind_turn f e (ViableTurn.short g r h a more is n d) = ViableTurn.short (joined f g) r h a more (e ∙ ap f.put is) n d

-- some lexemes are derived by a turn
record Some_turn {A : Type 0} (D : Bool → List Lexeme → List Lexeme → A → Type 0) : Type 0 where
  front : Front
  value : A
  more : Bool
  derives : (b : List Lexeme) → D more (front.put b) b value

some_turn : {A : Type 0} {D : Bool → List Lexeme → List Lexeme → A → Type 0} {ls : List Lexeme} {x : Turn A} → ViableTurn D ls x → Some_turn D
some_turn (ViableTurn.whole {a = a} {more = more} f is d) = record { front = f; value = a; more = more; derives = d }
some_turn (ViableTurn.short f r g a more is n d) = record { front = joined f g; value = a; more = more; derives = d }

pub next_turn : {A B : Type 0} {C : List Lexeme → List Lexeme → A → Type 0} {D : Bool → List Lexeme → List Lexeme → B → Type 0} {ls : List Lexeme} {x : Read A} (f : A × List Lexeme → Turn B) → Viable C ls x →
    ((a : A) (front : Front) (r : List Lexeme) → ((b : List Lexeme) → C (front.put b) b a) → ViableTurn (λ more ts rest e. D more (front.put ts) rest e) r (f (a, r))) → ViableTurn D ls (x >>= f)
next_turn f (Viable.whole {a = a} {r = r} front is d) k = behind_turn front is (k a front r d)
next_turn f (Viable.short front r g a is n d) k = let s = some_turn (k a (joined front g) [] d) in ViableTurn.short front r (joined g s.front) s.value s.more is n s.derives

pub next_turn_is : {B : Type 0} {D : Bool → List Lexeme → List Lexeme → B → Type 0} (k : TokenKind) (ls : List Lexeme) (f : Lexeme × List Lexeme → Turn B) →
    ((l : Lexeme) (r : List Lexeme) → Is k l → ViableTurn (λ more ts rest e. D more (l ∷ ts) rest e) r (f (l, r))) → ViableTurn D ls (expect k ls >>= f)
unfolding expect
next_turn_is {D = D} k [] f h = let s = some_turn (h (sample k) [] refl) in ViableTurn.short nothing [] (joined (one (sample k)) s.front) s.value s.more refl refl s.derives
next_turn_is {D = D} k (l ∷ r) f h = go (same_kind l.kind k) refl
  where
    go : (b : Bool) → same_kind l.kind k ≡ b → ViableTurn D (l ∷ r) (cond b (Ok (l, r)) (Err (suc (length r))) >>= f)
    go true e = behind_turn (one l) refl (h l r (same_kind_true l.kind k e))
    go false e = let s = some_turn (h (sample k) [] refl) in ViableTurn.short nothing (l ∷ r) (joined (one (sample k)) s.front) s.value s.more refl refl s.derives

pub maybe_turn : {B : Type 0} {D : Bool → List Lexeme → List Lexeme → B → Type 0} (k : TokenKind) (ls : List Lexeme) (d : Turn B) (f : List Lexeme → Turn B) → ViableTurn D ls d →
    ((l : Lexeme) (r : List Lexeme) → Is k l → ViableTurn (λ more ts rest e. D more (l ∷ ts) rest e) r (f r)) → ViableTurn D ls (choose (after k ls) d f)
unfolding after
maybe_turn k [] d f v h = v
maybe_turn {D = D} k (l ∷ r) d f v h = go (same_kind l.kind k) refl
  where
    go : (b : Bool) → same_kind l.kind k ≡ b → ViableTurn D (l ∷ r) (choose (cond b (Some r) None) d f)
    go true e = behind_turn (one l) refl (h l r (same_kind_true l.kind k e))
    go false e = v

-- What a turn says where it is the last, and where what stands behind it is derived by the others.
abbrev pub Leads : {A : Type 0} → (A → List Lexeme → List Lexeme → Type 0) → A → Bool → List Lexeme → List Lexeme → A → Type 0
Leads D a true ts mid b = (rest : List Lexeme) → D b mid rest → D a ts rest
Leads D a false ts rest b = D a ts rest

turn_more : {A : Type 0} (turn : A → List Lexeme → Turn A) (D : A → List Lexeme → List Lexeme → Type 0) → ((a : A) → Some_are (λ ts rest (e : A). D a ts rest)) → (fuel : ℕ) (a : A) (ls : List Lexeme) (x : Turn A) → ViableTurn (Leads D a) ls x →
    ((b : A) (r : List Lexeme) → Viable (λ ts rest (e : A). D b ts rest) r (turns turn fuel b r)) → Viable (λ ts rest (e : A). D a ts rest) ls (x >>= λ p. cond p.1 (turns turn fuel p.0 p.2) (Ok (p.0, p.2)))
turn_more turn D some fuel a ls _ (ViableTurn.whole {a = b} {more = true} {r = r} f is d) later = behind f is (mapped (λ ts rest e h. d ts rest h) (later b r))
turn_more turn D some fuel a ls _ (ViableTurn.whole {more = false} f is d) later = Viable.whole f is d
turn_more turn D some fuel a ls _ (ViableTurn.short f r g b true is n d) later = let s = some b in Viable.short f r (joined g s.front) s.tree is n (λ x. d (s.front.put x) x (s.derives x))
turn_more turn D some fuel a ls _ (ViableTurn.short f r g b false is n d) later = Viable.short f r g b is n d

pub turns_viable : {A : Type 0} (turn : A → List Lexeme → Turn A) (D : A → List Lexeme → List Lexeme → Type 0) → ((a : A) (ls : List Lexeme) → ViableTurn (Leads D a) ls (turn a ls)) → ((a : A) → Some_are (λ ts rest (e : A). D a ts rest)) →
    (fuel : ℕ) (a : A) (ls : List Lexeme) → Viable (λ ts rest (e : A). D a ts rest) ls (turns turn fuel a ls)
unfolding turns
turns_viable turn D each some zero a ls = at_once (some a) ls
turns_viable turn D each some (suc fuel) a ls = turn_more turn D some fuel a ls (turn a ls) (each a ls) (λ b r. turns_viable turn D each some fuel b r)

pub all_viable : {A : Type 0} (turn : A → List Lexeme → Turn A) (D : A → List Lexeme → List Lexeme → Type 0) → ((a : A) (ls : List Lexeme) → ViableTurn (Leads D a) ls (turn a ls)) → ((a : A) → Some_are (λ ts rest (e : A). D a ts rest)) →
    (a : A) (ls : List Lexeme) → Viable (λ ts rest (e : A). D a ts rest) ls (all_turns turn a ls)
unfolding all_turns
all_viable turn D each some a ls = turns_viable turn D each some (suc (length ls)) a ls
