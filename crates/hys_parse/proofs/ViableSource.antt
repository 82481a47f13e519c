-- Sources can be made whole.
use Rattle.std.proofs.Common.{◌≡◌, ℕ, ◌+◌, ◌-◌, Bool, true, false, cond, List, [], ◌∷◌, ◌++◌, length, take, Option, Some, None, Ok, Err, inl, inr, refl, sym, ap, subst, ◌∙◌, arith, length-append}
use Rattle.std.proofs.Math.Seq.{take-append_seam}
use Rattle.hys_lex.specs.declared.token.TokenKind.TheVariants as token
use Rattle.hys_lex.specs.declared.sign.TheConstants as sign
use Rattle.hys_lex.specs.declared.keyword.TheConstants as keyword
use Rattle.hys_ast.specs.declared.lexeme.Lexeme.{Lexeme}
use Rattle.hys_ast.specs.declared.source.Section.{Section}
use Rattle.hys_ast.specs.declared.source.Section.TheVariants as section
use Rattle.hys_ast.specs.Grammar.{Is, DerivesDecls, DerivesItems, among, interface_section, item_section, DerivesInterface, no_block, block, DerivesImplementation, no_sections, aux, items, DerivesSource, source}
use Rattle.hys_ast.specs.Tree.{Decl, Item, Source}
use Rattle.hys_parse.specs.declared.draft.Part.{Part}
use Rattle.hys_parse.specs.declared.draft.Part.TheVariants as part
use Rattle.hys_parse.specs.Reading.{Read, ◌>>=◌, choose}
use Rattle.hys_parse.specs.Sections.{Draft, declares, decls_at, items_at, block_at, section_in, section_at, section_turn, part_at, source_at, whole_at}
use Rattle.hys_parse.specs.Cause.{IsReached}
use Rattle.hys_parse.proofs.Stuck.{closed, whole_is, more_left}
use Rattle.hys_parse.proofs.CompleteSource.{interface_declares, item_declares_not}
use Rattle.hys_parse.proofs.SoundSource.{implementation_then}
use Rattle.hys_parse.proofs.Viable.{Front, nothing, one, Viable, answers, next, next_is, ViableTurn, answers_turn, behind_turn, next_turn, Leads, all_viable}
use Rattle.hys_parse.proofs.ViableParts.{Some_decls, Some_items, decls_viable, items_viable}

-- A section behind the word that begins it.
data Block (s : Section) (d : Draft) : List Lexeme → List Lexeme → Draft → Type 0 where
  of_decls : {next rest : List Lexeme} {e : Draft} {ds : List Decl} (o z : Lexeme) → declares s ≡ true → Is (token.Sign sign.OPEN_BRACE) o → DerivesDecls s next (z ∷ rest) ds → Is (token.Sign sign.CLOSE_BRACE) z → e.seen ≡ d.seen ++ s ∷ [] → Block s d (o ∷ next) rest e
  of_items : {next rest : List Lexeme} {e : Draft} {xs : List Item} (o z : Lexeme) → declares s ≡ false → Is (token.Sign sign.OPEN_BRACE) o → DerivesItems s next (z ∷ rest) xs → Is (token.Sign sign.CLOSE_BRACE) z → e.seen ≡ d.seen ++ s ∷ [] → Block s d (o ∷ next) rest e

decl_block_viable : (room : ℕ) (s : Section) (d : Draft) (o : Lexeme) (ls : List Lexeme) → declares s ≡ true → Is (token.Sign sign.OPEN_BRACE) o → Viable (λ ts rest e. Block s d (o ∷ ts) rest e) ls (decls_at room s d ls)
unfolding decls_at
decl_block_viable room s d o ls h i =
    next {C = λ ts rest (x : List Decl). Some_decls s d.decls ts rest} _ (decls_viable room s d.decls ls) (λ x f us t.
    next_is (token.Sign sign.CLOSE_BRACE) us _ (λ z vs j. answers vs (λ b. of_decls o z h i (t (z ∷ b)).1 j refl)))

item_block_viable : (room : ℕ) (s : Section) (d : Draft) (o : Lexeme) (ls : List Lexeme) → declares s ≡ false → Is (token.Sign sign.OPEN_BRACE) o → Viable (λ ts rest e. Block s d (o ∷ ts) rest e) ls (items_at room s d ls)
unfolding items_at
item_block_viable room s d o ls h i =
    next {C = λ ts rest (x : List Item). Some_items s d.items ts rest} _ (items_viable room s h d.items ls) (λ x f us t. answers us (λ b. let y = t b in of_items o y.1 h i y.2 y.3 refl))

block_viable : (room : ℕ) (s : Section) (d : Draft) (ls : List Lexeme) → Viable (Block s d) ls (block_at room s d ls)
unfolding block_at
block_viable room s d ls = next_is (token.Sign sign.OPEN_BRACE) ls _ (λ o us i. go o us i (declares s) refl)
  where
    go : (o : Lexeme) (us : List Lexeme) → Is (token.Sign sign.OPEN_BRACE) o → (b : Bool) → declares s ≡ b → Viable (λ ts rest e. Block s d (o ∷ ts) rest e) us (cond b (decls_at room s d us) (items_at room s d us))
    go o us i true h = decl_block_viable room s d o us h i
    go o us i false h = item_block_viable room s d o us h i

-- the sections of a part, behind those that were seen
Some_sections : Part → List Section → List Lexeme → List Lexeme → Type 0
Some_sections part.Interface seen ts rest = (ds : List Decl) × DerivesInterface seen ts rest ds
Some_sections part.Implementation seen ts rest = (ds : List Decl) × (xs : List Item) × DerivesImplementation seen ts rest ds xs

no_more : (p : Part) (seen : List Section) (b : List Lexeme) → Some_sections p seen b b
unfolding Some_sections
no_more part.Interface seen b = ([], no_block)
no_more part.Implementation seen b = ([], [], no_sections)

contrary : {A : Type 0} (b : Bool) → b ≡ true → b ≡ false → A
contrary b e d = let both : true ≡ false = sym e ∙ d in absurd cc

interface_block : (s : Section) (d e : Draft) (l : Lexeme) (ts mid rest : List Lexeme) → interface_section l.kind ≡ Some s → among s d.seen ≡ false → Block s d ts mid e → Some_sections part.Interface e.seen mid rest → Some_sections part.Interface d.seen (l ∷ ts) rest
unfolding Some_sections
interface_block s d e l _ mid rest k a (of_decls {ds = ds} o z h i t j seen) later = (ds ++ later.0, block l o z k a i t j (subst (λ x. DerivesInterface x mid rest later.0) seen later.1))
interface_block s d e l _ mid rest k a (of_items o z h i t j seen) later = contrary (declares s) (interface_declares l.kind s k) h

aux_block : (s : Section) (d e : Draft) (l : Lexeme) (ts mid rest : List Lexeme) → Is (token.Keyword keyword.AUX) l → s ≡ section.Aux → among s d.seen ≡ false → Block s d ts mid e → Some_sections part.Implementation e.seen mid rest → Some_sections part.Implementation d.seen (l ∷ ts) rest
unfolding Some_sections
aux_block s d e l _ mid rest k same a (of_items o z h i t j seen) later = contrary (declares s) (ap declares same) h
aux_block s d e l _ mid rest k same a (of_decls {next = next} {ds = ds} o z h i t j seen) later =
    let known : among section.Aux d.seen ≡ false = ap (λ (x : Section). among x d.seen) (sym same) ∙ a in
    let marked : e.seen ≡ d.seen ++ section.Aux ∷ [] = seen ∙ ap (λ (x : Section). d.seen ++ x ∷ []) same in
    let P : Section → Type 0 = λ x. DerivesDecls x next (z ∷ mid) ds in
    (ds ++ later.0, later.1, aux l o z k known i (subst P same t) j (subst (λ x. DerivesImplementation x mid rest later.0 later.1) marked later.2))

item_block : (s : Section) (d e : Draft) (l : Lexeme) (ts mid rest : List Lexeme) → item_section l.kind ≡ Some s → among s d.seen ≡ false → Block s d ts mid e → Some_sections part.Implementation e.seen mid rest → Some_sections part.Implementation d.seen (l ∷ ts) rest
unfolding Some_sections
item_block s d e l _ mid rest k a (of_decls o z h i t j seen) later = contrary (declares s) h (item_declares_not l.kind s k)
item_block s d e l _ mid rest k a (of_items {xs = xs} o z h i t j seen) later = (later.0, xs ++ later.1, items l o z k a i t j (subst (λ x. DerivesImplementation x mid rest later.0 later.1) seen later.2))

section_block : (p : Part) (s : Section) (d e : Draft) (l : Lexeme) (ts mid rest : List Lexeme) → section_in p l.kind ≡ Some s → among s d.seen ≡ false → Block s d ts mid e → Some_sections p e.seen mid rest → Some_sections p d.seen (l ∷ ts) rest
section_block part.Interface s d e l ts mid rest k a b later = interface_block s d e l ts mid rest k a b later
section_block part.Implementation s d e l ts mid rest k a b later = elim (implementation_then l.kind s k) [
  | inl w ↦ aux_block s d e l ts mid rest w.0 w.1 a b later
  | inr w ↦ item_block s d e l ts mid rest w a b later
]

section_viable : (room : ℕ) (p : Part) (d : Draft) (ls : List Lexeme) → ViableTurn (Leads (λ e. Some_sections p e.seen) d) ls (section_turn room p d ls)
unfolding section_turn section_at
section_viable room p d [] = answers_turn [] (λ b. no_more p d.seen b)
section_viable room p d (l ∷ us) = go (section_in p l.kind) refl
  where
    fresh : (s : Section) → section_in p l.kind ≡ Some s → (b : Bool) → among s d.seen ≡ b → ViableTurn (Leads (λ e. Some_sections p e.seen) d) (l ∷ us) (cond b (Err (length (l ∷ us))) (block_at room s d us >>= λ r. Ok (r.0, true, r.1)))
    fresh s k true a = ViableTurn.short nothing (l ∷ us) nothing d false refl refl (λ b. no_more p d.seen b)
    fresh s k false a = behind_turn (one l) refl (next_turn {C = Block s d} _ (block_viable room s d us) (λ e f vs t. answers_turn vs (λ b rest later. section_block p s d e l (f.put b) b rest k a (t b) later)))

    go : (o : Option Section) → section_in p l.kind ≡ o → ViableTurn (Leads (λ e. Some_sections p e.seen) d) (l ∷ us)
        (choose (choose {B = Option (Section × List Lexeme)} o None (λ s. Some (s, us))) (Ok (d, false, l ∷ us)) (λ q. cond (among q.0 d.seen) (Err (length (l ∷ us))) (block_at room q.0 d q.1 >>= λ r. Ok (r.0, true, r.1))))
    go None e = answers_turn (l ∷ us) (λ b. no_more p d.seen b)
    go (Some s) e = fresh s e (among s d.seen) refl

-- a part in its braces
data Parted (p : Part) : List Lexeme → List Lexeme → Draft → Type 0 where
  parted : {next rest : List Lexeme} {e : Draft} (o z : Lexeme) → Is (token.Sign sign.OPEN_BRACE) o → Some_sections p [] next (z ∷ rest) → Is (token.Sign sign.CLOSE_BRACE) z → Parted p (o ∷ next) rest e

part_viable : (room : ℕ) (p : Part) (ds : List Decl) (ls : List Lexeme) → Viable (Parted p) ls (part_at room p ds ls)
unfolding part_at
part_viable room p ds ls =
    next_is (token.Sign sign.OPEN_BRACE) ls _ (λ o us i.
    next {C = λ ts rest (e : Draft). Some_sections p [] ts rest} _ (all_viable (section_turn room p) (λ e. Some_sections p e.seen) (section_viable room p) (λ d. record { front = nothing; tree = d; derives = λ b. no_more p d.seen b }) (record { seen = []; decls = ds; items = [] }) us) (λ e f vs t.
    next_is (token.Sign sign.CLOSE_BRACE) vs _ (λ z ws j. answers ws (λ b. parted o z i (t (z ∷ b)) j))))

A_source : List Lexeme → List Lexeme → Source → Type 0
A_source ts rest x = (y : Source) × DerivesSource ts rest y

source_made : (a l o i m c : Lexeme) (t1 t2 rest : List Lexeme) (d e : Draft) (x : Source) → Is (token.Keyword keyword.SYSTEM) a → Is token.Name l → Is (token.Sign sign.OPEN_BRACE) o → Is (token.Keyword keyword.INTERFACE) i → Parted part.Interface t1 (m ∷ t2) d →
    Is (token.Keyword keyword.IMPLEMENTATION) m → Parted part.Implementation t2 (c ∷ rest) e → Is (token.Sign sign.CLOSE_BRACE) c → A_source (a ∷ l ∷ o ∷ i ∷ t1) rest x
unfolding A_source Some_sections
source_made a l o i m c _ _ rest d e x k1 k2 k3 k4 (parted b z k5 s k6) k7 (parted g y k8 t k9) k10 =
    (record { system = l.text; decls = s.0 ++ t.0; items = t.1 }, source a l o i b z m g y c k1 k2 k3 k4 k5 s.1 k6 k7 k8 t.2 k9 k10)

source_viable : (room : ℕ) (ls : List Lexeme) → Viable A_source ls (source_at room ls)
unfolding source_at
source_viable room ls =
    next_is (token.Keyword keyword.SYSTEM) ls _ (λ a t1 k1.
    next_is token.Name t1 _ (λ l t2 k2.
    next_is (token.Sign sign.OPEN_BRACE) t2 _ (λ o t3 k3.
    next_is (token.Keyword keyword.INTERFACE) t3 _ (λ i t4 k4.
    next {C = Parted part.Interface} _ (part_viable room part.Interface [] t4) (λ d f t5 p.
    next_is (token.Keyword keyword.IMPLEMENTATION) t5 _ (λ m t6 k7.
    next {C = Parted part.Implementation} _ (part_viable room part.Implementation d.decls t6) (λ e g t7 q.
    next_is (token.Sign sign.CLOSE_BRACE) t7 _ (λ c t8 k10. answers t8 (λ b. source_made a l o i m c (f.put (m ∷ g.put (c ∷ b))) (g.put (c ∷ b)) b d e _ k1 k2 k3 k4 (p (m ∷ g.put (c ∷ b))) k7 (q (c ∷ b)) k10)))))))))

-- what is put in front is what was taken
taken : (f : Front) (ls r more : List Lexeme) (k : ℕ) → ls ≡ f.put r → k ≡ length ls - length r → take k ls ++ more ≡ f.put more
taken f ls r more k is place =
    let parts : ls ≡ f.list ++ r = is ∙ f.same r in
    let count : length ls ≡ length f.list + length r = ap (λ (x : List Lexeme). length x) parts ∙ length-append f.list r in
    let size : k ≡ length f.list = omega arith in
    let front : take k ls ≡ f.list = ap (λ (x : List Lexeme). take k x) parts ∙ ap (λ (n : ℕ). take n (f.list ++ r)) size ∙ take-append_seam f.list r in
    ap (λ (x : List Lexeme). x ++ more) front ∙ sym (f.same more)

reached_by : (f : Front) (ls r more : List Lexeme) (k : ℕ) (x : Source) → ls ≡ f.put r → k ≡ length ls - length r → A_source (f.put more) [] x → IsReached ls k
unfolding A_source
reached_by f ls r more k x is place d = let P : List Lexeme → Type 0 = λ ts. DerivesSource ts [] d.0 in record { more = more; tree = d.0; derived = subst P (sym (taken f ls r more k is place)) d.1 }

stops_reached : (ls : List Lexeme) (left k : ℕ) (x : Read Source) → Viable A_source ls x → (x >>= closed) ≡ Err left → k ≡ length ls - left → IsReached ls k
stops_reached ls left k _ (Viable.whole {a = a} {r = r} f is d) e place = let same = more_left a r left e in reached_by f ls r [] k a is (omega (arith, same.0)) (d [])
stops_reached ls left k _ (Viable.short {left = j} f r g a is n d) e place = let same : j ≡ left = cc in reached_by f ls r (g.put []) k a is (omega arith) (d [])

pub reached : (ls : List Lexeme) (left k : ℕ) → whole_at ls ≡ Err left → k ≡ length ls - left → IsReached ls k
reached ls left k e place = stops_reached ls left k (source_at (length ls) ls) (source_viable (length ls) ls) (sym (whole_is ls) ∙ e) place
