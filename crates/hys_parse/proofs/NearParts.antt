-- Declarations, items and sections at lists that begin alike.
use Rattle.std.proofs.Common.{◌≡◌, ℕ, ◌+◌, ◌≤◌, true, false, List, [], ◌∷◌, length, Ok, Err, refl, arith}
use Rattle.hys_lex.specs.declared.token.TokenKind.TheVariants as token
use Rattle.hys_lex.specs.declared.sign.TheConstants as sign
use Rattle.hys_lex.specs.declared.keyword.TheConstants as keyword
use Rattle.hys_ast.specs.declared.lexeme.Lexeme.{Lexeme}
use Rattle.hys_ast.specs.declared.source.Section.{Section}
use Rattle.hys_ast.specs.declared.source.Section.TheVariants as section
use Rattle.hys_ast.specs.declared.source.Kind.{Kind}
use Rattle.hys_ast.specs.Grammar.{has_bounds, kind_of, among}
use Rattle.hys_ast.specs.Tree.{Tree, Decl}
use Rattle.hys_parse.specs.declared.draft.Part.{Part}
use Rattle.hys_parse.specs.declared.draft.Part.TheVariants as part
use Rattle.hys_parse.specs.Reading.{◌>>=◌}
use Rattle.hys_parse.specs.Sections.{has_value, bounded_at, valued_at, plain_at, decl_at, name_turn, kind_at, line_at, line_turn, ite_at, braced_at, choice_at, formula_at, tolerance_at, guard_at, shape_at, named_at, must_at, item_at, item_turn, Draft, declares, decls_at, items_at, block_at, section_in, section_at, section_turn, part_at, source_at}
use Rattle.hys_parse.proofs.Near.{Near, Both, Turned, then, first_then, then_last, ok, either, by_first, Ahead, Peeks, ahead, chosen}
use Rattle.hys_parse.proofs.NearTurns.{then_turn, first_turn, ok_turn, ok_last, chosen_turn, looked_turn, either_turn, stop_turn, raise_turn, Turning, all_near}
use Rattle.hys_parse.proofs.NearExpr.{expects, takes, after_ahead, Alike, expr_near}

-- The rooms stand to each other as the numbers of lexemes that are left where the lists part.
abbrev pub Rooms : ℕ → ℕ → ℕ → ℕ → Type 0
Rooms n m one two = one + m ≤ two + n

-- declarations

bounded_near : {n m : ℕ} (one two : ℕ) → Rooms n m one two → (s : Section) (k : Kind) (l : Lexeme) → Alike n m one (bounded_at one s k l) (bounded_at two s k l)
unfolding bounded_at
bounded_near one two wide s k l ls ts fits near =
    then _ _ (expr_near one two wide ls ts fits near) (λ low r1 u1 le1 near1.
    then _ _ (takes (token.Sign sign.COMMA) r1 u1 near1) (λ comma r2 u2 le2 near2.
    then _ _ (expr_near one two wide r2 u2 (omega arith) near2) (λ high r3 u3 le3 near3.
    then _ _ (takes (token.Sign sign.CLOSE_BRACKET) r3 u3 near3) (λ end r4 u4 le4 near4. ok near4))))

valued_near : {n m : ℕ} (one two : ℕ) → Rooms n m one two → (s : Section) (k : Kind) (l : Lexeme) → Alike n m one (valued_at one s k l) (valued_at two s k l)
unfolding valued_at
valued_near one two wide s k l ls ts fits near = then _ _ (expr_near one two wide ls ts fits near) (λ value r u le close. ok close)

plain_near : {n m : ℕ} (s : Section) (k : Kind) (l : Lexeme) (ls ts : List Lexeme) → Near n m ls ts → Both false n m (length ls) (plain_at s k l ls) (plain_at s k l ts)
unfolding plain_at
plain_near s k l ls ts near = ok near

decl_near : {n m : ℕ} (one two : ℕ) → Rooms n m one two → (s : Section) (k : Kind) (ls ts : List Lexeme) → length ls ≤ one → Near n m ls ts → Both true n m (length ls) (decl_at one s k ls) (decl_at two s k ts)
unfolding decl_at
decl_near one two wide s k ls ts fits near =
    first_then _ _ (expects token.Name ls ts near) (λ l r u le close.
    either (has_bounds s k)
    (chosen _ _ (after_ahead (token.Sign sign.OPEN_BRACKET) r u close) (plain_near s k l r u close) (λ i r2 u2 less close2. bounded_near one two wide s k l r2 u2 (omega arith) close2))
    (either (has_value s)
    (chosen _ _ (after_ahead (token.Sign sign.EQUALS) r u close) (plain_near s k l r u close) (λ i r2 u2 less close2. valued_near one two wide s k l r2 u2 (omega arith) close2))
    (plain_near s k l r u close)))

name_near : {n m : ℕ} (one two : ℕ) → Rooms n m one two → (s : Section) (k : Kind) → Turning n m one (name_turn one s k) (name_turn two s k)
unfolding name_turn
name_near one two wide s k ds ls ts fits near =
    first_turn _ _ (decl_near one two wide s k ls ts fits near) (λ d r u le close.
    chosen_turn _ _ (after_ahead (token.Sign sign.COMMA) r u close) (ok_turn close) (λ i r2 u2 less close2. ok_turn close2))

abbrev kind_then : Kind → List Lexeme → Kind × List Lexeme
kind_then i ts = (i, ts)

kind_peeks : Peeks kind_at kind_then
unfolding kind_at
kind_peeks = record { empty = refl; tells = λ l. kind_of l.kind; first = λ l ts. refl }

kind_ahead : {n m : ℕ} (ls ts : List Lexeme) → Near n m ls ts → Ahead n m (length ls) kind_then (kind_at ls) (kind_at ts)
kind_ahead = ahead kind_at kind_then kind_peeks

line_near : {n m : ℕ} (one two : ℕ) → Rooms n m one two → (s : Section) (k : Kind) (ds : List Decl) (ls ts : List Lexeme) → length ls ≤ one → Near n m ls ts → Turned false n m (length ls) (line_at one s k ds ls) (line_at two s k ds ts)
unfolding line_at
line_near one two wide s k ds ls ts fits near =
    then_turn _ _ (all_near one (name_turn one s k) (name_turn two s k) (name_near one two wide s k) ds ls ts fits near) (λ names r u le close.
    then_turn _ _ (takes (token.Sign sign.SEMICOLON) r u close) (λ end r2 u2 le2 close2. ok_turn close2))

lines_near : {n m : ℕ} (one two : ℕ) → Rooms n m one two → (s : Section) → Turning n m one (line_turn one s) (line_turn two s)
unfolding line_turn
lines_near one two wide s ds ls ts fits near = chosen_turn _ _ (kind_ahead ls ts near) (ok_last near) (λ k r u less close. line_near one two wide s k ds r u (omega arith) close)

-- items

ite_near : {n m : ℕ} (one two : ℕ) → Rooms n m one two → Alike n m one (ite_at one) (ite_at two)
unfolding ite_at
ite_near one two wide ls ts fits near =
    then _ _ (takes (token.Keyword keyword.IF) ls ts near) (λ i r1 u1 le1 near1.
    then _ _ (expr_near one two wide r1 u1 (omega arith) near1) (λ a r2 u2 le2 near2.
    then _ _ (takes (token.Keyword keyword.THEN) r2 u2 near2) (λ t r3 u3 le3 near3.
    then _ _ (expr_near one two wide r3 u3 (omega arith) near3) (λ b r4 u4 le4 near4.
    chosen _ _ (after_ahead (token.Keyword keyword.ELSE) r4 u4 near4) (ok near4) (λ o r5 u5 le5 near5.
    then _ _ (expr_near one two wide r5 u5 (omega arith) near5) (λ c r6 u6 le6 near6. ok near6))))))

braced_near : {n m : ℕ} (one two : ℕ) → Rooms n m one two → Alike n m one (braced_at one) (braced_at two)
unfolding braced_at
braced_near one two wide ls ts fits near = then _ _ (ite_near one two wide ls ts fits near) (λ x r u le close. then _ _ (takes (token.Sign sign.CLOSE_BRACE) r u close) (λ z r2 u2 le2 close2. ok close2))

choice_near : {n m : ℕ} (one two : ℕ) → Rooms n m one two → Alike n m one (choice_at one) (choice_at two)
unfolding choice_at
choice_near one two wide ls ts fits near = chosen _ _ (after_ahead (token.Sign sign.OPEN_BRACE) ls ts near) (ite_near one two wide ls ts fits near) (λ i r u less close. braced_near one two wide r u (omega arith) close)

formula_near : {n m : ℕ} (one two : ℕ) → Rooms n m one two → Alike n m one (formula_at one) (formula_at two)
unfolding formula_at
formula_near one two wide ls ts fits near = then _ _ (expr_near one two wide ls ts fits near) (λ e r u le close. ok close)

tolerance_near : {n m : ℕ} (one two : ℕ) → Rooms n m one two → (a : Tree) → Alike n m one (tolerance_at one a) (tolerance_at two a)
unfolding tolerance_at
tolerance_near one two wide a ls ts fits near = then _ _ (expr_near one two wide ls ts fits near) (λ e r u le close. then _ _ (takes (token.Sign sign.CLOSE_BRACKET) r u close) (λ z r2 u2 le2 close2. ok close2))

guard_near : {n m : ℕ} (one two : ℕ) → Rooms n m one two → Alike n m one (guard_at one) (guard_at two)
unfolding guard_at
guard_near one two wide ls ts fits near =
    then _ _ (expr_near one two wide ls ts fits near) (λ e r u le close.
    chosen _ _ (after_ahead (token.Sign sign.OPEN_BRACKET) r u close) (ok close) (λ i r2 u2 less close2. tolerance_near one two wide e r2 u2 (omega arith) close2))

shape_near : {n m : ℕ} (one two : ℕ) → Rooms n m one two → (s : Section) → Alike n m one (shape_at one s) (shape_at two s)
shape_near one two wide section.Ad = guard_near one two wide
shape_near one two wide section.Da = choice_near one two wide
shape_near one two wide _ = formula_near one two wide

named_near : {n m : ℕ} (one two : ℕ) → Rooms n m one two → (s : Section) (ls ts : List Lexeme) → length ls ≤ one → Near n m ls ts → Both true n m (length ls) (named_at one s ls) (named_at two s ts)
unfolding named_at
named_near one two wide s ls ts fits near =
    first_then _ _ (expects token.Name ls ts near) (λ l r1 u1 le1 near1.
    then _ _ (takes (token.Sign sign.EQUALS) r1 u1 near1) (λ q r2 u2 le2 near2.
    then _ _ (shape_near one two wide s r2 u2 (omega arith) near2) (λ x r3 u3 le3 near3.
    then _ _ (takes (token.Sign sign.SEMICOLON) r3 u3 near3) (λ z r4 u4 le4 near4. ok near4))))

must_first : {n m : ℕ} (one two : ℕ) → Rooms n m one two → (l : Lexeme) (ls ts : List Lexeme) → length (l ∷ ls) ≤ one → Near n m (l ∷ ls) (l ∷ ts) → Both true n m (length (l ∷ ls)) (must_at one (l ∷ ls)) (must_at two (l ∷ ts))
unfolding must_at
must_first one two wide l ls ts fits near =
    then_last _ _ (expr_near one two wide (l ∷ ls) (l ∷ ts) fits near) (λ e r u le close.
    first_then _ _ (expects (token.Sign sign.SEMICOLON) r u close) (λ z r2 u2 le2 close2. ok close2))

must_none : (room : ℕ) → must_at room [] ≡ Err 0
unfolding must_at
must_none room = refl

must_near : {n m : ℕ} (one two : ℕ) → Rooms n m one two → (ls ts : List Lexeme) → length ls ≤ one → Near n m ls ts → Both true n m (length ls) (must_at one ls) (must_at two ts)
must_near one two wide = by_first one (must_at one) (must_at two) (must_none one) (must_none two) (λ l ls ts fits whole near. must_first one two wide l ls ts fits whole)

item_near : {n m : ℕ} (one two : ℕ) → Rooms n m one two → (s : Section) (ls ts : List Lexeme) → length ls ≤ one → Near n m ls ts → Both true n m (length ls) (item_at one s ls) (item_at two s ts)
item_near one two wide section.Must ls ts fits near = must_near one two wide ls ts fits near
item_near one two wide s ls ts fits near = named_near one two wide s ls ts fits near

items_near : {n m : ℕ} (one two : ℕ) → Rooms n m one two → (s : Section) → Turning n m one (item_turn one s) (item_turn two s)
unfolding item_turn
items_near one two wide s is ls ts fits near =
    chosen_turn _ _ (after_ahead (token.Sign sign.CLOSE_BRACE) ls ts near) (first_turn _ _ (item_near one two wide s ls ts fits near) (λ i r u le close. ok_turn close)) (λ i r u less close. ok_turn close)

-- sections

decls_near : {n m : ℕ} (one two : ℕ) → Rooms n m one two → (s : Section) (d : Draft) → Alike n m one (decls_at one s d) (decls_at two s d)
unfolding decls_at
decls_near one two wide s d ls ts fits near =
    then _ _ (all_near one (line_turn one s) (line_turn two s) (lines_near one two wide s) d.decls ls ts fits near) (λ ds r u le close.
    then _ _ (takes (token.Sign sign.CLOSE_BRACE) r u close) (λ z r2 u2 le2 close2. ok close2))

item_block_near : {n m : ℕ} (one two : ℕ) → Rooms n m one two → (s : Section) (d : Draft) → Alike n m one (items_at one s d) (items_at two s d)
unfolding items_at
item_block_near one two wide s d ls ts fits near = then _ _ (all_near one (item_turn one s) (item_turn two s) (items_near one two wide s) d.items ls ts fits near) (λ is r u le close. ok close)

block_near : {n m : ℕ} (one two : ℕ) → Rooms n m one two → (s : Section) (d : Draft) → Alike n m one (block_at one s d) (block_at two s d)
unfolding block_at
block_near one two wide s d ls ts fits near =
    then _ _ (takes (token.Sign sign.OPEN_BRACE) ls ts near) (λ o r u le close.
    either (declares s) (decls_near one two wide s d r u (omega arith) close) (item_block_near one two wide s d r u (omega arith) close))

abbrev section_then : Section → List Lexeme → Section × List Lexeme
section_then i ts = (i, ts)

section_peeks : (p : Part) → Peeks (section_at p) section_then
unfolding section_at
section_peeks p = record { empty = refl; tells = λ l. section_in p l.kind; first = λ l ts. refl }

section_ahead : {n m : ℕ} (p : Part) (ls ts : List Lexeme) → Near n m ls ts → Ahead n m (length ls) section_then (section_at p ls) (section_at p ts)
section_ahead p = ahead (section_at p) section_then (section_peeks p)

section_block : {n m : ℕ} (one two : ℕ) → Rooms n m one two → (s : Section) (d : Draft) (ls ts : List Lexeme) → length ls ≤ one → Near n m ls ts →
    Turned false n m (length ls) (block_at one s d ls >>= λ r. Ok (r.0, true, r.1)) (block_at two s d ts >>= λ r. Ok (r.0, true, r.1))
section_block one two wide s d ls ts fits near = then_turn _ _ (block_near one two wide s d ls ts fits near) (λ e r u le close. ok_turn close)

sections_near : {n m : ℕ} (one two : ℕ) → Rooms n m one two → (p : Part) → Turning n m one (section_turn one p) (section_turn two p)
unfolding section_turn
sections_near {n = n} {m = m} one two wide p d ls ts fits near = looked_turn _ _ (section_ahead p ls ts near) (ok_last near) (λ s r u less close.
    either_turn (among s d.seen) stop_turn (raise_turn true n m (length r) (length ls) _ _ less (section_block one two wide s d r u (omega arith) close)))

part_near : {n m : ℕ} (one two : ℕ) → Rooms n m one two → (p : Part) (ds : List Decl) → Alike n m one (part_at one p ds) (part_at two p ds)
unfolding part_at
part_near one two wide p ds ls ts fits near =
    then _ _ (takes (token.Sign sign.OPEN_BRACE) ls ts near) (λ o r u le close.
    then _ _ (all_near one (section_turn one p) (section_turn two p) (sections_near one two wide p) (record { seen = []; decls = ds; items = [] }) r u (omega arith) close) (λ d r2 u2 le2 close2.
    then _ _ (takes (token.Sign sign.CLOSE_BRACE) r2 u2 close2) (λ z r3 u3 le3 close3. ok close3)))

pub source_near : {n m : ℕ} (one two : ℕ) → Rooms n m one two → Alike n m one (source_at one) (source_at two)
unfolding source_at
source_near one two wide ls ts fits near =
    then _ _ (takes (token.Keyword keyword.SYSTEM) ls ts near) (λ a r1 u1 le1 near1.
    then _ _ (takes token.Name r1 u1 near1) (λ l r2 u2 le2 near2.
    then _ _ (takes (token.Sign sign.OPEN_BRACE) r2 u2 near2) (λ o r3 u3 le3 near3.
    then _ _ (takes (token.Keyword keyword.INTERFACE) r3 u3 near3) (λ i r4 u4 le4 near4.
    then _ _ (part_near one two wide part.Interface [] r4 u4 (omega arith) near4) (λ d r5 u5 le5 near5.
    then _ _ (takes (token.Keyword keyword.IMPLEMENTATION) r5 u5 near5) (λ m r6 u6 le6 near6.
    then _ _ (part_near one two wide part.Implementation d.decls r6 u6 (omega arith) near6) (λ w r7 u7 le7 near7.
    then _ _ (takes (token.Sign sign.CLOSE_BRACE) r7 u7 near7) (λ e r8 u8 le8 near8. ok near8))))))))
