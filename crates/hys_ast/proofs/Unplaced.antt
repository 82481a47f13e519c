-- Words don't depend on places.
use Rattle.std.proofs.Common.{◌≡◌, ℕ, nat_lt, Bool, true, false, List, [], ◌∷◌, Option, Some, None, codes, map, if◌then◌else◌, refl, sym, ap, ◌∙◌}
use Rattle.hys_lex.specs.Spaced.{Spelling}
use Rattle.hys_ast.specs.declared.source.Section.{Section}
use Rattle.hys_ast.specs.declared.source.Section.TheVariants as section
use Rattle.hys_ast.specs.Operators.{level_of}
use Rattle.hys_ast.specs.Tree.{Tree, Decl, Shape, Plain, Wide, Choice, Item, Source}
use Rattle.hys_ast.specs.Tree as tree
use Rattle.hys_ast.specs.Bare.{bare, maybe_bare, bare_decl, bare_shape, bare_item, bare_source}
use Rattle.hys_ast.specs.Printed.{mark, word, unary_mark, binary_mark, unary_strength, left_strength, right_strength, strength, grouped, expr_words, operand_words, name, kind_word, bounds_words, value_words, decl_words, else_words, shape_words, target_words, item_words, semicolon, closing, begin_words, is_open, blocks_words, decls_words, items_words, declared, head_words, middle_words, source_words}
use Rattle.hys_lex.specs.declared.sign.TheConstants as sign
use Rattle.hys_lex.specs.declared.keyword.TheConstants as keyword

pub same_strength : (e : Tree) → strength (bare e) ≡ strength e
same_strength (tree.Number text place) = refl
same_strength (tree.Name text place) = refl
same_strength (tree.Truth value place) = refl
same_strength (tree.Cast text place) = refl
same_strength (tree.Unary op a place) = refl
same_strength (tree.Binary op a b place) = refl

same_group : (t : Bool) (e : Tree) (rest : List Spelling) → ((r : List Spelling) → expr_words (bare e) r ≡ expr_words e r) → grouped t (expr_words (bare e)) rest ≡ grouped t (expr_words e) rest
same_group true e rest f = ap (λ ws. mark sign.OPEN_PARENTHESIS (codes "(") ∷ ws) (f (mark sign.CLOSE_PARENTHESIS (codes ")") ∷ rest))
same_group false e rest f = f rest

same_operand : (least : ℕ) (e : Tree) (rest : List Spelling) → ((r : List Spelling) → expr_words (bare e) r ≡ expr_words e r) → operand_words least (bare e) rest ≡ operand_words least e rest
same_operand least e rest f = ap (λ n. grouped (nat_lt n least) (expr_words (bare e)) rest) (same_strength e) ∙ same_group (nat_lt (strength e) least) e rest f

same_expr : (e : Tree) (rest : List Spelling) → expr_words (bare e) rest ≡ expr_words e rest
same_expr (tree.Number text place) rest = refl
same_expr (tree.Name text place) rest = refl
same_expr (tree.Truth value place) rest = refl
same_expr (tree.Cast text place) rest = refl
same_expr (tree.Unary op a place) rest = ap (λ ws. unary_mark op ∷ ws) (same_operand (unary_strength op) a rest (λ r. same_expr a r))
same_expr (tree.Binary op a b place) rest =
    same_operand (left_strength (level_of op)) a (binary_mark op ∷ operand_words (right_strength (level_of op)) (bare b) rest) (λ r. same_expr a r)
    ∙ ap (λ ws. operand_words (left_strength (level_of op)) a (binary_mark op ∷ ws)) (same_operand (right_strength (level_of op)) b rest (λ r. same_expr b r))

same_bounds : (low high : Option Tree) (rest : List Spelling) → bounds_words (maybe_bare low) (maybe_bare high) rest ≡ bounds_words low high rest
same_bounds None None rest = refl
same_bounds None (Some b) rest = refl
same_bounds (Some a) None rest = refl
same_bounds (Some a) (Some b) rest =
    ap (λ ws. mark sign.OPEN_BRACKET (codes "[") ∷ ws) (same_expr a (mark sign.COMMA (codes ",") ∷ expr_words (bare b) (mark sign.CLOSE_BRACKET (codes "]") ∷ rest)))
    ∙ ap (λ ws. mark sign.OPEN_BRACKET (codes "[") ∷ expr_words a (mark sign.COMMA (codes ",") ∷ ws)) (same_expr b (mark sign.CLOSE_BRACKET (codes "]") ∷ rest))

same_value : (value : Option Tree) (rest : List Spelling) → value_words (maybe_bare value) rest ≡ value_words value rest
same_value None rest = refl
same_value (Some e) rest = ap (λ ws. mark sign.EQUALS (codes "=") ∷ ws) (same_expr e rest)

same_else : (value : Option Tree) (rest : List Spelling) → else_words (maybe_bare value) rest ≡ else_words value rest
same_else None rest = refl
same_else (Some e) rest = ap (λ ws. word keyword.ELSE (codes "ELSE") ∷ ws) (same_expr e rest)

same_shape : (shape : Shape) (rest : List Spelling) → shape_words (bare_shape shape) rest ≡ shape_words shape rest
same_shape (Plain e) rest = same_expr e rest
same_shape (Wide a b) rest =
    same_expr a (mark sign.OPEN_BRACKET (codes "[") ∷ expr_words (bare b) (mark sign.CLOSE_BRACKET (codes "]") ∷ rest))
    ∙ ap (λ ws. expr_words a (mark sign.OPEN_BRACKET (codes "[") ∷ ws)) (same_expr b (mark sign.CLOSE_BRACKET (codes "]") ∷ rest))
same_shape (Choice a b c) rest =
    ap (λ ws. word keyword.IF (codes "IF") ∷ ws) (same_expr a (word keyword.THEN (codes "THEN") ∷ expr_words (bare b) (else_words (maybe_bare c) rest)))
    ∙ ap (λ ws. word keyword.IF (codes "IF") ∷ expr_words a (word keyword.THEN (codes "THEN") ∷ ws)) (same_expr b (else_words (maybe_bare c) rest) ∙ ap (expr_words b) (same_else c rest))

same_decl : (d : Decl) (rest : List Spelling) → decl_words (bare_decl d) rest ≡ decl_words d rest
same_decl d rest = ap (λ ws. kind_word d.kind ∷ name d.name ∷ ws) (same_bounds d.low d.high (value_words (maybe_bare d.value) (semicolon ∷ rest)) ∙ ap (bounds_words d.low d.high) (same_value d.value (semicolon ∷ rest)))

same_item : (i : Item) (rest : List Spelling) → item_words (bare_item i) rest ≡ item_words i rest
same_item i rest = ap (target_words i.name) (same_shape i.shape (semicolon ∷ rest))

same_blocks : {X : Type 0} (section : X → Section) (words : X → List Spelling → List Spelling) (f : X → X) (held : Option Section) (xs : List X) (rest : List Spelling) →
    ((x : X) → section (f x) ≡ section x) → ((x : X) (r : List Spelling) → words (f x) r ≡ words x r) → blocks_words section words held (map f xs) rest ≡ blocks_words section words held xs rest
same_blocks section words f held [] rest s w = refl
same_blocks section words f held (x ∷ xs) rest s w =
    ap (λ t. begin_words held t (words (f x) (blocks_words section words (Some t) (map f xs) rest))) (s x)
    ∙ ap (begin_words held (section x)) (w x (blocks_words section words (Some (section x)) (map f xs) rest) ∙ ap (words x) (same_blocks section words f (Some (section x)) xs rest s w))

picked : (t : Bool) (d : Decl) (ds es : List Decl) → map bare_decl ds ≡ es → (if t then bare_decl d ∷ es else es) ≡ map bare_decl (if t then d ∷ ds else ds)
picked true d ds es e = ap (λ xs. bare_decl d ∷ xs) (sym e)
picked false d ds es e = sym e

left : (t : Bool) (d : Decl) (ds es : List Decl) → map bare_decl ds ≡ es → (if t then es else bare_decl d ∷ es) ≡ map bare_decl (if t then ds else d ∷ ds)
left true d ds es e = sym e
left false d ds es e = ap (λ xs. bare_decl d ∷ xs) (sym e)

same_declared : (aux : Bool) (ds : List Decl) → declared aux (map bare_decl ds) ≡ map bare_decl (declared aux ds)
same_declared true [] = refl
same_declared false [] = refl
same_declared true (d ∷ ds) = picked (is_open (Some section.Aux) d.section) d (declared true ds) (declared true (map bare_decl ds)) (sym (same_declared true ds))
same_declared false (d ∷ ds) = left (is_open (Some section.Aux) d.section) d (declared false ds) (declared false (map bare_decl ds)) (sym (same_declared false ds))

same_part : (aux : Bool) (ds : List Decl) (rest : List Spelling) → decls_words None (declared aux (map bare_decl ds)) rest ≡ decls_words None (declared aux ds) rest
same_part aux ds rest = ap (λ (es : List Decl). decls_words None es rest) (same_declared aux ds) ∙ same_blocks (λ (d : Decl). d.section) decl_words bare_decl None (declared aux ds) rest (λ d. refl) same_decl

pub same_source : (s : Source) (rest : List Spelling) → source_words (bare_source s) rest ≡ source_words s rest
same_source s rest =
    ap (head_words s.system) (same_part false s.decls (middle_words (decls_words None (declared true (map bare_decl s.decls)) (items_words None (map bare_item s.items) (closing ∷ closing ∷ rest))))
    ∙ ap (λ ws. decls_words None (declared false s.decls) (middle_words ws)) (same_part true s.decls (items_words None (map bare_item s.items) (closing ∷ closing ∷ rest))
    ∙ ap (decls_words None (declared true s.decls)) (same_blocks (λ (i : Item). i.section) item_words bare_item None s.items (closing ∷ closing ∷ rest) (λ i. refl) same_item)))
