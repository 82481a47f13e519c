-- Printing declarations and items one after the other.
use Rattle.std.proofs.Common.{◌≡◌, ℕ, ◌≤◌, Bool, List, ◌++◌, length, drop, map, Option, None, sym, ap, ◌∙◌}
use Rattle.std.proofs.lemmas.List.{drop_all}
use Rattle.hys_lex.specs.Spaced.{Spelling, spaced}
use Rattle.hys_ast.specs.declared.source.Section.{Section}
use Rattle.hys_ast.specs.declared.source.Decl.{Decl as Coded}
use Rattle.hys_ast.specs.declared.source.Item.{Item as Listed}
use Rattle.hys_ast.specs.Seen.{decl_of, item_of}
use Rattle.hys_ast.specs.Printed.{end_words, decls_words, items_words, declared}

-- what is written, and then what is still to be written, is the whole
abbrev pub Stands : {Y : Type 0} → (Option Section → List Y → List Spelling → List Spelling) → List ℕ → List ℕ → Option Section → List Y → List Y → Type 0
Stands words before out held left all = (rest : List Spelling) → out ++ spaced (words held left rest) ≡ before ++ spaced (words None all rest)

-- nothing is left: the section that is open ends
pub decls_end : (aux : Bool) (decls : List Coded) (i : ℕ) (before out new : List ℕ) (held : Option Section) → length decls ≤ i →
    ((rest : List Spelling) → new ++ spaced rest ≡ out ++ spaced (end_words held rest)) →
    Stands decls_words before out held (declared aux (map decl_of (drop i decls))) (declared aux (map decl_of decls)) →
    (rest : List Spelling) → new ++ spaced rest ≡ before ++ spaced (decls_words None (declared aux (map decl_of decls)) rest)
decls_end aux decls i before out new held past step was rest =
    step rest ∙ ap (λ (xs : List Coded). out ++ spaced (decls_words held (declared aux (map decl_of xs)) rest)) (sym (drop_all i decls past)) ∙ was rest

pub items_end : (items : List Listed) (i : ℕ) (before out new : List ℕ) (held : Option Section) → length items ≤ i →
    ((rest : List Spelling) → new ++ spaced rest ≡ out ++ spaced (end_words held rest)) →
    Stands items_words before out held (map item_of (drop i items)) (map item_of items) →
    (rest : List Spelling) → new ++ spaced rest ≡ before ++ spaced (items_words None (map item_of items) rest)
items_end items i before out new held past step was rest =
    step rest ∙ ap (λ (xs : List Listed). out ++ spaced (items_words held (map item_of xs) rest)) (sym (drop_all i items past)) ∙ was rest
