-- Declared names are words, so none is that of an unnamed guard.
use Rattle.std.proofs.Common.{◌≡◌, ℕ, List, [], ◌∷◌, Some, true, false, cond, map, slice_index, refl, sym, ◌∙◌, ap}
use Rattle.std.specs.List.{AllByRecursion}
use Rattle.hys_ast.specs.Tree.{Decl}
use Rattle.hys_lex.specs.Bytes.{is_letter}
use Rattle.hys_prog.specs.Programs.{IsWord}
use Rattle.hys_meaning.specs.Values.{Assignment}
use Rattle.hys_meaning.specs.Names.{name_of, look}
use Rattle.hys_meaning.specs.Unfolded.{guard_name}
use Rattle.hys_type.specs.Declaring.{IsDeclaration}
use Rattle.hys_type.proofs.KnownValues.{other_text}
use Rattle.hys_type.proofs.GuardPlaces.{HasNoGuards}

no_letter : (k : ℕ) → is_letter (slice_index (guard_name k) 0) ≡ false
no_letter k = refl

pub word_differs : (n : List ℕ) (k : ℕ) → IsWord n → ¬ (n ≡ guard_name k)
word_differs n k h e = never (sym (no_letter k) ∙ ap (λ (bytes : List ℕ). is_letter (slice_index bytes 0)) (sym e) ∙ h.0.0.0)
  where
    never : false ≡ true → ⊥
    never q = absurd (cc)

pub no_guards : (w : Assignment) (ds : List Decl) → AllByRecursion IsDeclaration ds → HasNoGuards (map (name_of w) ds)
no_guards w [] h k = refl
no_guards w (d ∷ ds) h k =
    ap (λ b. cond b (Some (name_of w d)) (look (map (name_of w) ds) (guard_name k))) (other_text d.name (guard_name k) (word_differs d.name k h.0.1)) ∙ no_guards w ds h.1 k
