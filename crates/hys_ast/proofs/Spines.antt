-- Left operands, down to the first and up again.
use Rattle.std.proofs.Common.{◌≡◌, ℕ, ◌≤◌, List, [], ◌∷◌, ◌++◌, map, refl, sym, ap, subst, ◌∙◌, arith}
use Rattle.std.proofs.lemmas.List.{map_push}
use Rattle.hys_lex.specs.Spaced.{Spelling, spaced}
use Rattle.hys_ast.specs.declared.place.Place.{Place}
use Rattle.hys_ast.specs.declared.tree.BinaryOp.{BinaryOp}
use Rattle.hys_ast.specs.Operators.{level_of}
use Rattle.hys_ast.specs.Nodes.{nodes}
use Rattle.hys_ast.specs.Tree.{Tree, Binary}
use Rattle.hys_ast.specs.Printed.{left_strength, is_loose, open_words, expr_words}
use Rattle.hys_ast.specs.Spines.{behind_left, behind, Within}

behind_push : (es : List Tree) (e : Tree) (rest : List Spelling) → behind (es ++ e ∷ []) rest ≡ behind_left e (behind es rest)
behind_push [] e rest = refl
behind_push (x ∷ es) e rest = behind_push es e (behind_left x rest)

within_push : (n : ℕ) (es : List Tree) (e : Tree) → Within n es → nodes e ≤ n → Within n (es ++ e ∷ [])
within_push n [] e h less = (less, tt)
within_push n (x ∷ es) e h less = (h.0, within_push n es e h.1 less)

within_pop : (n : ℕ) (es : List Tree) (e : Tree) → Within n (es ++ e ∷ []) → Within n es × (nodes e ≤ n)
within_pop n [] e h = (tt, h.0)
within_pop n (x ∷ es) e h = let p : Within n es × (nodes e ≤ n) = within_pop n es e h.1 in ((h.0, p.0), p.1)

-- what is written, and then the first operand with what follows it, is the whole
pub record Down (whole first : Tree) (spine : List Tree) (before out : List ℕ) : Type 0 where
  pub written : (rest : List Spelling) → out ++ spaced (expr_words first (behind spine rest)) ≡ before ++ spaced (expr_words whole rest)
  pub smaller : nodes first ≤ nodes whole
  pub within : Within (nodes whole) spine

pub down_start : (whole : Tree) (out : List ℕ) → Down whole whole [] out out
down_start whole out = record { written = λ rest. refl; smaller = omega arith; within = tt }

down : (op : BinaryOp) (a b : Tree) (place : Place) (whole : Tree) (spine : List Tree) (before out new : List ℕ) → ((rest : List Spelling) → new ++ spaced rest ≡ out ++ spaced (open_words (is_loose (left_strength (level_of op)) a) rest)) →
    Down whole (Binary op a b place) spine before out → Down whole a (spine ++ Binary op a b place ∷ []) before new
down op a b place whole spine before out new put d = record {
  written = λ rest.
      ap (λ ws. new ++ spaced (expr_words a ws)) (behind_push spine (Binary op a b place) rest) ∙ put (expr_words a (behind_left (Binary op a b place) (behind spine rest))) ∙ d.written rest;
  smaller = omega (arith, d.smaller);
  within = within_push (nodes whole) spine (Binary op a b place) d.within d.smaller;
}

-- one operator more, seen in the code
pub down_turn : {X : Type 0} (view : X → Tree) (op : BinaryOp) (a b : Tree) (place : Place) (whole first : Tree) (items pushed : List X) (x : X) (before out new : List ℕ) → first ≡ Binary op a b place → view x ≡ first → pushed ≡ items ++ x ∷ [] →
    ((rest : List Spelling) → new ++ spaced rest ≡ out ++ spaced (open_words (is_loose (left_strength (level_of op)) a) rest)) → Down whole first (map view items) before out → Down whole a (map view pushed) before new
down_turn view op a b place whole first items pushed x before out new e v p put d =
    let P : Tree → Type 0 = λ t. Down whole t (map view items) before out in
    let Q : List Tree → Type 0 = λ ts. Down whole a ts before new in
    let same : map view items ++ Binary op a b place ∷ [] ≡ map view pushed = sym (ap (map view) p ∙ map_push view items x ∙ ap (λ t. map view items ++ t ∷ []) (v ∙ e)) in
    subst Q same (down op a b place whole (map view items) before out new put (subst P e d))

-- what is written, and then what follows the left operands, is the whole
pub record Up (whole : Tree) (spine : List Tree) (before out : List ℕ) : Type 0 where
  pub written : (rest : List Spelling) → out ++ spaced (behind spine rest) ≡ before ++ spaced (expr_words whole rest)
  pub within : Within (nodes whole) spine

pub up_start : (whole first : Tree) (spine : List Tree) (before middle out : List ℕ) → ((rest : List Spelling) → middle ++ spaced (expr_words first (behind spine rest)) ≡ before ++ spaced (expr_words whole rest)) → Within (nodes whole) spine →
    ((rest : List Spelling) → out ++ spaced rest ≡ middle ++ spaced (expr_words first rest)) → Up whole spine before out
up_start whole first spine before middle out was within put = record { written = λ rest. put (behind spine rest) ∙ was rest; within = within }

popped : {X : Type 0} (view : X → Tree) (items left : List X) (x : X) → items ≡ left ++ x ∷ [] → map view items ≡ map view left ++ view x ∷ []
popped view items left x e = ap (map view) e ∙ map_push view left x

pub up_smaller : {X : Type 0} (view : X → Tree) (whole : Tree) (items left : List X) (x : X) (before out : List ℕ) → items ≡ left ++ x ∷ [] → Up whole (map view items) before out → nodes (view x) ≤ nodes whole
up_smaller view whole items left x before out e u = let P : List Tree → Type 0 = Within (nodes whole) in (within_pop (nodes whole) (map view left) (view x) (subst P (popped view items left x e) u.within)).1

pub up_turn : {X : Type 0} (view : X → Tree) (whole : Tree) (items left : List X) (x : X) (before out new : List ℕ) → items ≡ left ++ x ∷ [] → Up whole (map view items) before out →
    ((rest : List Spelling) → new ++ spaced rest ≡ out ++ spaced (behind_left (view x) rest)) → Up whole (map view left) before new
up_turn view whole items left x before out new e u put =
    let P : List Tree → Type 0 = Within (nodes whole) in
    record {
      written = λ rest. put (behind (map view left) rest) ∙ ap (λ ws. out ++ spaced ws) (sym (ap (λ ts. behind ts rest) (popped view items left x e) ∙ behind_push (map view left) (view x) rest)) ∙ u.written rest;
      within = (within_pop (nodes whole) (map view left) (view x) (subst P (popped view items left x e) u.within)).0;
    }
