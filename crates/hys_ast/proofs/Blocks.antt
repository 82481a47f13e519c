-- Parts of sections in blocks, each section at most once.
use Rattle.std.proofs.Common.{◌≡◌, Bool, true, false, ◌||◌, eqb, eq-eqb, List, [], ◌∷◌, ◌++◌, Option, Some, None, refl, sym, ap, subst, ◌∙◌}
use Rattle.hys_lex.specs.Spaced.{Spelling}
use Rattle.hys_ast.specs.declared.source.Section.{Section}
use Rattle.hys_ast.specs.Grammar.{number_of, among}
use Rattle.hys_ast.specs.Printed.{opening, closing, section_word, is_open, begin_words, blocks_words}
use Rattle.hys_ast.proofs.Spelled.{Spelled}
use Rattle.hys_ast.proofs.Listed.{opening-spelled, closing-spelled, section-spelled}

-- all parts are of one section
abbrev pub EachIn : {X : Type 0} → (X → Type 0) → (X → Section) → Section → List X → Type 0
EachIn P section s [] = Unit {0}
EachIn P section s (x ∷ xs) = P x × (section x ≡ s) × EachIn P section s xs

pub each_append : {X : Type 0} (P : X → Type 0) (section : X → Section) (s : Section) (xs ys : List X) → EachIn P section s xs → EachIn P section s ys → EachIn P section s (xs ++ ys)
each_append P section s [] ys h i = i
each_append P section s (x ∷ xs) ys h i = (h.0, h.1, each_append P section s xs ys h.2 i)

-- blocks of parts, each of an allowed section that isn't among those seen before
pub data Blocks {X : Type 0} (P : X → Type 0) (section : X → Section) (Allowed : Section → Type 0) : List Section → List X → Type 0 where
  over : {seen : List Section} → Blocks P section Allowed seen []
  block : {seen : List Section} (s : Section) (x : X) (xs ys : List X) → Allowed s → among s seen ≡ false → EachIn P section s (x ∷ xs) →
      Blocks P section Allowed (seen ++ s ∷ []) ys → Blocks P section Allowed seen (x ∷ (xs ++ ys))

-- what is kept of the sections that were seen
abbrev pub Within : (Section → Type 0) → List Section → List Section → Type 0
Within Allowed kept seen = (s : Section) → Allowed s → among s seen ≡ false → among s kept ≡ false

or_false : (a b : Bool) → (a || b) ≡ false → (a ≡ false) × (b ≡ false)
or_false true b h = absurd (cc)
or_false false b h = (refl, h)

or_both : (a b : Bool) → a ≡ false → b ≡ false → (a || b) ≡ false
or_both true b h i = absurd (cc)
or_both false b h i = i

among_split : (s t : Section) (seen : List Section) → among s (seen ++ t ∷ []) ≡ false → (among s seen ≡ false) × (eqb (number_of t) (number_of s) ≡ false)
among_split s t [] h = (refl, (or_false (eqb (number_of t) (number_of s)) false h).0)
among_split s t (u ∷ seen) h =
    let p : (eqb (number_of u) (number_of s) ≡ false) × (among s (seen ++ t ∷ []) ≡ false) = or_false (eqb (number_of u) (number_of s)) (among s (seen ++ t ∷ [])) h in
    let q : (among s seen ≡ false) × (eqb (number_of t) (number_of s) ≡ false) = among_split s t seen p.1 in
    (or_both (eqb (number_of u) (number_of s)) (among s seen) p.0 q.0, q.1)

among_join : (s t : Section) (seen : List Section) → among s seen ≡ false → eqb (number_of t) (number_of s) ≡ false → among s (seen ++ t ∷ []) ≡ false
among_join s t [] h e = or_both (eqb (number_of t) (number_of s)) false e refl
among_join s t (u ∷ seen) h e =
    let p : (eqb (number_of u) (number_of s) ≡ false) × (among s seen ≡ false) = or_false (eqb (number_of u) (number_of s)) (among s seen) h in
    or_both (eqb (number_of u) (number_of s)) (among s (seen ++ t ∷ [])) p.0 (among_join s t seen p.1 e)

-- an empty section isn't kept
pub within_more : (Allowed : Section → Type 0) (kept seen : List Section) (t : Section) → Within Allowed kept seen → Within Allowed kept (seen ++ t ∷ [])
within_more Allowed kept seen t w = λ s a h. w s a (among_split s t seen h).0

pub within_both : (Allowed : Section → Type 0) (kept seen : List Section) (t : Section) → Within Allowed kept seen → Within Allowed (kept ++ t ∷ []) (seen ++ t ∷ [])
within_both Allowed kept seen t w = λ s a h. let p : (among s seen ≡ false) × (eqb (number_of t) (number_of s) ≡ false) = among_split s t seen h in among_join s t kept (w s a p.0) p.1

pub add_block : {X : Type 0} (P : X → Type 0) (section : X → Section) (Allowed : Section → Type 0) (s : Section) (xs ys : List X) (kept seen : List Section) → Allowed s → among s seen ≡ false → EachIn P section s xs →
    Within Allowed kept seen → ((k : List Section) → Within Allowed k (seen ++ s ∷ []) → Blocks P section Allowed k ys) → Blocks P section Allowed kept (xs ++ ys)
add_block P section Allowed s [] ys kept seen a h each w later = later kept (within_more Allowed kept seen s w)
add_block P section Allowed s (x ∷ xs) ys kept seen a h each w later = block s x xs ys a (w s a h) each (later (kept ++ s ∷ []) (within_both Allowed kept seen s w))

-- the parts of one block, one after the other
abbrev pub lines : {X : Type 0} → (X → List Spelling → List Spelling) → List X → List Spelling → List Spelling
lines words [] rest = rest
lines words (x ∷ xs) rest = words x (lines words xs rest)

is_itself : (s t : Section) → t ≡ s → is_open (Some s) t ≡ true
is_itself s t e = eq-eqb (number_of s) (number_of t) (ap number_of (sym e))

stays : (held : Option Section) (s : Section) (rest : List Spelling) → is_open held s ≡ true → begin_words held s rest ≡ rest
stays held s rest e = rw e refl

turns : (s t : Section) (rest : List Spelling) → is_open (Some s) t ≡ false → begin_words (Some s) t rest ≡ closing ∷ begin_words None t rest
turns s t rest e = rw e refl

same_run : {X : Type 0} (P : X → Type 0) (section : X → Section) (words : X → List Spelling → List Spelling) (s : Section) (xs ys : List X) (rest : List Spelling) → EachIn P section s xs →
    blocks_words section words (Some s) (xs ++ ys) rest ≡ lines words xs (blocks_words section words (Some s) ys rest)
same_run P section words s [] ys rest each = refl
same_run P section words s (x ∷ xs) ys rest each =
    stays (Some s) (section x) (words x (blocks_words section words (Some (section x)) (xs ++ ys) rest)) (is_itself s (section x) each.1)
    ∙ ap (λ t. words x (blocks_words section words (Some t) (xs ++ ys) rest)) each.1 ∙ ap (words x) (same_run P section words s xs ys rest each.2)

-- the first part is of another section
abbrev Apart : {X : Type 0} → (X → Section) → Section → List X → Type 0
Apart section s [] = Unit {0}
Apart section s (x ∷ xs) = is_open (Some s) (section x) ≡ false

apart : {X : Type 0} (P : X → Type 0) (section : X → Section) (Allowed : Section → Type 0) (seen kept : List Section) (s : Section) (xs : List X) → kept ≡ seen ++ s ∷ [] → Blocks P section Allowed kept xs → Apart section s xs
apart P section Allowed seen kept s _ e over = tt
apart P section Allowed seen kept s _ e (block t x ys zs a h each later) =
    let new : among t (seen ++ s ∷ []) ≡ false = ap (among t) (sym e) ∙ h in
    ap (λ u. eqb (number_of s) (number_of u)) each.1 ∙ (among_split t s seen new).1

turned : {X : Type 0} (section : X → Section) (words : X → List Spelling → List Spelling) (s : Section) (xs : List X) (rest : List Spelling) → Apart section s xs →
    blocks_words section words (Some s) xs rest ≡ closing ∷ blocks_words section words None xs rest
turned section words s [] rest h = refl
turned section words s (x ∷ xs) rest h = turns s (section x) (words x (blocks_words section words (Some (section x)) xs rest)) h

-- the words of a block, and of what follows it
pub block_words : {X : Type 0} (P : X → Type 0) (section : X → Section) (words : X → List Spelling → List Spelling) (Allowed : Section → Type 0) (seen : List Section) (s : Section) (x : X) (xs ys : List X) (rest : List Spelling) →
    EachIn P section s (x ∷ xs) → Blocks P section Allowed (seen ++ s ∷ []) ys →
    blocks_words section words None (x ∷ (xs ++ ys)) rest ≡ section_word s ∷ opening ∷ lines words (x ∷ xs) (closing ∷ blocks_words section words None ys rest)
block_words P section words Allowed seen s x xs ys rest each later =
    ap (λ t. section_word t ∷ opening ∷ words x (blocks_words section words (Some t) (xs ++ ys) rest)) each.1
    ∙ ap (λ ws. section_word s ∷ opening ∷ words x ws) (same_run P section words s xs ys rest each.2)
    ∙ ap (λ ws. section_word s ∷ opening ∷ words x (lines words xs ws)) (turned section words s ys rest (apart P section Allowed seen (seen ++ s ∷ []) s ys refl later))

pub lines_spelled : {X : Type 0} (P : X → Type 0) (section : X → Section) (words : X → List Spelling → List Spelling) (s : Section) (xs : List X) (rest : List Spelling) →
    ((x : X) (more : List Spelling) → P x → Spelled more → Spelled (words x more)) → EachIn P section s xs → Spelled rest → Spelled (lines words xs rest)
lines_spelled P section words s [] rest each all h = h
lines_spelled P section words s (x ∷ xs) rest each all h = each x (lines words xs rest) all.0 (lines_spelled P section words s xs rest each all.2 h)

pub blocks_spelled : {X : Type 0} (P : X → Type 0) (section : X → Section) (words : X → List Spelling → List Spelling) (Allowed : Section → Type 0) (seen : List Section) (xs : List X) (rest : List Spelling) →
    ((x : X) (more : List Spelling) → P x → Spelled more → Spelled (words x more)) → Blocks P section Allowed seen xs → Spelled rest → Spelled (blocks_words section words None xs rest)
blocks_spelled P section words Allowed seen _ rest each over h = h
blocks_spelled P section words Allowed seen _ rest each (block s x xs ys a i all later) h =
    subst Spelled (sym (block_words P section words Allowed seen s x xs ys rest all later)) (
      section-spelled s,
      (
        opening-spelled,
        lines_spelled P section words s (x ∷ xs) (closing ∷ blocks_words section words None ys rest) each all
            (closing-spelled, blocks_spelled P section words Allowed (seen ++ s ∷ []) ys rest each later h),
      ),
    )
