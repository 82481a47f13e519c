-- What parts keep so that their system is lawful.
use Rattle.std.specs.Prelude.{◌≡◌, ℕ, ◌+◌, ◌*◌, ◌≤◌, List, [], ◌∷◌, length, All, cond, false}
use Rattle.hys_lin.specs.Over.{AreTermsOver}
use Rattle.hys_prog.specs.declared.program.Body.{Body}
use Rattle.hys_prog.specs.declared.program.ProgItem.{ProgItem}
use Rattle.hys_prog.specs.Programs.{body_connectives}
use Rattle.hys_exact.specs.Parts.{Part, is_after}

-- what a body adds to the weight: its connectives, and 1 where it defines an auxiliary or demands something
abbrev pub body_weight : Body → ℕ
body_weight b = body_connectives b + cond (is_after b) 0 1

-- The rows and the form are over so many columns, no row is an equation, and there are at most as many fresh columns
-- as connectives and five rows for each unit of weight.
pub record IsSound (columns : ℕ) (t : ProgItem) (q : Part) : Type 0 where
  pub rows : All (λ r. AreTermsOver columns r.terms) q.rows
  pub no_equation : All (λ r. r.eq ≡ false) q.rows
  pub form : AreTermsOver columns q.form.terms
  pub few_fresh : q.count ≤ body_connectives t.body
  pub few_rows : length q.rows ≤ 5 * body_weight t.body

-- each part is sound for its item
abbrev pub AreSound : ℕ → List ProgItem → List Part → Type 0
AreSound columns [] [] = Unit {0}
AreSound columns [] (q ∷ qs) = ⊥
AreSound columns (t ∷ ts) [] = ⊥
AreSound columns (t ∷ ts) (q ∷ qs) = IsSound columns t q × AreSound columns ts qs
