-- The solutions of a stacked problem, step by step.
use Rattle.std.proofs.Common.{◌≡◌, ◌↔◌, ℕ, zero, suc, ◌+◌, ◌<◌, ◌≤◌, List, [], ◌∷◌, ◌++◌, length, map, take, drop, true, refl, sym, ◌∙◌, ap, ap₂, subst, arith, append_assoc}
use Rattle.std.proofs.Math.Nat.{suc-mul}
use Rattle.std.proofs.lemmas.List.{take-append-drop, length-map, length-append, length-drop}
use Rattle.std.specs.Prelude.{nat_eq}
use Rattle.std.specs.List.{AllByRecursion, list_any}
use Rattle.hys_number.specs.Number.{Number}
use Rattle.hys_lin.specs.Bits.{IsBit}
use Rattle.hys_lin.specs.Sums.{Assignment, at, value, HoldAll}
use Rattle.hys_lin.specs.Over.{AreTermsOver}
use Rattle.hys_lin.specs.Ranges.{InBoxes}
use Rattle.hys_lin.specs.declared.form.Affine.{Affine}
use Rattle.hys_lin.specs.declared.form.Row.{Row}
use Rattle.hys_lin.specs.declared.form.Interval.{Interval}
use Rattle.hys_lin.specs.declared.problem.Problem.{Problem}
use Rattle.hys_relax.specs.Node.{StackedSolution}
use Rattle.hys_sys.specs.declared.system.System.{System}
use Rattle.hys_sys.specs.declared.system.Column.{Column}
use Rattle.hys_stack.specs.declared.request.Request.{Request}
use Rattle.hys_stack.specs.Requests.{state_columns}
use Rattle.hys_stack.specs.Stacking.{each_step, offset, bounds_of, only, step_boxes, stacked_boxes, step_rows, step_branch, stacked_branch, IsStacked}
use Rattle.hys_stack.proofs.Blocks.{at_front, at_behind, each_same, value_same, holds_same, hold_moved, hold_behind, equations_are, InEach, in_each_long, in_each_split, in_each_join, AreBits, bits_are, all_behind, of_members, at_member}

-- the rows and forms of a system name its columns alone, and there is one form for each state
pub record IsOver (S : System) : Type 0 where
  pub rows : AllByRecursion (λ r. AreTermsOver (length S.columns) r.terms) S.rows
  pub next : AllByRecursion (λ f. AreTermsOver (length S.columns) f.terms) S.next
  pub each : length S.next ≡ length (state_columns S.columns)

-- the numbers of one step, without its boxes, with the numbers behind it
pub record IsBlock (S : System) (b rest : List Number) : Type 0 where
  pub long : length b ≡ length S.columns
  pub rows : HoldAll (at b) S.rows
  pub next : map (λ f. value f (at b)) S.next ≡ take (length S.next) rest
  pub bits : AreBits S.columns b

-- the numbers of n steps from step t on, and of the last states
abbrev pub IsChain : System → Request → ℕ → ℕ → List Number → Type 0
IsChain S r t zero u = InEach (bounds_of (state_columns S.columns)) u
IsChain S r t (suc n) u = (b : List Number) × (rest : List Number) × (u ≡ b ++ rest) × InEach (step_boxes S r t) b × IsBlock S b rest × IsChain S r (suc t) n rest

-- ---- rows over the numbers of the step
front_same : (b rest : List Number) (m : ℕ) (f : Assignment) → ((i : ℕ) → f (m + i) ≡ at (b ++ rest) i) → (c : ℕ) → c < length b → f (m + c) ≡ at b c
front_same b rest m f h c l = h c ∙ at_front b rest c l

rows_over : (n : ℕ) (rs : List Row) (f g : Assignment) → ((c : ℕ) → c < n → f c ≡ g c) → AllByRecursion (λ r. AreTermsOver n r.terms) rs → HoldAll f rs → HoldAll g rs
rows_over n [] f g h o e = tt
rows_over n (r ∷ rs) f g h o e = (holds_same r f g (each_same (λ c. c < n) (λ c. f c ≡ g c) r.terms h o.0.below) e.0, rows_over n rs f g h o.1 e.1)

values_over : (n : ℕ) (fs : List Affine) (f g : Assignment) → ((c : ℕ) → c < n → f c ≡ g c) → AllByRecursion (λ F. AreTermsOver n F.terms) fs → map (λ F. value F f) fs ≡ map (λ F. value F g) fs
values_over n [] f g h o = refl
values_over n (F ∷ fs) f g h o = ap₂ (λ (x : Number) (xs : List Number). x ∷ xs) (value_same F f g (each_same (λ c. c < n) (λ c. f c ≡ g c) F.terms h o.0.below)) (values_over n fs f g h o.1)

-- what is said of all numbers f, where those from offset on are b and then the rest
step_holds : (S : System) → IsOver S → (t : ℕ) (b rest : List Number) (f : Assignment) → length b ≡ length S.columns → length S.next ≤ length rest →
    ((i : ℕ) → f (offset S t + i) ≡ at (b ++ rest) i) →
    HoldAll f (step_rows S t) ↔ (HoldAll (at b) S.rows × (map (λ F. value F (at b)) S.next ≡ take (length S.next) rest))
step_holds S o t b rest f l m h = (there, back)
  where
    same : (c : ℕ) → c < length S.columns → f (offset S t + c) ≡ at b c
    same c k = front_same b rest (offset S t) f h c (omega (arith, k, l))

    behind : (i : ℕ) → f (offset S (suc t) + i) ≡ at rest i
    behind i = let q : offset S (suc t) + i ≡ offset S t + (length b + i) = omega (arith, suc-mul t (length S.columns), l) in ap f q ∙ h (length b + i) ∙ at_behind b rest i (length b + i) refl

    values : map (λ F. value F (λ c. f (offset S t + c))) S.next ≡ map (λ F. value F (at b)) S.next
    values = values_over (length S.columns) S.next (λ c. f (offset S t + c)) (at b) same o.next

    there : HoldAll f (step_rows S t) → HoldAll (at b) S.rows × (map (λ F. value F (at b)) S.next ≡ take (length S.next) rest)
    there e = let parts : HoldAll f (map _ S.rows) × HoldAll f _ = (hold_behind _ _ f).0 e in (
      rows_over (length S.columns) S.rows (λ c. f (offset S t + c)) (at b) same o.rows ((hold_moved (offset S t) S.rows f).0 parts.0),
      sym values ∙ (equations_are (offset S t) (offset S (suc t)) S.next f rest behind m).0 parts.1,
    )

    back : HoldAll (at b) S.rows × (map (λ F. value F (at b)) S.next ≡ take (length S.next) rest) → HoldAll f (step_rows S t)
    back e = (hold_behind _ _ f).1 (
      (hold_moved (offset S t) S.rows f).1 (rows_over (length S.columns) S.rows (at b) (λ c. f (offset S t + c)) (λ c k. sym (same c k)) o.rows e.0),
      (equations_are (offset S t) (offset S (suc t)) S.next f rest behind m).1 (values ∙ e.1),
    )

step_bits : (S : System) (t : ℕ) (b rest : List Number) (f : Assignment) → length b ≡ length S.columns →
    ((i : ℕ) → f (offset S t + i) ≡ at (b ++ rest) i) → AllByRecursion (λ c. IsBit (f c)) (step_branch S t) ↔ AreBits S.columns b
step_bits S t b rest f l h = bits_are (offset S t) S.columns b f l (λ i k. front_same b rest (offset S t) f h i k)

-- ---- boxes
pub long_step : (S : System) (r : Request) → length r.start ≤ length S.columns → (t : ℕ) → length (step_boxes S r t) ≡ length S.columns
long_step S r l zero =
    length-append (map only r.start) (bounds_of (drop (length r.start) S.columns))
    ∙ ap₂ ◌+◌ (length-map r.start only) (length-map (drop (length r.start) S.columns) (λ (c : Column). c.bounds) ∙ length-drop (length r.start) S.columns)
    ∙ omega (arith, l)
long_step S r l (suc t) = length-map S.columns (λ (c : Column). c.bounds)

long_last : (S : System) → length (bounds_of (state_columns S.columns)) ≡ length (state_columns S.columns)
long_last S = length-map (state_columns S.columns) (λ (c : Column). c.bounds)

-- the numbers behind a step are enough for its next states
enough : (S : System) → IsOver S → (is : List Interval) (rest : List Number) → InEach (is ++ bounds_of (state_columns S.columns)) rest → length S.next ≤ length rest
enough S o is rest h =
    let a : length rest ≡ length is + length (bounds_of (state_columns S.columns)) = in_each_long _ rest h ∙ length-append is _ in
    omega (arith, a, long_last S, o.each)

-- ---- chains
pub chain_of : (S : System) (r : Request) → IsOver S → length r.start ≤ length S.columns → (n t : ℕ) (u : List Number) (f : Assignment) →
    ((i : ℕ) → f (offset S t + i) ≡ at u i) → InEach (each_step t n (step_boxes S r) ++ bounds_of (state_columns S.columns)) u →
    HoldAll f (each_step t n (step_rows S)) → AllByRecursion (λ c. IsBit (f c)) (each_step t n (step_branch S)) → IsChain S r t n u
chain_of S r o l zero t u f h boxes rows bits = boxes
chain_of S r o l (suc n) t u f h boxes rows bits = (
  b,
  rest,
  sym split,
  parts.0,
  record { long = long; rows = here.0; next = here.1; bits = (step_bits S t b rest f long front).0 marks.0 },
  chain_of S r o l n (suc t) rest f behind parts.1 both.1 marks.1,
)
  where
    k : ℕ
    k = length (step_boxes S r t)

    b : List Number
    b = take k u

    rest : List Number
    rest = drop k u

    split : b ++ rest ≡ u
    split = take-append-drop k u

    parts : InEach (step_boxes S r t) b × InEach (each_step (suc t) n (step_boxes S r) ++ bounds_of (state_columns S.columns)) rest
    parts = in_each_split (step_boxes S r t) (each_step (suc t) n (step_boxes S r) ++ bounds_of (state_columns S.columns)) u
        (subst (λ is. InEach is u) (append_assoc (step_boxes S r t) (each_step (suc t) n (step_boxes S r)) (bounds_of (state_columns S.columns))) boxes)

    long : length b ≡ length S.columns
    long = in_each_long (step_boxes S r t) b parts.0 ∙ long_step S r l t

    front : (i : ℕ) → f (offset S t + i) ≡ at (b ++ rest) i
    front i = h i ∙ ap (λ xs. at xs i) (sym split)

    behind : (i : ℕ) → f (offset S (suc t) + i) ≡ at rest i
    behind i = let q : offset S (suc t) + i ≡ offset S t + (length b + i) = omega (arith, suc-mul t (length S.columns), long) in
        ap f q ∙ front (length b + i) ∙ at_behind b rest i (length b + i) refl

    both : HoldAll f (step_rows S t) × HoldAll f (each_step (suc t) n (step_rows S))
    both = (hold_behind (step_rows S t) (each_step (suc t) n (step_rows S)) f).0 rows

    marks : AllByRecursion (λ c. IsBit (f c)) (step_branch S t) × AllByRecursion (λ c. IsBit (f c)) (each_step (suc t) n (step_branch S))
    marks = (all_behind (λ c. IsBit (f c)) (step_branch S t) (each_step (suc t) n (step_branch S))).0 bits

    here : HoldAll (at b) S.rows × (map (λ F. value F (at b)) S.next ≡ take (length S.next) rest)
    here = (step_holds S o t b rest f long (enough S o (each_step (suc t) n (step_boxes S r)) rest parts.1) front).0 both.0

-- the boxes of a chain
chain_boxes : (S : System) (r : Request) (n t : ℕ) (u : List Number) → IsChain S r t n u → InEach (each_step t n (step_boxes S r) ++ bounds_of (state_columns S.columns)) u
chain_boxes S r zero t u c = c
chain_boxes S r (suc n) t u (b, rest, e, inside, block, chain) = subst (InEach (each_step t (suc n) (step_boxes S r) ++ bounds_of (state_columns S.columns))) (sym e)
    (subst (λ is. InEach is (b ++ rest)) (sym (append_assoc (step_boxes S r t) (each_step (suc t) n (step_boxes S r)) (bounds_of (state_columns S.columns))))
    (in_each_join (step_boxes S r t) _ b rest inside (chain_boxes S r n (suc t) rest chain)))

chain_step : (S : System) (r : Request) → IsOver S → (n t : ℕ) (u b rest : List Number) (f : Assignment) → ((i : ℕ) → f (offset S t + i) ≡ at u i) → u ≡ b ++ rest → IsBlock S b rest → IsChain S r (suc t) n rest →
    (((i : ℕ) → f (offset S (suc t) + i) ≡ at rest i) → HoldAll f (each_step (suc t) n (step_rows S)) × AllByRecursion (λ c. IsBit (f c)) (each_step (suc t) n (step_branch S))) →
    HoldAll f (each_step t (suc n) (step_rows S)) × AllByRecursion (λ c. IsBit (f c)) (each_step t (suc n) (step_branch S))
chain_step S r o n t u b rest f h e block chain next = (
  (hold_behind (step_rows S t) (each_step (suc t) n (step_rows S)) f).1
      ((step_holds S o t b rest f block.long (enough S o (each_step (suc t) n (step_boxes S r)) rest (chain_boxes S r n (suc t) rest chain)) front).1 (block.rows, block.next), (next behind).0),
  (all_behind (λ c. IsBit (f c)) (step_branch S t) (each_step (suc t) n (step_branch S))).1 ((step_bits S t b rest f block.long front).1 block.bits, (next behind).1),
)
  where
    front : (i : ℕ) → f (offset S t + i) ≡ at (b ++ rest) i
    front i = h i ∙ ap (λ xs. at xs i) e

    behind : (i : ℕ) → f (offset S (suc t) + i) ≡ at rest i
    behind i = let q : offset S (suc t) + i ≡ offset S t + (length b + i) = omega (arith, suc-mul t (length S.columns), block.long) in
        ap f q ∙ front (length b + i) ∙ at_behind b rest i (length b + i) refl

-- and the other way round: its rows and its branch columns
chain_holds : (S : System) (r : Request) → IsOver S → (n t : ℕ) (u : List Number) (f : Assignment) → ((i : ℕ) → f (offset S t + i) ≡ at u i) → IsChain S r t n u →
    HoldAll f (each_step t n (step_rows S)) × AllByRecursion (λ c. IsBit (f c)) (each_step t n (step_branch S))
chain_holds S r o zero t u f h c = (tt, tt)
chain_holds S r o (suc n) t u f h (b, rest, e, inside, block, chain) = chain_step S r o n t u b rest f h e block chain (λ behind. chain_holds S r o n (suc t) rest f behind chain)

-- ---- solutions
in_each_of : (is : List Interval) (xs : List Number) → length xs ≡ length is → InBoxes is (at xs) → InEach is xs
in_each_of [] [] l h = tt
in_each_of [] (a ∷ as') l h = absurd (omega arith)
in_each_of (i ∷ is) [] l h = absurd (omega arith)
in_each_of (i ∷ is) (a ∷ as') l h = (h 0 (omega arith), in_each_of is as' (omega arith) (λ c m. h (suc c) (omega arith)))

of_in_each : (is : List Interval) (xs : List Number) → InEach is xs → InBoxes is (at xs)
of_in_each [] xs h c m = absurd (omega arith)
of_in_each (i ∷ is) [] h c m = absurd h
of_in_each (i ∷ is) (a ∷ as') h zero m = h.0
of_in_each (i ∷ is) (a ∷ as') h (suc c) m = of_in_each is as' h.1 c (omega arith)

start_at : (S : System) (u : List Number) (i : ℕ) → at u (offset S 0 + i) ≡ at u i
start_at S u i = let q : offset S 0 + i ≡ i = omega arith in ap (at u) q

-- the solutions of a stacked problem are the chains
pub solution_chain : (S : System) (r : Request) (p : Problem) (u : List Number) → IsOver S → length r.start ≤ length S.columns → IsStacked S r p →
    StackedSolution p u ↔ IsChain S r 0 r.horizon u
solution_chain S r p u o l k = (there, back)
  where
    there : StackedSolution p u → IsChain S r 0 r.horizon u
    there s = chain_of S r o l r.horizon 0 u (at u) (start_at S u)
        (in_each_of (stacked_boxes S r) u (s.long ∙ ap length k.boxes) (subst (λ is. InBoxes is (at u)) k.boxes s.inside))
        (subst (HoldAll (at u)) k.rows s.rows)
        (of_members (λ c. IsBit (at u c)) (stacked_branch S r.horizon) (subst (λ cs. (c : ℕ) → list_any (nat_eq c) cs ≡ true → IsBit (at u c)) k.branch s.bits))

    back : IsChain S r 0 r.horizon u → StackedSolution p u
    back c =
        let inside : InEach (stacked_boxes S r) u = chain_boxes S r r.horizon 0 u c in
        let holds = chain_holds S r o r.horizon 0 u (at u) (start_at S u) c in
        record {
          long = in_each_long (stacked_boxes S r) u inside ∙ ap length (sym k.boxes);
          inside = subst (λ is. InBoxes is (at u)) (sym k.boxes) (of_in_each (stacked_boxes S r) u inside);
          rows = subst (HoldAll (at u)) (sym k.rows) holds.0;
          bits = λ c e. at_member (λ d. IsBit (at u d)) (stacked_branch S r.horizon) c holds.1 (subst (λ cs. list_any (nat_eq c) cs ≡ true) k.branch e);
        }
