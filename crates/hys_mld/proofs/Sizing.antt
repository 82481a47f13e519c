-- The columns of a program are numbers of 32 bits.
use Rattle.std.proofs.Common.{◌≡◌, ℕ, ◌+◌, ◌<◌, ◌≤◌, List, [], ◌∷◌, length, ap, ◌∙◌, arith}
use Rattle.hys_prog.specs.declared.program.ProgItem.{ProgItem}
use Rattle.hys_prog.specs.declared.program.Program.{Program}
use Rattle.hys_prog.specs.declared.program.Body.{Body}
use Rattle.hys_prog.specs.declared.program.Body.TheVariants.{Guard, Choice, Logic, Linear, NextBool, NextReal, OutBool, OutReal, MustHold, MustMost, MustZero}
use Rattle.hys_prog.specs.Programs.{IsProgram, NameAt, IsBooleanVariable, BodyOver, EachItem, items_weight, names_weight}
use Rattle.hys_prog.proofs.Defined.{name_below}
use Rattle.hys_formula.specs.Formulas.{tree_of, FormulaTree, EachName}
use Rattle.hys_logic.specs.Meanings.{NamesWithin}
use Rattle.hys_logic.proofs.Truths.{name_more}
use Rattle.hys_exact.specs.Columns.{of_each, own_place, is_state_name, is_input_name, is_boolean_auxiliary, is_real_auxiliary, front, behind}
use Rattle.hys_exact.proofs.Sizes.{columns_count}
use Rattle.hys_rows.specs.Items.{FormulaWithin}
use Rattle.hys_mld.specs.declared.placing.Free.{Free}
use Rattle.hys_mld.specs.Placing.{AreNumbers, after_names, counts, placing_of, start_of}
use Rattle.hys_mld.specs.Fresh.{fresh_of}
use Rattle.hys_mld.proofs.Counting.{fresh_few_items}
use Rattle.hys_mld.proofs.Sorts.{states, inputs, booleans, reals, sort_length, state_places, input_places, state_count, input_count, boolean_count, real_count, front_count, placed_long}

-- the counts, the starts with so many fresh columns, and the ends are such numbers
pub record Sized (p : Program) (fresh : ℕ) : Type 0 where
  pub all : length (front p) + (fresh + length (behind p)) < 4294967296
  pub counted : AreNumbers (counts p.names)
  pub started : (counts p.names).state + (counts p.names).input + (counts p.names).boolean + fresh < 4294967296
  pub placed : AreNumbers (after_names (start_of (counts p.names) fresh) p.names)

pub sized : (p : Program) (fresh : ℕ) → IsProgram p → p.weight < 4294967296 → fresh ≤ items_weight p.items → Sized p fresh
sized p fresh g w l =
    let e : p.weight ≡ names_weight p.names + items_weight p.items = g.weight in
    let f : length (front p) + length (behind p) ≡ names_weight p.names = columns_count p in
    let c : length (front p) ≡ (counts p.names).state + (counts p.names).input + (counts p.names).boolean = front_count p in
    let r : (counts p.names).real ≡ length (behind p) = real_count p in
    let s : Free = start_of (counts p.names) fresh in
    let a1 : (after_names (start_of (counts p.names) fresh) p.names).state ≡ 0 + length (of_each is_state_name own_place 0 p.names) = sort_length is_state_name (λ s. s.state) states 0 (start_of (counts p.names) fresh) p.names in
    let a2 : (after_names (start_of (counts p.names) fresh) p.names).input ≡ (counts p.names).state + length (of_each is_input_name own_place 0 p.names) = sort_length is_input_name (λ s. s.input) inputs 0 (start_of (counts p.names) fresh) p.names in
    let a3 : (after_names (start_of (counts p.names) fresh) p.names).boolean ≡ ((counts p.names).state + (counts p.names).input) + length (of_each is_boolean_auxiliary own_place 0 p.names) = sort_length is_boolean_auxiliary (λ s. s.boolean) booleans 0 (start_of (counts p.names) fresh) p.names in
    let a4 : (after_names (start_of (counts p.names) fresh) p.names).real ≡ ((counts p.names).state + (counts p.names).input + (counts p.names).boolean + fresh) + length (of_each is_real_auxiliary own_place 0 p.names) = sort_length is_real_auxiliary (λ s. s.real) reals 0 (start_of (counts p.names) fresh) p.names in
    let b1 : (counts p.names).state ≡ length (of_each is_state_name own_place 0 p.names) = state_count p ∙ ap length (state_places p) in
    let b2 : (counts p.names).input ≡ length (of_each is_input_name own_place 0 p.names) = input_count p ∙ ap length (input_places p) in
    let b3 : (counts p.names).boolean ≡ length (of_each is_boolean_auxiliary own_place 0 p.names) = boolean_count p in
    record {
      all = omega arith;
      counted = record { state = omega arith; input = omega arith; boolean = omega arith; real = omega arith };
      started = omega arith;
      placed = record { state = omega arith; input = omega arith; boolean = omega arith; real = omega arith };
    }

pub sized_at_first : (p : Program) → IsProgram p → p.weight < 4294967296 → Sized p 0
sized_at_first p g w = sized p 0 g w (omega arith)

pub sized_at_last : (p : Program) → IsProgram p → p.weight < 4294967296 → Sized p (fresh_of p)
sized_at_last p g w = sized p (fresh_of p) g w (fresh_few_items (placing_of p 0) p.items)

pub weight_items : (p : Program) → IsProgram p → p.weight < 4294967296 → length (front p) + items_weight p.items < 4294967296
weight_items p g w =
    let e : p.weight ≡ names_weight p.names + items_weight p.items = g.weight in
    let f : length (front p) + length (behind p) ≡ names_weight p.names = columns_count p in
    omega arith

-- ---- names in formulas have columns
names_within : (p : Program) (fresh : ℕ) (f : FormulaTree) → EachName (λ n. NameAt p.names n IsBooleanVariable) f → NamesWithin (placing_of p fresh) f
names_within p fresh f h =
    let l : length (placing_of p fresh) ≡ length p.names = placed_long (start_of (counts p.names) fresh) p.names in
    name_more (λ n. NameAt p.names n IsBooleanVariable) (λ n. n < length (placing_of p fresh)) f (λ n k. let b : n < length p.names = name_below IsBooleanVariable p.names n k in omega arith) h

within : (p : Program) (fresh : ℕ) (b : Body) → BodyOver p.names b → FormulaWithin (placing_of p fresh) b
within p fresh (Guard f e) h = tt
within p fresh (Choice l a b) h = names_within p fresh (tree_of l) h.0
within p fresh (Logic l) h = names_within p fresh (tree_of l) h
within p fresh (Linear f) h = tt
within p fresh (NextBool l) h = names_within p fresh (tree_of l) h
within p fresh (NextReal f) h = tt
within p fresh (OutBool l) h = names_within p fresh (tree_of l) h
within p fresh (OutReal f) h = tt
within p fresh (MustHold l) h = names_within p fresh (tree_of l) h
within p fresh (MustMost f) h = tt
within p fresh (MustZero f) h = tt

pub items_within : (p : Program) (fresh : ℕ) (ts : List ProgItem) → EachItem (λ t. BodyOver p.names t.body) ts → EachItem (λ t. FormulaWithin (placing_of p fresh) t.body) ts
items_within p fresh [] h = tt
items_within p fresh (t ∷ ts) h = (within p fresh t.body h.0, items_within p fresh ts h.1)
