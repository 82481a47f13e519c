-- Notes on how this crate is proved: forms that worked, and traps.
-- - Checks are lists: `fault_after` and `fault_before` (Firsts) are all that `first_fault (xs ++ ys)` needs; where memory may be wanting, `handed` with
--   `fault_first` or `fault_behind` at a `?`, and `answers_behind` at the end (Operators). Loops keep `first_from view f xs 0 ≡ first_from view f xs i` (Walks).
-- - `from_residual.ensures` is a pair; `failed` and `handed` turn it. Boxed operands: `rw (c.in-Binary.is, sym c.deref-in-Binary.ensures, ..)`.
-- - A case of an `or` pattern says nothing of the value: put a test or a single pattern before it. A choice of `Option Kind`, of a shape, of a section: a function each.
-- - The scope's names have no boxes, and the checks don't ask for them: `same_item` (Unboxed) carries the faults over to `names s`.
-- - Judge first: errors while a program is built come only of memory, so what is built needs no `requires` but its literals.
-- - Lists that grow through `&mut` say `Begins old new` or `AreFollowed`, an existential record with one lemma for each composition.
-- - Trap: a `match` on a tuple of two `Copy` enums that hold `Frac` stops the prover: nest them. A file of proofs/ may not differ from one of src/ in case only.
-- Notes on the laws of translations.
-- - `Agree` says that an assignment to texts and one to places give each declared name the same number. Every lemma on
--   forms, formulas, bodies and items takes an `Agree` and gives `↔`, so one proof serves both directions and both views.
-- - `form_sum`, a sum along the list of names, stands between: expressions equal it (FormSums), and so do sparse terms
--   (FormPlaces), by a walk over the names whose place counts up and that drops the terms below it.
-- - `IsBodyOf` has its equations as arguments: a lemma puts both bodies in by `subst₂` at once (`said_as`), and `cc` ends
--   the cases that can't be, and takes equal constructors apart.
-- - A concrete source with an unnamed guard: prove it with the guard's text a variable (`small_by`), then put `@1` in.
-- - That checks pass exactly where rules hold: `Pass` turns a list of checks into a product, and each rule is a `↔`
--   over variables (`constant_rule`, `kind_rule`, .. , `items_rule`, `source_rule`) with the names as written on one side
--   and those with the guards behind them on the other (`GoTogether`). Operators are split into their twelve cases.
pub mod Firsts
pub mod Constants
pub mod Walks
pub mod Once
pub mod Numbers
pub mod Knowing
pub mod Ends
pub mod Zips
pub mod Operands
pub mod Places
pub mod Operators
pub mod Rights
pub mod Items
pub mod KnownValues
pub mod Agree
pub mod FormSums
pub mod FormPlaces
pub mod FormulaTruths
pub mod SameBodies
pub mod SameSteps
pub mod ProgramNames
pub mod ProgramForms
pub mod ProgramBodies
pub mod ProgramWeight
pub mod ProgramItems
pub mod SmallTranslation
pub mod Mentions
pub mod SameCircles
pub mod Unboxed
pub mod Wholes
pub mod SparseForms
pub mod Guards
pub mod Guarding
pub mod Bodies
pub mod Weights
pub mod Additions
pub mod Numbering
pub mod ItemNumbers
pub mod AllNames
pub mod Fronts
pub mod NamedFormulas
pub mod FoundNames
pub mod NamedBodies
pub mod BoxedBodies
pub mod NamedItems
pub mod GuardItems
pub mod AllItems
pub mod WordNames
pub mod UnfoldedWeight
pub mod DeclaredNames
pub mod Passing
pub mod Linear
pub mod NodeRules
pub mod ConstantRules
pub mod PlaceRules
pub mod DeclaredRules
pub mod ParameterRules
pub mod ValueRules
pub mod DeclarationRules
pub mod RightRules
pub mod ItemRules
pub mod SourceRules
pub mod GuardCounts
pub mod GuardPlaces
pub mod TypingRules
pub mod RulesKept
pub mod Zeros
pub mod Tops
pub mod OneForm
pub mod OneTranslation
pub mod SameValues
pub mod OneOrOther
pub mod RichTranslation
