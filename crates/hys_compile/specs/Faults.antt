-- The faults of a source: their list, and what they show.
use Rattle.std.specs.Prelude.{ℕ, List, [], ◌∷◌, codes, slice_index_or}
use Rattle.hys_compile.specs.declared.number.TheConstants as number
use Rattle.hys_ast.specs.declared.place.Place.{Place}
use Rattle.hys_lin.specs.declared.lost.Lost.{Lost}
use Rattle.hys_compile.specs.declared.fault.SourceFault.{SourceFault}
use Rattle.hys_compile.specs.declared.fault.Detail.TheVariants as detail
use Rattle.hys_compile.specs.declared.fault.LimitKind.{LimitKind}
use Rattle.hys_compile.specs.declared.fault.LimitKind.TheVariants as limit
use Rattle.hys_type.specs.declared.fault.TypeFault.{TypeFault}
use Rattle.hys_type.specs.declared.fault.TypeFault.TheVariants as typing

-- the words of each fault, from number 1 on
unfoldable pub listed : List (List ℕ)
listed =
    codes "byte" ∷ codes "comment" ∷ codes "long" ∷ codes "syntax" ∷ codes "twice" ∷ codes "unknown" ∷ codes "kind" ∷ codes "not linear"
    ∷ codes "zero divisor" ∷ codes "no bounds" ∷ codes "empty bounds" ∷ codes "no value" ∷ codes "missing" ∷ codes "defined twice"
    ∷ codes "wrong section" ∷ codes "cycle" ∷ codes "range" ∷ codes "limit" ∷ codes "not yet" ∷ codes "tolerance" ∷ []

-- the words of a number, and none where no fault has it
abbrev pub words_of : ℕ → List ℕ
words_of n = slice_index_or ([] ∷ listed) n []

-- each constant, and the words of the fault that it is to number
unfoldable pub named : List (ℕ × List ℕ)
named =
    (number.BYTE, codes "byte") ∷ (number.COMMENT, codes "comment") ∷ (number.LONG, codes "long") ∷ (number.SYNTAX, codes "syntax")
    ∷ (number.TWICE, codes "twice") ∷ (number.UNKNOWN, codes "unknown") ∷ (number.KIND, codes "kind") ∷ (number.NOT_LINEAR, codes "not linear")
    ∷ (number.ZERO_DIVISOR, codes "zero divisor") ∷ (number.NO_BOUNDS, codes "no bounds") ∷ (number.EMPTY_BOUNDS, codes "empty bounds")
    ∷ (number.NO_VALUE, codes "no value") ∷ (number.MISSING, codes "missing") ∷ (number.DEFINED_TWICE, codes "defined twice")
    ∷ (number.WRONG_SECTION, codes "wrong section") ∷ (number.CYCLE, codes "cycle") ∷ (number.RANGE, codes "range") ∷ (number.LIMIT, codes "limit")
    ∷ (number.NOT_YET, codes "not yet") ∷ (number.TOLERANCE, codes "tolerance") ∷ []

-- ---- the faults
abbrev pub fault_at : ℕ → Place → SourceFault
fault_at n place = record { number = n; detail = detail.At place }

abbrev pub over_limit : LimitKind → SourceFault
over_limit kind = record { number = number.LIMIT; detail = detail.Limit kind }

-- want of memory, which is no fault of the source
abbrev pub no_memory : SourceFault
no_memory = record { number = 0; detail = detail.Memory }

-- names that are defined by one another in a circle
abbrev pub circle_fault : List (List ℕ) → SourceFault
circle_fault names = record { number = number.CYCLE; detail = detail.Names names }

-- an operation of an item at the place whose result doesn't fit
abbrev pub range_fault : Place → Lost → SourceFault
range_fault place lost = record { number = number.RANGE; detail = detail.Range place lost }

-- ---- what a fault of typing shows
abbrev pub shown : TypeFault → SourceFault
shown (typing.Twice place) = fault_at number.TWICE place
shown typing.Limit = over_limit limit.Names
shown (typing.NoValue place) = fault_at number.NO_VALUE place
shown (typing.NoBounds place) = fault_at number.NO_BOUNDS place
shown (typing.EmptyBounds place low high) = record { number = number.EMPTY_BOUNDS; detail = detail.Ends place low high }
shown (typing.Unknown place) = fault_at number.UNKNOWN place
shown (typing.WrongSection place) = fault_at number.WRONG_SECTION place
shown (typing.DefinedTwice place) = fault_at number.DEFINED_TWICE place
shown (typing.Kind place) = fault_at number.KIND place
shown (typing.NotLinear place) = fault_at number.NOT_LINEAR place
shown (typing.ZeroDivisor place) = fault_at number.ZERO_DIVISOR place
shown (typing.Literal place) = record { number = number.RANGE; detail = detail.Literal place }
shown (typing.Range place lost) = range_fault place lost
shown (typing.Tolerance place value) = record { number = number.TOLERANCE; detail = detail.Tolerance place value }
shown (typing.Missing name) = record { number = number.MISSING; detail = detail.Named name }
shown typing.Memory = no_memory
