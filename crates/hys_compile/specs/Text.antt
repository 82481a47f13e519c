-- The texts that are compiled, and why others are refused.
use Rattle.std.specs.Prelude.{◌≡◌, ℕ, ◌<◌, ◌≤◌, ◌⊎◌, List, length, map, slice_index_or, Some, None}
use Rattle.hys_number.specs.Number.{Number}
use Rattle.hys_lex.specs.Cut.{Cut, IsFirstFault}
use Rattle.hys_lex.specs.declared.token.Token.{Token}
use Rattle.hys_lex.specs.declared.cut.LexFault.TheVariants as lexing
use Rattle.hys_ast.specs.Tree.{Source}
use Rattle.hys_ast.specs.declared.place.Place.{Place}
use Rattle.hys_ast.specs.Places.{place_at}
use Rattle.hys_ast.specs.Nodes.{expressions, total, largest}
use Rattle.hys_ast.specs.Grammar.{IsTreeOf}
use Rattle.hys_meaning.specs.Accepted.{Accepted}
use Rattle.hys_meaning.specs.Circular.{Circular}
use Rattle.hys_meaning.specs.Names.{names}
use Rattle.hys_meaning.specs.Unfolded.{unfolded}
use Rattle.hys_meaning.specs.Weight.{weight}
use Rattle.hys_parse.specs.Depth.{IsShallow, IsFirstDeep}
use Rattle.hys_parse.specs.Cause.{IsUngrammatical}
use Rattle.hys_type.specs.Checks.{fault_of}
use Rattle.hys_type.specs.Translation.{IsTranslation}
use Rattle.hys_type.specs.declared.fault.TypeFault.{TypeFault}
use Rattle.hys_prog.specs.Programs.{IsProgram}
use Rattle.hys_prog.specs.Orders.{IsOrder}
use Rattle.hys_bound.specs.Ranges.{Placed, intervals, first_unfit}
use Rattle.hys_exact.specs.Built.{IsBuilt}
use Rattle.hys_mld.specs.Stated.{AreStated}
use Rattle.hys_mld.specs.Written.{IsWritten}
use Rattle.hys_sys.specs.System.{IsSystem}
use Rattle.hys_compile.specs.Automaton.{IsExactFor}
use Rattle.hys_compile.specs.declared.compiler.Compiled.{Compiled}
use Rattle.hys_compile.specs.declared.fault.SourceFault.{SourceFault}
use Rattle.hys_compile.specs.declared.number.TheConstants as number
use Rattle.hys_compile.specs.Faults.{fault_at, over_limit, no_memory, shown, circle_fault, range_fault}
use Rattle.hys_compile.specs.Sources.{BeginsWithFirst, StandsAt, AreRangeNumbers, AreRowNumbers, NumbersFit}
use Rattle.hys_compile.specs.declared.fault.LimitKind.TheVariants as limit

-- ---- the limits
abbrev pub most_bytes : ℕ
most_bytes = 1048576

abbrev pub most_tokens : ℕ
most_tokens = 16384

abbrev pub most_nodes : ℕ
most_nodes = 4000

abbrev pub most_nodes_of_one : ℕ
most_nodes_of_one = 1000

-- ---- texts
-- each source that is read from a text has the property
abbrev pub EachReadSource : (Source → Type 0) → Type 0
EachReadSource P = (text : List ℕ) (tokens : List Token) (s : Source) → Cut text tokens → IsTreeOf text tokens s → P s

-- the text is within the limit, and these are its tokens
pub record IsLexed (text : List ℕ) (tokens : List Token) : Type 0 where
  pub bytes : length text ≤ most_bytes
  pub cut : Cut text tokens

-- and there are at most as many of them as the limit says
pub record IsCounted (text : List ℕ) (tokens : List Token) : Type 0 where
  pub lexed : IsLexed text tokens
  pub few : length tokens ≤ most_tokens

-- and none is too deep, and this is their tree
pub record IsParsed (text : List ℕ) (tokens : List Token) (tree : Source) : Type 0 where
  pub counted : IsCounted text tokens
  pub shallow : IsShallow tokens
  pub derived : IsTreeOf text tokens tree

-- and its expressions have at most as many nodes as the limits say
pub record IsMeasured (text : List ℕ) (tokens : List Token) (tree : Source) : Type 0 where
  pub parsed : IsParsed text tokens tree
  pub nodes : total (expressions tree) ≤ most_nodes
  pub expression : largest (expressions tree) ≤ most_nodes_of_one

-- and none of its checks of typing fails
pub record IsTyped (text : List ℕ) (tokens : List Token) (tree : Source) : Type 0 where
  pub measured : IsMeasured text tokens tree
  pub faultless : fault_of tree ≡ None

-- and no list of its names is circular, also none with names of unnamed guards
pub record IsOrdered (text : List ℕ) (tokens : List Token) (tree : Source) : Type 0 where
  pub typed : IsTyped text tokens tree
  pub orders : (ns : List (List ℕ)) → ¬ (Circular (unfolded tree) ns)

-- and the numbers of its intervals fit
pub record IsRanged (text : List ℕ) (tokens : List Token) (tree : Source) : Type 0 where
  pub ordered : IsOrdered text tokens tree
  pub numbers : List Placed
  pub ranges : AreRangeNumbers tree numbers
  pub fit : first_unfit numbers ≡ None

-- and the numbers of its rows fit, at the tolerance of guards without one of their own
pub record IsRowed (tolerance : Number) (text : List ℕ) (tokens : List Token) (tree : Source) : Type 0 where
  pub ranged : IsRanged text tokens tree
  pub numbers : List Placed
  pub rows : AreRowNumbers tolerance tree numbers
  pub fit : first_unfit numbers ≡ None

-- the text of an accepted source, all of whose numbers fit at the tolerance
pub record IsCompilable (tolerance : Number) (text : List ℕ) : Type 0 where
  pub tokens : List Token
  pub tree : Source
  pub measured : IsMeasured text tokens tree
  pub accepted : Accepted tree
  pub fit : NumbersFit tolerance tree

-- ---- faults
-- where token k begins, and the end of the text where there is no such token
abbrev pub byte_of : List ℕ → List Token → ℕ → ℕ
byte_of text tokens k = slice_index_or (map (λ t. t.from) tokens) k (length text)

-- the fault shows a circular list of the source that the text has, from its name on that is declared first
pub record IsCircle (text : List ℕ) (fault : SourceFault) : Type 0 where
  pub tokens : List Token
  pub tree : Source
  pub circle : List (List ℕ)
  pub typed : IsTyped text tokens tree
  pub circular : Circular (unfolded tree) circle
  pub first : BeginsWithFirst (names (unfolded tree)) circle
  pub shown_is : fault ≡ circle_fault circle

-- Why a text is refused at a tolerance. Each cause but the first stands only in a text within the limit on bytes,
-- and each that speaks of tokens or a tree only where no cause above it stands.
pub data IsCause (tolerance : Number) (text : List ℕ) : SourceFault → Type 0 where
  too_long : most_bytes < length text → IsCause tolerance text (over_limit limit.Bytes)
  byte : (at : ℕ) → length text ≤ most_bytes → IsFirstFault text (lexing.Byte at) →
      IsCause tolerance text (fault_at number.BYTE (place_at text at))
  comment : (at : ℕ) → length text ≤ most_bytes → IsFirstFault text (lexing.Comment at) →
      IsCause tolerance text (fault_at number.COMMENT (place_at text at))
  long : (at : ℕ) → length text ≤ most_bytes → IsFirstFault text (lexing.Long at) →
      IsCause tolerance text (fault_at number.LONG (place_at text at))
  many : (tokens : List Token) → IsLexed text tokens → most_tokens < length tokens →
      IsCause tolerance text (over_limit limit.Tokens)
  deep : (tokens : List Token) (k : ℕ) → IsCounted text tokens → IsFirstDeep tokens k →
      IsCause tolerance text (over_limit limit.Nesting)
  syntax : (tokens : List Token) (k : ℕ) → IsCounted text tokens → IsUngrammatical text tokens k →
      IsCause tolerance text (fault_at number.SYNTAX (place_at text (byte_of text tokens k)))
  nodes : (tokens : List Token) (tree : Source) → IsParsed text tokens tree → most_nodes < total (expressions tree) →
      IsCause tolerance text (over_limit limit.Nodes)
  expression : (tokens : List Token) (tree : Source) → IsParsed text tokens tree →
      total (expressions tree) ≤ most_nodes → most_nodes_of_one < largest (expressions tree) →
      IsCause tolerance text (over_limit limit.Expression)
  typed : (tokens : List Token) (tree : Source) (fault : TypeFault) → IsMeasured text tokens tree →
      fault_of tree ≡ Some fault → IsCause tolerance text (shown fault)
  cycle : (fault : SourceFault) → IsCircle text fault → IsCause tolerance text fault
  interval : (tokens : List Token) (tree : Source) (numbers : List Placed) (lost : Placed) (place : Place) →
      IsOrdered text tokens tree → AreRangeNumbers tree numbers → first_unfit numbers ≡ Some lost →
      StandsAt (unfolded tree).items lost.item place → IsCause tolerance text (range_fault place lost.what)
  row : (tokens : List Token) (tree : Source) (numbers : List Placed) (lost : Placed) (place : Place) →
      IsRanged text tokens tree → AreRowNumbers tolerance tree numbers → first_unfit numbers ≡ Some lost →
      StandsAt (unfolded tree).items lost.item place → IsCause tolerance text (range_fault place lost.what)

-- two faults are the same, or both show a circular list of the text: of several any may be shown
abbrev pub IsSameCause : List ℕ → SourceFault → SourceFault → Type 0
IsSameCause text f g = (f ≡ g) ⊎ (IsCircle text f × IsCircle text g)

-- what is answered where the fault is a cause of the text: its like, or want of memory
abbrev pub AnswersCause : List ℕ → SourceFault → SourceFault → Type 0
AnswersCause text f g = (g ≡ no_memory) ⊎ IsSameCause text g f

-- there is one cause, where one circular list is as good as another
abbrev pub HasOneCause : Number → List ℕ → Type 0
HasOneCause tolerance text = (f g : SourceFault) → IsCause tolerance text f → IsCause tolerance text g → IsSameCause text f g

abbrev pub HasNoCause : Number → List ℕ → Type 0
HasNoCause tolerance text = (f : SourceFault) → IsCause tolerance text f → ⊥

-- what an error may be: a cause of the text, or want of memory
abbrev pub IsRefusal : Number → List ℕ → SourceFault → Type 0
IsRefusal tolerance text f = (f ≡ no_memory) ⊎ IsCause tolerance text f

-- what may be answered before rows are looked for, at whatever tolerance
abbrev pub IsEarlyRefusal : List ℕ → SourceFault → Type 0
IsEarlyRefusal text f = (tolerance : Number) → IsRefusal tolerance text f

-- ---- systems
-- The source with this text is an accepted one, whose numbers fit. The program is its translation at the tolerance, and
-- the order is the program's. The system is lawful, has the source's weight, and is exact for the source; its columns,
-- rows and labels are those of the program's items.
pub record IsCompiled (tolerance : Number) (text : List ℕ) (c : Compiled) : Type 0 where
  pub tokens : List Token
  pub tree : Source
  pub measured : IsMeasured text tokens tree
  pub accepted : Accepted tree
  pub fit : NumbersFit tolerance tree
  pub translation : IsTranslation tolerance tree c.program
  pub program : IsProgram c.program
  pub order : IsOrder c.program c.order
  pub lawful : IsSystem c.system
  pub weight : c.system.weight ≡ weight tree
  pub exact : IsExactFor tolerance tree c.system
  pub built : IsBuilt c.program (intervals c.program c.order) c.system
  pub stated : AreStated c.program (intervals c.program c.order) c.system.rows
  pub written : IsWritten c.program (intervals c.program c.order) c.system
