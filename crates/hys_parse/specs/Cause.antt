-- Why a fault is answered.
use Rattle.std.specs.Prelude.{◌≡◌, ℕ, suc, ◌<◌, ◌≤◌, ◌⊎◌, List, [], ◌++◌, length, take}
use Rattle.hys_lex.specs.declared.token.Token.{Token}
use Rattle.hys_ast.specs.declared.lexeme.Lexeme.{Lexeme}
use Rattle.hys_ast.specs.Tree.{Source}
use Rattle.hys_ast.specs.Places.{lexemes_of}
use Rattle.hys_ast.specs.Grammar.{DerivesSource, IsTreeOf}
use Rattle.hys_parse.specs.Depth.{IsFirstDeep, IsShallow}
use Rattle.hys_parse.specs.declared.parser.ParseFault.{ParseFault}
use Rattle.hys_parse.specs.declared.parser.ParseFault.TheVariants.{Deep, Syntax, Memory}

-- the second list is as the first up to and with lexeme k, where the end of a list counts as its last lexeme
abbrev pub BeginsAlike : ℕ → List Lexeme → List Lexeme → Type 0
BeginsAlike k ls ts = ((k < length ls) × (k < length ts) × (take (suc k) ts ≡ take (suc k) ls)) ⊎ ((k ≡ length ls) × (ts ≡ ls))

-- no list that is as this one up to and with lexeme k is grammatical, whatever stands behind
abbrev pub IsStuckAt : List Lexeme → ℕ → Type 0
IsStuckAt ls k = (ts : List Lexeme) (tree : Source) → BeginsAlike k ls ts → DerivesSource ts [] tree → ⊥

-- some grammatical list begins with the lexemes before place k
pub record IsReached (ls : List Lexeme) (k : ℕ) : Type 0 where
  pub more : List Lexeme
  pub tree : Source
  pub derived : DerivesSource (take k ls ++ more) [] tree

-- the tokens are not deep, no tree derives them, and token k is the first that none goes on with
pub record IsUngrammatical (text : List ℕ) (tokens : List Token) (k : ℕ) : Type 0 where
  pub within : k ≤ length tokens
  pub shallow : IsShallow tokens
  pub none : (tree : Source) → IsTreeOf text tokens tree → ⊥
  pub reached : IsReached (lexemes_of text tokens) k
  pub stuck : IsStuckAt (lexemes_of text tokens) k

abbrev pub IsCause : List ℕ → List Token → ParseFault → Type 0
IsCause text tokens (Deep k) = IsFirstDeep tokens k
IsCause text tokens (Syntax k) = IsUngrammatical text tokens k
IsCause text tokens Memory = Unit {0}

-- some tree derives the tokens
abbrev pub HasTree : List ℕ → List Token → Type 0
HasTree text tokens = (tree : Source) × IsTreeOf text tokens tree

-- the tokens have a syntax fault
abbrev pub HasSyntaxFault : List ℕ → List Token → Type 0
HasSyntaxFault text tokens = (k : ℕ) × IsUngrammatical text tokens k
