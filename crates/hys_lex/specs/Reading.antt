-- What is read at the front of a text.
use Rattle.std.specs.Prelude.{ℕ, List}
use Rattle.hys_lex.specs.Pieces.{PieceKind, Blank, Block, Line, Lexeme, IsShort}
use Rattle.hys_lex.specs.Cut.{IsMatch, NoPiece, NoEnd, TooLong}
use Rattle.hys_lex.specs.declared.piece.Found.{Found}
use Rattle.hys_lex.specs.declared.piece.Found.TheVariants.{Gap, Token}
use Rattle.hys_lex.specs.declared.piece.Cause.{Cause}
use Rattle.hys_lex.specs.declared.piece.Cause.TheVariants.{Byte, Comment, Long}
use Rattle.hys_lex.specs.declared.cut.LexFault.{LexFault}
use Rattle.hys_lex.specs.declared.cut.LexFault.TheVariants as faults

-- a blank or a comment
abbrev pub IsGap : PieceKind → Type 0
IsGap Blank = Unit {0}
IsGap Block = Unit {0}
IsGap Line = Unit {0}
IsGap (Lexeme kind) = ⊥

-- the longest match at the front: a blank or a comment, or a token within its limit
abbrev pub IsFound : List ℕ → Found → Type 0
IsFound text (Gap size) = (kind : PieceKind) × IsGap kind × IsMatch text kind size
IsFound text (Token kind size) = IsMatch text (Lexeme kind) size × IsShort kind size

abbrev pub Stands : List ℕ → Cause → Type 0
Stands text Byte = NoPiece text
Stands text Comment = NoEnd text
Stands text Long = TooLong text

abbrev pub fault_at : Cause → ℕ → LexFault
fault_at Byte at = faults.Byte at
fault_at Comment at = faults.Comment at
fault_at Long at = faults.Long at
