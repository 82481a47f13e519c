-- The fixed words of printed sources are tokens.
use Rattle.std.proofs.Common.{◌≡◌, ℕ, Bool, true, false, ◌&&◌, List, [], length, get_or, codes, refl, ltb, ltb-true}
use Rattle.std.specs.List.{list_all}
use Rattle.std.specs.Str.{bytes_eq}
use Rattle.std.proofs.lemmas.Slice.Eq.{bytes_eq-Decides}
use Rattle.std.proofs.lemmas.List.Sums.{AllPass-from_list_all}
use Rattle.hys_lex.specs.Bytes.{is_letter, is_name_byte}
use Rattle.hys_lex.specs.Words.{keywords, signs, IsAt}
use Rattle.hys_lex.specs.Spaced.{IsSpelled}
use Rattle.hys_lex.proofs.Tables.{stands_at, and_both}
use Rattle.hys_lex.specs.declared.sign.TheConstants as sign
use Rattle.hys_lex.specs.declared.keyword.TheConstants as keyword
use Rattle.hys_ast.specs.declared.tree.UnaryOp.{UnaryOp}
use Rattle.hys_ast.specs.declared.tree.UnaryOp.TheVariants as unary
use Rattle.hys_ast.specs.declared.tree.BinaryOp.{BinaryOp}
use Rattle.hys_ast.specs.declared.tree.BinaryOp.TheVariants as binary
use Rattle.hys_ast.specs.declared.source.Section.{Section}
use Rattle.hys_ast.specs.declared.source.Section.TheVariants as section
use Rattle.hys_ast.specs.declared.source.Kind.{Kind}
use Rattle.hys_ast.specs.declared.source.Kind.TheVariants as kind
use Rattle.hys_ast.specs.Printed.{mark, word, truth_word, unary_mark, binary_mark, kind_word, section_word}

stands : (words : List (List ℕ)) (k : ℕ) (bytes : List ℕ) → stands_at words (k, bytes) ≡ true → IsAt words k bytes
unfolding stands_at
stands words k bytes h = let b : (ltb k (length words) ≡ true) × (bytes_eq (get_or words k []) bytes ≡ true) = and_both _ _ h in (ltb-true k (length words) b.0, (bytes_eq-Decides (get_or words k []) bytes).0 b.1)

listed_sign : (k : ℕ) (bytes : List ℕ) → stands_at signs (k, bytes) ≡ true → IsSpelled (mark k bytes)
listed_sign k bytes h = (stands signs k bytes h, tt)

abbrev is_word : List ℕ → Bool
is_word bytes = (is_letter (get_or bytes 0 0) && list_all is_name_byte bytes)

listed_word : (k : ℕ) (bytes : List ℕ) → is_word bytes ≡ true → stands_at keywords (k, bytes) ≡ true → IsSpelled (word k bytes)
listed_word k bytes w h = let b : (is_letter (get_or bytes 0 0) ≡ true) × (list_all is_name_byte bytes ≡ true) = and_both _ _ w in (((b.0, AllPass-from_list_all is_name_byte bytes b.1), stands keywords k bytes h), tt)

pub open_parenthesis-spelled : IsSpelled (mark sign.OPEN_PARENTHESIS (codes "("))
unfolding signs stands_at
open_parenthesis-spelled = listed_sign sign.OPEN_PARENTHESIS (codes "(") refl

pub close_parenthesis-spelled : IsSpelled (mark sign.CLOSE_PARENTHESIS (codes ")"))
unfolding signs stands_at
close_parenthesis-spelled = listed_sign sign.CLOSE_PARENTHESIS (codes ")") refl

pub open_bracket-spelled : IsSpelled (mark sign.OPEN_BRACKET (codes "["))
unfolding signs stands_at
open_bracket-spelled = listed_sign sign.OPEN_BRACKET (codes "[") refl

pub close_bracket-spelled : IsSpelled (mark sign.CLOSE_BRACKET (codes "]"))
unfolding signs stands_at
close_bracket-spelled = listed_sign sign.CLOSE_BRACKET (codes "]") refl

pub comma-spelled : IsSpelled (mark sign.COMMA (codes ","))
unfolding signs stands_at
comma-spelled = listed_sign sign.COMMA (codes ",") refl

pub semicolon-spelled : IsSpelled (mark sign.SEMICOLON (codes ";"))
unfolding signs stands_at
semicolon-spelled = listed_sign sign.SEMICOLON (codes ";") refl

pub equals-spelled : IsSpelled (mark sign.EQUALS (codes "="))
unfolding signs stands_at
equals-spelled = listed_sign sign.EQUALS (codes "=") refl

pub opening-spelled : IsSpelled (mark sign.OPEN_BRACE (codes "{"))
unfolding signs stands_at
opening-spelled = listed_sign sign.OPEN_BRACE (codes "{") refl

pub closing-spelled : IsSpelled (mark sign.CLOSE_BRACE (codes "}"))
unfolding signs stands_at
closing-spelled = listed_sign sign.CLOSE_BRACE (codes "}") refl

pub system-spelled : IsSpelled (word keyword.SYSTEM (codes "SYSTEM"))
unfolding keywords stands_at
system-spelled = listed_word keyword.SYSTEM (codes "SYSTEM") refl refl

pub interface-spelled : IsSpelled (word keyword.INTERFACE (codes "INTERFACE"))
unfolding keywords stands_at
interface-spelled = listed_word keyword.INTERFACE (codes "INTERFACE") refl refl

pub implementation-spelled : IsSpelled (word keyword.IMPLEMENTATION (codes "IMPLEMENTATION"))
unfolding keywords stands_at
implementation-spelled = listed_word keyword.IMPLEMENTATION (codes "IMPLEMENTATION") refl refl

pub real-spelled : IsSpelled (word keyword.REAL (codes "REAL"))
unfolding keywords stands_at
real-spelled = listed_word keyword.REAL (codes "REAL") refl refl

pub when-spelled : IsSpelled (word keyword.IF (codes "IF"))
unfolding keywords stands_at
when-spelled = listed_word keyword.IF (codes "IF") refl refl

pub hit-spelled : IsSpelled (word keyword.THEN (codes "THEN"))
unfolding keywords stands_at
hit-spelled = listed_word keyword.THEN (codes "THEN") refl refl

pub other-spelled : IsSpelled (word keyword.ELSE (codes "ELSE"))
unfolding keywords stands_at
other-spelled = listed_word keyword.ELSE (codes "ELSE") refl refl

pub unary-spelled : (x : UnaryOp) → IsSpelled (unary_mark x)
unfolding signs stands_at
unary-spelled unary.Not = listed_sign sign.TILDE (codes "~") refl
unary-spelled unary.Neg = listed_sign sign.MINUS (codes "-") refl
unary-spelled unary.Plus = listed_sign sign.PLUS (codes "+") refl

pub binary-spelled : (x : BinaryOp) → IsSpelled (binary_mark x)
unfolding signs stands_at
binary-spelled binary.Add = listed_sign sign.PLUS (codes "+") refl
binary-spelled binary.Sub = listed_sign sign.MINUS (codes "-") refl
binary-spelled binary.Mul = listed_sign sign.TIMES (codes "*") refl
binary-spelled binary.Div = listed_sign sign.DIVIDE (codes "/") refl
binary-spelled binary.And = listed_sign sign.AND (codes "&") refl
binary-spelled binary.Or = listed_sign sign.OR (codes "|") refl
binary-spelled binary.Iff = listed_sign sign.IFF (codes "<->") refl
binary-spelled binary.Then = listed_sign sign.THEN (codes "->") refl
binary-spelled binary.From = listed_sign sign.FROM (codes "<-") refl
binary-spelled binary.Most = listed_sign sign.AT_MOST (codes "<=") refl
binary-spelled binary.Least = listed_sign sign.AT_LEAST (codes ">=") refl
binary-spelled binary.Equal = listed_sign sign.EQUAL_TO (codes "==") refl

pub truth-spelled : (x : Bool) → IsSpelled (truth_word x)
unfolding keywords stands_at
truth-spelled true = listed_word keyword.TRUE (codes "TRUE") refl refl
truth-spelled false = listed_word keyword.FALSE (codes "FALSE") refl refl

pub kind-spelled : (x : Kind) → IsSpelled (kind_word x)
unfolding keywords stands_at
kind-spelled kind.Real = listed_word keyword.REAL (codes "REAL") refl refl
kind-spelled kind.Bool = listed_word keyword.BOOL (codes "BOOL") refl refl

pub section-spelled : (x : Section) → IsSpelled (section_word x)
unfolding keywords stands_at
section-spelled section.State = listed_word keyword.STATE (codes "STATE") refl refl
section-spelled section.Input = listed_word keyword.INPUT (codes "INPUT") refl refl
section-spelled section.Output = listed_word keyword.OUTPUT (codes "OUTPUT") refl refl
section-spelled section.Parameter = listed_word keyword.PARAMETER (codes "PARAMETER") refl refl
section-spelled section.Aux = listed_word keyword.AUX (codes "AUX") refl refl
section-spelled section.Ad = listed_word keyword.AD (codes "AD") refl refl
section-spelled section.Da = listed_word keyword.DA (codes "DA") refl refl
section-spelled section.Logic = listed_word keyword.LOGIC (codes "LOGIC") refl refl
section-spelled section.Linear = listed_word keyword.LINEAR (codes "LINEAR") refl refl
section-spelled section.Automata = listed_word keyword.AUTOMATA (codes "AUTOMATA") refl refl
section-spelled section.Continuous = listed_word keyword.CONTINUOUS (codes "CONTINUOUS") refl refl
section-spelled section.OutputItem = listed_word keyword.OUTPUT (codes "OUTPUT") refl refl
section-spelled section.Must = listed_word keyword.MUST (codes "MUST") refl refl
