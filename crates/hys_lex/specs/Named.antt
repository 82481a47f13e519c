-- The words that the modules `keyword` and `sign` name.
use Rattle.std.specs.Prelude.{ℕ, List, [], ◌∷◌, codes}
use Rattle.hys_lex.specs.declared.keyword.TheConstants as keyword
use Rattle.hys_lex.specs.declared.sign.TheConstants as sign

unfoldable pub named_keywords : List (ℕ × List ℕ)
named_keywords =
    (keyword.SYSTEM, codes "SYSTEM") ∷ (keyword.INTERFACE, codes "INTERFACE") ∷ (keyword.IMPLEMENTATION, codes "IMPLEMENTATION")
    ∷ (keyword.STATE, codes "STATE") ∷ (keyword.INPUT, codes "INPUT") ∷ (keyword.OUTPUT, codes "OUTPUT") ∷ (keyword.PARAMETER, codes "PARAMETER")
    ∷ (keyword.AUX, codes "AUX") ∷ (keyword.AD, codes "AD") ∷ (keyword.DA, codes "DA") ∷ (keyword.LOGIC, codes "LOGIC") ∷ (keyword.LINEAR, codes "LINEAR")
    ∷ (keyword.AUTOMATA, codes "AUTOMATA") ∷ (keyword.CONTINUOUS, codes "CONTINUOUS") ∷ (keyword.MUST, codes "MUST") ∷ (keyword.REAL, codes "REAL")
    ∷ (keyword.BOOL, codes "BOOL") ∷ (keyword.IF, codes "IF") ∷ (keyword.THEN, codes "THEN") ∷ (keyword.ELSE, codes "ELSE") ∷ (keyword.TRUE, codes "TRUE")
    ∷ (keyword.TRUE_SMALL, codes "true") ∷ (keyword.FALSE, codes "FALSE") ∷ (keyword.FALSE_SMALL, codes "false") ∷ []

unfoldable pub named_signs : List (ℕ × List ℕ)
named_signs =
    (sign.OPEN_BRACE, codes "{") ∷ (sign.CLOSE_BRACE, codes "}") ∷ (sign.OPEN_PARENTHESIS, codes "(") ∷ (sign.CLOSE_PARENTHESIS, codes ")")
    ∷ (sign.OPEN_BRACKET, codes "[") ∷ (sign.CLOSE_BRACKET, codes "]") ∷ (sign.COMMA, codes ",") ∷ (sign.SEMICOLON, codes ";") ∷ (sign.EQUALS, codes "=")
    ∷ (sign.AT_MOST, codes "<=") ∷ (sign.AT_LEAST, codes ">=") ∷ (sign.EQUAL_TO, codes "==") ∷ (sign.PLUS, codes "+") ∷ (sign.MINUS, codes "-")
    ∷ (sign.TIMES, codes "*") ∷ (sign.DIVIDE, codes "/") ∷ (sign.TILDE, codes "~") ∷ (sign.BANG, codes "!") ∷ (sign.AND, codes "&")
    ∷ (sign.AND_AND, codes "&&") ∷ (sign.OR, codes "|") ∷ (sign.OR_OR, codes "||") ∷ (sign.THEN, codes "->") ∷ (sign.FROM, codes "<-")
    ∷ (sign.IFF, codes "<->") ∷ []
