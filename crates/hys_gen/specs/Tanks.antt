-- The source of a chain of tanks, as a text that is fixed by their number.
use Rattle.std.specs.Prelude.{ℕ, zero, suc, ◌+◌, ◌*◌, ◌/◌, ◌%◌, List, [], ◌∷◌, ◌++◌, codes}
use Rattle.std.specs.Fmt.{decimal}
use Rattle.hys_gen.specs.declared.section.Section.{Section}
use Rattle.hys_gen.specs.declared.section.Section.TheVariants.{State, Input, Aux, Ad, Da, Continuous, Must}

-- ---- the factors of the tanks
-- what follows a number of the sequence
abbrev pub draw_after : ℕ → ℕ
draw_after s = (s * 1103515245 + 12345) % 2147483648

-- the sequence of numbers for k tanks, which begins with k
abbrev pub draw : ℕ → ℕ → ℕ
draw k zero = k
draw k (suc i) = draw_after (draw k i)

-- the factor that a number of the sequence stands for, in tenths: 1 to 4
abbrev pub tenths : ℕ → ℕ
tenths s = 1 + (s / 65536) % 4

-- ---- the source
-- The tank i has a level hi, a valve vi, an outflow qi, and fi, that it is full. The outflow of each flows into the
-- next, and 1 flows into the first.
abbrev pub level_text : ℕ → List ℕ
level_text zero = []
level_text (suc zero) = codes "      h1 = h1 + 1 - q1;\n"
level_text (suc (suc i)) = let n = decimal (suc (suc i)) in
    codes "      h" ++ (n ++ (codes " = h" ++ (n
    ++ (codes " + q" ++ (decimal (suc i) ++ (codes " - q" ++ (n ++ codes ";\n")))))))

-- what a section says of the tank i, whose factor is t tenths
unfoldable pub item_text : Section → ℕ → ℕ → List ℕ
item_text State i t = codes "      REAL h" ++ (decimal i ++ codes " [0, 100];\n")
item_text Input i t = codes "      BOOL v" ++ (decimal i ++ codes ";\n")
item_text Aux i t = codes "      REAL q" ++ (decimal i ++ (codes "; BOOL f" ++ (decimal i ++ codes ";\n")))
item_text Ad i t = codes "      f" ++ (decimal i ++ (codes " = h" ++ (decimal i ++ codes " >= 90;\n")))
item_text Da i t =
    codes "      q" ++ (decimal i ++ (codes " = { IF v" ++ (decimal i
    ++ (codes " THEN " ++ (decimal t ++ (codes "/10*h" ++ (decimal i ++ codes " };\n")))))))
item_text Continuous i t = level_text i
item_text Must i t = codes "      ~f" ++ (decimal i ++ codes ";\n")

-- what a section says of the first i of k tanks, in their order
abbrev pub items_text : Section → ℕ → ℕ → List ℕ
items_text section k zero = []
items_text section k (suc i) = items_text section k i ++ item_text section (suc i) (tenths (draw k (suc i)))

unfoldable pub name_text : Section → List ℕ
name_text State = codes "STATE"
name_text Input = codes "INPUT"
name_text Aux = codes "AUX"
name_text Ad = codes "AD"
name_text Da = codes "DA"
name_text Continuous = codes "CONTINUOUS"
name_text Must = codes "MUST"

-- a section of the source for k tanks
unfoldable pub section_text : ℕ → Section → List ℕ
section_text k section =
    codes "    " ++ (name_text section ++ (codes " {\n" ++ (items_text section k k ++ codes "    }\n")))

unfoldable pub sections_text : ℕ → List Section → List ℕ
sections_text k [] = []
sections_text k (section ∷ sections) = section_text k section ++ sections_text k sections

-- the sections of each part, in their order
unfoldable pub interface : List Section
interface = State ∷ Input ∷ []

unfoldable pub implementation : List Section
implementation = Aux ∷ Ad ∷ Da ∷ Continuous ∷ Must ∷ []

unfoldable pub interface_text : ℕ → List ℕ
interface_text k = codes "  INTERFACE {\n" ++ (sections_text k interface ++ codes "  }\n")

unfoldable pub implementation_text : ℕ → List ℕ
implementation_text k = codes "  IMPLEMENTATION {\n" ++ (sections_text k implementation ++ codes "  }\n")

-- the source `tanks` for k tanks
unfoldable pub tanks_text : ℕ → List ℕ
tanks_text k = codes "SYSTEM tanks {\n" ++ (interface_text k ++ (implementation_text k ++ codes "}\n"))
