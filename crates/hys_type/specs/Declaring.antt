-- What holds of each declaration that was read from a text.
use Rattle.std.specs.Prelude.{Bool, true, false, IsTrue}
use Rattle.hys_ast.specs.declared.source.Section.{Section}
use Rattle.hys_ast.specs.declared.source.Section.TheVariants as section
use Rattle.hys_ast.specs.Tree.{Decl}
use Rattle.hys_prog.specs.Programs.{IsWord}

-- a section of declarations
abbrev pub declares : Section → Bool
declares section.State = true
declares section.Input = true
declares section.Output = true
declares section.Parameter = true
declares section.Aux = true
declares section.Ad = false
declares section.Da = false
declares section.Logic = false
declares section.Linear = false
declares section.Automata = false
declares section.Continuous = false
declares section.OutputItem = false
declares section.Must = false

-- it stands in a section of declarations, and its name is a word of the language
abbrev pub IsDeclaration : Decl → Type 0
IsDeclaration d = IsTrue (declares d.section) × IsWord d.name
