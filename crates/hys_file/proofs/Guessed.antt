-- A system that was guessed is that of the text where its own text is this one.
use Rattle.std.proofs.Common.{◌≡◌, ℕ, ◌≤◌, List, length, subst}
use Rattle.hys_sys.specs.declared.system.System.{System}
use Rattle.hys_sys.specs.System.{IsSystem}
use Rattle.hys_file.specs.Reading.{most_weight}
use Rattle.hys_file.specs.Texts.{most_bytes, IsTextOf, ReadsAs}

pub stands_for : (text bytes : List ℕ) (s : System) → length text ≤ most_bytes → IsSystem s × (s.weight ≤ most_weight) → ReadsAs bytes s → bytes ≡ text → IsTextOf text s
stands_for text bytes s few kept reads same = subst (λ (t : List ℕ). ReadsAs t s) same reads kept.0 kept.1 few
