use Rattle.std.proofs.Common.{◌≡◌, ◌∷◌, ◌++◌, false, map, drop, string_bytes}
use Rattle.std.specs.List.{AllByRecursion}
use Rattle.serde_json.specs.View.{items_of}
use Rattle.serde_json.specs.Written.{items_text, items_have_float}
use Rattle.hys_json.proofs.Pieces.{rest_from}
use Rattle.hys_json.proofs.text.push_list.Given as goal

abbrev pub invariant-loop-at : goal.invariant-loop-at
invariant-loop-at g l =
    (string_bytes l.text ++ rest_from g.W.Writer.shown l.items l.at
    ≡ string_bytes l.fn.text ++ (91 ∷ items_text false (items_of (map g.W.Writer.shown l.items))))
    × (items_have_float (items_of (map g.W.Writer.shown (drop l.at l.items))) ≡ false)
    × (AllByRecursion g.W.Writer.fit (drop l.at l.items) → AllByRecursion g.W.Writer.fit l.items)
