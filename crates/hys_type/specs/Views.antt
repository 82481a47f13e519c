-- The same numbers by the texts of names and by their places.
use Rattle.std.specs.Prelude.{List, map}
use Rattle.hys_lin.specs.Sums.{at}
use Rattle.hys_lin.specs.Sums.{Assignment as PlaceAssignment}
use Rattle.hys_meaning.specs.Values.{Assignment}
use Rattle.hys_meaning.specs.Names.{Name}
use Rattle.hys_type.specs.Translation.{place_in}

-- at the place of a declared name stands the number of its text
abbrev pub by_places : List Name → Assignment → PlaceAssignment
by_places ns w = at (map (λ n. w n.text) ns)

-- the text of a declared name has the number of its place
abbrev pub by_texts : List Name → PlaceAssignment → Assignment
by_texts ns v n = v (place_in ns n)
