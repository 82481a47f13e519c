-- Lists that begin with another.
use Rattle.std.specs.Prelude.{◌≡◌, List, ◌++◌}

-- the list is the other one and more behind it
pub record Begins {A : Type 0} (before after : List A) : Type 0 where
  pub more : List A
  pub same : after ≡ before ++ more
