-- The terms that the code makes of a list of coefficients.
use Rattle.std.specs.Prelude.{ℕ, suc, List, [], ◌∷◌, ◌++◌}
use Rattle.hys_number.specs.Number.{Number}
use Rattle.hys_lin.specs.Scaled.{kept}
use Rattle.hys_lin.specs.declared.form.Term.{Term}

-- a term for each coefficient that isn't 0, the first being that of column k
abbrev pub terms_from : ℕ → List Number → List Term
terms_from k [] = []
terms_from k (a ∷ as') = kept k a ++ terms_from (suc k) as'
