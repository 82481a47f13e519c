-- Fresh columns one by one.
use Rattle.std.proofs.Common.{◌≡◌, ℕ, suc, ◌+◌, ◌-◌, ◌<◌, List, [], ◌∷◌, ◌++◌, map, ◌∙◌, arith, append_assoc}
use Rattle.hys_sys.specs.declared.system.Column.{Column}
use Rattle.hys_sys.specs.Exact.{fresh_variables}
use Rattle.hys_exact.specs.Columns.{fresh_column}
use Rattle.hys_mld.specs.Columns.{fresh_with}

pub fresh_more : (cs all new : List Column) (k n : ℕ) (c : Column) → cs ++ map fresh_column (fresh_variables (suc k) (n - k)) ≡ all → k < n → c ≡ fresh_with (k + 1) → new ≡ cs ++ c ∷ [] →
    new ++ map fresh_column (fresh_variables (suc (k + 1)) (n - (k + 1))) ≡ all
fresh_more cs all new k n c e l d q =
    let a : n - k ≡ suc (n - (k + 1)) = omega arith in
    let b : k + 1 ≡ suc k = omega arith in
    rw (q, d, b) (append_assoc cs (fresh_with (suc k) ∷ []) (map fresh_column (fresh_variables (suc (suc k)) (n - suc k))) ∙ (rw (a, b) at e))
