-- One more file, behind the others.
use Rattle.std.proofs.Common.{◌≡◌, ℕ, List, [], ◌∷◌, ◌++◌, String, Vec, string_bytes, refl, false, Some, ◌∙◌, sym, ap, ◌<◌, ◌≤◌, ◌-◌, ◌+◌, length, take, get_or, arith}
use Rattle.std.proofs.lemmas.List.{take_more}
use Rattle.std.specs.declared.alloc.Global.{Global}
use Rattle.std.specs.FinMap as map
use Rattle.std.specs.Ordering.{nat_cmp, eq_by_cmp, is_eq}
use Rattle.std.specs.declared.cmp.Ordering.TheVariants.{Less, Equal, Greater}
use Rattle.std.specs.Cmp.Lexicographic.{slice_cmp, nat_list_cmp_total}
use Rattle.hys_io.specs.Outside.{Named}
use Rattle.hys_io.specs.Entries.{with_files, files_of}

pub with_files-push : (m : Named) (es : List (String Global × Vec ℕ Global)) (e : String Global × Vec ℕ Global) →
    with_files m (es ++ e ∷ []) ≡ map.insert (with_files m es) (string_bytes e.0) e.1.items
with_files-push m [] e = refl
with_files-push m (x ∷ es) e = with_files-push (map.insert m (string_bytes x.0) x.1.items) es e

pub get_last : (m : Named) (k v : List ℕ) → map.get (map.insert m k v) k ≡ Some v
get_last m k v = grind (arith, map.gets)

pub get_before : (m : Named) (k v q : List ℕ) → (q ≡ k → ⊥) → map.get (map.insert m k v) q ≡ map.get m q
get_before m k v q apart =
    let other : eq_by_cmp (slice_cmp nat_cmp) q k ≡ false =
    elim (slice_cmp nat_cmp q k) as (λ r. slice_cmp nat_cmp q k ≡ r → is_eq r ≡ false) [
      | Less ↦ λ e. refl
      | Equal ↦ λ e. absurd (apart (map.slice_cmp-IsAntisymmetric map.nat_cmp-IsAntisymmetric q k e))
      | Greater ↦ λ e. refl
    ] refl in
    map.get-insert nat_list_cmp_total m k v q ∙ rw other

-- the files up to n, where e is the last of them
pub held_take : (es : List (String Global × Vec ℕ Global)) (n : ℕ) (e : String Global × Vec ℕ Global) → 0 < n → n ≤ length es → e ≡ get_or es (n - 1) e →
    files_of (take n es) ≡ map.insert (files_of (take (n - 1) es)) (string_bytes e.0) e.1.items
held_take es n e some within is =
    let back : n - 1 + 1 ≡ n = omega arith in
    ap (λ k. files_of (take k es)) (sym back) ∙ ap files_of (take_more es (n - 1) e (omega arith))
    ∙ ap (λ x. files_of (take (n - 1) es ++ x ∷ [])) (sym is) ∙ with_files-push map.empty (take (n - 1) es) e

pub found_here : (es : List (String Global × Vec ℕ Global)) (n : ℕ) (e : String Global × Vec ℕ Global) (name bytes : List ℕ) → 0 < n → n ≤ length es → e ≡ get_or es (n - 1) e →
    name ≡ string_bytes e.0 → bytes ≡ e.1.items → map.get (files_of (take n es)) name ≡ map.get (files_of es) name → Some bytes ≡ map.get (files_of es) name
found_here es n e name bytes some within is same holds so =
    ap Some holds ∙ sym (get_last (files_of (take (n - 1) es)) (string_bytes e.0) e.1.items) ∙ ap (λ k. map.get (map.insert (files_of (take (n - 1) es)) (string_bytes e.0) e.1.items) k) (sym same)
    ∙ ap (λ m. map.get m name) (sym (held_take es n e some within is)) ∙ so

pub found_before : (es : List (String Global × Vec ℕ Global)) (n : ℕ) (e : String Global × Vec ℕ Global) (name : List ℕ) → 0 < n → n ≤ length es → e ≡ get_or es (n - 1) e →
    (name ≡ string_bytes e.0 → ⊥) → map.get (files_of (take n es)) name ≡ map.get (files_of es) name → map.get (files_of (take (n - 1) es)) name ≡ map.get (files_of es) name
found_before es n e name some within is apart so =
    sym (get_before (files_of (take (n - 1) es)) (string_bytes e.0) e.1.items name apart) ∙ ap (λ m. map.get m name) (sym (held_take es n e some within is)) ∙ so
