-- Names among declarations.
use Rattle.std.proofs.Common.{◌≡◌, ℕ, ◌<◌, ◌≤◌, suc, List, [], ◌∷◌, Some, None, Bool, true, false, ◌||◌, map, length, nat_lt, refl, sym, ap, arith}
use Rattle.std.specs.Str.{bytes_eq}
use Rattle.std.specs.List.{list_any}
use Rattle.hys_ast.specs.declared.source.Decl.{Decl}
use Rattle.hys_ast.specs.Seen.{decl_of}
use Rattle.hys_type.specs.Faults.{first_fault}
use Rattle.hys_type.specs.Declarations.{name_checks}
use Rattle.hys_type.specs.declared.fault.TypeFault.TheVariants as fault

any_declared : (n : List ℕ) (ds : List Decl) → list_any (λ d. bytes_eq n d.name) ds ≡ list_any (λ d. bytes_eq n d.name) (map decl_of ds)
any_declared n [] = refl
any_declared n (d ∷ ds) = ap (λ (b : Bool). bytes_eq n d.name || b) (any_declared n ds)

length_of : (ds : List Decl) → length (map decl_of ds) ≡ length ds
length_of [] = refl
length_of (d ∷ ds) = ap suc (length_of ds)

pub twice : (ds : List Decl) (d : Decl) → true ≡ list_any (λ m. bytes_eq d.name m.name) ds → Some (fault.Twice d.place) ≡ first_fault (name_checks (map decl_of ds) (decl_of d))
twice ds d h = rw (sym (any_declared d.name ds), sym h) refl

pub too_many : (ds : List Decl) (d : Decl) → false ≡ list_any (λ m. bytes_eq d.name m.name) ds → 200 ≤ length ds → Some fault.Limit ≡ first_fault (name_checks (map decl_of ds) (decl_of d))
too_many ds d h l = rw (sym (any_declared d.name ds), sym h, length_of ds, over (length ds) l) refl
  where
    over : (n : ℕ) → 200 ≤ n → nat_lt n 200 ≡ false
    over n l = grind arith

pub new_name : (ds : List Decl) (d : Decl) → false ≡ list_any (λ m. bytes_eq d.name m.name) ds → length ds < 200 → None ≡ first_fault (name_checks (map decl_of ds) (decl_of d))
new_name ds d h l = rw (sym (any_declared d.name ds), sym h, length_of ds, under (length ds) l) refl
  where
    under : (n : ℕ) → n < 200 → nat_lt n 200 ≡ true
    under n l = grind arith
