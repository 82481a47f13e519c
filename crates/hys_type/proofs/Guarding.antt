-- The names and the items of unnamed guards, one behind another.
use Rattle.std.proofs.Common.{◌≡◌, ℕ, suc, ◌+◌, ◌-◌, ◌≤◌, List, [], ◌∷◌, ◌++◌, length, sym, ◌∙◌, ap, append_assoc, append-nil, arith}
use Rattle.std.proofs.lemmas.List.{length-append}
use Rattle.hys_number.specs.Number.{Number}
use Rattle.hys_prog.specs.declared.program.Name.{Name as ProgName}
use Rattle.hys_prog.specs.declared.program.ProgItem.{ProgItem}
use Rattle.hys_type.specs.Guarding.{name_of_guard, names_of_guards, item_of_guard, items_of_guards}
use Rattle.hys_type.specs.declared.built.Guard.{Guard}

-- one more is one longer
one_longer : {A : Type 0} (xs ys : List A) (x : A) → ys ≡ xs ++ x ∷ [] → length ys ≡ length xs + 1
one_longer xs ys x e = ap length e ∙ length-append xs (x ∷ [])

next_number : (m n d : ℕ) → d ≤ m → n ≡ m + 1 → n - d + 1 ≡ suc (m - d + 1)
next_number m n d h e = omega (arith, h, e)

pub guard_named : (d : ℕ) (xs ys total : List ProgName) (g : Guard) (gs : List Guard) → d ≤ length xs → ys ≡ xs ++ name_of_guard (length xs - d + 1) g.place ∷ [] →
    xs ++ names_of_guards (length xs - d + 1) (g ∷ gs) ≡ total → ys ++ names_of_guards (length ys - d + 1) gs ≡ total
guard_named d xs ys total g gs h e w =
    let x : ProgName = name_of_guard (length xs - d + 1) g.place in
    ap (λ (k : ℕ). ys ++ names_of_guards k gs) (next_number (length xs) (length ys) d h (one_longer xs ys x e))
    ∙ ap (λ (zs : List ProgName). zs ++ names_of_guards (suc (length xs - d + 1)) gs) e
    ∙ append_assoc xs (x ∷ []) (names_of_guards (suc (length xs - d + 1)) gs) ∙ w

pub guard_put : (eps : Number) (xs ys : List ProgName) (x : ProgName) (us vs total : List ProgItem) (g : Guard) (gs : List Guard) → ys ≡ xs ++ x ∷ [] → vs ≡ us ++ item_of_guard (length xs) eps g ∷ [] →
    us ++ items_of_guards (length xs) eps (g ∷ gs) ≡ total → vs ++ items_of_guards (length ys) eps gs ≡ total
guard_put eps xs ys x us vs total g gs e f w =
    ap (λ (k : ℕ). vs ++ items_of_guards k eps gs) (longer (length xs) (length ys) (one_longer xs ys x e))
    ∙ ap (λ (zs : List ProgItem). zs ++ items_of_guards (suc (length xs)) eps gs) f
    ∙ append_assoc us (item_of_guard (length xs) eps g ∷ []) (items_of_guards (suc (length xs)) eps gs) ∙ w
  where
    longer : (m n : ℕ) → n ≡ m + 1 → n ≡ suc m
    longer m n e = omega (arith, e)

-- ---- the end
pub none_named : (k : ℕ) (xs total : List ProgName) → xs ++ names_of_guards k [] ≡ total → xs ≡ total
none_named k xs total w = sym (append-nil xs) ∙ w

pub none_put : (j : ℕ) (eps : Number) (us total : List ProgItem) → us ++ items_of_guards j eps [] ≡ total → us ≡ total
none_put j eps us total w = sym (append-nil us) ∙ w
