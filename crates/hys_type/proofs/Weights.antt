-- The weight of names, one after the other.
use Rattle.std.proofs.Common.{◌≡◌, ℕ, ◌+◌, ◌<◌, ◌≤◌, List, true, false, cond, drop, length, map, get_or, refl, ◌∙◌, ap, arith}
use Rattle.std.proofs.lemmas.List.{drop_all}
use Rattle.std.specs.List.{sum_by}
use Rattle.std.proofs.lemmas.List.Sums.{sum_by-cons}
use Rattle.hys_ast.specs.declared.source.Item.{Item}
use Rattle.hys_ast.specs.Seen.{item_of}
use Rattle.hys_meaning.specs.Weight.{item_weight}
use Rattle.hys_prog.specs.declared.program.Name.{Name}
use Rattle.hys_prog.specs.Programs.{has_column, names_weight}
use Rattle.hys_type.proofs.Walks.{drop_here}

weight_here : (xs : List Name) (i : ℕ) (x : Name) → i < length xs → x ≡ get_or xs i x → names_weight (drop i xs) ≡ cond (has_column x.role) 1 0 + names_weight (drop (i + 1) xs)
weight_here xs i x h e = ap names_weight (drop_here xs i x h e)

pub column_here : (xs : List Name) (i : ℕ) (x : Name) (n m t : ℕ) → i < length xs → x ≡ get_or xs i x → has_column x.role ≡ true → n + names_weight (drop i xs) ≡ t → m ≡ n + 1 → m + names_weight (drop (i + 1) xs) ≡ t
column_here xs i x n m t h e k w o =
    let s : names_weight (drop i xs) ≡ 1 + names_weight (drop (i + 1) xs) = weight_here xs i x h e ∙ rw k refl in
    omega (arith, s, w, o)

pub none_here : (xs : List Name) (i : ℕ) (x : Name) (n t : ℕ) → i < length xs → x ≡ get_or xs i x → has_column x.role ≡ false → n + names_weight (drop i xs) ≡ t → n + names_weight (drop (i + 1) xs) ≡ t
none_here xs i x n t h e k w =
    let s : names_weight (drop i xs) ≡ 0 + names_weight (drop (i + 1) xs) = weight_here xs i x h e ∙ rw k refl in
    omega (arith, s, w)

pub weight_end : (xs : List Name) (i n t : ℕ) → length xs ≤ i → n + names_weight (drop i xs) ≡ t → n ≡ t
weight_end xs i n t h w =
    let s : names_weight (drop i xs) ≡ 0 = ap names_weight (drop_all i xs h) in
    omega (arith, s, w)

-- ---- items
items_here : (xs : List Item) (i : ℕ) (x : Item) → i < length xs → x ≡ get_or xs i x → sum_by item_weight (map item_of (drop i xs)) ≡ item_weight (item_of x) + sum_by item_weight (map item_of (drop (i + 1) xs))
items_here xs i x h e = ap (λ ys. sum_by item_weight (map item_of ys)) (drop_here xs i x h e) ∙ sum_by-cons item_weight (item_of x) (map item_of (drop (i + 1) xs))

pub item_here : (xs : List Item) (i : ℕ) (x : Item) (w n m t : ℕ) → i < length xs → x ≡ get_or xs i x → w ≡ item_weight (item_of x) → n + sum_by item_weight (map item_of (drop i xs)) ≡ t → m ≡ n + w → m + sum_by item_weight (map item_of (drop (i + 1) xs)) ≡ t
item_here xs i x w n m t h e k v o = linear n m w (item_weight (item_of x)) (sum_by item_weight (map item_of (drop i xs))) (sum_by item_weight (map item_of (drop (i + 1) xs))) t (items_here xs i x h e) k v o
  where
    linear : (n m w a b c t : ℕ) → b ≡ a + c → w ≡ a → n + b ≡ t → m ≡ n + w → m + c ≡ t
    linear n m w a b c t s k v o = omega (arith, s, k, v, o)

pub items_end : (xs : List Item) (i n t : ℕ) → length xs ≤ i → n + sum_by item_weight (map item_of (drop i xs)) ≡ t → n ≡ t
items_end xs i n t h v = linear n (sum_by item_weight (map item_of (drop i xs))) t (ap (λ ys. sum_by item_weight (map item_of ys)) (drop_all i xs h)) v
  where
    linear : (n b t : ℕ) → b ≡ 0 → n + b ≡ t → n ≡ t
    linear n b t s v = omega (arith, s, v)
