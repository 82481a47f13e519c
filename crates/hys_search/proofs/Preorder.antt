-- The walk over the tree with a list of nodes that are still to come, the next one last.
use Rattle.std.proofs.Common.{◌≡◌, ℕ, zero, suc, ◌<◌, List, [], ◌∷◌, ◌++◌, length, get_or, refl, sym, ◌∙◌, ap, ap₂, subst, arith, Option, Some, None, append_assoc}
use Rattle.std.proofs.lemmas.List.{append-nil}
use Rattle.hys_search.proofs.Shapes.{enough}
use Rattle.hys_search.specs.Nodes.{IsRising, Shape, child_at, grow, labels, opened, shape, shape_at}
use Rattle.hys_search.specs.declared.nodes.Node.{Node}

abbrev pub full : List Node → ℕ → List ℕ
full ns j = labels (shape_at ns (length ns) j)

abbrev pub stacked : List Node → List ℕ → List ℕ
stacked ns [] = []
stacked ns (x ∷ xs) = stacked ns xs ++ full ns x

stacked-append : (ns : List Node) (xs ys : List ℕ) → stacked ns (xs ++ ys) ≡ stacked ns ys ++ stacked ns xs
stacked-append ns [] ys = sym (append-nil (stacked ns ys))
stacked-append ns (x ∷ xs) ys = ap (λ z. z ++ full ns x) (stacked-append ns xs ys) ∙ append_assoc (stacked ns ys) (stacked ns xs) (full ns x)

grown_labels : (ns : List Node) (j turns : ℕ) (o : Option ℕ) → ((k : ℕ) → o ≡ Some k → (labels (shape_at ns turns k) ≡ full ns k) × (labels (shape_at ns turns (suc k)) ≡ full ns (suc k))) → labels (grow j o (shape_at ns turns)) ≡ j ∷ stacked ns (opened o)
grown_labels ns j turns None h = refl
grown_labels ns j turns (Some k) h = ap₂ (λ x y. j ∷ (x ++ y)) (h k refl).0 (h k refl).1

full_turns : (ns : List Node) → IsRising ns → (turns j : ℕ) → length ns ≡ suc turns → j < length ns → full ns j ≡ j ∷ stacked ns (opened (child_at ns j))
full_turns ns r turns j e l = ap (λ t. labels (shape_at ns t j)) e ∙ grown_labels ns j turns (child_at ns j) (λ k f.
    let w : (j < k) × (suc k < length ns) = r.rises j k l f in
    let a : k < length ns = omega arith in
    (sym (ap (λ t. labels (shape_at ns t k)) e ∙ ap labels (enough ns r turns k a (omega arith))), sym (ap (λ t. labels (shape_at ns t (suc k))) e ∙ ap labels (enough ns r turns (suc k) w.1 (omega arith)))))

full_step : (ns : List Node) → IsRising ns → (j : ℕ) → j < length ns → full ns j ≡ j ∷ stacked ns (opened (child_at ns j))
full_step [] r j l = absurd (omega arith)
full_step (n ∷ ns) r j l = full_turns (n ∷ ns) r (length ns) j refl l

pub turn : (ns : List Node) → IsRising ns → (rest order order' stack stack' whole : List ℕ) (j : ℕ) → j < length ns → stack ≡ rest ++ (j ∷ []) → order' ≡ order ++ (j ∷ []) → stack' ≡ rest ++ opened (child_at ns j) → order ++ stacked ns stack ≡ whole → (order' ++ stacked ns stack' ≡ whole) × (length (stacked ns stack') < length (stacked ns stack))
turn ns r rest order order' stack stack' whole j l e f g h =
    let a : stacked ns stack ≡ full ns j ++ stacked ns rest = ap (stacked ns) e ∙ stacked-append ns rest (j ∷ []) in
    let b : stacked ns stack' ≡ stacked ns (opened (child_at ns j)) ++ stacked ns rest = ap (stacked ns) g ∙ stacked-append ns rest (opened (child_at ns j)) in
    let d : stacked ns stack ≡ j ∷ stacked ns stack' = a ∙ ap (λ z. z ++ stacked ns rest) (full_step ns r j l) ∙ ap (λ z. j ∷ z) (sym b) in
    let m : length (stacked ns stack) ≡ suc (length (stacked ns stack')) = ap length d in
    (ap (λ z. z ++ stacked ns stack') f ∙ append_assoc order (j ∷ []) (stacked ns stack') ∙ ap (λ z. order ++ z) (sym d) ∙ h, omega arith)

-- each of the list is below n
abbrev pub EachBelow : ℕ → List ℕ → Type 0
EachBelow n [] = Unit {0}
EachBelow n (x ∷ xs) = (x < n) × EachBelow n xs

each_split : (n : ℕ) (xs ys : List ℕ) → EachBelow n (xs ++ ys) → EachBelow n xs × EachBelow n ys
each_split n [] ys h = (tt, h)
each_split n (x ∷ xs) ys h = let w = each_split n xs ys h.1 in ((h.0, w.0), w.1)

each_both : (n : ℕ) (xs ys : List ℕ) → EachBelow n xs → EachBelow n ys → EachBelow n (xs ++ ys)
each_both n [] ys h g = g
each_both n (x ∷ xs) ys h g = (h.0, each_both n xs ys h.1 g)

each_opened : (n : ℕ) (o : Option ℕ) → ((k : ℕ) → o ≡ Some k → suc k < n) → EachBelow n (opened o)
each_opened n None h = tt
each_opened n (Some k) h = let t : suc k < n = h k refl in let u : k < n = omega arith in (t, (u, tt))

pub each_visit : (ns : List Node) → IsRising ns → (rest stack stack' : List ℕ) (j : ℕ) → stack ≡ rest ++ (j ∷ []) → stack' ≡ rest ++ opened (child_at ns j) → EachBelow (length ns) stack → (j < length ns) × EachBelow (length ns) stack'
each_visit ns r rest stack stack' j e g h =
    let w = each_split (length ns) rest (j ∷ []) (subst (EachBelow (length ns)) e h) in
    let l : j < length ns = w.1.0 in
    (l, subst (EachBelow (length ns)) (sym g) (each_both (length ns) rest (opened (child_at ns j)) w.0 (each_opened (length ns) (child_at ns j) (λ k f. (r.rises j k l f).1))))

pub all_stacked : (ns : List Node) → stacked ns (0 ∷ []) ≡ labels (shape ns)
unfolding shape
all_stacked ns = refl

-- ---- every place is a node
each_grow : (n j : ℕ) (o : Option ℕ) (below_it : ℕ → Shape) → j < n → ((k : ℕ) → o ≡ Some k → EachBelow n (labels (below_it k)) × EachBelow n (labels (below_it (suc k)))) → EachBelow n (labels (grow j o below_it))
each_grow n j None b l h = (l, tt)
each_grow n j (Some k) b l h = (l, each_both n (labels (b k)) (labels (b (suc k))) (h k refl).0 (h k refl).1)

labels_from : (ns : List Node) → IsRising ns → (turns j : ℕ) → j < length ns → EachBelow (length ns) (labels (shape_at ns turns j))
labels_from ns r zero j l = (l, tt)
labels_from ns r (suc turns) j l = each_grow (length ns) j (child_at ns j) (shape_at ns turns) l (λ k e. let w : (j < k) × (suc k < length ns) = r.rises j k l e in (labels_from ns r turns k (omega arith), labels_from ns r turns (suc k) w.1))

pub labels_below : (ns : List Node) → IsRising ns → 0 < length ns → EachBelow (length ns) (labels (shape ns))
unfolding shape
labels_below ns r l = labels_from ns r (length ns) 0 l

pub each_at : (n : ℕ) (xs : List ℕ) (i : ℕ) → EachBelow n xs → i < length xs → get_or xs i 0 < n
each_at n [] i h l = absurd (omega arith)
each_at n (x ∷ xs) zero h l = h.0
each_at n (x ∷ xs) (suc i) h l = each_at n xs i h.1 (omega arith)
