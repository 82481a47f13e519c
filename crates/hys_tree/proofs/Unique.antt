-- A list of places is the preorder of one tree at most.
use Rattle.std.proofs.Common.{◌≡◌, ℕ, List, [], ◌∷◌, ◌++◌, refl, sym, ◌∙◌, append_assoc, append-nil}
use Rattle.hys_relax.specs.declared.multipliers.Multipliers.{Multipliers}
use Rattle.hys_tree.specs.declared.tree.TreePlace.{TreePlace}
use Rattle.hys_tree.specs.declared.tree.TreePlace.TheVariants.{Inner, Cost, Never}
use Rattle.hys_tree.specs.Certificate.{Certificate, cost, never, fork, preorder}

-- two trees whose places begin one list are the same, and what is left too
record Same (s t : Certificate) (xs ys : List TreePlace) : Type 0 where
  tree : s ≡ t
  rest : xs ≡ ys

costs : (m n : Multipliers) (k l : ℕ) (xs ys : List TreePlace) → Cost m k ∷ xs ≡ Cost n l ∷ ys → Same (cost m k) (cost n l) xs ys
costs m n k l xs ys e = record { tree = cc; rest = cc }

nevers : (m n : Multipliers) (k l : ℕ) (xs ys : List TreePlace) → Never m k ∷ xs ≡ Never n l ∷ ys → Same (never m k) (never n l) xs ys
nevers m n k l xs ys e = record { tree = cc; rest = cc }

heads : (c d : ℕ) (xs ys : List TreePlace) → Inner c ∷ xs ≡ Inner d ∷ ys → c ≡ d
heads c d xs ys e = cc

tails : (c d : ℕ) (xs ys : List TreePlace) → Inner c ∷ xs ≡ Inner d ∷ ys → xs ≡ ys
tails c d xs ys e = cc

forked : (c d : ℕ) (a b u v : Certificate) (xs ys : List TreePlace) → c ≡ d →
    Same a u (preorder b ++ xs) (preorder v ++ ys) → (preorder b ++ xs ≡ preorder v ++ ys → Same b v xs ys) →
    Same (fork c a b) (fork d u v) xs ys
forked c d a b u v xs ys e h k =
    let w : Same b v xs ys = k h.rest in record { tree = rw (e, h.tree, w.tree) refl; rest = w.rest }

front : (s t : Certificate) (xs ys : List TreePlace) → preorder s ++ xs ≡ preorder t ++ ys → Same s t xs ys
front (cost m k) (cost n l) xs ys e = costs m n k l xs ys e
front (cost m k) (never n l) xs ys e = absurd (cc)
front (cost m k) (fork d u v) xs ys e = absurd (cc)
front (never m k) (cost n l) xs ys e = absurd (cc)
front (never m k) (never n l) xs ys e = nevers m n k l xs ys e
front (never m k) (fork d u v) xs ys e = absurd (cc)
front (fork c a b) (cost n l) xs ys e = absurd (cc)
front (fork c a b) (never n l) xs ys e = absurd (cc)
front (fork c a b) (fork d u v) xs ys e =
    forked c d a b u v xs ys (heads c d _ _ e)
    (front a u (preorder b ++ xs) (preorder v ++ ys)
    (sym (append_assoc (preorder a) (preorder b) xs) ∙ tails c d _ _ e ∙ append_assoc (preorder u) (preorder v) ys))
    (λ r. front b v xs ys r)

pub one_tree : (s t : Certificate) → preorder s ≡ preorder t → s ≡ t
one_tree s t e = go (front s t [] [] (append-nil (preorder s) ∙ e ∙ sym (append-nil (preorder t))))
  where
    go : Same s t [] [] → s ≡ t
    go w = w.tree
