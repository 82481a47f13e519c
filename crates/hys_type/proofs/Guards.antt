-- Guards behind guards.
use Rattle.std.proofs.Common.{◌≡◌, ℕ, suc, ◌+◌, List, [], ◌∷◌, ◌++◌, length, refl, sym, ◌∙◌, ap, append_assoc, append-nil}
use Rattle.std.proofs.lemmas.List.{length-append}
use Rattle.hys_ast.specs.declared.place.Place.{Place}
use Rattle.hys_ast.specs.declared.tree.BinaryOp.{BinaryOp}
use Rattle.hys_ast.specs.Tree.{Tree}
use Rattle.hys_ast.specs.Tree as tree
use Rattle.hys_lin.specs.declared.form.Affine.{Affine}
use Rattle.hys_meaning.specs.Names.{Name}
use Rattle.hys_meaning.specs.Forms.{form, guard_between}
use Rattle.hys_type.specs.Translation.{OneByOne, IsFormOf}
use Rattle.hys_type.specs.Built.{IsGuardOf, AreFollowed}
use Rattle.hys_type.specs.declared.built.Guard.{Guard}

pub none_followed : (ns : List Name) (gs : List Guard) → AreFollowed ns gs [] gs
none_followed ns gs = record { more = []; same = sym (append-nil gs); guards = tt }

pub one_guard : (ns : List Name) (gs hs : List Guard) (op : BinaryOp) (a b : Tree) (p : Place) (f : Affine) → IsFormOf ns (guard_between op (form ns a) (form ns b)) f → hs ≡ gs ++ record { number = f; place = p } ∷ [] → AreFollowed ns gs (tree.Binary op a b p ∷ []) hs
one_guard ns gs hs op a b p f h e = record { more = record { number = f; place = p } ∷ []; same = e; guards = ((refl, h), tt) }

pub one_by_one : {A B : Type 0} (P : A → B → Type 0) (xs us : List A) (ys vs : List B) → OneByOne P xs ys → OneByOne P us vs → OneByOne P (xs ++ us) (ys ++ vs)
one_by_one P [] us [] vs h k = k
one_by_one P [] us (y ∷ ys) vs h k = absurd h
one_by_one P (x ∷ xs) us [] vs h k = absurd h
one_by_one P (x ∷ xs) us (y ∷ ys) vs h k = (h.0, one_by_one P xs us ys vs h.1 k)

pub as_long : {A B : Type 0} (P : A → B → Type 0) (xs : List A) (ys : List B) → OneByOne P xs ys → length ys ≡ length xs
as_long P [] [] h = refl
as_long P [] (y ∷ ys) h = absurd h
as_long P (x ∷ xs) [] h = absurd h
as_long P (x ∷ xs) (y ∷ ys) h = ap suc (as_long P xs ys h.1)

pub both_followed : (ns : List Name) (gs hs ks : List Guard) (ds es : List Tree) → AreFollowed ns gs ds hs → AreFollowed ns hs es ks → AreFollowed ns gs (ds ++ es) ks
both_followed ns gs hs ks ds es h k = record {
  more = h.more ++ k.more;
  same = k.same ∙ ap (λ xs. xs ++ k.more) h.same ∙ append_assoc gs h.more k.more;
  guards = one_by_one (IsGuardOf ns) ds es h.more k.more h.guards k.guards;
}

pub followed_length : (ns : List Name) (gs hs : List Guard) (es : List Tree) → AreFollowed ns gs es hs → length hs ≡ length gs + length es
followed_length ns gs hs es h = ap length h.same ∙ length-append gs h.more ∙ ap (λ (k : ℕ). length gs + k) (as_long (IsGuardOf ns) es h.more h.guards)
