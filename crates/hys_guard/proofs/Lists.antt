-- Lists of terms: parts of them, their sums, and what setting one factor does.
use Rattle.std.specs.Prelude.{◌≡◌, ℕ, zero, suc, ◌+◌, ◌<◌, ◌≤◌, List, [], ◌∷◌, ◌++◌, length, Bool, true, false, cond, Option, Some, None}
use Rattle.std.proofs.Common.{get_or, take, drop, refl, sym, ◌∙◌, ap, arith, subst, inl, inr, eqb, tests}
use Rattle.std.proofs.lemmas.List.{take_more, take_at, drop_at, take-append-drop}
use Rattle.hys_number.specs.Number.{Number}
use Rattle.hys_number.specs.Ops.{◌+ₙ◌, ◌*ₙ◌, ◌-ₙ◌, neg, whole}
use Rattle.hys_number.proofs.Field.{add_zero}
use Rattle.hys_number.proofs.Ring.{by_ring, v, k, minus, ◌⊕◌, ◌⊗◌, ◌⊖◌}
use Rattle.hys_number.proofs.Signs.{neg_is_zero}
use Rattle.hys_lin.specs.declared.form.Term.{Term}
use Rattle.hys_lin.specs.Sums.{Assignment, sum_of, AreTerms, EachColumn}
use Rattle.hys_lin.specs.declared.form.Affine.{Affine}
use Rattle.hys_lin.specs.declared.form.Row.{Row}
use Rattle.hys_lin.proofs.Lists.{each-append, each_more, terms-append, sum-append}
use Rattle.hys_lin.specs.Scaled.{coefficient}
use Rattle.hys_guard.specs.Numbers.{constant_by, own_term, opposite_term}
use Rattle.hys_guard.specs.Set.{Splits, Piece, Around, TakenOut, IsSet, negated, signed, join_by, unit_by, JoinedTerms, EachOwn}
use Rattle.hys_lin.specs.Stated.{IsRow}
use Rattle.hys_guard.specs.Stated.{bound_by, copied_by, guarded_by, turned_by, apart_by, term_value}
use Rattle.hys_guard.specs.declared.terms.Side.{Side}
use Rattle.hys_guard.specs.declared.terms.Side.TheVariants.{Upper, Lower}

-- ---- a property of each column
pub each_left : (P : ℕ → Type 0) (xs ys : List Term) → EachColumn P (xs ++ ys) → EachColumn P xs
each_left P [] ys h = tt
each_left P (t ∷ ts) ys h = (h.0, each_left P ts ys h.1)

pub each_right : (P : ℕ → Type 0) (xs ys : List Term) → EachColumn P (xs ++ ys) → EachColumn P ys
each_right P [] ys h = h
each_right P (t ∷ ts) ys h = each_right P ts ys h.1

-- ---- sorted terms
pub terms_left : (xs ys : List Term) → AreTerms (xs ++ ys) → AreTerms xs
terms_left [] ys h = tt
terms_left (t ∷ ts) ys h = (h.0, each_left (λ c. t.column < c) ts ys h.1, terms_left ts ys h.2)

pub terms_right : (xs ys : List Term) → AreTerms (xs ++ ys) → AreTerms ys
terms_right [] ys h = h
terms_right (t ∷ ts) ys h = terms_right ts ys h.2

pub after_from : (c i : ℕ) (xs : List Term) (t : Term) → AreTerms xs → i < length xs → t ≡ get_or xs i t → c ≤ t.column → EachColumn (λ d. c ≤ d) (drop i xs)
after_from c i [] t h l e m = absurd (omega arith)
after_from c zero (x ∷ xs) t h l e m =
    let q : c ≤ x.column = subst (λ (y : Term). c ≤ y.column) e m in
    (q, each_more (λ d. x.column < d) (λ d. c ≤ d) xs (λ d p. omega arith) h.1)
after_from c (suc i) (x ∷ xs) t h l e m = after_from c i xs t h.2 (omega arith) e m

-- ---- the place
pub each_taken : (P : ℕ → Type 0) (i : ℕ) (xs : List Term) (t : Term) → i < length xs → t ≡ get_or xs i t → P t.column → EachColumn P (take i xs) → EachColumn P (take (i + 1) xs)
each_taken P i xs t l e m h = rw (take_more xs i t l, ← e) (each-append P (take i xs) (t ∷ []) h (m, tt))

pub splits_at : (c i : ℕ) (xs : List Term) (t : Term) → AreTerms xs → i < length xs → t ≡ get_or xs i t → c ≤ t.column → EachColumn (λ d. d < c) (take i xs) → Splits c i xs
splits_at c i xs t h l e m b = record { within = omega arith; before = b; after = after_from c i xs t h l e m }

pub none_left : (n : ℕ) (xs : List Term) → length xs ≤ n → drop n xs ≡ []
none_left zero [] h = refl
none_left (suc n) [] h = refl
none_left zero (x ∷ xs) h = absurd (omega arith)
none_left (suc n) (x ∷ xs) h = none_left n xs (omega arith)

-- ---- the factor at a column
eqb_off : (d c : ℕ) → ¬ (d ≡ c) → eqb d c ≡ false
eqb_off d c h = grind (arith, tests)

eqb_on : (d c : ℕ) → d ≡ c → eqb d c ≡ true
eqb_on d c h = grind (arith, tests)

pub factor_absent : (c : ℕ) (xs : List Term) → EachColumn (λ d. ¬ (d ≡ c)) xs → coefficient xs c ≡ whole 0
factor_absent c [] h = refl
factor_absent c (t ∷ ts) h = rw (eqb_off t.column c h.0) (factor_absent c ts h.1)

pub factor-behind : (c : ℕ) (xs ys : List Term) → EachColumn (λ d. ¬ (d ≡ c)) xs → coefficient (xs ++ ys) c ≡ coefficient ys c
factor-behind c [] ys h = refl
factor-behind c (t ∷ ts) ys h = rw (eqb_off t.column c h.0) (factor-behind c ts ys h.1)

factor_first : (c : ℕ) (t : Term) (ts : List Term) → t.column ≡ c → coefficient (t ∷ ts) c ≡ t.factor
factor_first c t ts e = rw (eqb_on t.column c e) refl

below_not : (c : ℕ) (xs : List Term) → EachColumn (λ d. d < c) xs → EachColumn (λ d. ¬ (d ≡ c)) xs
below_not c xs h = each_more (λ d. d < c) (λ d. ¬ (d ≡ c)) xs (λ d p e. omega arith) h

above_not : (c : ℕ) (xs : List Term) → EachColumn (λ d. c < d) xs → EachColumn (λ d. ¬ (d ≡ c)) xs
above_not c xs h = each_more (λ d. c < d) (λ d. ¬ (d ≡ c)) xs (λ d p e. omega arith) h

-- the factor at the column of terms in three parts
factor_around : (c : ℕ) (a : Number) (before after ts : List Term) → Around c a before after ts → coefficient ts c ≡ a
factor_around c a before after ts h = rw (h.whole_is) (factor-behind c before (h.here ++ after) (below_not c before h.below) ∙ piece h.here h.piece)
  where
    piece : (here : List Term) → Piece c a here → coefficient (here ++ after) c ≡ a
    piece here (inl p) = rw (p.1) (factor_absent c after (above_not c after h.above) ∙ sym p.0)
    piece here (inr p) = rw (p.1) (factor_first c (record { column = c; factor = a }) after refl)

-- ---- taking a term out and putting one in
split_at : (p : ℕ) (xs : List Term) (t : Term) → p < length xs → t ≡ get_or xs p t → xs ≡ take p xs ++ (t ∷ drop (suc p) xs)
split_at p [] t l e = absurd (omega arith)
split_at zero (x ∷ xs) t l e = rw e refl
split_at (suc p) (x ∷ xs) t l e = ap (λ ys. x ∷ ys) (split_at p xs t (omega arith) e)

take_length : (p : ℕ) (xs : List Term) → p ≤ length xs → length (take p xs) ≡ p
take_length zero xs l = refl
take_length (suc p) [] l = absurd (omega arith)
take_length (suc p) (x ∷ xs) l = ap suc (take_length p xs (omega arith))

pub found_out : (c p : ℕ) (xs new : List Term) (t : Term) → AreTerms xs → Splits c p xs → p < length xs → t ≡ get_or xs p t → t.column ≡ c →
    new ≡ take p xs ++ drop (suc p) xs → TakenOut c p (coefficient xs c) xs new
found_out c p xs new t h s l e m i = record { before = take p xs; after = drop (suc p) xs; was = around; is = i; place = take_length p xs s.within }
  where
    parts : xs ≡ take p xs ++ (t ∷ drop (suc p) xs)
    parts = split_at p xs t l e

    rest : AreTerms (t ∷ drop (suc p) xs)
    rest = terms_right (take p xs) (t ∷ drop (suc p) xs) (subst AreTerms parts h)

    behind : EachColumn (λ d. c < d) (drop (suc p) xs)
    behind = subst (λ (y : ℕ). EachColumn (λ d. y < d) (drop (suc p) xs)) m rest.1

    own : Around c t.factor (take p xs) (drop (suc p) xs) xs
    own = record { here = t ∷ []; piece = inr (rest.0, ap (λ (y : ℕ). record { column = y; factor = t.factor } ∷ []) m); whole_is = parts; below = s.before; above = behind }

    around : Around c (coefficient xs c) (take p xs) (drop (suc p) xs) xs
    around = rw (factor_around c t.factor (take p xs) (drop (suc p) xs) xs own) own

pub none_out : (c p : ℕ) (xs : List Term) → Splits c p xs → EachColumn (λ d. c < d) (drop p xs) → TakenOut c p (coefficient xs c) xs xs
none_out c p xs s m = record { before = take p xs; after = drop p xs; was = around; is = sym (take-append-drop p xs); place = take_length p xs s.within }
  where
    own : Around c (whole 0) (take p xs) (drop p xs) xs
    own = record { here = []; piece = inl (refl, refl); whole_is = sym (take-append-drop p xs); below = s.before; above = m }

    around : Around c (coefficient xs c) (take p xs) (drop p xs) xs
    around = rw (factor_around c (whole 0) (take p xs) (drop p xs) xs own) own

pub past_out : (c p : ℕ) (xs : List Term) → Splits c p xs → length xs ≤ p → TakenOut c p (coefficient xs c) xs xs
past_out c p xs s l = none_out c p xs s (rw (none_left p xs l) tt)

pub other_out : (c p : ℕ) (xs : List Term) (t : Term) → AreTerms xs → Splits c p xs → p < length xs → t ≡ get_or xs p t → ¬ (t.column ≡ c) → TakenOut c p (coefficient xs c) xs xs
other_out c p xs t h s l e n = none_out c p xs s (rw (dropped p xs t l e) (above, each_more (λ d. t.column < d) (λ d. c < d) (drop (suc p) xs) (λ d q. let a : c < t.column = above in omega arith) rest.1))
  where
    dropped : (i : ℕ) (ys : List Term) (u : Term) → i < length ys → u ≡ get_or ys i u → drop i ys ≡ u ∷ drop (suc i) ys
    dropped i [] u l e = absurd (omega arith)
    dropped zero (y ∷ ys) u l e = ap (λ (z : Term). z ∷ ys) (sym e)
    dropped (suc i) (y ∷ ys) u l e = dropped i ys u (omega arith) e

    rest : AreTerms (t ∷ drop (suc p) xs)
    rest = terms_right (take p xs) (t ∷ drop (suc p) xs) (subst AreTerms (split_at p xs t l e) h)

    at_least : c ≤ t.column
    at_least = let q : EachColumn (λ d. c ≤ d) (t ∷ drop (suc p) xs) = rw (dropped p xs t l e) at s.after in q.0

    above : c < t.column
    above = let m : c ≤ t.column = at_least in omega arith

pub put_in : (c p : ℕ) (b a : Number) (xs mid new : List Term) → TakenOut c p b xs mid → ¬ (a ≡ whole 0) → new ≡ take p mid ++ (record { column = c; factor = a } ∷ drop p mid) → IsSet c b a xs new
put_in c p b a xs mid new h n e = record { before = h.before; after = h.after; was = h.was; is = record { here = record { column = c; factor = a } ∷ []; piece = inr (n, refl); whole_is = new_is; below = h.was.below; above = h.was.above } }
  where
    new_is : new ≡ h.before ++ (record { column = c; factor = a } ∷ h.after)
    new_is = rw (e, h.is, take_at h.before h.after p h.place, drop_at h.before h.after p h.place) refl

pub left_out : (c p : ℕ) (b a : Number) (xs mid : List Term) → TakenOut c p b xs mid → a ≡ whole 0 → IsSet c b a xs mid
left_out c p b a xs mid h z = record { before = h.before; after = h.after; was = h.was; is = record { here = []; piece = inl (z, refl); whole_is = h.is; below = h.was.below; above = h.was.above } }

-- ---- negated terms
pub negated-append : (xs ys : List Term) → negated (xs ++ ys) ≡ negated xs ++ negated ys
negated-append [] ys = refl
negated-append (t ∷ ts) ys = ap (λ zs. record { column = t.column; factor = neg t.factor } ∷ zs) (negated-append ts ys)

pub negated_more : (i : ℕ) (xs done : List Term) (t : Term) → i < length xs → t ≡ get_or xs i t → done ≡ negated (take i xs) → done ++ (record { column = t.column; factor = neg t.factor } ∷ []) ≡ negated (take (i + 1) xs)
negated_more i xs done t l e h = rw (take_more xs i t l, ← e, negated-append (take i xs) (t ∷ []), h) refl

-- ---- what setting a factor keeps and changes
piece_sum : (c : ℕ) (a : Number) (here : List Term) (w : Assignment) → Piece c a here → sum_of here w ≡ a *ₙ w c
piece_sum c a here w (inl p) = rw (p.1, p.0) (by_ring (w c ∷ []) (k 0) (k 0 ⊗ v 0) refl)
piece_sum c a here w (inr p) = rw (p.1) (add_zero (a *ₙ w c))

around_sum : (c : ℕ) (a : Number) (before after ts : List Term) (w : Assignment) → Around c a before after ts → sum_of ts w ≡ sum_of before w +ₙ (a *ₙ w c +ₙ sum_of after w)
around_sum c a before after ts w h = rw (h.whole_is, sum-append before (h.here ++ after) w, sum-append h.here after w, piece_sum c a h.here w h.piece) refl

pub set_sum : (c : ℕ) (b a : Number) (old new : List Term) (w : Assignment) → IsSet c b a old new → sum_of new w ≡ sum_of old w +ₙ (a -ₙ b) *ₙ w c
set_sum c b a old new w h = around_sum c a h.before h.after new w h.is
    ∙ by_ring (sum_of h.before w ∷ sum_of h.after w ∷ a ∷ b ∷ w c ∷ []) (v 0 ⊕ (v 2 ⊗ v 4 ⊕ v 1)) (v 0 ⊕ (v 3 ⊗ v 4 ⊕ v 1) ⊕ (v 2 ⊖ v 3) ⊗ v 4) refl
    ∙ ap (λ s. s +ₙ (a -ₙ b) *ₙ w c) (sym (around_sum c b h.before h.after old w h.was))

piece_each : (P : ℕ → Type 0) (c : ℕ) (a : Number) (here : List Term) → P c → Piece c a here → EachColumn P here
piece_each P c a here h (inl p) = rw (p.1) tt
piece_each P c a here h (inr p) = rw (p.1) (h, tt)

pub set_each : (P : ℕ → Type 0) (c : ℕ) (b a : Number) (old new : List Term) → IsSet c b a old new → P c → EachColumn P old → EachColumn P new
set_each P c b a old new h p e =
    let o : EachColumn P (h.before ++ (h.was.here ++ h.after)) = subst (EachColumn P) h.was.whole_is e in
    rw (h.is.whole_is) (each-append P h.before (h.is.here ++ h.after) (each_left P h.before (h.was.here ++ h.after) o)
    (each-append P h.is.here h.after (piece_each P c a h.is.here p h.is.piece) (each_right P h.was.here h.after (each_right P h.before (h.was.here ++ h.after) o))))

piece_terms : (c : ℕ) (a : Number) (here : List Term) → Piece c a here → AreTerms here
piece_terms c a here (inl p) = rw (p.1) tt
piece_terms c a here (inr p) = rw (p.1) (p.0, tt, tt)

pub set_terms : (c : ℕ) (b a : Number) (old new : List Term) → IsSet c b a old new → AreTerms old → AreTerms new
set_terms c b a old new h e =
    let o : AreTerms (h.before ++ (h.was.here ++ h.after)) = subst AreTerms h.was.whole_is e in
    let behind : AreTerms h.after = terms_right h.was.here h.after (terms_right h.before (h.was.here ++ h.after) o) in
    let here : EachColumn (λ d. c ≤ d) h.is.here = piece_each (λ d. c ≤ d) c a h.is.here (omega arith) h.is.piece in
    let low : EachColumn (λ d. d < c + 1) h.is.here = piece_each (λ d. d < c + 1) c a h.is.here (omega arith) h.is.piece in
    let above : EachColumn (λ d. c + 1 ≤ d) h.after = each_more (λ d. c < d) (λ d. c + 1 ≤ d) h.after (λ d q. omega arith) h.is.above in
    let from : EachColumn (λ d. c ≤ d) h.after = each_more (λ d. c < d) (λ d. c ≤ d) h.after (λ d q. omega arith) h.is.above in
    rw (h.is.whole_is) (terms-append c h.before (h.is.here ++ h.after) (terms_left h.before (h.was.here ++ h.after) o)
    (terms-append (c + 1) h.is.here h.after (piece_terms c a h.is.here h.is.piece) behind low above)
    h.is.below (each-append (λ d. c ≤ d) h.is.here h.after here from))

-- ---- signed terms
pub signed_each : (P : ℕ → Type 0) (s : Side) (ts : List Term) → EachColumn P ts → EachColumn P (signed s ts)
signed_each P Upper ts h = go ts h
  where
    go : (us : List Term) → EachColumn P us → EachColumn P (negated us)
    go [] h = tt
    go (t ∷ us) h = (h.0, go us h.1)
signed_each P Lower ts h = h

pub signed_terms : (s : Side) (ts : List Term) → AreTerms ts → AreTerms (signed s ts)
signed_terms Upper ts h = go ts h
  where
    go : (us : List Term) → AreTerms us → AreTerms (negated us)
    go [] h = tt
    go (t ∷ us) h = (λ e. h.0 (neg_is_zero t.factor e), signed_each (λ d. t.column < d) Upper us h.1, go us h.2)
signed_terms Lower ts h = h

pub negated_sum : (ts : List Term) (w : Assignment) → sum_of (signed Upper ts) w ≡ neg (sum_of ts w)
negated_sum [] w = by_ring [] (k 0) (minus (k 0)) refl
negated_sum (t ∷ ts) w = rw (negated_sum ts w) (by_ring (t.factor ∷ w t.column ∷ sum_of ts w ∷ []) (minus (v 0) ⊗ v 1 ⊕ minus (v 2)) (minus (v 0 ⊗ v 1 ⊕ v 2)) refl)

negated_factor : (ts : List Term) (c : ℕ) → coefficient (signed Upper ts) c ≡ neg (coefficient ts c)
negated_factor [] c = by_ring [] (k 0) (minus (k 0)) refl
negated_factor (t ∷ ts) c = go (eqb t.column c) (negated_factor ts c)
  where
    go : (b : Bool) → coefficient (negated ts) c ≡ neg (coefficient ts c) → cond b (neg t.factor) (coefficient (negated ts) c) ≡ neg (cond b t.factor (coefficient ts c))
    go true h = refl
    go false h = h

-- ---- a form's terms with the literal's times the big factor, and the column itself
pub joined_each : (P : ℕ → Type 0) (s : Side) (a : Number) (t : Option Term) (g new : List Term) → JoinedTerms s a t g new → EachOwn P t → EachColumn P g → EachColumn P new
joined_each P s a None g new h o e = rw h (signed_each P s g e)
joined_each P s a (Some t) g new h o e = set_each P t.column _ _ (signed s g) new h o (signed_each P s g e)

pub joined_terms : (s : Side) (a : Number) (t : Option Term) (g new : List Term) → JoinedTerms s a t g new → AreTerms g → AreTerms new
joined_terms s a None g new h e = rw h (signed_terms s g e)
joined_terms s a (Some t) g new h e = set_terms t.column _ _ (signed s g) new h (signed_terms s g e)

signed_sum : (s : Side) (g : List Term) (w : Assignment) (z : Number) → sum_of (signed s g) w +ₙ unit_by s *ₙ z ≡ apart_by s z (sum_of g w)
signed_sum Upper g w z = rw (negated_sum g w) (by_ring (sum_of g w ∷ z ∷ []) (minus (v 0) ⊕ k 1 ⊗ v 1) (v 1 ⊖ v 0) refl)
signed_sum Lower g w z = by_ring (sum_of g w ∷ z ∷ []) (v 0 ⊕ minus (k 1) ⊗ v 1) (v 0 ⊖ v 1) refl

shared : (s : Side) (p : Number) (g : List Term) (c : ℕ) → join_by s p (coefficient g c) -ₙ coefficient (signed s g) c ≡ p
shared Upper p g c = rw (negated_factor g c) (by_ring (p ∷ coefficient g c ∷ []) (v 0 ⊖ v 1 ⊖ minus (v 1)) (v 0) refl)
shared Lower p g c = by_ring (p ∷ coefficient g c ∷ []) (v 0 ⊕ v 1 ⊖ v 1) (v 0) refl

joined_sum : (s : Side) (a : Number) (t : Option Term) (g new : List Term) (w : Assignment) → JoinedTerms s a t g new → sum_of new w ≡ sum_of (signed s g) w +ₙ a *ₙ term_value t w
joined_sum s a None g new w h = rw h (by_ring (sum_of (signed s g) w ∷ a ∷ []) (v 0) (v 0 ⊕ v 1 ⊗ k 0) refl)
joined_sum s a (Some t) g new w h = set_sum t.column _ _ (signed s g) new w h
    ∙ ap (λ x. sum_of (signed s g) w +ₙ x *ₙ w t.column) (shared s (a *ₙ t.factor) g t.column)
    ∙ by_ring (sum_of (signed s g) w ∷ a ∷ t.factor ∷ w t.column ∷ []) (v 0 ⊕ v 1 ⊗ v 2 ⊗ v 3) (v 0 ⊕ v 1 ⊗ (v 2 ⊗ v 3)) refl

-- a new column's factor in terms that don't name it
pub new_sum : (c : ℕ) (a : Number) (old new : List Term) (w : Assignment) → EachColumn (λ d. ¬ (d ≡ c)) old → IsSet c (coefficient old c) a old new → sum_of new w ≡ sum_of old w +ₙ a *ₙ w c
new_sum c a old new w n h = set_sum c (coefficient old c) a old new w h
    ∙ ap (λ x. sum_of old w +ₙ (a -ₙ x) *ₙ w c) (factor_absent c old n)
    ∙ by_ring (sum_of old w ∷ a ∷ w c ∷ []) (v 0 ⊕ (v 1 ⊖ k 0) ⊗ v 2) (v 0 ⊕ v 1 ⊗ v 2) refl

-- the row that bounds a column by a form and a literal
pub bound_row : (s : Side) (a p : Number) (t : Option Term) (g : Affine) (z : ℕ) (mid : List Term) (r : Row) →
    AreTerms g.terms → EachColumn (λ d. ¬ (d ≡ z)) g.terms → EachOwn (λ d. ¬ (d ≡ z)) t → JoinedTerms s a t g.terms mid → IsSet z (coefficient mid z) (unit_by s) mid r.terms →
    r.bound ≡ constant_by s g.constant -ₙ a *ₙ p → r.eq ≡ false → IsRow r (bound_by s a p t g z)
bound_row s a p t g z mid r h n o j i b q = record {
  terms = set_terms z _ _ mid r.terms i (joined_terms s a t g.terms mid j h);
  sums = λ w. new_sum z (unit_by s) mid r.terms w (joined_each (λ d. ¬ (d ≡ z)) s a t g.terms mid j o n) i
      ∙ ap (λ x. x +ₙ unit_by s *ₙ w z) (joined_sum s a t g.terms mid w j)
      ∙ by_ring (sum_of (signed s g.terms) w ∷ a ∷ term_value t w ∷ unit_by s ∷ w z ∷ []) (v 0 ⊕ v 1 ⊗ v 2 ⊕ v 3 ⊗ v 4) (v 0 ⊕ v 3 ⊗ v 4 ⊕ v 1 ⊗ v 2) refl
      ∙ ap (λ x. x +ₙ a *ₙ term_value t w) (signed_sum s g.terms w (w z));
  bounds = b;
  at_most = q;
}

pub copied_row : (s : Side) (g : Affine) (z : ℕ) (mid : List Term) (r : Row) → AreTerms g.terms → EachColumn (λ d. ¬ (d ≡ z)) g.terms → mid ≡ signed s g.terms →
    IsSet z (coefficient mid z) (unit_by s) mid r.terms → r.bound ≡ constant_by s g.constant → r.eq ≡ false → IsRow r (copied_by s g z)
copied_row s g z mid r h n j i b q = record {
  terms = set_terms z _ _ mid r.terms i (rw j (signed_terms s g.terms h));
  sums = λ w. new_sum z (unit_by s) mid r.terms w (rw j (signed_each (λ d. ¬ (d ≡ z)) s g.terms n)) i ∙ ap (λ (x : List Term). sum_of x w +ₙ unit_by s *ₙ w z) j ∙ signed_sum s g.terms w (w z);
  bounds = b;
  at_most = q;
}

turned_sum : (s : Side) (g : List Term) (w : Assignment) → sum_of (signed s g) w ≡ turned_by s (sum_of g w)
turned_sum Upper g w = negated_sum g w
turned_sum Lower g w = refl

-- the row of signed terms with one more column
pub guarded_row : (s : Side) (g : Affine) (a b : Number) (z : ℕ) (mid : List Term) (r : Row) → AreTerms g.terms → EachColumn (λ d. ¬ (d ≡ z)) g.terms → mid ≡ signed s g.terms →
    IsSet z (coefficient mid z) a mid r.terms → r.bound ≡ b → r.eq ≡ false → IsRow r (guarded_by s g a z b)
guarded_row s g a b z mid r h n j i e q = record {
  terms = set_terms z _ _ mid r.terms i (rw j (signed_terms s g.terms h));
  sums = λ w. new_sum z a mid r.terms w (rw j (signed_each (λ d. ¬ (d ≡ z)) s g.terms n)) i ∙ ap (λ (x : List Term). sum_of x w +ₙ a *ₙ w z) j ∙ ap (λ x. x +ₙ a *ₙ w z) (turned_sum s g.terms w);
  bounds = e;
  at_most = q;
}

-- the columns of a row of signed terms
pub signed_below : (n : ℕ) (s : Side) (g : List Term) (b a : Number) (z : ℕ) (mid new : List Term) → mid ≡ signed s g → IsSet z b a mid new → z < n → EachColumn (λ d. d < n) g → EachColumn (λ d. d < n) new
signed_below n s g b a z mid new j i l h = set_each (λ d. d < n) z b a mid new i l (rw j (signed_each (λ d. d < n) s g h))

pub own_each : (P : ℕ → Type 0) (ts : List Term) → EachColumn P ts → EachOwn P (own_term ts)
own_each P [] h = tt
own_each P (t ∷ ts) h = h.0

-- the own term of 1 less the literal
pub own-negated : (ts : List Term) → own_term (negated ts) ≡ opposite_term (own_term ts)
own-negated [] = refl
own-negated (t ∷ ts) = refl
