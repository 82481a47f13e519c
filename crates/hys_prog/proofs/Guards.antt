-- The guard program's stops, by computation.
use Rattle.std.proofs.Common.{◌≡◌, ℕ, zero, suc, ◌<◌, List, [], ◌∷◌, length, codes, false, true, nat_eq, nat_lt, get_or, subst, Some, None, refl, ap, arith, slice_index_or, inl, inr, ◌⊎◌, pos, negsuc}
use Rattle.std.specs.List.{list_all}
use Rattle.std.proofs.lemmas.List.Sums.{AllPass-from_list_all}
use Rattle.std.proofs.lemmas.List.Elements.{All-cons, All-nil}
use Rattle.hys_lex.specs.Bytes.{is_name_byte}
use Rattle.hys_lex.specs.Words.{keywords, IsAt}
use Rattle.hys_prog.specs.declared.program.Name.{Name}
use Rattle.hys_prog.specs.Programs.{IsProgram, IsWord, IsNameText, KeepsRole, NameAt, definitions, is_defined}
use Rattle.hys_prog.specs.Orders.{IsOrder, IsIn, Leads}
use Rattle.hys_number.specs.Gcd.{gcd}
use Rattle.hys_number.specs.Number.{Number, make}
use Rattle.hys_number.specs.Ops.{whole, fits, ◌+ₙ◌, ◌*ₙ◌, neg, ◌≤ₙ◌, ◌<ₙ◌}
use Rattle.hys_frac.specs.Compare.{number_cmp}
use Rattle.hys_lin.specs.Bits.{is_one}
use Rattle.hys_lin.specs.Sums.{at, value}
use Rattle.hys_lin.specs.Operations.{plus}
use Rattle.hys_prog.specs.declared.stop.Stop.TheVariants.{Bounds, Gap, Must, Range}
use Rattle.hys_prog.specs.Stops.{IsValued, first_stop, stops, number_in}
use Rattle.hys_prog.specs.Walk.{exact}
use Rattle.hys_prog.proofs.Valuing.{exact_valued}
use Rattle.hys_prog.specs.Guarded.{x_name, d_name, at_tolerance, both, d_first, demanding, guarded, in_gap, least, minus_least}

pub edge : first_stop (stops guarded d_first (both (whole 5) (whole 1))) ≡ None
unfolding fits whole make gcd ◌+ₙ◌ ◌*ₙ◌ neg number_cmp is_one value
edge = refl

pub edge_value : number_in (both (whole 5) (whole 1)) 1 guarded.items ≡ whole 1
unfolding fits whole make gcd ◌+ₙ◌ ◌*ₙ◌ neg number_cmp is_one value
edge_value = refl

pub gap : first_stop (stops guarded d_first (both in_gap (whole 0))) ≡ Some (Gap 0)
unfolding fits whole make gcd ◌+ₙ◌ ◌*ₙ◌ neg number_cmp is_one value
gap = refl

pub tolerance : first_stop (stops guarded d_first (both at_tolerance (whole 0))) ≡ None
unfolding fits whole make gcd ◌+ₙ◌ ◌*ₙ◌ neg number_cmp is_one value
tolerance = refl

pub tolerance_value : number_in (both at_tolerance (whole 0)) 1 guarded.items ≡ whole 0
unfolding fits whole make gcd ◌+ₙ◌ ◌*ₙ◌ neg number_cmp is_one value
tolerance_value = refl

pub outside : first_stop (stops guarded d_first (both (whole 11) (whole 1))) ≡ Some (Bounds 0)
unfolding fits whole make gcd ◌+ₙ◌ ◌*ₙ◌ neg number_cmp is_one value
outside = refl

pub range : first_stop (stops guarded d_first (both least (whole 0))) ≡ Some (Range 0 (plus (whole 5) minus_least))
unfolding fits whole make gcd ◌+ₙ◌ ◌*ₙ◌ neg number_cmp is_one value
range = refl

pub demand_holds : first_stop (stops demanding d_first (both (whole 5) (whole 1))) ≡ None
unfolding fits whole make gcd ◌+ₙ◌ ◌*ₙ◌ neg number_cmp is_one value
demand_holds = refl

pub demand_gap : first_stop (stops demanding d_first (both in_gap (whole 0))) ≡ Some (Gap 1)
unfolding fits whole make gcd ◌+ₙ◌ ◌*ₙ◌ neg number_cmp is_one value
demand_gap = refl

pub demand_fails : first_stop (stops demanding d_first (both at_tolerance (whole 0))) ≡ Some (Must 0)
unfolding fits whole make gcd ◌+ₙ◌ ◌*ₙ◌ neg number_cmp is_one value
demand_fails = refl

-- ---- the guard program is a lawful program, and it has an order
minus_one : ¬ (make (negsuc 0) 1 ≡ whole 0)
unfolding whole make gcd
minus_one e = let f = ap (λ (x : Number). x.num) e in absurd (cc)

one_not_zero : ¬ (whole 1 ≡ whole 0)
unfolding whole make gcd
one_not_zero e = let f = ap (λ (x : Number). x.num) e in absurd (cc)

tolerance_above : whole 0 <ₙ make (pos 1) 1000
unfolding whole make gcd ◌<ₙ◌
tolerance_above = omega arith

long : list_all (λ w. nat_lt 1 (length w)) keywords ≡ true
unfolding keywords
long = refl

no_keyword : (c : ℕ) (k : ℕ) → IsAt keywords k (c ∷ []) → ⊥
no_keyword c k h =
    let p : nat_lt 1 (length (slice_index_or keywords k [])) ≡ true = AllPass-from_list_all (λ (w : List ℕ). nat_lt 1 (length w)) keywords long k [] h.0 in
    let q = rw h.1 at p in absurd (cc)

x_bytes : (i : ℕ) (d : ℕ) → i < 1 → is_name_byte (slice_index_or (120 ∷ []) i d) ≡ true
x_bytes zero d h = refl
x_bytes (suc i) d h = absurd (omega arith)

d_bytes : (i : ℕ) (d : ℕ) → i < 1 → is_name_byte (slice_index_or (100 ∷ []) i d) ≡ true
d_bytes zero d h = refl
d_bytes (suc i) d h = absurd (omega arith)

x_word : IsWord (codes "x")
x_word = (((refl, x_bytes), no_keyword 120), omega arith)

d_word : IsWord (codes "d")
d_word = (((refl, d_bytes), no_keyword 100), omega arith)

once : (n : ℕ) → NameAt guarded.names n (λ x. is_defined x.role ≡ true) → definitions n guarded.items ≡ 1
once zero h = refl
once (suc zero) h = refl
once (suc (suc n)) h = absurd h

zero_ten : whole 0 ≤ₙ whole 10
unfolding whole make gcd ◌≤ₙ◌
zero_ten = omega arith

different : ¬ (codes "d" ≡ codes "x")
different e = let f : false ≡ true = ap (λ (xs : List ℕ). nat_eq (get_or xs 0 0) 120) e in absurd (cc)

pub is_program : IsProgram guarded
is_program = record {
  bodies = ((((minus_one, tt, tt), (refl, tt)), tolerance_above), (((one_not_zero, tt, tt), (refl, tt)), tt));
  named = ((refl, refl), ((refl, refl), tt));
  once = once;
  texts = ((different, tt), (tt, tt));
  roles = All-cons (λ (x : Name). KeepsRole x.role x) x_name (d_name ∷ []) zero_ten (All-cons (λ (x : Name). KeepsRole x.role x) d_name [] tt (All-nil (λ (x : Name). KeepsRole x.role x)));
  spelled = All-cons (λ (x : Name). IsNameText x.text) x_name (d_name ∷ []) (inl x_word) (All-cons (λ (x : Name). IsNameText x.text) d_name [] (inl d_word) (All-nil (λ (x : Name). IsNameText x.text)));
  weight = refl;
}

no_circle : Leads guarded 1 1 → IsIn 1 []
no_circle (inl h) = go h.1
  where
    go : (◌≡◌ {A = ℕ} 0 1) ⊎ ⊥ → ⊥
    go (inl e) = absurd (cc)
    go (inr e) = e
no_circle (inr (inl h)) = absurd (cc)
no_circle (inr (inr h)) = h

pub is_order : IsOrder guarded d_first
is_order = (inl ((tt, (no_circle, tt)), refl), (inl refl, tt))

found_values : exact guarded d_first (whole 5 ∷ []) [] ≡ whole 5 ∷ whole 1 ∷ []
unfolding fits whole make gcd ◌+ₙ◌ ◌*ₙ◌ neg number_cmp is_one value
found_values = refl

pub valued : IsValued guarded (whole 5 ∷ []) [] (both (whole 5) (whole 1))
valued = subst (λ (vs : List Number). IsValued guarded (whole 5 ∷ []) [] (at vs)) found_values (exact_valued guarded d_first (whole 5 ∷ []) [] is_program is_order refl refl)
