-- The example keeps what every program keeps.
use Rattle.std.proofs.Common.{◌≡◌, ℕ, zero, suc, ◌<◌, List, [], ◌∷◌, length, codes, true, nat_lt, refl, ap, arith, slice_index_or, inl}
use Rattle.std.specs.List.{list_all}
use Rattle.std.proofs.lemmas.List.Sums.{AllPass-from_list_all}
use Rattle.std.proofs.lemmas.List.Elements.{All-cons, All-nil}
use Rattle.hys_number.specs.Gcd.{gcd}
use Rattle.hys_number.specs.Number.{Number, make}
use Rattle.hys_number.specs.Ops.{whole, ◌≤ₙ◌}
use Rattle.hys_number.proofs.Laws.{whole-ratio}
use Rattle.hys_number.proofs.Field.{ratios}
use Rattle.hys_lex.specs.Bytes.{is_name_byte}
use Rattle.hys_lex.specs.Words.{keywords, IsAt}
use Rattle.hys_prog.specs.Programs.{IsProgram, IsWord, IsNameText, KeepsRole, NameAt, definitions, is_defined}
use Rattle.hys_prog.specs.Example.{example, start}
use Rattle.hys_ast.specs.declared.source.Kind.TheVariants.{Real}
use Rattle.hys_prog.specs.declared.program.Role.TheVariants.{State}
use Rattle.hys_prog.specs.declared.program.Name.{Name}

pub one_is_not_zero : ¬ (whole 1 ≡ whole 0)
unfolding whole make gcd
one_is_not_zero e = let f = ap (λ (x : Number). x.num) e in absurd (cc)

long : list_all (λ w. nat_lt 1 (length w)) keywords ≡ true
unfolding keywords
long = refl

-- no word of one byte is a keyword
pub no_keyword : (b k : ℕ) → IsAt keywords k (b ∷ []) → ⊥
no_keyword b k h =
    let p : nat_lt 1 (length (slice_index_or keywords k [])) ≡ true = AllPass-from_list_all (λ (w : List ℕ). nat_lt 1 (length w)) keywords long k [] h.0 in
    let q = rw h.1 at p in absurd (cc)

pub name_bytes : (b i d : ℕ) → is_name_byte b ≡ true → i < 1 → is_name_byte (slice_index_or (b ∷ []) i d) ≡ true
name_bytes b zero d e h = e
name_bytes b (suc i) d e h = absurd (omega arith)

pub spelled : IsWord (codes "x")
spelled = (((refl, λ i d h. name_bytes 120 i d refl h), no_keyword 120), omega arith)

once : (n : ℕ) → NameAt example.names n (λ x. is_defined x.role ≡ true) → definitions n example.items ≡ 1
once zero h = refl
once (suc n) h = absurd h

abbrev only : Name
only = record { text = codes "x"; role = State; kind = Real; place = start; bounds = record { low = whole 0; high = whole 10 }; value = whole 0 }

above : 0 < 1
above = omega arith

pub zero_ten : whole 0 ≤ₙ whole 10
zero_ten = rw (whole-ratio 0 1 above, whole-ratio 10 1 above) (simp (ratios, above) (omega arith))

pub is_program : IsProgram example
is_program = record {
  bodies = (((one_is_not_zero, tt, tt), (refl, tt)), tt);
  named = ((refl, refl), tt);
  once = once;
  texts = (tt, tt);
  roles = All-cons (λ (x : Name). KeepsRole x.role x) only [] zero_ten (All-nil (λ (x : Name). KeepsRole x.role x));
  spelled = All-cons (λ (x : Name). IsNameText x.text) only [] (inl spelled) (All-nil (λ (x : Name). IsNameText x.text));
  weight = refl;
}
