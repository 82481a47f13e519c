-- A buffer whose rest was lent and written.
use Rattle.std.proofs.Common.{◌≡◌, ℕ, ◌+◌, ◌-◌, ◌≤◌, List, ◌++◌, length, take, sym, ◌∙◌, ap, arith, add-zero, append-nil, append_assoc}
use Rattle.std.proofs.Math.Seq.{take-append-add}
use Rattle.std.proofs.lemmas.List.{take-append-le, length-take-le, take-take}

-- the front of what is written back: what was filled, and then the front of what was written
pub take-written_back : (filled count size : ℕ) (bytes into rest tail : List ℕ) → filled ≤ length bytes → length into ≡ length bytes - filled → size ≡ length bytes →
    count ≤ length into → take (filled + count) (take size ((take filled bytes ++ (into ++ rest)) ++ tail)) ≡ take filled bytes ++ take count into
take-written_back filled count size bytes into rest tail within room whole fits =
    let front : length (take filled bytes) ≡ filled = length-take-le filled bytes within in
    take-take (filled + count) size _ (omega arith)
    ∙ ap (take (filled + count)) (append_assoc (take filled bytes) (into ++ rest) tail ∙ ap (λ x. take filled bytes ++ x) (append_assoc into rest tail))
    ∙ ap (λ n. take (n + count) (take filled bytes ++ (into ++ (rest ++ tail)))) (sym front)
    ∙ take-append-add (take filled bytes) (into ++ (rest ++ tail)) count
    ∙ ap (λ x. take filled bytes ++ x) (take-append-le count into (rest ++ tail) fits)

-- what was filled stays
pub take-kept : (filled size : ℕ) (bytes into rest tail : List ℕ) → filled ≤ length bytes → length into ≡ length bytes - filled → size ≡ length bytes →
    take filled (take size ((take filled bytes ++ (into ++ rest)) ++ tail)) ≡ take filled bytes
take-kept filled size bytes into rest tail within room whole =
    ap (λ n. take n (take size ((take filled bytes ++ (into ++ rest)) ++ tail))) (sym (add-zero filled))
    ∙ take-written_back filled 0 size bytes into rest tail within room whole (omega arith) ∙ append-nil (take filled bytes)
