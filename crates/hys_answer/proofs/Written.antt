-- The text of an answer is put together piece by piece, and stands for the answer.
use Rattle.std.proofs.Common.{◌≡◌, ℕ, ◌≤◌, List, [], ◌∷◌, ◌++◌, Some, IsUtf8, length, codes, append_assoc, sym, ◌∙◌, ap, subst, refl}
use Rattle.std.specs.Fmt.{digits}
use Rattle.serde_json.specs.Data.{Data}
use Rattle.serde_json.specs.Read.{read as read_text}
use Rattle.serde_json.specs.Written.{compact_text}
use Rattle.json.specs.Print.{escape_byte}
use Rattle.hys_file.proofs.Blank.{read_more}
use Rattle.hys_tree.specs.declared.answer.Answer.{Answer}
use Rattle.hys_tree.specs.declared.answer.Claim.{Claim}
use Rattle.hys_tree.specs.declared.tree.TreePlace.{TreePlace}
use Rattle.hys_json.proofs.Plain.{reads_back}
use Rattle.hys_answer.specs.Shown.{claim_data, places_data, answer_data, answer_text}
use Rattle.hys_answer.specs.Fitting.{AnswerFits}
use Rattle.hys_answer.specs.Reading.{most_places}
use Rattle.hys_answer.specs.Texts.{ReadsAs, StandsFor}
use Rattle.hys_answer.proofs.Claimed.{stands_for}
use Rattle.hys_answer.proofs.Depths.{shallow}
use Rattle.hys_answer.proofs.Plain.{plain}

-- a line feed behind the pieces
ended : (c t : List ℕ) →
    codes "{\"claim\":" ++ (c ++ (codes ",\"format\":\"hysdel-answer\",\"tree\":" ++ (t ++ codes ",\"version\":1}\n")))
    ≡ (codes "{\"claim\":" ++ (c ++ (codes ",\"format\":\"hysdel-answer\",\"tree\":" ++ (t ++ codes ",\"version\":1}")))) ++ 10 ∷ []
ended c t = simp append_assoc refl

-- the pieces of the text
pieces : (c : Claim) (ts : List TreePlace) →
    codes "{\"claim\":" ++ (compact_text (claim_data c) ++ (codes ",\"format\":\"hysdel-answer\",\"tree\":" ++ (compact_text (places_data ts) ++ codes ",\"version\":1}")))
    ≡ compact_text (answer_data c ts)
unfolding escape_byte digits
pieces c ts = refl

-- pieces that are put behind one another
one_text : (t0 t1 t2 t3 t4 t5 a b c d e : List ℕ) → t0 ≡ [] → t1 ≡ t0 ++ a → t2 ≡ t1 ++ b → t3 ≡ t2 ++ c → t4 ≡ t3 ++ d → t5 ≡ t4 ++ e →
    t5 ≡ a ++ (b ++ (c ++ (d ++ e)))
one_text t0 t1 t2 t3 t4 t5 a b c d e e0 e1 e2 e3 e4 e5 = rw e5 (rw e4 (rw e3 (rw e2 (rw e1 (rw e0 (simp append_assoc refl))))))

pub joined : (c : Claim) (ts : List TreePlace) (t0 t1 t2 t3 t4 t5 : List ℕ) → t0 ≡ [] → t1 ≡ t0 ++ codes "{\"claim\":" → t2 ≡ t1 ++ compact_text (claim_data c) →
    t3 ≡ t2 ++ codes ",\"format\":\"hysdel-answer\",\"tree\":" → t4 ≡ t3 ++ compact_text (places_data ts) → t5 ≡ t4 ++ codes ",\"version\":1}\n" → t5 ≡ answer_text c ts
unfolding answer_text
joined c ts t0 t1 t2 t3 t4 t5 e0 e1 e2 e3 e4 e5 =
    one_text t0 t1 t2 t3 t4 t5 _ (compact_text (claim_data c)) _ (compact_text (places_data ts)) _ e0 e1 e2 e3 e4 e5
    ∙ ended (compact_text (claim_data c)) (compact_text (places_data ts))
    ∙ ap (λ t. t ++ 10 ∷ []) (pieces c ts)

-- the text, where the numbers of the answer fit
pub reads_as : (a : Answer) (bytes : List ℕ) → AnswerFits a.claim a.tree.places → IsUtf8 bytes → bytes ≡ answer_text a.claim a.tree.places → ReadsAs bytes a
unfolding answer_text
reads_as a bytes f u b rising few short =
    let d : Data = answer_data a.claim a.tree.places in
    let stands : StandsFor d a = stands_for a d refl f in
    let read : read_text (compact_text d) ≡ Some d = reads_back d (plain a.claim a.tree.places f) (shallow a.claim a.tree.places) in
    record {
      read = d;
      value = record { few = short; utf8 = u; read = ap read_text b ∙ read_more (compact_text d) ∙ read };
      right = (stands rising).0;
      within = subst (λ (x : Answer). length x.tree.places ≤ most_places) (sym (stands rising).1) few;
      answer = sym (stands rising).1;
    }
