-- A text that was written stands for its system.
use Rattle.std.proofs.Common.{◌≡◌, ℕ, List, [], ◌∷◌, ◌++◌, map, codes, None, IsUtf8, sym, ◌∙◌, ap, ap₂, subst, refl, append_assoc}
use Rattle.std.specs.Fmt.{digits}
use Rattle.json.specs.Print.{escape_byte}
use Rattle.serde_json.specs.Data.{Data, array, string, number, unsigned}
use Rattle.serde_json.specs.View.{items_of}
use Rattle.serde_json.specs.Read.{read as read_text}
use Rattle.serde_json.specs.Written.{compact_text}
use Rattle.hys_json.proofs.Plain.{reads_back}
use Rattle.hys_lin.specs.declared.form.Affine.{Affine}
use Rattle.hys_lin.specs.declared.form.Row.{Row}
use Rattle.hys_sys.specs.declared.system.Column.{Column}
use Rattle.hys_sys.specs.declared.system.Output.{Output}
use Rattle.hys_sys.specs.declared.system.System.{System}
use Rattle.hys_file.specs.Matrix.{column_data, next_data, output_data, rows_data, matrix_data, matrix_text}
use Rattle.hys_file.specs.Fitting.{NumbersFit}
use Rattle.hys_file.specs.Reading.{limit_of}
use Rattle.hys_file.specs.Texts.{ReadsAs}
use Rattle.hys_file.proofs.Blank.{read_more}
use Rattle.hys_file.proofs.Depths.{shallow}
use Rattle.hys_file.proofs.Plain.{plain}
use Rattle.hys_file.proofs.Again.{value_passes, same_system, no_limit}

joined : (t0 t1 t2 t3 t4 t5 t6 t7 t8 t9 t10 t11 t12 t13 a b c d e f g columns next outputs rows name weight : List ℕ) →
    t0 ≡ [] → t1 ≡ t0 ++ a → t2 ≡ t1 ++ columns → t3 ≡ t2 ++ b → t4 ≡ t3 ++ next → t5 ≡ t4 ++ c → t6 ≡ t5 ++ outputs → t7 ≡ t6 ++ d → t8 ≡ t7 ++ rows →
    t9 ≡ t8 ++ e → t10 ≡ t9 ++ name → t11 ≡ t10 ++ f → t12 ≡ t11 ++ weight → t13 ≡ t12 ++ (g ++ 10 ∷ []) →
    t13 ≡ (a ++ (columns ++ (b ++ (next ++ (c ++ (outputs ++ (d ++ (rows ++ (e ++ (name ++ (f ++ (weight ++ g)))))))))))) ++ 10 ∷ []
joined t0 t1 t2 t3 t4 t5 t6 t7 t8 t9 t10 t11 t12 t13 a b c d e f g columns next outputs rows name weight e0 e1 e2 e3 e4 e5 e6 e7 e8 e9 e10 e11 e12 e13 =
    rw e13 (rw e12 (rw e11 (rw e10 (rw e9 (rw e8 (rw e7 (rw e6 (rw e5 (rw e4 (rw e3 (rw e2 (rw e1 (rw e0 (simp append_assoc refl))))))))))))))

-- the pieces of a text, one behind the other
pub put_together : (s : System) (t0 t1 t2 t3 t4 t5 t6 t7 t8 t9 t10 t11 t12 t13 : List ℕ)
    (cs : List Column) (fs : List Affine) (os : List Output) (ls : List (List ℕ)) (rs : List Row) (name weight : Data) →
    cs ≡ s.columns → fs ≡ s.next → os ≡ s.outputs → ls ≡ s.labels → rs ≡ s.rows → name ≡ string s.name → weight ≡ number (unsigned s.weight) →
    t0 ≡ [] → t1 ≡ t0 ++ codes "{\"columns\":" → t2 ≡ t1 ++ compact_text (array (items_of (map column_data cs))) →
    t3 ≡ t2 ++ codes ",\"format\":\"hysdel-mld\",\"next\":" → t4 ≡ t3 ++ compact_text (array (items_of (map next_data fs))) →
    t5 ≡ t4 ++ codes ",\"outputs\":" → t6 ≡ t5 ++ compact_text (array (items_of (map output_data os))) →
    t7 ≡ t6 ++ codes ",\"rows\":" → t8 ≡ t7 ++ compact_text (array (items_of (rows_data ls rs))) →
    t9 ≡ t8 ++ codes ",\"system\":" → t10 ≡ t9 ++ compact_text name → t11 ≡ t10 ++ codes ",\"version\":2,\"weight\":" →
    t12 ≡ t11 ++ compact_text weight → t13 ≡ t12 ++ codes "}\n" → t13 ≡ matrix_text s
unfolding matrix_text escape_byte digits
put_together s t0 t1 t2 t3 t4 t5 t6 t7 t8 t9 t10 t11 t12 t13 cs fs os ls rs name weight columns next outputs labels rows named heavy e0 e1 e2 e3 e4 e5 e6 e7 e8 e9 e10 e11 e12 e13 =
    joined t0 t1 t2 t3 t4 t5 t6 t7 t8 t9 t10 t11 t12 t13
    (codes "{\"columns\":") (codes ",\"format\":\"hysdel-mld\",\"next\":") (codes ",\"outputs\":") (codes ",\"rows\":") (codes ",\"system\":")
    (codes ",\"version\":2,\"weight\":") (codes "}")
    (compact_text (array (items_of (map column_data s.columns)))) (compact_text (array (items_of (map next_data s.next))))
    (compact_text (array (items_of (map output_data s.outputs)))) (compact_text (array (items_of (rows_data s.labels s.rows))))
    (compact_text (string s.name)) (compact_text (number (unsigned s.weight)))
    e0 e1 (e2 ∙ ap (λ (xs : List Column). t1 ++ compact_text (array (items_of (map column_data xs)))) columns)
    e3 (e4 ∙ ap (λ (xs : List Affine). t3 ++ compact_text (array (items_of (map next_data xs)))) next)
    e5 (e6 ∙ ap (λ (xs : List Output). t5 ++ compact_text (array (items_of (map output_data xs)))) outputs)
    e7 (e8 ∙ ap₂ (λ (xs : List (List ℕ)) (ys : List Row). t7 ++ compact_text (array (items_of (rows_data xs ys)))) labels rows)
    e9 (e10 ∙ ap (λ d. t9 ++ compact_text d) named) e11 (e12 ∙ ap (λ d. t11 ++ compact_text d) heavy) e13

-- the line of the text, where the numbers of the system fit
pub reads_as : (s : System) (bytes : List ℕ) → NumbersFit s → IsUtf8 bytes → bytes ≡ matrix_text s → ReadsAs bytes s
unfolding matrix_text
reads_as s bytes fit utf8 b lawful light few = record {
  read = matrix_data s;
  value = record {
    few = few;
    utf8 = utf8;
    read = ap read_text b ∙ read_more (compact_text (matrix_data s)) ∙ reads_back (matrix_data s) (plain s lawful light) (shallow s);
  };
  right = value_passes s lawful fit light;
  within = subst (λ t. limit_of t ≡ None) (sym (same_system s lawful fit light)) (no_limit s lawful fit light);
  system = sym (same_system s lawful fit light);
}
