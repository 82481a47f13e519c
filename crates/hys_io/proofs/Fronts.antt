-- What has been read so far is the front of the file, and what has been written so far that of the text.
use Rattle.std.proofs.Common.{◌≡◌, ℕ, ◌+◌, ◌-◌, ◌<◌, ◌≤◌, List, ◌++◌, length, take, drop, Option, None, Some, refl, sym, ◌∙◌, ap, arith, inl, inr, append_assoc}
use Rattle.std.proofs.Math.Seq.{take-add}
use Rattle.std.proofs.lemmas.List.{take_all}
use Rattle.std.specs.FinMap as map
use Rattle.hys_io.specs.Outside.{Named, IfRead, IfHolds, IfAppended}

-- where the file is told, so many of these bytes are its front
abbrev pub Front : Option Named → List ℕ → ℕ → List ℕ → Type 0
Front held name filled bytes = (files : Named) (file : List ℕ) → held ≡ Some files → map.get files name ≡ Some file → take filled bytes ≡ take filled file

pub front_grows : (held now : Option Named) (name bytes more into : List ℕ) (filled count : ℕ) → now ≡ held → Front held name filled bytes →
    take (filled + count) more ≡ take filled bytes ++ take count into → IfRead now name filled count into → Front held name (filled + count) more
front_grows held None name bytes more into filled count same_held front joined read files file e g = cc
front_grows held (Some m) name bytes more into filled count same_held front joined read files file e g =
    let same : read.0 ≡ file = cc in
    joined ∙ ap (λ x. x ++ take count into) (front files file e g)
    ∙ ap (λ y. take filled file ++ y) (read.2.bytes ∙ ap (λ f. take count (drop filled f)) same)
    ∙ sym (take-add filled count file)

pub front_whole : (held now : Option Named) (name bytes into : List ℕ) (filled count : ℕ) → now ≡ held → Front held name filled bytes → 0 < length into →
    count ≡ 0 → IfRead now name filled count into → IfHolds held name (λ file. take filled bytes ≡ file)
front_whole None now name bytes into filled count same_held front some none read = tt
front_whole (Some m) None name bytes into filled count same_held front some none read = cc
front_whole (Some m) (Some n) name bytes into filled count same_held front some none read =
    let there : map.get m name ≡ Some read.0 = cc in (
      read.0,
      there,
      elim (read.2.none.0 none) as (λ _. take filled bytes ≡ read.0) [
        | inl empty ↦ absurd (omega arith)
        | inr all ↦ front m read.0 refl there ∙ take_all filled read.0 (omega arith)
      ],
    )

pub front_long : (held now : Option Named) (name into : List ℕ) (filled limit count : ℕ) → now ≡ held → filled ≤ limit → limit - filled < count →
    IfRead now name filled count into → IfHolds held name (λ file. limit < length file)
front_long None now name into filled limit count same_held fits more read = tt
front_long (Some m) None name into filled limit count same_held fits more read = cc
front_long (Some m) (Some n) name into filled limit count same_held fits more read =
    let there : map.get m name ≡ Some read.0 = cc in
    let within : count ≤ length read.0 - filled = read.2.within in
    (read.0, there, omega arith)

pub appends : (old mid new : Option (List ℕ)) (text : List ℕ) (done count : ℕ) → IfAppended old mid (take done text) →
    IfAppended mid new (take count (drop done text)) → IfAppended old new (take (done + count) text)
appends None mid new text done count first then_ = tt
appends (Some o) None new text done count first then_ = cc
appends (Some o) (Some m) new text done count first then_ =
    let same : m ≡ o ++ take done text = cc in
    then_ ∙ ap (λ x. Some (x ++ take count (drop done text))) same
    ∙ ap Some (append_assoc o (take done text) (take count (drop done text)) ∙ ap (λ x. o ++ x) (sym (take-add done count text)))
