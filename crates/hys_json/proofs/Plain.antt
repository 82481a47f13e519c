-- The text of a plain value reads as the value again.
use Rattle.std.proofs.Common.{◌≡◌, ℕ, suc, ◌≤◌, max, [], Some, option_map, option_and_then, refl, sym, ap, ap₂, ◌∙◌, append-nil, subst}
use Rattle.json.specs.Lex.{tokens}
use Rattle.json.specs.Json as json
use Rattle.json.specs.Print.{IsNumber}
use Rattle.json.specs.Tree.{json_tokens, HasNumbers, ItemsHaveNumbers, MembersHaveNumbers}
use Rattle.json.specs.Tree as tree
use Rattle.json.proofs.Printed.Tokens.{tokens-print}
use Rattle.json.proofs.Printed.Trees.{value-json_tokens, ArePrintable-json_tokens}
use Rattle.json.proofs.Printed.Decimals.{IsNumber-decimal}
use Rattle.serde_json.specs.Data.{Num, unsigned, negative, float, Data, null, boolean, number, string, array, object, Items, no_items, item, Members, no_members, member, put, depth, items_depth, members_depth}
use Rattle.serde_json.specs.Read.{read, number_of, of_json, of_items, of_members, max_depth}
use Rattle.serde_json.specs.Written.{outline, items_outline, members_outline, number_text, compact_text}
use Rattle.serde_json.proofs.Numbers.{number_of-decimal}
use Rattle.serde_json.proofs.Texts.{print-outline}
use Rattle.hys_json.specs.Plain.{placed, IsShort, IsPlain, ArePlain, MembersArePlain}

-- ---- its outline reads as the value
number_again : (n : Num) → IsShort n → number_of (number_text n) ≡ Some n
number_again (unsigned n) h = number_of-decimal n h
number_again (negative z) h = elim h [ ]
number_again (float x) h = elim h [ ]

mutual
  again : (d : Data) → IsPlain d → of_json (outline d) ≡ Some d
  again null h = refl
  again (boolean b) h = refl
  again (number n) h = ap (option_map number) (number_again n h)
  again (string s) h = refl
  again (array ds) h = ap (option_map array) (items_again ds h)
  again (object ms) h = ap (option_map object) (members_again ms no_members h.0 ∙ ap Some h.1)

  items_again : (ds : Items) → ArePlain ds → of_items (items_outline ds) ≡ Some ds
  items_again no_items h = refl
  items_again (item d ds) h =
      ap (option_and_then (λ e. option_map (item e) (of_items (items_outline ds)))) (again d h.0)
      ∙ ap (option_map (item d)) (items_again ds h.1)

  members_again : (ms found : Members) → MembersArePlain ms → of_members (members_outline ms) found ≡ Some (placed ms found)
  members_again no_members found h = refl
  members_again (member k d ms) found h =
      ap (option_and_then (λ e. of_members (members_outline ms) (put k e found))) (again d h.0)
      ∙ members_again ms (put k d found) h.1

-- ---- its numbers are those of JSON
number_is : (n : Num) → IsShort n → IsNumber (number_text n)
number_is (unsigned n) h = IsNumber-decimal n h
number_is (negative z) h = elim h [ ]
number_is (float x) h = elim h [ ]

mutual
  numbers : (d : Data) → IsPlain d → HasNumbers (outline d)
  numbers null h = tt
  numbers (boolean b) h = tt
  numbers (number n) h = number_is n h
  numbers (string s) h = tt
  numbers (array ds) h = items_numbers ds h
  numbers (object ms) h = members_numbers ms h.0

  items_numbers : (ds : Items) → ArePlain ds → ItemsHaveNumbers (items_outline ds)
  items_numbers no_items h = tt
  items_numbers (item d ds) h = (numbers d h.0, items_numbers ds h.1)

  members_numbers : (ms : Members) → MembersArePlain ms → MembersHaveNumbers (members_outline ms)
  members_numbers no_members h = tt
  members_numbers (member k d ms) h = (numbers d h.0, members_numbers ms h.1)

-- ---- its outline is as deep
mutual
  as_deep : (d : Data) → tree.depth (outline d) ≡ depth d
  as_deep null = refl
  as_deep (boolean b) = refl
  as_deep (number n) = refl
  as_deep (string s) = refl
  as_deep (array ds) = ap suc (items_as_deep ds)
  as_deep (object ms) = ap suc (members_as_deep ms)

  items_as_deep : (ds : Items) → tree.items_depth (items_outline ds) ≡ items_depth ds
  items_as_deep no_items = refl
  items_as_deep (item d ds) = ap₂ max (as_deep d) (items_as_deep ds)

  members_as_deep : (ms : Members) → tree.members_depth (members_outline ms) ≡ members_depth ms
  members_as_deep no_members = refl
  members_as_deep (member k d ms) = ap₂ max (as_deep d) (members_as_deep ms)

-- ---- the text
same_tokens : (d : Data) → IsPlain d → tokens (compact_text d) ≡ json_tokens (outline d)
same_tokens d h =
    ap tokens (sym (print-outline d))
    ∙ tokens-print (json_tokens (outline d)) (ArePrintable-json_tokens (outline d) (numbers d h))

pub reads_back : (d : Data) → IsPlain d → depth d ≤ max_depth → read (compact_text d) ≡ Some d
reads_back d h shallow =
    let j : json.Json = outline d in
    let deep : tree.depth j ≤ max_depth = subst (λ (n : ℕ). n ≤ max_depth) (sym (as_deep d)) shallow in
    ap (λ o. option_and_then of_json (option_and_then (λ p. json.if_last p.0 p.1) o))
    (ap (json.value max_depth) (same_tokens d h ∙ sym (append-nil (json_tokens j))) ∙ value-json_tokens j max_depth [] deep)
    ∙ again d h
