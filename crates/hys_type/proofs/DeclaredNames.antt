-- The names of declarations in a program.
use Rattle.std.proofs.Common.{◌≡◌, List, [], ◌∷◌, ◌++◌, None, Bool, true, false, ◌&&◌, cond, map, refl, ap, ◌∙◌}
use Rattle.hys_number.specs.Ops.{whole}
use Rattle.hys_ast.specs.Tree.{Decl, Item}
use Rattle.hys_meaning.specs.Names.{parameters}
use Rattle.hys_meaning.specs.Steps.{is_given}
use Rattle.hys_meaning.specs.Typed.{differ, is_real}
use Rattle.hys_prog.specs.declared.program.Name.{Name as ProgName}
use Rattle.hys_type.specs.Faults.{first_fault}
use Rattle.hys_type.specs.Walks.{walk}
use Rattle.hys_type.specs.Constants.{known_values}
use Rattle.hys_type.specs.Declarations.{known, name_checks, value_checks, box_checks, end_value, usual_box}
use Rattle.hys_type.specs.Checks.{checks_by, scope_by, item_checks, missing_checks}
use Rattle.hys_type.specs.Translation.{IsNameOf, OneByOne}
use Rattle.hys_type.specs.Made.{program_name, AreDeclaredFirst}
use Rattle.hys_type.specs.Begins.{Begins}
use Rattle.hys_type.specs.declared.constant.Known.{Known}
use Rattle.hys_type.proofs.KnownValues.{declared_texts, value_known, box_known}
use Rattle.hys_type.proofs.Wholes.{front_passes, names_differ}

usual_bounds : (ks : List Known) (d : Decl) (b : Bool) → b ≡ false → cond (b && is_real d.kind) (record { low = end_value ks d.low; high = end_value ks d.high }) (usual_box d.kind) ≡ usual_box d.kind
usual_bounds ks d false e = refl
usual_bounds ks d true e = absurd (cc)

one_name : (ds : List Decl) (d : Decl) → differ (declared_texts ds) ≡ true → IsNameOf (parameters ds) d (program_name (known ds ds) d)
one_name ds d h = record {
  text = refl;
  role = refl;
  kind = refl;
  place = refl;
  low = λ g. (box_known ds d h g).0;
  high = λ g. (box_known ds d h g).1;
  usual = λ g. usual_bounds (known ds ds) d (is_given d.section) g;
  value = λ p. ap (λ (b : Bool). cond b (known_values (known ds ds) d.name) (whole 0)) p ∙ value_known ds d.name h;
  no_value = λ p. ap (λ (b : Bool). cond b (known_values (known ds ds) d.name) (whole 0)) p;
}

pub each_name : (all ds : List Decl) → differ (declared_texts all) ≡ true → OneByOne (IsNameOf (parameters all)) ds (map (program_name (known all all)) ds)
each_name all [] h = tt
each_name all (d ∷ ds) h = (one_name all d h, each_name all ds h)

pub declared_first : (ds : List Decl) (is : List Item) (ks : List Known) (ms ns : List ProgName) → None ≡ first_fault (checks_by ds is) → ks ≡ known ds ds → ms ≡ map (program_name ks) ds → Begins ms ns → AreDeclaredFirst (parameters ds) ds ns
declared_first ds is ks ms ns h k e b = record {
  front = map (program_name (known ds ds)) ds;
  more = b.more;
  same = b.same ∙ ap (λ xs. xs ++ b.more) (e ∙ ap (λ (ls : List Known). map (program_name ls) ds) k);
  names = each_name ds ds (names_differ ds (front_passes (walk name_checks [] ds) (walk (value_checks ds) [] ds ++ (walk (λ before d. box_checks (known ds ds) d) [] ds ++ (walk (item_checks (scope_by ds)) [] is ++ walk (λ before d. missing_checks is d) [] ds))) h));
}
