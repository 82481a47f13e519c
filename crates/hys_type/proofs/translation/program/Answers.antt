use Rattle.std.proofs.Common.{List, [], map, ap, ap₂, sym, ◌∙◌, subst}
use Rattle.hys_ast.specs.declared.source.Decl.{Decl}
use Rattle.hys_ast.specs.declared.source.Item.{Item}
use Rattle.hys_ast.specs.Seen.{decl_of, item_of, source_of}
use Rattle.hys_meaning.specs.Names.{parameters}
use Rattle.hys_type.specs.Faults.{first_fault}
use Rattle.hys_type.specs.Checks.{checks, checks_by}
use Rattle.hys_type.specs.Made.{AreDeclaredFirst, declared, program_name}
use Rattle.hys_type.specs.Declarations.{known}
use Rattle.hys_type.proofs.Firsts.{handed}
use Rattle.hys_type.proofs.Additions.{names_begin}
use Rattle.hys_type.proofs.AllNames.{whole_named}
use Rattle.hys_type.proofs.AllItems.{whole_made, few_guards}
use Rattle.hys_type.proofs.DeclaredNames.{declared_first}
use Rattle.hys_type.proofs.UnfoldedWeight.{source_weighs}
use Rattle.hys_type.proofs.Passing.{none_passes}
use Rattle.hys_type.proofs.OneOrOther.{one_or_other}
use Rattle.hys_type.proofs.SourceRules.{source_rule}
use Rattle.hys_type.proofs.TypingRules.{typing_kept}
use Rattle.hys_type.proofs.ProgramItems.{translation_program}
use Rattle.hys_type.proofs.translation.program.Goals as goal

pub returns-in_err-judged-clause-fault : goal.returns-in_err-judged-clause-fault
returns-in_err-judged-clause-fault c =
    let e = ap₂ (λ (ds : List Decl) (is : List Item). first_fault (checks_by (map decl_of ds) (map item_of is))) c.items.ensures c.items-2.ensures in
    handed c.from_residual.result _ (checks (source_of c.args.source.now)) c.from_residual.ensures (λ n. c.in_err-judged.ensures.fault n ∙ e)

pub returns-in-Ok-clause-fault : goal.returns-in-Ok-clause-fault
returns-in-Ok-clause-fault c =
    let e = ap₂ (λ (ds : List Decl) (is : List Item). first_fault (checks_by (map decl_of ds) (map item_of is))) c.items.ensures c.items-2.ensures in
    c.in_ok-judged.ensures.fault ∙ e

pub returns-in_err-judged-clause-one_or_other : goal.returns-in_err-judged-clause-one_or_other
returns-in_err-judged-clause-one_or_other c = one_or_other _ (checks (source_of c.args.source.now)) (returns-in_err-judged-clause-fault c)

pub returns-in-Ok-clause-one_or_other : goal.returns-in-Ok-clause-one_or_other
returns-in-Ok-clause-one_or_other c = one_or_other _ (checks (source_of c.args.source.now)) (returns-in-Ok-clause-fault c)

pub returns-in-Ok-clause-names : goal.returns-in-Ok-clause-names
returns-in-Ok-clause-names c =
    subst (λ (ds : List Decl). AreDeclaredFirst (parameters (map decl_of ds)) (map decl_of ds) c.in-Ok.program.names) c.items.ensures
    (declared_first (map decl_of c.items.result.now) (map item_of c.items-2.result.now) c.in_ok-judged.judged.known.items c.in_ok-judged.judged.names.items c.in-Ok.program.names
    c.in_ok-judged.ensures.fault c.in_ok-judged.ensures.known c.in_ok-judged.ensures.names (names_begin _ _ _ _ c.in-Ok.ensures.items))

pub returns-in-Ok-clause-all_names : goal.returns-in-Ok-clause-all_names
returns-in-Ok-clause-all_names c =
    let e = ap₂ (λ (ds : List Decl) (is : List Item). first_fault (checks_by (map decl_of ds) (map item_of is))) c.items.ensures c.items-2.ensures in
    let ks = c.in_ok-judged.judged.known.items in
    whole_named (map decl_of c.args.source.now.decls) (map item_of c.args.source.now.items) ks c.in_ok-judged.judged.scope c.args.eps c.in_ok-judged.judged.names.items c.in-Ok.program.names c.in-Ok.program.items []
    (c.in_ok-judged.ensures.fault ∙ e)
    (c.in_ok-judged.ensures.known ∙ ap (λ (ds : List Decl). known (map decl_of ds) (map decl_of ds)) c.items.ensures)
    (c.in_ok-judged.ensures.names ∙ ap (λ (ds : List Decl). map (program_name ks) (map decl_of ds)) c.items.ensures)
    (c.in_ok-judged.ensures.scope ∙ ap (λ (ds : List Decl). map (declared ks) (map decl_of ds)) c.items.ensures)
    c.in-Ok.ensures.items

pub returns-in-Ok-clause-source_weight : goal.returns-in-Ok-clause-source_weight
returns-in-Ok-clause-source_weight c =
    source_weighs (source_of c.args.source.now) c.in-Ok.program.names c.in-Ok.program.weight c.requires.declarations (returns-in-Ok-clause-all_names c) c.in-Ok.ensures.weight

pub returns-in-Ok-clause-translation : goal.returns-in-Ok-clause-translation
returns-in-Ok-clause-translation c =
    let e = ap₂ (λ (ds : List Decl) (is : List Item). first_fault (checks_by (map decl_of ds) (map item_of is))) c.items.ensures c.items-2.ensures in
    let s = source_of c.args.source.now in
    let ks = c.in_ok-judged.judged.known.items in
    record {
      system = c.in-Ok.ensures.system;
      names = returns-in-Ok-clause-all_names c;
      items = whole_made s ks c.in_ok-judged.judged.scope c.args.eps c.in_ok-judged.judged.names.items c.in-Ok.program.names c.in-Ok.program.items
          (c.in_ok-judged.ensures.fault ∙ e) c.requires.declarations (few_guards s c.in-Ok.program.names (returns-in-Ok-clause-all_names c) c.in-Ok.ensures.few)
          (c.in_ok-judged.ensures.known ∙ ap (λ (ds : List Decl). known (map decl_of ds) (map decl_of ds)) c.items.ensures)
          (c.in_ok-judged.ensures.names ∙ ap (λ (ds : List Decl). map (program_name ks) (map decl_of ds)) c.items.ensures)
          (c.in_ok-judged.ensures.scope ∙ ap (λ (ds : List Decl). map (declared ks) (map decl_of ds)) c.items.ensures)
          c.in-Ok.ensures.items;
      weight = returns-in-Ok-clause-source_weight c;
    }

pub returns-in-Ok-clause-program : goal.returns-in-Ok-clause-program
returns-in-Ok-clause-program c = λ r.
    let e = ap₂ (λ (ds : List Decl) (is : List Item). first_fault (checks_by (map decl_of ds) (map item_of is))) c.items.ensures c.items-2.ensures in
    let s = source_of c.args.source.now in
    let few = few_guards s c.in-Ok.program.names (returns-in-Ok-clause-all_names c) c.in-Ok.ensures.few in
    let kept = typing_kept s r few ((source_rule s r).0 (none_passes (checks s) (sym (c.in_ok-judged.ensures.fault ∙ e)))).0 in
    translation_program c.args.eps s c.in-Ok.program (returns-in-Ok-clause-translation c) kept c.requires.declarations c.requires.eps
