use Rattle.std.proofs.Common.{◌≡◌, ◌∙◌, ◌∷◌, ◌++◌, [], ◌+◌, length, ap, true, false, List, arith}
use Rattle.std.proofs.lemmas.Grind.{common_steps}
use Rattle.hys_formula.specs.Formulas.{tree_of}
use Rattle.hys_logic.specs.Literals.{column_in}
use Rattle.hys_logic.specs.declared.table.Setting.{Setting}
use Rattle.hys_logic.specs.Tables.{set_to, columns_of}
use Rattle.hys_logic.proofs.Settings.{pushed_columns}
use Rattle.hys_logic.proofs.Tabled.{last_made, halves}
use Rattle.hys_logic.proofs.table.+add_table.Goals as goal

pub add_table-requires : goal.add_table-requires
add_table-requires t c =
    let e : c.args.rest.now ≡ c.in-Some.first.now ∷ c.in-Some.later.now = c.in-Some.ensures.cases.0 in
    let d : length c.args.rest.now ≡ t = c.decreases in
    let n : length c.in-Some.later.now + 1 ≡ length c.args.rest.now = c.in-Some.ensures.cases.1 in
    let m : c.push.new.self.items ≡ c.args.made.now.items ++ (set_to c.in-Some.first.now.column false ∷ []) = c.in_ok-push-in-Some.ensures.items in
    let q : columns_of (c.push.new.self.items ++ c.in-Some.later.now) ≡ columns_of (c.args.made.now.items ++ c.args.rest.now) =
    rw (m, e) (pushed_columns c.args.made.now.items c.in-Some.later.now c.in-Some.first.now false) in
    let l : length c.push.new.self.items ≡ length c.args.made.now.items + 1 = grind (arith, common_steps) in
    (omega arith, (c.requires.names, (omega (arith, c.requires.few), (rw q (c.requires.rising), rw q (c.requires.absent)))))

pub add_table-requires-in-Some : goal.add_table-requires-in-Some
add_table-requires-in-Some t c =
    let e : c.args.rest.now ≡ c.in-Some.first.now ∷ c.in-Some.later.now = c.in-Some.ensures.cases.0 in
    let d : length c.args.rest.now ≡ t = c.decreases in
    let n : length c.in-Some.later.now + 1 ≡ length c.args.rest.now = c.in-Some.ensures.cases.1 in
    let p : c.pop.new.self.items ≡ c.args.made.now.items = grind (arith, common_steps) in
    let m : c.push-in-Some.new.self.items ≡ c.args.made.now.items ++ (set_to c.in-Some.first.now.column true ∷ []) = c.in_ok-push-in-Some-2.ensures.items ∙ ap (λ (ss : List Setting). ss ++ (set_to c.in-Some.first.now.column true ∷ [])) p in
    let q : columns_of (c.push-in-Some.new.self.items ++ c.in-Some.later.now) ≡ columns_of (c.args.made.now.items ++ c.args.rest.now) =
    rw (m, e) (pushed_columns c.args.made.now.items c.in-Some.later.now c.in-Some.first.now true) in
    let l : length c.push-in-Some.new.self.items ≡ length c.args.made.now.items + 1 = grind (arith, common_steps) in
    (omega arith, (c.requires.names, (omega (arith, c.requires.few), (rw q (c.requires.rising), rw q (c.requires.absent)))))

pub returns-in_ok-add_setting-in-None-clause-added : goal.returns-in_ok-add_setting-in-None-clause-added
returns-in_ok-add_setting-in-None-clause-added t c =
    let e : length c.args.rest.now ≡ 0 = c.in-None.ensures.cases in
    last_made c.args.target (column_in c.args.columns.now) (tree_of c.args.formula.now) c.args.made.now.items c.args.rest.now c.args.rows.now.items c.add_setting.new.rows.items e
    (rw (c.truth_at-truth.ensures, c.deref.ensures.value, c.deref-in-None.ensures.value) at c.in_ok-add_setting-in-None.ensures)

pub returns-in_ok-add_table-in-Some-2-clause-added : goal.returns-in_ok-add_table-in-Some-2-clause-added
returns-in_ok-add_table-in-Some-2-clause-added t c =
    let e : c.args.rest.now ≡ c.in-Some.first.now ∷ c.in-Some.later.now = c.in-Some.ensures.cases.0 in
    let p : c.pop.new.self.items ≡ c.args.made.now.items = grind (arith, common_steps) in
    let m : c.push.new.self.items ≡ c.args.made.now.items ++ (set_to c.in-Some.first.now.column false ∷ []) = c.in_ok-push-in-Some.ensures.items in
    let m2 : c.push-in-Some.new.self.items ≡ c.args.made.now.items ++ (set_to c.in-Some.first.now.column true ∷ []) = c.in_ok-push-in-Some-2.ensures.items ∙ ap (λ (ss : List Setting). ss ++ (set_to c.in-Some.first.now.column true ∷ [])) p in
    halves c.args.target (column_in c.args.columns.now) (tree_of c.args.formula.now) c.args.made.now.items c.args.rest.now c.in-Some.later.now c.in-Some.first.now c.args.rows.now.items c.add_table.new.rows.items c.add_table-in-Some.new.rows.items e
    (rw m at c.in_ok-add_table-in-Some.ensures.added) (rw m2 at c.in_ok-add_table-in-Some-2.ensures.added)
