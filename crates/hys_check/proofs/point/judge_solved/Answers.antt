use Rattle.std.proofs.Common.{◌≡◌, ◌∙◌, ◌<◌, length, ap, subst, sym, List, ℕ}
use Rattle.hys_number.specs.Number.{Number}
use Rattle.hys_lin.specs.Sums.{EachColumn}
use Rattle.hys_lin.specs.declared.form.Row.{Row}
use Rattle.hys_check.specs.Testing.{first_failing}
use Rattle.hys_check.specs.ClaimTests.{columns_tests, row_tests, point_by}
use Rattle.hys_check.specs.declared.verdict.Verdict.{Verdict}
use Rattle.hys_check.proofs.Loops.{rows_over, solved_columns, solved_rows, solved_stated}
use Rattle.hys_check.proofs.point.judge_solved.Goals as goal

pub returns-then-not-has_columns : goal.returns-then-not-has_columns
returns-then-not-has_columns c =
    let e : length c.args.best.now.point.values ≡ length c.args.problem.now.boxes = sym (ap length c.items-values.ensures) ∙ c.if-values-boxes.false ∙ ap length c.items-boxes.ensures in
    let h : first_failing (columns_tests c.args.problem.now c.args.best.now.point.values) ≡ point_by c.has_columns.result =
    subst (λ (v : List Number). first_failing (columns_tests c.args.problem.now v) ≡ point_by c.has_columns.result) c.items-values.ensures c.has_columns.ensures in
    solved_columns c.args.problem.now c.args.best.now e c.judged-then-not-has_columns.result c.has_columns.result c.judged-then-not-has_columns.ensures h c.if-not-has_columns.true

pub judge_rows-requires : goal.judge_rows-requires
judge_rows-requires c =
    let e : length c.args.best.now.point.values ≡ length c.args.problem.now.boxes = sym (ap length c.items-values.ensures) ∙ c.if-values-boxes.false ∙ ap length c.items-boxes.ensures in
    rows_over c.args.problem.now c.items.result.now (length c.args.best.now.point.values) c.items.ensures e c.requires.rows

pub judge_stated-requires : goal.judge_stated-requires
judge_stated-requires c =
    let e : length c.args.best.now.point.values ≡ length c.args.problem.now.boxes = sym (ap length c.items-values.ensures) ∙ c.if-values-boxes.false ∙ ap length c.items-boxes.ensures in
    subst (λ (n : ℕ). EachColumn (λ i. i < n) c.args.problem.now.cost.terms) (sym e) c.requires.cost.below

pub returns-in-Yes : goal.returns-in-Yes
returns-in-Yes c =
    let e : length c.args.best.now.point.values ≡ length c.args.problem.now.boxes = sym (ap length c.items-values.ensures) ∙ c.if-values-boxes.false ∙ ap length c.items-boxes.ensures in
    let h : first_failing (columns_tests c.args.problem.now c.args.best.now.point.values) ≡ point_by c.has_columns.result =
    subst (λ (v : List Number). first_failing (columns_tests c.args.problem.now v) ≡ point_by c.has_columns.result) c.items-values.ensures c.has_columns.ensures in
    let r : c.judge_rows.result ≡ first_failing (row_tests c.args.best.now.point.values c.args.problem.now.rows) =
    c.judge_rows.ensures ∙ ap (λ (rs : List Row). first_failing (row_tests c.args.best.now.point.values rs)) c.items.ensures in
    solved_stated c.args.problem.now c.args.best.now e c.judge_stated.result c.judge_rows.result c.has_columns.result c.judge_stated.ensures r c.in-Yes.is h c.if-not-has_columns.false

pub returns-in_default : goal.returns-in_default
returns-in_default c =
    let e : length c.args.best.now.point.values ≡ length c.args.problem.now.boxes = sym (ap length c.items-values.ensures) ∙ c.if-values-boxes.false ∙ ap length c.items-boxes.ensures in
    let h : first_failing (columns_tests c.args.problem.now c.args.best.now.point.values) ≡ point_by c.has_columns.result =
    subst (λ (v : List Number). first_failing (columns_tests c.args.problem.now v) ≡ point_by c.has_columns.result) c.items-values.ensures c.has_columns.ensures in
    let r : c.judge_rows.result ≡ first_failing (row_tests c.args.best.now.point.values c.args.problem.now.rows) =
    c.judge_rows.ensures ∙ ap (λ (rs : List Row). first_failing (row_tests c.args.best.now.point.values rs)) c.items.ensures in
    solved_rows c.args.problem.now c.args.best.now e c.judge_rows.result c.has_columns.result r c.in_default.not-Yes h c.if-not-has_columns.false
