-- The printed lines.
use Rattle.std.specs.Prelude.{ℕ, List, [], ◌∷◌, ◌++◌, length, map, codes, slice_index_or, Option, None, Some}
use Rattle.std.specs.Fmt.{decimal}
use Rattle.hys_frac.specs.Written.{number_text}
use Rattle.hys_lin.specs.declared.lost.Lost.{Lost}
use Rattle.hys_lin.specs.declared.lost.Op.{Op}
use Rattle.hys_lin.specs.declared.lost.Op.TheVariants as op
use Rattle.hys_number.specs.Number.{Number}
use Rattle.hys_ast.specs.declared.place.Place.{Place}
use Rattle.hys_prog.specs.declared.program.Name.{Name}
use Rattle.hys_prog.specs.declared.program.Program.{Program}
use Rattle.hys_prog.specs.declared.program.ProgItem.{ProgItem}
use Rattle.hys_prog.specs.declared.stop.Stop.{Stop}
use Rattle.hys_prog.specs.declared.stop.Stop.TheVariants as stop
use Rattle.hys_sim.specs.declared.fault.SimFault.{SimFault}
use Rattle.hys_sim.specs.declared.fault.SimFault.TheVariants as table
use Rattle.hys_sim.specs.declared.fault.Which.{Which}
use Rattle.hys_sim.specs.declared.fault.Which.TheVariants as which
use Rattle.hys_stack.specs.declared.fault.RequestFault.{RequestFault}
use Rattle.hys_stack.specs.declared.fault.RequestFault.TheVariants as request
use Rattle.hys_check.specs.declared.verdict.At.{At as Tested}
use Rattle.hys_check.specs.declared.verdict.At.TheVariants as place
use Rattle.hys_check.specs.declared.verdict.CheckWhy.{CheckWhy}
use Rattle.hys_check.specs.declared.verdict.CheckWhy.TheVariants as failed
use Rattle.hys_check.specs.declared.verdict.Verdict.{Verdict}
use Rattle.hys_check.specs.declared.verdict.Verdict.TheVariants as verdict
use Rattle.hys_tree.specs.declared.answer.Answer.{Answer}
use Rattle.hys_tree.specs.declared.answer.Best.{Best}
use Rattle.hys_tree.specs.declared.answer.Claim.{Claim}
use Rattle.hys_tree.specs.declared.answer.Claim.TheVariants.{Least, NoneExists, AtLeast}
use Rattle.hys_tree.specs.declared.answer.Why.{Why}
use Rattle.hys_tree.specs.declared.answer.Why.TheVariants as why
use Rattle.hys_sys.specs.declared.system.System.{System}
use Rattle.hys_file.specs.declared.fault.FileFault.{FileFault}
use Rattle.hys_file.specs.declared.fault.FileFault.TheVariants as file
use Rattle.hys_compile.specs.Faults.{words_of}
use Rattle.hys_compile.specs.declared.fault.SourceFault.{SourceFault}
use Rattle.hys_compile.specs.declared.fault.Detail.{Detail}
use Rattle.hys_compile.specs.declared.fault.Detail.TheVariants.{At, Named, Names, Ends, Literal, Range, Tolerance, Limit, Memory}
use Rattle.hys_compile.specs.declared.fault.LimitKind.{LimitKind}
use Rattle.hys_compile.specs.declared.fault.LimitKind.TheVariants as limit

-- the forms of the words
unfoldable pub usage_line : List ℕ
usage_line =
    codes "usage: hysdel compile SRC MLD | sim SRC START INPUTS OUT | plan SRC REQ ANS | check MLD REQ ANS | demo K | migrate OLD NEW"
    ++ 10 ∷ []

-- the name can't be read
unfoldable pub read_line : List ℕ → List ℕ
read_line name = codes "read failed: " ++ (name ++ 10 ∷ [])

-- what passes its limit
unfoldable pub limit_word : LimitKind → List ℕ
limit_word limit.Bytes = codes "bytes"
limit_word limit.Tokens = codes "tokens"
limit_word limit.Nesting = codes "nesting"
limit_word limit.Nodes = codes "nodes"
limit_word limit.Expression = codes "expression"
limit_word limit.Names = codes "names"

unfoldable pub operation_sign : Op → List ℕ
operation_sign op.Add = codes "+"
operation_sign op.Sub = codes "-"
operation_sign op.Mul = codes "*"
operation_sign op.Div = codes "/"

-- two operands whose result doesn't fit
unfoldable pub lost_text : Lost → List ℕ
lost_text lost =
    number_text lost.left ++ (codes " " ++ (operation_sign lost.op ++ (codes " " ++ number_text lost.right)))

unfoldable pub place_text : Place → List ℕ
place_text p = codes " at " ++ (decimal p.line ++ (codes ":" ++ decimal p.col))

-- each name after a space
abbrev pub names_text : List (List ℕ) → List ℕ
names_text [] = []
names_text (n ∷ ns) = codes " " ++ (n ++ names_text ns)

-- what a fault shows behind its words
unfoldable pub detail_text : Detail → List ℕ
detail_text (At place) = place_text place
detail_text (Named name) = codes " " ++ name
detail_text (Names names) = names_text names
detail_text (Ends place low high) = place_text place ++ (codes ": " ++ (number_text low ++ (codes " " ++ number_text high)))
detail_text (Literal place) = place_text place ++ codes ": literal"
detail_text (Range place lost) = place_text place ++ (codes ": " ++ lost_text lost)
detail_text (Tolerance place value) = place_text place ++ (codes ": " ++ number_text value)
detail_text (Limit kind) = codes " " ++ limit_word kind
detail_text Memory = []

-- the source is refused
unfoldable pub refused_line : SourceFault → List ℕ
refused_line f = codes "source refused: " ++ (decimal f.number ++ (codes " " ++ (words_of f.number ++ (detail_text f.detail ++ 10 ∷ []))))

-- a matrix text is put
unfoldable pub compiled_line : System → List ℕ
compiled_line s = codes "compiled: " ++ (decimal (length s.columns) ++ (codes " columns, " ++ (decimal (length s.rows) ++ (codes " rows" ++ 10 ∷ []))))

-- ---- files other than sources
-- why a text of JSON is refused
unfoldable pub file_words : FileFault → List ℕ
file_words file.Json = codes "json"
file_words (file.Shape path) = codes "shape " ++ path
file_words (file.Number path) = codes "number " ++ path
file_words (file.Limit what) = codes "limit " ++ what
file_words file.Memory = []

-- the file is refused
unfoldable pub file_line : List ℕ → List ℕ → List ℕ
file_line name words = codes "file refused: " ++ (name ++ (codes " " ++ (words ++ 10 ∷ [])))

-- a matrix text of the newest version is put
unfoldable pub migrated_line : System → List ℕ
migrated_line s = codes "migrated: " ++ (decimal (length s.rows) ++ (codes " rows" ++ 10 ∷ []))

-- ---- tables
-- the name of one of the two tables
abbrev pub pick_table : Which → List ℕ → List ℕ → List ℕ
pick_table which.Start start inputs = start
pick_table which.Inputs start inputs = inputs

-- the name of the table that is refused
abbrev pub faulty_table : SimFault → List ℕ → List ℕ → List ℕ
faulty_table (table.Csv w r) start inputs = pick_table w start inputs
faulty_table (table.Rows w r) start inputs = pick_table w start inputs
faulty_table (table.Column w t) start inputs = pick_table w start inputs
faulty_table (table.Value w r c) start inputs = pick_table w start inputs
faulty_table table.Limit start inputs = inputs
faulty_table table.Memory start inputs = inputs

-- why it is refused
abbrev pub csv_words : ℕ → List ℕ
csv_words r = codes "csv " ++ decimal r

abbrev pub rows_words : ℕ → List ℕ
rows_words r = codes "rows " ++ decimal r

abbrev pub column_words : List ℕ → List ℕ
column_words name = codes "column " ++ name

abbrev pub value_words : ℕ → ℕ → List ℕ
value_words r c = codes "value " ++ (decimal r ++ (codes " " ++ decimal c))

unfoldable pub table_words : SimFault → List ℕ
table_words (table.Csv w r) = csv_words r
table_words (table.Rows w r) = rows_words r
table_words (table.Column w t) = column_words t
table_words (table.Value w r c) = value_words r c
table_words table.Limit = codes "limit"
table_words table.Memory = []

-- ---- runs
-- the text of the name at the place
abbrev pub name_at : List Name → ℕ → List ℕ
name_at names n = slice_index_or (map (λ k. k.text) names) n []

-- the text of the name that an item defines
abbrev pub defined_name : List Name → Option ℕ → List ℕ
defined_name names None = []
defined_name names (Some n) = name_at names n

abbrev pub item_name : Program → ℕ → List ℕ
item_name p k = defined_name p.names (slice_index_or (map (λ t. t.name) p.items) k None)

abbrev pub start_of_text : Place
start_of_text = record { byte = 0; line = 1; col = 1 }

abbrev pub item_place : List ProgItem → ℕ → Place
item_place items k = slice_index_or (map (λ t. t.place) items) k start_of_text

-- what a state or an input outside its box, a guard in its gap and a demand that doesn't hold are shown by
abbrev pub bounds_words : List ℕ → List ℕ
bounds_words name = codes "bounds " ++ name

abbrev pub gap_words : List ℕ → List ℕ
gap_words name = codes "gap " ++ name

abbrev pub must_words : Place → List ℕ
must_words p = codes "must " ++ (decimal p.line ++ (codes ":" ++ decimal p.col))

-- the step after so many isn't legal, for this
unfoldable pub stopped_line : ℕ → List ℕ → List ℕ
stopped_line n cause = codes "stopped at step " ++ (decimal n ++ (codes ": " ++ (cause ++ 10 ∷ [])))

-- a number of that step doesn't fit
unfoldable pub overflow_line : ℕ → Lost → List ℕ
overflow_line n lost = codes "range at step " ++ (decimal n ++ (codes ": " ++ (lost_text lost ++ 10 ∷ [])))

-- a run of so many steps is put
unfoldable pub simulated_line : ℕ → List ℕ
simulated_line n = codes "simulated: " ++ (decimal n ++ (codes " steps" ++ 10 ∷ []))

-- the step after so many has this stop
unfoldable pub stop_line : Program → ℕ → Stop → List ℕ
stop_line p n (stop.Bounds k) = stopped_line n (bounds_words (name_at p.names k))
stop_line p n (stop.Gap k) = stopped_line n (gap_words (item_name p k))
stop_line p n (stop.Must k) = stopped_line n (must_words (item_place p.items k))
stop_line p n (stop.Range k lost) = overflow_line n lost

-- after so many steps comes the end of the run's inputs, or a stop
unfoldable pub run_line : Program → ℕ → Option Stop → List ℕ
run_line p n None = simulated_line n
run_line p n (Some s) = stop_line p n s

-- ---- plans
-- why a request is refused
abbrev pub shape_words : List ℕ → List ℕ
shape_words path = codes "shape " ++ path

abbrev pub number_words : List ℕ → List ℕ
number_words path = codes "number " ++ path

abbrev pub name_words : List ℕ → List ℕ
name_words name = codes "name " ++ name

abbrev pub start_words : List ℕ → List ℕ
start_words name = codes "start " ++ name

abbrev pub limit_words : List ℕ → List ℕ
limit_words what = codes "limit " ++ what

unfoldable pub request_words : RequestFault → List ℕ
request_words request.Json = codes "json"
request_words (request.Shape path) = shape_words path
request_words (request.Number path) = number_words path
request_words (request.Name name) = name_words name
request_words (request.Start name) = start_words name
request_words (request.Limit what) = limit_words what
request_words request.TooLarge = codes "too large"
request_words request.Memory = []

-- a number of the stacked problem doesn't fit
unfoldable pub range_words : Lost → List ℕ
range_words lost = codes "range " ++ lost_text lost

-- the cost of the best solution found
unfoldable pub best_text : Option Best → List ℕ
best_text None = codes "none"
best_text (Some b) = number_text b.cost

unfoldable pub bound_text : Number → Option Best → List ℕ
bound_text bound best = codes "lower bound " ++ (number_text bound ++ (codes ", best " ++ best_text best))

unfoldable pub least_line : Number → List ℕ
least_line cost = codes "least " ++ (number_text cost ++ 10 ∷ [])

unfoldable pub spent_line : ℕ → Number → Option Best → List ℕ
spent_line n bound best = codes "spent: " ++ (decimal n ++ (codes " nodes, " ++ (bound_text bound best ++ 10 ∷ [])))

unfoldable pub lossy_line : ℕ → Number → Option Best → List ℕ
lossy_line node bound best = codes "range: node " ++ (decimal node ++ (codes ", " ++ (bound_text bound best ++ 10 ∷ [])))

-- why a search ended under a bound
unfoldable pub end_line : Number → Option Best → Why → List ℕ
end_line bound best (why.Spent n) = spent_line n bound best
end_line bound best (why.Range node at) = lossy_line node bound best

-- an answer is put
unfoldable pub claim_line : Claim → List ℕ
claim_line (Least b) = least_line b.cost
claim_line NoneExists = codes "none" ++ 10 ∷ []
claim_line (AtLeast bound best why) = end_line bound best why

-- ---- verdicts
unfoldable pub below_words : Number → Number → List ℕ
below_words bound claim = codes "below " ++ (number_text bound ++ (codes " " ++ number_text claim))

-- which test fails
unfoldable pub why_words : CheckWhy → List ℕ
why_words failed.Shape = codes "shape"
why_words failed.Sign = codes "sign"
why_words (failed.Below bound claim) = below_words bound claim
why_words failed.Point = codes "point"
why_words (failed.Range lost) = range_words lost

abbrev pub node_words : ℕ → List ℕ
node_words k = codes "node " ++ decimal k

-- where it fails
unfoldable pub at_words : Tested → List ℕ
at_words (place.Node k) = node_words k
at_words place.Claim = codes "claim"

unfoldable pub failed_line : Tested → CheckWhy → List ℕ
failed_line at why = codes "no: " ++ (at_words at ++ (codes " " ++ (why_words why ++ 10 ∷ [])))

-- an answer is checked
unfoldable pub verdict_line : Verdict → List ℕ
verdict_line verdict.Yes = codes "yes" ++ 10 ∷ []
verdict_line (verdict.No at why) = failed_line at why

-- ---- demonstrations
-- a plan of so many tanks is told
unfoldable pub demo_line : ℕ → System → Answer → List ℕ
demo_line k s a =
    codes "demo: " ++ (decimal k ++ (codes " tanks, " ++ (decimal (length s.columns) ++ (codes " columns, " ++
    (decimal (length s.rows) ++ (codes " rows, " ++ (decimal a.expanded ++ (codes " nodes, " ++ claim_line a.claim))))))))
