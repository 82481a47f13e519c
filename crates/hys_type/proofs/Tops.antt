-- Cases of operators: a property of each of them is one of all, of each that is no comparison, or of each inequality.
use Rattle.std.proofs.Common.{◌≡◌, true, false}
use Rattle.hys_ast.specs.declared.tree.BinaryOp.{BinaryOp}
use Rattle.hys_ast.specs.declared.tree.BinaryOp.TheVariants as binary
use Rattle.hys_meaning.specs.Typed.{is_comparison}
use Rattle.hys_meaning.specs.Unfolded.{is_inequality}

pub no_comparison_at : (P : BinaryOp → Type 0) → P binary.Add → P binary.Sub → P binary.Mul → P binary.Div → P binary.And → P binary.Or → P binary.Iff → P binary.Then → P binary.From →
    (op : BinaryOp) → is_comparison op ≡ false → P op
no_comparison_at P add sub mul div both either iff after before binary.Add h = add
no_comparison_at P add sub mul div both either iff after before binary.Sub h = sub
no_comparison_at P add sub mul div both either iff after before binary.Mul h = mul
no_comparison_at P add sub mul div both either iff after before binary.Div h = div
no_comparison_at P add sub mul div both either iff after before binary.And h = both
no_comparison_at P add sub mul div both either iff after before binary.Or h = either
no_comparison_at P add sub mul div both either iff after before binary.Iff h = iff
no_comparison_at P add sub mul div both either iff after before binary.Then h = after
no_comparison_at P add sub mul div both either iff after before binary.From h = before
no_comparison_at P add sub mul div both either iff after before binary.Most h = absurd (cc)
no_comparison_at P add sub mul div both either iff after before binary.Least h = absurd (cc)
no_comparison_at P add sub mul div both either iff after before binary.Equal h = absurd (cc)

pub inequality_at : (P : BinaryOp → Type 0) → P binary.Most → P binary.Least → (op : BinaryOp) → is_inequality op ≡ true → P op
inequality_at P most least binary.Add h = absurd (cc)
inequality_at P most least binary.Sub h = absurd (cc)
inequality_at P most least binary.Mul h = absurd (cc)
inequality_at P most least binary.Div h = absurd (cc)
inequality_at P most least binary.And h = absurd (cc)
inequality_at P most least binary.Or h = absurd (cc)
inequality_at P most least binary.Iff h = absurd (cc)
inequality_at P most least binary.Then h = absurd (cc)
inequality_at P most least binary.From h = absurd (cc)
inequality_at P most least binary.Most h = most
inequality_at P most least binary.Least h = least
inequality_at P most least binary.Equal h = absurd (cc)

pub operator_at : (P : BinaryOp → Type 0) → P binary.Add → P binary.Sub → P binary.Mul → P binary.Div → P binary.And → P binary.Or → P binary.Iff → P binary.Then → P binary.From → P binary.Most → P binary.Least → P binary.Equal →
    (op : BinaryOp) → P op
operator_at P add sub mul div both either iff after before most least equal binary.Add = add
operator_at P add sub mul div both either iff after before most least equal binary.Sub = sub
operator_at P add sub mul div both either iff after before most least equal binary.Mul = mul
operator_at P add sub mul div both either iff after before most least equal binary.Div = div
operator_at P add sub mul div both either iff after before most least equal binary.And = both
operator_at P add sub mul div both either iff after before most least equal binary.Or = either
operator_at P add sub mul div both either iff after before most least equal binary.Iff = iff
operator_at P add sub mul div both either iff after before most least equal binary.Then = after
operator_at P add sub mul div both either iff after before most least equal binary.From = before
operator_at P add sub mul div both either iff after before most least equal binary.Most = most
operator_at P add sub mul div both either iff after before most least equal binary.Least = least
operator_at P add sub mul div both either iff after before most least equal binary.Equal = equal
