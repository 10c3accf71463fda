use Rattle.std.proofs.Common.{◌≡◌, ◌+◌, ◌*◌, ◌∙◌, ap, length, Fits, w64, arith}
use Rattle.mdg_site.specs.Laid.{laid}
use Rattle.mdg_site.specs.Nodes.{object_count}
use Rattle.mdg_site.specs.Rows.{column_count}
use Rattle.mdg_site.proofs.CountLemmas.{fields_fit}
use Rattle.std.specs.Prelude.{ℕ}
use Rattle.mdg_site.proofs.count.field_count.Goals as goal

pub overflow_mul-result : goal.overflow_mul-result
overflow_mul-result c =
    let columns = ap length c.as_slice.ensures in
    let fit = fields_fit (laid c.args.code.now) c.object_count.result (length c.as_slice.result.now) c.requires.few c.requires.counted.4 c.object_count.ensures columns in
    omega (arith, fit.1)

pub returns : goal.returns
returns c =
    let columns = ap length c.as_slice.ensures in
    let fit = fields_fit (laid c.args.code.now) c.object_count.result (length c.as_slice.result.now) c.requires.few c.requires.counted.4 c.object_count.ensures columns in
    ap (λ (n : ℕ). n * (length c.as_slice.result.now + 1)) fit.0 ∙ ap (λ (n : ℕ). object_count (laid c.args.code.now) * (n + 1)) columns
