use Rattle.std.proofs.Common.{arith, ◌∙◌, sym}
use Rattle.mdg_text.proofs.PlaceLemmas.{hex_at}
use Rattle.mdg_text.proofs.number.number.Goals as goal

pub returns-then-starts_hex_indicator-clause-rest : goal.returns-then-starts_hex_indicator-clause-rest
returns-then-starts_hex_indicator-clause-rest c =
    hex_at c.args.text.now c.args.at c.index-text-at-2.result (omega arith) (sym c.index-text-at-2.is ∙ c.if-text-at-eq48.true) (sym c.if-starts_hex_indicator.ensures) ∙ c.hexadecimal.ensures.rest
