use Rattle.std.proofs.Common.{sym, ◌∙◌}
use Rattle.mdg_lower.proofs.SharedTableLemmas.{put_one, is_none_there}
use Rattle.mdg_lower.proofs.shared.table.put_number.Goals as goal

pub returns-in_ok-insert : goal.returns-in_ok-insert
returns-in_ok-insert c =
    put_one c.args.numbers.now c.insert.new.self c.args.name c.args.number
    (is_none_there _ (sym c.contains_key.ensures ∙ c.if-not-contains_key.true)) c.in_ok-insert.ensures.updates.0
