use Rattle.std.proofs.Common.{◌≡◌, ◌+◌, ℕ, arith}
use Rattle.mdg_site.proofs.TakenLemmas.{shift_there}
use Rattle.mdg_site.proofs.tables.Tables.local_at.Goals as goal

pub returns : goal.returns
returns c = shift_there 0 _ c.args.number c.args.number (c.place_of-site.ensures _ _ c.local_starts.ensures.is) (omega arith)
