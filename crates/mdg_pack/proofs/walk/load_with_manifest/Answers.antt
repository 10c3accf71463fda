use Rattle.mdg_pack.proofs.CandidateLemmas.{some_entered}
use Rattle.mdg_pack.proofs.walk.load_with_manifest.Goals as goal

pub load_from_entry-requires : goal.load_from_entry-requires
load_from_entry-requires g c = some_entered c.args.read c.in_ok-entry.entry c.as_slice.result.now c.as_slice.ensures c.in_ok-entry.ensures
