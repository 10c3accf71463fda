use Rattle.mdg_pack.proofs.EntryLemmas.{entry_read}
use Rattle.mdg_pack.proofs.walk.entry_candidates.Goals as goal

pub returns-in-Bytes : goal.returns-in-Bytes
returns-in-Bytes c = entry_read c.in-Bytes.bytes c.as_slice.result.now c.args.read c.entry_of_manifest.result c.as_slice.ensures c.in-Bytes.is c.entry_of_manifest.ensures
