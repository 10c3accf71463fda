use Rattle.std.proofs.Common.{◌≡◌, drop}
use Rattle.mdg_lower.specs.SharedRows.{shared_names_in, add_shared_names, shared_names_of}
use Rattle.mdg_lower.specs.SharedNames.{seen_in}
use Rattle.mdg_lower.proofs.shared.rows.bases_of.Given as goal

abbrev pub invariant-loop-line : goal.invariant-loop-line
invariant-loop-line l = (l.seen ≡ seen_in l.bases) × (shared_names_in l.lines ≡ add_shared_names l.bases (shared_names_of (drop l.line-index l.lines)))
