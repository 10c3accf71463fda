use Rattle.std.proofs.Common.{refl}
use Rattle.mdg_scan.proofs.first.facts.Facts.has.Goals as goal

pub returns : goal.returns
returns c =
    let listed = c.is_among.ensures in
    let part = c.row.ensures c.args.fact.now in
    (λ found. (part.0 (listed.0 found)).0, λ found. listed.1 (part.1 (found, refl)))
