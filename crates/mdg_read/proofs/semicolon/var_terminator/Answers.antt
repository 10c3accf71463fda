use Rattle.std.proofs.Common.{ap}
use Rattle.mdg_read.specs.Semicolon.{var_terminator_of, is_bare}
use Rattle.mdg_read.proofs.LookaheadLemmas.{ends_more}
use Rattle.mdg_read.proofs.semicolon.var_terminator.Goals as goal

pub loop-one-preserved : goal.loop-one-preserved
loop-one-preserved c =
    let more = ends_more c.args.all.now c.loop-one.one-index c.one-item.result c.loop-one-test.true in
    let same = ap (λ d. var_terminator_of (is_bare d.value)) c.one-item.is in
    let made = c.terminator_of-terminator.ensures in
    cc
