use Rattle.std.proofs.Common.{rules}
use Rattle.mdg_scan.specs.Reaching.{same}
use Rattle.mdg_scan.proofs.SpreadLemmas.{Spreads-push, Spreads-equal}
use Rattle.mdg_scan.proofs.first.reach.follow.Goals as goal

pub returns-then-not-contains-clause-spreads : goal.returns-then-not-contains-clause-spreads
returns-then-not-contains-clause-spreads c = same

pub returns-then-contains-clause-spreads : goal.returns-then-contains-clause-spreads
returns-then-contains-clause-spreads c = same

pub returns-in_err-push-clause-spreads : goal.returns-in_err-push-clause-spreads
returns-in_err-push-clause-spreads c = Spreads-equal _ _ c.in_err-push.ensures.items

pub returns-clause-spreads : goal.returns-clause-spreads
returns-clause-spreads c = Spreads-push c.args.found.now.items _ c.args.edge c.requires (search rules) c.in_ok-push.ensures.items
