use Rattle.mdg_scan.proofs.FormParts.{lower_ascii}
use Rattle.mdg_scan.proofs.FormRest.{next_none, next_declared, next_new, text_ascii}
use Rattle.mdg_scan.proofs.first.read.read_function.Goals as goal

pub returns-in_default : goal.returns-in_default
returns-in_default c = next_none c.args.earlier.now c.args.number c.args.line.now c.in_default.ensures

pub returns-then-is_declared : goal.returns-then-is_declared
returns-then-is_declared c = next_declared c.args.earlier.now c.args.number c.args.line.now _ _ _ c.in-Some.ensures c.if-is_declared.ensures

pub owned_function-requires-clause-name : goal.owned_function-requires-clause-name
owned_function-requires-clause-name c = lower_ascii _ c.in-Some.ensures.named.lower

pub owned_function-requires-clause-parameter : goal.owned_function-requires-clause-parameter
owned_function-requires-clause-parameter c = lower_ascii _ c.in-Some.ensures.takes.lower

pub owned_function-requires-clause-text : goal.owned_function-requires-clause-text
owned_function-requires-clause-text c = text_ascii _ c.in-Some.ensures.plain

pub returns : goal.returns
returns c = next_new c.args.earlier.now c.args.number c.args.line.now _ _ _ _ c.in-Some.ensures c.if-is_declared.ensures c.in_ok-owned_function.ensures
