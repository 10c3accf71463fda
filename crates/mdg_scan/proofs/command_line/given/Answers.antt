use Rattle.std.proofs.Common.{sym, ap, ◌∙◌, Some}
use Rattle.mdg_scan.proofs.CommandLineLemmas.{no_arguments, arguments_more, arguments_twice}
use Rattle.mdg_scan.proofs.command_line.given.Goals as goal

pub loop-argument-init : goal.loop-argument-init
loop-argument-init c = no_arguments

pub returns-then-is_given : goal.returns-then-is_given
returns-then-is_given c =
    arguments_twice c.args.arguments.now c.loop-argument.argument-index c.argument-item.result c.loop-argument-test.true c.argument-item.is c.loop-argument.given c.loop-argument.invariant (sym c.if-is_given.ensures)

pub loop-argument-preserved : goal.loop-argument-preserved
loop-argument-preserved c =
    arguments_more c.args.arguments.now c.loop-argument.argument-index c.argument-item.result c.loop-argument-test.true c.argument-item.is c.loop-argument.given c.loop-argument.invariant (sym c.if-is_given.ensures) ∙ ap Some (sym c.in_ok-given.ensures)
