use Rattle.std.proofs.Common.{◌≡◌, None, drop}
use Rattle.mdg_scan.specs.CommandLine.{arguments_of, prepended, texts_of}
use Rattle.mdg_scan.proofs.command_line.arguments.Given as goal

abbrev pub invariant-loop-word : goal.invariant-loop-word
invariant-loop-word l = prepended l.arguments (arguments_of l.waiting (texts_of (drop l.word-index l.words))) ≡ arguments_of None (texts_of l.words)
