use Rattle.std.proofs.Common.{◌≡◌, drop}
use Rattle.mdg_read.specs.Numeral as numeral
use Rattle.mdg_read.proofs.numeral.are_digits.Given as goal

abbrev pub invariant-loop-c : goal.invariant-loop-c
invariant-loop-c l = numeral.are_digits l.text ≡ numeral.are_digits (drop l.c-index l.text)
