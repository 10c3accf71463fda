use Rattle.std.proofs.Common.{arith, sym, ◌∙◌}
use Rattle.mdg_text.specs.Punctuator.{three_characters, four_characters}
use Rattle.mdg_text.proofs.TableLemmas.{listed, size_one, size_two, size_three, size_four, size_other}
use Rattle.mdg_text.proofs.punctuator.is_punctuator.Goals as goal

pub returns-in-1 : goal.returns-in-1
returns-in-1 c = c.has_one.ensures ∙ sym (size_one c.args.text.now c.in-1.is)

pub returns-in-2 : goal.returns-in-2
returns-in-2 c = c.has_two.ensures ∙ sym (size_two c.args.text.now c.in-2.is)

pub returns-in-3 : goal.returns-in-3
returns-in-3 c = sym (size_three c.args.text.now c.in-3.is ∙ listed three_characters c.has_three.result c.args.text.now c.has_three.ensures)

pub returns-in-4 : goal.returns-in-4
returns-in-4 c = sym (size_four c.args.text.now c.in-4.is ∙ listed four_characters c.has_four.result c.args.text.now c.has_four.ensures)

pub returns-in_default : goal.returns-in_default
returns-in_default c = sym (size_other c.args.text.now (λ z. omega arith) (λ z. omega arith) (λ z. omega arith) (λ z. omega arith))
