use Rattle.std.proofs.Common.{◌+◌, List, None, Some, Option, drop, sym, ap, ◌∙◌}
use Rattle.mdg_scan.specs.CommandLine.{arguments_of, prepended, take_word, texts_of}
use Rattle.mdg_scan.specs.declared.argument.Argument.{Argument}
use Rattle.mdg_scan.specs.declared.argument.Valued.{Valued}
use Rattle.mdg_scan.proofs.CommandLineLemmas.{word_whole, word_open, word_wrong, words_end, words_open_end}
use Rattle.mdg_scan.proofs.command_line.arguments.Goals as goal
use Rattle.mdg_scan.proofs.command_line.arguments.Goals.{in-Whole+in_ok-push-in-Whole, in-Open}

pub returns-in-Wrong : goal.returns-in-Wrong
returns-in-Wrong c =
    sym c.loop-word.invariant ∙ word_wrong c.args.words.now c.loop-word.word-index c.word-item.result c.loop-word-test.true c.word-item.is c.loop-word.waiting c.loop-word.arguments (ap (take_word c.loop-word.waiting) (sym c.as_str.ensures.value) ∙ sym c.in_ok-argument.ensures ∙ c.in-Wrong.is)

pub loop-word-preserved : goal.loop-word-preserved
loop-word-preserved c =
    let rest = texts_of (drop (c.loop-word.word-index + 1) c.args.words.now) in
    elim c.match-branch-2.branch [
      | in-Whole+in_ok-push-in-Whole w ↦
          ap (λ (waiting : Option Valued). prepended c.match-branch-2.arguments (arguments_of waiting rest)) w.waiting-is
          ∙ ap (λ (arguments : List Argument). prepended arguments (arguments_of None rest)) (w.arguments-is ∙ w.in_ok-push-in-Whole.ensures.ok)
          ∙ sym (word_whole c.args.words.now c.loop-word.word-index c.word-item.result c.loop-word-test.true c.word-item.is c.loop-word.waiting c.loop-word.arguments _ (ap (take_word c.loop-word.waiting) (sym c.as_str.ensures.value) ∙ sym c.in_ok-argument.ensures ∙ w.in-Whole.is))
          ∙ c.loop-word.invariant
      | in-Open w ↦
          ap (λ (waiting : Option Valued). prepended c.match-branch-2.arguments (arguments_of waiting rest)) w.waiting-is
          ∙ ap (λ (arguments : List Argument). prepended arguments (arguments_of (Some w.in-Open.option) rest)) (w.arguments-is)
          ∙ sym (word_open c.args.words.now c.loop-word.word-index c.word-item.result c.loop-word-test.true c.word-item.is c.loop-word.waiting c.loop-word.arguments _ (ap (take_word c.loop-word.waiting) (sym c.as_str.ensures.value) ∙ sym c.in_ok-argument.ensures ∙ w.in-Open.is))
          ∙ c.loop-word.invariant
    ]

pub returns-in-Some : goal.returns-in-Some
returns-in-Some c =
    sym c.loop-word.invariant ∙ ap (λ (waiting : Option Valued). prepended c.loop-word.arguments (arguments_of waiting (texts_of (drop c.loop-word.word-index c.args.words.now)))) c.in-Some.is
    ∙ words_open_end c.args.words.now c.loop-word.word-index c.loop-word-test.false c.loop-word.arguments c.in-Some.field-0

pub returns-in-None : goal.returns-in-None
returns-in-None c =
    sym c.loop-word.invariant ∙ ap (λ (waiting : Option Valued). prepended c.loop-word.arguments (arguments_of waiting (texts_of (drop c.loop-word.word-index c.args.words.now)))) c.in-None.is
    ∙ words_end c.args.words.now c.loop-word.word-index c.loop-word-test.false c.loop-word.arguments
