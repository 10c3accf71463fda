use Rattle.std.proofs.Common.{arith, ◌≡◌, drop, sym, subst, length-drop}
use Rattle.std.specs.Prelude.{Option, IfOk}
use Rattle.mdg_text.specs.Scanner.{Found}
use Rattle.mdg_text.specs.Places.{found_at}
use Rattle.mdg_text.proofs.PlaceLemmas.{punctuator_none, punctuator_short, punctuator_off, punctuator_on_at}
use Rattle.mdg_text.proofs.lexeme.+punctuator_at.Goals as goal

pub returns-then-most-eq0-clause-reads : goal.returns-then-most-eq0-clause-reads
returns-then-most-eq0-clause-reads t c = punctuator_none c.args.most (drop c.args.at c.args.text.now) c.if-most-eq0.true

pub returns-then-text-at-clause-reads : goal.returns-then-text-at-clause-reads
returns-then-text-at-clause-reads t c =
    subst (λ (m : Option Found). IfOk c.punctuator_at.result (λ o. m ≡ found_at c.args.text.now o)) (sym (punctuator_short c.args.most (drop c.args.at c.args.text.now) (omega arith) (omega (arith, length-drop c.args.at c.args.text.now)))) c.punctuator_at.ensures.reads

pub returns-then-not-is_punctuator_at-clause-reads : goal.returns-then-not-is_punctuator_at-clause-reads
returns-then-not-is_punctuator_at-clause-reads t c =
    subst (λ (m : Option Found). IfOk c.punctuator_at-then-not-is_punctuator_at.result (λ o. m ≡ found_at c.args.text.now o)) (sym (punctuator_off c.args.most (drop c.args.at c.args.text.now) (omega arith) (omega (arith, length-drop c.args.at c.args.text.now)) (sym c.if-not-is_punctuator_at.ensures))) c.punctuator_at-then-not-is_punctuator_at.ensures.reads

pub returns-clause-reads : goal.returns-clause-reads
returns-clause-reads t c =
    let e = punctuator_on_at c.args.most c.args.at c.args.text.now (omega arith) (omega arith) (sym c.if-not-is_punctuator_at.ensures) in
    rw c.in_ok-value.ensures e
