use Rattle.std.proofs.Common.{sym, ap, ◌∙◌, arith, bytes_eq}
use Rattle.mdg_scan.proofs.CommandLineLemmas.{not_read, number_zero, number_past, other_spelling, same_spelling}
use Rattle.mdg_scan.proofs.argument.number.Goals as goal
use Rattle.mdg_scan.proofs.argument.number.Goals.{then-number-eq0-via-then-number-eq0, then-number-eq0-via-else-number-eq0+then-number-limit}

pub returns-in_default : goal.returns-in_default
returns-in_default c = sym (not_read c.args.limit c.args.text.now _ _ c.requires c.parse.ensures.value.0 c.in_default.is)

pub returns-then-number-eq0 : goal.returns-then-number-eq0
returns-then-number-eq0 c =
    elim c.then-number-eq0.branch [
      | then-number-eq0-via-then-number-eq0 w ↦ sym (number_zero c.args.limit c.args.text.now _ c.in-Ok.number c.requires c.parse.ensures.value.0 c.in-Ok.is w.if-number-eq0.true)
      | then-number-eq0-via-else-number-eq0+then-number-limit w ↦ sym (number_past c.args.limit c.args.text.now _ c.in-Ok.number c.requires c.parse.ensures.value.0 c.in-Ok.is w.if-number-limit.true)
    ]

pub returns-then-eq : goal.returns-then-eq
returns-then-eq c =
    sym (same_spelling c.args.limit c.args.text.now c.in-Ok.number c.requires (omega (arith, c.if-number-eq0.false)) (omega (arith, c.if-number-limit.false)) (sym (ap (λ digits. bytes_eq digits c.args.text.now) (c.as_str.ensures.value ∙ c.in_ok-digits.ensures.ok)) ∙ sym c.if-eq.ensures))

pub returns : goal.returns
returns c =
    sym (other_spelling c.args.limit c.args.text.now _ c.in-Ok.number c.requires c.parse.ensures.value.0 c.in-Ok.is (sym (ap (λ digits. bytes_eq digits c.args.text.now) (c.as_str.ensures.value ∙ c.in_ok-digits.ensures.ok)) ∙ sym c.if-eq.ensures))
