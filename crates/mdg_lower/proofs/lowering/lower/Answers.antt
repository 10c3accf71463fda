use Rattle.std.proofs.Common.{length, refl, ap, ◌∙◌, arith}
use Rattle.mdg_lower.proofs.AnswerLemmas.{sites_lowered, code_lowered, lowered_valid}
use Rattle.mdg_lower.proofs.lowering.lower.Goals as goal

pub returns-then-sites-gt-SITE_LIMIT-clause-answer : goal.returns-then-sites-gt-SITE_LIMIT-clause-answer
returns-then-sites-gt-SITE_LIMIT-clause-answer c =
    let n = sites_lowered c.args.files.now c.args.profile.now c.in_ok-lines.field-0.lines.items c.in_ok-lines.field-0.tables c.in_ok-lines.ensures in
    (omega (arith, n, c.len-sites.ensures), omega (arith, c.if-sites-gt-SITE_LIMIT.true))

pub returns-then-names-gt-NAME_LIMIT-clause-answer : goal.returns-then-names-gt-NAME_LIMIT-clause-answer
returns-then-names-gt-NAME_LIMIT-clause-answer c =
    let n = sites_lowered c.args.files.now c.args.profile.now c.in_ok-lines.field-0.lines.items c.in_ok-lines.field-0.tables c.in_ok-lines.ensures in
    let e = code_lowered c.args.files.now c.args.profile.now c.in_ok-lines.field-0.lines.items c.in_ok-lines.field-0.tables c.in_ok-link.field-0 c.code_of-code.result c.in_ok-lines.ensures c.in_ok-link.ensures c.code_of-code.ensures in
    (omega (arith, n, c.len-sites.ensures, c.if-sites-gt-SITE_LIMIT.false), ap length (c.as_slice-names.ensures ∙ ap (λ w. w.columns) e), omega (arith, c.if-names-gt-NAME_LIMIT.true))

pub returns-clause-answer : goal.returns-clause-answer
returns-clause-answer c =
    let n = sites_lowered c.args.files.now c.args.profile.now c.in_ok-lines.field-0.lines.items c.in_ok-lines.field-0.tables c.in_ok-lines.ensures in
    let e = code_lowered c.args.files.now c.args.profile.now c.in_ok-lines.field-0.lines.items c.in_ok-lines.field-0.tables c.in_ok-link.field-0 c.code_of-code.result c.in_ok-lines.ensures c.in_ok-link.ensures c.code_of-code.ensures in
    let m = ap length (c.as_slice-names.ensures ∙ ap (λ w. w.columns) e) in
    record {
      same = e;
      few_sites = omega (arith, n, c.len-sites.ensures, c.if-sites-gt-SITE_LIMIT.false);
      few_names = omega (arith, m, c.if-names-gt-NAME_LIMIT.false);
    }

pub returns-clause-valid : goal.returns-clause-valid
returns-clause-valid c are =
    let e = code_lowered c.args.files.now c.args.profile.now c.in_ok-lines.field-0.lines.items c.in_ok-lines.field-0.tables c.in_ok-link.field-0 c.code_of-code.result c.in_ok-lines.ensures c.in_ok-link.ensures c.code_of-code.ensures in
    lowered_valid c.args.files.now c.args.profile.now c.code_of-code.result e (c.if-not-is_counted.ensures.0 refl) are
