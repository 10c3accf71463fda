use Rattle.std.proofs.Common.{◌≡◌, ◌++◌, sym, ◌∙◌, ap}
use Rattle.mdg_scan.specs.FormLines.{is_free, call}
use Rattle.mdg_scan.proofs.FormEndings.{LineCut, ParameterCut, name_part, parameter_part, argument_once, unequal_texts, equal_texts, line_from_cuts}
use Rattle.mdg_scan.proofs.first.line.read_function_line.Goals as goal

pub returns-in_err-rest-2 : goal.returns-in_err-rest-2
returns-in_err-rest-2 c =
    let first : LineCut c.args.line.now c.in_ok-rest.rest.now c.cut.result.0.now c.cut.result.1.now = record { begins = c.in_ok-rest.ensures; parts = c.cut.ensures.parts; pass = c.cut.ensures.pass; stop = c.cut.ensures.stop } in
    rw c.from_residual-in_err-rest-2.ensures (λ n p t is. c.in_err-rest-2.ensures (p ++ call p t) ((name_part first n p t is).1))

pub returns-in_err-argument : goal.returns-in_err-argument
returns-in_err-argument c =
    let first : LineCut c.args.line.now c.in_ok-rest.rest.now c.cut.result.0.now c.cut.result.1.now = record { begins = c.in_ok-rest.ensures; parts = c.cut.ensures.parts; pass = c.cut.ensures.pass; stop = c.cut.ensures.stop } in
    let second : ParameterCut c.cut.result.1.now c.in_ok-rest-2.rest.now c.cut-2.result.0.now c.cut-2.result.1.now = record { begins = c.in_ok-rest-2.ensures; parts = c.cut-2.ensures.parts; pass = c.cut-2.ensures.pass; stop = c.cut-2.ensures.stop } in
    rw c.from_residual-in_err-argument.ensures
    (λ n p t is. c.in_err-argument.ensures p t (record { lower = is.takes.lower; plain = is.plain; spelt = (parameter_part first second n p t is).1 }))

pub returns-then-ne : goal.returns-then-ne
returns-then-ne c =
    let first : LineCut c.args.line.now c.in_ok-rest.rest.now c.cut.result.0.now c.cut.result.1.now = record { begins = c.in_ok-rest.ensures; parts = c.cut.ensures.parts; pass = c.cut.ensures.pass; stop = c.cut.ensures.stop } in
    let second : ParameterCut c.cut.result.1.now c.in_ok-rest-2.rest.now c.cut-2.result.0.now c.cut-2.result.1.now = record { begins = c.in_ok-rest-2.ensures; parts = c.cut-2.ensures.parts; pass = c.cut-2.ensures.pass; stop = c.cut-2.ensures.stop } in
    λ n p t is.
    let last = parameter_part first second n p t is in
    let argument : c.in_ok-argument.argument.now ≡ p = argument_once c.cut-2.result.1.now _ p _ t c.in_ok-argument.ensures is.takes.lower (last.1) in
    unequal_texts _ _ c.if-ne.ensures (argument ∙ sym (last.0))

pub returns-then-not-is_free : goal.returns-then-not-is_free
returns-then-not-is_free c =
    let first : LineCut c.args.line.now c.in_ok-rest.rest.now c.cut.result.0.now c.cut.result.1.now = record { begins = c.in_ok-rest.ensures; parts = c.cut.ensures.parts; pass = c.cut.ensures.pass; stop = c.cut.ensures.stop } in
    λ n p t is.
    let same : is_free c.cut.result.0.now ≡ is_free n = ap is_free ((name_part first n p t is).0) in
    cc (is.named.free, c.if-not-is_free.ensures)

pub returns-then-not-is_free-2 : goal.returns-then-not-is_free-2
returns-then-not-is_free-2 c =
    let first : LineCut c.args.line.now c.in_ok-rest.rest.now c.cut.result.0.now c.cut.result.1.now = record { begins = c.in_ok-rest.ensures; parts = c.cut.ensures.parts; pass = c.cut.ensures.pass; stop = c.cut.ensures.stop } in
    let second : ParameterCut c.cut.result.1.now c.in_ok-rest-2.rest.now c.cut-2.result.0.now c.cut-2.result.1.now = record { begins = c.in_ok-rest-2.ensures; parts = c.cut-2.ensures.parts; pass = c.cut-2.ensures.pass; stop = c.cut-2.ensures.stop } in
    λ n p t is.
    let same : is_free c.cut-2.result.0.now ≡ is_free p = ap is_free ((parameter_part first second n p t is).0) in
    cc (is.takes.free, c.if-not-is_free-2.ensures)

pub returns : goal.returns
returns c =
    let first : LineCut c.args.line.now c.in_ok-rest.rest.now c.cut.result.0.now c.cut.result.1.now = record { begins = c.in_ok-rest.ensures; parts = c.cut.ensures.parts; pass = c.cut.ensures.pass; stop = c.cut.ensures.stop } in
    let second : ParameterCut c.cut.result.1.now c.in_ok-rest-2.rest.now c.cut-2.result.0.now c.cut-2.result.1.now = record { begins = c.in_ok-rest-2.ensures; parts = c.cut-2.ensures.parts; pass = c.cut-2.ensures.pass; stop = c.cut-2.ensures.stop } in
    line_from_cuts first second _ _ c.in_ok-argument.ensures (equal_texts _ _ c.if-ne.ensures) c.if-not-is_free.ensures c.if-not-is_free-2.ensures
