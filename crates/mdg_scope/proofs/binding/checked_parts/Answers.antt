use Rattle.std.proofs.Common.{subst}
use Rattle.std.proofs.lemmas.Result.{err_from_is_err_and}
use Rattle.mdg_scope.specs.Violations.{IsClean}
use Rattle.mdg_scope.specs.Bindings.{HasParts, IsRefusal}
use Rattle.mdg_scope.proofs.binding.checked_parts.Goals as goal

pub returns-in_err-check : goal.returns-in_err-check
returns-in_err-check c =
    let p = err_from_is_err_and c.from_residual-in_err-check.result c.from_residual-in_err-check.ensures.1 in
    rw (p.1, p.2) (subst (λ t. IsRefusal c.args.path.now t c.args.occurrences.now c.in_err-check.field-0.0) c.in_ok-scopes.ensures c.in_err-check.ensures)

pub returns-in_err-parts_of : goal.returns-in_err-parts_of
returns-in_err-parts_of c =
    let p = err_from_is_err_and c.from_residual-in_err-parts_of.result c.from_residual-in_err-parts_of.ensures.1 in
    rw (p.1, p.2) tt

pub returns : goal.returns
returns c = (
  subst (λ t. HasParts c.args.path.now t c.args.at c.args.occurrences.now c.in_ok-parts_of.field-0) c.in_ok-scopes.ensures c.in_ok-parts_of.ensures,
  subst (λ t. IsClean c.args.path.now t c.args.occurrences.now) c.in_ok-scopes.ensures c.in_ok-check.ensures,
)
