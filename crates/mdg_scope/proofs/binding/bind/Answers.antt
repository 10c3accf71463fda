use Rattle.std.proofs.Common.{◌≡◌, subst, refl, ◌∙◌}
use Rattle.mdg_scope.specs.Occurrences.{file_occurrences}
use Rattle.mdg_scope.specs.Resolution.{scopes}
use Rattle.mdg_scope.specs.Violations.{IsClean}
use Rattle.mdg_scope.specs.Bindings.{HasParts}
use Rattle.mdg_scope.proofs.binding.bind.Goals as goal

pub returns : goal.returns
returns c =
    let same : c.as_slice.result.now ≡ file_occurrences c.args.tree = c.as_slice.ensures ∙ c.in_ok-occurrences.ensures in
    let parts = subst (λ ws. HasParts c.args.path.now (scopes ws c.args.profile.now) c.args.tree.at ws c.in_ok-functions.field-0) same c.in_ok-functions.ensures.0 in
    let clean = subst (λ ws. IsClean c.args.path.now (scopes ws c.args.profile.now) ws) same c.in_ok-functions.ensures.1 in
    record {
      same_path = c.in_ok-of.ensures;
      same_tree = refl;
      all_functions = parts.all_functions;
      all_required = parts.all_required;
      clean = clean;
    }
