use Rattle.mdg_scope.proofs.resolution.Scopes.+enclosing_binder.Given as goal

abbrev pub decreases-enclosing_binder : goal.decreases-enclosing_binder
decreases-enclosing_binder l = l.steps
