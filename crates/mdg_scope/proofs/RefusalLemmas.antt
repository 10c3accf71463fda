-- The refusal of the first violation.
use Rattle.std.proofs.Common.{◌≡◌, ℕ, List, refl, sym, ap, subst}
use Rattle.std.specs.Prelude.{Option, Some, None, Result, Ok, Err, MatchOption}
use Rattle.mdg_scope.specs.declared.occurrence.Occurrence.{Occurrence}
use Rattle.mdg_scope.specs.declared.resolution.Scopes.{Scopes}
use Rattle.mdg_scope.specs.declared.violation.ViolationKind.{ViolationKind}
use Rattle.mdg_scope.specs.declared.violation.ViolationKind.TheVariants as kind
use Rattle.mdg_scope.specs.declared.violation.Violation.{Violation}
use Rattle.mdg_scope.specs.declared.refusal.ScopeRefusal.{ScopeRefusal}
use Rattle.mdg_scope.specs.Violations.{IsFirst, FirstOf, refusal_of}
use Rattle.mdg_scope.specs.Bindings.{IsRefusal, Checks}

module _ (path : List ℕ) (t : Scopes) (ws : List Occurrence) where
  pub refused : (b : Violation) → IsFirst path t ws b → IsRefusal path t ws (refusal_of b)
  refused b p = by b.kind refl
    where
      by : (r : ViolationKind) → b.kind ≡ r → IsRefusal path t ws (refusal_of (record { offset = b.offset; kind = r; name = b.name }))
      by kind.Binding e = record { violation = b; first = p; is = ap (λ x. refusal_of (record { offset = b.offset; kind = x; name = b.name })) (sym e) }
      by kind.Meaning e = record { violation = b; first = p; is = ap (λ x. refusal_of (record { offset = b.offset; kind = x; name = b.name })) (sym e) }
      by kind.Requiring e = record { violation = b; first = p; is = ap (λ x. refusal_of (record { offset = b.offset; kind = x; name = b.name })) (sym e) }
      by kind.Constructing e = record { violation = b; first = p; is = ap (λ x. refusal_of (record { offset = b.offset; kind = x; name = b.name })) (sym e) }
      by kind.Jumping e = record { violation = b; first = p; is = ap (λ x. refusal_of (record { offset = b.offset; kind = x; name = b.name })) (sym e) }

  pub checked : (found : Option Violation) (result : Result (Unit {0}) ScopeRefusal) → FirstOf path t ws found
      → MatchOption found (result ≡ Ok tt) (λ b. result ≡ Err (refusal_of b)) → Checks path t ws result
  checked None result p e = subst (Checks path t ws) (sym e) p
  checked (Some b) result p e = subst (Checks path t ws) (sym e) (refused b p)
