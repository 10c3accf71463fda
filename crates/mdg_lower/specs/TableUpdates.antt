-- Serves only the proofs: drafts and tables that grow by functions and files.
use Rattle.std.specs.Prelude.{◌≡◌, ℕ, List}
use Rattle.mdg_scope.specs.declared.bound.BoundFunction.{BoundFunction}
use Rattle.mdg_lower.specs.declared.draft.DraftLine.{DraftLine}
use Rattle.mdg_lower.specs.declared.tables.Tables.{Tables}
use Rattle.mdg_lower.specs.declared.scope.Scope.{Scope}
use Rattle.mdg_lower.specs.Environment.{entered}
use Rattle.mdg_lower.specs.Tables.{PackageLowering}

abbrev pub lowering_of : List DraftLine → Tables → PackageLowering
lowering_of lines tables = record { lines = lines; tables = tables }

-- The drafts and tables are what this makes of those before it.
unfoldable pub Updates : (PackageLowering → PackageLowering) → List DraftLine → Tables → List DraftLine → Tables
    → Type 0
Updates make lines_before tables_before lines tables =
    lowering_of lines tables ≡ make (lowering_of lines_before tables_before)

-- Both are scopes of one file: a function that is entered from either gets the same scope.
unfoldable pub SameFile : Scope → Scope → Type 0
SameFile one other =
    (number : ℕ) (f : BoundFunction) (loops : List ℕ) → entered number f loops one ≡ entered number f loops other
