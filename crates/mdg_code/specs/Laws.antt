-- What holds of all valid code.
use Rattle.std.specs.Prelude.{◌≡◌, ℕ, ◌+◌, List, Some, IfSome, length}
use Rattle.std.specs.Prelude.{◌⊎◌}
use Rattle.mdg_base.specs.declared.number.Column.{Column}
use Rattle.mdg_base.specs.declared.number.SharedId.{SharedId}
use Rattle.mdg_base.specs.declared.number.Site.{Site}
use Rattle.mdg_code.specs.declared.code.Code.{Code}
use Rattle.mdg_code.specs.declared.sites.Next.{Next}
use Rattle.mdg_code.specs.declared.statement.Statement.{Statement}
use Rattle.mdg_code.specs.Columns.{IsColumnOf, column_of}
use Rattle.mdg_code.specs.Locals.{locals_at, locals_before}
use Rattle.mdg_code.specs.Places.{HasAt}
use Rattle.mdg_code.specs.Sharing.{IsMember}
use Rattle.mdg_code.specs.Sites.{statement_at}
use Rattle.mdg_code.specs.Successors.{ComesBackAt, StaysInFunction, land_of, next_at}
use Rattle.mdg_code.specs.Validity.{IsValid}

-- each site at which a run goes on is a site of the same function
abbrev pub DoRunsStay : Type 0
DoRunsStay = (code : Code) → IsValid code → (site : Site) (next : Next) → next_at code site ≡ Some next
    → StaysInFunction code site next

-- a call and a load come back to a land in the same function
abbrev pub DoCallsComeBack : Type 0
DoCallsComeBack = (code : Code) → IsValid code → (site : Site) (statement : Statement)
    → statement_at code site.0 ≡ Some statement → IfSome (land_of site statement) (λ land. ComesBackAt code site land)

pub record IsOneColumnAName (columns : List (List ℕ)) : Type 0 where
  -- a name has one column
  pub one_column : (name : List ℕ) (column : Column) → IsColumnOf columns name column → column.0 ≡ column_of columns name
  -- two names share one only where neither stands among the columns
  pub one_name : (name other : List ℕ) (column : Column)
      → IsColumnOf columns name column → IsColumnOf columns other column → (name ≡ other) ⊎ (column.0 ≡ length columns)

abbrev pub HasOneColumn : Type 0
HasOneColumn = (code : Code) → IsValid code → IsOneColumnAName code.columns

-- a base has one member of a name
abbrev pub HasOneMember : Type 0
HasOneMember = (code : Code) → IsValid code → (base : SharedId) (name : List ℕ) (one other : ℕ)
    → HasAt (IsMember base name) code.shared one → HasAt (IsMember base name) code.shared other → one ≡ other

pub record AddUp (code : Code) : Type 0 where
  -- there is none before the first site
  pub none : locals_before code 0 ≡ 0
  -- each site adds its own locals
  pub more : (site count : ℕ) → locals_at code site ≡ Some count
      → locals_before code (site + 1) ≡ locals_before code site + count

abbrev pub DoLocalsAddUp : Type 0
DoLocalsAddUp = (code : Code) → IsValid code → AddUp code
