-- Where a run goes on.
use Rattle.std.specs.Prelude.{◌≡◌, ◌+◌, Option, Some, None, IfSome, if◌then◌else◌}
use Rattle.std.specs.Option.{option_map}
use Rattle.mdg_base.specs.declared.number.Site.{Site}
use Rattle.mdg_code.specs.declared.code.Code.{Code}
use Rattle.mdg_code.specs.declared.statement.Statement.{Statement}
use Rattle.mdg_code.specs.declared.statement.Statement.TheVariants.{Branch, Land, Return, Throw}
use Rattle.mdg_code.specs.declared.sites.Next.{Next}
use Rattle.mdg_code.specs.Kinds.{awaits_land}
use Rattle.mdg_code.specs.Sites.{AreInOneFunction, statement_at}

-- both targets of a branch, none after a return and a throw, and the next site after all others
abbrev pub next_of : Site → Statement → Next
next_of site (Branch left right) = record { first = Some left; second = Some right }
next_of site (Return value) = record { first = None; second = None }
next_of site (Throw value) = record { first = None; second = None }
next_of site _ = record { first = Some (record { 0 = site.0 + 1 }); second = None }

-- where a run goes on from the site
abbrev pub next_at : Code → Site → Option Next
next_at code site = option_map (next_of site) (statement_at code site.0)

-- each of these sites is a site of the function in which this one lies
abbrev pub StaysInFunction : Code → Site → Next → Type 0
StaysInFunction code site next = IfSome next.first (λ target. AreInOneFunction code site.0 target.0)
    × IfSome next.second (λ target. AreInOneFunction code site.0 target.0)

-- the site after a call or a load
abbrev pub land_of : Site → Statement → Option Site
land_of site statement = if awaits_land statement then Some (record { 0 = site.0 + 1 }) else None

-- where the call or the load at the site comes back. Other statements have no land.
abbrev pub land_at : Code → Site → Option (Option Site)
land_at code site = option_map (land_of site) (statement_at code site.0)

-- a land stands there, in the function in which this site lies
abbrev pub ComesBackAt : Code → Site → Site → Type 0
ComesBackAt code site land = (statement_at code land.0 ≡ Some Land) × AreInOneFunction code site.0 land.0
