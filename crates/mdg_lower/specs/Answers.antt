-- What `lower` answers.
use Rattle.std.specs.Prelude.{◌≡◌, ◌<◌, ◌≤◌, List, length, Result, Ok, Err}
use Rattle.mdg_code.specs.declared.code.Code.{Code}
use Rattle.mdg_profile.specs.declared.entry.Profile.{Profile}
use Rattle.mdg_scope.specs.declared.bound.Bound.{Bound}
use Rattle.mdg_lower.specs.declared.refusal.LowerRefusal.{LowerRefusal}
use Rattle.mdg_lower.specs.declared.refusal.LowerRefusal.TheVariants.{TooManySites, TooManyNames, NoMemory}
use Rattle.mdg_lower.specs.Tables.{lowered}

-- The files have code of so many statements and names.
pub record IsCode (files : List Bound) (profile : Profile) (code : Code) : Type 0 where
  pub same : code ≡ lowered files profile
  pub few_sites : length (lowered files profile).lines ≤ 32768
  pub few_names : length (lowered files profile).columns ≤ 2048

-- What each refusal says; want of memory says nothing.
abbrev pub IsRefusal : List Bound → Profile → LowerRefusal → Type 0
IsRefusal files profile (TooManySites count) = (count ≡ length (lowered files profile).lines) × (32768 < count)
IsRefusal files profile (TooManyNames count) =
    (length (lowered files profile).lines ≤ 32768) × (count ≡ length (lowered files profile).columns) × (2048 < count)
IsRefusal files profile NoMemory = Unit {0}

-- Each answer comes exactly where this holds, unless memory is refused: no two of the three conditions hold at once,
-- and one of them does.
abbrev pub IsAnswer : List Bound → Profile → Result Code LowerRefusal → Type 0
IsAnswer files profile (Ok code) = IsCode files profile code
IsAnswer files profile (Err refusal) = IsRefusal files profile refusal
