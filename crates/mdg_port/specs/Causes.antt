-- Why a call failed, by a count of faults.
use Rattle.std.specs.Prelude.{ℕ, ◌+◌, ◌-◌, ◌^◌, ◌<◌, ◌≤◌, min, IsErrOf}
use Rattle.std.specs.declared.result.Result.{Result}

-- one more, which stands still at the end of a `u64`
abbrev pub one_more : ℕ → ℕ
one_more n = min (n + 1) (2 ^ 64 - 1)

-- the count is greater now, or stands at the end of a `u64`
abbrev pub Rose : ℕ → ℕ → Type 0
Rose before now = one_more before ≤ now

-- the count didn't rise
abbrev pub Stood : ℕ → ℕ → Type 0
Stood before now = now < one_more before

-- the count doesn't fall, and this error comes only where it rose
pub record HasCause {T E : Type 0} (before now : ℕ) (result : Result T E) (fault : E) : Type 0 where
  pub later : before ≤ now
  pub failed : IsErrOf result fault → Rose before now
