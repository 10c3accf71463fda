use Rattle.std.proofs.Common.{◌≡◌, ◌<◌, ℕ, false}
use Rattle.mdg_read.specs.Excluded.{is_excluded}
use Rattle.mdg_read.proofs.excluded.first_excluded_word.Given as goal

abbrev pub invariant-loop-at : goal.invariant-loop-at
invariant-loop-at l = (k : ℕ) → k < l.at → is_excluded l.tokens k ≡ false
