-- How many facts a set has.
use Rattle.std.specs.Prelude.{ℕ, zero, suc, ◌+◌}
use Rattle.mdg_site.specs.Facts.{NumberSet}
use Rattle.mdg_site.specs.Shapes.{one_if}

-- how many of the first nodes stand in a row
abbrev pub count_row : NumberSet → ℕ → ℕ → ℕ
count_row F r zero = 0
count_row F r (suc n) = one_if (F r n) + count_row F r n

-- how many facts there are in the first rows
abbrev pub count : NumberSet → ℕ → ℕ → ℕ
count F zero n = 0
count F (suc r) n = count_row F r n + count F r n
