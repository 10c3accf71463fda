-- The answers of `layout`.
use Rattle.std.specs.Prelude.{◌≡◌, ℕ, ◌-◌, ◌^◌, ◌≤◌, ◌<◌, min, Result, Ok, Err}
use Rattle.mdg_code.specs.declared.code.Code.{Code}
use Rattle.mdg_site.specs.declared.refusal.SiteRefusal.{SiteRefusal}
use Rattle.mdg_site.specs.declared.refusal.SiteRefusal.TheVariants.{TooManyNodes, TooManyWords, NoMemory}
use Rattle.mdg_site.specs.Laid.{Laid, laid}
use Rattle.mdg_site.specs.Nodes.{node_count}
use Rattle.mdg_site.specs.Rows.{word_count}

abbrev pub node_limit : ℕ
node_limit = 16384

abbrev pub word_limit : ℕ
word_limit = 2 ^ 27

-- a count as 64 bits carry it
abbrev pub carried : ℕ → ℕ
carried n = min n (2 ^ 64 - 1)

-- why the answer comes. Nothing is said of want of memory.
abbrev pub IsAnswer : Code → Result Laid SiteRefusal → Type 0
IsAnswer code (Ok l) = (node_count l ≤ node_limit) × (word_count l ≤ word_limit) × (l ≡ laid code)
IsAnswer code (Err (TooManyNodes count)) = (node_limit < node_count (laid code)) × (count ≡ carried (node_count (laid code)))
IsAnswer code (Err (TooManyWords count)) =
    (node_count (laid code) ≤ node_limit) × (word_limit < word_count (laid code)) × (count ≡ carried (word_count (laid code)))
IsAnswer code (Err NoMemory) = Unit {0}
