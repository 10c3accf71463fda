-- Numbers of things that stand in blocks, one block after another.
use Rattle.std.specs.Prelude.{ℕ, zero, suc, ◌+◌, ◌*◌, nat_lt, cond, Option, Some, None}

-- the sum of the first n values
abbrev pub sum_below : (ℕ → ℕ) → ℕ → ℕ
sum_below f zero = 0
sum_below f (suc n) = sum_below f n + f n

-- block i has f i things: the number of its thing x among all, where there is such a thing
abbrev pub slot : (ℕ → ℕ) → ℕ → ℕ → Option ℕ
slot f i x = cond (nat_lt x (f i)) (Some (sum_below f i + x)) None

abbrev pub slot_at : (ℕ → ℕ) → ℕ → Option ℕ → Option ℕ
slot_at f i None = None
slot_at f i (Some x) = slot f i x

-- one of n things
abbrev pub below : ℕ → ℕ → Option ℕ
below n i = cond (nat_lt i n) (Some i) None

-- so many numbers further
abbrev pub shift : ℕ → Option ℕ → Option ℕ
shift k None = None
shift k (Some x) = Some (k + x)

-- place x of a row of a table whose rows have n places
abbrev pub grid : ℕ → Option ℕ → ℕ → Option ℕ
grid n None x = None
grid n (Some i) x = cond (nat_lt x n) (Some (i * n + x)) None
