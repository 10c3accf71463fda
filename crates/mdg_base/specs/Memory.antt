-- An answer, or want of memory.
use Rattle.std.specs.Prelude.{◌≡◌, ◌⊎◌, Result, Err}

-- it is this answer, unless memory was refused
abbrev pub IsUnlessMemory : {A B : Type 0} → B → Result A B → Result A B → Type 0
IsUnlessMemory refused result answer = (result ≡ answer) ⊎ (result ≡ Err refused)
