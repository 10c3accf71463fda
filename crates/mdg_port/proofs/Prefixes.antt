-- A prefix grows by the bytes after it.
use Rattle.std.proofs.Common.{ℕ, ◌+◌, List, take, drop, sym, subst}
use Rattle.std.specs.declared.option.Option.{Option}
use Rattle.std.specs.Io.KnownBytes.{Appends}
use Rattle.std.proofs.KnownBytes.{Appends-trans}
use Rattle.std.proofs.Math.Seq.{take-add}

pub Appends-longer : (a b c : Option (List ℕ)) (bytes : List ℕ) (done n : ℕ) → Appends a b (take done bytes) → Appends b c (take n (drop done bytes)) → Appends a c (take (done + n) bytes)
Appends-longer a b c bytes done n first more =
    let P : List ℕ → Type 0 = λ xs. Appends a c xs in
    subst P (sym (take-add done n bytes)) (Appends-trans a b c (take done bytes) (take n (drop done bytes)) first more)
