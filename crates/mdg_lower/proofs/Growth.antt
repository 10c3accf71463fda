-- Lines that grow by one code and then by another.
use Rattle.std.proofs.Common.{◌≡◌, ◌+◌, List, ◌++◌, length, refl, sym, ap, ◌∙◌, append_assoc, append-nil, length-append}
use Rattle.mdg_lower.specs.declared.draft.DraftLine.{DraftLine}
use Rattle.mdg_lower.specs.Builder.{Lines, ◌>>◌, nothing, Emits}

pub emits_then : (a b : Lines) (before middle now : List DraftLine) → Emits a before middle → Emits b middle now → Emits (a >> b) before now
unfolding Emits ◌>>◌
emits_then a b before middle now p q =
    let n : length middle ≡ length before + length (a (length before)) = ap length p ∙ length-append before (a (length before)) in
    q ∙ ap (λ l. l ++ b (length middle)) p ∙ ap (λ k. (before ++ a (length before)) ++ b k) n ∙ append_assoc before (a (length before)) (b (length before + length (a (length before))))

pub emits_nothing : (l : List DraftLine) → Emits nothing l l
unfolding Emits nothing
emits_nothing l = sym (append-nil l)

pub ruleset growth = (emits_then, emits_nothing)

-- what was made so far, and the rest, make the whole
pub emits_rest : (a b : Lines) (before now : List DraftLine) → Emits a before now → before ++ (a >> b) (length before) ≡ now ++ b (length now)
unfolding Emits ◌>>◌
emits_rest a b before now p = sym (emits_then a b before now (now ++ b (length now)) p refl)
