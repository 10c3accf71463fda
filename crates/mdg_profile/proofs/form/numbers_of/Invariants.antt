use Rattle.std.proofs.Common.{take, map}
use Rattle.mdg_profile.specs.Parts.{AreNumbers}
use Rattle.serde_json.specs.View.{view}
use Rattle.mdg_profile.proofs.form.numbers_of.Given as goal

abbrev pub invariant-loop-value : goal.invariant-loop-value
invariant-loop-value l = AreNumbers (take l.value-index (map view l.values)) l.numbers.items
