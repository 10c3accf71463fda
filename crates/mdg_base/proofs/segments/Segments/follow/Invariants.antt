use Rattle.std.proofs.Common.{◌≡◌, ◌&&◌, length}
use denote.Text.{Utf8}
use denote.Shadow.{shadow}
use Rattle.mdg_base.specs.Segments.{segments, stays, followed}
use Rattle.mdg_base.proofs.segments.Segments.follow.Given as goal

abbrev pub invariant-loop-segment : goal.invariant-loop-segment
invariant-loop-segment l =
    shadow (Utf8 l.rest) × (followed l.self (segments l.rest) ≡ followed l.fn.self (segments l.fn.text))
    × ((l.inside && stays l.self (segments l.rest)) ≡ stays l.fn.self (segments l.fn.text))

abbrev pub decreases-loop-segment : goal.decreases-loop-segment
decreases-loop-segment l = length l.rest
