use Rattle.std.proofs.Common.{◌&&◌, rules, sym, ◌∙◌, ap}
use Rattle.mdg_base.specs.Segments.{segments, stays, followed}
use Rattle.mdg_base.proofs.SegmentLemmas.{cut_some, cut_none, followed_first, followed_last, stays_first, stays_last}
use Rattle.mdg_base.proofs.segments.Segments.follow.Goals as goal

pub loop-segment-preserved : goal.loop-segment-preserved
loop-segment-preserved c =
    let cut = cut_some c.loop-segment.rest.now c.split_once.result c.split_once.ensures.cases (c.in-Some.segment, c.in-Some.after) c.in-Some.is in (
      search rules,
      ap (λ place. followed place (segments c.in-Some.after.now)) c.in_ok-inside.ensures.place
          ∙ sym (followed_first c.loop-segment.self c.in-Some.segment.now (segments c.in-Some.after.now) (segments c.loop-segment.rest.now) cut.is) ∙ c.loop-segment.invariant.1,
      ap (λ place. (c.loop-segment.inside && c.in_ok-inside.field-0) && stays place (segments c.in-Some.after.now)) c.in_ok-inside.ensures.place
          ∙ sym (stays_first c.loop-segment.inside c.in_ok-inside.field-0 c.loop-segment.self c.in-Some.segment.now (segments c.in-Some.after.now) (segments c.loop-segment.rest.now) cut.is c.in_ok-inside.ensures.inside) ∙ c.loop-segment.invariant.2,
    )

pub returns-clause-place : goal.returns-clause-place
returns-clause-place c =
    let whole = cut_none c.loop-segment.rest.now c.split_once.result c.split_once.ensures.cases c.in_default.is in
    c.in_ok-inside-2.ensures.place ∙ sym (followed_last c.loop-segment.self c.loop-segment.rest.now (segments c.loop-segment.rest.now) whole) ∙ c.loop-segment.invariant.1

pub returns-clause-inside : goal.returns-clause-inside
returns-clause-inside c =
    let whole = cut_none c.loop-segment.rest.now c.split_once.result c.split_once.ensures.cases c.in_default.is in
    sym (stays_last c.loop-segment.inside c.in_ok-inside-2.field-0 c.loop-segment.self c.loop-segment.rest.now (segments c.loop-segment.rest.now) whole c.in_ok-inside-2.ensures.inside) ∙ c.loop-segment.invariant.2
