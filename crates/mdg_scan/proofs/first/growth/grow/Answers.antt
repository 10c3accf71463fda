use Rattle.std.proofs.Common.{◌≡◌, ◌≤◌, List, [], length, ap, sym, subst, arith}
use Rattle.std.specs.Prelude.{Contains}
use Rattle.mdg_scan.specs.Graph.{GivenBy, Led, same}
use Rattle.mdg_scan.specs.Table.{rules_of}
use Rattle.mdg_scan.specs.declared.first.fact.Fact.{Fact}
use Rattle.mdg_scan.specs.declared.first.rule.Rule.{Rule}
use Rattle.mdg_scan.proofs.GrowthLemmas.{IsGraph-at_end, Led-length, Led-trans}
use Rattle.mdg_scan.proofs.first.growth.grow.Goals as goal

pub loop-rules-init : goal.loop-rules-init
loop-rules-init c = subst (λ (facts : List Fact). Led (rules_of c.args.code.now) [] facts) (sym c.create-facts.ensures) same

pub loop-rules-preserved : goal.loop-rules-preserved
loop-rules-preserved c =
    let listed : c.as_slice.result.now ≡ rules_of c.args.code.now = cc (c.as_slice.ensures, c.rules.view_is, c.in_ok-rules.ensures) in
    Led-trans c.loop-rules.invariant (subst (λ (rules : List Rule). Led rules c.loop-rules.facts c.in_ok-facts.facts) listed c.in_ok-facts.ensures.led)

pub loop-rules-smaller : goal.loop-rules-smaller
loop-rules-smaller c =
    let known : length c.as_slice-known.result.now ≡ length c.loop-rules.facts = ap length c.as_slice-known.ensures in
    let now : length c.as_slice-in-loop-rules.result.now ≡ length c.in_ok-facts.facts = ap length c.as_slice-in-loop-rules.ensures in
    let grown : length c.loop-rules.facts ≤ length c.in_ok-facts.facts = Led-length c.in_ok-facts.ensures.led in
    omega arith

pub returns-then-as_slice-known : goal.returns-then-as_slice-known
returns-then-as_slice-known c =
    let listed : c.as_slice.result.now ≡ rules_of c.args.code.now = cc (c.as_slice.ensures, c.rules.view_is, c.in_ok-rules.ensures) in
    let known : length c.as_slice-known.result.now ≡ length c.loop-rules.facts = ap length c.as_slice-known.ensures in
    let now : length c.as_slice-in-loop-rules.result.now ≡ length c.in_ok-facts.facts = ap length c.as_slice-in-loop-rules.ensures in
    let no_more : length c.in_ok-facts.facts ≤ length c.loop-rules.facts = omega arith in
    IsGraph-at_end c.args.code.now c.loop-rules.facts c.in_ok-facts.facts c.loop-rules.invariant
    (subst (λ (rules : List Rule). Led rules c.loop-rules.facts c.in_ok-facts.facts) listed c.in_ok-facts.ensures.led)
    no_more
    (subst (λ (rules : List Rule). (f : Fact) → GivenBy rules c.loop-rules.facts f → Contains c.in_ok-facts.facts f) listed c.in_ok-facts.ensures.all)
