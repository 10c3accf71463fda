use Rattle.std.proofs.Common.{arith, refl, true, false, ◌≡◌, ◌<◌, ◌⊎◌, ◌∙◌, ⊎_elim, sym, subst, get_or, ℕ}
use Rattle.std.specs.Prelude.{Contains}
use Rattle.mdg_scan.proofs.FlowLemmas.{common_found, common_none, common_default}
use Rattle.mdg_scan.proofs.first.flow.have_common.Goals as goal

pub returns-then-has : goal.returns-then-has
returns-then-has c = (
  λ _. common_found c.args.facts.now c.row-fact-items.result.now c.args.row c.args.other c.row-fact-items.ensures c.loop-fact.fact-index _ c.loop-fact-test.true (c.has.ensures.0 c.if-has.true),
  λ _. refl,
)

pub loop-fact-preserved : goal.loop-fact-preserved
loop-fact-preserved c = λ k d below there.
    ⊎_elim (λ (before : k < c.loop-fact.fact-index). c.loop-fact.invariant k d before there) (λ (is : k ≡ c.loop-fact.fact-index).
    let P : ℕ → Type 0 = λ n. Contains c.args.facts.now (record { row = c.args.other; node = (get_or c.row-fact-items.result.now n d).node }) in
    let no : true ≡ false = sym (c.has.ensures.1 (common_default c.args.facts.now c.row-fact-items.result.now c.args.other c.loop-fact.fact-index d _ c.loop-fact-test.true (subst P is there))) ∙ c.if-has.false in
    grind arith) (let s : (k < c.loop-fact.fact-index) ⊎ (k ≡ c.loop-fact.fact-index) = grind (arith, below) in s)

pub returns : goal.returns
returns c = (
  λ (no : false ≡ true). grind arith,
  λ common. absurd (common_none c.args.facts.now c.row-fact-items.result.now c.args.row c.args.other c.row-fact-items.ensures (λ k d below. c.loop-fact.invariant k d (omega (arith, c.loop-fact-test.false))) common),
)
