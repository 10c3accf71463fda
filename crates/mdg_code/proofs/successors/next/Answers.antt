use Rattle.std.proofs.Common.{sym, subst}
use Rattle.mdg_code.specs.declared.sites.Next.{Next}
use Rattle.mdg_code.specs.Successors.{StaysInFunction}
use Rattle.mdg_code.proofs.FunctionLemmas.{line_of, stays}
use Rattle.mdg_code.proofs.successors.next.Goals as goal

pub returns-clause-same_function : goal.returns-clause-same_function
returns-clause-same_function c = subst (λ (next : Next). StaysInFunction c.args.code.now c.args.site next) (sym c.next_of.ensures)
    (stays c.args.code.now c.requires.valid c.args.site c.statement_at.result.now
    (line_of c.args.code.now c.args.site.0 c.statement_at.result.now c.statement_at.ensures))
