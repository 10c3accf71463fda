use Rattle.std.proofs.Common.{Option, IfSome, sym, subst}
use Rattle.mdg_base.specs.declared.number.Site.{Site}
use Rattle.mdg_code.specs.Successors.{ComesBackAt}
use Rattle.mdg_code.proofs.FunctionLemmas.{comes_back, line_of}
use Rattle.mdg_code.proofs.successors.land_of_call.Goals as goal

pub returns-clause-same_function : goal.returns-clause-same_function
returns-clause-same_function c = subst (λ (land : Option Site). IfSome land (λ site. ComesBackAt c.args.code.now c.args.site site)) (sym c.land_of.ensures)
    (comes_back c.args.code.now c.requires.valid c.args.site c.statement_at.result.now
    (line_of c.args.code.now c.args.site.0 c.statement_at.result.now c.statement_at.ensures))
