use Rattle.std.proofs.Common.{List, sym, ◌∙◌, ap}
use Rattle.mdg_code.specs.declared.code.SharedRow.{SharedRow}
use Rattle.mdg_code.specs.Sharing.{member_of}
use Rattle.mdg_code.proofs.SearchLemmas.{member_found, member_missed}
use Rattle.mdg_code.proofs.shared.member_of.Goals as goal

pub returns-in-Some-clause-of_base : goal.returns-in-Some-clause-of_base
returns-in-Some-clause-of_base c = member_found c.args.code.now.shared c.args.base c.args.name.now c.in-Some.place
    (sym (c.in-Some.ensures ∙ ap (λ (rows : List SharedRow). member_of rows c.args.base c.args.name.now) c.as_slice.ensures))

pub returns-in-None-clause-of_base : goal.returns-in-None-clause-of_base
returns-in-None-clause-of_base c = member_missed c.args.code.now.shared c.args.base c.args.name.now
    (sym (c.in-None.ensures ∙ ap (λ (rows : List SharedRow). member_of rows c.args.base c.args.name.now) c.as_slice.ensures))
