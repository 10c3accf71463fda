use Rattle.mdg_site.proofs.RuleLemmas.{given_at_less, gives_less}
use Rattle.mdg_site.proofs.laws.law_rules.Goals as goal

pub returns-clause-rules : goal.returns-clause-rules
returns-clause-rules c p F G w row node h = gives_less p F G w row node h

pub returns-clause-sites : goal.returns-clause-sites
returns-clause-sites c l s F G w row node h = given_at_less l s F G w row node h
