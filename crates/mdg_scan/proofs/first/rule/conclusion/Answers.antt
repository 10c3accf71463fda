use Rattle.mdg_scan.proofs.first.rule.conclusion.Goals as goal

pub returns-in-Carry-clause-all : goal.returns-in-Carry-clause-all
returns-in-Carry-clause-all c = rw c.in-Carry.is c.carried.ensures.all

pub returns-in-Property-clause-all : goal.returns-in-Property-clause-all
returns-in-Property-clause-all c = rw c.in-Property.is c.of_property.ensures.all

pub returns-in-TakeOver-clause-all : goal.returns-in-TakeOver-clause-all
returns-in-TakeOver-clause-all c = rw c.in-TakeOver.is c.taken_over.ensures.all

pub returns-in-Alias-clause-all : goal.returns-in-Alias-clause-all
returns-in-Alias-clause-all c = rw c.in-Alias.is c.aliased.ensures.all
