use Rattle.mdg_text.proofs.lexeme.+punctuator_at.Given as goal

abbrev pub decreases-punctuator_at : goal.decreases-punctuator_at
decreases-punctuator_at l = l.most
