use Rattle.mdg_site.proofs.LeastLemmas.{graph_of}
use Rattle.mdg_site.proofs.laws.law_graph.Goals as goal

pub returns : goal.returns
returns c l F g = graph_of l F g
