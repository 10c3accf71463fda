use Rattle.std.proofs.Common.{arith}
use Rattle.mdg_read.proofs.Complete.{stmt_complete}
use Rattle.mdg_read.proofs.Sound.{stmt_sound}
use Rattle.mdg_read.proofs.laws.law_parser.Goals as goal

pub returns-clause-spelled : goal.returns-clause-spelled
returns-clause-spelled c = λ ts n top i r e. (stmt_sound ts n top i r e).spells

pub returns-clause-low : goal.returns-clause-low
returns-clause-low c = λ ts n top i r e. let f = stmt_sound ts n top i r e in omega (arith, f.tall, f.low)

pub returns-clause-all : goal.returns-clause-all
returns-clause-all c = λ ts n top t i j d low. stmt_complete ts n top t i j d low
