use Rattle.std.proofs.Common.{◌≡◌, ap, arith}
use Rattle.mdg_read.specs.Reference.{expr_at, stmt_at}
use Rattle.mdg_read.proofs.Fuel.{deeper}
use Rattle.mdg_read.proofs.reader.+reader.Goals as goal

pub read_expr-returns-then-depth-eq0-clause-reads : goal.read_expr-returns-then-depth-eq0-clause-reads
unfolding expr_at
read_expr-returns-then-depth-eq0-clause-reads t c = let none : c.args.depth ≡ 0 = omega arith in ap (λ n. expr_at c.args.tokens.now n c.args.production c.args.at) none

pub read_expr-returns-clause-reads : goal.read_expr-returns-clause-reads
unfolding expr_at
read_expr-returns-clause-reads t c = rw (deeper (λ n. expr_at c.args.tokens.now n c.args.production c.args.at) c.args.depth (omega arith)) c.any_expression.ensures.reads

pub read_stmt-returns-then-depth-eq0-clause-reads : goal.read_stmt-returns-then-depth-eq0-clause-reads
unfolding expr_at
read_stmt-returns-then-depth-eq0-clause-reads t c = let none : c.args.depth ≡ 0 = omega arith in ap (λ n. stmt_at c.args.tokens.now n c.args.top c.args.at) none

pub read_stmt-returns-clause-reads : goal.read_stmt-returns-clause-reads
unfolding expr_at
read_stmt-returns-clause-reads t c = rw (deeper (λ n. stmt_at c.args.tokens.now n c.args.top c.args.at) c.args.depth (omega arith)) c.statement.ensures.reads
