use Rattle.std.proofs.Common.{sym, ap, ◌∙◌, Err}
use Rattle.std.proofs.lemmas.Result.{IfOk-weaker}
use Rattle.mdg_scan.specs.CommandLine.{texts_of}
use Rattle.mdg_scan.proofs.HeldAnswers.{IsSomeReply-usage, IsSomeReply-not_built, IsSomeReply-file, IsSomeReply-fault, IsToldAnswer-file, TellsFailedRead-scan}
use Rattle.mdg_scan.proofs.command.reply_to.Goals as goal

pub returns-in-Usage-clause-some_reply : goal.returns-in-Usage-clause-some_reply
returns-in-Usage-clause-some_reply g c =
    IfOk-weaker c.reply_by_usage.result _ _ (λ reply is. IsSomeReply-usage (texts_of c.args.words.now) _ _ reply (sym c.in_ok-task_by.ensures ∙ c.in-Usage.is) is) c.reply_by_usage.ensures

pub returns-in-NotBuilt-clause-some_reply : goal.returns-in-NotBuilt-clause-some_reply
returns-in-NotBuilt-clause-some_reply g c =
    IfOk-weaker c.refused.result _ _ (λ reply is. IsSomeReply-not_built (texts_of c.args.words.now) _ _ reply (sym c.in_ok-task_by.ensures ∙ c.in-NotBuilt.is) is) c.refused.ensures

pub returns-in-Ok-clause-answered : goal.returns-in-Ok-clause-answered
returns-in-Ok-clause-answered g c =
    IfOk-weaker c.answer_of_fetched.result _ _ (λ reply answers. λ _. IsToldAnswer-file (texts_of c.args.words.now) (g.F.Folder.held c.args.folder.now) reply c.in-Ok.fetched (sym c.in_ok-task_by.ensures ∙ c.in-Scan.is) c.in-Ok.ensures.given answers) c.answer_of_fetched.ensures

pub returns-in-Ok-clause-some_reply : goal.returns-in-Ok-clause-some_reply
returns-in-Ok-clause-some_reply g c =
    IfOk-weaker c.answer_of_fetched.result _ _ (λ reply answers. IsSomeReply-file (texts_of c.args.words.now) _ _ reply c.in-Ok.fetched (sym c.in_ok-task_by.ensures ∙ c.in-Scan.is) c.in-Ok.ensures.within answers) c.answer_of_fetched.ensures

pub returns-in-Err-Failed-clause-some_reply : goal.returns-in-Err-Failed-clause-some_reply
returns-in-Err-Failed-clause-some_reply g c =
    IfOk-weaker c.read_fault.result _ _ (λ reply is. IsSomeReply-fault (texts_of c.args.words.now) _ _ reply (sym c.in_ok-task_by.ensures ∙ c.in-Scan.is) (c.read.ensures.cause.failed (c.in-Err-Failed.is ∙ ap Err c.in-Err-Failed.field-0-is)) is) c.read_fault.ensures

pub returns-in-Err-Failed-clause-failed_read : goal.returns-in-Err-Failed-clause-failed_read
returns-in-Err-Failed-clause-failed_read g c =
    IfOk-weaker c.read_fault.result _ _ (λ reply is. λ _. TellsFailedRead-scan (texts_of c.args.words.now) (g.F.Folder.held c.args.folder.now) _ _ reply (sym c.in_ok-task_by.ensures ∙ c.in-Scan.is) c.read.ensures.counted is) c.read_fault.ensures
