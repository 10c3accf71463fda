use Rattle.mdg_scan.specs.Answer.{IsAnswer, asks}
use Rattle.mdg_scan.specs.Scan.{IsSomeReply, TellsFailedRead}
use Rattle.mdg_scan.specs.CommandLine.{texts_of}
use Rattle.mdg_scan.proofs.HeldAnswers.{IsWhole-no_fault, written_whole, written_where_told}
use Rattle.mdg_scan.proofs.command.scan.Goals as goal

pub returns-in-Ok-write_whole-clause-written : goal.returns-in-Ok-write_whole-clause-written
returns-in-Ok-write_whole-clause-written g c =
    λ _ _. written_whole (IsSomeReply (texts_of c.args.words.now) _ _) c.in-Ok.reply _ _ c.in-Ok.ensures.some_reply (rw (c.as_bytes.ensures.value, c.as_str.ensures) at c.in-Ok-write_whole.ensures.all)

pub returns-in-Ok-write_whole-clause-whole : goal.returns-in-Ok-write_whole-clause-whole
returns-in-Ok-write_whole-clause-whole g c =
    λ whole. written_where_told (g.F.Folder.held c.args.folder.now) (IsAnswer (texts_of c.args.words.now)) c.in-Ok.reply _ _ (c.in-Ok.ensures.answered (IsWhole-no_fault _ whole)) (rw (c.as_bytes.ensures.value, c.as_str.ensures) at c.in-Ok-write_whole.ensures.all)

pub returns-in-Ok-write_whole-clause-fault_path : goal.returns-in-Ok-write_whole-clause-fault_path
returns-in-Ok-write_whole-clause-fault_path g c =
    λ fault. written_where_told (g.F.Folder.held c.args.folder.now) (λ held. TellsFailedRead (asks (texts_of c.args.words.now) held) _ _) c.in-Ok.reply _ _ (c.in-Ok.ensures.failed_read fault) (rw (c.as_bytes.ensures.value, c.as_str.ensures) at c.in-Ok-write_whole.ensures.all)
