use Rattle.std.proofs.Common.{sym, subst}
use Rattle.mdg_pack.specs.ModuleResolution.{probed}
use Rattle.mdg_pack.specs.Effects.{Did, folder_view}
use Rattle.mdg_pack.specs.declared.module_table.ModuleTable.{ModuleTable}
use Rattle.std.specs.Prelude.{None}
use Rattle.mdg_pack.proofs.ProbeLemmas.{did_absent, too_long, probe_new, read_failed}
use Rattle.mdg_pack.proofs.module_resolution.read_candidate.Goals as goal

pub returns-in_ok-add_absent-in-Ok-Absent-clause-answers : goal.returns-in_ok-add_absent-in-Ok-Absent-clause-answers
returns-in_ok-add_absent-in-Ok-Absent-clause-answers g c =
    let before = folder_view (g.F.Folder.held c.args.folder.now) (g.F.Folder.reads c.args.folder.now) (g.F.Folder.faults c.args.folder.now) in
    let after = folder_view (g.F.Folder.held c.read.new.self) (g.F.Folder.reads c.read.new.self) (g.F.Folder.faults c.read.new.self) in
    let P : ModuleTable → Type 0 = λ s. Did (λ given. probed given c.args.table.now c.args.path.now) before after c.args.table.now s None in
    subst P (sym c.in_ok-add_absent-in-Ok-Absent.ensures)
    (did_absent before after c.args.table.now c.args.path.now c.requires.sound c.requires.saw c.requires.new c.read.ensures.counted (rw c.in-Ok-Absent.field-0-is at c.in-Ok-Absent.ensures.given))

pub returns-in_ok-of-in-Ok-TooLong-clause-answers : goal.returns-in_ok-of-in-Ok-TooLong-clause-answers
returns-in_ok-of-in-Ok-TooLong-clause-answers g c =
    let before = folder_view (g.F.Folder.held c.args.folder.now) (g.F.Folder.reads c.args.folder.now) (g.F.Folder.faults c.args.folder.now) in
    let after = folder_view (g.F.Folder.held c.read.new.self) (g.F.Folder.reads c.read.new.self) (g.F.Folder.faults c.read.new.self) in (
      tt,
      too_long before after c.args.table.now c.args.path.now c.requires.sound c.requires.saw c.requires.new c.read.ensures.counted c.in_ok-of-in-Ok-TooLong.field-0 c.in_ok-of-in-Ok-TooLong.ensures
          (rw c.in-Ok-TooLong.field-0-is at c.in-Ok-TooLong.ensures.given),
    )

pub returns-in-Ok-Bytes-clause-answers : goal.returns-in-Ok-Bytes-clause-answers
returns-in-Ok-Bytes-clause-answers g c =
    let before = folder_view (g.F.Folder.held c.args.folder.now) (g.F.Folder.reads c.args.folder.now) (g.F.Folder.faults c.args.folder.now) in
    let after = folder_view (g.F.Folder.held c.read.new.self) (g.F.Folder.reads c.read.new.self) (g.F.Folder.faults c.read.new.self) in
    probe_new before after c.args.table.now c.register.new.table c.args.path.now c.in-Ok-Bytes.bytes c.register.result c.requires.sound c.requires.saw c.requires.new c.read.ensures.counted
    (rw c.in-Ok-Bytes.field-0-is at c.in-Ok-Bytes.ensures.within) (rw c.in-Ok-Bytes.field-0-is at c.in-Ok-Bytes.ensures.given) c.register.ensures

pub returns-in_ok-of-in-Err-Failed-clause-answers : goal.returns-in_ok-of-in-Err-Failed-clause-answers
returns-in_ok-of-in-Err-Failed-clause-answers g c =
    let before = folder_view (g.F.Folder.held c.args.folder.now) (g.F.Folder.reads c.args.folder.now) (g.F.Folder.faults c.args.folder.now) in
    let after = folder_view (g.F.Folder.held c.read.new.self) (g.F.Folder.reads c.read.new.self) (g.F.Folder.faults c.read.new.self) in
    (c.read.ensures.cause.failed cc, read_failed before after c.args.table.now c.args.path.now c.requires.sound c.requires.saw c.requires.new c.read.ensures.counted c.in_ok-of-in-Err-Failed.field-0 c.in_ok-of-in-Err-Failed.ensures)
