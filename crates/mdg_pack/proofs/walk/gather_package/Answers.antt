use Rattle.mdg_pack.specs.Effects.{folder_view}
use Rattle.mdg_pack.proofs.GatherLemmas.{loaded_by, manifest_failed}
use Rattle.mdg_pack.proofs.walk.gather_package.Goals as goal

pub returns-in-Ok-clause-answers : goal.returns-in-Ok-clause-answers
returns-in-Ok-clause-answers g c =
    let before = folder_view (g.F.Folder.held c.args.folder.now) (g.F.Folder.reads c.args.folder.now) (g.F.Folder.faults c.args.folder.now) in
    let mid = folder_view (g.F.Folder.held c.read.new.self) (g.F.Folder.reads c.read.new.self) (g.F.Folder.faults c.read.new.self) in
    let after = folder_view (g.F.Folder.held c.load_with_manifest.new.folder) (g.F.Folder.reads c.load_with_manifest.new.folder) (g.F.Folder.faults c.load_with_manifest.new.folder) in
    loaded_by c.args.profile.now before mid after c.in-Ok.read (record { held = c.read.ensures.same; faults = c.read.ensures.cause.later }) c.read.ensures.counted c.in-Ok.ensures.within c.in-Ok.ensures.given c.load_with_manifest.result c.load_with_manifest.ensures.answers

pub returns-in_ok-of-in-Err-Failed-clause-answers : goal.returns-in_ok-of-in-Err-Failed-clause-answers
returns-in_ok-of-in-Err-Failed-clause-answers g c =
    let before = folder_view (g.F.Folder.held c.args.folder.now) (g.F.Folder.reads c.args.folder.now) (g.F.Folder.faults c.args.folder.now) in
    let after = folder_view (g.F.Folder.held c.read.new.self) (g.F.Folder.reads c.read.new.self) (g.F.Folder.faults c.read.new.self) in
    manifest_failed c.args.profile.now before after c.in_ok-of-in-Err-Failed.field-0 c.in_ok-of-in-Err-Failed.ensures (c.read.ensures.cause.failed cc) c.read.ensures.counted
