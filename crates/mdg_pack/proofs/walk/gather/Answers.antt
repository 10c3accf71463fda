use Rattle.mdg_pack.specs.Effects.{folder_view}
use Rattle.mdg_pack.proofs.GatherLemmas.{answered, packaged, rose_where, some_walk, walked}
use Rattle.mdg_pack.proofs.walk.gather.Goals as goal

pub returns-clause-answered : goal.returns-clause-answered
returns-clause-answered g c =
    let before = folder_view (g.F.Folder.held c.args.folder.now) (g.F.Folder.reads c.args.folder.now) (g.F.Folder.faults c.args.folder.now) in
    let after = folder_view (g.F.Folder.held c.gather_package.new.folder) (g.F.Folder.reads c.gather_package.new.folder) (g.F.Folder.faults c.gather_package.new.folder) in
    answered c.args.profile.now before after c.gather_package.result c.gather_package.ensures.answers

pub returns-clause-fault : goal.returns-clause-fault
returns-clause-fault g c =
    let before = folder_view (g.F.Folder.held c.args.folder.now) (g.F.Folder.reads c.args.folder.now) (g.F.Folder.faults c.args.folder.now) in
    let after = folder_view (g.F.Folder.held c.gather_package.new.folder) (g.F.Folder.reads c.gather_package.new.folder) (g.F.Folder.faults c.gather_package.new.folder) in
    rose_where c.args.profile.now before after c.gather_package.result c.gather_package.ensures.answers

pub returns-clause-files : goal.returns-clause-files
returns-clause-files g c =
    let before = folder_view (g.F.Folder.held c.args.folder.now) (g.F.Folder.reads c.args.folder.now) (g.F.Folder.faults c.args.folder.now) in
    let after = folder_view (g.F.Folder.held c.gather_package.new.folder) (g.F.Folder.reads c.gather_package.new.folder) (g.F.Folder.faults c.gather_package.new.folder) in
    packaged c.args.profile.now before after c.gather_package.result c.gather_package.ensures.answers

pub returns-clause-some_walk : goal.returns-clause-some_walk
returns-clause-some_walk g c =
    let before = folder_view (g.F.Folder.held c.args.folder.now) (g.F.Folder.reads c.args.folder.now) (g.F.Folder.faults c.args.folder.now) in
    let after = folder_view (g.F.Folder.held c.gather_package.new.folder) (g.F.Folder.reads c.gather_package.new.folder) (g.F.Folder.faults c.gather_package.new.folder) in
    some_walk c.args.profile.now before after c.gather_package.result c.gather_package.ensures.answers

pub returns-clause-walked : goal.returns-clause-walked
returns-clause-walked g c =
    let before = folder_view (g.F.Folder.held c.args.folder.now) (g.F.Folder.reads c.args.folder.now) (g.F.Folder.faults c.args.folder.now) in
    let after = folder_view (g.F.Folder.held c.gather_package.new.folder) (g.F.Folder.reads c.gather_package.new.folder) (g.F.Folder.faults c.gather_package.new.folder) in
    walked c.args.profile.now before after c.gather_package.result c.gather_package.ensures.answers
