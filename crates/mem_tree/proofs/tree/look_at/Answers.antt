use Rattle.std.proofs.Common.{None, Some, ◌∙◌, ap}
use Rattle.vfs_model.specs.Paths.{place}
use Rattle.vfs_model.specs.Scanning.{SeesDir}
use Rattle.mem_tree.specs.FileTree.{Leaf, Branch}
use Rattle.mem_tree.proofs.LookLemmas.{look-tree}
use Rattle.mem_tree.proofs.tree.look_at.Goals as goal

pub returns-in-Missing : goal.returns-in-Missing
returns-in-Missing c = look-tree c.args.case c.args.root.now (place c.args.case c.args.names.now) None c.requires c.in-Missing.ensures.found

pub returns-in_ok-bytes-in-File : goal.returns-in_ok-bytes-in-File
returns-in_ok-bytes-in-File c =
    ap Rattle.vfs_model.specs.Scanning.SeesFile c.in_ok-bytes-in-File.ensures
    ∙ look-tree c.args.case c.args.root.now (place c.args.case c.args.names.now) (Some (Leaf c.in-File.bytes.now)) c.requires c.in-File.ensures.found

pub returns-in_ok-names-in-Dir : goal.returns-in_ok-names-in-Dir
returns-in_ok-names-in-Dir c =
    ap SeesDir c.in_ok-names-in-Dir.ensures
    ∙ look-tree c.args.case c.args.root.now (place c.args.case c.args.names.now) (Some (Branch c.in-Dir.directory.now)) c.requires c.in-Dir.ensures.found
