use Rattle.std.proofs.Common.{◌≡◌, ◌∙◌, ◌++◌, ◌+◌, [], take, drop, sym, ap, append-nil}
use Rattle.vfs_model.specs.Paths.{place}
use Rattle.vfs_model.specs.Snapshot.{Missing}
use Rattle.vfs_model.specs.Retained.{dirs_from}
use Rattle.snapshot_tree.specs.declared.snapshot.Snapshot.{Snapshot as SnapshotValue}
use Rattle.snapshot_tree.specs.Meaning.{meaning_of}
use Rattle.snapshot_tree.specs.Pieces.{places_of}
use Rattle.snapshot_tree.proofs.PiecesLemmas.{dirs_from-missing, dirs_from-file, dirs-step}
use Rattle.snapshot_tree.proofs.snapshot.Snapshot.dirs_above.Goals as goal

pub returns-in-Missing : goal.returns-in-Missing
returns-in-Missing c =
    let at = place c.args.case c.args.e.now in
    let ends : dirs_from c.args.case (take c.loop-depth.depth at) (meaning_of c.loop-depth.here.now) (drop c.loop-depth.depth at) ≡ [] =
    ap (λ (s : SnapshotValue). dirs_from c.args.case (take c.loop-depth.depth at) (meaning_of s) (drop c.loop-depth.depth at)) c.in-Missing.is ∙ dirs_from-missing c.args.case _ _ in
    sym (append-nil (places_of c.args.case c.loop-depth.dirs.items)) ∙ ap (λ l. places_of c.args.case c.loop-depth.dirs.items ++ l) (sym ends) ∙ c.loop-depth.invariant

pub returns-in-File : goal.returns-in-File
returns-in-File c =
    let at = place c.args.case c.args.e.now in
    let ends : dirs_from c.args.case (take c.loop-depth.depth at) (meaning_of c.loop-depth.here.now) (drop c.loop-depth.depth at) ≡ [] =
    ap (λ (s : SnapshotValue). dirs_from c.args.case (take c.loop-depth.depth at) (meaning_of s) (drop c.loop-depth.depth at)) c.in-File.is ∙ dirs_from-file c.args.case _ _ _ in
    sym (append-nil (places_of c.args.case c.loop-depth.dirs.items)) ∙ ap (λ l. places_of c.args.case c.loop-depth.dirs.items ++ l) (sym ends) ∙ c.loop-depth.invariant

pub loop-depth-preserved : goal.loop-depth-preserved
loop-depth-preserved c =
    let at = place c.args.case c.args.e.now in
    dirs-step c.args.case c.args.e.now c.loop-depth.depth c.name.result.now c.in-Dir.directory (meaning_of c.in-Some.child.now) c.loop-depth.dirs.items c.push.new.self.items c.in_ok-dir.dir c.name.ensures c.in_ok-dir.ensures c.in_ok-push.ensures.items c.in-Some.ensures
    ∙ ap (λ (s : SnapshotValue). places_of c.args.case c.loop-depth.dirs.items ++ dirs_from c.args.case (take c.loop-depth.depth at) (meaning_of s) (drop c.loop-depth.depth at)) (sym c.in-Dir.is)
    ∙ c.loop-depth.invariant

pub returns-in-None : goal.returns-in-None
returns-in-None c =
    let at = place c.args.case c.args.e.now in
    let more = places_of c.args.case c.push.new.self.items in
    sym (append-nil more)
    ∙ ap (λ l. more ++ l) (sym (dirs_from-missing c.args.case (take (c.loop-depth.depth + 1) at) (drop (c.loop-depth.depth + 1) at)))
    ∙ dirs-step c.args.case c.args.e.now c.loop-depth.depth c.name.result.now c.in-Dir.directory Missing c.loop-depth.dirs.items c.push.new.self.items c.in_ok-dir.dir c.name.ensures c.in_ok-dir.ensures c.in_ok-push.ensures.items c.in-None.ensures
    ∙ ap (λ (s : SnapshotValue). places_of c.args.case c.loop-depth.dirs.items ++ dirs_from c.args.case (take c.loop-depth.depth at) (meaning_of s) (drop c.loop-depth.depth at)) (sym c.in-Dir.is)
    ∙ c.loop-depth.invariant
