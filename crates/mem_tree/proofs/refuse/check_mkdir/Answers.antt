use Rattle.std.proofs.Common.{◌≡◌, false, Some, ◌∙◌, sym, ap}
use Rattle.std.proofs.lemmas.Result.{err_from_is_err_and}
use Rattle.vfs_model.specs.Paths.{folded_name, place}
use Rattle.vfs_model.specs.Edit.{is_root, parent}
use Rattle.mem_tree.specs.FileTree.{Branch, child, at_root}
use Rattle.mem_tree.specs.Refused.{no_directory}
use Rattle.mem_tree.specs.Nodes.{named_of}
use Rattle.mem_tree.proofs.TreeLemmas.{not-root}
use Rattle.mem_tree.proofs.RefusalLemmas.{mkdir-no_directory, mkdir-new, mkdir-there}
use Rattle.mem_tree.proofs.refuse.check_mkdir.Goals as goal

pub returns-in_err-directory : goal.returns-in_err-directory
returns-in_err-directory c =
    let below : is_root c.args.path.now ≡ false = not-root c.args.path.now (sym c.is_empty.ensures ∙ c.if-is_empty.false) in
    let p = err_from_is_err_and c.from_residual.result c.from_residual.ensures.1 in
    rw (p.1, p.2) (mkdir-no_directory c.args.case c.args.root.now c.args.path.now _ c.requires below (ap (λ x. no_directory (at_root c.args.case c.args.root.now (place c.args.case x))) (sym c.parent.ensures) ∙ c.in_err-directory.ensures.refused))

pub returns-in-None : goal.returns-in-None
returns-in-None c =
    let below : is_root c.args.path.now ≡ false = not-root c.args.path.now (sym c.is_empty.ensures ∙ c.if-is_empty.false) in
    let dir : at_root c.args.case c.args.root.now (place c.args.case (parent c.args.path.now)) ≡ Some (Branch c.in_ok-directory.directory.now) = ap (λ x. at_root c.args.case c.args.root.now (place c.args.case x)) (sym c.parent.ensures) ∙ c.in_ok-directory.ensures.found in
    c.refuse_if.ensures ∙ mkdir-new c.args.case c.args.root.now c.in_ok-directory.directory.now c.args.path.now c.is_full.result c.requires below dir (c.in-None.ensures.child ∙ ap (λ n. child c.args.case c.in_ok-directory.directory.now (folded_name c.args.case n)) c.last.ensures) c.is_full.ensures

pub returns-in-Some : goal.returns-in-Some
returns-in-Some c =
    let below : is_root c.args.path.now ≡ false = not-root c.args.path.now (sym c.is_empty.ensures ∙ c.if-is_empty.false) in
    let dir : at_root c.args.case c.args.root.now (place c.args.case (parent c.args.path.now)) ≡ Some (Branch c.in_ok-directory.directory.now) = ap (λ x. at_root c.args.case c.args.root.now (place c.args.case x)) (sym c.parent.ensures) ∙ c.in_ok-directory.ensures.found in
    mkdir-there c.args.case c.args.root.now c.in_ok-directory.directory.now c.args.path.now (named_of c.in-Some.field-0.now) c.requires below dir (c.in-Some.ensures.child ∙ ap (λ n. child c.args.case c.in_ok-directory.directory.now (folded_name c.args.case n)) c.last.ensures)
