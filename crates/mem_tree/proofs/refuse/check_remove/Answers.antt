use Rattle.std.proofs.Common.{◌∙◌, sym}
use Rattle.mem_tree.specs.Found.{tree_found}
use Rattle.mem_tree.proofs.TreeLemmas.{not-root}
use Rattle.mem_tree.proofs.RefusalLemmas.{remove-by}
use Rattle.mem_tree.proofs.refuse.check_remove.Goals as goal

pub returns : goal.returns
returns c =
    c.refuse_if.ensures
    ∙ remove-by c.args.case c.args.root.now c.args.path.now (tree_found c.at.result) c.is_missing.result c.requires (not-root c.args.path.now (sym c.is_empty.ensures ∙ c.if-is_empty.false)) c.at.ensures.found c.is_missing.ensures
