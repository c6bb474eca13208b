use Rattle.std.proofs.Common.{◌∙◌, sym, ap, Some}
use Rattle.vfs_model.specs.Paths.{folded_name}
use Rattle.mem_tree.specs.FileTree.{child}
use Rattle.mem_tree.specs.Nodes.{named_of}
use Rattle.mem_tree.proofs.SeekLemmas.{here-child, gap-child, listed-ordered}
use Rattle.mem_tree.proofs.node.Listing.child.Goals as goal

pub returns-in-Ok-clause-child : goal.returns-in-Ok-clause-child
returns-in-Ok-clause-child c =
    ap (λ d. Some (named_of d)) c.index-children-i.is
    ∙ sym (here-child c.args.case c.children-children.result.now c.args.name.now c.in-Ok.i c.index-children-i.result (c.in-Ok.ensures))
    ∙ ap (λ cs. child c.args.case cs (folded_name c.args.case c.args.name.now)) c.children-children.ensures

pub returns-in-Ok-clause-ordered : goal.returns-in-Ok-clause-ordered
returns-in-Ok-clause-ordered c = listed-ordered c.args.case c.children-children.result.now c.args.self.now c.in-Ok.i c.index-children-i.result c.children-children.ensures c.requires.1 (c.in-Ok.ensures).within c.index-children-i.is

pub returns-in-Err-clause-child : goal.returns-in-Err-clause-child
returns-in-Err-clause-child c =
    sym (gap-child c.args.case c.children-children.result.now c.args.name.now c.in-Err.field-0 (c.in-Err.ensures))
    ∙ ap (λ cs. child c.args.case cs (folded_name c.args.case c.args.name.now)) c.children-children.ensures
