use Rattle.std.proofs.Common.{◌∙◌, ap}
use Rattle.mem_tree.specs.FileTree.{world_of}
use Rattle.world_model.specs.Told.{is_root_alone}
use Rattle.mem_tree.proofs.CaseLemmas.{empty-alone}
use Rattle.mem_tree.proofs.node.Listing.is_empty.Goals as goal

pub returns : goal.returns
returns c = c.is_empty.ensures ∙ empty-alone c.children.result.now ∙ ap (λ cs. is_root_alone (world_of cs)) c.children.ensures
