use Rattle.std.proofs.Common.{length, nat_le, sym, ap, ◌∙◌}
use Rattle.mem_tree.specs.FileTree.{names_of}
use Rattle.mem_tree.proofs.SeekLemmas.{length-names_of}
use Rattle.mem_tree.proofs.node.Listing.is_full.Goals as goal

pub returns : goal.returns
returns c = ap (nat_le 4096) (sym (length-names_of c.children.result.now) ∙ ap (λ cs. length (names_of cs)) c.children.ensures)
