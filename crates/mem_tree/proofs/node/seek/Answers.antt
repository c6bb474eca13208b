use Rattle.std.proofs.lemmas.Fn.{always_returns_same}
use Rattle.vfs_model.specs.Paths.{name_order}
use Rattle.mem_tree.specs.declared.node.Child.{Child}
use Rattle.mem_tree.proofs.SeekLemmas.{sought}
use Rattle.mem_tree.proofs.node.seek.Goals as goal

pub returns : goal.returns
returns c = sought c.args.case c.args.children.now c.args.name.now c.binary_search_by.result c.requires c.binary_search_by.ensures.bound (c.binary_search_by.ensures.position (λ (y : Child). name_order c.args.case y.name c.args.name.now) (always_returns_same _ _ _ (λ a r f' k. (k.met.1, λ j. (k.met.0.0 j, k.met.0.1 j)))))
