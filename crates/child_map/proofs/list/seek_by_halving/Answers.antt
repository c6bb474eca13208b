use Rattle.std.proofs.lemmas.Fn.{always_returns_same}
use Rattle.vfs_model.specs.Paths.{name_order}
use Rattle.child_map.specs.KeyNames.{first_name}
use Rattle.child_map.proofs.EntryLemmas.{sought}
use Rattle.child_map.proofs.list.seek_by_halving.Goals as goal

pub returns : goal.returns
returns g c = sought c.args.case c.args.entries.now c.args.name.now c.binary_search_by.result c.requires c.binary_search_by.ensures.bound (c.binary_search_by.ensures.position (λ e. name_order c.args.case (first_name e.key) c.args.name.now) (always_returns_same _ _ _ (λ a r f' k. (k.met.1, λ j. (k.met.0.0 j, k.met.0.1 j)))))
