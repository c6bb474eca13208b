use Rattle.std.proofs.Common.{◌≡◌, ◌++◌}
use Rattle.std.specs.Prelude.{filter, IfSome}
use Rattle.std.specs.Option.{option_copied}
use Rattle.vfs_io.specs.Listing.{is_name_told, names_told, parts_left}
use Rattle.vfs_io.proofs.ListingLemmas.{left_length}
use Rattle.vfs_io.proofs.listing.names_of.Given as goal

abbrev pub invariant-loop-left : goal.invariant-loop-left
invariant-loop-left g l = IfSome (g.S.Asked.told l.system) (λ standing. names_told standing l.text l.listing ≡ l.names.items ++ filter (is_name_told standing l.text) (parts_left (option_copied l.left)))

abbrev pub decreases-loop-left : goal.decreases-loop-left
decreases-loop-left g l = left_length (option_copied l.left)
