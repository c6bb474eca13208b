use Rattle.std.specs.List.{slice_split}
use Rattle.std.specs.Option.{option_copied}
use Rattle.vfs_path.specs.Texts.{is_slash, parts_after}
use Rattle.vfs_path.proofs.Segments.{IsBetween, left_length}
use Rattle.vfs_path.proofs.text.names_between.Given as goal

abbrev pub invariant-loop-left : goal.invariant-loop-left
invariant-loop-left l = IsBetween l.names.items (parts_after (option_copied l.left)) (slice_split is_slash l.text)

abbrev pub decreases-loop-left : goal.decreases-loop-left
decreases-loop-left l = left_length (option_copied l.left)
