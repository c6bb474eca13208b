use Rattle.std.proofs.Common.{◌≡◌, ◌++◌, take}
use Rattle.vfs_path.specs.Texts.{slashed}
use Rattle.vfs_path.proofs.text.write_slashed.Given as goal

abbrev pub invariant-loop-name : goal.invariant-loop-name
invariant-loop-name l = l.out.items ≡ l.fn.out.items ++ slashed (take l.name-index l.names)
