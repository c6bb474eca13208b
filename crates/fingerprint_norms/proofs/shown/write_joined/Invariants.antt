use Rattle.std.proofs.Common.{◌≡◌, [], ◌++◌, take, get_or}
use Rattle.vfs_path.specs.Texts.{slashed}
use Rattle.fingerprint_norms.proofs.shown.write_joined.Given as goal

-- the first name and so many of the others were written
abbrev pub invariant-loop-name : goal.invariant-loop-name
invariant-loop-name l = l.out.items ≡ l.fn.out.items ++ (get_or l.names 0 [] ++ slashed (take l.name-index l.more))
