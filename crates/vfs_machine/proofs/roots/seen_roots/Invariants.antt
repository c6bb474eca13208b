use Rattle.std.proofs.Common.{◌≡◌, ◌++◌, map, drop}
use Rattle.vfs_model.specs.State.{seen_inputs}
use Rattle.fingerprint_norms.specs.Meaning.{input_of, seen_of}
use Rattle.vfs_machine.proofs.roots.seen_roots.Given as goal

-- what was seen so far, and what is to be seen from here on
abbrev pub invariant-loop-input : goal.invariant-loop-input
invariant-loop-input g l =
    map seen_of l.seen.items ++ seen_inputs l.fn.vfs.case l.fn.vfs.retained.pairs (map input_of (drop l.input-index l.fn.inputs))
    ≡ seen_inputs l.fn.vfs.case l.fn.vfs.retained.pairs (map input_of l.fn.inputs)
