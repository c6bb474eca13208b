use Rattle.std.proofs.Common.{map, take}
use Rattle.std.specs.List.{AllByRecursion as Each}
use Rattle.vfs_model.specs.Paths.{IsShort}
use Rattle.vfs_model.specs.Fingerprint.{Input}
use Rattle.fingerprint_norms.specs.Meaning.{input_of}
use Rattle.vfs_machine.proofs.roots.ask_roots.Given as goal

-- the roots so far gave their word
abbrev pub invariant-loop-input : goal.invariant-loop-input
invariant-loop-input l = Each (λ (i : Input). IsShort i.root) (map input_of (take l.input-index l.fn.inputs))
