use Rattle.std.proofs.Common.{◌≡◌, map, take}
use Rattle.std.specs.List.{flat_map}
use Rattle.vfs_model.specs.Fingerprint.{entry_bytes}
use Rattle.fingerprint_norms.specs.Meaning.{entry_of}
use Rattle.fingerprint_norms.proofs.bytes.bytes_of.Given as goal

-- the bytes of the entries so far
abbrev pub invariant-loop-entry : goal.invariant-loop-entry
invariant-loop-entry l = l.bytes.items ≡ flat_map entry_bytes (map entry_of (take l.entry-index l.entries))
