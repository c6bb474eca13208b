use Rattle.std.proofs.Common.{◌≡◌, [], ◌++◌, map, take, drop}
use Rattle.vfs_model.specs.Fingerprint.{all_entries}
use Rattle.fingerprint_norms.specs.Meaning.{entry_of, seen_of}
use Rattle.fingerprint_norms.specs.Walk.{places_onto}
use Rattle.fingerprint_norms.proofs.print.all_entries.Given as goal

-- the entries so far, and those of the inputs that are left
abbrev pub invariant-loop-i : goal.invariant-loop-i
invariant-loop-i l =
    map entry_of l.all.items ++ all_entries l.case (places_onto l.case (take l.i (map seen_of l.seen)) []) (drop l.i (map seen_of l.seen))
    ≡ all_entries l.case [] (map seen_of l.seen)
