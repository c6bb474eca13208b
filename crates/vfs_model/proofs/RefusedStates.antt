-- States that are not sound, each in one way: what it is called is what is wrong with it.
use Rattle.std.proofs.Common.{Option, ◌≡◌, ℕ, ◌-◌, false, List, [], ◌∷◌, ◌++◌, length, refl, Some, None, replicate, arith}
use Rattle.vfs_model.specs.declared.Case.{Case}
use Rattle.vfs_model.specs.declared.Case.TheVariants.{Sensitive, Insensitive}
use Rattle.vfs_model.specs.Paths.{Path}
use Rattle.vfs_model.specs.World.{World}
use Rattle.vfs_model.specs.Snapshot.{Missing, Dir, Nothing, Child}
use Rattle.vfs_model.specs.Retained.{Pair}
use Rattle.vfs_model.specs.Scanning.{Scan, PartialSnapshot, Unread, FileRead, DirRead, NoChildren, PartialChild}
use Rattle.vfs_model.specs.Fingerprint.{Absolute, fingerprint}
use Rattle.vfs_model.specs.State.{State, KeptPrint}
use Rattle.vfs_model.specs.Sound.{IsSound}
use Rattle.vfs_model.proofs.Shorthand.{root, file, dir, deep, start, seen, A, a, b, d, f}

same_letter : (a b : ℕ) → Some (a ∷ []) ≡ Some (b ∷ []) → a ≡ b
same_letter a b e = cc

-- a state in which this waits and this is retained, known, read and kept; the other scans are closed
abbrev state : Case → World → List Path → List Pair → List Path → List (Option Scan) → List KeptPrint → State
state case world events pairs dirs scans kept = record {
  case = case;
  world = root ∷ world;
  pending = record { events = events; capacity = 4; mark = false };
  retained = record { pairs = pairs; dirs = dirs };
  past = [];
  scans = scans ++ replicate (16 - length scans) None;
  kept = kept;
}

-- a file was made, its event was lost, and no mark is set: it is retained as missing
abbrev retained_as_missing : State
retained_as_missing = state Sensitive (file (f ∷ []) [] ∷ []) [] (record { path = f ∷ []; snapshot = Missing } ∷ []) [] [] []

missing_where_a_file_is : IsSound retained_as_missing → ⊥
missing_where_a_file_is h = let same = (h.pairs.0 [] refl).same_kind in cc

-- a directory is retained whole, though a child of it was removed and that was delivered
abbrev left_complete : State
left_complete = state Sensitive (dir (d ∷ []) ∷ []) [] (record { path = d ∷ []; snapshot = Dir (Child a (Dir Nothing) Nothing) } ∷ []) [] [] []

directory_with_a_child_that_is_gone : IsSound left_complete → ⊥
directory_with_a_child_that_is_gone h = let same = (h.pairs.0 (a ∷ []) refl).same_kind in cc

-- a directory is retained without a child that it has
abbrev not_listed : State
not_listed = state Sensitive (dir (d ∷ []) ∷ dir (d ∷ a ∷ []) ∷ []) [] (record { path = d ∷ []; snapshot = Dir Nothing } ∷ []) [] [] []

directory_without_a_child_that_is_there : IsSound not_listed → ⊥
directory_without_a_child_that_is_there h = let same = (h.pairs.0 (a ∷ []) refl).same_kind in cc

-- so it is, and an event waits below the child: that excuses only what is at or below the event
abbrev event_below : State
event_below = state Sensitive (dir (d ∷ []) ∷ dir (d ∷ a ∷ []) ∷ []) ((d ∷ a ∷ b ∷ []) ∷ []) (record { path = d ∷ []; snapshot = Dir Nothing } ∷ []) [] [] []

event_below_is_no_excuse : IsSound event_below → ⊥
event_below_is_no_excuse h = let same = (h.pairs.0 (a ∷ []) refl).same_kind in cc

-- a child is retained as A, and is a in the world
abbrev other_spelling : State
other_spelling = state Insensitive (dir (d ∷ []) ∷ dir (d ∷ a ∷ []) ∷ []) [] (record { path = d ∷ []; snapshot = Dir (Child A (Dir Nothing) Nothing) } ∷ []) [] [] []

child_in_another_spelling : IsSound other_spelling → ⊥
child_in_another_spelling h = let same = same_letter 97 65 ((h.pairs.0 (a ∷ []) refl).same_spelling A refl) in omega arith

-- a directory is known, and there is none
abbrev known_gone : State
known_gone = state Sensitive [] [] [] ((d ∷ []) ∷ []) [] []

known_directory_that_is_gone : IsSound known_gone → ⊥
known_directory_that_is_gone h = let same = h.dirs.0 refl in cc

abbrev scan_of_d : PartialSnapshot → List (Option Scan)
scan_of_d s = Some (record { path = d ∷ []; begun_at = 0; partial = s }) ∷ []

-- a scan listed a child that it has still to read, and it is gone
abbrev left_gone : State
left_gone = state Sensitive (dir (d ∷ []) ∷ []) [] [] [] (scan_of_d (DirRead (PartialChild a Unread NoChildren))) []

listed_child_that_is_gone : IsSound left_gone → ⊥
listed_child_that_is_gone h = let same = (h.scans.0.tells refl (a ∷ []) refl).spelling a refl in cc

-- or it is there in another spelling
abbrev left_spelling : State
left_spelling = state Insensitive (dir (d ∷ []) ∷ dir (d ∷ A ∷ []) ∷ []) [] [] [] (scan_of_d (DirRead (PartialChild a Unread NoChildren))) []

listed_child_in_another_spelling : IsSound left_spelling → ⊥
listed_child_in_another_spelling h = let same = same_letter 65 97 ((h.scans.0.tells refl (a ∷ []) refl).spelling a refl) in omega arith

-- a scan listed no child, and there is one
abbrev scan_not_listed : State
scan_not_listed = state Sensitive (dir (d ∷ []) ∷ dir (d ∷ a ∷ []) ∷ []) [] [] [] (scan_of_d (DirRead NoChildren)) []

unlisted_child_that_is_there : IsSound scan_not_listed → ⊥
unlisted_child_that_is_there h = let same = (h.scans.0.tells refl (a ∷ []) refl).kind _ refl in cc

-- a scan read a file where a directory is, with something in it
abbrev scan_below_file : State
scan_below_file = state Sensitive (dir (d ∷ []) ∷ dir (d ∷ a ∷ []) ∷ []) [] [] [] (scan_of_d (FileRead [])) []

file_that_is_a_directory : IsSound scan_below_file → ⊥
file_that_is_a_directory h = let same = (h.scans.0.tells refl (a ∷ []) refl).kind _ refl in cc

-- a scan saw a file, and the directory above it is gone; an event at the scan's path excuses only what is at or below it
abbrev above_gone : State
above_gone = state Sensitive [] ((a ∷ b ∷ []) ∷ []) [] [] (Some (record { path = a ∷ b ∷ []; begun_at = 0; partial = FileRead [] }) ∷ []) []

directory_above_a_scan_that_is_gone : IsSound above_gone → ⊥
directory_above_a_scan_that_is_gone h = let same = (h.scans.0.above refl).1.0 refl in cc

-- a fingerprint is kept of a missing root, and there is a file
abbrev kept_missing : State
kept_missing = state Sensitive (file (f ∷ []) [] ∷ []) [] [] [] []
    (record { seen = seen (f ∷ []) Absolute Missing ∷ []; digest = fingerprint Sensitive (seen (f ∷ []) Absolute Missing ∷ []) } ∷ [])

snapshot_beside_a_kept_fingerprint : IsSound kept_missing → ⊥
snapshot_beside_a_kept_fingerprint h = let same = (h.kept.0.current.0 [] refl).same_kind in cc

-- a pair is retained below another
abbrev below_the_root : State
below_the_root = state Sensitive [] [] (record { path = []; snapshot = Dir Nothing } ∷ record { path = f ∷ []; snapshot = Missing } ∷ []) [] [] []

pair_below_a_pair : IsSound below_the_root → ⊥
pair_below_a_pair h = let same = h.shape.pairs.0.0 in cc

-- every sixteen scans are told, open or closed
abbrev no_scans : State
no_scans = record (start Sensitive 4 []) { scans = [] }

scans_of_another_number : IsSound no_scans → ⊥
scans_of_another_number h = let same = h.limits.scans in cc

-- a queue that holds nothing
queue_without_room : IsSound (start Sensitive 0 []) → ⊥
queue_without_room h = let same = h.limits.some_room in omega arith

-- an event waits at a path of 65 names
abbrev long_event : State
long_event = state Sensitive [] (deep 65 ∷ []) [] [] [] []

event_of_65_names : IsSound long_event → ⊥
event_of_65_names h = let few = h.short.events.0 in omega arith

-- a scan of such a path has begun
abbrev long_scan : State
long_scan = state Sensitive [] [] [] [] (Some (record { path = deep 65; begun_at = 0; partial = Unread }) ∷ []) []

scan_of_65_names : IsSound long_scan → ⊥
scan_of_65_names h = let few = h.short.scans.0 in omega arith

-- such a path is retained as missing, as it is
abbrev long_pair : State
long_pair = state Sensitive [] [] (record { path = deep 65; snapshot = Missing } ∷ []) [] [] []

pair_of_65_names : IsSound long_pair → ⊥
pair_of_65_names h = let few = h.short.pairs.0 in omega arith

-- such a path counts as a directory, and an event above excuses that there is none
abbrev long_directory : State
long_directory = state Sensitive [] (deep 1 ∷ []) [] (deep 65 ∷ []) [] []

directory_of_65_names : IsSound long_directory → ⊥
directory_of_65_names h = let few = h.short.dirs.0 in omega arith

-- a fingerprint of such a root is kept
abbrev long_root : State
long_root = state Sensitive [] [] [] [] [] (record { seen = seen (deep 65) Absolute Missing ∷ []; digest = fingerprint Sensitive (seen (deep 65) Absolute Missing ∷ []) } ∷ [])

root_of_65_names : IsSound long_root → ⊥
root_of_65_names h = let few = h.short.roots.0.0 in omega arith
