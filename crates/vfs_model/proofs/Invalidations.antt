-- What deliveries and stores leave of what is retained and known.
use Rattle.std.proofs.Common.{◌≡◌, [], ◌∷◌, refl, Some, None}
use Rattle.vfs_model.specs.declared.Case.TheVariants.{Sensitive}
use Rattle.vfs_model.specs.declared.Kind.TheVariants.{Missing as MissingKind, File as FileKind, Dir as DirKind}
use Rattle.vfs_model.specs.World.{digest_of_bytes}
use Rattle.vfs_model.specs.Edit.{Mkdir, Remove}
use Rattle.vfs_model.specs.Snapshot.{File, Dir, Nothing, Child}
use Rattle.vfs_model.specs.Retained.{pieces, dirs_from}
use Rattle.vfs_model.specs.Pending.{version}
use Rattle.vfs_model.specs.State.{CallEdit, CallEvent, CallLose, CallDeliver, CallBegin, CallRead, CallPublish, CallFind, CallPart, CallKind, CallVersion, Done, Fits, Lost, Cleared, Delivered, Version, Saw, Stored, Found, KindIs, Part}
use Rattle.vfs_model.proofs.Shorthand.{IsRun, start, file, dir, found_file, found_dir, found_missing, a, abc, b, c, d, e, f, g, m, n, o, q, r, s, x, y, zz, zzz}

-- an event below a file takes the file away
an_event_below_a_file_takes_the_file : IsRun (start Sensitive 1024 (file (f ∷ []) abc ∷ [])) (
    (CallBegin 0 (f ∷ []), Version 0)
    ∷ (CallRead 0, Saw (f ∷ []) FileKind 0)
    ∷ (CallPublish 0, Stored)
    ∷ (CallEvent (f ∷ x ∷ []), Fits)
    ∷ (CallDeliver, Delivered (f ∷ x ∷ []))
    ∷ (CallFind (f ∷ []), Found None)
    ∷ (CallKind [], KindIs (Some DirKind))
    ∷ [])
an_event_below_a_file_takes_the_file = refl

-- an event below a file in a directory takes the file away, and leaves its siblings
an_event_below_a_file_leaves_its_siblings : IsRun (start Sensitive 1024 (dir (d ∷ []) ∷ file (d ∷ f ∷ []) b ∷ file (d ∷ g ∷ []) a ∷ [])) (
    (CallBegin 0 (d ∷ []), Version 0)
    ∷ (CallRead 0, Saw (d ∷ []) DirKind 2)
    ∷ (CallRead 0, Saw (d ∷ f ∷ []) FileKind 1)
    ∷ (CallRead 0, Saw (d ∷ g ∷ []) FileKind 0)
    ∷ (CallPublish 0, Stored)
    ∷ (CallEvent (d ∷ f ∷ x ∷ y ∷ []), Fits)
    ∷ (CallDeliver, Delivered (d ∷ f ∷ x ∷ y ∷ []))
    ∷ (CallFind (d ∷ f ∷ []), Found None)
    ∷ (CallKind (d ∷ f ∷ []), KindIs None)
    ∷ (CallFind (d ∷ g ∷ []), found_file (digest_of_bytes a))
    ∷ (CallKind (d ∷ []), KindIs (Some DirKind))
    ∷ [])
an_event_below_a_file_leaves_its_siblings = refl

-- an event below a name that is not listed: each listed child stays, what was known to be missing goes
an_event_at_an_unlisted_name_leaves_the_children : IsRun (start Sensitive 1024 (dir (d ∷ []) ∷ dir (d ∷ e ∷ []) ∷ file (d ∷ e ∷ x ∷ []) a ∷ file (d ∷ f ∷ []) b ∷ [])) (
    (CallBegin 0 (d ∷ []), Version 0)
    ∷ (CallRead 0, Saw (d ∷ []) DirKind 2)
    ∷ (CallRead 0, Saw (d ∷ e ∷ []) DirKind 2)
    ∷ (CallRead 0, Saw (d ∷ e ∷ x ∷ []) FileKind 1)
    ∷ (CallRead 0, Saw (d ∷ f ∷ []) FileKind 0)
    ∷ (CallPublish 0, Stored)
    ∷ (CallFind (d ∷ zzz ∷ []), found_missing)
    ∷ (CallEvent (d ∷ q ∷ r ∷ s ∷ []), Fits)
    ∷ (CallDeliver, Delivered (d ∷ q ∷ r ∷ s ∷ []))
    ∷ (CallFind (d ∷ []), Found None)
    ∷ (CallKind (d ∷ []), KindIs (Some DirKind))
    ∷ (CallFind (d ∷ zzz ∷ []), Found None)
    ∷ (CallFind (d ∷ q ∷ []), Found None)
    ∷ (CallKind (d ∷ q ∷ []), KindIs None)
    ∷ (CallPart (d ∷ e ∷ []), Part (Some (Dir (Child x (File (digest_of_bytes a)) Nothing))))
    ∷ (CallFind (d ∷ f ∷ []), found_file (digest_of_bytes b))
    ∷ (CallKind (d ∷ q ∷ r ∷ []), KindIs None)
    ∷ [])
an_event_at_an_unlisted_name_leaves_the_children = refl

-- an event below what is retained as missing takes it away
an_event_below_a_missing_path_takes_it : IsRun (start Sensitive 1024 []) (
    (CallBegin 0 (m ∷ []), Version 0)
    ∷ (CallRead 0, Saw (m ∷ []) MissingKind 0)
    ∷ (CallPublish 0, Stored)
    ∷ (CallKind [], KindIs None)
    ∷ (CallFind (m ∷ n ∷ []), found_missing)
    ∷ (CallEvent (m ∷ n ∷ o ∷ []), Fits)
    ∷ (CallDeliver, Delivered (m ∷ n ∷ o ∷ []))
    ∷ (CallFind (m ∷ []), Found None)
    ∷ (CallKind (m ∷ []), KindIs None)
    ∷ (CallKind [], KindIs None)
    ∷ [])
an_event_below_a_missing_path_takes_it = refl

-- an event below a retained root leaves the rest of it, and one at the root leaves nothing
an_event_at_the_root_takes_all : IsRun (start Sensitive 1024 (dir (d ∷ []) ∷ dir (d ∷ e ∷ []) ∷ file (d ∷ e ∷ x ∷ []) a ∷ file (f ∷ []) b ∷ [])) (
    (CallBegin 0 [], Version 0)
    ∷ (CallRead 0, Saw [] DirKind 2)
    ∷ (CallRead 0, Saw (d ∷ []) DirKind 2)
    ∷ (CallRead 0, Saw (d ∷ e ∷ []) DirKind 2)
    ∷ (CallRead 0, Saw (d ∷ e ∷ x ∷ []) FileKind 1)
    ∷ (CallRead 0, Saw (f ∷ []) FileKind 0)
    ∷ (CallPublish 0, Stored)
    ∷ (CallEvent (d ∷ e ∷ x ∷ []), Fits)
    ∷ (CallDeliver, Delivered (d ∷ e ∷ x ∷ []))
    ∷ (CallKind [], KindIs (Some DirKind))
    ∷ (CallKind (d ∷ []), KindIs (Some DirKind))
    ∷ (CallKind (d ∷ e ∷ []), KindIs (Some DirKind))
    ∷ (CallFind (d ∷ e ∷ x ∷ []), Found None)
    ∷ (CallFind (f ∷ []), found_file (digest_of_bytes b))
    ∷ (CallFind (g ∷ []), Found None)
    ∷ (CallEvent [], Fits)
    ∷ (CallDeliver, Delivered [])
    ∷ (CallKind [], KindIs None)
    ∷ (CallFind (f ∷ []), Found None)
    ∷ (CallVersion (f ∷ g ∷ []), Version 2)
    ∷ [])
an_event_at_the_root_takes_all = refl

-- a store makes the directories above it known; a store and an event take away what lies at and below them
stores_and_events_change_what_is_known : IsRun (start Sensitive 1024 (dir (a ∷ []) ∷ dir (a ∷ b ∷ []) ∷ file (a ∷ b ∷ c ∷ []) abc ∷ [])) (
    (CallBegin 0 (a ∷ b ∷ c ∷ []), Version 0)
    ∷ (CallRead 0, Saw (a ∷ b ∷ c ∷ []) FileKind 0)
    ∷ (CallPublish 0, Stored)
    ∷ (CallKind [], KindIs (Some DirKind))
    ∷ (CallKind (a ∷ []), KindIs (Some DirKind))
    ∷ (CallKind (a ∷ b ∷ []), KindIs (Some DirKind))
    ∷ (CallKind (a ∷ b ∷ c ∷ d ∷ []), KindIs (Some MissingKind))
    ∷ (CallFind (a ∷ []), Found None)
    ∷ (CallBegin 0 (a ∷ x ∷ y ∷ []), Version 0)
    ∷ (CallRead 0, Saw (a ∷ x ∷ y ∷ []) MissingKind 0)
    ∷ (CallPublish 0, Stored)
    ∷ (CallKind (a ∷ x ∷ []), KindIs None)
    ∷ (CallKind (a ∷ x ∷ y ∷ []), KindIs (Some MissingKind))
    ∷ (CallBegin 0 (a ∷ []), Version 0)
    ∷ (CallRead 0, Saw (a ∷ []) DirKind 1)
    ∷ (CallRead 0, Saw (a ∷ b ∷ []) DirKind 1)
    ∷ (CallRead 0, Saw (a ∷ b ∷ c ∷ []) FileKind 0)
    ∷ (CallPublish 0, Stored)
    ∷ (CallKind (a ∷ x ∷ []), KindIs (Some MissingKind))
    ∷ (CallKind (a ∷ x ∷ y ∷ []), KindIs (Some MissingKind))
    ∷ (CallKind [], KindIs (Some DirKind))
    ∷ (CallEvent (a ∷ b ∷ []), Fits)
    ∷ (CallDeliver, Delivered (a ∷ b ∷ []))
    ∷ (CallKind (a ∷ []), KindIs (Some DirKind))
    ∷ (CallKind (a ∷ b ∷ []), KindIs None)
    ∷ (CallFind (a ∷ b ∷ c ∷ []), Found None)
    ∷ (CallEvent (a ∷ []), Fits)
    ∷ (CallDeliver, Delivered (a ∷ []))
    ∷ (CallKind (a ∷ []), KindIs None)
    ∷ (CallKind [], KindIs (Some DirKind))
    ∷ [])
stores_and_events_change_what_is_known = refl

-- a missing location takes the place of known directories below it
a_missing_path_ends_directories_below_it : IsRun (start Sensitive 1024 (dir (a ∷ []) ∷ dir (a ∷ b ∷ []) ∷ file (a ∷ b ∷ c ∷ []) abc ∷ [])) (
    (CallBegin 0 (a ∷ b ∷ c ∷ []), Version 0)
    ∷ (CallRead 0, Saw (a ∷ b ∷ c ∷ []) FileKind 0)
    ∷ (CallPublish 0, Stored)
    ∷ (CallEdit (Remove (a ∷ [])), Done)
    ∷ (CallBegin 0 (a ∷ []), Version 0)
    ∷ (CallRead 0, Saw (a ∷ []) MissingKind 0)
    ∷ (CallPublish 0, Stored)
    ∷ (CallFind (a ∷ b ∷ c ∷ []), found_missing)
    ∷ (CallKind (a ∷ b ∷ []), KindIs (Some MissingKind))
    ∷ (CallKind [], KindIs (Some DirKind))
    ∷ (CallDeliver, Delivered (a ∷ []))
    ∷ (CallKind (a ∷ []), KindIs None)
    ∷ (CallKind (a ∷ b ∷ []), KindIs None)
    ∷ (CallKind [], KindIs (Some DirKind))
    ∷ [])
a_missing_path_ends_directories_below_it = refl

-- what was removed is found until the delivery, or until it is scanned again
a_removal_is_found_until_its_delivery : IsRun (start Sensitive 1024 (dir (d ∷ []) ∷ file (d ∷ a ∷ []) a ∷ [])) (
    (CallBegin 0 (d ∷ []), Version 0)
    ∷ (CallRead 0, Saw (d ∷ []) DirKind 1)
    ∷ (CallRead 0, Saw (d ∷ a ∷ []) FileKind 0)
    ∷ (CallPublish 0, Stored)
    ∷ (CallEdit (Remove (d ∷ [])), Done)
    ∷ (CallFind (d ∷ a ∷ []), found_file (digest_of_bytes a))
    ∷ (CallKind (d ∷ []), KindIs (Some DirKind))
    ∷ (CallBegin 0 (d ∷ []), Version 0)
    ∷ (CallRead 0, Saw (d ∷ []) MissingKind 0)
    ∷ (CallPublish 0, Stored)
    ∷ (CallFind (d ∷ []), found_missing)
    ∷ (CallFind (d ∷ a ∷ []), found_missing)
    ∷ (CallKind [], KindIs (Some DirKind))
    ∷ (CallDeliver, Delivered (d ∷ []))
    ∷ (CallFind (d ∷ []), Found None)
    ∷ (CallKind [], KindIs (Some DirKind))
    ∷ [])
a_removal_is_found_until_its_delivery = refl

-- a directory is stored over what was retained as missing below it
a_directory_takes_the_place_of_what_was_missing : IsRun (start Sensitive 1024 (dir (d ∷ []) ∷ [])) (
    (CallBegin 0 (d ∷ m ∷ []), Version 0)
    ∷ (CallRead 0, Saw (d ∷ m ∷ []) MissingKind 0)
    ∷ (CallPublish 0, Stored)
    ∷ (CallKind (d ∷ []), KindIs None)
    ∷ (CallEdit (Mkdir (d ∷ m ∷ [])), Done)
    ∷ (CallBegin 0 (d ∷ []), Version 0)
    ∷ (CallRead 0, Saw (d ∷ []) DirKind 1)
    ∷ (CallRead 0, Saw (d ∷ m ∷ []) DirKind 0)
    ∷ (CallPublish 0, Stored)
    ∷ (CallPart (d ∷ []), Part (Some (Dir (Child m (Dir Nothing) Nothing))))
    ∷ (CallFind (d ∷ m ∷ []), found_dir (digest_of_bytes (68 ∷ [])))
    ∷ (CallDeliver, Delivered (d ∷ m ∷ []))
    ∷ (CallPart (d ∷ []), Part None)
    ∷ (CallKind (d ∷ []), KindIs (Some DirKind))
    ∷ (CallFind (d ∷ m ∷ []), Found None)
    ∷ [])
a_directory_takes_the_place_of_what_was_missing = refl

-- the version of the root is the number of invalidations
the_version_of_the_root_counts : IsRun (start Sensitive 1024 []) (
    (CallEvent (a ∷ b ∷ []), Fits)
    ∷ (CallEvent (c ∷ []), Fits)
    ∷ (CallLose, Lost)
    ∷ (CallEvent (c ∷ d ∷ []), Fits)
    ∷ (CallDeliver, Cleared)
    ∷ (CallDeliver, Delivered (c ∷ d ∷ []))
    ∷ (CallVersion [], Version 2)
    ∷ (CallVersion (a ∷ []), Version 1)
    ∷ (CallVersion (c ∷ d ∷ e ∷ []), Version 2)
    ∷ (CallVersion (c ∷ []), Version 2)
    ∷ (CallVersion (c ∷ e ∷ []), Version 1)
    ∷ (CallEvent [], Fits)
    ∷ (CallDeliver, Delivered [])
    ∷ (CallVersion (zz ∷ []), Version 3)
    ∷ (CallBegin 15 (a ∷ []), Version 3)
    ∷ (CallRead 15, Saw (a ∷ []) MissingKind 0)
    ∷ (CallPublish 15, Stored)
    ∷ [])
the_version_of_the_root_counts = refl

-- a version is the position of the last invalidated place that is related
a_version_is_a_position : version ((a ∷ []) ∷ (a ∷ b ∷ []) ∷ []) (a ∷ x ∷ []) ≡ 1
a_version_is_a_position = refl

-- below a child that goes, its siblings are what is left
siblings_are_left : pieces Sensitive (d ∷ []) (Dir (Child a (File []) (Child b (File []) Nothing))) (a ∷ q ∷ []) ≡ record { path = d ∷ b ∷ []; snapshot = File [] } ∷ []
siblings_are_left = refl

-- a file on the way is no directory, and the directory above it is known to be one
directories_on_the_way_stay_known : dirs_from Sensitive (d ∷ []) (Dir (Child a (File []) (Child b (File []) Nothing))) (a ∷ q ∷ []) ≡ (d ∷ []) ∷ []
directories_on_the_way_stay_known = refl
