-- Scans and publishes, with deliveries between begin and publish.
use Rattle.std.proofs.Common.{Option, ◌≡◌, true, false, List, [], ◌∷◌, refl, Some, None}
use Rattle.md5.specs.Md5.{md5, digest_bytes, hash_after, compress, rounds, block_words}
use Rattle.vfs_model.specs.declared.Case.TheVariants.{Sensitive}
use Rattle.vfs_model.specs.declared.Kind.TheVariants.{Missing as MissingKind, File as FileKind, Dir as DirKind}
use Rattle.vfs_model.specs.World.{digest_of_bytes}
use Rattle.vfs_model.specs.Edit.{Write, Mkdir}
use Rattle.vfs_model.specs.Scanning.{Look, SeesFile, SeesDir}
use Rattle.vfs_model.specs.Fingerprint.{fingerprint}
use Rattle.vfs_model.specs.State.{State, Reply, CallEdit, CallEvent, CallDeliver, CallBegin, CallRead, CallPublish, CallDrop, CallFind, CallKind, CallVersion, Done, Fits, Delivered, NothingPending, AlreadyOpen, Version, NoScan, AllRead, Saw, Unfinished, Stale, Covered, Stored, Dropped, Found, KindIs, Fault, step, told_step, Does}
use Rattle.vfs_model.proofs.Shorthand.{IsRun, start, file, dir, found_file, found_dir, found_missing, md5_of_a, md5_of_abc, a, ab, abc, abd, b, c, d, e, f, g, l, m, n, o, p, q, s, x, a_b}

-- a file is written, the event delivered, the file scanned and found
a_written_file_is_scanned_and_found : IsRun (start Sensitive 1024 []) (
    (CallEdit (Write (f ∷ []) abc), Done)
    ∷ (CallDeliver, Delivered (f ∷ []))
    ∷ (CallDeliver, NothingPending)
    ∷ (CallBegin 0 (f ∷ []), Version 1)
    ∷ (CallRead 0, Saw (f ∷ []) FileKind 0)
    ∷ (CallRead 0, AllRead)
    ∷ (CallPublish 0, Stored)
    ∷ (CallFind (f ∷ []), found_file md5_of_abc)
    ∷ [])
unfolding fingerprint digest_of_bytes md5 digest_bytes hash_after compress rounds block_words
a_written_file_is_scanned_and_found = refl

-- a write that is delivered between the read and the publish makes it stale, and nothing is found
a_delivered_write_makes_stale : IsRun (start Sensitive 1024 []) (
    (CallEdit (Write (f ∷ []) abc), Done)
    ∷ (CallDeliver, Delivered (f ∷ []))
    ∷ (CallDeliver, NothingPending)
    ∷ (CallBegin 0 (f ∷ []), Version 1)
    ∷ (CallRead 0, Saw (f ∷ []) FileKind 0)
    ∷ (CallEdit (Write (f ∷ []) abd), Done)
    ∷ (CallDeliver, Delivered (f ∷ []))
    ∷ (CallPublish 0, Stale 2)
    ∷ (CallFind (f ∷ []), Found None)
    ∷ [])
a_delivered_write_makes_stale = refl

-- a write whose event still waits makes nothing stale: what was read is found, until the delivery
an_undelivered_write_is_stored : IsRun (start Sensitive 1024 []) (
    (CallEdit (Write (f ∷ []) abc), Done)
    ∷ (CallDeliver, Delivered (f ∷ []))
    ∷ (CallDeliver, NothingPending)
    ∷ (CallBegin 0 (f ∷ []), Version 1)
    ∷ (CallRead 0, Saw (f ∷ []) FileKind 0)
    ∷ (CallEdit (Write (f ∷ []) abd), Done)
    ∷ (CallPublish 0, Stored)
    ∷ (CallFind (f ∷ []), found_file md5_of_abc)
    ∷ (CallDeliver, Delivered (f ∷ []))
    ∷ (CallFind (f ∷ []), Found None)
    ∷ [])
unfolding fingerprint digest_of_bytes md5 digest_bytes hash_after compress rounds block_words
an_undelivered_write_is_stored = refl

-- an event at a directory above the scan makes it stale
an_ancestor_makes_stale : IsRun (start Sensitive 1024 (dir (a ∷ []) ∷ file (a ∷ b ∷ []) abc ∷ [])) (
    (CallBegin 0 (a ∷ b ∷ []), Version 0)
    ∷ (CallRead 0, Saw (a ∷ b ∷ []) FileKind 0)
    ∷ (CallEvent (a ∷ []), Fits)
    ∷ (CallDeliver, Delivered (a ∷ []))
    ∷ (CallPublish 0, Stale 1)
    ∷ [])
an_ancestor_makes_stale = refl

-- an event below the scan makes it stale
a_descendant_makes_stale : IsRun (start Sensitive 1024 (dir (a ∷ []) ∷ dir (a ∷ b ∷ []) ∷ file (a ∷ b ∷ c ∷ []) abc ∷ [])) (
    (CallBegin 0 (a ∷ b ∷ []), Version 0)
    ∷ (CallRead 0, Saw (a ∷ b ∷ []) DirKind 1)
    ∷ (CallRead 0, Saw (a ∷ b ∷ c ∷ []) FileKind 0)
    ∷ (CallEvent (a ∷ b ∷ c ∷ []), Fits)
    ∷ (CallDeliver, Delivered (a ∷ b ∷ c ∷ []))
    ∷ (CallPublish 0, Stale 1)
    ∷ [])
a_descendant_makes_stale = refl

-- an event at a sibling makes nothing stale, and none at a name that only begins with the same bytes
siblings_and_text_prefixes_make_nothing_stale : IsRun (start Sensitive 1024 (dir (a ∷ []) ∷ dir (a ∷ b ∷ []) ∷ file (a ∷ b ∷ c ∷ []) abc ∷ [])) (
    (CallBegin 0 (a ∷ b ∷ []), Version 0)
    ∷ (CallRead 0, Saw (a ∷ b ∷ []) DirKind 1)
    ∷ (CallRead 0, Saw (a ∷ b ∷ c ∷ []) FileKind 0)
    ∷ (CallEvent (a ∷ x ∷ []), Fits)
    ∷ (CallEvent (ab ∷ []), Fits)
    ∷ (CallDeliver, Delivered (a ∷ x ∷ []))
    ∷ (CallDeliver, Delivered (ab ∷ []))
    ∷ (CallDeliver, NothingPending)
    ∷ (CallPublish 0, Stored)
    ∷ (CallFind (a ∷ b ∷ c ∷ []), found_file (digest_of_bytes abc))
    ∷ (CallVersion (a ∷ b ∷ []), Version 0)
    ∷ (CallVersion (a ∷ []), Version 1)
    ∷ (CallVersion [], Version 2)
    ∷ [])
siblings_and_text_prefixes_make_nothing_stale = refl

-- a begin and a stale publish answer the version of their own path, whatever else was invalidated
numbers_are_those_of_the_path : IsRun (start Sensitive 1024 []) (
    (CallBegin 0 (a ∷ []), Version 0)
    ∷ (CallRead 0, Saw (a ∷ []) MissingKind 0)
    ∷ (CallEvent (a ∷ []), Fits)
    ∷ (CallEvent (b ∷ []), Fits)
    ∷ (CallDeliver, Delivered (a ∷ []))
    ∷ (CallDeliver, Delivered (b ∷ []))
    ∷ (CallPublish 0, Stale 1)
    ∷ (CallBegin 0 (a ∷ []), Version 1)
    ∷ (CallBegin 1 (b ∷ []), Version 2)
    ∷ (CallBegin 2 (e ∷ []), Version 0)
    ∷ [])
numbers_are_those_of_the_path = refl

-- what is retained as missing is missing with all below it, until something is made above it
a_missing_path_is_retained : IsRun (start Sensitive 1024 []) (
    (CallBegin 0 (m ∷ n ∷ o ∷ []), Version 0)
    ∷ (CallRead 0, Saw (m ∷ n ∷ o ∷ []) MissingKind 0)
    ∷ (CallPublish 0, Stored)
    ∷ (CallFind (m ∷ n ∷ o ∷ p ∷ []), found_missing)
    ∷ (CallEdit (Mkdir (m ∷ [])), Done)
    ∷ (CallDeliver, Delivered (m ∷ []))
    ∷ (CallFind (m ∷ n ∷ o ∷ []), Found None)
    ∷ [])
a_missing_path_is_retained = refl

-- a publish below what is retained is covered
below_a_pair_is_covered : IsRun (start Sensitive 1024 (dir (d ∷ []) ∷ file (d ∷ a ∷ []) a ∷ [])) (
    (CallBegin 0 (d ∷ []), Version 0)
    ∷ (CallRead 0, Saw (d ∷ []) DirKind 1)
    ∷ (CallRead 0, Saw (d ∷ a ∷ []) FileKind 0)
    ∷ (CallRead 0, AllRead)
    ∷ (CallPublish 0, Stored)
    ∷ (CallBegin 0 (d ∷ a ∷ []), Version 0)
    ∷ (CallRead 0, Saw (d ∷ a ∷ []) FileKind 0)
    ∷ (CallRead 0, AllRead)
    ∷ (CallPublish 0, Covered)
    ∷ (CallFind (d ∷ a ∷ []), found_file md5_of_a)
    ∷ [])
unfolding fingerprint digest_of_bytes md5 digest_bytes hash_after compress rounds block_words
below_a_pair_is_covered = refl

-- a publish above what is retained is stored, and gives the digest of the directory
a_store_above_takes_the_place : IsRun (start Sensitive 1024 (dir (d ∷ []) ∷ file (d ∷ a ∷ []) a ∷ [])) (
    (CallBegin 0 (d ∷ a ∷ []), Version 0)
    ∷ (CallRead 0, Saw (d ∷ a ∷ []) FileKind 0)
    ∷ (CallRead 0, AllRead)
    ∷ (CallPublish 0, Stored)
    ∷ (CallBegin 0 (d ∷ []), Version 0)
    ∷ (CallRead 0, Saw (d ∷ []) DirKind 1)
    ∷ (CallRead 0, Saw (d ∷ a ∷ []) FileKind 0)
    ∷ (CallRead 0, AllRead)
    ∷ (CallPublish 0, Stored)
    ∷ (CallFind (d ∷ []), found_dir (216 ∷ 44 ∷ 220 ∷ 157 ∷ 196 ∷ 212 ∷ 9 ∷ 23 ∷ 68 ∷ 151 ∷ 105 ∷ 170 ∷ 114 ∷ 17 ∷ 164 ∷ 88 ∷ []))
    ∷ [])
unfolding fingerprint digest_of_bytes md5 digest_bytes hash_after compress rounds block_words
a_store_above_takes_the_place = refl

-- any event makes a scan of the root stale
every_event_is_below_the_root : IsRun (start Sensitive 1024 []) (
    (CallBegin 0 [], Version 0)
    ∷ (CallRead 0, Saw [] DirKind 0)
    ∷ (CallEvent (q ∷ []), Fits)
    ∷ (CallDeliver, Delivered (q ∷ []))
    ∷ (CallPublish 0, Stale 1)
    ∷ [])
every_event_is_below_the_root = refl

-- with no event a scan of the empty root is stored; an empty directory has the MD5 of the byte D
the_empty_root_has_the_digest_of_D : IsRun (start Sensitive 1024 []) (
    (CallBegin 0 [], Version 0)
    ∷ (CallRead 0, Saw [] DirKind 0)
    ∷ (CallPublish 0, Stored)
    ∷ (CallFind [], found_dir (246 ∷ 35 ∷ 231 ∷ 90 ∷ 243 ∷ 14 ∷ 98 ∷ 187 ∷ 215 ∷ 61 ∷ 109 ∷ 245 ∷ 181 ∷ 11 ∷ 183 ∷ 181 ∷ []))
    ∷ [])
unfolding fingerprint digest_of_bytes md5 digest_bytes hash_after compress rounds block_words
the_empty_root_has_the_digest_of_D = refl

-- a name may have a space in it, and a file the byte 0
names_and_files_of_any_bytes : IsRun (start Sensitive 1024 []) (
    (CallEdit (Write (a_b ∷ []) (0 ∷ [])), Done)
    ∷ (CallDeliver, Delivered (a_b ∷ []))
    ∷ (CallDeliver, NothingPending)
    ∷ (CallBegin 0 (a_b ∷ []), Version 1)
    ∷ (CallRead 0, Saw (a_b ∷ []) FileKind 0)
    ∷ (CallRead 0, AllRead)
    ∷ (CallPublish 0, Stored)
    ∷ (CallFind (a_b ∷ []), found_file (147 ∷ 184 ∷ 133 ∷ 173 ∷ 254 ∷ 13 ∷ 160 ∷ 137 ∷ 205 ∷ 246 ∷ 52 ∷ 144 ∷ 79 ∷ 213 ∷ 159 ∷ 113 ∷ []))
    ∷ [])
unfolding fingerprint digest_of_bytes md5 digest_bytes hash_after compress rounds block_words
names_and_files_of_any_bytes = refl

-- an empty file has the MD5 of no bytes
an_empty_file_has_the_digest_of_nothing : IsRun (start Sensitive 1024 []) (
    (CallEdit (Write (e ∷ []) []), Done)
    ∷ (CallDeliver, Delivered (e ∷ []))
    ∷ (CallDeliver, NothingPending)
    ∷ (CallBegin 0 (e ∷ []), Version 1)
    ∷ (CallRead 0, Saw (e ∷ []) FileKind 0)
    ∷ (CallRead 0, AllRead)
    ∷ (CallPublish 0, Stored)
    ∷ (CallFind (e ∷ []), found_file (212 ∷ 29 ∷ 140 ∷ 217 ∷ 143 ∷ 0 ∷ 178 ∷ 4 ∷ 233 ∷ 128 ∷ 9 ∷ 152 ∷ 236 ∷ 248 ∷ 66 ∷ 126 ∷ []))
    ∷ [])
unfolding fingerprint digest_of_bytes md5 digest_bytes hash_after compress rounds block_words
an_empty_file_has_the_digest_of_nothing = refl

-- a scan is begun once, published when all is read, and closed by a drop
open_unfinished_and_closed : IsRun (start Sensitive 1024 (dir (d ∷ []) ∷ file (d ∷ a ∷ []) a ∷ file (d ∷ b ∷ []) b ∷ [])) (
    (CallBegin 0 (d ∷ []), Version 0)
    ∷ (CallBegin 0 (b ∷ []), AlreadyOpen)
    ∷ (CallRead 0, Saw (d ∷ []) DirKind 2)
    ∷ (CallPublish 0, Unfinished 2)
    ∷ (CallRead 0, Saw (d ∷ a ∷ []) FileKind 1)
    ∷ (CallRead 0, Saw (d ∷ b ∷ []) FileKind 0)
    ∷ (CallDrop 0, Dropped true)
    ∷ (CallPublish 0, NoScan)
    ∷ (CallRead 0, NoScan)
    ∷ (CallDrop 0, Dropped false)
    ∷ [])
open_unfinished_and_closed = refl

-- a stale publish closes the scan, and what was retained before stays
a_stale_publish_keeps_what_was_retained : IsRun (start Sensitive 1024 (dir (d ∷ []) ∷ file (d ∷ a ∷ []) a ∷ [])) (
    (CallBegin 0 (d ∷ []), Version 0)
    ∷ (CallBegin 1 (d ∷ a ∷ []), Version 0)
    ∷ (CallRead 1, Saw (d ∷ a ∷ []) FileKind 0)
    ∷ (CallPublish 1, Stored)
    ∷ (CallRead 0, Saw (d ∷ []) DirKind 1)
    ∷ (CallPublish 0, Unfinished 1)
    ∷ (CallEvent (d ∷ q ∷ []), Fits)
    ∷ (CallDeliver, Delivered (d ∷ q ∷ []))
    ∷ (CallPublish 0, Unfinished 1)
    ∷ (CallRead 0, Saw (d ∷ a ∷ []) FileKind 0)
    ∷ (CallPublish 0, Stale 1)
    ∷ (CallPublish 0, NoScan)
    ∷ (CallFind (d ∷ a ∷ []), found_file (digest_of_bytes a))
    ∷ (CallKind (d ∷ []), KindIs (Some DirKind))
    ∷ (CallRead 1, NoScan)
    ∷ [])
a_stale_publish_keeps_what_was_retained = refl

-- a covered publish closes the scan; at the path of a pair a store replaces it
a_covered_publish_closes_the_scan : IsRun (start Sensitive 1024 (dir (d ∷ []) ∷ file (d ∷ a ∷ []) a ∷ [])) (
    (CallBegin 0 (d ∷ []), Version 0)
    ∷ (CallRead 0, Saw (d ∷ []) DirKind 1)
    ∷ (CallRead 0, Saw (d ∷ a ∷ []) FileKind 0)
    ∷ (CallPublish 0, Stored)
    ∷ (CallEdit (Write (d ∷ a ∷ []) b), Done)
    ∷ (CallBegin 1 (d ∷ a ∷ []), Version 0)
    ∷ (CallRead 1, Saw (d ∷ a ∷ []) FileKind 0)
    ∷ (CallPublish 1, Covered)
    ∷ (CallPublish 1, NoScan)
    ∷ (CallFind (d ∷ a ∷ []), found_file (digest_of_bytes a))
    ∷ (CallBegin 1 (d ∷ []), Version 0)
    ∷ (CallRead 1, Saw (d ∷ []) DirKind 1)
    ∷ (CallRead 1, Saw (d ∷ a ∷ []) FileKind 0)
    ∷ (CallPublish 1, Stored)
    ∷ (CallFind (d ∷ a ∷ []), found_file (digest_of_bytes b))
    ∷ (CallDeliver, Delivered (d ∷ a ∷ []))
    ∷ (CallFind (d ∷ a ∷ []), Found None)
    ∷ (CallKind (d ∷ []), KindIs (Some DirKind))
    ∷ [])
a_covered_publish_closes_the_scan = refl

-- a publish that is both stale and below a pair is stale
stale_comes_before_covered : IsRun (start Sensitive 1024 (dir (d ∷ []) ∷ file (d ∷ a ∷ []) a ∷ [])) (
    (CallBegin 0 (d ∷ a ∷ []), Version 0)
    ∷ (CallRead 0, Saw (d ∷ a ∷ []) FileKind 0)
    ∷ (CallEvent (d ∷ a ∷ []), Fits)
    ∷ (CallDeliver, Delivered (d ∷ a ∷ []))
    ∷ (CallBegin 1 (d ∷ []), Version 1)
    ∷ (CallRead 1, Saw (d ∷ []) DirKind 1)
    ∷ (CallRead 1, Saw (d ∷ a ∷ []) FileKind 0)
    ∷ (CallPublish 1, Stored)
    ∷ (CallPublish 0, Stale 1)
    ∷ [])
stale_comes_before_covered = refl

-- scans of several numbers know nothing of each other
scans_of_other_numbers_are_apart : IsRun (start Sensitive 1024 (file (f ∷ []) abc ∷ [])) (
    (CallBegin 15 (f ∷ []), Version 0)
    ∷ (CallBegin 0 (f ∷ []), Version 0)
    ∷ (CallBegin 15 (g ∷ []), AlreadyOpen)
    ∷ (CallRead 0, Saw (f ∷ []) FileKind 0)
    ∷ (CallDrop 0, Dropped true)
    ∷ (CallRead 15, Saw (f ∷ []) FileKind 0)
    ∷ (CallPublish 15, Stored)
    ∷ (CallDrop 15, Dropped false)
    ∷ (CallPublish 0, NoScan)
    ∷ [])
scans_of_other_numbers_are_apart = refl

-- the replies to reads of the scan 0 whose looks give these
abbrev reads : State → List (Option Look) → List Reply
reads s [] = []
reads s (l ∷ more) = (step (record { edit = Does []; look = l }) s (CallRead 0)).reply ∷ reads (step (record { edit = Does []; look = l }) s (CallRead 0)).state more

-- a look that fails is a fault, and the next read looks at the same location
a_failed_look_is_read_again : reads (told_step (start Sensitive 1024 []) (CallBegin 0 (d ∷ []))).state (Some (SeesDir (a ∷ [])) ∷ None ∷ Some (SeesFile a) ∷ [])
    ≡ Saw (d ∷ []) DirKind 1 ∷ Fault ∷ Saw (d ∷ a ∷ []) FileKind 0 ∷ []
a_failed_look_is_read_again = refl
