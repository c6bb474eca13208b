-- Runs in which A to Z are the same as a to z.
use Rattle.std.proofs.Common.{[], ◌∷◌, refl, Some, None}
use Rattle.vfs_model.specs.declared.Case.TheVariants.{Insensitive}
use Rattle.vfs_model.specs.declared.Kind.TheVariants.{File as FileKind, Dir as DirKind}
use Rattle.vfs_model.specs.World.{digest_of_bytes}
use Rattle.vfs_model.specs.Edit.{Write, Move, Exists, IntoItself}
use Rattle.vfs_model.specs.Snapshot.{File, Dir, Nothing, Child}
use Rattle.vfs_model.specs.State.{CallEdit, CallEvent, CallDeliver, CallBegin, CallRead, CallPublish, CallFind, CallPart, CallKind, CallVersion, Refused, Done, Fits, Delivered, NothingPending, Version, AllRead, Saw, Stored, Found, KindIs, Part}
use Rattle.vfs_model.proofs.Shorthand.{IsRun, start, file, dir, found_file, found_missing, A, a, abc, B, b, C, c, D, d, E, e, LIB, Lib, lIb, lib, NEW, new, Q, q, SRC, Src, sRC, sRc, srC, src, X, x, y, Z, z}

-- one spelling finds what was scanned in another, and a move to another spelling is told
a_move_changes_the_spelling : IsRun (start Insensitive 1024 (dir (a ∷ []) ∷ file (a ∷ x ∷ []) abc ∷ [])) (
    (CallBegin 0 [], Version 0)
    ∷ (CallRead 0, Saw [] DirKind 1)
    ∷ (CallRead 0, Saw (a ∷ []) DirKind 1)
    ∷ (CallRead 0, Saw (a ∷ x ∷ []) FileKind 0)
    ∷ (CallPublish 0, Stored)
    ∷ (CallFind (A ∷ X ∷ []), found_file (digest_of_bytes abc))
    ∷ (CallEdit (Move (a ∷ []) (A ∷ [])), Done)
    ∷ (CallFind (a ∷ x ∷ []), found_file (digest_of_bytes abc))
    ∷ (CallDeliver, Delivered (a ∷ []))
    ∷ (CallDeliver, Delivered (A ∷ []))
    ∷ (CallFind (a ∷ x ∷ []), Found None)
    ∷ (CallBegin 0 [], Version 2)
    ∷ (CallRead 0, Saw [] DirKind 1)
    ∷ (CallRead 0, Saw (A ∷ []) DirKind 1)
    ∷ [])
a_move_changes_the_spelling = refl

-- a reply spells the path as its own line does, and below it the names as they are listed
a_reply_spells_as_its_line_does : IsRun (start Insensitive 1024 (dir (Src ∷ []) ∷ dir (Src ∷ Lib ∷ []) ∷ file (Src ∷ Lib ∷ X ∷ []) a ∷ file (Src ∷ b ∷ []) b ∷ [])) (
    (CallBegin 0 (sRC ∷ []), Version 0)
    ∷ (CallRead 0, Saw (sRC ∷ []) DirKind 2)
    ∷ (CallRead 0, Saw (sRC ∷ b ∷ []) FileKind 1)
    ∷ (CallRead 0, Saw (sRC ∷ Lib ∷ []) DirKind 1)
    ∷ (CallRead 0, Saw (sRC ∷ Lib ∷ X ∷ []) FileKind 0)
    ∷ (CallRead 0, AllRead)
    ∷ (CallPublish 0, Stored)
    ∷ (CallPart (SRC ∷ []), Part (Some (Dir (Child b (File (digest_of_bytes b)) (Child Lib (Dir (Child X (File (digest_of_bytes a)) Nothing)) Nothing)))))
    ∷ (CallPart (src ∷ LIB ∷ []), Part (Some (Dir (Child X (File (digest_of_bytes a)) Nothing))))
    ∷ (CallFind (src ∷ lib ∷ x ∷ []), found_file (digest_of_bytes a))
    ∷ (CallEvent (SRC ∷ LIB ∷ x ∷ []), Fits)
    ∷ (CallDeliver, Delivered (SRC ∷ LIB ∷ x ∷ []))
    ∷ (CallKind (sRc ∷ lIb ∷ []), KindIs (Some DirKind))
    ∷ (CallFind (src ∷ B ∷ []), found_file (digest_of_bytes b))
    ∷ (CallPart (src ∷ lib ∷ x ∷ []), Part None)
    ∷ (CallKind (SRC ∷ []), KindIs (Some DirKind))
    ∷ (CallVersion (srC ∷ LIB ∷ X ∷ y ∷ []), Version 1)
    ∷ (CallVersion (src ∷ b ∷ []), Version 0)
    ∷ [])
a_reply_spells_as_its_line_does = refl

-- a moved directory gets its last name from the line, and keeps the names below it
a_move_spells_the_last_name : IsRun (start Insensitive 1024 (dir (a ∷ []) ∷ dir (a ∷ B ∷ []) ∷ file (a ∷ B ∷ c ∷ []) abc ∷ dir (Q ∷ []) ∷ [])) (
    (CallEdit (Move (A ∷ b ∷ []) (q ∷ NEW ∷ [])), Done)
    ∷ (CallBegin 0 [], Version 0)
    ∷ (CallRead 0, Saw [] DirKind 2)
    ∷ (CallRead 0, Saw (a ∷ []) DirKind 1)
    ∷ (CallRead 0, Saw (Q ∷ []) DirKind 1)
    ∷ (CallRead 0, Saw (Q ∷ NEW ∷ []) DirKind 1)
    ∷ (CallRead 0, Saw (Q ∷ NEW ∷ c ∷ []) FileKind 0)
    ∷ (CallPublish 0, Stored)
    ∷ (CallPart [], Part (Some (Dir (Child a (Dir Nothing) (Child Q (Dir (Child NEW (Dir (Child c (File (digest_of_bytes abc)) Nothing)) Nothing)) Nothing)))))
    ∷ (CallDeliver, Delivered (A ∷ b ∷ []))
    ∷ (CallFind (a ∷ []), Found None)
    ∷ (CallKind [], KindIs (Some DirKind))
    ∷ (CallFind (q ∷ new ∷ C ∷ []), found_file (digest_of_bytes abc))
    ∷ (CallDeliver, Delivered (q ∷ NEW ∷ []))
    ∷ (CallFind (q ∷ new ∷ C ∷ []), Found None)
    ∷ (CallKind (q ∷ []), KindIs (Some DirKind))
    ∷ (CallFind (a ∷ []), Found None)
    ∷ (CallDeliver, NothingPending)
    ∷ [])
a_move_spells_the_last_name = refl

-- a move to the same location is done, with another spelling and with the same
a_move_to_the_same_location : IsRun (start Insensitive 1024 (dir (d ∷ []) ∷ file (d ∷ x ∷ []) a ∷ file (e ∷ []) b ∷ [])) (
    (CallEdit (Move (d ∷ []) (D ∷ [])), Done)
    ∷ (CallEdit (Move (D ∷ []) (D ∷ [])), Done)
    ∷ (CallEdit (Move (e ∷ []) (D ∷ [])), Refused Exists)
    ∷ (CallEdit (Move (d ∷ []) (D ∷ y ∷ [])), Refused IntoItself)
    ∷ (CallEdit (Move (d ∷ x ∷ []) (d ∷ X ∷ y ∷ [])), Refused IntoItself)
    ∷ (CallEdit (Write (E ∷ []) a), Done)
    ∷ (CallBegin 0 [], Version 0)
    ∷ (CallRead 0, Saw [] DirKind 2)
    ∷ (CallRead 0, Saw (D ∷ []) DirKind 2)
    ∷ (CallRead 0, Saw (D ∷ x ∷ []) FileKind 1)
    ∷ (CallRead 0, Saw (e ∷ []) FileKind 0)
    ∷ (CallPublish 0, Stored)
    ∷ (CallPart [], Part (Some (Dir (Child D (Dir (Child x (File (digest_of_bytes a)) Nothing)) (Child e (File (digest_of_bytes a)) Nothing)))))
    ∷ (CallDeliver, Delivered (d ∷ []))
    ∷ (CallDeliver, Delivered (D ∷ []))
    ∷ (CallDeliver, Delivered (D ∷ []))
    ∷ (CallDeliver, Delivered (D ∷ []))
    ∷ (CallDeliver, Delivered (E ∷ []))
    ∷ (CallDeliver, NothingPending)
    ∷ [])
a_move_to_the_same_location = refl

-- Z is the last letter that has a small one, and the bytes next to the letters have none: 64 and 96, 91 and 123 are apart
the_letters_end_at_z : IsRun (start Insensitive 1024 (file (Z ∷ []) abc ∷ file ((64 ∷ []) ∷ []) a ∷ file ((91 ∷ []) ∷ []) b ∷ [])) (
    (CallBegin 0 [], Version 0)
    ∷ (CallRead 0, Saw [] DirKind 3)
    ∷ (CallRead 0, Saw ((64 ∷ []) ∷ []) FileKind 2)
    ∷ (CallRead 0, Saw ((91 ∷ []) ∷ []) FileKind 1)
    ∷ (CallRead 0, Saw (Z ∷ []) FileKind 0)
    ∷ (CallPublish 0, Stored)
    ∷ (CallFind (z ∷ []), found_file (digest_of_bytes abc))
    ∷ (CallFind ((64 ∷ []) ∷ []), found_file (digest_of_bytes a))
    ∷ (CallFind ((96 ∷ []) ∷ []), found_missing)
    ∷ (CallFind ((91 ∷ []) ∷ []), found_file (digest_of_bytes b))
    ∷ (CallFind ((123 ∷ []) ∷ []), found_missing)
    ∷ (CallEvent (z ∷ []), Fits)
    ∷ (CallDeliver, Delivered (z ∷ []))
    ∷ (CallVersion (Z ∷ []), Version 1)
    ∷ (CallVersion ((64 ∷ []) ∷ []), Version 0)
    ∷ (CallFind (Z ∷ []), Found None)
    ∷ [])
the_letters_end_at_z = refl
