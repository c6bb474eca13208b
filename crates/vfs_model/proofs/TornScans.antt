-- Scans of a directory that is edited while it is read.
use Rattle.std.proofs.Common.{[], ◌∷◌, refl, Some, None}
use Rattle.vfs_model.specs.declared.Case.TheVariants.{Sensitive, Insensitive}
use Rattle.vfs_model.specs.declared.Kind.TheVariants.{Missing as MissingKind, File as FileKind, Dir as DirKind}
use Rattle.vfs_model.specs.World.{digest_of_bytes}
use Rattle.vfs_model.specs.Edit.{Write, Mkdir, Remove, Move}
use Rattle.vfs_model.specs.Snapshot.{File, Dir, Nothing, Child}
use Rattle.vfs_model.specs.State.{CallEdit, CallDeliver, CallBegin, CallRead, CallPublish, CallFind, CallPart, CallKind, Done, Delivered, Version, AllRead, Saw, Unfinished, Stored, Found, KindIs, Part}
use Rattle.vfs_model.proofs.Shorthand.{IsRun, start, file, dir, found_file, found_missing, A, a, abc, b, D, d, e, x, z}

-- a child is removed after it was read: it is found until the delivery, and its sibling stays
a_child_goes_after_its_read : IsRun (start Sensitive 1024 (dir (d ∷ []) ∷ file (d ∷ a ∷ []) a ∷ file (d ∷ b ∷ []) b ∷ [])) (
    (CallBegin 0 (d ∷ []), Version 0)
    ∷ (CallRead 0, Saw (d ∷ []) DirKind 2)
    ∷ (CallRead 0, Saw (d ∷ a ∷ []) FileKind 1)
    ∷ (CallEdit (Remove (d ∷ a ∷ [])), Done)
    ∷ (CallRead 0, Saw (d ∷ b ∷ []) FileKind 0)
    ∷ (CallPublish 0, Stored)
    ∷ (CallFind (d ∷ a ∷ []), found_file (digest_of_bytes a))
    ∷ (CallDeliver, Delivered (d ∷ a ∷ []))
    ∷ (CallFind (d ∷ a ∷ []), Found None)
    ∷ (CallFind (d ∷ b ∷ []), found_file (digest_of_bytes b))
    ∷ (CallFind (d ∷ []), Found None)
    ∷ (CallKind (d ∷ []), KindIs (Some DirKind))
    ∷ [])
a_child_goes_after_its_read = refl

-- a child that is listed and then seen missing is left out
a_child_goes_before_its_read : IsRun (start Sensitive 1024 (dir (d ∷ []) ∷ file (d ∷ a ∷ []) a ∷ file (d ∷ b ∷ []) b ∷ [])) (
    (CallBegin 0 (d ∷ []), Version 0)
    ∷ (CallRead 0, Saw (d ∷ []) DirKind 2)
    ∷ (CallEdit (Remove (d ∷ a ∷ [])), Done)
    ∷ (CallPublish 0, Unfinished 2)
    ∷ (CallRead 0, Saw (d ∷ a ∷ []) MissingKind 1)
    ∷ (CallRead 0, Saw (d ∷ b ∷ []) FileKind 0)
    ∷ (CallRead 0, AllRead)
    ∷ (CallPublish 0, Stored)
    ∷ (CallPart (d ∷ []), Part (Some (Dir (Child b (File (digest_of_bytes b)) Nothing))))
    ∷ (CallFind (d ∷ a ∷ []), found_missing)
    ∷ (CallDeliver, Delivered (d ∷ a ∷ []))
    ∷ (CallPart (d ∷ []), Part None)
    ∷ (CallPart (d ∷ b ∷ []), Part (Some (File (digest_of_bytes b))))
    ∷ (CallFind (d ∷ a ∷ []), Found None)
    ∷ [])
a_child_goes_before_its_read = refl

-- a directory becomes a file while its children are read
a_directory_becomes_a_file : IsRun (start Sensitive 1024 (dir (d ∷ []) ∷ dir (d ∷ e ∷ []) ∷ file (d ∷ e ∷ a ∷ []) a ∷ file (d ∷ z ∷ []) b ∷ [])) (
    (CallBegin 0 (d ∷ []), Version 0)
    ∷ (CallRead 0, Saw (d ∷ []) DirKind 2)
    ∷ (CallRead 0, Saw (d ∷ e ∷ []) DirKind 2)
    ∷ (CallEdit (Remove (d ∷ e ∷ [])), Done)
    ∷ (CallEdit (Write (d ∷ e ∷ []) b), Done)
    ∷ (CallRead 0, Saw (d ∷ e ∷ a ∷ []) MissingKind 1)
    ∷ (CallRead 0, Saw (d ∷ z ∷ []) FileKind 0)
    ∷ (CallPublish 0, Stored)
    ∷ (CallPart (d ∷ []), Part (Some (Dir (Child e (Dir Nothing) (Child z (File (digest_of_bytes b)) Nothing)))))
    ∷ (CallDeliver, Delivered (d ∷ e ∷ []))
    ∷ (CallPart (d ∷ e ∷ []), Part None)
    ∷ (CallPart (d ∷ z ∷ []), Part (Some (File (digest_of_bytes b))))
    ∷ (CallKind (d ∷ []), KindIs (Some DirKind))
    ∷ (CallDeliver, Delivered (d ∷ e ∷ []))
    ∷ [])
a_directory_becomes_a_file = refl

-- a file becomes a directory before it is read
a_file_becomes_a_directory : IsRun (start Sensitive 1024 (dir (d ∷ []) ∷ file (d ∷ a ∷ []) a ∷ file (d ∷ b ∷ []) b ∷ [])) (
    (CallBegin 3 (d ∷ []), Version 0)
    ∷ (CallRead 3, Saw (d ∷ []) DirKind 2)
    ∷ (CallEdit (Remove (d ∷ a ∷ [])), Done)
    ∷ (CallEdit (Mkdir (d ∷ a ∷ [])), Done)
    ∷ (CallEdit (Write (d ∷ a ∷ x ∷ []) abc), Done)
    ∷ (CallRead 3, Saw (d ∷ a ∷ []) DirKind 2)
    ∷ (CallRead 3, Saw (d ∷ a ∷ x ∷ []) FileKind 1)
    ∷ (CallRead 3, Saw (d ∷ b ∷ []) FileKind 0)
    ∷ (CallPublish 3, Stored)
    ∷ (CallPart (d ∷ []), Part (Some (Dir (Child a (Dir (Child x (File (digest_of_bytes abc)) Nothing)) (Child b (File (digest_of_bytes b)) Nothing)))))
    ∷ (CallDeliver, Delivered (d ∷ a ∷ []))
    ∷ (CallDeliver, Delivered (d ∷ a ∷ []))
    ∷ (CallPart (d ∷ []), Part None)
    ∷ (CallPart (d ∷ b ∷ []), Part (Some (File (digest_of_bytes b))))
    ∷ (CallDeliver, Delivered (d ∷ a ∷ x ∷ []))
    ∷ [])
a_file_becomes_a_directory = refl

-- a child gets another spelling between its listing and its read
a_child_gets_another_spelling : IsRun (start Insensitive 1024 (dir (d ∷ []) ∷ file (d ∷ a ∷ []) a ∷ file (d ∷ b ∷ []) b ∷ [])) (
    (CallBegin 0 (d ∷ []), Version 0)
    ∷ (CallRead 0, Saw (d ∷ []) DirKind 2)
    ∷ (CallEdit (Move (d ∷ a ∷ []) (D ∷ A ∷ [])), Done)
    ∷ (CallRead 0, Saw (d ∷ a ∷ []) FileKind 1)
    ∷ (CallRead 0, Saw (d ∷ b ∷ []) FileKind 0)
    ∷ (CallPublish 0, Stored)
    ∷ (CallPart (d ∷ []), Part (Some (Dir (Child a (File (digest_of_bytes a)) (Child b (File (digest_of_bytes b)) Nothing)))))
    ∷ (CallDeliver, Delivered (d ∷ a ∷ []))
    ∷ (CallPart (d ∷ b ∷ []), Part (Some (File (digest_of_bytes b))))
    ∷ (CallPart (d ∷ a ∷ []), Part None)
    ∷ (CallDeliver, Delivered (D ∷ A ∷ []))
    ∷ (CallKind (d ∷ []), KindIs (Some DirKind))
    ∷ [])
a_child_gets_another_spelling = refl
