-- Edits: why each is refused, in which order, and what is told of one that is done.
use Rattle.std.proofs.Common.{◌≡◌, ℕ, zero, suc, ◌+◌, ◌/◌, ◌%◌, [], ◌∷◌, ◌++◌, Some, None, refl, map}
use Rattle.vfs_model.specs.declared.Case.TheVariants.{Sensitive}
use Rattle.vfs_model.specs.Paths.{Path}
use Rattle.vfs_model.specs.World.{World, Entry, names}
use Rattle.vfs_model.specs.Edit.{Write, Mkdir, Remove, Move, Root, NoParent, NotDir, Exists, Absent, IntoItself, TooDeep, Crowded, refusal, apply}
use Rattle.vfs_model.specs.State.{CallEdit, CallDeliver, Refused, Done, Delivered, NothingPending}
use Rattle.vfs_model.proofs.Shorthand.{IsRun, start, root, file, dir, deep, a, b, d, e, f, n, q, w, x, y, z}

-- a tree with the file /f, the directory /d and the file /d/x
abbrev tree : World
tree = file (f ∷ []) a ∷ dir (d ∷ []) ∷ file (d ∷ x ∷ []) a ∷ []

-- the root is no file
no_write_of_the_root : IsRun (start Sensitive 1024 tree) (
    (CallEdit (Write [] a), Refused Root)
    ∷ (CallDeliver, NothingPending)
    ∷ (CallDeliver, NothingPending)
    ∷ (CallDeliver, NothingPending)
    ∷ [])
no_write_of_the_root = refl

-- the directory that the file is to stand in is missing
no_write_below_what_is_missing : IsRun (start Sensitive 1024 tree) (
    (CallEdit (Write (n ∷ x ∷ []) a), Refused NoParent)
    ∷ (CallDeliver, NothingPending)
    ∷ (CallDeliver, NothingPending)
    ∷ (CallDeliver, NothingPending)
    ∷ [])
no_write_below_what_is_missing = refl

-- below a file everything is missing, and so is the directory that the file is to stand in
nothing_is_below_a_file : IsRun (start Sensitive 1024 tree) (
    (CallEdit (Write (f ∷ x ∷ y ∷ []) a), Refused NoParent)
    ∷ (CallDeliver, NothingPending)
    ∷ (CallDeliver, NothingPending)
    ∷ (CallDeliver, NothingPending)
    ∷ [])
nothing_is_below_a_file = refl

-- a file stands where the directory should
no_write_in_a_file : IsRun (start Sensitive 1024 tree) (
    (CallEdit (Write (f ∷ x ∷ []) a), Refused NotDir)
    ∷ (CallDeliver, NothingPending)
    ∷ (CallDeliver, NothingPending)
    ∷ (CallDeliver, NothingPending)
    ∷ [])
no_write_in_a_file = refl

-- a directory stands at the path of a write
no_write_over_a_directory : IsRun (start Sensitive 1024 tree) (
    (CallEdit (Write (d ∷ []) a), Refused Exists)
    ∷ (CallDeliver, NothingPending)
    ∷ (CallDeliver, NothingPending)
    ∷ (CallDeliver, NothingPending)
    ∷ [])
no_write_over_a_directory = refl

-- a file stands at the path of a new directory
no_mkdir_over_a_file : IsRun (start Sensitive 1024 tree) (
    (CallEdit (Mkdir (f ∷ [])), Refused Exists)
    ∷ (CallDeliver, NothingPending)
    ∷ (CallDeliver, NothingPending)
    ∷ (CallDeliver, NothingPending)
    ∷ [])
no_mkdir_over_a_file = refl

-- nothing is there to remove
no_removal_of_what_is_missing : IsRun (start Sensitive 1024 tree) (
    (CallEdit (Remove (n ∷ [])), Refused Absent)
    ∷ (CallDeliver, NothingPending)
    ∷ (CallDeliver, NothingPending)
    ∷ (CallDeliver, NothingPending)
    ∷ [])
no_removal_of_what_is_missing = refl

-- a directory cannot go below itself
no_move_into_itself : IsRun (start Sensitive 1024 tree) (
    (CallEdit (Move (d ∷ []) (d ∷ e ∷ [])), Refused IntoItself)
    ∷ (CallDeliver, NothingPending)
    ∷ (CallDeliver, NothingPending)
    ∷ (CallDeliver, NothingPending)
    ∷ [])
no_move_into_itself = refl

-- a file stands where the move leads
no_move_onto_a_file : IsRun (start Sensitive 1024 tree) (
    (CallEdit (Move (d ∷ []) (f ∷ [])), Refused Exists)
    ∷ (CallDeliver, NothingPending)
    ∷ (CallDeliver, NothingPending)
    ∷ (CallDeliver, NothingPending)
    ∷ [])
no_move_onto_a_file = refl

-- nothing is there to move: that is answered before where it would go
absent_comes_before_into_itself : IsRun (start Sensitive 1024 tree) (
    (CallEdit (Move (n ∷ []) (n ∷ x ∷ [])), Refused Absent)
    ∷ (CallDeliver, NothingPending)
    ∷ (CallDeliver, NothingPending)
    ∷ (CallDeliver, NothingPending)
    ∷ [])
absent_comes_before_into_itself = refl

-- a move tells from where and then to where
a_move_tells_both_ends : IsRun (start Sensitive 1024 tree) (
    (CallEdit (Move (d ∷ []) (e ∷ [])), Done)
    ∷ (CallDeliver, Delivered (d ∷ []))
    ∷ (CallDeliver, Delivered (e ∷ []))
    ∷ (CallDeliver, NothingPending)
    ∷ [])
a_move_tells_both_ends = refl

-- a write tells its file
a_write_tells_its_file : IsRun (start Sensitive 1024 tree) (
    (CallEdit (Write (f ∷ []) b), Done)
    ∷ (CallDeliver, Delivered (f ∷ []))
    ∷ (CallDeliver, NothingPending)
    ∷ (CallDeliver, NothingPending)
    ∷ [])
a_write_tells_its_file = refl

-- after a move the directory stands under its new name, and no more under the old one
a_move_renames : names Sensitive (apply Sensitive (root ∷ tree) (Move (d ∷ []) (e ∷ []))) [] ≡ e ∷ f ∷ []
a_move_renames = refl

-- where several refusals hold, the first in their order is answered
refusals_come_in_order : IsRun (start Sensitive 1024 (dir (d ∷ []) ∷ file (d ∷ x ∷ []) a ∷ file (f ∷ []) a ∷ dir (e ∷ []) ∷ [])) (
    (CallEdit (Move [] (n ∷ [])), Refused Root)
    ∷ (CallEdit (Move (n ∷ []) []), Refused Root)
    ∷ (CallEdit (Move (n ∷ []) (f ∷ x ∷ [])), Refused Absent)
    ∷ (CallEdit (Move (d ∷ []) (d ∷ n ∷ x ∷ [])), Refused IntoItself)
    ∷ (CallEdit (Move (f ∷ []) (f ∷ x ∷ [])), Refused IntoItself)
    ∷ (CallEdit (Move (d ∷ []) (n ∷ x ∷ [])), Refused NoParent)
    ∷ (CallEdit (Move (d ∷ []) (f ∷ x ∷ [])), Refused NotDir)
    ∷ (CallEdit (Move (d ∷ []) (e ∷ [])), Refused Exists)
    ∷ (CallEdit (Move (d ∷ []) (e ∷ d ∷ [])), Done)
    ∷ (CallEdit (Move (e ∷ d ∷ x ∷ []) (e ∷ x ∷ [])), Done)
    ∷ (CallEdit (Mkdir (n ∷ x ∷ [])), Refused NoParent)
    ∷ (CallEdit (Mkdir (f ∷ x ∷ [])), Refused NotDir)
    ∷ (CallEdit (Mkdir []), Refused Root)
    ∷ (CallEdit (Remove []), Refused Root)
    ∷ (CallEdit (Remove (f ∷ x ∷ [])), Refused Absent)
    ∷ (CallEdit (Write (e ∷ d ∷ []) a), Refused Exists)
    ∷ (CallDeliver, Delivered (d ∷ []))
    ∷ [])
refusals_come_in_order = refl

-- directories one in another, so many levels deep
abbrev nest : ℕ → World
nest zero = []
nest (suc n) = nest n ++ dir (deep (suc n)) ∷ []

-- a path of 64 names is made, and a move that would make one of 65 is refused
no_path_has_65_names : IsRun (start Sensitive 1024 (nest 63 ++ (dir (y ∷ []) ∷ file (y ∷ z ∷ []) a ∷ file (w ∷ []) b ∷ []))) (
    (CallEdit (Move (y ∷ []) (deep 63 ++ q ∷ [])), Refused TooDeep)
    ∷ (CallEdit (Move (w ∷ []) (deep 63 ++ q ∷ [])), Done)
    ∷ (CallEdit (Move (y ∷ []) (deep 62 ++ q ∷ [])), Done)
    ∷ (CallEdit (Move (y ∷ []) (deep 64)), Refused Absent)
    ∷ (CallEdit (Mkdir (deep 64)), Done)
    ∷ (CallDeliver, Delivered (w ∷ []))
    ∷ (CallDeliver, Delivered (deep 63 ++ q ∷ []))
    ∷ (CallDeliver, Delivered (y ∷ []))
    ∷ (CallDeliver, Delivered (deep 62 ++ q ∷ []))
    ∷ [])
no_path_has_65_names = refl

-- where something stands at the place to which a move leads, that is answered, also where paths below would be too deep
exists_comes_before_too_deep : IsRun (start Sensitive 1024 (nest 63 ++ (dir (y ∷ []) ∷ file (y ∷ z ∷ []) a ∷ file (deep 63 ++ q ∷ []) b ∷ []))) (
    (CallEdit (Move (y ∷ []) (deep 63 ++ q ∷ [])), Refused Exists)
    ∷ (CallEdit (Move (deep 63 ++ q ∷ []) (deep 64)), Done)
    ∷ (CallEdit (Move (y ∷ []) (deep 63 ++ z ∷ [])), Refused TooDeep)
    ∷ (CallEdit (Move (y ∷ []) (deep 63)), Refused Exists)
    ∷ (CallDeliver, Delivered (deep 63 ++ q ∷ []))
    ∷ (CallDeliver, Delivered (deep 64))
    ∷ (CallDeliver, NothingPending)
    ∷ [])
exists_comes_before_too_deep = refl

-- so many files, their names of two bytes, from the number k on
abbrev crowd : ℕ → ℕ → World
crowd zero k = []
crowd (suc n) k = file ((k / 256 ∷ k % 256 ∷ []) ∷ []) a ∷ crowd n (k + 1)

-- a directory of 4,096 names takes no other
a_full_directory_takes_no_name : refusal Sensitive (root ∷ crowd 4096 0) (Write (x ∷ []) a) ≡ Some Crowded
a_full_directory_takes_no_name = refl

-- one of 4,095 names takes another
a_directory_of_4095_names_takes_one : refusal Sensitive (root ∷ crowd 4095 0) (Mkdir (x ∷ [])) ≡ None
a_directory_of_4095_names_takes_one = refl

-- in a full directory a file is written again, and moved to another name
a_full_directory_takes_a_rewrite : refusal Sensitive (root ∷ crowd 4096 0) (Write ((0 ∷ 7 ∷ []) ∷ []) b) ≡ None
a_full_directory_takes_a_rewrite = refl

a_full_directory_takes_a_move_within : refusal Sensitive (root ∷ crowd 4096 0) (Move ((0 ∷ 7 ∷ []) ∷ []) (x ∷ [])) ≡ None
a_full_directory_takes_a_move_within = refl

-- the same files below a path
abbrev crowd_below : Path → ℕ → World
crowd_below p n = map (λ (e : Entry). record { path = p ++ e.path; node = e.node }) (crowd n 0)

-- a full directory of 63 names, and what would be moved into it
abbrev full_and_deep : World
full_and_deep = root ∷ dir (y ∷ []) ∷ file (y ∷ z ∷ []) a ∷ nest 63 ++ crowd_below (deep 63) 4096

-- where paths would be too deep and the directory is full, the depth is answered
too_deep_comes_before_crowded : refusal Sensitive full_and_deep (Move (y ∷ []) (deep 63 ++ q ∷ [])) ≡ Some TooDeep
too_deep_comes_before_crowded = refl

-- where none would be too deep, that it is full
a_full_directory_takes_no_move : refusal Sensitive full_and_deep (Move (y ∷ z ∷ []) (deep 63 ++ q ∷ [])) ≡ Some Crowded
a_full_directory_takes_no_move = refl
