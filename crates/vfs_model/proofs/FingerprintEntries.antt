-- The entries of fingerprints, and the bytes that are hashed.
use Rattle.std.proofs.Common.{◌≡◌, ℕ, List, [], ◌∷◌, ◌++◌, refl}
use Rattle.std.specs.List.{flat_map}
use Rattle.vfs_model.specs.declared.Case.TheVariants.{Sensitive}
use Rattle.vfs_model.specs.Snapshot.{Snapshot, Missing, File, Dir, Nothing, Child}
use Rattle.vfs_model.specs.Fingerprint.{Absolute, Relative, NameOnly, Ignored, FpEntry, all_entries, sorted, entry_bytes}
use Rattle.vfs_model.proofs.Shorthand.{seen, md5_of_a, md5_of_abc, e, h, r, s, t, z}

-- an entry by its path, the byte for its kind and its digest; 47 is the slash, 68 a directory, 70 a file and 77 what is missing
abbrev entry : List ℕ → ℕ → List ℕ → FpEntry
entry path kind digest = record { path = path; kind = kind; digest = digest }

-- a directory with the file t, which holds abc
abbrev of_r_s : Snapshot
of_r_s = Dir (Child t (File md5_of_abc) Nothing)

-- a directory with the empty directory e and the directory s of before
abbrev of_r : Snapshot
of_r = Dir (Child e (Dir Nothing) (Child s of_r_s Nothing))

-- an absolute directory has an entry for each location, by its whole path
absolute_directory : sorted (all_entries Sensitive [] (seen (r ∷ []) Absolute of_r ∷ []))
    ≡ entry (47 ∷ r) 68 [] ∷ entry (47 ∷ r ++ 47 ∷ e) 68 [] ∷ entry (47 ∷ r ++ 47 ∷ s) 68 [] ∷ entry (47 ∷ r ++ 47 ∷ s ++ 47 ∷ t) 70 md5_of_abc ∷ []
absolute_directory = refl

-- a relative directory: each location is told by the names below the root
relative_directory : sorted (all_entries Sensitive [] (seen (r ∷ []) Relative of_r ∷ []))
    ≡ entry [] 68 [] ∷ entry e 68 [] ∷ entry s 68 [] ∷ entry (s ++ 47 ∷ t) 70 md5_of_abc ∷ []
relative_directory = refl

-- a directory by names alone: each location is told by its last name, and the root by nothing
directory_by_names : sorted (all_entries Sensitive [] (seen (r ∷ []) NameOnly of_r ∷ []))
    ≡ entry [] 68 [] ∷ entry e 68 [] ∷ entry s 68 [] ∷ entry t 70 md5_of_abc ∷ []
directory_by_names = refl

-- a directory with its paths ignored: the files alone have entries
ignored_directory : sorted (all_entries Sensitive [] (seen (r ∷ []) Ignored of_r ∷ []))
    ≡ entry [] 70 md5_of_abc ∷ []
ignored_directory = refl

-- an absolute file is told by its whole path
absolute_file : sorted (all_entries Sensitive [] (seen (h ∷ []) Absolute (File md5_of_a) ∷ []))
    ≡ entry (47 ∷ h) 70 md5_of_a ∷ []
absolute_file = refl

-- a relative file that is the root is told by its last name
relative_file : sorted (all_entries Sensitive [] (seen (h ∷ []) Relative (File md5_of_a) ∷ []))
    ≡ entry h 70 md5_of_a ∷ []
relative_file = refl

-- a file by names alone is told by its last name
file_by_name : sorted (all_entries Sensitive [] (seen (h ∷ []) NameOnly (File md5_of_a) ∷ []))
    ≡ entry h 70 md5_of_a ∷ []
file_by_name = refl

-- a file with its path ignored is told by nothing
ignored_file : sorted (all_entries Sensitive [] (seen (h ∷ []) Ignored (File md5_of_a) ∷ []))
    ≡ entry [] 70 md5_of_a ∷ []
ignored_file = refl

-- an absolute root that is missing has an entry too, by its whole path
absolute_missing : sorted (all_entries Sensitive [] (seen (z ∷ []) Absolute Missing ∷ []))
    ≡ entry (47 ∷ z) 77 [] ∷ []
absolute_missing = refl

-- a relative root that is missing is told by its last name
relative_missing : sorted (all_entries Sensitive [] (seen (z ∷ []) Relative Missing ∷ []))
    ≡ entry z 77 [] ∷ []
relative_missing = refl

-- a missing root by names alone is told by its last name
missing_by_name : sorted (all_entries Sensitive [] (seen (z ∷ []) NameOnly Missing ∷ []))
    ≡ entry z 77 [] ∷ []
missing_by_name = refl

-- a missing root with its path ignored is told by nothing
ignored_missing : sorted (all_entries Sensitive [] (seen (z ∷ []) Ignored Missing ∷ []))
    ≡ entry [] 77 [] ∷ []
ignored_missing = refl

-- an empty directory with its path ignored has no entry
ignored_empty_directory : sorted (all_entries Sensitive [] (seen (r ∷ e ∷ []) Ignored (Dir Nothing) ∷ []))
    ≡ []
ignored_empty_directory = refl

-- of a directory after a part of it, what lies outside the part is taken
a_part_and_then_the_whole : sorted (all_entries Sensitive [] (seen (r ∷ s ∷ []) Relative of_r_s ∷ seen (r ∷ []) Absolute of_r ∷ []))
    ≡ entry [] 68 [] ∷ entry (47 ∷ r) 68 [] ∷ entry (47 ∷ r ++ 47 ∷ e) 68 [] ∷ entry t 70 md5_of_abc ∷ []
a_part_and_then_the_whole = refl

-- a part after its directory adds nothing
the_whole_and_then_a_part : sorted (all_entries Sensitive [] (seen (r ∷ []) Absolute of_r ∷ seen (r ∷ s ∷ []) Relative of_r_s ∷ []))
    ≡ entry (47 ∷ r) 68 [] ∷ entry (47 ∷ r ++ 47 ∷ e) 68 [] ∷ entry (47 ∷ r ++ 47 ∷ s) 68 [] ∷ entry (47 ∷ r ++ 47 ∷ s ++ 47 ∷ t) 70 md5_of_abc ∷ []
the_whole_and_then_a_part = refl

-- the same root twice is taken once
the_same_root_twice : sorted (all_entries Sensitive [] (seen (h ∷ []) Relative (File md5_of_a) ∷ seen (h ∷ []) Relative (File md5_of_a) ∷ []))
    ≡ entry h 70 md5_of_a ∷ []
the_same_root_twice = refl

-- entries of several roots stand in one order
two_roots_in_order : sorted (all_entries Sensitive [] (seen (h ∷ []) Ignored (File md5_of_a) ∷ seen (r ∷ []) Ignored of_r ∷ []))
    ≡ entry [] 70 md5_of_a ∷ entry [] 70 md5_of_abc ∷ []
two_roots_in_order = refl

-- of entries with one path the kind is compared before the digest: a file stands before what is missing, which has no digest
kinds_come_before_digests : sorted (all_entries Sensitive [] (seen (z ∷ []) NameOnly Missing ∷ seen (r ∷ z ∷ []) NameOnly (File md5_of_a) ∷ []))
    ≡ entry z 70 md5_of_a ∷ entry z 77 [] ∷ []
kinds_come_before_digests = refl

-- the bytes of a relative file
bytes_of_a_relative_file : flat_map entry_bytes (sorted (all_entries Sensitive [] (seen (h ∷ []) Relative (File md5_of_a) ∷ [])))
    ≡ (0 ∷ 0 ∷ 0 ∷ 1 ∷ 104 ∷ 70 ∷ 0 ∷ 0 ∷ 0 ∷ 16 ∷ 12 ∷ 193 ∷ 117 ∷ 185 ∷ 192 ∷ 241 ∷ 182 ∷ 168 ∷ 49 ∷ 195 ∷ 153 ∷ 226 ∷ 105 ∷ 119 ∷ 38 ∷ 97 ∷ [])
bytes_of_a_relative_file = refl

-- the bytes of a missing root, its path ignored
bytes_of_an_ignored_missing_root : flat_map entry_bytes (sorted (all_entries Sensitive [] (seen (z ∷ []) Ignored Missing ∷ [])))
    ≡ (0 ∷ 0 ∷ 0 ∷ 0 ∷ 77 ∷ 0 ∷ 0 ∷ 0 ∷ 0 ∷ [])
bytes_of_an_ignored_missing_root = refl

-- the bytes of two files, their paths ignored
bytes_of_two_files : flat_map entry_bytes (sorted (all_entries Sensitive [] (seen (h ∷ []) Ignored (File md5_of_a) ∷ seen (r ∷ []) Ignored of_r ∷ [])))
    ≡ (0 ∷ 0 ∷ 0 ∷ 0 ∷ 70 ∷ 0 ∷ 0 ∷ 0 ∷ 16 ∷ 12 ∷ 193 ∷ 117 ∷ 185 ∷ 192 ∷ 241 ∷ 182 ∷ 168 ∷ 49 ∷ 195 ∷ 153 ∷ 226 ∷ 105 ∷ 119 ∷ 38 ∷ 97 ∷ 0 ∷ 0 ∷ 0 ∷ 0 ∷ 70 ∷ 0 ∷ 0 ∷ 0 ∷ 16 ∷ 144 ∷ 1 ∷ 80 ∷ 152 ∷ 60 ∷ 210 ∷ 79 ∷ 176 ∷ 214 ∷ 150 ∷ 63 ∷ 125 ∷ 40 ∷ 225 ∷ 127 ∷ 114 ∷ [])
bytes_of_two_files = refl
