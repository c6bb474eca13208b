-- Fingerprints that a machine answers and keeps.
use Rattle.std.proofs.Common.{ℕ, List, [], ◌∷◌, ◌++◌, refl, None, map, take}
use Rattle.std.specs.List.{flat_map}
use Rattle.md5.specs.Md5.{md5, digest_bytes, hash_after, compress, rounds, block_words}
use Rattle.vfs_model.specs.declared.Case.TheVariants.{Sensitive, Insensitive}
use Rattle.vfs_model.specs.declared.Kind.TheVariants.{Missing as MissingKind, File as FileKind, Dir as DirKind}
use Rattle.vfs_model.specs.World.{digest_of_bytes}
use Rattle.vfs_model.specs.Edit.{Write}
use Rattle.vfs_model.specs.Snapshot.{Missing, File, Dir, Nothing, Child}
use Rattle.vfs_model.specs.Fingerprint.{Sensitivity, Absolute, Relative, NameOnly, Ignored, fingerprint}
use Rattle.vfs_model.specs.State.{CallEdit, CallEvent, CallDeliver, CallBegin, CallRead, CallPublish, CallFind, CallFingerprint, Done, Fits, Delivered, NothingPending, Version, AllRead, Saw, Stored, Found, Is, Unknown}
use Rattle.vfs_model.proofs.Shorthand.{IsRun, Line, start, file, dir, input, seen, found_file, found_dir, md5_of_a, a, abc, b, c, cw, e, f, h, l, lz, new, q, R, r, s, sx, sy, T, t, u, w, x, y, z}

-- a directory, a file and a missing root in each sensitivity, and lists of roots
each_sensitivity_of_each_kind : IsRun (start Sensitive 1024 (file (h ∷ []) a ∷ dir (r ∷ []) ∷ dir (r ∷ e ∷ []) ∷ dir (r ∷ s ∷ []) ∷ file (r ∷ s ∷ t ∷ []) abc ∷ [])) (
    (CallBegin 0 [], Version 0)
    ∷ (CallRead 0, Saw [] DirKind 2)
    ∷ (CallRead 0, Saw (h ∷ []) FileKind 1)
    ∷ (CallRead 0, Saw (r ∷ []) DirKind 2)
    ∷ (CallRead 0, Saw (r ∷ e ∷ []) DirKind 1)
    ∷ (CallRead 0, Saw (r ∷ s ∷ []) DirKind 1)
    ∷ (CallRead 0, Saw (r ∷ s ∷ t ∷ []) FileKind 0)
    ∷ (CallPublish 0, Stored)
    ∷ (CallFind [], found_dir (79 ∷ 3 ∷ 67 ∷ 189 ∷ 255 ∷ 163 ∷ 106 ∷ 39 ∷ 120 ∷ 199 ∷ 238 ∷ 14 ∷ 42 ∷ 164 ∷ 4 ∷ 59 ∷ []))
    ∷ (CallFind (r ∷ []), found_dir (30 ∷ 113 ∷ 4 ∷ 154 ∷ 216 ∷ 0 ∷ 208 ∷ 151 ∷ 210 ∷ 214 ∷ 190 ∷ 29 ∷ 198 ∷ 137 ∷ 251 ∷ 8 ∷ []))
    ∷ (CallFind (r ∷ e ∷ []), found_dir (246 ∷ 35 ∷ 231 ∷ 90 ∷ 243 ∷ 14 ∷ 98 ∷ 187 ∷ 215 ∷ 61 ∷ 109 ∷ 245 ∷ 181 ∷ 11 ∷ 183 ∷ 181 ∷ []))
    ∷ (CallFingerprint (input (r ∷ []) Absolute ∷ []), Is (34 ∷ 101 ∷ 254 ∷ 206 ∷ 0 ∷ 143 ∷ 255 ∷ 246 ∷ 165 ∷ 59 ∷ 24 ∷ 115 ∷ 144 ∷ 148 ∷ 200 ∷ 122 ∷ []))
    ∷ (CallFingerprint (input (r ∷ []) Relative ∷ []), Is (173 ∷ 125 ∷ 47 ∷ 102 ∷ 209 ∷ 108 ∷ 187 ∷ 26 ∷ 80 ∷ 1 ∷ 2 ∷ 6 ∷ 252 ∷ 32 ∷ 46 ∷ 86 ∷ []))
    ∷ (CallFingerprint (input (r ∷ []) NameOnly ∷ []), Is (227 ∷ 132 ∷ 214 ∷ 83 ∷ 55 ∷ 100 ∷ 62 ∷ 184 ∷ 92 ∷ 10 ∷ 10 ∷ 90 ∷ 21 ∷ 4 ∷ 182 ∷ 27 ∷ []))
    ∷ (CallFingerprint (input (r ∷ []) Ignored ∷ []), Is (248 ∷ 165 ∷ 176 ∷ 112 ∷ 188 ∷ 234 ∷ 14 ∷ 86 ∷ 115 ∷ 158 ∷ 66 ∷ 248 ∷ 177 ∷ 252 ∷ 217 ∷ 28 ∷ []))
    ∷ (CallFingerprint (input (h ∷ []) Absolute ∷ []), Is (230 ∷ 55 ∷ 156 ∷ 234 ∷ 86 ∷ 14 ∷ 198 ∷ 11 ∷ 252 ∷ 155 ∷ 236 ∷ 219 ∷ 217 ∷ 211 ∷ 90 ∷ 54 ∷ []))
    ∷ (CallFingerprint (input (h ∷ []) Relative ∷ []), Is (240 ∷ 66 ∷ 71 ∷ 146 ∷ 180 ∷ 192 ∷ 84 ∷ 131 ∷ 101 ∷ 70 ∷ 247 ∷ 222 ∷ 173 ∷ 156 ∷ 127 ∷ 134 ∷ []))
    ∷ (CallFingerprint (input (h ∷ []) NameOnly ∷ []), Is (240 ∷ 66 ∷ 71 ∷ 146 ∷ 180 ∷ 192 ∷ 84 ∷ 131 ∷ 101 ∷ 70 ∷ 247 ∷ 222 ∷ 173 ∷ 156 ∷ 127 ∷ 134 ∷ []))
    ∷ (CallFingerprint (input (h ∷ []) Ignored ∷ []), Is (117 ∷ 81 ∷ 162 ∷ 163 ∷ 10 ∷ 144 ∷ 7 ∷ 124 ∷ 114 ∷ 39 ∷ 149 ∷ 63 ∷ 102 ∷ 22 ∷ 85 ∷ 242 ∷ []))
    ∷ (CallFingerprint (input (z ∷ []) Absolute ∷ []), Is (79 ∷ 75 ∷ 55 ∷ 181 ∷ 100 ∷ 59 ∷ 159 ∷ 180 ∷ 110 ∷ 209 ∷ 84 ∷ 245 ∷ 90 ∷ 3 ∷ 124 ∷ 107 ∷ []))
    ∷ (CallFingerprint (input (z ∷ []) Relative ∷ []), Is (42 ∷ 183 ∷ 161 ∷ 16 ∷ 21 ∷ 153 ∷ 186 ∷ 215 ∷ 78 ∷ 64 ∷ 114 ∷ 190 ∷ 130 ∷ 17 ∷ 182 ∷ 67 ∷ []))
    ∷ (CallFingerprint (input (z ∷ []) NameOnly ∷ []), Is (42 ∷ 183 ∷ 161 ∷ 16 ∷ 21 ∷ 153 ∷ 186 ∷ 215 ∷ 78 ∷ 64 ∷ 114 ∷ 190 ∷ 130 ∷ 17 ∷ 182 ∷ 67 ∷ []))
    ∷ (CallFingerprint (input (z ∷ []) Ignored ∷ []), Is (25 ∷ 32 ∷ 73 ∷ 9 ∷ 132 ∷ 56 ∷ 97 ∷ 151 ∷ 200 ∷ 226 ∷ 159 ∷ 143 ∷ 76 ∷ 156 ∷ 154 ∷ 47 ∷ []))
    ∷ (CallFingerprint (input (r ∷ e ∷ []) Ignored ∷ []), Is (212 ∷ 29 ∷ 140 ∷ 217 ∷ 143 ∷ 0 ∷ 178 ∷ 4 ∷ 233 ∷ 128 ∷ 9 ∷ 152 ∷ 236 ∷ 248 ∷ 66 ∷ 126 ∷ []))
    ∷ (CallFingerprint (input (r ∷ s ∷ []) Relative ∷ input (r ∷ []) Absolute ∷ []), Is (5 ∷ 199 ∷ 80 ∷ 200 ∷ 76 ∷ 22 ∷ 183 ∷ 37 ∷ 53 ∷ 185 ∷ 139 ∷ 170 ∷ 124 ∷ 109 ∷ 174 ∷ 14 ∷ []))
    ∷ (CallFingerprint (input (r ∷ []) Absolute ∷ input (r ∷ s ∷ []) Relative ∷ []), Is (34 ∷ 101 ∷ 254 ∷ 206 ∷ 0 ∷ 143 ∷ 255 ∷ 246 ∷ 165 ∷ 59 ∷ 24 ∷ 115 ∷ 144 ∷ 148 ∷ 200 ∷ 122 ∷ []))
    ∷ (CallFingerprint (input (h ∷ []) Relative ∷ input (h ∷ []) Relative ∷ []), Is (240 ∷ 66 ∷ 71 ∷ 146 ∷ 180 ∷ 192 ∷ 84 ∷ 131 ∷ 101 ∷ 70 ∷ 247 ∷ 222 ∷ 173 ∷ 156 ∷ 127 ∷ 134 ∷ []))
    ∷ (CallFingerprint (input (h ∷ []) Ignored ∷ input (r ∷ []) Ignored ∷ []), Is (229 ∷ 208 ∷ 149 ∷ 135 ∷ 26 ∷ 107 ∷ 111 ∷ 21 ∷ 68 ∷ 107 ∷ 189 ∷ 29 ∷ 236 ∷ 83 ∷ 106 ∷ 36 ∷ []))
    ∷ [])
unfolding fingerprint digest_of_bytes md5 digest_bytes hash_after compress rounds block_words
each_sensitivity_of_each_kind = refl

-- the root in each sensitivity, and after a part of it; roots are compared without their spelling
fingerprints_of_the_root : IsRun (start Insensitive 1024 (dir (R ∷ []) ∷ file (R ∷ t ∷ []) abc ∷ file (h ∷ []) a ∷ [])) (
    (CallBegin 0 [], Version 0)
    ∷ (CallRead 0, Saw [] DirKind 2)
    ∷ (CallRead 0, Saw (h ∷ []) FileKind 1)
    ∷ (CallRead 0, Saw (R ∷ []) DirKind 1)
    ∷ (CallRead 0, Saw (R ∷ t ∷ []) FileKind 0)
    ∷ (CallPublish 0, Stored)
    ∷ (CallFingerprint (input [] Absolute ∷ []), Is (71 ∷ 253 ∷ 198 ∷ 54 ∷ 188 ∷ 60 ∷ 252 ∷ 175 ∷ 83 ∷ 178 ∷ 117 ∷ 181 ∷ 213 ∷ 187 ∷ 189 ∷ 39 ∷ []))
    ∷ (CallFingerprint (input [] Relative ∷ []), Is (227 ∷ 3 ∷ 165 ∷ 28 ∷ 162 ∷ 44 ∷ 239 ∷ 24 ∷ 92 ∷ 109 ∷ 215 ∷ 158 ∷ 163 ∷ 19 ∷ 146 ∷ 243 ∷ []))
    ∷ (CallFingerprint (input [] NameOnly ∷ []), Is (211 ∷ 132 ∷ 230 ∷ 43 ∷ 98 ∷ 202 ∷ 55 ∷ 205 ∷ 180 ∷ 232 ∷ 26 ∷ 187 ∷ 49 ∷ 67 ∷ 189 ∷ 137 ∷ []))
    ∷ (CallFingerprint (input [] Ignored ∷ []), Is (229 ∷ 208 ∷ 149 ∷ 135 ∷ 26 ∷ 107 ∷ 111 ∷ 21 ∷ 68 ∷ 107 ∷ 189 ∷ 29 ∷ 236 ∷ 83 ∷ 106 ∷ 36 ∷ []))
    ∷ (CallFingerprint (input (r ∷ []) Relative ∷ input [] NameOnly ∷ []), Is (134 ∷ 123 ∷ 181 ∷ 230 ∷ 89 ∷ 246 ∷ 214 ∷ 124 ∷ 178 ∷ 173 ∷ 169 ∷ 140 ∷ 53 ∷ 156 ∷ 211 ∷ 203 ∷ []))
    ∷ (CallFingerprint (input (r ∷ T ∷ []) Absolute ∷ input (r ∷ []) Absolute ∷ input (r ∷ t ∷ []) Relative ∷ []), Is (232 ∷ 54 ∷ 167 ∷ 62 ∷ 32 ∷ 14 ∷ 205 ∷ 48 ∷ 205 ∷ 148 ∷ 200 ∷ 236 ∷ 149 ∷ 125 ∷ 105 ∷ 214 ∷ []))
    ∷ [])
unfolding fingerprint digest_of_bytes md5 digest_bytes hash_after compress rounds block_words
fingerprints_of_the_root = refl

-- a missing root beside a file of that name, in either order of the inputs: the file's entry is the first
a_missing_root_beside_a_file_of_its_name : IsRun (start Sensitive 1024 (dir (r ∷ []) ∷ file (r ∷ z ∷ []) a ∷ [])) (
    (CallBegin 0 (z ∷ []), Version 0)
    ∷ (CallRead 0, Saw (z ∷ []) MissingKind 0)
    ∷ (CallPublish 0, Stored)
    ∷ (CallBegin 0 (r ∷ []), Version 0)
    ∷ (CallRead 0, Saw (r ∷ []) DirKind 1)
    ∷ (CallRead 0, Saw (r ∷ z ∷ []) FileKind 0)
    ∷ (CallPublish 0, Stored)
    ∷ (CallFingerprint (input (z ∷ []) NameOnly ∷ input (r ∷ z ∷ []) NameOnly ∷ []), Is (212 ∷ 197 ∷ 183 ∷ 38 ∷ 216 ∷ 186 ∷ 23 ∷ 138 ∷ 47 ∷ 6 ∷ 194 ∷ 244 ∷ 52 ∷ 89 ∷ 49 ∷ 3 ∷ []))
    ∷ (CallFingerprint (input (r ∷ z ∷ []) NameOnly ∷ input (z ∷ []) NameOnly ∷ []), Is (212 ∷ 197 ∷ 183 ∷ 38 ∷ 216 ∷ 186 ∷ 23 ∷ 138 ∷ 47 ∷ 6 ∷ 194 ∷ 244 ∷ 52 ∷ 89 ∷ 49 ∷ 3 ∷ []))
    ∷ (CallFingerprint (input (z ∷ []) Ignored ∷ input (r ∷ z ∷ []) Ignored ∷ []), Is (139 ∷ 54 ∷ 229 ∷ 86 ∷ 118 ∷ 93 ∷ 102 ∷ 213 ∷ 129 ∷ 169 ∷ 22 ∷ 9 ∷ 37 ∷ 164 ∷ 14 ∷ 76 ∷ []))
    ∷ [])
unfolding fingerprint digest_of_bytes md5 digest_bytes hash_after compress rounds block_words
a_missing_root_beside_a_file_of_its_name = refl

-- the inputs of a build, the same again, and once more after a write below one of them
a_build_again_and_after_a_write : IsRun (start Sensitive 1024 (dir (s ∷ []) ∷ file (s ∷ x ∷ []) sx ∷ file (s ∷ y ∷ []) sy ∷ dir (l ∷ []) ∷ file (l ∷ z ∷ []) lz ∷ dir (c ∷ []) ∷ file (c ∷ w ∷ []) cw ∷ [])) (
    (CallDeliver, NothingPending)
    ∷ (CallFind (s ∷ []), Found None)
    ∷ (CallBegin 0 (s ∷ []), Version 0)
    ∷ (CallRead 0, Saw (s ∷ []) DirKind 2)
    ∷ (CallRead 0, Saw (s ∷ x ∷ []) FileKind 1)
    ∷ (CallRead 0, Saw (s ∷ y ∷ []) FileKind 0)
    ∷ (CallRead 0, AllRead)
    ∷ (CallPublish 0, Stored)
    ∷ (CallFind (l ∷ []), Found None)
    ∷ (CallBegin 0 (l ∷ []), Version 0)
    ∷ (CallRead 0, Saw (l ∷ []) DirKind 1)
    ∷ (CallRead 0, Saw (l ∷ z ∷ []) FileKind 0)
    ∷ (CallRead 0, AllRead)
    ∷ (CallPublish 0, Stored)
    ∷ (CallFind (c ∷ []), Found None)
    ∷ (CallBegin 0 (c ∷ []), Version 0)
    ∷ (CallRead 0, Saw (c ∷ []) DirKind 1)
    ∷ (CallRead 0, Saw (c ∷ w ∷ []) FileKind 0)
    ∷ (CallRead 0, AllRead)
    ∷ (CallPublish 0, Stored)
    ∷ (CallFingerprint (input (s ∷ []) Relative ∷ input (l ∷ []) NameOnly ∷ input (c ∷ []) Ignored ∷ []), Is (172 ∷ 128 ∷ 218 ∷ 221 ∷ 76 ∷ 198 ∷ 133 ∷ 244 ∷ 241 ∷ 236 ∷ 22 ∷ 180 ∷ 1 ∷ 123 ∷ 121 ∷ 167 ∷ []))
    ∷ (CallDeliver, NothingPending)
    ∷ (CallFind (s ∷ []), found_dir (160 ∷ 231 ∷ 148 ∷ 36 ∷ 250 ∷ 219 ∷ 163 ∷ 10 ∷ 184 ∷ 76 ∷ 58 ∷ 226 ∷ 134 ∷ 182 ∷ 77 ∷ 65 ∷ []))
    ∷ (CallFind (l ∷ []), found_dir (179 ∷ 224 ∷ 87 ∷ 166 ∷ 44 ∷ 97 ∷ 196 ∷ 65 ∷ 169 ∷ 104 ∷ 208 ∷ 236 ∷ 173 ∷ 121 ∷ 49 ∷ 191 ∷ []))
    ∷ (CallFind (c ∷ []), found_dir (44 ∷ 185 ∷ 120 ∷ 120 ∷ 125 ∷ 149 ∷ 110 ∷ 69 ∷ 15 ∷ 129 ∷ 233 ∷ 229 ∷ 6 ∷ 121 ∷ 88 ∷ 139 ∷ []))
    ∷ (CallFingerprint (input (s ∷ []) Relative ∷ input (l ∷ []) NameOnly ∷ input (c ∷ []) Ignored ∷ []), Is (172 ∷ 128 ∷ 218 ∷ 221 ∷ 76 ∷ 198 ∷ 133 ∷ 244 ∷ 241 ∷ 236 ∷ 22 ∷ 180 ∷ 1 ∷ 123 ∷ 121 ∷ 167 ∷ []))
    ∷ (CallEdit (Write (s ∷ y ∷ []) new), Done)
    ∷ (CallDeliver, Delivered (s ∷ y ∷ []))
    ∷ (CallDeliver, NothingPending)
    ∷ (CallFind (s ∷ []), Found None)
    ∷ (CallBegin 0 (s ∷ []), Version 1)
    ∷ (CallRead 0, Saw (s ∷ []) DirKind 2)
    ∷ (CallRead 0, Saw (s ∷ x ∷ []) FileKind 1)
    ∷ (CallRead 0, Saw (s ∷ y ∷ []) FileKind 0)
    ∷ (CallRead 0, AllRead)
    ∷ (CallPublish 0, Stored)
    ∷ (CallFind (l ∷ []), found_dir (179 ∷ 224 ∷ 87 ∷ 166 ∷ 44 ∷ 97 ∷ 196 ∷ 65 ∷ 169 ∷ 104 ∷ 208 ∷ 236 ∷ 173 ∷ 121 ∷ 49 ∷ 191 ∷ []))
    ∷ (CallFind (c ∷ []), found_dir (44 ∷ 185 ∷ 120 ∷ 120 ∷ 125 ∷ 149 ∷ 110 ∷ 69 ∷ 15 ∷ 129 ∷ 233 ∷ 229 ∷ 6 ∷ 121 ∷ 88 ∷ 139 ∷ []))
    ∷ (CallFingerprint (input (s ∷ []) Relative ∷ input (l ∷ []) NameOnly ∷ input (c ∷ []) Ignored ∷ []), Is (240 ∷ 116 ∷ 14 ∷ 239 ∷ 89 ∷ 186 ∷ 228 ∷ 153 ∷ 24 ∷ 83 ∷ 67 ∷ 58 ∷ 107 ∷ 112 ∷ 38 ∷ 16 ∷ []))
    ∷ [])
unfolding fingerprint digest_of_bytes md5 digest_bytes hash_after compress rounds block_words
a_build_again_and_after_a_write = refl

-- a kept fingerprint is answered until an event below its root is delivered, also after another store
a_kept_fingerprint_outlives_a_store : IsRun (start Sensitive 1024 (file (f ∷ []) abc ∷ [])) (
    (CallBegin 0 (f ∷ []), Version 0)
    ∷ (CallRead 0, Saw (f ∷ []) FileKind 0)
    ∷ (CallRead 0, AllRead)
    ∷ (CallPublish 0, Stored)
    ∷ (CallFingerprint (input (f ∷ []) Relative ∷ []), Is (87 ∷ 185 ∷ 97 ∷ 225 ∷ 129 ∷ 242 ∷ 118 ∷ 37 ∷ 159 ∷ 6 ∷ 19 ∷ 27 ∷ 133 ∷ 221 ∷ 58 ∷ 231 ∷ []))
    ∷ (CallEdit (Write (f ∷ []) a), Done)
    ∷ (CallBegin 0 (f ∷ []), Version 0)
    ∷ (CallRead 0, Saw (f ∷ []) FileKind 0)
    ∷ (CallRead 0, AllRead)
    ∷ (CallPublish 0, Stored)
    ∷ (CallFind (f ∷ []), found_file md5_of_a)
    ∷ (CallFingerprint (input (f ∷ []) Relative ∷ []), Is (87 ∷ 185 ∷ 97 ∷ 225 ∷ 129 ∷ 242 ∷ 118 ∷ 37 ∷ 159 ∷ 6 ∷ 19 ∷ 27 ∷ 133 ∷ 221 ∷ 58 ∷ 231 ∷ []))
    ∷ (CallDeliver, Delivered (f ∷ []))
    ∷ (CallFingerprint (input (f ∷ []) Relative ∷ []), Unknown 0)
    ∷ [])
unfolding fingerprint digest_of_bytes md5 digest_bytes hash_after compress rounds block_words
a_kept_fingerprint_outlives_a_store = refl

-- of roots that are not known the first is told
the_first_unknown_root_is_told : IsRun (start Sensitive 1024 (file (h ∷ []) a ∷ dir (r ∷ []) ∷ dir (r ∷ e ∷ []) ∷ dir (r ∷ s ∷ []) ∷ file (r ∷ s ∷ t ∷ []) abc ∷ [])) (
    (CallFingerprint (input (h ∷ []) Relative ∷ input (r ∷ []) Relative ∷ []), Unknown 0)
    ∷ (CallBegin 0 (h ∷ []), Version 0)
    ∷ (CallRead 0, Saw (h ∷ []) FileKind 0)
    ∷ (CallRead 0, AllRead)
    ∷ (CallPublish 0, Stored)
    ∷ (CallFingerprint (input (h ∷ []) Relative ∷ input (r ∷ []) Relative ∷ []), Unknown 1)
    ∷ (CallBegin 0 (r ∷ []), Version 0)
    ∷ (CallRead 0, Saw (r ∷ []) DirKind 2)
    ∷ (CallRead 0, Saw (r ∷ e ∷ []) DirKind 1)
    ∷ (CallRead 0, Saw (r ∷ s ∷ []) DirKind 1)
    ∷ (CallRead 0, Saw (r ∷ s ∷ t ∷ []) FileKind 0)
    ∷ (CallRead 0, AllRead)
    ∷ (CallPublish 0, Stored)
    ∷ (CallFingerprint (input (h ∷ []) Relative ∷ input (r ∷ []) Relative ∷ []), Is (173 ∷ 243 ∷ 96 ∷ 172 ∷ 9 ∷ 7 ∷ 206 ∷ 242 ∷ 60 ∷ 182 ∷ 242 ∷ 23 ∷ 129 ∷ 239 ∷ 82 ∷ 156 ∷ []))
    ∷ [])
unfolding fingerprint digest_of_bytes md5 digest_bytes hash_after compress rounds block_words
the_first_unknown_root_is_told = refl

-- what lies below a retained path is known, missing or not; a related event ends it
a_root_below_a_retained_one_is_known : IsRun (start Sensitive 1024 (dir (r ∷ []) ∷ file (r ∷ t ∷ []) abc ∷ file (h ∷ []) a ∷ [])) (
    (CallBegin 0 (r ∷ t ∷ []), Version 0)
    ∷ (CallRead 0, Saw (r ∷ t ∷ []) FileKind 0)
    ∷ (CallPublish 0, Stored)
    ∷ (CallFingerprint (input (r ∷ t ∷ []) Relative ∷ input (h ∷ []) Relative ∷ input (r ∷ []) Relative ∷ []), Unknown 1)
    ∷ (CallFingerprint (input (r ∷ []) Relative ∷ input (r ∷ t ∷ []) Relative ∷ []), Unknown 0)
    ∷ (CallBegin 0 (z ∷ []), Version 0)
    ∷ (CallRead 0, Saw (z ∷ []) MissingKind 0)
    ∷ (CallPublish 0, Stored)
    ∷ (CallFingerprint (input (r ∷ t ∷ []) Relative ∷ input (z ∷ y ∷ []) Ignored ∷ input (z ∷ []) Relative ∷ []), Is (fingerprint Sensitive (seen (r ∷ t ∷ []) Relative (File (digest_of_bytes abc)) ∷ seen (z ∷ y ∷ []) Ignored Missing ∷ seen (z ∷ []) Relative Missing ∷ [])))
    ∷ (CallEvent (h ∷ []), Fits)
    ∷ (CallDeliver, Delivered (h ∷ []))
    ∷ (CallFingerprint (input (r ∷ t ∷ []) Relative ∷ input (z ∷ y ∷ []) Ignored ∷ input (z ∷ []) Relative ∷ []), Is (fingerprint Sensitive (seen (r ∷ t ∷ []) Relative (File (digest_of_bytes abc)) ∷ seen (z ∷ y ∷ []) Ignored Missing ∷ seen (z ∷ []) Relative Missing ∷ [])))
    ∷ (CallEvent (z ∷ y ∷ x ∷ []), Fits)
    ∷ (CallDeliver, Delivered (z ∷ y ∷ x ∷ []))
    ∷ (CallFingerprint (input (r ∷ t ∷ []) Relative ∷ input (z ∷ y ∷ []) Ignored ∷ input (z ∷ []) Relative ∷ []), Unknown 1)
    ∷ [])
a_root_below_a_retained_one_is_known = refl

-- a fingerprint is kept for its very list: another order, sensitivity or spelling is another list
kept_for_this_very_list : IsRun (start Insensitive 1024 (dir (r ∷ []) ∷ file (r ∷ t ∷ []) abc ∷ file (h ∷ []) a ∷ [])) (
    (CallBegin 0 (r ∷ []), Version 0)
    ∷ (CallRead 0, Saw (r ∷ []) DirKind 1)
    ∷ (CallRead 0, Saw (r ∷ t ∷ []) FileKind 0)
    ∷ (CallPublish 0, Stored)
    ∷ (CallBegin 0 (h ∷ []), Version 0)
    ∷ (CallRead 0, Saw (h ∷ []) FileKind 0)
    ∷ (CallPublish 0, Stored)
    ∷ (CallFingerprint (input (r ∷ []) Relative ∷ input (h ∷ []) Absolute ∷ []), Is (fingerprint Insensitive (seen (r ∷ []) Relative (Dir (Child t (File (digest_of_bytes abc)) Nothing)) ∷ seen (h ∷ []) Absolute (File (digest_of_bytes a)) ∷ [])))
    ∷ (CallEdit (Write (r ∷ t ∷ []) b), Done)
    ∷ (CallBegin 0 (r ∷ []), Version 0)
    ∷ (CallRead 0, Saw (r ∷ []) DirKind 1)
    ∷ (CallRead 0, Saw (r ∷ t ∷ []) FileKind 0)
    ∷ (CallPublish 0, Stored)
    ∷ (CallFingerprint (input (r ∷ []) Relative ∷ input (h ∷ []) Absolute ∷ []), Is (fingerprint Insensitive (seen (r ∷ []) Relative (Dir (Child t (File (digest_of_bytes abc)) Nothing)) ∷ seen (h ∷ []) Absolute (File (digest_of_bytes a)) ∷ [])))
    ∷ (CallFingerprint (input (R ∷ []) Relative ∷ input (h ∷ []) Absolute ∷ []), Is (fingerprint Insensitive (seen (R ∷ []) Relative (Dir (Child t (File (digest_of_bytes b)) Nothing)) ∷ seen (h ∷ []) Absolute (File (digest_of_bytes a)) ∷ [])))
    ∷ (CallFingerprint (input (h ∷ []) Absolute ∷ input (r ∷ []) Relative ∷ []), Is (fingerprint Insensitive (seen (h ∷ []) Absolute (File (digest_of_bytes a)) ∷ seen (r ∷ []) Relative (Dir (Child t (File (digest_of_bytes b)) Nothing)) ∷ [])))
    ∷ (CallFingerprint (input (r ∷ []) NameOnly ∷ input (h ∷ []) Absolute ∷ []), Is (fingerprint Insensitive (seen (r ∷ []) NameOnly (Dir (Child t (File (digest_of_bytes b)) Nothing)) ∷ seen (h ∷ []) Absolute (File (digest_of_bytes a)) ∷ [])))
    ∷ (CallFingerprint (input (r ∷ []) Relative ∷ input (h ∷ []) Absolute ∷ input (r ∷ t ∷ []) Relative ∷ []), Is (fingerprint Insensitive (seen (r ∷ []) Relative (Dir (Child t (File (digest_of_bytes b)) Nothing)) ∷ seen (h ∷ []) Absolute (File (digest_of_bytes a)) ∷ seen (r ∷ t ∷ []) Relative (File (digest_of_bytes b)) ∷ [])))
    ∷ (CallEvent (R ∷ T ∷ u ∷ []), Fits)
    ∷ (CallDeliver, Delivered (r ∷ t ∷ []))
    ∷ (CallFingerprint (input (r ∷ []) Relative ∷ input (h ∷ []) Absolute ∷ []), Unknown 0)
    ∷ (CallDeliver, Delivered (R ∷ T ∷ u ∷ []))
    ∷ (CallFingerprint (input (h ∷ []) Relative ∷ input (z ∷ []) Relative ∷ input (q ∷ []) Relative ∷ []), Unknown 1)
    ∷ (CallFingerprint (input (h ∷ []) Absolute ∷ []), Is (fingerprint Insensitive (seen (h ∷ []) Absolute (File (digest_of_bytes a)) ∷ [])))
    ∷ [])
kept_for_this_very_list = refl

-- each way to take a path
abbrev sensitivities : List Sensitivity
sensitivities = Absolute ∷ Relative ∷ NameOnly ∷ Ignored ∷ []

-- the 64 lists of three sensitivities
abbrev triples : List (List Sensitivity)
triples = flat_map (λ i. flat_map (λ j. map (λ k. i ∷ j ∷ k ∷ []) sensitivities) sensitivities) sensitivities

-- the fingerprint of the missing path /z, taken three times
abbrev of_missing : List Sensitivity → Line
of_missing triple = (CallFingerprint (map (λ m. input (z ∷ []) m) triple), Is (fingerprint Sensitive (map (λ m. seen (z ∷ []) m Missing) triple)))

-- the fingerprint of the file /f, by what was retained of it
abbrev of_file : List ℕ → Line
of_file bytes = (CallFingerprint (input (f ∷ []) Relative ∷ []), Is (fingerprint Sensitive (seen (f ∷ []) Relative (File (digest_of_bytes bytes)) ∷ [])))

-- of 64 kept fingerprints the oldest goes when another comes, and only then is its list taken again
the_oldest_of_64_goes : IsRun (start Sensitive 1024 (file (f ∷ []) a ∷ [])) (
    (CallBegin 0 (f ∷ []), Version 0)
    ∷ (CallRead 0, Saw (f ∷ []) FileKind 0)
    ∷ (CallPublish 0, Stored)
    ∷ (CallBegin 0 (z ∷ []), Version 0)
    ∷ (CallRead 0, Saw (z ∷ []) MissingKind 0)
    ∷ (CallPublish 0, Stored)
    ∷ of_file a
    ∷ (CallEdit (Write (f ∷ []) b), Done)
    ∷ (CallBegin 0 (f ∷ []), Version 0)
    ∷ (CallRead 0, Saw (f ∷ []) FileKind 0)
    ∷ (CallPublish 0, Stored)
    ∷ map of_missing (take 63 triples)
    ++ (of_file a
    ∷ of_missing (Ignored ∷ Ignored ∷ Ignored ∷ [])
    ∷ of_file b
    ∷ of_missing (Absolute ∷ Absolute ∷ Absolute ∷ [])
    ∷ of_missing (Absolute ∷ Absolute ∷ Relative ∷ [])
    ∷ (CallDeliver, Delivered (f ∷ []))
    ∷ (CallFingerprint (input (f ∷ []) Relative ∷ []), Unknown 0)
    ∷ []))
the_oldest_of_64_goes = refl
