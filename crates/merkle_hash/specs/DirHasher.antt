-- What a hasher of a directory has taken.
use Rattle.std.specs.Prelude.{ℕ, List, ◌∷◌}
use Rattle.md5.specs.Md5.{Holds}
use Rattle.merkle_hash.specs.declared.dir_hasher.DirHasher.{DirHasher}
use Rattle.merkle_hash.specs.declared.dir_hasher.Mark.{Mark}
use Rattle.merkle_hash.specs.declared.dir_hasher.Mark.TheVariants.{F, D}

-- the byte of a mark
abbrev pub byte_of : Mark → ℕ
byte_of F = 70
byte_of D = 68

-- the bytes that the hasher has taken of children, behind the byte of the directory
abbrev pub HasTaken : DirHasher → List ℕ → Type 0
HasTaken h bytes = Holds h.hasher (68 ∷ bytes)
