-- The numbers of refusals.
use Rattle.std.specs.Prelude.{ℕ}
use Rattle.vfs_path.specs.declared.error.PathError.{PathError}
use Rattle.vfs_path.specs.declared.error.PathError.TheVariants.{NotAbsolute, EmptyName, DotName, LongName, TooDeep, BadByte, NoMemory}

-- the number that is printed for a refusal
abbrev pub number_of : PathError → ℕ
number_of NotAbsolute = 1
number_of EmptyName = 2
number_of DotName = 3
number_of LongName = 4
number_of TooDeep = 5
number_of BadByte = 6
number_of NoMemory = 7
