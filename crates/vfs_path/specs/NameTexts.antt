-- The bytes of a name, which stand in place where they are few.
use Rattle.std.specs.Prelude.{◌≤◌, List, ℕ, take}
use Rattle.vfs_path.specs.declared.name.NameText.{NameText}
use Rattle.vfs_path.specs.declared.name.NameText.TheVariants.{Short, Long}
use Rattle.vfs_path.specs.Texts.{IsName}

abbrev pub bytes_of : NameText → List ℕ
bytes_of (Short bytes len) = take len bytes
bytes_of (Long text) = text.items

abbrev pub IsShort : NameText → Type 0
IsShort (Short bytes len) = len ≤ 22
IsShort (Long text) = Unit {0}

pub record IsNameText (text : NameText) : Type 0 where
  pub name : IsName (bytes_of text)
  pub short : IsShort text
