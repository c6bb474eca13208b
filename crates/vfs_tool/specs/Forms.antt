-- The forms of the words behind the program's name.
use Rattle.std.specs.Prelude.{◌≡◌, ℕ, ◌≤◌, List, [], ◌∷◌, map, codes, string_bytes, String}
use Rattle.std.specs.Global.{Global}
use Rattle.std.specs.Fmt.{decimal}
use Rattle.vfs_tool.specs.declared.forms.Form.{Form}
use Rattle.vfs_tool.specs.declared.forms.Form.TheVariants.{Replay, Folder, Gen}

-- the words of a replay
abbrev pub IsReplay : List (String Global) → Type 0
IsReplay words = map string_bytes words ≡ codes "replay" ∷ []

-- the words of `folder DIR`, where DIR is any word
abbrev pub IsFolder : List (String Global) → Type 0
IsFolder words = (dir : List ℕ) × (map string_bytes words ≡ codes "folder" ∷ dir ∷ [])

-- the text is that of a number from 1 to 1,000, in digits without a leading zero
abbrev pub IsCount : ℕ → List ℕ → Type 0
IsCount n text = (1 ≤ n) × (n ≤ 1000) × (text ≡ decimal n)

-- the words of `gen N`
abbrev pub IsGen : ℕ → List (String Global) → Type 0
IsGen n words = (1 ≤ n) × (n ≤ 1000) × (map string_bytes words ≡ codes "gen" ∷ decimal n ∷ [])

-- the words are those of the form
abbrev pub IsForm : Form → List (String Global) → Type 0
IsForm Replay words = IsReplay words
IsForm Folder words = IsFolder words
IsForm (Gen n) words = IsGen n words
