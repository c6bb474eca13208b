-- A script of any size: directories of eight files each, and three builds of them, one after a write.
use Rattle.std.specs.Prelude.{ℕ, List, [], ◌∷◌, ◌++◌, map, codes}
use Rattle.std.specs.List.{flat_map, range_with_len}
use Rattle.std.specs.Fmt.{decimal}
use Rattle.vfs_model.specs.Paths.{Path}
use Rattle.world_model.specs.Defaults.{default_settings}
use Rattle.world_model.specs.declared.edit.Edit.TheVariants.{Write, Mkdir}
use Rattle.fingerprint_norms.specs.declared.input.Sensitivity.TheVariants.{Relative, NameOnly}
use Rattle.script_text.specs.declared.script.Command.{Command}
use Rattle.script_text.specs.declared.script.Command.TheVariants.{Edit, Build}
use Rattle.script_text.specs.declared.script.Line.{Line}
use Rattle.script_text.specs.declared.script.Script.{Script}

-- the directory with the number: `/dI`
abbrev pub directory_at : ℕ → Path
directory_at i = (codes "d" ++ decimal i) ∷ []

-- the file with a number in it: `/dI/fJ`
abbrev pub file_at : ℕ → ℕ → Path
file_at i j = directory_at i ++ (codes "f" ++ decimal j) ∷ []

-- what the file holds: both numbers, with a dot between them
abbrev pub content_at : ℕ → ℕ → List ℕ
content_at i j = decimal i ++ codes "." ++ decimal j

-- a line of caller 0
abbrev pub line : Command → Line
line command = record { caller = 0; command = command }

-- the line that makes the directory
abbrev pub mkdir_line : ℕ → Line
mkdir_line i = line (Edit (Mkdir (directory_at i)))

-- the line that writes the file
abbrev pub file_line : ℕ → ℕ → Line
file_line i j = line (Edit (Write (file_at i j) (content_at i j)))

-- the lines of a directory: it is made, and the files 0 to 7 are written into it
abbrev pub directory_lines : ℕ → List Line
directory_lines i = mkdir_line i ∷ map (file_line i) (range_with_len 0 8)

-- a build of the first directory, by its names, and of the root, by the last names
abbrev pub build_line : Line
build_line = line (Build (record { root = directory_at 0; sensitivity = Relative } ∷ record { root = []; sensitivity = NameOnly } ∷ []))

-- a write to the first file
abbrev pub new_line : Line
new_line = line (Edit (Write (file_at 0 0) (codes "new")))

-- the lines that follow those of the directories: two builds, the write, and a third build
abbrev pub build_lines : List Line
build_lines = build_line ∷ build_line ∷ new_line ∷ build_line ∷ []

-- the script of so many directories, 0 and up, with nothing before its command lines
abbrev pub generated : ℕ → Script
generated n = record {
  settings = default_settings;
  opening = [];
  lines = flat_map directory_lines (range_with_len 0 n) ++ build_lines;
}
