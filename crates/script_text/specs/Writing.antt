-- The one text that is written for a script.
use Rattle.std.specs.Prelude.{ℕ, List, [], ◌∷◌, ◌++◌, map, codes}
use Rattle.std.specs.List.{flat_map}
use Rattle.std.specs.Fmt.{decimal}
use Rattle.vfs_model.specs.Paths.{Path}
use Rattle.vfs_path.specs.Texts.{path_text}
use Rattle.world_model.specs.declared.edit.Edit.{Edit as EditValue}
use Rattle.world_model.specs.declared.edit.Edit.TheVariants.{Write, Mkdir, Remove, Move}
use Rattle.fingerprint_norms.specs.declared.input.Input.{Input}
use Rattle.script_text.specs.declared.script.TextKind.TheVariants.{Replay}
use Rattle.script_text.specs.declared.script.Opening.{Opening}
use Rattle.script_text.specs.declared.script.Opening.TheVariants.{Case, Queue, Places, Workers, Dir, File}
use Rattle.script_text.specs.declared.script.Command.{Command}
use Rattle.script_text.specs.declared.script.Command.TheVariants.{Edit, Event, Lose, Deliver, Settle, Begin, Read, Publish, Abandon, Scan, Find, KindOf, VersionOf, Print, Build}
use Rattle.script_text.specs.declared.script.Line.{Line}
use Rattle.script_text.specs.declared.script.Script.{Script}
use Rattle.script_text.specs.Grammar.{case_word, input_word, IsTextOf}
use Rattle.script_text.specs.Spelling.{spelled}

-- ---- words

-- a word behind another: a space, and how it is spelled
abbrev pub spaced : List ℕ → List ℕ
spaced word = 32 ∷ spelled word

-- the words after the first of a line
abbrev pub tail_text : List (List ℕ) → List ℕ
tail_text words = flat_map spaced words

-- a name and a number
abbrev pub number_words : List ℕ → ℕ → List (List ℕ)
number_words name n = name ∷ decimal n ∷ []

-- a name and a path
abbrev pub path_words : List ℕ → Path → List (List ℕ)
path_words name path = name ∷ path_text path ∷ []

-- a name and two paths
abbrev pub two_path_words : List ℕ → Path → Path → List (List ℕ)
two_path_words name from to = name ∷ path_text from ∷ path_text to ∷ []

-- a name, a path and the contents of a file; an empty file is written without them
abbrev pub file_words : List ℕ → Path → List ℕ → List (List ℕ)
file_words name path [] = name ∷ path_text path ∷ []
file_words name path (b ∷ bytes) = name ∷ path_text path ∷ (b ∷ bytes) ∷ []

-- a name and inputs
abbrev pub inputs_words : List ℕ → List Input → List (List ℕ)
inputs_words name inputs = name ∷ map input_word inputs

-- the words of an opening line after `set`
abbrev pub opening_words : Opening → List (List ℕ)
opening_words (Case case) = codes "case" ∷ case_word case ∷ []
opening_words (Queue n) = number_words (codes "queue") n
opening_words (Places n) = number_words (codes "places") n
opening_words (Workers n) = number_words (codes "workers") n
opening_words (Dir path) = path_words (codes "dir") path
opening_words (File path bytes) = file_words (codes "file") path bytes

-- the words of an edit after its caller
abbrev pub edit_words : EditValue → List (List ℕ)
edit_words (Write path bytes) = file_words (codes "write") path bytes
edit_words (Mkdir path) = path_words (codes "mkdir") path
edit_words (Remove path) = path_words (codes "remove") path
edit_words (Move from to) = two_path_words (codes "move") from to

-- the words of a command after its caller
abbrev pub command_words : Command → List (List ℕ)
command_words (Edit edit) = edit_words edit
command_words (Event path) = path_words (codes "event") path
command_words Lose = codes "lose" ∷ []
command_words Deliver = codes "deliver" ∷ []
command_words Settle = codes "settle" ∷ []
command_words (Begin path) = path_words (codes "begin") path
command_words Read = codes "read" ∷ []
command_words Publish = codes "publish" ∷ []
command_words Abandon = codes "abandon" ∷ []
command_words (Scan path) = path_words (codes "scan") path
command_words (Find path) = path_words (codes "find") path
command_words (KindOf path) = path_words (codes "kind") path
command_words (VersionOf path) = path_words (codes "version") path
command_words (Print inputs) = inputs_words (codes "print") inputs
command_words (Build inputs) = inputs_words (codes "build") inputs

-- ---- lines

-- a line with its end
abbrev pub ended : List ℕ → List ℕ
ended text = text ++ 10 ∷ []

-- an opening line, without its end
abbrev pub opening_text : Opening → List ℕ
opening_text o = spelled (codes "set") ++ tail_text (opening_words o)

-- a command line, without its end
abbrev pub line_text : Line → List ℕ
line_text l = spelled (decimal l.caller) ++ tail_text (command_words l.command)

-- ---- texts

-- opening lines, each with its end
abbrev pub openings_text : List Opening → List ℕ
openings_text openings = flat_map (λ o. ended (opening_text o)) openings

-- command lines, each with its end
abbrev pub lines_text : List Line → List ℕ
lines_text lines = flat_map (λ l. ended (line_text l)) lines

-- the text that is written for a script: its opening lines, and then its command lines
abbrev pub text_of : Script → List ℕ
text_of s = openings_text s.opening ++ lines_text s.lines

-- the script has a text
abbrev pub HasText : Script → Type 0
HasText s = (text : List ℕ) × IsTextOf Replay text s
