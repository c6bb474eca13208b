-- The forms of lines: how the words after a caller, or after `set`, are read.
use Rattle.std.specs.Prelude.{ℕ, List, [], ◌∷◌, Option, Some, None, Result, Ok, Err, length, take, drop, nat_lt, nat_le, ◌&&◌, if◌then◌else◌, codes}
use Rattle.std.specs.Str.{bytes_eq}
use Rattle.vfs_model.specs.declared.Case.{Case}
use Rattle.vfs_model.specs.declared.Case.TheVariants.{Sensitive, Insensitive}
use Rattle.vfs_model.specs.Paths.{Path}
use Rattle.vfs_path.specs.declared.error.PathError.{PathError}
use Rattle.vfs_path.specs.Texts.{path_of}
use Rattle.fingerprint_norms.specs.declared.input.Input.{Input}
use Rattle.fingerprint_norms.specs.declared.input.Sensitivity.{Sensitivity}
use Rattle.fingerprint_norms.specs.declared.input.Sensitivity.TheVariants.{Absolute, Relative, NameOnly, Ignored}
use Rattle.world_model.specs.declared.edit.Edit.TheVariants as edits
use Rattle.script_text.specs.declared.cause.Cause.{Cause}
use Rattle.script_text.specs.declared.cause.Cause.TheVariants as causes
use Rattle.script_text.specs.declared.script.Opening.{Opening}
use Rattle.script_text.specs.declared.script.Opening.TheVariants as openings
use Rattle.script_text.specs.declared.script.Command.{Command}
use Rattle.script_text.specs.declared.script.Command.TheVariants as commands
use Rattle.script_text.specs.Steps.{◌>>=◌, all_from}
use Rattle.script_reader.specs.Numbers.{number_of}

-- ---- words that stand for values

-- the refusal of a path is a cause that carries it
abbrev pub or_bad_path : Result Path PathError → Result Path Cause
or_bad_path (Ok path) = Ok path
or_bad_path (Err refusal) = Err (causes.BadPath refusal)

-- the path with this text
abbrev pub path_from : List ℕ → Result Path Cause
path_from word = or_bad_path (path_of word)

-- the contents of a file, of limited size
abbrev pub content_from : List ℕ → Result (List ℕ) Cause
content_from word = if nat_lt 1048576 (length word) then Err causes.TooLarge else Ok word

-- the path and the contents of a file
abbrev pub file_from : List ℕ → List ℕ → Result (Path × List ℕ) Cause
file_from word bytes = path_from word >>= λ path. content_from bytes >>= λ content. Ok (path, content)

-- the number, which is to be from 1 to the limit
abbrev pub within : ℕ → Option ℕ → Result ℕ Cause
within limit None = Err causes.BadNumber
within limit (Some n) = if nat_le 1 n && nat_le n limit then Ok n else Err causes.BadNumber

-- the case that the word names
abbrev pub case_from : List ℕ → Result Case Cause
case_from word = if bytes_eq word (codes "sensitive") then Ok Sensitive else if bytes_eq word (codes "insensitive") then Ok Insensitive else Err causes.BadNumber

-- what follows the front of a word, where the word begins with it
abbrev pub behind : List ℕ → List ℕ → Option (List ℕ)
behind front word = if bytes_eq (take (length front) word) front then Some (drop (length front) word) else None

-- the sensitivity with the text that follows its word, where one does, and else another
abbrev pub cut_or : Sensitivity → Option (List ℕ) → Option (Sensitivity × List ℕ) → Option (Sensitivity × List ℕ)
cut_or sensitivity None other = other
cut_or sensitivity (Some text) other = Some (sensitivity, text)

-- the sensitivity of an input and the text of its root, by what the word begins with
abbrev pub cut_input : List ℕ → Option (Sensitivity × List ℕ)
cut_input word =
    cut_or Absolute (behind (codes "abs:") word)
    (cut_or Relative (behind (codes "rel:") word)
    (cut_or NameOnly (behind (codes "name:") word)
    (cut_or Ignored (behind (codes "none:") word) None)))

-- the input with these parts
abbrev pub input_with : Option (Sensitivity × List ℕ) → Result Input Cause
input_with None = Err causes.BadInput
input_with (Some parts) = path_from parts.1 >>= λ root. Ok (record { root = root; sensitivity = parts.0 })

-- the input with this text
abbrev pub input_from : List ℕ → Result Input Cause
input_from word = input_with (cut_input word)

-- ---- what may stand after the second word

-- nothing
abbrev pub no_more : List (List ℕ) → Result (Unit {0}) Cause
no_more [] = Ok tt
no_more (word ∷ more) = Err causes.WrongCount

-- a path
abbrev pub one_path : List (List ℕ) → Result Path Cause
one_path (word ∷ []) = path_from word
one_path _ = Err causes.WrongCount

-- two paths, the left one first
abbrev pub two_paths : List (List ℕ) → Result (Path × Path) Cause
two_paths (word ∷ other ∷ []) = path_from word >>= λ from. path_from other >>= λ to. Ok (from, to)
two_paths _ = Err causes.WrongCount

-- a path, and the contents of a file, which is empty where they are not given
abbrev pub one_file : List (List ℕ) → Result (Path × List ℕ) Cause
one_file (word ∷ []) = file_from word []
one_file (word ∷ bytes ∷ []) = file_from word bytes
one_file _ = Err causes.WrongCount

-- a number from 1 to the limit
abbrev pub one_number : ℕ → List (List ℕ) → Result ℕ Cause
one_number limit (word ∷ []) = within limit (number_of word)
one_number limit _ = Err causes.WrongCount

-- a case
abbrev pub one_case : List (List ℕ) → Result Case Cause
one_case (word ∷ []) = case_from word
one_case _ = Err causes.WrongCount

-- 1 to 64 inputs, the left one first
abbrev pub some_inputs : List (List ℕ) → Result (List Input) Cause
some_inputs args = if nat_le 1 (length args) && nat_le (length args) 64 then all_from input_from args else Err causes.WrongCount

-- ---- forms, by the second word

-- how the words after the second are read
abbrev pub Form : Type 0 → Type 0
Form X = List (List ℕ) → Result X Cause

-- the word alone
abbrev pub alone : {X : Type 0} → X → Form X
alone it args = no_more args >>= λ _. Ok it

-- the word and a path
abbrev pub with_path : {X : Type 0} → (Path → X) → Form X
with_path make args = one_path args >>= λ path. Ok (make path)

-- the word and two paths
abbrev pub with_two_paths : {X : Type 0} → (Path → Path → X) → Form X
with_two_paths make args = two_paths args >>= λ paths. Ok (make paths.0 paths.1)

-- the word, a path and the contents of a file
abbrev pub with_file : {X : Type 0} → (Path → List ℕ → X) → Form X
with_file make args = one_file args >>= λ file. Ok (make file.0 file.1)

-- the word and a number from 1 to the limit
abbrev pub with_number : {X : Type 0} → ℕ → (ℕ → X) → Form X
with_number limit make args = one_number limit args >>= λ n. Ok (make n)

-- the word and a case
abbrev pub with_case : {X : Type 0} → (Case → X) → Form X
with_case make args = one_case args >>= λ case. Ok (make case)

-- the word and 1 to 64 inputs
abbrev pub with_inputs : {X : Type 0} → (List Input → X) → Form X
with_inputs make args = some_inputs args >>= λ inputs. Ok (make inputs)

-- the form with this name, or another where none of the rows has it
abbrev pub form_named : {X : Type 0} → List (List ℕ × Form X) → Form X → List ℕ → Form X
form_named [] other word args = other args
form_named (row ∷ rows) other word args = if bytes_eq word row.0 then row.1 args else form_named rows other word args

-- a word that names no form
abbrev pub unknown : {X : Type 0} → Form X
unknown args = Err causes.UnknownWord

-- ---- the tables

-- the opening lines
abbrev pub opening_forms : List (List ℕ × Form Opening)
opening_forms =
    (codes "case", with_case openings.Case)
    ∷ (codes "queue", with_number 65536 openings.Queue)
    ∷ (codes "places", with_number 65536 openings.Places)
    ∷ (codes "workers", with_number 16 openings.Workers)
    ∷ (codes "dir", with_path openings.Dir)
    ∷ (codes "file", with_file openings.File)
    ∷ []

-- the commands that are a word alone
abbrev pub plain_forms : List (List ℕ × Form Command)
plain_forms =
    (codes "lose", alone commands.Lose)
    ∷ (codes "deliver", alone commands.Deliver)
    ∷ (codes "settle", alone commands.Settle)
    ∷ (codes "read", alone commands.Read)
    ∷ (codes "publish", alone commands.Publish)
    ∷ (codes "abandon", alone commands.Abandon)
    ∷ []

-- the edits
abbrev pub edit_forms : List (List ℕ × Form Command)
edit_forms =
    (codes "write", with_file (λ path bytes. commands.Edit (edits.Write path bytes)))
    ∷ (codes "mkdir", with_path (λ path. commands.Edit (edits.Mkdir path)))
    ∷ (codes "remove", with_path (λ path. commands.Edit (edits.Remove path)))
    ∷ (codes "move", with_two_paths (λ from to. commands.Edit (edits.Move from to)))
    ∷ []

-- the other commands on a path
abbrev pub path_forms : List (List ℕ × Form Command)
path_forms =
    (codes "event", with_path commands.Event)
    ∷ (codes "begin", with_path commands.Begin)
    ∷ (codes "scan", with_path commands.Scan)
    ∷ (codes "find", with_path commands.Find)
    ∷ (codes "kind", with_path commands.KindOf)
    ∷ (codes "version", with_path commands.VersionOf)
    ∷ []

-- the commands on inputs
abbrev pub input_forms : List (List ℕ × Form Command)
input_forms =
    (codes "print", with_inputs commands.Print)
    ∷ (codes "build", with_inputs commands.Build)
    ∷ []

-- the opening line of a word after `set` and the words after it
unfoldable pub opening_of : List ℕ → List (List ℕ) → Result Opening Cause
opening_of word args = form_named opening_forms unknown word args

-- the command of a second word and the words after it, where it is a word alone
unfoldable pub plain_command_of : List ℕ → List (List ℕ) → Result Command Cause
plain_command_of word args = form_named plain_forms unknown word args

-- where it is a word alone, or on inputs
unfoldable pub input_command_of : List ℕ → List (List ℕ) → Result Command Cause
input_command_of word args = form_named input_forms (plain_command_of word) word args

-- where it is one of these, or on a path and no edit
unfoldable pub path_command_of : List ℕ → List (List ℕ) → Result Command Cause
path_command_of word args = form_named path_forms (input_command_of word) word args

-- the command of a second word and the words after it, whatever it is
unfoldable pub command_of : List ℕ → List (List ℕ) → Result Command Cause
command_of word args = form_named edit_forms (path_command_of word) word args
