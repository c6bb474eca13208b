-- A text as a script, or the first line that no script has there.
use Rattle.std.specs.Prelude.{◌≡◌, ℕ, ◌+◌, List, [], ◌∷◌, ◌++◌, length, Option, Some, None, Result, Ok, Err, nat_le, ◌==◌, if◌then◌else◌, codes}
use Rattle.std.specs.List.{slice_split, list_any}
use Rattle.std.specs.Str.{bytes_eq}
use Rattle.script_text.specs.declared.cause.Cause.{Cause}
use Rattle.script_text.specs.declared.cause.Cause.TheVariants as causes
use Rattle.script_text.specs.declared.cause.BadLine.{BadLine}
use Rattle.script_reader.specs.declared.error.LineError.{LineError}
use Rattle.script_reader.specs.declared.error.ScriptError.{ScriptError}
use Rattle.script_reader.specs.declared.error.ScriptError.TheVariants as errors
use Rattle.script_text.specs.declared.script.TextKind.{TextKind}
use Rattle.script_text.specs.declared.script.Opening.{Opening}
use Rattle.script_text.specs.declared.script.Line.{Line}
use Rattle.script_text.specs.declared.script.Script.{Script}
use Rattle.script_text.specs.Steps.{◌>>=◌}
use Rattle.script_reader.specs.Gives.{Fails}
use Rattle.script_reader.specs.Numbers.{number_of}
use Rattle.script_text.specs.Words.{is_note, words_of}
use Rattle.world_model.specs.Defaults.{default_settings}
use Rattle.script_text.specs.Set.{with_set, is_same_setting}
use Rattle.script_text.specs.Grammar.{is_in, is_line_end}
use Rattle.script_reader.specs.Forms.{opening_of, command_of}

-- the script before its first line
abbrev pub no_lines : Script
no_lines = record { settings = default_settings; opening = []; lines = [] }

-- the script with one more opening line
abbrev pub with_opening : Script → Opening → Script
with_opening before opening = record { settings = with_set before.settings opening; opening = before.opening ++ opening ∷ []; lines = before.lines }

-- the script with one more command line
abbrev pub with_line : Script → Line → Script
with_line before line = record { settings = before.settings; opening = before.opening; lines = before.lines ++ line ∷ [] }

-- the caller with this number, from 0 to 15
abbrev pub caller_from : Option ℕ → Result ℕ Cause
caller_from None = Err causes.BadCaller
caller_from (Some n) = if nat_le n 15 then Ok n else Err causes.BadCaller

-- the words after `set`, where no command line came before
abbrev pub with_setting : Script → List (List ℕ) → Result Script Cause
with_setting before [] = Err causes.WrongCount
with_setting before (word ∷ args) =
    opening_of word args >>= λ opening. if list_any (is_same_setting opening) before.opening then Err causes.Repeated else Ok (with_opening before opening)

-- the words after the number of a caller
abbrev pub with_command : TextKind → Script → ℕ → List (List ℕ) → Result Script Cause
with_command kind before caller [] = Err causes.WrongCount
with_command kind before caller (word ∷ args) =
    command_of word args >>= λ command. if is_in kind command then Ok (with_line before (record { caller = caller; command = command })) else Err causes.UnknownWord

-- the script with one more line, by its words
unfoldable pub with_words : TextKind → Script → List (List ℕ) → Result Script Cause
with_words kind before [] = Err causes.BadCaller
with_words kind before (first ∷ more) =
    if bytes_eq first (codes "set") then (if length before.lines == 0 then with_setting before more else Err causes.LateSetting)
    else caller_from (number_of first) >>= λ caller. with_command kind before caller more

-- the script with one more line of text; the causes of a bad line are told in the order in which they stand here
unfoldable pub after_line : TextKind → Script → List ℕ → Result Script Cause
after_line kind before line = if is_note line then Ok before else words_of line >>= λ words. with_words kind before words

-- a cause is that of the line n
abbrev pub at_line : {X : Type 0} → ℕ → Result X Cause → Result X BadLine
at_line n (Ok x) = Ok x
at_line n (Err cause) = Err (record { line = n; cause = cause })

-- the parts of a text between its line ends, the first being the line n: each is a line but the last, which is to be empty
unfoldable pub after_parts : TextKind → ℕ → Script → List (List ℕ) → Result Script BadLine
after_parts kind n before [] = Ok before
after_parts kind n before (last ∷ []) = if length last == 0 then Ok before else Err (record { line = n; cause = causes.NoLineEnd })
after_parts kind n before (line ∷ next ∷ more) = at_line n (after_line kind before line) >>= λ after. after_parts kind (n + 1) after (next ∷ more)

-- the script of a text, or its first bad line
unfoldable pub script_of : TextKind → List ℕ → Result Script BadLine
script_of kind text = after_parts kind 1 no_lines (slice_split is_line_end text)

-- the error is the bad line that the reading gives, or want of memory
abbrev pub ReadFails : ScriptError → Result Script BadLine → Type 0
ReadFails (errors.Bad bad) read = read ≡ Err bad
ReadFails errors.NoMemory read = Unit {0}

-- the result is what the reading gives, unless memory ran out
abbrev pub Reads : Result Script ScriptError → Result Script BadLine → Type 0
Reads (Ok s) read = read ≡ Ok s
Reads (Err e) read = ReadFails e read

-- the script is now what the reading gives, unless memory ran out
abbrev pub Adds : {U : Type 0} → Result U LineError → Script → Result Script Cause → Type 0
Adds (Ok u) now read = read ≡ Ok now
Adds (Err e) now read = Fails e read
