-- Laws of scripts.
use Rattle.std.specs.Prelude.{◌≡◌, ℕ, ◌+◌, ◌<◌, ◌^◌, List, [], ◌∷◌, ◌++◌, Bool, true, false, Some, Ok, Err, ◌↔◌, ◌⊎◌, MatchBool}
use Rattle.std.specs.List.{count_by}
use Rattle.std.specs.Fmt.{decimal}
use Rattle.script_text.specs.declared.cause.Cause.{Cause}
use Rattle.script_text.specs.declared.cause.BadLine.{BadLine}
use Rattle.script_text.specs.declared.script.TextKind.{TextKind}
use Rattle.script_text.specs.declared.script.Opening.{Opening}
use Rattle.script_text.specs.declared.script.Command.{Command}
use Rattle.script_text.specs.declared.script.Script.{Script}
use Rattle.script_reader.specs.Numbers.{number_of}
use Rattle.script_reader.specs.Forms.{opening_of, command_of}
use Rattle.script_text.specs.declared.cause.Cause.TheVariants.{NoLineEnd}
use Rattle.script_text.specs.Grammar.{is_line_end, IsOpening, IsCommand, IsTextOf}
use Rattle.script_reader.specs.Reading.{after_line, script_of}
use Rattle.script_text.specs.Words.{is_note}
use Rattle.script_reader.specs.Holds.{Holds}
use Rattle.script_reader.specs.Faults.{FirstBad}

-- a word is read as a number exactly where it is the number's decimal spelling
abbrev pub NumbersAreDecimal : Type 0
NumbersAreDecimal = (word : List ℕ) (n : ℕ) → n < 2 ^ 32 → ((number_of word ≡ Some n) ↔ (word ≡ decimal n))

-- words are read as an opening line exactly where they are its words
abbrev pub OpeningsAreRead : Type 0
OpeningsAreRead = (word : List ℕ) (args : List (List ℕ)) (opening : Opening) → (opening_of word args ≡ Ok opening) ↔ IsOpening opening (word ∷ args)

-- words are read as a command exactly where they are its words
abbrev pub CommandsAreRead : Type 0
CommandsAreRead = (word : List ℕ) (args : List (List ℕ)) (command : Command) → (command_of word args ≡ Ok command) ↔ IsCommand command (word ∷ args)

-- a text is read as a script exactly where it is the text of that script
abbrev pub TextsAreRead : Type 0
TextsAreRead = (kind : TextKind) (text : List ℕ) (s : Script) → (script_of kind text ≡ Ok s) ↔ IsTextOf kind text s

-- a bad line is found exactly where it is the first line that no script has there
abbrev pub FaultsAreFirst : Type 0
FaultsAreFirst = (kind : TextKind) (text : List ℕ) (bad : BadLine) → (script_of kind text ≡ Err bad) ↔ FirstBad kind text bad

-- a text is that of a script or has a first bad line, and not both
abbrev pub TextsAreDecided : Type 0
TextsAreDecided = (kind : TextKind) (text : List ℕ) → (((s : Script) × IsTextOf kind text s) ⊎ ((bad : BadLine) × FirstBad kind text bad)) × ((s : Script) (bad : BadLine) → IsTextOf kind text s → FirstBad kind text bad → ⊥)

-- a text is that of one script at most, and has one first bad line at most
abbrev pub TextsAreUnambiguous : Type 0
TextsAreUnambiguous = (kind : TextKind) (text : List ℕ) → ((s t : Script) → IsTextOf kind text s → IsTextOf kind text t → s ≡ t) × ((bad other : BadLine) → FirstBad kind text bad → FirstBad kind text other → bad ≡ other)

-- a cause that is told of a line holds of it, and the line is no note
abbrev pub CausesHold : Type 0
CausesHold = (kind : TextKind) (before : Script) (text : List ℕ) (cause : Cause) → after_line kind before text ≡ Err cause → (is_note text ≡ false) × Holds before text cause

-- the text is empty or ends with a line end
abbrev pub is_ended : List ℕ → Bool
is_ended [] = true
is_ended (b ∷ []) = is_line_end b
is_ended (b ∷ c ∷ more) = is_ended (c ∷ more)

-- a prefix of the text of a script is one itself where it is empty or ends with a line end, and every other is bad at its last line, which is not ended
abbrev pub PrefixesAreJudged : Type 0
PrefixesAreJudged = (kind : TextKind) (front back : List ℕ) (s : Script) → IsTextOf kind (front ++ back) s
    → MatchBool (is_ended front) ((t : Script) × IsTextOf kind front t) (FirstBad kind front (record { line = count_by is_line_end front + 1; cause = NoLineEnd }))
