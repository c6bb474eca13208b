-- What the first bad line of a text is.
use Rattle.std.specs.Prelude.{◌≡◌, ℕ, ◌+◌, List, [], ◌∷◌, ◌++◌, length, false, Err, ◌==◌}
use Rattle.std.specs.List.{slice_split}
use Rattle.script_text.specs.declared.cause.Cause.{Cause}
use Rattle.script_text.specs.declared.cause.Cause.TheVariants as causes
use Rattle.script_text.specs.declared.cause.BadLine.{BadLine}
use Rattle.script_text.specs.declared.script.TextKind.{TextKind}
use Rattle.script_text.specs.declared.script.Script.{Script}
use Rattle.script_text.specs.Grammar.{AreScript, is_line_end}
use Rattle.script_reader.specs.Reading.{after_line}

-- The first line that no script has there: those before it are the lines of a script, and this one has a cause after them, or is not ended.
pub data FirstBad (kind : TextKind) (text : List ℕ) : BadLine → Type 0 where
  unended : (before : List (List ℕ)) (s : Script) (last : List ℕ) → slice_split is_line_end text ≡ before ++ last ∷ [] → AreScript kind before s → length last == 0 ≡ false
      → FirstBad kind text (record { line = length before + 1; cause = causes.NoLineEnd })
  ended : (before more : List (List ℕ)) (s : Script) (bad last : List ℕ) (cause : Cause) → slice_split is_line_end text ≡ (before ++ bad ∷ more) ++ last ∷ [] → AreScript kind before s → after_line kind s bad ≡ Err cause
      → FirstBad kind text (record { line = length before + 1; cause = cause })
