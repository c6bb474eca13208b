-- Laws of what is written.
use Rattle.std.specs.Prelude.{ℕ, List}
use Rattle.script_text.specs.declared.script.TextKind.{TextKind}
use Rattle.script_text.specs.declared.script.Script.{Script}
use Rattle.script_text.specs.Grammar.{IsTextOf}
use Rattle.script_text.specs.Writing.{text_of}

-- what is written for a script that has a text is a text of it, of the same kind
abbrev pub WrittenTextsAreTexts : Type 0
WrittenTextsAreTexts = (kind : TextKind) (text : List ℕ) (s : Script) → IsTextOf kind text s → IsTextOf kind (text_of s) s
