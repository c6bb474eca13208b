-- The results of reading, in words.
use Rattle.std.specs.Prelude.{◌≡◌, Result, Ok, Err}
use Rattle.script_text.specs.declared.cause.BadLine.{BadLine}
use Rattle.script_reader.specs.declared.error.ScriptError.{ScriptError}
use Rattle.script_reader.specs.declared.error.ScriptError.TheVariants.{Bad, NoMemory}
use Rattle.script_text.specs.declared.script.Script.{Script}

-- the fact holds of the bad line, where there is one
abbrev pub IfBad : ScriptError → (BadLine → Type 0) → Type 0
IfBad (Bad bad) P = P bad
IfBad NoMemory P = Unit {0}

-- the result is this script, unless memory ran out
abbrev pub IsScriptOrNoMemory : Result Script ScriptError → Script → Type 0
IsScriptOrNoMemory (Ok read) s = read ≡ s
IsScriptOrNoMemory (Err (Bad bad)) s = ⊥
IsScriptOrNoMemory (Err NoMemory) s = Unit {0}

-- the result is this bad line, unless memory ran out
abbrev pub IsBadOrNoMemory : Result Script ScriptError → BadLine → Type 0
IsBadOrNoMemory (Ok read) bad = ⊥
IsBadOrNoMemory (Err (Bad named)) bad = named ≡ bad
IsBadOrNoMemory (Err NoMemory) bad = Unit {0}
