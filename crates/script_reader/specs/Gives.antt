-- What a function of the code gives, where memory may run out.
use Rattle.std.specs.Prelude.{◌≡◌, Result, Ok, Err}
use Rattle.script_text.specs.declared.cause.Cause.{Cause}
use Rattle.script_reader.specs.declared.error.LineError.{LineError}
use Rattle.script_reader.specs.declared.error.LineError.TheVariants as errors

-- the error is the cause that the reading gives, or want of memory
abbrev pub Fails : {X : Type 0} → LineError → Result X Cause → Type 0
Fails (errors.Bad cause) read = read ≡ Err cause
Fails errors.NoMemory read = Unit {0}

-- the result, seen by view, is what the reading gives, unless memory ran out
abbrev pub GivesBy : {X Y : Type 0} → (X → Y) → Result X LineError → Result Y Cause → Type 0
GivesBy view (Ok x) read = read ≡ Ok (view x)
GivesBy view (Err e) read = Fails e read

-- the result is what the reading gives, unless memory ran out
abbrev pub Gives : {X : Type 0} → Result X LineError → Result X Cause → Type 0
Gives result read = GivesBy (λ x. x) result read
