-- How a run ended, as a number and as a text.
use Rattle.std.specs.Prelude.{ℕ, List, [], ◌++◌, codes}
use Rattle.std.specs.Fmt.{decimal}
use Rattle.vfs_path.specs.Errors.{number_of}
use Rattle.script_text.specs.declared.cause.Cause.{Cause}
use Rattle.script_text.specs.declared.cause.Cause.TheVariants.{BadPath}
use Rattle.script_text.specs.Causes.{number_of_cause}
use Rattle.vfs_tool.specs.declared.status.Status.{Status}
use Rattle.vfs_tool.specs.declared.status.Status.TheVariants.{Done, BadScript, Usage, ReadFault, WriteFault, NoMemory, TooLong}

-- the number with which the process ends
abbrev pub number_of_status : Status → ℕ
number_of_status Done = 0
number_of_status (BadScript bad) = 1
number_of_status Usage = 2
number_of_status ReadFault = 3
number_of_status WriteFault = 4
number_of_status NoMemory = 5
number_of_status TooLong = 6

-- the number of the refusal behind that of a bad path, and nothing more behind the others
abbrev pub refusal_text : Cause → List ℕ
refusal_text (BadPath refusal) = codes " path " ++ decimal (number_of refusal)
refusal_text _ = []

abbrev pub cause_text : Cause → List ℕ
cause_text cause = decimal (number_of_cause cause) ++ refusal_text cause

-- what is told of a run that was not done
abbrev pub status_text : Status → List ℕ
status_text Done = []
status_text (BadScript bad) = codes "bad line " ++ decimal bad.line ++ codes ": cause " ++ cause_text bad.cause
status_text Usage = codes "usage: vfs replay, vfs folder DIR, vfs race, vfs gen N"
status_text ReadFault = codes "read fault"
status_text WriteFault = codes "write fault"
status_text NoMemory = codes "no memory"
status_text TooLong = codes "too long"
