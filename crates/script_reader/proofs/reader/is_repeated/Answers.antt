use Rattle.std.proofs.Common.{sym}
use Rattle.script_reader.proofs.SetLemmas.{dir_repeats_none, file_repeats_none}
use Rattle.script_reader.proofs.reader.is_repeated.Goals as goal

pub returns-in-Dir : goal.returns-in-Dir
returns-in-Dir c = sym (dir_repeats_none _ _ c.args.earlier.now c.in-Dir.is)

pub returns-in-File : goal.returns-in-File
returns-in-File c = sym (file_repeats_none _ _ _ c.args.earlier.now c.in-File.is)
