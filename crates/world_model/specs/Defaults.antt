-- What a run is set to where nothing is said.
use Rattle.vfs_model.specs.declared.Case.TheVariants.{Sensitive}
use Rattle.world_model.specs.declared.settings.Settings.{Settings}

-- names compare byte by byte, the queue holds 1,024 events, 65,536 calls of a race get a place, and one worker hashes
abbrev pub default_settings : Settings
default_settings = record { case = Sensitive; queue = 1024; places = 65536; workers = 1 }
