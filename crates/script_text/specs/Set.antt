-- What opening lines set.
use Rattle.std.specs.Prelude.{◌≡◌, List, [], ◌∷◌, Bool, true, false}
use Rattle.std.specs.List.{list_any}
use Rattle.world_model.specs.declared.settings.Settings.{Settings}
use Rattle.world_model.specs.Defaults.{default_settings}
use Rattle.script_text.specs.declared.script.Opening.{Opening}
use Rattle.script_text.specs.declared.script.Opening.TheVariants.{Case, Queue, Places, Workers, Dir, File}

-- the settings, with what the opening line sets
abbrev pub with_set : Settings → Opening → Settings
with_set s (Case case) = record { case = case; queue = s.queue; places = s.places; workers = s.workers }
with_set s (Queue n) = record { case = s.case; queue = n; places = s.places; workers = s.workers }
with_set s (Places n) = record { case = s.case; queue = s.queue; places = n; workers = s.workers }
with_set s (Workers n) = record { case = s.case; queue = s.queue; places = s.places; workers = n }
with_set s (Dir path) = s
with_set s (File path bytes) = s

-- the settings after opening lines, one after the other
abbrev pub settings_after : Settings → List Opening → Settings
settings_after s [] = s
settings_after s (o ∷ more) = settings_after (with_set s o) more

-- what opening lines set, and what holds where they set nothing
abbrev pub settings_of : List Opening → Settings
settings_of opening = settings_after default_settings opening

-- both lines are the same setting
abbrev pub is_same_setting : Opening → Opening → Bool
is_same_setting (Case a) (Case b) = true
is_same_setting (Queue a) (Queue b) = true
is_same_setting (Places a) (Places b) = true
is_same_setting (Workers a) (Workers b) = true
is_same_setting _ _ = false

-- no line is the same setting as a line behind it
abbrev pub IsOnce : List Opening → Type 0
IsOnce [] = Unit {0}
IsOnce (o ∷ more) = (list_any (λ later. is_same_setting later o) more ≡ false) × IsOnce more
