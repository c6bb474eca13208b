-- What the types of the code stand for.
use Rattle.std.specs.Prelude.{ℕ, Bool, true, false, [], unwrap_or}
use Rattle.vfs_model.specs.declared.Kind.{Kind}
use Rattle.vfs_model.specs.declared.Kind.TheVariants.{Missing as MissingKind, File as FileKind, Dir as DirKind}
use Rattle.vfs_model.specs.Fingerprint.{Sensitivity, Absolute, Relative, NameOnly, Ignored, Input, Seen, FpEntry}
use Rattle.snapshot_tree.specs.Meaning.{meaning_of}
use Rattle.fingerprint_norms.specs.declared.input.Sensitivity.{Sensitivity as SensitivityValue}
use Rattle.fingerprint_norms.specs.declared.input.Sensitivity.TheVariants as value
use Rattle.fingerprint_norms.specs.declared.input.Input.{Input as InputValue}
use Rattle.fingerprint_norms.specs.declared.input.Seen.{Seen as SeenValue}
use Rattle.fingerprint_norms.specs.declared.entry.FpEntry.{FpEntry as FpEntryValue}

-- how much of a path is taken
abbrev pub sensitivity_of : SensitivityValue → Sensitivity
sensitivity_of value.Absolute = Absolute
sensitivity_of value.Relative = Relative
sensitivity_of value.NameOnly = NameOnly
sensitivity_of value.Ignored = Ignored

-- the root and how its paths are taken
abbrev pub input_of : InputValue → Input
input_of i = record { root = i.root; sensitivity = sensitivity_of i.sensitivity }

-- the input and the snapshot of its root
abbrev pub seen_of : SeenValue → Seen
seen_of v = record { input = input_of v.input; snapshot = meaning_of v.snapshot }

-- the byte of a kind: M, F or D
abbrev pub byte_of : Kind → ℕ
byte_of MissingKind = 77
byte_of FileKind = 70
byte_of DirKind = 68

-- the kind is that of directories
abbrev pub is_dir : Kind → Bool
is_dir MissingKind = false
is_dir FileKind = false
is_dir DirKind = true

-- the path, the byte of the kind, and the digest; no byte where there is none
abbrev pub entry_of : FpEntryValue → FpEntry
entry_of e = record { path = e.path; kind = byte_of e.kind; digest = unwrap_or e.digest [] }
