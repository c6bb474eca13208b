-- What the system tells of a location.
use Rattle.std.specs.Prelude.{◌≡◌, ◌↔◌, ◌⊎◌, Result, Ok, Err}
use Rattle.std.specs.declared.option.Option.{Option}
use Rattle.std.specs.declared.option.Option.TheVariants.{None, Some}
use Rattle.std.specs.declared.fs.attrs.FileType.{FileType}
use Rattle.std.specs.declared.fs.attrs.Metadata.{Metadata}
use Rattle.std.specs.declared.io.ErrorKind.{ErrorKind}
use Rattle.std.specs.declared.io.ErrorKind.TheVariants.{NotFound, NotADirectory}
use Rattle.std.specs.declared.io.Error.{Error}
use Rattle.std.specs.IoError.{error_kind}
use Rattle.std.specs.Fs.{file_type, metadata_len, IsDir, IsFile}
use Rattle.vfs_model.specs.declared.Kind.{Kind}
use Rattle.vfs_model.specs.declared.Kind.TheVariants.{Missing, File, Dir}
use Rattle.vfs_io.specs.declared.seen.Stood.{Stood}
use Rattle.vfs_io.specs.declared.fault.Stop.{Stop}

-- a directory and a regular file have their kinds, and nothing else has one of the two
pub record HasKind (type : FileType) (kind : Kind) : Type 0 where
  pub dir : (kind ≡ Dir) ↔ IsDir type
  pub file : (kind ≡ File) ↔ IsFile type

-- the error says that nothing stands there
abbrev pub IsMissing : ErrorKind → Type 0
IsMissing kind = (kind ≡ NotFound) ⊎ (kind ≡ NotADirectory)

-- the kind of what stands there
abbrev pub kind_told : Option Stood → Kind
kind_told None = Missing
kind_told (Some stood) = stood.kind

-- the same file or the same directory: its kind, its device and its number there
pub record AreSame (a b : Stood) : Type 0 where
  pub kind : a.kind ≡ b.kind
  pub device : a.device ≡ b.device
  pub inode : a.inode ≡ b.inode

-- what stands there now is the same
abbrev pub IsSamePlace : Stood → Option Stood → Type 0
IsSamePlace before None = ⊥
IsSamePlace before (Some now) = AreSame before now

-- what stands there has the kind and the length that the system tells
pub record IsStood (metadata : Metadata) (stood : Stood) : Type 0 where
  pub kind : HasKind (file_type metadata) stood.kind
  pub length : stood.length ≡ metadata_len metadata

-- something stands there, and it is that
abbrev pub IsToldBy : Metadata → Option Stood → Type 0
IsToldBy metadata None = ⊥
IsToldBy metadata (Some stood) = IsStood metadata stood

-- what the system told is taken for what it says: an error for nothing, or else for a fault
abbrev pub IsTaken : Result Metadata Error → Result (Option Stood) Stop → Type 0
IsTaken (Ok metadata) (Ok seen) = IsToldBy metadata seen
IsTaken (Ok metadata) (Err stop) = ⊥
IsTaken (Err error) (Ok seen) = IsMissing (error_kind error) × (seen ≡ None)
IsTaken (Err error) (Err stop) = IsMissing (error_kind error) → ⊥
