-- What a test for a refusal tells.
use Rattle.std.specs.Prelude.{Option, Some, None, Result, Ok, Err}
use Rattle.vfs_model.specs.Edit.{Refusal, NoParent, NotDir}
use Rattle.mem_tree.specs.FileTree.{FileTree, Leaf, Branch}
use Rattle.world_model.specs.Meaning.{refusal_of}
use Rattle.world_model.specs.declared.edit.EditError.{EditError}

-- the refusal that was answered, or none
abbrev pub refused_by : {T : Type 0} → Result T EditError → Option Refusal
refused_by (Ok x) = None
refused_by (Err e) = Some (refusal_of e)

-- why nothing can be made in it, where it is no directory
abbrev pub no_directory : Option FileTree → Option Refusal
no_directory None = Some NoParent
no_directory (Some (Leaf bytes)) = Some NotDir
no_directory (Some (Branch below)) = None
