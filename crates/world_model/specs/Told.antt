-- What a tree tells of itself.
use Rattle.std.specs.Prelude.{◌≡◌, ◌≢◌, ℕ, Bool, true, false, ◌||◌, List, [], ◌++◌, Option, Some, None, is_some}
use Rattle.std.specs.List.{list_all}
use Rattle.vfs_model.specs.declared.Case.{Case}
use Rattle.vfs_model.specs.declared.Case.TheVariants.{Sensitive, Insensitive}
use Rattle.vfs_model.specs.World.{World, Entry, IsSameBelow}
use Rattle.vfs_model.specs.Edit.{Edit, apply, is_root}
use Rattle.vfs_model.specs.State.{TreeAnswer}

-- its case, its content where it tells it, how many looks failed, and its answers so far where it tells them
pub record TreeTold : Type 0 where
  pub case : Case
  pub content : Option World
  pub faults : ℕ
  pub answers : Option (List TreeAnswer)

-- the tree tells its content, and none of its looks fails
abbrev pub TellsWhole : Bool → TreeTold → Type 0
TellsWhole never_fails told = (is_some told.content ≡ true) × (never_fails ≡ true)

-- the answers, and these behind them
abbrev pub with_answers : List TreeAnswer → List TreeAnswer → List TreeAnswer
with_answers more all = all ++ more

-- the content is told after the edit where it was told before, and it is then the world after the edit
abbrev pub IsApplied : Case → Edit → Option World → Option World → Type 0
IsApplied case edit None None = Unit {0}
IsApplied case edit None (Some after) = ⊥
IsApplied case edit (Some before) None = ⊥
IsApplied case edit (Some before) (Some after) = IsSameBelow case (apply case before edit) [] after []

-- the two cases are one
abbrev pub is_same_case : Case → Case → Bool
is_same_case Sensitive Sensitive = true
is_same_case Insensitive Insensitive = true
is_same_case _ _ = false

-- nothing but the root is in the world
abbrev pub is_root_alone : World → Bool
is_root_alone world = list_all (λ (e : Entry). is_root e.path) world

-- a tree of this case that tells this content takes another case only while it has its root alone
abbrev pub takes_case : Case → World → Case → Bool
takes_case old world new = is_same_case old new || is_root_alone world

-- the tree has the case from now on, where it took it, and nothing else of it changed; else it is as it was, under another case
abbrev pub IsCaseSet : TreeTold → TreeTold → Case → Bool → Type 0
IsCaseSet old new case true = new ≡ record old { case = case }
IsCaseSet old new case false = (new ≡ old) × (old.case ≢ case)
