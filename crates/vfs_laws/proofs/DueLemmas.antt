-- Over a world that is told the answers are due, and answers that are due are in shape.
use Rattle.std.proofs.Common.{◌≡◌, ℕ, ◌+◌, [], ◌++◌, length, refl, sym, subst, Option, Some, None, arith, length-append}
use Rattle.vfs_model.specs.declared.Case.{Case}
use Rattle.std.specs.List.{AllByRecursion as Each}
use Rattle.vfs_model.specs.Paths.{Path, IsShort, place}
use Rattle.vfs_model.specs.Edit.{Edit, Refusal, refusal, events}
use Rattle.vfs_model.specs.World.{World, Entry, Node, Directory, Regular, at, names, IsWorld}
use Rattle.vfs_model.specs.Scanning.{Scan, Look, look, look_of, look_of_node, next_left, IsListed}
use Rattle.vfs_model.specs.State.{State, Call, CallEdit, CallRead, Answers, AreDue, answers, edit_answer_or, IsLookAt, IsLookFor, look_due_at, look_due, scan_of}
use Rattle.vfs_model.specs.Sound.{IsLook, IsLookBelow, IsLookOf, AreShortEvents, AreShapedAnswers}
use Rattle.vfs_model.specs.History.{IsCall}
use Rattle.vfs_laws.proofs.NameLemmas.{names-in_order}
use Rattle.vfs_laws.proofs.WorldLemmas.{length-place}
use Rattle.vfs_laws.proofs.ScanningLemmas.{names-none}

due-at : (s : State) (t : Scan) (y : Option Path) → IsLookAt s t y (look_due_at s t y)
due-at s t None = tt
due-at s t (Some y) = refl

due-for : (s : State) (o : Option Scan) → IsLookFor s o (look_due s o)
due-for s None = tt
due-for s (Some t) = due-at s t (next_left t.partial)

-- the answers of a tree that tells its world are due
pub told-due : (s : State) (call : Call) → AreDue s call (answers s call)
told-due s (CallEdit edit) = refl
told-due s (CallRead c) = due-for s (scan_of s c)
told-due s _ = tt

-- a look at a world lists names in order, few of them, and none too deep
pub look-look : (case : Case) (world : World) (q : Path) (depth : ℕ) → length q ≡ depth → IsWorld case world → IsLook case depth (look case world q)
look-look case world q depth e h = by (at case world q)
  where
    empty : IsListed case []
    empty = record { order = tt; few = omega arith }

    by_node : (n : Node) → IsLook case depth (look_of_node n (names case world q))
    by_node (Regular bytes) = record { listed = empty; shallow = λ deep. refl }
    by_node Directory = record { listed = record { order = names-in_order case world q; few = h.few q }; shallow = λ deep. names-none case world q h.short (omega (arith, deep, e)) }

    by : (o : Option Entry) → IsLook case depth (look_of o (names case world q))
    by None = record { listed = empty; shallow = λ deep. refl }
    by (Some e) = by_node e.node

looks-at : (s : State) (t : Scan) (y : Option Path) (l : Option Look) → IsWorld s.case s.world → IsLookAt s t y l → IsLookBelow s.case t.path y l
looks-at s t None l h due = tt
looks-at s t (Some y) None h due = tt
looks-at s t (Some y) (Some l) h due =
    subst (IsLook s.case (length t.path + length y)) (sym due)
    (look-look s.case s.world (place s.case t.path ++ place s.case y) _ (omega (arith, length-append (place s.case t.path) (place s.case y), length-place s.case t.path, length-place s.case y)) h)

looks-for : (s : State) (o : Option Scan) (l : Option Look) → IsWorld s.case s.world → IsLookFor s o l → IsLookOf s.case o l
looks-for s None l h due = tt
looks-for s (Some t) l h due = looks-at s t (next_left t.partial) l h due

events-for : (edit : Edit) (r : Option Refusal) → Each IsShort (events edit) → AreShortEvents (edit_answer_or edit r)
events-for edit None few = few
events-for edit (Some r) few = tt

-- answers that are due over a world are in shape, where the call is one that may be made
pub due-shaped : (s : State) (call : Call) (a : Answers) → IsCall call → IsWorld s.case s.world → AreDue s call a → AreShapedAnswers s call a
due-shaped s (CallEdit edit) a few h due = subst AreShortEvents (sym due) (events-for edit (refusal s.case s.world edit) few)
due-shaped s (CallRead c) a few h due = looks-for s (scan_of s c) a.look h due
due-shaped s _ a few h due = tt
