-- A history over a tree that tells no content, as a folder is: it is answered, and over no world is it legal.
use Rattle.std.proofs.Common.{◌≡◌, ℕ, List, [], ◌∷◌, refl, sym, ◌∙◌, Some, None, inl, inr}
use Rattle.vfs_model.specs.declared.Case.TheVariants.{Sensitive}
use Rattle.vfs_model.specs.declared.Kind.TheVariants.{Missing as MissingKind, File as FileKind}
use Rattle.vfs_model.specs.World.{World}
use Rattle.vfs_model.specs.Scanning.{Look, SeesNothing, SeesFile}
use Rattle.vfs_model.specs.State.{Call, CallEdit, CallEvent, CallDeliver, CallBegin, CallRead, CallPublish, Refuses, Does, Reply, Refused, Fits, Delivered, Version, Saw, Stale, NoMemory}
use Rattle.vfs_model.specs.Edit.{Write, ReadOnly}
use Rattle.vfs_model.specs.History.{Operation, AreAnswered, IsLegal, opening}
use Rattle.vfs_model.proofs.Shorthand.{a, f}

-- a call of caller 0 in which the tree is not asked
abbrev made : Call → Reply → Operation
made call reply = record { caller = 0; call = call; answers = record { edit = Does []; look = None }; reply = reply }

-- a read, and what was seen
abbrev seeing : ℕ → Look → Reply → Operation
seeing c l reply = record { caller = c; call = CallRead c; answers = record { edit = Does []; look = Some l }; reply = reply }

-- the file /f is seen and then seen missing, since someone else removed it; an edit is refused, a begin wants memory at first, and the event comes late
abbrev removed_by_another : List Operation
removed_by_another =
    made (CallBegin 0 (f ∷ [])) (Version 0)
    ∷ seeing 0 (SeesFile a) (Saw (f ∷ []) FileKind 0)
    ∷ record { caller = 1; call = CallEdit (Write (f ∷ []) []); answers = record { edit = Refuses ReadOnly; look = None }; reply = Refused ReadOnly }
    ∷ made (CallBegin 1 (f ∷ [])) NoMemory
    ∷ made (CallBegin 1 (f ∷ [])) (Version 0)
    ∷ seeing 1 SeesNothing (Saw (f ∷ []) MissingKind 0)
    ∷ made (CallEvent (f ∷ [])) Fits
    ∷ made CallDeliver (Delivered (f ∷ []))
    ∷ made (CallPublish 0) (Stale 1)
    ∷ made (CallPublish 1) (Stale 1)
    ∷ []

each_reply_is_that_of_its_step : (w : World) → AreAnswered (opening Sensitive 4 w) removed_by_another
each_reply_is_that_of_its_step w = (inr refl, (inr refl, (inr refl, (inl refl, (inr refl, (inr refl, (inr refl, (inr refl, (inr refl, (inr refl, tt))))))))))

no_world_was_seen : (w : World) → IsLegal (opening Sensitive 4 w) removed_by_another → ⊥
no_world_was_seen w legal =
    let first = legal.1.0.due refl in
    let second = legal.1.1.1.1.1.0.due refl in
    apart (first ∙ sym second)
  where
    apart : SeesFile a ≡ SeesNothing → ⊥
    apart e = cc
