use Rattle.std.proofs.Common.{◌≡◌, ◌∙◌, sym, true, false, Some, None}
use Rattle.vfs_model.specs.World.{World, IsWorld}
use Rattle.vfs_model.specs.Edit.{refusal}
use Rattle.world_model.specs.Meaning.{edit_of, events_of, refusal_of}
use Rattle.world_model.specs.Told.{IsApplied}
use Rattle.vfs_machine.specs.declared.answers.Edited.TheVariants as edited
use Rattle.vfs_machine.proofs.EditLemmas.{edit-done, edit-due, IsDueAnswer}
use Rattle.vfs_machine.proofs.engine.Engine.edit.Goals as goal
use Rattle.vfs_machine.proofs.engine.Engine.edit.Goals.{then-put_all, else-put_all}

pub returns-after-put_all-clause-step : goal.returns-after-put_all-clause-step
returns-after-put_all-clause-step g c =
    let applied : IsApplied c.self.inside.vfs.case (edit_of c.args.edit.now) (g.T.Tree.told c.self.inside.tree).content (g.T.Tree.told c.apply.new.self).content = rw (← c.self.invariant.one_case) c.in-Ok.ensures.applied in
    let allowed : (w : World) → (g.T.Tree.told c.self.inside.tree).content ≡ Some w → refusal c.self.inside.vfs.case w (edit_of c.args.edit.now) ≡ None = rw (← c.self.invariant.one_case) c.in-Ok.ensures.allowed in
    let whole : (w : World) → (g.T.Tree.told c.self.inside.tree).content ≡ Some w → IsWorld c.self.inside.vfs.case w = rw (← c.self.invariant.one_case) c.case-case.ensures.world in
    rw (← c.self.view_is)
    (elim c.if-put_all.branch [
      | then-put_all w ↦ rw w.result-is
          (λ s st. edit-done g.V.Versions.version g.V.Versions.count _ s (edit_of c.args.edit.now) true _ _ _ _ (events_of c.in-Ok.events) c.in-Ok.ensures.events (sym w.if-put_all.true ∙ c.put_all.ensures.fit) c.put_all.ensures.queue applied whole allowed st)
      | else-put_all w ↦ rw w.result-is
          (λ s st. edit-done g.V.Versions.version g.V.Versions.count _ s (edit_of c.args.edit.now) false _ _ _ _ (events_of c.in-Ok.events) c.in-Ok.ensures.events (sym w.if-put_all.false ∙ c.put_all.ensures.fit) c.put_all.ensures.queue applied whole allowed st)
    ])

pub returns-after-put_all-clause-due : goal.returns-after-put_all-clause-due
returns-after-put_all-clause-due g c =
    let allowed : (w : World) → (g.T.Tree.told c.self.inside.tree).content ≡ Some w → refusal c.self.inside.vfs.case w (edit_of c.args.edit.now) ≡ None = rw (← c.self.invariant.one_case) c.in-Ok.ensures.allowed in
    let due : (w : World) → (g.T.Tree.told c.self.inside.tree).content ≡ Some w → IsDueAnswer (refusal c.self.inside.vfs.case w (edit_of c.args.edit.now)) c.if-put_all.result =
    λ w told. elim c.if-put_all.branch [
      | then-put_all b ↦ rw b.result-is (allowed w told)
      | else-put_all b ↦ rw b.result-is (allowed w told)
    ] in
    rw (← c.self.view_is) (edit-due g.V.Versions.version g.V.Versions.count _ (edit_of c.args.edit.now) c.if-put_all.result due)

pub returns-in-Err-Refused-clause-due : goal.returns-in-Err-Refused-clause-due
returns-in-Err-Refused-clause-due g c =
    let refused = rw c.in-Err-Refused.field-0-is at c.in-Err-Refused.ensures.refused in
    let due : (w : World) → (g.T.Tree.told c.self.inside.tree).content ≡ Some w → refusal c.self.inside.vfs.case w (edit_of c.args.edit.now) ≡ Some (refusal_of c.in-Err-Refused.e) = rw (← c.self.invariant.one_case) refused in
    rw (← c.self.view_is) (edit-due g.V.Versions.version g.V.Versions.count _ (edit_of c.args.edit.now) (edited.Refused c.in-Err-Refused.e) due)

pub returns-in-Err-NoMemory-clause-due : goal.returns-in-Err-NoMemory-clause-due
returns-in-Err-NoMemory-clause-due g c =
    let none = rw c.in-Err-NoMemory.field-0-is at c.in-Err-NoMemory.ensures.refused in
    let due : (w : World) → (g.T.Tree.told c.self.inside.tree).content ≡ Some w → refusal c.self.inside.vfs.case w (edit_of c.args.edit.now) ≡ None = rw (← c.self.invariant.one_case) none in
    rw (← c.self.view_is) (edit-due g.V.Versions.version g.V.Versions.count _ (edit_of c.args.edit.now) edited.NoMemory due)
