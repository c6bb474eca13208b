use Rattle.std.proofs.Common.{ℕ, false, Some, None, refl, ap, subst, inl, inr}
use Rattle.world_model.specs.Told.{TreeTold}
use Rattle.mem_tree.specs.Held.{Held}
use Rattle.script_runs.specs.declared.output.Break.TheVariants.{Fault, NoMemory}
use Rattle.vfs_tool.specs.declared.forms.Form.{Form}
use Rattle.vfs_tool.specs.declared.forms.Form.TheVariants.{Replay, Folder, Gen}
use Rattle.vfs_tool.specs.Forms.{IsGen, IsForm}
use Rattle.vfs_tool.specs.Gen.{GenEnds}
use Rattle.vfs_tool.proofs.WordLemmas.{one_number}
use Rattle.vfs_tool.proofs.ToldLemmas.{reports-told, front-told}
use Rattle.vfs_tool.proofs.run.run.Goals as goal

-- words of no form are those of none

pub returns-in-None-clause-complete : goal.returns-in-None-clause-complete
returns-in-None-clause-complete g c = λ is. absurd (elim is [ inl replay ↦ c.form_of.ensures.missed c.in-None.is Replay replay | inr folder ↦ c.form_of.ensures.missed c.in-None.is Folder folder ])

pub returns-in-None-clause-generated : goal.returns-in-None-clause-generated
returns-in-None-clause-generated g c = λ n is. c.form_of.ensures.missed c.in-None.is (Gen n) is

-- the number that was found is the one that the words tell
pub returns-in-Some-Gen-clause-generated : goal.returns-in-Some-Gen-clause-generated
returns-in-Some-Gen-clause-generated g c = λ n is.
    let found : IsGen c.in-Some-Gen.directories c.args.words.now = subst (λ (f : Form). IsForm f c.args.words.now) c.in-Some-Gen.field-0-is c.in-Some-Gen.ensures.found in
    subst (λ (k : ℕ). GenEnds k (g.K.Sink.told c.args.sink.now) (g.K.Sink.told c.run_gen.new.sink) c.run_gen.result)
    (one_number c.args.words.now c.in-Some-Gen.directories n found is) c.run_gen.ensures.ends

-- ---- a replay is a run over the empty tree

abbrev told_by : Held → TreeTold
told_by tree = record { case = tree.case; content = Some tree.world; faults = 0; answers = None }

pub returns-in-Some-Replay-clause-done : goal.returns-in-Some-Replay-clause-done
returns-in-Some-Replay-clause-done g c = λ is done.
    reports-told false (told_by c.new-empty.result) (told_by c.run_input-status.result.1) (g.S.Source.told c.args.source.now) (g.S.Source.told c.run_input-status.new.source) _ _
    (ap (λ (t : Held). Some t.world) c.new-empty.ensures) refl (c.run_input-status.ensures.done done)

pub returns-in-Some-Replay-clause-write_fault : goal.returns-in-Some-Replay-clause-write_fault
returns-in-Some-Replay-clause-write_fault g c = λ is fault. (
  c.run_input-status.ensures.faulted fault,
  front-told false (told_by c.new-empty.result) (told_by c.run_input-status.result.1) (g.S.Source.told c.args.source.now) (g.S.Source.told c.run_input-status.new.source) _ _ Fault
      (ap (λ (t : Held). Some t.world) c.new-empty.ensures) refl (c.run_input-status.ensures.write_fault fault),
)

pub returns-in-Some-Replay-clause-no_memory : goal.returns-in-Some-Replay-clause-no_memory
returns-in-Some-Replay-clause-no_memory g c = λ is wanting.
    let r = c.run_input-status.ensures.no_memory wanting in (
      r.0,
      elim r.1 [
        | inl nothing ↦ inl nothing.0
        | inr broke ↦ inr (front-told false (told_by c.new-empty.result) (told_by c.run_input-status.result.1) (g.S.Source.told c.args.source.now) (g.S.Source.told c.run_input-status.new.source) _ _ NoMemory
            (ap (λ (t : Held). Some t.world) c.new-empty.ensures) refl broke)
      ],
    )
