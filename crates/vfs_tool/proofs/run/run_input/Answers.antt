use Rattle.std.proofs.Common.{List, ℕ, subst, inl, inr, arith}
use Rattle.script_text.specs.declared.script.TextKind.TheVariants as kinds
use Rattle.script_reader.specs.Faults.{FirstBad}
use Rattle.script_runs.specs.declared.output.Break.TheVariants.{NoMemory}
use Rattle.vfs_tool.specs.Folder.{BreaksText}
use Rattle.vfs_tool.proofs.run.run_input.Goals as goal

pub returns-in-Ok-clause-bad : goal.returns-in-Ok-clause-bad
returns-in-Ok-clause-bad g c = λ b e.
    let r = c.run_text.ensures.bad b e in
    ((c.in-Ok.text.items, c.in-Ok.ensures.ok, subst (λ (t : List ℕ). FirstBad kinds.Replay t b) c.as_slice.ensures.value r.0), r.1)

pub returns-in-Ok-clause-no_memory : goal.returns-in-Ok-clause-no_memory
returns-in-Ok-clause-no_memory g c = λ e.
    let taken = c.in-Ok.ensures.ok in
    let fits = taken.fits in (
      (c.in-Ok.text.items, taken.took, omega (arith, fits)),
      elim (c.run_text.ensures.no_memory e) [
        | inl nothing ↦ inl nothing
        | inr broke ↦ inr (
          c.in-Ok.text.items,
          taken,
          subst (λ (t : List ℕ). BreaksText g.T.Tree.takes_no_edits (g.T.Tree.told c.args.tree) (g.T.Tree.told c.run_text.result.1) t (g.K.Sink.told c.args.sink.now) (g.K.Sink.told c.run_text.new.sink) NoMemory) c.as_slice.ensures.value broke,
        )
      ],
    )
