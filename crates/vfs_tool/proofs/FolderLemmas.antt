-- A script as a whole, over the tree that is handed in.
use Rattle.std.proofs.Common.{◌≡◌, ◌≤◌, ℕ, Bool, true, false, Some, refl, sym, subst, inl, inr}
use Rattle.vfs_model.specs.declared.Case.{Case}
use Rattle.vfs_model.specs.World.{World}
use Rattle.vfs_model.specs.Faults.{Rose}
use Rattle.world_model.specs.Told.{TreeTold, IsCaseSet, takes_case}
use Rattle.vfs_io.specs.Told.{SinkTold}
use Rattle.script_text.specs.declared.script.Script.{Script}
use Rattle.script_runs.specs.declared.output.Break.{Break}
use Rattle.script_runs.specs.declared.output.Break.TheVariants.{Fault, NoMemory}
use Rattle.script_runs.specs.Opening.{OpensLines, BreaksOpening}
use Rattle.script_runs.proofs.RunLemmas.{Rose-since}
use Rattle.vfs_tool.specs.Scripts.{RunsCommands, BreaksCommands}
use Rattle.vfs_tool.specs.Folder.{after_asking, AnswersCase, PutsOver, BreaksOver}

-- ---- a tree that was asked to take a case

-- nothing but its case has changed
after-asked : (old new : TreeTold) (case : Case) (took : Bool) → IsCaseSet old new case took → new ≡ after_asking took case old
after-asked old new case true set = set
after-asked old new case false set = set.0

pub answers-case : (takes_no_edits : Bool) (old new : TreeTold) (case : Case) (took : Bool) → IsCaseSet old new case took → ((w : World) → old.content ≡ Some w → took ≡ takes_case old.case w case) → (takes_no_edits ≡ true → took ≡ true) → AnswersCase takes_no_edits old case took
answers-case takes_no_edits old new case true set seen read_only = record { own = λ e. absurd cc; seen = seen; read_only = read_only }
answers-case takes_no_edits old new case false set seen read_only = record { own = λ e. set.1; seen = seen; read_only = read_only }

-- ---- the run of a script over it

pub runs-over : (takes_no_edits : Bool) (script : Script) (old set mid new : TreeTold) (took : Bool) (a b c : SinkTold) → AnswersCase takes_no_edits old script.settings.case took → IsCaseSet old set script.settings.case took
    → OpensLines set mid took script.opening a b → RunsCommands script.settings.queue mid new script.lines b c → PutsOver takes_no_edits old new script a c
runs-over takes_no_edits script old set mid new took a b c case is first second = record {
  took = took;
  set = case;
  run = record {
    mid = mid;
    sink_mid = b;
    opened = subst (λ (t : TreeTold). OpensLines t mid took script.opening a b) (after-asked old set script.settings.case took is) first;
    run = second;
  };
}

pub breaks-early : (takes_no_edits : Bool) (script : Script) (old set new : TreeTold) (took : Bool) (a b : SinkTold) (e : Break) → AnswersCase takes_no_edits old script.settings.case took → IsCaseSet old set script.settings.case took
    → BreaksOpening set new took script.opening a b e → BreaksOver takes_no_edits old new script a b e
breaks-early takes_no_edits script old set new took a b e case is broke = record {
  took = took;
  set = case;
  broke = inl (subst (λ (t : TreeTold). BreaksOpening t new took script.opening a b e) (after-asked old set script.settings.case took is) broke);
}

pub breaks-late : (takes_no_edits : Bool) (script : Script) (old set mid new : TreeTold) (took : Bool) (a b c : SinkTold) (e : Break) → a.faults ≤ b.faults → AnswersCase takes_no_edits old script.settings.case took → IsCaseSet old set script.settings.case took
    → OpensLines set mid took script.opening a b → BreaksCommands script.settings.queue mid new script.lines b c e → BreaksOver takes_no_edits old new script a c e
breaks-late takes_no_edits script old set mid new took a b c e later case is first broke = record {
  took = took;
  set = case;
  broke = inr (record {
    mid = mid;
    sink_mid = b;
    later = later;
    opened = subst (λ (t : TreeTold). OpensLines t mid took script.opening a b) (after-asked old set script.settings.case took is) first;
    broke = broke;
  });
}

-- at a fault the count of the sink rose

no-fault : Fault ≡ NoMemory → ⊥
no-fault e = cc

pub fault-rose : (takes_no_edits : Bool) (script : Script) (old new : TreeTold) (a b : SinkTold) → BreaksOver takes_no_edits old new script a b Fault → Rose a.faults b.faults
fault-rose takes_no_edits script old new a b h =
    elim h.broke [
      | inl early ↦ early.broke.0
      | inr late ↦ elim late.broke [
        | inl none ↦ absurd (no-fault none.wanting)
        | inr broke ↦ Rose-since a.faults late.sink_mid.faults b.faults late.later broke.puts.0
      ]
    ]
