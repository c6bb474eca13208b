use Rattle.std.proofs.Common.{slice_set, refl, subst, List}
use Rattle.mem_tree.specs.Nodes.{IsHere, IsGap}
use Rattle.mem_tree.specs.declared.node.Child.{Child}
use Rattle.mem_tree.proofs.SeekLemmas.{changed-here, changed-gap, taken-here, taken-gap}
use Rattle.mem_tree.proofs.node.change_here.Goals as goal

pub returns-in-Ok-clause-changed : goal.returns-in-Ok-clause-changed
returns-in-Ok-clause-changed c =
    changed-here c.args.case c.args.children.now.items (slice_set c.args.children.now.items c.in-Ok.i c.in-Put.child) c.args.change c.in-Put.child c.in-Ok.i c.in-Put.is
    (subst (λ (cs : List Child). IsHere c.args.case cs c.in-Put.child.name c.in-Ok.i) c.as_slice.ensures.value (c.in-Ok.ensures)) refl

pub returns-in-Put-clause-changed : goal.returns-in-Put-clause-changed
returns-in-Put-clause-changed c =
    changed-gap c.args.case c.args.children.now.items c.insert.new.self.items c.args.change c.in-Put.child c.in-Err.i c.in-Put.is
    (subst (λ (cs : List Child). IsGap c.args.case cs c.in-Put.child.name c.in-Err.i) c.as_slice.ensures.value (c.in-Err.ensures)) c.in_ok-insert-in-Err.ensures.items

pub returns-in-Ok-seek-clause-changed : goal.returns-in-Ok-seek-clause-changed
returns-in-Ok-seek-clause-changed c =
    taken-here c.args.case c.args.children.now.items c.remove.new.self.items c.args.change c.in-Take.name c.in-Ok-seek.i c.in-Take.is c.requires
    (subst (λ (cs : List Child). IsHere c.args.case cs c.in-Take.name c.in-Ok-seek.i) c.as_slice-in-Take.ensures.value (c.in-Ok-seek.ensures)) c.remove.ensures.items

pub returns-clause-changed : goal.returns-clause-changed
returns-clause-changed c =
    taken-gap c.args.case c.args.children.now.items c.args.change c.in-Take.name c.in-Err-seek.field-0 c.in-Take.is
    (subst (λ (cs : List Child). IsGap c.args.case cs c.in-Take.name c.in-Err-seek.field-0) c.as_slice-in-Take.ensures.value (c.in-Err-seek.ensures))
