use Rattle.std.proofs.Common.{◌≡◌, ◌∙◌, sym, ap, ◌∷◌, drop}
use Rattle.snapshot_tree.specs.Meaning.{meaning_of}
use Rattle.scan_walk.specs.Making.{followed_by_present, stacked}
use Rattle.scan_walk.proofs.ChildrenLemmas.{stacked-push, drop-next, children-next, next-after_last, next-room}
use Rattle.scan_walk.proofs.making.directory_of.Goals as goal

pub add_present-requires-clause-order : goal.add_present-requires-clause-order
add_present-requires-clause-order c =
    rw (c.loop-name.invariant.case, c.loop-name.invariant.children)
    (next-after_last c.args.case c.args.names.now (stacked c.args.made.now.items) c.loop-name.name-index c.name-item.result c.requires.listed c.loop-name-test.true c.name-item.is)

pub add_present-requires-clause-room : goal.add_present-requires-clause-room
add_present-requires-clause-room c =
    rw c.loop-name.invariant.children (next-room c.args.case c.args.names.now (stacked c.args.made.now.items) c.loop-name.name-index c.requires.listed c.loop-name-test.true)

pub loop-name-preserved : goal.loop-name-preserved
loop-name-preserved c =
    let here : drop c.loop-name.name-index (stacked c.args.made.now.items) ≡ meaning_of c.in-Some.snapshot ∷ stacked c.pop.new.self.items =
    sym c.loop-name.invariant.rest ∙ stacked-push c.pop.new.self.items c.loop-name.made.items c.in-Some.snapshot c.in-Some.ensures.items in
    record {
      case = c.in_ok-add_present.ensures.case ∙ c.loop-name.invariant.case;
      children =
          c.in_ok-add_present.ensures.added
          ∙ ap (λ cs. followed_by_present cs c.name-item.result (meaning_of c.in-Some.snapshot)) c.loop-name.invariant.children
          ∙ sym (children-next c.loop-name.name-index c.args.names.now (stacked c.args.made.now.items) c.name-item.result (meaning_of c.in-Some.snapshot) (stacked c.pop.new.self.items) c.loop-name-test.true c.name-item.is here);
      rest = sym (drop-next c.loop-name.name-index (stacked c.args.made.now.items) (meaning_of c.in-Some.snapshot) (stacked c.pop.new.self.items) here);
    }
