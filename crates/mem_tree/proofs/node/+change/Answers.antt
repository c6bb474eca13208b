use Rattle.std.proofs.Common.{◌≡◌, rules, ◌-◌, List, refl, sym, ap, ◌∙◌, subst, length, take, drop, slice_set}
use Rattle.std.proofs.lemmas.Result.{IfOk-weaker}
use Rattle.vfs_model.specs.Paths.{place}
use Rattle.mem_tree.specs.FileTree.{Children, Branch, changed, IsOrdered}
use Rattle.mem_tree.specs.Nodes.{tree_of_node, children_of, listed, IsHere, IsGap}
use Rattle.mem_tree.specs.Found.{after_change}
use Rattle.mem_tree.specs.declared.node.Listing.TheInside.{Inside}
use Rattle.mem_tree.specs.declared.node.Child.{Child}
use Rattle.mem_tree.specs.declared.node.Node.{Node}
use Rattle.mem_tree.specs.declared.node.Node.TheVariants.{Dir}
use Rattle.mem_tree.proofs.SeekLemmas.{changed-below, changed-file, changed-nowhere, place-begins, listed-ordered}
use Rattle.mem_tree.proofs.node.+change.Goals as goal
use Rattle.mem_tree.proofs.node.+change.Goals.{Listing::change-in-Some+in_default-get_mut, Listing::change-in_default}

pub Listing::change-change_children-requires-2 : goal.Listing::change-change_children-requires-2
Listing::change-change_children-requires-2 t c = (
  search rules,
  subst (λ (cs : Children). IsOrdered c.args.case (Branch cs))
      (sym (ap children_of c.in_ok-children.ensures
      ∙ c.children.ensures
      ∙ (elim c.match-self.branch as (λ x. children_of (listed c.match-self.self-inside.children) ≡ c.args.self.now) [
        | Listing::change-in-Some+in_default-get_mut w ↦ ap (λ (s : Inside). children_of (listed s.children)) w.self-inside-is ∙ ap (λ o. children_of (listed o)) (sym w.in-Some.is) ∙ c.self.view_is
        | Listing::change-in_default w ↦ ap (λ (s : Inside). children_of (listed s.children)) w.self-inside-is ∙ c.self.view_is
      ])))
      c.requires,
)

pub change_children-change-requires : goal.change_children-change-requires
change_children-change-requires t c = (
  search rules,
  subst (λ (n : Node). IsOrdered c.args.case (tree_of_node n)) c.in-Dir.is
      (listed-ordered c.args.case c.args.children.now.items (children_of c.args.children.now.items) c.in-Ok.i c.index_mut.result.now refl c.requires.1
      (subst (λ (cs : List Child). IsHere c.args.case cs c.name-item.result c.in-Ok.i) c.as_slice.ensures.value (c.in-Ok.ensures)).within
      c.index_mut.ensures.value),
)

pub change_children-returns-in-Err-clause-changed : goal.change_children-returns-in-Err-clause-changed
change_children-returns-in-Err-clause-changed t c =
    changed-nowhere c.args.case (after_change c.args.case c.args.change) c.args.children.now.items c.name-item.result (place c.args.case (take (length c.args.names.now - 1) (drop 1 c.args.names.now))) c.in-Err.field-0
    (subst (λ (cs : List Child). IsGap c.args.case cs c.name-item.result c.in-Err.field-0) c.as_slice.ensures.value (c.in-Err.ensures))
    ∙ ap (λ x. changed c.args.case (after_change c.args.case c.args.change) x (children_of c.args.children.now.items)) (place-begins c.args.case c.args.names.now c.name-item.result c.in-len1-up.len_at_least c.name-item.is)

pub change_children-returns-in-File-clause-changed : goal.change_children-returns-in-File-clause-changed
change_children-returns-in-File-clause-changed t c =
    changed-file c.args.case (after_change c.args.case c.args.change) c.args.children.now.items (slice_set c.args.children.now.items c.in-Ok.i c.index_mut.result.now) c.name-item.result (place c.args.case (take (length c.args.names.now - 1) (drop 1 c.args.names.now))) c.in-Ok.i c.index_mut.result.now c.in-File.field-0
    (subst (λ (cs : List Child). IsHere c.args.case cs c.name-item.result c.in-Ok.i) c.as_slice.ensures.value (c.in-Ok.ensures)) c.index_mut.ensures.value (ap tree_of_node c.in-File.is) refl
    ∙ ap (λ x. changed c.args.case (after_change c.args.case c.args.change) x (children_of c.args.children.now.items)) (place-begins c.args.case c.args.names.now c.name-item.result c.in-len1-up.len_at_least c.name-item.is)

pub change_children-returns-in-Dir-clause-changed : goal.change_children-returns-in-Dir-clause-changed
change_children-returns-in-Dir-clause-changed t c =
    IfOk-weaker c.change-in-Dir.result _ _
    (λ u e.
    changed-below c.args.case (after_change c.args.case c.args.change) c.args.children.now.items (slice_set c.args.children.now.items c.in-Ok.i (record { name = c.index_mut.result.now.name; node = Dir c.change-in-Dir.new.self })) c.name-item.result (place c.args.case (take (length c.args.names.now - 1) (drop 1 c.args.names.now))) c.in-Ok.i c.index_mut.result.now (record { name = c.index_mut.result.now.name; node = Dir c.change-in-Dir.new.self }) c.in-Dir.listing
    (subst (λ (cs : List Child). IsHere c.args.case cs c.name-item.result c.in-Ok.i) c.as_slice.ensures.value (c.in-Ok.ensures)) c.index_mut.ensures.value (ap tree_of_node c.in-Dir.is) refl (ap Branch e) refl
    ∙ ap (λ x. changed c.args.case (after_change c.args.case c.args.change) x (children_of c.args.children.now.items)) (place-begins c.args.case c.args.names.now c.name-item.result c.in-len1-up.len_at_least c.name-item.is))
    c.change-in-Dir.ensures.changed
