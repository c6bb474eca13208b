use Rattle.std.proofs.Common.{◌≡◌, ◌-◌, true, false, not, length, Some, ◌∙◌, sym, ap, refl}
use Rattle.std.proofs.lemmas.Result.{err_from_is_err_and}
use Rattle.vfs_model.specs.Paths.{place}
use Rattle.vfs_model.specs.Edit.{is_root, parent, is_missing, is_strictly_below}
use Rattle.mem_tree.specs.FileTree.{Branch, at_root, status_of_tree, found_fits}
use Rattle.mem_tree.specs.Refused.{no_directory}
use Rattle.mem_tree.proofs.TreeLemmas.{not-root}
use Rattle.mem_tree.proofs.RefusalLemmas.{move-by, move-in, is_taken, is_crowded, exists-of, crowded-of, stops-directory}
use Rattle.mem_tree.proofs.refuse.check_move.Goals as goal

pub returns-then-is_missing : goal.returns-then-is_missing
returns-then-is_missing c =
    let below_p : is_root c.args.from.now ≡ false = not-root c.args.from.now (sym c.is_empty.ensures ∙ c.if-is_empty.false) in
    let below_q : is_root c.args.to.now ≡ false = not-root c.args.to.now (sym c.is_empty-2.ensures ∙ c.if-is_empty-2.false) in
    let absent : true ≡ is_missing (status_of_tree (at_root c.args.case c.args.root.now (place c.args.case c.args.from.now))) = sym c.if-is_missing.true ∙ c.is_missing.ensures ∙ ap (λ o. is_missing (status_of_tree o)) c.at-moved.ensures.found in
    move-by c.args.case c.args.root.now c.args.from.now c.args.to.now true _ _ _ _ c.requires.tree c.requires.short below_p below_q absent refl refl refl refl

pub returns-then-is_strictly_below : goal.returns-then-is_strictly_below
returns-then-is_strictly_below c =
    let below_p : is_root c.args.from.now ≡ false = not-root c.args.from.now (sym c.is_empty.ensures ∙ c.if-is_empty.false) in
    let below_q : is_root c.args.to.now ≡ false = not-root c.args.to.now (sym c.is_empty-2.ensures ∙ c.if-is_empty-2.false) in
    let absent : false ≡ is_missing (status_of_tree (at_root c.args.case c.args.root.now (place c.args.case c.args.from.now))) = sym c.if-is_missing.false ∙ c.is_missing.ensures ∙ ap (λ o. is_missing (status_of_tree o)) c.at-moved.ensures.found in
    let inside : true ≡ is_strictly_below c.args.case c.args.to.now c.args.from.now = sym c.if-is_strictly_below.true ∙ c.is_strictly_below.ensures in
    move-by c.args.case c.args.root.now c.args.from.now c.args.to.now false true _ _ _ c.requires.tree c.requires.short below_p below_q absent inside refl refl refl

pub returns-in_err-directory : goal.returns-in_err-directory
returns-in_err-directory c =
    let below_p : is_root c.args.from.now ≡ false = not-root c.args.from.now (sym c.is_empty.ensures ∙ c.if-is_empty.false) in
    let below_q : is_root c.args.to.now ≡ false = not-root c.args.to.now (sym c.is_empty-2.ensures ∙ c.if-is_empty-2.false) in
    let absent : false ≡ is_missing (status_of_tree (at_root c.args.case c.args.root.now (place c.args.case c.args.from.now))) = sym c.if-is_missing.false ∙ c.is_missing.ensures ∙ ap (λ o. is_missing (status_of_tree o)) c.at-moved.ensures.found in
    let inside : false ≡ is_strictly_below c.args.case c.args.to.now c.args.from.now = sym c.if-is_strictly_below.false ∙ c.is_strictly_below.ensures in
    let p = err_from_is_err_and c.from_residual.result c.from_residual.ensures.1 in
    rw (p.1, p.2)
    (stops-directory (at_root c.args.case c.args.root.now (place c.args.case (parent c.args.to.now))) _ _ (ap (λ x. no_directory (at_root c.args.case c.args.root.now (place c.args.case x))) (sym c.parent.ensures) ∙ c.in_err-directory.ensures.refused)
    ∙ move-by c.args.case c.args.root.now c.args.from.now c.args.to.now false false _ _ _ c.requires.tree c.requires.short below_p below_q absent inside refl refl refl)

pub returns-then-holds_unless : goal.returns-then-holds_unless
returns-then-holds_unless c =
    let below_p : is_root c.args.from.now ≡ false = not-root c.args.from.now (sym c.is_empty.ensures ∙ c.if-is_empty.false) in
    let below_q : is_root c.args.to.now ≡ false = not-root c.args.to.now (sym c.is_empty-2.ensures ∙ c.if-is_empty-2.false) in
    let absent : false ≡ is_missing (status_of_tree (at_root c.args.case c.args.root.now (place c.args.case c.args.from.now))) = sym c.if-is_missing.false ∙ c.is_missing.ensures ∙ ap (λ o. is_missing (status_of_tree o)) c.at-moved.ensures.found in
    let inside : false ≡ is_strictly_below c.args.case c.args.to.now c.args.from.now = sym c.if-is_strictly_below.false ∙ c.is_strictly_below.ensures in
    let dir : at_root c.args.case c.args.root.now (place c.args.case (parent c.args.to.now)) ≡ Some (Branch c.in_ok-directory.directory.now) = ap (λ x. at_root c.args.case c.args.root.now (place c.args.case x)) (sym c.parent.ensures) ∙ c.in_ok-directory.ensures.found in
    let exists : true ≡ is_taken c.args.case c.args.root.now c.args.from.now c.args.to.now = sym c.if-holds_unless.true ∙ exists-of c.args.case c.args.root.now c.in_ok-directory.directory.now c.args.from.now c.args.to.now c.child.result c.last.result.now c.is_some-taken.result c.is_same_place-in_place.result c.holds_unless.result below_q dir c.child.ensures.child c.last.ensures c.is_some-taken.ensures c.is_same_place-in_place.ensures c.holds_unless.ensures in
    move-in c.args.case c.args.root.now c.in_ok-directory.directory.now c.args.from.now c.args.to.now true _ _ c.requires.tree c.requires.short below_p below_q dir absent inside exists refl refl

pub returns-then-not-fits : goal.returns-then-not-fits
returns-then-not-fits c =
    let below_p : is_root c.args.from.now ≡ false = not-root c.args.from.now (sym c.is_empty.ensures ∙ c.if-is_empty.false) in
    let below_q : is_root c.args.to.now ≡ false = not-root c.args.to.now (sym c.is_empty-2.ensures ∙ c.if-is_empty-2.false) in
    let absent : false ≡ is_missing (status_of_tree (at_root c.args.case c.args.root.now (place c.args.case c.args.from.now))) = sym c.if-is_missing.false ∙ c.is_missing.ensures ∙ ap (λ o. is_missing (status_of_tree o)) c.at-moved.ensures.found in
    let inside : false ≡ is_strictly_below c.args.case c.args.to.now c.args.from.now = sym c.if-is_strictly_below.false ∙ c.is_strictly_below.ensures in
    let dir : at_root c.args.case c.args.root.now (place c.args.case (parent c.args.to.now)) ≡ Some (Branch c.in_ok-directory.directory.now) = ap (λ x. at_root c.args.case c.args.root.now (place c.args.case x)) (sym c.parent.ensures) ∙ c.in_ok-directory.ensures.found in
    let exists : false ≡ is_taken c.args.case c.args.root.now c.args.from.now c.args.to.now = sym c.if-holds_unless.false ∙ exists-of c.args.case c.args.root.now c.in_ok-directory.directory.now c.args.from.now c.args.to.now c.child.result c.last.result.now c.is_some-taken.result c.is_same_place-in_place.result c.holds_unless.result below_q dir c.child.ensures.child c.last.ensures c.is_some-taken.ensures c.is_same_place-in_place.ensures c.holds_unless.ensures in
    let deep : true ≡ not (found_fits (64 - length c.args.to.now) (at_root c.args.case c.args.root.now (place c.args.case c.args.from.now))) = ap not (sym c.if-not-fits.true ∙ c.fits.ensures ∙ ap (found_fits (64 - length c.args.to.now)) c.at-moved.ensures.found) in
    move-in c.args.case c.args.root.now c.in_ok-directory.directory.now c.args.from.now c.args.to.now false true _ c.requires.tree c.requires.short below_p below_q dir absent inside exists deep refl

pub returns : goal.returns
returns c =
    let below_p : is_root c.args.from.now ≡ false = not-root c.args.from.now (sym c.is_empty.ensures ∙ c.if-is_empty.false) in
    let below_q : is_root c.args.to.now ≡ false = not-root c.args.to.now (sym c.is_empty-2.ensures ∙ c.if-is_empty-2.false) in
    let absent : false ≡ is_missing (status_of_tree (at_root c.args.case c.args.root.now (place c.args.case c.args.from.now))) = sym c.if-is_missing.false ∙ c.is_missing.ensures ∙ ap (λ o. is_missing (status_of_tree o)) c.at-moved.ensures.found in
    let inside : false ≡ is_strictly_below c.args.case c.args.to.now c.args.from.now = sym c.if-is_strictly_below.false ∙ c.is_strictly_below.ensures in
    let dir : at_root c.args.case c.args.root.now (place c.args.case (parent c.args.to.now)) ≡ Some (Branch c.in_ok-directory.directory.now) = ap (λ x. at_root c.args.case c.args.root.now (place c.args.case x)) (sym c.parent.ensures) ∙ c.in_ok-directory.ensures.found in
    let exists : false ≡ is_taken c.args.case c.args.root.now c.args.from.now c.args.to.now = sym c.if-holds_unless.false ∙ exists-of c.args.case c.args.root.now c.in_ok-directory.directory.now c.args.from.now c.args.to.now c.child.result c.last.result.now c.is_some-taken.result c.is_same_place-in_place.result c.holds_unless.result below_q dir c.child.ensures.child c.last.ensures c.is_some-taken.ensures c.is_same_place-in_place.ensures c.holds_unless.ensures in
    let deep : false ≡ not (found_fits (64 - length c.args.to.now) (at_root c.args.case c.args.root.now (place c.args.case c.args.from.now))) = ap not (sym c.if-not-fits.false ∙ c.fits.ensures ∙ ap (found_fits (64 - length c.args.to.now)) c.at-moved.ensures.found) in
    let crowded : c.holds_unless-2.result ≡ is_crowded c.args.case c.args.root.now c.args.from.now c.args.to.now = crowded-of c.args.case c.args.root.now c.in_ok-directory.directory.now c.args.from.now c.args.to.now c.parent-2.result.now c.parent-3.result.now c.is_full.result c.is_same_place-inside.result c.holds_unless-2.result dir c.parent-2.ensures c.parent-3.ensures c.is_full.ensures c.is_same_place-inside.ensures c.holds_unless-2.ensures in
    c.refuse_if.ensures ∙ move-in c.args.case c.args.root.now c.in_ok-directory.directory.now c.args.from.now c.args.to.now false false c.holds_unless-2.result c.requires.tree c.requires.short below_p below_q dir absent inside exists deep crowded
