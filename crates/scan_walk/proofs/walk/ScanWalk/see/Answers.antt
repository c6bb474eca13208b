use Rattle.std.proofs.Common.{◌≡◌, ◌∙◌, sym, ap, [], ◌∷◌, ◌++◌, ◌-◌, length, map, reverse, take, slice_get, Some, None, IsSome}
use Rattle.std.proofs.lemmas.List.{map-append}
use Rattle.std.specs.Option.{option_copied}
use Rattle.vfs_model.specs.Scanning.{next_left, names_seen}
use Rattle.world_model.specs.Meaning.{look_seen}
use Rattle.scan_walk.specs.Walking.{progress_after}
use Rattle.scan_walk.proofs.StepLemmas.{walk-some, walk-deep, walk-see, progress-see, IsLookNext}
use Rattle.scan_walk.proofs.walk.ScanWalk.see.Goals as goal

pub unreachable-requires : goal.unreachable-requires
unreachable-requires c =
    let end : slice_get c.self.inside.left.items (length c.self.inside.left.items - 1) ≡ None =
    sym (ap (λ xs. slice_get xs (length xs - 1)) c.deref.ensures.value) ∙ sym c.last.ensures.value ∙ ap option_copied c.in_default.is in
    let some : IsSome (next_left (progress_after c.self.inside.case c.self.inside.path (map look_seen c.self.inside.seen.items)).partial) = rw (← c.self.view_is) at c.requires.left in
    walk-some _ _ _ _ c.self.invariant end some

pub children_of-requires : goal.children_of-requires
children_of-requires c =
    let end : slice_get c.self.inside.left.items (length c.self.inside.left.items - 1) ≡ Some c.in-Some.location.now =
    sym (ap (λ xs. slice_get xs (length xs - 1)) c.deref.ensures.value) ∙ sym c.in-Some.ensures.value in
    let look : IsLookNext (progress_after c.self.inside.case c.self.inside.path (map look_seen c.self.inside.seen.items)) (look_seen c.args.entry) = rw (← c.self.view_is) at c.requires.look in
    λ deep. c.names_of.ensures ∙ walk-deep _ _ _ _ c.in-Some.location.now (look_seen c.args.entry) c.self.invariant end look deep

pub invariant_of-self-2 : goal.invariant_of-self-2
invariant_of-self-2 c =
    let end : slice_get c.self.inside.left.items (length c.self.inside.left.items - 1) ≡ Some c.in-Some.location.now =
    sym (ap (λ xs. slice_get xs (length xs - 1)) c.deref.ensures.value) ∙ sym c.in-Some.ensures.value in
    let look : IsLookNext (progress_after c.self.inside.case c.self.inside.path (map look_seen c.self.inside.seen.items)) (look_seen c.args.entry) = rw (← c.self.view_is) at c.requires.look in
    let below : reverse c.in_ok-children.children.items ≡ map (λ n. c.in-Some.location.now ++ n ∷ []) (names_seen (look_seen c.args.entry)) = rw c.names_of.ensures at c.in_ok-children.ensures in
    walk-see c.self.inside.case c.self.inside.path (map look_seen c.self.inside.seen.items) _ c.self.inside.contents.items _ c.self.inside.left.items _ c.in-Some.location.now c.in_ok-children.children.items (look_seen c.args.entry)
    c.self.invariant end look below
    (ap (map look_seen) (c.push_reserved.ensures.items ∙ ap (λ xs. xs ++ c.args.entry ∷ []) c.reserve-3.ensures.items) ∙ map-append look_seen c.self.inside.seen.items (c.args.entry ∷ []))
    (c.add_content.ensures ∙ (λ i. c.reserve-2.ensures.items i ++ c.in_ok-content.ensures i))
    (c.replace_last.ensures ∙ (λ i. take (c.reserve.new.self.ok.0 i - 1) c.reserve.new.self.items ++ c.in_ok-children.children.items) ∙ (λ i. take (length (c.reserve.ensures.items i) - 1) (c.reserve.ensures.items i) ++ c.in_ok-children.children.items))

pub returns-clause-seen : goal.returns-clause-seen
returns-clause-seen c =
    let seen = ap (map look_seen) (c.push_reserved.ensures.items ∙ ap (λ xs. xs ++ c.args.entry ∷ []) c.reserve-3.ensures.items) ∙ map-append look_seen c.self.inside.seen.items (c.args.entry ∷ []) in
    rw (← c.self.view_is) (progress-see c.self.inside.case c.self.inside.path (map look_seen c.self.inside.seen.items) (map look_seen c.push_reserved.new.self.items) (look_seen c.args.entry) seen)
