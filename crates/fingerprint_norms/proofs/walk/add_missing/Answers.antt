use Rattle.std.proofs.Common.{◌≡◌, ◌∙◌, [], ◌∷◌, true, false, sym, ap}
use Rattle.vfs_model.specs.Paths.{place}
use Rattle.vfs_model.specs.Fingerprint.{FpEntry, shown_path, missing_entry}
use Rattle.snapshot_tree.specs.declared.snapshot.Snapshot.{Snapshot as SnapshotValue}
use Rattle.snapshot_tree.specs.Meaning.{meaning_of}
use Rattle.fingerprint_norms.specs.Meaning.{sensitivity_of}
use Rattle.fingerprint_norms.specs.Walk.{below, places_of}
use Rattle.fingerprint_norms.proofs.WalkLemmas.{is_covered, covered-is, missing-none, missing-one, none-below, none-pushed, pushed}
use Rattle.fingerprint_norms.proofs.walk.add_missing.Goals as goal

pub returns-then-is_covered : goal.returns-then-is_covered
returns-then-is_covered c =
    let covered : is_covered c.args.case (places_of c.args.case c.args.earlier.now) c.args.seen.now.input.root ≡ true =
    covered-is c.args.case (place c.args.case c.args.seen.now.input.root) c.args.earlier.now ∙ (rw c.as_slice-names.ensures.names at (sym c.if-is_covered.ensures)) in
    none-pushed _ _
    (ap (λ (s : SnapshotValue). missing_entry c.args.case (places_of c.args.case c.args.earlier.now) (sensitivity_of c.args.seen.now.input.sensitivity) c.args.seen.now.input.root (meaning_of s)) c.in-Missing.is
    ∙ missing-none c.args.case _ (sensitivity_of c.args.seen.now.input.sensitivity) c.args.seen.now.input.root covered)

pub returns : goal.returns
returns c =
    let mode = sensitivity_of c.args.seen.now.input.sensitivity in
    let root = c.args.seen.now.input.root in
    let apart : is_covered c.args.case (places_of c.args.case c.args.earlier.now) root ≡ false =
    covered-is c.args.case (place c.args.case root) c.args.earlier.now ∙ (rw c.as_slice-names.ensures.names at (sym c.if-is_covered.ensures)) in
    let top : below root c.as_slice-names.result.now ≡ [] = none-below root c.as_slice-names.result.now c.as_slice-names.ensures.names in
    pushed c.args.entries.now.items c.push.new.self.items c.in_ok-entry.entry _ c.in_ok-push.ensures.items
    (ap (λ (e : FpEntry). e ∷ []) c.in_ok-entry.ensures
    ∙ ap (λ b. record { path = shown_path mode root b false; kind = 77; digest = [] } ∷ []) top
    ∙ missing-one c.args.case _ mode root apart
    ∙ ap (λ (s : SnapshotValue). missing_entry c.args.case (places_of c.args.case c.args.earlier.now) mode root (meaning_of s)) (sym c.in-Missing.is))
