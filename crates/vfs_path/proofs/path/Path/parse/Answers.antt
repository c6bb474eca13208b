use Rattle.std.proofs.Common.{◌≡◌, sym, Some, ◌∙◌}
use Rattle.std.specs.List.{slice_split}
use Rattle.vfs_path.specs.declared.error.PathError.TheVariants.{NoMemory}
use Rattle.vfs_path.specs.Texts.{is_slash, segments_refusal}
use Rattle.vfs_path.proofs.Segments.{path_from_rest}
use Rattle.vfs_path.proofs.Unsaid.{refused_segments}
use Rattle.vfs_path.proofs.path.Path.parse.Goals as goal

pub names_between-requires : goal.names_between-requires
names_between-requires c =
    path_from_rest c.args.text.now c.in-Some.rest.now c.in-Some.ensures (sym c.if-not-has_path_bytes.ensures)
    (sym c.segments_refusal.ensures ∙ c.in_default-segments_refusal.is)

pub with_names-requires : goal.with_names-requires
with_names-requires c =
    rw c.in_ok-names.ensures
    (path_from_rest c.args.text.now c.in-Some.rest.now c.in-Some.ensures (sym c.if-not-has_path_bytes.ensures)
    (sym c.segments_refusal.ensures ∙ c.in_default-segments_refusal.is))

pub returns-in-Some-segments_refusal-clause-memory : goal.returns-in-Some-segments_refusal-clause-memory
returns-in-Some-segments_refusal-clause-memory c e =
    let due : segments_refusal 0 (slice_split is_slash c.in-Some.rest.now) ≡ Some NoMemory = cc (c.segments_refusal.ensures, c.in-Some-segments_refusal.is, e) in
    absurd (refused_segments 0 (slice_split is_slash c.in-Some.rest.now) due)
