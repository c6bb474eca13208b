use Rattle.std.proofs.Common.{◌∙◌, [], ◌∷◌, ◌++◌, ◌-◌, length, take, drop, get_or, ap, arith, append_assoc}
use Rattle.std.proofs.lemmas.List.{take_all}
use Rattle.vfs_model.specs.Paths.{Path}
use Rattle.vfs_path.specs.Texts.{slashed}
use Rattle.vfs_path.proofs.Written.{slashed_more, joined}
use Rattle.fingerprint_norms.proofs.ShownLemmas.{joined-parts}
use Rattle.fingerprint_norms.proofs.shown.write_joined.Goals as goal

pub loop-name-preserved : goal.loop-name-preserved
loop-name-preserved c =
    let more : Path = take (length c.args.names.now - 1) (drop 1 c.args.names.now) in
    let step = slashed_more more c.loop-name.name-index c.name-item.result c.loop-name-test.true in
    rw (step, ← c.name-item.is, c.in_ok-extend_from_slice-2.ensures.items, c.in_ok-push.ensures.items, c.as_bytes-in-loop-name.ensures.bytes, c.loop-name.invariant)
    (joined c.args.out.now.items _ c.name-item.result
    ∙ ap (λ l. c.args.out.now.items ++ l) (append_assoc (get_or c.args.names.now 0 []) _ (47 ∷ c.name-item.result)))

pub returns : goal.returns
returns c =
    let more : Path = take (length c.args.names.now - 1) (drop 1 c.args.names.now) in
    c.loop-name.invariant
    ∙ ap (λ l. c.args.out.now.items ++ (get_or c.args.names.now 0 [] ++ slashed l)) (take_all c.loop-name.name-index more (omega (arith, c.loop-name-test.false)))
    ∙ ap (λ l. c.args.out.now.items ++ l) (joined-parts c.args.names.now c.in-len1-up.len_at_least)
