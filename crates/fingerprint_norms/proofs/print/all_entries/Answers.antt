use Rattle.std.proofs.Common.{◌∙◌, map}
use Rattle.fingerprint_norms.specs.Meaning.{entry_of}
use Rattle.fingerprint_norms.proofs.WalkLemmas.{input-step}
use Rattle.fingerprint_norms.proofs.print.all_entries.Goals as goal

pub loop-i-preserved : goal.loop-i-preserved
loop-i-preserved c =
    input-step c.args.case c.args.seen.now c.loop-i.i c.index-seen-i.result (map entry_of c.loop-i.all.items) (map entry_of c.add_input.new.entries.items) c.loop-i-test.true c.index-seen-i.is c.in_ok-add_input.ensures
    ∙ c.loop-i.invariant
