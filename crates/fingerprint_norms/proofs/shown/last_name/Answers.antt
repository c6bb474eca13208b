use Rattle.std.proofs.Common.{◌∙◌}
use Rattle.fingerprint_norms.proofs.ShownLemmas.{last_name-at}
use Rattle.fingerprint_norms.proofs.shown.last_name.Goals as goal

pub returns-in_ok-text-in-Some : goal.returns-in_ok-text-in-Some
returns-in_ok-text-in-Some c = c.in_ok-text-in-Some.ensures.items ∙ c.as_bytes.ensures.bytes ∙ last_name-at c.args.names.now c.in-Some.name.now c.in-Some.ensures.value
