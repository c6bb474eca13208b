use Rattle.script_text.specs.declared.script.TextKind.TheVariants.{Replay}
use Rattle.script_reader.proofs.TextLaws.{result_found, result_bad, result_read, result_named, HasText-found}
use Rattle.script_reader.proofs.reader.read_script.Goals as goal

pub returns : goal.returns
returns c =
    let text = c.args.text.now in
    let r = c.read_lines.result in
    let reads = c.read_lines.ensures in
    let found = result_found Replay text r reads in
    record {
      found = found;
      writable = HasText-found text r found;
      bad = result_bad Replay text r reads;
      read = result_read Replay text r reads;
      named = result_named Replay text r reads;
    }
