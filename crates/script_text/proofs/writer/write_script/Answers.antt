use Rattle.std.proofs.Common.{◌≡◌, List, ℕ, subst, sym, arith}
use Rattle.std.proofs.lemmas.Grind.{common_steps}
use Rattle.script_text.specs.declared.script.TextKind.TheVariants.{Replay}
use Rattle.script_text.specs.Grammar.{IsTextOf}
use Rattle.script_text.specs.Writing.{text_of}
use Rattle.script_text.proofs.WrittenLines.{text_is_written}
use Rattle.script_text.proofs.writer.write_script.Goals as goal

pub returns-clause-again : goal.returns-clause-again
returns-clause-again c =
    let is : c.put_lines.new.out.items ≡ text_of c.args.script.now = grind (arith, common_steps, c.new-out.ensures.items, c.in_ok-put_openings.ensures, c.in_ok-put_lines.ensures) in
    subst (λ (t : List ℕ). IsTextOf Replay t c.args.script.now) (sym is) (text_is_written Replay c.requires.0 c.args.script.now c.requires.1)
