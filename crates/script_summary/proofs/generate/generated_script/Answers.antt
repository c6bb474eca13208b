use Rattle.std.proofs.Common.{◌++◌, List, sym, ap, ◌∙◌}
use Rattle.script_text.specs.declared.script.Line.{Line}
use Rattle.script_summary.specs.Generated.{directory_lines}
use Rattle.script_summary.proofs.GeneratedLemmas.{directory-more}
use Rattle.script_summary.proofs.generate.generated_script.Goals as goal

pub loop-directory-preserved : goal.loop-directory-preserved
loop-directory-preserved c =
    c.in_ok-push_directory.ensures
    ∙ ap (λ (ls : List Line). ls ++ directory_lines c.loop-directory.directory) c.loop-directory.invariant
    ∙ sym (directory-more c.loop-directory.directory)
