use Rattle.std.proofs.Common.{ℕ, List, [], ◌∙◌, subst}
use Rattle.vfs_io.proofs.GrowLemmas.{Grows-nil}
use Rattle.script_runs.specs.Output.{PutsFront}
use Rattle.vfs_tool.proofs.generate.run_gen.Goals as goal

pub returns-clause-ends : goal.returns-clause-ends
returns-clause-ends g c =
    let a = g.K.Sink.told c.args.sink.now in
    let b = g.K.Sink.told c.put.new.self in
    let put = c.in-Err.ensures.bytes.prefix in (
      c.in-Err.ensures.cause.failed,
      (
        c.in-Ok.line.items,
        c.in-Ok.ensures,
        subst (λ (line : List ℕ). PutsFront a b [] line) c.as_slice.ensures.value
            (record { n = put.0; bytes = put.1; calls = c.in-Err.ensures.listed.failed ∙ Grows-nil a.puts }),
      ),
    )
