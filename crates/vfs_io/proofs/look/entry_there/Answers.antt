use Rattle.std.proofs.lemmas.Result.{IfOk-weaker}
use Rattle.vfs_io.proofs.look.entry_there.Goals as goal

pub returns-in-File-clause-shape : goal.returns-in-File-clause-shape
returns-in-File-clause-shape g c = IfOk-weaker c.file_at.result _ _ (λ entry is_look. is_look c.args.case c.args.depth) c.file_at.ensures.shape
