use Rattle.std.proofs.Common.{◌≡◌, [], ◌∷◌, arith}
use Rattle.std.proofs.lemmas.Grind.{common_steps}
use Rattle.scan_walk.proofs.StepLemmas.{walk-begin}
use Rattle.scan_walk.proofs.walk.ScanWalk.begin.Goals as goal

pub invariant_of-result : goal.invariant_of-result
invariant_of-result c =
    let left : c.push.new.self.items ≡ c.args.path.now ∷ [] = grind (arith, common_steps) in
    rw (c.new.ensures.items, c.new-2.ensures.items, left, c.in_ok-share-2.ensures) (walk-begin c.args.case c.args.path.now)
