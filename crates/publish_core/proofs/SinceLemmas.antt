-- When a version has grown.
use Rattle.std.proofs.Common.{◌≡◌, ℕ, ◌<◌, ◌≤◌, true, false, List, ◌++◌, arith}
use Rattle.std.specs.List.{list_any}
use Rattle.vfs_model.specs.Paths.{Path, is_related}
use Rattle.vfs_model.specs.Pending.{version}
use Rattle.vfs_laws.proofs.Splits.{split}
use Rattle.vfs_laws.proofs.OvertakenLemmas.{version-later}
use Rattle.vfs_model.specs.Stands.{StandsFor}

pub since-stale : (at : Path → ℕ) (count seen : ℕ) (past since : List Path) (x : Path) → StandsFor at count (past ++ since) → seen ≡ version past x → seen < at x
    → list_any (λ e. is_related e x) since ≡ true
since-stale at count seen past since x s e h =
    let v : at x ≡ version (past ++ since) x = s.versions x in
    (version-later past since x).0 (omega (arith, v, e, h))

pub since-fresh : (at : Path → ℕ) (count seen : ℕ) (past since : List Path) (x : Path) → StandsFor at count (past ++ since) → seen ≡ version past x → at x ≤ seen
    → list_any (λ e. is_related e x) since ≡ false
since-fresh at count seen past since x s e h =
    let v : at x ≡ version (past ++ since) x = s.versions x in
    split (list_any (λ e. is_related e x) since)
    (λ any. let later : version past x < version (past ++ since) x = (version-later past since x).1 any in absurd (omega (arith, v, e, h, later)))
    (λ none. none)
