-- How far a walk has come.
use Rattle.std.specs.Prelude.{length, refl}
use Rattle.std.specs.Coded.{Coded, code_by, coded×}
use Rattle.vfs_model.specs.declared.Case.{Case}
use Rattle.vfs_model.specs.Paths.{Path}
use Rattle.vfs_model.specs.Scanning.{PartialSnapshot, IsPartialTree, IsShallow, IsFront}
use Rattle.vfs_model.specs.Code.{case_code, path_code, partial_code}

-- the case of a walk, its path, and what it has of the locations at and below the path
pub record Progress : Type 0 where
  pub case : Case
  pub path : Path
  pub partial : PartialSnapshot

abbrev pub progress_code : Coded Progress
progress_code = code_by (Case × (Path × PartialSnapshot)) (coded× case_code (coded× path_code partial_code)) (λ p. (p.case, (p.path, p.partial))) (λ t. record { case = t.0; path = t.1.0; partial = t.1.1 }) (λ _. refl)

-- the names of each directory are in order and few, none is listed at 64 names, and nothing behind the next location is read yet
pub record IsShaped (p : Progress) : Type 0 where
  pub partial : IsPartialTree p.case p.partial
  pub shallow : IsShallow p.case (length p.path) p.partial
  pub front : IsFront p.partial
