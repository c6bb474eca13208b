-- What contracts see of a directory in the making.
use Rattle.std.specs.Prelude.{refl}
use Rattle.std.specs.Coded.{Coded, code_by, coded×}
use Rattle.vfs_model.specs.declared.Case.{Case}
use Rattle.vfs_model.specs.Snapshot.{Children}
use Rattle.vfs_model.specs.Code.{case_code, children_code}

-- the case under which the names are in order, and the children so far
pub record Building : Type 0 where
  pub case : Case
  pub children : Children

abbrev pub building_code : Coded Building
building_code = code_by (Case × Children) (coded× case_code children_code) (λ b. (b.case, b.children)) (λ p. record { case = p.0; children = p.1 }) (λ _. refl)
