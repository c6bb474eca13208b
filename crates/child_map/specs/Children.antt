-- What contracts see of a child map.
use Rattle.std.specs.Prelude.{List, map, refl}
use Rattle.std.specs.Coded.{Coded, code_by, coded×, coded_list}
use Rattle.vfs_model.specs.declared.Case.{Case}
use Rattle.vfs_model.specs.Paths.{Path}
use Rattle.vfs_model.specs.Code.{case_code, path_code}
use Rattle.child_map.specs.declared.list.Entry.{Entry}

-- the case under which keys are compared, and the keys, each with its value
pub record Children (V : Type 0) : Type 0 where
  pub case : Case
  pub children : List (Path × V)

pub children_code : {V : Type 0} → Coded V → Coded (Children V)
children_code {V} v = code_by (Case × List (Path × V)) (coded× case_code (coded_list (coded× path_code v))) (λ c. (c.case, c.children)) (λ p. record { case = p.0; children = p.1 }) (λ _. refl)

abbrev pub children_in : {V : Type 0} → List (Entry V) → List (Path × V)
children_in entries = map (λ e. (e.key, e.value)) entries

abbrev pub keys_of : {V : Type 0} → Children V → List Path
keys_of c = map (λ child. child.0) c.children

abbrev pub values_of : {V : Type 0} → Children V → List V
values_of c = map (λ child. child.1) c.children
