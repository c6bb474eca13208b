-- What the tree form keeps.
use Rattle.std.specs.Prelude.{ℕ, refl}
use Rattle.std.specs.Coded.{Coded, code_by, coded×, coded_ℕ}
use Rattle.vfs_model.specs.declared.Case.{Case}
use Rattle.vfs_model.specs.Code.{case_code}
use Rattle.tree_model.specs.Numbers.{Numbers}
use Rattle.version_hierarchy.specs.Code.{numbers_code}

-- the case under which places are related, how many entries there were, and the numbers
pub record Numbered : Type 0 where
  pub case : Case
  pub count : ℕ
  pub numbers : Numbers

abbrev pub numbered_code : Coded Numbered
numbered_code = code_by (Case × (ℕ × Numbers)) (coded× case_code (coded× coded_ℕ numbers_code)) (λ v. (v.case, (v.count, v.numbers))) (λ p. record { case = p.0; count = p.1.0; numbers = p.1.1 }) (λ _. refl)
