-- What a Vfs holds: plain data, and its versions.
use Rattle.std.specs.Prelude.{refl}
use Rattle.std.specs.Coded.{Coded, code_by, coded×}
use Rattle.snapshot_hierarchy.specs.Held.{Held, held_code}

-- what its holder of snapshots tells, and the versions of paths
pub record Holds (V : Type 0) : Type 0 where
  pub held : Held
  pub open held use *
  pub versions : V

abbrev pub holds_code : {V : Type 0} → Coded V → Coded (Holds V)
holds_code {V} v = code_by (Held × V) (coded× held_code v) (λ h. (h.held, h.versions)) (λ p. record { held = p.0; versions = p.1 }) (λ _. refl)
