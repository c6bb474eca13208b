-- Where a scan goes on.
use Rattle.std.proofs.Common.{◌≡◌, ℕ, ◌+◌, List, ◌++◌, length, length-append, true, is_some, Option, Some, None, option_map, refl, sym, ap, ◌∙◌, subst}
use Rattle.vfs_model.specs.declared.Case.{Case}
use Rattle.vfs_model.specs.Paths.{Path}
use Rattle.vfs_model.specs.Scanning.{Look, next_left}
use Rattle.vfs_model.specs.Sound.{IsLook}
use Rattle.vfs_model.specs.Stands.{RunningScan}
use Rattle.scan_walk.specs.declared.slots.Next.{Next}
use Rattle.scan_walk.specs.declared.slots.Next.TheVariants as to
use Rattle.scan_walk.specs.Cased.{CasedScan, running_of, scans_in, cased_at, IsUnder}
use Rattle.scan_walk.specs.Scans.{running_at, location_of, IsNext, IsLookOfOpen}
use Rattle.scan_walk.proofs.CasedLemmas.{running-is}

-- nothing is left where there is none
pub location-none : (r : RunningScan) → location_of r ≡ None → next_left r.partial ≡ None
location-none r h = by (next_left r.partial) h
  where
    by : (o : Option Path) → option_map (λ y. r.path ++ y) o ≡ None → o ≡ None
    by None h = refl
    by (Some y) h = cc

-- the names of the location below the scan's path
pub record IsLocation (r : RunningScan) (p : Path) : Type 0 where
  pub names : Path
  pub next : next_left r.partial ≡ Some names
  pub path_is : p ≡ r.path ++ names

-- they are known where there is one
pub location-some : (r : RunningScan) (p : Path) → location_of r ≡ Some p → IsLocation r p
location-some r p h = by (next_left r.partial) refl h
  where
    by : (o : Option Path) → next_left r.partial ≡ o → option_map (λ y. r.path ++ y) o ≡ Some p → IsLocation r p
    by None e h = cc
    by (Some y) e h = let is : p ≡ r.path ++ y = cc in record { names = y; next = e; path_is = is }

-- the scan is in progress where it has a next location
pub location-open : (o : Option CasedScan) (p : Path) → IsNext (running_of o) (to.Location p) → is_some o ≡ true
location-open None p h = absurd h
location-open (Some s) p h = refl

-- a look there is one at the next location of the scan
pub location-look : (case : Case) (o : Option CasedScan) (p : Path) (l : Look) → IsUnder case o → IsNext (running_of o) (to.Location p) → IsLook case (length p) l → IsLookOfOpen o l
location-look case None p l is h k = tt
location-look case (Some s) p l is h k =
    let at_it = location-some s.scan p h in
    record {
      left = ap is_some at_it.next;
      look = λ y e.
          let same : at_it.names ≡ y = cc (at_it.next) in
          let far : length p ≡ length s.scan.path + length y = ap length at_it.path_is ∙ length-append s.scan.path at_it.names ∙ ap (λ z. length s.scan.path + length z) same in
          coe 0 1 (i. IsLook (sym is i) (far i) l) k;
    }

-- the scan alone goes on there
pub next-alone : (xs : List (Option CasedScan)) (c : ℕ) (n : Next) → IsNext (running_of (cased_at xs c)) n → IsNext (running_at (scans_in xs) c) n
next-alone xs c n h = subst (λ (o : Option RunningScan). IsNext o n) (sym (running-is xs c)) h
