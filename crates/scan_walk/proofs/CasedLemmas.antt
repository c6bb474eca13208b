-- Scans with the cases of their walks, and the scans alone.
use Rattle.std.proofs.Common.{◌≡◌, ◌<◌, ℕ, Bool, zero, suc, List, [], ◌∷◌, length, get_or, arith, Option, Some, None, IfSome, is_some, option_map, slice_set, true, refl, sym, ap, ◌∙◌, subst}
use Rattle.std.specs.List.{AllByRecursion as Each}
use Rattle.vfs_model.specs.declared.Case.{Case}
use Rattle.vfs_model.specs.Scanning.{Look, count_left, after_look}
use Rattle.vfs_model.specs.Stands.{RunningScan}
use Rattle.vfs_laws.proofs.SoundLemmas.{each-set}
use Rattle.scan_walk.specs.Cased.{CasedScan, running_of, scans_in, cased_at, IsUnder}
use Rattle.scan_walk.specs.Scans.{running_at, cased_after, scan_after, IsShapedRunning}

-- the scan that is read at the number is the one with the number
pub cased-read : (xs : List (Option CasedScan)) (c : ℕ) (o : Option CasedScan) → c < length xs → o ≡ get_or xs c o → cased_at xs c ≡ o
cased-read [] c o h is = absurd (omega (arith, h))
cased-read (None ∷ xs) zero o h is = sym is
cased-read (Some s ∷ xs) zero o h is = sym is
cased-read (x ∷ xs) (suc c) o h is = cased-read xs c o (omega (arith, h)) is

-- the scan with the number, seen alone
pub running-is : (xs : List (Option CasedScan)) (c : ℕ) → running_at (scans_in xs) c ≡ running_of (cased_at xs c)
running-is [] c = refl
running-is (x ∷ xs) zero = refl
running-is (x ∷ xs) (suc c) = running-is xs c

-- the scan with the number set, seen alone
pub set-in : (xs : List (Option CasedScan)) (c : ℕ) (s : Option CasedScan) → scans_in (slice_set xs c s) ≡ slice_set (scans_in xs) c (running_of s)
set-in [] c s = refl
set-in (x ∷ xs) zero s = refl
set-in (x ∷ xs) (suc c) s = ap (λ rs. running_of x ∷ rs) (set-in xs c s)

-- what is told of the scan is told of it alone
pub map-running : {A : Type 0} (f : RunningScan → A) (o : Option CasedScan) → option_map f (running_of o) ≡ option_map (λ s. f s.scan) o
map-running f None = refl
map-running f (Some s) = refl

-- how many locations are left of it
pub count-alone : (xs : List (Option CasedScan)) (c : ℕ) (n : Option ℕ) → option_map (λ (s : CasedScan). count_left s.scan.partial) (cased_at xs c) ≡ n → option_map (λ (r : RunningScan). count_left r.partial) (running_at (scans_in xs) c) ≡ n
count-alone xs c n h = ap (option_map (λ (r : RunningScan). count_left r.partial)) (running-is xs c) ∙ map-running (λ r. count_left r.partial) (cased_at xs c) ∙ h

-- whether it is in progress
pub open-alone : (xs : List (Option CasedScan)) (c : ℕ) (b : Bool) → is_some (cased_at xs c) ≡ b → is_some (running_at (scans_in xs) c) ≡ b
open-alone xs c b h = ap is_some (running-is xs c) ∙ same (cased_at xs c) ∙ h
  where
    same : (o : Option CasedScan) → is_some (running_of o) ≡ is_some o
    same None = refl
    same (Some s) = refl

-- ---- a look

-- the scan after a look, seen alone
pub seen-in : (xs new : List (Option CasedScan)) (c : ℕ) (l : Look) → IfSome (cased_at xs c) (λ s. new ≡ slice_set xs c (Some (cased_after l s)))
    → IfSome (running_at (scans_in xs) c) (λ r. scans_in new ≡ slice_set (scans_in xs) c (Some (scan_after l r)))
seen-in xs new c l h = subst (λ (o : Option RunningScan). IfSome o (λ r. scans_in new ≡ slice_set (scans_in xs) c (Some (scan_after l r)))) (sym (running-is xs c)) (by (cased_at xs c) h)
  where
    by : (o : Option CasedScan) → IfSome o (λ s. new ≡ slice_set xs c (Some (cased_after l s))) → IfSome (running_of o) (λ r. scans_in new ≡ slice_set (scans_in xs) c (Some (scan_after l r)))
    by None h = tt
    by (Some s) h = ap scans_in h ∙ set-in xs c (Some (cased_after l s))

-- how many locations are left then
pub left-in : (xs : List (Option CasedScan)) (c n : ℕ) (l : Look) → IfSome (cased_at xs c) (λ s. n ≡ count_left (scan_after l s.scan).partial)
    → IfSome (running_at (scans_in xs) c) (λ r. n ≡ count_left (after_look l r.partial))
left-in xs c n l h = subst (λ (o : Option RunningScan). IfSome o (λ r. n ≡ count_left (after_look l r.partial))) (sym (running-is xs c)) (by (cased_at xs c) h)
  where
    by : (o : Option CasedScan) → IfSome o (λ s. n ≡ count_left (scan_after l s.scan).partial) → IfSome (running_of o) (λ r. n ≡ count_left (after_look l r.partial))
    by None h = tt
    by (Some s) h = h

-- ---- the cases

-- the walk of the scan with the number has the case of all
pub under-at : (case : Case) (xs : List (Option CasedScan)) (c : ℕ) → Each (IsUnder case) xs → IsUnder case (cased_at xs c)
under-at case [] c h = tt
under-at case (x ∷ xs) zero h = h.0
under-at case (x ∷ xs) (suc c) h = under-at case xs c h.1

-- all have one case after a look
pub under-seen : (case : Case) (xs new : List (Option CasedScan)) (c : ℕ) (l : Look) → Each (IsUnder case) xs → is_some (cased_at xs c) ≡ true → IfSome (cased_at xs c) (λ s. new ≡ slice_set xs c (Some (cased_after l s))) → Each (IsUnder case) new
under-seen case xs new c l all some h = by (cased_at xs c) (under-at case xs c all) some h
  where
    by : (o : Option CasedScan) → IsUnder case o → is_some o ≡ true → IfSome o (λ s. new ≡ slice_set xs c (Some (cased_after l s))) → Each (IsUnder case) new
    by None is some h = cc
    by (Some s) is some h = subst (Each (IsUnder case)) (sym h) (each-set (IsUnder case) xs c (Some (cased_after l s)) is all)

-- the scan is in shape under the one case
pub shaped-in : (case : Case) (xs : List (Option CasedScan)) (c : ℕ) → Each (IsUnder case) xs → IfSome (cased_at xs c) (λ s. IsShapedRunning s.case s.scan) → IfSome (running_at (scans_in xs) c) (IsShapedRunning case)
shaped-in case xs c all h = subst (λ (o : Option RunningScan). IfSome o (IsShapedRunning case)) (sym (running-is xs c)) (by (cased_at xs c) (under-at case xs c all) h)
  where
    by : (o : Option CasedScan) → IsUnder case o → IfSome o (λ s. IsShapedRunning s.case s.scan) → IfSome (running_of o) (IsShapedRunning case)
    by None is h = tt
    by (Some s) is h = subst (λ (k : Case). IsShapedRunning k s.scan) is h
