-- One take after another.
use Rattle.std.proofs.Common.{ℕ, ◌-◌, ◌≤◌, List, [], ◌∷◌, ◌++◌, length, Option, Result, Ok, Err, sym, subst, arith, length-append}
use Rattle.std.specs.List.{AllByRecursion as Each}
use Rattle.std.proofs.KnownBytes.{Consumes-trans}
use Rattle.std.specs.Io.KnownBytes.{Consumes}
use Rattle.script_runs.proofs.RunLemmas.{Rose-since}
use Rattle.vfs_tool.specs.declared.input.Stop.{Stop}
use Rattle.vfs_tool.specs.declared.input.Stop.TheVariants.{Fault, TooLong, NoMemory}
use Rattle.vfs_io.specs.Told.{SourceTold, Grows, IsListed}
use Rattle.vfs_io.proofs.GrowLemmas.{Grows-nil, Grows-trans}
use Rattle.vfs_tool.specs.Input.{AsksAtMost, Stops, limit}

-- what stops a take, of what is left of the limit, stops all
pub stops_on : (e : Stop) (a b c : SourceTold) (text : List ℕ) → Consumes a.left b.left text → length text ≤ limit → a.faults ≤ b.faults → Stops b c (limit - length text) e → Stops a c limit e
stops_on Fault a b c text took fits later h = (Rose-since a.faults b.faults c.faults later h.0, (text ++ h.1.0, Consumes-trans a.left b.left c.left text h.1.0 took h.1.1, let l = h.1.2 in omega (arith, length-append text h.1.0)))
stops_on TooLong a b c text took fits later h = (text ++ h.0, Consumes-trans a.left b.left c.left text h.0 took h.1, let l = h.2 in omega (arith, length-append text h.0))
stops_on NoMemory a b c text took fits later h = (text ++ h.0, Consumes-trans a.left b.left c.left text h.0 took h.1, let l = h.2 in omega (arith, length-append text h.0))

-- ---- the buffers of the takes

pub none_asked : (a : SourceTold) (most : ℕ) → AsksAtMost a a most
none_asked a most = record { lengths = []; calls = Grows-nil a.takes; small = tt }

-- a take had a buffer of at most so many bytes, whether it failed or not
pub one_asked : {T E : Type 0} (a b : SourceTold) (result : Result T E) (n most : ℕ) → IsListed a.takes b.takes result n → n ≤ most → AsksAtMost a b most
one_asked a b (Ok x) n most h le = record { lengths = n ∷ []; calls = h.done; small = (le, tt) }
one_asked a b (Err e) n most h le = record { lengths = []; calls = subst (λ (t : Option (List ℕ)). Grows a.takes t []) (sym h.failed) (Grows-nil a.takes); small = tt }

more_each : (most : ℕ) (xs ys : List ℕ) → Each (λ n. n ≤ most) xs → Each (λ n. n ≤ most) ys → Each (λ n. n ≤ most) (xs ++ ys)
more_each most [] ys h k = k
more_each most (x ∷ xs) ys h k = (h.0, more_each most xs ys h.1 k)

-- more takes
pub more_asked : (a b c : SourceTold) (most : ℕ) → AsksAtMost a b most → AsksAtMost b c most → AsksAtMost a c most
more_asked a b c most h k = record {
  lengths = h.lengths ++ k.lengths;
  calls = Grows-trans a.takes b.takes c.takes h.lengths k.lengths h.calls k.calls;
  small = more_each most h.lengths k.lengths h.small k.small;
}
