-- Places at or above others, by their names.
use Rattle.std.proofs.Common.{◌≡◌, ◌∙◌, ◌≤◌, true, length, take, drop, sym, ap, arith, length-append}
use Rattle.std.proofs.Math.Seq.{take-append_seam}
use Rattle.vfs_model.specs.Paths.{Path, is_at_or_above}
use Rattle.vfs_laws.proofs.RetainedLemmas.{rest-is}

-- a place is no deeper than those at or below it
pub above-short : (p x : Path) → is_at_or_above p x ≡ true → length p ≤ length x
above-short p x h = omega (arith, ap length (rest-is p x h), length-append p (drop (length p) x))

-- it is the first of their names
pub above-front : (p x : Path) → is_at_or_above p x ≡ true → take (length p) x ≡ p
above-front p x h = ap (take (length p)) (sym (rest-is p x h)) ∙ take-append_seam p (drop (length p) x)
