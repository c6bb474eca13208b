-- The runs of a list, of so many elements each.
use Rattle.std.proofs.Common.{◌≡◌, ◌≤◌, ◌<◌, ◌+◌, ◌*◌, ◌/◌, ◌%◌, min, ℕ, List, length, map, take, drop, ◌++◌, sym, ap, ◌∙◌, arith}
use Rattle.std.proofs.lemmas.List.{take_all, map-append}
use Rattle.std.proofs.Math.Seq.{take-add}
use Rattle.std.proofs.Math.Nat.{div-add-mod, mod-lt}

-- the runs before i, and run i
pub map-run : {X Y : Type 0} (f : X → Y) (xs : List X) (i size : ℕ) → map f (take (i * size) xs) ++ map f (take size (drop (i * size) xs)) ≡ map f (take ((i + 1) * size) xs)
map-run f xs i size = sym (map-append f _ _) ∙ ap (map f) (sym (take-add (i * size) size xs) ∙ ap (λ n. take n xs) (omega arith))

-- all runs together are as long as the list
pub runs-cover : (n size : ℕ) → 0 < size → n ≤ (n / size + min 1 (n % size)) * size
runs-cover n size some = let whole = div-add-mod n size in let below = mod-lt n some in grind arith

-- all runs
pub map-runs : {X Y : Type 0} (f : X → Y) (xs : List X) (i size : ℕ) → 0 < size → length xs / size + min 1 (length xs % size) ≤ i → map f (take (i * size) xs) ≡ map f xs
map-runs f xs i size some all = let cover = runs-cover (length xs) size some in ap (map f) (take_all (i * size) xs (grind arith))
