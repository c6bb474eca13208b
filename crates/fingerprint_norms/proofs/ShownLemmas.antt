-- Names joined to a text.
use Rattle.std.proofs.Common.{◌≡◌, ◌∙◌, suc, ◌-◌, ◌≤◌, [], ◌∷◌, ◌++◌, length, take, drop, get_or, slice_get, Some, sym, ap, arith, append-nil}
use Rattle.std.proofs.lemmas.List.{take_all}
use Rattle.vfs_model.specs.Paths.{Name, Path, last_name}
use Rattle.vfs_model.specs.Fingerprint.{joined}
use Rattle.vfs_path.specs.Texts.{slashed}

-- the first name, and a slash and a name for each of the others
pub joined-slashed : (n : Name) (path : Path) → joined (n ∷ path) ≡ n ++ slashed path
joined-slashed n [] = sym (append-nil n)
joined-slashed n (m ∷ path) = ap (λ l. n ++ 47 ∷ l) (joined-slashed m path)

-- the last of the names is at the end
pub last_name-at : (path : Path) (n : Name) → Some n ≡ slice_get path (length path - 1) → n ≡ last_name path
last_name-at [] n e = cc
last_name-at (m ∷ []) n e = cc
last_name-at (m ∷ k ∷ path) n e =
    let next : suc (suc (length path)) - 1 ≡ suc (suc (length path) - 1) = omega arith in
    last_name-at (k ∷ path) n (e ∙ ap (slice_get (m ∷ k ∷ path)) next)

-- the first name and those behind it
pub joined-parts : (path : Path) → 1 ≤ length path → get_or path 0 [] ++ slashed (take (length path - 1) (drop 1 path)) ≡ joined path
joined-parts [] h = absurd (omega arith)
joined-parts (n ∷ path) h = ap (λ l. n ++ slashed l) (take_all (suc (length path) - 1) path (omega arith)) ∙ sym (joined-slashed n path)
