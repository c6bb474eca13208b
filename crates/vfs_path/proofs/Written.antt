-- The texts that are written for paths.
use Rattle.std.proofs.Common.{◌≡◌, ℕ, ◌+◌, ◌<◌, List, [], ◌∷◌, ◌++◌, length, get_or, take, refl, sym, ap, ◌∙◌, append_assoc}
use Rattle.std.proofs.lemmas.List.{append-nil, take_more}
use Rattle.vfs_model.specs.Paths.{Path}
use Rattle.vfs_path.specs.Texts.{slashed}

pub slashed-append : (x y : Path) → slashed (x ++ y) ≡ slashed x ++ slashed y
slashed-append [] y = refl
slashed-append (n ∷ x) y = ap (λ (t : List ℕ). 47 ∷ (n ++ t)) (slashed-append x y) ∙ ap (λ (t : List ℕ). 47 ∷ t) (sym (append_assoc n (slashed x) (slashed y)))

-- one name more is written
pub slashed_more : (path : Path) (i : ℕ) (d : List ℕ) → i < length path → slashed (take (i + 1) path) ≡ slashed (take i path) ++ 47 ∷ get_or path i d
slashed_more path i d lt =
    ap slashed (take_more path i d lt)
    ∙ slashed-append (take i path) (get_or path i d ∷ [])
    ∙ ap (λ (t : List ℕ). slashed (take i path) ++ 47 ∷ t) (append-nil (get_or path i d))

pub joined : (before done name : List ℕ) → ((before ++ done) ++ 47 ∷ []) ++ name ≡ before ++ (done ++ 47 ∷ name)
joined before done name = append_assoc (before ++ done) (47 ∷ []) name ∙ append_assoc before done (47 ∷ name)
