-- Raised numbers.
use Rattle.std.proofs.Common.{◌≡◌, ℕ, ◌+◌, List, [], ◌∷◌, ◌++◌, sym, ap, ◌∙◌, subst}
use Rattle.vfs_model.specs.declared.Case.{Case}
use Rattle.vfs_model.specs.Paths.{Path, place}
use Rattle.vfs_model.specs.Stands.{StandsFor}
use Rattle.tree_model.specs.Numbers.{Numbers, at_in, raise, IsSorted}
use Rattle.tree_model.proofs.NumbersLemmas.{raise-sorted, stands-raised}

pub sorted-of : (case : Case) (old new : Numbers) (count : ℕ) (names : Path) → new ≡ raise case old names (count + 1) → IsSorted case old → IsSorted case new
sorted-of case old new count names e h = subst (IsSorted case) (sym e) (raise-sorted case old names (count + 1) h)

pub stands-of : (case : Case) (old new : Numbers) (count : ℕ) (names path : Path) → names ≡ path → new ≡ raise case old names (count + 1)
    → (past : List Path) → StandsFor (at_in case old) count past → StandsFor (at_in case new) (count + 1) (past ++ place case path ∷ [])
stands-of case old new count names path n e past s =
    subst (λ numbers. StandsFor (at_in case numbers) (count + 1) (past ++ place case path ∷ [])) (sym (e ∙ ap (λ p. raise case old p (count + 1)) n))
    (stands-raised case old count past path s)
