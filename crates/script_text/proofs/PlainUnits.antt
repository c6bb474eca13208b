-- A byte of a word that begins no escape stands for itself.
use Rattle.std.proofs.Common.{◌≡◌, ℕ, false, eqb, List, [], ◌∷◌, Ok, refl}
use Rattle.std.proofs.lemmas.Bool.{ne_eqb}
use Rattle.script_text.specs.Steps.{◌>>=◌}
use Rattle.script_text.specs.Words.{value_of}

front_is : (b : ℕ) (rest : List ℕ) → eqb b 37 ≡ false → value_of (b ∷ rest) ≡ (value_of rest >>= λ bs. Ok (b ∷ bs))
unfolding value_of
front_is b [] e = rw e refl
front_is b (h ∷ []) e = rw e refl
front_is b (h ∷ l ∷ rest) e = rw e refl

pub plain_unit : (bytes : List ℕ) (b : ℕ) (rest : List ℕ) → bytes ≡ b ∷ rest → (b ≡ 37 → ⊥) → value_of bytes ≡ (value_of rest >>= λ bs. Ok (b ∷ bs))
plain_unit bytes b rest e ne = rw e (front_is b rest (ne_eqb b 37 ne))
