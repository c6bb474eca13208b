-- Steps that may fail, one after the other.
use Rattle.std.specs.Prelude.{ℕ, List, [], ◌∷◌, Result, Ok, Err}

-- the next step, unless an earlier one failed
infixl 10 ◌>>=◌
abbrev pub ◌>>=◌ : {A B E : Type 0} → Result A E → (A → Result B E) → Result B E
(Ok x) >>= f = f x
(Err e) >>= f = Err e

-- what each of the words gives, from left to right, up to the first that fails
abbrev pub all_from : {X E : Type 0} → (List ℕ → Result X E) → List (List ℕ) → Result (List X) E
all_from one [] = Ok []
all_from one (w ∷ ws) = one w >>= λ x. all_from one ws >>= λ xs. Ok (x ∷ xs)
