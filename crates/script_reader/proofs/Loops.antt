-- What the loops keep: what was read, and what is left.
use Rattle.std.proofs.Common.{◌≡◌, ℕ, ◌+◌, List, [], ◌∷◌, ◌++◌, length, Option, Some, None, Result, Ok, Err, refl, sym, ap, ◌∙◌, append_assoc}
use Rattle.std.proofs.lemmas.List.{append-nil}
use Rattle.script_text.specs.declared.cause.Cause.{Cause}
use Rattle.script_reader.specs.declared.error.LineError.{LineError}
use Rattle.script_reader.specs.declared.error.LineError.TheVariants as errors
use Rattle.script_text.specs.Steps.{◌>>=◌, all_from}
use Rattle.script_reader.specs.Gives.{Fails}
use Rattle.script_text.specs.Words.{value_of, values_of}

-- how much is left to cut
abbrev pub left_len : Option (List ℕ) → ℕ
left_len None = 0
left_len (Some rest) = 1 + length rest

-- what was read before, and what is still read
abbrev pub with_front : {A : Type 0} → List A → Result (List A) Cause → Result (List A) Cause
with_front front read = read >>= λ xs. Ok (front ++ xs)

-- one more was read
pub moves_on : {A : Type 0} (front : List A) (x : A) (read : Result (List A) Cause) → with_front front (read >>= λ xs. Ok (x ∷ xs)) ≡ with_front (front ++ x ∷ []) read
moves_on front x (Ok xs) = ap (λ (ys : List _). Ok ys) (sym (append_assoc front (x ∷ []) xs))
moves_on front x (Err e) = refl

-- a fault of what is left is a fault of all
pub fails_on : {A : Type 0} (e : LineError) (front : List A) (read total : Result (List A) Cause) → Fails e read → with_front front read ≡ total → Fails e total
fails_on errors.NoMemory front read total h so_far = tt
fails_on (errors.Bad cause) front read total h so_far = sym so_far ∙ rw h refl

-- a word that is read, and one that is not
pub one_read : {X : Type 0} (one : List ℕ → Result X Cause) (front : List X) (word : List ℕ) (x : X) (parts more : List (List ℕ)) (total : Result (List X) Cause) → parts ≡ word ∷ more → one word ≡ Ok x
    → with_front front (all_from one parts) ≡ total → with_front (front ++ x ∷ []) (all_from one more) ≡ total
one_read one front word x parts more total e read so_far =
    let here : with_front front (all_from one parts) ≡ with_front (front ++ x ∷ []) (all_from one more) = rw (e, read) (moves_on front x (all_from one more)) in
    sym here ∙ so_far

pub one_fails : {X : Type 0} (one : List ℕ → Result X Cause) (e : LineError) (front : List X) (word : List ℕ) (parts more : List (List ℕ)) (total : Result (List X) Cause) → parts ≡ word ∷ more → Fails e (one word)
    → with_front front (all_from one parts) ≡ total → Fails e total
one_fails one errors.NoMemory front word parts more total p h so_far = tt
one_fails one (errors.Bad cause) front word parts more total p h so_far =
    let here : with_front front (all_from one parts) ≡ Err cause = rw (p, h) refl in
    sym so_far ∙ here

-- the same of the values of words
pub word_read : (front : List (List ℕ)) (word v : List ℕ) (parts more : List (List ℕ)) (total : Result (List (List ℕ)) Cause) → parts ≡ word ∷ more → value_of word ≡ Ok v
    → with_front front (values_of parts) ≡ total → with_front (front ++ v ∷ []) (values_of more) ≡ total
unfolding values_of
word_read = one_read value_of

pub word_fails : (e : LineError) (front : List (List ℕ)) (word : List ℕ) (parts more : List (List ℕ)) (total : Result (List (List ℕ)) Cause) → parts ≡ word ∷ more → Fails e (value_of word)
    → with_front front (values_of parts) ≡ total → Fails e total
unfolding values_of
word_fails = one_fails value_of

pub words_done : (front : List (List ℕ)) (total : Result (List (List ℕ)) Cause) → with_front front (values_of []) ≡ total → total ≡ Ok front
unfolding values_of
words_done front total so_far = sym so_far ∙ ap (λ (ws : List (List ℕ)). Ok ws) (append-nil front)
