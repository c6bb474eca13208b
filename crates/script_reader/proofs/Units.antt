-- Escapes in words.
use Rattle.std.proofs.Common.{◌≡◌, ℕ, ◌-◌, ◌<◌, ◌≤◌, List, [], ◌∷◌, length, get_or, take, drop, Option, Some, None, Result, Ok, Err, refl, sym, ap, arith}
use Rattle.std.proofs.lemmas.List.{take_all}
use Rattle.script_text.specs.declared.cause.Cause.{Cause}
use Rattle.script_text.specs.declared.cause.Cause.TheVariants.{BadEscape}
use Rattle.script_text.specs.Steps.{◌>>=◌}
use Rattle.script_text.specs.Words.{value_of, hex_of, hex_pair, named_before}

short : (rest : List ℕ) → length rest < 2 → value_of (37 ∷ rest) ≡ Err BadEscape
unfolding value_of
short [] h = refl
short (h ∷ []) lt = refl
short (h ∷ l ∷ rest) lt = absurd (omega arith)

pub short_escape : (bytes : List ℕ) (b : ℕ) (rest : List ℕ) → bytes ≡ b ∷ rest → b ≡ 37 → length rest < 2 → value_of bytes ≡ Err BadEscape
short_escape bytes b rest e is lt = rw (e, is) (short rest lt)

-- the two digits behind a `%`, and what follows them
abbrev pub escaped : List ℕ → Result (List ℕ) Cause
escaped rest = named_before (hex_pair (hex_of (get_or rest 0 0)) (hex_of (get_or rest 1 0))) (value_of (take (length rest - 2) (drop 2 rest)))

long : (rest : List ℕ) → 2 ≤ length rest → value_of (37 ∷ rest) ≡ escaped rest
unfolding value_of
long [] h = absurd (omega arith)
long (h ∷ []) le = absurd (omega arith)
long (h ∷ l ∷ rest) le =
    let all : take (length (h ∷ l ∷ rest) - 2) rest ≡ rest = take_all _ rest (omega arith) in
    ap (λ (r : List ℕ). named_before (hex_pair (hex_of h) (hex_of l)) (value_of r)) (sym all)

pub no_escape : (bytes : List ℕ) (b : ℕ) (rest : List ℕ) (o : Option ℕ) → bytes ≡ b ∷ rest → b ≡ 37 → 2 ≤ length rest → o ≡ hex_pair (hex_of (get_or rest 0 0)) (hex_of (get_or rest 1 0)) → o ≡ None → value_of bytes ≡ Err BadEscape
no_escape bytes b rest o e is le p none = rw (e, is, long rest le, ← p, none) refl

pub good_escape : (bytes : List ℕ) (b : ℕ) (rest : List ℕ) (o : Option ℕ) (n : ℕ) → bytes ≡ b ∷ rest → b ≡ 37 → 2 ≤ length rest → o ≡ hex_pair (hex_of (get_or rest 0 0)) (hex_of (get_or rest 1 0)) → o ≡ Some n
    → value_of bytes ≡ (value_of (take (length rest - 2) (drop 2 rest)) >>= λ bs. Ok (n ∷ bs))
good_escape bytes b rest o n e is le p some = rw (e, is, long rest le, ← p, some) refl
