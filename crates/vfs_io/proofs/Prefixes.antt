-- Prefixes of lists that are taken and appended.
use Rattle.std.proofs.Common.{◌≡◌, ℕ, ◌+◌, ◌-◌, ◌<◌, List, [], ◌++◌, length, take, drop, min, Option, sym, arith}
use Rattle.std.proofs.lemmas.List.{length-take, take-append-drop, take_at, drop-drop, length-drop, length-append, nil_from_length, take_all}
use Rattle.std.proofs.Math.Seq.{take-add}
use Rattle.std.proofs.KnownBytes.{Appends-trans}
use Rattle.std.specs.Io.KnownBytes.{Appends}

-- what follows the first m elements, cut to its own length
rest_whole : (m : ℕ) (xs : List ℕ) → take (length xs - m) (drop m xs) ≡ drop m xs
rest_whole m xs = take_all (length xs - m) (drop m xs) (omega (arith, length-drop m xs))

-- a write of the rest of a piece appends what follows the prefix that was appended
pub Appends-more : (a b c : Option (List ℕ)) (m n : ℕ) (piece : List ℕ) → Appends a b (take m piece) → Appends b c (take n (take (length piece - m) (drop m piece))) → Appends a c (take (m + n) piece)
Appends-more a b c m n piece p q =
    let r : Appends b c (take n (drop m piece)) = rw (← rest_whole m piece) q in
    rw (take-add m n piece) (Appends-trans a b c (take m piece) (take n (drop m piece)) p r)

-- the first n elements that are left went into the front of the buffer
prefix_moved : (left buf copy : List ℕ) (n : ℕ) → copy ≡ take n left → length copy ≡ n → left ≡ take n (copy ++ drop n buf) ++ drop n left
prefix_moved left buf copy n e len = rw (take_at copy (drop n buf) n len, e) (sym (take-append-drop n left))

-- none went there only where none was left
none_left : (left buf copy : List ℕ) (n : ℕ) → n ≡ min (length buf) (length left) → length copy ≡ n → n ≡ 0 → 0 < length (copy ++ drop n buf) → drop n left ≡ []
none_left left buf copy n most len none some =
    nil_from_length (drop n left) (omega (arith, length-append copy (drop n buf), length-drop n buf, length-drop n left))

-- a take of the bytes after the first m moves as many as fit into the front of the buffer
pub prefix_taken : (bytes buf copy : List ℕ) (m n : ℕ) → copy ≡ take n (take (length bytes - m) (drop m bytes)) → n ≡ min (length buf) (length (take (length bytes - m) (drop m bytes)))
    → (drop m bytes ≡ take n (copy ++ drop n buf) ++ drop (m + n) bytes) × (n ≡ 0 → 0 < length (copy ++ drop n buf) → drop (m + n) bytes ≡ [])
prefix_taken bytes buf copy m n e most =
    let left = drop m bytes in
    let moved : copy ≡ take n left = rw (← rest_whole m bytes) e in
    let fits : n ≡ min (length buf) (length left) = rw (← rest_whole m bytes) most in
    let len : length copy ≡ n = rw moved (omega (arith, length-take n left)) in
    rw (← drop-drop n m bytes) (prefix_moved left buf copy n moved len, none_left left buf copy n fits len)
