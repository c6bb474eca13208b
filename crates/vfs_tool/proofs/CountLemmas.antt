-- The number of `gen N`: what std reads of a word that begins with a digit from 1 to 9.
use Rattle.std.proofs.Common.{◌≡◌, ℕ, ◌<◌, ◌≤◌, ◌^◌, true, List, length, get_or, Result, Ok, sym, ap, subst, ◌∙◌, arith}
use Rattle.std.specs.Int.{IsInRange}
use Rattle.std.specs.Result.{OkIff}
use Rattle.std.specs.Fmt.{decimal}
use Rattle.std.specs.Str.{all_ascii_digits}
use Rattle.std.specs.Str.Parse.{ParsesUnsigned}
use Rattle.std.proofs.lemmas.Fmt.{digits_decimal, decimal_nonempty, first_decimal, decimal-digits_value, parse-decimal}
use Rattle.std.proofs.lemmas.Str.Parse.{parse_plain, digit_at}
use Rattle.script_text.proofs.Digits.{own, read_on}
use Rattle.vfs_tool.specs.Forms.{IsCount}

-- the first digit of a number from 1 on is 1 to 9
first_digit : (n : ℕ) → 1 ≤ n → n ≤ 1000 → IsInRange 49 57 (get_or (decimal n) 0 0)
first_digit n low high =
    let all = own.to (decimal n) (digits_decimal own n (omega arith)) in
    let some = decimal_nonempty n (omega arith) in
    let digit = digit_at (decimal n) 0 all some in
    let first = first_decimal n (omega arith) (omega arith) in
    (omega arith, digit.1)

-- a word that begins otherwise is no number from 1 on
pub begins_otherwise : (word : List ℕ) (n : ℕ) → (IsInRange 49 57 (get_or word 0 0) → ⊥) → IsCount n word → ⊥
begins_otherwise word n other is =
    other (subst (λ (w : List ℕ). IsInRange 49 57 (get_or w 0 0)) (sym is.2) (first_digit n is.0 is.1))

-- what is read is the number whose digits the word is
pub read_is : {E : Type 0} (word : List ℕ) (n : ℕ) (r : Result ℕ E) → IsInRange 49 57 (get_or word 0 0) → ParsesUnsigned 64 10 word r → r ≡ Ok n → 1 ≤ n → n ≤ 1000 → IsCount n word
read_is {E} word n r begins parses is low high =
    let plain = parse_plain own 64 word r parses (λ e. let b = begins.0 in absurd (omega arith)) in
    let read = subst (λ (t : Result ℕ E). OkIff t ((all_ascii_digits word ≡ true) × (0 < length word) × (read_on 0 word < 2 ^ 64)) (read_on 0 word)) is plain in
    let back : decimal (read_on 0 word) ≡ word = decimal-digits_value own word read.0.0 read.0.1 (λ zero. let b = begins.0 in absurd (omega arith)) read.0.2 in
    (low, high, sym back ∙ ap decimal (sym read.1))

-- the digits of a number are read as that number
pub digits_read : {E : Type 0} (word : List ℕ) (n : ℕ) (r : Result ℕ E) → IsCount n word → ParsesUnsigned 64 10 word r → r ≡ Ok n
digits_read word n r is parses = let high = is.1 in parse-decimal 64 n word r (omega arith) (omega arith) is.2 parses

pub same_number : {E : Type 0} (r : Result ℕ E) (m n : ℕ) → r ≡ Ok m → r ≡ Ok n → m ≡ n
same_number r m n e f = cc
