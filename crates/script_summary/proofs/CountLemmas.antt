-- What the line of a build tells.
use Rattle.std.proofs.Common.{◌≡◌, ℕ, ◌+◌, ◌-◌, ◌*◌, ◌^◌, ◌<◌, false, eqb, List, [], ◌∷◌, ◌++◌, fold, refl, ap, ◌∙◌, append_assoc, lit<}
use Rattle.std.specs.Prelude.{codes}
use Rattle.std.specs.List.{slice_split}
use Rattle.std.specs.Fmt.{decimal}
use Rattle.std.proofs.lemmas.Fmt.{digits_value-decimal}
use Rattle.std.proofs.lemmas.List.Elements.{All-from_recursion}
use Rattle.std.proofs.lemmas.List.Splits.{slice_split_at, slice_split_none}
use Rattle.hex.specs.Hex.{encode_lower}
use Rattle.script_text.proofs.Digits.{own, read_on}
use Rattle.script_report.proofs.ApartLemmas.{Apart, number_apart, hex_apart}
use Rattle.script_summary.specs.Summary.{number_in}
use Rattle.script_report.specs.Lines.{Counts, build_text}
use Rattle.script_summary.specs.Laws.{Tells, AreNumbers}

-- ---- numbers

on_from : (n : ℕ) (cs : List ℕ) → fold (λ m digit. 10 * m + (digit - 48)) n cs ≡ read_on n cs
on_from n [] = refl
on_from n (c ∷ cs) = on_from (10 * n + (c - 48)) cs

number_again : (n : ℕ) → n < 2 ^ 64 → number_in (decimal n) ≡ n
number_again n lt = on_from 0 (decimal n) ∙ digits_value-decimal own n lt

-- ---- the words of a line

abbrev words : List ℕ → List (List ℕ)
words line = slice_split (λ b. eqb b 32) line

cut : (word rest : List ℕ) → Apart 32 word → words (word ++ 32 ∷ rest) ≡ word ∷ words rest
cut word rest h = slice_split_at (λ b. eqb b 32) word 32 rest (All-from_recursion (λ b. eqb b 32 ≡ false) word h) refl

last : (word : List ℕ) → Apart 32 word → words word ≡ word ∷ []
last word h = slice_split_none (λ b. eqb b 32) word (All-from_recursion (λ b. eqb b 32 ≡ false) word h)

-- a word and a count behind it
counted : (word : List ℕ) (n : ℕ) (rest : List ℕ) → Apart 32 word → words (word ++ 32 ∷ (decimal n ++ 32 ∷ rest)) ≡ word ∷ decimal n ∷ words rest
counted word n rest h = cut word (decimal n ++ 32 ∷ rest) h ∙ ap (λ (ws : List (List ℕ)). word ∷ ws) (cut (decimal n) rest (number_apart 32 n (lit< tt)))

counted_last : (word : List ℕ) (n : ℕ) → Apart 32 word → words (word ++ 32 ∷ decimal n) ≡ word ∷ decimal n ∷ []
counted_last word n h = cut word (decimal n) h ∙ ap (λ (ws : List (List ℕ)). word ∷ ws) (last (decimal n) (number_apart 32 n (lit< tt)))

-- the line from each of its counts on
abbrev from_reads : ℕ → List ℕ
from_reads r = codes "reads" ++ 32 ∷ decimal r

abbrev from_misses : ℕ → ℕ → List ℕ
from_misses m r = codes "misses" ++ 32 ∷ (decimal m ++ 32 ∷ from_reads r)

abbrev from_hits : ℕ → ℕ → ℕ → List ℕ
from_hits h m r = codes "hits" ++ 32 ∷ (decimal h ++ 32 ∷ from_misses m r)

regrouped : (digest : List ℕ) (k : Counts) → build_text k digest ≡ codes "build" ++ 32 ∷ (encode_lower digest ++ 32 ∷ from_hits k.hits k.misses k.reads)
regrouped digest k = simp append_assoc

built_words : (digest : List ℕ) (k : Counts)
    → words (build_text k digest) ≡ codes "build" ∷ encode_lower digest ∷ codes "hits" ∷ decimal k.hits ∷ codes "misses" ∷ decimal k.misses ∷ codes "reads" ∷ decimal k.reads ∷ []
built_words digest k =
    ap words (regrouped digest k)
    ∙ cut (codes "build") (encode_lower digest ++ 32 ∷ from_hits k.hits k.misses k.reads) (refl, (refl, (refl, (refl, (refl, tt)))))
    ∙ ap (λ (ws : List (List ℕ)). codes "build" ∷ ws) (cut (encode_lower digest) (from_hits k.hits k.misses k.reads) (hex_apart 32 digest (lit< tt) (lit< tt))
    ∙ ap (λ (ws : List (List ℕ)). encode_lower digest ∷ ws) (counted (codes "hits") k.hits (from_misses k.misses k.reads) (refl, (refl, (refl, (refl, tt))))
    ∙ ap (λ (ws : List (List ℕ)). codes "hits" ∷ decimal k.hits ∷ ws) (counted (codes "misses") k.misses (from_reads k.reads) (refl, (refl, (refl, (refl, (refl, (refl, tt))))))
    ∙ ap (λ (ws : List (List ℕ)). codes "misses" ∷ decimal k.misses ∷ ws) (counted_last (codes "reads") k.reads (refl, (refl, (refl, (refl, (refl, tt)))))))))

pub builds_tell : (digest : List ℕ) (k : Counts) → AreNumbers k → Tells (build_text k digest) k
builds_tell digest k numbers =
    let ws = built_words digest k in record {
      hits = rw ws (number_again k.hits numbers.hits);
      misses = rw ws (number_again k.misses numbers.misses);
      reads = rw ws (number_again k.reads numbers.reads);
    }
