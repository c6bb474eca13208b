-- One line that sums up what a script prints.
use Rattle.std.specs.Prelude.{ℕ, ◌+◌, ◌-◌, ◌*◌, List, [], ◌∷◌, ◌++◌, Bool, ◌==◌, codes, slice_index_or, fold, if◌then◌else◌}
use Rattle.std.specs.List.{slice_split, sum_by, count_by}
use Rattle.std.specs.Fmt.{decimal}
use Rattle.std.specs.Str.{bytes_eq}
use Rattle.hex.specs.Hex.{encode_lower}
use Rattle.vfs_model.specs.World.{digest_of_bytes}

-- ---- what a line tells

-- the number that the digits stand for
abbrev pub number_in : List ℕ → ℕ
number_in digits = fold (λ n digit. 10 * n + (digit - 48)) 0 digits

-- the word of the line with this place, from 0 on; empty where the line has fewer
abbrev pub word_at : ℕ → List ℕ → List ℕ
word_at place line = slice_index_or (slice_split (λ b. b == 32) line) place []

-- the line is that of a build
abbrev pub is_build : List ℕ → Bool
is_build line = bytes_eq (word_at 0 line) (codes "build")

-- the number that the line of a build, `build HEX hits H misses M reads R`, has at this place; every other line counts nothing
abbrev pub counted_at : ℕ → List ℕ → ℕ
counted_at place line = if is_build line then number_in (word_at place line) else 0

-- the hits of a line
abbrev pub hits_in : List ℕ → ℕ
hits_in line = counted_at 3 line

-- its misses
abbrev pub misses_in : List ℕ → ℕ
misses_in line = counted_at 5 line

-- its reads
abbrev pub reads_in : List ℕ → ℕ
reads_in line = counted_at 7 line

-- ---- what all lines tell

-- the byte ends a line
abbrev pub ends_line : ℕ → Bool
ends_line b = b == 10

-- how many lines are ended in the text
abbrev pub count_lines : List ℕ → ℕ
count_lines text = count_by ends_line text

-- the sum over the lines of the text
abbrev pub over_lines : (List ℕ → ℕ) → List ℕ → ℕ
over_lines count text = sum_by count (slice_split ends_line text)

-- what is printed of a report: its lines, the hits, misses and reads of its builds, and its MD5
abbrev pub summary_of : List ℕ → List ℕ
summary_of report =
    codes "lines " ++ decimal (count_lines report)
    ++ codes " hits " ++ decimal (over_lines hits_in report)
    ++ codes " misses " ++ decimal (over_lines misses_in report)
    ++ codes " reads " ++ decimal (over_lines reads_in report)
    ++ codes " md5 " ++ encode_lower (digest_of_bytes report) ++ 10 ∷ []
