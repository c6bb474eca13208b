-- What the definitions of this crate come to.
use Rattle.std.specs.Prelude.{◌≡◌, ℕ, ◌+◌, ◌*◌, ◌^◌, ◌<◌, List, length}
use Rattle.script_report.specs.Lines.{Counts, build_text}
use Rattle.script_summary.specs.Generated.{generated}
use Rattle.script_summary.specs.Summary.{hits_in, misses_in, reads_in}

-- nine lines for each directory, and four
abbrev pub HasNineLinesEach : ℕ → Type 0
HasNineLinesEach n = length (generated n).lines ≡ 9 * n + 4

-- the line tells these counts
pub record Tells (line : List ℕ) (counts : Counts) : Type 0 where
  pub hits : hits_in line ≡ counts.hits
  pub misses : misses_in line ≡ counts.misses
  pub reads : reads_in line ≡ counts.reads

-- each of the counts is a number of 64 bits
pub record AreNumbers (counts : Counts) : Type 0 where
  pub hits : counts.hits < 2 ^ 64
  pub misses : counts.misses < 2 ^ 64
  pub reads : counts.reads < 2 ^ 64

-- the line of a build tells the counts that it is written with
abbrev pub BuildsTell : Type 0
BuildsTell = (digest : List ℕ) (counts : Counts) → AreNumbers counts → Tells (build_text counts digest) counts
