-- A text, line by line.
use Rattle.script_text.specs.declared.script.TextKind.{TextKind}
use Rattle.std.proofs.Common.{◌≡◌, ℕ, ◌+◌, true, false, eqb, List, [], ◌∷◌, length, Result, Ok, Err, refl, sym, ◌∙◌}
use Rattle.std.specs.List.{slice_split}
use Rattle.vfs_path.proofs.Cuts.{split_some}
use Rattle.script_text.specs.declared.cause.Cause.{Cause}
use Rattle.script_text.specs.declared.cause.Cause.TheVariants.{NoLineEnd}
use Rattle.script_text.specs.declared.cause.BadLine.{BadLine}
use Rattle.script_text.specs.declared.script.Script.{Script}
use Rattle.script_text.specs.Steps.{◌>>=◌}
use Rattle.script_reader.specs.Reading.{after_line, after_parts, at_line}
use Rattle.script_text.specs.Grammar.{is_line_end}

-- a line, and what follows it
pub line_step : (kind : TextKind) (n : ℕ) (s : Script) (parts : List (List ℕ)) (line rest : List ℕ) → parts ≡ line ∷ slice_split is_line_end rest
    → after_parts kind n s parts ≡ (at_line n (after_line kind s line) >>= λ after. after_parts kind (n + 1) after (slice_split is_line_end rest))
unfolding after_parts
line_step kind n s parts line rest e =
    let c = split_some is_line_end rest in
    rw (e, c.2) refl

pub line_good : (kind : TextKind) (n : ℕ) (s now : Script) (parts : List (List ℕ)) (line rest : List ℕ) (total : Result Script BadLine) → parts ≡ line ∷ slice_split is_line_end rest → after_line kind s line ≡ Ok now
    → after_parts kind n s parts ≡ total → after_parts kind (n + 1) now (slice_split is_line_end rest) ≡ total
line_good kind n s now parts line rest total e good so_far =
    let one : after_parts kind n s parts ≡ after_parts kind (n + 1) now (slice_split is_line_end rest) = line_step kind n s parts line rest e ∙ rw good refl in
    sym one ∙ so_far

pub line_bad : (kind : TextKind) (n : ℕ) (s : Script) (cause : Cause) (parts : List (List ℕ)) (line rest : List ℕ) (total : Result Script BadLine) → parts ≡ line ∷ slice_split is_line_end rest → after_line kind s line ≡ Err cause
    → after_parts kind n s parts ≡ total → total ≡ Err (record { line = n; cause = cause })
line_bad kind n s cause parts line rest total e bad so_far =
    let one : after_parts kind n s parts ≡ Err (record { line = n; cause = cause }) = line_step kind n s parts line rest e ∙ rw bad refl in
    sym so_far ∙ one

-- what stands after the last line end
pub last_good : (kind : TextKind) (n : ℕ) (s : Script) (parts : List (List ℕ)) (last : List ℕ) (total : Result Script BadLine) → parts ≡ last ∷ [] → eqb (length last) 0 ≡ true → after_parts kind n s parts ≡ total → total ≡ Ok s
unfolding after_parts
last_good kind n s parts last total e empty so_far =
    let one : after_parts kind n s parts ≡ Ok s = rw (e, empty) refl in
    sym so_far ∙ one

pub last_bad : (kind : TextKind) (n : ℕ) (s : Script) (parts : List (List ℕ)) (last : List ℕ) (total : Result Script BadLine) → parts ≡ last ∷ [] → eqb (length last) 0 ≡ false → after_parts kind n s parts ≡ total
    → total ≡ Err (record { line = n; cause = NoLineEnd })
unfolding after_parts
last_bad kind n s parts last total e some so_far =
    let one : after_parts kind n s parts ≡ Err (record { line = n; cause = NoLineEnd }) = rw (e, some) refl in
    sym so_far ∙ one
