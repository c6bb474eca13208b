-- The lines of a generated script.
use Rattle.std.proofs.Common.{◌≡◌, ℕ, zero, suc, ◌+◌, ◌*◌, List, [], ◌∷◌, ◌++◌, length, map, refl, sym, ap, ◌∙◌, arith, length-append, append_assoc, append-nil, add-one, zero-add}
use Rattle.std.specs.Prelude.{codes}
use Rattle.std.specs.List.{flat_map, range_with_len, AllByRecursion as Each}
use Rattle.std.proofs.lemmas.List.Concat.{flat_map-append}
use Rattle.std.proofs.lemmas.List.FromFn.{map-range_with_len_more}
use Rattle.world_model.specs.declared.edit.Edit.{Edit as EditValue}
use Rattle.world_model.specs.declared.edit.Edit.TheVariants.{Write, Mkdir}
use Rattle.script_text.specs.declared.script.Command.TheVariants.{Edit}
use Rattle.script_text.specs.declared.script.Line.{Line}
use Rattle.script_summary.specs.Generated.{directory_at, file_at, content_at, line, file_line, directory_lines, build_line, build_lines, generated}

-- ---- one line and one directory more

pub file-more : (old lines new : List Line) (x : Line) (d i : ℕ) → lines ≡ old ++ map (file_line d) (range_with_len 0 i) → new ≡ lines ++ x ∷ [] → x ≡ file_line d i
    → new ≡ old ++ map (file_line d) (range_with_len 0 (i + 1))
file-more old lines new x d i before is same =
    is
    ∙ ap (λ (ls : List Line). ls ++ x ∷ []) before
    ∙ append_assoc old (map (file_line d) (range_with_len 0 i)) (x ∷ [])
    ∙ ap (λ (y : Line). old ++ (map (file_line d) (range_with_len 0 i) ++ y ∷ [])) same
    ∙ ap (λ (ls : List Line). old ++ ls) (sym (map-range_with_len_more (file_line d) 0 i i (zero-add i)))

range-more : (a n : ℕ) → range_with_len a (suc n) ≡ range_with_len a n ++ (a + n) ∷ []
range-more a zero = let same : a ≡ a + 0 = omega arith in ap (λ (k : ℕ). k ∷ []) same
range-more a (suc n) =
    let same : a + 1 + n ≡ a + suc n = omega arith in
    ap (λ (ks : List ℕ). a ∷ ks) (range-more (a + 1) n ∙ ap (λ (k : ℕ). range_with_len (a + 1) n ++ k ∷ []) same)

pub directory-more : (n : ℕ) → flat_map directory_lines (range_with_len 0 (n + 1)) ≡ flat_map directory_lines (range_with_len 0 n) ++ directory_lines n
directory-more n =
    ap (λ (k : ℕ). flat_map directory_lines (range_with_len 0 k)) (add-one n)
    ∙ ap (λ (ks : List ℕ). flat_map directory_lines ks) (range-more 0 n)
    ∙ flat_map-append directory_lines (range_with_len 0 n) ((0 + n) ∷ [])
    ∙ ap (λ (k : ℕ). flat_map directory_lines (range_with_len 0 n) ++ (directory_lines k ++ [])) (zero-add n)
    ∙ ap (λ (ls : List Line). flat_map directory_lines (range_with_len 0 n) ++ ls) (append-nil (directory_lines n))

-- ---- how many lines there are

length-directories : (a n : ℕ) → length (flat_map directory_lines (range_with_len a n)) ≡ 9 * n
length-directories a zero = refl
length-directories a (suc n) =
    omega (arith, length-append (directory_lines a) (flat_map directory_lines (range_with_len (a + 1) n)), length-directories (a + 1) n)

pub length-generated : (n : ℕ) → length (generated n).lines ≡ 9 * n + 4
length-generated n =
    omega (arith, length-append (flat_map directory_lines (range_with_len 0 n)) build_lines, length-directories 0 n)

-- ---- what holds of each line

each_append : {A : Type 0} (P : A → Type 0) (xs ys : List A) → Each P xs → Each P ys → Each P (xs ++ ys)
each_append P [] ys h k = k
each_append P (x ∷ xs) ys h k = (h.0, each_append P xs ys h.1 k)

each_file : (P : Line → Type 0) → ((edit : EditValue) → P (line (Edit edit))) → (i a n : ℕ) → Each P (map (file_line i) (range_with_len a n))
each_file P edits i a zero = tt
each_file P edits i a (suc n) = (edits (Write (file_at i a) (content_at i a)), each_file P edits i (a + 1) n)

each_directory : (P : Line → Type 0) → ((edit : EditValue) → P (line (Edit edit))) → (a n : ℕ) → Each P (flat_map directory_lines (range_with_len a n))
each_directory P edits a zero = tt
each_directory P edits a (suc n) =
    each_append P (directory_lines a) (flat_map directory_lines (range_with_len (a + 1) n)) (edits (Mkdir (directory_at a)), each_file P edits a 0 8) (each_directory P edits (a + 1) n)

-- what holds of every edit and of the build holds of each line
pub each-generated : (P : Line → Type 0) → ((edit : EditValue) → P (line (Edit edit))) → P build_line → (n : ℕ) → Each P (generated n).lines
each-generated P edits build n =
    each_append P (flat_map directory_lines (range_with_len 0 n)) build_lines (each_directory P edits 0 n) (build, (build, (edits (Write (file_at 0 0) (codes "new")), (build, tt))))
