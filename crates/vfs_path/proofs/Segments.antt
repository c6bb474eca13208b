-- The segments of the text of a path.
use Rattle.std.proofs.Common.{◌≡◌, ◌⊎◌, ℕ, zero, suc, ◌+◌, ◌<◌, ◌≤◌, Bool, true, false, not, cond, ltb, List, [], ◌∷◌, ◌++◌, length, get_or, take, drop, Option, Some, None, refl, arith, inl, inr, length-drop}
use Rattle.std.specs.List.{list_all, slice_split, onto_first, position_or_len, AllByRecursion as Each}
use Rattle.std.specs.Str.{IsUtf8, is_utf8}
use Rattle.std.proofs.lemmas.Bool.{and_parts, and_from, cases_lt, eqb-true, not-false, not_from_false, leb-false, ltb-false}
use Rattle.std.proofs.lemmas.List.Splits.{slice_split_first}
use Rattle.std.proofs.lemmas.List.Sums.{prefix_len_stops}
use Rattle.std.proofs.lemmas.Str.{IsUtf8-take, IsUtf8-drop, IsUtf8-from_is_utf8, is_utf8-from_IsUtf8, IsCharBoundary-before_ascii, IsCharBoundary-after_ascii}
use Rattle.vfs_path.specs.declared.error.PathError.{PathError}
use Rattle.vfs_path.specs.Texts.{has_path_bytes, stands_in_path, stands_in_name, is_slash, is_empty, is_dots, IsName, IsPath, spelling_refusals, first_refusal, or_refusal, segments_refusal}
use Rattle.vfs_path.proofs.Cuts.{split_none}

-- ---- what all segments of a text have

-- the bytes may stand in a name, and they are UTF-8
pub record IsSpelled (segment : List ℕ) : Type 0 where
  pub bytes : list_all stands_in_name segment ≡ true
  pub utf8 : is_utf8 segment ≡ true

abbrev Stands : List ℕ → Type 0
Stands segment = list_all stands_in_name segment ≡ true

onto_stands : (b : ℕ) (parts : List (List ℕ)) → stands_in_name b ≡ true → Each Stands parts → Each Stands (onto_first b parts)
onto_stands b [] h k = (and_from _ _ h refl, tt)
onto_stands b (part ∷ parts) h k = (and_from _ _ h k.0, k.1)

parts_stand : (text : List ℕ) → list_all stands_in_path text ≡ true → Each Stands (slice_split is_slash text)
parts_stand [] h = (refl, tt)
parts_stand (b ∷ text) h =
    let parts = and_parts (stands_in_path b) (list_all stands_in_path text) h in
    cut (is_slash b) refl parts.0 (slice_split is_slash text) (parts_stand text parts.1)
  where
    cut : (s : Bool) → is_slash b ≡ s → stands_in_path b ≡ true → (parts : List (List ℕ)) → Each Stands parts → Each Stands (cond s ([] ∷ parts) (onto_first b parts))
    cut true e h parts k = (refl, k)
    cut false e h parts k = onto_stands b parts (and_from _ _ h (not_from_false _ e)) k

slash_at : (text : List ℕ) → position_or_len is_slash text < length text → get_or text (position_or_len is_slash text) 0 ≡ 47
slash_at text lt = eqb-true _ _ (not-false _ (prefix_len_stops (λ b. not (is_slash b)) text 0 lt))

-- a text that is cut at a byte of ASCII stays UTF-8 on both sides
front_utf8 : (text : List ℕ) (i : ℕ) → IsUtf8 text → i < length text → get_or text i 0 ≡ 47 → IsUtf8 (take i text)
front_utf8 text i utf8 lt e = IsUtf8-take text i utf8 (IsCharBoundary-before_ascii text i lt (omega arith))

back_utf8 : (text : List ℕ) (i : ℕ) → IsUtf8 text → i < length text → get_or text i 0 ≡ 47 → IsUtf8 (drop (i + 1) text)
back_utf8 text i utf8 lt e = IsUtf8-drop text (i + 1) utf8 (IsCharBoundary-after_ascii text i utf8 lt (omega arith))

-- the cut at the first slash, where there is one, given what holds of shorter texts
cut_utf8 : (text : List ℕ) → IsUtf8 text → ((rest : List ℕ) → length rest < length text → IsUtf8 rest → Each IsUtf8 (slice_split is_slash rest))
    → (position_or_len is_slash text < length text) ⊎ (length text ≤ position_or_len is_slash text) → Each IsUtf8 (slice_split is_slash text)
cut_utf8 text utf8 shorter (inr le) = rw (split_none is_slash text le) (utf8, tt)
cut_utf8 text utf8 shorter (inl lt) =
    let i = position_or_len is_slash text in
    let at = slash_at text lt in
    let less : length (drop (position_or_len is_slash text + 1) text) < length text = omega (arith, length-drop (position_or_len is_slash text + 1) text) in
    rw (slice_split_first is_slash text 0 lt) (front_utf8 text i utf8 lt at, shorter (drop (i + 1) text) less (back_utf8 text i utf8 lt at))

parts_utf8 : (n : ℕ) (text : List ℕ) → length text < n → IsUtf8 text → Each IsUtf8 (slice_split is_slash text)
parts_utf8 zero text h utf8 = absurd (omega arith)
parts_utf8 (suc n) text h utf8 = cut_utf8 text utf8 (λ rest less u. parts_utf8 n rest (omega arith) u) (cases_lt (position_or_len is_slash text) (length text))

both_spelled : (parts : List (List ℕ)) → Each Stands parts → Each IsUtf8 parts → Each IsSpelled parts
both_spelled [] h k = tt
both_spelled (part ∷ parts) h k = (record { bytes = h.0; utf8 = is_utf8-from_IsUtf8 part k.0 }, both_spelled parts h.1 k.1)

-- the segments of a text whose bytes may stand in the text of a path
pub parts_spelled : (text : List ℕ) → has_path_bytes text ≡ true → Each IsSpelled (slice_split is_slash text)
parts_spelled text h =
    let parts = and_parts _ _ h in
    both_spelled (slice_split is_slash text) (parts_stand text parts.0) (parts_utf8 (suc (length text)) text (omega arith) (IsUtf8-from_is_utf8 text parts.1))

-- what follows the first slash
pub rest_bytes : (text rest : List ℕ) → text ≡ 47 ∷ rest → has_path_bytes text ≡ true → has_path_bytes rest ≡ true
rest_bytes text rest e h =
    let parts = and_parts (list_all stands_in_path rest) (is_utf8 (47 ∷ rest)) (rw e at h) in
    and_from _ _ parts.0 (is_utf8-from_IsUtf8 rest (back_utf8 (47 ∷ rest) 0 (IsUtf8-from_is_utf8 (47 ∷ rest) parts.1) (omega arith) refl))

-- ---- segments against which nothing is said

pub or_none : (a b : Option PathError) → or_refusal a b ≡ None → (a ≡ None) × (b ≡ None)
or_none None b e = (refl, e)
or_none (Some x) b e = absurd cc

pub chosen_none : {A : Type 0} (t : Bool) (x : A) (other : Option A) → cond t (Some x) other ≡ None → (t ≡ false) × (other ≡ None)
chosen_none true x other e = absurd cc
chosen_none false x other e = (refl, e)

-- a spelling against which nothing is said is that of a name
pub name_from_spelling : (segment : List ℕ) → IsSpelled segment → first_refusal (spelling_refusals segment) ≡ None → IsName segment
name_from_spelling segment spelled e =
    let a = chosen_none (is_empty segment) _ _ e in
    let b = chosen_none (is_dots segment) _ _ a.1 in
    let c = chosen_none (ltb 255 (length segment)) _ _ b.1 in
    record { some = a.0; short = ltb-false 255 (length segment) c.0; bytes = spelled.bytes; utf8 = spelled.utf8; other = b.0 }

-- and segments against which nothing is said are the names of a path
pub names_from_segments : (before : ℕ) (segments : List (List ℕ)) → before ≤ 64 → Each IsSpelled segments → segments_refusal before segments ≡ None → (before + length segments ≤ 64) × Each IsName segments
names_from_segments before [] le h e = (omega arith, tt)
names_from_segments before (segment ∷ more) le h e =
    let a = or_none _ _ e in
    let b = chosen_none _ _ _ a.0 in
    let lt : before < 64 = leb-false 64 before b.0 in
    let rest = names_from_segments (before + 1) more (omega arith) h.1 a.1 in
    (omega (arith, rest.0), (name_from_spelling segment h.0 b.1, rest.1))

pub path_from_segments : (segments : List (List ℕ)) → Each IsSpelled segments → segments_refusal 0 segments ≡ None → IsPath segments
path_from_segments segments h e =
    let all = names_from_segments 0 segments (omega arith) h e in
    record { short = omega (arith, all.0); names = all.1 }

-- what follows the first slash of a text is the text of a path where nothing is said against it
pub path_from_rest : (text rest : List ℕ) → text ≡ 47 ∷ rest → has_path_bytes text ≡ true → segments_refusal 0 (slice_split is_slash rest) ≡ None → IsPath (slice_split is_slash rest)
path_from_rest text rest e bytes unsaid = path_from_segments _ (parts_spelled rest (rest_bytes text rest e bytes)) unsaid

-- ---- the walk along the segments

-- how much is left to cut
abbrev pub left_length : Option (List ℕ) → ℕ
left_length None = 0
left_length (Some rest) = 1 + length rest

-- the names so far and the names that are left are all names of the text
pub record IsBetween (names left all : List (List ℕ)) : Type 0 where
  pub both : names ++ left ≡ all
  pub each : Each IsName left
