-- Each path has one text, and each text of a path one path.
use Rattle.std.proofs.Common.{◌≡◌, ℕ, ◌+◌, ◌<◌, ◌≤◌, Bool, true, false, not, cond, List, [], ◌∷◌, ◌++◌, length, Option, Some, None, Ok, refl, sym, ap, ◌∙◌, arith}
use Rattle.std.specs.List.{list_all, slice_split, onto_first, AllByRecursion as Each}
use Rattle.std.specs.Str.{IsUtf8, is_utf8, chars}
use Rattle.std.proofs.lemmas.Bool.{and_parts, and_from, not-true, not-false, eqb-true, lt-leb, le-ltb, false≢true}
use Rattle.std.proofs.lemmas.List.{append-nil}
use Rattle.std.proofs.lemmas.List.Folds.{list_all-append}
use Rattle.std.proofs.lemmas.List.Splits.{slice_split-cons_no}
use Rattle.std.proofs.lemmas.Str.{IsUtf8-nil, IsUtf8-append, IsUtf8-from_is_utf8, is_utf8-from_IsUtf8}
use Rattle.vfs_model.specs.Paths.{Path}
use Rattle.vfs_path.specs.declared.error.PathError.{PathError}
use Rattle.vfs_path.specs.Texts.{stands_in_path, stands_in_name, has_path_bytes, is_slash, IsName, IsPath, slashed, path_text, is_absolute, segments, segment_refusal, segments_refusal, unless, path_of}
use Rattle.vfs_path.proofs.Cuts.{split_some}
use Rattle.vfs_path.proofs.Segments.{or_none, chosen_none, parts_spelled, path_from_segments, rest_bytes}

-- ---- what a text of a path is

pub record IsTextOf (text : List ℕ) (path : Path) : Type 0 where
  pub absolute : is_absolute text ≡ true
  pub bytes : has_path_bytes text ≡ true
  pub parts : segments text ≡ path
  pub refusal : segments_refusal 0 (segments text) ≡ None

unless_ok : {A : Type 0} (r : Option PathError) (a b : A) → unless r a ≡ Ok b → (r ≡ None) × (a ≡ b)
unless_ok None a b e = (refl, cc)
unless_ok (Some x) a b e = absurd cc

pub text_of : (text : List ℕ) (path : Path) → path_of text ≡ Ok path → IsTextOf text path
text_of text path e =
    let a = unless_ok _ _ _ e in
    let b = or_none _ _ a.0 in
    let c = chosen_none (not (is_absolute text)) _ _ b.0 in
    let d = chosen_none (not (has_path_bytes text)) _ _ c.1 in
    record { absolute = not-false _ c.0; bytes = not-false _ d.0; parts = a.1; refusal = b.1 }

pub text_is_read : (text : List ℕ) (path : Path) → IsTextOf text path → path_of text ≡ Ok path
text_is_read text path h = rw (h.absolute, h.bytes, h.refusal, h.parts) refl

-- ---- a text of a path is the one that is written

slashed-split : (text : List ℕ) → slashed (slice_split is_slash text) ≡ 47 ∷ text
slashed-split [] = refl
slashed-split (b ∷ text) = cut (is_slash b) refl (slice_split is_slash text) (slashed-split text)
  where
    cut : (s : Bool) → is_slash b ≡ s → (parts : List (List ℕ)) → slashed parts ≡ 47 ∷ text → slashed (cond s ([] ∷ parts) (onto_first b parts)) ≡ 47 ∷ b ∷ text
    cut true e parts h = ap (λ (t : List ℕ). 47 ∷ t) h ∙ ap (λ (x : ℕ). 47 ∷ x ∷ text) (sym (eqb-true b 47 e))
    cut false e [] h = absurd cc
    cut false e (part ∷ parts) h = let rest : part ++ slashed parts ≡ text = cc in ap (λ (t : List ℕ). 47 ∷ b ∷ t) rest

path_text-split : (text : List ℕ) → path_text (slice_split is_slash text) ≡ 47 ∷ text
path_text-split text = let s = split_some is_slash text in ap path_text s.2 ∙ sym (ap slashed s.2) ∙ slashed-split text

text_again : (text : List ℕ) → is_absolute text ≡ true → path_text (segments text) ≡ text
text_again [] e = absurd (false≢true e)
text_again (b ∷ []) e = ap (λ (x : ℕ). x ∷ []) (sym (eqb-true b 47 e))
text_again (b ∷ c ∷ text) e = path_text-split (c ∷ text) ∙ ap (λ (x : ℕ). x ∷ c ∷ text) (sym (eqb-true b 47 e))

pub path_text-from_text : (text : List ℕ) (path : Path) → path_of text ≡ Ok path → path_text path ≡ text
path_text-from_text text path e =
    let h = text_of text path e in
    ap path_text (sym h.parts) ∙ text_again text h.absolute

-- ---- and what is read from it is a path

segments_path : (text : List ℕ) → has_path_bytes text ≡ true → is_absolute text ≡ true → segments_refusal 0 (segments text) ≡ None → IsPath (segments text)
segments_path [] bytes e none = record { short = omega arith; names = tt }
segments_path (b ∷ []) bytes e none = record { short = omega arith; names = tt }
segments_path (b ∷ c ∷ text) bytes e none =
    let rest = rest_bytes (b ∷ c ∷ text) (c ∷ text) (ap (λ (x : ℕ). x ∷ c ∷ text) (eqb-true b 47 e)) bytes in
    path_from_segments (slice_split is_slash (c ∷ text)) (parts_spelled (c ∷ text) rest) none

pub IsPath-from_text : (text : List ℕ) (path : Path) → path_of text ≡ Ok path → IsPath path
IsPath-from_text text path e =
    let h = text_of text path e in
    rw (← h.parts) (segments_path text h.bytes h.absolute h.refusal)

-- ---- the text that is written for a path is one of the path

not_slash : (b : ℕ) → stands_in_name b ≡ true → is_slash b ≡ false
not_slash b h = let parts = and_parts (stands_in_path b) (not (is_slash b)) h in not-true _ parts.1

-- a name is cut off at the slash behind it
split-name : (name : List ℕ) → list_all stands_in_name name ≡ true → (rest : List ℕ) → slice_split is_slash (name ++ 47 ∷ rest) ≡ name ∷ slice_split is_slash rest
split-name [] h rest = refl
split-name (b ∷ name) h rest =
    let parts = and_parts (stands_in_name b) (list_all stands_in_name name) h in
    slice_split-cons_no is_slash b (name ++ 47 ∷ rest) (not_slash b parts.0) ∙ ap (onto_first b) (split-name name parts.1 rest)

split-last : (name : List ℕ) → list_all stands_in_name name ≡ true → slice_split is_slash name ≡ name ∷ []
split-last [] h = refl
split-last (b ∷ name) h =
    let parts = and_parts (stands_in_name b) (list_all stands_in_name name) h in
    slice_split-cons_no is_slash b name (not_slash b parts.0) ∙ ap (onto_first b) (split-last name parts.1)

split-slashed : (name : List ℕ) (path : Path) → IsName name → Each IsName path → slice_split is_slash (name ++ slashed path) ≡ name ∷ path
split-slashed name [] h more = rw (append-nil name) (split-last name h.bytes)
split-slashed name (m ∷ path) h more = split-name name h.bytes (m ++ slashed path) ∙ ap (λ (p : Path). name ∷ p) (split-slashed m path more.0 more.1)

segments-path_text : (path : Path) → Each IsName path → segments (path_text path) ≡ path
segments-path_text [] h = refl
segments-path_text ([] ∷ path) h = absurd (false≢true (sym h.0.some))
segments-path_text ((b ∷ name) ∷ path) h = split-slashed (b ∷ name) path h.0 h.1

name_stands : (name : List ℕ) → list_all stands_in_name name ≡ true → list_all stands_in_path name ≡ true
name_stands [] h = refl
name_stands (b ∷ name) h =
    let parts = and_parts (stands_in_name b) (list_all stands_in_name name) h in
    let here = and_parts (stands_in_path b) (not (is_slash b)) parts.0 in
    and_from _ _ here.0 (name_stands name parts.1)

slashed_stands : (path : Path) → Each IsName path → list_all stands_in_path (slashed path) ≡ true
slashed_stands [] h = refl
slashed_stands (name ∷ path) h = list_all-append stands_in_path name (slashed path) ∙ and_from _ _ (name_stands name h.0.bytes) (slashed_stands path h.1)

slash_test : is_utf8 (47 ∷ []) ≡ true
unfolding is_utf8 chars lib.Utf8.encode
slash_test = refl

slash_utf8 : IsUtf8 (47 ∷ [])
slash_utf8 = IsUtf8-from_is_utf8 (47 ∷ []) slash_test

slashed_utf8 : (path : Path) → Each IsName path → IsUtf8 (slashed path)
slashed_utf8 [] h = IsUtf8-nil
slashed_utf8 (name ∷ path) h =
    IsUtf8-append (47 ∷ []) (name ++ slashed path) slash_utf8 (IsUtf8-append name (slashed path) (IsUtf8-from_is_utf8 name h.0.utf8) (slashed_utf8 path h.1))

text_bytes : (path : Path) → Each IsName path → has_path_bytes (path_text path) ≡ true
text_bytes [] h = and_from _ _ refl (is_utf8-from_IsUtf8 (47 ∷ []) slash_utf8)
text_bytes (name ∷ path) h = and_from _ _ (slashed_stands (name ∷ path) h) (is_utf8-from_IsUtf8 (slashed (name ∷ path)) (slashed_utf8 (name ∷ path) h))

text_absolute : (path : Path) → is_absolute (path_text path) ≡ true
text_absolute [] = refl
text_absolute (name ∷ path) = refl

name_unrefused : (before : ℕ) (name : List ℕ) → before < 64 → IsName name → segment_refusal before name ≡ None
name_unrefused before name lt h = rw (lt-leb 64 before lt, h.some, h.other, le-ltb 255 (length name) h.short) refl

names_unrefused : (before : ℕ) (path : Path) → before + length path ≤ 64 → Each IsName path → segments_refusal before path ≡ None
names_unrefused before [] le h = refl
names_unrefused before (name ∷ path) le h = rw (name_unrefused before name (omega arith) h.0) (names_unrefused (before + 1) path (omega arith) h.1)

pub path_of-path_text : (path : Path) → IsPath path → path_of (path_text path) ≡ Ok path
path_of-path_text path h =
    let parts = segments-path_text path h.names in
    text_is_read (path_text path) path (record {
      absolute = text_absolute path;
      bytes = text_bytes path h.names;
      parts = parts;
      refusal = rw parts (names_unrefused 0 path (omega (arith, h.short)) h.names);
    })
