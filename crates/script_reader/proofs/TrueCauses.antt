-- A cause that is told holds.
use Rattle.std.proofs.Common.{◌≡◌, ℕ, ◌<◌, ◌≤◌, Bool, true, false, cond, eqb, ltb, leb, List, [], ◌∷◌, ◌++◌, length, Option, Some, None, Result, Ok, Err, refl, sym, ap, subst, ◌∙◌, ◌&&◌, ◌||◌, arith, inl, inr, ◌⊎◌, lit≤, lit<, rules, Decides}
use Rattle.std.specs.Prelude.{◌≢◌, codes}
use Rattle.std.specs.Str.{bytes_eq}
use Rattle.std.specs.List.{slice_split, list_any, AllByRecursion}
use Rattle.std.specs.Fmt.{decimal}
use Rattle.std.proofs.lemmas.Bool.{leb-false, le-leb, ltb-true}
use Rattle.std.proofs.Math.Dec.{eqb-suc-zero}
use Rattle.std.proofs.lemmas.Slice.Eq.{bytes_eq-Decides}
use Rattle.vfs_model.specs.declared.Case.{Case}
use Rattle.vfs_model.specs.declared.Case.TheVariants.{Sensitive, Insensitive}
use Rattle.vfs_model.specs.Paths.{Path}
use Rattle.vfs_path.specs.declared.error.PathError.{PathError}
use Rattle.vfs_path.specs.Texts.{path_of, is_empty}
use Rattle.fingerprint_norms.specs.declared.input.Input.{Input}
use Rattle.fingerprint_norms.specs.declared.input.Sensitivity.{Sensitivity}
use Rattle.fingerprint_norms.specs.declared.input.Sensitivity.TheVariants.{Absolute}
use Rattle.script_text.specs.declared.cause.Cause.{Cause}
use Rattle.script_text.specs.declared.cause.Cause.TheVariants.{UnknownWord, WrongCount, BadNumber, BadPath, TooLarge, BadInput, EmptyWord, BadEscape, BadCaller, LateSetting, Repeated}
use Rattle.script_text.specs.declared.script.TextKind.{TextKind}
use Rattle.script_text.specs.declared.script.TextKind.TheVariants.{Replay}
use Rattle.script_text.specs.declared.script.Opening.{Opening}
use Rattle.script_text.specs.declared.script.Opening.TheVariants as openings
use Rattle.script_text.specs.declared.script.Script.{Script}
use Rattle.script_text.specs.Steps.{◌>>=◌, all_from}
use Rattle.script_reader.specs.Numbers.{number_of}
use Rattle.script_text.specs.Words.{is_note, hex_of, hex_pair, named_before, value_of, values_of, words_of}
use Rattle.script_reader.specs.Forms.{Form, or_bad_path, path_from, content_from, file_from, within, case_from, two_paths, one_file, alone, with_path, with_two_paths, with_file, with_number, with_case, cut_input, input_with, input_from, some_inputs, with_inputs, form_named, unknown, opening_forms, plain_forms, input_forms, edit_forms, path_forms, opening_of, plain_command_of, input_command_of, path_command_of, command_of}
use Rattle.script_reader.specs.Reading.{with_opening, with_line, caller_from, with_setting, with_command, with_words, after_line}
use Rattle.script_text.specs.Set.{is_same_setting}
use Rattle.script_text.specs.Grammar.{case_word, sensitivity_word, input_word, IsOpening, IsCommand}
use Rattle.script_reader.specs.Holds.{HasOne, IsNoNumber, HasBadNumber, case, queue, places, workers, takes_inputs, IsInputOf, IsNoInput, HoldsOfWords, Holds, empty, escape, caller, late, number, repeated, setting, command}
use Rattle.script_reader.proofs.NumberLemmas.{decimal_of_number, number_of_decimal}
use Rattle.script_reader.proofs.Tables.{bind_ok, done, ok_is, path_from_again, cut_is, cut_again, input_again, opening_is, opening_again, command_is, command_again}
use Rattle.script_reader.proofs.LineLaws.{none_of, caller_is}
use Rattle.vfs_path.proofs.Cuts.{split_some}

-- ---- steps that failed

abbrev failed : {A : Type 0} → Cause → Result A Cause
failed c = Err c

err_is : (A : Type 0) (c d : Cause) → failed {A = A} c ≡ failed d → c ≡ d
err_is A c d e = cc

bind_err : {A B : Type 0} (r : Result A Cause) (f : A → Result B Cause) (c : Cause) → (r >>= f) ≡ Err c → (r ≡ Err c) ⊎ ((x : A) × (r ≡ Ok x) × (f x ≡ Err c))
bind_err (Ok x) f c e = inr (x, refl, e)
bind_err (Err d) f c e = inl (let same : d ≡ c = cc in ap (λ (y : Cause). Err y) same)

-- what comes after cannot fail
only_first : {A B : Type 0} (r : Result A Cause) (f : A → B) (c : Cause) → (r >>= λ x. Ok (f x)) ≡ Err c → r ≡ Err c
only_first (Ok x) f c e = absurd cc
only_first (Err d) f c e = let same : d ≡ c = cc in ap (λ (y : Cause). Err y) same

-- ---- words

word_here : (P : List ℕ → Type 0) (word : List ℕ) (words : List (List ℕ)) → P word → HasOne P (word ∷ words)
word_here P word words h = ([], word, words, refl, h)

word_later : (P : List ℕ → Type 0) (word : List ℕ) (words : List (List ℕ)) → HasOne P words → HasOne P (word ∷ words)
word_later P word words h = (word ∷ h.0, h.1, h.2, ap (λ (ws : List (List ℕ)). word ∷ ws) h.3, h.4)

-- one of the items passes the test
any_some : {A : Type 0} (p : A → Bool) (xs : List A) → list_any p xs ≡ true → HasOne (λ x. p x ≡ true) xs
any_some p [] e = absurd cc
any_some p (x ∷ xs) e = any_by (λ later. any_some p xs later) (p x) refl e
  where
    any_by : (list_any p xs ≡ true → HasOne (λ y. p y ≡ true) xs) → (b : Bool) → p x ≡ b → (b || list_any p xs) ≡ true → HasOne (λ y. p y ≡ true) (x ∷ xs)
    any_by later true is h = ([], x, xs, refl, is)
    any_by later false is h = let r = later h in (x ∷ r.0, r.1, r.2, ap (λ (ys : List _). x ∷ ys) r.3, r.4)

none_of_bytes : (word : List ℕ) → is_empty word ≡ true → word ≡ []
none_of_bytes [] e = refl
none_of_bytes (b ∷ bs) e = absurd (let f = rw eqb-suc-zero at e in cc)

empty_some : (parts : List (List ℕ)) → list_any is_empty parts ≡ true → HasOne (λ word. word ≡ []) parts
empty_some parts e = let h = any_some is_empty parts e in (h.0, h.1, h.2, h.3, none_of_bytes h.1 h.4)

no_empty : (parts before : List (List ℕ)) (word : List ℕ) (after : List (List ℕ)) → list_any is_empty parts ≡ false → parts ≡ before ++ word ∷ after → word ≡ [] → ⊥
no_empty [] [] word after e is none = absurd cc
no_empty [] (b ∷ before) word after e is none = absurd cc
no_empty ([] ∷ parts) before word after e is none = absurd cc
no_empty ((b ∷ bs) ∷ parts) [] word after e is none = let same : b ∷ bs ≡ word = cc in absurd cc
no_empty ((b ∷ bs) ∷ parts) (w ∷ before) word after e is none = let later = rw eqb-suc-zero at e in let rest : parts ≡ before ++ word ∷ after = cc in no_empty parts before word after later rest none

escape_by : (b : Bool) (r s : Result (List ℕ) Cause) (c : Cause) → (r ≡ Err c → c ≡ BadEscape) → (s ≡ Err c → c ≡ BadEscape) → cond b r s ≡ Err c → c ≡ BadEscape
escape_by true r s c f g e = f e
escape_by false r s c f g e = g e

named_err : (o : Option ℕ) (r : Result (List ℕ) Cause) (c : Cause) → (r ≡ Err c → c ≡ BadEscape) → named_before o r ≡ Err c → c ≡ BadEscape
named_err None r c f e = sym (err_is (List ℕ) BadEscape c e)
named_err (Some n) r c f e = f (only_first r (λ bs. n ∷ bs) c e)

value_err : (word : List ℕ) (c : Cause) → value_of word ≡ Err c → c ≡ BadEscape
unfolding value_of
value_err [] c e = absurd cc
value_err (b ∷ []) c e = escape_by (eqb b 37) (Err BadEscape) (Ok (b ∷ [])) c (λ h. sym (err_is (List ℕ) BadEscape c h)) (λ h. absurd cc) e
value_err (b ∷ h ∷ []) c e =
    escape_by (eqb b 37) (Err BadEscape) (value_of (h ∷ []) >>= λ bs. Ok (b ∷ bs)) c (λ x. sym (err_is (List ℕ) BadEscape c x)) (λ x. value_err (h ∷ []) c (only_first (value_of (h ∷ [])) (λ bs. b ∷ bs) c x)) e
value_err (b ∷ h ∷ l ∷ rest) c e =
    escape_by (eqb b 37) (named_before (hex_pair (hex_of h) (hex_of l)) (value_of rest)) (value_of (h ∷ l ∷ rest) >>= λ bs. Ok (b ∷ bs)) c
    (λ x. named_err (hex_pair (hex_of h) (hex_of l)) (value_of rest) c (λ y. value_err rest c y) x)
    (λ x. value_err (h ∷ l ∷ rest) c (only_first (value_of (h ∷ l ∷ rest)) (λ bs. b ∷ bs) c x)) e

record IsEscape (parts : List (List ℕ)) (c : Cause) : Type 0 where
  is : c ≡ BadEscape
  has : HasOne (λ word. value_of word ≡ Err BadEscape) parts

values_err : (parts : List (List ℕ)) (c : Cause) → values_of parts ≡ Err c → IsEscape parts c
unfolding values_of
values_err [] c e = absurd cc
values_err (w ∷ ws) c e =
    elim (bind_err (value_of w) (λ v. values_of ws >>= λ vs. Ok (v ∷ vs)) c e) [
      | inl bad ↦ let is = value_err w c bad in record { is = is; has = word_here (λ word. value_of word ≡ Err BadEscape) w ws (subst (λ (d : Cause). value_of w ≡ Err d) is bad) }
      | inr good ↦ let later = values_err ws c (only_first (values_of ws) (λ vs. good.0 ∷ vs) c good.2) in record { is = later.is; has = word_later (λ word. value_of word ≡ Err BadEscape) w ws later.has }
    ]

words_err_by : (s : Script) (text : List ℕ) (c : Cause) (b : Bool) → list_any is_empty (slice_split (λ x. eqb x 32) text) ≡ b → cond b (Err EmptyWord) (values_of (slice_split (λ x. eqb x 32) text)) ≡ Err c → Holds s text c
words_err_by s text c true is e = subst (λ (d : Cause). Holds s text d) (err_is (List (List ℕ)) EmptyWord c e) (empty (empty_some (slice_split (λ x. eqb x 32) text) is))
words_err_by s text c false is e = let h = values_err (slice_split (λ x. eqb x 32) text) c e in subst (λ (d : Cause). Holds s text d) (sym h.is) (escape (λ some. no_empty (slice_split (λ x. eqb x 32) text) some.0 some.1 some.2 is some.3 some.4) h.has)

words_err : (s : Script) (text : List ℕ) (c : Cause) → words_of text ≡ Err c → Holds s text c
unfolding words_of
words_err s text c e = words_err_by s text c (list_any is_empty (slice_split (λ x. eqb x 32) text)) refl e

-- ---- forms

-- some words are read
abbrev IsSome : {X : Type 0} → Form X → Type 0
IsSome {X} form = (args : List (List ℕ)) × (x : X) × (form args ≡ Ok x)

-- what a form's cause says of the words after the second; of one that lies with a word, what N says
abbrev Tells : {X : Type 0} → (Cause → List (List ℕ) → Type 0) → Form X → List (List ℕ) → Cause → Type 0
Tells N form args UnknownWord = (other : List (List ℕ)) → form other ≡ Err UnknownWord
Tells {X} N form args WrongCount = ((other : List (List ℕ)) → length other ≡ length args → form other ≡ Err WrongCount) × IsSome form
Tells N form args cause = N cause args

abbrev FormTells : {X : Type 0} → (Cause → List (List ℕ) → Type 0) → Form X → Type 0
FormTells N form = (args : List (List ℕ)) (c : Cause) → form args ≡ Err c → Tells N form args c

-- the words have a path that is refused with the cause, or bytes that are too many
abbrev IsWordCause : List (List ℕ) → Cause → Type 0
IsWordCause args (BadPath refusal) = HasOne (λ word. path_of word ≡ Err refusal) args
IsWordCause args TooLarge = HasOne (λ word. 1048576 < length word) args
IsWordCause args _ = ⊥

cause_later : (word : List ℕ) (args : List (List ℕ)) (c : Cause) → IsWordCause args c → IsWordCause (word ∷ args) c
cause_later word args (BadPath refusal) h = word_later (λ text. path_of text ≡ Err refusal) word args h
cause_later word args TooLarge h = word_later (λ bytes. 1048576 < length bytes) word args h
cause_later word args _ h = absurd h

-- such a cause is told by N
Lifts : (Cause → List (List ℕ) → Type 0) → Type 0
Lifts N = (args : List (List ℕ)) (c : Cause) → IsWordCause args c → N c args

word_tells : {X : Type 0} (N : Cause → List (List ℕ) → Type 0) (form : Form X) → Lifts N → (args : List (List ℕ)) (c : Cause) → IsWordCause args c → Tells N form args c
unfolding Lifts
word_tells N form lift args (BadPath refusal) h = lift args (BadPath refusal) h
word_tells N form lift args TooLarge h = lift args TooLarge h
word_tells N form lift args _ h = absurd h

count_tells : {X : Type 0} (N : Cause → List (List ℕ) → Type 0) (form : Form X) (args : List (List ℕ)) (c : Cause) → failed {A = X} WrongCount ≡ Err c → IsSome form → ((other : List (List ℕ)) → length other ≡ length args → form other ≡ Err WrongCount) → Tells N form args c
count_tells {X} N form args c e some h = subst (λ (d : Cause). Tells N form args d) (err_is X WrongCount c e) (h, some)

-- the text of the root, and the words that it makes
root : List ℕ
root = 47 ∷ []

root_read : path_from root ≡ Ok []
unfolding root
root_read = path_from_again [] (search rules)

path_some : {X : Type 0} (make : Path → X) → IsSome (with_path make)
path_some make = (root ∷ [], make [], rw root_read refl)

two_path_some : {X : Type 0} (make : Path → Path → X) → IsSome (with_two_paths make)
two_path_some make = (root ∷ root ∷ [], make [] [], rw root_read refl)

file_some : {X : Type 0} (make : Path → List ℕ → X) → IsSome (with_file make)
file_some make = (root ∷ [], make [] [], rw root_read refl)

path_err_by : (word : List ℕ) (args : List (List ℕ)) (r : Result Path PathError) (c : Cause) → path_of word ≡ r → or_bad_path r ≡ Err c → IsWordCause (word ∷ args) c
path_err_by word args (Ok p) c is e = absurd cc
path_err_by word args (Err refusal) c is e = subst (λ (d : Cause). IsWordCause (word ∷ args) d) (err_is Path (BadPath refusal) c e) (word_here (λ text. path_of text ≡ Err refusal) word args is)

path_err : (word : List ℕ) (args : List (List ℕ)) (c : Cause) → path_from word ≡ Err c → IsWordCause (word ∷ args) c
path_err word args c e = path_err_by word args (path_of word) c refl e

content_err_by : (word : List ℕ) (args : List (List ℕ)) (c : Cause) (b : Bool) → ltb 1048576 (length word) ≡ b → cond b (failed {A = List ℕ} TooLarge) (Ok word) ≡ Err c → IsWordCause (word ∷ args) c
content_err_by word args c true is e = subst (λ (d : Cause). IsWordCause (word ∷ args) d) (err_is (List ℕ) TooLarge c e) (word_here (λ bytes. 1048576 < length bytes) word args (ltb-true _ _ is))
content_err_by word args c false is e = absurd cc

content_err : (word : List ℕ) (args : List (List ℕ)) (c : Cause) → content_from word ≡ Err c → IsWordCause (word ∷ args) c
content_err word args c e = content_err_by word args c (ltb 1048576 (length word)) refl e

no_content_err : (c : Cause) → content_from [] ≡ Err c → ⊥
no_content_err c e = absurd cc

alone_many : {X : Type 0} (it : X) (other : List (List ℕ)) → (length other ≡ 0 → ⊥) → alone it other ≡ Err WrongCount
alone_many it [] ne = absurd (ne refl)
alone_many it (w ∷ ws) ne = refl

alone_tells : {X : Type 0} (N : Cause → List (List ℕ) → Type 0) (it : X) → FormTells N (alone it)
alone_tells N it [] c e = absurd cc
alone_tells N it (w ∷ ws) c e = count_tells N (alone it) (w ∷ ws) c e ([], it, refl) (λ other same. alone_many it other (λ zero. absurd (omega arith)))

path_many : {X : Type 0} (make : Path → X) (other : List (List ℕ)) → (length other ≡ 1 → ⊥) → with_path make other ≡ Err WrongCount
path_many make [] ne = refl
path_many make (w ∷ []) ne = absurd (ne refl)
path_many make (w ∷ v ∷ ws) ne = refl

path_tells : {X : Type 0} (N : Cause → List (List ℕ) → Type 0) → Lifts N → (make : Path → X) → FormTells N (with_path make)
path_tells N lift make [] c e = count_tells N (with_path make) [] c e (path_some make) (λ other same. path_many make other (λ one. absurd (omega arith)))
path_tells N lift make (w ∷ []) c e = word_tells N (with_path make) lift (w ∷ []) c (path_err w [] c (only_first (path_from w) make c e))
path_tells N lift make (w ∷ v ∷ ws) c e = count_tells N (with_path make) (w ∷ v ∷ ws) c e (path_some make) (λ other same. path_many make other (λ one. absurd (omega arith)))

two_path_many : {X : Type 0} (make : Path → Path → X) (other : List (List ℕ)) → (length other ≡ 2 → ⊥) → with_two_paths make other ≡ Err WrongCount
two_path_many make [] ne = refl
two_path_many make (w ∷ []) ne = refl
two_path_many make (w ∷ v ∷ []) ne = absurd (ne refl)
two_path_many make (w ∷ v ∷ u ∷ ws) ne = refl

two_paths_err : (w v : List ℕ) (c : Cause) → two_paths (w ∷ v ∷ []) ≡ Err c → IsWordCause (w ∷ v ∷ []) c
two_paths_err w v c e =
    elim (bind_err (path_from w) (λ from. path_from v >>= λ to. Ok (from, to)) c e) [
      | inl bad ↦ path_err w (v ∷ []) c bad
      | inr good ↦ cause_later w (v ∷ []) c (path_err v [] c (only_first (path_from v) (λ to. (good.0, to)) c good.2))
    ]

two_path_tells : {X : Type 0} (N : Cause → List (List ℕ) → Type 0) → Lifts N → (make : Path → Path → X) → FormTells N (with_two_paths make)
two_path_tells N lift make [] c e = count_tells N (with_two_paths make) [] c e (two_path_some make) (λ other same. two_path_many make other (λ two. absurd (omega arith)))
two_path_tells N lift make (w ∷ []) c e = count_tells N (with_two_paths make) (w ∷ []) c e (two_path_some make) (λ other same. two_path_many make other (λ two. absurd (omega arith)))
two_path_tells N lift make (w ∷ v ∷ []) c e = word_tells N (with_two_paths make) lift (w ∷ v ∷ []) c (two_paths_err w v c (only_first (two_paths (w ∷ v ∷ [])) (λ a. make a.0 a.1) c e))
two_path_tells N lift make (w ∷ v ∷ u ∷ ws) c e = count_tells N (with_two_paths make) (w ∷ v ∷ u ∷ ws) c e (two_path_some make) (λ other same. two_path_many make other (λ two. absurd (omega arith)))

file_many : {X : Type 0} (make : Path → List ℕ → X) (other : List (List ℕ)) → (length other ≡ 1 → ⊥) → (length other ≡ 2 → ⊥) → with_file make other ≡ Err WrongCount
file_many make [] one two = refl
file_many make (w ∷ []) one two = absurd (one refl)
file_many make (w ∷ v ∷ []) one two = absurd (two refl)
file_many make (w ∷ v ∷ u ∷ ws) one two = refl

file_err : (w bytes : List ℕ) (c : Cause) → file_from w bytes ≡ Err c → (path_from w ≡ Err c) ⊎ (content_from bytes ≡ Err c)
file_err w bytes c e =
    elim (bind_err (path_from w) (λ path. content_from bytes >>= λ content. Ok (path, content)) c e) [
      | inl bad ↦ inl bad
      | inr good ↦ inr (only_first (content_from bytes) (λ content. (good.0, content)) c good.2)
    ]

one_file_err : (w : List ℕ) (c : Cause) → one_file (w ∷ []) ≡ Err c → IsWordCause (w ∷ []) c
one_file_err w c e = elim (file_err w [] c e) [ inl bad ↦ path_err w [] c bad | inr bad ↦ absurd (no_content_err c bad) ]

two_words_err : (w v : List ℕ) (c : Cause) → one_file (w ∷ v ∷ []) ≡ Err c → IsWordCause (w ∷ v ∷ []) c
two_words_err w v c e = elim (file_err w v c e) [ inl bad ↦ path_err w (v ∷ []) c bad | inr bad ↦ cause_later w (v ∷ []) c (content_err v [] c bad) ]

file_tells : {X : Type 0} (N : Cause → List (List ℕ) → Type 0) → Lifts N → (make : Path → List ℕ → X) → FormTells N (with_file make)
file_tells N lift make [] c e = count_tells N (with_file make) [] c e (file_some make) (λ other same. file_many make other (λ one. absurd (omega arith)) (λ two. absurd (omega arith)))
file_tells N lift make (w ∷ []) c e = word_tells N (with_file make) lift (w ∷ []) c (one_file_err w c (only_first (one_file (w ∷ [])) (λ a. make a.0 a.1) c e))
file_tells N lift make (w ∷ v ∷ []) c e = word_tells N (with_file make) lift (w ∷ v ∷ []) c (two_words_err w v c (only_first (one_file (w ∷ v ∷ [])) (λ a. make a.0 a.1) c e))
file_tells N lift make (w ∷ v ∷ u ∷ ws) c e = count_tells N (with_file make) (w ∷ v ∷ u ∷ ws) c e (file_some make) (λ other same. file_many make other (λ one. absurd (omega arith)) (λ two. absurd (omega arith)))

-- ---- numbers and cases

record IsOutside (limit : ℕ) (o : Option ℕ) (c : Cause) : Type 0 where
  is : BadNumber ≡ c
  none : (n : ℕ) → 1 ≤ n → n ≤ limit → o ≡ Some n → ⊥

within_err_by : (limit m : ℕ) (c : Cause) (b : Bool) → (leb 1 m && leb m limit) ≡ b → cond b (Ok m) (Err BadNumber) ≡ Err c → IsOutside limit (Some m) c
within_err_by limit m c true is e = absurd cc
within_err_by limit m c false is e = record { is = err_is ℕ BadNumber c e; none = λ n some le same. let k : m ≡ n = cc in let fits : (leb 1 m && leb m limit) ≡ true = rw (k, le-leb 1 n some, le-leb n limit le) refl in absurd cc }

within_err : (limit : ℕ) (o : Option ℕ) (c : Cause) → within limit o ≡ Err c → IsOutside limit o c
within_err limit None c e = record { is = err_is ℕ BadNumber c e; none = λ n some le same. absurd cc }
within_err limit (Some m) c e = within_err_by limit m c (leb 1 m && leb m limit) refl e

number_some : {X : Type 0} (limit : ℕ) (make : ℕ → X) → 1 ≤ limit → IsSome (with_number limit make)
number_some limit make some = (decimal 1 ∷ [], make 1, rw (number_of_decimal 1 (lit< tt), le-leb 1 limit some) refl)

number_many : {X : Type 0} (limit : ℕ) (make : ℕ → X) (other : List (List ℕ)) → (length other ≡ 1 → ⊥) → with_number limit make other ≡ Err WrongCount
number_many limit make [] ne = refl
number_many limit make (w ∷ []) ne = absurd (ne refl)
number_many limit make (w ∷ v ∷ ws) ne = refl

number_tells : {X : Type 0} (N : Cause → List (List ℕ) → Type 0) (limit : ℕ) (make : ℕ → X) → 1 ≤ limit → limit ≤ 65536 → ((word : List ℕ) → IsNoNumber limit word → N BadNumber (word ∷ [])) → FormTells N (with_number limit make)
number_tells N limit make some few bad [] c e = count_tells N (with_number limit make) [] c e (number_some limit make some) (λ other same. number_many limit make other (λ one. absurd (omega arith)))
number_tells N limit make some few bad (w ∷ []) c e =
    let o = within_err limit (number_of w) c (only_first (within limit (number_of w)) make c e) in
    subst (λ (d : Cause). Tells N (with_number limit make) (w ∷ []) d) o.is (bad w (λ n low high is. o.none n low high (ap number_of is ∙ number_of_decimal n (omega (arith, high, few)))))
number_tells N limit make some few bad (w ∷ v ∷ ws) c e = count_tells N (with_number limit make) (w ∷ v ∷ ws) c e (number_some limit make some) (λ other same. number_many limit make other (λ one. absurd (omega arith)))

case_err_by : (word : List ℕ) (c : Cause) (a b : Bool) → Decides a (word ≡ codes "sensitive") → Decides b (word ≡ codes "insensitive") → cond a (Ok Sensitive) (cond b (Ok Insensitive) (Err BadNumber)) ≡ Err c
    → (BadNumber ≡ c) × ((k : Case) → word ≢ case_word k)
case_err_by word c true b d i e = absurd cc
case_err_by word c false true d i e = absurd cc
case_err_by word c false false d i e = (err_is Case BadNumber c e, none)
  where
    none : (k : Case) → word ≢ case_word k
    none Sensitive same = let f = d.1 same in absurd cc
    none Insensitive same = let f = i.1 same in absurd cc

case_some : {X : Type 0} (make : Case → X) → IsSome (with_case make)
case_some make = (codes "sensitive" ∷ [], make Sensitive, refl)

case_many : {X : Type 0} (make : Case → X) (other : List (List ℕ)) → (length other ≡ 1 → ⊥) → with_case make other ≡ Err WrongCount
case_many make [] ne = refl
case_many make (w ∷ []) ne = absurd (ne refl)
case_many make (w ∷ v ∷ ws) ne = refl

case_tells : {X : Type 0} (N : Cause → List (List ℕ) → Type 0) (make : Case → X) → ((word : List ℕ) → ((k : Case) → word ≢ case_word k) → N BadNumber (word ∷ [])) → FormTells N (with_case make)
case_tells N make bad [] c e = count_tells N (with_case make) [] c e (case_some make) (λ other same. case_many make other (λ one. absurd (omega arith)))
case_tells N make bad (w ∷ []) c e =
    let o = case_err_by w c (bytes_eq w (codes "sensitive")) (bytes_eq w (codes "insensitive")) (bytes_eq-Decides w (codes "sensitive")) (bytes_eq-Decides w (codes "insensitive")) (only_first (case_from w) make c e) in
    subst (λ (d : Cause). Tells N (with_case make) (w ∷ []) d) o.0 (bad w o.1)
case_tells N make bad (w ∷ v ∷ ws) c e = count_tells N (with_case make) (w ∷ v ∷ ws) c e (case_some make) (λ other same. case_many make other (λ one. absurd (omega arith)))

-- ---- inputs

-- one of the words is that of no input, or the root of an input is refused
abbrev IsInputCause : List (List ℕ) → Cause → Type 0
IsInputCause args (BadPath refusal) = HasOne (λ word. (text : List ℕ) × IsInputOf text word × (path_of text ≡ Err refusal)) args
IsInputCause args BadInput = HasOne IsNoInput args
IsInputCause args _ = ⊥

input_later : (word : List ℕ) (args : List (List ℕ)) (c : Cause) → IsInputCause args c → IsInputCause (word ∷ args) c
input_later word args (BadPath refusal) h = word_later (λ other. (text : List ℕ) × IsInputOf text other × (path_of text ≡ Err refusal)) word args h
input_later word args BadInput h = word_later IsNoInput word args h
input_later word args _ h = absurd h

root_err : (word : List ℕ) (args : List (List ℕ)) (s : Sensitivity) (text : List ℕ) (r : Result Path PathError) (c : Cause) → word ≡ sensitivity_word s ++ text → path_of text ≡ r → or_bad_path r ≡ Err c → IsInputCause (word ∷ args) c
root_err word args s text (Ok p) c cut is e = absurd cc
root_err word args s text (Err refusal) c cut is e =
    subst (λ (d : Cause). IsInputCause (word ∷ args) d) (err_is Path (BadPath refusal) c e)
    (word_here (λ other. (t : List ℕ) × IsInputOf t other × (path_of t ≡ Err refusal)) word args (text, (s, cut), is))

input_err_by : (word : List ℕ) (args : List (List ℕ)) (o : Option (Sensitivity × List ℕ)) (c : Cause) → cut_input word ≡ o → input_with o ≡ Err c → IsInputCause (word ∷ args) c
input_err_by word args None c cut e =
    subst (λ (d : Cause). IsInputCause (word ∷ args) d) (err_is Input BadInput c e)
    (word_here IsNoInput word args (λ text h. let again : cut_input word ≡ Some (h.0, text) = ap cut_input h.1 ∙ cut_again h.0 text in let clash : None ≡ Some (h.0, text) = sym cut ∙ again in absurd cc))
input_err_by word args (Some parts) c cut e =
    root_err word args parts.0 parts.1 (path_of parts.1) c (cut_is word parts cut) refl (only_first (path_from parts.1) (λ root. record { root = root; sensitivity = parts.0 }) c e)

inputs_err : (args : List (List ℕ)) (c : Cause) → all_from input_from args ≡ Err c → IsInputCause args c
inputs_err [] c e = absurd cc
inputs_err (word ∷ args) c e =
    elim (bind_err (input_from word) (λ i. all_from input_from args >>= λ is. Ok (i ∷ is)) c e) [
      | inl bad ↦ input_err_by word args (cut_input word) c refl bad
      | inr good ↦ input_later word args c (inputs_err args c (only_first (all_from input_from args) (λ is. good.0 ∷ is) c good.2))
    ]

input_tells_by : {X : Type 0} (N : Cause → List (List ℕ) → Type 0) (form : Form X) → ((args : List (List ℕ)) (c : Cause) → IsInputCause args c → N c args) → (args : List (List ℕ)) (c : Cause) → IsInputCause args c → Tells N form args c
input_tells_by N form lift args (BadPath refusal) h = lift args (BadPath refusal) h
input_tells_by N form lift args BadInput h = lift args BadInput h
input_tells_by N form lift args _ h = absurd h

inputs_some : {X : Type 0} (make : List Input → X) → IsSome (with_inputs make)
inputs_some make = let i : Input = record { root = []; sensitivity = Absolute } in (input_word i ∷ [], make (i ∷ []), rw (input_again i (search rules)) refl)

inputs_many : {X : Type 0} (make : List Input → X) (args other : List (List ℕ)) → (leb 1 (length args) && leb (length args) 64) ≡ false → length other ≡ length args → with_inputs make other ≡ Err WrongCount
inputs_many make args other out same = rw (same, out) refl

input_tells : {X : Type 0} (N : Cause → List (List ℕ) → Type 0) → ((args : List (List ℕ)) (c : Cause) → IsInputCause args c → N c args) → (make : List Input → X) → FormTells N (with_inputs make)
input_tells {X} N lift make args c e = by (leb 1 (length args) && leb (length args) 64) refl (only_first (some_inputs args) make c e)
  where
    by : (b : Bool) → (leb 1 (length args) && leb (length args) 64) ≡ b → cond b (all_from input_from args) (Err WrongCount) ≡ Err c → Tells N (with_inputs make) args c
    by true in_limits h = input_tells_by N (with_inputs make) lift args c (inputs_err args c h)
    by false out h = subst (λ (d : Cause). Tells N (with_inputs make) args d) (err_is (List Input) WrongCount c h) ((λ other same. inputs_many make args other out same), inputs_some make)

-- ---- tables

unknown_tells : (X : Type 0) (N : Cause → List (List ℕ) → Type 0) → FormTells N (unknown {X = X})
unknown_tells X N args c e = subst (λ (d : Cause). Tells N (unknown {X = X}) args d) (err_is X UnknownWord c e) (λ other. refl)

one_of_tells : {X : Type 0} (N : Cause → List (List ℕ) → Type 0) (word name : List ℕ) (b : Bool) (here later : Form X) → Decides b (word ≡ name) → (word ≡ name → FormTells N here) → FormTells N later → FormTells N (λ args. cond b (here args) (later args))
one_of_tells N word name true here later d h l args c e = h (d.0 refl) args c e
one_of_tells N word name false here later d h l args c e = l args c e

-- what a row's form tells where the word is its name
RowTells : {X : Type 0} → (Cause → List (List ℕ) → Type 0) → List ℕ → List ℕ × Form X → Type 0
RowTells N word row = word ≡ row.0 → FormTells N row.1

table_tells : {X : Type 0} (N : Cause → List (List ℕ) → Type 0) (rows : List (List ℕ × Form X)) (other : Form X) (word : List ℕ) → AllByRecursion (RowTells N word) rows → FormTells N other → FormTells N (form_named rows other word)
unfolding RowTells
table_tells N [] other word each last = last
table_tells N (r ∷ rows) other word each last = one_of_tells N word r.0 (bytes_eq word r.0) r.1 (form_named rows other word) (bytes_eq-Decides word r.0) each.0 (table_tells N rows other word each.1 last)

-- behind a name that takes no inputs, a word that is refused as a path has that path in it
plain_lift : {X : Type 0} (IsForm : X → List (List ℕ) → Type 0) (word name : List ℕ) → word ≡ name → takes_inputs name ≡ false → Lifts (λ c args. HoldsOfWords IsForm (word ∷ args) c)
unfolding Lifts
plain_lift IsForm word name is apart args (BadPath refusal) h = (h.0, h.1, h.2, h.3, (h.1, rw (is, apart) refl, h.4))
plain_lift IsForm word name is apart args TooLarge h = h
plain_lift IsForm word name is apart args _ h = absurd h

-- behind a name that takes inputs, causes of inputs are told
input_lift : {X : Type 0} (IsForm : X → List (List ℕ) → Type 0) (word name : List ℕ) → word ≡ name → takes_inputs name ≡ true → (args : List (List ℕ)) (c : Cause) → IsInputCause args c → HoldsOfWords IsForm (word ∷ args) c
input_lift IsForm word name is taken args (BadPath refusal) h = (h.0, h.1, h.2, h.3, (h.4.0, rw (is, taken) h.4.1, h.4.2))
input_lift IsForm word name is taken args BadInput h = (rw is taken, h)
input_lift IsForm word name is taken args _ h = absurd h

-- what a cause that lies with a word says after `set`: a number is bad, or it holds in the words of the grammar
SettingTells : List ℕ → Cause → List (List ℕ) → Type 0
SettingTells word c args = ((BadNumber ≡ c) × HasBadNumber (word ∷ args)) ⊎ HoldsOfWords IsOpening (word ∷ args) c

-- and after a caller
CommandTells : List ℕ → Cause → List (List ℕ) → Type 0
CommandTells word c args = HoldsOfWords IsCommand (word ∷ args) c

setting_lift : (word name : List ℕ) → word ≡ name → takes_inputs name ≡ false → Lifts (SettingTells word)
unfolding Lifts SettingTells
setting_lift word name is apart args c h = inr (plain_lift IsOpening word name is apart args c h)

command_lift : (word name : List ℕ) → word ≡ name → takes_inputs name ≡ false → Lifts (CommandTells word)
unfolding Lifts CommandTells
command_lift word name is apart args c h = plain_lift IsCommand word name is apart args c h

command_input_lift : (word name : List ℕ) → word ≡ name → takes_inputs name ≡ true → (args : List (List ℕ)) (c : Cause) → IsInputCause args c → CommandTells word c args
unfolding CommandTells
command_input_lift word name is taken args c h = input_lift IsCommand word name is taken args c h

bad_number : (word : List ℕ) (args : List (List ℕ)) → HasBadNumber (word ∷ args) → SettingTells word BadNumber args
unfolding SettingTells
bad_number word args h = inl (refl, h)

opening_tells : (word : List ℕ) → FormTells (SettingTells word) (opening_of word)
unfolding RowTells opening_of
opening_tells word =
    let N = SettingTells word in
    table_tells N opening_forms unknown word (
      (λ is. case_tells N openings.Case (λ v no. bad_number word (v ∷ []) (rw is (case v no)))),
      (
        (λ is. number_tells N 65536 openings.Queue (lit≤ tt) (lit≤ tt) (λ v no. bad_number word (v ∷ []) (rw is (queue v no)))),
        (
          (λ is. number_tells N 65536 openings.Places (lit≤ tt) (lit≤ tt) (λ v no. bad_number word (v ∷ []) (rw is (places v no)))),
          (
            (λ is. number_tells N 16 openings.Workers (lit≤ tt) (lit≤ tt) (λ v no. bad_number word (v ∷ []) (rw is (workers v no)))),
            ((λ is. path_tells N (setting_lift word (codes "dir") is refl) _), ((λ is. file_tells N (setting_lift word (codes "file") is refl) _), tt)),
          ),
        ),
      ),
    )
    (unknown_tells _ N)

plain_tells : (word : List ℕ) → FormTells (CommandTells word) (plain_command_of word)
unfolding RowTells plain_command_of
plain_tells word =
    let N = CommandTells word in
    table_tells N plain_forms unknown word (
      (λ is. alone_tells N _),
      ((λ is. alone_tells N _), ((λ is. alone_tells N _), ((λ is. alone_tells N _), ((λ is. alone_tells N _), ((λ is. alone_tells N _), tt))))),
    )
    (unknown_tells _ N)

input_command_tells : (word : List ℕ) → FormTells (CommandTells word) (input_command_of word)
unfolding RowTells input_command_of
input_command_tells word =
    let N = CommandTells word in
    table_tells N input_forms (plain_command_of word) word (
      (λ is. input_tells N (command_input_lift word (codes "print") is refl) _),
      ((λ is. input_tells N (command_input_lift word (codes "build") is refl) _), tt),
    )
    (plain_tells word)

path_command_tells : (word : List ℕ) → FormTells (CommandTells word) (path_command_of word)
unfolding RowTells path_command_of
path_command_tells word =
    let N = CommandTells word in
    table_tells N path_forms (input_command_of word) word (
      (λ is. path_tells N (command_lift word (codes "event") is refl) _),
      (
        (λ is. path_tells N (command_lift word (codes "begin") is refl) _),
        (
          (λ is. path_tells N (command_lift word (codes "scan") is refl) _),
          (
            (λ is. path_tells N (command_lift word (codes "find") is refl) _),
            ((λ is. path_tells N (command_lift word (codes "kind") is refl) _), ((λ is. path_tells N (command_lift word (codes "version") is refl) _), tt)),
          ),
        ),
      ),
    )
    (input_command_tells word)

command_tells : (word : List ℕ) → FormTells (CommandTells word) (command_of word)
unfolding RowTells command_of
command_tells word =
    let N = CommandTells word in
    table_tells N edit_forms (path_command_of word) word (
      (λ is. file_tells N (command_lift word (codes "write") is refl) _),
      (
        (λ is. path_tells N (command_lift word (codes "mkdir") is refl) _),
        ((λ is. path_tells N (command_lift word (codes "remove") is refl) _), ((λ is. two_path_tells N (command_lift word (codes "move") is refl) _), tt)),
      ),
    )
    (path_command_tells word)

-- what a form tells holds in the words of the grammar, or is what N says, where each of its words is read
TellsTrue : {X : Type 0} → (X → List (List ℕ) → Type 0) → (Cause → List (List ℕ) → Type 0) → List ℕ → List (List ℕ) → Cause → Type 0
TellsTrue IsForm N word args c = N c args ⊎ HoldsOfWords IsForm (word ∷ args) c

tells_holds : {X : Type 0} (N : Cause → List (List ℕ) → Type 0) (IsForm : X → List (List ℕ) → Type 0) (form : Form X) (word : List ℕ) → ((x : X) (args : List (List ℕ)) → IsForm x (word ∷ args) → form args ≡ Ok x) → ((x : X) (args : List (List ℕ)) → form args ≡ Ok x → IsForm x (word ∷ args))
    → (args : List (List ℕ)) (c : Cause) → Tells N form args c → TellsTrue IsForm N word args c
unfolding TellsTrue
tells_holds N IsForm form word again is args UnknownWord t = inr (λ x other h. let e = again x other h in let f = t other in absurd cc)
tells_holds N IsForm form word again is args WrongCount t = inr (λ x other h same. let e = again x other h in let f = t.0 other same in absurd cc, λ no. no t.1.1 t.1.0 (is t.1.1 t.1.0 t.1.2))
tells_holds N IsForm form word again is args c t = inl t

-- ---- lines

setting_holds_by : (s : Script) (text word : List ℕ) (args : List (List ℕ)) (c : Cause) → words_of text ≡ Ok (codes "set" ∷ word ∷ args) → s.lines ≡ [] → TellsTrue IsOpening (SettingTells word) word args c → Holds s text c
unfolding TellsTrue SettingTells
setting_holds_by s text word args c w bare (inl (inl bad)) = subst (λ (d : Cause). Holds s text d) bad.0 (number (word ∷ args) w bare bad.1)
setting_holds_by s text word args c w bare (inl (inr h)) = setting (word ∷ args) c w bare h
setting_holds_by s text word args c w bare (inr h) = setting (word ∷ args) c w bare h

repeated_holds : (s : Script) (text : List ℕ) (more : List (List ℕ)) (o : Opening) (c : Cause) (b : Bool) → words_of text ≡ Ok (codes "set" ∷ more) → s.lines ≡ [] → IsOpening o more → list_any (is_same_setting o) s.opening ≡ b
    → cond b (Err Repeated) (Ok (with_opening s o)) ≡ Err c → Holds s text c
repeated_holds s text more o c true w bare is any e = subst (λ (d : Cause). Holds s text d) (err_is Script Repeated c e) (repeated more o w bare is (any_some (is_same_setting o) s.opening any))
repeated_holds s text more o c false w bare is any e = absurd cc

setting_holds : (s : Script) (text : List ℕ) (more : List (List ℕ)) (c : Cause) → words_of text ≡ Ok (codes "set" ∷ more) → s.lines ≡ [] → with_setting s more ≡ Err c → Holds s text c
setting_holds s text [] c w bare e = setting [] c w bare (sym (err_is Script WrongCount c e))
setting_holds s text (word ∷ args) c w bare e =
    elim (bind_err (opening_of word args) (λ o. cond (list_any (is_same_setting o) s.opening) (Err Repeated) (Ok (with_opening s o))) c e) [
      | inl bad ↦ setting_holds_by s text word args c w bare (
          tells_holds (SettingTells word) IsOpening (opening_of word) word (λ o other h. opening_again o word other h) (λ o other h. opening_is word other o h) args c (opening_tells word args c bad)
          )
      | inr good ↦ repeated_holds s text (word ∷ args) good.0 c (list_any (is_same_setting good.0) s.opening) w bare (opening_is word args good.0 good.1) refl good.2
    ]

command_holds_by : (word : List ℕ) (args : List (List ℕ)) (c : Cause) → TellsTrue IsCommand (CommandTells word) word args c → HoldsOfWords IsCommand (word ∷ args) c
unfolding TellsTrue CommandTells
command_holds_by word args c (inl h) = h
command_holds_by word args c (inr h) = h

command_holds : (kind : TextKind) (s : Script) (n : ℕ) (more : List (List ℕ)) (c : Cause) → with_command kind s n more ≡ Err c → HoldsOfWords IsCommand more c
command_holds kind s n [] c e = sym (err_is Script WrongCount c e)
command_holds Replay s n (word ∷ args) c e =
    command_holds_by word args c (
    tells_holds (CommandTells word) IsCommand (command_of word) word (λ x other h. command_again x word other h) (λ x other h. command_is word other x h) args c
    (command_tells word args c (only_first (command_of word args) (λ x. with_line s (record { caller = n; command = x })) c e))
    )

record IsNoCaller (o : Option ℕ) (c : Cause) : Type 0 where
  is : BadCaller ≡ c
  none : (n : ℕ) → n ≤ 15 → o ≡ Some n → ⊥

caller_err_by : (m : ℕ) (c : Cause) (b : Bool) → leb m 15 ≡ b → cond b (Ok m) (Err BadCaller) ≡ Err c → IsNoCaller (Some m) c
caller_err_by m c true is e = absurd cc
caller_err_by m c false is e = record { is = err_is ℕ BadCaller c e; none = λ n le same. let k : m ≡ n = cc in let over = leb-false m 15 is in absurd (omega arith) }

caller_err : (o : Option ℕ) (c : Cause) → caller_from o ≡ Err c → IsNoCaller o c
caller_err None c e = record { is = err_is ℕ BadCaller c e; none = λ n le same. absurd cc }
caller_err (Some m) c e = caller_err_by m c (leb m 15) refl e

late_holds : (s : Script) (text : List ℕ) (more : List (List ℕ)) (c : Cause) (b : Bool) → words_of text ≡ Ok (codes "set" ∷ more) → eqb (length s.lines) 0 ≡ b → cond b (with_setting s more) (Err LateSetting) ≡ Err c → Holds s text c
late_holds s text more c true w is e = setting_holds s text more c w (none_of s.lines is) e
late_holds s text more c false w is e = subst (λ (d : Cause). Holds s text d) (err_is Script LateSetting c e) (late more w (λ none. let k : eqb (length s.lines) 0 ≡ true = rw none refl in absurd cc))

first_holds : (kind : TextKind) (s : Script) (text first : List ℕ) (more : List (List ℕ)) (c : Cause) (b : Bool) → words_of text ≡ Ok (first ∷ more) → Decides b (first ≡ codes "set")
    → cond b (cond (eqb (length s.lines) 0) (with_setting s more) (Err LateSetting)) (caller_from (number_of first) >>= λ n. with_command kind s n more) ≡ Err c → Holds s text c
first_holds kind s text first more c true w d e = late_holds s text more c (eqb (length s.lines) 0) (subst (λ (f : List ℕ). words_of text ≡ Ok (f ∷ more)) (d.0 refl) w) refl e
first_holds kind s text first more c false w d e =
    elim (bind_err (caller_from (number_of first)) (λ n. with_command kind s n more) c e) [
      | inl bad ↦ let h = caller_err (number_of first) c bad in subst (λ (x : Cause). Holds s text x) h.is (caller first more w (λ same. let k = d.1 same in absurd cc) (λ n le same. h.none n le (ap number_of same ∙ number_of_decimal n (omega arith))))
      | inr good ↦ command_after kind s text first more c good.0 w (caller_ok (number_of first) good.0 good.1) good.2
    ]
  where
    caller_ok : (o : Option ℕ) (n : ℕ) → caller_from o ≡ Ok n → (o ≡ Some n) × (n ≤ 15)
    caller_ok o n e = caller_is o n e

    command_after : (kind : TextKind) (s : Script) (text first : List ℕ) (more : List (List ℕ)) (c : Cause) (n : ℕ) → words_of text ≡ Ok (first ∷ more) → (number_of first ≡ Some n) × (n ≤ 15) → with_command kind s n more ≡ Err c → Holds s text c
    command_after kind s text first more c n w h e = command n more c (subst (λ (f : List ℕ). words_of text ≡ Ok (f ∷ more)) (decimal_of_number first n h.0).0 w) h.1 (command_holds kind s n more c e)

-- a line has a word
values_some : (w : List ℕ) (ws : List (List ℕ)) → values_of (w ∷ ws) ≡ Ok [] → ⊥
unfolding values_of
values_some w ws e =
    let b = bind_ok (value_of w) (λ v. values_of ws >>= λ vs. Ok (v ∷ vs)) [] e in
    let d = bind_ok (values_of ws) (λ vs. Ok (b.0 ∷ vs)) [] b.2 in
    let f : done (b.0 ∷ d.0) ≡ done [] = d.2 in absurd (let g = ok_is (b.0 ∷ d.0) [] f in cc)

some_by : (parts : List (List ℕ)) (w : List ℕ) (ws : List (List ℕ)) (b : Bool) → parts ≡ w ∷ ws → cond b (Err EmptyWord) (values_of parts) ≡ Ok [] → ⊥
some_by parts w ws true is e = absurd cc
some_by parts w ws false is e = values_some w ws (rw is at e)

some_words : (text : List ℕ) → words_of text ≡ Ok [] → ⊥
unfolding words_of
some_words text e =
    let c = split_some (λ x. eqb x 32) text in
    some_by (slice_split (λ x. eqb x 32) text) c.0 c.1 (list_any is_empty (slice_split (λ x. eqb x 32) text)) c.2 e

with_words_holds : (kind : TextKind) (s : Script) (text : List ℕ) (words : List (List ℕ)) (c : Cause) → words_of text ≡ Ok words → with_words kind s words ≡ Err c → Holds s text c
unfolding with_words
with_words_holds kind s text [] c w e = absurd (some_words text w)
with_words_holds kind s text (first ∷ more) c w e = first_holds kind s text first more c (bytes_eq first (codes "set")) w (bytes_eq-Decides first (codes "set")) e

line_holds : (kind : TextKind) (s : Script) (text : List ℕ) (c : Cause) (b : Bool) → is_note text ≡ b → cond b (Ok s) (words_of text >>= λ words. with_words kind s words) ≡ Err c → (is_note text ≡ false) × Holds s text c
line_holds kind s text c true is e = absurd cc
line_holds kind s text c false is e =
    elim (bind_err (words_of text) (λ words. with_words kind s words) c e) [
      | inl bad ↦ (is, words_err s text c bad)
      | inr good ↦ (is, with_words_holds kind s text good.0 c good.1 good.2)
    ]

pub cause_holds : (kind : TextKind) (s : Script) (text : List ℕ) (c : Cause) → after_line kind s text ≡ Err c → (is_note text ≡ false) × Holds s text c
unfolding after_line
cause_holds kind s text c e = line_holds kind s text c (is_note text) refl e
