-- The forms of lines: what is read is of its form, and what is of a form is read.
use Rattle.std.proofs.Common.{◌≡◌, ℕ, ◌≤◌, Bool, true, false, cond, ltb, leb, ◌&&◌, List, [], ◌∷◌, ◌++◌, length, take, drop, map, Option, Some, None, Result, Ok, Err, refl, sym, ap, ◌∙◌, subst, arith, inl, inr, ◌⊎◌, lit≤, Decides}
use Rattle.std.specs.Prelude.{codes}
use Rattle.std.specs.Str.{bytes_eq}
use Rattle.std.specs.List.{AllByRecursion}
use Rattle.std.specs.Fmt.{decimal}
use Rattle.std.proofs.lemmas.Bool.{ltb-false, le-ltb, leb-true, le-leb}
use Rattle.std.proofs.lemmas.List.{length-map, take-append-drop}
use Rattle.std.proofs.lemmas.Slice.Eq.{bytes_eq-Decides}
use Rattle.vfs_model.specs.declared.Case.{Case as NameCase}
use Rattle.vfs_model.specs.declared.Case.TheVariants.{Sensitive, Insensitive}
use Rattle.vfs_model.specs.Paths.{Path}
use Rattle.vfs_path.specs.declared.error.PathError.{PathError}
use Rattle.vfs_path.specs.Texts.{IsPath, path_of, path_text}
use Rattle.world_model.specs.declared.edit.Edit.TheVariants.{Write, Mkdir, Remove, Move}
use Rattle.fingerprint_norms.specs.declared.input.Input.{Input}
use Rattle.fingerprint_norms.specs.declared.input.Sensitivity.{Sensitivity}
use Rattle.fingerprint_norms.specs.declared.input.Sensitivity.TheVariants.{Absolute, Relative, NameOnly, Ignored}
use Rattle.script_text.specs.declared.cause.Cause.{Cause}
use Rattle.script_text.specs.declared.cause.Cause.TheVariants as causes
use Rattle.script_text.specs.declared.script.Opening.{Opening}
use Rattle.script_text.specs.declared.script.Opening.TheVariants.{Case, Queue, Places, Workers, Dir, File}
use Rattle.script_text.specs.declared.script.Command.{Command}
use Rattle.script_text.specs.declared.script.Command.TheVariants.{Edit, Event, Lose, Deliver, Settle, Begin, Read, Publish, Abandon, Scan, Find, KindOf, VersionOf, Print, Build}
use Rattle.script_text.specs.Steps.{◌>>=◌, all_from}
use Rattle.script_reader.specs.Numbers.{number_of}
use Rattle.script_reader.specs.Forms.{Form, or_bad_path, path_from, content_from, file_from, within, case_from, no_more, one_path, two_paths, one_file, one_number, one_case, alone, with_path, with_two_paths, with_file, with_number, with_case, behind, cut_or, cut_input, input_with, input_from, some_inputs, with_inputs, form_named, unknown, opening_forms, plain_forms, input_forms, edit_forms, path_forms, opening_of, plain_command_of, input_command_of, path_command_of, command_of}
use Rattle.script_text.specs.Grammar.{IsFileForm, IsPathForm, IsTwoPathForm, IsNumberForm, case_word, IsCaseForm, sensitivity_word, input_word, IsInputsForm, IsOpening, IsCommand}
use Rattle.script_text.proofs.Digits.{both}
use Rattle.script_reader.proofs.NumberLemmas.{decimal_of_number, number_of_decimal}
use Rattle.vfs_path.proofs.TextLaws.{path_text-from_text, IsPath-from_text, path_of-path_text}

-- ---- steps that did not fail

pub bind_ok : {A B : Type 0} (r : Result A Cause) (f : A → Result B Cause) (y : B) → (r >>= f) ≡ Ok y → (x : A) × (r ≡ Ok x) × (f x ≡ Ok y)
bind_ok (Ok x) f y e = (x, refl, e)
bind_ok (Err d) f y e = absurd cc

abbrev pub done : {A : Type 0} → A → Result A Cause
done x = Ok x

pub ok_is : {A : Type 0} (x y : A) → done x ≡ done y → x ≡ y
ok_is x y e = cc

pub some_is : {A : Type 0} (x y : A) → Some x ≡ Some y → x ≡ y
some_is x y e = cc

pub guard_ok : {A : Type 0} (b : Bool) (d : Cause) (x : Result A Cause) (z : A) → cond b (Err d) x ≡ Ok z → (b ≡ false) × (x ≡ Ok z)
guard_ok true d x z e = absurd cc
guard_ok false d x z e = (refl, e)

pub passed_ok : {A : Type 0} (b : Bool) (d : Cause) (x : Result A Cause) (z : A) → cond b x (Err d) ≡ Ok z → (b ≡ true) × (x ≡ Ok z)
passed_ok true d x z e = (refl, e)
passed_ok false d x z e = absurd cc

-- two lists with equal heads and equal rests
cons_same : {X : Type 0} (x y : X) (xs ys : List X) → x ≡ y → xs ≡ ys → x ∷ xs ≡ y ∷ ys
cons_same x y xs ys p q = cc

-- a word and the words after it
parts_of : {X : Type 0} (x y : X) (xs ys : List X) → x ∷ xs ≡ y ∷ ys → (x ≡ y) × (xs ≡ ys)
parts_of x y xs ys e = (cc, cc)

-- ---- what may stand after the second word

no_refusal : (r : Result Path PathError) (path : Path) → or_bad_path r ≡ Ok path → r ≡ Ok path
no_refusal (Ok p) path e = cc
no_refusal (Err refusal) path e = absurd cc

path_from_is : (word : List ℕ) (path : Path) → path_from word ≡ Ok path → (word ≡ path_text path) × IsPath path
path_from_is word path e =
    let read = no_refusal (path_of word) path e in
    (sym (path_text-from_text word path read), IsPath-from_text word path read)

pub path_from_again : (path : Path) → IsPath path → path_from (path_text path) ≡ Ok path
path_from_again path is = ap or_bad_path (path_of-path_text path is)

content_is : (word bytes : List ℕ) → content_from word ≡ Ok bytes → (word ≡ bytes) × (length bytes ≤ 1048576)
content_is word bytes e =
    let g = guard_ok (ltb 1048576 (length word)) causes.TooLarge (Ok word) bytes e in
    let same = ok_is word bytes g.1 in
    (same, subst (λ (v : List ℕ). length v ≤ 1048576) same (ltb-false _ _ g.0))

content_again : (bytes : List ℕ) → length bytes ≤ 1048576 → content_from bytes ≡ Ok bytes
content_again bytes le = rw (le-ltb 1048576 (length bytes) le) refl

one_path_is : (args : List (List ℕ)) (path : Path) → one_path args ≡ Ok path → (args ≡ path_text path ∷ []) × IsPath path
one_path_is [] path e = absurd cc
one_path_is (word ∷ []) path e = let i = path_from_is word path e in (ap (λ (v : List ℕ). v ∷ []) i.0, i.1)
one_path_is (word ∷ v ∷ more) path e = absurd cc

no_more_is : (args : List (List ℕ)) (u : Unit {0}) → no_more args ≡ Ok u → args ≡ []
no_more_is [] u e = refl
no_more_is (word ∷ more) u e = absurd cc

-- the words after the name of a form with two paths
abbrev PathWords : Path → Path → List (List ℕ) → Type 0
PathWords from to args = IsPath from × IsPath to × (args ≡ path_text from ∷ path_text to ∷ [])

two_paths_is : (args : List (List ℕ)) (a : Path × Path) → two_paths args ≡ Ok a → PathWords a.0 a.1 args
two_paths_is [] a e = absurd cc
two_paths_is (word ∷ []) a e = absurd cc
two_paths_is (word ∷ other ∷ []) a e =
    let b = bind_ok (path_from word) (λ from. path_from other >>= λ to. Ok (from, to)) a e in
    let d = bind_ok (path_from other) (λ to. Ok (b.0, to)) a b.2 in
    let i = path_from_is word b.0 b.1 in
    let j = path_from_is other d.0 d.1 in
    subst (λ (x : Path × Path). PathWords x.0 x.1 (word ∷ other ∷ [])) (ok_is (b.0, d.0) a d.2) (i.1, j.1, cons_same word (path_text b.0) (other ∷ []) (path_text d.0 ∷ []) i.0 (ap (λ (v : List ℕ). v ∷ []) j.0))
two_paths_is (word ∷ other ∷ v ∷ more) a e = absurd cc

two_paths_again : (from to : Path) (args : List (List ℕ)) → PathWords from to args → two_paths args ≡ Ok (from, to)
two_paths_again from to args h = rw (h.2, path_from_again from h.0, path_from_again to h.1) refl

-- the path and the contents that two words say
IsFileFrom : List ℕ → List ℕ → Path → List ℕ → Type 0
IsFileFrom word bytes path content = IsPath path × (length content ≤ 1048576) × (word ≡ path_text path) × (bytes ≡ content)

file_from_is : (word bytes : List ℕ) (a : Path × List ℕ) → file_from word bytes ≡ Ok a → IsFileFrom word bytes a.0 a.1
unfolding IsFileFrom
file_from_is word bytes a e =
    let b = bind_ok (path_from word) (λ path. content_from bytes >>= λ content. Ok (path, content)) a e in
    let d = bind_ok (content_from bytes) (λ content. Ok (b.0, content)) a b.2 in
    let i = path_from_is word b.0 b.1 in
    let j = content_is bytes d.0 d.1 in
    subst (λ (x : Path × List ℕ). IsFileFrom word bytes x.0 x.1) (ok_is (b.0, d.0) a d.2) (i.1, j.1, i.0, j.0)

file_from_again : (path : Path) (bytes : List ℕ) → IsPath path → length bytes ≤ 1048576 → file_from (path_text path) bytes ≡ Ok (path, bytes)
file_from_again path bytes is fits = rw (path_from_again path is, content_again bytes fits) refl

-- the words after the name of a form with a file
abbrev FileWords : Path → List ℕ → List (List ℕ) → Type 0
FileWords path bytes args = IsPath path × (length bytes ≤ 1048576) × ((args ≡ path_text path ∷ bytes ∷ []) ⊎ ((bytes ≡ []) × (args ≡ path_text path ∷ [])))

one_file_is : (args : List (List ℕ)) (a : Path × List ℕ) → one_file args ≡ Ok a → FileWords a.0 a.1 args
unfolding IsFileFrom
one_file_is [] a e = absurd cc
one_file_is (word ∷ []) a e = let i = file_from_is word [] a e in (i.0, i.1, inr (sym i.3, ap (λ (v : List ℕ). v ∷ []) i.2))
one_file_is (word ∷ bytes ∷ []) a e = let i = file_from_is word bytes a e in (i.0, i.1, inl (cons_same word (path_text a.0) (bytes ∷ []) (a.1 ∷ []) i.2 (ap (λ (v : List ℕ). v ∷ []) i.3)))
one_file_is (word ∷ bytes ∷ v ∷ more) a e = absurd cc

one_file_again : (path : Path) (bytes : List ℕ) (args : List (List ℕ)) → FileWords path bytes args → one_file args ≡ Ok (path, bytes)
one_file_again path bytes args h =
    elim h.2 [
      | inl e ↦ rw e (file_from_again path bytes h.0 h.1)
      | inr e ↦ rw (e.1, e.0) (file_from_again path [] h.0 (lit≤ tt))
    ]

-- the number that an option holds, from 1 to the limit
within_is : (limit n : ℕ) (o : Option ℕ) → within limit o ≡ Ok n → (o ≡ Some n) × (1 ≤ n) × (n ≤ limit)
within_is limit n None e = absurd cc
within_is limit n (Some m) e =
    let g = passed_ok (leb 1 m && leb m limit) causes.BadNumber (Ok m) n e in
    let same = ok_is m n g.1 in
    let b = both (leb 1 m) (leb m limit) g.0 in
    (ap (λ (k : ℕ). Some k) same, subst (λ (k : ℕ). 1 ≤ k) same (leb-true 1 m b.0), subst (λ (k : ℕ). k ≤ limit) same (leb-true m limit b.1))

-- the words after the name of a form with a number
abbrev NumberWords : ℕ → ℕ → List (List ℕ) → Type 0
NumberWords limit n args = (1 ≤ n) × (n ≤ limit) × (args ≡ decimal n ∷ [])

one_number_is : (limit : ℕ) (args : List (List ℕ)) (n : ℕ) → one_number limit args ≡ Ok n → NumberWords limit n args
one_number_is limit [] n e = absurd cc
one_number_is limit (word ∷ []) n e =
    let w = within_is limit n (number_of word) e in
    (w.1, w.2, ap (λ (v : List ℕ). v ∷ []) (decimal_of_number word n w.0).0)
one_number_is limit (word ∷ v ∷ more) n e = absurd cc

one_number_again : (limit n : ℕ) (args : List (List ℕ)) → limit ≤ 65536 → NumberWords limit n args → one_number limit args ≡ Ok n
one_number_again limit n args few h = let le = h.1 in rw (h.2, number_of_decimal n (omega arith), le-leb 1 n h.0, le-leb n limit le) refl

case_by : (word : List ℕ) (case : NameCase) (a b : Bool) → Decides a (word ≡ codes "sensitive") → Decides b (word ≡ codes "insensitive") → cond a (Ok Sensitive) (cond b (Ok Insensitive) (Err causes.BadNumber)) ≡ Ok case
    → word ≡ case_word case
case_by word case true b d i e = subst (λ (k : NameCase). word ≡ case_word k) (ok_is Sensitive case e) (d.0 refl)
case_by word case false true d i e = subst (λ (k : NameCase). word ≡ case_word k) (ok_is Insensitive case e) (i.0 refl)
case_by word case false false d i e = absurd cc

case_from_is : (word : List ℕ) (case : NameCase) → case_from word ≡ Ok case → word ≡ case_word case
case_from_is word case e = case_by word case (bytes_eq word (codes "sensitive")) (bytes_eq word (codes "insensitive")) (bytes_eq-Decides word (codes "sensitive")) (bytes_eq-Decides word (codes "insensitive")) e

case_from_again : (case : NameCase) → case_from (case_word case) ≡ Ok case
case_from_again Sensitive = refl
case_from_again Insensitive = refl

one_case_is : (args : List (List ℕ)) (case : NameCase) → one_case args ≡ Ok case → args ≡ case_word case ∷ []
one_case_is [] case e = absurd cc
one_case_is (word ∷ []) case e = ap (λ (v : List ℕ). v ∷ []) (case_from_is word case e)
one_case_is (word ∷ v ∷ more) case e = absurd cc

one_case_again : (args : List (List ℕ)) (case : NameCase) → args ≡ case_word case ∷ [] → one_case args ≡ Ok case
one_case_again args case h = rw h (case_from_again case)

-- the word has the front, and this behind it
behind_is : (front word text : List ℕ) → behind front word ≡ Some text → word ≡ front ++ text
behind_is front word text e = by (bytes_eq (take (length front) word) front) (bytes_eq-Decides (take (length front) word) front) e
  where
    by : (b : Bool) → Decides b (take (length front) word ≡ front) → cond b (Some (drop (length front) word)) None ≡ Some text → word ≡ front ++ text
    by true d h = let same : drop (length front) word ≡ text = some_is _ _ h in sym (take-append-drop (length front) word) ∙ (λ i. d.0 refl i ++ same i)
    by false d h = absurd cc

-- what an input's word begins with, and what stands behind that
pub cut_is : (word : List ℕ) (parts : Sensitivity × List ℕ) → cut_input word ≡ Some parts → word ≡ sensitivity_word parts.0 ++ parts.1
cut_is word parts e =
    step Absolute (behind (codes "abs:") word) _ refl
    (step Relative (behind (codes "rel:") word) _ refl
    (step NameOnly (behind (codes "name:") word) _ refl
    (step Ignored (behind (codes "none:") word) None refl (λ h. absurd cc))))
    e
  where
    step : (s : Sensitivity) (o : Option (List ℕ)) (other : Option (Sensitivity × List ℕ)) → behind (sensitivity_word s) word ≡ o → (other ≡ Some parts → word ≡ sensitivity_word parts.0 ++ parts.1)
        → cut_or s o other ≡ Some parts → word ≡ sensitivity_word parts.0 ++ parts.1
    step s None other is later h = later h
    step s (Some text) other is later h =
        subst (λ (p : Sensitivity × List ℕ). word ≡ sensitivity_word p.0 ++ p.1) (some_is (s, text) parts h) (behind_is (sensitivity_word s) word text is)

pub cut_again : (s : Sensitivity) (text : List ℕ) → cut_input (sensitivity_word s ++ text) ≡ Some (s, text)
cut_again Absolute text = refl
cut_again Relative text = refl
cut_again NameOnly text = refl
cut_again Ignored text = refl

input_with_is : (o : Option (Sensitivity × List ℕ)) (i : Input) → input_with o ≡ Ok i → (o ≡ Some (i.sensitivity, path_text i.root)) × IsPath i.root
input_with_is None i e = absurd cc
input_with_is (Some parts) i e =
    let b = bind_ok (path_from parts.1) (λ root. Ok (record { root = root; sensitivity = parts.0 })) i e in
    let read = path_from_is parts.1 b.0 b.1 in
    let made : Input = record { root = b.0; sensitivity = parts.0 } in
    subst (λ (j : Input). (Some parts ≡ Some (j.sensitivity, path_text j.root)) × IsPath j.root) (ok_is made i b.2) (ap (λ (t : List ℕ). Some (parts.0, t)) read.0, read.1)

input_is : (word : List ℕ) (i : Input) → input_from word ≡ Ok i → (word ≡ input_word i) × IsPath i.root
input_is word i e = let h = input_with_is (cut_input word) i e in (cut_is word (i.sensitivity, path_text i.root) h.0, h.1)

pub input_again : (i : Input) → IsPath i.root → input_from (input_word i) ≡ Ok i
input_again i is = rw (cut_again i.sensitivity (path_text i.root), path_from_again i.root is) refl

all_inputs_are : (args : List (List ℕ)) (inputs : List Input) → all_from input_from args ≡ Ok inputs → (args ≡ map input_word inputs) × AllByRecursion (λ (i : Input). IsPath i.root) inputs
all_inputs_are [] inputs e = subst (λ (is : List Input). ([] ≡ map input_word is) × AllByRecursion (λ (i : Input). IsPath i.root) is) (ok_is [] inputs e) (refl, tt)
all_inputs_are (word ∷ args) inputs e =
    let b = bind_ok (input_from word) (λ i. all_from input_from args >>= λ is. Ok (i ∷ is)) inputs e in
    let d = bind_ok (all_from input_from args) (λ is. Ok (b.0 ∷ is)) inputs b.2 in
    let one = input_is word b.0 b.1 in
    let rest = all_inputs_are args d.0 d.1 in
    subst (λ (is : List Input). (word ∷ args ≡ map input_word is) × AllByRecursion (λ (i : Input). IsPath i.root) is) (ok_is (b.0 ∷ d.0) inputs d.2)
    (cons_same word (input_word b.0) args (map input_word d.0) one.0 rest.0, (one.1, rest.1))

all_inputs_again : (inputs : List Input) → AllByRecursion (λ (i : Input). IsPath i.root) inputs → all_from input_from (map input_word inputs) ≡ Ok inputs
all_inputs_again [] h = refl
all_inputs_again (i ∷ inputs) h = rw (input_again i h.0, all_inputs_again inputs h.1) refl

-- the words after the name of a form with inputs
abbrev InputWords : List Input → List (List ℕ) → Type 0
InputWords inputs args = (1 ≤ length inputs) × (length inputs ≤ 64) × AllByRecursion (λ (i : Input). IsPath i.root) inputs × (args ≡ map input_word inputs)

some_inputs_are : (args : List (List ℕ)) (inputs : List Input) → some_inputs args ≡ Ok inputs → InputWords inputs args
some_inputs_are args inputs e =
    let g = passed_ok (leb 1 (length args) && leb (length args) 64) causes.WrongCount (all_from input_from args) inputs e in
    let b = both (leb 1 (length args)) (leb (length args) 64) g.0 in
    let h = all_inputs_are args inputs g.1 in
    let same : length args ≡ length inputs = ap length h.0 ∙ length-map inputs input_word in
    (subst (λ (n : ℕ). 1 ≤ n) same (leb-true 1 (length args) b.0), subst (λ (n : ℕ). n ≤ 64) same (leb-true (length args) 64 b.1), h.1, h.0)

some_inputs_again : (inputs : List Input) (args : List (List ℕ)) → InputWords inputs args → some_inputs args ≡ Ok inputs
some_inputs_again inputs args h =
    let same : length (map input_word inputs) ≡ length inputs = length-map inputs input_word in
    rw (h.3, same, le-leb 1 (length inputs) h.0, le-leb (length inputs) 64 h.1) (all_inputs_again inputs h.2)

-- ---- rows of a table

-- the row of the word, or a later one
row : {X : Type 0} (word name : List ℕ) (here later : Result X Cause) (x : X) → cond (bytes_eq word name) here later ≡ Ok x → ((word ≡ name) × (here ≡ Ok x)) ⊎ (later ≡ Ok x)
row word name here later x e = row_by (bytes_eq word name) (bytes_eq-Decides word name) e
  where
    row_by : (b : Bool) → Decides b (word ≡ name) → cond b here later ≡ Ok x → ((word ≡ name) × (here ≡ Ok x)) ⊎ (later ≡ Ok x)
    row_by true d e = inl (d.0 refl, e)
    row_by false d e = inr e

-- what a row reads is of its form
RowIs : {X : Type 0} (Is : X → List (List ℕ) → Type 0) → List ℕ × Form X → Type 0
RowIs {X} Is r = (word : List ℕ) (args : List (List ℕ)) (x : X) → word ≡ r.0 → r.1 args ≡ Ok x → Is x (word ∷ args)

-- what a form reads is of it, whatever the name
OtherIs : {X : Type 0} (Is : X → List (List ℕ) → Type 0) → List ℕ → Form X → Type 0
OtherIs {X} Is word other = (args : List (List ℕ)) (x : X) → other args ≡ Ok x → Is x (word ∷ args)

table_is : {X : Type 0} (Is : X → List (List ℕ) → Type 0) (rows : List (List ℕ × Form X)) (other : Form X) (word : List ℕ) → AllByRecursion (RowIs Is) rows → OtherIs Is word other
    → (args : List (List ℕ)) (x : X) → form_named rows other word args ≡ Ok x → Is x (word ∷ args)
unfolding RowIs OtherIs
table_is Is [] other word each last args x e = last args x e
table_is Is (r ∷ rows) other word each last args x e =
    elim (row word r.0 (r.1 args) (form_named rows other word args) x e) [
      | inl h ↦ each.0 word args x h.0 h.1
      | inr later ↦ table_is Is rows other word each.1 last args x later
    ]

unknown_is : {X : Type 0} (Is : X → List (List ℕ) → Type 0) (word : List ℕ) → OtherIs Is word unknown
unfolding OtherIs
unknown_is Is word args x e = absurd cc

path_row : {X : Type 0} (Is : X → List (List ℕ) → Type 0) (name : List ℕ) (make : Path → X) → ((path : Path) (words : List (List ℕ)) → IsPathForm name path words → Is (make path) words) → RowIs Is (name, with_path make)
unfolding RowIs
path_row Is name make is word args x w e =
    let b = bind_ok (one_path args) (λ path. Ok (make path)) x e in
    let i = one_path_is args b.0 b.1 in
    subst (λ (y : _). Is y (word ∷ args)) (ok_is (make b.0) x b.2) (is b.0 (word ∷ args) (i.1, cons_same word name args (path_text b.0 ∷ []) w i.0))

two_path_row : {X : Type 0} (Is : X → List (List ℕ) → Type 0) (name : List ℕ) (make : Path → Path → X) → ((from to : Path) (words : List (List ℕ)) → IsTwoPathForm name from to words → Is (make from to) words) → RowIs Is (name, with_two_paths make)
unfolding RowIs
two_path_row Is name make is word args x w e =
    let b = bind_ok (two_paths args) (λ a. Ok (make a.0 a.1)) x e in
    let i = two_paths_is args b.0 b.1 in
    subst (λ (y : _). Is y (word ∷ args)) (ok_is (make b.0.0 b.0.1) x b.2) (is b.0.0 b.0.1 (word ∷ args) (i.0, i.1, cons_same word name args (path_text b.0.0 ∷ path_text b.0.1 ∷ []) w i.2))

file_row : {X : Type 0} (Is : X → List (List ℕ) → Type 0) (name : List ℕ) (make : Path → List ℕ → X) → ((path : Path) (bytes : List ℕ) (words : List (List ℕ)) → IsFileForm name path bytes words → Is (make path bytes) words) → RowIs Is (name, with_file make)
unfolding RowIs
file_row Is name make is word args x w e =
    let b = bind_ok (one_file args) (λ a. Ok (make a.0 a.1)) x e in
    let i = one_file_is args b.0 b.1 in
    let words : (word ∷ args ≡ name ∷ path_text b.0.0 ∷ b.0.1 ∷ []) ⊎ ((b.0.1 ≡ []) × (word ∷ args ≡ name ∷ path_text b.0.0 ∷ [])) =
    elim i.2 [ inl f ↦ inl (cons_same word name args (path_text b.0.0 ∷ b.0.1 ∷ []) w f) | inr f ↦ inr (f.0, cons_same word name args (path_text b.0.0 ∷ []) w f.1) ] in
    subst (λ (y : _). Is y (word ∷ args)) (ok_is (make b.0.0 b.0.1) x b.2) (is b.0.0 b.0.1 (word ∷ args) (i.0, i.1, words))

plain_row : {X : Type 0} (Is : X → List (List ℕ) → Type 0) (name : List ℕ) (it : X) → ((words : List (List ℕ)) → words ≡ name ∷ [] → Is it words) → RowIs Is (name, alone it)
unfolding RowIs
plain_row Is name it is word args x w e =
    let b = bind_ok (no_more args) (λ _. Ok it) x e in
    subst (λ (y : _). Is y (word ∷ args)) (ok_is it x b.2) (is (word ∷ args) (cons_same word name args [] w (no_more_is args b.0 b.1)))

number_row : {X : Type 0} (Is : X → List (List ℕ) → Type 0) (name : List ℕ) (limit : ℕ) (make : ℕ → X) → ((n : ℕ) (words : List (List ℕ)) → IsNumberForm name limit n words → Is (make n) words) → RowIs Is (name, with_number limit make)
unfolding RowIs
number_row Is name limit make is word args x w e =
    let b = bind_ok (one_number limit args) (λ n. Ok (make n)) x e in
    let i = one_number_is limit args b.0 b.1 in
    subst (λ (y : _). Is y (word ∷ args)) (ok_is (make b.0) x b.2) (is b.0 (word ∷ args) (i.0, i.1, cons_same word name args (decimal b.0 ∷ []) w i.2))

case_row : {X : Type 0} (Is : X → List (List ℕ) → Type 0) (name : List ℕ) (make : NameCase → X) → ((case : NameCase) (words : List (List ℕ)) → IsCaseForm name case words → Is (make case) words) → RowIs Is (name, with_case make)
unfolding RowIs
case_row Is name make is word args x w e =
    let b = bind_ok (one_case args) (λ case. Ok (make case)) x e in
    let i = one_case_is args b.0 b.1 in
    subst (λ (y : _). Is y (word ∷ args)) (ok_is (make b.0) x b.2) (is b.0 (word ∷ args) (cons_same word name args (case_word b.0 ∷ []) w i))

inputs_row : {X : Type 0} (Is : X → List (List ℕ) → Type 0) (name : List ℕ) (make : List Input → X) → ((inputs : List Input) (words : List (List ℕ)) → IsInputsForm name inputs words → Is (make inputs) words) → RowIs Is (name, with_inputs make)
unfolding RowIs
inputs_row Is name make is word args x w e =
    let b = bind_ok (some_inputs args) (λ inputs. Ok (make inputs)) x e in
    let i = some_inputs_are args b.0 b.1 in
    subst (λ (y : _). Is y (word ∷ args)) (ok_is (make b.0) x b.2) (is b.0 (word ∷ args) (i.0, i.1, i.2, cons_same word name args (map input_word b.0) w i.3))

-- ---- opening lines and commands, row by row

pub opening_is : (word : List ℕ) (args : List (List ℕ)) (opening : Opening) → opening_of word args ≡ Ok opening → IsOpening opening (word ∷ args)
unfolding opening_of
opening_is word =
    table_is IsOpening opening_forms unknown word (
      case_row IsOpening (codes "case") Case (λ case words h. h),
      (
        number_row IsOpening (codes "queue") 65536 Queue (λ n words h. h),
        (
          number_row IsOpening (codes "places") 65536 Places (λ n words h. h),
          (
            number_row IsOpening (codes "workers") 16 Workers (λ n words h. h),
            (
              path_row IsOpening (codes "dir") Dir (λ path words h. h),
              (
                file_row IsOpening (codes "file") File (λ path bytes words h. h),
                tt,
              ),
            ),
          ),
        ),
      ),
    )
    (unknown_is IsOpening word)

plain_command_is : (word : List ℕ) → OtherIs IsCommand word (plain_command_of word)
unfolding OtherIs plain_command_of
plain_command_is word =
    table_is IsCommand plain_forms unknown word (
      plain_row IsCommand (codes "lose") Lose (λ words h. h),
      (
        plain_row IsCommand (codes "deliver") Deliver (λ words h. h),
        (
          plain_row IsCommand (codes "settle") Settle (λ words h. h),
          (
            plain_row IsCommand (codes "read") Read (λ words h. h),
            (
              plain_row IsCommand (codes "publish") Publish (λ words h. h),
              (
                plain_row IsCommand (codes "abandon") Abandon (λ words h. h),
                tt,
              ),
            ),
          ),
        ),
      ),
    )
    (unknown_is IsCommand word)

input_command_is : (word : List ℕ) → OtherIs IsCommand word (input_command_of word)
unfolding OtherIs input_command_of
input_command_is word =
    table_is IsCommand input_forms (plain_command_of word) word (inputs_row IsCommand (codes "print") Print (λ inputs words h. h), (inputs_row IsCommand (codes "build") Build (λ inputs words h. h), tt))
    (plain_command_is word)

path_command_is : (word : List ℕ) → OtherIs IsCommand word (path_command_of word)
unfolding OtherIs path_command_of
path_command_is word =
    table_is IsCommand path_forms (input_command_of word) word (
      path_row IsCommand (codes "event") Event (λ path words h. h),
      (
        path_row IsCommand (codes "begin") Begin (λ path words h. h),
        (
          path_row IsCommand (codes "scan") Scan (λ path words h. h),
          (
            path_row IsCommand (codes "find") Find (λ path words h. h),
            (
              path_row IsCommand (codes "kind") KindOf (λ path words h. h),
              (
                path_row IsCommand (codes "version") VersionOf (λ path words h. h),
                tt,
              ),
            ),
          ),
        ),
      ),
    )
    (input_command_is word)

pub command_is : (word : List ℕ) (args : List (List ℕ)) (command : Command) → command_of word args ≡ Ok command → IsCommand command (word ∷ args)
unfolding command_of
command_is word =
    table_is IsCommand edit_forms (path_command_of word) word (
      file_row IsCommand (codes "write") (λ path bytes. Edit (Write path bytes)) (λ path bytes words h. h),
      (
        path_row IsCommand (codes "mkdir") (λ path. Edit (Mkdir path)) (λ path words h. h),
        (
          path_row IsCommand (codes "remove") (λ path. Edit (Remove path)) (λ path words h. h),
          (
            two_path_row IsCommand (codes "move") (λ from to. Edit (Move from to)) (λ from to words h. h),
            tt,
          ),
        ),
      ),
    )
    (path_command_is word)

-- ---- the other way

path_row_again : {X : Type 0} (name word : List ℕ) (args : List (List ℕ)) (make : Path → X) (path : Path) → IsPathForm name path (word ∷ args) → (word ≡ name) × (with_path make args ≡ Ok (make path))
path_row_again name word args make path h =
    let e = parts_of word name args (path_text path ∷ []) h.1 in
    (e.0, rw (e.1, path_from_again path h.0) refl)

two_path_row_again : {X : Type 0} (name word : List ℕ) (args : List (List ℕ)) (make : Path → Path → X) (from to : Path) → IsTwoPathForm name from to (word ∷ args) → (word ≡ name) × (with_two_paths make args ≡ Ok (make from to))
two_path_row_again name word args make from to h =
    let e = parts_of word name args (path_text from ∷ path_text to ∷ []) h.2 in
    (e.0, rw (two_paths_again from to args (h.0, h.1, e.1)) refl)

file_row_again : {X : Type 0} (name word : List ℕ) (args : List (List ℕ)) (make : Path → List ℕ → X) (path : Path) (bytes : List ℕ) → IsFileForm name path bytes (word ∷ args) → (word ≡ name) × (with_file make args ≡ Ok (make path bytes))
file_row_again name word args make path bytes h =
    elim h.2 [
      | inl e ↦ let f = parts_of word name args (path_text path ∷ bytes ∷ []) e in (f.0, rw (one_file_again path bytes args (h.0, h.1, inl f.1)) refl)
      | inr e ↦ let f = parts_of word name args (path_text path ∷ []) e.1 in (f.0, rw (one_file_again path bytes args (h.0, h.1, inr (e.0, f.1))) refl)
    ]

number_row_again : {X : Type 0} (name word : List ℕ) (args : List (List ℕ)) (limit : ℕ) (make : ℕ → X) (n : ℕ) → limit ≤ 65536 → IsNumberForm name limit n (word ∷ args) → (word ≡ name) × (with_number limit make args ≡ Ok (make n))
number_row_again name word args limit make n few h =
    let e = parts_of word name args (decimal n ∷ []) h.2 in
    (e.0, rw (one_number_again limit n args few (h.0, h.1, e.1)) refl)

case_row_again : {X : Type 0} (name word : List ℕ) (args : List (List ℕ)) (make : NameCase → X) (case : NameCase) → IsCaseForm name case (word ∷ args) → (word ≡ name) × (with_case make args ≡ Ok (make case))
case_row_again name word args make case h =
    let e = parts_of word name args (case_word case ∷ []) h in
    (e.0, rw (one_case_again args case e.1) refl)

inputs_row_again : {X : Type 0} (name word : List ℕ) (args : List (List ℕ)) (make : List Input → X) (inputs : List Input) → IsInputsForm name inputs (word ∷ args) → (word ≡ name) × (with_inputs make args ≡ Ok (make inputs))
inputs_row_again name word args make inputs h =
    let e = parts_of word name args (map input_word inputs) h.3 in
    (e.0, rw (some_inputs_again inputs args (h.0, h.1, h.2, e.1)) refl)

pub opening_again : (opening : Opening) (word : List ℕ) (args : List (List ℕ)) → IsOpening opening (word ∷ args) → opening_of word args ≡ Ok opening
unfolding opening_of
opening_again (Case case) word args h = let r = case_row_again (codes "case") word args Case case h in rw r.0 r.1
opening_again (Queue n) word args h = let r = number_row_again (codes "queue") word args 65536 Queue n (lit≤ tt) h in rw r.0 r.1
opening_again (Places n) word args h = let r = number_row_again (codes "places") word args 65536 Places n (lit≤ tt) h in rw r.0 r.1
opening_again (Workers n) word args h = let r = number_row_again (codes "workers") word args 16 Workers n (lit≤ tt) h in rw r.0 r.1
opening_again (Dir path) word args h = let r = path_row_again (codes "dir") word args Dir path h in rw r.0 r.1
opening_again (File path bytes) word args h = let r = file_row_again (codes "file") word args File path bytes h in rw r.0 r.1

pub command_again : (command : Command) (word : List ℕ) (args : List (List ℕ)) → IsCommand command (word ∷ args) → command_of word args ≡ Ok command
unfolding command_of path_command_of input_command_of plain_command_of
command_again (Edit (Write path bytes)) word args h = let r = file_row_again (codes "write") word args (λ p bs. Edit (Write p bs)) path bytes h in rw r.0 r.1
command_again (Edit (Mkdir path)) word args h = let r = path_row_again (codes "mkdir") word args (λ p. Edit (Mkdir p)) path h in rw r.0 r.1
command_again (Edit (Remove path)) word args h = let r = path_row_again (codes "remove") word args (λ p. Edit (Remove p)) path h in rw r.0 r.1
command_again (Edit (Move from to)) word args h = let r = two_path_row_again (codes "move") word args (λ p q. Edit (Move p q)) from to h in rw r.0 r.1
command_again (Event path) word args h = let r = path_row_again (codes "event") word args Event path h in rw r.0 r.1
command_again Lose word args h = let e = parts_of word (codes "lose") args [] h in rw (e.0, e.1) refl
command_again Deliver word args h = let e = parts_of word (codes "deliver") args [] h in rw (e.0, e.1) refl
command_again Settle word args h = let e = parts_of word (codes "settle") args [] h in rw (e.0, e.1) refl
command_again (Begin path) word args h = let r = path_row_again (codes "begin") word args Begin path h in rw r.0 r.1
command_again Read word args h = let e = parts_of word (codes "read") args [] h in rw (e.0, e.1) refl
command_again Publish word args h = let e = parts_of word (codes "publish") args [] h in rw (e.0, e.1) refl
command_again Abandon word args h = let e = parts_of word (codes "abandon") args [] h in rw (e.0, e.1) refl
command_again (Scan path) word args h = let r = path_row_again (codes "scan") word args Scan path h in rw r.0 r.1
command_again (Find path) word args h = let r = path_row_again (codes "find") word args Find path h in rw r.0 r.1
command_again (KindOf path) word args h = let r = path_row_again (codes "kind") word args KindOf path h in rw r.0 r.1
command_again (VersionOf path) word args h = let r = path_row_again (codes "version") word args VersionOf path h in rw r.0 r.1
command_again (Print inputs) word args h = let r = inputs_row_again (codes "print") word args Print inputs h in rw r.0 r.1
command_again (Build inputs) word args h = let r = inputs_row_again (codes "build") word args Build inputs h in rw r.0 r.1
