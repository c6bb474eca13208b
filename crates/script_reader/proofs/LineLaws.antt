-- What a line adds to a script, and what a line of a script is read as.
use Rattle.std.proofs.Common.{◌≡◌, ℕ, ◌^◌, ◌<◌, ◌≤◌, Bool, true, false, cond, eqb, leb, List, [], ◌∷◌, length, Option, Some, None, Ok, Err, refl, ap, subst, ◌∙◌, arith, inl, inr, Decides}
use Rattle.std.specs.Prelude.{codes}
use Rattle.std.specs.List.{list_any}
use Rattle.std.specs.Str.{bytes_eq, all_ascii_digits}
use Rattle.std.specs.Fmt.{decimal}
use Rattle.std.proofs.lemmas.Bool.{leb-true, le-leb, false≢true}
use Rattle.std.proofs.Math.Dec.{eqb-suc-zero}
use Rattle.vfs_model.specs.Paths.{Path}
use Rattle.std.proofs.lemmas.Slice.Eq.{bytes_eq-Decides}
use Rattle.world_model.specs.declared.edit.Edit.TheVariants.{Write, Mkdir, Remove, Move}
use Rattle.script_text.specs.declared.cause.Cause.TheVariants as causes
use Rattle.script_text.specs.declared.script.TextKind.{TextKind}
use Rattle.script_text.specs.declared.script.Opening.{Opening}
use Rattle.script_text.specs.declared.script.Opening.TheVariants.{Case, Queue, Places, Workers, Dir, File}
use Rattle.script_text.specs.declared.script.Command.{Command}
use Rattle.script_text.specs.declared.script.Command.TheVariants.{Edit, Event, Lose, Deliver, Settle, Begin, Read, Publish, Abandon, Scan, Find, KindOf, VersionOf, Print, Build}
use Rattle.script_text.specs.declared.script.Line.{Line}
use Rattle.script_text.specs.declared.script.Script.{Script}
use Rattle.script_text.specs.Steps.{◌>>=◌}
use Rattle.script_reader.specs.Numbers.{number_of}
use Rattle.script_text.specs.Words.{is_note, words_of}
use Rattle.script_text.specs.Set.{is_same_setting}
use Rattle.script_reader.specs.Forms.{opening_of, command_of}
use Rattle.script_text.specs.Grammar.{is_in, IsPathForm, IsFileForm, IsNumberForm, IsOpening, IsCommand, HasWords, IsOpeningLine, IsCommandLine}
use Rattle.script_reader.specs.Reading.{with_opening, with_line, caller_from, with_setting, with_command, with_words, after_line}
use Rattle.script_reader.proofs.NumberLemmas.{decimal_of_number, number_of_decimal}
use Rattle.script_text.proofs.Digits.{digits_of_decimal}
use Rattle.script_reader.proofs.Tables.{bind_ok, ok_is, guard_ok, passed_ok, opening_is, opening_again, command_is, command_again}

-- what a line adds
pub data LineAdds (kind : TextKind) (s : Script) (text : List ℕ) : Script → Type 0 where
  nothing : is_note text ≡ true → LineAdds kind s text s
  setting : (o : Opening) → IsOpeningLine text o → s.lines ≡ [] → list_any (is_same_setting o) s.opening ≡ false → LineAdds kind s text (with_opening s o)
  command : (l : Line) → IsCommandLine kind text l → LineAdds kind s text (with_line s l)

setting_adds : (kind : TextKind) (s : Script) (text : List ℕ) (more : List (List ℕ)) (now : Script) → HasWords text (codes "set" ∷ more) → s.lines ≡ [] → with_setting s more ≡ Ok now → LineAdds kind s text now
setting_adds kind s text [] now w first e = absurd cc
setting_adds kind s text (word ∷ args) now w first e =
    let b = bind_ok (opening_of word args) (λ o. cond (list_any (is_same_setting o) s.opening) (Err causes.Repeated) (Ok (with_opening s o))) now e in
    let g = guard_ok (list_any (is_same_setting b.0) s.opening) causes.Repeated (Ok (with_opening s b.0)) now b.2 in
    subst (λ (x : Script). LineAdds kind s text x) (ok_is (with_opening s b.0) now g.1) (setting b.0 (record { words = word ∷ args; spelled = w; form = opening_is word args b.0 b.1 }) first g.0)

-- the number of a caller
pub caller_is : (o : Option ℕ) (n : ℕ) → caller_from o ≡ Ok n → (o ≡ Some n) × (n ≤ 15)
caller_is None n e = absurd cc
caller_is (Some m) n e =
    let g = passed_ok (leb m 15) causes.BadCaller (Ok m) n e in
    let same = ok_is m n g.1 in
    (ap (λ (k : ℕ). Some k) same, subst (λ (k : ℕ). k ≤ 15) same (leb-true _ _ g.0))

command_adds : (kind : TextKind) (s : Script) (text first : List ℕ) (more : List (List ℕ)) (n : ℕ) (now : Script) → HasWords text (first ∷ more) → number_of first ≡ Some n → n ≤ 15 → with_command kind s n more ≡ Ok now → LineAdds kind s text now
command_adds kind s text first [] n now w number le e = absurd cc
command_adds kind s text first (word ∷ args) n now w number le e =
    let b = bind_ok (command_of word args) (λ c. cond (is_in kind c) (Ok (with_line s (record { caller = n; command = c }))) (Err causes.UnknownWord)) now e in
    let g = passed_ok (is_in kind b.0) causes.UnknownWord (Ok (with_line s (record { caller = n; command = b.0 }))) now b.2 in
    let spelled : HasWords text (decimal n ∷ word ∷ args) = subst (λ (f : List ℕ). HasWords text (f ∷ word ∷ args)) (decimal_of_number first n number).0 w in
    subst (λ (x : Script). LineAdds kind s text x) (ok_is (with_line s (record { caller = n; command = b.0 })) now g.1)
    (command (record { caller = n; command = b.0 }) (record { words = word ∷ args; spelled = spelled; caller = le; form = command_is word args b.0 b.1; allowed = g.0 }))

-- there is no line
pub none_of : (lines : List Line) → eqb (length lines) 0 ≡ true → lines ≡ []
none_of [] e = refl
none_of (l ∷ lines) e = absurd (let f = rw eqb-suc-zero at e in cc)

first_adds : (kind : TextKind) (s : Script) (text first : List ℕ) (more : List (List ℕ)) (now : Script) (b : Bool) → HasWords text (first ∷ more) → Decides b (first ≡ codes "set")
    → cond b (cond (eqb (length s.lines) 0) (with_setting s more) (Err causes.LateSetting)) (caller_from (number_of first) >>= λ caller. with_command kind s caller more) ≡ Ok now → LineAdds kind s text now
first_adds kind s text first more now true w d e =
    let g = passed_ok (eqb (length s.lines) 0) causes.LateSetting (with_setting s more) now e in
    setting_adds kind s text more now (subst (λ (f : List ℕ). HasWords text (f ∷ more)) (d.0 refl) w) (none_of s.lines g.0) g.1
first_adds kind s text first more now false w d e =
    let b = bind_ok (caller_from (number_of first)) (λ caller. with_command kind s caller more) now e in
    let c = caller_is (number_of first) b.0 b.1 in
    command_adds kind s text first more b.0 now w c.0 c.1 b.2

words_add : (kind : TextKind) (s : Script) (text : List ℕ) (words : List (List ℕ)) (now : Script) → HasWords text words → with_words kind s words ≡ Ok now → LineAdds kind s text now
unfolding with_words
words_add kind s text [] now w e = absurd cc
words_add kind s text (first ∷ more) now w e = first_adds kind s text first more now (bytes_eq first (codes "set")) w (bytes_eq-Decides first (codes "set")) e

line_adds_by : (kind : TextKind) (s : Script) (text : List ℕ) (now : Script) (b : Bool) → is_note text ≡ b → cond b (Ok s) (words_of text >>= λ words. with_words kind s words) ≡ Ok now → LineAdds kind s text now
line_adds_by kind s text now true note e = subst (λ (x : Script). LineAdds kind s text x) (ok_is s now e) (nothing note)
line_adds_by kind s text now false note e = let b = bind_ok (words_of text) (λ words. with_words kind s words) now e in words_add kind s text b.0 now (note, b.1) b.2

pub line_adds : (kind : TextKind) (s : Script) (text : List ℕ) (now : Script) → after_line kind s text ≡ Ok now → LineAdds kind s text now
unfolding after_line
line_adds kind s text now e = line_adds_by kind s text now (is_note text) refl e

-- ---- the other way

pub note_read : (kind : TextKind) (s : Script) (text : List ℕ) → is_note text ≡ true → after_line kind s text ≡ Ok s
unfolding after_line
note_read kind s text note = rw note refl

by_words : (kind : TextKind) (s : Script) (text : List ℕ) (words : List (List ℕ)) → HasWords text words → after_line kind s text ≡ with_words kind s words
unfolding after_line
by_words kind s text words w = rw (w.0, w.1) refl

set_is_set : (kind : TextKind) (s : Script) (more : List (List ℕ)) → s.lines ≡ [] → with_words kind s (codes "set" ∷ more) ≡ with_setting s more
unfolding with_words
set_is_set kind s more none = rw none refl

-- a form has a word
no_path_form : (name : List ℕ) (path : Path) → IsPathForm name path [] → ⊥
no_path_form name path h = absurd (let e = h.1 in cc)

no_file_form : (name : List ℕ) (path : Path) (bytes : List ℕ) → IsFileForm name path bytes [] → ⊥
no_file_form name path bytes h = elim h.2 [ inl e ↦ absurd cc | inr e ↦ absurd (let f = e.1 in cc) ]

no_number_form : (name : List ℕ) (limit n : ℕ) → IsNumberForm name limit n [] → ⊥
no_number_form name limit n h = absurd (let e = h.2 in cc)

no_setting : (o : Opening) → IsOpening o [] → ⊥
no_setting (Case case) h = absurd cc
no_setting (Queue n) h = no_number_form _ _ n h
no_setting (Places n) h = no_number_form _ _ n h
no_setting (Workers n) h = no_number_form _ _ n h
no_setting (Dir path) h = no_path_form _ path h
no_setting (File path bytes) h = no_file_form _ path bytes h

setting_read_by : (s : Script) (o : Opening) (words : List (List ℕ)) → IsOpening o words → list_any (is_same_setting o) s.opening ≡ false → with_setting s words ≡ Ok (with_opening s o)
setting_read_by s o [] h new = absurd (no_setting o h)
setting_read_by s o (word ∷ args) h new = rw (opening_again o word args h, new) refl

pub setting_read : (kind : TextKind) (s : Script) (text : List ℕ) (o : Opening) → IsOpeningLine text o → s.lines ≡ [] → list_any (is_same_setting o) s.opening ≡ false → after_line kind s text ≡ Ok (with_opening s o)
setting_read kind s text o h none new = by_words kind s text (codes "set" ∷ h.words) h.spelled ∙ set_is_set kind s h.words none ∙ setting_read_by s o h.words h.form new

not_set_by : (n : ℕ) (b : Bool) → n < 2 ^ 32 → Decides b (decimal n ≡ codes "set") → b ≡ false
not_set_by n true lt d = absurd (false≢true (let e : all_ascii_digits (codes "set") ≡ true = subst (λ (w : List ℕ). all_ascii_digits w ≡ true) (d.0 refl) (digits_of_decimal n lt) in e))
not_set_by n false lt d = refl

number_is_caller : (kind : TextKind) (s : Script) (n : ℕ) (more : List (List ℕ)) → n ≤ 15 → with_words kind s (decimal n ∷ more) ≡ with_command kind s n more
unfolding with_words
number_is_caller kind s n more le =
    rw (not_set_by n (bytes_eq (decimal n) (codes "set")) (omega arith) (bytes_eq-Decides (decimal n) (codes "set")), number_of_decimal n (omega arith), le-leb n 15 le) refl

no_word : (c : Command) → IsCommand c [] → ⊥
no_word (Edit (Write path bytes)) h = no_file_form _ path bytes h
no_word (Edit (Mkdir path)) h = no_path_form _ path h
no_word (Edit (Remove path)) h = no_path_form _ path h
no_word (Edit (Move from to)) h = absurd (let e = h.2 in cc)
no_word (Event path) h = no_path_form _ path h
no_word Lose h = absurd cc
no_word Deliver h = absurd cc
no_word Settle h = absurd cc
no_word (Begin path) h = no_path_form _ path h
no_word Read h = absurd cc
no_word Publish h = absurd cc
no_word Abandon h = absurd cc
no_word (Scan path) h = no_path_form _ path h
no_word (Find path) h = no_path_form _ path h
no_word (KindOf path) h = no_path_form _ path h
no_word (VersionOf path) h = no_path_form _ path h
no_word (Print inputs) h = absurd (let e = h.3 in cc)
no_word (Build inputs) h = absurd (let e = h.3 in cc)

command_read_by : (kind : TextKind) (s : Script) (n : ℕ) (c : Command) (words : List (List ℕ)) → IsCommand c words → is_in kind c ≡ true → with_command kind s n words ≡ Ok (with_line s (record { caller = n; command = c }))
command_read_by kind s n c [] h ok = absurd (no_word c h)
command_read_by kind s n c (word ∷ args) h ok = rw (command_again c word args h, ok) refl

pub command_read : (kind : TextKind) (s : Script) (text : List ℕ) (l : Line) → IsCommandLine kind text l → after_line kind s text ≡ Ok (with_line s l)
command_read kind s text l h = by_words kind s text (decimal l.caller ∷ h.words) h.spelled ∙ number_is_caller kind s l.caller h.words h.caller ∙ command_read_by kind s l.caller l.command h.words h.form h.allowed
