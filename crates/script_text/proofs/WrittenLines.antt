-- Written lines are lines of the script, and the written text is cut into them.
use Rattle.std.proofs.Common.{◌≡◌, ℕ, ◌^◌, ◌<◌, ◌≤◌, leb, ◌&&◌, true, false, List, [], ◌∷◌, ◌++◌, length, map, refl, sym, ap, ◌∙◌, append_assoc, arith, inl, inr, lit<, lit≤}
use Rattle.std.specs.Prelude.{codes}
use Rattle.std.specs.Fmt.{decimal}
use Rattle.std.specs.Str.{all_ascii_digits}
use Rattle.std.specs.List.{slice_split, flat_map}
use Rattle.std.proofs.Math.Dec.{eqb-suc-zero}
use Rattle.std.proofs.lemmas.Bool.{ne_eqb, leb-true, le-leb}
use Rattle.std.proofs.lemmas.List.{append-nil}
use Rattle.std.proofs.lemmas.Fmt.{decimal_nonempty}
use Rattle.std.proofs.lemmas.List.Splits.{slice_split_at}
use Rattle.vfs_model.specs.Paths.{Path}
use Rattle.vfs_path.specs.Texts.{is_empty, IsPath, slashed, path_text}
use Rattle.vfs_model.specs.declared.Case.{Case as NameCase}
use Rattle.vfs_model.specs.declared.Case.TheVariants.{Sensitive, Insensitive}
use Rattle.world_model.specs.declared.edit.Edit.{Edit as EditValue}
use Rattle.world_model.specs.declared.edit.Edit.TheVariants.{Write, Mkdir, Remove, Move}
use Rattle.fingerprint_norms.specs.declared.input.Input.{Input}
use Rattle.fingerprint_norms.specs.declared.input.Sensitivity.{Sensitivity}
use Rattle.fingerprint_norms.specs.declared.input.Sensitivity.TheVariants.{Absolute, Relative, NameOnly, Ignored}
use Rattle.script_text.specs.declared.script.TextKind.{TextKind}
use Rattle.script_text.specs.declared.script.Opening.{Opening}
use Rattle.script_text.specs.declared.script.Opening.TheVariants.{Case, Queue, Places, Workers, Dir, File}
use Rattle.script_text.specs.declared.script.Command.{Command}
use Rattle.script_text.specs.declared.script.Command.TheVariants.{Edit, Event, Lose, Deliver, Settle, Begin, Read, Publish, Abandon, Scan, Find, KindOf, VersionOf, Print, Build}
use Rattle.script_text.specs.declared.script.Line.{Line}
use Rattle.script_text.specs.declared.script.Script.{Script}
use Rattle.script_text.specs.Words.{is_note}
use Rattle.script_text.specs.Grammar.{is_line_end, case_word, sensitivity_word, input_word, IsFileForm, IsOpening, IsEdit, IsCommand, IsOpeningLine, IsCommandLine, AreLines, none, note, line, IsTextOf}
use Rattle.script_text.specs.Spelling.{is_plain, spelled}
use Rattle.script_text.specs.Writing.{spaced, tail_text, file_words, opening_words, edit_words, command_words, opening_text, line_text, ended, lines_text, text_of}
use Rattle.script_text.proofs.Digits.{both, digits_of_decimal}
use Rattle.script_text.proofs.Written.{Above, above_append, spelled_above, none_in, AllFull, words_again}

-- ---- the words that are written are those of the form

file_form : (name : List ℕ) (path : Path) (bytes : List ℕ) → IsPath path → length bytes ≤ 1048576 → IsFileForm name path bytes (file_words name path bytes)
file_form name path [] is fits = (is, fits, inr (refl, refl))
file_form name path (b ∷ bytes) is fits = (is, fits, inl refl)

opening_form : (o : Opening) (words : List (List ℕ)) → IsOpening o words → IsOpening o (opening_words o)
opening_form (Case case) words h = refl
opening_form (Queue n) words h = (h.0, h.1, refl)
opening_form (Places n) words h = (h.0, h.1, refl)
opening_form (Workers n) words h = (h.0, h.1, refl)
opening_form (Dir path) words h = (h.0, refl)
opening_form (File path bytes) words h = file_form (codes "file") path bytes h.0 h.1

edit_form : (e : EditValue) (words : List (List ℕ)) → IsEdit e words → IsEdit e (edit_words e)
edit_form (Write path bytes) words h = file_form (codes "write") path bytes h.0 h.1
edit_form (Mkdir path) words h = (h.0, refl)
edit_form (Remove path) words h = (h.0, refl)
edit_form (Move from to) words h = (h.0, h.1, refl)

command_form : (c : Command) (words : List (List ℕ)) → IsCommand c words → IsCommand c (command_words c)
command_form (Edit edit) words h = edit_form edit words h
command_form (Event path) words h = (h.0, refl)
command_form Lose words h = refl
command_form Deliver words h = refl
command_form Settle words h = refl
command_form (Begin path) words h = (h.0, refl)
command_form Read words h = refl
command_form Publish words h = refl
command_form Abandon words h = refl
command_form (Scan path) words h = (h.0, refl)
command_form (Find path) words h = (h.0, refl)
command_form (KindOf path) words h = (h.0, refl)
command_form (VersionOf path) words h = (h.0, refl)
command_form (Print inputs) words h = (h.0, h.1, h.2, refl)
command_form (Build inputs) words h = (h.0, h.1, h.2, refl)

-- ---- and none of them is empty

full_path : (path : Path) → is_empty (path_text path) ≡ false
full_path [] = refl
full_path (name ∷ path) = eqb-suc-zero (length (name ++ slashed path))

full_number : (n : ℕ) → n < 2 ^ 32 → is_empty (decimal n) ≡ false
full_number n lt = let some = decimal_nonempty n (omega arith) in ne_eqb (length (decimal n)) 0 (λ e. absurd (omega arith))

full_file : (name : List ℕ) (path : Path) (bytes : List ℕ) → is_empty name ≡ false → AllFull (file_words name path bytes)
full_file name path [] h = (h, (full_path path, tt))
full_file name path (b ∷ bytes) h = (h, (full_path path, (eqb-suc-zero (length bytes), tt)))

full_case : (case : NameCase) → is_empty (case_word case) ≡ false
full_case Sensitive = refl
full_case Insensitive = refl

full_input : (s : Sensitivity) (text : List ℕ) → is_empty (sensitivity_word s ++ text) ≡ false
full_input Absolute text = eqb-suc-zero (length (98 ∷ 115 ∷ 58 ∷ text))
full_input Relative text = eqb-suc-zero (length (101 ∷ 108 ∷ 58 ∷ text))
full_input NameOnly text = eqb-suc-zero (length (97 ∷ 109 ∷ 101 ∷ 58 ∷ text))
full_input Ignored text = eqb-suc-zero (length (111 ∷ 110 ∷ 101 ∷ 58 ∷ text))

full_inputs : (inputs : List Input) → AllFull (map input_word inputs)
full_inputs [] = tt
full_inputs (i ∷ inputs) = (full_input i.sensitivity (path_text i.root), full_inputs inputs)

opening_full : (o : Opening) (words : List (List ℕ)) → IsOpening o words → AllFull (opening_words o)
opening_full (Case case) words h = (refl, (full_case case, tt))
opening_full (Queue n) words h = (refl, (full_number n (let le = h.1 in omega arith), tt))
opening_full (Places n) words h = (refl, (full_number n (let le = h.1 in omega arith), tt))
opening_full (Workers n) words h = (refl, (full_number n (let le = h.1 in omega arith), tt))
opening_full (Dir path) words h = (refl, (full_path path, tt))
opening_full (File path bytes) words h = full_file (codes "file") path bytes refl

edit_full : (e : EditValue) → AllFull (edit_words e)
edit_full (Write path bytes) = full_file (codes "write") path bytes refl
edit_full (Mkdir path) = (refl, (full_path path, tt))
edit_full (Remove path) = (refl, (full_path path, tt))
edit_full (Move from to) = (refl, (full_path from, (full_path to, tt)))

command_full : (c : Command) → AllFull (command_words c)
command_full (Edit edit) = edit_full edit
command_full (Event path) = (refl, (full_path path, tt))
command_full Lose = (refl, tt)
command_full Deliver = (refl, tt)
command_full Settle = (refl, tt)
command_full (Begin path) = (refl, (full_path path, tt))
command_full Read = (refl, tt)
command_full Publish = (refl, tt)
command_full Abandon = (refl, tt)
command_full (Scan path) = (refl, (full_path path, tt))
command_full (Find path) = (refl, (full_path path, tt))
command_full (KindOf path) = (refl, (full_path path, tt))
command_full (VersionOf path) = (refl, (full_path path, tt))
command_full (Print inputs) = (refl, full_inputs inputs)
command_full (Build inputs) = (refl, full_inputs inputs)

-- ---- lines

opening_again : (o : Opening) (text : List ℕ) → IsOpeningLine text o → IsOpeningLine (opening_text o) o
opening_again o text h = record { words = opening_words o; spelled = (refl, words_again (codes "set") (opening_words o) (refl, opening_full o h.words h.form)); form = opening_form o h.words h.form }

digit_plain : (d : ℕ) → 48 ≤ d → d ≤ 57 → is_plain d ≡ true
digit_plain d low high = rw (le-leb 33 d (omega arith), le-leb d 126 (omega arith), ne_eqb d 37 (λ e. absurd (omega arith))) refl

-- a line that begins with a number is no note
no_note : (w rest : List ℕ) → all_ascii_digits w ≡ true → is_empty w ≡ false → is_note (spelled w ++ rest) ≡ false
no_note [] rest digits full = absurd cc
no_note (d ∷ ds) rest digits full =
    let b = both (leb 48 d && leb d 57) (all_ascii_digits ds) digits in
    let r = both (leb 48 d) (leb d 57) b.0 in
    let low = leb-true 48 d r.0 in
    let high = leb-true d 57 r.1 in
    rw (digit_plain d low high) (ne_eqb d 35 (λ e. absurd (omega arith)))

command_again : (kind : TextKind) (l : Line) (text : List ℕ) → IsCommandLine kind text l → IsCommandLine kind (line_text l) l
command_again kind l text h =
    let small : l.caller < 2 ^ 32 = let le = h.caller in omega arith in
    let full = full_number l.caller small in
    record {
      words = command_words l.command;
      spelled = (
        no_note (decimal l.caller) (tail_text (command_words l.command)) (digits_of_decimal l.caller small) full,
        words_again (decimal l.caller) (command_words l.command) (full, command_full l.command),
      );
      caller = h.caller;
      form = command_form l.command h.words h.form;
      allowed = h.allowed;
    }

lines_again : {Item : Type 0} (IsLine : List ℕ → Item → Type 0) (write : Item → List ℕ) (again : (i : Item) (text : List ℕ) → IsLine text i → IsLine (write i) i) (texts : List (List ℕ)) (items : List Item)
    → AreLines IsLine texts items → AreLines IsLine (map write items) items
lines_again IsLine write again [] [] h = none
lines_again IsLine write again [] (i ∷ items) h = elim h [ ]
lines_again IsLine write again (t ∷ texts) items (note _ _ _ is more) = lines_again IsLine write again texts items more
lines_again IsLine write again (t ∷ texts) (i ∷ items) (line _ _ _ _ is more) = line (write i) i (map write items) items (again i t is) (lines_again IsLine write again texts items more)

-- ---- the text

lower : (a b : ℕ) (xs : List ℕ) → a ≤ b → Above b xs → Above a xs
lower a b [] le h = tt
lower a b (x ∷ xs) le h = (let lt = h.0 in omega arith, lower a b xs le h.1)

tail_above : (words : List (List ℕ)) → Above 31 (tail_text words)
tail_above [] = tt
tail_above (w ∷ words) = above_append 31 (spaced w) (tail_text words) (lit< tt, lower 31 32 (spelled w) (lit≤ tt) (spelled_above w)) (tail_above words)

line_above : (first : List ℕ) (more : List (List ℕ)) → Above 31 (spelled first ++ tail_text more)
line_above first more = above_append 31 (spelled first) (tail_text more) (lower 31 32 (spelled first) (lit≤ tt) (spelled_above first)) (tail_above more)

split_lines : {Item : Type 0} (write : Item → List ℕ) (above : (i : Item) → Above 31 (write i)) (items : List Item) (rest : List ℕ)
    → slice_split is_line_end (flat_map (λ i. ended (write i)) items ++ rest) ≡ map write items ++ slice_split is_line_end rest
split_lines write above [] rest = refl
split_lines write above (i ∷ items) rest =
    let regroup : (ended (write i) ++ flat_map (λ i. ended (write i)) items) ++ rest ≡ write i ++ 10 ∷ (flat_map (λ i. ended (write i)) items ++ rest) = simp append_assoc in
    ap (slice_split is_line_end) regroup
    ∙ slice_split_at is_line_end (write i) 10 (flat_map (λ i. ended (write i)) items ++ rest) (none_in 10 31 (write i) (lit≤ tt) (above i)) refl
    ∙ ap (λ (x : List (List ℕ)). write i ∷ x) (split_lines write above items rest)

-- what is written for a script is a text of it
pub text_is_written : (kind : TextKind) (text : List ℕ) (s : Script) → IsTextOf kind text s → IsTextOf kind (text_of s) s
text_is_written kind text s h =
    let first = map opening_text s.opening in
    let second = map line_text s.lines in
    let last : slice_split is_line_end (lines_text s.lines) ≡ second ++ [] ∷ [] = ap (slice_split is_line_end) (sym (append-nil (lines_text s.lines))) ∙ split_lines line_text (λ l. line_above (decimal l.caller) (command_words l.command)) s.lines [] in
    record {
      lines = first ++ second;
      ended =
          split_lines opening_text (λ o. line_above (codes "set") (opening_words o)) s.opening (lines_text s.lines)
          ∙ ap (λ (x : List (List ℕ)). first ++ x) last
          ∙ sym (append_assoc first second ([] ∷ []));
      script = record {
        first = first;
        second = second;
        both = refl;
        opening = lines_again IsOpeningLine opening_text opening_again h.script.first s.opening h.script.opening;
        once = h.script.once;
        settings = h.script.settings;
        commands = lines_again (IsCommandLine kind) line_text (command_again kind) h.script.second s.lines h.script.commands;
      };
    }
