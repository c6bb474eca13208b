-- Whole texts: what is read is the script of the text, and a fault is at the first bad line.
use Rattle.script_text.specs.declared.script.TextKind.{TextKind}
use Rattle.script_text.specs.declared.script.TextKind.TheVariants.{Replay}
use Rattle.std.proofs.Common.{◌≡◌, ℕ, suc, ◌+◌, true, false, cond, eqb, List, [], ◌∷◌, ◌++◌, length, Result, Ok, Err, refl, sym, ap, subst, ◌∙◌, append_assoc, arith, inl, inr, ◌⊎◌}
use Rattle.std.specs.List.{slice_split}
use Rattle.std.proofs.lemmas.List.{append-nil}
use Rattle.std.proofs.Math.Dec.{eqb-suc-zero}
use Rattle.script_text.specs.declared.cause.Cause.{Cause}
use Rattle.script_text.specs.declared.cause.Cause.TheVariants as causes
use Rattle.std.specs.Prelude.{IfOk, IfErr}
use Rattle.script_text.specs.declared.cause.BadLine.{BadLine}
use Rattle.script_reader.specs.declared.error.ScriptError.{ScriptError}
use Rattle.script_reader.specs.declared.error.ScriptError.TheVariants as errors
use Rattle.script_reader.specs.Results.{IfBad, IsScriptOrNoMemory, IsBadOrNoMemory}
use Rattle.script_text.specs.declared.script.Opening.{Opening}
use Rattle.script_text.specs.declared.script.Line.{Line}
use Rattle.script_text.specs.declared.script.Script.{Script}
use Rattle.script_text.specs.Steps.{◌>>=◌}
use Rattle.script_text.specs.Set.{settings_of, settings_after, with_set, IsOnce}
use Rattle.script_reader.specs.Reading.{no_lines, with_line, after_line, at_line, after_parts, script_of, Reads}
use Rattle.script_text.specs.Grammar.{is_line_end, IsOpeningLine, IsCommandLine, AreLines, none, note, line, AreScript, IsTextOf}
use Rattle.script_reader.specs.Faults.{FirstBad, unended, ended}
use Rattle.script_text.specs.Writing.{HasText}
use Rattle.world_model.specs.declared.settings.Settings.{Settings}
use Rattle.world_model.specs.Defaults.{default_settings}
use Rattle.script_reader.proofs.SetLemmas.{settings_more, once_in_middle, once_with_last}
use Rattle.script_reader.proofs.LineLaws.{LineAdds, nothing, setting, command, line_adds, note_read, setting_read, command_read}
use Rattle.vfs_path.proofs.Cuts.{split_some}

-- the script after some lines, the first being the line n
unfoldable pub after_lines : (kind : TextKind) → ℕ → Script → List (List ℕ) → Result Script BadLine
after_lines kind n s [] = Ok s
after_lines kind n s (l ∷ ls) = at_line n (after_line kind s l) >>= λ t. after_lines kind (n + 1) t ls

-- and after what follows the last line end
abbrev pub after_last : ℕ → List ℕ → Script → Result Script BadLine
after_last n last s = cond (eqb (length last) 0) (Ok s) (Err (record { line = n; cause = causes.NoLineEnd }))

pub at_end : (kind : TextKind) → ℕ → List (List ℕ) → List ℕ → Script → Result Script BadLine
at_end kind n ls last s = after_lines kind n s ls >>= after_last (n + length ls) last

-- ---- lists of lines

pub line_ok : (n : ℕ) (r : Result Script Cause) (f : Script → Result Script BadLine) (now : Script) → (at_line n r >>= f) ≡ Ok now → (t : Script) × (r ≡ Ok t) × (f t ≡ Ok now)
line_ok n (Ok t) f now e = (t, refl, e)
line_ok n (Err c) f now e = absurd cc

run_append : (kind : TextKind) (n : ℕ) (s : Script) (xs ys : List (List ℕ)) (t : Script) → after_lines kind n s xs ≡ Ok t → after_lines kind n s (xs ++ ys) ≡ after_lines kind (n + length xs) t ys
unfolding after_lines
run_append kind n s [] ys t e = let same : s ≡ t = cc in let k : n + 0 ≡ n = omega arith in rw (same, k) refl
run_append kind n s (x ∷ xs) ys t e =
    let b = line_ok n (after_line kind s x) (λ u. after_lines kind (n + 1) u xs) t e in
    let k : n + 1 + length xs ≡ n + suc (length xs) = omega arith in
    rw (b.1, ← k) (run_append kind (n + 1) b.0 xs ys t b.2)

-- ---- the lines of a script are read

-- a script of opening lines alone
opening_alone : Settings → List Opening → Script
opening_alone settings opening = record { settings = settings; opening = opening; lines = [] }

openings_run : (kind : TextKind) (texts : List (List ℕ)) (os : List Opening) → AreLines IsOpeningLine texts os → (n : ℕ) (given : Settings) (before : List Opening) → IsOnce (before ++ os)
    → after_lines kind n (opening_alone given before) texts ≡ Ok (opening_alone (settings_after given os) (before ++ os))
unfolding after_lines opening_alone
openings_run kind [] [] none n given before once = ap (λ (x : List Opening). Ok (opening_alone given x)) (sym (append-nil before))
openings_run kind [] (o ∷ os) impossible n given before once = elim impossible [ ]
openings_run kind (t ∷ texts) os (note _ _ _ is more) n given before once = rw (note_read kind (opening_alone given before) t is) (openings_run kind texts os more (n + 1) given before once)
openings_run kind (t ∷ texts) (o ∷ os) (line _ _ _ _ is more) n given before once =
    let all = append_assoc before (o ∷ []) os in
    rw (setting_read kind (opening_alone given before) t o is refl (once_in_middle before o os once))
    (openings_run kind texts os more (n + 1) (with_set given o) (before ++ o ∷ []) (subst IsOnce (sym all) once) ∙ ap (λ (x : List Opening). Ok (opening_alone (settings_after given (o ∷ os)) x)) all)

lines_run : (kind : TextKind) (texts : List (List ℕ)) (ls : List Line) → AreLines (IsCommandLine kind) texts ls → (n : ℕ) (s : Script) → after_lines kind n s texts ≡ Ok (record { settings = s.settings; opening = s.opening; lines = s.lines ++ ls })
unfolding after_lines
lines_run kind [] [] none n s = ap (λ (x : List Line). Ok (record { settings = s.settings; opening = s.opening; lines = x })) (sym (append-nil s.lines))
lines_run kind [] (l ∷ ls) impossible n s = elim impossible [ ]
lines_run kind (t ∷ texts) ls (note _ _ _ is more) n s = rw (note_read kind s t is) (lines_run kind texts ls more (n + 1) s)
lines_run kind (t ∷ texts) (l ∷ ls) (line _ _ _ _ is more) n s =
    rw (command_read kind s t l is)
    (lines_run kind texts ls more (n + 1) (with_line s l) ∙ ap (λ (x : List Line). Ok (record { settings = s.settings; opening = s.opening; lines = x })) (append_assoc s.lines (l ∷ []) ls))

pub script_run : (kind : TextKind) (n : ℕ) (lines : List (List ℕ)) (s : Script) → AreScript kind lines s → after_lines kind n no_lines lines ≡ Ok s
unfolding opening_alone
script_run kind n lines s h =
    let first = openings_run kind h.first s.opening h.opening n default_settings [] h.once in
    rw (h.both, h.settings) (run_append kind n no_lines h.first h.second _ first ∙ lines_run kind h.second s.lines h.commands (n + length h.first) (opening_alone (settings_of s.opening) s.opening))

-- ---- and lines that are read are those of a script

-- the texts add command lines alone
record AddsLines (kind : TextKind) (texts : List (List ℕ)) (s now : Script) : Type 0 where
  items : List Line
  lines : AreLines (IsCommandLine kind) texts items
  now-is : now ≡ record { settings = s.settings; opening = s.opening; lines = s.lines ++ items }

pub snoc_some : {X : Type 0} (xs : List X) (x : X) → xs ++ x ∷ [] ≡ [] → ⊥
snoc_some [] x e = absurd cc
snoc_some (y ∷ ys) x e = absurd cc

still_some : (kind : TextKind) (s : Script) (text : List ℕ) (t : Script) → LineAdds kind s text t → (s.lines ≡ [] → ⊥) → t.lines ≡ [] → ⊥
still_some kind s text _ (nothing is) some e = some e
still_some kind s text _ (setting o is bare new) some e = some bare
still_some kind s text _ (command l is) some e = snoc_some s.lines l e

line_then : (kind : TextKind) (s : Script) (text : List ℕ) (t now : Script) (texts : List (List ℕ)) → LineAdds kind s text t → (s.lines ≡ [] → ⊥) → AddsLines kind texts t now → AddsLines kind (text ∷ texts) s now
line_then kind s text _ now texts (nothing is) some h = record { items = h.items; lines = note text texts h.items is h.lines; now-is = h.now-is }
line_then kind s text _ now texts (setting o is bare new) some h = absurd (some bare)
line_then kind s text _ now texts (command l is) some h =
    record { items = l ∷ h.items; lines = line text l texts h.items is h.lines; now-is = h.now-is ∙ ap (λ (x : List Line). record { settings = s.settings; opening = s.opening; lines = x }) (append_assoc s.lines (l ∷ []) h.items) }

-- behind a command line there are command lines alone
lines_only : (kind : TextKind) (n : ℕ) (texts : List (List ℕ)) (s now : Script) → (s.lines ≡ [] → ⊥) → after_lines kind n s texts ≡ Ok now → AddsLines kind texts s now
unfolding after_lines
lines_only kind n [] s now some e = record { items = []; lines = none; now-is = let same : s ≡ now = cc in sym same ∙ ap (λ (x : List Line). record { settings = s.settings; opening = s.opening; lines = x }) (sym (append-nil s.lines)) }
lines_only kind n (text ∷ texts) s now some e =
    let b = line_ok n (after_line kind s text) (λ u. after_lines kind (n + 1) u texts) now e in
    let a = line_adds kind s text b.0 b.1 in
    line_then kind s text b.0 now texts a some (lines_only kind (n + 1) texts b.0 now (still_some kind s text b.0 a some) b.2)

-- the texts add opening lines, and then command lines
record AddsBoth (kind : TextKind) (texts : List (List ℕ)) (s now : Script) : Type 0 where
  first : List (List ℕ)
  second : List (List ℕ)
  items : List Opening
  parts : texts ≡ first ++ second
  opening : AreLines IsOpeningLine first items
  commands : AreLines (IsCommandLine kind) second now.lines
  now-is : now.opening ≡ s.opening ++ items

first_command : (kind : TextKind) (s : Script) (text : List ℕ) (l : Line) (now : Script) (texts : List (List ℕ)) → IsCommandLine kind text l → s.lines ≡ [] → AddsLines kind texts (with_line s l) now → AddsBoth kind (text ∷ texts) s now
first_command kind s text l now texts is bare h =
    let all : now.lines ≡ l ∷ h.items = ap (λ (x : Script). x.lines) h.now-is ∙ rw bare refl in
    record {
      first = [];
      second = text ∷ texts;
      items = [];
      parts = refl;
      opening = none;
      commands = subst (λ (x : List Line). AreLines (IsCommandLine kind) (text ∷ texts) x) (sym all) (line text l texts h.items is h.lines);
      now-is = ap (λ (x : Script). x.opening) h.now-is ∙ sym (append-nil s.opening);
    }

both_then : (kind : TextKind) (s : Script) (text : List ℕ) (t now : Script) (texts : List (List ℕ)) → LineAdds kind s text t → s.lines ≡ [] → (t.lines ≡ [] → AddsBoth kind texts t now) → ((t.lines ≡ [] → ⊥) → AddsLines kind texts t now) → AddsBoth kind (text ∷ texts) s now
both_then kind s text _ now texts (nothing is) bare more only =
    let h = more bare in
    record { first = text ∷ h.first; second = h.second; items = h.items; parts = ap (λ (x : List (List ℕ)). text ∷ x) h.parts; opening = note text h.first h.items is h.opening; commands = h.commands; now-is = h.now-is }
both_then kind s text _ now texts (setting o is e new) bare more only =
    let h = more bare in
    record {
      first = text ∷ h.first;
      second = h.second;
      items = o ∷ h.items;
      parts = ap (λ (x : List (List ℕ)). text ∷ x) h.parts;
      opening = line text o h.first h.items is h.opening;
      commands = h.commands;
      now-is = h.now-is ∙ append_assoc s.opening (o ∷ []) h.items;
    }
both_then kind s text _ now texts (command l is) bare more only = first_command kind s text l now texts is bare (only (λ e. snoc_some s.lines l e))

run_adds : (kind : TextKind) (n : ℕ) (texts : List (List ℕ)) (s now : Script) → s.lines ≡ [] → after_lines kind n s texts ≡ Ok now → AddsBoth kind texts s now
unfolding after_lines
run_adds kind n [] s now bare e =
    let same : s ≡ now = cc in
    subst (λ (x : Script). AddsBoth kind [] s x) same
    (record { first = []; second = []; items = []; parts = refl; opening = none; commands = subst (λ (x : List Line). AreLines (IsCommandLine kind) [] x) (sym bare) none; now-is = sym (append-nil s.opening) })
run_adds kind n (text ∷ texts) s now bare e =
    let b = line_ok n (after_line kind s text) (λ u. after_lines kind (n + 1) u texts) now e in
    both_then kind s text b.0 now texts (line_adds kind s text b.0 b.1) bare (λ still. run_adds kind (n + 1) texts b.0 now still b.2) (λ some. lines_only kind (n + 1) texts b.0 now some b.2)

-- nothing is set twice, and the settings are what the opening lines set
record IsSet (s : Script) : Type 0 where
  once : IsOnce s.opening
  settings : s.settings ≡ settings_of s.opening

adds_set : (kind : TextKind) (s : Script) (text : List ℕ) (t : Script) → LineAdds kind s text t → IsSet s → IsSet t
adds_set kind s text _ (nothing is) h = h
adds_set kind s text _ (setting o is bare new) h =
    record {
      once = once_with_last s.opening o h.once new;
      settings = ap (λ (x : Settings). with_set x o) h.settings ∙ sym (settings_more default_settings s.opening (o ∷ []));
    }
adds_set kind s text _ (command l is) h = record { once = h.once; settings = h.settings }

run_set : (kind : TextKind) (n : ℕ) (texts : List (List ℕ)) (s now : Script) → IsSet s → after_lines kind n s texts ≡ Ok now → IsSet now
unfolding after_lines
run_set kind n [] s now h e = let same : s ≡ now = cc in subst IsSet same h
run_set kind n (text ∷ texts) s now h e =
    let b = line_ok n (after_line kind s text) (λ u. after_lines kind (n + 1) u texts) now e in
    run_set kind (n + 1) texts b.0 now (adds_set kind s text b.0 (line_adds kind s text b.0 b.1) h) b.2

pub run_is_script : (kind : TextKind) (n : ℕ) (lines : List (List ℕ)) (s : Script) → after_lines kind n no_lines lines ≡ Ok s → AreScript kind lines s
run_is_script kind n lines s e =
    let h = run_adds kind n lines no_lines s refl e in
    let set = run_set kind n lines no_lines s (record { once = tt; settings = refl }) e in
    record {
      first = h.first;
      second = h.second;
      both = h.parts;
      opening = subst (λ (x : List Opening). AreLines IsOpeningLine h.first x) (sym h.now-is) h.opening;
      once = set.once;
      settings = set.settings;
      commands = h.commands;
    }

-- ---- the end of a text

pub snoc_of : {X : Type 0} (y : X) (ys : List X) → (ls : List X) × (last : X) × (y ∷ ys ≡ ls ++ last ∷ [])
snoc_of y [] = ([], y, refl)
snoc_of y (z ∷ zs) = let r = snoc_of z zs in (y ∷ r.0, r.1, ap (λ (x : List _). y ∷ x) r.2)

pub parts_of_text : (text : List ℕ) → (ls : List (List ℕ)) × (last : List ℕ) × (slice_split is_line_end text ≡ ls ++ last ∷ [])
parts_of_text text =
    let c = split_some is_line_end text in
    let r = snoc_of c.0 c.1 in
    (r.0, r.1, c.2 ∙ r.2)

snoc_cons : {X : Type 0} (ls : List X) (last : X) → (y : X) × (ys : List X) × (ls ++ last ∷ [] ≡ y ∷ ys)
snoc_cons [] last = (last, [], refl)
snoc_cons (l ∷ ls) last = (l, ls ++ last ∷ [], refl)

step_parts : (kind : TextKind) (n : ℕ) (s : Script) (l : List ℕ) (rest : List (List ℕ)) (y : List ℕ) (ys : List (List ℕ)) → rest ≡ y ∷ ys
    → after_parts kind n s (l ∷ rest) ≡ (at_line n (after_line kind s l) >>= λ t. after_parts kind (n + 1) t rest)
unfolding after_parts
step_parts kind n s l rest y ys e = rw e refl

each_step : (n : ℕ) (r : Result Script Cause) (f g : Script → Result Script BadLine) (k : Script → Result Script BadLine) → ((t : Script) → f t ≡ (g t >>= k)) → (at_line n r >>= f) ≡ ((at_line n r >>= g) >>= k)
each_step n (Ok t) f g k h = h t
each_step n (Err c) f g k h = refl

parts_run : (kind : TextKind) (ls : List (List ℕ)) (n : ℕ) (s : Script) (last : List ℕ) → after_parts kind n s (ls ++ last ∷ []) ≡ at_end kind n ls last s
unfolding after_parts after_lines at_end
parts_run kind [] n s last = let k : n + 0 ≡ n = omega arith in rw k refl
parts_run kind (l ∷ ls) n s last =
    let c = snoc_cons ls last in
    let k : n + suc (length ls) ≡ n + 1 + length ls = omega arith in
    step_parts kind n s l (ls ++ last ∷ []) c.0 c.1 c.2
    ∙ rw k (each_step n (after_line kind s l) (λ t. after_parts kind (n + 1) t (ls ++ last ∷ [])) (λ t. after_lines kind (n + 1) t ls) (after_last (n + 1 + length ls) last) (λ t. parts_run kind ls (n + 1) t last))

pub text_run : (kind : TextKind) (text : List ℕ) (ls : List (List ℕ)) (last : List ℕ) → slice_split is_line_end text ≡ ls ++ last ∷ [] → script_of kind text ≡ at_end kind 1 ls last no_lines
unfolding script_of
text_run kind text ls last e = rw e (parts_run kind ls 1 no_lines last)

ok_or_err : (r : Result Script BadLine) → ((t : Script) × (r ≡ Ok t)) ⊎ ((b : BadLine) × (r ≡ Err b))
ok_or_err (Ok t) = inl (t, refl)
ok_or_err (Err b) = inr (b, refl)

nothing_left : (last : List ℕ) → eqb (length last) 0 ≡ true → last ≡ []
nothing_left [] e = refl
nothing_left (b ∷ bs) e = absurd (let f = rw eqb-suc-zero at e in cc)

-- ---- scripts

last_ok : (n : ℕ) (last : List ℕ) (t s : Script) → after_last n last t ≡ Ok s → (last ≡ []) × (t ≡ s)
last_ok n [] t s e = (refl, cc)
last_ok n (b ∷ bs) t s e = absurd (let f = rw eqb-suc-zero at e in cc)

end_ok : (n : ℕ) (last : List ℕ) (r : Result Script BadLine) (s : Script) → (r >>= after_last n last) ≡ Ok s → (last ≡ []) × (r ≡ Ok s)
end_ok n last (Ok t) s e = let o = last_ok n last t s e in (o.0, ap (λ (x : Script). Ok x) o.1)
end_ok n last (Err b) s e = absurd cc

pub text_is : (kind : TextKind) (text : List ℕ) (s : Script) → script_of kind text ≡ Ok s → IsTextOf kind text s
unfolding at_end
text_is kind text s e =
    let p = parts_of_text text in
    let o = end_ok (1 + length p.0) p.1 (after_lines kind 1 no_lines p.0) s (sym (text_run kind text p.0 p.1 p.2) ∙ e) in
    record { lines = p.0; ended = p.2 ∙ ap (λ (x : List ℕ). p.0 ++ x ∷ []) o.0; script = run_is_script kind 1 p.0 s o.1 }

pub text_again : (kind : TextKind) (text : List ℕ) (s : Script) → IsTextOf kind text s → script_of kind text ≡ Ok s
unfolding at_end
text_again kind text s h = text_run kind text h.lines [] h.ended ∙ rw (script_run kind 1 h.lines s h.script) refl

-- ---- bad lines

pub record Fault (kind : TextKind) (n : ℕ) (s : Script) (ls : List (List ℕ)) (b : BadLine) : Type 0 where
  pub before : List (List ℕ)
  pub more : List (List ℕ)
  pub bad : List ℕ
  pub now : Script
  pub cause : Cause
  pub parts : ls ≡ before ++ bad ∷ more
  pub good : after_lines kind n s before ≡ Ok now
  pub has : after_line kind now bad ≡ Err cause
  pub named : b ≡ record { line = n + length before; cause = cause }

fault_next : (kind : TextKind) (n : ℕ) (s : Script) (l : List ℕ) (ls : List (List ℕ)) (b : BadLine) (r : Result Script Cause) → after_line kind s l ≡ r → (at_line n r >>= λ t. after_lines kind (n + 1) t ls) ≡ Err b
    → ((t : Script) → after_lines kind (n + 1) t ls ≡ Err b → Fault kind (n + 1) t ls b) → Fault kind n s (l ∷ ls) b
unfolding after_lines
fault_next kind n s l ls b (Ok t) is e later =
    let f = later t e in
    let k : n + 1 + length f.before ≡ n + suc (length f.before) = omega arith in
    record {
      before = l ∷ f.before;
      more = f.more;
      bad = f.bad;
      now = f.now;
      cause = f.cause;
      parts = ap (λ (x : List (List ℕ)). l ∷ x) f.parts;
      good = rw is f.good;
      has = f.has;
      named = f.named ∙ ap (λ (m : ℕ). record { line = m; cause = f.cause }) k;
    }
fault_next kind n s l ls b (Err c) is e later =
    let same : b ≡ record { line = n; cause = c } = cc in
    let k : n ≡ n + 0 = omega arith in
    record { before = []; more = ls; bad = l; now = s; cause = c; parts = refl; good = refl; has = is; named = same ∙ ap (λ (m : ℕ). record { line = m; cause = c }) k }

first_fault : (kind : TextKind) (ls : List (List ℕ)) (n : ℕ) (s : Script) (b : BadLine) → after_lines kind n s ls ≡ Err b → Fault kind n s ls b
unfolding after_lines
first_fault kind [] n s b e = absurd cc
first_fault kind (l ∷ ls) n s b e = fault_next kind n s l ls b (after_line kind s l) refl e (λ t. first_fault kind ls (n + 1) t b)

last_err : (n : ℕ) (last : List ℕ) (t : Script) (b : BadLine) → after_last n last t ≡ Err b → (eqb (length last) 0 ≡ false) × (b ≡ record { line = n; cause = causes.NoLineEnd })
last_err n [] t b e = absurd cc
last_err n (c ∷ cs) t b e = let f = rw eqb-suc-zero at e in (eqb-suc-zero (length cs), cc)

fault_by : (kind : TextKind) (text : List ℕ) (b : BadLine) (ls : List (List ℕ)) (last : List ℕ) (r : Result Script BadLine) → slice_split is_line_end text ≡ ls ++ last ∷ [] → after_lines kind 1 no_lines ls ≡ r → (r >>= after_last (1 + length ls) last) ≡ Err b → FirstBad kind text b
fault_by kind text b ls last (Ok t) parts run e =
    let l = last_err (1 + length ls) last t b e in
    let k : length ls + 1 ≡ 1 + length ls = omega arith in
    subst (λ (x : BadLine). FirstBad kind text x) (ap (λ (m : ℕ). record { line = m; cause = causes.NoLineEnd }) k ∙ sym l.1) (unended ls t last parts (run_is_script kind 1 ls t run) l.0)
fault_by kind text b ls last (Err d) parts run e =
    let f = first_fault kind ls 1 no_lines d run in
    let k : length f.before + 1 ≡ 1 + length f.before = omega arith in
    let is : d ≡ b = cc in
    subst (λ (x : BadLine). FirstBad kind text x) (ap (λ (m : ℕ). record { line = m; cause = f.cause }) k ∙ sym f.named ∙ is)
    (ended f.before f.more f.now f.bad last f.cause (parts ∙ ap (λ (x : List (List ℕ)). x ++ last ∷ []) f.parts) (run_is_script kind 1 f.before f.now f.good) f.has)

pub fault_is : (kind : TextKind) (text : List ℕ) (b : BadLine) → script_of kind text ≡ Err b → FirstBad kind text b
unfolding at_end
fault_is kind text b e =
    let p = parts_of_text text in
    fault_by kind text b p.0 p.1 (after_lines kind 1 no_lines p.0) p.2 refl (sym (text_run kind text p.0 p.1 p.2) ∙ e)

pub fault_again : (kind : TextKind) (text : List ℕ) (b : BadLine) → FirstBad kind text b → script_of kind text ≡ Err b
unfolding at_end after_lines
fault_again kind text _ (unended before s last parts good some) =
    let k : length before + 1 ≡ 1 + length before = omega arith in
    text_run kind text before last parts ∙ rw (script_run kind 1 before s good, some, k) refl
fault_again kind text _ (ended before more s bad last cause parts good has) =
    let k : length before + 1 ≡ 1 + length before = omega arith in
    let to : after_lines kind 1 no_lines (before ++ bad ∷ more) ≡ Err (record { line = 1 + length before; cause = cause }) = run_append kind 1 no_lines before (bad ∷ more) s (script_run kind 1 before s good) ∙ rw has refl in
    text_run kind text (before ++ bad ∷ more) last parts ∙ rw (to, k) refl

-- ---- the clauses of a reader

pub result_found : (kind : TextKind) (text : List ℕ) (r : Result Script ScriptError) → Reads r (script_of kind text) → IfOk r (λ s. IsTextOf kind text s)
result_found kind text (Ok s) h = text_is kind text s h
result_found kind text (Err e) h = tt

pub result_bad : (kind : TextKind) (text : List ℕ) (r : Result Script ScriptError) → Reads r (script_of kind text) → IfErr r (λ e. IfBad e (FirstBad kind text))
result_bad kind text (Ok s) h = tt
result_bad kind text (Err (errors.Bad b)) h = fault_is kind text b h
result_bad kind text (Err errors.NoMemory) h = tt

pub result_read : (kind : TextKind) (text : List ℕ) (r : Result Script ScriptError) → Reads r (script_of kind text) → (s : Script) → IsTextOf kind text s → IsScriptOrNoMemory r s
result_read kind text (Ok t) h s is = let e = text_again kind text s is in cc
result_read kind text (Err (errors.Bad b)) h s is = let e = text_again kind text s is in absurd cc
result_read kind text (Err errors.NoMemory) h s is = tt

pub result_named : (kind : TextKind) (text : List ℕ) (r : Result Script ScriptError) → Reads r (script_of kind text) → (b : BadLine) → FirstBad kind text b → IsBadOrNoMemory r b
result_named kind text (Ok t) h b is = let e = fault_again kind text b is in absurd cc
result_named kind text (Err (errors.Bad c)) h b is = let e = fault_again kind text b is in cc
result_named kind text (Err errors.NoMemory) h b is = tt

-- ---- one or the other

decided_by : (kind : TextKind) (text : List ℕ) (r : Result Script BadLine) → script_of kind text ≡ r → ((s : Script) × IsTextOf kind text s) ⊎ ((b : BadLine) × FirstBad kind text b)
decided_by kind text (Ok s) e = inl (s, text_is kind text s e)
decided_by kind text (Err b) e = inr (b, fault_is kind text b e)

pub decided : (kind : TextKind) (text : List ℕ) → ((s : Script) × IsTextOf kind text s) ⊎ ((b : BadLine) × FirstBad kind text b)
decided kind text = decided_by kind text (script_of kind text) refl

pub not_both_of : (kind : TextKind) (text : List ℕ) (s : Script) (b : BadLine) → IsTextOf kind text s → FirstBad kind text b → ⊥
not_both_of kind text s b good bad =
    let e = text_again kind text s good in
    let f = fault_again kind text b bad in absurd cc

-- ---- one at most

pub one_script : (kind : TextKind) (text : List ℕ) (s t : Script) → IsTextOf kind text s → IsTextOf kind text t → s ≡ t
one_script kind text s t h g =
    let e = text_again kind text s h in
    let f = text_again kind text t g in cc

pub one_fault : (kind : TextKind) (text : List ℕ) (b d : BadLine) → FirstBad kind text b → FirstBad kind text d → b ≡ d
one_fault kind text b d h g =
    let e = fault_again kind text b h in
    let f = fault_again kind text d g in cc

-- a script that was read has a text
pub HasText-found : (text : List ℕ) (r : Result Script ScriptError) → IfOk r (λ s. IsTextOf Replay text s) → IfOk r HasText
HasText-found text (Ok s) h = (text, h)
HasText-found text (Err e) h = tt
