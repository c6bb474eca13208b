-- What a prefix of a text is.
use Rattle.script_text.specs.declared.script.TextKind.{TextKind}
use Rattle.std.proofs.Common.{◌≡◌, ℕ, ◌+◌, Bool, true, false, cond, eqb, List, [], ◌∷◌, ◌++◌, length, Ok, MatchBool, refl, sym, ap, subst, ◌∙◌, append_assoc, arith}
use Rattle.std.specs.List.{slice_split, onto_first, count_by}
use Rattle.std.proofs.lemmas.List.Splits.{length-slice_split}
use Rattle.std.proofs.lemmas.List.{length-append}
use Rattle.std.proofs.Math.Dec.{eqb-suc-zero}
use Rattle.script_text.specs.declared.cause.Cause.TheVariants as causes
use Rattle.script_text.specs.declared.script.Script.{Script}
use Rattle.script_reader.specs.Reading.{no_lines, after_line}
use Rattle.script_text.specs.Grammar.{is_line_end, IsTextOf}
use Rattle.script_reader.specs.Faults.{FirstBad, unended}
use Rattle.script_reader.specs.Laws.{is_ended}
use Rattle.vfs_path.proofs.Cuts.{split_some}
use Rattle.script_reader.proofs.TextLaws.{after_lines, line_ok, parts_of_text, script_run, run_is_script, snoc_of, snoc_some}

-- the parts of two lists, where the last of the one and the first of the other are one part
joined : {X : Type 0} → List (List X) → List (List X) → List (List X)
joined [] ys = ys
joined (l ∷ []) [] = l ∷ []
joined (l ∷ []) (f ∷ more) = (l ++ f) ∷ more
joined (l ∷ m ∷ ls) ys = l ∷ joined (m ∷ ls) ys

apart : {X : Type 0} (x : X) (s y : List (List X)) (l f : List X) (ls more : List (List X)) → s ≡ l ∷ ls → y ≡ f ∷ more → (b : Bool) → cond b ([] ∷ joined s y) (onto_first x (joined s y)) ≡ joined (cond b ([] ∷ s) (onto_first x s)) y
unfolding joined
apart x s y l f ls more p q true = rw (p, q) refl
apart x s y l f [] more p q false = rw (p, q) refl
apart x s y l f (m ∷ ls) more p q false = rw (p, q) refl

split_append : {X : Type 0} (p : X → Bool) (xs ys : List X) → slice_split p (xs ++ ys) ≡ joined (slice_split p xs) (slice_split p ys)
unfolding joined
split_append p [] ys = let c = split_some p ys in rw c.2 refl
split_append p (x ∷ xs) ys =
    let a = split_some p xs in
    let b = split_some p ys in
    ap (λ (s : List (List _)). cond (p x) ([] ∷ s) (onto_first x s)) (split_append p xs ys) ∙ apart x (slice_split p xs) (slice_split p ys) a.0 b.0 a.1 b.1 a.2 b.2 (p x)

joined_snoc : {X : Type 0} (ls : List (List X)) (last f : List X) (more : List (List X)) → joined (ls ++ last ∷ []) (f ∷ more) ≡ ls ++ (last ++ f) ∷ more
unfolding joined
joined_snoc [] last f more = refl
joined_snoc (l ∷ []) last f more = refl
joined_snoc (l ∷ m ∷ ls) last f more = ap (λ (x : List (List _)). l ∷ x) (joined_snoc (m ∷ ls) last f more)

snoc_same : {X : Type 0} (xs ys : List X) (x y : X) → xs ++ x ∷ [] ≡ ys ++ y ∷ [] → xs ≡ ys
snoc_same [] [] x y e = refl
snoc_same [] (b ∷ ys) x y e = absurd (snoc_some ys y (let f : [] ≡ ys ++ y ∷ [] = cc in sym f))
snoc_same (a ∷ xs) [] x y e = absurd (snoc_some xs x (let f : xs ++ x ∷ [] ≡ [] = cc in f))
snoc_same (a ∷ xs) (b ∷ ys) x y e =
    let heads : a ≡ b = cc in
    let rests : xs ++ x ∷ [] ≡ ys ++ y ∷ [] = cc in
    let r = snoc_same xs ys x y rests in cc

front_lines : {X : Type 0} (ls lines more : List X) (x y : X) → ls ++ x ∷ more ≡ lines ++ y ∷ [] → (rest : List X) × (lines ≡ ls ++ rest)
front_lines ls lines more x y e =
    let s = snoc_of x more in
    (s.0, sym (snoc_same (ls ++ s.0) lines s.1 y (append_assoc ls s.0 (s.1 ∷ []) ∙ ap (λ (z : List _). ls ++ z) (sym s.2) ∙ e)))

run_step : (kind : TextKind) (n : ℕ) (s t u : Script) (l : List ℕ) (ls : List (List ℕ)) → after_line kind s l ≡ Ok t → after_lines kind (n + 1) t ls ≡ Ok u → after_lines kind n s (l ∷ ls) ≡ Ok u
unfolding after_lines
run_step kind n s t u l ls e h = rw e h

front_run : (kind : TextKind) (ls rest : List (List ℕ)) (n : ℕ) (s t : Script) → after_lines kind n s (ls ++ rest) ≡ Ok t → (u : Script) × (after_lines kind n s ls ≡ Ok u)
unfolding after_lines
front_run kind [] rest n s t e = (s, refl)
front_run kind (l ∷ ls) rest n s t e =
    let b = line_ok n (after_line kind s l) (λ u. after_lines kind (n + 1) u (ls ++ rest)) t e in
    let r = front_run kind ls rest (n + 1) b.0 t b.2 in
    (r.0, run_step kind n s b.0 r.0 l ls b.1 r.1)

-- ---- the last part of a text

last_of : List (List ℕ) → List ℕ
last_of [] = []
last_of (l ∷ []) = l
last_of (l ∷ m ∷ ls) = last_of (m ∷ ls)

last_of_snoc : (ls : List (List ℕ)) (last : List ℕ) → last_of (ls ++ last ∷ []) ≡ last
unfolding last_of
last_of_snoc [] last = refl
last_of_snoc (l ∷ []) last = refl
last_of_snoc (l ∷ m ∷ ls) last = last_of_snoc (m ∷ ls) last

is_empty_part : List ℕ → Bool
is_empty_part w = eqb (length w) 0

ended_one : (b : ℕ) (v : Bool) → v ≡ is_empty_part (last_of (cond v ([] ∷ [] ∷ []) ((b ∷ []) ∷ [])))
unfolding last_of is_empty_part
ended_one b true = refl
ended_one b false = refl

-- the first part of more than nothing is not empty, where it is all
full_part : (c : ℕ) (s : List (List ℕ)) (v : Bool) (l f : List ℕ) (more : List (List ℕ)) → s ≡ f ∷ more → cond v ([] ∷ s) (onto_first c s) ≡ l ∷ [] → is_empty_part l ≡ false
unfolding is_empty_part
full_part c s true l f more e h = absurd (let k = rw e at h in cc)
full_part c s false l f more e h = let k = rw e at h in let is : c ∷ f ≡ l = cc in rw (← is) (eqb-suc-zero (length f))

last_more : (b : ℕ) (s : List (List ℕ)) (v : Bool) (l : List ℕ) (ls : List (List ℕ)) → s ≡ l ∷ ls → (ls ≡ [] → is_empty_part l ≡ false) → is_empty_part (last_of s) ≡ is_empty_part (last_of (cond v ([] ∷ s) (onto_first b s)))
unfolding last_of is_empty_part
last_more b s true l ls e full = rw e refl
last_more b s false l [] e full = rw e (full refl ∙ sym (eqb-suc-zero (length l)))
last_more b s false l (m ∷ ls) e full = rw e refl

ended_is : (text : List ℕ) → is_ended text ≡ is_empty_part (last_of (slice_split is_line_end text))
unfolding last_of is_empty_part
ended_is [] = refl
ended_is (b ∷ []) = ended_one b (eqb b 10)
ended_is (b ∷ c ∷ bs) =
    let t = slice_split is_line_end bs in
    let a = split_some is_line_end bs in
    let s = split_some is_line_end (c ∷ bs) in
    ended_is (c ∷ bs) ∙ last_more b (slice_split is_line_end (c ∷ bs)) (eqb b 10) s.0 s.1 s.2 (λ none. full_part c t (eqb c 10) s.0 a.0 a.1 a.2 (s.2 ∙ ap (λ (x : List (List ℕ)). s.0 ∷ x) none))

-- ---- the law

by_end : (kind : TextKind) (front : List ℕ) (ls : List (List ℕ)) (last : List ℕ) (u : Script) (b : Bool) → slice_split is_line_end front ≡ ls ++ last ∷ [] → after_lines kind 1 no_lines ls ≡ Ok u → b ≡ is_empty_part last
    → MatchBool b ((t : Script) × IsTextOf kind front t) (FirstBad kind front (record { line = length ls + 1; cause = causes.NoLineEnd }))
unfolding is_empty_part
by_end kind front ls [] u true parts run e = (u, record { lines = ls; ended = parts; script = run_is_script kind 1 ls u run })
by_end kind front ls (c ∷ cs) u true parts run e = absurd (let f = rw eqb-suc-zero at e in cc)
by_end kind front ls last u false parts run e = unended ls u last parts (run_is_script kind 1 ls u run) (sym e)

count_lines : (front : List ℕ) (ls : List (List ℕ)) (last : List ℕ) → slice_split is_line_end front ≡ ls ++ last ∷ [] → length ls ≡ count_by is_line_end front
count_lines front ls last e =
    let all : length (ls ++ last ∷ []) ≡ count_by is_line_end front + 1 = sym (ap length e) ∙ length-slice_split is_line_end front in
    omega (arith, all, length-append ls (last ∷ []))

pub prefix_is : (kind : TextKind) (front back : List ℕ) (s : Script) → IsTextOf kind (front ++ back) s
    → MatchBool (is_ended front) ((t : Script) × IsTextOf kind front t) (FirstBad kind front (record { line = count_by is_line_end front + 1; cause = causes.NoLineEnd }))
unfolding is_empty_part
prefix_is kind front back s h =
    let p = parts_of_text front in
    let c = split_some is_line_end back in
    let whole : p.0 ++ (p.1 ++ c.0) ∷ c.1 ≡ h.lines ++ [] ∷ [] = sym (split_append is_line_end front back ∙ rw (p.2, c.2) (joined_snoc p.0 p.1 c.0 c.1)) ∙ h.ended in
    let l = front_lines p.0 h.lines c.1 (p.1 ++ c.0) [] whole in
    let run = front_run kind p.0 l.0 1 no_lines s (ap (after_lines kind 1 no_lines) (sym l.1) ∙ script_run kind 1 h.lines s h.script) in
    let end : is_ended front ≡ is_empty_part p.1 = ended_is front ∙ ap (λ (x : List (List ℕ)). is_empty_part (last_of x)) p.2 ∙ ap is_empty_part (last_of_snoc p.0 p.1) in
    subst (λ (n : ℕ). MatchBool (is_ended front) ((t : Script) × IsTextOf kind front t) (FirstBad kind front (record { line = n + 1; cause = causes.NoLineEnd }))) (count_lines front p.0 p.1 p.2)
    (by_end kind front p.0 p.1 run.0 (is_ended front) p.2 run.1 end)
