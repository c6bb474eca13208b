-- Each line that is printed is one line, and a report has one for each line of its script.
use Rattle.std.proofs.Common.{◌≡◌, ℕ, ◌+◌, Bool, true, false, List, [], ◌∷◌, ◌++◌, length, Option, Some, None, refl, sym, ap, subst, ◌∙◌, arith, lit<, length-append}
use Rattle.std.specs.Prelude.{codes}
use Rattle.std.specs.List.{AllByRecursion as Each}
use Rattle.std.specs.Fmt.{decimal}
use Rattle.std.proofs.lemmas.Bool.{ne_eqb}
use Rattle.hex.specs.Hex.{encode_lower}
use Rattle.vfs_model.specs.declared.Kind.{Kind}
use Rattle.vfs_model.specs.declared.Kind.TheVariants.{Missing, File, Dir}
use Rattle.vfs_model.specs.Paths.{Path}
use Rattle.vfs_model.specs.World.{World}
use Rattle.vfs_model.specs.Edit.{Exists}
use Rattle.vfs_model.specs.Fingerprint.{Input}
use Rattle.vfs_model.specs.State.{State, Reply, Refused, Done, Overflow, Fits, Lost, Cleared, Delivered, NothingPending, AlreadyOpen, Version, NoScan, AllRead, Saw, Unfinished, Stale, Covered, Stored, Dropped, Found, KindIs, Is, Unknown, Fault, Glance, Refuses, Does, EditAnswer}
use Rattle.vfs_model.specs.History.{Operation, after}
use Rattle.vfs_path.specs.Texts.{path_text}
use Rattle.script_text.specs.Spelling.{spelled}
use Rattle.script_text.proofs.Written.{Above, spelled_above}
use Rattle.script_text.specs.declared.script.Command.{Command}
use Rattle.script_text.specs.declared.script.Command.TheVariants.{Edit, Event, Lose, Deliver, Settle, Begin, Read, Publish, Abandon, Scan, Find, KindOf, VersionOf, Print, Build}
use Rattle.script_text.specs.declared.script.Opening.{Opening}
use Rattle.script_text.specs.declared.script.Opening.TheVariants as opening_line
use Rattle.script_text.specs.declared.script.Line.{Line}
use Rattle.script_text.specs.declared.script.Script.{Script}
use Rattle.script_report.specs.Replies.{printed_path, kind_text, digest_text, found_text, known_text, number_of_refusal, reply_text}
use Rattle.script_report.specs.Stages.{Stage, Whole, Asks, Delivers, Reads, advance, delivered, was_read, stage_after}
use Rattle.script_report.specs.Lines.{Counts, build_text, built_text, published, read_whole, begun, root_read, root_found, taking, building, stage_of, line_stage}
use Rattle.script_report.specs.Runs.{LineRun, AreRuns, texts_of}
use Rattle.script_report.specs.Openings.{OpeningRun, AreOpeningRuns, opening_text, setting_text, opening_texts}
use Rattle.script_report.specs.Reports.{IsOneLine, IsReportOn}
use Rattle.script_report.proofs.ApartLemmas.{Apart, apart_append, tested, number_apart, hex_apart}

-- ---- texts without a line end

abbrev Unbroken : List ℕ → Type 0
Unbroken = Apart 10

above-apart : (xs : List ℕ) → Above 32 xs → Unbroken xs
above-apart [] h = tt
above-apart (x ∷ xs) h = (let high = h.0 in ne_eqb x 10 (λ e. absurd (omega (arith, high, e))), above-apart xs h.1)

path-unbroken : (path : Path) → Unbroken (printed_path path)
path-unbroken path = above-apart (spelled (path_text path)) (spelled_above (path_text path))

number-unbroken : (n : ℕ) → Unbroken (decimal n)
number-unbroken n = number_apart 10 n (lit< tt)

hex-unbroken : (digest : List ℕ) → Unbroken (encode_lower digest)
hex-unbroken digest = hex_apart 10 digest (lit< tt) (lit< tt)

both : (xs ys : List ℕ) → Unbroken xs → Unbroken ys → Unbroken (xs ++ ys)
both = apart_append 10

kind-unbroken : (kind : Kind) → Unbroken (kind_text kind)
kind-unbroken Missing = tested 10 (codes "missing") refl
kind-unbroken File = tested 10 (codes "file") refl
kind-unbroken Dir = tested 10 (codes "dir") refl

digest-unbroken : (digest : Option (List ℕ)) → Unbroken (digest_text digest)
digest-unbroken None = tt
digest-unbroken (Some digest) = both (codes " ") (encode_lower digest) (tested 10 (codes " ") refl) (hex-unbroken digest)

found-unbroken : (g : Option Glance) → Unbroken (found_text g)
found-unbroken None = tested 10 (codes "unknown") refl
found-unbroken (Some g) = both (kind_text g.kind) (digest_text g.digest) (kind-unbroken g.kind) (digest-unbroken g.digest)

known-unbroken : (kind : Option Kind) → Unbroken (known_text kind)
known-unbroken None = tested 10 (codes "unknown") refl
known-unbroken (Some kind) = kind-unbroken kind

reply-unbroken : (r : Reply) → Unbroken (reply_text r)
reply-unbroken (Refused refusal) = both (codes "refused ") (decimal (number_of_refusal refusal)) (tested 10 (codes "refused ") refl) (number-unbroken (number_of_refusal refusal))
reply-unbroken Done = tested 10 (codes "ok") refl
reply-unbroken Overflow = tested 10 (codes "overflow") refl
reply-unbroken Fits = tested 10 (codes "queued") refl
reply-unbroken Lost = tested 10 (codes "lost") refl
reply-unbroken Cleared = tested 10 (codes "cleared") refl
reply-unbroken (Delivered path) = both (codes "delivered ") (printed_path path) (tested 10 (codes "delivered ") refl) (path-unbroken path)
reply-unbroken NothingPending = tested 10 (codes "nothing") refl
reply-unbroken AlreadyOpen = tested 10 (codes "open") refl
reply-unbroken (Version n) = both (codes "version ") (decimal n) (tested 10 (codes "version ") refl) (number-unbroken n)
reply-unbroken NoScan = tested 10 (codes "noscan") refl
reply-unbroken AllRead = tested 10 (codes "done") refl
reply-unbroken (Saw path kind n) =
    let seen = both (codes "saw " ++ printed_path path ++ codes " ") (kind_text kind) (both (codes "saw " ++ printed_path path) (codes " ") (both (codes "saw ") (printed_path path) (tested 10 (codes "saw ") refl) (path-unbroken path)) (tested 10 (codes " ") refl)) (kind-unbroken kind) in
    both (codes "saw " ++ printed_path path ++ codes " " ++ kind_text kind ++ codes " left ") (decimal n) (both (codes "saw " ++ printed_path path ++ codes " " ++ kind_text kind) (codes " left ") seen (tested 10 (codes " left ") refl)) (number-unbroken n)
reply-unbroken (Unfinished n) = both (codes "unfinished ") (decimal n) (tested 10 (codes "unfinished ") refl) (number-unbroken n)
reply-unbroken (Stale n) = both (codes "stale ") (decimal n) (tested 10 (codes "stale ") refl) (number-unbroken n)
reply-unbroken Covered = tested 10 (codes "covered") refl
reply-unbroken Stored = tested 10 (codes "stored") refl
reply-unbroken (Dropped true) = tested 10 (codes "abandoned") refl
reply-unbroken (Dropped false) = tested 10 (codes "noscan") refl
reply-unbroken (Found g) = found-unbroken g
reply-unbroken (KindIs kind) = known-unbroken kind
reply-unbroken (Is digest) = both (codes "print ") (encode_lower digest) (tested 10 (codes "print ") refl) (hex-unbroken digest)
reply-unbroken (Unknown n) = both (codes "unknown ") (decimal n) (tested 10 (codes "unknown ") refl) (number-unbroken n)
reply-unbroken Fault = tested 10 (codes "fault") refl
reply-unbroken _ = tt

-- ---- the texts in which a line may end

-- the fact holds of each text in which the stage may end
abbrev EachText : (List ℕ → Type 0) → Stage → Type 0
EachText P (Whole text) = P text
EachText P (Asks call next) = (reply : Reply) → EachText P (next reply)
EachText P (Delivers count next) = (n : ℕ) → EachText P (next n)
EachText P (Reads scan count next) = (n : Option ℕ) → EachText P (next n)

delivered-text : (P : List ℕ → Type 0) (n : ℕ) (next : ℕ → Stage) (r : Reply) → ((n : ℕ) → EachText P (next n)) → EachText P (delivered n next r)
delivered-text P n next NothingPending h = h n
delivered-text P n next _ h = h

read-text : (P : List ℕ → Type 0) (c n : ℕ) (next : Option ℕ → Stage) (r : Reply) → ((n : Option ℕ) → EachText P (next n)) → EachText P (was_read c n next r)
read-text P c n next (Saw path kind left) h = h
read-text P c n next Fault h = h None
read-text P c n next _ h = h (Some n)

next-text : (P : List ℕ → Type 0) (stage : Stage) (r : Reply) → EachText P stage → EachText P (advance stage r)
next-text P (Whole text) r h = h
next-text P (Asks call next) r h = h r
next-text P (Delivers n next) r h = delivered-text P n next r h
next-text P (Reads c n next) r h = read-text P c n next r h

after-text : (P : List ℕ → Type 0) (stage : Stage) (h : List Operation) → EachText P stage → EachText P (stage_after stage h)
after-text P stage [] all = all
after-text P stage (o ∷ h) all = after-text P (advance stage o.reply) h (next-text P stage o.reply all)

-- ---- lines

counted-unbroken : (text word : List ℕ) (n : ℕ) → Unbroken text → Unbroken word → Unbroken (text ++ word ++ decimal n)
counted-unbroken text word n h k = both (text ++ word) (decimal n) (both text word h k) (number-unbroken n)

build-unbroken : (k : Counts) (digest : List ℕ) → Unbroken (build_text k digest)
build-unbroken k digest =
    let front = both (codes "build ") (encode_lower digest) (tested 10 (codes "build ") refl) (hex-unbroken digest) in
    let hits = counted-unbroken (codes "build " ++ encode_lower digest) (codes " hits ") k.hits front (tested 10 (codes " hits ") refl) in
    let misses = counted-unbroken (codes "build " ++ encode_lower digest ++ codes " hits " ++ decimal k.hits) (codes " misses ") k.misses hits (tested 10 (codes " misses ") refl) in
    counted-unbroken (codes "build " ++ encode_lower digest ++ codes " hits " ++ decimal k.hits ++ codes " misses " ++ decimal k.misses) (codes " reads ") k.reads misses (tested 10 (codes " reads ") refl)

built-unbroken : (k : Counts) (r : Reply) → Unbroken (built_text k r)
built-unbroken k (Is digest) = build-unbroken k digest
built-unbroken k r = reply-unbroken r

published-unbroken : (n : ℕ) (r : Reply) → EachText Unbroken (published n r)
published-unbroken n r = counted-unbroken (reply_text r) (codes " reads ") n (reply-unbroken r) (tested 10 (codes " reads ") refl)

whole-unbroken : (caller : ℕ) (n : Option ℕ) → EachText Unbroken (read_whole caller n)
whole-unbroken caller None = reply-unbroken Fault
whole-unbroken caller (Some n) = published-unbroken n

begun-unbroken : (caller : ℕ) (r : Reply) → EachText Unbroken (begun caller r)
begun-unbroken caller AlreadyOpen = reply-unbroken AlreadyOpen
begun-unbroken caller _ = whole-unbroken caller

root_read-unbroken : (caller : ℕ) (k : Counts) (more : Counts → Stage) (n : Option ℕ) → ((k : Counts) → EachText Unbroken (more k)) → EachText Unbroken (root_read caller k more n)
root_read-unbroken caller k more None h = λ r. reply-unbroken Fault
root_read-unbroken caller k more (Some n) h = λ r. h _

root_found-unbroken : (caller : ℕ) (root : Path) (k : Counts) (more : Counts → Stage) (r : Reply) → ((k : Counts) → EachText Unbroken (more k)) → EachText Unbroken (root_found caller root k more r)
root_found-unbroken caller root k more (Found None) h = λ r n. root_read-unbroken caller k more n h
root_found-unbroken caller root k more _ h = h _

taking-unbroken : (caller : ℕ) (all inputs : List Input) (k : Counts) → EachText Unbroken (taking caller all inputs k)
taking-unbroken caller all [] k = built-unbroken k
taking-unbroken caller all (i ∷ more) k = λ r. root_found-unbroken caller i.root k (taking caller all more) r (taking-unbroken caller all more)

building-unbroken : (caller : ℕ) (busy : Bool) (inputs : List Input) → EachText Unbroken (building caller busy inputs)
building-unbroken caller true inputs = reply-unbroken AlreadyOpen
building-unbroken caller false inputs = λ n. taking-unbroken caller inputs inputs _

command-unbroken : (caller : ℕ) (busy : Bool) (command : Command) → EachText Unbroken (stage_of caller busy command)
command-unbroken caller busy (Edit edit) = reply-unbroken
command-unbroken caller busy (Event path) = reply-unbroken
command-unbroken caller busy Lose = reply-unbroken
command-unbroken caller busy Deliver = reply-unbroken
command-unbroken caller busy Settle = λ n. both (codes "settled ") (decimal n) (tested 10 (codes "settled ") refl) (number-unbroken n)
command-unbroken caller busy (Begin path) = reply-unbroken
command-unbroken caller busy Read = reply-unbroken
command-unbroken caller busy Publish = reply-unbroken
command-unbroken caller busy Abandon = reply-unbroken
command-unbroken caller busy (Scan path) = begun-unbroken caller
command-unbroken caller busy (Find path) = reply-unbroken
command-unbroken caller busy (KindOf path) = reply-unbroken
command-unbroken caller busy (VersionOf path) = reply-unbroken
command-unbroken caller busy (Print inputs) = reply-unbroken
command-unbroken caller busy (Build inputs) = building-unbroken caller busy _

lines-printed : (s : State) (lines : List Line) (runs : List LineRun) → AreRuns s lines runs → (length (texts_of runs) ≡ length lines) × Each IsOneLine (texts_of runs)
lines-printed s [] [] follows = (refl, tt)
lines-printed s [] (r ∷ runs) follows = absurd follows
lines-printed s (line ∷ lines) [] follows = absurd follows
lines-printed s (line ∷ lines) (r ∷ runs) follows =
    let rest = lines-printed (after s r.operations) lines runs follows.1 in
    let text : Unbroken r.text = subst (EachText Unbroken) follows.0.whole (after-text Unbroken (line_stage s line) r.operations (command-unbroken line.caller _ line.command)) in
    (let n = rest.0 in omega (arith, n), (record { line = r.text; ended = refl; unbroken = text }, rest.1))

-- ---- opening lines

setting-unbroken : (took : Bool) (o : Opening) → Unbroken (setting_text took o)
setting-unbroken false (opening_line.Case case) = reply-unbroken (Refused Exists)
setting-unbroken false (opening_line.Queue n) = reply-unbroken Done
setting-unbroken false (opening_line.Places n) = reply-unbroken Done
setting-unbroken false (opening_line.Workers n) = reply-unbroken Done
setting-unbroken false (opening_line.Dir p) = reply-unbroken Done
setting-unbroken false (opening_line.File p bytes) = reply-unbroken Done
setting-unbroken true o = reply-unbroken Done

opening-unbroken : (took : Bool) (o : Opening) (answer : Option EditAnswer) → Unbroken (opening_text took o answer)
opening-unbroken took o None = setting-unbroken took o
opening-unbroken took o (Some (Does events)) = reply-unbroken Done
opening-unbroken took o (Some (Refuses cause)) = reply-unbroken (Refused cause)

openings-printed : (took : Bool) (lines : List Opening) (runs : List OpeningRun) → AreOpeningRuns took lines runs → (length (opening_texts runs) ≡ length lines) × Each IsOneLine (opening_texts runs)
openings-printed took [] [] follows = (refl, tt)
openings-printed took [] (r ∷ runs) follows = absurd follows
openings-printed took (o ∷ lines) [] follows = absurd follows
openings-printed took (o ∷ lines) (r ∷ runs) follows =
    let rest = openings-printed took lines runs follows.1 in
    let text : Unbroken r.text = subst Unbroken (sym follows.0.printed) (opening-unbroken took o r.answer) in
    (let n = rest.0 in omega (arith, n), (record { line = r.text; ended = refl; unbroken = text }, rest.1))

-- ---- the report

each-append : (P : List ℕ → Type 0) (xs ys : List (List ℕ)) → Each P xs → Each P ys → Each P (xs ++ ys)
each-append P [] ys h k = k
each-append P (x ∷ xs) ys h k = (h.0, each-append P xs ys h.1 k)

pub report-printed : (world : World) (script : Script) (texts : List (List ℕ)) → IsReportOn world script texts → (length texts ≡ length script.opening + length script.lines) × Each IsOneLine texts
report-printed world script texts h =
    let first = openings-printed true script.opening h.0 h.2.opened in
    let second = lines-printed _ script.lines h.1 h.2.follows in
    let all = each-append IsOneLine (opening_texts h.0) (texts_of h.1) first.1 second.1 in
    (ap length h.3 ∙ length-append (opening_texts h.0) (texts_of h.1) ∙ (let a = first.0 in let b = second.0 in omega (arith, a, b)), subst (Each IsOneLine) (sym h.3) all)
