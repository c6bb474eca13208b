-- Worked runs, computed from the definitions.
use Rattle.std.proofs.Common.{◌≡◌, ℕ, zero, suc, true, false, List, [], ◌∷◌, ◌++◌, length, filter, refl, Option, Some, None, nat_eq}
use Rattle.std.specs.Prelude.{codes, is_some}
use Rattle.std.specs.Fmt.{decimal}
use Rattle.hex.specs.Hex.{encode_lower}
use Rattle.vfs_model.specs.declared.Case.TheVariants.{Sensitive, Insensitive}
use Rattle.vfs_model.specs.Paths.{Path}
use Rattle.vfs_model.specs.World.{World, Directory, Regular, digest_of_bytes}
use Rattle.vfs_model.specs.Edit.{Remove, NoParent}
use Rattle.vfs_model.specs.Scan.{scan, scan_down}
use Rattle.vfs_model.specs.Fingerprint.{Absolute, Relative, Input, fingerprint}
use Rattle.vfs_model.specs.State.{State, Call, CallEdit, CallBegin, CallRead, CallDrop, Fault, Dropped, Does, Refuses, answers, scan_of, told_step}
use Rattle.vfs_model.specs.Sound.{fingerprint_of}
use Rattle.vfs_model.specs.History.{Operation, opening, after_operation, after, empty_world}
use Rattle.script_text.specs.declared.script.Command.{Command}
use Rattle.script_text.specs.declared.script.Command.TheVariants.{Edit, Event, Lose, Deliver, Settle, Begin, Read, Publish, Scan, Find, KindOf, VersionOf}
use Rattle.script_text.specs.declared.script.Line.{Line}
use Rattle.world_model.specs.declared.edit.Edit.TheVariants as edit
use Rattle.script_text.specs.declared.script.Opening.{Opening}
use Rattle.script_text.specs.declared.script.Opening.TheVariants as opening_line
use Rattle.script_report.specs.Openings.{OpeningRun, AreOpeningRuns, AreOpeningsDue, opening_text, world_after}
use Rattle.script_report.specs.Stages.{Stage, Whole, next_call, advance, stage_after, Follows}
use Rattle.script_report.specs.Lines.{Counts, build_text, building, scanning, line_stage, race_stage}
use Rattle.script_report.specs.Runs.{IsMade, LineRun, texts_of, operations_of}

-- ---- playing a line over a tree that tells its world

abbrev operation : State → ℕ → Call → Operation
operation s caller call = record { caller = caller; call = call; answers = answers s call; reply = (told_step s call).reply }

abbrev where_due : Option Call → (Call → List Operation) → List Operation
where_due None go = []
where_due (Some call) go = go call

-- at most so many operations of the stage, from the state
abbrev played : ℕ → ℕ → State → Stage → List Operation
played zero caller s stage = []
played (suc n) caller s stage = where_due (next_call stage) (λ call. operation s caller call ∷ played n caller (after_operation s (operation s caller call)) (advance stage (operation s caller call).reply))

abbrev text_of : Stage → List ℕ
text_of (Whole text) = text
text_of _ = []

abbrev run_from : State → Line → LineRun
run_from s line = record { operations = played 40 line.caller s (line_stage s line); text = text_of (stage_after (line_stage s line) (played 40 line.caller s (line_stage s line))) }

abbrev runs_from : State → List Line → List LineRun
runs_from s [] = []
runs_from s (line ∷ more) = run_from s line ∷ runs_from (after s (run_from s line).operations) more

-- what is printed for the lines
abbrev report : State → List Line → List (List ℕ)
report s lines = texts_of (runs_from s lines)

-- what is played follows the line
play-due : (n caller : ℕ) (s : State) (stage : Stage) (due : Option Call) → next_call stage ≡ due → ((call : Call) → Follows caller (advance stage (operation s caller call).reply) (played n caller (after_operation s (operation s caller call)) (advance stage (operation s caller call).reply)))
    → Follows caller stage (where_due due (λ call. operation s caller call ∷ played n caller (after_operation s (operation s caller call)) (advance stage (operation s caller call).reply)))
play-due n caller s stage None e h = tt
play-due n caller s stage (Some call) e h = (refl, e, h call)

pub played-follows : (n caller : ℕ) (s : State) (stage : Stage) → Follows caller stage (played n caller s stage)
played-follows zero caller s stage = tt
played-follows (suc n) caller s stage = play-due n caller s stage (next_call stage) refl (λ call. played-follows n caller (after_operation s (operation s caller call)) (advance stage (operation s caller call).reply))

-- ---- rows

abbrev by : ℕ → Command → Line
by caller command = record { caller = caller; command = command }

abbrev line : List ℕ → List ℕ
line text = text ++ 10 ∷ []

abbrev f : Path
f = codes "f" ∷ []

abbrev d : Path
d = codes "d" ∷ []

abbrev in_d : List ℕ → Path
in_d name = codes "d" ∷ name ∷ []

abbrev empty : State
empty = opening Sensitive 8 empty_world

abbrev two_files : World
two_files =
    record { path = []; node = Directory } ∷ record { path = d; node = Directory }
    ∷ record { path = in_d (codes "a"); node = Regular (codes "a") } ∷ record { path = in_d (codes "b"); node = Regular (codes "b") } ∷ []

abbrev first : State
first = opening Sensitive 8 two_files

-- the mark and an event behind it are delivered: two deliveries, and a third call that finds nothing
a_settle_takes_three_calls : length (operations_of (runs_from empty (by 0 Lose ∷ by 0 (Event d) ∷ by 0 Settle ∷ []))) ≡ 5
a_settle_takes_three_calls = refl

a_settle_is_counted : report empty (by 0 Lose ∷ by 0 (Event d) ∷ by 0 Settle ∷ by 0 (VersionOf d) ∷ by 0 Settle ∷ []) ≡ line (codes "lost") ∷ line (codes "queued") ∷ line (codes "settled " ++ decimal 2) ∷ line (codes "version " ++ decimal 2) ∷ line (codes "settled " ++ decimal 0) ∷ []
a_settle_is_counted = refl

-- whole scans: of a directory, of what it covers, and again after an event below it
whole_scans_are_counted : report first (by 0 (Scan d) ∷ by 0 (Scan (in_d (codes "a"))) ∷ by 1 (Event (in_d (codes "a"))) ∷ by 1 Settle ∷ by 0 (VersionOf d) ∷ by 0 (VersionOf (in_d (codes "b"))) ∷ by 0 (Scan (in_d (codes "x"))) ∷ [])
    ≡ line (codes "stored reads " ++ decimal 3) ∷ line (codes "covered reads " ++ decimal 1) ∷ line (codes "queued") ∷ line (codes "settled " ++ decimal 1) ∷ line (codes "version " ++ decimal 1) ∷ line (codes "version " ++ decimal 0) ∷ line (codes "stored reads " ++ decimal 1) ∷ []
whole_scans_are_counted = refl

-- a child is removed between two reads: what was read is published, and the delivery leaves what stands beside the child
a_torn_scan_is_published : report first (by 0 (Begin d) ∷ by 0 Read ∷ by 0 Read ∷ by 1 (Edit (edit.Remove (in_d (codes "a")))) ∷ by 0 Read ∷ by 0 Publish ∷ by 0 (Find (in_d (codes "a"))) ∷ by 1 Deliver ∷ by 0 (Find (in_d (codes "a"))) ∷ by 0 (Find (in_d (codes "b"))) ∷ by 0 (Find d) ∷ by 0 (KindOf d) ∷ [])
    ≡ line (codes "version " ++ decimal 0) ∷ line (codes "saw /d dir left " ++ decimal 2) ∷ line (codes "saw /d/a file left " ++ decimal 1) ∷ line (codes "ok") ∷ line (codes "saw /d/b file left " ++ decimal 0) ∷ line (codes "stored")
    ∷ line (codes "file " ++ encode_lower (digest_of_bytes (codes "a"))) ∷ line (codes "delivered /d/a") ∷ line (codes "unknown") ∷ line (codes "file " ++ encode_lower (digest_of_bytes (codes "b"))) ∷ line (codes "unknown") ∷ line (codes "dir") ∷ []
a_torn_scan_is_published = refl

-- ---- a scan among the calls of another caller

-- of a scan by the caller 0, so many operations, and then a removal by the caller 1
abbrev front : List Operation
front = played 3 0 first (race_stage (by 0 (Scan d) ∷ []))

abbrev removal : Operation
removal = operation (after first front) 1 (CallEdit (Remove (in_d (codes "a"))))

abbrev torn : State
torn = after_operation (after first front) removal

abbrev back : List Operation
back = played 40 0 torn (stage_after (race_stage (by 0 (Scan d) ∷ [])) front)

-- the caller's own operations follow its lines, whole, whatever the other did between them
a_scan_follows_among_others : Follows 0 (race_stage (by 0 (Scan d) ∷ [])) (filter (λ (o : Operation). nat_eq o.caller 0) (front ++ removal ∷ back)) × (next_call (stage_after (race_stage (by 0 (Scan d) ∷ [])) (filter (λ (o : Operation). nat_eq o.caller 0) (front ++ removal ∷ back))) ≡ None)
a_scan_follows_among_others = ((refl, refl, (refl, refl, (refl, refl, (refl, refl, (refl, refl, (refl, refl, tt)))))), refl)

-- ---- builds

abbrev of_d : Input
of_d = record { root = d; sensitivity = Relative }

abbrev of_a : Input
of_a = record { root = in_d (codes "a"); sensitivity = Absolute }

abbrev build : State → List Input → Stage
build s inputs = building 0 (is_some (scan_of s 0)) inputs

abbrev build_of : State → List Input → Stage
build_of s inputs = stage_after (build s inputs) (played 40 0 s (build s inputs))

abbrev counts : ℕ → ℕ → ℕ → Counts
counts hits misses reads = record { hits = hits; misses = misses; reads = reads }

-- the directory is scanned, and the file in it is retained then
a_root_below_another_is_a_hit : build_of first (of_d ∷ of_a ∷ []) ≡ Whole (build_text (counts 1 1 3) (fingerprint_of Sensitive two_files (of_d ∷ of_a ∷ [])))
unfolding scan scan_down fingerprint
a_root_below_another_is_a_hit = refl

-- the file is scanned first, and the directory replaces it
a_root_above_another_is_a_miss : build_of first (of_a ∷ of_d ∷ []) ≡ Whole (build_text (counts 0 2 4) (fingerprint_of Sensitive two_files (of_a ∷ of_d ∷ [])))
unfolding scan scan_down fingerprint
a_root_above_another_is_a_miss = refl

-- a delivery that finds nothing, a find, a begin, four reads, a publication, a find that hits, and the fingerprint
a_build_takes_ten_calls : length (played 40 0 first (build first (of_d ∷ of_a ∷ []))) ≡ 10
a_build_takes_ten_calls = refl

-- where the caller's scan is in progress nothing is asked
an_open_scan_is_told : build_of (told_step first (CallBegin 0 d)).state (of_d ∷ []) ≡ Whole (codes "open")
an_open_scan_is_told = refl

-- where the caller's scan is in progress a scan begins none
an_open_scan_is_not_begun_again : report (told_step first (CallBegin 0 d)).state (by 0 (Scan d) ∷ by 0 Publish ∷ []) ≡ line (codes "open") ∷ line (codes "unfinished " ++ decimal 1) ∷ []
an_open_scan_is_not_begun_again = refl

-- ---- a failed look

-- a scan of the directory whose second look fails
abbrev failing : State → Call → Operation
failing s call = record { caller = 0; call = call; answers = record { edit = Does []; look = None }; reply = Fault }

abbrev to_the_fault : List Operation
to_the_fault = played 2 0 first (scanning 0 d)

a_failed_look_ends_the_scan : stage_after (scanning 0 d) (to_the_fault ++ failing (after first to_the_fault) (CallRead 0) ∷ []) ≡ Whole (codes "fault")
a_failed_look_ends_the_scan = refl

a_failed_look_is_made : IsMade (after first to_the_fault) (failing (after first to_the_fault) (CallRead 0))
a_failed_look_is_made = record { given = refl; reply = refl }

-- a build whose second look fails drops its scan, and takes no further input
to_the_fault_of_a_build : List Operation
to_the_fault_of_a_build = played 4 0 first (build first (of_d ∷ of_a ∷ []))

build_failed : Stage
build_failed = stage_after (build first (of_d ∷ of_a ∷ [])) (to_the_fault_of_a_build ++ failing (after first to_the_fault_of_a_build) (CallRead 0) ∷ [])

a_failed_look_ends_the_build : (next_call build_failed ≡ Some (CallDrop 0)) × (advance build_failed (Dropped true) ≡ Whole (codes "fault"))
unfolding to_the_fault_of_a_build build_failed
a_failed_look_ends_the_build = (refl, refl)

-- ---- opening lines

-- a tree that keeps its case refuses another one, and takes every other setting
a_case_that_is_kept_is_refused : (opening_text false (opening_line.Case Insensitive) None ≡ codes "refused " ++ decimal 4) × (opening_text true (opening_line.Case Insensitive) None ≡ codes "ok") × (opening_text false (opening_line.Queue 1) None ≡ codes "ok")
a_case_that_is_kept_is_refused = (refl, refl, refl)

-- a file below a directory that the line before made, and one below none
opening_lines : List Opening
opening_lines = opening_line.Dir d ∷ opening_line.File (in_d (codes "a")) (codes "a") ∷ opening_line.File (codes "e" ∷ codes "a" ∷ []) (codes "a") ∷ []

opened : List OpeningRun
opened =
    record { answer = Some (Does (d ∷ [])); text = codes "ok" } ∷ record { answer = Some (Does (in_d (codes "a") ∷ [])); text = codes "ok" }
    ∷ record { answer = Some (Refuses NoParent); text = codes "refused " ++ decimal 2 } ∷ []

opening_lines_print_the_answers : AreOpeningRuns true opening_lines opened × AreOpeningsDue Sensitive empty_world opening_lines opened
unfolding opening_lines opened
opening_lines_print_the_answers = (
  (record { asks = refl; printed = refl }, (record { asks = refl; printed = refl }, (record { asks = refl; printed = refl }, tt))),
  (refl, (refl, (refl, tt))),
)

-- they make the world in which the command lines begin
opening_lines_make_the_world : length (world_after Sensitive empty_world opening_lines opened) ≡ 3
unfolding opening_lines opened
opening_lines_make_the_world = refl
