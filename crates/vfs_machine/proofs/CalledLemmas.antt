-- What a call of a machine owes, by what its parts owe.
use Rattle.std.proofs.Common.{◌≡◌, ◌≤◌, ◌+◌, ◌∙◌, ℕ, Bool, true, false, refl, sym, ap, subst, arith, [], Some, is_some, option_map}
use Rattle.std.proofs.lemmas.Bool.{true≢false}
use Rattle.std.specs.List.{AllByRecursion as Each}
use Rattle.vfs_model.specs.Paths.{Path, IsShort}
use Rattle.vfs_model.specs.World.{World}
use Rattle.vfs_model.specs.Edit.{Edit, events}
use Rattle.vfs_model.specs.Faults.{Rose}
use Rattle.vfs_model.specs.Pending.{deliveries_due}
use Rattle.vfs_model.specs.State.{State, Call, CallEdit, CallLose, CallRead, Reply, Lost, Answers, AreDue, edit_answer, step}
use Rattle.vfs_model.specs.History.{is_no_memory}
use Rattle.vfs_model.specs.Sound.{AreShapedAnswers}
use Rattle.vfs_model.specs.Stands.{Parts, Stands, HasSound}
use Rattle.vfs_model.specs.Steps.{IsStepOf, IsMemoryLast}
use Rattle.world_model.specs.declared.intake.Fit.{Fit}
use Rattle.world_model.specs.declared.intake.Fit.TheVariants as fit
use Rattle.world_model.specs.Told.{TreeTold, with_answers}
use Rattle.vfs_machine.specs.Whole.{told_of}
use Rattle.vfs_machine.specs.Steps.{IsRead, edit_given, edit_answers, edit_asked, edited_reply, fit_reply, read_answers, readed_reply}
use Rattle.vfs_machine.specs.Deliveries.{Counts}
use Rattle.vfs_machine.specs.Called.{IsCalled, AreAsked, HasItsEvents, CountsFaults, TellsAfter, HasLog, HasVersions, HasPending, spent, dues_of}
use Rattle.vfs_machine.specs.declared.answers.Delivered.{Delivered}
use Rattle.vfs_machine.specs.declared.answers.Delivered.TheVariants as delivered
use Rattle.vfs_machine.specs.declared.answers.Edited.{Edited}
use Rattle.vfs_machine.specs.declared.answers.Readed.{Readed}
use Rattle.vfs_machine.specs.declared.answers.Readed.TheVariants as readed
use Rattle.vfs_machine.proofs.EditLemmas.{edit-wanting, given-told, given-short, edit-is_asked}
use Rattle.vfs_machine.proofs.ToldLemmas.{none-asked, not_asked}

-- ---- the invalidations that are due

-- so many more are due, and none was made
pub spends-more : {V : Type 0} (count : V → ℕ) (old new : Parts V) (n : ℕ) → new.versions ≡ old.versions → deliveries_due new.pending ≤ deliveries_due old.pending + n → spent count new ≤ spent count old + n
spends-more count old new n versions more = let same = ap count versions in omega (arith, same, more)

-- none was made, and what waits stays
pub spends-none : {V : Type 0} (count : V → ℕ) (old new : Parts V) (n : ℕ) → new.versions ≡ old.versions → new.pending ≡ old.pending → spent count new ≤ spent count old + n
spends-none count old new n versions pending = let same = ap count versions in let waits = ap deliveries_due pending in omega (arith, same, waits)

-- a delivery makes one that was due
pub spends-delivered : (result : Delivered) (a b w v : ℕ) → Counts result a b w v → b + v ≤ a + w + 0
spends-delivered (delivered.Event path) a b w v counts = let i = counts.invalidated in let d = counts.due in omega (arith, i, d)
spends-delivered delivered.Cleared a b w v counts = let i = counts.invalidated in let d = counts.due in omega (arith, i, d)
spends-delivered delivered.Nothing a b w v counts = let i = counts.0.invalidated in let d = counts.0.due in omega (arith, i, d)
spends-delivered delivered.NoMemory a b w v counts = let i = counts.invalidated in let d = counts.due in omega (arith, i, d)

-- a loss leaves the mark alone to be delivered
pub lost-due : {V : Type 0} (at : V → Path → ℕ) (count : V → ℕ) (old new : Parts V) → HasSound at count old → IsStepOf at count old new not_asked CallLose Lost → deliveries_due new.pending ≤ deliveries_due old.pending + 1
lost-due at count old new has stepped = let one : deliveries_due new.pending ≡ 1 = sym (ap deliveries_due (stepped has.state has.stands).1.pending) in omega (arith, one)

-- ---- calls that ask the tree nothing

-- the call asks the tree nothing
abbrev pub is_quiet : Call → Bool
is_quiet (CallEdit edit) = false
is_quiet (CallRead c) = false
is_quiet _ = true

quiet-asked : (call : Call) (r : Reply) → is_quiet call ≡ true → AreAsked call r not_asked []
quiet-asked (CallEdit edit) r quiet = absurd (true≢false (sym quiet))
quiet-asked (CallRead c) r quiet = absurd (true≢false (sym quiet))
quiet-asked _ r quiet = refl

quiet-shaped : (s : State) (call : Call) → is_quiet call ≡ true → AreShapedAnswers s call not_asked
quiet-shaped s (CallEdit edit) quiet = absurd (true≢false (sym quiet))
quiet-shaped s (CallRead c) quiet = absurd (true≢false (sym quiet))
quiet-shaped s _ quiet = tt

quiet-due : (s : State) (call : Call) → is_quiet call ≡ true → AreDue s call not_asked
quiet-due s (CallEdit edit) quiet = absurd (true≢false (sym quiet))
quiet-due s (CallRead c) quiet = absurd (true≢false (sym quiet))
quiet-due s _ quiet = tt

quiet-told : (call : Call) → is_quiet call ≡ true → HasItsEvents call not_asked.edit
quiet-told (CallEdit edit) quiet = absurd (true≢false (sym quiet))
quiet-told _ quiet = tt

quiet-tells : (call : Call) (old new : TreeTold) → is_quiet call ≡ true → new ≡ old → TellsAfter call old new
quiet-tells (CallEdit edit) old new quiet same = absurd (true≢false (sym quiet))
quiet-tells (CallRead c) old new quiet same = absurd (true≢false (sym quiet))
quiet-tells _ old new quiet same = same

quiet-faults : (call : Call) (r : Reply) (before now : ℕ) → is_quiet call ≡ true → now ≡ before → CountsFaults call r before now
quiet-faults (CallEdit edit) r before now quiet same = absurd (true≢false (sym quiet))
quiet-faults (CallRead c) r before now quiet same = absurd (true≢false (sym quiet))
quiet-faults _ r before now quiet same = omega (arith, same)

pub quiet-called : {V : Type 0} (at : V → Path → ℕ) (count : V → ℕ) (old new : Parts V) (call : Call) (r : Reply) → is_quiet call ≡ true → told_of new ≡ told_of old
    → IsStepOf at count old new not_asked call r → IsMemoryLast at count old (λ s. step not_asked s call) r
    → HasLog at count old new call r → HasVersions call old.versions new.versions → HasPending call old.pending new.pending → spent count new ≤ spent count old + dues_of call
    → IsCalled at count old new call r
quiet-called at count old new call r quiet same stepped last log versions pending spends = record {
  answers = not_asked;
  asked = [];
  stepped = stepped;
  last = last;
  shaped = λ s st. quiet-shaped s call quiet;
  due = λ w told s st. quiet-due s call quiet;
  told = quiet-told call quiet;
  are_asked = quiet-asked call r quiet;
  answered = subst (λ (t : TreeTold). t.answers ≡ option_map (with_answers []) old.answers) (sym same) (none-asked old.answers);
  faults = quiet-faults call r old.faults new.faults quiet (ap (λ (t : TreeTold). t.faults) same);
  tells = quiet-tells call (told_of old) (told_of new) quiet same;
  log = log;
  versions = versions;
  pending = pending;
  spends = spends;
}

-- memory is not wanting where the reply does not say so
pub never-wanting : {V : Type 0} (at : V → Path → ℕ) (count : V → ℕ) (m : Parts V) (call : Call) (r : Reply) → is_no_memory r ≡ false → IsMemoryLast at count m (λ s. step not_asked s call) r
never-wanting at count m call r given s st none = absurd (true≢false (sym none ∙ given))

-- an event is answered without memory
pub fit-given : (result : Fit) → is_no_memory (fit_reply result) ≡ false
fit-given fit.Fits = refl
fit-given fit.Overflow = refl

-- ---- edits and reads

pub edit-called : {V : Type 0} (at : V → Path → ℕ) (count : V → ℕ) (old new : Parts V) (e : Edit) (result : Edited) → IsStepOf at count old new (edit_answers e result) (CallEdit e) (edited_reply result)
    → ((w : World) → old.content ≡ Some w → (s : State) → Stands at count old s → edit_given e result ≡ edit_answer s e) → Each IsShort (events e)
    → new.answers ≡ option_map (with_answers (edit_asked e result)) old.answers → old.faults ≤ new.faults → is_some new.content ≡ is_some old.content
    → new.log ≡ old.log → new.versions ≡ old.versions → deliveries_due new.pending ≤ deliveries_due old.pending + 2
    → IsCalled at count old new (CallEdit e) (edited_reply result)
edit-called at count old new e result stepped due few answered faults tells log versions waiting = record {
  answers = edit_answers e result;
  asked = edit_asked e result;
  stepped = stepped;
  last = λ s st none. edit-wanting s e result none;
  shaped = λ s st. given-short e result few;
  due = due;
  told = given-told e result;
  are_asked = edit-is_asked e result;
  answered = answered;
  faults = faults;
  tells = tells;
  log = log;
  versions = versions;
  pending = tt;
  spends = spends-more count old new 2 versions waiting;
}

read-faults : (c : ℕ) (result : Readed) (before now : ℕ) → (result ≡ readed.Fault → Rose before now) → before ≤ now → CountsFaults (CallRead c) (readed_reply result) before now
read-faults c readed.NoScan before now fault later = later
read-faults c readed.Done before now fault later = later
read-faults c (readed.Saw path kind left) before now fault later = later
read-faults c readed.Fault before now fault later = fault refl
read-faults c readed.NoMemory before now fault later = later

pub read-called : {V : Type 0} (at : V → Path → ℕ) (count : V → ℕ) (old new : Parts V) (c : ℕ) (result : Readed) → IsRead at count old new c result
    → ((a : Answers) → IsMemoryLast at count old (λ s. step a s (CallRead c)) (readed_reply result))
    → (result ≡ readed.Fault → Rose old.faults new.faults) → old.faults ≤ new.faults → new.content ≡ old.content
    → new.log ≡ old.log → new.versions ≡ old.versions → new.pending ≡ old.pending
    → IsCalled at count old new (CallRead c) (readed_reply result)
read-called at count old new c result read last fault later content log versions pending = record {
  answers = read_answers read.given;
  asked = read.asked;
  stepped = read.step;
  last = last (read_answers read.given);
  shaped = read.looks;
  due = read.due;
  told = tt;
  are_asked = read.are_asked;
  answered = read.answered;
  faults = read-faults c result old.faults new.faults fault later;
  tells = content;
  log = log;
  versions = versions;
  pending = pending;
  spends = spends-none count old new 0 versions pending;
}
