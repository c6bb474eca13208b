-- A machine that stands for a state still does after an edit.
use Rattle.std.proofs.Common.{◌≡◌, ℕ, Bool, true, false, List, [], ◌∷◌, ◌++◌, Option, Some, None, refl, sym, ap, ◌∙◌, subst, if◌then◌else◌}
use Rattle.std.specs.List.{AllByRecursion as Each}
use Rattle.vfs_model.specs.declared.Case.{Case}
use Rattle.vfs_model.specs.Paths.{Path, IsShort}
use Rattle.vfs_model.specs.World.{World, IsClosed, IsWorld, IsSameBelow, at as at_place}
use Rattle.vfs_model.specs.Edit.{Edit, Refusal, refusal, apply, events}
use Rattle.vfs_model.specs.Pending.{Pending, put_all}
use Rattle.vfs_model.specs.State.{State, TreeAnswer, CallEdit, Reply, Done, Overflow, Does, all_fit, after_edit, edit_by, edit_answer, edit_answer_or}
use Rattle.vfs_model.specs.History.{is_no_memory}
use Rattle.vfs_model.specs.Sound.{AreShortEvents}
use Rattle.vfs_model.specs.Stands.{Parts, Stands}
use Rattle.world_model.specs.Meaning.{refusal_of}
use Rattle.world_model.specs.Told.{IsApplied}
use Rattle.vfs_machine.specs.declared.answers.Edited.{Edited}
use Rattle.vfs_machine.specs.declared.answers.Edited.TheVariants as edited
use Rattle.vfs_model.specs.Steps.{is_before_memory}
use Rattle.vfs_machine.specs.Called.{AreAsked, HasItsEvents}
use Rattle.vfs_machine.specs.Steps.{edit_given, edit_answers, edit_asked, edited_reply}
use Rattle.vfs_laws.proofs.SameLemmas.{none-node, status-node, same-refusal, same-apply, same-trans}

-- ---- one world in two lists

-- a list that is one world with a closed one is closed
same-closed : (case : Case) (v w : World) → IsSameBelow case v [] w [] → IsClosed case w → IsClosed case v
same-closed case v w h closed x n other =
    none-node (at_place case w (x ++ n ∷ [])) (at_place case v (x ++ n ∷ [])) (sym (h.nodes (x ++ n ∷ [])))
    (closed x n (λ dir. other (status-node (at_place case v x) (at_place case w x) (h.nodes x) ∙ dir)))

-- ---- the world after an edit

pub applied-world : (case : Case) (s : World) (edit : Edit) (old new : Option World) → IsApplied case edit old new
    → ((w : World) → old ≡ Some w → IsWorld case w) → ((w : World) → old ≡ Some w → refusal case w edit ≡ None) → ((w : World) → old ≡ Some w → IsSameBelow case s [] w [])
    → (v : World) → new ≡ Some v → IsSameBelow case (apply case s edit) [] v []
applied-world case s edit None None done whole allowed same v e = cc
applied-world case s edit None (Some u) done whole allowed same v e = absurd done
applied-world case s edit (Some w) None done whole allowed same v e = absurd done
applied-world case s edit (Some w) (Some u) done whole allowed same v e =
    let is : u ≡ v = cc in
    let one = same w refl in
    let closed = (whole w refl).closed in
    same-trans case (apply case s edit) (apply case w edit) v
    (same-apply case s w edit (same-closed case s w one closed) closed (same-refusal case s w edit one ∙ allowed w refl) one)
    (subst (λ (z : World). IsSameBelow case (apply case w edit) [] z []) is done)

-- an edit that was done
edited-stands : {V : Type 0} (at : V → Path → ℕ) (count : V → ℕ) (m : Parts V) (s : State) (edit : Edit) (f : ℕ) (k : Option World) (given : Option (List TreeAnswer)) (q : Pending)
    → IsApplied m.case edit m.content k → ((w : World) → m.content ≡ Some w → IsWorld m.case w) → ((w : World) → m.content ≡ Some w → refusal m.case w edit ≡ None) → q ≡ put_all (events edit) m.pending
    → Stands at count m s → Stands at count (record m { faults = f; content = k; answers = given; pending = q }) (after_edit s edit (events edit))
edited-stands at count m s edit f k given q done whole allowed queue st = record {
  case = st.case;
  world = λ v h. subst (λ (c : Case). IsSameBelow m.case (apply c s.world edit) [] v []) (sym st.case) (applied-world m.case s.world edit m.content k done whole allowed st.world v h);
  pending = ap (put_all (events edit)) st.pending ∙ sym queue;
  retained = st.retained;
  past = st.past;
  scans = st.scans;
  kept = st.kept;
}

-- the reply of an edit that was done, by whether its events fit
abbrev done_reply : Bool → Reply
done_reply fit = if fit then Done else Overflow

-- the edit was done
pub edit-done : {V : Type 0} (at : V → Path → ℕ) (count : V → ℕ) (m : Parts V) (s : State) (edit : Edit) (fit : Bool) (f : ℕ) (k : Option World) (given : Option (List TreeAnswer)) (q : Pending) (told : List Path)
    → told ≡ events edit → fit ≡ all_fit told m.pending → q ≡ put_all told m.pending
    → IsApplied m.case edit m.content k → ((w : World) → m.content ≡ Some w → IsWorld m.case w) → ((w : World) → m.content ≡ Some w → refusal m.case w edit ≡ None)
    → Stands at count m s
    → ((if fit then Done else Overflow) ≡ (edit_by s edit (Does (events edit))).reply) × Stands at count (record m { faults = f; content = k; answers = given; pending = q }) (edit_by s edit (Does (events edit))).state
edit-done at count m s edit fit f k given q told is fits queue done whole allowed st = (
  ap (λ (b : Bool). if b then Done else Overflow) (fits ∙ (λ i. all_fit (is i) (sym st.pending i))),
  edited-stands at count m s edit f k given q done whole allowed (queue ∙ ap (λ e. put_all e m.pending) is) st,
)

-- the tree's word to the edit was this one; memory was wanting only where it did not refuse
abbrev pub IsDueAnswer : Option Refusal → Edited → Type 0
IsDueAnswer due edited.Done = due ≡ None
IsDueAnswer due edited.Overflow = due ≡ None
IsDueAnswer due (edited.Refused e) = due ≡ Some (refusal_of e)
IsDueAnswer due edited.NoMemory = due ≡ None

given-is : (due : Option Refusal) (e : Edit) (result : Edited) → IsDueAnswer due result → edit_given e result ≡ edit_answer_or e due
given-is due e edited.Done h = sym (ap (edit_answer_or e) h)
given-is due e edited.Overflow h = sym (ap (edit_answer_or e) h)
given-is due e (edited.Refused r) h = sym (ap (edit_answer_or e) h)
given-is due e edited.NoMemory h = sym (ap (edit_answer_or e) h)

due-for : (case : Case) (s : State) (w : World) (e : Edit) (result : Edited) → s.case ≡ case → IsSameBelow case s.world [] w [] → IsDueAnswer (refusal case w e) result → IsDueAnswer (refusal s.case s.world e) result
due-for case s w e result c same due =
    subst (λ (r : Option Refusal). IsDueAnswer r result) (sym ((λ i. refusal (c i) s.world e) ∙ same-refusal case s.world w e same)) due

-- over a told world the tree's word is true of each state
pub edit-due : {V : Type 0} (at : V → Path → ℕ) (count : V → ℕ) (m : Parts V) (e : Edit) (result : Edited) → ((w : World) → m.content ≡ Some w → IsDueAnswer (refusal m.case w e) result)
    → (w : World) → m.content ≡ Some w → (s : State) → Stands at count m s → edit_given e result ≡ edit_answer s e
edit-due at count m e result due w told s st = given-is (refusal s.case s.world e) e result (due-for m.case s w e result st.case (st.world w told) (due w told))

done-wanting : (fit : Bool) → is_before_memory (done_reply fit) ≡ false
done-wanting true = refl
done-wanting false = refl

-- memory was wanting only where the tree did not refuse
pub edit-wanting : (s : State) (e : Edit) (result : Edited) → is_no_memory (edited_reply result) ≡ true → is_before_memory (edit_by s e (edit_given e result)).reply ≡ false
edit-wanting s e edited.Done none = cc
edit-wanting s e edited.Overflow none = cc
edit-wanting s e (edited.Refused r) none = cc
edit-wanting s e edited.NoMemory none = done-wanting (all_fit (events e) s.pending)

-- what the tree answered tells of no other events than those of the edit
pub given-told : (e : Edit) (result : Edited) → HasItsEvents (CallEdit e) (edit_given e result)
given-told e edited.Done = refl
given-told e edited.Overflow = refl
given-told e (edited.Refused r) = tt
given-told e edited.NoMemory = refl

-- the tree was asked once, unless memory was wanting
pub edit-is_asked : (e : Edit) (result : Edited) → AreAsked (CallEdit e) (edited_reply result) (edit_answers e result) (edit_asked e result)
edit-is_asked e edited.Done = refl
edit-is_asked e edited.Overflow = refl
edit-is_asked e (edited.Refused r) = refl
edit-is_asked e edited.NoMemory = refl

-- what the tree answered tells no path but those of the edit
pub given-short : (e : Edit) (result : Edited) → Each IsShort (events e) → AreShortEvents (edit_given e result)
given-short e edited.Done few = few
given-short e edited.Overflow few = few
given-short e (edited.Refused r) few = tt
given-short e edited.NoMemory few = few
