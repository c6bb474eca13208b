use Rattle.std.proofs.Common.{◌∙◌, [], ◌∷◌, length, Some, None, subst, refl, inr}
use Rattle.vfs_model.specs.declared.Case.{Case}
use Rattle.vfs_model.specs.Sound.{IsLook}
use Rattle.vfs_model.specs.State.{ToLook, scan_of}
use Rattle.world_model.specs.Meaning.{look_seen}
use Rattle.scan_walk.specs.declared.slots.Next.TheVariants as to
use Rattle.scan_walk.specs.Cased.{running_of, cased_at}
use Rattle.scan_walk.specs.Scans.{IsNext, HasNext}
use Rattle.scan_walk.proofs.CasedLemmas.{under-at, under-seen, seen-in, left-in}
use Rattle.scan_walk.proofs.LocationLemmas.{next-alone, location-open, location-look}
use Rattle.vfs_machine.proofs.ToldLemmas.{none-asked}
use Rattle.vfs_machine.proofs.ReadLemmas.{looked-stands, read-closed, read-done, read-failed, read-saw, read-told, no-look, no-word, look-of-state, look-for-state, read-wanting}
use Rattle.vfs_machine.proofs.engine.Engine.read.Goals as goal

-- ---- memory was wanting before the look

pub returns-in-Err-clause-read : goal.returns-in-Err-clause-read
returns-in-Err-clause-read g c = rw (← c.self.view_is) (record {
  given = None;
  asked = [];
  step = λ s st. st;
  looks = λ s st. no-look s.case (scan_of s c.args.scan);
  due = λ w told s st. no-word s (scan_of s c.args.scan);
  are_asked = refl;
  answered = none-asked _;
})

pub returns-in-Err-clause-last : goal.returns-in-Err-clause-last
returns-in-Err-clause-last g c =
    let left : HasNext (running_of (cased_at c.self.inside.scans.items c.args.scan)) = rw c.deref.ensures.value at c.in-Err.ensures.left in
    rw (← c.self.view_is) (λ a s st none. read-wanting g.V.Versions.version g.V.Versions.count _ left.0 a.look s c.args.scan (next-alone c.self.inside.scans.items c.args.scan (to.Location left.0) left.1) st)

-- ---- nothing is looked at

pub returns-in-Ok-Closed-clause-read : goal.returns-in-Ok-Closed-clause-read
returns-in-Ok-Closed-clause-read g c =
    let closed : IsNext (running_of (cased_at c.self.inside.scans.items c.args.scan)) to.Closed = rw (c.deref.ensures.value, c.in-Ok-Closed.field-0-is) at c.in-Ok-Closed.ensures.next in
    rw (← c.self.view_is) (record {
      given = None;
      asked = [];
      step = λ s st. read-closed g.V.Versions.version g.V.Versions.count _ None s c.args.scan (next-alone c.self.inside.scans.items c.args.scan to.Closed closed) st;
      looks = λ s st. no-look s.case (scan_of s c.args.scan);
      due = λ w told s st. no-word s (scan_of s c.args.scan);
      are_asked = refl;
      answered = none-asked _;
    })

pub returns-in-Ok-Closed-clause-told : goal.returns-in-Ok-Closed-clause-told
returns-in-Ok-Closed-clause-told g c =
    let closed : IsNext (running_of (cased_at c.self.inside.scans.items c.args.scan)) to.Closed = rw (c.deref.ensures.value, c.in-Ok-Closed.field-0-is) at c.in-Ok-Closed.ensures.next in
    rw (← c.self.view_is) (λ fine w told s st. read-closed g.V.Versions.version g.V.Versions.count _ _ s c.args.scan (next-alone c.self.inside.scans.items c.args.scan to.Closed closed) st)

pub returns-in-Ok-Done-clause-read : goal.returns-in-Ok-Done-clause-read
returns-in-Ok-Done-clause-read g c =
    let done : IsNext (running_of (cased_at c.self.inside.scans.items c.args.scan)) to.Done = rw (c.deref.ensures.value, c.in-Ok-Done.field-0-is) at c.in-Ok-Done.ensures.next in
    rw (← c.self.view_is) (record {
      given = None;
      asked = [];
      step = λ s st. read-done g.V.Versions.version g.V.Versions.count _ None s c.args.scan (next-alone c.self.inside.scans.items c.args.scan to.Done done) st;
      looks = λ s st. no-look s.case (scan_of s c.args.scan);
      due = λ w told s st. no-word s (scan_of s c.args.scan);
      are_asked = refl;
      answered = none-asked _;
    })

pub returns-in-Ok-Done-clause-told : goal.returns-in-Ok-Done-clause-told
returns-in-Ok-Done-clause-told g c =
    let done : IsNext (running_of (cased_at c.self.inside.scans.items c.args.scan)) to.Done = rw (c.deref.ensures.value, c.in-Ok-Done.field-0-is) at c.in-Ok-Done.ensures.next in
    rw (← c.self.view_is) (λ fine w told s st. read-done g.V.Versions.version g.V.Versions.count _ _ s c.args.scan (next-alone c.self.inside.scans.items c.args.scan to.Done done) st)

-- ---- the look gave nothing

pub returns-in-Err-Failed-clause-read : goal.returns-in-Err-Failed-clause-read
returns-in-Err-Failed-clause-read g c =
    let path = c.in-Ok-Location.path in
    let next : IsNext (running_of (cased_at c.self.inside.scans.items c.args.scan)) (to.Location path) = rw (c.deref.ensures.value, c.in-Ok-Location.field-0-is) at c.in-Ok-Location.ensures.next in
    rw (← c.self.view_is) (record {
      given = None;
      asked = ToLook None ∷ [];
      step = λ s st. read-failed g.V.Versions.version g.V.Versions.count _ _ _ _ path s c.args.scan c.in-Err-Failed.ensures.content (next-alone c.self.inside.scans.items c.args.scan (to.Location path) next) st;
      looks = λ s st. no-look s.case (scan_of s c.args.scan);
      due = λ w told s st. no-word s (scan_of s c.args.scan);
      are_asked = refl;
      answered = rw c.in-Err-Failed.field-0-is at c.in-Err-Failed.ensures.answered;
    })

pub returns-in-Err-NoMemory-clause-read : goal.returns-in-Err-NoMemory-clause-read
returns-in-Err-NoMemory-clause-read g c = rw (← c.self.view_is) (record {
  given = None;
  asked = [];
  step = λ s st. looked-stands g.V.Versions.version g.V.Versions.count _ _ _ _ s c.in-Err-NoMemory.ensures.content st;
  looks = λ s st. no-look s.case (scan_of s c.args.scan);
  due = λ w told s st. no-word s (scan_of s c.args.scan);
  are_asked = refl;
  answered = rw c.in-Err-NoMemory.field-0-is at c.in-Err-NoMemory.ensures.answered;
})

pub returns-in-Err-NoMemory-clause-last : goal.returns-in-Err-NoMemory-clause-last
returns-in-Err-NoMemory-clause-last g c =
    let path = c.in-Ok-Location.path in
    let next : IsNext (running_of (cased_at c.self.inside.scans.items c.args.scan)) (to.Location path) = rw (c.deref.ensures.value, c.in-Ok-Location.field-0-is) at c.in-Ok-Location.ensures.next in
    rw (← c.self.view_is) (λ a s st none. read-wanting g.V.Versions.version g.V.Versions.count _ path a.look s c.args.scan (next-alone c.self.inside.scans.items c.args.scan (to.Location path) next) st)

-- ---- the look saw something

pub see_in-requires-clause-look : goal.see_in-requires-clause-look
see_in-requires-clause-look g c =
    let path = c.in-Ok-Location.path in
    let next : IsNext (running_of (cased_at c.self.inside.scans.items c.args.scan)) (to.Location path) = rw (c.deref.ensures.value, c.in-Ok-Location.field-0-is) at c.in-Ok-Location.ensures.next in
    let shape : IsLook c.self.inside.vfs.case (length path) (look_seen c.in-Ok.entry) = subst (λ (k : Case). IsLook k (length path) (look_seen c.in-Ok.entry)) c.self.invariant.one_case c.in-Ok.ensures.shape in
    location-look c.self.inside.vfs.case (cased_at c.self.inside.scans.items c.args.scan) path (look_seen c.in-Ok.entry) (under-at c.self.inside.vfs.case c.self.inside.scans.items c.args.scan c.self.invariant.walks) next shape

pub invariant_of-self-2 : goal.invariant_of-self-2
invariant_of-self-2 g c =
    let next : IsNext (running_of (cased_at c.self.inside.scans.items c.args.scan)) (to.Location c.in-Ok-Location.path) = rw (c.deref.ensures.value, c.in-Ok-Location.field-0-is) at c.in-Ok-Location.ensures.next in
    let open_it = location-open (cased_at c.self.inside.scans.items c.args.scan) c.in-Ok-Location.path next in
    record {
      one_case = c.in-Ok.ensures.case ∙ c.self.invariant.one_case;
      sixteen = c.see_in.ensures.as_many ∙ c.self.invariant.sixteen;
      walks = under-seen c.self.inside.vfs.case c.self.inside.scans.items c.see_in.new.scans.items c.args.scan (look_seen c.in-Ok.entry) c.self.invariant.walks open_it c.in-Ok-see_in.ensures.seen;
    }

pub returns-clause-read : goal.returns-clause-read
returns-clause-read g c =
    let xs = c.self.inside.scans.items in
    let l = look_seen c.in-Ok.entry in
    let path = c.in-Ok-Location.path in
    let next : IsNext (running_of (cased_at xs c.args.scan)) (to.Location path) = rw (c.deref.ensures.value, c.in-Ok-Location.field-0-is) at c.in-Ok-Location.ensures.next in
    let alone = next-alone xs c.args.scan (to.Location path) next in
    let shape : IsLook c.self.inside.vfs.case (length path) l = subst (λ (k : Case). IsLook k (length path) l) c.self.invariant.one_case c.in-Ok.ensures.shape in
    let seen = seen-in xs c.see_in.new.scans.items c.args.scan l c.in-Ok-see_in.ensures.seen in
    let left = left-in xs c.args.scan c.in-Ok-see_in.left l c.in-Ok-see_in.ensures.left in
    rw (← c.self.view_is) (record {
      given = Some l;
      asked = ToLook (Some l) ∷ [];
      step = λ s st. read-saw g.V.Versions.version g.V.Versions.count _ _ _ _ _ l path c.kind_of-kind.result c.in-Ok-see_in.left s c.args.scan c.in-Ok.ensures.content c.kind_of-kind.ensures alone seen left st;
      looks = λ s st. look-of-state g.V.Versions.version g.V.Versions.count _ path l s c.args.scan alone shape st;
      due = λ w told s st. look-for-state g.V.Versions.version g.V.Versions.count _ w path l s c.args.scan told (rw (← c.self.invariant.one_case) (c.in-Ok.ensures.seen w told)) alone st;
      are_asked = refl;
      answered = c.in-Ok.ensures.answered;
    })

pub returns-clause-told : goal.returns-clause-told
returns-clause-told g c =
    let xs = c.self.inside.scans.items in
    let l = look_seen c.in-Ok.entry in
    let path = c.in-Ok-Location.path in
    let next : IsNext (running_of (cased_at xs c.args.scan)) (to.Location path) = rw (c.deref.ensures.value, c.in-Ok-Location.field-0-is) at c.in-Ok-Location.ensures.next in
    let alone = next-alone xs c.args.scan (to.Location path) next in
    let seen = seen-in xs c.see_in.new.scans.items c.args.scan l c.in-Ok-see_in.ensures.seen in
    let left = left-in xs c.args.scan c.in-Ok-see_in.left l c.in-Ok-see_in.ensures.left in
    rw (← c.self.view_is) (λ fine w told s st.
    read-told g.V.Versions.version g.V.Versions.count _ _ _ _ _ l w path c.kind_of-kind.result c.in-Ok-see_in.left s c.args.scan told (rw (← c.self.invariant.one_case) (c.in-Ok.ensures.seen w told)) c.in-Ok.ensures.content c.kind_of-kind.ensures alone seen left st)

-- ---- memory was wanting behind the look

pub returns-in-Err-see_in-clause-read : goal.returns-in-Err-see_in-clause-read
returns-in-Err-see_in-clause-read g c =
    let xs = c.self.inside.scans.items in
    let l = look_seen c.in-Ok.entry in
    let path = c.in-Ok-Location.path in
    let next : IsNext (running_of (cased_at xs c.args.scan)) (to.Location path) = rw (c.deref.ensures.value, c.in-Ok-Location.field-0-is) at c.in-Ok-Location.ensures.next in
    let alone = next-alone xs c.args.scan (to.Location path) next in
    let shape : IsLook c.self.inside.vfs.case (length path) l = subst (λ (k : Case). IsLook k (length path) l) c.self.invariant.one_case c.in-Ok.ensures.shape in
    rw (c.in-Err-see_in.ensures.refused, ← c.self.view_is) (record {
      given = Some l;
      asked = ToLook (Some l) ∷ [];
      step = λ s st. looked-stands g.V.Versions.version g.V.Versions.count _ _ _ _ s c.in-Ok.ensures.content st;
      looks = λ s st. look-of-state g.V.Versions.version g.V.Versions.count _ path l s c.args.scan alone shape st;
      due = λ w told s st. look-for-state g.V.Versions.version g.V.Versions.count _ w path l s c.args.scan told (rw (← c.self.invariant.one_case) (c.in-Ok.ensures.seen w told)) alone st;
      are_asked = inr refl;
      answered = c.in-Ok.ensures.answered;
    })

pub returns-in-Err-see_in-clause-last : goal.returns-in-Err-see_in-clause-last
returns-in-Err-see_in-clause-last g c =
    let path = c.in-Ok-Location.path in
    let next : IsNext (running_of (cased_at c.self.inside.scans.items c.args.scan)) (to.Location path) = rw (c.deref.ensures.value, c.in-Ok-Location.field-0-is) at c.in-Ok-Location.ensures.next in
    rw (← c.self.view_is) (λ a s st none. read-wanting g.V.Versions.version g.V.Versions.count _ path a.look s c.args.scan (next-alone c.self.inside.scans.items c.args.scan (to.Location path) next) st)
