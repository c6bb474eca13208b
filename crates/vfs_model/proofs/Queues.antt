-- The queue of events: what does not fit, what is lost, and the mark.
use Rattle.std.proofs.Common.{◌≡◌, true, [], ◌∷◌, refl, None}
use Rattle.vfs_model.specs.declared.Case.TheVariants.{Sensitive}
use Rattle.vfs_model.specs.declared.Kind.TheVariants.{File as FileKind, Dir as DirKind}
use Rattle.vfs_model.specs.World.{digest_of_bytes}
use Rattle.vfs_model.specs.Edit.{Write, Move}
use Rattle.vfs_model.specs.Snapshot.{File, Dir, Nothing, Child}
use Rattle.vfs_model.specs.Pending.{is_hit}
use Rattle.vfs_model.specs.Fingerprint.{Relative, fingerprint}
use Rattle.vfs_model.specs.State.{CallEdit, CallEvent, CallLose, CallDeliver, CallBegin, CallRead, CallPublish, CallFind, CallKind, CallVersion, CallFingerprint, Done, Overflow, Fits, Lost, Cleared, Delivered, NothingPending, Version, Saw, Stale, Stored, Found, KindIs, Is, Unknown}
use Rattle.vfs_model.proofs.Shorthand.{IsRun, start, file, dir, input, seen, found_file, a, abc, b, c, d, f, g, q, r, v, w, x, y, z, zzz}

-- an event that does not fit sets the mark: its delivery makes every scan stale and is a version of every place
an_overflow_clears_everything : IsRun (start Sensitive 1 []) (
    (CallEdit (Write (f ∷ []) abc), Done)
    ∷ (CallEdit (Write (g ∷ []) abc), Overflow)
    ∷ (CallBegin 0 (f ∷ []), Version 0)
    ∷ (CallRead 0, Saw (f ∷ []) FileKind 0)
    ∷ (CallDeliver, Cleared)
    ∷ (CallPublish 0, Stale 1)
    ∷ (CallVersion (zzz ∷ []), Version 1)
    ∷ (CallDeliver, NothingPending)
    ∷ [])
an_overflow_clears_everything = refl

-- an event after a loss comes after the mark
events_after_a_loss_are_delivered : IsRun (start Sensitive 1024 []) (
    (CallLose, Lost)
    ∷ (CallEvent (q ∷ []), Fits)
    ∷ (CallDeliver, Cleared)
    ∷ (CallDeliver, Delivered (q ∷ []))
    ∷ (CallDeliver, NothingPending)
    ∷ (CallVersion (q ∷ []), Version 2)
    ∷ (CallVersion (r ∷ []), Version 1)
    ∷ [])
events_after_a_loss_are_delivered = refl

-- the second event of a move does not fit, and both are behind the mark
the_second_event_of_a_move_does_not_fit : IsRun (start Sensitive 1 (dir (d ∷ []) ∷ file (f ∷ []) a ∷ [])) (
    (CallEdit (Move (f ∷ []) (d ∷ g ∷ [])), Overflow)
    ∷ (CallEvent (q ∷ []), Fits)
    ∷ (CallDeliver, Cleared)
    ∷ (CallDeliver, Delivered (q ∷ []))
    ∷ (CallDeliver, NothingPending)
    ∷ (CallVersion (q ∷ []), Version 2)
    ∷ (CallVersion (d ∷ []), Version 1)
    ∷ [])
the_second_event_of_a_move_does_not_fit = refl

-- the first event of a move does not fit, and the second waits behind the mark
the_first_event_of_a_move_does_not_fit : IsRun (start Sensitive 1 (dir (d ∷ []) ∷ file (f ∷ []) a ∷ [])) (
    (CallEvent (z ∷ []), Fits)
    ∷ (CallEdit (Move (f ∷ []) (d ∷ g ∷ [])), Overflow)
    ∷ (CallDeliver, Cleared)
    ∷ (CallDeliver, Delivered (d ∷ g ∷ []))
    ∷ (CallDeliver, NothingPending)
    ∷ (CallVersion (d ∷ g ∷ []), Version 2)
    ∷ (CallVersion (f ∷ []), Version 1)
    ∷ [])
the_first_event_of_a_move_does_not_fit = refl

-- with two places and one event waiting the first event of a move fits and the second does not
an_overflow_empties_the_queue : IsRun (start Sensitive 2 (dir (d ∷ []) ∷ file (f ∷ []) a ∷ [])) (
    (CallEvent (z ∷ []), Fits)
    ∷ (CallEdit (Move (f ∷ []) (d ∷ g ∷ [])), Overflow)
    ∷ (CallEvent (y ∷ []), Fits)
    ∷ (CallEvent (x ∷ []), Fits)
    ∷ (CallEvent (w ∷ []), Overflow)
    ∷ (CallEvent (v ∷ []), Fits)
    ∷ (CallDeliver, Cleared)
    ∷ (CallDeliver, Delivered (v ∷ []))
    ∷ (CallDeliver, NothingPending)
    ∷ [])
an_overflow_empties_the_queue = refl

-- the delivery of the mark leaves nothing retained or kept, makes each scan stale, and leaves the events that came after it
the_mark_clears_all_but_later_events : IsRun (start Sensitive 1024 (dir (d ∷ []) ∷ file (d ∷ a ∷ []) a ∷ file (f ∷ []) abc ∷ [])) (
    (CallBegin 0 (d ∷ []), Version 0)
    ∷ (CallRead 0, Saw (d ∷ []) DirKind 1)
    ∷ (CallRead 0, Saw (d ∷ a ∷ []) FileKind 0)
    ∷ (CallPublish 0, Stored)
    ∷ (CallFingerprint (input (d ∷ []) Relative ∷ []), Is (fingerprint Sensitive (seen (d ∷ []) Relative (Dir (Child a (File (digest_of_bytes a)) Nothing)) ∷ [])))
    ∷ (CallBegin 1 (f ∷ []), Version 0)
    ∷ (CallRead 1, Saw (f ∷ []) FileKind 0)
    ∷ (CallLose, Lost)
    ∷ (CallEvent (d ∷ []), Fits)
    ∷ (CallFind (d ∷ a ∷ []), found_file (digest_of_bytes a))
    ∷ (CallFingerprint (input (d ∷ []) Relative ∷ []), Is (fingerprint Sensitive (seen (d ∷ []) Relative (Dir (Child a (File (digest_of_bytes a)) Nothing)) ∷ [])))
    ∷ (CallDeliver, Cleared)
    ∷ (CallFind (d ∷ a ∷ []), Found None)
    ∷ (CallKind [], KindIs None)
    ∷ (CallFingerprint (input (d ∷ []) Relative ∷ []), Unknown 0)
    ∷ (CallPublish 1, Stale 1)
    ∷ (CallBegin 1 (f ∷ []), Version 1)
    ∷ (CallRead 1, Saw (f ∷ []) FileKind 0)
    ∷ (CallPublish 1, Stored)
    ∷ (CallDeliver, Delivered (d ∷ []))
    ∷ (CallDeliver, NothingPending)
    ∷ (CallVersion [], Version 2)
    ∷ (CallVersion (f ∷ []), Version 1)
    ∷ (CallFind (f ∷ []), found_file (digest_of_bytes abc))
    ∷ [])
the_mark_clears_all_but_later_events = refl

-- two losses are one mark
two_losses_are_one_mark : IsRun (start Sensitive 1024 []) (
    (CallEvent (a ∷ []), Fits)
    ∷ (CallLose, Lost)
    ∷ (CallEvent (b ∷ []), Fits)
    ∷ (CallLose, Lost)
    ∷ (CallEvent (c ∷ []), Fits)
    ∷ (CallDeliver, Cleared)
    ∷ (CallDeliver, Delivered (c ∷ []))
    ∷ (CallDeliver, NothingPending)
    ∷ (CallVersion (a ∷ []), Version 1)
    ∷ (CallVersion (c ∷ []), Version 2)
    ∷ (CallVersion (b ∷ []), Version 1)
    ∷ [])
two_losses_are_one_mark = refl

-- under the mark nothing is certain
under_the_mark_nothing_is_certain : is_hit Sensitive (record { events = []; capacity = 1; mark = true }) (a ∷ []) ≡ true
under_the_mark_nothing_is_certain = refl
