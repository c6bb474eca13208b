-- What a scan decides, by the list of what was read.
use Rattle.std.proofs.Common.{◌≡◌, Bool, true, false, ◌&&◌, List, [], ◌∷◌, ◌++◌, map, refl, sym, ap, ◌∙◌, subst, Option, Some, None, option_map, append_assoc, append-nil}
use Rattle.vfs_model.specs.declared.Case.{Case}
use Rattle.vfs_model.specs.Paths.{Name, Path, folded_name, place, is_same_name, is_same_place}
use Rattle.vfs_model.specs.World.{AreInOrder}
use Rattle.vfs_model.specs.Scanning.{Look, SeesNothing, SeesFile, SeesDir, PartialSnapshot, Unread, NotThere, FileRead, DirRead, PartialChildren, NoChildren, PartialChild, partial_child, partial_child_name, partial_children, partial_names, partial_at_name, partial_at, decided_status, IsPartialTree, Reading, reading_below, readings, readings_in, reading_at, status_seen, decided_status_below, decided_status_in, decided_status_by}
use Rattle.vfs_laws.proofs.Splits.{split, split_option}
use Rattle.vfs_laws.proofs.PathLemmas.{same_name-refl, same_name-true}
use Rattle.vfs_laws.proofs.NameLemmas.{none-after}
use Rattle.vfs_laws.proofs.ScanningLemmas.{partial_child_name-is, partial_child-unlisted, partial_at-unread, partial_at-not_there}
use Rattle.vfs_laws.proofs.WalkLemmas.{IsOrdered, AreOrdered, ordered}

abbrev own_look : PartialSnapshot → Option Look
own_look Unread = None
own_look NotThere = Some SeesNothing
own_look (FileRead bytes) = Some (SeesFile bytes)
own_look (DirRead partials) = Some (SeesDir (partial_names partials))

abbrev found_in : Option Name → Option Look → Option Look
found_in None l = None
found_in (Some m) l = l

-- what was seen at the names x below the scan's path
abbrev found : Case → PartialSnapshot → Path → Option Look
found case s [] = own_look s
found case s (n ∷ x) = found_in (partial_child_name case (partial_children s) n) (found case (partial_at_name case s n) x)

abbrev or_else : Option Look → Option Look → Option Look
or_else (Some l) other = Some l
or_else None other = other

reading-append : (case : Case) (a b : List Reading) (x : Path) → reading_at case (a ++ b) x ≡ or_else (reading_at case a x) (reading_at case b x)
reading-append case [] b x = refl
reading-append case (r ∷ a) b x = split (is_same_place (place case r.names) x) (λ s. rw s refl) (λ s. rw s (reading-append case a b x))

reading-same : (case : Case) (m n : Name) (rs : List Reading) (x : Path) → is_same_name (folded_name case m) n ≡ true → reading_at case (map (reading_below m) rs) (n ∷ x) ≡ reading_at case rs x
reading-same case m n [] x e = refl
reading-same case m n (r ∷ rs) x e =
    let back : is_same_name n (folded_name case m) ≡ true = ap (λ k. is_same_name k (folded_name case m)) (sym (same_name-true (folded_name case m) n e)) ∙ same_name-refl (folded_name case m) in
    rw (e, back) (ap (λ o. Rattle.std.proofs.Common.cond (is_same_place (place case r.names) x) (Some r.look) o) (reading-same case m n rs x e))

reading-other : (case : Case) (m n : Name) (rs : List Reading) (x : Path) → is_same_name (folded_name case m) n ≡ false → reading_at case (map (reading_below m) rs) (n ∷ x) ≡ None
reading-other case m n [] x e = refl
reading-other case m n (r ∷ rs) x e = rw e (reading-other case m n rs x e)

or_else-none : (a b : Option Look) → b ≡ None → or_else a b ≡ a
or_else-none None b e = e
or_else-none (Some l) b e = refl

mutual
  readings-found : (case : Case) (s : PartialSnapshot) (x : Path) → IsOrdered case s → reading_at case (readings s) x ≡ found case s x
  readings-found case Unread [] h = refl
  readings-found case Unread (n ∷ x) h = refl
  readings-found case NotThere [] h = refl
  readings-found case NotThere (n ∷ x) h = refl
  readings-found case (FileRead bytes) [] h = refl
  readings-found case (FileRead bytes) (n ∷ x) h = refl
  readings-found case (DirRead partials) [] h = refl
  readings-found case (DirRead partials) (n ∷ x) h = readings_in-found case partials n x h.0 h.1

  readings_in-found : (case : Case) (partials : PartialChildren) (n : Name) (x : Path) → AreInOrder case (partial_names partials) → AreOrdered case partials → reading_at case (readings_in partials) (n ∷ x) ≡ found_in (partial_child_name case partials n) (found case (partial_child case partials n) x)
  readings_in-found case NoChildren n x order h = refl
  readings_in-found case (PartialChild m s more) n x order h =
      reading-append case (map (reading_below m) (readings s)) (readings_in more) (n ∷ x)
      ∙ split (is_same_name (folded_name case m) n)
      (λ e.
      let gone : partial_child_name case more n ≡ None = ap (partial_child_name case more) (sym (same_name-true (folded_name case m) n e)) ∙ partial_child_name-is case more (folded_name case m) ∙ none-after case m (partial_names more) order.0 in
      let none : reading_at case (readings_in more) (n ∷ x) ≡ None = readings_in-found case more n x order.1 h.1 ∙ ap (λ o. found_in o (found case (partial_child case more n) x)) gone in
      or_else-none _ _ none ∙ reading-same case m n (readings s) x e ∙ readings-found case s x h.0 ∙ rw e refl)
      (λ e. ap (λ o. or_else o (reading_at case (readings_in more) (n ∷ x))) (reading-other case m n (readings s) x e) ∙ readings_in-found case more n x order.1 h.1 ∙ rw e refl)

own_look-status : (t : PartialSnapshot) → decided_status t ≡ option_map status_seen (own_look t)
own_look-status Unread = refl
own_look-status NotThere = refl
own_look-status (FileRead bytes) = refl
own_look-status (DirRead partials) = refl

here-of : (case : Case) (s : PartialSnapshot) (p : Path) (t : PartialSnapshot) → ((q : Path) → reading_at case (readings s) (p ++ q) ≡ found case t q) → own_look t ≡ reading_at case (readings s) p
here-of case s p t there = sym (ap (reading_at case (readings s)) (sym (append-nil p)) ∙ there [])

decided_status-at : (case : Case) (s : PartialSnapshot) (p : Path) (t : PartialSnapshot) (x : Path) → ((q : Path) → reading_at case (readings s) (p ++ q) ≡ found case t q) → decided_status (partial_at case t x) ≡ decided_status_by case (readings s) p x
decided_status-at case s p t [] there = own_look-status t ∙ ap (option_map status_seen) (here-of case s p t there)
decided_status-at case s p Unread (n ∷ x) there = ap decided_status (partial_at-unread case x) ∙ ap (λ o. decided_status_in case o n (decided_status_by case (readings s) (p ++ n ∷ []) x)) (here-of case s p Unread there)
decided_status-at case s p NotThere (n ∷ x) there = ap decided_status (partial_at-not_there case x) ∙ ap (λ o. decided_status_in case o n (decided_status_by case (readings s) (p ++ n ∷ []) x)) (here-of case s p NotThere there)
decided_status-at case s p (FileRead bytes) (n ∷ x) there = ap decided_status (partial_at-not_there case x) ∙ ap (λ o. decided_status_in case o n (decided_status_by case (readings s) (p ++ n ∷ []) x)) (here-of case s p (FileRead bytes) there)
decided_status-at case s p (DirRead partials) (n ∷ x) there =
    split_option (partial_child_name case partials n)
    (λ o.
    ap (λ k. decided_status (partial_at case k x)) (partial_child-unlisted case partials n o)
    ∙ ap decided_status (partial_at-not_there case x)
    ∙ ap (λ m. decided_status_below m (decided_status_by case (readings s) (p ++ n ∷ []) x)) (sym (sym (partial_child_name-is case partials n) ∙ o))
    ∙ ap (λ l. decided_status_in case l n (decided_status_by case (readings s) (p ++ n ∷ []) x)) (here-of case s p (DirRead partials) there))
    (λ m o.
    decided_status-at case s (p ++ n ∷ []) (partial_child case partials n) x (λ q. ap (reading_at case (readings s)) (append_assoc p (n ∷ []) q) ∙ there (n ∷ q) ∙ ap (λ l. found_in l (found case (partial_child case partials n) q)) o)
    ∙ ap (λ m. decided_status_below m (decided_status_by case (readings s) (p ++ n ∷ []) x)) (sym (sym (partial_child_name-is case partials n) ∙ o))
    ∙ ap (λ l. decided_status_in case l n (decided_status_by case (readings s) (p ++ n ∷ []) x)) (here-of case s p (DirRead partials) there))

-- a scan decides what the list of its readings decides
pub decided-by_readings : (case : Case) (s : PartialSnapshot) (x : Path) → IsPartialTree case s → decided_status (partial_at case s x) ≡ decided_status_by case (readings s) [] x
decided-by_readings case s x h = decided_status-at case s [] s x (λ q. readings-found case s q (ordered case s h))
