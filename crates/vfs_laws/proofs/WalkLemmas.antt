-- A scan's partial snapshot says the same as two lists: what was read, and what is left.
use Rattle.std.proofs.Common.{◌≡◌, List, [], ◌∷◌, ◌++◌, map, length, refl, sym, ap, ◌∙◌, subst, Some, None, inr, append_assoc, append-nil, arith, length-append}
use Rattle.std.proofs.lemmas.List.{length-map, map-append}
use Rattle.std.specs.List.{AllByRecursion as Each}
use Rattle.std.specs.declared.cmp.Ordering.TheVariants.{Less}
use Rattle.vfs_model.specs.declared.Case.{Case}
use Rattle.vfs_model.specs.Paths.{Name, Path, folded_name, is_same_name, name_order}
use Rattle.vfs_model.specs.World.{AreInOrder}
use Rattle.vfs_model.specs.Scanning.{Look, SeesNothing, SeesFile, SeesDir, PartialSnapshot, Unread, NotThere, FileRead, DirRead, PartialChildren, NoChildren, PartialChild, unread, partial_of_look, count_left, count_left_in, next_left, next_left_in, after_look, after_look_in, partial_child, partial_child_name, partial_children, partial_at, partial_names, IsListed, IsPartialTree, AreUnread, IsFront, AreFront, Reading, names_seen, children_at, read_first, walk_with, walk_after, after_looks, looks_of, reading_below, readings, readings_in, locations_left, locations_left_in, walk_of, first_of, path_order}
use Rattle.vfs_laws.proofs.Splits.{split, split_option}
use Rattle.vfs_laws.proofs.PathLemmas.{same_name-refl, same_name-true}
use Rattle.vfs_laws.proofs.NameLemmas.{each-weaker, some-is, none-after}
use Rattle.vfs_laws.proofs.ContentsLemmas.{unread-unread, after_read-adds}
use Rattle.vfs_laws.proofs.OrderLemmas.{order-self}
use Rattle.vfs_laws.proofs.RetainedLemmas.{each-append}
use Rattle.vfs_laws.proofs.ScanningLemmas.{below_or-none, partial_child_name-is, partial_child-unlisted, names_under, partial_names-after_look, partial_names-unread}

-- ---- what is left

mutual
  locations_left-none : (s : PartialSnapshot) → next_left s ≡ None → locations_left s ≡ []
  locations_left-none Unread e = cc
  locations_left-none NotThere e = refl
  locations_left-none (FileRead bytes) e = refl
  locations_left-none (DirRead partials) e = locations_left_in-none partials e

  locations_left_in-none : (partials : PartialChildren) → next_left_in partials ≡ None → locations_left_in partials ≡ []
  locations_left_in-none NoChildren e = refl
  locations_left_in-none (PartialChild n s more) e =
      let parts = below_or-none n (next_left s) (next_left_in more) e in
      (λ i. map (λ x. n ∷ x) (locations_left-none s parts.0 i) ++ locations_left_in-none more parts.1 i)

mutual
  after_look-none : (l : Look) (s : PartialSnapshot) → next_left s ≡ None → after_look l s ≡ s
  after_look-none l Unread e = cc
  after_look-none l NotThere e = refl
  after_look-none l (FileRead bytes) e = refl
  after_look-none l (DirRead partials) e = ap DirRead (after_look_in-none l partials e)

  after_look_in-none : (l : Look) (partials : PartialChildren) → next_left_in partials ≡ None → after_look_in l partials ≡ partials
  after_look_in-none l NoChildren e = refl
  after_look_in-none l (PartialChild n s more) e =
      let parts = below_or-none n (next_left s) (next_left_in more) e in
      rw parts.0 (ap (PartialChild n s) (after_look_in-none l more parts.1))

locations_left-unread : (ns : List Name) → locations_left_in (unread ns) ≡ map (λ n. [] ++ n ∷ []) ns
locations_left-unread [] = refl
locations_left-unread (n ∷ ns) = ap (λ xs. (n ∷ []) ∷ xs) (locations_left-unread ns)

locations_left-seen : (l : Look) → locations_left (partial_of_look l) ≡ children_at [] (names_seen l) ++ []
locations_left-seen SeesNothing = refl
locations_left-seen (SeesFile bytes) = refl
locations_left-seen (SeesDir names) = locations_left-unread names ∙ sym (append-nil _)

children-below : (n : Name) (y : Path) (ns : List Name) → map (λ x. n ∷ x) (children_at y ns) ≡ children_at (n ∷ y) ns
children-below n y [] = refl
children-below n y (m ∷ ns) = ap (λ xs. (n ∷ y ++ m ∷ []) ∷ xs) (children-below n y ns)

-- the first location left, and what a read of it makes of what is left
record IsHead (l : Look) (y : Path) (before after : List Path) : Type 0 where
  rest : List Path
  old : before ≡ y ∷ rest
  new : after ≡ children_at y (names_seen l) ++ rest

mutual
  locations_left-after_look : (l : Look) (s : PartialSnapshot) (y : Path) → next_left s ≡ Some y → IsHead l y (locations_left s) (locations_left (after_look l s))
  locations_left-after_look l Unread y e =
      let nil : [] ≡ y = some-is [] y e in
      subst (λ z. IsHead l z ([] ∷ []) (locations_left (partial_of_look l))) nil (record { rest = []; old = refl; new = locations_left-seen l })
  locations_left-after_look l NotThere y e = cc
  locations_left-after_look l (FileRead bytes) y e = cc
  locations_left-after_look l (DirRead partials) y e = locations_left_in-after_look l partials y e

  locations_left_in-after_look : (l : Look) (partials : PartialChildren) (y : Path) → next_left_in partials ≡ Some y → IsHead l y (locations_left_in partials) (locations_left_in (after_look_in l partials))
  locations_left_in-after_look l NoChildren y e = cc
  locations_left_in-after_look l (PartialChild n s more) y e =
      split_option (next_left s)
      (λ o.
      let none = locations_left-none s o in
      let h = locations_left_in-after_look l more y (rw o at e) in
      rw o (record {
        rest = h.rest;
        old = (λ i. map (λ x. n ∷ x) (none i) ++ h.old i);
        new = (λ i. map (λ x. n ∷ x) (none i) ++ h.new i);
      }))
      (λ x o.
      let y_is : n ∷ x ≡ y = some-is _ y (rw o at e) in
      let h = locations_left-after_look l s x o in
      rw o (subst (λ z. IsHead l z (map (λ x. n ∷ x) (locations_left s) ++ locations_left_in more) (map (λ x. n ∷ x) (locations_left (after_look l s)) ++ locations_left_in more)) y_is (record {
        rest = map (λ x. n ∷ x) h.rest ++ locations_left_in more;
        old = ap (λ xs. map (λ x. n ∷ x) xs ++ locations_left_in more) h.old;
        new =
            ap (λ xs. map (λ x. n ∷ x) xs ++ locations_left_in more) h.new
            ∙ ap (λ xs. xs ++ locations_left_in more) (map-append (λ x. n ∷ x) (children_at x (names_seen l)) h.rest)
            ∙ ap (λ xs. (xs ++ map (λ x. n ∷ x) h.rest) ++ locations_left_in more) (children-below n x (names_seen l))
            ∙ append_assoc (children_at (n ∷ x) (names_seen l)) (map (λ x. n ∷ x) h.rest) (locations_left_in more);
      })))

-- ---- what was read

readings-unread : (partials : PartialChildren) → AreUnread partials → readings_in partials ≡ []
readings-unread NoChildren h = refl
readings-unread (PartialChild n s more) h = (λ i. map (reading_below n) (readings (h.0 i)) ++ readings-unread more h.1 i)

readings-seen : (l : Look) → readings (partial_of_look l) ≡ record { names = []; look = l } ∷ []
readings-seen SeesNothing = refl
readings-seen (SeesFile bytes) = refl
readings-seen (SeesDir names) = (λ i. record { names = []; look = SeesDir (partial_names-unread names i) } ∷ readings-unread (unread names) (unread-unread names) i)

mutual
  readings-after_look : (l : Look) (s : PartialSnapshot) (y : Path) → IsFront s → next_left s ≡ Some y → readings (after_look l s) ≡ readings s ++ record { names = y; look = l } ∷ []
  readings-after_look l Unread y h e = readings-seen l ∙ ap (λ z. record { names = z; look = l } ∷ []) (some-is [] y e)
  readings-after_look l NotThere y h e = cc
  readings-after_look l (FileRead bytes) y h e = cc
  readings-after_look l (DirRead partials) y h e = (λ i. record { names = []; look = SeesDir (partial_names-after_look l partials i) } ∷ readings_in-after_look l partials y h e i)

  readings_in-after_look : (l : Look) (partials : PartialChildren) (y : Path) → AreFront partials → next_left_in partials ≡ Some y → readings_in (after_look_in l partials) ≡ readings_in partials ++ record { names = y; look = l } ∷ []
  readings_in-after_look l NoChildren y h e = cc
  readings_in-after_look l (PartialChild n s more) y h e =
      split_option (next_left s)
      (λ o.
      let front : AreFront more = rw o at h.1 in
      rw o (ap (λ t. map (reading_below n) (readings s) ++ t) (readings_in-after_look l more y front (rw o at e)) ∙ sym (append_assoc (map (reading_below n) (readings s)) (readings_in more) _)))
      (λ x o.
      let behind : AreUnread more = rw o at h.1 in
      let none = readings-unread more behind in
      let y_is : n ∷ x ≡ y = some-is _ y (rw o at e) in
      rw o (
      (λ i. map (reading_below n) (readings-after_look l s x h.0 o i) ++ none i)
      ∙ append-nil _
      ∙ map-append (reading_below n) (readings s) _
      ∙ (λ i. sym (append-nil (map (reading_below n) (readings s))) i ++ record { names = y_is i; look = l } ∷ [])
      ∙ (λ i. (map (reading_below n) (readings s) ++ sym none i) ++ record { names = y; look = l } ∷ [])))

-- ---- the two lists

-- a read makes of a scan's two lists those of the scan after it
walk-after_look : (l : Look) (s : PartialSnapshot) → IsFront s → walk_of (after_look l s) ≡ walk_with l (walk_of s)
walk-after_look l s h =
    split_option (next_left s)
    (λ o. ap walk_of (after_look-none l s o) ∙ by (locations_left s) (locations_left-none s o))
    (λ y o.
    let head = locations_left-after_look l s y o in
    (λ i. record { read = readings-after_look l s y h o i; left = head.new i })
    ∙ ap (read_first l (readings s)) (sym head.old))
  where
    by : (xs : List Path) → xs ≡ [] → record { read = readings s; left = xs } ≡ read_first l (readings s) xs
    by [] e = refl
    by (x ∷ xs) e = cc

after_look-front : (l : Look) (s : PartialSnapshot) → IsFront s → IsFront (after_look l s)
after_look-front l s h = split_option (next_left s) (λ o. subst IsFront (sym (after_look-none l s o)) h) (λ y o. (after_read-adds l s y h o).1)

-- looks leave nothing read behind the first location left
pub after_looks-front : (looks : List Look) (s : PartialSnapshot) → IsFront s → IsFront (after_looks s looks)
after_looks-front [] s h = h
after_looks-front (l ∷ looks) s h = after_looks-front looks (after_look l s) (after_look-front l s h)

-- the two lists go with the partial snapshot, look for look
pub walk-after_looks : (looks : List Look) (s : PartialSnapshot) → IsFront s → walk_of (after_looks s looks) ≡ walk_after (walk_of s) looks
walk-after_looks [] s h = refl
walk-after_looks (l ∷ looks) s h = walk-after_looks looks (after_look l s) (after_look-front l s h) ∙ ap (λ w. walk_after w looks) (walk-after_look l s h)

-- a scan is what its own looks make
after_looks-append : (s : PartialSnapshot) (a b : List Look) → after_looks s (a ++ b) ≡ after_looks (after_looks s a) b
after_looks-append s [] b = refl
after_looks-append s (l ∷ a) b = after_looks-append (after_look l s) a b

looks-append : (a b : List Reading) → looks_of (a ++ b) ≡ looks_of a ++ looks_of b
looks-append a b = map-append _ a b

own_looks-make : (l : Look) (s : PartialSnapshot) → IsFront s → after_looks Unread (looks_of (readings s)) ≡ s → after_looks Unread (looks_of (readings (after_look l s))) ≡ after_look l s
own_looks-make l s h e =
    split_option (next_left s)
    (λ o. ap (λ t. after_looks Unread (looks_of (readings t))) (after_look-none l s o) ∙ e ∙ sym (after_look-none l s o))
    (λ y o.
    ap (λ rs. after_looks Unread (looks_of rs)) (readings-after_look l s y h o)
    ∙ ap (after_looks Unread) (looks-append (readings s) (record { names = y; look = l } ∷ []))
    ∙ after_looks-append Unread (looks_of (readings s)) (l ∷ [])
    ∙ ap (after_look l) e)

-- a scan that its own looks make is so after more looks
pub own_looks-make_all : (looks : List Look) (s : PartialSnapshot) → IsFront s → after_looks Unread (looks_of (readings s)) ≡ s → after_looks Unread (looks_of (readings (after_looks s looks))) ≡ after_looks s looks
own_looks-make_all [] s h e = e
own_looks-make_all (l ∷ looks) s h e = own_looks-make_all looks (after_look l s) (after_look-front l s h) (own_looks-make l s h e)

-- the first location left, and how many there are
pub locations_left-next_left : (s : PartialSnapshot) → next_left s ≡ first_of (locations_left s)
locations_left-next_left s = split_option (next_left s) (λ o. o ∙ sym (ap first_of (locations_left-none s o))) (λ y o. o ∙ sym (ap first_of (locations_left-after_look SeesNothing s y o).old))

mutual
  -- how many are left is how long the list is
  pub locations_left-count_left : (s : PartialSnapshot) → count_left s ≡ length (locations_left s)
  locations_left-count_left Unread = omega arith
  locations_left-count_left NotThere = omega arith
  locations_left-count_left (FileRead bytes) = omega arith
  locations_left-count_left (DirRead partials) = locations_left_in-count_left partials

  locations_left_in-count_left : (partials : PartialChildren) → count_left_in partials ≡ length (locations_left_in partials)
  locations_left_in-count_left NoChildren = omega arith
  locations_left_in-count_left (PartialChild n s more) =
      let a = locations_left-count_left s in let b = locations_left_in-count_left more in
      let c = length-append (map (λ x. n ∷ x) (locations_left s)) (locations_left_in more) in
      let d = length-map (locations_left s) (λ x. n ∷ x) in
      omega (arith, a, b, c, d)

-- ---- what was read comes before what is left

-- the name of the first location left is that of a child
record IsNamed (P : Name → Type 0) (y : Path) : Type 0 where
  name : Name
  rest : Path
  is : y ≡ name ∷ rest
  holds : P name

next_left_in-named : (P : Name → Type 0) (partials : PartialChildren) (y : Path) → Each P (partial_names partials) → next_left_in partials ≡ Some y → IsNamed P y
next_left_in-named P NoChildren y h e = cc
next_left_in-named P (PartialChild n s more) y h e =
    split_option (next_left s)
    (λ o. next_left_in-named P more y h.1 (rw o at e))
    (λ x o. record { name = n; rest = x; is = sym (some-is _ y (rw o at e)); holds = h.0 })

-- in each directory that was read the names are in order
abbrev mutual
  pub IsOrdered : Case → PartialSnapshot → Type 0
  IsOrdered case Unread = Unit {0}
  IsOrdered case NotThere = Unit {0}
  IsOrdered case (FileRead bytes) = Unit {0}
  IsOrdered case (DirRead partials) = AreInOrder case (partial_names partials) × AreOrdered case partials

  pub AreOrdered : Case → PartialChildren → Type 0
  AreOrdered case NoChildren = Unit {0}
  AreOrdered case (PartialChild n s more) = IsOrdered case s × AreOrdered case more

order-deeper : (case : Case) (n : Name) (x y : Path) → path_order case x y ≡ Less → path_order case (n ∷ x) (n ∷ y) ≡ Less
order-deeper case n x y e = rw (order-self (folded_name case n)) e

order-sideways : (case : Case) (n m : Name) (x y : Path) → name_order case n m ≡ Less → path_order case (n ∷ x) (m ∷ y) ≡ Less
order-sideways case n m x y e = rw e refl

abbrev IsBefore : Case → Path → Reading → Type 0
IsBefore case y r = path_order case r.names y ≡ Less

each-map : {X Y : Type 0} (P : Y → Type 0) (f : X → Y) (xs : List X) → Each (λ x. P (f x)) xs → Each P (map f xs)
each-map P f [] h = tt
each-map P f (x ∷ xs) h = (h.0, each-map P f xs h.1)

each-all : {X : Type 0} (P : X → Type 0) → ((x : X) → P x) → (xs : List X) → Each P xs
each-all P f [] = tt
each-all P f (x ∷ xs) = (f x, each-all P f xs)

mutual
  readings-before : (case : Case) (s : PartialSnapshot) (y : Path) → IsOrdered case s → IsFront s → next_left s ≡ Some y → Each (IsBefore case y) (readings s)
  readings-before case Unread y ordered front e = tt
  readings-before case NotThere y ordered front e = cc
  readings-before case (FileRead bytes) y ordered front e = cc
  readings-before case (DirRead partials) y ordered front e =
      let named = next_left_in-named (λ n. Unit {0}) partials y (each-all _ (λ n. tt) (partial_names partials)) e in
      (subst (λ z. path_order case [] z ≡ Less) (sym named.is) refl, readings_in-before case partials y ordered.0 ordered.1 front e)

  readings_in-before : (case : Case) (partials : PartialChildren) (y : Path) → AreInOrder case (partial_names partials) → AreOrdered case partials → AreFront partials → next_left_in partials ≡ Some y → Each (IsBefore case y) (readings_in partials)
  readings_in-before case NoChildren y order ordered front e = cc
  readings_in-before case (PartialChild n s more) y order ordered front e =
      split_option (next_left s)
      (λ o.
      let behind : AreFront more = rw o at front.1 in
      let later : next_left_in more ≡ Some y = rw o at e in
      let named = next_left_in-named (λ m. name_order case n m ≡ Less) more y order.0 later in
      each-append (IsBefore case y) (map (reading_below n) (readings s)) (readings_in more)
      (each-map (IsBefore case y) (reading_below n) (readings s) (each-all _ (λ (r : Reading). subst (λ z. path_order case (n ∷ r.names) z ≡ Less) (sym named.is) (order-sideways case n named.name r.names named.rest named.holds)) (readings s)))
      (readings_in-before case more y order.1 ordered.1 behind later))
      (λ x o.
      let behind : AreUnread more = rw o at front.1 in
      let y_is : n ∷ x ≡ y = some-is _ y (rw o at e) in
      let inner = readings-before case s x ordered.0 front.0 o in
      subst (λ z. Each (IsBefore case z) (map (reading_below n) (readings s) ++ readings_in more)) y_is
      (subst (λ rs. Each (IsBefore case (n ∷ x)) (map (reading_below n) (readings s) ++ rs)) (sym (readings-unread more behind))
      (each-append (IsBefore case (n ∷ x)) (map (reading_below n) (readings s)) []
      (each-map (IsBefore case (n ∷ x)) (reading_below n) (readings s) (each-weaker _ _ (λ (r : Reading) h. order-deeper case n r.names x h) (readings s) inner))
      tt)))

-- ---- order in each directory, by recursion

ordered-tail : (case : Case) (n : Name) (s : PartialSnapshot) (more : PartialChildren) → AreInOrder case (n ∷ partial_names more) → IsPartialTree case (DirRead (PartialChild n s more)) → IsPartialTree case (DirRead more)
ordered-tail case n s more order h [] = record { order = order.1; few = omega (arith, (h []).few) }
ordered-tail case n s more order h (k ∷ x) =
    split (is_same_name (folded_name case n) k)
    (λ t.
    let none : partial_child_name case more k ≡ None = ap (partial_child_name case more) (sym (same_name-true (folded_name case n) k t)) ∙ partial_child_name-is case more (folded_name case n) ∙ none-after case n (partial_names more) order.0 in
    names_under case (partial_child case more k) x (inr (partial_child-unlisted case more k none)))
    (λ t. subst (λ v. IsListed case (partial_names (partial_children (partial_at case v x)))) (rw t refl) (h (k ∷ x)))

ordered-head : (case : Case) (n : Name) (s : PartialSnapshot) (more : PartialChildren) → IsPartialTree case (DirRead (PartialChild n s more)) → IsPartialTree case s
ordered-head case n s more h x = subst (λ v. IsListed case (partial_names (partial_children (partial_at case v x)))) (rw (same_name-refl (folded_name case n)) refl) (h (folded_name case n ∷ x))

mutual
  -- a partial tree is in order in each directory, by recursion
  pub ordered : (case : Case) (s : PartialSnapshot) → IsPartialTree case s → IsOrdered case s
  ordered case Unread h = tt
  ordered case NotThere h = tt
  ordered case (FileRead bytes) h = tt
  ordered case (DirRead partials) h = ((h []).order, ordered_in case partials h)

  ordered_in : (case : Case) (partials : PartialChildren) → IsPartialTree case (DirRead partials) → AreOrdered case partials
  ordered_in case NoChildren h = tt
  ordered_in case (PartialChild n s more) h = (ordered case s (ordered-head case n s more h), ordered_in case more (ordered-tail case n s more (h []).order h))

-- what is read next comes after all that was read
pub reads-forward : (case : Case) (s : PartialSnapshot) (y : Path) → IsPartialTree case s → IsFront s → next_left s ≡ Some y → Each (λ (r : Reading). path_order case r.names y ≡ Less) (readings s)
reads-forward case s y h front e = readings-before case s y (ordered case s h) front e
