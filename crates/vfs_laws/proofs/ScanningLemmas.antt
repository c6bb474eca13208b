-- What a scan in progress says after one more location was read.
use Rattle.std.proofs.Common.{◌≡◌, ◌≢◌, ◌⊎◌, true, false, cond, List, [], ◌∷◌, ◌++◌, refl, sym, ap, ◌∙◌, subst, Option, Some, None, arith, ◌+◌, ◌≤◌, ℕ, length, length-append, append_assoc, append-nil, inl, inr}
use Rattle.std.proofs.lemmas.Bool.{true≢false, false_from_ne_true}
use Rattle.std.specs.List.{AllByRecursion as Each}
use Rattle.vfs_model.specs.declared.Case.{Case}
use Rattle.vfs_model.specs.Paths.{Name, Path, folded_name, place, is_same_name, is_at_or_above}
use Rattle.vfs_model.specs.World.{World, Entry, Node, Directory, Regular, at, names, AreInOrder, AreShort, AreFew, listed_in, Status, IsMissing, IsFile, IsDir, status_of, status_of_node, spelling_of, digest_of_bytes, IsClosed}
use Rattle.vfs_model.specs.Snapshot.{Missing, child, listed_name, children_of, sub, told_name, status, names_of, IsTree, IsListing, ArePresent}
use Rattle.vfs_model.specs.Scanning.{Look, SeesNothing, SeesFile, SeesDir, names_seen, look, look_of, look_of_node, PartialSnapshot, Unread, NotThere, FileRead, DirRead, PartialChildren, NoChildren, PartialChild, unread, partial_of_look, next_left, next_left_in, below_or, after_look, after_look_in, snapshot_made, children_made, partial_child, partial_child_name, partial_at_name, partial_at, decided_status, unless_missing, partial_children, told_partial_name, partial_names, IsListed, IsPartialTree, IsShallow, Tells}
use Rattle.vfs_model.specs.Scan.{Agrees}
use Rattle.vfs_laws.proofs.Splits.{split, split_or, split_option}
use Rattle.vfs_laws.proofs.PathLemmas.{same_name-refl, same_name-true, rest_of}
use Rattle.vfs_laws.proofs.NameLemmas.{spelling-none, names-in_order, listed_in-names, listed_in-head, none-after, some-is}
use Rattle.vfs_laws.proofs.ScanLemmas.{too_deep}

-- a scan's spelling of a name is that in the list of the names
pub partial_child_name-is : (case : Case) (partials : PartialChildren) (k : Name) → partial_child_name case partials k ≡ listed_in case (partial_names partials) k
partial_child_name-is case NoChildren k = refl
partial_child_name-is case (PartialChild n s more) k = split (is_same_name (folded_name case n) k) (λ t. rw t refl) (λ t. rw t (partial_child_name-is case more k))

-- where the first location left lies, and what reading it changes
record IsFirst (case : Case) (l : Look) (partials : PartialChildren) (y : Path) : Type 0 where
  name : Name
  rest : Path
  path_is : y ≡ name ∷ rest
  listed : partial_child_name case partials (folded_name case name) ≡ Some name
  next_is : next_left (partial_child case partials (folded_name case name)) ≡ Some rest
  filled : partial_child case (after_look_in l partials) (folded_name case name) ≡ after_look l (partial_child case partials (folded_name case name))
  others : (k : Name) → is_same_name (folded_name case name) k ≡ false → partial_child case (after_look_in l partials) k ≡ partial_child case partials k

first-is : (case : Case) (l : Look) (partials : PartialChildren) (y : Path) → AreInOrder case (partial_names partials) → next_left_in partials ≡ Some y → IsFirst case l partials y
first-is case l NoChildren y h e = absurd (none y e)
  where
    none : (y : Path) → None ≡ Some y → ⊥
    none y e = cc
first-is case l (PartialChild n s more) y h e =
    split_option (next_left s)
    (λ o.
    let m = first-is case l more y h.1 (rw o at e) in
    let other : is_same_name (folded_name case n) (folded_name case m.name) ≡ false =
    false_from_ne_true _ (λ t. none m.name (sym m.listed ∙ ap (partial_child_name case more) (sym (same_name-true (folded_name case n) (folded_name case m.name) t)) ∙ partial_child_name-is case more (folded_name case n) ∙ none-after case n (partial_names more) h.0)) in
    record {
      name = m.name;
      rest = m.rest;
      path_is = m.path_is;
      listed = rw other m.listed;
      next_is = rw other m.next_is;
      filled = rw (o, other) m.filled;
      others = λ k d. rw o (split (is_same_name (folded_name case n) k) (λ t. rw t refl) (λ t. rw t (m.others k d)));
    })
    (λ x o. record {
      name = n;
      rest = x;
      path_is = sym (some-is _ y (rw o at e));
      listed = rw (same_name-refl (folded_name case n)) refl;
      next_is = rw (same_name-refl (folded_name case n)) o;
      filled = rw (o, same_name-refl (folded_name case n)) refl;
      others = λ k d. rw (o, d) refl;
    })
  where
    none : (m : Name) → Some m ≡ None → ⊥
    none m e = cc

-- a read leaves the names of the directory
pub partial_names-after_look : (l : Look) (partials : PartialChildren) → partial_names (after_look_in l partials) ≡ partial_names partials
partial_names-after_look l NoChildren = refl
partial_names-after_look l (PartialChild n s more) = split_option (next_left s) (λ o. rw o (ap (λ r. n ∷ r) (partial_names-after_look l more))) (λ x o. rw o refl)

partial_child_name-after_look : (case : Case) (l : Look) (partials : PartialChildren) (k : Name) → partial_child_name case (after_look_in l partials) k ≡ partial_child_name case partials k
partial_child_name-after_look case l partials k = partial_child_name-is case (after_look_in l partials) k ∙ ap (λ ns. listed_in case ns k) (partial_names-after_look l partials) ∙ sym (partial_child_name-is case partials k)

-- ---- the first location left is read

-- where the first location left lies below, a directory was read
next_left-below : (s : PartialSnapshot) (n : Name) (y : Path) → next_left s ≡ Some (n ∷ y) → (s ≡ DirRead (partial_children s)) × (next_left_in (partial_children s) ≡ Some (n ∷ y))
next_left-below Unread n y e = cc
next_left-below NotThere n y e = cc
next_left-below (FileRead bytes) n y e = cc
next_left-below (DirRead partials) n y e = (refl, e)

next_left-itself : (s : PartialSnapshot) → next_left s ≡ Some [] → s ≡ Unread
next_left-itself Unread e = refl
next_left-itself NotThere e = cc
next_left-itself (FileRead bytes) e = cc
next_left-itself (DirRead partials) e = absurd (by partials e)
  where
    by : (partials : PartialChildren) → next_left_in partials ≡ Some [] → ⊥
    by NoChildren e = cc
    by (PartialChild n s more) e = split_option (next_left s) (λ o. by more (rw o at e)) (λ x o. let t : Some (n ∷ x) ≡ Some [] = rw o at e in cc)

-- what a read does one level down, where the first location left is at or below the name n
record IsReadBelow (case : Case) (l : Look) (s : PartialSnapshot) (n : Name) (y : Path) : Type 0 where
  before : s ≡ DirRead (partial_children s)
  after : after_look l s ≡ DirRead (after_look_in l (partial_children s))
  next_is : next_left (partial_at_name case s (folded_name case n)) ≡ Some y
  filled : partial_at_name case (after_look l s) (folded_name case n) ≡ after_look l (partial_at_name case s (folded_name case n))
  others : (k : Name) → is_same_name (folded_name case n) k ≡ false → partial_at_name case (after_look l s) k ≡ partial_at_name case s k

after_look-below_name : (case : Case) (l : Look) (s : PartialSnapshot) (n : Name) (y : Path) → IsPartialTree case s → next_left s ≡ Some (n ∷ y) → IsReadBelow case l s n y
after_look-below_name case l Unread n y h e = cc
after_look-below_name case l NotThere n y h e = cc
after_look-below_name case l (FileRead bytes) n y h e = cc
after_look-below_name case l (DirRead partials) n y h e =
    let m = first-is case l partials (n ∷ y) (h []).order e in
    let name_is : m.name ≡ n = heads m.path_is in
    let rest_is : m.rest ≡ y = tails m.path_is in
    record {
      before = refl;
      after = refl;
      next_is = ap (λ k. next_left (partial_child case partials (folded_name case k))) (sym name_is) ∙ m.next_is ∙ ap Some rest_is;
      filled = subst (λ k. partial_child case (after_look_in l partials) (folded_name case k) ≡ after_look l (partial_child case partials (folded_name case k))) name_is m.filled;
      others = λ k d. m.others k (ap (λ z. is_same_name (folded_name case z) k) name_is ∙ d);
    }
  where
    heads : {a b : Name} {x z : Path} → a ∷ x ≡ b ∷ z → b ≡ a
    heads e = cc

    tails : {a b : Name} {x z : Path} → a ∷ x ≡ b ∷ z → z ≡ x
    tails e = cc

partial_at_name-partial : (case : Case) (s : PartialSnapshot) (k : Name) → IsPartialTree case s → IsPartialTree case (partial_at_name case s k)
partial_at_name-partial case s k h x = h (k ∷ x)

-- at and below the location that was read stands what was seen
pub after_look-below : (case : Case) (l : Look) (s : PartialSnapshot) (y x : Path) → IsPartialTree case s → next_left s ≡ Some y → partial_at case (after_look l s) (place case y ++ x) ≡ partial_at case (partial_of_look l) x
after_look-below case l s [] x h e = ap (λ t. partial_at case (after_look l t) x) (next_left-itself s e)
after_look-below case l s (n ∷ y) x h e =
    let m = after_look-below_name case l s n y h e in
    ap (λ t. partial_at case t (place case y ++ x)) m.filled ∙ after_look-below case l (partial_at_name case s (folded_name case n)) y x (partial_at_name-partial case s _ h) m.next_is

-- elsewhere the kind and the names are as before
record IsAlike (s t : PartialSnapshot) : Type 0 where
  kind : decided_status s ≡ decided_status t
  names : partial_names (partial_children s) ≡ partial_names (partial_children t)

alike-refl : (s : PartialSnapshot) → IsAlike s s
alike-refl s = record { kind = refl; names = refl }

after_look-elsewhere : (case : Case) (l : Look) (s : PartialSnapshot) (y x : Path) → IsPartialTree case s → next_left s ≡ Some y → is_at_or_above (place case y) x ≡ false → IsAlike (partial_at case (after_look l s) x) (partial_at case s x)
after_look-elsewhere case l s [] x h e off = absurd (true≢false off)
after_look-elsewhere case l s (n ∷ y) [] h e off =
    let m = after_look-below_name case l s n y h e in
    record {
      kind = ap decided_status m.after ∙ sym (ap decided_status m.before);
      names = ap (λ t. partial_names (partial_children t)) m.after ∙ partial_names-after_look l (partial_children s);
    }
after_look-elsewhere case l s (n ∷ y) (k ∷ x) h e off =
    let m = after_look-below_name case l s n y h e in
    split (is_same_name (folded_name case n) k)
    (λ t.
    let same = same_name-true (folded_name case n) k t in
    let deeper = after_look-elsewhere case l (partial_at_name case s (folded_name case n)) y x (partial_at_name-partial case s _ h) m.next_is (rw t at off) in
    subst (λ z. IsAlike (partial_at case (partial_at_name case (after_look l s) z) x) (partial_at case (partial_at_name case s z) x)) same
    (subst (λ z. IsAlike (partial_at case z x) (partial_at case (partial_at_name case s (folded_name case n)) x)) (sym m.filled) deeper))
    (λ t. subst (λ z. IsAlike (partial_at case z x) (partial_at case (partial_at_name case s k) x)) (sym (m.others k t)) (alike-refl _))

unless-some : (t : PartialSnapshot) (name : Option Name) (o : Name) → unless_missing t name ≡ Some o → name ≡ Some o
unless-some Unread name o e = e
unless-some NotThere name o e = cc
unless-some (FileRead bytes) name o e = e
unless-some (DirRead partials) name o e = e

unless-after_look : (l : Look) (t : PartialSnapshot) (y : Path) (name : Option Name) (o : Name) → next_left t ≡ Some y → unless_missing (after_look l t) name ≡ Some o → unless_missing t name ≡ Some o
unless-after_look l Unread y name o h e = unless-some (partial_of_look l) name o e
unless-after_look l NotThere y name o h e = cc
unless-after_look l (FileRead bytes) y name o h e = cc
unless-after_look l (DirRead partials) y name o h e = e

-- a spelling that is told was told before, or is below what was read
told-after_look : (case : Case) (l : Look) (s : PartialSnapshot) (y x : Path) (o : Name) → IsPartialTree case s → next_left s ≡ Some y → told_partial_name case (after_look l s) x ≡ Some o
    → (told_partial_name case s x ≡ Some o) ⊎ ((z : Path) × (x ≡ place case y ++ z) × (told_partial_name case (partial_of_look l) z ≡ Some o))
told-after_look case l s y [] o h e t = cc
told-after_look case l s [] (k ∷ x) o h e t = inr (k ∷ x, refl, subst (λ z. told_partial_name case (after_look l z) (k ∷ x) ≡ Some o) (next_left-itself s e) t)
told-after_look case l s (n ∷ y) (k ∷ []) o h e t =
    let m = after_look-below_name case l s n y h e in
    let name_is : partial_child_name case (partial_children (after_look l s)) k ≡ partial_child_name case (partial_children s) k = ap (λ z. partial_child_name case (partial_children z) k) m.after ∙ partial_child_name-after_look case l (partial_children s) k in
    let told : unless_missing (partial_at_name case (after_look l s) k) (partial_child_name case (partial_children s) k) ≡ Some o = ap (unless_missing (partial_at_name case (after_look l s) k)) (sym name_is) ∙ t in
    inl (split (is_same_name (folded_name case n) k)
    (λ d.
    let same = same_name-true (folded_name case n) k d in
    unless-after_look l (partial_at_name case s k) y _ o (ap (λ z. next_left (partial_at_name case s z)) (sym same) ∙ m.next_is)
    (subst (λ z. unless_missing z (partial_child_name case (partial_children s) k) ≡ Some o) (subst (λ z. partial_at_name case (after_look l s) z ≡ after_look l (partial_at_name case s z)) same m.filled) told))
    (λ d. subst (λ z. unless_missing z (partial_child_name case (partial_children s) k) ≡ Some o) (m.others k d) told))
told-after_look case l s (n ∷ y) (k ∷ o' ∷ x) o h e t =
    let m = after_look-below_name case l s n y h e in
    split (is_same_name (folded_name case n) k)
    (λ d.
    let same = same_name-true (folded_name case n) k d in
    let told = subst (λ z. told_partial_name case z (o' ∷ x) ≡ Some o) (subst (λ z. partial_at_name case (after_look l s) z ≡ after_look l (partial_at_name case s z)) same m.filled) t in
    split_or (told-after_look case l (partial_at_name case s k) y (o' ∷ x) o (partial_at_name-partial case s k h) (ap (λ z. next_left (partial_at_name case s z)) (sym same) ∙ m.next_is) told)
    (λ p. inl p)
    (λ p. inr (p.0, (λ i. sym same i ∷ p.1 i), p.2)))
    (λ d. inl (subst (λ z. told_partial_name case z (o' ∷ x) ≡ Some o) (m.others k d) t))

-- ---- what a look says is so

-- where nothing is at a place, nothing is below it
pub nowhere : (case : Case) (world : World) (q : Path) (k : Name) (z : Path) → IsClosed case world → at case world (q ++ k ∷ []) ≡ None → at case world (q ++ k ∷ z) ≡ None
nowhere case world q k [] closed e = e
nowhere case world q k (m ∷ z) closed e =
    ap (at case world) (sym (append_assoc q (k ∷ []) (m ∷ z)))
    ∙ nowhere case world (q ++ k ∷ []) m z closed (closed (q ++ k ∷ []) m (λ d. absurd (by (sym (ap status_of e) ∙ d))))
  where
    by : IsMissing ≡ IsDir → ⊥
    by d = cc

-- below what is not there nothing is
pub partial_at-not_there : (case : Case) (x : Path) → partial_at case NotThere x ≡ NotThere
partial_at-not_there case [] = refl
partial_at-not_there case (n ∷ x) = partial_at-not_there case x

-- below what is unread nothing is read
pub partial_at-unread : (case : Case) (x : Path) → partial_at case Unread x ≡ Unread
partial_at-unread case [] = refl
partial_at-unread case (n ∷ x) = partial_at-unread case x

told-not_there : (case : Case) (x : Path) → told_partial_name case NotThere x ≡ None
told-not_there case [] = refl
told-not_there case (n ∷ []) = refl
told-not_there case (n ∷ m ∷ x) = told-not_there case (m ∷ x)

-- nothing is told below what is unread
pub told-unread : (case : Case) (x : Path) → told_partial_name case Unread x ≡ None
told-unread case [] = refl
told-unread case (n ∷ []) = refl
told-unread case (n ∷ m ∷ x) = told-unread case (m ∷ x)

-- a name that was listed is unread, and any other is not there
partial_child-unread : (case : Case) (ns : List Name) (k : Name) → ((partial_child case (unread ns) k ≡ Unread) × (partial_child_name case (unread ns) k ≡ listed_in case ns k)) ⊎ ((partial_child case (unread ns) k ≡ NotThere) × (listed_in case ns k ≡ None))
partial_child-unread case [] k = inr (refl, refl)
partial_child-unread case (n ∷ ns) k = split (is_same_name (folded_name case n) k) (λ t. rw t (inl (refl, refl))) (λ t. rw t (partial_child-unread case ns k))

-- below what is not there nothing is
tells-nothing : (case : Case) (world : World) (q : Path) (s : PartialSnapshot) (k : Name) (z : Path) → partial_at_name case s k ≡ NotThere → at case world (q ++ k ∷ z) ≡ None → Tells case world q s (k ∷ z)
tells-nothing case world q s k z out none = record {
  kind = λ g e.
      some-is g IsMissing (sym e ∙ ap (λ t. decided_status (partial_at case t z)) out ∙ ap decided_status (partial_at-not_there case z)) ∙ sym (ap status_of none);
  spelling = λ n e. absurd (untold z n e);
}
  where
    untold : (z : Path) (n : Name) → told_partial_name case s (k ∷ z) ≡ Some n → ⊥
    untold [] n e = let t : None ≡ Some n = sym (ap (λ t. unless_missing t (partial_child_name case (partial_children s) k)) out) ∙ e in cc
    untold (m ∷ z) n e = let t : None ≡ Some n = sym (told-not_there case (m ∷ z)) ∙ sym (ap (λ t. told_partial_name case t (m ∷ z)) out) ∙ e in cc

-- a name that is listed and not read yet
tells-unread : (case : Case) (world : World) (q : Path) (s : PartialSnapshot) (k : Name) (z : Path) → partial_at_name case s k ≡ Unread → partial_child_name case (partial_children s) k ≡ spelling_of (at case world (q ++ k ∷ [])) → Tells case world q s (k ∷ z)
tells-unread case world q s k z out name = record {
  kind = λ g e. absurd (undecided g (sym (ap decided_status (partial_at-unread case z)) ∙ sym (ap (λ t. decided_status (partial_at case t z)) out) ∙ e));
  spelling = told z;
}
  where
    undecided : (g : Status) → None ≡ Some g → ⊥
    undecided g e = cc

    told : (z : Path) (n : Name) → told_partial_name case s (k ∷ z) ≡ Some n → spelling_of (at case world (q ++ k ∷ z)) ≡ Some n
    told [] n e = sym name ∙ sym (ap (λ t. unless_missing t (partial_child_name case (partial_children s) k)) out) ∙ e
    told (m ∷ z) n e = let t : None ≡ Some n = sym (told-unread case (m ∷ z)) ∙ sym (ap (λ t. told_partial_name case t (m ∷ z)) out) ∙ e in cc

-- what is decided of the place itself
tells-here : (case : Case) (world : World) (q : Path) (s : PartialSnapshot) → decided_status s ≡ Some (status_of (at case world q)) → Tells case world q s []
tells-here case world q s is = record {
  kind = λ g e. some-is g _ (sym e ∙ is) ∙ ap (λ z. status_of (at case world z)) (sym (append-nil q));
  spelling = λ n e. absurd (by n e);
}
  where
    by : (n : Name) → None ≡ Some n → ⊥
    by n e = cc

not_dir : (case : Case) (world : World) (q : Path) (g : Status) → status_of (at case world q) ≡ g → (g ≢ IsDir) → IsClosed case world → (k : Name) (z : Path) → at case world (q ++ k ∷ z) ≡ None
not_dir case world q g is other closed k z = nowhere case world q k z closed (closed q k (λ d. other (sym is ∙ d)))

-- what is seen at a place is so there and below
pub partial_of_look-tells : (case : Case) (world : World) (q x : Path) → IsClosed case world → Tells case world q (partial_of_look (look case world q)) x
partial_of_look-tells case world q x closed = by (at case world q) refl x
  where
    by_node : (e : Entry) (node : Node) → node ≡ e.node → at case world q ≡ Some e → (x : Path) → Tells case world q (partial_of_look (look_of_node node (names case world q))) x
    by_node e Directory n is [] = tells-here case world q _ (ap (λ t. Some (status_of_node t)) n ∙ ap (λ t. Some (status_of t)) (sym is))
    by_node e (Regular bytes) n is [] = tells-here case world q _ (ap (λ t. Some (status_of_node t)) n ∙ ap (λ t. Some (status_of t)) (sym is))
    by_node e (Regular bytes) n is (k ∷ z) =
        tells-nothing case world q _ k z refl (not_dir case world q (IsFile (digest_of_bytes bytes)) (ap status_of is ∙ ap status_of_node (sym n)) (λ d. cc) closed k z)
    by_node e Directory n is (k ∷ z) =
        split_or (partial_child-unread case (names case world q) k)
        (λ h. tells-unread case world q _ k z h.0 (h.1 ∙ listed_in-names case world q k))
        (λ h. tells-nothing case world q _ k z h.0 (nowhere case world q k z closed (spelling-none _ (sym (listed_in-names case world q k) ∙ h.1))))

    by : (e : Option Entry) → at case world q ≡ e → (x : Path) → Tells case world q (partial_of_look (look_of e (names case world q))) x
    by None is [] = tells-here case world q _ (ap (λ t. Some (status_of t)) (sym is))
    by None is (k ∷ z) = tells-nothing case world q _ k z refl (not_dir case world q IsMissing (ap status_of is) (λ d. cc) closed k z)
    by (Some e) is x = by_node e e.node refl is x

-- ---- a read

tells-below : (case : Case) (world : World) (p y z : Path) (s : PartialSnapshot) → Tells case world (p ++ y) s z → (g : Status) → decided_status (partial_at case s z) ≡ Some g → g ≡ status_of (at case world (p ++ (y ++ z)))
tells-below case world p y z s t g e = t.kind g e ∙ ap (λ x. status_of (at case world x)) (append_assoc p y z)

-- reading the first location left keeps what a scan says true, where it is true but for some places
pub after_read-tells : (case : Case) (world : World) (p : Path) (s : PartialSnapshot) (y : Path) (x : Path) → IsClosed case world → IsPartialTree case s → next_left s ≡ Some y
    → Tells case world p s x → Tells case world p (after_look (look case world (p ++ place case y)) s) x
after_read-tells case world p s y x closed h e old = record { kind = kind; spelling = spelling }
  where
    l : Look
    l = look case world (p ++ place case y)

    kind : (g : Status) → decided_status (partial_at case (after_look (look case world (p ++ place case y)) s) x) ≡ Some g → g ≡ status_of (at case world (p ++ x))
    kind g d =
        split (is_at_or_above (place case y) x)
        (λ on.
        let (z, x_is) = rest_of (place case y) x on in
        let t = partial_of_look-tells case world (p ++ place case y) z closed in
        let d' : decided_status (partial_at case (partial_of_look (look case world (p ++ place case y))) z) ≡ Some g =
        ap decided_status (sym (after_look-below case (look case world (p ++ place case y)) s y z h e)) ∙ ap (λ v. decided_status (partial_at case (after_look (look case world (p ++ place case y)) s) v)) (sym x_is) ∙ d in
        tells-below case world p (place case y) z _ t g d' ∙ ap (λ v. status_of (at case world (p ++ v))) (sym x_is))
        (λ off. old.kind g (sym (after_look-elsewhere case (look case world (p ++ place case y)) s y x h e off).kind ∙ d))

    spelling : (n : Name) → told_partial_name case (after_look (look case world (p ++ place case y)) s) x ≡ Some n → spelling_of (at case world (p ++ x)) ≡ Some n
    spelling n t =
        split_or (told-after_look case (look case world (p ++ place case y)) s y x n h e t)
        (λ o. old.spelling n o)
        (λ b.
        ap (λ v. spelling_of (at case world v)) (ap (λ v. p ++ v) b.1 ∙ sym (append_assoc p (place case y) b.0))
        ∙ (partial_of_look-tells case world (p ++ place case y) b.0 closed).spelling n b.2)

-- names that are listed are listed
pub partial_names-unread : (ns : List Name) → partial_names (unread ns) ≡ ns
partial_names-unread [] = refl
partial_names-unread (n ∷ ns) = ap (λ r. n ∷ r) (partial_names-unread ns)

-- what is unread, and what is not there, lists nothing
pub names_under : (case : Case) (t : PartialSnapshot) (z : Path) → (t ≡ Unread) ⊎ (t ≡ NotThere) → IsListed case (partial_names (partial_children (partial_at case t z)))
names_under case t z (inl e) = subst (λ v. IsListed case (partial_names (partial_children v))) (sym (partial_at-unread case z) ∙ ap (λ v. partial_at case v z) (sym e)) (record { order = tt; few = omega arith })
names_under case t z (inr e) = subst (λ v. IsListed case (partial_names (partial_children v))) (sym (partial_at-not_there case z) ∙ ap (λ v. partial_at case v z) (sym e)) (record { order = tt; few = omega arith })

partial_of_look-partial : (case : Case) (world : World) (q : Path) → AreFew case world → IsPartialTree case (partial_of_look (look case world q))
partial_of_look-partial case world q few = by (at case world q)
  where
    by_node : (node : Node) → IsPartialTree case (partial_of_look (look_of_node node (names case world q)))
    by_node (Regular bytes) [] = record { order = tt; few = omega arith }
    by_node (Regular bytes) (k ∷ z) = names_under case NotThere z (inr refl)
    by_node Directory [] = subst (IsListed case) (sym (partial_names-unread (names case world q))) (record { order = names-in_order case world q; few = few q })
    by_node Directory (k ∷ z) = names_under case _ z (split_or (partial_child-unread case (names case world q) k) (λ h. inl h.0) (λ h. inr h.0))

    by : (e : Option Entry) → IsPartialTree case (partial_of_look (look_of e (names case world q)))
    by None [] = record { order = tt; few = omega arith }
    by None (k ∷ z) = names_under case NotThere z (inr refl)
    by (Some e) x = by_node e.node x

-- what a look sees is listed as the look lists it
pub look-partial : (case : Case) (l : Look) → IsListed case (names_seen l) → IsPartialTree case (partial_of_look l)
look-partial case SeesNothing h [] = h
look-partial case SeesNothing h (k ∷ z) = names_under case NotThere z (inr refl)
look-partial case (SeesFile bytes) h [] = h
look-partial case (SeesFile bytes) h (k ∷ z) = names_under case NotThere z (inr refl)
look-partial case (SeesDir names) h [] = subst (IsListed case) (sym (partial_names-unread names)) h
look-partial case (SeesDir names) h (k ∷ z) = names_under case _ z (split_or (partial_child-unread case names k) (λ u. inl u.0) (λ u. inr u.0))

-- a read keeps what is listed, whatever the look
pub after_look-listed : (case : Case) (l : Look) (s : PartialSnapshot) (y : Path) → IsPartialTree case (partial_of_look l) → IsPartialTree case s → next_left s ≡ Some y → IsPartialTree case (after_look l s)
after_look-listed case l s y seen h e x =
    split (is_at_or_above (place case y) x)
    (λ on.
    let (z, x_is) = rest_of (place case y) x on in
    subst (λ v. IsListed case (partial_names (partial_children v))) (sym (after_look-below case l s y z h e) ∙ ap (partial_at case (after_look l s)) (sym x_is)) (seen z))
    (λ off. subst (IsListed case) (sym (after_look-elsewhere case l s y x h e off).names) (h x))

-- a read of a world lists names in order, and at most 4,096
pub after_look-partial : (case : Case) (world : World) (p : Path) (s : PartialSnapshot) (y : Path) → AreFew case world → IsPartialTree case s → next_left s ≡ Some y → IsPartialTree case (after_look (look case world (p ++ place case y)) s)
after_look-partial case world p s y few h e = after_look-listed case (look case world (p ++ place case y)) s y (partial_of_look-partial case world (p ++ place case y) few) h e

-- ---- what is made of a scan

-- a name that is not listed is not there
pub partial_child-unlisted : (case : Case) (partials : PartialChildren) (k : Name) → partial_child_name case partials k ≡ None → partial_child case partials k ≡ NotThere
partial_child-unlisted case NoChildren k e = refl
partial_child-unlisted case (PartialChild n s more) k e =
    split (is_same_name (folded_name case n) k)
    (λ t. let u : Some n ≡ None = rw t at e in cc)
    (λ t. rw t (partial_child-unlisted case more k (rw t at e)))

-- what is left out is missing
left_out : (case : Case) (n : Name) (s : PartialSnapshot) (more : PartialChildren) (k : Name) → AreInOrder case (partial_names (PartialChild n s more)) → is_same_name (folded_name case n) k ≡ true → (partial_child_name case more k ≡ None) × (partial_child case more k ≡ NotThere)
left_out case n s more k h t =
    let e : partial_child_name case more k ≡ None = ap (partial_child_name case more) (sym (same_name-true (folded_name case n) k t)) ∙ partial_child_name-is case more (folded_name case n) ∙ none-after case n (partial_names more) h.0 in
    (e, partial_child-unlisted case more k e)

dropped : (case : Case) (n : Name) (s : PartialSnapshot) (more : PartialChildren) (k : Name) → AreInOrder case (partial_names (PartialChild n s more)) → snapshot_made s ≡ Missing → child case (children_made more) k ≡ snapshot_made (partial_child case more k)
    → child case (children_made more) k ≡ snapshot_made (partial_child case (PartialChild n s more) k)
dropped case n s more k h m rest =
    split (is_same_name (folded_name case n) k)
    (λ t. rw t (rest ∙ ap snapshot_made (left_out case n s more k h t).1 ∙ sym m))
    (λ t. rw t rest)

kept : (case : Case) (n : Name) (s : PartialSnapshot) (more : PartialChildren) (k : Name) → child case (children_made more) k ≡ snapshot_made (partial_child case more k)
    → cond (is_same_name (folded_name case n) k) (snapshot_made s) (child case (children_made more) k) ≡ snapshot_made (partial_child case (PartialChild n s more) k)
kept case n s more k rest = split (is_same_name (folded_name case n) k) (λ t. rw t refl) (λ t. rw t rest)

child-snapshot_made : (case : Case) (partials : PartialChildren) (k : Name) → AreInOrder case (partial_names partials) → child case (children_made partials) k ≡ snapshot_made (partial_child case partials k)
child-snapshot_made case NoChildren k h = refl
child-snapshot_made case (PartialChild n Unread more) k h = dropped case n Unread more k h refl (child-snapshot_made case more k h.1)
child-snapshot_made case (PartialChild n NotThere more) k h = dropped case n NotThere more k h refl (child-snapshot_made case more k h.1)
child-snapshot_made case (PartialChild n (FileRead bytes) more) k h = kept case n (FileRead bytes) more k (child-snapshot_made case more k h.1)
child-snapshot_made case (PartialChild n (DirRead partials) more) k h = kept case n (DirRead partials) more k (child-snapshot_made case more k h.1)

-- no location is left exactly where none is left in either
pub below_or-none : (n : Name) (a b : Option Path) → below_or n a b ≡ None → (a ≡ None) × (b ≡ None)
below_or-none n None b e = (refl, e)
below_or-none n (Some x) b e = cc

unless-none : (t : PartialSnapshot) → unless_missing t None ≡ None
unless-none Unread = refl
unless-none NotThere = refl
unless-none (FileRead bytes) = refl
unless-none (DirRead partials) = refl

listed_name-snapshot_made : (case : Case) (partials : PartialChildren) (k : Name) → AreInOrder case (partial_names partials) → next_left_in partials ≡ None → listed_name case (children_made partials) k ≡ unless_missing (partial_child case partials k) (partial_child_name case partials k)
listed_name-snapshot_made case NoChildren k h e = refl
listed_name-snapshot_made case (PartialChild n Unread more) k h e = cc
listed_name-snapshot_made case (PartialChild n NotThere more) k h e =
    let rest = listed_name-snapshot_made case more k h.1 e in
    split (is_same_name (folded_name case n) k)
    (λ t. rw t (rest ∙ ap (unless_missing (partial_child case more k)) (left_out case n NotThere more k h t).0 ∙ unless-none (partial_child case more k)))
    (λ t. rw t rest)
listed_name-snapshot_made case (PartialChild n (FileRead bytes) more) k h e = split (is_same_name (folded_name case n) k) (λ t. rw t refl) (λ t. rw t (listed_name-snapshot_made case more k h.1 e))
listed_name-snapshot_made case (PartialChild n (DirRead partials) more) k h e =
    split (is_same_name (folded_name case n) k) (λ t. rw t refl) (λ t. rw t (listed_name-snapshot_made case more k h.1 (below_or-none n _ _ e).1))

partial_child-done : (case : Case) (partials : PartialChildren) (k : Name) → next_left_in partials ≡ None → next_left (partial_child case partials k) ≡ None
partial_child-done case NoChildren k e = refl
partial_child-done case (PartialChild n s more) k e =
    let parts = below_or-none n (next_left s) (next_left_in more) e in
    split (is_same_name (folded_name case n) k) (λ t. rw t parts.0) (λ t. rw t (partial_child-done case more k parts.1))

partial_at_name-done : (case : Case) (s : PartialSnapshot) (k : Name) → next_left s ≡ None → next_left (partial_at_name case s k) ≡ None
partial_at_name-done case Unread k e = cc
partial_at_name-done case NotThere k e = refl
partial_at_name-done case (FileRead bytes) k e = refl
partial_at_name-done case (DirRead partials) k e = partial_child-done case partials k e

snapshot_made-at_name : (case : Case) (s : PartialSnapshot) (k : Name) → IsPartialTree case s → next_left s ≡ None → child case (children_of (snapshot_made s)) k ≡ snapshot_made (partial_at_name case s k)
snapshot_made-at_name case Unread k h e = cc
snapshot_made-at_name case NotThere k h e = refl
snapshot_made-at_name case (FileRead bytes) k h e = refl
snapshot_made-at_name case (DirRead partials) k h e = child-snapshot_made case partials k (h []).order

snapshot_made-listed_name : (case : Case) (s : PartialSnapshot) (k : Name) → IsPartialTree case s → next_left s ≡ None → listed_name case (children_of (snapshot_made s)) k ≡ unless_missing (partial_at_name case s k) (partial_child_name case (partial_children s) k)
snapshot_made-listed_name case Unread k h e = cc
snapshot_made-listed_name case NotThere k h e = refl
snapshot_made-listed_name case (FileRead bytes) k h e = refl
snapshot_made-listed_name case (DirRead partials) k h e = listed_name-snapshot_made case partials k (h []).order e

decided_status-snapshot_made : (s : PartialSnapshot) → next_left s ≡ None → decided_status s ≡ Some (status (snapshot_made s))
decided_status-snapshot_made Unread e = cc
decided_status-snapshot_made NotThere e = refl
decided_status-snapshot_made (FileRead bytes) e = refl
decided_status-snapshot_made (DirRead partials) e = refl

sub-snapshot_made : (case : Case) (s : PartialSnapshot) (x : Path) → IsPartialTree case s → next_left s ≡ None → sub case (snapshot_made s) x ≡ snapshot_made (partial_at case s x)
sub-snapshot_made case s [] h e = refl
sub-snapshot_made case s (k ∷ x) h e = ap (λ t. sub case t x) (snapshot_made-at_name case s k h e) ∙ sub-snapshot_made case (partial_at_name case s k) x (partial_at_name-partial case s k h) (partial_at_name-done case s k e)

partial_at-done : (case : Case) (s : PartialSnapshot) (x : Path) → next_left s ≡ None → next_left (partial_at case s x) ≡ None
partial_at-done case s [] e = e
partial_at-done case s (k ∷ x) e = partial_at-done case (partial_at_name case s k) x (partial_at_name-done case s k e)

told-snapshot_made : (case : Case) (s : PartialSnapshot) (x : Path) → IsPartialTree case s → next_left s ≡ None → told_name case (snapshot_made s) x ≡ told_partial_name case s x
told-snapshot_made case s [] h e = refl
told-snapshot_made case s (k ∷ []) h e = snapshot_made-listed_name case s k h e
told-snapshot_made case s (k ∷ m ∷ x) h e = ap (λ t. told_name case t (m ∷ x)) (snapshot_made-at_name case s k h e) ∙ told-snapshot_made case (partial_at_name case s k) (m ∷ x) (partial_at_name-partial case s k h) (partial_at_name-done case s k e)

-- when nothing is left, the snapshot that is made agrees where the scan tells the truth
pub snapshot_made-agrees : (case : Case) (world : World) (p : Path) (s : PartialSnapshot) (x : Path) → IsPartialTree case s → next_left s ≡ None → Tells case world p s x → Agrees case world p (snapshot_made s) x
snapshot_made-agrees case world p s x h e t = record {
  same_kind = ap status (sub-snapshot_made case s x h e) ∙ t.kind _ (decided_status-snapshot_made (partial_at case s x) (partial_at-done case s x e));
  same_spelling = λ n u. t.spelling n (sym (told-snapshot_made case s x h e) ∙ u);
}

each-snapshot_made : (P : Name → Type 0) (partials : PartialChildren) → Each P (partial_names partials) → Each P (names_of (children_made partials))
each-snapshot_made P NoChildren h = tt
each-snapshot_made P (PartialChild n Unread more) h = each-snapshot_made P more h.1
each-snapshot_made P (PartialChild n NotThere more) h = each-snapshot_made P more h.1
each-snapshot_made P (PartialChild n (FileRead bytes) more) h = (h.0, each-snapshot_made P more h.1)
each-snapshot_made P (PartialChild n (DirRead partials) more) h = (h.0, each-snapshot_made P more h.1)

snapshot_made-in_order : (case : Case) (partials : PartialChildren) → AreInOrder case (partial_names partials) → AreInOrder case (names_of (children_made partials))
snapshot_made-in_order case NoChildren h = tt
snapshot_made-in_order case (PartialChild n Unread more) h = snapshot_made-in_order case more h.1
snapshot_made-in_order case (PartialChild n NotThere more) h = snapshot_made-in_order case more h.1
snapshot_made-in_order case (PartialChild n (FileRead bytes) more) h = (each-snapshot_made _ more h.0, snapshot_made-in_order case more h.1)
snapshot_made-in_order case (PartialChild n (DirRead partials) more) h = (each-snapshot_made _ more h.0, snapshot_made-in_order case more h.1)

snapshot_made-present : (partials : PartialChildren) → ArePresent (children_made partials)
snapshot_made-present NoChildren = tt
snapshot_made-present (PartialChild n Unread more) = snapshot_made-present more
snapshot_made-present (PartialChild n NotThere more) = snapshot_made-present more
snapshot_made-present (PartialChild n (FileRead bytes) more) = ((λ e. cc), snapshot_made-present more)
snapshot_made-present (PartialChild n (DirRead partials) more) = ((λ e. cc), snapshot_made-present more)

snapshot_made-few : (partials : PartialChildren) → length (names_of (children_made partials)) ≤ length (partial_names partials)
snapshot_made-few NoChildren = omega arith
snapshot_made-few (PartialChild n Unread more) = omega (arith, snapshot_made-few more)
snapshot_made-few (PartialChild n NotThere more) = omega (arith, snapshot_made-few more)
snapshot_made-few (PartialChild n (FileRead bytes) more) = omega (arith, snapshot_made-few more)
snapshot_made-few (PartialChild n (DirRead partials) more) = omega (arith, snapshot_made-few more)

-- the snapshot that is made is a tree
pub snapshot_made-tree : (case : Case) (s : PartialSnapshot) → IsPartialTree case s → next_left s ≡ None → IsTree case (snapshot_made s)
snapshot_made-tree case s h e x = subst (λ t. IsListing case (children_of t)) (sym (sub-snapshot_made case s x h e)) (by (partial_at case s x) (h x))
  where
    by : (t : PartialSnapshot) → IsListed case (partial_names (partial_children t)) → IsListing case (children_of (snapshot_made t))
    by Unread h = record { order = tt; few = omega arith; present = tt }
    by NotThere h = record { order = tt; few = omega arith; present = tt }
    by (FileRead bytes) h = record { order = tt; few = omega arith; present = tt }
    by (DirRead partials) h = record { order = snapshot_made-in_order case partials h.order; few = omega (arith, snapshot_made-few partials, h.few); present = snapshot_made-present partials }

-- ---- nothing is listed below 64 names

-- nothing is below a path of 64 names
pub names-none : (case : Case) (world : World) (q : Path) → AreShort world → 64 ≤ length q → names case world q ≡ []
names-none case world q short deep = by (names case world q) refl
  where
    by : (ns : List Name) → names case world q ≡ ns → ns ≡ []
    by [] is = refl
    by (n ∷ ns) is =
        let head : listed_in case (names case world q) (folded_name case n) ≡ Some n = ap (λ l. listed_in case l (folded_name case n)) is ∙ listed_in-head case n ns in
        let none = too_deep case world (q ++ folded_name case n ∷ []) short (omega (arith, deep, length-append q (folded_name case n ∷ []))) in
        absurd (clash n (sym (ap spelling_of none) ∙ sym (listed_in-names case world q (folded_name case n)) ∙ head))
      where
        clash : (n : Name) → None ≡ Some n → ⊥
        clash n e = cc

unlisted_under : (case : Case) (t : PartialSnapshot) (z : Path) → (t ≡ Unread) ⊎ (t ≡ NotThere) → partial_names (partial_children (partial_at case t z)) ≡ []
unlisted_under case t z (inl e) = ap (λ v. partial_names (partial_children v)) (ap (λ v. partial_at case v z) e ∙ partial_at-unread case z)
unlisted_under case t z (inr e) = ap (λ v. partial_names (partial_children v)) (ap (λ v. partial_at case v z) e ∙ partial_at-not_there case z)

seen-shallow : (case : Case) (world : World) (q : Path) → AreShort world → (z : Path) → 64 ≤ length q + length z → partial_names (partial_children (partial_at case (partial_of_look (look case world q)) z)) ≡ []
seen-shallow case world q short z deep = by (at case world q) z deep
  where
    by_node : (node : Node) (z : Path) → 64 ≤ length q + length z → partial_names (partial_children (partial_at case (partial_of_look (look_of_node node (names case world q))) z)) ≡ []
    by_node (Regular bytes) [] deep = refl
    by_node (Regular bytes) (k ∷ z) deep = unlisted_under case NotThere z (inr refl)
    by_node Directory [] deep = partial_names-unread (names case world q) ∙ names-none case world q short (omega (arith, deep))
    by_node Directory (k ∷ z) deep = unlisted_under case _ z (split_or (partial_child-unread case (names case world q) k) (λ h. inl h.0) (λ h. inr h.0))

    by : (e : Option Entry) (z : Path) → 64 ≤ length q + length z → partial_names (partial_children (partial_at case (partial_of_look (look_of e (names case world q))) z)) ≡ []
    by None [] deep = refl
    by None (k ∷ z) deep = unlisted_under case NotThere z (inr refl)
    by (Some e) z deep = by_node e.node z deep

look-shallow : (case : Case) (l : Look) (n : ℕ) → (64 ≤ n → names_seen l ≡ []) → (z : Path) → 64 ≤ n + length z → partial_names (partial_children (partial_at case (partial_of_look l) z)) ≡ []
look-shallow case SeesNothing n h [] deep = refl
look-shallow case SeesNothing n h (k ∷ z) deep = unlisted_under case NotThere z (inr refl)
look-shallow case (SeesFile bytes) n h [] deep = refl
look-shallow case (SeesFile bytes) n h (k ∷ z) deep = unlisted_under case NotThere z (inr refl)
look-shallow case (SeesDir names) n h [] deep = partial_names-unread names ∙ h (omega (arith, deep))
look-shallow case (SeesDir names) n h (k ∷ z) deep = unlisted_under case _ z (split_or (partial_child-unread case names k) (λ u. inl u.0) (λ u. inr u.0))

-- a read keeps that nothing is listed at 64 names, whatever the look
pub after_look-deep : (case : Case) (l : Look) (depth : ℕ) (s : PartialSnapshot) (y : Path) → (64 ≤ depth + length (place case y) → names_seen l ≡ []) → IsPartialTree case s → next_left s ≡ Some y → IsShallow case depth s → IsShallow case depth (after_look l s)
after_look-deep case l depth s y short h e old x deep =
    split (is_at_or_above (place case y) x)
    (λ on.
    let (z, x_is) = rest_of (place case y) x on in
    ap (λ v. partial_names (partial_children (partial_at case (after_look l s) v))) x_is
    ∙ ap (λ v. partial_names (partial_children v)) (after_look-below case l s y z h e)
    ∙ look-shallow case l (depth + length (place case y)) short z (omega (arith, deep, ap length x_is, length-append (place case y) z)))
    (λ off. (after_look-elsewhere case l s y x h e off).names ∙ old x deep)

-- a read of a world lists no names at 64 names
pub after_look-shallow : (case : Case) (world : World) (p : Path) (s : PartialSnapshot) (y : Path) → AreShort world → IsPartialTree case s → next_left s ≡ Some y → IsShallow case (length p) s → IsShallow case (length p) (after_look (look case world (p ++ place case y)) s)
after_look-shallow case world p s y short h e old x deep =
    split (is_at_or_above (place case y) x)
    (λ on.
    let (z, x_is) = rest_of (place case y) x on in
    let l = look case world (p ++ place case y) in
    ap (λ v. partial_names (partial_children (partial_at case (after_look l s) v))) x_is
    ∙ ap (λ v. partial_names (partial_children v)) (after_look-below case l s y z h e)
    ∙ seen-shallow case world (p ++ place case y) short z (omega (arith, deep, ap length x_is, length-append (place case y) z, length-append p (place case y))))
    (λ off. (after_look-elsewhere case (look case world (p ++ place case y)) s y x h e off).names ∙ old x deep)
