-- What one child more makes of a directory.
use Rattle.std.proofs.Common.{◌≡◌, ◌≢◌, ◌∙◌, ℕ, ◌<◌, List, [], ◌∷◌, ◌++◌, length, refl, sym, ap, subst, cond, arith, append_assoc, append-nil, length-append}
use Rattle.std.specs.declared.cmp.Ordering.TheVariants.{Less}
use Rattle.std.specs.List.{AllByRecursion as Each}
use Rattle.vfs_model.specs.declared.Case.{Case}
use Rattle.vfs_model.specs.Paths.{Name, folded_name, is_same_name, name_order}
use Rattle.vfs_model.specs.World.{AreInOrder}
use Rattle.vfs_model.specs.Snapshot.{Snapshot, Missing, File, Dir, Children, Nothing, Child, child, children_of, names_of, ArePresent, IsListing, IsTree}
use Rattle.vfs_model.specs.Fingerprint.{digest_of, digest_bytes, four_bytes, kind_byte}
use Rattle.vfs_laws.proofs.Splits.{split}
use Rattle.vfs_laws.proofs.NameLemmas.{order-trans}
use Rattle.vfs_laws.proofs.RetainedLemmas.{each-append}
use Rattle.vfs_laws.proofs.StayLemmas.{sub-missing}
use Rattle.snapshot_tree.specs.Listing.{followed_by, IsAfterLast, AreTrees}

-- ---- the bytes of its digest

-- the bytes of one child
abbrev pub child_bytes : Name → Snapshot → List ℕ
child_bytes n s = four_bytes (length n) ++ n ++ kind_byte s ∷ digest_of s

-- they come behind those of the others
pub digest_bytes-followed_by : (cs : Children) (n : Name) (s : Snapshot) → digest_bytes (followed_by cs n s) ≡ digest_bytes cs ++ child_bytes n s
digest_bytes-followed_by Nothing n s = append-nil (child_bytes n s)
digest_bytes-followed_by (Child name t more) n s =
    ap (λ l. child_bytes name t ++ l) (digest_bytes-followed_by more n s) ∙ sym (append_assoc (child_bytes name t) (digest_bytes more) (child_bytes n s))

-- ---- its names

-- the name is the last
pub names-followed_by : (cs : Children) (n : Name) (s : Snapshot) → names_of (followed_by cs n s) ≡ names_of cs ++ n ∷ []
names-followed_by Nothing n s = refl
names-followed_by (Child name t more) n s = ap (λ l. name ∷ l) (names-followed_by more n s)

-- a name after the last of names in order is after each
after_each : (case : Case) (cs : Children) (n : Name) → AreInOrder case (names_of cs) → IsAfterLast case cs n → Each (λ m. name_order case m n ≡ Less) (names_of cs)
after_each case Nothing n order last = tt
after_each case (Child name s Nothing) n order last = (last, tt)
after_each case (Child name s (Child m t more)) n order last =
    let rest = after_each case (Child m t more) n order.1 last in
    (order-trans case name m n order.0.0 rest.0, rest)

order-push : (case : Case) (ns : List Name) (n : Name) → AreInOrder case ns → Each (λ m. name_order case m n ≡ Less) ns → AreInOrder case (ns ++ n ∷ [])
order-push case [] n order after = (tt, tt)
order-push case (m ∷ ns) n order after = (each-append (λ k. name_order case m k ≡ Less) ns (n ∷ []) order.0 (after.0, tt), order-push case ns n order.1 after.1)

-- where names are in order, the next one comes after the last of those before it
pub next_is_after_last : (case : Case) (cs : Children) (n : Name) (more : List Name) → AreInOrder case (names_of cs ++ n ∷ more) → IsAfterLast case cs n
next_is_after_last case Nothing n more order = tt
next_is_after_last case (Child name s Nothing) n more order = order.0.0
next_is_after_last case (Child name s (Child m t rest)) n more order = next_is_after_last case (Child m t rest) n more order.1

-- ---- it stays a listing

present-followed_by : (cs : Children) (n : Name) (s : Snapshot) → ArePresent cs → s ≢ Missing → ArePresent (followed_by cs n s)
present-followed_by Nothing n s present there = (there, tt)
present-followed_by (Child name t more) n s present there = (present.0, present-followed_by more n s present.1 there)

-- with one child more it is a listing
pub listing-followed_by : (case : Case) (cs : Children) (n : Name) (s : Snapshot) → IsListing case cs → s ≢ Missing → IsAfterLast case cs n → length (names_of cs) < 4096 → IsListing case (followed_by cs n s)
listing-followed_by case cs n s listing there last room =
    let names = names-followed_by cs n s in
    record {
      order = subst (AreInOrder case) (sym names) (order-push case (names_of cs) n listing.order (after_each case cs n listing.order last));
      few = omega (arith, ap length names, length-append (names_of cs) (n ∷ []));
      present = present-followed_by cs n s listing.present there;
    }

-- ---- a directory of trees is a tree

-- what is missing is a tree
pub missing-tree : (case : Case) → IsTree case Missing
missing-tree case x = subst (λ s. IsListing case (children_of s)) (sym (sub-missing case x)) (record { order = tt; few = omega arith; present = tt })

-- and so is a file
pub file-tree : (case : Case) (digest : List ℕ) → IsTree case (File digest)
file-tree case digest [] = record { order = tt; few = omega arith; present = tt }
file-tree case digest (n ∷ x) = missing-tree case x

child-tree : (case : Case) (cs : Children) (n : Name) → AreTrees case cs → IsTree case (child case cs n)
child-tree case Nothing n trees = missing-tree case
child-tree case (Child name s more) n trees =
    split (is_same_name (folded_name case name) n)
    (λ e. subst (λ b. IsTree case (cond b s (child case more n))) (sym e) trees.0)
    (λ e. subst (λ b. IsTree case (cond b s (child case more n))) (sym e) (child-tree case more n trees.1))

-- a listing of trees is a tree
pub tree-of_listing : (case : Case) (cs : Children) → IsListing case cs → AreTrees case cs → IsTree case (Dir cs)
tree-of_listing case cs listing trees [] = listing
tree-of_listing case cs listing trees (n ∷ x) = child-tree case cs n trees x

-- one tree more leaves trees
pub trees-followed_by : (case : Case) (cs : Children) (n : Name) (s : Snapshot) → AreTrees case cs → IsTree case s → AreTrees case (followed_by cs n s)
trees-followed_by case Nothing n s trees tree = (tree, tt)
trees-followed_by case (Child name t more) n s trees tree = (trees.0, trees-followed_by case more n s trees.1 tree)
