-- Numbers after a raise.
use Rattle.std.proofs.Common.{◌≡◌, ℕ, ◌+◌, ◌<◌, ◌≤◌, true, false, cond, List, [], ◌∷◌, ◌++◌, length, max, refl, sym, ap, ◌∙◌, subst, arith, length-append}
use Rattle.std.proofs.lemmas.Bool.{false_from_ne_true, both_ways}
use Rattle.vfs_model.specs.declared.Case.{Case}
use Rattle.vfs_model.specs.Paths.{Name, Path, folded_name, place, is_same_name, is_related, name_order}
use Rattle.vfs_model.specs.Pending.{version}
use Rattle.vfs_model.specs.Stands.{StandsFor}
use Rattle.vfs_model.specs.World.{insert_name, AreInOrder}
use Rattle.vfs_laws.proofs.Splits.{split}
use Rattle.vfs_laws.proofs.PathLemmas.{same_name-refl, same_name-true}
use Rattle.vfs_laws.proofs.NameLemmas.{split_order, order-equal, order-flip, insert-in_order}
use Rattle.vfs_laws.proofs.OvertakenLemmas.{version_from-bound, version_from-append}
use Rattle.tree_model.proofs.StandingLemmas.{apart-less}
use Rattle.tree_model.specs.Numbers.{Numbers, At, Places, NoMore, Next, unnumbered, numbers_at, at_in, put, raise, names_in, IsSorted, AreSorted}

-- where no number is, the version is nought
pub at-unnumbered : (case : Case) (x : Path) → at_in case unnumbered x ≡ 0
at-unnumbered case [] = refl
at-unnumbered case (n ∷ x) = ap (max 0) (at-unnumbered case x)

-- no numbers stand for no paths
pub stands-unnumbered : (case : Case) → StandsFor (at_in case unnumbered) 0 []
stands-unnumbered case = record { versions = at-unnumbered case; number = refl }

-- ---- the numbers at a name, after others were put

put-same : (case : Case) (n : Name) (new : Numbers) (places : Places) → numbers_at case (put case n new places) (folded_name case n) ≡ new
put-same case n new NoMore = rw (same_name-refl (folded_name case n)) refl
put-same case n new (Next m node more) =
    split_order (name_order case n m)
    (λ e. rw (e, same_name-refl (folded_name case n)) refl)
    (λ e. rw (e, same_name-refl (folded_name case n)) refl)
    (λ e. rw (e, apart-less case m n (order-flip case n m e)) (put-same case n new more))

put-other : (case : Case) (n : Name) (new : Numbers) (places : Places) (o : Name) → is_same_name (folded_name case n) o ≡ false → numbers_at case (put case n new places) o ≡ numbers_at case places o
put-other case n new NoMore o d = rw d refl
put-other case n new (Next m node more) o d =
    split_order (name_order case n m)
    (λ e. rw (e, d) refl)
    (λ e. let same : is_same_name (folded_name case m) o ≡ false = ap (λ k. is_same_name k o) (sym (order-equal case n m e)) ∙ d in rw (e, d, same) refl)
    (λ e. rw e (ap (cond (is_same_name (folded_name case m) o) node) (put-other case n new more o d)))

-- ---- a raise

other_way : (n m : Name) → is_same_name n m ≡ false → is_same_name m n ≡ false
other_way n m e = false_from_ne_true _ (λ t. both_ways _ e (subst (λ (k : Name). is_same_name k m ≡ true) (same_name-true m n t) (same_name-refl m)))

-- after a raise with a number above all others, a related place has that number
raise-at : (case : Case) (node : Numbers) (p x : Path) (m k : ℕ) → ((y : Path) → at_in case node y ≤ m) → m < k → at_in case (raise case node p k) x ≡ cond (is_related (place case p) x) k (at_in case node x)
raise-at case (At own below places) [] [] m k b l = let h = b [] in omega arith
raise-at case (At own below places) [] (o ∷ x) m k b l = let h = b (o ∷ x) in omega arith
raise-at case (At own below places) (n ∷ p) [] m k b l = let h = b [] in omega arith
raise-at case (At own below places) (n ∷ p) (o ∷ x) m k b l =
    split (is_same_name (folded_name case n) o)
    (λ s.
    let same = same_name-true (folded_name case n) o s in
    let here : own ≤ m = own_bound (b []) in
    let deeper : (y : Path) → at_in case (numbers_at case places (folded_name case n)) y ≤ m = λ y. below_bound (b (folded_name case n ∷ y)) in
    let there : at_in case (numbers_at case (put case n (raise case (numbers_at case places (folded_name case n)) p k) places) (folded_name case n)) x ≡ cond (is_related (place case p) x) k (at_in case (numbers_at case places (folded_name case n)) x) =
    ap (λ z. at_in case z x) (put-same case n (raise case (numbers_at case places (folded_name case n)) p k) places) ∙ raise-at case (numbers_at case places (folded_name case n)) p x m k deeper l in
    rw (← same) (ap (max own) there ∙ split (is_related (place case p) x)
    (λ r. rw (same_name-refl (folded_name case n), r) (omega arith))
    (λ r. rw (same_name-refl (folded_name case n), r) refl)))
    (λ s. rw (s, other_way (folded_name case n) o s) (ap (λ z. max own (at_in case z x)) (put-other case n (raise case (numbers_at case places (folded_name case n)) p k) places o s)))
  where
    own_bound : max own below ≤ m → own ≤ m
    own_bound h = omega arith

    below_bound : {v : ℕ} → max own v ≤ m → v ≤ m
    below_bound h = omega arith

-- the version of a place after one path more
pub version-next : (past : List Path) (e x : Path) → version (past ++ e ∷ []) x ≡ cond (is_related e x) (length past + 1) (version past x)
version-next past e x =
    version_from-append 0 past (e ∷ []) x ∙ split (is_related e x)
    (λ r. rw r (omega (arith, version_from-bound 0 past x)))
    (λ r. rw r (omega arith))

-- raised numbers stand for the list with one path more
pub stands-raised : (case : Case) (node : Numbers) (count : ℕ) (past : List Path) (p : Path) → StandsFor (at_in case node) count past → StandsFor (at_in case (raise case node p (count + 1))) (count + 1) (past ++ place case p ∷ [])
stands-raised case node count past p h = record {
  number = omega (arith, h.number, length-append past (place case p ∷ []));
  versions = λ x.
      raise-at case node p x count (count + 1) (λ y. omega (arith, h.versions y, h.number, version_from-bound 0 past y)) (omega arith)
      ∙ ap (cond (is_related (place case p) x) (count + 1)) (h.versions x)
      ∙ ap (λ n. cond (is_related (place case p) x) (n + 1) (version past x)) h.number
      ∙ sym (version-next past (place case p) x);
}

-- ---- order

-- numbers are put where the order has their name
names_in-put : (case : Case) (n : Name) (new : Numbers) (places : Places) → names_in (put case n new places) ≡ insert_name case n (names_in places)
names_in-put case n new NoMore = refl
names_in-put case n new (Next m node more) =
    split_order (name_order case n m)
    (λ e. rw e refl)
    (λ e. rw e refl)
    (λ e. rw e (ap (λ names. m ∷ names) (names_in-put case n new more)))

put-sorted : (case : Case) (n : Name) (new : Numbers) (places : Places) → IsSorted case new → AreSorted case places → AreSorted case (put case n new places)
put-sorted case n new NoMore s h = (s, tt)
put-sorted case n new (Next m node more) s h =
    split_order (name_order case n m)
    (λ e. rw e (s, h))
    (λ e. rw e (s, h.1))
    (λ e. rw e (h.0, put-sorted case n new more s h.1))

-- in the numbers at a name the names are in order
pub numbers_at-sorted : (case : Case) (places : Places) (n : Name) → AreSorted case places → IsSorted case (numbers_at case places n)
numbers_at-sorted case NoMore n h = (tt, tt)
numbers_at-sorted case (Next m node more) n h =
    split (is_same_name (folded_name case m) n) (λ e. rw e h.0) (λ e. rw e (numbers_at-sorted case more n h.1))

-- a raise leaves the names at each place in order
pub raise-sorted : (case : Case) (node : Numbers) (p : Path) (k : ℕ) → IsSorted case node → IsSorted case (raise case node p k)
raise-sorted case (At own below places) [] k h = h
raise-sorted case (At own below places) (n ∷ p) k h =
    let new = raise case (numbers_at case places (folded_name case n)) p k in (
      subst (AreInOrder case) (sym (names_in-put case n new places)) (insert-in_order case n (names_in places) h.0),
      put-sorted case n new places (raise-sorted case (numbers_at case places (folded_name case n)) p k (numbers_at-sorted case places (folded_name case n) h.1)) h.1,
    )
