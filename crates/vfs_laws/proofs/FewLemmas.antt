-- An edit that is not refused leaves no directory with too many names.
use Rattle.std.proofs.Common.{◌≡◌, ◌≢◌, ◌⊎◌, ℕ, ◌+◌, ◌<◌, ◌≤◌, true, false, cond, List, [], ◌∷◌, ◌++◌, length, map, refl, sym, ap, ◌∙◌, subst, Option, Some, None, option_map, arith, append_assoc, inl, inr, leb-false}
use Rattle.std.proofs.lemmas.Bool.{both_ways, true≢false, or_from, or_parts, and_from, and_cases, not-false, false_from_ne_true}
use Rattle.std.specs.List.{AllByRecursion as Each}
use Rattle.vfs_model.specs.declared.Case.{Case}
use Rattle.vfs_model.specs.Paths.{Name, Path, folded_name, place, is_same_name, name_order, is_at_or_above, is_same_place, is_child, last_name}
use Rattle.vfs_model.specs.World.{World, Entry, Node, Directory, Regular, at, names, insert_name, AreInOrder, listed_in, spelling_of, AreFew, IsClosed, IsWorld, status_of}
use Rattle.vfs_model.specs.Edit.{is_root, Edit, Write, Mkdir, Remove, Move, refusal, refusals, apply, parent, is_missing, is_full, status_there, entry_after_move, entry_after_write, events}
use Rattle.vfs_laws.proofs.Splits.{split, split_or}
use Rattle.vfs_laws.proofs.PathLemmas.{at_or_above-refl, same_place-refl, same_name-refl, same_name-true, same_place-true, rest_of}
use Rattle.vfs_laws.proofs.EditLemmas.{apply-elsewhere}
use Rattle.vfs_laws.proofs.WorldLemmas.{IsFree, find-append_off, find-map_off, entry_after_write-off, parent_place, removed-at, entry_after_move-gone, entry_after_move-at, last_step, each-fails, missing-none, present, accepted-root, accepted-distinct, accepted-closed, accepted-short}
use Rattle.vfs_laws.proofs.NameLemmas.{spelling-none, same_place-last, split_order, order-equal, order-flip, names-in_order, listed_in-names, listed_in-head, listed_first, listed_in-insert, insert-in_order, none-after, child_place, is_child-append}

some≢none : {X : Type 0} (x : X) → Some x ≡ None → ⊥
some≢none x e = cc

-- a list in order that lists no more names is no longer
fewer : (case : Case) (xs ys : List Name) → AreInOrder case xs → AreInOrder case ys → ((k n : Name) → listed_in case xs k ≡ Some n → listed_in case ys k ≢ None) → length xs ≤ length ys
fewer case [] ys h g e = omega arith
fewer case (x ∷ xs) [] h g e = absurd (e (folded_name case x) x (listed_in-head case x xs) refl)
fewer case (x ∷ xs) (y ∷ ys) h g e =
    split_order (name_order case x y)
    (λ o. absurd (e (folded_name case x) x (listed_in-head case x xs) (listed_first case x y ys o g)))
    (λ o.
    let f = order-equal case x y o in
    let rest : (k n : Name) → listed_in case xs k ≡ Some n → listed_in case ys k ≢ None =
    λ k n l z.
    split (is_same_name (folded_name case x) k)
    (λ s. absurd (some≢none n (sym l ∙ ap (listed_in case xs) (sym (same_name-true (folded_name case x) k s)) ∙ none-after case x xs h.0)))
    (λ s.
    let u : is_same_name (folded_name case y) k ≡ false = ap (λ v. is_same_name v k) (sym f) ∙ s in
    e k n (rw s l) (rw u z)) in
    let deeper = fewer case xs ys h.1 g.1 rest in omega arith)
    (λ o.
    let flipped = order-flip case x y o in
    let rest : (k n : Name) → listed_in case (x ∷ xs) k ≡ Some n → listed_in case ys k ≢ None =
    λ k n l z.
    split (is_same_name (folded_name case y) k)
    (λ s. absurd (some≢none n (sym l ∙ ap (listed_in case (x ∷ xs)) (sym (same_name-true (folded_name case y) k s)) ∙ listed_first case y x xs flipped h)))
    (λ s. e k n l (rw s z)) in
    let deeper = fewer case (x ∷ xs) ys h g.1 rest in omega arith)

length-insert : (case : Case) (n : Name) (ns : List Name) → length (insert_name case n ns) ≤ length ns + 1
length-insert case n [] = omega arith
length-insert case n (m ∷ ns) =
    split_order (name_order case n m)
    (λ o. rw o (omega arith))
    (λ o. rw o (omega arith))
    (λ o. rw o (let deeper = length-insert case n ns in omega arith))

pub length-insert_new : (case : Case) (n : Name) (ns : List Name) → listed_in case ns (folded_name case n) ≡ None → length (insert_name case n ns) ≡ length ns + 1
length-insert_new case n [] h = omega arith
length-insert_new case n (m ∷ ns) h =
    split_order (name_order case n m)
    (λ o. rw o (omega arith))
    (λ o. absurd (some≢none m (sym (listed_in-head case m ns) ∙ ap (listed_in case (m ∷ ns)) (sym (order-equal case n m o)) ∙ h)))
    (λ o. rw o (
    let h' : listed_in case ns (folded_name case n) ≡ None =
    split (is_same_name (folded_name case m) (folded_name case n)) (λ s. absurd (some≢none m (rw s at h))) (λ s. rw s at h) in
    let deeper = length-insert_new case n ns h' in omega arith))

none-spelling : (e : Option Entry) → e ≡ None → spelling_of e ≡ None
none-spelling e h = ap spelling_of h

-- where the children of one place are there only if those of another are, it has no more names
fewer-names : (case : Case) (v w : World) (x y : Path) → ((k : Name) → at case w (y ++ k ∷ []) ≡ None → at case v (x ++ k ∷ []) ≡ None) → length (names case v x) ≤ length (names case w y)
fewer-names case v w x y h =
    fewer case (names case v x) (names case w y) (names-in_order case v x) (names-in_order case w y)
    (λ k n l z. some≢none n (sym l ∙ listed_in-names case v x k ∙ none-spelling _ (h k (spelling-none _ (sym (listed_in-names case w y k) ∙ z)))))

-- and with one name more
one_more : (case : Case) (v w : World) (x : Path) (n : Name) → ((k : Name) → is_same_name (folded_name case n) k ≡ false → at case w (x ++ k ∷ []) ≡ None → at case v (x ++ k ∷ []) ≡ None) → length (names case v x) ≤ length (names case w x) + 1
one_more case v w x n h =
    let ns = insert_name case n (names case w x) in
    let less = fewer case (names case v x) ns (names-in_order case v x) (insert-in_order case n _ (names-in_order case w x))
    (λ k m l z.
    let z' : cond (is_same_name (folded_name case n) k) (Some n) (listed_in case (names case w x) k) ≡ None = sym (listed_in-insert case n (names case w x) k) ∙ z in
    split (is_same_name (folded_name case n) k)
    (λ s. some≢none n (rw s at z'))
    (λ s.
    let z'' : listed_in case (names case w x) k ≡ None = rw s at z' in
    some≢none m (sym l ∙ listed_in-names case v x k ∙ none-spelling _ (h k s (spelling-none _ (sym (listed_in-names case w x k) ∙ z'')))))) in
    let longer = length-insert case n (names case w x) in
    omega arith

-- ---- edits

off_child : (case : Case) (p x : Path) (k : Name) → is_child x (place case p) ≡ false → is_same_place (place case p) (x ++ k ∷ []) ≡ false
off_child case p x k off = false_from_ne_true _ (λ s. both_ways _ off (ap (is_child x) (same_place-true (place case p) (x ++ k ∷ []) s) ∙ is_child-append x k))

off_name : (case : Case) (p x : Path) (k : Name) → is_child x (place case p) ≡ true → is_same_name (folded_name case (last_name p)) k ≡ false → is_same_place (place case p) (x ++ k ∷ []) ≡ false
off_name case p x k on off = ap (λ v. is_same_place v (x ++ k ∷ [])) (child_place case x p on) ∙ same_place-last x (folded_name case (last_name p)) k ∙ off

-- the directory of what is made has room
room : (case : Case) (world : World) (p x : Path) → is_child x (place case p) ≡ true → is_full case world (parent p) ≡ false → length (names case world x) < 4096
room case world p x on free =
    let at_parent : length (names case world (place case (parent p))) < 4096 = leb-false 4096 _ free in
    subst (λ v. length (names case world v) < 4096) (parent_place case p x (folded_name case (last_name p)) (child_place case x p on)) at_parent

new-few : (case : Case) (world : World) (p : Path) (node : Node) → is_full case world (parent p) ≡ false → AreFew case world → AreFew case (world ++ record { path = p; node = node } ∷ [])
new-few case world p node free few x =
    split (is_child x (place case p))
    (λ on.
    let more = one_more case (world ++ record { path = p; node = node } ∷ []) world x (last_name p) (λ k off none. find-append_off _ world _ (off_name case p x k on off) ∙ none) in
    let less = room case world p x on free in
    omega arith)
    (λ off.
    let same = fewer-names case (world ++ record { path = p; node = node } ∷ []) world x x (λ k none. find-append_off _ world _ (off_child case p x k off) ∙ none) in
    let old = few x in
    omega arith)

removed-few : (case : Case) (world : World) (p x : Path) → length (names case (apply case world (Remove p)) x) ≤ length (names case world x)
removed-few case world p x =
    fewer-names case (apply case world (Remove p)) world x x
    (λ k none. split (is_at_or_above (place case p) (x ++ k ∷ []))
    (λ on. removed-at case world p (x ++ k ∷ []) on)
    (λ off. apply-elsewhere case world (Remove p) (x ++ k ∷ []) (or_from _ _ off refl) ∙ none))

-- without what is taken away there is a name less
removed-less : (case : Case) (world : World) (p x : Path) → is_child x (place case p) ≡ true → (at case world (place case p) ≢ None) → length (names case (apply case world (Remove p)) x) + 1 ≤ length (names case world x)
removed-less case world p x on there =
    let v = apply case world (Remove p) in
    let n = last_name p in
    let P_is = child_place case x p on in
    let gone : listed_in case (names case v x) (folded_name case n) ≡ None =
    listed_in-names case v x (folded_name case n) ∙ none-spelling _ (ap (at case v) (sym P_is) ∙ removed-at case world p (place case p) (at_or_above-refl (place case p))) in
    let longer = length-insert_new case n (names case v x) gone in
    let less = fewer case (insert_name case n (names case v x)) (names case world x) (insert-in_order case n _ (names-in_order case v x)) (names-in_order case world x)
    (λ k m l z.
    let none : at case world (x ++ k ∷ []) ≡ None = spelling-none _ (sym (listed_in-names case world x k) ∙ z) in
    split (is_same_name (folded_name case n) k)
    (λ s. there (ap (at case world) (P_is ∙ ap (λ u. x ++ u ∷ []) (same_name-true (folded_name case n) k s)) ∙ none))
    (λ s.
    let l' : cond (is_same_name (folded_name case n) k) (Some n) (listed_in case (names case v x) k) ≡ Some m = sym (listed_in-insert case n (names case v x) k) ∙ l in
    let l'' : listed_in case (names case v x) k ≡ Some m = rw s at l' in
    some≢none m (sym l'' ∙ listed_in-names case v x k ∙ none-spelling _
    (split (is_at_or_above (place case p) (x ++ k ∷ []))
    (λ t. removed-at case world p (x ++ k ∷ []) t)
    (λ t. apply-elsewhere case world (Remove p) (x ++ k ∷ []) (or_from _ _ t refl) ∙ none))))) in
    omega arith

-- elsewhere than below its end, a move leaves what a removal leaves, but for its end
entry_after_move-off : (case : Case) (world : World) (p q y : Path) → is_at_or_above (place case q) y ≡ false → at case (apply case world (Remove p)) y ≡ None → at case (apply case world (Move p q)) y ≡ None
entry_after_move-off case world p q y off none =
    split (is_at_or_above (place case p) y)
    (λ on. entry_after_move-gone case world p q y on off)
    (λ out. apply-elsewhere case world (Move p q) y (or_from _ _ out (or_from _ _ off refl)) ∙ sym (apply-elsewhere case world (Remove p) y (or_from _ _ out refl)) ∙ none)

child_of_parent : (case : Case) (p : Path) → is_root p ≡ false → is_child (place case (parent p)) (place case p) ≡ true
child_of_parent case [] h = absurd (true≢false h)
child_of_parent case (n ∷ []) h = refl
child_of_parent case (n ∷ m ∷ p) h = and_from _ _ (same_name-refl (folded_name case n)) (child_of_parent case (m ∷ p) refl)

-- a child of a place that is not below q is below q only if it is q's place
not_below : (q x : Path) (k : Name) → is_at_or_above q x ≡ false → is_same_place q (x ++ k ∷ []) ≡ false → is_at_or_above q (x ++ k ∷ []) ≡ false
not_below q x k off other =
    false_from_ne_true _ (λ on.
    split_or (last_step q x k on)
    (λ h. both_ways _ off h)
    (λ h. both_ways _ other (ap (is_same_place q) (sym h) ∙ same_place-refl q)))

entry_after_move-few : (case : Case) (world : World) (p q : Path) → IsClosed case world → IsFree case world p q → (at case world (place case p) ≢ None)
    → (is_full case world (parent q) ≡ false) ⊎ (place case (parent q) ≡ place case (parent p)) → is_root p ≡ false → AreFew case world → AreFew case (apply case world (Move p q))
entry_after_move-few case world p q closed free there roomy not_root few x =
    split (is_at_or_above (place case q) x)
    (λ on.
    let (z, x_is) = rest_of (place case q) x on in
    let less = fewer-names case (apply case world (Move p q)) world (place case q ++ z) (place case p ++ z)
    (λ k none.
    ap (at case (apply case world (Move p q))) (append_assoc (place case q) z (k ∷ []))
    ∙ entry_after_move-at case world p q (z ++ k ∷ []) closed free
    ∙ ap (option_map (entry_after_move case p q)) (ap (at case world) (sym (append_assoc (place case p) z (k ∷ []))) ∙ none)) in
    let old = few (place case p ++ z) in
    subst (λ v. length (names case (apply case world (Move p q)) v) ≤ 4096) (sym x_is) (omega arith))
    (λ off.
    split (is_child x (place case q))
    (λ child.
    let more = one_more case (apply case world (Move p q)) (apply case world (Remove p)) x (last_name q)
    (λ k other none. entry_after_move-off case world p q (x ++ k ∷ []) (not_below (place case q) x k off (off_name case q x k child other)) none) in
    let less = removed-few case world p x in
    let old = few x in
    split_or roomy
    (λ r. let space = room case world q x child r in omega arith)
    (λ same.
    let x_is : place case (parent p) ≡ x = sym same ∙ parent_place case q x (folded_name case (last_name q)) (child_place case x q child) in
    let fewer_by_one = removed-less case world p x (ap (λ v. is_child v (place case p)) (sym x_is) ∙ child_of_parent case p not_root) there in
    omega arith))
    (λ child.
    let same = fewer-names case (apply case world (Move p q)) (apply case world (Remove p)) x x
    (λ k none. entry_after_move-off case world p q (x ++ k ∷ []) (not_below (place case q) x k off (off_child case q x k child)) none) in
    let less = removed-few case world p x in
    let old = few x in
    omega arith))

entry_after_write-few : (case : Case) (world : World) (p : Path) (bytes : List ℕ) → (at case world (place case p) ≢ None) → AreFew case world → AreFew case (map (entry_after_write case p bytes) world)
entry_after_write-few case world p bytes there few x =
    let same = fewer-names case (map (entry_after_write case p bytes) world) world x x
    (λ k none.
    split (is_same_place (place case p) (x ++ k ∷ []))
    (λ s. absurd (there (ap (at case world) (same_place-true (place case p) (x ++ k ∷ []) s) ∙ none)))
    (λ s. find-map_off _ _ (entry_after_write-off case p (x ++ k ∷ []) bytes s) world ∙ none)) in
    let old = few x in
    omega arith

-- an edit that is not refused leaves at most 4,096 names in each directory
pub accepted-few : (case : Case) (world : World) (edit : Edit) → refusal case world edit ≡ None → IsClosed case world → AreFew case world → AreFew case (apply case world edit)
unfolding IsFree
accepted-few case world (Write p bytes) e closed few =
    let t = each-fails (refusals case world (Write p bytes)) e in
    split (is_missing (status_there case world p))
    (λ m.
    let free : is_full case world (parent p) ≡ false = split_or (and_cases _ _ t.1.1.1.1.0) (λ a. absurd (both_ways _ a m)) (λ b. b) in
    rw m (new-few case world p (Regular bytes) free few))
    (λ m. rw m (entry_after_write-few case world p bytes (present case world p m) few))
accepted-few case world (Mkdir p) e closed few =
    let t = each-fails (refusals case world (Mkdir p)) e in
    new-few case world p Directory t.1.1.1.1.0 few
accepted-few case world (Remove p) e closed few = λ x. let less = removed-few case world p x in let old = few x in omega arith
accepted-few case world (Move p q) e closed few =
    let t = each-fails (refusals case world (Move p q)) e in
    entry_after_move-few case world p q closed
    (split_or (and_cases _ _ t.1.1.1.1.1.0) (λ a. inl (missing-none _ (not-false _ a))) (λ b. inr (same_place-true (place case q) (place case p) (not-false _ b))))
    (present case world p t.1.0)
    (split_or (and_cases _ _ t.1.1.1.1.1.1.1.0) (λ a. inl a) (λ b. inr (same_place-true (place case (parent q)) (place case (parent p)) (not-false _ b))))
    (or_parts (is_root p) (is_root q) t.0).0 few

-- an edit that is not refused, and whose paths are short, leaves a world
pub accepted-world : (case : Case) (world : World) (edit : Edit) → refusal case world edit ≡ None → Each (λ (p : Path). length p ≤ 64) (events edit) → IsWorld case world → IsWorld case (apply case world edit)
accepted-world case world edit e few h = record {
  root = ap status_of (apply-elsewhere case world edit [] (accepted-root case world edit e)) ∙ h.root;
  distinct = accepted-distinct case world edit e h.closed h.distinct;
  closed = accepted-closed case world edit e h.closed;
  short = accepted-short case world edit e few h.short;
  few = accepted-few case world edit e h.closed h.few;
}
