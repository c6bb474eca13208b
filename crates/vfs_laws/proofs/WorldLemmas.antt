-- An edit that is not refused leaves a world.
use Rattle.std.proofs.Common.{◌≡◌, ◌≢◌, ◌⊎◌, ℕ, suc, zero, ◌+◌, ◌-◌, ◌≤◌, Bool, true, false, cond, not, ◌&&◌, List, [], ◌∷◌, ◌++◌, length, map, drop, filter, find, refl, sym, ap, ◌∙◌, Option, Some, None, option_map, arith, append_assoc, append-nil, inl, inr, length-append, length-drop, nat_lt, ltb-false}
use Rattle.std.proofs.lemmas.Bool.{both_ways, true≢false, and_parts, and_from, or_parts, or_from, false_from_ne_true, not-false, not_from_true, and_cases}
use Rattle.std.specs.List.{AllByRecursion as Each}
use Rattle.vfs_model.specs.declared.Case.{Case}
use Rattle.vfs_model.specs.Paths.{Name, Path, place, is_same_name, is_at_or_above, is_same_place}
use Rattle.vfs_model.specs.World.{World, Entry, Node, Directory, Regular, at, AreShort, IsClosed, AreDistinct, Status, IsMissing, IsFile, IsDir, status_of, status_of_node}
use Rattle.vfs_model.specs.Edit.{is_root, is_told, Edit, Write, Mkdir, Remove, Move, Refusal, refusal, refusals, first_refusal, apply, events, entry_after_write, entry_after_move, parent, is_missing, is_file, is_dir, status_there, is_too_deep, is_strictly_below}
use Rattle.vfs_laws.proofs.Splits.{split, split_or}
use Rattle.vfs_laws.proofs.PathLemmas.{same_name-refl, same_name-true, same_place-true, same_place-refl, at_or_above-append, at_or_above-trans, rest_of}
use Rattle.vfs_laws.proofs.NameLemmas.{each-weaker}
use Rattle.vfs_laws.proofs.ScanningLemmas.{nowhere}
use Rattle.vfs_laws.proofs.RetainedLemmas.{each-append, each-filter, rest-is}
use Rattle.vfs_laws.proofs.EditLemmas.{apart, place-append, apply-elsewhere}

-- ---- what is refused

-- where nothing is refused each test fails
pub each-fails : (rs : List (Bool × Refusal)) → first_refusal rs ≡ None → Each (λ (r : Bool × Refusal). r.0 ≡ false) rs
each-fails [] e = tt
each-fails (r ∷ rs) e = split r.0 (λ t. absurd (by (rw t at e))) (λ t. (t, each-fails rs (rw t at e)))
  where
    by : Some r.1 ≡ None → ⊥
    by e = cc

is_dir-is : (g : Status) → is_missing g ≡ false → is_file g ≡ false → g ≡ IsDir
is_dir-is IsMissing m f = absurd (true≢false m)
is_dir-is (IsFile digest) m f = absurd (true≢false f)
is_dir-is IsDir m f = refl

-- ---- what is at a place after an edit

-- an entry that the test refuses does not change what is found
pub find-append_off : {X : Type 0} (t : X → Bool) (xs : List X) (e : X) → t e ≡ false → find t (xs ++ e ∷ []) ≡ find t xs
find-append_off t [] e h = rw h refl
find-append_off t (x ∷ xs) e h = ap (λ r. cond (t x) (Some x) r) (find-append_off t xs e h)

-- entries that stay, or that the test refuses before and after, do not change what is found
pub find-map_off : {X : Type 0} (t : X → Bool) (f : X → X) → ((e : X) → (f e ≡ e) ⊎ ((t e ≡ false) × (t (f e) ≡ false))) → (xs : List X) → find t (map f xs) ≡ find t xs
find-map_off t f h [] = refl
find-map_off t f h (e ∷ xs) =
    split_or (h e)
    (λ s. λ i. cond (t (s i)) (Some (s i)) (find-map_off t f h xs i))
    (λ n. rw (n.0, n.1) (find-map_off t f h xs))

find-filter_none : {X : Type 0} (t k : X → Bool) → ((e : X) → t e ≡ true → k e ≡ false) → (xs : List X) → find t (filter k xs) ≡ None
find-filter_none t k h [] = refl
find-filter_none t k h (e ∷ xs) =
    split (k e)
    (λ s. rw s (split (t e) (λ u. absurd (both_ways (k e) (h e u) s)) (λ u. rw u (find-filter_none t k h xs))))
    (λ s. rw s (find-filter_none t k h xs))

-- what is found in a list that is mapped is what is found in the list, mapped
pub find-map_each : {X : Type 0} (t u : X → Bool) (f : X → X) (xs : List X) → Each (λ e. t (f e) ≡ u e) xs → find t (map f xs) ≡ option_map f (find u xs)
find-map_each t u f [] h = refl
find-map_each t u f (e ∷ xs) h = rw h.0 (split (u e) (λ s. rw s refl) (λ s. rw s (find-map_each t u f xs h.1)))

-- ---- parents

-- the place of a parent
pub parent_place : (case : Case) (p x : Path) (n : Name) → place case p ≡ x ++ n ∷ [] → place case (parent p) ≡ x
parent_place case [] [] n e = cc
parent_place case [] (a ∷ x) n e = cc
parent_place case (m ∷ []) [] n e = refl
parent_place case (m ∷ []) (a ∷ []) n e = cc
parent_place case (m ∷ []) (a ∷ b ∷ x) n e = cc
parent_place case (m ∷ o ∷ p) [] n e = cc
parent_place case (m ∷ o ∷ p) (a ∷ x) n e = λ i. heads e i ∷ parent_place case (o ∷ p) x n (tails e) i
  where
    heads : {a b : Name} {x z : Path} → a ∷ x ≡ b ∷ z → a ≡ b
    heads e = cc

    tails : {a b : Name} {x z : Path} → a ∷ x ≡ b ∷ z → x ≡ z
    tails e = cc

-- a place with a name more is another place
longer : (x : Path) (n : Name) → is_same_place x (x ++ n ∷ []) ≡ false
longer [] n = refl
longer (a ∷ x) n = rw (same_name-refl a) (longer x n)

-- a place is not at or below itself with a name more
pub not_below : (x : Path) (n : Name) → is_at_or_above (x ++ n ∷ []) x ≡ false
not_below [] n = refl
not_below (a ∷ x) n = rw (same_name-refl a) (not_below x n)

missing≢dir : IsMissing ≢ IsDir
missing≢dir e = cc

-- what is missing has no entry
pub missing-none : (e : Option Entry) → is_missing (status_of e) ≡ true → e ≡ None
missing-none None h = refl
missing-none (Some e) h = absurd (by e.node h)
  where
    by : (node : Node) → is_missing (status_of_node node) ≡ true → ⊥
    by Directory h = true≢false (sym h)
    by (Regular bytes) h = true≢false (sym h)

none-missing : (e : Option Entry) → e ≡ None → is_missing (status_of e) ≡ true
none-missing e h = rw h refl

dir-test : (g : Status) → is_dir g ≡ false → g ≢ IsDir
dir-test IsMissing h = λ e. cc
dir-test (IsFile digest) h = λ e. cc
dir-test IsDir h = absurd (true≢false h)

-- ---- a new entry

new-closed : (case : Case) (world : World) (p : Path) (node : Node) → status_of (at case world (place case (parent p))) ≡ IsDir → at case world (place case p) ≡ None → IsClosed case world → IsClosed case (world ++ record { path = p; node = node } ∷ [])
new-closed case world p node parent_dir none closed x n other =
    split (is_same_place (place case p) (x ++ n ∷ []))
    (λ s.
    let x_is : place case (parent p) ≡ x = parent_place case p x n (same_place-true _ (x ++ n ∷ []) s) in
    let off : is_same_place (place case p) x ≡ false = false_from_ne_true _ (λ u. both_ways _ (longer x n) (ap (λ z. is_same_place z (x ++ n ∷ [])) (sym (same_place-true (place case p) x u)) ∙ s)) in
    absurd (other (ap status_of (find-append_off _ world _ off) ∙ ap (λ z. status_of (at case world z)) (sym x_is) ∙ parent_dir)))
    (λ s.
    find-append_off _ world _ s
    ∙ closed x n
    (split (is_same_place (place case p) x)
    (λ u d. missing≢dir (ap status_of (sym none) ∙ ap (λ z. status_of (at case world z)) (same_place-true (place case p) x u) ∙ d))
    (λ u d. other (ap status_of (find-append_off _ world _ u) ∙ d))))

-- ---- a file's new bytes

-- a write leaves every entry elsewhere
pub entry_after_write-off : (case : Case) (p x : Path) (bytes : List ℕ) → is_same_place (place case p) x ≡ false → (e : Entry) → (entry_after_write case p bytes e ≡ e) ⊎ ((is_same_place (place case e.path) x ≡ false) × (is_same_place (place case (entry_after_write case p bytes e).path) x ≡ false))
entry_after_write-off case p x bytes off e =
    split (is_same_place (place case e.path) (place case p))
    (λ s. let h = ap (λ z. is_same_place z x) (same_place-true _ (place case p) s) ∙ off in inr (h, rw s h))
    (λ s. inl (rw s refl))

entry_after_write-closed : (case : Case) (world : World) (p : Path) (bytes : List ℕ) → (status_of (at case world (place case p)) ≢ IsDir) → (at case world (place case p) ≢ None) → IsClosed case world → IsClosed case (map (entry_after_write case p bytes) world)
entry_after_write-closed case world p bytes file there closed x n other =
    let none : at case world (x ++ n ∷ []) ≡ None =
    closed x n
    (split (is_same_place (place case p) x)
    (λ s d. file (ap (λ z. status_of (at case world z)) (same_place-true (place case p) x s) ∙ d))
    (λ s d. other (ap status_of (find-map_off _ _ (entry_after_write-off case p x bytes s) world) ∙ d))) in
    split (is_same_place (place case p) (x ++ n ∷ []))
    (λ s. absurd (there (ap (at case world) (same_place-true (place case p) (x ++ n ∷ []) s) ∙ none)))
    (λ s. find-map_off _ _ (entry_after_write-off case p (x ++ n ∷ []) bytes s) world ∙ none)

-- ---- a removal

-- nothing is left at and below what is removed
pub removed-at : (case : Case) (world : World) (p x : Path) → is_at_or_above (place case p) x ≡ true → at case (filter (λ (e : Entry). not (is_at_or_above (place case p) (place case e.path))) world) x ≡ None
removed-at case world p x on =
    find-filter_none _ _ (λ e s. not_from_true _ (ap (is_at_or_above (place case p)) (same_place-true (place case e.path) x s) ∙ on)) world

not_below-child : (P x : Path) (n : Name) → is_at_or_above P (x ++ n ∷ []) ≡ false → is_at_or_above P x ≡ false
not_below-child P x n off = false_from_ne_true _ (λ on. both_ways _ off (at_or_above-trans P x (x ++ n ∷ []) on (at_or_above-append x (n ∷ []))))

removed-closed : (case : Case) (world : World) (p : Path) → IsClosed case world → IsClosed case (apply case world (Remove p))
removed-closed case world p closed x n other =
    split (is_at_or_above (place case p) (x ++ n ∷ []))
    (λ on. removed-at case world p (x ++ n ∷ []) on)
    (λ off.
    let off_x = not_below-child (place case p) x n off in
    apply-elsewhere case world (Remove p) (x ++ n ∷ []) (or_from _ _ off refl)
    ∙ closed x n (λ d. other (ap status_of (apply-elsewhere case world (Remove p) x (or_from _ _ off_x refl)) ∙ d)))

-- ---- a move

same_place-front : (a r z : Path) → is_same_place (a ++ r) (a ++ z) ≡ is_same_place r z
same_place-front [] r z = refl
same_place-front (n ∷ a) r z = rw (same_name-refl n) (same_place-front a r z)

-- the place without its first names
pub place-drop : (case : Case) (n : ℕ) (p : Path) → place case (drop n p) ≡ drop n (place case p)
place-drop case zero p = refl
place-drop case (suc n) [] = refl
place-drop case (suc n) (a ∷ p) = place-drop case n p

-- a place has as many names as its path
pub length-place : (case : Case) (p : Path) → length (place case p) ≡ length p
length-place case [] = refl
length-place case (n ∷ p) = ap suc (length-place case p)

-- each entry is found at its place
pub each-there : (case : Case) (world : World) → Each (λ (e : Entry). at case world (place case e.path) ≢ None) world
each-there case [] = tt
each-there case (e ∷ world) =
    let P : World → Entry → Type 0 = λ w f. at case w (place case f.path) ≢ None in (
      λ h. absurd (by (sym (ap (λ b. cond b (Some e) (at case world (place case e.path))) (same_place-refl (place case e.path))) ∙ h)),
      each-weaker (P world) (P (e ∷ world)) (λ (f : Entry) t h. split (is_same_place (place case e.path) (place case f.path)) (λ s. absurd (by (rw s at h))) (λ s. t (rw s at h))) world (each-there case world),
    )
  where
    by : Some e ≡ None → ⊥
    by h = cc

-- what is above what is there is there
there-above : (case : Case) (world : World) (q z : Path) → IsClosed case world → at case world q ≡ None → at case world (q ++ z) ≡ None
there-above case world q [] closed e = ap (at case world) (append-nil q) ∙ e
there-above case world q (n ∷ z) closed e = nowhere case world q n z closed (closed q n (λ d. missing≢dir (ap status_of (sym e) ∙ d)))

-- nothing stands where a move leads, or it is what is moved
unfoldable pub IsFree : Case → World → Path → Path → Type 0
IsFree case world p q = (at case world (place case q) ≡ None) ⊎ (place case q ≡ place case p)

entry_after_move-same : (case : Case) (world : World) (p q z : Path) → IsClosed case world → IsFree case world p q → (e : Entry) → (at case world (place case e.path) ≢ None)
    → is_same_place (place case (entry_after_move case p q e).path) (place case q ++ z) ≡ is_same_place (place case e.path) (place case p ++ z)
unfolding IsFree
entry_after_move-same case world p q z closed free e there =
    split (is_at_or_above (place case p) (place case e.path))
    (λ on.
    let r = drop (length (place case p)) (place case e.path) in
    let r_is : place case (drop (length p) e.path) ≡ r = place-drop case (length p) e.path ∙ ap (λ n. drop n (place case e.path)) (sym (length-place case p)) in
    rw on
    (ap (λ v. is_same_place v (place case q ++ z)) (place-append case q (drop (length p) e.path) ∙ ap (λ v. place case q ++ v) r_is)
    ∙ same_place-front (place case q) r z ∙ sym (same_place-front (place case p) r z)
    ∙ ap (λ v. is_same_place v (place case p ++ z)) (rest-is (place case p) (place case e.path) on)))
    (λ off.
    let second : is_same_place (place case e.path) (place case p ++ z) ≡ false =
    false_from_ne_true _ (λ s. both_ways _ off (ap (is_at_or_above (place case p)) (same_place-true (place case e.path) (place case p ++ z) s) ∙ at_or_above-append (place case p) z)) in
    let first : is_same_place (place case e.path) (place case q ++ z) ≡ false =
    false_from_ne_true _ (λ s.
    let e_is = same_place-true (place case e.path) (place case q ++ z) s in
    split_or free
    (λ none. there (ap (at case world) e_is ∙ there-above case world (place case q) z closed none))
    (λ same. both_ways _ off (ap (is_at_or_above (place case p)) (e_is ∙ ap (λ v. v ++ z) same) ∙ at_or_above-append (place case p) z))) in
    rw off (first ∙ sym second))

-- what is found at and below the end of a move was found at and below its begin
pub entry_after_move-at : (case : Case) (world : World) (p q z : Path) → IsClosed case world → IsFree case world p q
    → at case (apply case world (Move p q)) (place case q ++ z) ≡ option_map (entry_after_move case p q) (at case world (place case p ++ z))
entry_after_move-at case world p q z closed free =
    find-map_each _ _ (entry_after_move case p q) world (each-weaker _ _ (entry_after_move-same case world p q z closed free) world (each-there case world))

-- nothing is left where a move came from
pub entry_after_move-gone : (case : Case) (world : World) (p q x : Path) → is_at_or_above (place case p) x ≡ true → is_at_or_above (place case q) x ≡ false → at case (apply case world (Move p q)) x ≡ None
entry_after_move-gone case world p q x on off = by world
  where
    each : (e : Entry) → is_same_place (place case (entry_after_move case p q e).path) x ≡ false
    each e =
        split (is_at_or_above (place case p) (place case e.path))
        (λ s. rw s (apart (place case q) x (place case (q ++ drop (length p) e.path)) off (ap (is_at_or_above (place case q)) (place-append case q (drop (length p) e.path)) ∙ at_or_above-append (place case q) (place case (drop (length p) e.path)))))
        (λ s. rw s (false_from_ne_true _ (λ u. both_ways _ s (ap (is_at_or_above (place case p)) (same_place-true (place case e.path) x u) ∙ on))))

    by : (w : World) → at case (map (entry_after_move case p q) w) x ≡ None
    by [] = refl
    by (e ∷ w) = rw (each e) (by w)

entry_after_move-status : (case : Case) (p q : Path) (e : Option Entry) → status_of (option_map (entry_after_move case p q) e) ≡ status_of e
entry_after_move-status case p q None = refl
entry_after_move-status case p q (Some e) = split (is_at_or_above (place case p) (place case e.path)) (λ s. rw s refl) (λ s. rw s refl)

-- a place at or below another, without its last name, is so too, or it is that place
pub last_step : (Q x : Path) (n : Name) → is_at_or_above Q (x ++ n ∷ []) ≡ true → (is_at_or_above Q x ≡ true) ⊎ (Q ≡ x ++ n ∷ [])
last_step [] x n on = inl refl
last_step (a ∷ []) [] n on = inr (λ i. same_name-true a n (and_parts _ _ on).0 i ∷ [])
last_step (a ∷ b ∷ Q) [] n on = absurd (true≢false (sym (and_parts (is_same_name a n) false on).1))
last_step (a ∷ Q) (b ∷ x) n on =
    let parts = and_parts _ _ on in
    split_or (last_step Q x n parts.1)
    (λ h. inl (and_from _ _ parts.0 h))
    (λ h. inr (λ i. same_name-true a b parts.0 i ∷ h i))

entry_after_move-closed : (case : Case) (world : World) (p q : Path) → status_of (at case world (place case (parent q))) ≡ IsDir → IsFree case world p q → is_strictly_below case q p ≡ false → IsClosed case world → IsClosed case (apply case world (Move p q))
entry_after_move-closed case world p q parent_dir free outside closed x n other =
    split (is_at_or_above Q (x ++ n ∷ []))
    (λ on. split_or (last_step Q x n on) inside edge)
    (λ off. beyond off (not_below-child Q x n off))
  where
    P : Path
    P = place case p

    Q : Path
    Q = place case q

    w' : World
    w' = apply case world (Move p q)

    -- below what was moved
    inside : is_at_or_above (place case q) x ≡ true → at case (apply case world (Move p q)) (x ++ n ∷ []) ≡ None
    inside on =
        let (z, x_is) = rest_of (place case q) x on in
        let here : status_of (at case world (place case p ++ z)) ≢ IsDir =
        λ d. other (ap (λ v. status_of (at case (apply case world (Move p q)) v)) x_is ∙ ap status_of (entry_after_move-at case world p q z closed free) ∙ entry_after_move-status case p q (at case world (place case p ++ z)) ∙ d) in
        let none : at case world (place case p ++ (z ++ n ∷ [])) ≡ None = ap (at case world) (sym (append_assoc (place case p) z (n ∷ []))) ∙ closed (place case p ++ z) n here in
        ap (at case (apply case world (Move p q))) (ap (λ v. v ++ n ∷ []) x_is ∙ append_assoc (place case q) z (n ∷ []))
        ∙ entry_after_move-at case world p q (z ++ n ∷ []) closed free ∙ ap (option_map (entry_after_move case p q)) none

    -- elsewhere
    outside_at : (y : Path) → is_at_or_above (place case q) y ≡ false → is_at_or_above (place case p) y ≡ false → at case (apply case world (Move p q)) y ≡ at case world y
    outside_at y off_q off_p = apply-elsewhere case world (Move p q) y (or_from _ _ off_p (or_from _ _ off_q refl))

    beyond : is_at_or_above (place case q) (x ++ n ∷ []) ≡ false → is_at_or_above (place case q) x ≡ false → at case (apply case world (Move p q)) (x ++ n ∷ []) ≡ None
    beyond off_y off_x =
        split (is_at_or_above (place case p) (x ++ n ∷ []))
        (λ on. entry_after_move-gone case world p q (x ++ n ∷ []) on off_y)
        (λ off.
        let off_p = not_below-child (place case p) x n off in
        outside_at (x ++ n ∷ []) off_y off ∙ closed x n (λ d. other (ap status_of (outside_at x off_x off_p) ∙ d)))

    -- what was moved itself: its directory is still there
    edge : place case q ≡ x ++ n ∷ [] → at case (apply case world (Move p q)) (x ++ n ∷ []) ≡ None
    edge e =
        let off_q : is_at_or_above (place case q) x ≡ false = ap (λ v. is_at_or_above v x) e ∙ not_below x n in
        let dir : status_of (at case world x) ≡ IsDir = ap (λ v. status_of (at case world v)) (sym (parent_place case q x n e)) ∙ parent_dir in
        let off_p : is_at_or_above (place case p) x ≡ false =
        false_from_ne_true _ (λ on.
        let p_q : is_at_or_above (place case p) (place case q) ≡ true = at_or_above-trans (place case p) x (place case q) on (ap (is_at_or_above x) e ∙ at_or_above-append x (n ∷ [])) in
        let q_p : is_at_or_above (place case q) (place case p) ≡ true = not-false _ (split_or (and_cases _ _ outside) (λ a. absurd (both_ways _ a p_q)) (λ b. b)) in
        both_ways _ off_q (at_or_above-trans (place case q) (place case p) x q_p on)) in
        absurd (other (ap status_of (outside_at x off_q off_p) ∙ dir))

-- ---- an edit that is not refused

-- what is not missing has an entry
pub present : (case : Case) (world : World) (p : Path) → is_missing (status_there case world p) ≡ false → at case world (place case p) ≢ None
present case world p h none = both_ways _ h (none-missing _ none)

-- an edit that is not refused leaves nothing in what is no directory
pub accepted-closed : (case : Case) (world : World) (edit : Edit) → refusal case world edit ≡ None → IsClosed case world → IsClosed case (apply case world edit)
unfolding IsFree
accepted-closed case world (Write p bytes) e closed =
    let t = each-fails (refusals case world (Write p bytes)) e in
    split (is_missing (status_there case world p))
    (λ m. rw m (new-closed case world p (Regular bytes) (is_dir-is _ t.1.0 t.1.1.0) (missing-none _ m) closed))
    (λ m. rw m (entry_after_write-closed case world p bytes (dir-test _ t.1.1.1.0) (present case world p m) closed))
accepted-closed case world (Mkdir p) e closed =
    let t = each-fails (refusals case world (Mkdir p)) e in
    new-closed case world p Directory (is_dir-is _ t.1.0 t.1.1.0) (missing-none _ (not-false _ t.1.1.1.0)) closed
accepted-closed case world (Remove p) e closed = removed-closed case world p closed
accepted-closed case world (Move p q) e closed =
    let t = each-fails (refusals case world (Move p q)) e in
    entry_after_move-closed case world p q (is_dir-is _ t.1.1.1.0 t.1.1.1.1.0)
    (split_or (and_cases _ _ t.1.1.1.1.1.0) (λ a. inl (missing-none _ (not-false _ a))) (λ b. inr (same_place-true (place case q) (place case p) (not-false _ b))))
    t.1.1.0 closed

-- the paths of an edit have at most 64 names
pub accepted-short : (case : Case) (world : World) (edit : Edit) → refusal case world edit ≡ None → Each (λ (p : Path). length p ≤ 64) (events edit) → AreShort world → AreShort (apply case world edit)
accepted-short case world (Write p bytes) e few short =
    split (is_missing (status_there case world p))
    (λ m. rw m (each-append _ world _ short (few.0, tt)))
    (λ m. rw m (by world short))
  where
    by : (w : World) → AreShort w → AreShort (map (entry_after_write case p bytes) w)
    by [] h = tt
    by (f ∷ w) h = (split (is_same_place (place case f.path) (place case p)) (λ s. rw s h.0) (λ s. rw s h.0), by w h.1)
accepted-short case world (Mkdir p) e few short = each-append _ world _ short (few.0, tt)
accepted-short case world (Remove p) e few short = each-weaker _ _ (λ (f : Entry) h. h.0) _ (each-filter (λ (f : Entry). length f.path ≤ 64) _ world short)
accepted-short case world (Move p q) e few short =
    let t = each-fails (refusals case world (Move p q)) e in
    by world t.1.1.1.1.1.1.0 short
  where
    by : (w : World) → is_too_deep case w p q ≡ false → AreShort w → AreShort (map (entry_after_move case p q) w)
    by [] deep h = tt
    by (f ∷ w) deep h =
        let parts = or_parts (is_at_or_above (place case p) (place case f.path) && nat_lt 64 (length q + (length f.path - length p))) (is_too_deep case w p q) deep in (
          split (is_at_or_above (place case p) (place case f.path))
              (λ s. rw s
              (let t : nat_lt 64 (length q + (length f.path - length p)) ≡ false = rw s at parts.0 in
              omega (arith, ltb-false 64 (length q + (length f.path - length p)) t, length-append q (drop (length p) f.path), length-drop (length p) f.path)))
              (λ s. rw s h.0),
          by w parts.1 h.1,
        )

-- ---- entries apart

same_place-flip : (a b : Path) → is_same_place a b ≡ false → is_same_place b a ≡ false
same_place-flip a b h = false_from_ne_true _ (λ s. both_ways _ h (ap (is_same_place a) (same_place-true b a s) ∙ same_place-refl a))

find-none : {X : Type 0} (t : X → Bool) (xs : List X) → find t xs ≡ None → Each (λ x. t x ≡ false) xs
find-none t [] e = tt
find-none {X} t (x ∷ xs) e = split (t x) (λ s. absurd (by x (rw s at e))) (λ s. (s, find-none t xs (rw s at e)))
  where
    by : (x : X) → Some x ≡ None → ⊥
    by x h = cc

distinct-append : (case : Case) (world : World) (e : Entry) → AreDistinct case world → Each (λ (f : Entry). is_same_place (place case f.path) (place case e.path) ≡ false) world → AreDistinct case (world ++ e ∷ [])
distinct-append case [] e h k = (tt, tt)
distinct-append case (f ∷ world) e h k = (each-append _ world _ h.0 (k.0, tt), distinct-append case world e h.1 k.1)

distinct-filter : (case : Case) (t : Entry → Bool) (world : World) → AreDistinct case world → AreDistinct case (filter t world)
distinct-filter case t [] h = tt
distinct-filter case t (e ∷ world) h =
    split (t e)
    (λ s. rw s (each-weaker _ _ (λ (f : Entry) b. b.0) _ (each-filter (λ (f : Entry). is_same_place (place case e.path) (place case f.path) ≡ false) t world h.0), distinct-filter case t world h.1))
    (λ s. rw s (distinct-filter case t world h.1))

-- a map that keeps entries apart
distinct-map : (case : Case) (f : Entry → Entry) (P : Entry → Type 0) (world : World) → ((a b : Entry) → P a → P b → is_same_place (place case a.path) (place case b.path) ≡ false → is_same_place (place case (f a).path) (place case (f b).path) ≡ false)
    → Each P world → AreDistinct case world → AreDistinct case (map f world)
distinct-map case f P [] keep p h = tt
distinct-map case f P (e ∷ world) keep p h = (by world p.1 h.0, distinct-map case f P world keep p.1 h.1)
  where
    by : (w : World) → Each P w → Each (λ (g : Entry). is_same_place (place case e.path) (place case g.path) ≡ false) w → Each (λ (g : Entry). is_same_place (place case (f e).path) (place case g.path) ≡ false) (map f w)
    by [] q k = tt
    by (g ∷ w) q k = (keep e g p.0 q.0 k.0, by w q.1 k.1)

entry_after_write-path : (case : Case) (p : Path) (bytes : List ℕ) (e : Entry) → (entry_after_write case p bytes e).path ≡ e.path
entry_after_write-path case p bytes e = split (is_same_place (place case e.path) (place case p)) (λ s. rw s refl) (λ s. rw s refl)

-- the place of what is moved
entry_after_move-place : (case : Case) (p q : Path) (e : Entry) → is_at_or_above (place case p) (place case e.path) ≡ true → (z : Path) × (place case (entry_after_move case p q e).path ≡ place case q ++ z) × (place case p ++ z ≡ place case e.path)
entry_after_move-place case p q e on = (
  drop (length (place case p)) (place case e.path),
  rw on (place-append case q (drop (length p) e.path) ∙ ap (λ v. place case q ++ v) (place-drop case (length p) e.path ∙ ap (λ n. drop n (place case e.path)) (sym (length-place case p)))),
  rest-is (place case p) (place case e.path) on,
)

entry_after_move-apart : (case : Case) (world : World) (p q : Path) → IsClosed case world → IsFree case world p q → (a b : Entry) → (at case world (place case a.path) ≢ None) → (at case world (place case b.path) ≢ None)
    → is_same_place (place case a.path) (place case b.path) ≡ false → is_same_place (place case (entry_after_move case p q a).path) (place case (entry_after_move case p q b).path) ≡ false
entry_after_move-apart case world p q closed free a b there_a there_b off =
    split (is_at_or_above (place case p) (place case b.path))
    (λ on.
    let m = entry_after_move-place case p q b on in
    ap (is_same_place (place case (entry_after_move case p q a).path)) m.1 ∙ entry_after_move-same case world p q m.0 closed free a there_a ∙ ap (is_same_place (place case a.path)) m.2 ∙ off)
    (λ out.
    let b_is : place case (entry_after_move case p q b).path ≡ place case b.path = rw out refl in
    split (is_at_or_above (place case p) (place case a.path))
    (λ on.
    let m = entry_after_move-place case p q a on in
    same_place-flip _ (place case (entry_after_move case p q a).path)
    (ap (is_same_place (place case (entry_after_move case p q b).path)) m.1 ∙ entry_after_move-same case world p q m.0 closed free b there_b ∙ ap (is_same_place (place case b.path)) m.2 ∙ same_place-flip (place case a.path) _ off))
    (λ out_a. let a_is : place case (entry_after_move case p q a).path ≡ place case a.path = rw out_a refl in (λ i. is_same_place (a_is i) (b_is i)) ∙ off))

-- an edit that is not refused leaves no two entries at one place
pub accepted-distinct : (case : Case) (world : World) (edit : Edit) → refusal case world edit ≡ None → IsClosed case world → AreDistinct case world → AreDistinct case (apply case world edit)
unfolding IsFree
accepted-distinct case world (Write p bytes) e closed h =
    split (is_missing (status_there case world p))
    (λ m. rw m (distinct-append case world _ h (find-none _ world (missing-none _ m))))
    (λ m. rw m (distinct-map case (entry_after_write case p bytes) (λ _. Unit {0}) world
    (λ a b _ _ off. (λ i. is_same_place (place case (entry_after_write-path case p bytes a i)) (place case (entry_after_write-path case p bytes b i))) ∙ off)
    (each-weaker (λ (f : Entry). at case world (place case f.path) ≢ None) (λ _. Unit {0}) (λ _ _. tt) world (each-there case world)) h))
accepted-distinct case world (Mkdir p) e closed h =
    let t = each-fails (refusals case world (Mkdir p)) e in
    distinct-append case world _ h (find-none _ world (missing-none _ (not-false _ t.1.1.1.0)))
accepted-distinct case world (Remove p) e closed h = distinct-filter case _ world h
accepted-distinct case world (Move p q) e closed h =
    let t = each-fails (refusals case world (Move p q)) e in
    let free : IsFree case world p q = split_or (and_cases _ _ t.1.1.1.1.1.0) (λ a. inl (missing-none _ (not-false _ a))) (λ b. inr (same_place-true (place case q) (place case p) (not-false _ b))) in
    distinct-map case (entry_after_move case p q) (λ f. at case world (place case f.path) ≢ None) world (λ a b. entry_after_move-apart case world p q closed free a b) (each-there case world) h

-- where a move is not refused, nothing stands at its end, or what is moved
pub accepted-free : (case : Case) (world : World) (p q : Path) → refusal case world (Move p q) ≡ None → IsFree case world p q
unfolding IsFree
accepted-free case world p q e =
    let t = each-fails (refusals case world (Move p q)) e in
    split_or (and_cases _ _ t.1.1.1.1.1.0) (λ a. inl (missing-none _ (not-false _ a))) (λ b. inr (same_place-true (place case q) (place case p) (not-false _ b)))

-- ---- the root

off-root : (case : Case) (p : Path) → is_root p ≡ false → is_at_or_above (place case p) [] ≡ false
off-root case [] h = absurd (true≢false h)
off-root case (n ∷ p) h = refl

-- an edit that is not refused does not touch the root
pub accepted-root : (case : Case) (world : World) (edit : Edit) → refusal case world edit ≡ None → is_told case (events edit) [] ≡ false
accepted-root case world (Write p bytes) e = or_from _ _ (off-root case p (each-fails (refusals case world (Write p bytes)) e).0) refl
accepted-root case world (Mkdir p) e = or_from _ _ (off-root case p (each-fails (refusals case world (Mkdir p)) e).0) refl
accepted-root case world (Remove p) e = or_from _ _ (off-root case p (each-fails (refusals case world (Remove p)) e).0) refl
accepted-root case world (Move p q) e =
    let t = or_parts (is_root p) (is_root q) (each-fails (refusals case world (Move p q)) e).0 in
    or_from _ _ (off-root case p t.0) (or_from _ _ (off-root case q t.1) refl)
