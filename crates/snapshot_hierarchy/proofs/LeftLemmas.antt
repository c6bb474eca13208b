-- What an invalidation leaves, and what a store makes of it.
use Rattle.std.proofs.Common.{◌≡◌, ◌∙◌, ℕ, ◌+◌, ◌<◌, Bool, true, false, ◌&&◌, not, List, [], ◌∷◌, ◌++◌, length, drop, take, get_or, filter, cond, refl, sym, ap, append_assoc, append-nil}
use Rattle.std.proofs.lemmas.Bool.{or_parts, true≢false}
use Rattle.std.proofs.lemmas.List.{map-append, take_more, drop_all}
use Rattle.std.proofs.lemmas.List.Elements.{filter-append}
use Rattle.vfs_model.specs.declared.Case.{Case}
use Rattle.vfs_model.specs.Paths.{Path, place, is_at_or_above}
use Rattle.vfs_model.specs.Snapshot.{Snapshot}
use Rattle.vfs_model.specs.Retained.{Pair, Retained, insert_pair, insert_dirs, known_above, dirs_from, pairs_left, dirs_left, all_pairs_left, all_dirs_left, is_covered, after_invalidation, after_store}
use Rattle.vfs_laws.proofs.Splits.{split}
use Rattle.snapshot_tree.specs.declared.pieces.Pair.{Pair as PairValue}
use Rattle.snapshot_tree.specs.Pieces.{pair_of, pairs_of, places_of}
use Rattle.vfs_laws.proofs.AboveLemmas.{above-short}
use Rattle.snapshot_hierarchy.specs.Flat.{lists_of, opened_dirs, with_pair}
use Rattle.snapshot_hierarchy.proofs.InsertLemmas.{insert_dirs-append}

-- ---- one pair

dirs_left-apart : (case : Case) (e : Path) (r : Pair) → is_at_or_above r.path e ≡ false → dirs_left case e r ≡ []
dirs_left-apart case e r t = rw t refl

dirs_left-above : (case : Case) (e : Path) (r : Pair) → is_at_or_above r.path e ≡ true → dirs_left case e r ≡ dirs_from case r.path r.snapshot (drop (length r.path) e)
dirs_left-above case e r t = rw t refl

-- no directory becomes known by a pair at or below the place
pub dirs_left-below : (case : Case) (e : Path) (r : Pair) → is_at_or_above e r.path ≡ true → dirs_left case e r ≡ []
dirs_left-below case e r s =
    split (is_at_or_above r.path e)
    (λ t. dirs_left-above case e r t ∙ ap (dirs_from case r.path r.snapshot) (drop_all (length r.path) e (above-short e r.path s)))
    (λ t. dirs_left-apart case e r t)

-- ---- one pair, and one directory, more of a list

all_pairs_left-push : (case : Case) (e : Path) (rs : List Pair) (r : Pair) → all_pairs_left case e (rs ++ r ∷ []) ≡ all_pairs_left case e rs ++ pairs_left case e r
all_pairs_left-push case e [] r = append-nil (pairs_left case e r)
all_pairs_left-push case e (q ∷ rs) r = rw (all_pairs_left-push case e rs r) (sym (append_assoc (pairs_left case e q) (all_pairs_left case e rs) (pairs_left case e r)))

pub all_pairs_left-next : (case : Case) (e : Path) (pairs : List PairValue) (i : ℕ) (q : PairValue) → i < length pairs → q ≡ get_or pairs i q
    → all_pairs_left case e (pairs_of case (take (i + 1) pairs)) ≡ all_pairs_left case e (pairs_of case (take i pairs)) ++ pairs_left case e (pair_of case q)
all_pairs_left-next case e pairs i q h is = rw (take_more pairs i q h, ← is, map-append) (all_pairs_left-push case e (pairs_of case (take i pairs)) (pair_of case q))

opened_dirs-push : (case : Case) (e : Path) (rs : List Pair) (r : Pair) → opened_dirs case e (rs ++ r ∷ []) ≡ opened_dirs case e rs ++ dirs_left case e r
opened_dirs-push case e [] r = append-nil (dirs_left case e r)
opened_dirs-push case e (q ∷ rs) r = rw (opened_dirs-push case e rs r) (sym (append_assoc (dirs_left case e q) (opened_dirs case e rs) (dirs_left case e r)))

pub opened_dirs-next : (case : Case) (e : Path) (pairs : List PairValue) (i : ℕ) (q : PairValue) → i < length pairs → q ≡ get_or pairs i q
    → opened_dirs case e (pairs_of case (take (i + 1) pairs)) ≡ opened_dirs case e (pairs_of case (take i pairs)) ++ dirs_left case e (pair_of case q)
opened_dirs-next case e pairs i q h is = rw (take_more pairs i q h, ← is, map-append) (opened_dirs-push case e (pairs_of case (take i pairs)) (pair_of case q))

-- a directory is left behind those before it, where it passes the test
pub filter-next : (t : Path → Bool) (case : Case) (dirs : List Path) (i : ℕ) (d : Path) → i < length dirs → d ≡ get_or dirs i d
    → filter t (places_of case (take (i + 1) dirs)) ≡ filter t (places_of case (take i dirs)) ++ cond (t (place case d)) (place case d ∷ []) []
filter-next t case dirs i d h is = rw (take_more dirs i d h, ← is, map-append) (filter-append t (places_of case (take i dirs)) (place case d ∷ []))

-- ---- all of them

-- the directories left are those outside, with those that the pairs strictly above leave
all_dirs_left-is : (case : Case) (e : Path) (rs : List Pair) (dirs : List Path) → all_dirs_left case e rs dirs ≡ insert_dirs (opened_dirs case e rs) (filter (λ d. not (is_at_or_above e d)) dirs)
all_dirs_left-is case e [] dirs = refl
all_dirs_left-is case e (r ∷ rs) dirs =
    ap (insert_dirs (dirs_left case e r)) (all_dirs_left-is case e rs dirs)
    ∙ sym (insert_dirs-append (dirs_left case e r) (opened_dirs case e rs) (filter (λ d. not (is_at_or_above e d)) dirs))

-- the two lists after an invalidation are made of what is left of the pairs, and of the directories outside with those that become known
pub lists-left : (case : Case) (e : Path) (pairs left : List PairValue) (dirs opened outside now : List Path)
    → pairs_of case left ≡ all_pairs_left case e (pairs_of case pairs) → places_of case opened ≡ opened_dirs case e (pairs_of case pairs) → places_of case outside ≡ filter (λ d. not (is_at_or_above e d)) (places_of case dirs)
    → places_of case now ≡ insert_dirs (places_of case opened) (places_of case outside)
    → lists_of case left now ≡ after_invalidation case e (lists_of case pairs dirs)
lists-left case e pairs left dirs opened outside now one two three four =
    let all = four ∙ (λ i. insert_dirs (two i) (three i)) ∙ sym (all_dirs_left-is case e (pairs_of case pairs) (places_of case dirs)) in
    λ i. record { pairs = one i; dirs = all i }

-- ---- a store

below-too : (a b : Bool) → (a && not b) ≡ false → b ≡ false → a ≡ false
below-too true b h e = absurd (true≢false (rw e at h))
below-too false b h e = refl

-- where no pair stands strictly above, the pairs outside are left as they are
all_pairs_left-uncovered : (case : Case) (e : Path) (rs : List Pair) → is_covered rs e ≡ false → all_pairs_left case e rs ≡ filter (λ (r : Pair). not (is_at_or_above e r.path)) rs
all_pairs_left-uncovered case e [] h = refl
all_pairs_left-uncovered case e (r ∷ rs) h =
    let free = or_parts _ _ h in
    split (is_at_or_above e r.path)
    (λ s. rw s (all_pairs_left-uncovered case e rs free.1))
    (λ s.
    let t = below-too (is_at_or_above r.path e) (is_at_or_above e r.path) free.0 s in
    rw (s, t) (ap (λ l. r ∷ l) (all_pairs_left-uncovered case e rs free.1)))

-- and no directory becomes known
opened_dirs-uncovered : (case : Case) (e : Path) (rs : List Pair) → is_covered rs e ≡ false → opened_dirs case e rs ≡ []
opened_dirs-uncovered case e [] h = refl
opened_dirs-uncovered case e (r ∷ rs) h =
    let free = or_parts _ _ h in
    let rest = opened_dirs-uncovered case e rs free.1 in
    split (is_at_or_above e r.path)
    (λ s. rw (dirs_left-below case e r s) rest)
    (λ s. rw (dirs_left-apart case e r (below-too (is_at_or_above r.path e) (is_at_or_above e r.path) free.0 s)) rest)

-- a store is an invalidation, after which the pair comes
store-is : (case : Case) (p : Path) (s : Snapshot) (rs : List Pair) (dirs : List Path) → is_covered rs p ≡ false
    → with_pair p s (after_invalidation case p (record { pairs = rs; dirs = dirs })) ≡ after_store p s (record { pairs = rs; dirs = dirs })
store-is case p s rs dirs free =
    rw (free, all_pairs_left-uncovered case p rs free, all_dirs_left-is case p rs dirs, opened_dirs-uncovered case p rs free) refl

-- and so the two lists after a store are made of those after an invalidation
pub lists-stored : (case : Case) (p : Path) (s : Snapshot) (old : Retained) (pairs now : List PairValue) (dirs now_dirs : List Path)
    → is_covered old.pairs p ≡ false → lists_of case pairs dirs ≡ after_invalidation case p old
    → places_of case now_dirs ≡ insert_dirs (known_above p s) (places_of case dirs) → pairs_of case now ≡ insert_pair (record { path = p; snapshot = s }) (pairs_of case pairs)
    → lists_of case now now_dirs ≡ after_store p s old
lists-stored case p s old pairs now dirs now_dirs free left known kept =
    (λ i. record { pairs = kept i; dirs = known i }) ∙ ap (with_pair p s) left ∙ store-is case p s old.pairs old.dirs free

-- where a pair stands strictly above, nothing changes
pub store-covered : (p : Path) (s : Snapshot) (retained : Retained) → is_covered retained.pairs p ≡ true → retained ≡ after_store p s retained
store-covered p s retained h = rw h refl
