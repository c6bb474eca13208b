-- Inputs and children one by one.
use Rattle.std.proofs.Common.{◌≡◌, ◌∙◌, ℕ, zero, suc, ◌+◌, ◌<◌, ◌≤◌, Bool, true, false, ◌||◌, List, [], ◌∷◌, ◌++◌, length, map, take, drop, get_or, cond, refl, sym, ap, arith}
use Rattle.std.specs.List.{list_any, flat_map}
use Rattle.std.proofs.lemmas.List.{drop-append-le, drop_all, drop_more, take_all, take_more, take-map, append_assoc, append-nil, map_push, flat_map_more, get_or-map, length-append, length-map}
use Rattle.vfs_model.specs.declared.Case.{Case}
use Rattle.vfs_model.specs.Paths.{Name, Path, place, is_at_or_above}
use Rattle.vfs_model.specs.Snapshot.{Snapshot, Missing, File, Dir, Children, Nothing, Child}
use Rattle.vfs_model.specs.Fingerprint.{Sensitivity, Seen, FpEntry, shown_path, dir_entry, entries_at, entries_in, missing_entry, all_entries}
use Rattle.snapshot_tree.specs.declared.snapshot.Snapshot.{Snapshot as SnapshotValue}
use Rattle.snapshot_tree.specs.declared.snapshot.Snapshot.TheVariants as value
use Rattle.snapshot_tree.specs.Meaning.{meaning_of}
use Rattle.snapshot_tree.specs.Listing.{entries_of}
use Rattle.snapshot_tree.specs.Height.{height, height_of}
use Rattle.fingerprint_norms.specs.declared.input.Seen.{Seen as SeenValue}
use Rattle.fingerprint_norms.specs.declared.entry.FpEntry.{FpEntry as FpEntryValue}
use Rattle.fingerprint_norms.specs.Meaning.{seen_of, entry_of}
use Rattle.fingerprint_norms.specs.Walk.{IsBelow, below, places_onto, places_of, input_entries}

-- ---- what earlier inputs cover

or-false : (a : Bool) → (a || false) ≡ a
or-false true = refl
or-false false = refl

or-turned : (a b c : Bool) → (a || (b || c)) ≡ ((b || a) || c)
or-turned true true c = refl
or-turned true false c = refl
or-turned false true c = refl
or-turned false false c = refl

any-onto : (case : Case) (x : Path) (vs : List SeenValue) (earlier : List Path)
    → list_any (λ r. is_at_or_above r x) (places_onto case (map seen_of vs) earlier)
    ≡ (list_any (λ (v : SeenValue). is_at_or_above (place case v.input.root) x) vs || list_any (λ r. is_at_or_above r x) earlier)
any-onto case x [] earlier = refl
any-onto case x (v ∷ vs) earlier = any-onto case x vs (place case v.input.root ∷ earlier) ∙ or-turned (list_any (λ (w : SeenValue). is_at_or_above (place case w.input.root) x) vs) (is_at_or_above (place case v.input.root) x) (list_any (λ r. is_at_or_above r x) earlier)

-- a place is covered by the places of roots where it is by one of the roots
pub covered-is : (case : Case) (x : Path) (vs : List SeenValue)
    → list_any (λ r. is_at_or_above r x) (places_of case vs) ≡ list_any (λ (v : SeenValue). is_at_or_above (place case v.input.root) x) vs
covered-is case x vs = any-onto case x vs [] ∙ or-false _

-- one root more
pub places-push : (case : Case) (vs : List Seen) (v : Seen) (earlier : List Path) → places_onto case (vs ++ v ∷ []) earlier ≡ place case v.input.root ∷ places_onto case vs earlier
places-push case [] v earlier = refl
places-push case (w ∷ vs) v earlier = places-push case vs v (place case w.input.root ∷ earlier)

-- ---- children

-- the entries of a child
abbrev pub child_entries : Case → List Path → Sensitivity → Path → Path → Name × Snapshot → List FpEntry
child_entries case earlier mode root below child = entries_at case earlier mode root (below ++ child.0 ∷ []) child.1

-- the children's entries, one child after another
pub entries_in-each : (case : Case) (earlier : List Path) (mode : Sensitivity) (root below : Path) (cs : Children)
    → entries_in case earlier mode root below cs ≡ flat_map (child_entries case earlier mode root below) (entries_of cs)
entries_in-each case earlier mode root below Nothing = refl
entries_in-each case earlier mode root below (Child name s more) =
    ap (λ l. entries_at case earlier mode root (below ++ name ∷ []) s ++ l) (entries_in-each case earlier mode root below more)

-- a child is less high than its directory
pub height-at : (cs : Children) (i : ℕ) (d : Name × Snapshot) → i < length (entries_of cs) → height (get_or (entries_of cs) i d).1 ≤ height_of cs
height-at Nothing i d h = absurd (omega arith)
height-at (Child name s more) zero d h = omega arith
height-at (Child name s more) (suc i) d h = omega (arith, height-at more i d (omega arith))

-- ---- names below a root

-- the root has no more names than what is below it
pub below-long : (root names : Path) → IsBelow root names → length root ≤ length names
below-long root names b = omega (arith, ap length b, length-append root (drop (length root) names))

-- one name more
pub below-push : (root names : Path) (n : Name) → IsBelow root names → below root (names ++ n ∷ []) ≡ below root names ++ n ∷ []
below-push root names n b = drop-append-le (length root) names (n ∷ []) (below-long root names b)

pub push-below : (root names : Path) (n : Name) → IsBelow root names → IsBelow root (names ++ n ∷ [])
push-below root names n b =
    ap (λ l. l ++ n ∷ []) b ∙ append_assoc root (below root names) (n ∷ []) ∙ ap (λ l. root ++ l) (sym (below-push root names n b))

-- ---- what is appended

-- one entry was pushed
pub pushed : (old new : List FpEntryValue) (e : FpEntryValue) (more : List FpEntry) → new ≡ old ++ e ∷ [] → entry_of e ∷ [] ≡ more → map entry_of new ≡ map entry_of old ++ more
pushed old new e more p q = ap (map entry_of) p ∙ map_push entry_of old e ∙ ap (λ l. map entry_of old ++ l) q

-- nothing was
pub none-pushed : (old more : List FpEntry) → more ≡ [] → old ≡ old ++ more
none-pushed old more e = sym (append-nil old) ∙ ap (λ l. old ++ l) (sym e)

-- one part after another
pub both-pushed : (old mid new first rest : List FpEntry) → mid ≡ old ++ first → new ≡ mid ++ rest → new ≡ old ++ (first ++ rest)
both-pushed old mid new first rest p q = q ∙ ap (λ l. l ++ rest) p ∙ append_assoc old first rest

-- the location lies at or below one of the places
abbrev pub is_covered : Case → List Path → Path → Bool
is_covered case earlier names = list_any (λ r. is_at_or_above r (place case names)) earlier

below-covered : (case : Case) (earlier : List Path) (root names : Path) (b : Bool) → IsBelow root names → is_covered case earlier names ≡ b → is_covered case earlier (root ++ below root names) ≡ b
below-covered case earlier root names b is h = ap (is_covered case earlier) (sym is) ∙ h

-- a location that is covered has no entries
pub covered-none : (case : Case) (earlier : List Path) (mode : Sensitivity) (root names : Path) (s : Snapshot) → IsBelow root names → is_covered case earlier names ≡ true → entries_at case earlier mode root (below root names) s ≡ []
covered-none case earlier mode root names Missing is h = refl
covered-none case earlier mode root names (File digest) is h =
    ap (λ b. cond b [] (record { path = shown_path mode root (below root names) false; kind = 70; digest = digest } ∷ [])) (below-covered case earlier root names true is h)
covered-none case earlier mode root names (Dir cs) is h =
    ap (λ b. cond b [] (dir_entry mode root (below root names) ++ entries_in case earlier mode root (below root names) cs)) (below-covered case earlier root names true is h)

-- the entry of a file
pub file-one : (case : Case) (earlier : List Path) (mode : Sensitivity) (root names : Path) (digest : List ℕ) → IsBelow root names → is_covered case earlier names ≡ false
    → record { path = shown_path mode root (below root names) false; kind = 70; digest = digest } ∷ [] ≡ entries_at case earlier mode root (below root names) (File digest)
file-one case earlier mode root names digest is h =
    sym (ap (λ b. cond b [] (record { path = shown_path mode root (below root names) false; kind = 70; digest = digest } ∷ [])) (below-covered case earlier root names false is h))

-- the entries of a directory
pub dir-all : (case : Case) (earlier : List Path) (mode : Sensitivity) (root names : Path) (cs : Children) → IsBelow root names → is_covered case earlier names ≡ false
    → dir_entry mode root (below root names) ++ entries_in case earlier mode root (below root names) cs ≡ entries_at case earlier mode root (below root names) (Dir cs)
dir-all case earlier mode root names cs is h =
    sym (ap (λ b. cond b [] (dir_entry mode root (below root names) ++ entries_in case earlier mode root (below root names) cs)) (below-covered case earlier root names false is h))

-- the entry of a root that is missing, and none where it is covered
pub missing-none : (case : Case) (earlier : List Path) (mode : Sensitivity) (root : Path) → is_covered case earlier root ≡ true → missing_entry case earlier mode root Missing ≡ []
missing-none case earlier mode root h = ap (λ b. cond b [] (record { path = shown_path mode root [] false; kind = 77; digest = [] } ∷ [])) h

pub missing-one : (case : Case) (earlier : List Path) (mode : Sensitivity) (root : Path) → is_covered case earlier root ≡ false
    → record { path = shown_path mode root [] false; kind = 77; digest = [] } ∷ [] ≡ missing_entry case earlier mode root Missing
missing-one case earlier mode root h = sym (ap (λ b. cond b [] (record { path = shown_path mode root [] false; kind = 77; digest = [] } ∷ [])) h)

-- no names are below the root itself
pub none-below : (root names : Path) → names ≡ root → below root names ≡ []
none-below root names e = ap (drop (length root)) e ∙ drop_all (length root) root (omega arith)

pub root-below : (root names : Path) → names ≡ root → IsBelow root names
root-below root names e = e ∙ sym (append-nil root) ∙ ap (λ l. root ++ l) (sym (none-below root names e))

-- one child more
pub child-step : (f : Name × Snapshot → List FpEntry) (cs : Children) (i : ℕ) (old before now : List FpEntry) (n : Name) (s : Snapshot)
    → i < length (entries_of cs) → n ≡ (get_or (entries_of cs) i ([], Missing)).0 → s ≡ (get_or (entries_of cs) i ([], Missing)).1
    → before ≡ old ++ flat_map f (take i (entries_of cs)) → now ≡ before ++ f (n, s) → now ≡ old ++ flat_map f (take (i + 1) (entries_of cs))
child-step f cs i old before now n s within name snapshot done added =
    let here : (Name × Snapshot) = get_or (entries_of cs) i ([], Missing) in
    let child : (n, s) ≡ here = λ k. (name k, snapshot k) in
    added
    ∙ ap (λ l. l ++ f (n, s)) done
    ∙ flat_map_more f old (take i (entries_of cs)) (n, s)
    ∙ ap (λ l. old ++ flat_map f l) (ap (λ (e : Name × Snapshot). take i (entries_of cs) ++ e ∷ []) child ∙ sym (take_more (entries_of cs) i ([], Missing) within))

-- one input more
pub input-step : (case : Case) (vs : List SeenValue) (i : ℕ) (v : SeenValue) (old now : List FpEntry) → i < length vs → v ≡ get_or vs i v
    → now ≡ old ++ input_entries case (places_of case (take i vs)) (seen_of v)
    → now ++ all_entries case (places_onto case (take (i + 1) (map seen_of vs)) []) (drop (i + 1) (map seen_of vs))
    ≡ old ++ all_entries case (places_onto case (take i (map seen_of vs)) []) (drop i (map seen_of vs))
input-step case vs i v old now within is added =
    let long : i < length (map seen_of vs) = omega (arith, within, length-map vs seen_of) in
    let here : get_or (map seen_of vs) i (seen_of v) ≡ seen_of v = get_or-map seen_of vs i v (seen_of v) within ∙ ap seen_of (sym is) in
    let earlier : List Path = places_onto case (take i (map seen_of vs)) [] in
    let first : now ≡ old ++ input_entries case earlier (seen_of v) = added ∙ ap (λ l. old ++ input_entries case (places_onto case l []) (seen_of v)) (sym (take-map seen_of i vs)) in
    let behind : places_onto case (take (i + 1) (map seen_of vs)) [] ≡ place case v.input.root ∷ earlier =
    ap (λ l. places_onto case l []) (take_more (map seen_of vs) i (seen_of v) long) ∙ places-push case (take i (map seen_of vs)) (get_or (map seen_of vs) i (seen_of v)) [] ∙ ap (λ (w : Seen). place case w.input.root ∷ earlier) here in
    let left : drop i (map seen_of vs) ≡ seen_of v ∷ drop (i + 1) (map seen_of vs) =
    drop_more (map seen_of vs) i (seen_of v) long ∙ ap (λ w. w ∷ drop (i + 1) (map seen_of vs)) here in
    (λ k. first k ++ all_entries case (behind k) (drop (i + 1) (map seen_of vs)))
    ∙ append_assoc old (input_entries case earlier (seen_of v)) (all_entries case (place case v.input.root ∷ earlier) (drop (i + 1) (map seen_of vs)))
    ∙ ap (λ l. old ++ all_entries case earlier l) (sym left)

-- the entry of a file was pushed
pub file-pushed : (case : Case) (earlier : List Path) (mode : Sensitivity) (root names : Path) (s : SnapshotValue) (digest : List ℕ) (old new : List FpEntryValue) (e : FpEntryValue)
    → IsBelow root names → is_covered case earlier names ≡ false → s ≡ value.File digest → new ≡ old ++ e ∷ []
    → entry_of e ≡ record { path = shown_path mode root (below root names) false; kind = 70; digest = digest }
    → map entry_of new ≡ map entry_of old ++ entries_at case earlier mode root (below root names) (meaning_of s)
file-pushed case earlier mode root names s digest old new e is apart file added entry =
    pushed old new e (entries_at case earlier mode root (below root names) (meaning_of s)) added
    (ap (λ (f : FpEntry). f ∷ []) entry
    ∙ file-one case earlier mode root names digest is apart
    ∙ ap (λ (v : SnapshotValue). entries_at case earlier mode root (below root names) (meaning_of v)) (sym file))

-- the entry of a directory, and those of its children
pub dir-pushed : (case : Case) (earlier : List Path) (mode : Sensitivity) (root names : Path) (s : SnapshotValue) (cs : Children) (old mid new : List FpEntry)
    → IsBelow root names → is_covered case earlier names ≡ false → s ≡ value.Dir cs → mid ≡ old ++ dir_entry mode root (below root names)
    → new ≡ mid ++ entries_in case earlier mode root (below root names) cs
    → new ≡ old ++ entries_at case earlier mode root (below root names) (meaning_of s)
dir-pushed case earlier mode root names s cs old mid new is apart dir first rest =
    both-pushed old mid new (dir_entry mode root (below root names)) (entries_in case earlier mode root (below root names) cs) first rest
    ∙ ap (λ l. old ++ l)
    (dir-all case earlier mode root names cs is apart
    ∙ ap (λ (v : SnapshotValue). entries_at case earlier mode root (below root names) (meaning_of v)) (sym dir))

-- all children are told
pub children-told : (case : Case) (earlier : List Path) (mode : Sensitivity) (root below : Path) (cs : Children) (i : ℕ) (old new : List FpEntry) → length (entries_of cs) ≤ i
    → new ≡ old ++ flat_map (child_entries case earlier mode root below) (take i (entries_of cs)) → new ≡ old ++ entries_in case earlier mode root below cs
children-told case earlier mode root below cs i old new past told =
    told
    ∙ ap (λ l. old ++ flat_map (child_entries case earlier mode root below) l) (take_all i (entries_of cs) past)
    ∙ ap (λ l. old ++ l) (sym (entries_in-each case earlier mode root below cs))
