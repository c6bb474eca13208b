-- What a fingerprint follows, and what it does not.
use Rattle.std.proofs.Common.{◌≡◌, ℕ, zero, suc, ◌<◌, true, List, [], ◌∷◌, ◌++◌, map, length, drop, refl, sym, ap, ◌∙◌, Option, Some, None, append_assoc, append-nil, arith, length-append, option_map}
use Rattle.std.specs.List.{AllByRecursion as Each}
use Rattle.vfs_model.specs.declared.Case.{Case}
use Rattle.vfs_model.specs.Paths.{Name, Path, folded_name, place, is_at_or_above, is_same_place, last_name}
use Rattle.vfs_model.specs.World.{World, Entry, Node, Directory, Regular, at, names, IsDir, node_of, status_of, spelling_of, IsClosed, IsWorld, IsSameBelow}
use Rattle.vfs_model.specs.Edit.{Move, refusal, apply, entry_after_move}
use Rattle.vfs_model.specs.Snapshot.{Snapshot, Missing, File, Dir, Children, Nothing, Child}
use Rattle.vfs_model.specs.Scan.{listing, snapshot_of, scan_down, scan}
use Rattle.vfs_model.specs.Fingerprint.{Sensitivity, Relative, Input, joined, missing_entry, Seen, FpEntry, entries_at, entries_in, all_entries, fingerprint}
use Rattle.vfs_model.specs.Sound.{scanned_input, fingerprint_of}
use Rattle.vfs_laws.proofs.Splits.{split, split_or}
use Rattle.vfs_laws.proofs.PathLemmas.{same_place-true, at_or_above-append, at_or_above-trans}
use Rattle.vfs_laws.proofs.EditLemmas.{place-append}
use Rattle.std.proofs.lemmas.Bool.{true≢false, or_cases, or_left, or_right}
use Rattle.std.specs.List.{list_any}
use Rattle.vfs_laws.proofs.NameLemmas.{names-in_order, listed_in-names, same-in_order, some-is}
use Rattle.vfs_laws.proofs.WorldLemmas.{entry_after_move-at, length-place, accepted-free}

-- ---- the same below, the same scan

-- a snapshot does not tell how an entry is spelled
pub snapshot-node : (a b : Option Entry) (m : Children) → node_of a ≡ node_of b → snapshot_of a m ≡ snapshot_of b m
snapshot-node None None m h = refl
snapshot-node None (Some b) m h = cc
snapshot-node (Some a) None m h = cc
snapshot-node (Some a) (Some b) m h = ap (λ n. snapshot_of (Some (record { path = b.path; node = n })) m) (some-is a.node b.node h)

listing-same : (f g : Name → Snapshot) → ((n : Name) → f n ≡ g n) → (ns : List Name) → listing f ns ≡ listing g ns
listing-same f g h [] = refl
listing-same f g h (n ∷ ns) = λ i. Child n (h n i) (listing-same f g h ns i)

-- where the same is below two places, they have the same names
pub same-names : (case : Case) (v : World) (p : Path) (w : World) (q : Path) → IsSameBelow case v p w q → names case v p ≡ names case w q
same-names case v p w q h =
    same-in_order case (names case v p) (names case w q) (names-in_order case v p) (names-in_order case w q)
    (λ k. listed_in-names case v p k ∙ h.names [] k ∙ sym (listed_in-names case w q k))

same-below : (case : Case) (v : World) (p : Path) (w : World) (q : Path) (k : Name) → IsSameBelow case v p w q → IsSameBelow case v (p ++ k ∷ []) w (q ++ k ∷ [])
same-below case v p w q k h = record {
  nodes = λ x.
      ap (λ y. node_of (at case v y)) (append_assoc p (k ∷ []) x)
      ∙ h.nodes (k ∷ x)
      ∙ ap (λ y. node_of (at case w y)) (sym (append_assoc q (k ∷ []) x));
  names = λ x n.
      ap (λ y. spelling_of (at case v y)) (append_assoc p (k ∷ []) (x ++ n ∷ []))
      ∙ h.names (k ∷ x) n
      ∙ ap (λ y. spelling_of (at case w y)) (sym (append_assoc q (k ∷ []) (x ++ n ∷ [])));
}

same-node : (case : Case) (v : World) (p : Path) (w : World) (q : Path) → IsSameBelow case v p w q → node_of (at case v p) ≡ node_of (at case w q)
same-node case v p w q h = ap (λ y. node_of (at case v y)) (sym (append-nil p)) ∙ h.nodes [] ∙ ap (λ y. node_of (at case w y)) (append-nil q)

same-scan_down : (case : Case) (levels : ℕ) (v : World) (p : Path) (w : World) (q : Path) → IsSameBelow case v p w q → scan_down case v levels p ≡ scan_down case w levels q
unfolding scan_down
same-scan_down case zero v p w q h = snapshot-node (at case v p) (at case w q) Nothing (same-node case v p w q h)
same-scan_down case (suc levels) v p w q h =
    snapshot-node (at case v p) (at case w q) _ (same-node case v p w q h)
    ∙ ap (snapshot_of (at case w q))
    (ap (listing (λ n. scan_down case v levels (p ++ folded_name case n ∷ []))) (same-names case v p w q h)
    ∙ listing-same _ _ (λ n. same-scan_down case levels v (p ++ folded_name case n ∷ []) w (q ++ folded_name case n ∷ []) (same-below case v p w q (folded_name case n) h)) (names case w q))

-- where the same is at and below two places, their scans are the same
pub same-scan : (case : Case) (v : World) (p : Path) (w : World) (q : Path) → IsSameBelow case v p w q → scan case v p ≡ scan case w q
unfolding scan
same-scan case v p w q h = same-scan_down case 64 v p w q h

-- two worlds that are the same below the roots have the same fingerprint
pub same-prints : (case : Case) (v w : World) (inputs : List Input) → Each (λ (i : Input). IsSameBelow case v (place case i.root) w (place case i.root)) inputs → fingerprint_of case v inputs ≡ fingerprint_of case w inputs
same-prints case v w inputs h = ap (fingerprint case) (by inputs h)
  where
    by : (inputs : List Input) → Each (λ (i : Input). IsSameBelow case v (place case i.root) w (place case i.root)) inputs → map (scanned_input case v) inputs ≡ map (scanned_input case w) inputs
    by [] h = refl
    by (i ∷ more) h = λ j. record { input = i; snapshot = same-scan case v (place case i.root) w (place case i.root) h.0 j } ∷ by more h.1 j

-- ---- a move of a root

mutual
  below-same : (case : Case) (p q b : Path) (n : Name) (s : Snapshot) → entries_at case [] Relative p (n ∷ b) s ≡ entries_at case [] Relative q (n ∷ b) s
  below-same case p q b n Missing = refl
  below-same case p q b n (File digest) = refl
  below-same case p q b n (Dir children) = ap (λ es. record { path = joined (n ∷ b); kind = 68; digest = [] } ∷ es) (children-same case p q b n children)

  children-same : (case : Case) (p q b : Path) (n : Name) (cs : Children) → entries_in case [] Relative p (n ∷ b) cs ≡ entries_in case [] Relative q (n ∷ b) cs
  children-same case p q b n Nothing = refl
  children-same case p q b n (Child m s more) = λ i. below-same case p q (b ++ m ∷ []) n s i ++ children-same case p q b n more i

top-same : (case : Case) (p q : Path) (cs : Children) → entries_in case [] Relative p [] cs ≡ entries_in case [] Relative q [] cs
top-same case p q Nothing = refl
top-same case p q (Child m s more) = λ i. below-same case p q [] m s i ++ top-same case p q more i

-- a relative fingerprint of a directory does not tell where the directory is
pub relative-same : (case : Case) (p q : Path) (cs : Children) → fingerprint case (record { input = record { root = p; sensitivity = Relative }; snapshot = Dir cs } ∷ []) ≡ fingerprint case (record { input = record { root = q; sensitivity = Relative }; snapshot = Dir cs } ∷ [])
unfolding fingerprint
relative-same case p q cs = ap print (top-same case p q cs)
  where
    print : List FpEntry → List ℕ
    print es = Rattle.vfs_model.specs.World.digest_of_bytes (Rattle.std.specs.List.flat_map Rattle.vfs_model.specs.Fingerprint.entry_bytes (Rattle.vfs_model.specs.Fingerprint.sorted (([] ++ (record { path = []; kind = 68; digest = [] } ∷ es)) ++ [])))

dir-snapshot : (o : Option Entry) (m : Children) → status_of o ≡ IsDir → snapshot_of o m ≡ Dir m
dir-snapshot None m h = cc
dir-snapshot (Some e) m h = by e.node h
  where
    by : (n : Node) → Rattle.vfs_model.specs.World.status_of_node n ≡ IsDir → Rattle.vfs_model.specs.Scan.snapshot_of_node n m ≡ Dir m
    by Directory h = refl
    by (Regular bytes) h = cc

dir-scan : (case : Case) (world : World) (p : Path) → status_of (at case world p) ≡ IsDir → (cs : Children) × (scan case world p ≡ Dir cs)
unfolding scan scan_down
dir-scan case world p h = (_, dir-snapshot (at case world p) _ h)

last-append : (a : Path) (m : Name) (r : Path) → last_name (a ++ m ∷ r) ≡ last_name (m ∷ r)
last-append [] m r = refl
last-append (n ∷ []) m r = refl
last-append (n ∷ k ∷ a) m r = last-append (k ∷ a) m r

last-dropped : (q : Path) (k : ℕ) (path : Path) → k < length path → last_name (q ++ drop k path) ≡ last_name path
last-dropped q zero [] h = absurd (omega arith)
last-dropped q zero (m ∷ r) h = last-append q m r
last-dropped q (suc k) [] h = absurd (omega arith)
last-dropped q (suc k) (m ∷ []) h = absurd (omega arith)
last-dropped q (suc k) (m ∷ o ∷ r) h = last-dropped q k (o ∷ r) (omega arith)

-- what is found at a place has that place
pub found-place : (case : Case) (world : World) (y : Path) (e : Entry) → at case world y ≡ Some e → place case e.path ≡ y
found-place case [] y e h = cc
found-place case (f ∷ world) y e h =
    split (is_same_place (place case f.path) y)
    (λ s. let t : Some f ≡ Some e = rw s at h in ap (λ (g : Entry). place case g.path) (sym (some-is f e t)) ∙ same_place-true (place case f.path) y s)
    (λ s. found-place case world y e (rw s at h))

-- a move leaves what stands there
pub entry_after_move-node : (case : Case) (p q : Path) (o : Option Entry) → node_of (option_map (entry_after_move case p q) o) ≡ node_of o
entry_after_move-node case p q None = refl
entry_after_move-node case p q (Some e) = split (is_at_or_above (place case p) (place case e.path)) (λ s. rw s refl) (λ s. rw s refl)

-- a move leaves the last name of what is below its end
pub entry_after_move-name : (case : Case) (world : World) (p q x : Path) (n : Name) (o : Option Entry) → at case world (place case p ++ (x ++ n ∷ [])) ≡ o → spelling_of (option_map (entry_after_move case p q) o) ≡ spelling_of o
entry_after_move-name case world p q x n None is = refl
entry_after_move-name case world p q x n (Some e) is =
    let e_is = found-place case world (place case p ++ (x ++ n ∷ [])) e is in
    let on : is_at_or_above (place case p) (place case e.path) ≡ true = ap (is_at_or_above (place case p)) e_is ∙ at_or_above-append (place case p) (x ++ n ∷ []) in
    let a = length-place case e.path in
    let b = length-place case p in
    let c = length-append (place case p) (x ++ n ∷ []) in
    let d = length-append x (n ∷ []) in
    let l = ap length e_is in
    rw on (ap Some (last-dropped q (length p) e.path (omega (arith, a, b, c, d, l))))

entry_after_move-below : (case : Case) (world : World) (p q : Path) → refusal case world (Move p q) ≡ None → IsClosed case world → IsSameBelow case (apply case world (Move p q)) (place case q) world (place case p)
entry_after_move-below case world p q e closed =
    let free = accepted-free case world p q e in
    record {
      nodes = λ x. ap node_of (entry_after_move-at case world p q x closed free) ∙ entry_after_move-node case p q _;
      names = λ x n. ap spelling_of (entry_after_move-at case world p q (x ++ n ∷ []) closed free) ∙ entry_after_move-name case world p q x n _ refl;
    }

-- a relative fingerprint outlives the move of its directory
pub entry_after_move-print : (case : Case) (world : World) (p q : Path) → refusal case world (Move p q) ≡ None → IsWorld case world → status_of (at case world (place case p)) ≡ IsDir
    → fingerprint_of case (apply case world (Move p q)) (record { root = q; sensitivity = Relative } ∷ []) ≡ fingerprint_of case world (record { root = p; sensitivity = Relative } ∷ [])
entry_after_move-print case world p q e h dir =
    let same = same-scan case (apply case world (Move p q)) (place case q) world (place case p) (entry_after_move-below case world p q e h.closed) in
    let (cs, is) = dir-scan case world (place case p) dir in
    ap (λ t. fingerprint case (record { input = record { root = q; sensitivity = Relative }; snapshot = t } ∷ [])) (same ∙ is)
    ∙ relative-same case q p cs
    ∙ ap (λ t. fingerprint case (record { input = record { root = p; sensitivity = Relative }; snapshot = t } ∷ [])) (sym is)

-- ---- a root below an earlier one

any-below : (case : Case) (earlier : List Path) (root below : Path) → list_any (λ r. is_at_or_above r (place case root)) earlier ≡ true → list_any (λ r. is_at_or_above r (place case (root ++ below))) earlier ≡ true
any-below case [] root below h = absurd (true≢false (sym h))
any-below case (r ∷ earlier) root below h =
    split_or (or_cases _ _ h)
    (λ a. or_left _ _ (at_or_above-trans r (place case root) (place case (root ++ below)) a (ap (is_at_or_above (place case root)) (place-append case root below) ∙ at_or_above-append (place case root) (place case below))))
    (λ b. or_right _ _ (any-below case earlier root below b))

covered-entries : (case : Case) (earlier : List Path) (mode : Sensitivity) (root below : Path) (s : Snapshot) → list_any (λ r. is_at_or_above r (place case root)) earlier ≡ true → entries_at case earlier mode root below s ≡ []
covered-entries case earlier mode root below Missing h = refl
covered-entries case earlier mode root below (File digest) h = rw (any-below case earlier root below h) refl
covered-entries case earlier mode root below (Dir children) h = rw (any-below case earlier root below h) refl

covered-missing : (case : Case) (earlier : List Path) (mode : Sensitivity) (root : Path) (s : Snapshot) → list_any (λ r. is_at_or_above r (place case root)) earlier ≡ true → missing_entry case earlier mode root s ≡ []
covered-missing case earlier mode root Missing h = rw h refl
covered-missing case earlier mode root (File digest) h = refl
covered-missing case earlier mode root (Dir children) h = refl

-- an input whose root lies at or below an earlier root adds nothing
pub covered-print : (case : Case) (a b : Seen) → is_at_or_above (place case a.input.root) (place case b.input.root) ≡ true → fingerprint case (a ∷ b ∷ []) ≡ fingerprint case (a ∷ [])
unfolding fingerprint
covered-print case a b on =
    ap (λ es. digest_of_entries (missing_entry case [] a.input.sensitivity a.input.root a.snapshot ++ entries_at case [] a.input.sensitivity a.input.root [] a.snapshot ++ es)) none
  where
    earlier : List Path
    earlier = place case a.input.root ∷ []

    digest_of_entries : List FpEntry → List ℕ
    digest_of_entries es = Rattle.vfs_model.specs.World.digest_of_bytes (Rattle.std.specs.List.flat_map Rattle.vfs_model.specs.Fingerprint.entry_bytes (Rattle.vfs_model.specs.Fingerprint.sorted es))

    none : all_entries case earlier (b ∷ []) ≡ []
    none = λ i. covered-missing case earlier b.input.sensitivity b.input.root b.snapshot (or_left _ _ on) i ++ covered-entries case earlier b.input.sensitivity b.input.root [] b.snapshot (or_left _ _ on) i ++ []
