-- What is left of a snapshot, name by name on the way.
use Rattle.std.proofs.Common.{◌≡◌, ◌∙◌, ℕ, ◌+◌, ◌<◌, ◌≤◌, true, false, List, [], ◌∷◌, ◌++◌, length, take, drop, get_or, Some, refl, sym, ap, arith, append_assoc, append-nil}
use Rattle.std.specs.List.{slice_get, take-map}
use Rattle.std.proofs.lemmas.List.{length-map, length-take-le, map-append, take_more}
use Rattle.vfs_model.specs.declared.Case.{Case}
use Rattle.vfs_model.specs.Paths.{Name, Path, place, folded_name, is_same_name, is_at_or_above}
use Rattle.vfs_model.specs.Snapshot.{Snapshot, Missing, File, Dir, Children, Nothing, child, children_of}
use Rattle.vfs_model.specs.Retained.{Pair, pieces, pieces_beside, dirs_from}
use Rattle.vfs_laws.proofs.Splits.{split}
use Rattle.vfs_laws.proofs.AboveLemmas.{above-short, above-front}
use Rattle.snapshot_tree.specs.declared.directory.Child.{Child as ChildValue}
use Rattle.snapshot_tree.specs.declared.pieces.Pair.{Pair as PairValue}
use Rattle.snapshot_tree.specs.Meaning.{meaning_of, children_in}
use Rattle.snapshot_tree.specs.Pieces.{pair_of, pairs_of, places_of, inner_pieces}
use Rattle.snapshot_tree.proofs.SubLemmas.{place-at, place-drop, place-take}

-- ---- where the way begins

-- a path is no deeper than those at or below it
pub path-short : (case : Case) (at e : Path) → is_at_or_above (place case at) (place case e) ≡ true → length at ≤ length e
path-short case at e h = omega (arith, above-short (place case at) (place case e) h, length-map at (folded_name case), length-map e (folded_name case))

-- its names are the first of theirs
pub path-front : (case : Case) (at e : Path) → is_at_or_above (place case at) (place case e) ≡ true → take (length at) (place case e) ≡ place case at
path-front case at e h = ap (λ n. take n (place case e)) (sym (length-map at (folded_name case))) ∙ above-front (place case at) (place case e) h

-- ---- the directories on the way

pub dirs_from-missing : (case : Case) (p x : Path) → dirs_from case p Missing x ≡ []
dirs_from-missing case p [] = refl
dirs_from-missing case p (n ∷ x) = refl

pub dirs_from-file : (case : Case) (p x : Path) (digest : List ℕ) → dirs_from case p (File digest) x ≡ []
dirs_from-file case p [] digest = refl
dirs_from-file case p (n ∷ x) digest = refl

dirs_from-next : (case : Case) (e : Path) (i : ℕ) (n : Name) (cs : Children) → slice_get e i ≡ Some n
    → dirs_from case (take i (place case e)) (Dir cs) (drop i (place case e))
    ≡ take i (place case e) ∷ dirs_from case (take (i + 1) (place case e)) (child case cs (folded_name case n)) (drop (i + 1) (place case e))
dirs_from-next case e i n cs at = rw (place-drop case e i n at, place-take case e i n at) refl

-- one directory more, and those below it
pub dirs-step : (case : Case) (e : Path) (i : ℕ) (n : Name) (cs : Children) (s : Snapshot) (dirs more : List Path) (dir : Path) → slice_get e i ≡ Some n → dir ≡ take i e → more ≡ dirs ++ dir ∷ [] → s ≡ child case cs (folded_name case n)
    → places_of case more ++ dirs_from case (take (i + 1) (place case e)) s (drop (i + 1) (place case e))
    ≡ places_of case dirs ++ dirs_from case (take i (place case e)) (Dir cs) (drop i (place case e))
dirs-step case e i n cs s dirs more dir at front pushed is =
    rw (pushed, front, is, dirs_from-next case e i n cs at, map-append, ← take-map (folded_name case) i e)
    (append_assoc (places_of case dirs) (take i (place case e) ∷ []) _)

-- ---- the children beside the way

pieces-childless : (case : Case) (p : Path) (s : Snapshot) (x : Path) → children_of s ≡ Nothing → pieces case p s x ≡ []
pieces-childless case p s [] e = refl
pieces-childless case p s (n ∷ x) e = ap (λ cs. pieces_beside case p cs n (pieces case (p ++ n ∷ []) (child case (children_of s) n) x)) e

-- nothing is left of what has no children
pub none_left : (case : Case) (pairs : List Pair) (p : Path) (s : Snapshot) (x : Path) → children_of s ≡ Nothing → pairs ≡ pairs ++ pieces case p s x
none_left case pairs p s x e = sym (append-nil pairs) ∙ ap (λ l. pairs ++ l) (sym (pieces-childless case p s x e))

-- what is left of a directory, by the name on the way
pub pieces-next : (case : Case) (e : Path) (i : ℕ) (cs : Children) (n : Name) → slice_get e i ≡ Some n
    → pieces case (take i (place case e)) (Dir cs) (drop i (place case e)) ≡ pieces_beside case (take i (place case e)) cs (get_or (place case e) i []) (inner_pieces case cs (place case e) i)
pieces-next case e i cs n at = rw (place-drop case e i n at, place-take case e i n at, place-at case e i n at) refl

pieces_beside-append : (case : Case) (p : Path) (cs ds : List ChildValue) (n : Name) (inner : List Pair)
    → pieces_beside case p (children_in (cs ++ ds)) n inner ≡ pieces_beside case p (children_in cs) n inner ++ pieces_beside case p (children_in ds) n inner
pieces_beside-append case p [] ds n inner = refl
pieces_beside-append case p (c ∷ cs) ds n inner =
    split (is_same_name (folded_name case c.name) n)
    (λ s. rw (s, pieces_beside-append case p cs ds n inner) (sym (append_assoc inner (pieces_beside case p (children_in cs) n inner) (pieces_beside case p (children_in ds) n inner))))
    (λ s. rw (s, pieces_beside-append case p cs ds n inner) refl)

-- one child more
pub pieces-step : (case : Case) (e here : Path) (depth : ℕ) (cs : Children) (items : List ChildValue) (i : ℕ) (c : ChildValue) (old before now : List Pair)
    → depth < length e → here ≡ take depth e → i < length items → c ≡ get_or items i c
    → before ≡ old ++ pieces_beside case (take depth (place case e)) (children_in (take i items)) (get_or (place case e) depth []) (inner_pieces case cs (place case e) depth)
    → now ≡ before ++ pieces_beside case (place case here) (children_in (c ∷ [])) (get_or (place case e) (length here) []) (inner_pieces case cs (place case e) (length here))
    → now ≡ old ++ pieces_beside case (take depth (place case e)) (children_in (take (i + 1) items)) (get_or (place case e) depth []) (inner_pieces case cs (place case e) depth)
pieces-step case e here depth cs items i c old before now deep front within is done added =
    let long : length here ≡ depth = ap length front ∙ length-take-le depth e (omega arith) in
    let at : place case here ≡ take depth (place case e) = ap (place case) front ∙ sym (take-map (folded_name case) depth e) in
    let one : List Pair = pieces_beside case (take depth (place case e)) (children_in (c ∷ [])) (get_or (place case e) depth []) (inner_pieces case cs (place case e) depth) in
    let next : now ≡ before ++ one = rw (at, long) at added in
    rw (next, done, take_more items i c within, ← is, pieces_beside-append case (take depth (place case e)) (take i items) (c ∷ []) (get_or (place case e) depth []) (inner_pieces case cs (place case e) depth))
    (append_assoc old _ one)

-- a child beside the way is left as a pair
pub beside : (case : Case) (here : Path) (n m : Name) (c : ChildValue) (pair : PairValue) (pairs more : List PairValue) (inner : List Pair)
    → is_same_name (folded_name case c.name) (folded_name case n) ≡ false → m ≡ folded_name case n → pair.path ≡ here ++ c.name ∷ [] → pair.snapshot ≡ c.snapshot → more ≡ pairs ++ pair ∷ []
    → pairs_of case more ≡ pairs_of case pairs ++ pieces_beside case (place case here) (children_in (c ∷ [])) m inner
beside case here n m c pair pairs more inner apart is path snapshot pushed =
    let one : pair_of case pair ≡ record { path = place case here ++ folded_name case c.name ∷ []; snapshot = meaning_of c.snapshot } =
    λ i. record { path = (ap (place case) path ∙ map-append (folded_name case) here (c.name ∷ [])) i; snapshot = meaning_of (snapshot i) } in
    rw (pushed, is, apart, map-append) (ap (λ (r : Pair). pairs_of case pairs ++ r ∷ []) one)

-- in place of the child on the way comes what is left of it
pub on_the_way : (case : Case) (here : Path) (n m : Name) (c : ChildValue) (pairs more inner : List Pair)
    → is_same_name (folded_name case c.name) (folded_name case n) ≡ true → m ≡ folded_name case n → more ≡ pairs ++ inner
    → more ≡ pairs ++ pieces_beside case (place case here) (children_in (c ∷ [])) m inner
on_the_way case here n m c pairs more inner same is added = rw (is, same) (added ∙ ap (λ l. pairs ++ l) (sym (append-nil inner)))

-- what is left of the child on the way, by its name
pub inner-is : (case : Case) (cs : Children) (e : Path) (depth i : ℕ) (n : Name) (s : Snapshot) → i ≡ depth → slice_get e depth ≡ Some n → s ≡ child case cs (folded_name case n)
    → pieces case (take (i + 1) (place case e)) s (drop (i + 1) (place case e)) ≡ inner_pieces case cs (place case e) depth
inner-is case cs e depth i n s deep at is = rw (deep, is, place-at case e depth n at) refl
