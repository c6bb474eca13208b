-- The children of a directory as a list.
use Rattle.std.proofs.Common.{◌≡◌, ◌≢◌, ◌∙◌, ℕ, zero, suc, ◌<◌, List, [], ◌∷◌, ◌++◌, length, map, drop, get_or, refl, sym, ap, arith}
use Rattle.std.proofs.lemmas.List.{length-map, get_or-map}
use Rattle.vfs_model.specs.Paths.{Name}
use Rattle.vfs_model.specs.Snapshot.{Snapshot, Missing, Children, Nothing, Child, names_of, ArePresent}
use Rattle.snapshot_tree.specs.declared.directory.Child.{Child as ChildValue}
use Rattle.snapshot_tree.specs.Meaning.{meaning_of, children_in}
use Rattle.snapshot_tree.specs.Listing.{entries_of, followed_by}

-- the name of a child and what its snapshot stands for
abbrev pub entry_of : ChildValue → Name × Snapshot
entry_of c = (c.name, meaning_of c.snapshot)

entries_in : (cs : List ChildValue) → entries_of (children_in cs) ≡ map entry_of cs
entries_in [] = refl
entries_in (c ∷ cs) = ap (λ l. entry_of c ∷ l) (entries_in cs)

-- there are as many as children
pub length-entries : (cs : List ChildValue) → length (entries_of (children_in cs)) ≡ length cs
length-entries cs = ap length (entries_in cs) ∙ length-map cs entry_of

-- the one at a place is that of the child there
pub entry-at : (cs : List ChildValue) (i : ℕ) (c : ChildValue) (d : Name × Snapshot) → i < length cs → c ≡ get_or cs i c → get_or (entries_of (children_in cs)) i d ≡ entry_of c
entry-at cs i c d within is = ap (λ l. get_or l i d) (entries_in cs) ∙ get_or-map entry_of cs i c d within ∙ ap entry_of (sym is)

-- the names are those of the entries
pub names-entries : (cs : Children) → names_of cs ≡ map (λ (e : Name × Snapshot). e.0) (entries_of cs)
names-entries Nothing = refl
names-entries (Child name s more) = ap (λ l. name ∷ l) (names-entries more)

-- the list tells the children
pub entries-tell : (cs ds : Children) → entries_of cs ≡ entries_of ds → cs ≡ ds
entries-tell Nothing Nothing e = refl
entries-tell Nothing (Child name s more) e = cc
entries-tell (Child name s more) Nothing e = cc
entries-tell (Child n s cs) (Child m t ds) e =
    let first : Name × Snapshot = (n, s) in
    let name : n ≡ m = ap (λ (l : List (Name × Snapshot)). (get_or l 0 first).0) e in
    let snapshot : s ≡ t = ap (λ (l : List (Name × Snapshot)). (get_or l 0 first).1) e in
    let rest : entries_of cs ≡ entries_of ds = ap (λ (l : List (Name × Snapshot)). drop 1 l) e in
    λ i. Child (name i) (snapshot i) (entries-tell cs ds rest i)

-- one child more is one entry more, at the end
pub entries-followed_by : (cs : Children) (n : Name) (s : Snapshot) → entries_of (followed_by cs n s) ≡ entries_of cs ++ (n, s) ∷ []
entries-followed_by Nothing n s = refl
entries-followed_by (Child name t more) n s = ap (λ l. (name, t) ∷ l) (entries-followed_by more n s)

-- one child more at the end of a list
pub children_in-push : (cs : List ChildValue) (c : ChildValue) → children_in (cs ++ c ∷ []) ≡ followed_by (children_in cs) c.name (meaning_of c.snapshot)
children_in-push [] c = refl
children_in-push (d ∷ cs) c = ap (Child d.name (meaning_of d.snapshot)) (children_in-push cs c)

-- none of the children is missing
pub present-at : (cs : List ChildValue) (i : ℕ) (c : ChildValue) → ArePresent (children_in cs) → i < length cs → c ≡ get_or cs i c → meaning_of c.snapshot ≢ Missing
present-at [] i c present within is = absurd (omega arith)
present-at (d ∷ cs) zero c present within is = λ e. present.0 (ap (λ (x : ChildValue). meaning_of x.snapshot) (sym is) ∙ e)
present-at (d ∷ cs) (suc i) c present within is = present-at cs i c present.1 (omega arith) is
