-- The snapshots of what a walk has read are those of its partial snapshot.
use Rattle.std.proofs.Common.{◌≡◌, List, [], ◌∷◌, ◌++◌, length, map, drop, refl, sym, ap, ◌∙◌, subst, arith, append_assoc, length-append, append-nil, None}
use Rattle.std.proofs.lemmas.List.{map-append}
use Rattle.vfs_model.specs.Paths.{Name}
use Rattle.vfs_model.specs.Snapshot.{Snapshot, Dir, Children}
use Rattle.vfs_model.specs.Scanning.{Look, SeesDir, PartialSnapshot, Unread, NotThere, FileRead, DirRead, PartialChildren, NoChildren, PartialChild, next_left, next_left_in, partial_names, Reading, reading_below, readings, readings_in, looks_of, contents, contents_in, snapshot_made, children_made, with_child}
use Rattle.vfs_laws.proofs.ScanningLemmas.{below_or-none}
use Rattle.scan_walk.specs.Making.{bytes_of, with_present, children_with, made_by, made_of, AreWhole}

-- ---- the looks of a child come before those of its siblings

looks-deeper : (n : Name) (rs : List Reading) → looks_of (map (reading_below n) rs) ≡ looks_of rs
looks-deeper n [] = refl
looks-deeper n (r ∷ rs) = ap (λ ls. r.look ∷ ls) (looks-deeper n rs)

looks-child : (n : Name) (s : PartialSnapshot) (more : PartialChildren) (rest : List Look)
    → looks_of (readings_in (PartialChild n s more)) ++ rest ≡ looks_of (readings s) ++ (looks_of (readings_in more) ++ rest)
looks-child n s more rest =
    ap (λ ls. ls ++ rest) (map-append (λ (r : Reading). r.look) (map (reading_below n) (readings s)) (readings_in more))
    ∙ ap (λ ls. (ls ++ looks_of (readings_in more)) ++ rest) (looks-deeper n (readings s))
    ∙ append_assoc (looks_of (readings s)) (looks_of (readings_in more)) rest

-- ---- the bytes

mutual
  bytes-readings : (s : PartialSnapshot) (rest : List Look) → bytes_of (looks_of (readings s) ++ rest) ≡ contents s ++ bytes_of rest
  bytes-readings Unread rest = refl
  bytes-readings NotThere rest = refl
  bytes-readings (FileRead bytes) rest = refl
  bytes-readings (DirRead below) rest = bytes-readings_in below rest

  bytes-readings_in : (below : PartialChildren) (rest : List Look) → bytes_of (looks_of (readings_in below) ++ rest) ≡ contents_in below ++ bytes_of rest
  bytes-readings_in NoChildren rest = refl
  bytes-readings_in (PartialChild n s more) rest =
      ap bytes_of (looks-child n s more rest)
      ∙ bytes-readings s (looks_of (readings_in more) ++ rest)
      ∙ ap (λ bs. contents s ++ bs) (bytes-readings_in more rest)
      ∙ sym (append_assoc (contents s) (contents_in more) (bytes_of rest))

-- ---- the snapshots

-- the snapshots of the children, those seen missing among them
abbrev snapshots_in : PartialChildren → List Snapshot
snapshots_in NoChildren = []
snapshots_in (PartialChild n s more) = snapshot_made s ∷ snapshots_in more

present-child : (n : Name) (s : PartialSnapshot) (more : Children) → with_present n (snapshot_made s) more ≡ with_child n s (snapshot_made s) more
present-child n Unread more = refl
present-child n NotThere more = refl
present-child n (FileRead bytes) more = refl
present-child n (DirRead below) more = refl

children-made : (below : PartialChildren) (rest : List Snapshot) → children_with (partial_names below) (snapshots_in below ++ rest) ≡ children_made below
children-made NoChildren rest = refl
children-made (PartialChild n s more) rest = present-child n s _ ∙ ap (with_child n s (snapshot_made s)) (children-made more rest)

rest-made : (below : PartialChildren) (rest : List Snapshot) → drop (length (partial_names below)) (snapshots_in below ++ rest) ≡ rest
rest-made NoChildren rest = refl
rest-made (PartialChild n s more) rest = rest-made more rest

mutual
  made-readings : (s : PartialSnapshot) (rest : List Look) → next_left s ≡ None → made_of (looks_of (readings s) ++ rest) ≡ snapshot_made s ∷ made_of rest
  made-readings Unread rest e = cc
  made-readings NotThere rest e = refl
  made-readings (FileRead bytes) rest e = refl
  made-readings (DirRead below) rest e =
      ap (made_by (SeesDir (partial_names below))) (made-readings_in below rest e)
      ∙ (λ i. Dir (children-made below (made_of rest) i) ∷ rest-made below (made_of rest) i)

  made-readings_in : (below : PartialChildren) (rest : List Look) → next_left_in below ≡ None → made_of (looks_of (readings_in below) ++ rest) ≡ snapshots_in below ++ made_of rest
  made-readings_in NoChildren rest e = refl
  made-readings_in (PartialChild n s more) rest e =
      let parts = below_or-none n (next_left s) (next_left_in more) e in
      ap made_of (looks-child n s more rest)
      ∙ made-readings s (looks_of (readings_in more) ++ rest) parts.0
      ∙ ap (λ made. snapshot_made s ∷ made) (made-readings_in more rest parts.1)

length-snapshots : (below : PartialChildren) → length (snapshots_in below) ≡ length (partial_names below)
length-snapshots NoChildren = refl
length-snapshots (PartialChild n s more) = omega (arith, length-snapshots more)

mutual
  whole-readings : (s : PartialSnapshot) (rest : List Look) → next_left s ≡ None → AreWhole rest → AreWhole (looks_of (readings s) ++ rest)
  whole-readings Unread rest e h = cc
  whole-readings NotThere rest e h = (omega arith, h)
  whole-readings (FileRead bytes) rest e h = (omega arith, h)
  whole-readings (DirRead below) rest e h = (
    let few = ap length (made-readings_in below rest e) in omega (arith, few, length-append (snapshots_in below) (made_of rest), length-snapshots below),
    whole-readings_in below rest e h,
  )

  whole-readings_in : (below : PartialChildren) (rest : List Look) → next_left_in below ≡ None → AreWhole rest → AreWhole (looks_of (readings_in below) ++ rest)
  whole-readings_in NoChildren rest e h = h
  whole-readings_in (PartialChild n s more) rest e h =
      let parts = below_or-none n (next_left s) (next_left_in more) e in
      subst AreWhole (sym (looks-child n s more rest)) (whole-readings s (looks_of (readings_in more) ++ rest) parts.0 (whole-readings_in more rest parts.1 h))

-- ---- a walk with nothing left

-- what the looks of a partial snapshot with nothing left make
pub record IsMade (s : PartialSnapshot) (looks : List Look) : Type 0 where
  pub bytes : bytes_of looks ≡ contents s
  pub snapshot : made_of looks ≡ snapshot_made s ∷ []
  pub whole : AreWhole looks

pub walk-made : (s : PartialSnapshot) (looks : List Look) → looks_of (readings s) ≡ looks → next_left s ≡ None → IsMade s looks
walk-made s looks seen done =
    let all : looks_of (readings s) ++ [] ≡ looks = append-nil (looks_of (readings s)) ∙ seen in
    subst (IsMade s) all (record {
      bytes = bytes-readings s [] ∙ append-nil (contents s);
      snapshot = made-readings s [] done;
      whole = whole-readings s [] done tt;
    })
