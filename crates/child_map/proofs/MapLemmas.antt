-- A child map by its entries.
use Rattle.std.proofs.Common.{◌≡◌, ℕ, zero, suc, ◌+◌, ◌<◌, List, [], ◌∷◌, ◌++◌, length, map, take, drop, set, get_or, slice_get, Some, refl, sym, ap, ◌∙◌, subst, arith}
use Rattle.std.proofs.lemmas.List.{length-map, map-append, map-set, take-map, drop-map}
use Rattle.std.specs.List.{insert, remove}
use Rattle.std.specs.declared.cmp.Ordering.TheVariants.{Equal}
use Rattle.vfs_model.specs.declared.Case.{Case}
use Rattle.vfs_model.specs.Paths.{Name, Path, name_order}
use Rattle.vfs_model.specs.World.{AreInOrder}
use Rattle.tree_model.specs.Standing.{IsGap}
use Rattle.tree_model.proofs.StandingLemmas.{here-found, gap-in_order, here-in_order, without-in_order}
use Rattle.child_map.specs.declared.list.Entry.{Entry}
use Rattle.child_map.specs.KeyNames.{first_name}
use Rattle.child_map.specs.Keys.{keys_in, first_names, entry_names}
use Rattle.child_map.specs.Places.{IsKey, BeginAlike}
use Rattle.child_map.specs.Children.{Children, children_in, keys_of, values_of}
use Rattle.child_map.proofs.PlaceLemmas.{alike-order, alike-some}
use Rattle.child_map.proofs.EntryLemmas.{key-at, length-entry_names}

-- what contracts see of entries
abbrev pub seen : {V : Type 0} → Case → List (Entry V) → Children V
seen case es = record { case = case; children = children_in es }

keys_of-seen : {V : Type 0} (case : Case) (es : List (Entry V)) → keys_of (seen case es) ≡ keys_in es
keys_of-seen case [] = refl
keys_of-seen case (e ∷ es) = ap (λ keys. e.key ∷ keys) (keys_of-seen case es)

-- what holds of the keys of entries holds of the keys that contracts see
pub to_seen : {V : Type 0} (P : Case → List Path → Type 0) (case : Case) (es : List (Entry V)) (kids : Children V) → seen case es ≡ kids → P case (keys_in es) → P kids.case (keys_of kids)
to_seen {V} P case es kids v h = subst (λ (k : Children V). P k.case (keys_of k)) v (subst (P case) (sym (keys_of-seen case es)) h)

pub from_seen : {V : Type 0} (P : Case → List Path → Type 0) (case : Case) (es : List (Entry V)) (kids : Children V) → seen case es ≡ kids → P kids.case (keys_of kids) → P case (keys_in es)
from_seen {V} P case es kids v h = subst (P case) (keys_of-seen case es) (subst (λ (k : Children V). P k.case (keys_of k)) (sym v) h)

children-length : {V : Type 0} (es : List (Entry V)) → length (children_in es) ≡ length es
children-length [] = refl
children-length (e ∷ es) = ap suc (children-length es)

within : {V : Type 0} (case : Case) (es : List (Entry V)) (kids : Children V) (i : ℕ) → seen case es ≡ kids → i < length kids.children → i < length es
within case es kids i v l = omega (arith, ap (λ k. length k.children) v, children-length es)

-- ---- what stands at an index

pub key-seen : {V : Type 0} (case : Case) (es items : List (Entry V)) (kids : Children V) (i : ℕ) (d : Entry V) (key : Path) → seen case es ≡ kids → items ≡ es → i < length kids.children → key ≡ (get_or items i d).key → slice_get (keys_of kids) i ≡ Some key
key-seen case es items kids i d key v e l k = to_seen (λ _ keys. slice_get keys i ≡ Some key) case es kids v (key-at es items i d key e (within case es kids i v l) k)

pub value-seen : {V : Type 0} (case : Case) (es items : List (Entry V)) (kids : Children V) (i : ℕ) (d : Entry V) → seen case es ≡ kids → items ≡ es → i < length kids.children → slice_get (values_of kids) i ≡ Some (get_or items i d).value
value-seen {V} case es items kids i d v e l =
    ap (λ (k : Children V). slice_get (values_of k) i) (sym v) ∙ by es i (within case es kids i v l) ∙ ap (λ (fs : List (Entry V)). Some (get_or fs i d).value) (sym e)
  where
    by : (fs : List (Entry V)) (j : ℕ) → j < length fs → slice_get (values_of (seen case fs)) j ≡ Some (get_or fs j d).value
    by [] j m = absurd (omega arith)
    by (f ∷ fs) zero m = refl
    by (f ∷ fs) (suc j) m = by fs j (omega arith)

-- ---- after a change

map-insert : {X Y : Type 0} (f : X → Y) (xs : List X) (i : ℕ) (x : X) → map f (insert xs i x) ≡ insert (map f xs) i (f x)
map-insert f xs i x = map-append f (take i xs) (x ∷ drop i xs) ∙ (λ t. sym (take-map f i xs) t ++ f x ∷ sym (drop-map f i xs) t)

map-remove : {X Y : Type 0} (f : X → Y) (xs : List X) (i : ℕ) → map f (remove xs i) ≡ remove (map f xs) i
map-remove f xs i = map-append f (take i xs) (drop (suc i) xs) ∙ (λ t. sym (take-map f i xs) t ++ sym (drop-map f (suc i) xs) t)

abbrev pair_of : {V : Type 0} → Entry V → Path × V
pair_of e = (e.key, e.value)

-- the children after a change, as the clauses say it
pub with-seen : {V : Type 0} (case : Case) (es new : List (Entry V)) (kids : Children V) (key items : Path) (value : V) (i : ℕ) → seen case es ≡ kids → key ≡ items → new ≡ insert es i (record { key = key; value = value }) → children_in new ≡ insert kids.children i (items, value)
with-seen case es new kids key items value i v k e = ap children_in e ∙ map-insert pair_of es i (record { key = key; value = value }) ∙ (λ t. insert (v t).children i (k t, value))

pub replaced-seen : {V : Type 0} (case : Case) (es new : List (Entry V)) (kids : Children V) (key items : Path) (value : V) (i : ℕ) → seen case es ≡ kids → key ≡ items → new ≡ set es i (record { key = key; value = value }) → children_in new ≡ set kids.children i (items, value)
replaced-seen case es new kids key items value i v k e = ap children_in e ∙ map-set pair_of es i (record { key = key; value = value }) ∙ (λ t. set (v t).children i (k t, value))

pub without-seen : {V : Type 0} (case : Case) (es new : List (Entry V)) (kids : Children V) (i : ℕ) → seen case es ≡ kids → new ≡ remove es i → children_in new ≡ remove kids.children i
without-seen case es new kids i v e = ap children_in e ∙ map-remove pair_of es i ∙ ap (λ k. remove k.children i) v

-- the first name of an entry's key
abbrev begin_of : {V : Type 0} → Entry V → Name
begin_of e = first_name e.key

names-begin : {V : Type 0} (es : List (Entry V)) → entry_names es ≡ map begin_of es
names-begin [] = refl
names-begin (e ∷ es) = ap (λ names. first_name e.key ∷ names) (names-begin es)

-- the keys stay in order with a new one in its gap
pub with-order : {V : Type 0} (case : Case) (es new : List (Entry V)) (kids : Children V) (key items : Path) (value : V) (i : ℕ) → seen case es ≡ kids → key ≡ items → AreInOrder case (entry_names es) → IsGap kids.case (first_names (keys_of kids)) (first_name items) i → new ≡ insert es i (record { key = key; value = value }) → AreInOrder kids.case (entry_names new)
with-order {V} case es new kids key items value i v k h gap e =
    subst (λ (c : Children V). AreInOrder c.case (entry_names new)) v
    (subst (AreInOrder case) (sym (ap entry_names e ∙ names-begin (insert es i (record { key = key; value = value })) ∙ map-insert begin_of es i (record { key = key; value = value }) ∙ ap (λ names. insert names i (first_name key)) (sym (names-begin es))))
    (gap-in_order case (entry_names es) (first_name key) i h
    (subst (λ (p : Path). IsGap case (entry_names es) (first_name p) i) (sym k)
    (from_seen (λ c keys. IsGap c (first_names keys) (first_name items) i) case es kids v gap))))

-- a key of which something is said is there
key-within : (keys : List Path) (i : ℕ) (P : Path → Type 0) → IsKey keys i P → i < length keys
key-within [] i P h = absurd h
key-within (k ∷ keys) zero P h = omega arith
key-within (k ∷ keys) (suc i) P h = let l = key-within keys i P h in omega arith

pub replaced-within : {V : Type 0} (case : Case) (es : List (Entry V)) (kids : Children V) (i : ℕ) (P : Path → Type 0) → seen case es ≡ kids → IsKey (keys_of kids) i P → i < length es
replaced-within case es kids i P v h = let l = key-within (keys_in es) i P (from_seen (λ _ keys. IsKey keys i P) case es kids v h) in omega (arith, l, length-entry_names es, length-map (keys_in es) first_name)

-- a name that key i has as its first is a name
pub replaced-some : (case : Case) (keys : List Path) (i : ℕ) (items : Path) → IsKey keys i (λ old. BeginAlike case old items) → 0 < length items
replaced-some case [] i items h = absurd h
replaced-some case (k ∷ keys) zero items h = alike-some case k items h
replaced-some case (k ∷ keys) (suc i) items h = replaced-some case keys i items h

key-same : (case : Case) (keys : List Path) (i : ℕ) (items : Path) → IsKey keys i (λ old. BeginAlike case old items) → name_order case (get_or (first_names keys) i []) (first_name items) ≡ Equal
key-same case [] i items h = absurd h
key-same case (k ∷ keys) zero items h = alike-order case k items h
key-same case (k ∷ keys) (suc i) items h = key-same case keys i items h

-- the keys stay in order with one that begins alike in the place of another
pub replaced-order : {V : Type 0} (case : Case) (es new : List (Entry V)) (kids : Children V) (key items : Path) (value : V) (i : ℕ) → seen case es ≡ kids → key ≡ items → AreInOrder case (entry_names es) → IsKey (keys_of kids) i (λ old. BeginAlike kids.case old items) → new ≡ set es i (record { key = key; value = value }) → AreInOrder kids.case (entry_names new)
replaced-order {V} case es new kids key items value i v k h alike e =
    subst (λ (c : Children V). AreInOrder c.case (entry_names new)) v
    (subst (AreInOrder case) (sym (ap entry_names e ∙ names-begin (set es i (record { key = key; value = value })) ∙ map-set begin_of es i (record { key = key; value = value }) ∙ ap (λ names. set names i (first_name key)) (sym (names-begin es))))
    (here-in_order case (entry_names es) (first_name key) i h
    (here-found case (entry_names es) (first_name key) i h (omega (arith, replaced-within case es kids i _ v alike, length-entry_names es))
    (ap (λ p. name_order case (get_or (entry_names es) i []) (first_name p)) k
    ∙ key-same case (keys_in es) i items (from_seen (λ c keys. IsKey keys i (λ old. BeginAlike c old items)) case es kids v alike)))))

-- the keys stay in order without one of them
pub without-order : {V : Type 0} (case : Case) (es new : List (Entry V)) (kids : Children V) (i : ℕ) → seen case es ≡ kids → AreInOrder case (entry_names es) → new ≡ remove es i → AreInOrder kids.case (entry_names new)
without-order {V} case es new kids i v h e =
    subst (λ (c : Children V). AreInOrder c.case (entry_names new)) v
    (subst (AreInOrder case) (sym (ap entry_names e ∙ names-begin (remove es i) ∙ map-remove begin_of es i ∙ ap (λ names. remove names i) (sym (names-begin es))))
    (without-in_order case (entry_names es) i h))
