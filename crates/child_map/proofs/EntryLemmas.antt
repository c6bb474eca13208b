-- A name that is sought among the keys of entries.
use Rattle.std.proofs.Common.{◌≡◌, ℕ, zero, suc, ◌+◌, ◌<◌, ◌≤◌, false, List, [], ◌∷◌, length, take, drop, get_or, refl, sym, ap, ◌∙◌, subst, arith, add-one, Option, Some, slice_get, set, ◌++◌, append_assoc, Result, Ok, Err, IfOk, IfSome, MatchResult}
use Rattle.std.proofs.lemmas.List.{take_all}
use Rattle.std.proofs.lemmas.List.Sorted.{searchable_from_sorted}
use Rattle.std.specs.Option.{IsSomeAnd}
use Rattle.std.specs.Ordering.{is_lt}
use Rattle.std.specs.List.{AllByRecursion as Each}
use Rattle.std.specs.List.Sorted.{IsSearchInRange, IsBinarySearchResult}
use Rattle.std.specs.declared.cmp.Ordering.{Ordering}
use Rattle.std.specs.declared.cmp.Ordering.TheVariants.{Less, Equal, Greater}
use Rattle.case_order.proofs.OrderLemmas.{name_order-total}
use Rattle.vfs_model.specs.declared.Case.{Case}
use Rattle.vfs_model.specs.Paths.{Name, Path, name_order}
use Rattle.vfs_model.specs.World.{AreInOrder}
use Rattle.tree_model.specs.Standing.{IsHere, IsGap}
use Rattle.tree_model.proofs.StandingLemmas.{order-flip_less, here-found, gap-found, set-parts}
use Rattle.child_map.specs.declared.list.Entry.{Entry}
use Rattle.child_map.specs.declared.list.ChildList.{ChildList}
use Rattle.child_map.specs.declared.place.Place.{Place}
use Rattle.child_map.specs.KeyNames.{first_name}
use Rattle.child_map.specs.Keys.{entries_of, keys_in, entry_names, spliced}
use Rattle.child_map.specs.Places.{IsKey, BeginAlike, index_of, IsAlikeAt}
use Rattle.child_map.proofs.PlaceLemmas.{order-alike}

-- as many first names as entries
pub length-entry_names : {V : Type 0} (es : List (Entry V)) → length (entry_names es) ≡ length es
length-entry_names [] = refl
length-entry_names (e ∷ es) = ap suc (length-entry_names es)

-- the first name at an index
first-at : {V : Type 0} (es : List (Entry V)) (i : ℕ) (d : Entry V) → i < length es → get_or (entry_names es) i [] ≡ first_name (get_or es i d).key
first-at [] i d l = absurd (omega arith)
first-at (e ∷ es) zero d l = refl
first-at (e ∷ es) (suc i) d l = first-at es i d (omega arith)

-- the order of the first name at an index and n is that of the entry there
order-at : {V : Type 0} (case : Case) (es : List (Entry V)) (n : Name) (i : ℕ) (d : Entry V) (o : Ordering) → i < length es → d ≡ get_or es i d → name_order case (first_name d.key) n ≡ o → name_order case (get_or (entry_names es) i []) n ≡ o
order-at {V} case es n i d o l at e = ap (λ k. name_order case k n) (first-at es i d l) ∙ ap (λ (f : Entry V). name_order case (first_name f.key) n) (sym at) ∙ e

within : {V : Type 0} (es : List (Entry V)) (i : ℕ) → i < length es → i < length (entry_names es)
within es i l = omega (arith, length-entry_names es)

-- ---- one key after the other

pub turn-here : {V : Type 0} (case : Case) (es : List (Entry V)) (n : Name) (i : ℕ) (d : Entry V) → AreInOrder case (entry_names es) → i < length es → d ≡ get_or es i d → name_order case (first_name d.key) n ≡ Equal → IsHere case (entry_names es) n i
turn-here case es n i d h l at e = here-found case (entry_names es) n i h (within es i l) (order-at case es n i d Equal l at e)

pub turn-gap : {V : Type 0} (case : Case) (es : List (Entry V)) (n : Name) (i : ℕ) (d : Entry V) → AreInOrder case (entry_names es) → i < length es → Each (λ m. name_order case m n ≡ Less) (take i (entry_names es)) → d ≡ get_or es i d → name_order case (first_name d.key) n ≡ Greater → IsGap case (entry_names es) n i
turn-gap case es n i d h l before at e = gap-found case (entry_names es) n i h (within es i l) before (order-at case es n i d Greater l at e)

each-more : (P : Name → Type 0) (names : List Name) (i : ℕ) → i < length names → Each P (take i names) → P (get_or names i []) → Each P (take (suc i) names)
each-more P [] i l h p = absurd (omega arith)
each-more P (m ∷ names) zero l h p = (p, tt)
each-more P (m ∷ names) (suc i) l h p = (h.0, each-more P names i (omega arith) h.1 p)

pub turn-on : {V : Type 0} (case : Case) (es : List (Entry V)) (n : Name) (i : ℕ) (d : Entry V) → i < length es → Each (λ m. name_order case m n ≡ Less) (take i (entry_names es)) → d ≡ get_or es i d → name_order case (first_name d.key) n ≡ Less → Each (λ m. name_order case m n ≡ Less) (take (i + 1) (entry_names es))
turn-on case es n i d l before at e = rw (add-one i) (each-more _ (entry_names es) i (within es i l) before (order-at case es n i d Less l at e))

none-left : (P : Name → Type 0) (names : List Name) (i : ℕ) → length names ≤ i → Each P (drop i names)
none-left P [] zero l = tt
none-left P [] (suc i) l = tt
none-left P (m ∷ names) zero l = absurd (omega arith)
none-left P (m ∷ names) (suc i) l = none-left P names i (omega arith)

pub turn-end : {V : Type 0} (case : Case) (es : List (Entry V)) (n : Name) (i : ℕ) → length es ≤ i → Each (λ m. name_order case m n ≡ Less) (take i (entry_names es)) → IsGap case (entry_names es) n (length es)
turn-end case es n i l before = record {
  within = omega (arith, length-entry_names es);
  before = subst (Each (λ m. name_order case m n ≡ Less)) (take_all i (entry_names es) (omega (arith, length-entry_names es)) ∙ sym (take_all (length es) (entry_names es) (omega (arith, length-entry_names es)))) before;
  after = none-left _ (entry_names es) (length es) (omega (arith, length-entry_names es));
}

-- ---- by halving

each-at : {V : Type 0} (P : Name → Type 0) (es : List (Entry V)) (i : ℕ) (d : Entry V) → Each P (entry_names es) → i < length es → P (first_name (get_or es i d).key)
each-at P [] i d h l = absurd (omega arith)
each-at P (e ∷ es) zero d h l = h.0
each-at P (e ∷ es) (suc i) d h l = each-at P es i d h.1 (omega arith)

-- what holds at each index below one holds of the first names before it
each-within : {V : Type 0} (P : Name → Type 0) (es : List (Entry V)) (i : ℕ) → ((k : ℕ) (d : Entry V) → k < i → P (first_name (get_or es k d).key)) → i ≤ length es → Each P (take i (entry_names es))
each-within P [] zero h l = tt
each-within P [] (suc i) h l = tt
each-within P (e ∷ es) zero h l = tt
each-within P (e ∷ es) (suc i) h l = (h zero e (omega arith), each-within P es i (λ k d m. h (suc k) d (omega arith)) (omega arith))

-- what holds at each index from one on holds of the first names from there on
each-from : {V : Type 0} (P : Name → Type 0) (es : List (Entry V)) (i : ℕ) → ((k : ℕ) (d : Entry V) → i ≤ k → k < length es → P (first_name (get_or es k d).key)) → Each P (drop i (entry_names es))
each-from P [] zero h = tt
each-from P [] (suc i) h = tt
each-from P (e ∷ es) zero h = (h zero e (omega arith) (omega arith), each-from P es zero (λ k d l m. h (suc k) d (omega arith) (omega arith)))
each-from P (e ∷ es) (suc i) h = each-from P es i (λ k d l m. h (suc k) d (omega arith) (omega arith))

-- no first name is less than the one before it
rising : {V : Type 0} (case : Case) (es : List (Entry V)) → AreInOrder case (entry_names es) → (k : ℕ) (d : Entry V) → 0 ≤ k → k + 1 < length es → is_lt (name_order case (first_name (get_or es (k + 1) d).key) (first_name (get_or es k d).key)) ≡ false
rising case [] h k d l m = absurd (omega arith)
rising case (e ∷ es) h zero d l m = ap is_lt (order-flip_less case (first_name e.key) (first_name (get_or es zero d).key) (each-at (λ n. name_order case (first_name e.key) n ≡ Less) es zero d h.0 (omega arith)))
rising case (e ∷ es) h (suc k) d l m = subst (λ (j : ℕ). is_lt (name_order case (first_name (get_or (e ∷ es) j d).key) (first_name (get_or es k d).key)) ≡ false) (let q : suc (k + 1) ≡ suc k + 1 = omega arith in q) (rising case es h.1 k d (omega arith) (omega arith))

found : {V : Type 0} (case : Case) (es : List (Entry V)) (n : Name) (i : ℕ) → AreInOrder case (entry_names es) → i < length es → ((d : Entry V) → name_order case (first_name (get_or es i d).key) n ≡ Equal) → IsHere case (entry_names es) n i
found case [] n i h l e = absurd (omega arith)
found case (f ∷ es) n i h l e = here-found case (entry_names (f ∷ es)) n i h (within (f ∷ es) i l) (ap (λ k. name_order case k n) (first-at (f ∷ es) i f l) ∙ e f)

-- what a binary search answers
pub sought : {V : Type 0} (case : Case) (es : List (Entry V)) (n : Name) (r : Result ℕ ℕ) → AreInOrder case (entry_names es) → IsSearchInRange r (length es) → IsBinarySearchResult (λ (e : Entry V). name_order case (first_name e.key) n) es r → MatchResult r (IsHere case (entry_names es) n) (IsGap case (entry_names es) n)
sought case es n (Ok i) h range at = found case es n i h range at
sought {V} case es n (Err i) h range at =
    let parts = at (searchable_from_sorted (name_order-total case) (λ (e : Entry V). first_name e.key) es n (rising case es h)) in
    record {
      within = omega (arith, range, length-entry_names es);
      before = each-within (λ m. name_order case m n ≡ Less) es i (λ k d l. parts.0 k d (omega arith) l) range;
      after = each-from (λ m. name_order case m n ≡ Greater) es i (λ k d l m. parts.1 k d l m);
    }

-- ---- what stands at an index

-- the key at an index
pub key-at : {V : Type 0} (es items : List (Entry V)) (i : ℕ) (d : Entry V) (key : Path) → items ≡ es → i < length es → key ≡ (get_or items i d).key → slice_get (keys_in es) i ≡ Some key
key-at {V} es items i d key e l k = by es i l ∙ ap (λ (fs : List (Entry V)). Some (get_or fs i d).key) (sym e) ∙ ap Some (sym k)
  where
    by : (fs : List (Entry V)) (j : ℕ) → j < length fs → slice_get (keys_in fs) j ≡ Some (get_or fs j d).key
    by [] j m = absurd (omega arith)
    by (f ∷ fs) zero m = refl
    by (f ∷ fs) (suc j) m = by fs j (omega arith)

-- the key where a search found the first name of the path begins like the path
pub alike-here : {V : Type 0} (case : Case) (es items : List (Entry V)) (path key : Path) (n : Name) (i : ℕ) (d : Entry V) → items ≡ es → 0 < length path → n ≡ get_or path 0 n → IsHere case (entry_names es) n i → key ≡ (get_or items i d).key → 0 < length (get_or items i d).key → BeginAlike case key path
alike-here {V} case es items path key n i d e some first here k named =
    order-alike case key path (subst (λ (p : Path). 0 < length p) (sym k) named) some (
    ap (λ p. name_order case (first_name p) (first_name path)) (k ∙ ap (λ (fs : List (Entry V)). (get_or fs i d).key) e)
    ∙ ap (λ m. name_order case m (first_name path)) (sym (first-at es i d (omega (arith, here.within, length-entry_names es))))
    ∙ ap (name_order case (get_or (entry_names es) i [])) (sym (by path some first))
    ∙ here.same)
  where
    by : (p : Path) → 0 < length p → n ≡ get_or p 0 n → n ≡ first_name p
    by [] s f = absurd (omega arith)
    by (m ∷ p) s f = f

-- where the place names that key, it names one that begins like the path
pub alike-at : {V : Type 0} (case : Case) (es : List (Entry V)) (path key : Path) (i : ℕ) (p : Place) → index_of p ≡ Some i → slice_get (keys_in es) i ≡ Some key → BeginAlike case key path → IsAlikeAt case (keys_in es) path p
alike-at {V} case es path key i p names at alike =
    subst (λ (o : Option ℕ). IfSome o (λ j. IsKey (keys_in es) j (λ k. BeginAlike case k path))) (sym names) (subst (λ (o : Option Path). IsSomeAnd o (λ k. BeginAlike case k path)) (sym at) alike)

-- ---- a change

-- a splice of one for one puts it in the other's place
pub replaced-is : {V E : Type 0} (r : Result (ChildList V) E) (es : List (Entry V)) (i : ℕ) (child : Entry V) → i < length es → IfOk r (λ list. entries_of list ≡ spliced es i (i + 1) (child ∷ [])) → IfOk r (λ list. entries_of list ≡ set es i child)
replaced-is (Ok list) es i child l h =
    let parts : set es i child ≡ spliced es i (i + 1) (child ∷ []) = set-parts es i child l ∙ ap (λ k. take i es ++ child ∷ drop k es) (sym (add-one i)) ∙ sym (append_assoc (take i es) (child ∷ []) (drop (i + 1) es)) in
    h ∙ sym parts
replaced-is (Err e) es i child l h = tt
