-- A name that is sought in a list of places, and what is put there.
use Rattle.std.proofs.Common.{◌≡◌, ℕ, zero, suc, ◌-◌, ◌<◌, max, List, [], ◌∷◌, length, set, get_or, refl, sym, ap, ◌∙◌, subst, arith}
use Rattle.std.specs.List.{insert}
use Rattle.vfs_model.specs.declared.Case.{Case}
use Rattle.vfs_model.specs.Paths.{Name, Path, folded_name, place}
use Rattle.vfs_model.specs.World.{AreInOrder}
use Rattle.vfs_laws.proofs.NameLemmas.{order-equal, order-same, order-flip}
use Rattle.tree_model.specs.Standing.{IsHere, IsGap}
use Rattle.tree_model.specs.Numbers.{At, Places, Next, unnumbered, numbers_at, at_in, put, names_in, IsSorted, AreSorted}
use Rattle.tree_model.proofs.NumbersLemmas.{at-unnumbered, numbers_at-sorted}
use Rattle.tree_model.proofs.StandingLemmas.{order-flip_less, apart-less, apart-greater, same-equal}
use Rattle.child_map.specs.declared.list.Entry.{Entry}
use Rattle.child_map.specs.KeyNames.{first_name}
use Rattle.child_map.specs.Keys.{entry_names}
use Rattle.version_hierarchy.specs.declared.numbers.Numbers.{Numbers as NumbersOfCode}
use Rattle.version_hierarchy.specs.Numbers.{numbers_of, places_in}

-- the names of the places are those of the entries
pub names_in-places_in : (es : List (Entry NumbersOfCode)) → names_in (places_in es) ≡ entry_names es
names_in-places_in [] = refl
names_in-places_in (e ∷ es) = ap (λ names. first_name e.key ∷ names) (names_in-places_in es)

-- the numbers where a name stands
pub at-here : (case : Case) (es : List (Entry NumbersOfCode)) (n : Name) (i : ℕ) (d : Entry NumbersOfCode) → IsHere case (entry_names es) n i → numbers_at case (places_in es) (folded_name case n) ≡ numbers_of (get_or es i d).value
at-here case [] n i d h = absurd (omega (arith, h.within))
at-here case (e ∷ es) n zero d h = rw (same-equal case (first_name e.key) n h.same) refl
at-here case (e ∷ es) n (suc i) d h = rw (apart-less case (first_name e.key) n h.before.0) (at-here case es n i d (record { within = omega (arith, h.within); before = h.before.1; same = h.same }))

-- no numbers are where a name would stand
pub at-gap : (case : Case) (es : List (Entry NumbersOfCode)) (n : Name) (i : ℕ) → IsGap case (entry_names es) n i → numbers_at case (places_in es) (folded_name case n) ≡ unnumbered
at-gap case [] n i h = refl
at-gap case (e ∷ es) n zero h = rw (apart-greater case (first_name e.key) n h.after.0) (at-gap case es n zero (record { within = omega arith; before = tt; after = h.after.1 }))
at-gap case (e ∷ es) n (suc i) h = rw (apart-less case (first_name e.key) n h.before.0) (at-gap case es n i (record { within = omega (arith, h.within); before = h.before.1; after = h.after }))

-- numbers that are put where their name stands
pub put-here : (case : Case) (es : List (Entry NumbersOfCode)) (new : Entry NumbersOfCode) (i : ℕ) → IsHere case (entry_names es) (first_name new.key) i → put case (first_name new.key) (numbers_of new.value) (places_in es) ≡ places_in (set es i new)
put-here case [] new i h = absurd (omega (arith, h.within))
put-here case (e ∷ es) new zero h = rw (order-same case (first_name new.key) (first_name e.key) (sym (order-equal case (first_name e.key) (first_name new.key) h.same))) refl
put-here case (e ∷ es) new (suc i) h =
    rw (order-flip_less case (first_name e.key) (first_name new.key) h.before.0)
    (ap (Next (first_name e.key) (numbers_of e.value)) (put-here case es new i (record { within = omega (arith, h.within); before = h.before.1; same = h.same })))

-- numbers that are put where their name would stand
pub put-gap : (case : Case) (es : List (Entry NumbersOfCode)) (new : Entry NumbersOfCode) (i : ℕ) → IsGap case (entry_names es) (first_name new.key) i → put case (first_name new.key) (numbers_of new.value) (places_in es) ≡ places_in (insert es i new)
put-gap case [] new zero h = refl
put-gap case [] new (suc i) h = absurd (omega (arith, h.within))
put-gap case (e ∷ es) new zero h = rw (order-flip case (first_name e.key) (first_name new.key) h.after.0) refl
put-gap case (e ∷ es) new (suc i) h =
    rw (order-flip_less case (first_name e.key) (first_name new.key) h.before.0)
    (ap (Next (first_name e.key) (numbers_of e.value)) (put-gap case es new i (record { within = omega (arith, h.within); before = h.before.1; after = h.after })))

-- ---- for the code

-- the names of the entries are in order where those of the places are
pub order-of : (case : Case) (es : List (Entry NumbersOfCode)) (places : Places) → places_in es ≡ places → AreInOrder case (names_in places) → AreInOrder case (entry_names es)
order-of case es places v h = subst (AreInOrder case) (ap names_in (sym v) ∙ names_in-places_in es) h

pub at-value : (case : Case) (es items : List (Entry NumbersOfCode)) (places : Places) (n : Name) (i : ℕ) (d : Entry NumbersOfCode) → places_in es ≡ places → items ≡ es → IsHere case (entry_names es) n i → numbers_at case places (folded_name case n) ≡ numbers_of (get_or items i d).value
at-value case es items places n i d v e h =
    ap (λ z. numbers_at case z (folded_name case n)) (sym v) ∙ at-here case es n i d h
    ∙ ap (λ (fs : List (Entry NumbersOfCode)). numbers_of (get_or fs i d).value) (sym e)

pub at-nothing : (case : Case) (es : List (Entry NumbersOfCode)) (places : Places) (n : Name) (i : ℕ) → places_in es ≡ places → IsGap case (entry_names es) n i → numbers_at case places (folded_name case n) ≡ unnumbered
at-nothing case es places n i v h = ap (λ z. numbers_at case z (folded_name case n)) (sym v) ∙ at-gap case es n i h

-- in the numbers at a name the names are in order
pub value-sorted : (case : Case) (places : Places) (n : Name) (node : NumbersOfCode) → numbers_at case places (folded_name case n) ≡ numbers_of node → AreSorted case places → IsSorted case (numbers_of node)
value-sorted case places n node e h = subst (IsSorted case) e (numbers_at-sorted case places (folded_name case n) h)

named : (case : Case) (key n : Name) (own : Path) → own ≡ key ∷ [] → key ≡ n → first_name own ≡ n
named case key n own e k = ap first_name e ∙ k

pub with-here : (case : Case) (es new : List (Entry NumbersOfCode)) (places : Places) (child : Entry NumbersOfCode) (key n : Name) (i : ℕ) → places_in es ≡ places → child.key ≡ key ∷ [] → key ≡ n → IsHere case (entry_names es) n i → new ≡ set es i child → places_in new ≡ put case n (numbers_of child.value) places
with-here case es new places child key n i v own k h e =
    let name : first_name child.key ≡ n = named case key n child.key own k in
    ap places_in e ∙ sym (put-here case es child i (subst (λ (m : Name). IsHere case (entry_names es) m i) (sym name) h))
    ∙ (λ t. put case (name t) (numbers_of child.value) (v t))

pub with-gap : (case : Case) (es new : List (Entry NumbersOfCode)) (places : Places) (child : Entry NumbersOfCode) (key n : Name) (i : ℕ) → places_in es ≡ places → child.key ≡ key ∷ [] → key ≡ n → IsGap case (entry_names es) n i → new ≡ insert es i child → places_in new ≡ put case n (numbers_of child.value) places
with-gap case es new places child key n i v own k h e =
    let name : first_name child.key ≡ n = named case key n child.key own k in
    ap places_in e ∙ sym (put-gap case es child i (subst (λ (m : Name). IsGap case (entry_names es) m i) (sym name) h))
    ∙ (λ t. put case (name t) (numbers_of child.value) (v t))

-- where nothing is at or below the first name
pub none-at : (case : Case) (own below : ℕ) (places : Places) (path : Path) (n : Name) → 0 < length path → n ≡ get_or path 0 n → numbers_at case places (folded_name case n) ≡ unnumbered → own ≡ at_in case (At own below places) (place case path)
none-at case own below places [] n l q e = absurd (omega arith)
none-at case own below places (m ∷ x) n l q e =
    let there : numbers_at case places (folded_name case m) ≡ unnumbered = subst (λ (k : Name). numbers_at case places (folded_name case k) ≡ unnumbered) q e in
    sym (ap (λ z. max own (at_in case z (place case x))) there ∙ ap (max own) (at-unnumbered case (place case x)) ∙ omega arith)
