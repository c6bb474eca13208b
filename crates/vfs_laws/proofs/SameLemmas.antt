-- Two lists of entries that are one world answer the same, and stay one world after an edit.
use Rattle.std.proofs.Common.{◌≡◌, ◌≢◌, ◌⊎◌, ℕ, ◌+◌, ◌-◌, Bool, true, false, ◌&&◌, ◌||◌, not, List, [], ◌∷◌, ◌++◌, map, length, drop, find, refl, sym, ap, ◌∙◌, subst, Option, Some, None, option_map, append_assoc, append-nil, inl, inr, nat_le, nat_lt, cond, if◌then◌else◌}
use Rattle.std.proofs.lemmas.Bool.{both_ways, true≢false, and_parts, and_from, or_from, or_parts, or_left, or_right, false_from_ne_true}
use Rattle.std.specs.List.{list_any}
use Rattle.vfs_model.specs.declared.Case.{Case}
use Rattle.vfs_model.specs.Paths.{Name, Path, place, is_at_or_above, is_same_place, last_name}
use Rattle.vfs_model.specs.World.{World, Entry, Directory, Regular, at, names, node_of, status_of, spelling_of, IsClosed, IsSameBelow}
use Rattle.vfs_model.specs.Edit.{Edit, Write, Mkdir, Remove, Move, Root, NoParent, NotDir, Exists, Absent, IntoItself, TooDeep, Crowded, Refusal, refusal, refusals, first_refusal, apply, entry_after_write, entry_after_move, parent, is_root, is_missing, is_file, is_dir, status_there, is_full, is_too_deep, is_strictly_below, events}
use Rattle.vfs_model.specs.Scanning.{look, look_of}
use Rattle.vfs_laws.proofs.Splits.{split, split_or}
use Rattle.vfs_laws.proofs.PathLemmas.{same_place-true, same_place-refl, at_or_above-append, rest_of}
use Rattle.vfs_laws.proofs.NameLemmas.{some-is}
use Rattle.vfs_laws.proofs.EditLemmas.{apply-elsewhere}
use Rattle.vfs_laws.proofs.WorldLemmas.{each-fails, missing-none, find-append_off, find-map_each, removed-at, entry_after_move-at, entry_after_move-gone, length-place, accepted-free}
use Rattle.vfs_laws.proofs.PrintLemmas.{same-names, found-place, entry_after_move-node, entry_after_move-name}

-- ---- at each place

abbrev IsSame : Case → World → World → Type 0
IsSame case v w = IsSameBelow case v [] w []

same-from : (case : Case) (v w : World) (p : Path) → IsSame case v w → IsSameBelow case v p w p
same-from case v w p h = record {
  nodes = λ x. h.nodes (p ++ x);
  names = λ x n.
      ap (λ y. spelling_of (at case v y)) (sym (append_assoc p x (n ∷ [])))
      ∙ h.names (p ++ x) n
      ∙ ap (λ y. spelling_of (at case w y)) (append_assoc p x (n ∷ []));
}

look-node : (a b : Option Entry) (ns : List Name) → node_of a ≡ node_of b → look_of a ns ≡ look_of b ns
look-node None None ns h = refl
look-node None (Some b) ns h = cc
look-node (Some a) None ns h = cc
look-node (Some a) (Some b) ns h = ap (λ n. look_of (Some (record { path = b.path; node = n })) ns) (some-is a.node b.node h)

-- in two lists that are one world a look sees the same
pub same-look : (case : Case) (v w : World) (x : Path) → IsSame case v w → look case v x ≡ look case w x
same-look case v w x h =
    look-node (at case v x) (at case w x) (names case v x) (h.nodes x)
    ∙ ap (look_of (at case w x)) (same-names case v x w x (same-from case v w x h))

-- what is one node has one status
pub status-node : (a b : Option Entry) → node_of a ≡ node_of b → status_of a ≡ status_of b
status-node None None h = refl
status-node None (Some b) h = cc
status-node (Some a) None h = cc
status-node (Some a) (Some b) h = ap (λ n. status_of (Some (record { path = b.path; node = n }))) (some-is a.node b.node h)

same-there : (case : Case) (v w : World) (p : Path) → IsSame case v w → status_there case v p ≡ status_there case w p
same-there case v w p h = status-node (at case v (place case p)) (at case w (place case p)) (h.nodes (place case p))

same-full : (case : Case) (v w : World) (p : Path) → IsSame case v w → is_full case v p ≡ is_full case w p
same-full case v w p h = ap (λ ns. nat_le 4096 (length ns)) (same-names case v (place case p) w (place case p) (same-from case v w (place case p) h))

-- ---- too deep

-- something that would stand too deep after the move
pub record IsDeepAt (case : Case) (world : World) (from to : Path) : Type 0 where
  pub spot : Path
  pub here : at case world spot ≢ None
  pub above : is_at_or_above (place case from) spot ≡ true
  pub deep : nat_lt 64 (length to + (length spot - length from)) ≡ true

-- a world is too deep where something stands too deep
pub deep-at : (case : Case) (world : World) (from to : Path) → is_too_deep case world from to ≡ true → IsDeepAt case world from to
deep-at case [] from to h = absurd (true≢false (sym h))
deep-at case (e ∷ world) from to h =
    split (is_at_or_above (place case from) (place case e.path) && nat_lt 64 (length to + (length e.path - length from)))
    (λ t.
    let parts = and_parts _ _ t in
    record {
      spot = place case e.path;
      here = λ n. absurd (clash (sym (ap (λ b. cond b (Some e) (at case world (place case e.path))) (same_place-refl (place case e.path))) ∙ n));
      above = parts.0;
      deep = ap (λ n. nat_lt 64 (length to + (n - length from))) (length-place case e.path) ∙ parts.1;
    })
    (λ f.
    let m = deep-at case world from to (rw f at h) in
    record { spot = m.spot; here = λ n. split (is_same_place (place case e.path) m.spot) (λ s. absurd (clash (rw s at n))) (λ s. m.here (rw s at n)); above = m.above; deep = m.deep })
  where
    clash : Some e ≡ None → ⊥
    clash h = cc

pub at-deep : (case : Case) (world : World) (from to : Path) → IsDeepAt case world from to → is_too_deep case world from to ≡ true
at-deep case [] from to d = absurd (d.here refl)
at-deep case (e ∷ world) from to d =
    split (is_same_place (place case e.path) d.spot)
    (λ s.
    let same = same_place-true (place case e.path) d.spot s in
    or_left _ _ (and_from _ _ (ap (is_at_or_above (place case from)) same ∙ d.above) (ap (λ n. nat_lt 64 (length to + (n - length from))) (sym (length-place case e.path) ∙ ap length same) ∙ d.deep)))
    (λ s. or_right _ _ (at-deep case world from to (record { spot = d.spot; here = λ n. d.here (rw s n); above = d.above; deep = d.deep })))

-- where one is absent and the nodes are the same, the other is absent
pub none-node : (a b : Option Entry) → node_of a ≡ node_of b → a ≡ None → b ≡ None
none-node None None h e = refl
none-node None (Some b) h e = cc
none-node (Some a) b h e = cc

deep-both : (case : Case) (v w : World) (from to : Path) → IsSame case v w → is_too_deep case v from to ≡ true → is_too_deep case w from to ≡ true
deep-both case v w from to h t =
    let m = deep-at case v from to t in
    at-deep case w from to (record { spot = m.spot; here = λ n. m.here (none-node (at case w m.spot) (at case v m.spot) (sym (h.nodes m.spot)) n); above = m.above; deep = m.deep })

-- one world either way
pub same-sym : (case : Case) (v w : World) → IsSame case v w → IsSame case w v
same-sym case v w h = record { nodes = λ x. sym (h.nodes x); names = λ x n. sym (h.names x n) }

-- a list is one world with itself
pub same-refl : (case : Case) (w : World) → IsSame case w w
same-refl case w = record { nodes = λ x. refl; names = λ x n. refl }

-- what is one world with a second list is one with a third, where these are one world
pub same-trans : (case : Case) (u v w : World) → IsSame case u v → IsSame case v w → IsSame case u w
same-trans case u v w h k = record { nodes = λ x. h.nodes x ∙ k.nodes x; names = λ x n. h.names x n ∙ k.names x n }

same-deep : (case : Case) (v w : World) (from to : Path) → IsSame case v w → is_too_deep case v from to ≡ is_too_deep case w from to
same-deep case v w from to h =
    split (is_too_deep case v from to)
    (λ t. t ∙ sym (deep-both case v w from to h t))
    (λ f. f ∙ sym (false_from_ne_true _ (λ u. both_ways _ f (deep-both case w v from to (same-sym case v w h) u))))

-- in two lists that are one world an edit is refused alike
pub same-refusal : (case : Case) (v w : World) (edit : Edit) → IsSame case v w → refusal case v edit ≡ refusal case w edit
same-refusal case v w (Write p bytes) h =
    λ i. first_refusal
    ((is_root p, Root)
    ∷ (is_missing (same-there case v w (parent p) h i), NoParent)
    ∷ (is_file (same-there case v w (parent p) h i), NotDir)
    ∷ (is_dir (same-there case v w p h i), Exists)
    ∷ (is_missing (same-there case v w p h i) && same-full case v w (parent p) h i, Crowded)
    ∷ [])
same-refusal case v w (Mkdir p) h =
    λ i. first_refusal
    ((is_root p, Root)
    ∷ (is_missing (same-there case v w (parent p) h i), NoParent)
    ∷ (is_file (same-there case v w (parent p) h i), NotDir)
    ∷ (not (is_missing (same-there case v w p h i)), Exists)
    ∷ (same-full case v w (parent p) h i, Crowded)
    ∷ [])
same-refusal case v w (Remove p) h = λ i. first_refusal ((is_root p, Root) ∷ (is_missing (same-there case v w p h i), Absent) ∷ [])
same-refusal case v w (Move p q) h =
    λ i. first_refusal
    (((is_root p || is_root q), Root)
    ∷ (is_missing (same-there case v w p h i), Absent)
    ∷ (is_strictly_below case q p, IntoItself)
    ∷ (is_missing (same-there case v w (parent q) h i), NoParent)
    ∷ (is_file (same-there case v w (parent q) h i), NotDir)
    ∷ (not (is_missing (same-there case v w q h i)) && not (is_same_place (place case q) (place case p)), Exists)
    ∷ (same-deep case v w p q h i, TooDeep)
    ∷ (same-full case v w (parent q) h i && not (is_same_place (place case (parent q)) (place case (parent p))), Crowded)
    ∷ [])

-- ---- after an edit

-- the same node and the same spelling at a place
pub record IsAlike (a b : Option Entry) : Type 0 where
  pub node : node_of a ≡ node_of b
  pub name : spelling_of a ≡ spelling_of b

-- what is equal is alike
pub alike : (a b : Option Entry) → a ≡ b → IsAlike a b
alike a b e = record { node = ap node_of e; name = ap spelling_of e }

-- a path is empty, or it has a last name
record HasLast (x : Path) : Type 0 where
  front : Path
  last : Name
  is : x ≡ front ++ last ∷ []

last_of : (x : Path) → (x ≡ []) ⊎ HasLast x
last_of [] = inl refl
last_of (n ∷ x) =
    split_or (last_of x)
    (λ e. inr (record { front = []; last = n; is = ap (λ y. n ∷ y) e }))
    (λ l. inr (record { front = n ∷ l.front; last = l.last; is = ap (λ y. n ∷ y) l.is }))

empty-place : (case : Case) (p : Path) → place case p ≡ [] → last_name p ≡ []
empty-place case [] e = refl
empty-place case (n ∷ p) e = cc

root-name : (case : Case) (world : World) (o : Option Entry) → at case world [] ≡ o → spelling_of o ≡ option_map (λ n. []) (node_of o)
root-name case world None is = refl
root-name case world (Some e) is = ap Some (empty-place case e.path (found-place case world [] e is))

-- in two lists that are one world what is at a place is alike, the root too
pub alike-at : (case : Case) (v w : World) (y : Path) → IsSame case v w → IsAlike (at case v y) (at case w y)
alike-at case v w y h = record {
  node = h.nodes y;
  name = split_or (last_of y)
      (λ e. subst (λ z. spelling_of (at case v z) ≡ spelling_of (at case w z)) (sym e)
      (root-name case v (at case v []) refl ∙ ap (option_map (λ n. [])) (h.nodes []) ∙ sym (root-name case w (at case w []) refl)))
      (λ l. subst (λ z. spelling_of (at case v z) ≡ spelling_of (at case w z)) (sym l.is) (h.names l.front l.last));
}

same-of : (case : Case) (v w : World) → ((y : Path) → IsAlike (at case v y) (at case w y)) → IsSame case v w
same-of case v w h = record { nodes = λ x. (h x).node; names = λ x n. (h (x ++ n ∷ [])).name }

find-append_on : {X : Type 0} (t : X → Bool) (xs : List X) (e : X) → find t xs ≡ None → t e ≡ true → find t (xs ++ e ∷ []) ≡ Some e
find-append_on t [] e none on = rw on refl
find-append_on t (x ∷ xs) e none on = split (t x) (λ s. absurd (by (rw s at none))) (λ s. rw s (find-append_on t xs e (rw s at none) on))
  where
    by : Some x ≡ None → ⊥
    by h = cc

appended : (case : Case) (v w : World) (e : Entry) → IsSame case v w → at case v (place case e.path) ≡ None → at case w (place case e.path) ≡ None → (y : Path) → IsAlike (at case (v ++ e ∷ []) y) (at case (w ++ e ∷ []) y)
appended case v w e h none_v none_w y =
    split (is_same_place (place case e.path) y)
    (λ s.
    let y_is = same_place-true (place case e.path) y s in
    alike _ _ (find-append_on _ v e (ap (at case v) (sym y_is) ∙ none_v) s ∙ sym (find-append_on _ w e (ap (at case w) (sym y_is) ∙ none_w) s)))
    (λ s. subst (λ (t : Option Entry × Option Entry). IsAlike t.0 t.1) (λ i. (sym (find-append_off (λ (f : Entry). is_same_place (place case f.path) y) v e s) i, sym (find-append_off (λ (f : Entry). is_same_place (place case f.path) y) w e s) i)) (alike-at case v w y h))

entry_after_write-at : (case : Case) (world : World) (p : Path) (bytes : List ℕ) (y : Path) → at case (map (entry_after_write case p bytes) world) y ≡ option_map (entry_after_write case p bytes) (at case world y)
entry_after_write-at case world p bytes y = find-map_each _ _ (entry_after_write case p bytes) world (by world)
  where
    one : (e : Entry) → is_same_place (place case (entry_after_write case p bytes e).path) y ≡ is_same_place (place case e.path) y
    one e = split (is_same_place (place case e.path) (place case p)) (λ s. rw s refl) (λ s. rw s refl)

    by : (w : World) → Rattle.std.specs.List.AllByRecursion (λ (e : Entry). is_same_place (place case (entry_after_write case p bytes e).path) y ≡ is_same_place (place case e.path) y) w
    by [] = tt
    by (e ∷ w) = (one e, by w)

entry_after_write-node : (case : Case) (world : World) (p : Path) (bytes : List ℕ) (y : Path) (o : Option Entry) → at case world y ≡ o → node_of (option_map (entry_after_write case p bytes) o) ≡ option_map (λ n. if is_same_place y (place case p) then Regular bytes else n) (node_of o)
entry_after_write-node case world p bytes y None is = refl
entry_after_write-node case world p bytes y (Some e) is =
    let e_is = found-place case world y e is in
    split (is_same_place (place case e.path) (place case p))
    (λ s. let t : is_same_place y (place case p) ≡ true = ap (λ z. is_same_place z (place case p)) (sym e_is) ∙ s in rw (s, t) refl)
    (λ s. let t : is_same_place y (place case p) ≡ false = ap (λ z. is_same_place z (place case p)) (sym e_is) ∙ s in rw (s, t) refl)

entry_after_write-name : (case : Case) (p : Path) (bytes : List ℕ) (o : Option Entry) → spelling_of (option_map (entry_after_write case p bytes) o) ≡ spelling_of o
entry_after_write-name case p bytes None = refl
entry_after_write-name case p bytes (Some e) = split (is_same_place (place case e.path) (place case p)) (λ s. rw s refl) (λ s. rw s refl)

entry_after_write-alike : (case : Case) (v w : World) (p : Path) (bytes : List ℕ) → IsSame case v w → (y : Path) → IsAlike (at case (map (entry_after_write case p bytes) v) y) (at case (map (entry_after_write case p bytes) w) y)
entry_after_write-alike case v w p bytes h y =
    let old = alike-at case v w y h in
    record {
      node =
          ap node_of (entry_after_write-at case v p bytes y)
          ∙ entry_after_write-node case v p bytes y (at case v y) refl
          ∙ ap (option_map (λ n. if is_same_place y (place case p) then Regular bytes else n)) old.node
          ∙ sym (entry_after_write-node case w p bytes y (at case w y) refl)
          ∙ sym (ap node_of (entry_after_write-at case w p bytes y));
      name =
          ap spelling_of (entry_after_write-at case v p bytes y)
          ∙ entry_after_write-name case p bytes (at case v y)
          ∙ old.name
          ∙ sym (entry_after_write-name case p bytes (at case w y))
          ∙ sym (ap spelling_of (entry_after_write-at case w p bytes y));
    }

elsewhere : (case : Case) (v w : World) (edit : Edit) (y : Path) → IsSame case v w → Rattle.vfs_model.specs.Edit.is_told case (events edit) y ≡ false → IsAlike (at case (apply case v edit) y) (at case (apply case w edit) y)
elsewhere case v w edit y h off =
    subst (λ (t : Option Entry × Option Entry). IsAlike t.0 t.1) (λ i. (sym (apply-elsewhere case v edit y off) i, sym (apply-elsewhere case w edit y off) i)) (alike-at case v w y h)

written : (case : Case) (v w : World) (p : Path) (bytes : List ℕ) → IsSame case v w → (y : Path) → IsAlike (at case (apply case v (Write p bytes)) y) (at case (apply case w (Write p bytes)) y)
written case v w p bytes h y =
    let same = same-there case v w p h in
    split (is_missing (status_there case v p))
    (λ m.
    let m' : is_missing (status_there case w p) ≡ true = ap is_missing (sym same) ∙ m in
    rw (m, m') (appended case v w (record { path = p; node = Regular bytes }) h (missing-none _ m) (missing-none _ m') y))
    (λ m.
    let m' : is_missing (status_there case w p) ≡ false = ap is_missing (sym same) ∙ m in
    rw (m, m') (entry_after_write-alike case v w p bytes h y))

-- nothing is left behind the names of a path
pub dropped : (k : ℕ) (x : Path) → length x ≡ k → drop k x ≡ []
dropped k x e = ap (λ m. drop m x) (sym e) ∙ all x
  where
    all : (x : Path) → drop (length x) x ≡ []
    all [] = refl
    all (n ∷ x) = all x

-- the end of a move takes the name that it is moved to
end-name : (case : Case) (v w : World) (p q : Path) (a b : Option Entry) → at case v (place case p) ≡ a → at case w (place case p) ≡ b → node_of a ≡ node_of b → spelling_of (option_map (entry_after_move case p q) a) ≡ spelling_of (option_map (entry_after_move case p q) b)
end-name case v w p q None None is_a is_b n = refl
end-name case v w p q None (Some b) is_a is_b n = cc
end-name case v w p q (Some a) None is_a is_b n = cc
end-name case v w p q (Some a) (Some b) is_a is_b n = ap Some (end v a is_a ∙ sym (end w b is_b))
  where
    end : (u : World) (e : Entry) → at case u (place case p) ≡ Some e → last_name (entry_after_move case p q e).path ≡ last_name q
    end u e is =
        let e_is = found-place case u (place case p) e is in
        let on : is_at_or_above (place case p) (place case e.path) ≡ true = ap (is_at_or_above (place case p)) (e_is ∙ sym (append-nil (place case p))) ∙ at_or_above-append (place case p) [] in
        let same : length e.path ≡ length p = sym (length-place case e.path) ∙ ap length e_is ∙ length-place case p in
        rw on (ap (λ r. last_name (q ++ r)) (dropped (length p) e.path same) ∙ ap last_name (append-nil q))

entry_after_move-alike : (case : Case) (v w : World) (p q : Path) → IsClosed case v → IsClosed case w → refusal case v (Move p q) ≡ None → IsSame case v w → (y : Path) → IsAlike (at case (apply case v (Move p q)) y) (at case (apply case w (Move p q)) y)
entry_after_move-alike case v w p q closed_v closed_w e h y =
    let free_v = accepted-free case v p q e in
    let free_w = accepted-free case w p q (sym (same-refusal case v w (Move p q) h) ∙ e) in
    split (is_at_or_above (place case q) y)
    (λ on.
    let (z, y_is) = rest_of (place case q) y on in
    subst (λ x. IsAlike (at case (apply case v (Move p q)) x) (at case (apply case w (Move p q)) x)) (sym y_is)
    (subst (λ (t : Option Entry × Option Entry). IsAlike t.0 t.1) (λ i. (sym (entry_after_move-at case v p q z closed_v free_v) i, sym (entry_after_move-at case w p q z closed_w free_w) i))
    (record {
      node = entry_after_move-node case p q (at case v (place case p ++ z)) ∙ h.nodes (place case p ++ z) ∙ sym (entry_after_move-node case p q (at case w (place case p ++ z)));
      name = split_or (last_of z)
          (λ nil.
          let p_is : place case p ++ z ≡ place case p = ap (λ r. place case p ++ r) nil ∙ append-nil (place case p) in
          subst (λ x. spelling_of (option_map (entry_after_move case p q) (at case v x)) ≡ spelling_of (option_map (entry_after_move case p q) (at case w x))) (sym p_is)
          (end-name case v w p q _ _ refl refl (h.nodes (place case p))))
          (λ l.
          subst (λ r. spelling_of (option_map (entry_after_move case p q) (at case v (place case p ++ r))) ≡ spelling_of (option_map (entry_after_move case p q) (at case w (place case p ++ r)))) (sym l.is)
          (entry_after_move-name case v p q l.front l.last _ refl
          ∙ (alike-at case v w (place case p ++ (l.front ++ l.last ∷ [])) h).name
          ∙ sym (entry_after_move-name case w p q l.front l.last _ refl)));
    })))
    (λ off.
    split (is_at_or_above (place case p) y)
    (λ on. alike _ _ (entry_after_move-gone case v p q y on off ∙ sym (entry_after_move-gone case w p q y on off)))
    (λ out. elsewhere case v w (Move p q) y h (or_from _ _ out (or_from _ _ off refl))))

-- two lists that are one world are one after an edit that is not refused
pub same-apply : (case : Case) (v w : World) (edit : Edit) → IsClosed case v → IsClosed case w → refusal case v edit ≡ None → IsSame case v w → IsSame case (apply case v edit) (apply case w edit)
same-apply case v w (Write p bytes) closed_v closed_w e h = same-of case _ _ (written case v w p bytes h)
same-apply case v w (Mkdir p) closed_v closed_w e h =
    let t = each-fails (refusals case v (Mkdir p)) e in
    let m : is_missing (status_there case v p) ≡ true = Rattle.std.proofs.lemmas.Bool.not-false _ t.1.1.1.0 in
    let m' : is_missing (status_there case w p) ≡ true = ap is_missing (sym (same-there case v w p h)) ∙ m in
    same-of case _ _ (appended case v w (record { path = p; node = Directory }) h (missing-none _ m) (missing-none _ m'))
same-apply case v w (Remove p) closed_v closed_w e h =
    same-of case _ _ (λ y.
    split (is_at_or_above (place case p) y)
    (λ on. alike _ _ (removed-at case v p y on ∙ sym (removed-at case w p y on)))
    (λ off. elsewhere case v w (Remove p) y h (or_from _ _ off refl)))
same-apply case v w (Move p q) closed_v closed_w e h = same-of case _ _ (entry_after_move-alike case v w p q closed_v closed_w e h)
