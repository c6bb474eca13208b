-- An invalidation keeps each part that is not missing and has nothing to do with the path.
use Rattle.std.proofs.Common.{◌≡◌, ◌≢◌, true, false, List, [], ◌∷◌, ◌++◌, length, drop, refl, sym, ap, ◌∙◌, subst, Some, None, append_assoc, Bool, ◌&&◌, ◌||◌}
use Rattle.std.proofs.lemmas.Bool.{both_ways, true≢false, or_parts, and_from, false_from_ne_true}
use Rattle.std.proofs.Math.Seq.{drop-append_seam}
use Rattle.vfs_model.specs.declared.Case.{Case}
use Rattle.vfs_model.specs.Paths.{Name, Path, folded_name, is_same_name, is_at_or_above, is_related}
use Rattle.vfs_model.specs.Snapshot.{Snapshot, Missing, Children, Nothing, Child, child, children_of, sub}
use Rattle.vfs_model.specs.Retained.{Pair, part_of, pieces_beside, pieces, pairs_left, all_pairs_left}
use Rattle.vfs_laws.proofs.Splits.{split}
use Rattle.vfs_laws.proofs.PathLemmas.{same_name-refl, same_name-true, at_or_above-append, at_or_above-trans}
use Rattle.vfs_laws.proofs.NameLemmas.{some-is}
use Rattle.vfs_laws.proofs.RetainedLemmas.{rest-is}

-- below what is missing nothing is there
pub sub-missing : (case : Case) (x : Path) → sub case Missing x ≡ Missing
sub-missing case [] = refl
sub-missing case (n ∷ x) = sub-missing case x

off-and : (a b : Bool) → a ≡ false → (a && b) ≡ false
off-and true b e = absurd (true≢false e)
off-and false b e = refl

above-both : (p a b : Path) → is_at_or_above (p ++ a) (p ++ b) ≡ is_at_or_above a b
above-both [] a b = refl
above-both (n ∷ p) a b = rw (same_name-refl n) (above-both p a b)

longer-off : (p q x : Path) → is_at_or_above p x ≡ false → is_at_or_above (p ++ q) x ≡ false
longer-off p q x off = false_from_ne_true _ (λ on. both_ways (is_at_or_above p x) off (at_or_above-trans p (p ++ q) x (at_or_above-append p q) on))

part-left : (case : Case) (rs qs : List Pair) (x : Path) (f : Snapshot) → part_of case rs x ≡ Some f → part_of case (rs ++ qs) x ≡ Some f
part-left case [] qs x f e = absurd (none f e)
  where
    none : (f : Snapshot) → None ≡ Some f → ⊥
    none f e = cc
part-left case (r ∷ rs) qs x f e =
    split (is_at_or_above r.path x)
    (λ s. rw s (rw s at e))
    (λ s. rw s (part-left case rs qs x f (rw s at e)))

part-right : (case : Case) (rs qs : List Pair) (x : Path) → part_of case rs x ≡ None → part_of case (rs ++ qs) x ≡ part_of case qs x
part-right case [] qs x e = refl
part-right case (r ∷ rs) qs x e =
    split (is_at_or_above r.path x)
    (λ s. absurd (some (sub case r.snapshot (drop (length r.path) x)) (rw s at e)))
    (λ s. rw s (part-right case rs qs x (rw s at e)))
  where
    some : (f : Snapshot) → Some f ≡ None → ⊥
    some f e = cc

pieces_beside-none : (case : Case) (p : Path) (cs : Children) (n : Name) (inner : List Pair) (x : Path) → is_at_or_above p x ≡ false → part_of case inner x ≡ None → part_of case (pieces_beside case p cs n inner) x ≡ None
pieces_beside-none case p Nothing n inner x off none = refl
pieces_beside-none case p (Child name s more) n inner x off none =
    split (is_same_name (folded_name case name) n)
    (λ t. rw t (part-right case inner _ x none ∙ pieces_beside-none case p more n inner x off none))
    (λ t. rw (t, longer-off p (folded_name case name ∷ []) x off) (pieces_beside-none case p more n inner x off none))

pieces-none : (case : Case) (p : Path) (s : Snapshot) (y x : Path) → is_at_or_above p x ≡ false → part_of case (pieces case p s y) x ≡ None
pieces-none case p s [] x off = refl
pieces-none case p s (n ∷ y) x off = pieces_beside-none case p (children_of s) n _ x off (pieces-none case (p ++ n ∷ []) (child case (children_of s) n) y x (longer-off p (n ∷ []) x off))

-- a child other than n is found beside it
pieces_beside-other : (case : Case) (p : Path) (cs : Children) (n : Name) (inner : List Pair) (m : Name) (z : Path) (f : Snapshot) → is_same_name n m ≡ false → (f ≢ Missing) → part_of case inner (p ++ m ∷ z) ≡ None → sub case (child case cs m) z ≡ f
    → part_of case (pieces_beside case p cs n inner) (p ++ m ∷ z) ≡ Some f
pieces_beside-other case p Nothing n inner m z f off there none is = absurd (there (sym is ∙ sub-missing case z))
pieces_beside-other case p (Child name s more) n inner m z f off there none is =
    split (is_same_name (folded_name case name) n)
    (λ t.
    let u : is_same_name (folded_name case name) m ≡ false = subst (λ (k : Name). is_same_name k m ≡ false) (sym (same_name-true (folded_name case name) n t)) off in
    rw t (part-right case inner _ (p ++ m ∷ z) none ∙ pieces_beside-other case p more n inner m z f off there none (rw u at is)))
    (λ t. split (is_same_name (folded_name case name) m)
    (λ u.
    let k = folded_name case name in
    let on : is_at_or_above (p ++ k ∷ []) (p ++ m ∷ z) ≡ true = above-both p (k ∷ []) (m ∷ z) ∙ and_from _ _ u refl in
    let x_is : p ++ m ∷ z ≡ (p ++ k ∷ []) ++ z = (λ i. p ++ sym (same_name-true k m u) i ∷ z) ∙ sym (append_assoc p (k ∷ []) z) in
    let rest : drop (length (p ++ k ∷ [])) (p ++ m ∷ z) ≡ z = ap (drop (length (p ++ k ∷ []))) x_is ∙ drop-append_seam (p ++ k ∷ []) z in
    let part : sub case s z ≡ f = rw u at is in
    rw (t, on, rest) (ap Some part))
    (λ u.
    let k = folded_name case name in
    let away : is_at_or_above (p ++ k ∷ []) (p ++ m ∷ z) ≡ false = above-both p (k ∷ []) (m ∷ z) ∙ off-and _ _ u in
    rw (t, away) (pieces_beside-other case p more n inner m z f off there none (rw u at is))))

-- what is found in the place of the child n
pieces_beside-in : (case : Case) (p : Path) (cs : Children) (n : Name) (inner : List Pair) (z : Path) (f : Snapshot) → (f ≢ Missing) → part_of case inner (p ++ n ∷ z) ≡ Some f → sub case (child case cs n) z ≡ f
    → part_of case (pieces_beside case p cs n inner) (p ++ n ∷ z) ≡ Some f
pieces_beside-in case p Nothing n inner z f there found is = absurd (there (sym is ∙ sub-missing case z))
pieces_beside-in case p (Child name s more) n inner z f there found is =
    split (is_same_name (folded_name case name) n)
    (λ t. rw t (part-left case inner _ (p ++ n ∷ z) f found))
    (λ t.
    let away : is_at_or_above (p ++ folded_name case name ∷ []) (p ++ n ∷ z) ≡ false = above-both p (folded_name case name ∷ []) (n ∷ z) ∙ off-and _ _ t in
    rw (t, away) (pieces_beside-in case p more n inner z f there found (rw t at is)))

pieces-at : (case : Case) (p : Path) (s : Snapshot) (y z : Path) (f : Snapshot) → is_related y z ≡ false → (f ≢ Missing) → sub case s z ≡ f → part_of case (pieces case p s y) (p ++ z) ≡ Some f
pieces-at case p s [] z f off there is = absurd (true≢false off)
pieces-at case p s (n ∷ y) [] f off there is = absurd (true≢false off)
pieces-at case p s (n ∷ y) (m ∷ z) f off there is =
    split (is_same_name n m)
    (λ t.
    let same : n ≡ m = same_name-true n m t in
    subst (λ (k : Name). part_of case (pieces case p s (n ∷ y)) (p ++ k ∷ z) ≡ Some f) same
    (pieces_beside-in case p (children_of s) n _ z f there
    (subst (λ x. part_of case (pieces case (p ++ n ∷ []) (child case (children_of s) n) y) x ≡ Some f) (append_assoc p (n ∷ []) z)
    (pieces-at case (p ++ n ∷ []) (child case (children_of s) n) y z f (below n y z (subst (λ (k : Name). is_related (n ∷ y) (k ∷ z) ≡ false) (sym same) off)) there (deeper same)))
    (deeper same)))
    (λ t. pieces_beside-other case p (children_of s) n _ m z f t there
    (pieces-none case (p ++ n ∷ []) (child case (children_of s) n) y (p ++ m ∷ z) (above-both p (n ∷ []) (m ∷ z) ∙ off-and _ _ t)) is)
  where
    deeper : n ≡ m → sub case (child case (children_of s) n) z ≡ f
    deeper same = subst (λ (k : Name). sub case (child case (children_of s) k) z ≡ f) (sym same) is

    below : (n : Name) (y z : Path) → is_related (n ∷ y) (n ∷ z) ≡ false → is_related y z ≡ false
    below n y z h = rw (same_name-refl n) at h

-- what is found and not missing stays, where it has nothing to do with the path
pub after_invalidation-keeps : (case : Case) (e : Path) (rs : List Pair) (x : Path) (f : Snapshot) → is_related e x ≡ false → (f ≢ Missing) → part_of case rs x ≡ Some f → part_of case (all_pairs_left case e rs) x ≡ Some f
after_invalidation-keeps case e [] x f off there found = found
after_invalidation-keeps case e (r ∷ rs) x f off there found =
    split (is_at_or_above r.path x)
    (λ on. part-left case (pairs_left case e r) _ x f (one on (some-is _ f (rw on at found))))
    (λ away. part-right case (pairs_left case e r) _ x (none away) ∙ after_invalidation-keeps case e rs x f off there (rw away at found))
  where
    parts : (is_at_or_above e x ≡ false) × (is_at_or_above x e ≡ false)
    parts = or_parts _ _ off

    one : is_at_or_above r.path x ≡ true → sub case r.snapshot (drop (length r.path) x) ≡ f → part_of case (pairs_left case e r) x ≡ Some f
    one on is =
        split (is_at_or_above e r.path)
        (λ t. absurd (both_ways _ parts.0 (at_or_above-trans e r.path x t on)))
        (λ t. split (is_at_or_above r.path e)
        (λ u. rw (t, u)
        (let x_is = rest-is r.path x on in let e_is = rest-is r.path e u in
        let apart : is_related (drop (length r.path) e) (drop (length r.path) x) ≡ false =
        (λ i. sym (above-both r.path (drop (length r.path) e) (drop (length r.path) x)) i || sym (above-both r.path (drop (length r.path) x) (drop (length r.path) e)) i)
        ∙ (λ i. is_related (e_is i) (x_is i)) ∙ off in
        subst (λ p. part_of case (pieces case r.path r.snapshot (drop (length r.path) e)) p ≡ Some f) x_is
        (pieces-at case r.path r.snapshot (drop (length r.path) e) (drop (length r.path) x) f apart there is)))
        (λ u. rw (t, u, on) (ap Some is)))

    none : is_at_or_above r.path x ≡ false → part_of case (pairs_left case e r) x ≡ None
    none away =
        split (is_at_or_above e r.path)
        (λ t. rw t refl)
        (λ t. split (is_at_or_above r.path e)
        (λ u. rw (t, u) (pieces-none case r.path r.snapshot _ x away))
        (λ u. rw (t, u, away) refl))
