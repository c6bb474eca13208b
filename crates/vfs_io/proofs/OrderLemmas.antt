-- Names that stand before their next ones stand before all that follow.
use Rattle.std.proofs.Common.{◌≡◌, Bool, true, false, IsTrue, suc, ◌+◌, List, [], ◌∷◌, length, slice_index_or, refl, true≢false, sym, subst, arith}
use Rattle.std.specs.List.{AllAdjacentBelow, IsAllAdjacentAnswer}
use Rattle.std.specs.declared.cmp.Ordering.{Ordering}
use Rattle.std.specs.declared.cmp.Ordering.TheVariants.{Less, Equal, Greater}
use Rattle.vfs_model.specs.declared.Case.{Case}
use Rattle.vfs_model.specs.Paths.{Name, name_order}
use Rattle.vfs_model.specs.World.{AreInOrder}
use Rattle.vfs_laws.proofs.NameLemmas.{each-weaker, order-trans}
use Rattle.vfs_io.specs.Folder.{is_less, comes_before}

less-is : (o : Ordering) → true ≡ is_less o → o ≡ Less
less-is Less e = refl
less-is Equal e = absurd (true≢false e)
less-is Greater e = absurd (true≢false e)

pub adjacent-order : (case : Case) (ns : List Name) → AllAdjacentBelow (λ a b. true ≡ comes_before case a b) ns (length ns) → AreInOrder case ns
adjacent-order case [] h = tt
adjacent-order case (n ∷ []) h = (tt, tt)
adjacent-order case (n ∷ m ∷ ns) h =
    let rest = adjacent-order case (m ∷ ns) (λ k d below.
    let next : suc k + 1 ≡ suc (k + 1) = omega arith in
    subst (λ j. true ≡ comes_before case (slice_index_or (m ∷ ns) k d) (slice_index_or (n ∷ m ∷ ns) j d)) next (h (suc k) d (omega arith))) in
    let first : name_order case n m ≡ Less = less-is _ (h 0 n (omega arith)) in
    ((first, each-weaker _ _ (λ x after. order-trans case n m x first after) ns rest.0), rest)

pub sorted-order : (case : Case) (ns : List Name) (answer : Bool) → IsAllAdjacentAnswer (λ a b t. t ≡ comes_before case a b) ns answer → IsTrue answer → AreInOrder case ns
sorted-order case ns true h t = adjacent-order case ns h
sorted-order case ns false h t = absurd (true≢false (sym t))
