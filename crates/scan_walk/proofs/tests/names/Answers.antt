use Rattle.std.proofs.Common.{◌≡◌, ◌∙◌, [], ◌∷◌, refl, sym, true, arith, rules, Less, Equal, Greater, Ordering}
use Rattle.std.proofs.lemmas.Grind.{common_steps}
use Rattle.vfs_model.specs.declared.Case.{Case}
use Rattle.vfs_model.specs.declared.Case.TheVariants.{Sensitive, Insensitive}
use Rattle.vfs_model.specs.Paths.{Name, name_order}
use Rattle.vfs_model.specs.Scanning.{IsListed}
use Rattle.std.specs.Ordering.{is_lt}
use Rattle.scan_walk.proofs.tests.names.Goals as goal

less : (o : Ordering) → is_lt o ≡ true → o ≡ Less
less Less e = refl
less Equal e = cc
less Greater e = cc

listed : (a b : Name) → name_order Sensitive a b ≡ Less → name_order Insensitive a b ≡ Less → (case : Case) → IsListed case (a ∷ b ∷ [])
listed a b first second Sensitive = record { order = ((first, tt), (tt, tt)); few = omega arith }
listed a b first second Insensitive = record { order = ((second, tt), (tt, tt)); few = omega arith }

pub returns : goal.returns
returns g c =
    let one : c.is_lt.result ≡ true = search rules in
    let two : c.is_lt-2.result ≡ true = search rules in
    let first : c.order.result ≡ Less = less c.order.result (sym c.is_lt.ensures ∙ one) in
    let second : c.order-2.result ≡ Less = less c.order-2.result (sym c.is_lt-2.ensures ∙ two) in
    let items : c.from_vec.result ≡ c.in_ok-first.first ∷ c.in_ok-second.second ∷ [] = grind (arith, common_steps) in
    rw items (listed c.in_ok-first.first c.in_ok-second.second
    (sym (c.order.ensures.value ∙ (λ i. name_order Sensitive (c.as_bytes-3.ensures.bytes i) (c.as_bytes-4.ensures.bytes i))) ∙ first)
    (sym (c.order-2.ensures.value ∙ (λ i. name_order Insensitive (c.as_bytes-5.ensures.bytes i) (c.as_bytes-6.ensures.bytes i))) ∙ second))
