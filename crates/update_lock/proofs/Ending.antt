-- What the end has: all tickets were served, the value is at home, and each own list is in its journal.
use Rattle.std.proofs.Common.{◌≡◌, ◌≢◌, ℕ, ◌<◌, ◌≤◌, List, [], ◌∷◌, ◌++◌, length, sym, refl, ap, ◌∙◌, subst, le_refl, arith}
use mathlib.Core.Option.{some, some-injective}
use mathlib.Core.Option as maybe
use mathlib.Core.Logic.{dite}
use native.Mathlib.Decide.{ℕ_discrete, dec_lt}
use lib.ListN.{get_elem?}
use Rattle.std.specs.Prelude.{Option, Some}
use Rattle.atomic_table.specs.Table.{Final, Seen}
use Rattle.atomic_table.proofs.Lists.{at_longer, at_last}
use Rattle.update_lock.specs.declared.journaled.Journaled.{Ghosts}
use Rattle.update_lock.specs.declared.view.OwnList.{OwnList}
use Rattle.update_lock.specs.declared.view.Stage.TheVariants.{Idle}
use Rattle.update_lock.specs.declared.view.View.{View}
use Rattle.update_lock.specs.Views.{placed, EachList, EachView}
use Rattle.update_lock.specs.Rule.{IsAsMade, IsOwn, Rule}
use Rattle.update_lock.specs.Steps.{both}
use Rattle.update_lock.specs.Seats.{own_of, Has, IsSingle}
use Rattle.update_lock.proofs.Totals.{total_two}
use Rattle.update_lock.proofs.Parts.{St, Parts, parts}
use Rattle.update_lock.proofs.Keeps.{idle_has_none}

none_owned : {E : Type 0} (os : List (OwnList E)) → length os ≡ 0 → os ≡ []
none_owned [] h = refl
none_owned (o ∷ os) h = absurd (omega arith)

module _ {J E : Type 0} where
  pub has_first : (v w : View J E) → IsSingle v → w ≡ v → Has v w
  has_first v w one is = subst (Has v) (sym is) ((0, ap (λ (l : List (OwnList E)). get_elem? l 0) one), le_refl v.after_last)

  pub has_more : (u v w z : View J E) → z ≡ both v w → Has u v → Has u z
  has_more u v w z is h = let a = h.1 in subst (Has u) (sym is) ((h.0.0, at_longer v.lists w.lists h.0.0 _ h.0.1), omega arith)

  pub has_new : (v w z : View J E) → z ≡ both v w → IsSingle w → Has w z
  has_new v w z is one = subst (Has w) (sym is) ((length v.lists, ap (λ (l : List (OwnList E)). get_elem? (v.lists ++ l) (length v.lists)) one ∙ at_last v.lists (own_of w) (length v.lists) refl), omega arith)

module _ {J E B : Type 0} (journal : Ghosts J E B) (made : J) (n : ℕ) where
  abbrev RuleOf : St journal → Type 0
  RuleOf s = Rule journal made n s

  -- what the value at the end has, where the view v stands for all callers
  pub record Ended (v : View J E) (value : J) : Type 0 where
    pub as_made : IsAsMade journal made value
    pub own : EachList v (IsOwn journal value)
    pub within : length (journal.log value) ≤ journal.room value
    pub full : journal.room value < v.after_last → length (journal.log value) ≡ journal.room value
    pub others : (c : ℕ) → n ≤ c → placed journal.caller c (journal.log value) ≡ []

  -- no view has a ticket, since the others are spent
  calm : (s : St journal) (r : Parts journal made n s) (id : ℕ) (v : View J E) → get_elem? s.views id ≡ some v → length v.lists ≡ n → v.stage ≡ Idle → EachView s.views (λ i u. u.stage ≡ Idle)
  calm s r id v at all idle j u there = dite (ℕ_discrete j id)
      (λ (is : j ≡ id). let same : u ≡ v = some-injective u v (sym there ∙ (ap (λ (z : ℕ). get_elem? s.views z) is ∙ at)) in ap (λ (z : View J E). z.stage) same ∙ idle)
      (λ (ne : j ≢ id). let f : View J E → ℕ = λ z. length z.lists in let a = total_two f s.views j id u v ne there at in let b = r.all in let zero : length u.lists ≡ 0 = omega arith in (r.each j u there).blank (none_owned u.lists zero))

  closes : (id : ℕ) (v : View J E) (ws : List ℕ) (xs : List (Option J)) → v.stage ≡ Idle → length v.lists ≡ n → Final (Seen RuleOf id v) ws xs → (value : J) × (get_elem? xs 0 ≡ some (Some value)) × Ended v value
  closes id v ws xs idle long f = let s = f.0 in let r = parts journal made n s f.1.0 in let at = f.1.1 in let k = r.each id v at in let still = calm s r id v at long idle in
      let home = r.at_home (λ h. let e = sym (still h.0 h.1 h.4) ∙ h.5 in cc) in
      let done : r.next ≤ r.serving = elim (dec_lt r.serving r.next) [
        | yes less ↦ (let w = r.waited r.serving (omega arith) less in absurd (idle_has_none w.0 r.serving (still (r.who r.serving) w.0 w.1) w.2))
        | no more ↦ omega arith
      ] in
      let eq : journal.room r.value ≡ journal.room made = r.as_made.0 in let len = r.long in let below = k.below in (
        r.value,
        f.4 0 (Some r.value) (ap (λ (l : List (maybe.Option (Option J))). get_elem? l 0) r.homes_are ∙ ap some home),
        record { as_made = r.as_made; own = k.own; within = omega arith; full = λ past. omega arith; others = r.others },
      )

  pub is_there : (id : ℕ) (v : View J E) (ws : List ℕ) (xs : List (Option J)) (o : Option J) → v.stage ≡ Idle → length v.lists ≡ n → Final (Seen RuleOf id v) ws xs → get_elem? xs 0 ≡ some o → (value : J) × (o ≡ Some value)
  is_there id v ws xs o idle long f at = let c = closes id v ws xs idle long f in let y : J = c.0 in (y, some-injective o (Some y) (sym at ∙ c.1))

  pub ended : (id : ℕ) (v : View J E) (ws : List ℕ) (xs : List (Option J)) (o : Option J) (value : J) → v.stage ≡ Idle → length v.lists ≡ n → Final (Seen RuleOf id v) ws xs → get_elem? xs 0 ≡ some o → o ≡ Some value → Ended v value
  ended id v ws xs o value idle long f at is = let c = closes id v ws xs idle long f in let z : J = c.0 in let e : Some z ≡ Some value = sym (some-injective o (Some z) (sym at ∙ c.1)) ∙ is in let d : z ≡ value = cc in subst (Ended v) d c.2

  pub kept : (v w : View J E) (value : J) → Has v w → Ended w value
      → ((own_of v).entries ≡ placed journal.caller (own_of v).caller (journal.log value)) × (journal.room value < v.after_last → length (journal.log value) ≡ journal.room value)
  kept v w value h e = let b = h.1 in (e.own h.0.0 _ h.0.1, λ past. e.full (omega arith))
