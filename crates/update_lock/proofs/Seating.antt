-- How the lock starts, and how seats are dealt and joined.
use Rattle.std.proofs.Common.{◌≡◌, ◌≢◌, ℕ, zero, suc, ◌+◌, ◌<◌, ◌≤◌, ◌==◌, ne_eqb, eq-eqb, max, ◌⊎◌, List, [], ◌∷◌, ◌++◌, length, set, sym, refl, ap, ◌∙◌, subst, inl, inr, ⊎_elim, length-append, arith}
use mathlib.Core.Option.{some, some-injective, some-ne-none}
use mathlib.Core.Logic.{dite}
use native.Mathlib.Decide.{ℕ_discrete}
use lib.ListN.{get_elem?}
use Rattle.std.specs.Prelude.{Option, Some}
use Rattle.atomic_table.specs.Table.{Splits, Joins, opening}
use Rattle.atomic_table.proofs.Lists.{at_set, set_else, at_longer, at_snoc}
use Rattle.update_lock.specs.declared.journaled.Journaled.{Ghosts}
use Rattle.update_lock.specs.declared.view.OwnList.{OwnList}
use Rattle.update_lock.specs.declared.view.Stage.TheVariants.{Idle}
use Rattle.update_lock.specs.declared.view.View.{View}
use Rattle.update_lock.specs.Views.{times, one_if, placed}
use Rattle.update_lock.specs.Rule.{Rule}
use Rattle.update_lock.specs.Steps.{callers_from, opened, first_list, other_lists, without_first, first_alone, both, spent}
use Rattle.update_lock.proofs.Totals.{total_set, total_snoc}
use Rattle.update_lock.proofs.Parts.{St, Fits, Knows, parts, rule_of}
use Rattle.update_lock.proofs.Keeps.{holder_stays, idle_has_none}

at_append : {A : Type 0} (xs ys : List A) (m : ℕ) (o : A) → get_elem? (xs ++ ys) m ≡ some o → ((k : ℕ) × (get_elem? xs k ≡ some o)) ⊎ ((k : ℕ) × (get_elem? ys k ≡ some o))
at_append [] ys m o e = inr (m, e)
at_append (x ∷ xs) ys zero o e = inl (0, e)
at_append (x ∷ xs) ys (suc m) o e = ⊎_elim (λ t. inl (suc t.0, t.1)) inr (at_append xs ys m o e)

module _ {E : Type 0} where
  times-append : (c : ℕ) (xs ys : List (OwnList E)) → times c (xs ++ ys) ≡ times c xs + times c ys
  times-append c [] ys = omega arith
  times-append c (x ∷ xs) ys = let r = times-append c xs ys in omega arith

  stands_cut : (c : ℕ) (os : List (OwnList E)) → times c (other_lists os) + times c (first_list os) ≡ times c os
  stands_cut c [] = refl
  stands_cut c (x ∷ xs) = omega arith

  length_cut : (os : List (OwnList E)) → length (other_lists os) + length (first_list os) ≡ length os
  length_cut [] = refl
  length_cut (x ∷ xs) = omega arith

  at_others : (os : List (OwnList E)) (m : ℕ) (o : OwnList E) → get_elem? (other_lists os) m ≡ some o → (k : ℕ) × (get_elem? os k ≡ some o)
  at_others [] m o e = (m, e)
  at_others (x ∷ xs) m o e = (suc m, e)

  at_fronts : (os : List (OwnList E)) (m : ℕ) (o : OwnList E) → get_elem? (first_list os) m ≡ some o → (k : ℕ) × (get_elem? os k ≡ some o)
  at_fronts [] m o e = (m, e)
  at_fronts (x ∷ xs) zero o e = (0, e)
  at_fronts (x ∷ xs) (suc m) o e = absurd (some-ne-none o (sym e))

callers_long : (E : Type 0) (k n : ℕ) → length (callers_from {E = E} k n) ≡ n
callers_long E k zero = refl
callers_long E k (suc n) = ap suc (callers_long E (k + 1) n)

-- no number below k is among the callers from k on
stands_below : (E : Type 0) (c k n : ℕ) → c < k → times c (callers_from {E = E} k n) ≡ 0
stands_below E c k zero h = refl
stands_below E c k (suc n) h = let r = stands_below E c (k + 1) n (omega arith) in let z : one_if (k == c) ≡ 0 = ap one_if (ne_eqb k c (λ e. omega arith)) in omega (arith, z)

stands_once : (E : Type 0) (c k n : ℕ) → times c (callers_from {E = E} k n) ≤ 1
stands_once E c k zero = omega arith
stands_once E c k (suc n) = dite (ℕ_discrete k c)
    (λ (e : k ≡ c). let r = stands_below E c (k + 1) n (omega arith) in let z : one_if (k == c) ≡ 1 = ap one_if (eq-eqb k c e) in omega (arith, z))
    (λ (ne : k ≢ c). let r = stands_once E c (k + 1) n in let z : one_if (k == c) ≡ 0 = ap one_if (ne_eqb k c ne) in omega (arith, z))

no_calls : (E : Type 0) (k n m : ℕ) (o : OwnList E) → get_elem? (callers_from {E = E} k n) m ≡ some o → o.entries ≡ []
no_calls E k zero m o e = absurd (some-ne-none o (sym e))
no_calls E k (suc n) zero o e = ap (λ (z : OwnList E). z.entries) (sym (some-injective _ o e))
no_calls E k (suc n) (suc m) o e = no_calls E (k + 1) n m o e

few_numbers : (E : Type 0) (k n m : ℕ) (o : OwnList E) → get_elem? (callers_from {E = E} k n) m ≡ some o → o.caller < k + n
few_numbers E k zero m o e = absurd (some-ne-none o (sym e))
few_numbers E k (suc n) zero o e = let is : k ≡ o.caller = ap (λ (z : OwnList E). z.caller) (some-injective _ o e) in omega arith
few_numbers E k (suc n) (suc m) o e = let r = few_numbers E (k + 1) n m o e in omega arith

module _ {J E B : Type 0} (journal : Ghosts J E B) (made : J) (n : ℕ) where
  abbrev RuleOf : St journal → Type 0
  RuleOf s = Rule journal made n s

  abbrev K : J → (ℕ → ℕ) → ℕ → ℕ → ℕ → View J E → Type 0
  K value who next serving i v = Knows journal made n value who next serving i v

  pub starts : n ≤ 16 → journal.log made ≡ [] → RuleOf (opening (0 ∷ 0 ∷ []) (Some made ∷ []) (opened made n))
  starts few empty = rule_of journal made n _ record {
    value = made;
    who = λ _. 0;
    next = 0;
    serving = 0;
    home = some (Some made);
    words_are = refl;
    homes_are = refl;
    behind = omega arith;
    as_made = (refl, refl);
    long = let z : length (journal.log made) ≡ 0 = ap length empty in omega arith;
    each = λ j v e. ⊎_elim (λ (t : get_elem? [] j ≡ some v). absurd (some-ne-none v (sym t)))
        (λ (t : opened made n ≡ v). subst (K made (λ _. 0) 0 0 j) t record {
          fits = tt;
          own = λ m o at. no_calls E 0 n m o at ∙ ap (placed journal.caller o.caller) (sym empty);
          below = omega arith;
          few = omega arith;
          from = λ y is. cc;
          numbers = λ m o at. let low = few_numbers E 0 n m o at in omega arith;
          blank = λ _. refl;
        }) (at_snoc [] (opened made n) v j e);
    waited = λ t low high. absurd (omega arith);
    at_home = λ _. refl;
    drawn = refl;
    once = λ c. let a = stands_once E c 0 n in omega arith;
    all = let a = callers_long E 0 n in omega arith;
    few_callers = few;
    others = λ c far. ap (placed journal.caller c) empty;
  }

  pub forks : (id : ℕ) (v : View J E) → v.stage ≡ Idle → v.drawn ≡ 0 → Splits RuleOf id v (without_first v) (first_alone v)
  forks id v idle fresh s rule at = let r = parts journal made n s rule in let l : View J E = without_first v in let a : View J E = first_alone v in let vs : List (View J E) = set s.views id l in let k = r.each id v at in rule_of journal made n _ record {
    value = r.value;
    who = r.who;
    next = r.next;
    serving = r.serving;
    home = r.home;
    words_are = r.words_are;
    homes_are = r.homes_are;
    behind = r.behind;
    as_made = r.as_made;
    long = r.long;
    each = λ j u e. ⊎_elim
        (λ (old : get_elem? vs j ≡ some u). ⊎_elim
        (λ (t : (j ≡ id) × (l ≡ u)). subst (K r.value r.who r.next r.serving j) t.1 record {
          fits = subst (Fits r.value r.who r.next r.serving j) (sym idle) tt;
          own = λ m o d. let p = at_others v.lists m o d in k.own p.0 o p.1;
          numbers = λ m o d. let p = at_others v.lists m o d in k.numbers p.0 o p.1;
          below = k.below;
          few = omega arith;
          from = k.from;
          blank = λ _. idle;
        })
        (λ (t : (j ≢ id) × (get_elem? s.views j ≡ some u)). r.each j u t.1) (at_set s.views id j l u old))
        (λ (new : a ≡ u). subst (K r.value r.who r.next r.serving j) new record {
          fits = tt;
          own = λ m o d. let p = at_fronts v.lists m o d in k.own p.0 o p.1;
          numbers = λ m o d. let p = at_fronts v.lists m o d in k.numbers p.0 o p.1;
          below = omega arith;
          few = omega arith;
          from = k.from;
          blank = λ _. refl;
        }) (at_snoc vs a u j e);
    waited = λ t low high. let old = r.waited t low high in
        let apart : r.who t ≢ id = λ e. let same : old.0 ≡ v = some-injective old.0 v (sym old.1 ∙ (ap (λ (z : ℕ). get_elem? s.views z) e ∙ at)) in idle_has_none old.0 t (ap (λ (z : View J E). z.stage) same ∙ idle) old.2 in
        (old.0, at_longer vs (a ∷ []) (r.who t) old.0 (set_else s.views id (r.who t) l apart ∙ old.1), old.2);
    at_home = λ out. r.at_home (λ h. let g = holder_stays s.views id v l at (λ t f is. let x = sym idle ∙ is in cc) h in out (g.0, g.1, g.2, g.3, at_longer vs (a ∷ []) g.0 g.1 g.4, g.5));
    drawn = let f : View J E → ℕ = λ u. u.drawn in let x = total_snoc f vs a in let y = total_set f s.views id v l at in let z = r.drawn in omega arith;
    once = λ c. let f : View J E → ℕ = λ u. times c u.lists in let x = total_snoc f vs a in let y = total_set f s.views id v l at in let z = r.once c in let p = stands_cut c v.lists in omega arith;
    all = let f : View J E → ℕ = λ u. length u.lists in let x = total_snoc f vs a in let y = total_set f s.views id v l at in let z = r.all in let p = length_cut v.lists in omega arith;
    few_callers = r.few_callers;
    others = r.others;
  }

  max_below : (a b n : ℕ) → a ≤ n → b ≤ n → max a b ≤ n
  max_below a b n p q = omega arith

  pub merges : (id : ℕ) (v : View J E) (other : ℕ) (w : View J E) → v.stage ≡ Idle → w.stage ≡ Idle → Joins RuleOf id v other w (both v w) spent
  merges id v other w idle idle' s rule at two at' = let r = parts journal made n s rule in let b : View J E = both v w in let vs : List (View J E) = set s.views id b in let k = r.each id v at in
      let at₀ : get_elem? s.views other ≡ some w = sym (set_else s.views id other b two) ∙ at' in let q = r.each other w at₀ in rule_of journal made n _ record {
        value = r.value;
        who = r.who;
        next = r.next;
        serving = r.serving;
        home = r.home;
        words_are = r.words_are;
        homes_are = r.homes_are;
        behind = r.behind;
        as_made = r.as_made;
        long = r.long;
        each = λ j u e. ⊎_elim
            (λ (t : (j ≡ other) × (spent ≡ u)). subst (K r.value r.who r.next r.serving j) t.1 record { fits = tt; own = λ m o d. absurd (some-ne-none o (sym d)); numbers = λ m o d. absurd (some-ne-none o (sym d)); below = omega arith; few = omega arith; from = λ x d. cc; blank = λ _. refl })
            (λ (t : (j ≢ other) × (get_elem? vs j ≡ some u)). ⊎_elim
            (λ (d : (j ≡ id) × (b ≡ u)). subst (K r.value r.who r.next r.serving j) d.1 record {
              fits = subst (Fits r.value r.who r.next r.serving j) (sym idle) tt;
              own = λ m o x. ⊎_elim (λ (p : (i : ℕ) × (get_elem? v.lists i ≡ some o)). k.own p.0 o p.1) (λ (p : (i : ℕ) × (get_elem? w.lists i ≡ some o)). q.own p.0 o p.1) (at_append v.lists w.lists m o x);
              numbers = λ m o x. ⊎_elim (λ (p : (i : ℕ) × (get_elem? v.lists i ≡ some o)). k.numbers p.0 o p.1) (λ (p : (i : ℕ) × (get_elem? w.lists i ≡ some o)). q.numbers p.0 o p.1) (at_append v.lists w.lists m o x);
              below = max_below v.after_last w.after_last r.next k.below q.below;
              few = let x = k.few in let y = q.few in let z = length-append v.lists w.lists in omega arith;
              from = k.from;
              blank = λ _. idle;
            })
            (λ (d : (j ≢ id) × (get_elem? s.views j ≡ some u)). r.each j u d.1) (at_set s.views id j b u t.1)) (at_set vs other j spent u e);
        waited = λ t low high. let old = r.waited t low high in
            let apart : r.who t ≢ id = λ e. let same : old.0 ≡ v = some-injective old.0 v (sym old.1 ∙ (ap (λ (z : ℕ). get_elem? s.views z) e ∙ at)) in idle_has_none old.0 t (ap (λ (z : View J E). z.stage) same ∙ idle) old.2 in
            let apart' : r.who t ≢ other = λ e. let same : old.0 ≡ w = some-injective old.0 w (sym old.1 ∙ (ap (λ (z : ℕ). get_elem? s.views z) e ∙ at₀)) in idle_has_none old.0 t (ap (λ (z : View J E). z.stage) same ∙ idle') old.2 in
            (old.0, set_else vs other (r.who t) spent apart' ∙ (set_else s.views id (r.who t) b apart ∙ old.1), old.2);
        at_home = λ out. r.at_home (λ h. out (holder_stays vs other w spent at' (λ t f is. let x = sym idle' ∙ is in cc) (holder_stays s.views id v b at (λ t f is. let x = sym idle ∙ is in cc) h)));
        drawn = let f : View J E → ℕ = λ u. u.drawn in let x = total_set f vs other w spent at' in let y = total_set f s.views id v b at in let z = r.drawn in omega arith;
        once = λ c. let f : View J E → ℕ = λ u. times c u.lists in let x = total_set f vs other w spent at' in let y = total_set f s.views id v b at in let z = r.once c in let p = times-append c v.lists w.lists in omega arith;
        all = let f : View J E → ℕ = λ u. length u.lists in let x = total_set f vs other w spent at' in let y = total_set f s.views id v b at in let z = r.all in let p = length-append v.lists w.lists in omega arith;
        few_callers = r.few_callers;
        others = r.others;
      }

  pub starts_with : (x : J) (slots : List (Option J)) → n ≤ 16 → journal.log x ≡ [] → made ≡ x → slots ≡ [] ++ Some x ∷ [] → RuleOf (opening (0 ∷ 0 ∷ []) slots (opened made n))
  starts_with x slots few empty is filled = subst (λ (l : List (Option J)). RuleOf (opening (0 ∷ 0 ∷ []) l (opened made n))) (ap (λ (z : J). Some z ∷ []) is ∙ sym filled) (starts few (ap journal.log is ∙ empty))
