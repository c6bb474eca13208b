-- Each step keeps the rule.
use Rattle.std.proofs.Common.{◌≡◌, ◌≢◌, ℕ, zero, suc, ◌+◌, ◌*◌, ◌^◌, ◌%◌, ◌<◌, ◌≤◌, ◌==◌, eqb, eq-eqb, ne_eqb, min, Bool, true, false, cond, List, [], ◌∷◌, ◌++◌, length, set, sym, refl, ap, ◌∙◌, subst, inl, inr, ⊎_elim, mod-eq_of_lt, le_refl, length-append, arith}
use mathlib.Core.Option.{some, none, some-injective, some-ne-none}
use mathlib.Core.Option as maybe
use mathlib.Core.Logic.{dite}
use native.Mathlib.Decide.{ℕ_discrete, dec_lt}
use lib.ListN.{get_elem?}
use Rattle.std.specs.Prelude.{Option, Some, slice_index, slice_set}
use Rattle.atomic_table.specs.Table.{Act, Valid, homes_after, carried_after, keeps, takes, gives, Allows}
use Rattle.atomic_table.proofs.Lists.{at_set, set_else, set_again}
use Rattle.update_lock.specs.declared.journaled.Journaled.{Ghosts}
use Rattle.update_lock.specs.declared.view.OwnList.{OwnList}
use Rattle.update_lock.specs.declared.view.Stage.{Stage}
use Rattle.update_lock.specs.declared.view.Stage.TheVariants.{Idle, Waits, Holds}
use Rattle.update_lock.specs.declared.view.View.{View}
use Rattle.update_lock.specs.Views.{total, times, placed, placed_from, one_if, HasTicket, IsOut}
use Rattle.update_lock.specs.Rule.{IsOwn, Follows, Rule}
use Rattle.update_lock.specs.Steps.{Mine, at_stage, waiting, Draws, Found, Looks, rested, PassesOn}
use Rattle.update_lock.proofs.Parts.{St, Fits, Knows, Parts, parts, rule_of}
use Rattle.update_lock.proofs.Totals.{total_set, total_two, total_bound}

set_there : {A : Type 0} (l : List A) (i : ℕ) (v w : A) → get_elem? l i ≡ some v → get_elem? (set l i w) i ≡ some w
set_there [] i v w e = absurd (some-ne-none v (sym e))
set_there (x ∷ xs) zero v w e = refl
set_there (x ∷ xs) (suc i) v w e = set_there xs i v w e

-- the ticket `next` is drawn by the view id
abbrev redrawn : (ℕ → ℕ) → ℕ → ℕ → ℕ → ℕ
redrawn who next id t = cond (eqb t next) id (who t)

redrawn_old : (who : ℕ → ℕ) (next id t : ℕ) → t ≢ next → redrawn who next id t ≡ who t
redrawn_old who next id t n = ap (λ b. cond b id (who t)) (ne_eqb t next n)

redrawn_new : (who : ℕ → ℕ) (next id t : ℕ) → t ≡ next → redrawn who next id t ≡ id
redrawn_new who next id t e = ap (λ b. cond b id (who t)) (eq-eqb t next e)

module _ {E : Type 0} where
  nothing_owned : (os : List (OwnList E)) (n : ℕ) → n < 2 ^ 58 * length os → os ≢ []
  nothing_owned os n h e = let z : length os ≡ 0 = ap length e in omega arith

  stands_there : (os : List (OwnList E)) (m : ℕ) (o : OwnList E) → get_elem? os m ≡ some o → 1 ≤ times o.caller os
  stands_there [] m o e = absurd (some-ne-none o (sym e))
  stands_there (x ∷ xs) zero o e = let is = some-injective x o e in let one : one_if (x.caller == o.caller) ≡ 1 = ap one_if (eq-eqb x.caller o.caller (ap (λ (z : OwnList E). z.caller) is)) in omega (arith, one)
  stands_there (x ∷ xs) (suc m) o e = let r = stands_there xs m o e in omega arith

  only_one : (a o : OwnList E) (m : ℕ) → get_elem? (a ∷ []) m ≡ some o → a ≡ o
  only_one a o zero e = some-injective a o e
  only_one a o (suc m) e = absurd (some-ne-none o (sym e))

module _ {E : Type 0} (by : E → ℕ) where
  pub placed_other : (c k : ℕ) (es : List E) (e : E) → by e ≢ c → placed_from by c k (es ++ e ∷ []) ≡ placed_from by c k es
  placed_other c k [] e ne = ap (λ b. cond b ((k, e) ∷ []) []) (ne_eqb (by e) c ne)
  placed_other c k (x ∷ xs) e ne = ap (λ (l : List (ℕ × E)). cond (eqb (by x) c) ((k, x) ∷ l) l) (placed_other c (k + 1) xs e ne)

  pub placed_same : (c k : ℕ) (es : List E) (e : E) → by e ≡ c → placed_from by c k (es ++ e ∷ []) ≡ placed_from by c k es ++ (k + length es, e) ∷ []
  placed_same c k [] e is = let z : k ≡ k + 0 = omega arith in ap (λ b. cond b ((k, e) ∷ []) []) (eq-eqb (by e) c is) ∙ ap (λ (n : ℕ). (n, e) ∷ []) z
  placed_same c k (x ∷ xs) e is = let r = placed_same c (k + 1) xs e is in let n : k + 1 + length xs ≡ k + suc (length xs) = omega arith in
      elim (eqb (by x) c) as (λ (b : Bool). cond b ((k, x) ∷ placed_from by c (k + 1) (xs ++ e ∷ [])) (placed_from by c (k + 1) (xs ++ e ∷ [])) ≡ cond b ((k, x) ∷ placed_from by c (k + 1) xs) (placed_from by c (k + 1) xs) ++ (k + suc (length xs), e) ∷ []) [
        | true ↦ ap (λ (l : List (ℕ × E)). (k, x) ∷ l) (r ∙ ap (λ (z : ℕ). placed_from by c (k + 1) xs ++ (z, e) ∷ []) n)
        | false ↦ r ∙ ap (λ (z : ℕ). placed_from by c (k + 1) xs ++ (z, e) ∷ []) n
      ]

module _ {J : Type 0} where
  is_waiting : (st : Stage J) (t : ℕ) → Dec (st ≡ Waits t)
  is_waiting Idle t = no (λ e. cc)
  is_waiting (Waits k) t = elim (ℕ_discrete k t) [ yes e ↦ yes (ap (λ (z : ℕ). Waits z) e) | no n ↦ no (λ e. n cc) ]
  is_waiting (Holds k f) t = no (λ e. cc)

  fits_drawn : (value : J) (who : ℕ → ℕ) (next serving id j : ℕ) (st : Stage J) → Fits value who next serving j st → Fits value (redrawn who next id) (next + 1) serving j st
  fits_drawn value who next serving id j Idle h = tt
  fits_drawn value who next serving id j (Waits t) h = let a : t < next = h.2 in (redrawn_old who next id t (λ e. omega arith) ∙ h.0, h.1, omega arith)
  fits_drawn value who next serving id j (Holds t found) h = let a : t < next = h.2 in (redrawn_old who next id t (λ e. omega arith) ∙ h.0, h.1, omega arith, h.3)

  -- what another view says stays true, where the ticket that is served was drawn by the view id
  fits_passed : (value y : J) (who : ℕ → ℕ) (next serving id j : ℕ) (st : Stage J) → who serving ≡ id → j ≢ id → Fits value who next serving j st → Fits y who next (serving + 1) j st
  fits_passed value y who next serving id j Idle is ne h = tt
  fits_passed value y who next serving id j (Waits t) is ne h = let low : serving ≤ t = h.1 in let other : serving ≢ t = λ e. ne (sym h.0 ∙ (ap who (sym e) ∙ is)) in (h.0, omega arith, h.2)
  fits_passed value y who next serving id j (Holds t f) is ne h = absurd (ne (sym h.0 ∙ (ap who h.1 ∙ is)))

module _ {J E : Type 0} where
  -- the same, one short, where a view may draw once more
  total_bound_less : (vs : List (View J E)) (i : ℕ) (v : View J E) → get_elem? vs i ≡ some v → ((j : ℕ) (u : View J E) → get_elem? vs j ≡ some u → u.drawn ≤ 2 ^ 58 * length u.lists)
      → v.drawn < 2 ^ 58 * length v.lists → total (λ (u : View J E). u.drawn) vs < 2 ^ 58 * total (λ (u : View J E). length u.lists) vs
  total_bound_less [] i v e h less = absurd (some-ne-none v (sym e))
  total_bound_less (x ∷ xs) zero v e h less = let is = some-injective x v e in let less' : x.drawn < 2 ^ 58 * length x.lists = subst (λ (u : View J E). u.drawn < 2 ^ 58 * length u.lists) (sym is) less in
      let r = total_bound (λ (u : View J E). u.drawn) (λ (u : View J E). length u.lists) (2 ^ 58) xs (λ j u d. h (suc j) u d) in omega arith
  total_bound_less (x ∷ xs) (suc i) v e h less = let a = h 0 x refl in let r = total_bound_less xs i v e (λ j u d. h (suc j) u d) less in omega arith

  -- a view that holds nothing changes, and who holds goes on
  pub holder_stays : (vs : List (View J E)) (id : ℕ) (v w : View J E) → get_elem? vs id ≡ some v → ((t : ℕ) (found : J) → v.stage ≢ Holds t found) → IsOut vs → IsOut (set vs id w)
  holder_stays vs id v w at not h = let j = h.0 in let u = h.1 in dite (ℕ_discrete j id)
      (λ (is : j ≡ id). let same : u ≡ v = some-injective u v (sym h.4 ∙ (ap (λ (k : ℕ). get_elem? vs k) is ∙ at)) in absurd (not h.2 h.3 (ap (λ (z : View J E). z.stage) (sym same) ∙ h.5)))
      (λ (ne : j ≢ id). (j, u, h.2, h.3, set_else vs id j w ne ∙ h.4, h.5))

  pub idle_has_none : (u : View J E) (t : ℕ) → u.stage ≡ Idle → ¬ HasTicket t u
  idle_has_none u t is (inl w) = let a = sym is ∙ w in cc
  idle_has_none u t is (inr (f, w)) = let a = sym is ∙ w in cc

module _ {J E B : Type 0} (journal : Ghosts J E B) where
  -- the entries of another caller stay
  follows_other : (c d t : ℕ) (x y : J) → Follows journal c t x y → d ≢ c → placed journal.caller d (journal.log y) ≡ placed journal.caller d (journal.log x)
  follows_other c d t x y f ne = elim (dec_lt t (journal.room x)) [
    | yes less ↦ let g = f.2 less in ap (placed journal.caller d) g.2 ∙ placed_other journal.caller d 0 (journal.log x) g.0 (λ e. ne (sym e ∙ g.1))
    | no more ↦ ap (placed journal.caller d) (f.3 (omega arith))
  ]

  follows_long : (c t : ℕ) (x y : J) → Follows journal c t x y → length (journal.log x) ≡ min t (journal.room x) → length (journal.log y) ≡ min (t + 1) (journal.room y)
  follows_long c t x y f long = let e = f.0 in elim (dec_lt t (journal.room x)) [
    | yes less ↦ let g = f.2 less in let l : length (journal.log y) ≡ length (journal.log x) + 1 = ap length g.2 ∙ length-append (journal.log x) (g.0 ∷ []) in omega arith
    | no more ↦ let l : length (journal.log y) ≡ length (journal.log x) = ap length (f.3 (omega arith)) in omega arith
  ]

module _ {J E B : Type 0} (journal : Ghosts J E B) (made : J) (callers : ℕ) where
  abbrev RuleOf : St journal → Type 0
  RuleOf s = Rule journal made callers s

  abbrev P : St journal → Type 0
  P s = Parts journal made callers s

  abbrev K : J → (ℕ → ℕ) → ℕ → ℕ → ℕ → View J E → Type 0
  K value who next serving i v = Knows journal made callers value who next serving i v

  -- fewer tickets than 2^62 were drawn
  pub no_wrap : (s : St journal) (r : P s) → r.next ≤ 2 ^ 62
  no_wrap s r = let a = total_bound (λ (v : View J E). v.drawn) (λ (v : View J E). length v.lists) (2 ^ 58) s.views (λ i v e. (r.each i v e).few) in
      let b = r.drawn in let c = r.all in let d = r.few_callers in omega arith

  abbrev Goes : List (View J E) → ℕ → Mine J E → ℕ → (ℕ → ℕ) → (ℕ → Mine J E → Type 0) → List ℕ → List (maybe.Option (Option J)) → Type 0
  Goes vs id me i f then ws hs = (w : View J E) × (a : Act (Option J)) × Valid hs me.1 a × RuleOf record { words = slice_set ws i (f (slice_index ws i)); homes = homes_after hs me.1 a; views = slice_set vs id w }
      × then (slice_index ws i) (w, carried_after me.1 a)

  framed : (s : St journal) (r : P s) (id : ℕ) (me : Mine J E) (i : ℕ) (f : ℕ → ℕ) (then : ℕ → Mine J E → Type 0) → Goes s.views id me i f then (r.next ∷ r.serving ∷ []) (r.home ∷ []) → Goes s.views id me i f then s.words s.homes
  framed s r id me i f then g = subst (λ ws. Goes s.views id me i f then ws s.homes) (sym r.words_are) (subst (λ hs. Goes s.views id me i f then (r.next ∷ r.serving ∷ []) hs) (sym r.homes_are) g)

  -- The view id becomes w. What is asked of the others is asked of each as it was
  changed : (s : St journal) (r : P s) (id : ℕ) (v w : View J E) (next serving : ℕ) (who : ℕ → ℕ) (value : J) (home : maybe.Option (Option J)) → get_elem? s.views id ≡ some v → serving ≤ next
      → (journal.room value ≡ journal.room made) × (journal.base value ≡ journal.base made) → length (journal.log value) ≡ min serving (journal.room made) → K value who next serving id w
      → ((j : ℕ) (u : View J E) → j ≢ id → get_elem? s.views j ≡ some u → K value who next serving j u)
      → ((t : ℕ) → serving ≤ t → t < next → (u : View J E) × (get_elem? (set s.views id w) (who t) ≡ some u) × HasTicket t u) → (¬ IsOut (set s.views id w) → home ≡ some (Some value))
      → next + v.drawn ≡ r.next + w.drawn → ((c : ℕ) → times c w.lists ≡ times c v.lists) → length w.lists ≡ length v.lists → ((c : ℕ) → callers ≤ c → placed journal.caller c (journal.log value) ≡ [])
      → RuleOf record { words = next ∷ serving ∷ []; homes = home ∷ []; views = set s.views id w }
  changed s r id v w next serving who value home at behind same long mine others waited at_home drawn stood owned outside = rule_of journal made callers _ record {
    value = value;
    who = who;
    next = next;
    serving = serving;
    home = home;
    words_are = refl;
    homes_are = refl;
    behind = behind;
    as_made = same;
    long = long;
    each = λ j u e. ⊎_elim (λ (t : (j ≡ id) × (w ≡ u)). subst (λ (z : ℕ × View J E). K value who next serving z.0 z.1) (λ i. (sym t.0 i, t.1 i)) mine) (λ (t : (j ≢ id) × (get_elem? s.views j ≡ some u)). others j u t.0 t.1) (at_set s.views id j w u e);
    waited = waited;
    at_home = at_home;
    drawn = let a = total_set (λ (u : View J E). u.drawn) s.views id v w at in let b = r.drawn in omega arith;
    once = λ c. let a = total_set (λ (u : View J E). times c u.lists) s.views id v w at in let b = r.once c in let e = stood c in omega arith;
    all = let a = total_set (λ (u : View J E). length u.lists) s.views id v w at in let b = r.all in omega arith;
    few_callers = r.few_callers;
    others = outside;
  }

  knows_drawn : (value : J) (who : ℕ → ℕ) (next serving id j : ℕ) (u : View J E) → K value who next serving j u → K value (redrawn who next id) (next + 1) serving j u
  knows_drawn value who next serving id j u k = let a = k.below in record { fits = fits_drawn value who next serving id j u.stage k.fits; own = k.own; numbers = k.numbers; below = omega arith; few = k.few; from = k.from; blank = k.blank }

  drawn_waited : (s : St journal) (r : P s) (id : ℕ) (v w : View J E) → get_elem? s.views id ≡ some v → v.stage ≡ Idle → w.stage ≡ Waits r.next
      → (t : ℕ) → r.serving ≤ t → t < r.next + 1 → (u : View J E) × (get_elem? (set s.views id w) (redrawn r.who r.next id t) ≡ some u) × HasTicket t u
  drawn_waited s r id v w at idle waits t low high = dite (ℕ_discrete t r.next)
      (λ (is : t ≡ r.next). (w, ap (λ (k : ℕ). get_elem? (set s.views id w) k) (redrawn_new r.who r.next id t is) ∙ set_there s.views id v w at, inl (waits ∙ ap (λ (k : ℕ). Waits k) (sym is))))
      (λ (ne : t ≢ r.next). let old = r.waited t low (omega arith) in let u = old.0 in
      let apart : r.who t ≢ id = λ e. let same : u ≡ v = some-injective u v (sym old.1 ∙ (ap (λ (k : ℕ). get_elem? s.views k) e ∙ at)) in idle_has_none u t (ap (λ (z : View J E). z.stage) same ∙ idle) old.2 in
      (u, ap (λ (k : ℕ). get_elem? (set s.views id w) k) (redrawn_old r.who r.next id t ne) ∙ (set_else s.views id (r.who t) w apart ∙ old.1), old.2))

  pub draws : (k id : ℕ) (me : Mine J E) → me.0.stage ≡ Idle → me.0.drawn < 2 ^ 58 * length me.0.lists → Allows RuleOf k id me 0 (λ x. (x + 1) % 2 ^ 64) (Draws me)
  draws slots id me idle few s rule wide at fits = let r = parts journal made callers s rule in framed s r id me 0 (λ x. (x + 1) % 2 ^ 64) (Draws me)
      (let v : View J E = me.0 in let w : View J E = waiting v r.next in let k = r.each id v at in
      let a = total_bound_less s.views id v at (λ j u e. (r.each j u e).few) few in let b = r.drawn in let c = r.all in let d = r.few_callers in let e : r.serving ≤ r.next = r.behind in
      let same : (r.next + 1) % 2 ^ 64 ≡ r.next + 1 = mod-eq_of_lt (omega arith) in (
        w,
        keeps,
        tt,
        subst (λ (z : ℕ). RuleOf record { words = z ∷ r.serving ∷ []; homes = r.home ∷ []; views = set s.views id w }) (sym same)
            (changed s r id v w (r.next + 1) r.serving (redrawn r.who r.next id) r.value r.home at (omega arith) r.as_made r.long
            record { fits = (redrawn_new r.who r.next id r.next refl, e, omega arith); own = k.own; numbers = k.numbers; below = le_refl (r.next + 1); few = omega arith; from = k.from; blank = λ none. absurd (nothing_owned v.lists v.drawn few none) }
            (λ j u _ e. knows_drawn r.value r.who r.next r.serving id j u (r.each j u e)) (drawn_waited s r id v w at idle refl)
            (λ none. r.at_home (λ h. none (holder_stays s.views id v w at (λ t found is. let x = sym idle ∙ is in cc) h))) (omega arith) (λ c. refl) refl r.others),
        (k.below, refl),
      ))

  -- where the ticket of the view id is served, no view holds the value
  none_holds : (s : St journal) (r : P s) (id : ℕ) (v : View J E) → get_elem? s.views id ≡ some v → v.stage ≡ Waits r.serving → ¬ IsOut s.views
  none_holds s r id v at waits h = let j = h.0 in let u = h.1 in let t = h.2 in let f = h.3 in
      let mine : Fits r.value r.who r.next r.serving id (Waits r.serving) = subst (Fits r.value r.who r.next r.serving id) waits (r.each id v at).fits in
      let theirs : Fits r.value r.who r.next r.serving j (Holds t f) = subst (Fits r.value r.who r.next r.serving j) h.5 (r.each j u h.4).fits in
      let one : j ≡ id = sym theirs.0 ∙ (ap r.who theirs.1 ∙ mine.0) in let same : u ≡ v = some-injective u v (sym h.4 ∙ (ap (λ (k : ℕ). get_elem? s.views k) one ∙ at)) in
      let e : Waits r.serving ≡ Holds t f = sym waits ∙ (ap (λ (z : View J E). z.stage) (sym same) ∙ h.5) in cc

  taken_waited : (s : St journal) (r : P s) (id : ℕ) (v w : View J E) → get_elem? s.views id ≡ some v → v.stage ≡ Waits r.serving → w.stage ≡ Holds r.serving r.value
      → (t : ℕ) → r.serving ≤ t → t < r.next → (u : View J E) × (get_elem? (set s.views id w) (r.who t) ≡ some u) × HasTicket t u
  taken_waited s r id v w at waits holds t low high = let old = r.waited t low high in let u = old.0 in dite (ℕ_discrete (r.who t) id)
      (λ (is : r.who t ≡ id). let same : u ≡ v = some-injective u v (sym old.1 ∙ (ap (λ (k : ℕ). get_elem? s.views k) is ∙ at)) in
      let has : HasTicket t v = subst (HasTicket t) same old.2 in
      let now : r.serving ≡ t = ⊎_elim (λ (e : v.stage ≡ Waits t). let d : Waits r.serving ≡ Waits t = sym waits ∙ e in let p : r.serving ≡ t = cc in p) (λ (h : (found : J) × (v.stage ≡ Holds t found)). let f : J = h.0 in let d : Waits r.serving ≡ Holds t f = sym waits ∙ h.1 in cc) has in
      (w, ap (λ (k : ℕ). get_elem? (set s.views id w) k) is ∙ set_there s.views id v w at, inr (r.value, holds ∙ ap (λ (k : ℕ). Holds k r.value) now)))
      (λ (ne : r.who t ≢ id). (u, set_else s.views id (r.who t) w ne ∙ old.1, old.2))

  unchanged : (s : St journal) → RuleOf s → (r : P s) (id : ℕ) (v : View J E) → get_elem? s.views id ≡ some v → RuleOf record { words = r.next ∷ r.serving ∷ []; homes = r.home ∷ []; views = set s.views id v }
  unchanged s rule r id v at = subst (λ vs. RuleOf record { words = r.next ∷ r.serving ∷ []; homes = r.home ∷ []; views = vs }) (sym (set_again s.views id v at))
      (subst (λ hs. RuleOf record { words = r.next ∷ r.serving ∷ []; homes = hs; views = s.views }) r.homes_are (subst (λ ws. RuleOf record { words = ws; homes = s.homes; views = s.views }) r.words_are rule))

  found : (s : St journal) (r : P s) (id : ℕ) (v : View J E) → get_elem? s.views id ≡ some v → Found journal v r.serving r.value
  found s r id v at = let k = r.each id v at in record {
    as_made = λ m e. let is = k.from m e in (r.as_made.0 ∙ ap journal.room (sym is), r.as_made.1 ∙ ap journal.base (sym is));
    long = r.long ∙ ap (λ (z : ℕ). min r.serving z) (sym r.as_made.0);
    own = k.own;
  }

  pub looks : (k id : ℕ) (me : Mine J E) → Allows RuleOf k id me 1 (λ x. x) (Looks journal me)
  looks slots id me s rule wide at fits = let r = parts journal made callers s rule in framed s r id me 1 (λ x. x) (Looks journal me)
      (let v : View J E = me.0 in let k = r.each id v at in dite (is_waiting v.stage r.serving)
      (λ (waits : v.stage ≡ Waits r.serving). let w : View J E = at_stage v (Holds r.serving r.value) in
      let mine : Fits r.value r.who r.next r.serving id (Waits r.serving) = subst (Fits r.value r.who r.next r.serving id) waits k.fits in
      let home = r.at_home (none_holds s r id v at waits) in (
        w,
        takes 0 (Some r.value),
        ap some home,
        changed s r id v w r.next r.serving r.who r.value none at r.behind r.as_made r.long
            record { fits = (mine.0, refl, mine.2, refl); own = k.own; numbers = k.numbers; below = k.below; few = k.few; from = k.from; blank = λ e. let d : Waits r.serving ≡ Idle = sym waits ∙ k.blank e in cc }
            (λ j u _ e. r.each j u e) (taken_waited s r id v w at waits refl) (λ none. absurd (none (id, w, r.serving, r.value, set_there s.views id v w at, refl))) refl (λ c. refl) refl r.others,
        (
          (λ _. (
            r.value,
            found s r id v at,
            refl,
          )),
          λ miss. absurd (miss waits),
        ),
      ))
      (λ (not : v.stage ≢ Waits r.serving). (v, keeps, tt, unchanged s rule r id v at, ((λ hit. absurd (not hit)), λ _. refl))))

  -- no caller stands in two views
  apart : (s : St journal) (r : P s) (id j : ℕ) (v u : View J E) (m k : ℕ) (o p : OwnList E) → j ≢ id → get_elem? s.views id ≡ some v → get_elem? s.views j ≡ some u → get_elem? v.lists m ≡ some o → get_elem? u.lists k ≡ some p → p.caller ≢ o.caller
  apart s r id j v u m k o p ne at there mine theirs e = let c : ℕ = o.caller in let f : View J E → ℕ = λ z. times c z.lists in let a = total_two f s.views j id u v ne there at in let b = r.once c in
      let x = stands_there v.lists m o mine in let y : 1 ≤ times c u.lists = subst (λ (z : ℕ). 1 ≤ times z u.lists) e (stands_there u.lists k p theirs) in omega arith

  passed_waited : (s : St journal) (r : P s) (id : ℕ) (v w : View J E) (t : ℕ) (x : J) → get_elem? s.views id ≡ some v → v.stage ≡ Holds t x → t ≡ r.serving
      → (k : ℕ) → r.serving + 1 ≤ k → k < r.next → (u : View J E) × (get_elem? (set s.views id w) (r.who k) ≡ some u) × HasTicket k u
  passed_waited s r id v w t x at holds now k low high = let old = r.waited k (omega arith) high in let u = old.0 in
      let ne : r.who k ≢ id = λ is. let same : u ≡ v = some-injective u v (sym old.1 ∙ (ap (λ (z : ℕ). get_elem? s.views z) is ∙ at)) in
      let has : HasTicket k v = subst (HasTicket k) same old.2 in
      let is' : t ≡ k = ⊎_elim (λ (e : v.stage ≡ Waits k). let d : Holds t x ≡ Waits k = sym holds ∙ e in cc) (λ (h : (found : J) × (v.stage ≡ Holds k found)). let f : J = h.0 in let d : Holds t x ≡ Holds k f = sym holds ∙ h.1 in let p : t ≡ k = cc in p) has in omega arith in
      (u, set_else s.views id (r.who k) w ne ∙ old.1, old.2)

  pub passes : (k id : ℕ) (me : Mine J E) (o : OwnList E) (t : ℕ) (x y : J) → me.0.lists ≡ o ∷ [] → me.0.stage ≡ Holds t x → me.1 ≡ (0, Some y) ∷ [] → Follows journal o.caller t x y
      → Allows RuleOf k id me 1 (λ z. (z + 1) % 2 ^ 64) (λ z m. PassesOn journal me m)
  passes slots id me o t x y owns holds has follows s rule wide at fits = let r = parts journal made callers s rule in framed s r id me 1 (λ z. (z + 1) % 2 ^ 64) (λ z m. PassesOn journal me m)
      (let v : View J E = me.0 in let k = r.each id v at in let w : View J E = rested journal v o.caller y in
      let mine : Fits r.value r.who r.next r.serving id (Holds t x) = subst (Fits r.value r.who r.next r.serving id) holds k.fits in
      let now : t ≡ r.serving = mine.1 in let less : t < r.next = mine.2 in let is : x ≡ r.value = mine.3 in let wrap = no_wrap s r in let same : (r.serving + 1) % 2 ^ 64 ≡ r.serving + 1 = mod-eq_of_lt (omega arith) in
      let f : Follows journal o.caller r.serving r.value y = subst (λ (z : ℕ × J). Follows journal o.caller z.0 z.1 y) (λ i. (now i, is i)) follows in
      let served : r.who r.serving ≡ id = ap r.who (sym now) ∙ mine.0 in let here : get_elem? v.lists 0 ≡ some o = ap (λ (l : List (OwnList E)). get_elem? l 0) owns in
      let stood : (c : ℕ) → times c w.lists ≡ times c v.lists = λ c. ap (times c) (sym owns) in let one : length w.lists ≡ length v.lists = ap length (sym owns) in
      let few : v.drawn ≤ 2 ^ 58 * length v.lists = k.few in (
        w,
        gives,
        tt,
        subst (λ (z : ℕ). RuleOf record { words = r.next ∷ z ∷ []; homes = homes_after (r.home ∷ []) me.1 gives; views = set s.views id w }) (sym same)
            (subst (λ (l : List (ℕ × Option J)). RuleOf record { words = r.next ∷ (r.serving + 1) ∷ []; homes = homes_after (r.home ∷ []) l gives; views = set s.views id w }) (sym has)
            (changed s r id v w r.next (r.serving + 1) r.who y (some (Some y)) at (omega arith) (f.0 ∙ r.as_made.0, f.1 ∙ r.as_made.1)
            (follows_long journal o.caller r.serving r.value y f (r.long ∙ ap (min r.serving) (sym r.as_made.0)) ∙ ap (min (r.serving + 1)) (f.0 ∙ r.as_made.0))
            record {
              fits = tt;
              own = λ m p e. let a = only_one _ p m e in subst (IsOwn journal y) a refl;
              numbers = λ m p e. let a = only_one _ p m e in subst (λ (z : OwnList E). z.caller < callers) a (k.numbers 0 o here);
              below = k.below;
              few = subst (λ (z : ℕ). v.drawn ≤ 2 ^ 58 * z) (sym one) few;
              from = k.from;
              blank = λ e. cc;
            }
            (λ j u ne e. let q = r.each j u e in record {
              fits = fits_passed r.value y r.who r.next r.serving id j u.stage served ne q.fits;
              own = λ m p d. q.own m p d ∙ sym (follows_other journal o.caller p.caller r.serving r.value y f (apart s r id j v u 0 m o p ne at e here d));
              numbers = q.numbers;
              below = q.below;
              few = q.few;
              from = q.from;
              blank = q.blank;
            })
            (passed_waited s r id v w t x at holds now) (λ none. refl) refl stood one (λ c far. let low = k.numbers 0 o here in follows_other journal o.caller c r.serving r.value y f (λ e. omega arith) ∙ r.others c far))),
        (t, x, y, o, holds, subst (λ (z : ℕ × J). Found journal v z.0 z.1) (λ i. (sym now i, sym is i)) (found s r id v at), has, owns, ap (λ (l : List (ℕ × Option J)). (w, carried_after l gives)) has),
      ))
