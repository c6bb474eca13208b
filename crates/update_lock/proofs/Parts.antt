-- The rule by views: all that it says of one view stands together, as the steps need it.
use Rattle.std.proofs.Common.{◌≡◌, ℕ, ◌*◌, ◌^◌, ◌<◌, ◌≤◌, min, [], ◌∷◌, length, sym, refl, ap, ◌∙◌, subst, inl, inr, arith}
use mathlib.Core.Option.{some}
use mathlib.Core.Option as maybe
use lib.ListN.{get_elem?}
use Rattle.std.specs.Prelude.{Option, Some}
use Rattle.atomic_table.specs.Table.{State}
use Rattle.update_lock.specs.declared.journaled.Journaled.{Ghosts}
use Rattle.update_lock.specs.declared.view.Stage.{Stage}
use Rattle.update_lock.specs.declared.view.Stage.TheVariants.{Idle, Waits, Holds}
use Rattle.update_lock.specs.declared.view.View.{View}
use Rattle.update_lock.specs.Views.{total, times_in_all, placed, EachList, HasTurn, HasTicket, IsOut}
use Rattle.update_lock.specs.Rule.{IsAsMade, IsOwn, Rule}

module _ {J : Type 0} where
  -- what the stage of the view i says, where the view `who t` drew the ticket t
  abbrev pub Fits : J → (ℕ → ℕ) → ℕ → ℕ → ℕ → Stage J → Type 0
  Fits value who next serving i Idle = Unit {0}
  Fits value who next serving i (Waits t) = (who t ≡ i) × (serving ≤ t) × (t < next)
  Fits value who next serving i (Holds t found) = (who t ≡ i) × (t ≡ serving) × (t < next) × (found ≡ value)

module _ {J E B : Type 0} (journal : Ghosts J E B) where
  abbrev pub St : Type 0
  St = State (Option J) (View J E)

  pub record Knows (made : J) (n : ℕ) (value : J) (who : ℕ → ℕ) (next serving i : ℕ) (v : View J E) : Type 0 where
    pub fits : Fits value who next serving i v.stage
    pub own : EachList v (IsOwn journal value)
    pub numbers : EachList v (λ o. o.caller < n)
    pub below : v.after_last ≤ next
    pub few : v.drawn ≤ 2 ^ 58 * length v.lists
    pub from : (m : J) → v.made ≡ Some m → m ≡ made
    pub blank : v.lists ≡ [] → v.stage ≡ Idle

  pub record Parts (made : J) (n : ℕ) (s : St) : Type 0 where
    pub value : J
    pub who : ℕ → ℕ
    pub next : ℕ
    pub serving : ℕ
    pub home : maybe.Option (Option J)
    pub words_are : s.words ≡ next ∷ serving ∷ []
    pub homes_are : s.homes ≡ home ∷ []
    pub behind : serving ≤ next
    pub as_made : IsAsMade journal made value
    pub long : length (journal.log value) ≡ min serving (journal.room made)
    pub each : (i : ℕ) (v : View J E) → get_elem? s.views i ≡ some v → Knows made n value who next serving i v
    pub waited : (t : ℕ) → serving ≤ t → t < next → (v : View J E) × (get_elem? s.views (who t) ≡ some v) × HasTicket t v
    pub at_home : ¬ IsOut s.views → home ≡ some (Some value)
    pub drawn : total (λ (v : View J E). v.drawn) s.views ≡ next
    pub once : (c : ℕ) → times_in_all c s.views ≤ 1
    pub all : total (λ (v : View J E). length v.lists) s.views ≡ n
    pub few_callers : n ≤ 16
    pub others : (c : ℕ) → n ≤ c → placed journal.caller c (journal.log value) ≡ []

  fits_of : (made : J) (n : ℕ) (s : St) (r : Rule journal made n s) (i : ℕ) (v : View J E) → get_elem? s.views i ≡ some v → (st : Stage J) → v.stage ≡ st → Fits r.value r.drawer r.next r.serving i st
  fits_of made n s r i v at Idle e = tt
  fits_of made n s r i v at (Waits t) e = let a = r.tickets.no_other i v at t (inl e) in (a.0, a.1, a.2)
  fits_of made n s r i v at (Holds t found) e = let a = r.tickets.no_other i v at t (inr (found, e)) in let b = r.turn i v at t found e in (a.0, b.1, a.2, r.named i v at t found e)

  pub parts : (made : J) (n : ℕ) (s : St) → Rule journal made n s → Parts made n s
  parts made n s r = record {
    value = r.value;
    who = r.drawer;
    next = r.next;
    serving = r.serving;
    home = r.home;
    words_are = r.words;
    homes_are = r.slot;
    behind = r.below.0;
    as_made = r.as_made.0;
    long = r.long;
    each = λ i v at. record {
      fits = fits_of made n s r i v at v.stage refl;
      own = r.own i v at;
      numbers = r.callers.numbers i v at;
      below = r.below.1 i v at;
      few = r.drawn.1 i v at;
      from = r.as_made.1 i v at;
      blank = r.callers.spent i v at;
    };
    waited = r.tickets.each;
    at_home = r.at_home;
    drawn = r.drawn.0;
    once = r.callers.once;
    all = r.callers.all;
    few_callers = r.callers.few;
    others = r.callers.others;
  }

  ticket_of : (value : J) (who : ℕ → ℕ) (next serving i t : ℕ) (v : View J E) → Fits value who next serving i v.stage → HasTicket t v → (who t ≡ i) × (serving ≤ t) × (t < next)
  ticket_of value who next serving i t v fits (inl e) = let f : Fits value who next serving i (Waits t) = subst (Fits value who next serving i) e fits in (f.0, f.1, f.2)
  ticket_of value who next serving i t v fits (inr (found, e)) = let f : Fits value who next serving i (Holds t found) = subst (Fits value who next serving i) e fits in let is : t ≡ serving = f.1 in (f.0, omega arith, f.2)

  turn_of : (value : J) (who : ℕ → ℕ) (next serving i t : ℕ) (found : J) (v : View J E) → Fits value who next serving i v.stage → HasTurn t found v → (i ≡ who serving) × (t ≡ serving) × (found ≡ value)
  turn_of value who next serving i t found v fits e = let f : Fits value who next serving i (Holds t found) = subst (Fits value who next serving i) e fits in (sym f.0 ∙ ap who f.1, f.1, f.3)

  pub rule_of : (made : J) (n : ℕ) (s : St) → Parts made n s → Rule journal made n s
  rule_of made n s p = record {
    next = p.next;
    serving = p.serving;
    value = p.value;
    drawer = p.who;
    home = p.home;
    words = p.words_are;
    slot = p.homes_are;
    below = (p.behind, λ i v at. (p.each i v at).below);
    tickets = record { each = p.waited; no_other = λ i v at t has. ticket_of p.value p.who p.next p.serving i t v (p.each i v at).fits has };
    turn = λ i v at t found has. let o = turn_of p.value p.who p.next p.serving i t found v (p.each i v at).fits has in (o.0, o.1);
    at_home = p.at_home;
    long = p.long;
    named = λ i v at t found has. let o = turn_of p.value p.who p.next p.serving i t found v (p.each i v at).fits has in o.2;
    callers = record { few = p.few_callers; all = p.all; numbers = λ i v at. (p.each i v at).numbers; once = p.once; others = p.others; spent = λ i v at. (p.each i v at).blank };
    own = λ i v at. (p.each i v at).own;
    as_made = (p.as_made, λ i v at. (p.each i v at).from);
    drawn = (p.drawn, λ i v at. (p.each i v at).few);
  }
