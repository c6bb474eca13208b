-- What a seat finds at `take`, and what it knows after `give`.
use Rattle.std.proofs.Common.{◌≡◌, ℕ, ◌+◌, ◌<◌, ◌≤◌, min, List, [], ◌∷◌, ◌++◌, length, sym, refl, ap, ◌∙◌, subst, arith}
use lib.ListN.{get_elem?}
use Rattle.std.specs.Prelude.{Option, Some}
use Rattle.update_lock.specs.declared.journaled.Journaled.{Ghosts}
use Rattle.update_lock.specs.declared.view.OwnList.{OwnList}
use Rattle.update_lock.specs.declared.view.Stage.TheVariants.{Holds}
use Rattle.update_lock.specs.declared.view.View.{View}
use Rattle.update_lock.specs.Views.{placed}
use Rattle.update_lock.specs.Rule.{IsAsMade, Follows}
use Rattle.update_lock.specs.Steps.{Mine, Found, rested, PassesOn, Draws, waiting, at_stage}
use Rattle.update_lock.specs.Seats.{own_of, IsSingle}
use Rattle.update_lock.proofs.Keeps.{placed_same}

abbrev front : {J : Type 0} → Option J → List (ℕ × Option J) → Option J
front d [] = d
front d (z ∷ zs) = z.1

one_held : {J : Type 0} (l : List (ℕ × Option J)) (x y : J) (k h : List (ℕ × Option J)) → l ≡ (0, Some x) ∷ k → l ≡ (0, Some y) ∷ h → x ≡ y
one_held l x y k h a b = let e : Some x ≡ Some y = ap (front (Some x)) (sym a ∙ b) in cc

module _ {J E B : Type 0} (journal : Ghosts J E B) where
  -- what is found at the place t
  abbrev pub FindsAt : J → View J E → ℕ → J → Type 0
  FindsAt made v t found = IsAsMade journal made found × (length (journal.log found) ≡ min t (journal.room found)) × ((own_of v).entries ≡ placed journal.caller (own_of v).caller (journal.log found))

  -- the own list grows by the entry that was added, or stays
  abbrev pub GrowsAt : View J E → ℕ → J → J → View J E → Type 0
  GrowsAt v t found given w = (w.drawn ≡ v.drawn) × (w.after_last ≡ v.after_last) × ((own_of w).caller ≡ (own_of v).caller)
      × (t < journal.room found → (e : E) × (journal.caller e ≡ (own_of v).caller) × (journal.log given ≡ journal.log found ++ e ∷ []) × ((own_of w).entries ≡ (own_of v).entries ++ (t, e) ∷ []))
      × (journal.room found ≤ t → (own_of w).entries ≡ (own_of v).entries)

  own_found : (v : View J E) (t : ℕ) (x : J) → IsSingle v → Found journal v t x → (own_of v).entries ≡ placed journal.caller (own_of v).caller (journal.log x)
  own_found v t x one f = f.own 0 (own_of v) (ap (λ (l : List (OwnList E)). get_elem? l 0) one)

  grows_here : (v : View J E) (t : ℕ) (x y : J) → IsSingle v → Found journal v t x → Follows journal (own_of v).caller t x y → GrowsAt v t x y (rested journal v (own_of v).caller y)
  grows_here v t x y one f follows = let c : ℕ = (own_of v).caller in let mine = own_found v t x one f in (
    refl,
    refl,
    refl,
    (λ less. let g = follows.2 less in let e = g.0 in let long = f.long in let at : 0 + length (journal.log x) ≡ t = omega arith in
        (e, g.1, g.2, ap (placed journal.caller c) g.2 ∙ (placed_same journal.caller c 0 (journal.log x) e g.1 ∙ (λ i. sym mine i ++ (at i, e) ∷ [])))),
    λ more. ap (placed journal.caller c) (follows.3 more) ∙ sym mine,
  )

  pub taken : (made : J) (m₀ m₁ m₂ : Mine J E) (t : ℕ) (value x : J) → m₀.0.made ≡ Some made → IsSingle m₀.0 → Draws m₀ t m₁
      → ((y : J) × Found journal m₁.0 t y × (m₂ ≡ (at_stage m₁.0 (Holds t y), (0, Some y) ∷ m₁.1))) → m₂.1 ≡ (0, Some value) ∷ [] → x ≡ value → FindsAt made m₀.0 t x
  taken made m₀ m₁ m₂ t value x is_made one d f held is = let e : f.0 ≡ x = one_held m₂.1 f.0 value m₁.1 [] (ap (λ (z : Mine J E). z.1) f.2) held ∙ sym is in
      let g : Found journal (waiting m₀.0 t) t x = subst (λ (z : View J E × J). Found journal z.0 t z.1) (λ i. ((d.1 i).0, e i)) f.1 in
      (g.as_made made is_made, g.long, own_found (waiting m₀.0 t) t x one g)

  pub grown : (v : View J E) (m m' : Mine J E) (t : ℕ) (x y : J) → m ≡ (v, (0, Some y) ∷ []) → v.stage ≡ Holds t x → IsSingle v → PassesOn journal m m' → Follows journal (own_of v).caller t x y → GrowsAt v t x y m'.0
  grown v m m' t x y is holds one p follows = let t' = p.0 in let x' = p.1 in let y' = p.2 in let o = p.3 in
      let st : Holds t' x' ≡ Holds t x = sym p.4 ∙ (ap (λ (z : Mine J E). z.0.stage) is ∙ holds) in let et : t' ≡ t = cc in let ex : x' ≡ x = cc in
      let ey : y' ≡ y = one_held m.1 y' y [] [] p.6 (ap (λ (z : Mine J E). z.1) is) in
      let os : o ∷ [] ≡ own_of v ∷ [] = sym p.7 ∙ (ap (λ (z : Mine J E). z.0.lists) is ∙ one) in let eo : o ≡ own_of v = cc in
      let f : Found journal v t x = subst (λ (z : View J E × ℕ × J). Found journal z.0 z.1 z.2) (λ i. ((is i).0, et i, ex i)) p.5 in
      subst (λ (z : View J E). GrowsAt v t x y z) (sym (ap (λ (z : Mine J E). z.0) p.8 ∙ (λ i. rested journal (is i).0 (eo i).caller (ey i)))) (grows_here v t x y one f follows)
