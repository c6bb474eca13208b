-- The seats are joined one by one.
use Rattle.std.proofs.Common.{◌≡◌, ◌+◌, List, [], ◌∷◌, ◌++◌, length, refl, ap, ◌∙◌, ◌<◌, append_assoc, length-append, arith}
use Rattle.std.specs.Prelude.{All}
use Rattle.std.proofs.lemmas.List.Elements.{All-cons, All-nil, All-weaker}
use Rattle.update_lock.specs.declared.view.OwnList.{OwnList}
use Rattle.update_lock.specs.declared.view.View.{View}
use Rattle.update_lock.specs.Steps.{Mine, both}
use Rattle.update_lock.specs.Seats.{IsSingle, Has}
use Rattle.update_lock.proofs.Ending.{has_first, has_more, has_new}

module _ {A J E : Type 0} (f : A → Mine J E) where
  -- these are left, and the view w has the callers of the others
  abbrev pub Joined : List A → List A → View J E → Type 0
  Joined seats left w = (done : List A) × (seats ≡ left ++ done) × (length w.lists ≡ length done) × All (λ s. Has (f s).0 w) done

  pub joins_first : (seats left : List A) (x : A) (w : View J E) → seats ≡ left ++ x ∷ [] → IsSingle (f x).0 → w ≡ (f x).0 → Joined seats left w
  joins_first seats left x w is one e = (
    x ∷ [],
    is,
    ap (λ (v : View J E). length v.lists) e ∙ ap length one,
    All-cons (λ s. Has (f s).0 w) x [] (has_first (f x).0 w one e) (All-nil (λ s. Has (f s).0 w)),
  )

  pub joins_next : (seats old left : List A) (x : A) (w z : View J E) → old ≡ left ++ x ∷ [] → IsSingle (f x).0 → z ≡ both w (f x).0 → Joined seats old w → Joined seats left z
  joins_next seats old left x w z is one e h = let d : List A = h.0 in let n : length w.lists ≡ length d = h.2 in
      let m : length z.lists ≡ length w.lists + 1 = ap (λ (v : View J E). length v.lists) e ∙ (length-append w.lists (f x).0.lists ∙ ap (λ (l : List (OwnList E)). length w.lists + length l) one) in (
        x ∷ d,
        h.1 ∙ (ap (λ l. l ++ d) is ∙ append_assoc left (x ∷ []) d),
        omega arith,
        All-cons (λ s. Has (f s).0 z) x d (has_new w (f x).0 z e one) (All-weaker (λ s. Has (f s).0 w) (λ s. Has (f s).0 z) (λ s. has_more (f s).0 w (f x).0 z e) d h.3),
      )

-- an empty row
pub none_left : {A : Type 0} (xs : List A) → ¬ (0 < length xs) → xs ≡ []
none_left [] h = refl
none_left (x ∷ xs) h = absurd (h (omega arith))
