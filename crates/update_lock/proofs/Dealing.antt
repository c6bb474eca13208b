-- The views while seats are dealt.
use Rattle.std.proofs.Common.{◌≡◌, ℕ, zero, suc, ◌+◌, ◌-◌, ◌<◌, List, [], ◌∷◌, ◌++◌, map, length, sym, refl, ap, ◌∙◌, subst, length-append, arith}
use Rattle.std.specs.Prelude.{Some, All}
use Rattle.std.proofs.lemmas.List.Elements.{All-append, All-cons, All-nil}
use mathlib.Core.List.{map-append}
use Rattle.update_lock.specs.declared.view.OwnList.{OwnList}
use Rattle.update_lock.specs.declared.view.Stage.TheVariants.{Idle}
use Rattle.update_lock.specs.declared.view.View.{View}
use Rattle.update_lock.specs.Steps.{Mine, callers_from, opened, without_first, first_alone}
use Rattle.update_lock.specs.Seats.{own_of, IsSingle, numbers_from}

module _ {J E : Type 0} where
  -- what is left once k of n callers have their seats
  abbrev pub left_view : J → ℕ → ℕ → View J E
  left_view made n k = record { stage = Idle; made = Some made; lists = callers_from k (n - k); drawn = 0; after_last = 0 }

one_more : (E : Type 0) (n k : ℕ) → k < n → callers_from {E = E} k (n - k) ≡ record { caller = k; entries = [] } ∷ callers_from (k + 1) (n - (k + 1))
one_more E n k h = let e : n - k ≡ suc (n - (k + 1)) = omega arith in ap (callers_from {E = E} k) e

module _ {J : Type 0} (E : Type 0) (made : J) (n : ℕ) where
  -- a view of the callers alone
  abbrev of_callers : List (OwnList E) → View J E
  of_callers os = record { stage = Idle; made = Some made; lists = os; drawn = 0; after_last = 0 }

  abbrev one_caller : ℕ → View J E
  one_caller k = of_callers (record { caller = k; entries = [] } ∷ [])

  pub begins : opened {E = E} made n ≡ left_view made n 0
  begins = let e : n ≡ n - 0 = omega arith in λ i. of_callers (callers_from 0 (e i))

  pub cut_left : (k : ℕ) → k < n → without_first (left_view {E = E} made n k) ≡ left_view made n (k + 1)
  cut_left k h = let P : List (OwnList E) → View J E = λ o. without_first (of_callers o) in ap P (one_more E n k h)

  right_is : (k : ℕ) → k < n → first_alone (left_view {E = E} made n k) ≡ one_caller k
  right_is k h = let P : List (OwnList E) → View J E = λ o. first_alone (of_callers o) in ap P (one_more E n k h)

  last_is : (k : ℕ) → k + 1 ≡ n → left_view {E = E} made n k ≡ one_caller k
  last_is k h = let e : n - (k + 1) ≡ 0 = omega arith in ap of_callers (one_more E n k (omega arith)) ∙ (λ i. of_callers (record { caller = k; entries = [] } ∷ callers_from (k + 1) (e i)))

  -- a new seat of the caller k
  pub record NewAs (k : ℕ) (m : Mine J E) : Type 0 where
    pub made_is : m.0.made ≡ Some made
    pub single : IsSingle m.0
    pub new : ((m.0.stage ≡ Idle) × (m.1 ≡ [])) × ((own_of m.0).entries ≡ []) × (m.0.drawn ≡ 0) × (m.0.after_last ≡ 0)
    pub caller : (own_of m.0).caller ≡ k

  new_as : (k : ℕ) (m : Mine J E) → m ≡ (one_caller k, []) → NewAs k m
  new_as k m e = subst (NewAs k) (sym e) record { made_is = refl; single = refl; new = ((refl, refl), refl, refl, refl); caller = refl }

  pub cut_right : (k : ℕ) (m : Mine J E) → k < n → m ≡ (first_alone (left_view made n k), []) → NewAs k m
  cut_right k m h e = new_as k m (e ∙ ap (λ (v : View J E). (v, [])) (right_is k h))

  pub last_new : (k : ℕ) (m : Mine J E) → k + 1 ≡ n → m ≡ (left_view made n k, []) → NewAs k m
  last_new k m h e = new_as k m (e ∙ ap (λ (v : View J E). (v, [])) (last_is k h))

numbers-snoc : (k n : ℕ) → numbers_from k n ++ (k + n) ∷ [] ≡ numbers_from k (n + 1)
numbers-snoc k zero = let e : k + 0 ≡ k = omega arith in ap (λ (z : ℕ). z ∷ []) e
numbers-snoc k (suc n) = let e : k + suc n ≡ k + 1 + n = omega arith in let f : suc (n + 1) ≡ suc n + 1 = omega arith in
    ap (λ (l : List ℕ). k ∷ l) (ap (λ (z : ℕ). numbers_from (k + 1) n ++ z ∷ []) e ∙ numbers-snoc (k + 1) n) ∙ ap (numbers_from k) f

module _ {A : Type 0} where
  pub All-push : (xs ys : List A) (x : A) (P : A → Type 0) → ys ≡ xs ++ x ∷ [] → All P xs → P x → All P ys
  All-push xs ys x P e all one = subst (All P) (sym e) (All-append P xs (x ∷ []) all (All-cons P x [] one (All-nil P)))

  pub map-push : (xs ys : List A) (x : A) (f : A → ℕ) → ys ≡ xs ++ x ∷ [] → map f xs ≡ numbers_from 0 (length xs) → f x ≡ length xs → map f ys ≡ numbers_from 0 (length ys)
  map-push xs ys x f e before is = let n : length xs + 1 ≡ length ys = sym (ap length e ∙ length-append xs (x ∷ [])) in let z : 0 + length xs ≡ length xs = omega arith in
      ap (map f) e ∙ (map-append f xs (x ∷ []) ∙ (ap (λ (l : List ℕ). l ++ f x ∷ []) before ∙ (ap (λ (k : ℕ). numbers_from 0 (length xs) ++ k ∷ []) (is ∙ sym z) ∙ (numbers-snoc 0 (length xs) ∙ ap (numbers_from 0) n))))

module _ {A : Type 0} (f : A → ℕ) where
  -- the last of some numbered ones has the last number
  numbers_end : (ys : List A) (x : A) (k : ℕ) → map f (ys ++ x ∷ []) ≡ numbers_from k (suc (length ys)) → (map f ys ≡ numbers_from k (length ys)) × (f x ≡ k + length ys)
  numbers_end [] x k e = let is : f x ≡ k = cc in (refl, omega arith)
  numbers_end (y ∷ ys) x k e = let first : f y ≡ k = cc in let others : map f (ys ++ x ∷ []) ≡ numbers_from (k + 1) (suc (length ys)) = cc in let r = numbers_end ys x (k + 1) others in
      ((λ i. first i ∷ r.0 i), omega arith)

  pub map-popped : (xs ys : List A) (x : A) → xs ≡ ys ++ x ∷ [] → map f xs ≡ numbers_from 0 (length xs) → (map f ys ≡ numbers_from 0 (length ys)) × (f x ≡ length ys)
  map-popped xs ys x e numbered = let long : length xs ≡ suc (length ys) = ap length e ∙ (length-append ys (x ∷ []) ∙ omega arith) in
      let r = numbers_end ys x 0 (ap (map f) (sym e) ∙ (numbered ∙ ap (numbers_from 0) long)) in (r.0, omega arith)
