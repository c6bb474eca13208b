-- One look less in front of those whose snapshots are made.
use Rattle.std.proofs.Common.{◌≡◌, ℕ, zero, suc, ◌+◌, ◌-◌, ◌<◌, ◌≤◌, List, [], ◌∷◌, ◌++◌, length, map, take, drop, get_or, slice_get, Some, refl, sym, ap, ◌∙◌, subst, arith, append_assoc, append-nil, length-append, drop-cons}
use Rattle.std.proofs.lemmas.List.{map-append, length-map, take-append-drop}
use Rattle.std.proofs.Math.Seq.{take-append_seam}
use Rattle.std.specs.List.{AllByRecursion as Each}
use Rattle.vfs_model.specs.declared.Case.{Case}
use Rattle.vfs_model.specs.World.{digest_of_bytes}
use Rattle.vfs_model.specs.Scanning.{Look, SeesFile, names_seen, IsListed}
use Rattle.scan_walk.specs.Walking.{bytes_seen}
use Rattle.scan_walk.specs.Making.{bytes_of, made_by, made_of, AreWhole}
use Rattle.scan_walk.proofs.StepLemmas.{last-of}
use Rattle.scan_walk.proofs.ChildrenLemmas.{each-at}

bytes-append : (a b : List Look) → bytes_of (a ++ b) ≡ bytes_of a ++ bytes_of b
bytes-append [] b = refl
bytes-append (l ∷ a) b = ap (λ bs. bytes_seen l ++ bs) (bytes-append a b) ∙ sym (append_assoc (bytes_seen l) (bytes_of a) (bytes_of b))

take-here : {A : Type 0} (k : ℕ) (xs : List A) (x : A) (rest : List A) → drop k xs ≡ x ∷ rest → take (suc k) xs ≡ take k xs ++ x ∷ []
take-here zero [] x rest e = cc
take-here zero (y ∷ ys) x rest e = let is : y ≡ x = cc in ap (λ z. z ∷ []) is
take-here (suc k) [] x rest e = cc
take-here (suc k) (y ∷ ys) x rest e = ap (λ zs. y ∷ zs) (take-here k ys x rest e)

whole-drop : (k : ℕ) (looks : List Look) → AreWhole looks → AreWhole (drop k looks)
whole-drop zero looks h = h
whole-drop (suc k) [] h = tt
whole-drop (suc k) (l ∷ looks) h = whole-drop k looks h.1

here-map : {A B : Type 0} (f : A → B) (k : ℕ) (xs : List A) (x : A) (rest : List A) → drop k xs ≡ x ∷ rest → drop k (map f xs) ≡ f x ∷ drop (suc k) (map f xs)
here-map f zero [] x rest e = cc
here-map f zero (y ∷ ys) x rest e = let is : y ≡ x = cc in ap (λ z. f z ∷ map f ys) is
here-map f (suc k) [] x rest e = cc
here-map f (suc k) (y ∷ ys) x rest e = here-map f k ys x rest e

-- the look l is at place k of the looks, whose snapshots behind it are made
record IsHere (looks : List Look) (k : ℕ) (l : Look) : Type 0 where
  is : drop k looks ≡ l ∷ drop (suc k) looks

-- what holds at one look, of the looks that are left, with one more, and without it
pub record IsTurn (case : Case) (looks : List Look) (before after : ℕ) (l : Look) : Type 0 where
  pub made : made_of (drop after looks) ≡ made_by l (made_of (drop before looks))
  pub whole : length (names_seen l) ≤ length (made_of (drop before looks))
  pub listed : IsListed case (names_seen l)
  pub bytes : bytes_of (take before looks) ≡ bytes_of (take after looks) ++ bytes_seen l

turn-here : (case : Case) (looks : List Look) (k : ℕ) (l : Look) → IsHere looks k l → AreWhole looks → Each (λ j. IsListed case (names_seen j)) looks → IsTurn case looks (suc k) k l
turn-here case looks k l here whole listed = record {
  made = ap made_of here.is;
  whole = let both : AreWhole (l ∷ drop (suc k) looks) = subst AreWhole here.is (whole-drop k looks whole) in both.0;
  listed = each-at (λ j. IsListed case (names_seen j)) k looks l (drop (suc k) looks) listed here.is;
  bytes = ap bytes_of (take-here k looks l (drop (suc k) looks) here.is) ∙ bytes-append (take k looks) (l ∷ []) ∙ ap (λ bs. bytes_of (take k looks) ++ bs) (append-nil (bytes_seen l));
}

-- the turn of the i-th entry from the end
pub turn-at : {A : Type 0} (f : A → Look) (case : Case) (seen : List A) (i : ℕ) (e : A) → i < length seen → e ≡ get_or seen (length seen - 1 - i) e
    → AreWhole (map f seen) → Each (λ j. IsListed case (names_seen j)) (map f seen) → IsTurn case (map f seen) (length seen - i) (length seen - (i + 1)) (f e)
turn-at {A} f case seen i e within is whole listed =
    let k = length seen - 1 - i in
    let before : length seen - i ≡ suc k = omega arith in
    let after : length seen - (i + 1) ≡ k = omega arith in
    let here : drop k seen ≡ e ∷ drop (suc k) seen = drop-cons seen k e (omega arith) ∙ ap (λ x. x ∷ drop (suc k) seen) (sym is) in
    coe 1 0 (j. IsTurn case (map f seen) (before j) (after j) (f e))
    (turn-here case (map f seen) k (f e) (record { is = here-map f k seen e (drop (suc k) seen) here }) whole listed)

-- ---- the digests

-- the first digests are those of the first looks
pub digests-taken : (looks : List Look) (k : ℕ) (digests : List (List ℕ)) → digests ≡ map digest_of_bytes (bytes_of looks) → take (length (bytes_of (take k looks))) digests ≡ map digest_of_bytes (bytes_of (take k looks))
digests-taken looks k digests e =
    let parts : map digest_of_bytes (bytes_of looks) ≡ map digest_of_bytes (bytes_of (take k looks)) ++ map digest_of_bytes (bytes_of (drop k looks)) =
    ap (λ ls. map digest_of_bytes (bytes_of ls)) (sym (take-append-drop k looks)) ∙ ap (map digest_of_bytes) (bytes-append (take k looks) (drop k looks)) ∙ map-append digest_of_bytes (bytes_of (take k looks)) (bytes_of (drop k looks)) in
    ap (take (length (bytes_of (take k looks)))) (e ∙ parts)
    ∙ ap (λ n. take n (map digest_of_bytes (bytes_of (take k looks)) ++ map digest_of_bytes (bytes_of (drop k looks)))) (sym (length-map (bytes_of (take k looks)) digest_of_bytes))
    ∙ take-append_seam (map digest_of_bytes (bytes_of (take k looks))) (map digest_of_bytes (bytes_of (drop k looks)))

-- there are as many as bytes were read
pub few-digests : (looks : List Look) (k : ℕ) (digests : List (List ℕ)) → digests ≡ map digest_of_bytes (bytes_of looks) → length (bytes_of (take k looks)) ≤ length digests
few-digests looks k digests e =
    let all = ap bytes_of (sym (take-append-drop k looks)) ∙ bytes-append (take k looks) (drop k looks) in
    omega (arith, ap length e, length-map (bytes_of looks) digest_of_bytes, ap length all, length-append (bytes_of (take k looks)) (bytes_of (drop k looks)))

-- the last of them is that of the file that was seen
pub digest-last : (digests : List (List ℕ)) (before after : List (List ℕ)) (l : Look) (bytes : List ℕ) → digests ≡ map digest_of_bytes before → before ≡ after ++ bytes_seen l → l ≡ SeesFile bytes
    → slice_get digests (length digests - 1) ≡ Some (digest_of_bytes bytes)
digest-last digests before after l bytes e turn file =
    let parts : before ≡ after ++ bytes ∷ [] = turn ∙ ap (λ k. after ++ bytes_seen k) file in
    last-of digests (map digest_of_bytes after) (digest_of_bytes bytes) (e ∙ ap (map digest_of_bytes) parts ∙ map-append digest_of_bytes after (bytes ∷ []))
