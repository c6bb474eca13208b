-- What a walk keeps from look to look.
use Rattle.std.proofs.Common.{◌≡◌, ◌↔◌, ℕ, ◌+◌, ◌-◌, ◌≤◌, List, [], ◌∷◌, ◌++◌, length, map, reverse, Option, Some, None, IsSome, option_map, slice_get, take, refl, sym, ap, ◌∙◌, subst, arith, append_assoc, length-append, append-nil}
use Rattle.std.proofs.lemmas.List.{map-append, length-map, reverse-append, reverse-reverse, length-reverse}
use Rattle.std.proofs.Math.Seq.{take-append_seam}
use Rattle.std.specs.List.{AllByRecursion as Each}
use Rattle.std.specs.Option.{ForSome}
use Rattle.vfs_model.specs.declared.Case.{Case}
use Rattle.vfs_model.specs.Paths.{Name, Path}
use Rattle.vfs_model.specs.Scanning.{Look, SeesNothing, SeesFile, SeesDir, names_seen, PartialSnapshot, Unread, unread, partial_of_look, next_left, count_left, after_look, after_looks, partial_names, partial_children, readings, looks_of, Reading, Walk, walk_of, read_first, children_at, contents, contents_in, locations_left, first_of, IsListed}
use Rattle.vfs_model.specs.Sound.{IsLook}
use Rattle.vfs_laws.proofs.WorldLemmas.{length-place}
use Rattle.vfs_laws.proofs.RetainedLemmas.{each-append}
use Rattle.vfs_laws.proofs.ScanningLemmas.{partial_at-unread, look-partial, after_look-listed, after_look-deep}
use Rattle.vfs_laws.proofs.ContentsLemmas.{after_read-adds}
use Rattle.vfs_laws.proofs.WalkLemmas.{walk-after_looks, locations_left-next_left, locations_left-count_left}
use Rattle.scan_walk.specs.Progress.{Progress, IsShaped}
use Rattle.scan_walk.specs.Walking.{bytes_seen, progress_after, IsWalk}

heads : {A : Type 0} {a b : A} {x y : List A} → a ∷ x ≡ b ∷ y → a ≡ b
heads e = cc

tails : {A : Type 0} {a b : A} {x y : List A} → a ∷ x ≡ b ∷ y → x ≡ y
tails e = cc

-- ---- the stack

last-push : {A : Type 0} (xs : List A) (y : A) → slice_get (xs ++ y ∷ []) (length xs) ≡ Some y
last-push [] y = refl
last-push (x ∷ xs) y = last-push xs y

-- the last of a list
pub last-of : {A : Type 0} (stack xs : List A) (y : A) → stack ≡ xs ++ y ∷ [] → slice_get stack (length stack - 1) ≡ Some y
last-of stack xs y e =
    let n : length (xs ++ y ∷ []) - 1 ≡ length xs = omega (arith, length-append xs (y ∷ [])) in
    (λ i. slice_get (e i) (length (e i) - 1)) ∙ ap (slice_get (xs ++ y ∷ [])) n ∙ last-push xs y

front-of : (stack xs : List Path) (y : Path) → stack ≡ xs ++ y ∷ [] → take (length stack - 1) stack ≡ xs
front-of stack xs y e =
    let n : length (xs ++ y ∷ []) - 1 ≡ length xs = omega (arith, length-append xs (y ∷ [])) in
    (λ i. take (length (e i) - 1) (e i)) ∙ ap (λ k. take k (xs ++ y ∷ [])) n ∙ take-append_seam xs (y ∷ [])

-- a stack that is, the next one last, this list
stack-is : (stack : List Path) (x : Path) (xs : List Path) → reverse stack ≡ x ∷ xs → stack ≡ reverse xs ++ x ∷ []
stack-is stack x xs e = sym (reverse-reverse stack) ∙ ap reverse e ∙ reverse-append (x ∷ []) xs

next-by : (path : Path) (stack ls : List Path) → reverse stack ≡ map (λ y. path ++ y) ls → slice_get stack (length stack - 1) ≡ option_map (λ y. path ++ y) (first_of ls)
next-by path stack [] e = let none : stack ≡ [] = sym (reverse-reverse stack) ∙ ap reverse e in ap (λ xs. slice_get xs (length xs - 1)) none
next-by path stack (y ∷ ys) e = last-of stack (reverse (map (λ x. path ++ x) ys)) (path ++ y) (stack-is stack (path ++ y) (map (λ x. path ++ x) ys) e)

-- the last path of the stack is the next location
pub walk-next : (p : Progress) (looks : List Look) (bytes : List (List ℕ)) (stack : List Path) → IsWalk p looks bytes stack → slice_get stack (length stack - 1) ≡ option_map (λ y. p.path ++ y) (next_left p.partial)
walk-next p looks bytes stack h = next-by p.path stack (locations_left p.partial) h.left ∙ ap (option_map (λ y. p.path ++ y)) (sym (locations_left-next_left p.partial))

-- the stack is as high as locations are left
pub walk-left : (p : Progress) (looks : List Look) (bytes : List (List ℕ)) (stack : List Path) → IsWalk p looks bytes stack → length stack ≡ count_left p.partial
walk-left p looks bytes stack h = sym (length-reverse stack) ∙ ap length h.left ∙ length-map (locations_left p.partial) (λ y. p.path ++ y) ∙ sym (locations_left-count_left p.partial)

-- none is left exactly where the count is 0
pub count-done : (s : PartialSnapshot) → (count_left s ≡ 0) ↔ (next_left s ≡ None)
count-done s = (λ e. locations_left-next_left s ∙ none (locations_left s) (sym (locations_left-count_left s) ∙ e), λ e. locations_left-count_left s ∙ empty (locations_left s) (sym (locations_left-next_left s) ∙ e))
  where
    none : (xs : List Path) → length xs ≡ 0 → first_of xs ≡ None
    none [] e = refl
    none (x ∷ xs) e = cc

    empty : (xs : List Path) → first_of xs ≡ None → length xs ≡ 0
    empty [] e = refl
    empty (x ∷ xs) e = cc

-- ---- the begin

-- a walk that has read nothing
pub walk-begin : (case : Case) (path : Path) → IsWalk (progress_after case path []) [] [] (path ∷ [])
walk-begin case path = record {
  shape = record {
    partial = λ x. subst (λ t. IsListed case (partial_names (partial_children t))) (sym (partial_at-unread case x)) (record { order = tt; few = omega arith });
    shallow = λ x deep. ap (λ t. partial_names (partial_children t)) (partial_at-unread case x);
    front = tt;
  };
  listed = tt;
  seen = refl;
  read = refl;
  left = ap (λ p. p ∷ []) (sym (append-nil path));
}

-- ---- a look

after_looks-push : (s : PartialSnapshot) (looks : List Look) (l : Look) → after_looks s (looks ++ l ∷ []) ≡ after_look l (after_looks s looks)
after_looks-push s [] l = refl
after_looks-push s (k ∷ looks) l = after_looks-push (after_look k s) looks l

contents-unread : (ns : List Name) → contents_in (unread ns) ≡ []
contents-unread [] = refl
contents-unread (n ∷ ns) = contents-unread ns

contents-seen : (l : Look) → contents (partial_of_look l) ≡ bytes_seen l
contents-seen SeesNothing = refl
contents-seen (SeesFile bytes) = refl
contents-seen (SeesDir names) = contents-unread names

-- the two lists of a walk after a look
walk-push : (l : Look) (p : Progress) (y : Path) (ys : List Path) → IsShaped p → locations_left p.partial ≡ y ∷ ys
    → walk_of (after_look l p.partial) ≡ record { read = readings p.partial ++ record { names = y; look = l } ∷ []; left = children_at y (names_seen l) ++ ys }
walk-push l p y ys h e = walk-after_looks (l ∷ []) p.partial h.front ∙ ap (read_first l (readings p.partial)) e

children-under : (path y : Path) (ns : List Name) → map (λ n. (path ++ y) ++ n ∷ []) ns ≡ map (λ x. path ++ x) (children_at y ns)
children-under path y [] = refl
children-under path y (n ∷ ns) = λ i. append_assoc path y (n ∷ []) i ∷ children-under path y ns i

-- the progress after a look
abbrev pub after : Look → Progress → Progress
after l p = record { case = p.case; path = p.path; partial = after_look l p.partial }

step-at : (p : Progress) (looks : List Look) (bytes : List (List ℕ)) (rest : List Path) (last : Path) (children : List Path) (l : Look) (ls : List Path)
    → locations_left p.partial ≡ ls → IsShaped p → Each (λ k. IsListed p.case (names_seen k)) looks → looks_of (readings p.partial) ≡ looks → contents p.partial ≡ bytes → last ∷ reverse rest ≡ map (λ y. p.path ++ y) ls
    → ForSome (first_of ls) (λ y. IsLook p.case (length p.path + length y) l) → reverse children ≡ map (λ n. last ++ n ∷ []) (names_seen l)
    → IsWalk (after l p) (looks ++ l ∷ []) (bytes ++ bytes_seen l) (rest ++ children)
step-at p looks bytes rest last children l [] e h listed seen read left look below = cc
step-at p looks bytes rest last children l (y ∷ ys) e h listed seen read left look below =
    let next : next_left p.partial ≡ Some y = locations_left-next_left p.partial ∙ ap first_of e in
    let k : IsLook p.case (length p.path + length y) l = look y refl in
    let adds = after_read-adds l p.partial y h.front next in
    let two = walk-push l p y ys h e in
    record {
      shape = record {
        partial = after_look-listed p.case l p.partial y (look-partial p.case l k.listed) h.partial next;
        shallow = after_look-deep p.case l (length p.path) p.partial y (λ deep. k.shallow (omega (arith, deep, length-place p.case y))) h.partial next h.shallow;
        front = adds.1;
      };
      listed = each-append (λ j. IsListed p.case (names_seen j)) looks (l ∷ []) listed (k.listed, tt);
      seen = ap (λ (w : Walk). looks_of w.read) two ∙ map-append (λ (r : Reading). r.look) (readings p.partial) (record { names = y; look = l } ∷ []) ∙ ap (λ xs. xs ++ l ∷ []) seen;
      read = adds.0 ∙ (λ i. read i ++ contents-seen l i);
      left =
          reverse-append rest children
          ∙ (λ i. (below ∙ (λ j. map (λ n. heads left j ++ n ∷ []) (names_seen l)) ∙ children-under p.path y (names_seen l)) i ++ tails left i)
          ∙ sym (map-append (λ x. p.path ++ x) (children_at y (names_seen l)) ys)
          ∙ ap (λ (w : Walk). map (λ x. p.path ++ x) w.left) (sym two);
    }

-- what is asked of a look at the next location
abbrev pub IsLookNext : Progress → Look → Type 0
IsLookNext p l = ForSome (next_left p.partial) (λ y. IsLook p.case (length p.path + length y) l)

-- a walk after one more look
pub walk-step : (p : Progress) (looks : List Look) (bytes : List (List ℕ)) (stack : List Path) (last : Path) (children : List Path) (l : Look)
    → IsWalk p looks bytes stack → slice_get stack (length stack - 1) ≡ Some last → IsLookNext p l → reverse children ≡ map (λ n. last ++ n ∷ []) (names_seen l)
    → IsWalk (after l p) (looks ++ l ∷ []) (bytes ++ bytes_seen l) (take (length stack - 1) stack ++ children)
walk-step p looks bytes stack last children l h end look below =
    step-of (locations_left p.partial) refl (subst (λ (o : Option Path). ForSome o (λ y. IsLook p.case (length p.path + length y) l)) (locations_left-next_left p.partial) look)
  where
    step-of : (ls : List Path) → locations_left p.partial ≡ ls → ForSome (first_of ls) (λ y. IsLook p.case (length p.path + length y) l) → IsWalk (after l p) (looks ++ l ∷ []) (bytes ++ bytes_seen l) (take (length stack - 1) stack ++ children)
    step-of [] e k = let none : slice_get stack (length stack - 1) ≡ None = next-by p.path stack [] (h.left ∙ ap (map (λ y. p.path ++ y)) e) in cc
    step-of (y ∷ ys) e k =
        let order : reverse stack ≡ (p.path ++ y) ∷ map (λ x. p.path ++ x) ys = h.left ∙ ap (map (λ x. p.path ++ x)) e in
        let split = stack-is stack (p.path ++ y) (map (λ x. p.path ++ x) ys) order in
        let is : Some last ≡ Some (p.path ++ y) = sym end ∙ last-of stack (reverse (map (λ x. p.path ++ x) ys)) (p.path ++ y) split in
        let last_is : last ≡ p.path ++ y = cc in
        let front = front-of stack (reverse (map (λ x. p.path ++ x) ys)) (p.path ++ y) split in
        step-at p looks bytes (take (length stack - 1) stack) last children l (y ∷ ys) e h.shape h.listed h.seen h.read
        ((λ i. last_is i ∷ (ap reverse front ∙ reverse-reverse (map (λ x. p.path ++ x) ys)) i))
        k below

-- a location of 64 names lists none
pub walk-deep : (p : Progress) (looks : List Look) (bytes : List (List ℕ)) (stack : List Path) (location : Path) (l : Look)
    → IsWalk p looks bytes stack → slice_get stack (length stack - 1) ≡ Some location → IsLookNext p l → 64 ≤ length location → names_seen l ≡ []
walk-deep p looks bytes stack location l h end look deep = by (next_left p.partial) (sym end ∙ walk-next p looks bytes stack h) look
  where
    by : (o : Option Path) → Some location ≡ option_map (λ y. p.path ++ y) o → ForSome o (λ y. IsLook p.case (length p.path + length y) l) → names_seen l ≡ []
    by None e k = cc
    by (Some y) e k = let is : location ≡ p.path ++ y = cc in (k y refl).shallow (omega (arith, deep, ap length is, length-append p.path y))

-- where a location is left the stack is not empty
pub walk-some : (p : Progress) (looks : List Look) (bytes : List (List ℕ)) (stack : List Path) → IsWalk p looks bytes stack → slice_get stack (length stack - 1) ≡ None → IsSome (next_left p.partial) → ⊥
walk-some p looks bytes stack h end some = by (next_left p.partial) (sym end ∙ walk-next p looks bytes stack h) some
  where
    by : (o : Option Path) → None ≡ option_map (λ y. p.path ++ y) o → IsSome o → ⊥
    by None e k = cc
    by (Some y) e k = cc

progress-push : (case : Case) (path : Path) (looks : List Look) (l : Look) → progress_after case path (looks ++ l ∷ []) ≡ after l (progress_after case path looks)
progress-push case path looks l = ap (λ s. record { case = case; path = path; partial = s }) (after_looks-push Unread looks l)

-- a look more is one look after what there was
pub progress-see : (case : Case) (path : Path) (old new : List Look) (l : Look) → new ≡ old ++ l ∷ [] → progress_after case path new ≡ after l (progress_after case path old)
progress-see case path old new l e = ap (progress_after case path) e ∙ progress-push case path old l

-- a walk that has seen one more entry
pub walk-see : (case : Case) (path : Path) (looks new_looks : List Look) (bytes new_bytes : List (List ℕ)) (stack new_stack : List Path) (last : Path) (children : List Path) (l : Look)
    → IsWalk (progress_after case path looks) looks bytes stack → slice_get stack (length stack - 1) ≡ Some last → IsLookNext (progress_after case path looks) l → reverse children ≡ map (λ n. last ++ n ∷ []) (names_seen l)
    → new_looks ≡ looks ++ l ∷ [] → new_bytes ≡ bytes ++ bytes_seen l → new_stack ≡ take (length stack - 1) stack ++ children
    → IsWalk (progress_after case path new_looks) new_looks new_bytes new_stack
walk-see case path looks new_looks bytes new_bytes stack new_stack last children l h end look below e f g =
    coe 1 0 (i. IsWalk (progress-see case path looks new_looks l e i) (e i) (f i) (g i))
    (walk-step (progress_after case path looks) looks bytes stack last children l h end look below)
