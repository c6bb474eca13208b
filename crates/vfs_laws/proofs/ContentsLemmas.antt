-- A read adds its bytes to the contents.
use Rattle.std.proofs.Common.{◌≡◌, List, [], ◌∷◌, ◌++◌, refl, sym, ap, ◌∙◌, subst, Option, Some, None, append_assoc, append-nil}
use Rattle.vfs_model.specs.Paths.{Name, Path}
use Rattle.vfs_model.specs.Scanning.{Look, SeesNothing, SeesFile, SeesDir, PartialSnapshot, Unread, NotThere, FileRead, DirRead, PartialChildren, NoChildren, PartialChild, unread, partial_of_look, next_left, next_left_in, after_look, after_look_in, contents, contents_in, AreUnread, IsBehind, IsFront, AreFront}
use Rattle.vfs_laws.proofs.Splits.{split_option}

contents-unread : (partials : PartialChildren) → AreUnread partials → contents_in partials ≡ []
contents-unread NoChildren h = refl
contents-unread (PartialChild n s more) h = ap (λ t. contents t ++ contents_in more) h.0 ∙ contents-unread more h.1

front-unread : (partials : PartialChildren) → AreUnread partials → AreFront partials
front-unread NoChildren h = tt
front-unread (PartialChild n s more) h = subst (λ t. IsFront t × IsBehind (next_left t) more (AreFront more)) (sym h.0) (tt, h.1)

behind-unread : (o : Option Path) (partials : PartialChildren) → AreUnread partials → IsBehind o partials (AreFront partials)
behind-unread None partials h = front-unread partials h
behind-unread (Some y) partials h = h

-- names that are only listed are unread
pub unread-unread : (ns : List Name) → AreUnread (unread ns)
unread-unread [] = tt
unread-unread (n ∷ ns) = (refl, unread-unread ns)

front-partial_of_look : (l : Look) → IsFront (partial_of_look l)
front-partial_of_look SeesNothing = tt
front-partial_of_look (SeesFile bytes) = tt
front-partial_of_look (SeesDir names) = front-unread (unread names) (unread-unread names)

mutual
  contents-after_look : (l : Look) (s : PartialSnapshot) (y : Path) → IsFront s → next_left s ≡ Some y → contents (after_look l s) ≡ contents s ++ contents (partial_of_look l)
  contents-after_look l Unread y h e = refl
  contents-after_look l NotThere y h e = cc
  contents-after_look l (FileRead bytes) y h e = cc
  contents-after_look l (DirRead partials) y h e = contents_in-after_look l partials y h e

  contents_in-after_look : (l : Look) (partials : PartialChildren) (y : Path) → AreFront partials → next_left_in partials ≡ Some y → contents_in (after_look_in l partials) ≡ contents_in partials ++ contents (partial_of_look l)
  contents_in-after_look l NoChildren y h e = cc
  contents_in-after_look l (PartialChild n s more) y h e =
      split_option (next_left s)
      (λ o.
      let front : AreFront more = rw o at h.1 in
      rw o (ap (λ t. contents s ++ t) (contents_in-after_look l more y front (rw o at e)) ∙ sym (append_assoc (contents s) (contents_in more) (contents (partial_of_look l)))))
      (λ x o.
      let behind : AreUnread more = rw o at h.1 in
      let none = contents-unread more behind in
      rw o (
      (λ i. contents-after_look l s x h.0 o i ++ none i)
      ∙ append-nil (contents s ++ contents (partial_of_look l))
      ∙ ap (λ t. t ++ contents (partial_of_look l)) (sym (append-nil (contents s)) ∙ ap (λ t. contents s ++ t) (sym none))))

mutual
  -- a read leaves nothing read behind the first location left
  pub front-after_look : (l : Look) (s : PartialSnapshot) (y : Path) → IsFront s → next_left s ≡ Some y → IsFront (after_look l s)
  front-after_look l Unread y h e = front-partial_of_look l
  front-after_look l NotThere y h e = tt
  front-after_look l (FileRead bytes) y h e = tt
  front-after_look l (DirRead partials) y h e = front_in-after_look l partials y h e

  front_in-after_look : (l : Look) (partials : PartialChildren) (y : Path) → AreFront partials → next_left_in partials ≡ Some y → AreFront (after_look_in l partials)
  front_in-after_look l NoChildren y h e = tt
  front_in-after_look l (PartialChild n s more) y h e =
      split_option (next_left s)
      (λ o.
      let front : AreFront more = rw o at h.1 in
      rw (o, o) (h.0, front_in-after_look l more y front (rw o at e)))
      (λ x o.
      let behind : AreUnread more = rw o at h.1 in
      rw o (front-after_look l s x h.0 o, behind-unread (next_left (after_look l s)) more behind))

-- a read adds the bytes that its look saw, and leaves nothing read behind the first location left
pub after_read-adds : (l : Look) (s : PartialSnapshot) (y : Path) → IsFront s → next_left s ≡ Some y → (contents (after_look l s) ≡ contents s ++ contents (partial_of_look l)) × IsFront (after_look l s)
after_read-adds l s y h e = (contents-after_look l s y h e, front-after_look l s y h e)
