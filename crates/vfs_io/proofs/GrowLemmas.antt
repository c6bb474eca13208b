-- Lists of calls that grow.
use Rattle.std.proofs.Common.{List, [], ◌++◌, Option, Some, None, refl, sym, ap, append_assoc}
use Rattle.std.proofs.lemmas.List.{append-nil}
use Rattle.vfs_io.specs.Told.{Grows}

pub Grows-nil : {A : Type 0} (a : Option (List A)) → Grows a a []
Grows-nil None = refl
Grows-nil (Some xs) = ap (λ (all : List _). Some all) (sym (append-nil xs))

pub Grows-trans : {A : Type 0} (a b c : Option (List A)) (xs ys : List A) → Grows a b xs → Grows b c ys → Grows a c (xs ++ ys)
Grows-trans None b c xs ys p q = rw (q, p) refl
Grows-trans (Some all) b c xs ys p q = rw (q, p) (ap (λ (more : List _). Some more) (append_assoc all xs ys))
