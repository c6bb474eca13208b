-- What was read of a file up to a limit, and is shorter, is all that was left of it.
use Rattle.std.proofs.Common.{◌≡◌, ◌<◌, List, ℕ, [], ◌++◌, length, take, Option, Some, None, ap, subst, ◌∙◌, arith}
use Rattle.std.specs.Prelude.{option_map, IfSome}
use Rattle.std.proofs.lemmas.List.{length-take, take_all}
use Rattle.std.specs.declared.io.traits.Take.{Take}
use Rattle.std.specs.Io.Take.{take_limit, take_inner, take_remaining}

pub whole-read : (limit : ℕ) (left : Option (List ℕ)) (bytes : List ℕ) → IfSome (option_map (take limit) left) (λ known. bytes ≡ known) → length bytes < limit → IfSome left (λ known. bytes ≡ known)
whole-read limit None bytes h short = tt
whole-read limit (Some known) bytes h short =
    let cut = length-take limit known in
    let same = ap length h in
    h ∙ take_all limit known (omega (arith, cut, same, short))

-- the same of a reader that was handed on up to a limit
pub limited-read : {R : Type 0} (remaining : R → Option (List ℕ)) (limited : Take R) (file : R) (limit : ℕ) (before bytes : List ℕ) → take_limit limited ≡ limit → take_inner limited ≡ file → before ≡ [] → IfSome (take_remaining remaining limited) (λ known. bytes ≡ before ++ known)
    → length bytes < limit → IfSome (remaining file) (λ known. bytes ≡ known)
limited-read remaining limited file limit before bytes at_most is none h short =
    whole-read limit (remaining file) bytes
    (subst (λ (b : List ℕ). IfSome (option_map (take limit) (remaining file)) (λ known. bytes ≡ b ++ known)) none
    (subst (λ r. IfSome (option_map (take limit) (remaining r)) (λ known. bytes ≡ before ++ known)) is
    (subst (λ (n : ℕ). IfSome (option_map (take n) (remaining (take_inner limited))) (λ known. bytes ≡ before ++ known)) at_most h)))
    short
