-- Want of memory is said against no text.
use Rattle.std.proofs.Common.{◌≡◌, ℕ, ◌+◌, Bool, true, false, List, [], ◌∷◌, length, Option, Some, None, ltb, leb}
use Rattle.vfs_path.specs.declared.error.PathError.{PathError}
use Rattle.vfs_path.specs.declared.error.PathError.TheVariants.{EmptyName, DotName, LongName, TooDeep, NoMemory}
use Rattle.vfs_path.specs.Texts.{first_refusal, or_refusal, is_empty, is_dots, segment_refusal, segments_refusal}

among_four : (a b c d : Bool) → first_refusal ((a, TooDeep) ∷ (b, EmptyName) ∷ (c, DotName) ∷ (d, LongName) ∷ []) ≡ Some NoMemory → ⊥
among_four true b c d e = absurd cc
among_four false true c d e = absurd cc
among_four false false true d e = absurd cc
among_four false false false true e = absurd cc
among_four false false false false e = absurd cc

refused_first : (a b : Option PathError) → (a ≡ Some NoMemory → ⊥) → (b ≡ Some NoMemory → ⊥) → or_refusal a b ≡ Some NoMemory → ⊥
refused_first None b h k e = k e
refused_first (Some x) b h k e = h e

pub refused_segments : (before : ℕ) (segments : List (List ℕ)) → segments_refusal before segments ≡ Some NoMemory → ⊥
refused_segments before [] e = absurd cc
refused_segments before (segment ∷ more) e =
    refused_first (segment_refusal before segment) (segments_refusal (before + 1) more)
    (among_four (leb 64 before) (is_empty segment) (is_dots segment) (ltb 255 (length segment)))
    (refused_segments (before + 1) more)
    e
