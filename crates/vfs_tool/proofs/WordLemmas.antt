-- The words of the forms.
use Rattle.std.proofs.Common.{◌≡◌, ℕ, ◌<◌, ◌≤◌, Bool, true, List, [], ◌∷◌, length, map, get_or, sym, ap, ◌∙◌, arith}
use Rattle.std.specs.Prelude.{codes, string_bytes, String}
use Rattle.std.specs.Global.{Global}
use Rattle.std.specs.Fmt.{decimal}
use Rattle.std.specs.Str.{bytes_eq}
use Rattle.std.proofs.lemmas.Slice.Eq.{bytes_eq-Decides}
use Rattle.std.proofs.lemmas.Fmt.{decimal_injective}
use Rattle.vfs_tool.specs.Forms.{IsReplay, IsFolder, IsGen}

-- the words, by their number and what each is

one_word : (words : List (String Global)) (w : String Global) → 1 ≤ length words → length words < 2 → w ≡ get_or words 0 w → words ≡ w ∷ []
one_word [] w some few e = absurd (omega arith)
one_word (x ∷ []) w some few e = ap (λ (s : String Global). s ∷ []) (sym e)
one_word (x ∷ y ∷ words) w some few e = absurd (omega arith)

two_words : (words : List (String Global)) (v w : String Global) → 2 ≤ length words → length words < 3 → v ≡ get_or words 0 v → w ≡ get_or words 1 w → words ≡ v ∷ w ∷ []
two_words [] v w some few e f = absurd (omega arith)
two_words (x ∷ []) v w some few e f = absurd (omega arith)
two_words (x ∷ y ∷ []) v w some few e f = cc
two_words (x ∷ y ∷ z ∷ words) v w some few e f = absurd (omega arith)

-- a word is the text that it is compared with
pub same_text : (text name : List ℕ) (b : Bool) → b ≡ bytes_eq text name → b ≡ true → text ≡ name
same_text text name b is so = (bytes_eq-Decides text name).0 (sym is ∙ so)

pub one_form : (words : List (String Global)) (w : String Global) (text name : List ℕ) → 1 ≤ length words → length words < 2 → w ≡ get_or words 0 w → text ≡ string_bytes w → text ≡ name → map string_bytes words ≡ name ∷ []
one_form words w text name some few e is same =
    ap (λ (ws : List (String Global)). map string_bytes ws) (one_word words w some few e)
    ∙ ap (λ (t : List ℕ). t ∷ []) (sym is ∙ same)

pub two_forms : (words : List (String Global)) (v w : String Global) (first name second count : List ℕ) → 2 ≤ length words → length words < 3 → v ≡ get_or words 0 v → w ≡ get_or words 1 w → first ≡ string_bytes v → second ≡ string_bytes w → first ≡ name → second ≡ count
    → map string_bytes words ≡ name ∷ count ∷ []
two_forms words v w first name second count some few e f is also same number =
    ap (λ (ws : List (String Global)). map string_bytes ws) (two_words words v w some few e f)
    ∙ ap (λ (t : List ℕ). t ∷ string_bytes w ∷ []) (sym is ∙ same)
    ∙ ap (λ (t : List ℕ). name ∷ t ∷ []) (sym also ∙ number)

pub folder_form : (words : List (String Global)) (v : String Global) (first name : List ℕ) → 2 ≤ length words → length words < 3 → v ≡ get_or words 0 v → first ≡ string_bytes v → first ≡ name → (second : List ℕ) × (map string_bytes words ≡ name ∷ second ∷ [])
folder_form [] v first name some few e is same = absurd (omega arith)
folder_form (x ∷ []) v first name some few e is same = absurd (omega arith)
folder_form (x ∷ y ∷ []) v first name some few e is same = (string_bytes y, ap (λ (t : List ℕ). t ∷ string_bytes y ∷ []) (sym (is ∙ ap string_bytes e) ∙ same))
folder_form (x ∷ y ∷ z ∷ words) v first name some few e is same = absurd (omega arith)

-- words of a replay are none of `gen N`, and N is told by its words

pub replay_or_gen : (words : List (String Global)) (n : ℕ) → IsReplay words → IsGen n words → ⊥
replay_or_gen words n is gen = let e = is in let f = gen.2 in cc

pub replay_or_folder : (words : List (String Global)) → IsReplay words → IsFolder words → ⊥
replay_or_folder words is folder = let e = is in let f = folder.1 in cc

same_first : (v w a b : List ℕ) (words : List (List ℕ)) → words ≡ v ∷ a ∷ [] → words ≡ w ∷ b ∷ [] → v ≡ w
same_first v w a b words e f = cc

pub folder_or_gen : (words : List (String Global)) (n : ℕ) → IsFolder words → IsGen n words → ⊥
folder_or_gen words n folder gen = let same = same_first (codes "folder") (codes "gen") folder.0 (decimal n) (map string_bytes words) folder.1 gen.2 in cc

same_second : (v : List ℕ) (a b : List ℕ) (words : List (List ℕ)) → words ≡ v ∷ a ∷ [] → words ≡ v ∷ b ∷ [] → a ≡ b
same_second v a b words e f = cc

pub one_number : (words : List (String Global)) (m n : ℕ) → IsGen m words → IsGen n words → m ≡ n
one_number words m n g h =
    let low = g.1 in
    let high = h.1 in
    decimal_injective m n (omega arith) (omega arith) (same_second (codes "gen") (decimal m) (decimal n) (map string_bytes words) g.2 h.2)
