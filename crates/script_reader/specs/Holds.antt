-- What a cause says of a line, in the words of the grammar.
use Rattle.std.specs.Prelude.{◌≡◌, ◌≢◌, ℕ, ◌<◌, ◌≤◌, List, [], ◌∷◌, ◌++◌, length, Bool, true, Ok, Err, codes, ◌==◌, ◌||◌, MatchBool}
use Rattle.std.specs.List.{slice_split}
use Rattle.std.specs.Fmt.{decimal}
use Rattle.std.specs.Str.{bytes_eq}
use Rattle.vfs_model.specs.declared.Case.{Case}
use Rattle.vfs_path.specs.declared.error.PathError.{PathError}
use Rattle.vfs_path.specs.Texts.{path_of}
use Rattle.fingerprint_norms.specs.declared.input.Sensitivity.{Sensitivity}
use Rattle.script_text.specs.declared.cause.Cause.{Cause}
use Rattle.script_text.specs.declared.cause.Cause.TheVariants.{UnknownWord, WrongCount, BadNumber, BadPath, TooLarge, BadInput, EmptyWord, BadEscape, BadCaller, LateSetting, Repeated}
use Rattle.script_text.specs.declared.script.Opening.{Opening}
use Rattle.script_text.specs.declared.script.Script.{Script}
use Rattle.script_text.specs.Words.{value_of, words_of}
use Rattle.script_text.specs.Set.{is_same_setting}
use Rattle.script_text.specs.Grammar.{case_word, sensitivity_word, IsOpening, IsCommand}

-- one of the items is such
abbrev pub HasOne : {A : Type 0} → (A → Type 0) → List A → Type 0
HasOne {A} P items = (before : List A) × (item : A) × (after : List A) × (items ≡ before ++ item ∷ after) × P item

-- no words of the grammar begin with this one
abbrev pub IsNoName : {X : Type 0} → (X → List (List ℕ) → Type 0) → List ℕ → Type 0
IsNoName {X} IsForm name = (x : X) (args : List (List ℕ)) → IsForm x (name ∷ args) → ⊥

-- no words of the grammar begin with this one and are so many more
abbrev pub IsNoCount : {X : Type 0} → (X → List (List ℕ) → Type 0) → List ℕ → ℕ → Type 0
IsNoCount {X} IsForm name n = (x : X) (args : List (List ℕ)) → IsForm x (name ∷ args) → length args ≡ n → ⊥

-- the word is no number from 1 to the limit
abbrev pub IsNoNumber : ℕ → List ℕ → Type 0
IsNoNumber limit word = (n : ℕ) → 1 ≤ n → n ≤ limit → word ≢ decimal n

-- the words after `set` name a setting, and the one word behind it is not what that setting has
pub data HasBadNumber : List (List ℕ) → Type 0 where
  case : (word : List ℕ) → ((c : Case) → word ≢ case_word c) → HasBadNumber (codes "case" ∷ word ∷ [])
  queue : (word : List ℕ) → IsNoNumber 65536 word → HasBadNumber (codes "queue" ∷ word ∷ [])
  places : (word : List ℕ) → IsNoNumber 65536 word → HasBadNumber (codes "places" ∷ word ∷ [])
  workers : (word : List ℕ) → IsNoNumber 16 word → HasBadNumber (codes "workers" ∷ word ∷ [])

-- the names of the commands on inputs
abbrev pub takes_inputs : List ℕ → Bool
takes_inputs name = bytes_eq name (codes "print") || bytes_eq name (codes "build")

-- the word is that of an input whose root has this text
abbrev pub IsInputOf : List ℕ → List ℕ → Type 0
IsInputOf text word = (s : Sensitivity) × (word ≡ sensitivity_word s ++ text)

-- the word behind this name has the text of a path in it: that of an input's root, or the word itself
abbrev pub HasPathText : List ℕ → List ℕ → List ℕ → Type 0
HasPathText name text word = MatchBool (takes_inputs name) (IsInputOf text word) (word ≡ text)

-- the word behind this name has a path in it that is refused
abbrev pub HasRefusedPath : List ℕ → PathError → List ℕ → Type 0
HasRefusedPath name refusal word = (text : List ℕ) × HasPathText name text word × (path_of text ≡ Err refusal)

-- the word is that of no input, whatever its root
abbrev pub IsNoInput : List ℕ → Type 0
IsNoInput word = (text : List ℕ) → IsInputOf text word → ⊥

-- what a cause says of the words after `set` or a caller
abbrev pub HoldsOfWords : {X : Type 0} → (X → List (List ℕ) → Type 0) → List (List ℕ) → Cause → Type 0
HoldsOfWords IsForm [] cause = cause ≡ WrongCount
HoldsOfWords IsForm (name ∷ args) UnknownWord = IsNoName IsForm name
HoldsOfWords IsForm (name ∷ args) WrongCount = IsNoCount IsForm name (length args) × (IsNoName IsForm name → ⊥)
HoldsOfWords IsForm (name ∷ args) (BadPath refusal) = HasOne (HasRefusedPath name refusal) args
HoldsOfWords IsForm (name ∷ args) TooLarge = HasOne (λ word. 1048576 < length word) args
HoldsOfWords IsForm (name ∷ args) BadInput = (takes_inputs name ≡ true) × HasOne IsNoInput args
HoldsOfWords IsForm (name ∷ args) _ = ⊥

-- what stands between the spaces of a line
abbrev pub parts_of : List ℕ → List (List ℕ)
parts_of text = slice_split (λ b. b == 32) text

-- what a cause says of a line that stands after the lines of a script
pub data Holds (before : Script) (text : List ℕ) : Cause → Type 0 where
  empty : HasOne (λ part. part ≡ []) (parts_of text) → Holds before text EmptyWord
  escape : (HasOne (λ part. part ≡ []) (parts_of text) → ⊥) → HasOne (λ part. value_of part ≡ Err BadEscape) (parts_of text) → Holds before text BadEscape
  caller : (first : List ℕ) (more : List (List ℕ)) → words_of text ≡ Ok (first ∷ more) → first ≢ codes "set" → ((n : ℕ) → n ≤ 15 → first ≢ decimal n) → Holds before text BadCaller
  late : (more : List (List ℕ)) → words_of text ≡ Ok (codes "set" ∷ more) → before.lines ≢ [] → Holds before text LateSetting
  number : (more : List (List ℕ)) → words_of text ≡ Ok (codes "set" ∷ more) → before.lines ≡ [] → HasBadNumber more → Holds before text BadNumber
  repeated : (more : List (List ℕ)) (o : Opening) → words_of text ≡ Ok (codes "set" ∷ more) → before.lines ≡ [] → IsOpening o more → HasOne (λ earlier. is_same_setting o earlier ≡ true) before.opening → Holds before text Repeated
  setting : (more : List (List ℕ)) (cause : Cause) → words_of text ≡ Ok (codes "set" ∷ more) → before.lines ≡ [] → HoldsOfWords IsOpening more cause → Holds before text cause
  command : (n : ℕ) (more : List (List ℕ)) (cause : Cause) → words_of text ≡ Ok (decimal n ∷ more) → n ≤ 15 → HoldsOfWords IsCommand more cause → Holds before text cause
