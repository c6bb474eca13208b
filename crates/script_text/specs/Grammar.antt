-- What the text of a script is, apart from any reading.
use Rattle.std.specs.Prelude.{◌≡◌, ℕ, ◌≤◌, ◌⊎◌, List, [], ◌∷◌, ◌++◌, length, map, Bool, true, false, Ok, codes, ◌==◌}
use Rattle.std.specs.List.{slice_split, AllByRecursion as Each}
use Rattle.std.specs.Fmt.{decimal}
use Rattle.vfs_model.specs.declared.Case.{Case as NameCase}
use Rattle.vfs_model.specs.declared.Case.TheVariants.{Sensitive, Insensitive}
use Rattle.vfs_model.specs.Paths.{Path}
use Rattle.vfs_path.specs.Texts.{IsPath, path_text}
use Rattle.world_model.specs.declared.edit.Edit.{Edit as EditValue}
use Rattle.world_model.specs.declared.edit.Edit.TheVariants.{Write, Mkdir, Remove, Move}
use Rattle.fingerprint_norms.specs.declared.input.Input.{Input}
use Rattle.fingerprint_norms.specs.declared.input.Sensitivity.{Sensitivity}
use Rattle.fingerprint_norms.specs.declared.input.Sensitivity.TheVariants.{Absolute, Relative, NameOnly, Ignored}
use Rattle.script_text.specs.declared.script.TextKind.{TextKind}
use Rattle.script_text.specs.declared.script.TextKind.TheVariants as kinds
use Rattle.script_text.specs.declared.script.Opening.{Opening}
use Rattle.script_text.specs.declared.script.Opening.TheVariants.{Case, Queue, Places, Workers, Dir, File}
use Rattle.script_text.specs.declared.script.Command.{Command}
use Rattle.script_text.specs.declared.script.Command.TheVariants.{Edit, Event, Lose, Deliver, Settle, Begin, Read, Publish, Abandon, Scan, Find, KindOf, VersionOf, Print, Build}
use Rattle.script_text.specs.declared.script.Line.{Line}
use Rattle.script_text.specs.declared.script.Script.{Script}
use Rattle.script_text.specs.Words.{is_note, words_of}
use Rattle.script_text.specs.Set.{settings_of, IsOnce}

-- ---- the forms, each with a name of its own

-- a name and a path
abbrev pub IsPathForm : List ℕ → Path → List (List ℕ) → Type 0
IsPathForm name path words = IsPath path × (words ≡ name ∷ path_text path ∷ [])

-- a name and two paths
abbrev pub IsTwoPathForm : List ℕ → Path → Path → List (List ℕ) → Type 0
IsTwoPathForm name from to words = IsPath from × IsPath to × (words ≡ name ∷ path_text from ∷ path_text to ∷ [])

-- a name, a path and the contents of a file, of limited size; where the file is empty, they may be left out
abbrev pub IsFileForm : List ℕ → Path → List ℕ → List (List ℕ) → Type 0
IsFileForm name path bytes words = IsPath path × (length bytes ≤ 1048576) × ((words ≡ name ∷ path_text path ∷ bytes ∷ []) ⊎ ((bytes ≡ []) × (words ≡ name ∷ path_text path ∷ [])))

-- a name and a number from 1 to the limit
abbrev pub IsNumberForm : List ℕ → ℕ → ℕ → List (List ℕ) → Type 0
IsNumberForm name limit n words = (1 ≤ n) × (n ≤ limit) × (words ≡ name ∷ decimal n ∷ [])

-- the word for a case
abbrev pub case_word : NameCase → List ℕ
case_word Sensitive = codes "sensitive"
case_word Insensitive = codes "insensitive"

-- a name and a case
abbrev pub IsCaseForm : List ℕ → NameCase → List (List ℕ) → Type 0
IsCaseForm name case words = words ≡ name ∷ case_word case ∷ []

-- what an input begins with, for how much of the paths is taken
abbrev pub sensitivity_word : Sensitivity → List ℕ
sensitivity_word Absolute = codes "abs:"
sensitivity_word Relative = codes "rel:"
sensitivity_word NameOnly = codes "name:"
sensitivity_word Ignored = codes "none:"

-- the word of an input: what it begins with, and the text of its root
abbrev pub input_word : Input → List ℕ
input_word i = sensitivity_word i.sensitivity ++ path_text i.root

-- a name and 1 to 64 inputs
abbrev pub IsInputsForm : List ℕ → List Input → List (List ℕ) → Type 0
IsInputsForm name inputs words = (1 ≤ length inputs) × (length inputs ≤ 64) × Each (λ (i : Input). IsPath i.root) inputs × (words ≡ name ∷ map input_word inputs)

-- the words of an opening line after `set`
abbrev pub IsOpening : Opening → List (List ℕ) → Type 0
IsOpening (Case case) words = IsCaseForm (codes "case") case words
IsOpening (Queue n) words = IsNumberForm (codes "queue") 65536 n words
IsOpening (Places n) words = IsNumberForm (codes "places") 65536 n words
IsOpening (Workers n) words = IsNumberForm (codes "workers") 16 n words
IsOpening (Dir path) words = IsPathForm (codes "dir") path words
IsOpening (File path bytes) words = IsFileForm (codes "file") path bytes words

-- the words of an edit after its caller
abbrev pub IsEdit : EditValue → List (List ℕ) → Type 0
IsEdit (Write path bytes) words = IsFileForm (codes "write") path bytes words
IsEdit (Mkdir path) words = IsPathForm (codes "mkdir") path words
IsEdit (Remove path) words = IsPathForm (codes "remove") path words
IsEdit (Move from to) words = IsTwoPathForm (codes "move") from to words

-- the words of a command after its caller
abbrev pub IsCommand : Command → List (List ℕ) → Type 0
IsCommand (Edit edit) words = IsEdit edit words
IsCommand (Event path) words = IsPathForm (codes "event") path words
IsCommand Lose words = words ≡ codes "lose" ∷ []
IsCommand Deliver words = words ≡ codes "deliver" ∷ []
IsCommand Settle words = words ≡ codes "settle" ∷ []
IsCommand (Begin path) words = IsPathForm (codes "begin") path words
IsCommand Read words = words ≡ codes "read" ∷ []
IsCommand Publish words = words ≡ codes "publish" ∷ []
IsCommand Abandon words = words ≡ codes "abandon" ∷ []
IsCommand (Scan path) words = IsPathForm (codes "scan") path words
IsCommand (Find path) words = IsPathForm (codes "find") path words
IsCommand (KindOf path) words = IsPathForm (codes "kind") path words
IsCommand (VersionOf path) words = IsPathForm (codes "version") path words
IsCommand (Print inputs) words = IsInputsForm (codes "print") inputs words
IsCommand (Build inputs) words = IsInputsForm (codes "build") inputs words

-- ---- lines

-- whether a text of this kind may have the command: a replay may have every command
abbrev pub is_in : TextKind → Command → Bool
is_in kinds.Replay command = true

-- the text of a line has these words
abbrev pub HasWords : List ℕ → List (List ℕ) → Type 0
HasWords text words = (is_note text ≡ false) × (words_of text ≡ Ok words)

-- the text is that of an opening line
pub record IsOpeningLine (text : List ℕ) (opening : Opening) : Type 0 where
  pub words : List (List ℕ)
  pub spelled : HasWords text (codes "set" ∷ words)
  pub form : IsOpening opening words

-- the text is that of a command line
pub record IsCommandLine (kind : TextKind) (text : List ℕ) (line : Line) : Type 0 where
  pub words : List (List ℕ)
  pub spelled : HasWords text (decimal line.caller ∷ words)
  pub caller : line.caller ≤ 15
  pub form : IsCommand line.command words
  pub allowed : is_in kind line.command ≡ true

-- notes aside, the texts are those of the items, one by one
pub data AreLines {Item : Type 0} (IsLine : List ℕ → Item → Type 0) : List (List ℕ) → List Item → Type 0 where
  none : AreLines IsLine [] []
  note : (text : List ℕ) (texts : List (List ℕ)) (items : List Item) → is_note text ≡ true → AreLines IsLine texts items → AreLines IsLine (text ∷ texts) items
  line : (text : List ℕ) (item : Item) (texts : List (List ℕ)) (items : List Item) → IsLine text item → AreLines IsLine texts items → AreLines IsLine (text ∷ texts) (item ∷ items)

-- ---- texts

-- a line feed
abbrev pub is_line_end : ℕ → Bool
is_line_end b = b == 10

-- the texts of lines are those of the script: of its opening lines first, which set nothing twice, and then of its command lines; its settings are what the opening lines set
pub record AreScript (kind : TextKind) (lines : List (List ℕ)) (s : Script) : Type 0 where
  pub first : List (List ℕ)
  pub second : List (List ℕ)
  pub both : lines ≡ first ++ second
  pub opening : AreLines IsOpeningLine first s.opening
  pub once : IsOnce s.opening
  pub settings : s.settings ≡ settings_of s.opening
  pub commands : AreLines (IsCommandLine kind) second s.lines

-- the text is that of the script: each line is ended, and the lines are those of the script
pub record IsTextOf (kind : TextKind) (text : List ℕ) (s : Script) : Type 0 where
  pub lines : List (List ℕ)
  pub ended : slice_split is_line_end text ≡ lines ++ [] ∷ []
  pub script : AreScript kind lines s
