-- Codes of snapshots, of scans in progress and of all that a machine keeps: proofs tell values apart by their codes, and so a struct may have them as its value.
use Rattle.std.specs.Prelude.{◌≡◌, ◌⊎◌, ℕ, zero, suc, Bool, true, false, List, Option, Some, None}
use Rattle.std.proofs.Common.{refl, sym, ap, inl, inr}
use Rattle.std.specs.Coded.{Coded, code_by, coded×, coded⊎, coded_ℕ, coded_list, coded_option, coded_bool}
use base.Stored.{Gv, gnil, gnum, gcons}
use Rattle.vfs_model.specs.Paths.{Path, Case, Sensitive, Insensitive}
use Rattle.vfs_model.specs.World.{World, Entry, Node, Directory, Regular}
use Rattle.vfs_model.specs.Edit.{Refusal, Root, NoParent, NotDir, Exists, Absent, IntoItself, TooDeep, Crowded, ReadOnly}
use Rattle.vfs_model.specs.Pending.{Pending}
use Rattle.vfs_model.specs.Retained.{Pair, Retained}
use Rattle.vfs_model.specs.Scanning.{Look, SeesNothing, SeesFile, SeesDir, PartialSnapshot, Unread, NotThere, FileRead, DirRead, PartialChildren, NoChildren, PartialChild}
use Rattle.vfs_model.specs.Fingerprint.{Sensitivity, Absolute, Relative, NameOnly, Ignored, Input, Seen}
use Rattle.vfs_model.specs.State.{KeptPrint, EditAnswer, Refuses, Does, TreeAnswer, ToEdit, ToLook}
use Rattle.vfs_model.specs.History.{BoardName, Change, Kept, Gone, AllGone, ChangeLog}
use Rattle.vfs_model.specs.Stands.{RunningScan, Parts}
use Rattle.vfs_model.specs.Snapshot.{Snapshot, Missing, File, Dir, Children, Nothing, Child}

abbrev pub bytes_code : Coded (List ℕ)
bytes_code = coded_list coded_ℕ

abbrev mutual
  pub snapshot_gv : Snapshot → Gv
  snapshot_gv Missing = gnil
  snapshot_gv (File digest) = gcons (gnum 0) (bytes_code.code digest)
  snapshot_gv (Dir children) = gcons (gnum 1) (children_gv children)

  pub children_gv : Children → Gv
  children_gv Nothing = gnil
  children_gv (Child name s more) = gcons (bytes_code.code name) (gcons (snapshot_gv s) (children_gv more))

pub heads : {a b c d : Gv} → gcons a b ≡ gcons c d → a ≡ c
heads e = cc

pub tails : {a b c d : Gv} → gcons a b ≡ gcons c d → b ≡ d
tails e = cc

pub zero≢one : gnum 0 ≡ gnum 1 → ⊥
zero≢one e = cc

mutual
  pub snapshot_inj : (s t : Snapshot) → snapshot_gv s ≡ snapshot_gv t → s ≡ t
  snapshot_inj Missing Missing e = refl
  snapshot_inj Missing (File digest) e = cc
  snapshot_inj Missing (Dir cs) e = cc
  snapshot_inj (File digest) Missing e = cc
  snapshot_inj (File a) (File b) e = ap File (bytes_code.inj a b (tails e))
  snapshot_inj (File a) (Dir cs) e = absurd (zero≢one (heads e))
  snapshot_inj (Dir cs) Missing e = cc
  snapshot_inj (Dir cs) (File b) e = absurd (zero≢one (sym (heads e)))
  snapshot_inj (Dir cs) (Dir ds) e = ap Dir (children_inj cs ds (tails e))

  pub children_inj : (cs ds : Children) → children_gv cs ≡ children_gv ds → cs ≡ ds
  children_inj Nothing Nothing e = refl
  children_inj Nothing (Child n s ds) e = cc
  children_inj (Child n s cs) Nothing e = cc
  children_inj (Child n s cs) (Child m t ds) e = λ i. Child (bytes_code.inj n m (heads e) i) (snapshot_inj s t (heads (tails e)) i) (children_inj cs ds (tails (tails e)) i)

abbrev pub snapshot_code : Coded Snapshot
snapshot_code = record { code = snapshot_gv; inj = snapshot_inj }

abbrev pub children_code : Coded Children
children_code = record { code = children_gv; inj = children_inj }

-- ---- what a scan in progress has

abbrev mutual
  pub partial_gv : PartialSnapshot → Gv
  partial_gv Unread = gnil
  partial_gv NotThere = gnum 0
  partial_gv (FileRead bytes) = gcons (gnum 0) (bytes_code.code bytes)
  partial_gv (DirRead below) = gcons (gnum 1) (partials_gv below)

  pub partials_gv : PartialChildren → Gv
  partials_gv NoChildren = gnil
  partials_gv (PartialChild name s more) = gcons (bytes_code.code name) (gcons (partial_gv s) (partials_gv more))

mutual
  pub partial_inj : (s t : PartialSnapshot) → partial_gv s ≡ partial_gv t → s ≡ t
  partial_inj Unread Unread e = refl
  partial_inj Unread NotThere e = cc
  partial_inj Unread (FileRead b) e = cc
  partial_inj Unread (DirRead b) e = cc
  partial_inj NotThere Unread e = cc
  partial_inj NotThere NotThere e = refl
  partial_inj NotThere (FileRead b) e = cc
  partial_inj NotThere (DirRead b) e = cc
  partial_inj (FileRead a) Unread e = cc
  partial_inj (FileRead a) NotThere e = cc
  partial_inj (FileRead a) (FileRead b) e = ap FileRead (bytes_code.inj a b (tails e))
  partial_inj (FileRead a) (DirRead cs) e = absurd (zero≢one (heads e))
  partial_inj (DirRead a) Unread e = cc
  partial_inj (DirRead a) NotThere e = cc
  partial_inj (DirRead cs) (FileRead b) e = absurd (zero≢one (sym (heads e)))
  partial_inj (DirRead cs) (DirRead ds) e = ap DirRead (partials_inj cs ds (tails e))

  pub partials_inj : (cs ds : PartialChildren) → partials_gv cs ≡ partials_gv ds → cs ≡ ds
  partials_inj NoChildren NoChildren e = refl
  partials_inj NoChildren (PartialChild n s ds) e = cc
  partials_inj (PartialChild n s cs) NoChildren e = cc
  partials_inj (PartialChild n s cs) (PartialChild m t ds) e = λ i. PartialChild (bytes_code.inj n m (heads e) i) (partial_inj s t (heads (tails e)) i) (partials_inj cs ds (tails (tails e)) i)

abbrev pub partial_code : Coded PartialSnapshot
partial_code = record { code = partial_gv; inj = partial_inj }

abbrev pub partials_code : Coded PartialChildren
partials_code = record { code = partials_gv; inj = partials_inj }

-- ---- plain data

abbrev pub path_code : Coded Path
path_code = coded_list bytes_code

abbrev pub pair_code : Coded Pair
pair_code = code_by (Path × Snapshot) (coded× path_code snapshot_code) (λ r. (r.path, r.snapshot)) (λ p. record { path = p.0; snapshot = p.1 }) (λ _. refl)

abbrev pub retained_code : Coded Retained
retained_code = code_by (List Pair × List Path) (coded× (coded_list pair_code) (coded_list path_code)) (λ r. (r.pairs, r.dirs)) (λ p. record { pairs = p.0; dirs = p.1 }) (λ _. refl)

abbrev pub is_sensitive : Case → Bool
is_sensitive Sensitive = true
is_sensitive Insensitive = false

abbrev pub case_if : Bool → Case
case_if true = Sensitive
case_if false = Insensitive

pub case_if-is : (c : Case) → case_if (is_sensitive c) ≡ c
case_if-is Sensitive = refl
case_if-is Insensitive = refl

abbrev pub case_code : Coded Case
case_code = code_by Bool coded_bool is_sensitive case_if case_if-is

abbrev pub file_bytes : Node → Option (List ℕ)
file_bytes Directory = None
file_bytes (Regular bytes) = Some bytes

abbrev pub node_if : Option (List ℕ) → Node
node_if None = Directory
node_if (Some bytes) = Regular bytes

pub node_if-is : (n : Node) → node_if (file_bytes n) ≡ n
node_if-is Directory = refl
node_if-is (Regular bytes) = refl

abbrev pub node_code : Coded Node
node_code = code_by (Option (List ℕ)) (coded_option bytes_code) file_bytes node_if node_if-is

abbrev pub entry_code : Coded Entry
entry_code = code_by (Path × Node) (coded× path_code node_code) (λ e. (e.path, e.node)) (λ p. record { path = p.0; node = p.1 }) (λ _. refl)

abbrev pub world_code : Coded World
world_code = coded_list entry_code

abbrev pub pending_code : Coded Pending
pending_code = code_by (List Path × (ℕ × Bool)) (coded× (coded_list path_code) (coded× coded_ℕ coded_bool)) (λ p. (p.events, (p.capacity, p.mark))) (λ p. record { events = p.0; capacity = p.1.0; mark = p.1.1 }) (λ _. refl)

-- ---- what a machine keeps

abbrev pub sensitivity_bits : Sensitivity → Bool × Bool
sensitivity_bits Absolute = (true, true)
sensitivity_bits Relative = (true, false)
sensitivity_bits NameOnly = (false, true)
sensitivity_bits Ignored = (false, false)

abbrev pub sensitivity_by : Bool → Bool → Sensitivity
sensitivity_by true true = Absolute
sensitivity_by true false = Relative
sensitivity_by false true = NameOnly
sensitivity_by false false = Ignored

pub sensitivity_by-is : (m : Sensitivity) → sensitivity_by (sensitivity_bits m).0 (sensitivity_bits m).1 ≡ m
sensitivity_by-is Absolute = refl
sensitivity_by-is Relative = refl
sensitivity_by-is NameOnly = refl
sensitivity_by-is Ignored = refl

abbrev pub sensitivity_code : Coded Sensitivity
sensitivity_code = code_by (Bool × Bool) (coded× coded_bool coded_bool) sensitivity_bits (λ p. sensitivity_by p.0 p.1) sensitivity_by-is

abbrev pub input_code : Coded Input
input_code = code_by (Path × Sensitivity) (coded× path_code sensitivity_code) (λ i. (i.root, i.sensitivity)) (λ p. record { root = p.0; sensitivity = p.1 }) (λ _. refl)

abbrev pub seen_code : Coded Seen
seen_code = code_by (Input × Snapshot) (coded× input_code snapshot_code) (λ v. (v.input, v.snapshot)) (λ p. record { input = p.0; snapshot = p.1 }) (λ _. refl)

abbrev pub kept_code : Coded KeptPrint
kept_code = code_by (List Seen × List ℕ) (coded× (coded_list seen_code) bytes_code) (λ k. (k.seen, k.digest)) (λ p. record { seen = p.0; digest = p.1 }) (λ _. refl)

abbrev pub running_code : Coded RunningScan
running_code = code_by (Path × (ℕ × PartialSnapshot)) (coded× path_code (coded× coded_ℕ partial_code)) (λ r. (r.path, (r.seen, r.partial))) (λ p. record { path = p.0; seen = p.1.0; partial = p.1.1 }) (λ _. refl)

-- ---- what a tree answered

abbrev pub number_of_refusal : Refusal → ℕ
number_of_refusal Root = 0
number_of_refusal NoParent = 1
number_of_refusal NotDir = 2
number_of_refusal Exists = 3
number_of_refusal Absent = 4
number_of_refusal IntoItself = 5
number_of_refusal TooDeep = 6
number_of_refusal Crowded = 7
number_of_refusal ReadOnly = 8

abbrev pub refusal_by : ℕ → Refusal
refusal_by zero = Root
refusal_by (suc zero) = NoParent
refusal_by (suc (suc zero)) = NotDir
refusal_by (suc (suc (suc zero))) = Exists
refusal_by (suc (suc (suc (suc zero)))) = Absent
refusal_by (suc (suc (suc (suc (suc zero))))) = IntoItself
refusal_by (suc (suc (suc (suc (suc (suc zero)))))) = TooDeep
refusal_by (suc (suc (suc (suc (suc (suc (suc zero))))))) = Crowded
refusal_by (suc (suc (suc (suc (suc (suc (suc (suc n)))))))) = ReadOnly

pub refusal_by-is : (r : Refusal) → refusal_by (number_of_refusal r) ≡ r
refusal_by-is Root = refl
refusal_by-is NoParent = refl
refusal_by-is NotDir = refl
refusal_by-is Exists = refl
refusal_by-is Absent = refl
refusal_by-is IntoItself = refl
refusal_by-is TooDeep = refl
refusal_by-is Crowded = refl
refusal_by-is ReadOnly = refl

abbrev pub refusal_code : Coded Refusal
refusal_code = code_by ℕ coded_ℕ number_of_refusal refusal_by refusal_by-is

abbrev pub look_parts : Look → Option (List ℕ ⊎ Path)
look_parts SeesNothing = None
look_parts (SeesFile bytes) = Some (inl bytes)
look_parts (SeesDir names) = Some (inr names)

abbrev pub look_by : Option (List ℕ ⊎ Path) → Look
look_by None = SeesNothing
look_by (Some (inl bytes)) = SeesFile bytes
look_by (Some (inr names)) = SeesDir names

pub look_by-is : (l : Look) → look_by (look_parts l) ≡ l
look_by-is SeesNothing = refl
look_by-is (SeesFile bytes) = refl
look_by-is (SeesDir names) = refl

abbrev pub look_code : Coded Look
look_code = code_by (Option (List ℕ ⊎ Path)) (coded_option (coded⊎ bytes_code path_code)) look_parts look_by look_by-is

abbrev pub edit_answer_parts : EditAnswer → Refusal ⊎ List Path
edit_answer_parts (Refuses r) = inl r
edit_answer_parts (Does events) = inr events

abbrev pub edit_answer_by : Refusal ⊎ List Path → EditAnswer
edit_answer_by (inl r) = Refuses r
edit_answer_by (inr events) = Does events

pub edit_answer_by-is : (a : EditAnswer) → edit_answer_by (edit_answer_parts a) ≡ a
edit_answer_by-is (Refuses r) = refl
edit_answer_by-is (Does events) = refl

abbrev pub edit_answer_code : Coded EditAnswer
edit_answer_code = code_by (Refusal ⊎ List Path) (coded⊎ refusal_code (coded_list path_code)) edit_answer_parts edit_answer_by edit_answer_by-is

abbrev pub tree_answer_parts : TreeAnswer → EditAnswer ⊎ Option Look
tree_answer_parts (ToEdit a) = inl a
tree_answer_parts (ToLook l) = inr l

abbrev pub tree_answer_by : EditAnswer ⊎ Option Look → TreeAnswer
tree_answer_by (inl a) = ToEdit a
tree_answer_by (inr l) = ToLook l

pub tree_answer_by-is : (a : TreeAnswer) → tree_answer_by (tree_answer_parts a) ≡ a
tree_answer_by-is (ToEdit a) = refl
tree_answer_by-is (ToLook l) = refl

abbrev pub tree_answer_code : Coded TreeAnswer
tree_answer_code = code_by (EditAnswer ⊎ Option Look) (coded⊎ edit_answer_code (coded_option look_code)) tree_answer_parts tree_answer_by tree_answer_by-is

-- ---- what changed what is retained

abbrev pub change_parts : Change → Option (Path × Option Snapshot)
change_parts (Kept p s) = Some (p, Some s)
change_parts (Gone p) = Some (p, None)
change_parts AllGone = None

abbrev pub change_of_path : Path → Option Snapshot → Change
change_of_path p (Some s) = Kept p s
change_of_path p None = Gone p

abbrev pub change_by : Option (Path × Option Snapshot) → Change
change_by (Some c) = change_of_path c.0 c.1
change_by None = AllGone

pub change_by-is : (c : Change) → change_by (change_parts c) ≡ c
change_by-is (Kept p s) = refl
change_by-is (Gone p) = refl
change_by-is AllGone = refl

abbrev pub change_code : Coded Change
change_code = code_by (Option (Path × Option Snapshot)) (coded_option (coded× path_code (coded_option snapshot_code))) change_parts change_by change_by-is

abbrev pub log_code : Coded ChangeLog
log_code = code_by (BoardName × List Change) (coded× bytes_code (coded_list change_code)) (λ l. (l.board, l.changes)) (λ p. record { board = p.0; changes = p.1 }) (λ _. refl)

-- ---- all of it

abbrev pub parts_code : {V : Type 0} → Coded V → Coded (Parts V)
parts_code {V} v =
    code_by ((Case × (Option World × (ℕ × Option (List TreeAnswer)))) × ((Pending × (Retained × Option ChangeLog)) × (V × (List (Option RunningScan) × List KeptPrint))))
    (coded× (coded× case_code (coded× (coded_option world_code) (coded× coded_ℕ (coded_option (coded_list tree_answer_code)))))
    (coded× (coded× pending_code (coded× retained_code (coded_option log_code))) (coded× v (coded× (coded_list (coded_option running_code)) (coded_list kept_code)))))
    (λ m. ((m.case, (m.content, (m.faults, m.answers))), ((m.pending, (m.retained, m.log)), (m.versions, (m.scans, m.kept)))))
    (λ p. record { case = p.0.0; content = p.0.1.0; faults = p.0.1.1.0; answers = p.0.1.1.1; pending = p.1.0.0; retained = p.1.0.1.0; log = p.1.0.1.1; versions = p.1.1.0; scans = p.1.1.1.0; kept = p.1.1.1.1 })
    (λ _. refl)
