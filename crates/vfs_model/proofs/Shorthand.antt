-- Shorthand for worked rows: names, worlds, runs and replies.
use Rattle.std.proofs.Common.{◌≡◌, ℕ, List, [], ◌∷◌, Some, None, replicate, map}
use Rattle.vfs_model.specs.declared.Case.{Case}
use Rattle.vfs_model.specs.declared.Kind.TheVariants.{Missing as MissingKind, File as FileKind, Dir as DirKind}
use Rattle.vfs_model.specs.Paths.{Name, Path}
use Rattle.vfs_model.specs.World.{World, Entry, Directory, Regular}
use Rattle.vfs_model.specs.Snapshot.{Snapshot}
use Rattle.vfs_model.specs.Fingerprint.{Sensitivity, Input, Seen}
use Rattle.vfs_model.specs.State.{State, Call, Reply, Found, told_step}
use Rattle.vfs_model.specs.History.{opening}

-- a file with its bytes
abbrev pub file : Path → List ℕ → Entry
file path bytes = record { path = path; node = Regular bytes }

-- a directory
abbrev pub dir : Path → Entry
dir path = record { path = path; node = Directory }

-- the root of a world
abbrev pub root : Entry
root = dir []

-- the state in which nothing is known, over a world with this below its root
abbrev pub start : Case → ℕ → World → State
start case capacity below = opening case capacity (root ∷ below)

-- the replies to the calls, one after the other
abbrev pub replies : State → List Call → List Reply
replies s [] = []
replies s (call ∷ calls) = (told_step s call).reply ∷ replies (told_step s call).state calls

-- a call with its reply
abbrev pub Line : Type 0
Line = Call × Reply

-- from the state on, the calls of the lines have these replies, one after the other
abbrev pub IsRun : State → List Line → Type 0
IsRun s lines = replies s (map (λ (l : Line). l.0) lines) ≡ map (λ (l : Line). l.1) lines

-- what a find tells of a file
abbrev pub found_file : List ℕ → Reply
found_file digest = Found (Some (record { kind = FileKind; digest = Some digest }))

-- what a find tells of a directory
abbrev pub found_dir : List ℕ → Reply
found_dir digest = Found (Some (record { kind = DirKind; digest = Some digest }))

-- what a find tells of what is missing
abbrev pub found_missing : Reply
found_missing = Found (Some (record { kind = MissingKind; digest = None }))

-- a root and how its paths are taken
abbrev pub input : Path → Sensitivity → Input
input path taken = record { root = path; sensitivity = taken }

-- an input with the snapshot of its root
abbrev pub seen : Path → Sensitivity → Snapshot → Seen
seen path taken s = record { input = input path taken; snapshot = s }

-- the MD5 of the text a
abbrev pub md5_of_a : List ℕ
md5_of_a = 12 ∷ 193 ∷ 117 ∷ 185 ∷ 192 ∷ 241 ∷ 182 ∷ 168 ∷ 49 ∷ 195 ∷ 153 ∷ 226 ∷ 105 ∷ 119 ∷ 38 ∷ 97 ∷ []

-- the MD5 of the text abc
abbrev pub md5_of_abc : List ℕ
md5_of_abc = 144 ∷ 1 ∷ 80 ∷ 152 ∷ 60 ∷ 210 ∷ 79 ∷ 176 ∷ 214 ∷ 150 ∷ 63 ∷ 125 ∷ 40 ∷ 225 ∷ 127 ∷ 114 ∷ []

-- the path of so many names x
abbrev pub deep : ℕ → Path
deep n = replicate n (120 ∷ [])

-- ---- names, and texts of files, by their bytes

abbrev pub A : Name
A = 65 ∷ []

abbrev pub a : Name
a = 97 ∷ []

abbrev pub B : Name
B = 66 ∷ []

abbrev pub b : Name
b = 98 ∷ []

abbrev pub C : Name
C = 67 ∷ []

abbrev pub c : Name
c = 99 ∷ []

abbrev pub D : Name
D = 68 ∷ []

abbrev pub d : Name
d = 100 ∷ []

abbrev pub E : Name
E = 69 ∷ []

abbrev pub e : Name
e = 101 ∷ []

abbrev pub f : Name
f = 102 ∷ []

abbrev pub g : Name
g = 103 ∷ []

abbrev pub h : Name
h = 104 ∷ []

abbrev pub l : Name
l = 108 ∷ []

abbrev pub m : Name
m = 109 ∷ []

abbrev pub n : Name
n = 110 ∷ []

abbrev pub o : Name
o = 111 ∷ []

abbrev pub p : Name
p = 112 ∷ []

abbrev pub Q : Name
Q = 81 ∷ []

abbrev pub q : Name
q = 113 ∷ []

abbrev pub R : Name
R = 82 ∷ []

abbrev pub r : Name
r = 114 ∷ []

abbrev pub s : Name
s = 115 ∷ []

abbrev pub T : Name
T = 84 ∷ []

abbrev pub t : Name
t = 116 ∷ []

abbrev pub u : Name
u = 117 ∷ []

abbrev pub v : Name
v = 118 ∷ []

abbrev pub w : Name
w = 119 ∷ []

abbrev pub X : Name
X = 88 ∷ []

abbrev pub x : Name
x = 120 ∷ []

abbrev pub y : Name
y = 121 ∷ []

abbrev pub Z : Name
Z = 90 ∷ []

abbrev pub z : Name
z = 122 ∷ []

abbrev pub ab : Name
ab = 97 ∷ 98 ∷ []

abbrev pub abc : Name
abc = 97 ∷ 98 ∷ 99 ∷ []

abbrev pub abd : Name
abd = 97 ∷ 98 ∷ 100 ∷ []

abbrev pub cw : Name
cw = 99 ∷ 119 ∷ []

abbrev pub LIB : Name
LIB = 76 ∷ 73 ∷ 66 ∷ []

abbrev pub Lib : Name
Lib = 76 ∷ 105 ∷ 98 ∷ []

abbrev pub lIb : Name
lIb = 108 ∷ 73 ∷ 98 ∷ []

abbrev pub lib : Name
lib = 108 ∷ 105 ∷ 98 ∷ []

abbrev pub lz : Name
lz = 108 ∷ 122 ∷ []

abbrev pub NEW : Name
NEW = 78 ∷ 69 ∷ 87 ∷ []

abbrev pub new : Name
new = 110 ∷ 101 ∷ 119 ∷ []

abbrev pub SRC : Name
SRC = 83 ∷ 82 ∷ 67 ∷ []

abbrev pub Src : Name
Src = 83 ∷ 114 ∷ 99 ∷ []

abbrev pub sRC : Name
sRC = 115 ∷ 82 ∷ 67 ∷ []

abbrev pub sRc : Name
sRc = 115 ∷ 82 ∷ 99 ∷ []

abbrev pub srC : Name
srC = 115 ∷ 114 ∷ 67 ∷ []

abbrev pub src : Name
src = 115 ∷ 114 ∷ 99 ∷ []

abbrev pub sx : Name
sx = 115 ∷ 120 ∷ []

abbrev pub sy : Name
sy = 115 ∷ 121 ∷ []

abbrev pub zz : Name
zz = 122 ∷ 122 ∷ []

abbrev pub zzz : Name
zzz = 122 ∷ 122 ∷ 122 ∷ []

abbrev pub a_b : Name
a_b = 97 ∷ 32 ∷ 98 ∷ []
