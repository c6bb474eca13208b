-- What contracts see of the sources and sinks of this crate.
use Rattle.std.specs.Prelude.{ℕ, List, ◌++◌, drop, Contains}
use Rattle.std.specs.declared.option.Option.{Option}
use Rattle.vfs_model.specs.Faults.{next_count, next_number}

-- a source or a sink in memory: the bytes that are left or were written, the numbers of the calls
-- that fail, how many calls were made, and how many of them failed
pub record MemoryStream : Type 0 where
  pub bytes : List ℕ
  pub fails : List ℕ
  pub calls : ℕ
  pub faults : ℕ

-- the next call is one of those that fail
abbrev pub IsNextToFail : MemoryStream → Type 0
IsNextToFail s = Contains s.fails (next_number s.calls)

-- after one more call, which failed
abbrev pub after_failure : MemoryStream → MemoryStream
after_failure s = record s { calls = next_number s.calls; faults = next_count s.faults }

-- after one more call, which took the first n bytes
abbrev pub after_take : ℕ → MemoryStream → MemoryStream
after_take n s = record s { bytes = drop n s.bytes; calls = next_number s.calls }

-- after one more call, which appended the piece
abbrev pub after_put : List ℕ → MemoryStream → MemoryStream
after_put piece s = record s { bytes = s.bytes ++ piece; calls = next_number s.calls }

-- a reader or a writer that counts its faults: the bytes that it has left or holds, where it tells them
pub record CountedStream : Type 0 where
  pub bytes : Option (List ℕ)
  pub faults : ℕ
