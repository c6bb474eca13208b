-- What is told of a source and of a sink.
use Rattle.std.specs.Prelude.{◌≡◌, ℕ, List, [], ◌∷◌, ◌++◌, option_map, Result, OnOk, OnErr}
use Rattle.std.specs.declared.option.Option.{Option}

-- of a source: the bytes that are left, where it tells them; the length of the buffer of each call that did not fail, where it lists them; how many calls failed
pub record SourceTold : Type 0 where
  pub left : Option (List ℕ)
  pub takes : Option (List ℕ)
  pub faults : ℕ

-- of a sink: the bytes that were written, where it tells them; the piece of each call that did not fail, where it lists them; how many calls failed
pub record SinkTold : Type 0 where
  pub written : Option (List ℕ)
  pub puts : Option (List (List ℕ))
  pub faults : ℕ

-- the list, where it is told, has these behind what it had
abbrev pub Grows : {A : Type 0} → Option (List A) → Option (List A) → List A → Type 0
Grows old new more = new ≡ option_map (λ all. all ++ more) old

-- a call that did not fail is listed, and one that failed is not
pub record IsListed {T E A : Type 0} (old new : Option (List A)) (result : Result T E) (call : A) : Type 0 where
  pub done : OnOk result (Grows old new (call ∷ []))
  pub failed : OnErr result (new ≡ old)
