use Rattle.std.proofs.Common.{◌≡◌, [], refl}
use Rattle.std.proofs.lemmas.List.{nil_from_length}
use Rattle.script_text.specs.Words.{value_of}
use Rattle.script_text.proofs.PlainUnits.{plain_unit}
use Rattle.script_reader.proofs.Units.{short_escape, no_escape, good_escape}
use Rattle.script_reader.proofs.words.unit_of.Goals as goal

pub returns-in_default-clause-value : goal.returns-in_default-clause-value
unfolding value_of
returns-in_default-clause-value c = let e : c.args.bytes.now ≡ [] = nil_from_length c.args.bytes.now c.in_default.ensures.cases in rw e refl

pub returns-then-first-ne37-clause-value : goal.returns-then-first-ne37-clause-value
returns-then-first-ne37-clause-value c = plain_unit c.args.bytes.now _ _ c.in-Some.ensures.cases.0 c.if-first-ne37.true

pub returns-in_default-rest-clause-value : goal.returns-in_default-rest-clause-value
returns-in_default-rest-clause-value c = short_escape c.args.bytes.now _ _ c.in-Some.ensures.cases.0 c.if-first-ne37.false c.in_default-rest.len_below

pub returns-in-Some-hex_pair-clause-value : goal.returns-in-Some-hex_pair-clause-value
returns-in-Some-hex_pair-clause-value c = good_escape c.args.bytes.now _ _ _ c.in-Some-hex_pair.byte c.in-Some.ensures.cases.0 c.if-first-ne37.false c.in-len2-up.len_at_least c.hex_pair.ensures c.in-Some-hex_pair.is

pub returns-in-None-clause-value : goal.returns-in-None-clause-value
returns-in-None-clause-value c = no_escape c.args.bytes.now _ _ _ c.in-Some.ensures.cases.0 c.if-first-ne37.false c.in-len2-up.len_at_least c.hex_pair.ensures c.in-None.is
