use Rattle.std.proofs.Common.{◌≡◌, List, [], ◌∷◌, ◌++◌, refl, ap, ◌∙◌, lit<, lit≤}
use Rattle.std.specs.Prelude.{codes}
use Rattle.std.proofs.lemmas.Fmt.{decimal_digit}
use Rattle.script_text.specs.declared.script.TextKind.TheVariants.{Replay}
use Rattle.script_text.specs.declared.script.Opening.{Opening}
use Rattle.script_text.specs.declared.script.Opening.TheVariants.{Queue}
use Rattle.script_text.specs.declared.script.Command.TheVariants.{Lose}
use Rattle.script_text.specs.declared.script.Line.{Line}
use Rattle.script_text.specs.declared.script.Script.{Script}
use Rattle.script_text.specs.Words.{value_of, values_of, words_of}
use Rattle.script_text.specs.Set.{settings_of}
use Rattle.script_text.specs.Grammar.{IsOpeningLine, IsCommandLine, none, line}
use Rattle.script_text.specs.Writing.{HasText}
use Rattle.script_text.proofs.tests.writes_a_script.Goals as goal

sets_queue : IsOpeningLine (codes "set queue 4") (Queue 4)
unfolding words_of values_of value_of
sets_queue = record { words = codes "queue" ∷ codes "4" ∷ []; spelled = (refl, refl); form = (lit≤ tt, lit≤ tt, rw (decimal_digit 4 (lit< tt)) refl) }

abbrev three_loses : Line
three_loses = record { caller = 3; command = Lose }

loses : IsCommandLine Replay (codes "3 lose") three_loses
unfolding words_of values_of value_of
loses = record { words = codes "lose" ∷ []; spelled = (refl, rw (decimal_digit 3 (lit< tt)) refl); caller = lit≤ tt; form = refl; allowed = refl }

has_text : (s : Script) → s.settings ≡ settings_of (Queue 4 ∷ []) → s.opening ≡ Queue 4 ∷ [] → s.lines ≡ three_loses ∷ [] → HasText s
has_text s settings opening lines = (
  codes "set queue 4\n3 lose\n",
  record {
    lines = codes "set queue 4" ∷ codes "3 lose" ∷ [];
    ended = refl;
    script = record {
      first = codes "set queue 4" ∷ [];
      second = codes "3 lose" ∷ [];
      both = refl;
      opening = rw opening (line _ _ [] [] sets_queue none);
      once = rw opening (refl, tt);
      settings = rw opening settings;
      commands = rw lines (line _ _ [] [] loses none);
    };
  },
)

pub write_script-requires : goal.write_script-requires
write_script-requires g c =
    let opening : c.push.new.self ≡ Queue 4 ∷ [] = c.in_ok-push.ensures.ok ∙ ap (λ (os : List Opening). os ++ Queue 4 ∷ []) (c.from_vec-opening.ensures ∙ c.new.ensures.items) in
    let lines : c.push-2.new.self ≡ three_loses ∷ [] = c.in_ok-push-2.ensures.ok ∙ ap (λ (ls : List Line). ls ++ three_loses ∷ []) (c.from_vec-lines.ensures ∙ c.new-2.ensures.items) in
    has_text _ (rw c.default.ensures refl) opening lines
