-- Worked bad lines of which several causes hold, one for each two neighbours in their order, computed from the definitions.
-- A bad caller and a late setting never hold of one line, nor do a missing second word and an unknown one, nor an unknown word and a wrong count.
use Rattle.std.proofs.Common.{◌≡◌, ℕ, List, [], ◌∷◌, ◌++◌, Err, refl}
use Rattle.std.specs.Prelude.{codes}
use Rattle.vfs_path.specs.declared.error.PathError.TheVariants.{NotAbsolute}
use Rattle.script_text.specs.declared.cause.Cause.{Cause}
use Rattle.script_text.specs.declared.cause.Cause.TheVariants.{NoLineEnd, BadEscape, EmptyWord, UnknownWord, BadCaller, BadNumber, Repeated, LateSetting, WrongCount, BadPath, BadInput}
use Rattle.script_text.specs.declared.script.TextKind.TheVariants.{Replay}
use Rattle.script_text.specs.Words.{value_of, values_of, words_of}
use Rattle.script_reader.specs.Forms.{opening_of, plain_command_of, input_command_of, path_command_of, command_of}
use Rattle.script_reader.specs.Reading.{no_lines, with_words, after_line, after_parts, script_of}

-- each line with its end
abbrev text : List (List ℕ) → List ℕ
text [] = []
text (line ∷ more) = line ++ 10 ∷ text more

-- the text is bad at this line, of this cause
abbrev IsBad : List ℕ → ℕ → Cause → Type 0
IsBad bytes line cause = script_of Replay bytes ≡ Err (record { line = line; cause = cause })

-- the words of one line, where nothing came before, are bad of this cause
abbrev AreBad : List (List ℕ) → Cause → Type 0
AreBad words cause = with_words Replay no_lines words ≡ Err cause

-- ---- what is wrong with the line as such

no_line_end_before_an_empty_word : IsBad (codes "0  read") 1 NoLineEnd
unfolding script_of after_parts
no_line_end_before_an_empty_word = refl

empty_word_before_a_bad_escape : IsBad (text (codes "0  find %zz" ∷ [])) 1 EmptyWord
unfolding script_of after_parts after_line words_of
empty_word_before_a_bad_escape = refl

bad_escape_before_a_bad_caller : IsBad (text (codes "x %zz" ∷ [])) 1 BadEscape
unfolding script_of after_parts after_line words_of values_of value_of
bad_escape_before_a_bad_caller = refl

bad_escape_before_a_late_setting : IsBad (text (codes "0 read" ∷ codes "set %zz" ∷ [])) 2 BadEscape
unfolding script_of after_parts after_line words_of values_of value_of with_words command_of path_command_of input_command_of plain_command_of
bad_escape_before_a_late_setting = refl

-- ---- what is wrong with its first two words

bad_caller_before_a_missing_word : IsBad (text (codes "16" ∷ [])) 1 BadCaller
unfolding script_of after_parts after_line words_of values_of value_of with_words
bad_caller_before_a_missing_word = refl

bad_caller_before_an_unknown_word : IsBad (text (codes "16 fnd" ∷ [])) 1 BadCaller
unfolding script_of after_parts after_line words_of values_of value_of with_words
bad_caller_before_an_unknown_word = refl

late_setting_before_a_missing_word : IsBad (text (codes "0 read" ∷ codes "set" ∷ [])) 2 LateSetting
unfolding script_of after_parts after_line words_of values_of value_of with_words command_of path_command_of input_command_of plain_command_of
late_setting_before_a_missing_word = refl

late_setting_before_an_unknown_word : IsBad (text (codes "0 read" ∷ codes "set fnd" ∷ [])) 2 LateSetting
unfolding script_of after_parts after_line words_of values_of value_of with_words command_of path_command_of input_command_of plain_command_of
late_setting_before_an_unknown_word = refl

-- no form has so many words
unknown_word_whatever_the_count : IsBad (text (codes "0 fnd a b c" ∷ [])) 1 UnknownWord
unfolding script_of after_parts after_line words_of values_of value_of with_words command_of path_command_of input_command_of plain_command_of
unknown_word_whatever_the_count = refl

-- ---- what is wrong with the words behind them

wrong_count_before_a_bad_number : IsBad (text (codes "set queue 0 0" ∷ [])) 1 WrongCount
unfolding script_of after_parts after_line words_of values_of value_of with_words opening_of
wrong_count_before_a_bad_number = refl

wrong_count_before_a_bad_path : IsBad (text (codes "0 find a b" ∷ [])) 1 WrongCount
unfolding script_of after_parts after_line words_of values_of value_of with_words command_of path_command_of
wrong_count_before_a_bad_path = refl

wrong_count_before_too_large_contents : (path bytes more : List ℕ) → AreBad (codes "0" ∷ codes "write" ∷ path ∷ bytes ∷ more ∷ []) WrongCount
unfolding with_words command_of
wrong_count_before_too_large_contents path bytes more = refl

-- `x ` eight times
abbrev eight : List ℕ
eight = codes " x x x x x x x x"

wrong_count_before_a_bad_input : IsBad (text ((codes "0 print x" ++ eight ++ eight ++ eight ++ eight ++ eight ++ eight ++ eight ++ eight) ∷ [])) 1 WrongCount
unfolding script_of after_parts after_line words_of values_of value_of with_words command_of path_command_of input_command_of
wrong_count_before_a_bad_input = refl

-- ---- from left to right

bad_path_before_another : IsBad (text (codes "0 move a //" ∷ [])) 1 (BadPath NotAbsolute)
unfolding script_of after_parts after_line words_of values_of value_of with_words command_of
bad_path_before_another = refl

bad_path_before_too_large_contents : (bytes : List ℕ) → AreBad (codes "0" ∷ codes "write" ∷ codes "a" ∷ bytes ∷ []) (BadPath NotAbsolute)
unfolding with_words command_of
bad_path_before_too_large_contents bytes = refl

bad_root_before_a_bad_input : IsBad (text (codes "0 print abs:a x" ∷ [])) 1 (BadPath NotAbsolute)
unfolding script_of after_parts after_line words_of values_of value_of with_words command_of path_command_of input_command_of
bad_root_before_a_bad_input = refl

bad_input_before_a_bad_root : IsBad (text (codes "0 print x abs:a" ∷ [])) 1 BadInput
unfolding script_of after_parts after_line words_of values_of value_of with_words command_of path_command_of input_command_of
bad_input_before_a_bad_root = refl

-- ---- and last what earlier lines say

bad_number_before_a_repetition : IsBad (text (codes "set queue 4" ∷ codes "set queue 0" ∷ [])) 2 BadNumber
unfolding script_of after_parts after_line words_of values_of value_of with_words opening_of
bad_number_before_a_repetition = refl

wrong_count_before_a_repetition : IsBad (text (codes "set queue 4" ∷ codes "set queue" ∷ [])) 2 WrongCount
unfolding script_of after_parts after_line words_of values_of value_of with_words opening_of
wrong_count_before_a_repetition = refl

repetition_where_nothing_else_is_wrong : IsBad (text (codes "set queue 4" ∷ codes "set queue 4" ∷ [])) 2 Repeated
unfolding script_of after_parts after_line words_of values_of value_of with_words opening_of
repetition_where_nothing_else_is_wrong = refl

first_bad_line_before_the_next : IsBad (text (codes "0 fnd" ∷ codes "0  read" ∷ [])) 1 UnknownWord
unfolding script_of after_parts after_line words_of values_of value_of with_words command_of path_command_of input_command_of plain_command_of
first_bad_line_before_the_next = refl
