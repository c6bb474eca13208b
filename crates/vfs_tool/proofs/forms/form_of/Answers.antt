use Rattle.vfs_tool.proofs.WordLemmas.{same_text, one_form, two_forms, folder_form}
use Rattle.vfs_tool.proofs.forms.form_of.Goals as goal

pub returns-in-len1-clause-found : goal.returns-in-len1-clause-found
returns-in-len1-clause-found c =
    one_form c.args.words.now c.word-item.result c.as_str.result.now _ c.in-len1.len_at_least c.in-len1.len_below c.word-item.is c.as_str.ensures.value (same_text c.as_str.result.now _ c.eq.result c.eq.ensures c.if-eq.true)

pub returns-in-len2-clause-found : goal.returns-in-len2-clause-found
returns-in-len2-clause-found c =
    folder_form c.args.words.now c.word-item-then-words-lt3.result c.as_str-then-words-lt3.result.now _ c.in-len2.len_at_least c.in-len2.len_below c.word-item-then-words-lt3.is c.as_str-then-words-lt3.ensures.value (same_text c.as_str-then-words-lt3.result.now _ c.eq-then-words-lt3.result c.eq-then-words-lt3.ensures c.if-eq-2.true)

pub returns-in_ok-count_of-in-len2-2-clause-found : goal.returns-in_ok-count_of-in-len2-2-clause-found
returns-in_ok-count_of-in-len2-2-clause-found c =
    let found = c.in_ok-count_of-in-len2-2.ensures.found in (
      found.0,
      found.1,
      two_forms c.args.words.now c.word-item-then-words-lt3-2.result c.count-item.result c.as_str-then-words-lt3-2.result.now _ c.as_str-in-len2-2.result.now _ c.in-len2.len_at_least c.in-len2.len_below c.word-item-then-words-lt3-2.is c.count-item.is c.as_str-then-words-lt3-2.ensures.value c.as_str-in-len2-2.ensures.value
          (same_text c.as_str-then-words-lt3-2.result.now _ c.eq-then-words-lt3-2.result c.eq-then-words-lt3-2.ensures c.if-eq-3.true)
          found.2,
    )
