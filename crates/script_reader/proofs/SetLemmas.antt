-- What opening lines set, one more line at a time.
use Rattle.std.proofs.Common.{◌≡◌, Bool, true, false, ◌||◌, List, [], ◌∷◌, ◌++◌, refl, sym, ◌∙◌}
use Rattle.std.specs.List.{list_any}
use Rattle.std.proofs.lemmas.List.Folds.{list_any-append}
use Rattle.vfs_model.specs.Paths.{Path}
use Rattle.std.specs.Prelude.{ℕ}
use Rattle.world_model.specs.declared.settings.Settings.{Settings}
use Rattle.script_text.specs.declared.script.Opening.{Opening}
use Rattle.script_text.specs.declared.script.Opening.TheVariants.{Dir, File}
use Rattle.script_text.specs.Set.{with_set, settings_after, is_same_setting, IsOnce}

pub settings_more : (s : Settings) (xs ys : List Opening) → settings_after s (xs ++ ys) ≡ settings_after (settings_after s xs) ys
settings_more s [] ys = refl
settings_more s (x ∷ xs) ys = settings_more (with_set s x) xs ys

-- what is no setting repeats none
none_same : (o : Opening) (earlier : List Opening) → ((other : Opening) → is_same_setting o other ≡ false) → list_any (is_same_setting o) earlier ≡ false
none_same o [] h = refl
none_same o (other ∷ earlier) h = rw (h other) (none_same o earlier h)

pub dir_repeats_none : (o : Opening) (path : Path) (earlier : List Opening) → o ≡ Dir path → list_any (is_same_setting o) earlier ≡ false
dir_repeats_none o path earlier is = rw is (none_same (Dir path) earlier (λ other. refl))

pub file_repeats_none : (o : Opening) (path : Path) (bytes : List ℕ) (earlier : List Opening) → o ≡ File path bytes → list_any (is_same_setting o) earlier ≡ false
file_repeats_none o path bytes earlier is = rw is (none_same (File path bytes) earlier (λ other. refl))

neither : (a b : Bool) → (a || b) ≡ false → (a ≡ false) × (b ≡ false)
neither true b e = absurd cc
neither false b e = (refl, e)

none_of_both : (a b : Bool) → a ≡ false → b ≡ false → (a || b) ≡ false
none_of_both true b e f = absurd cc
none_of_both false b e f = f

-- none of a list is such: neither one in the middle, nor those before it
none_in_middle : (p : Opening → Bool) (xs : List Opening) (y : Opening) (ys : List Opening) → list_any p (xs ++ y ∷ ys) ≡ false → p y ≡ false
none_in_middle p xs y ys e = (neither (p y) (list_any p ys) (neither (list_any p xs) (list_any p (y ∷ ys)) (sym (list_any-append p xs (y ∷ ys)) ∙ e)).1).0

none_with_last : (p : Opening → Bool) (xs : List Opening) (y : Opening) → list_any p xs ≡ false → p y ≡ false → list_any p (xs ++ y ∷ []) ≡ false
none_with_last p xs y e f = list_any-append p xs (y ∷ []) ∙ none_of_both (list_any p xs) (list_any p (y ∷ [])) e (none_of_both (p y) false f refl)

-- where nothing is set twice, a line is no setting of an earlier one
pub once_in_middle : (before : List Opening) (o : Opening) (more : List Opening) → IsOnce (before ++ o ∷ more) → list_any (is_same_setting o) before ≡ false
once_in_middle [] o more h = refl
once_in_middle (b ∷ before) o more h = none_of_both (is_same_setting o b) (list_any (is_same_setting o) before) (none_in_middle (λ later. is_same_setting later b) before o more h.0) (once_in_middle before o more h.1)

pub once_with_last : (before : List Opening) (o : Opening) → IsOnce before → list_any (is_same_setting o) before ≡ false → IsOnce (before ++ o ∷ [])
once_with_last [] o h new = (refl, tt)
once_with_last (b ∷ before) o h new =
    let n = neither (is_same_setting o b) (list_any (is_same_setting o) before) new in
    (none_with_last (λ later. is_same_setting later b) before o h.0 n.0, once_with_last before o h.1 n.1)
