use Rattle.std.proofs.Common.{ap, sym, ◌∙◌, refl}
use Rattle.vfs_model.specs.Scanning.{Unread, Walk, after_looks, looks_of}
use Rattle.vfs_laws.proofs.DecidedLemmas.{decided-by_readings}
use Rattle.vfs_laws.proofs.WalkLemmas.{walk-after_looks, own_looks-make_all, locations_left-next_left, locations_left-count_left}
use Rattle.vfs_laws.proofs.two_lists_say_the_same.Goals as goal

pub returns : goal.returns
returns c = record {
  lists = λ looks. walk-after_looks looks Unread tt;
  partial = λ looks. ap (λ (w : Walk). after_looks Unread (looks_of w.read)) (sym (walk-after_looks looks Unread tt)) ∙ own_looks-make_all looks Unread tt refl;
  decided = decided-by_readings;
  next = locations_left-next_left;
  left = locations_left-count_left;
}
