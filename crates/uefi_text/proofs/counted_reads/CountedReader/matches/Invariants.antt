use Rattle.std.proofs.Common.{◌≡◌, ◌+◌, ◌*◌, ◌≤◌, length}
use Rattle.uefi_text.specs.Views.{read_count, read_units}
use Rattle.uefi_text.proofs.SearchCosts.{left}
use Rattle.uefi_text.proofs.GreedySearch.{Searching, StarWithin, tried}
use Rattle.uefi_text.proofs.counted_reads.CountedReader.matches.Given as goal

abbrev pub invariant-searching : goal.invariant-searching
invariant-searching l = record {
  text : read_units l.self ≡ read_units l.fn.self;
  pattern : read_units l.pattern ≡ read_units l.fn.pattern;
  in_pattern : l.at ≤ length (read_units l.fn.pattern);
  in_text : l.place ≤ length (read_units l.fn.self);
  star : StarWithin l.star (length (read_units l.fn.pattern)) l.place;
  search : Searching (read_units l.fn.pattern) (read_units l.fn.self) l.at l.place l.star;
  text_reads : read_count l.self + left (length (read_units l.fn.self)) (length (read_units l.fn.pattern)) (tried l.star) l.at
      ≤ read_count l.fn.self + (length (read_units l.fn.self) * (length (read_units l.fn.pattern) + 1) + length (read_units l.fn.pattern));
  pattern_reads : read_count l.pattern + left (length (read_units l.fn.self)) (length (read_units l.fn.pattern)) (tried l.star) l.at
      ≤ read_count l.fn.pattern + (length (read_units l.fn.self) * (length (read_units l.fn.pattern) + 1) + length (read_units l.fn.pattern));
}

abbrev pub decreases-searching : goal.decreases-searching
decreases-searching l = left (length (read_units l.fn.self)) (length (read_units l.fn.pattern)) (tried l.star) l.at
