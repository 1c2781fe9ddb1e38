-- `entries::promises` meets its contract: each promise is a theorem.
-- Assumes nothing.
use Rattle.entries.specs.Promises.{SortSorts, RanksByCount, StandsMember, PlaceCounts, SameWords, EntriesBack}
use Rattle.entries.proofs.Maps.{same_words, entries_back}
use Rattle.entries.proofs.Places.{place_counts}
use Rattle.entries.proofs.Sorting.{stands, stands_counts, sort_sorts, stands_member}
use Rattle.entries.proofs.promises.Goals as goal

pub returns : goal.returns
unfolding SortSorts RanksByCount StandsMember PlaceCounts SameWords EntriesBack
returns c = record {
  sort_sorts = sort_sorts;
  ranks_by_count = λ X v k. (stands_counts X v k, λ h. stands X v k h.0 h.1);
  stands_member = stands_member;
  place_counts = λ x vs r. place_counts 0 x vs r;
  same_words = same_words;
  entries_back = entries_back;
}
