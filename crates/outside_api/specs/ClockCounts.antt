-- What the counts of a clock say.
use Rattle.outside_api.specs.Clock.{Clock}
use Rattle.outside_api.specs.declared.clock_counts.ClockCounts.{ClockCounts}

-- its readings, pauses and looks
abbrev pub counts_of : ClockCounts → Clock
counts_of counts = record {
  readings = counts.readings;
  first = counts.first;
  last = counts.last;
  paused = counts.paused;
  looks = counts.looks;
  yeses = counts.yeses;
  place = counts.place;
}
