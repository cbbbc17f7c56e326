use Rattle.std.proofs.Common.{◌≡◌, ◌≤◌, length, take, drop, max}
use Rattle.code_region.specs.Keeping.{AreApart, AreJoined}
use Rattle.code_region.specs.Gaps.{gaps_between, first_gap, longest}
use Rattle.code_region.specs.Searching.{end_from}
use Rattle.code_region.proofs.gaps.first_fit.Given as goal

abbrev pub invariant-loop-index : goal.invariant-loop-index
invariant-loop-index l = record {
  within : l.index ≤ length l.spans;
  apart : AreApart l.from l.limit (drop l.index l.spans);
  front : end_from 0 (take l.index l.spans) ≡ l.from;
  first : first_gap l.needed (gaps_between 0 l.limit l.spans) ≡ first_gap l.needed (gaps_between l.from l.limit (drop l.index l.spans));
  long : longest (gaps_between 0 l.limit l.spans) ≡ max l.largest (longest (gaps_between l.from l.limit (drop l.index l.spans)));
  all : l.largest ≡ 0 → AreJoined 0 (take l.index l.spans);
}
