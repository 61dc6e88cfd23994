use Rattle.std.proofs.Common.{◌≡◌, true, None}
use Rattle.er_online.specs.Spans.{IsSpanned}
use Rattle.er_online.specs.Taken.{HasSameStates}
use Rattle.er_online.proofs.shard.Shard.access_span.Given as goal

-- the words so far are taken
abbrev pub invariant-loop-taken : goal.invariant-loop-taken
invariant-loop-taken l = record {
  spanned : IsSpanned l.fn.self l.self l.fn.thread l.fn.kind l.fn.locks l.fn.words.first l.taken l.first_race;
  settled : l.is_settled ≡ true → HasSameStates l.fn.self l.self;
  quiet : l.is_settled ≡ true → l.first_race ≡ None;
}
