-- What is left to add comes to the whole.
use Rattle.std.proofs.Common.{◌≡◌, ◌+◌, ◌-◌}
use Rattle.er_text.specs.Inner.Ready.{with_accesses}
use Rattle.er_text.proofs.ready.add_accesses.Given as goal

abbrev pub invariant-loop-i : goal.invariant-loop-i
invariant-loop-i l = record {
  names : l.trace.names ≡ l.fn.trace.names;
  whole : with_accesses l.thread l.kind l.first l.site l.line l.count l.fn.trace ≡ with_accesses l.thread l.kind (l.first + l.i) l.site (l.line + l.i) (l.count - l.i) l.trace;
}
