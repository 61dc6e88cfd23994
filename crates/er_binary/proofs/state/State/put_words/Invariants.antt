-- The lines that were put, and those that are left.
use Rattle.std.proofs.Common.{◌≡◌, ◌-◌, ◌/◌, ◌++◌}
use Rattle.er_binary.specs.Texts.{access_lines}
use Rattle.er_binary.proofs.state.State.put_words.Given as goal

abbrev pub invariant-loop-word : goal.invariant-loop-word
invariant-loop-word l = record {
  text : l.out.items ++ access_lines l.self l.verb l.words.node l.word (l.words.end - l.word) ≡ l.fn.out.items ++ access_lines l.self l.verb l.words.node (l.words.at / 4) (l.words.end - l.words.at / 4);
}
