use Rattle.std.proofs.lemmas.List.{take_rest}
use Rattle.er_lines.proofs.WordLemmas.{next_is}
use Rattle.er_lines.proofs.bytes.next_word.Goals as goal

pub returns : goal.returns
returns c =
    let line = c.args.bytes.now in
    let found = next_is line _ _ _ c.gap_len.result c.word_len.result c.gap_len.ensures.place (take_rest line c.gap_len.result)
    c.word_len.ensures.place c.split_at.ensures.front c.split_at.ensures.back in
    record { word = found.0; rest = found.1 }
