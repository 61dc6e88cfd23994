-- The block begins with the twelve bytes.
use Rattle.std.proofs.Common.{◌∙◌, sym}
use Rattle.std.proofs.lemmas.List.{take_at}
use Rattle.er_text.proofs.FastPathLemmas.{same_front}
use Rattle.er_text.proofs.fast_path.twelve_last_digits.Goals as goal

pub returns : goal.returns
returns c =
    let front = take_at c.copy_from_slice.new.self _ 12 c.copy_from_slice.ensures.len in
    same_front c.args.bytes.now _ c.twelve_digits.result (sym (front ∙ c.copy_from_slice.ensures.after)) c.twelve_digits.ensures
