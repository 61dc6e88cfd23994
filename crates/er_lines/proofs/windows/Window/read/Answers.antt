use Rattle.std.proofs.Common.{◌≡◌, List, ℕ, ◌+◌, ◌-◌, ◌++◌, ◌≤◌, length, take, slice_range, sym, ap, ◌∙◌, rules}
use Rattle.std.proofs.lemmas.List.{with_items_is}
use borrow.Rule.Slice.PartMut.{post_of}
use Rattle.er_lines.proofs.WindowLemmas.{after_read, kept_front}
use Rattle.er_lines.proofs.windows.Window.read.Goals as goal

pub returns-clause-bytes : goal.returns-clause-bytes
returns-clause-bytes g c =
    let w = c.args.self.now in
    let n = c.in-Ok.count in
    let buffer = c.read.new.buffer in
    let held = c.deref_mut.result.now in
    let bound = rw c.in-Ok.is at c.read.ensures.bound in
    let tail = post_of w.end (c.args.stop - w.end) held in
    let fits : w.end ≤ length held = search rules in
    let len : length (take w.end held ++ (buffer ++ tail)) ≡ w.bytes.len = search rules in (
      take n buffer,
      sym bound.1,
      ap (λ (t : List ℕ). slice_range t w.start (w.end + n)) (with_items_is w.bytes (take w.end held ++ (buffer ++ tail)) len)
          ∙ after_read held buffer tail w.start w.end n c.requires.front fits bound.0
          ∙ ap (λ (t : List ℕ). slice_range t w.start w.end ++ take n buffer) c.deref_mut.ensures.value,
      rw c.count_taken.ensures (rw c.inner_mut.ensures.value at (rw c.in-Ok.is at c.read.ensures.bytes).0),
    )

pub returns-in_default-clause-kept : goal.returns-in_default-clause-kept
returns-in_default-clause-kept g c =
    let w = c.args.self.now in
    let buffer = c.read.new.buffer in
    let held = c.deref_mut.result.now in
    let tail = post_of w.end (c.args.stop - w.end) held in
    let fits : w.end ≤ length held = search rules in
    let len : length (take w.end held ++ (buffer ++ tail)) ≡ w.bytes.len = search rules in
    ap (λ (t : List ℕ). slice_range t w.start w.end) (with_items_is w.bytes (take w.end held ++ (buffer ++ tail)) len)
    ∙ kept_front held buffer tail w.start w.end c.requires.front fits ∙ ap (λ (t : List ℕ). slice_range t w.start w.end) c.deref_mut.ensures.value
