-- How far in the block the word begins, and where the block was allocated.
use Rattle.std.proofs.Common.{◌++◌, ◌∙◌, ◌*◌, ◌-◌, ℕ, codes, decimal, ap}
use Rattle.std.proofs.lemmas.Result.{on_ok_weaker}
use Rattle.er_sites.proofs.PutLemmas.{appended}
use Rattle.er_sites.proofs.RowLemmas.{put_two}
use Rattle.er_sites.specs.Text.{block_text}
use Rattle.er_sites.proofs.stories.put_block.Goals as goal

pub returns-in-Some : goal.returns-in-Some
unfolding block_text
returns-in-Some c =
    let offset = c.offset_of-offset.ensures ∙ ap (λ (word : ℕ). 4 * word - c.args.block.now.extent.address) c.number.ensures.value in
    let front = c.in_ok-put.ensures.joined ∙ ap (λ (n : ℕ). c.args.out.now.items ++ (codes " byte " ++ decimal n ++ codes " of a block of " ++ decimal c.args.block.now.extent.size)) offset in
    rw (c.in-Some.is, ← c.call_name.ensures) (on_ok_weaker c.put-in-Some.result (put_two c.args.out.now.items _ _ _ _ front) c.put-in-Some.ensures.joined)

pub returns-in-None : goal.returns-in-None
unfolding block_text
returns-in-None c =
    let offset = c.offset_of-offset.ensures ∙ ap (λ (word : ℕ). 4 * word - c.args.block.now.extent.address) c.number.ensures.value in
    let front = c.in_ok-put.ensures.joined ∙ ap (λ (n : ℕ). c.args.out.now.items ++ (codes " byte " ++ decimal n ++ codes " of a block of " ++ decimal c.args.block.now.extent.size)) offset in
    rw c.in-None.is
    (on_ok_weaker c.extend_from_slice.result (put_two c.args.out.now.items _ _ _ _ front)
    (appended c.extend_from_slice.result _ c.extend_from_slice.new.self.items (codes " bytes,") c.extend_from_slice.ensures.items))
