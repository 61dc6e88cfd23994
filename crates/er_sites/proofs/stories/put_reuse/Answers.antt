-- The reasons stand behind what was given back.
use Rattle.std.proofs.Common.{◌≡◌, ◌++◌}
use Rattle.std.proofs.lemmas.Result.{on_ok_weaker}
use Rattle.er_sites.proofs.RowLemmas.{put_two}
use Rattle.er_sites.specs.Text.{given_back_text, reuse_text}
use Rattle.er_sites.proofs.stories.put_reuse.Goals as goal

pub returns : goal.returns
unfolding reuse_text
returns c =
    let given : c.put.new.out.items ≡ c.args.out.now.items ++ given_back_text c.args.legend.now.names.now c.args.race.now c.args.range.now =
    rw (← c.race.view_is, ← c.bytes_of.ensures) c.in_ok-put.ensures.joined in
    on_ok_weaker c.put_reasons.result (put_two c.args.out.now.items _ _ _ _ given) c.put_reasons.ensures
