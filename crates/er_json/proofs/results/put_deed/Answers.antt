-- An access and a reuse, by the parts that they are put by.
use Rattle.std.proofs.Common.{◌∙◌, ◌++◌, ℕ, List, ap}
use Rattle.std.proofs.lemmas.Result.{on_ok_weaker}
use Rattle.er_json.proofs.PutLemmas.{put_three}
use Rattle.er_json.proofs.results.put_deed.Goals as goal

pub returns-in_ok-put_subject-in-Access : goal.returns-in_ok-put_subject-in-Access
returns-in_ok-put_subject-in-Access c =
    let did = c.in_ok-extend_from_slice-in-Access.ensures.items ∙ ap (λ (text : List ℕ). c.args.out.now.items ++ text) c.did_text.ensures in
    rw c.in-Access.is (on_ok_weaker c.put.result (put_three c.args.out.now.items _ _ _ _ _ _ did c.in_ok-put_subject-in-Access.ensures) c.put.ensures.joined)

pub returns-in-Reuse : goal.returns-in-Reuse
returns-in-Reuse c = rw (c.in-Reuse.is, ← c.bytes_of.ensures) c.put-in-Reuse.ensures.joined
