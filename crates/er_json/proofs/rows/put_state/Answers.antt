-- The candidate sets of states of several threads.
use Rattle.std.proofs.Common.{◌++◌, ◌∙◌, ℕ, List, codes, ap, sym}
use Rattle.std.proofs.lemmas.Result.{on_ok_weaker}
use Rattle.er_event.specs.declared.steps.WordState.{WordState}
use Rattle.er_json.specs.Document.{state_member}
use Rattle.er_print.specs.Styles.{locks_in}
use Rattle.er_print.specs.declared.styles.Style.TheVariants as style
use Rattle.er_json.proofs.rows.put_state.Goals as goal

pub returns-in-Shared : goal.returns-in-Shared
unfolding state_member
returns-in-Shared c =
    let old : List ℕ = c.args.out.now.items in
    on_ok_weaker c.put-in-Shared.result
    (λ put. put ∙ ap (λ (locks : List ℕ). old ++ (codes "shared\",\"owner\":null,\"candidates\":" ++ locks_in style.Json c.args.names.now locks ++ codes "}")) c.as_slice.ensures.locks
    ∙ ap (λ (state : WordState). old ++ state_member c.args.names.now state) (sym c.in-Shared.is))
    c.put-in-Shared.ensures.joined

pub returns-in-SharedModified : goal.returns-in-SharedModified
unfolding state_member
returns-in-SharedModified c =
    let old : List ℕ = c.args.out.now.items in
    on_ok_weaker c.put-in-SharedModified.result
    (λ put. put ∙ ap (λ (locks : List ℕ). old ++ (codes "shared-modified\",\"owner\":null,\"candidates\":" ++ locks_in style.Json c.args.names.now locks ++ codes "}")) c.as_slice-in-SharedModified.ensures.locks
    ∙ ap (λ (state : WordState). old ++ state_member c.args.names.now state) (sym c.in-SharedModified.is))
    c.put-in-SharedModified.ensures.joined
