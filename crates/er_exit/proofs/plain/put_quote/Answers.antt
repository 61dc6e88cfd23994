-- The parts are put one behind another.
use Rattle.std.proofs.Common.{◌≡◌, ◌≢◌, ◌-◌, ◌++◌, ℕ, List, [], codes, take, OnOk, ap, ◌∙◌, rules}
use Rattle.std.proofs.lemmas.List.{take_rest}
use Rattle.std.proofs.lemmas.Result.{on_ok_weaker}
use Rattle.er_exit.specs.Plain.{fitting, shown}
use Rattle.er_exit.proofs.SpaceLemmas.{blank, line_put, quote_put}
use Rattle.er_exit.proofs.plain.put_quote.Goals as goal

pub returns : goal.returns
returns c =
    let line = c.args.line.now in
    let old = c.args.out.now.items in
    let new = c.extend_from_slice-5.new.self.items in
    let rest = take_rest line c.in_ok-start.start in
    let some : line ≢ [] = search rules in
    let last : OnOk c.extend_from_slice-5.result (new ≡ c.put_spaces-2.new.out.items ++ codes "^\n") = search rules in
    on_ok_weaker c.extend_from_slice-5.result (λ end. line_put line c.args.place c.in_ok-start.start old new some c.in_ok-start.ensures.value
    (quote_put line c.args.place c.in_ok-start.start old c.extend_from_slice.new.self.items _ _ _ c.extend_from_slice-4.new.self.items _ c.put_spaces-2.new.out.items new
    c.in_ok-extend_from_slice.ensures.items
    (c.in_ok-extend_from_slice-2.ensures.items ∙ ap (λ (t : List ℕ). c.extend_from_slice.new.self.items ++ t) c.front_mark.ensures)
    (c.in_ok-put_fitting.ensures ∙ ap (λ (t : List ℕ). c.extend_from_slice-2.new.self.items ++ fitting 100 t) rest)
    c.in_ok-extend_from_slice-3.ensures.items
    c.in_ok-extend_from_slice-4.ensures.items
    (c.in_ok-put_spaces.ensures ∙ ap (λ (t : List ℕ). c.extend_from_slice-4.new.self.items ++ blank (shown t)) c.front_mark-2.ensures)
    (c.in_ok-put_spaces-2.ensures ∙ ap (λ (t : List ℕ). c.put_spaces.new.out.items ++ blank (shown (take (c.args.place - c.in_ok-start.start) t))) rest)
    end)) last
