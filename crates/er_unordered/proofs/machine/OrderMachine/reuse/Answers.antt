use Rattle.std.proofs.Common.{◌≡◌, ◌&&◌, ℕ, suc, cond, nat_lt, is_some, Option, None, Ok, refl, sym, ap, ap₂, ◌∙◌}
use Rattle.std.proofs.lemmas.Bool.{ltb_from_iff}
use Rattle.std.proofs.Math.Path.{fun_ext}
use Rattle.std.specs.Option.{option_map}
use Rattle.er_event.specs.declared.steps.Event.TheVariants.{Reuse}
use Rattle.er_event.specs.declared.steps.Reply.TheVariants.{Done}
use Rattle.er_model.specs.Holdings.{Holdings}
use Rattle.er_model.specs.Words.{is_within}
use Rattle.er_clock.specs.Counts.{count_by}
use Rattle.er_order.specs.Order.{Local}
use Rattle.er_order.specs.Races.{reuse_reply}
use Rattle.er_epochs.specs.Known.{finds, reuse_query}
use Rattle.er_unordered.specs.Standing.{Ordered, clock_of, holding, known_in, use_found, word_used}
use Rattle.er_unordered.proofs.StandingLemmas.{changes, held_same, clocks_same, in-range, lowest-is, use-named}
use Rattle.er_unordered.proofs.machine.OrderMachine.reuse.Goals as goal

pub returns-clause-changes : goal.returns-clause-changes
returns-clause-changes g c bytes tag =
    let before : Ordered g.row.A.Denot = record { holders = c.self.inside.holders; clocks = c.self.inside.clocks; words = c.self.inside.words } in
    rw (← c.self.view_is)
    (changes before (record { holders = c.self.inside.holders; clocks = c.self.inside.clocks; words = c.reset-found.new.self }) bytes tag c.args.thread (Reuse c.args.range) refl
    (held_same before c.args.thread) (clocks_same c.self.inside.clocks c.args.thread Local refl) refl c.reset-found.ensures.reset)

pub returns-clause-answered : goal.returns-clause-answered
returns-clause-answered g c bytes =
    let before : Ordered g.row.A.Denot = record { holders = c.self.inside.holders; clocks = c.self.inside.clocks; words = c.self.inside.words } in
    let clock : count_by c.clock-clock.result ≡ clock_of before c.args.thread = fun_ext c.clock-clock.ensures.clock in
    let ignores : c.ignoring-ignores.result ≡ nat_lt 0 (holding before c.args.thread).depth = ltb_from_iff c.ignoring-ignores.ensures ∙ ap (λ (h : Holdings). nat_lt 0 h.depth) c.get.ensures.found in
    let word : Option ℕ = option_map (λ (found : ℕ × g.row.A.Denot). found.0) c.reset-found.result in
    let used : word_used (clock_of before c.args.thread) (known_in before) c.args.range ≡ word =
    rw (← clock)
    (lowest-is (suc c.args.range.hi) (λ w. is_within w c.args.range && is_some (finds (count_by c.clock-clock.result) (known_in before w) reuse_query)) word c.reset-found.ensures.in_use
    (λ k passes. in-range k c.args.range (is_some (finds (count_by c.clock-clock.result) (known_in before k) reuse_query)) passes)) in
    let named : option_map (λ (found : ℕ × g.row.A.Denot). found.1) c.reset-found.result ≡ use_found (clock_of before c.args.thread) (known_in before) (word_used (clock_of before c.args.thread) (known_in before) c.args.range) =
    use-named (count_by c.clock-clock.result) (known_in before) c.reset-found.result c.reset-found.ensures.named ∙ (λ k. use_found (clock k) (known_in before) (sym used k)) in
    rw (← c.self.view_is)
    (λ k. record {
      reply = (c.answer_to_reuse.ensures.reply ∙ ap₂ (λ b o. Ok (cond b Done (reuse_reply o))) ignores (sym used)) k;
      rival = (c.answer_to_reuse.ensures.rival ∙ ap₂ (λ b o. cond b None o) ignores named) k;
    })
