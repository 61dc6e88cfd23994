use Rattle.std.proofs.Common.{◌≡◌, true, false, nat_lt, ap, ◌∙◌, sym}
use Rattle.std.proofs.lemmas.Bool.{ltb_from_iff}
use Rattle.std.proofs.Math.Path.{fun_ext}
use Rattle.er_model.specs.Holdings.{Holdings}
use Rattle.er_clock.specs.Counts.{count_by}
use Rattle.er_unordered.specs.Standing.{Ordered, holding}
use Rattle.er_unordered.proofs.StandingLemmas.{ignored, accessed, answered-access}
use Rattle.er_unordered.proofs.machine.OrderMachine.access.Goals as goal

pub returns-then-ignoring-clause-changes : goal.returns-then-ignoring-clause-changes
returns-then-ignoring-clause-changes g c =
    let before : Ordered g.row.A.Denot = record { holders = c.self.inside.holders; clocks = c.self.inside.clocks; words = c.self.inside.words } in
    let ignores : nat_lt 0 (holding before c.args.thread).depth ≡ true =
    ap (λ (h : Holdings). nat_lt 0 h.depth) (sym c.get.ensures.found) ∙ sym (ltb_from_iff c.ignoring.ensures) ∙ c.if-ignoring.true in
    rw (← c.self.view_is) (ignored before c.args.bytes c.args.tag c.args.thread c.args.word c.args.kind ignores)

pub returns-clause-answered : goal.returns-clause-answered
returns-clause-answered g c =
    let before : Ordered g.row.A.Denot = record { holders = c.self.inside.holders; clocks = c.self.inside.clocks; words = c.self.inside.words } in
    let heeds : nat_lt 0 (holding before c.args.thread).depth ≡ false =
    ap (λ (h : Holdings). nat_lt 0 h.depth) (sym c.get.ensures.found) ∙ sym (ltb_from_iff c.ignoring.ensures) ∙ c.if-ignoring.false in
    rw (← c.self.view_is)
    (answered-access before c.args.thread c.args.word c.args.kind c.args.bytes (count_by c.clock-clock.result) c.in_ok-found.found heeds (fun_ext c.clock-clock.ensures.clock) c.in_ok-found.ensures.found _ c.answer-2.ensures)

pub returns-clause-changes : goal.returns-clause-changes
returns-clause-changes g c =
    let before : Ordered g.row.A.Denot = record { holders = c.self.inside.holders; clocks = c.self.inside.clocks; words = c.self.inside.words } in
    let heeds : nat_lt 0 (holding before c.args.thread).depth ≡ false =
    ap (λ (h : Holdings). nat_lt 0 h.depth) (sym c.get.ensures.found) ∙ sym (ltb_from_iff c.ignoring.ensures) ∙ c.if-ignoring.false in
    rw (← c.self.view_is)
    (accessed before c.access.new.self c.args.bytes c.args.tag c.args.thread c.args.word c.args.kind c.clock-clock.result heeds c.clock-clock.ensures.thread c.clock-clock.ensures.clock c.in_ok-found.ensures.ok c.access.ensures.others)
