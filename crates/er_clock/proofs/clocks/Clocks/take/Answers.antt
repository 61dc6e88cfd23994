use Rattle.std.proofs.Common.{◌≡◌, Some, refl, ap, sym, ◌∙◌, ⊎_elim}
use Rattle.er_order.specs.Order.{Released, Local, sync_of}
use Rattle.er_order.specs.Clocks.{clocks_after}
use Rattle.er_order.proofs.ClockSteps.{local}
use Rattle.er_clock.specs.Standing.{counts}
use Rattle.er_clock.proofs.Standing.{flows-own}
use Rattle.er_clock.proofs.clocks.Clocks.take.Goals as goal

pub returns-in-Release-clause-full : goal.returns-in-Release-clause-full
returns-in-Release-clause-full c =
    rw c.in-Release.is
    (λ full. (c.args.thread, flows-own (record { thread = c.args.thread; sync = Released c.in-Release.lock c.in-Release.mode }) refl, c.release.ensures.full full))

-- any other event moves no clock
nothing : (c : goal.In-Access) → sync_of c.args.event ≡ Local
nothing c =
    ⊎_elim (λ w. ap sync_of w.3)
    (⊎_elim (λ w. ap sync_of w.1)
    (⊎_elim (λ w. ap sync_of w)
    (⊎_elim (λ w. ap sync_of w)
    (⊎_elim (λ w. ap sync_of w.1) (λ w. ap sync_of w.1))))) c.in-Access.is

pub returns-in-Access : goal.returns-in-Access
returns-in-Access c =
    record {
      ok = λ k u. sym (local (counts c.args.self.now) c.args.thread u k)
          ∙ ap (λ sync. clocks_after (counts c.args.self.now) (Some (record { thread = c.args.thread; sync = sync })) k u) (sym (nothing c));
      err = tt;
      full = λ full. absurd (let never = full in cc);
      others = λ limit full. absurd (let never = full in cc);
    }
