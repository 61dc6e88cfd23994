-- The place is that of the race's access.
use Rattle.std.proofs.Common.{◌≡◌, ◌∙◌, ◌++◌, Option, option_copied, ap, subst}
use Rattle.std.proofs.lemmas.Result.{on_ok_weaker}
use Rattle.er_places.specs.Reasons.{race_place}
use Rattle.er_places.specs.declared.places.Place.{Place}
use Rattle.er_sites.specs.Text.{holds_text, led_text}
use Rattle.er_print.proofs.DigitLemmas.{put_five}
use Rattle.er_sites.proofs.stories.put_access.Goals as goal

pub returns : goal.returns
returns c =
    let place : option_copied c.of_race-own.result ≡ race_place c.args.legend.now.places.now c.args.race.now = c.of_race-own.ensures.place in
    let led = c.in_ok-put_led.ensures ∙ ap (λ (own : Option Place). c.put_head.new.out.items ++ led_text c.args.legend.now.places.now own) place in
    let locks = subst (λ (own : Option Place). c.put_locks.new.out.items ≡ c.put_led.new.out.items ++ holds_text c.args.legend.now.names.now c.args.race.now own c.args.race.now.held) place c.in_ok-put_locks.ensures in
    on_ok_weaker c.put_so.result
    (put_five c.args.out.now.items _ _ _ _ _ _ _ _ _ _ c.in_ok-put_head.ensures led locks c.in_ok-put_reasons.ensures) c.put_so.ensures
