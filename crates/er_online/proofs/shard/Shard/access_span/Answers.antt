-- Each access lengthens the list by one word's, and all are settled if each is.
use Rattle.std.proofs.Common.{◌≡◌, ◌∙◌, ◌+◌, ◌∷◌, [], ◌++◌, true, false, None, refl, subst, sym, ap, true≢false}
use Rattle.std.proofs.lemmas.Bool.{not-true}
use Rattle.er_online.specs.Spans.{IsSpanned, found_next}
use Rattle.er_online.specs.Taken.{access_of}
use Rattle.er_online.proofs.SpanLemmas.{spanned-none, spanned-more}
use Rattle.er_online.proofs.shard.Shard.access_span.Goals.{then-is_settled, else-is_settled}
use Rattle.er_online.proofs.shard.Shard.access_span.Goals as goal

pub loop-taken-init : goal.loop-taken-init
loop-taken-init c = record {
  spanned = spanned-none c.args.self.now c.args.thread c.args.kind c.args.locks.now c.args.words.first;
  settled = λ yes w. refl;
  quiet = λ yes. refl;
}

pub loop-taken-preserved : goal.loop-taken-preserved
loop-taken-preserved c =
    let race = c.in-Ok.noted.is_race in let taken = c.loop-taken.taken in let found = c.loop-taken.first_race in
    let word : c.new-word.result ≡ c.args.words.first + taken = c.new-word.ensures ∙ ap (λ n. n + taken) (c.number-first.ensures.value ∙ c.first.ensures) in
    let more = subst (λ w. c.access.new.self ≡ c.loop-taken.self ++ (access_of c.args.thread c.args.kind w race, c.args.locks.now) ∷ []) word c.in-Ok.ensures.taken in
    let both : c.if-is_settled.is_settled ≡ true → (c.loop-taken.is_settled ≡ true) × (c.in-Ok.noted.has_changed ≡ false) = elim c.if-is_settled.branch [
      | then-is_settled w ↦ (λ yes. (w.if-is_settled.true, not-true _ (sym w.is_settled-is ∙ yes)))
      | else-is_settled w ↦ (λ yes. absurd (true≢false (sym yes ∙ (w.is_settled-is ∙ w.if-is_settled.false))))
    ] in
    record {
      spanned = subst (λ f. IsSpanned c.args.self.now c.access.new.self c.args.thread c.args.kind c.args.locks.now c.args.words.first (taken + 1) f)
          (sym (c.race_found-first_race.ensures ∙ ap (λ w. found_next found w race) word))
          (spanned-more c.args.self.now c.loop-taken.self c.access.new.self c.args.thread c.args.kind c.args.locks.now c.args.words.first taken found race c.loop-taken.invariant.spanned more);
      settled = λ yes w. c.in-Ok.ensures.settled (both yes).1 w ∙ c.loop-taken.invariant.settled (both yes).0 w;
      quiet = λ yes. c.race_found-first_race.ensures ∙ (ap (λ f. found_next f c.new-word.result race) (c.loop-taken.invariant.quiet (both yes).0)
          ∙ ap (λ r. found_next None c.new-word.result r) (c.in-Ok.ensures.quiet (both yes).1));
    }
