-- One lock more, behind a comma if it isn't the first.
use Rattle.std.proofs.Common.{◌≡◌, ◌==◌, ◌++◌, ◌∙◌, ℕ, List, [], ◌∷◌, length, false, ap, refl}
use Rattle.std.proofs.lemmas.List.{take_all}
use Rattle.er_json.specs.Sarif.{lock_words, locks_words}
use Rattle.er_print.proofs.ValueLemmas.{values_next}
use Rattle.er_print.specs.Values.{values_text}
use Rattle.er_trace.specs.Names.{NameTable}
use Rattle.er_json.proofs.locations.put_locks.Goals as goal

some_locks : (names : NameTable) (writes locks : List ℕ) → false ≡ (length locks == 0) → values_text (lock_words names writes) locks ≡ locks_words names writes locks
some_locks names writes [] some = absurd (cc)
some_locks names writes (lock ∷ locks) some = refl

pub loop-place-preserved : goal.loop-place-preserved
loop-place-preserved c =
    let before : List ℕ = c.loop-place.out.items in
    values_next (lock_words c.args.names.now c.args.writes.now) c.args.locks.now c.loop-place.place c.index-locks-place.result c.index-locks-place.result c.args.out.now.items before
    c.extend_from_slice-in-loop-place.new.self.items c.put.new.out.items c.loop-place-test.true c.index-locks-place.is c.loop-place.invariant
    (c.in_ok-extend_from_slice.ensures.items ∙ ap (λ (text : List ℕ). before ++ text) c.comma_before.ensures)
    (rw (← c.mode_words-mode.ensures) c.in_ok-put.ensures.joined)

pub returns : goal.returns
returns c =
    c.loop-place.invariant
    ∙ ap (λ (locks : List ℕ). c.args.out.now.items ++ values_text (lock_words c.args.names.now c.args.writes.now) locks) (take_all c.loop-place.place c.args.locks.now c.loop-place-test.false)
    ∙ ap (λ (text : List ℕ). c.args.out.now.items ++ text) (some_locks c.args.names.now c.args.writes.now c.args.locks.now c.if-is_empty.ensures)
