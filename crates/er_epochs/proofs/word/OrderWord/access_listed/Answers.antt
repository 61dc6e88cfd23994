-- Its reads were put into the list, and by what is found there the word goes on.
use Rattle.std.proofs.Common.{◌≡◌, ◌∙◌, false, [], Some, rules, tests, sym, ap, subst}
use Rattle.er_event.specs.declared.steps.Kind.TheVariants.{Read}
use Rattle.er_clock.specs.Counts.{count_by}
use Rattle.er_epochs.specs.Epochs.{Accesses, some_apart, tagged, IsStoredBy}
use Rattle.er_epochs.specs.Words.{Said, said, stored_in, stored_with}
use Rattle.er_epochs.proofs.FoundLemmas.{apart_in, listed_found, listed_none, listed_told, listed_written, listed_read, read_none}
use Rattle.er_epochs.proofs.Noted.{stored_exactly}
use Rattle.er_epochs.proofs.word.OrderWord.access_listed.Goals as goal

pub returns-then-self-eq-TOLD-clause-kept : goal.returns-then-self-eq-TOLD-clause-kept
returns-then-self-eq-TOLD-clause-kept g c =
    stored_exactly (count_by c.args.clock.now) (stored_in c.args.self c.args.reads.now) (stored_in c.args.self c.args.reads.now) (tagged c.args.clock.now.0 (count_by c.args.clock.now c.args.clock.now.0) c.args.tag) c.args.kind (search rules)

pub returns-then-not-is_ordered-clause-kept : goal.returns-then-not-is_ordered-clause-kept
returns-then-not-is_ordered-clause-kept g c =
    stored_exactly (count_by c.args.clock.now) (stored_in c.args.self c.args.reads.now) (stored_in c.told.result c.args.reads.now) (tagged c.args.clock.now.0 (count_by c.args.clock.now c.args.clock.now.0) c.args.tag) c.args.kind (search rules)

pub returns-in_ok-note-in-Read-clause-kept : goal.returns-in_ok-note-in-Read-clause-kept
returns-in_ok-note-in-Read-clause-kept g c =
    let quiet : (said c.args.self).told ≡ false = search (rules, tests) in
    let ordered : some_apart (count_by c.args.clock.now) (said c.args.self).write ≡ false = search (rules, tests, apart_in) in
    rw c.in-Read.is
    (subst (λ (w : Said g.row.A.Denot). IsStoredBy (count_by c.args.clock.now) (stored_in c.args.self c.args.reads.now) (tagged c.args.clock.now.0 (count_by c.args.clock.now c.args.clock.now.0) c.args.tag) Read (stored_with w c.note.new.self)) (sym c.listed.ensures)
    (listed_read (count_by c.args.clock.now) (said c.args.self) c.args.reads.now c.gather.new.self quiet ordered c.in_ok-gather.ensures.ok (tagged c.args.clock.now.0 (count_by c.args.clock.now c.args.clock.now.0) c.args.tag) c.note.new.self c.in_ok-note-in-Read.ensures.ok))

pub returns-in_ok-note-in-Read-clause-found : goal.returns-in_ok-note-in-Read-clause-found
returns-in_ok-note-in-Read-clause-found g c =
    let quiet : (said c.args.self).told ≡ false = search (rules, tests) in
    let ordered : some_apart (count_by c.args.clock.now) (said c.args.self).write ≡ false = search (rules, tests, apart_in) in
    rw c.in-Read.is (read_none (count_by c.args.clock.now) (said c.args.self) c.args.reads.now c.gather.new.self quiet ordered c.in_ok-gather.ensures.ok)

pub returns-in-Some-clause-kept : goal.returns-in-Some-clause-kept
returns-in-Some-clause-kept g c =
    let quiet : (said c.args.self).told ≡ false = search (rules, tests) in
    let ordered : some_apart (count_by c.args.clock.now) (said c.args.self).write ≡ false = search (rules, tests, apart_in) in
    rw c.in-Write.is (c.told-in-Some.ensures c.gather.new.self ∙ sym (listed_told (count_by c.args.clock.now) (said c.args.self) c.args.reads.now c.gather.new.self quiet ordered c.in_ok-gather.ensures.ok (tagged c.args.clock.now.0 (count_by c.args.clock.now c.args.clock.now.0) c.args.tag) c.in-Some.rival (sym c.in-Some.ensures)))

pub returns-in-Some-clause-found : goal.returns-in-Some-clause-found
returns-in-Some-clause-found g c =
    let quiet : (said c.args.self).told ≡ false = search (rules, tests) in
    let ordered : some_apart (count_by c.args.clock.now) (said c.args.self).write ≡ false = search (rules, tests, apart_in) in
    rw c.in-Write.is (listed_found (count_by c.args.clock.now) (said c.args.self) c.args.reads.now c.gather.new.self quiet ordered c.in_ok-gather.ensures.ok c.in-Some.rival (sym c.in-Some.ensures))

pub returns-in-None-clause-kept : goal.returns-in-None-clause-kept
returns-in-None-clause-kept g c =
    let quiet : (said c.args.self).told ≡ false = search (rules, tests) in
    let ordered : some_apart (count_by c.args.clock.now) (said c.args.self).write ≡ false = search (rules, tests, apart_in) in
    rw c.in-Write.is
    (ap (λ w. stored_with w c.gather.new.self) c.written.ensures
    ∙ (ap (λ x. Accesses (record { write = Some x; reads = [] })) c.access_by.ensures
    ∙ sym (listed_written (count_by c.args.clock.now) (said c.args.self) c.args.reads.now c.gather.new.self quiet ordered c.in_ok-gather.ensures.ok (tagged c.args.clock.now.0 (count_by c.args.clock.now c.args.clock.now.0) c.args.tag) (sym c.in-None.ensures))))

pub returns-in-None-clause-found : goal.returns-in-None-clause-found
returns-in-None-clause-found g c =
    let quiet : (said c.args.self).told ≡ false = search (rules, tests) in
    let ordered : some_apart (count_by c.args.clock.now) (said c.args.self).write ≡ false = search (rules, tests, apart_in) in
    rw c.in-Write.is (listed_none (count_by c.args.clock.now) (said c.args.self) c.args.reads.now c.gather.new.self quiet ordered c.in_ok-gather.ensures.ok (sym c.in-None.ensures))
