-- The list that was reached and the word go on together.
use Rattle.std.proofs.Common.{◌≡◌, ◌∙◌, ap}
use Rattle.er_event.proofs.Results.{on_err}
use Rattle.er_clock.specs.Counts.{count_by}
use Rattle.indexmap.specs.IndexMap.{with_value_at}
use Rattle.er_epochs.specs.Epochs.{tag_found, tagged, IsStoredBy}
use Rattle.er_epochs.specs.Words.{list_of, said, stored_in}
use Rattle.er_epochs.proofs.Maps.{Puts}
use Rattle.er_keys.proofs.MapLemmas.{entry_found, entry_put}
use Rattle.er_epochs.proofs.Listed.{list_found, list_put, list_others, goes_on, if_ok}
use Rattle.er_epochs.proofs.reads.ReadLists.advance.Goals as goal

pub returns-clause-kept : goal.returns-clause-kept
returns-clause-kept g c =
    let was : c.index_mut-reads.result.now ≡ list_of c.args.self.now c.args.number =
    list_found c.reach.new.lists.entries c.args.number c.index_mut-reads.result.now (entry_found c.reach.new.lists c.in_ok-index.index c.args.number c.index_mut-reads.result.now c.reach.ensures.unique c.in_ok-index.ensures.key c.index_mut-reads.ensures.value)
    ∙ (c.reach.ensures.same c.args.number ∙ ap (λ lists. list_of lists c.args.number) c.self.view_is) in
    let puts : Puts c.reach.new.lists.entries (with_value_at c.reach.new.lists c.in_ok-index.index c.access_listed.new.reads).entries c.args.number c.access_listed.new.reads =
    entry_put c.reach.new.lists c.in_ok-index.index c.args.number c.index_mut-reads.result.now c.reach.ensures.unique c.in_ok-index.ensures.key c.index_mut-reads.ensures.value c.access_listed.new.reads in
    if_ok c.access_listed.result _ _ c.access_listed.ensures.kept (λ r on.
    goes_on c.args.self.now (with_value_at c.reach.new.lists c.in_ok-index.index c.access_listed.new.reads).entries c.args.number c.index_mut-reads.result.now c.access_listed.new.reads (said c.args.word) (said r.0)
    (λ before after. IsStoredBy (count_by c.args.clock.now) before (tagged c.args.clock.now.0 (count_by c.args.clock.now c.args.clock.now.0) c.args.tag) c.args.kind after) was (list_put c.reach.new.lists.entries _ c.args.number c.access_listed.new.reads puts) on)

pub returns-clause-found : goal.returns-clause-found
returns-clause-found g c =
    let was : c.index_mut-reads.result.now ≡ list_of c.args.self.now c.args.number =
    list_found c.reach.new.lists.entries c.args.number c.index_mut-reads.result.now (entry_found c.reach.new.lists c.in_ok-index.index c.args.number c.index_mut-reads.result.now c.reach.ensures.unique c.in_ok-index.ensures.key c.index_mut-reads.ensures.value)
    ∙ (c.reach.ensures.same c.args.number ∙ ap (λ lists. list_of lists c.args.number) c.self.view_is) in
    if_ok c.access_listed.result _ _ c.access_listed.ensures.found (λ r found.
    found ∙ ap (λ reads. tag_found (count_by c.args.clock.now) (stored_in c.args.word reads) c.args.kind) was)

pub returns-clause-err : goal.returns-clause-err
returns-clause-err g c =
    let was : c.index_mut-reads.result.now ≡ list_of c.args.self.now c.args.number =
    list_found c.reach.new.lists.entries c.args.number c.index_mut-reads.result.now (entry_found c.reach.new.lists c.in_ok-index.index c.args.number c.index_mut-reads.result.now c.reach.ensures.unique c.in_ok-index.ensures.key c.index_mut-reads.ensures.value)
    ∙ (c.reach.ensures.same c.args.number ∙ ap (λ lists. list_of lists c.args.number) c.self.view_is) in
    let puts : Puts c.reach.new.lists.entries (with_value_at c.reach.new.lists c.in_ok-index.index c.access_listed.new.reads).entries c.args.number c.access_listed.new.reads =
    entry_put c.reach.new.lists c.in_ok-index.index c.args.number c.index_mut-reads.result.now c.reach.ensures.unique c.in_ok-index.ensures.key c.index_mut-reads.ensures.value c.access_listed.new.reads in
    on_err c.access_listed.result _ _ c.access_listed.ensures.err (λ same.
    goes_on c.args.self.now (with_value_at c.reach.new.lists c.in_ok-index.index c.access_listed.new.reads).entries c.args.number c.index_mut-reads.result.now c.access_listed.new.reads (said c.args.word) (said c.args.word)
    (λ before after. after ≡ before) was (list_put c.reach.new.lists.entries _ c.args.number c.access_listed.new.reads puts) same)

pub returns-clause-others : goal.returns-clause-others
returns-clause-others g c w apart =
    let puts : Puts c.reach.new.lists.entries (with_value_at c.reach.new.lists c.in_ok-index.index c.access_listed.new.reads).entries c.args.number c.access_listed.new.reads =
    entry_put c.reach.new.lists c.in_ok-index.index c.args.number c.index_mut-reads.result.now c.reach.ensures.unique c.in_ok-index.ensures.key c.index_mut-reads.ensures.value c.access_listed.new.reads in
    list_others c.reach.new.lists.entries _ c.args.number c.access_listed.new.reads puts w apart ∙ (c.reach.ensures.same w ∙ ap (λ lists. list_of lists w) c.self.view_is)
