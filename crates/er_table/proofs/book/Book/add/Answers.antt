-- The sets of the book are those that its places have.
use Rattle.std.proofs.Common.{Contains, subst, arith}
use Rattle.std.proofs.lemmas.List.{length-map}
use Rattle.indexmap.specs.IndexMap.{keys}
use Rattle.er_table.specs.Sets.{Noted}
use Rattle.er_table.proofs.SetsLemmas.{appended-distinct, appended-length}
use Rattle.er_table.proofs.book.Book.add.Goals as goal

pub invariant_of-self : goal.invariant_of-self
invariant_of-self g c =
    let absent : ¬ Contains (keys c.self.inside.places) c.args.set.now = λ there. c.requires (subst (λ (b : Noted). Contains b.sets c.args.set.now) c.self.view_is there) in
    let longer = appended-length c.append.result (keys c.self.inside.places) (keys c.append.new.places) c.args.set.now c.append.ensures.ok c.append.ensures.err in
    record {
      distinct = appended-distinct c.append.result (keys c.self.inside.places) _ c.args.set.now c.self.invariant.distinct absent c.append.ensures.ok c.append.ensures.err;
      within = omega (arith, longer, length-map c.self.inside.places.entries (λ e. e.0));
    }
