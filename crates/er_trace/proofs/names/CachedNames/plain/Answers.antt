use Rattle.std.proofs.Common.{ℕ, List, IfSome, subst}
use Rattle.er_trace.specs.Inner.Recent.{bytes_of}
use Rattle.er_trace.specs.Names.{IsPlain}
use Rattle.er_trace.proofs.RecentLemmas.{plain_found, small_found}
use Rattle.er_trace.proofs.names.CachedNames.plain.Goals as goal

pub returns-clause-plain : goal.returns-clause-plain
returns-clause-plain c =
    let P : List (List ℕ) → Type 0 = λ names. IfSome c.find.result (λ number. IsPlain names (bytes_of c.args.name) number) in
    subst P c.self.view_is (plain_found c.self.inside.list c.args.name c.find.result c.requires (c.find.ensures c.self.inside.list c.self.invariant.0))

pub returns-clause-within : goal.returns-clause-within
returns-clause-within c = small_found c.self.inside.list c.args.name c.find.result (c.find.ensures c.self.inside.list c.self.invariant.0)
