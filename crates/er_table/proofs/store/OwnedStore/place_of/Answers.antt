-- Whoever has the set's hash is met on the way from the newest one to the oldest.
use Rattle.std.proofs.Common.{◌≡◌, ◌∙◌, ℕ, ◌-◌, ◌<◌, ◌≤◌, true, true≢false, nat_eq, [], length, Option, Contains, ap, refl, sym, subst, arith}
use Rattle.std.specs.HashMap.{get}
use Rattle.std.specs.Option.{unwrap_or}
use Rattle.std.specs.Cmp.Lexicographic.{bytes_decides}
use Rattle.std.proofs.lemmas.List.{get_or_default}
use Rattle.er_event.specs.Lockset.{same_locks}
use Rattle.er_table.specs.Owned.{cut, hash_by}
use Rattle.er_table.specs.Sets.{set_at}
use Rattle.er_table.proofs.OwnedLemmas.{cut-within, older-at}
use Rattle.er_table.proofs.store.OwnedStore.place_of.Goals as goal

pub loop-count-init : goal.loop-count-init
unfolding hash_by
loop-count-init c =
    let spans = c.self.inside.spans.items in
    let sets = cut c.self.inside.locks.items spans in
    let hasher = c.self.inside.hasher in
    let newest : ℕ → Option ℕ = get nat_eq c.self.inside.newest in
    let h = c.hash_one-hash.result in
    let hash : h ≡ hash_by hasher c.args.set.now = c.hash_one-hash.ensures in
    let is : c.unwrap_or-count.result ≡ unwrap_or (newest h) 0 = c.unwrap_or-count.ensures ∙ ap (λ (o : Option ℕ). unwrap_or o 0) (c.copied.ensures ∙ c.get.ensures.value) in
    let chained = c.self.invariant.chained in
    record {
      within = subst (λ n. n ≤ length spans) (sym is) (chained.newest_within h);
      alike = subst (λ n. 0 < n → hash_by hasher (set_at sets (n - 1)) ≡ hash_by hasher c.args.set.now) (sym is) (λ some. chained.newest_key h some ∙ hash);
      before = λ p below same. subst (λ n. p < n) (sym is) (subst (λ k. p < unwrap_or (newest k) 0) (ap (hash_by hasher) same ∙ sym hash) (chained.newest_first p below));
    }

pub loop-count-preserved : goal.loop-count-preserved
loop-count-preserved c =
    let spans = c.self.inside.spans.items in
    let sets = cut c.self.inside.locks.items spans in
    let hasher = c.self.inside.hasher in
    let place = c.loop-count.count - 1 in
    let some = c.loop-count-test.true in
    let few = c.loop-count.invariant.within in
    let below : place < length spans = omega (arith, some, few) in
    let older = older-at spans place c.index.result.now below c.index.ensures in
    let chained = c.self.invariant.chained in
    let back = chained.older_within place below in
    let alike = c.loop-count.invariant.alike some in
    record {
      within = subst (λ n. n ≤ length spans) (sym older) (omega (arith, back, below));
      alike = subst (λ n. 0 < n → hash_by hasher (set_at sets (n - 1)) ≡ hash_by hasher c.args.set.now) (sym older) (λ more. chained.older_key place below more ∙ alike);
      before = λ p within same.
          let apart : p ≡ place → ⊥ = λ is.
          let here : c.get-in-loop-count.result.now ≡ c.as_slice.result.now =
          c.get-in-loop-count.ensures.set ∙ ap (λ v. set_at v.sets place) (sym c.self.view_is) ∙ ap (set_at sets) (sym is) ∙ same ∙ sym c.as_slice.ensures.locks in
          true≢false (sym ((bytes_decides c.get-in-loop-count.result.now c.as_slice.result.now).1 here) ∙ sym c.eq.ensures ∙ c.if-eq.false) in
          let until = c.loop-count.invariant.before p within same in
          let less : p < place = omega (arith, until, some, apart) in
          subst (λ n. p < n) (sym older) (chained.older_next p place less below (ap (hash_by hasher) same ∙ sym alike));
    }

pub loop-count-smaller : goal.loop-count-smaller
loop-count-smaller c =
    let spans = c.self.inside.spans.items in
    let place = c.loop-count.count - 1 in
    let some = c.loop-count-test.true in
    let few = c.loop-count.invariant.within in
    let below : place < length spans = omega (arith, some, few) in
    let older = older-at spans place c.index.result.now below c.index.ensures in
    let back = c.self.invariant.chained.older_within place below in
    subst (λ n. n < c.loop-count.count) (sym older) (omega (arith, back, some))

pub returns-then-eq-clause-found : goal.returns-then-eq-clause-found
returns-then-eq-clause-found c =
    let same : same_locks c.get-in-loop-count.result.now c.as_slice.result.now ≡ true = sym c.eq.ensures ∙ c.if-eq.true in
    sym c.get-in-loop-count.ensures.set ∙ ((bytes_decides c.get-in-loop-count.result.now c.as_slice.result.now).0 same ∙ c.as_slice.ensures.locks)

pub returns-clause-none : goal.returns-clause-none
returns-clause-none c = λ there.
    let sets = cut c.self.inside.locks.items c.self.inside.spans.items in
    let found = subst (λ v. Contains v.sets c.args.set.now) (sym c.self.view_is) there in
    let within = cut-within c.self.inside.locks.items c.self.inside.spans.items sets found.0 refl found.1 in
    let until = c.loop-count.invariant.before found.0 within (get_or_default sets found.0 [] c.args.set.now found.1 ∙ found.2) in
    let over = c.loop-count-test.false in
    omega (arith, until, over)

pub returns-clause-hash : goal.returns-clause-hash
unfolding hash_by
returns-clause-hash c = c.hash_one-hash.ensures ∙ ap (λ v. hash_by v.hasher c.args.set.now) c.self.view_is
