use Rattle.std.proofs.Common.{◌≡◌, ℕ, List, Option, Some, None, IfSome, IfNone, Result, IfOk, OnErr, subst, sym}
use Rattle.std.specs.Borrow.{Bor}
use Rattle.std.specs.Option.{ok_or}
use Rattle.er_table.proofs.NumbersLemmas.{found_among, absent_among}
use Rattle.er_table.proofs.store.SharedStore.place_of.Goals as goal

ok_from : (o : Option ℕ) (r : Result ℕ ℕ) (P : ℕ → Type 0) → r ≡ ok_or o 0 → IfSome o P → IfOk r P
ok_from (Some x) r P is some = subst (λ s. IfOk s P) (sym is) some
ok_from None r P is some = subst (λ s. IfOk s P) (sym is) tt

err_from : (o : Option ℕ) (r : Result ℕ ℕ) (X : Type 0) → r ≡ ok_or o 0 → IfNone o X → OnErr r X
err_from (Some x) r X is none = subst (λ s. OnErr s X) (sym is) tt
err_from None r X is none = subst (λ s. OnErr s X) (sym is) none

pub returns-clause-found : goal.returns-clause-found
returns-clause-found c = ok_from c.get_index_of.result c.ok_or.result _ c.ok_or.ensures.value
    (found_among (λ (s : Bor (List ℕ)). s.now) c.args.set c.args.self.now.sets.keys c.get_index_of.result c.get_index_of.ensures.index)

pub returns-clause-none : goal.returns-clause-none
returns-clause-none c = err_from c.get_index_of.result c.ok_or.result _ c.ok_or.ensures.value
    (absent_among (λ (s : Bor (List ℕ)). s.now) c.args.set c.args.self.now.sets.keys c.get_index_of.result c.get_index_of.ensures.found)
