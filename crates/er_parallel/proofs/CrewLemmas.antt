-- What all workers of a crew did in a batch.
use Rattle.std.proofs.Common.{IsTrue, ◌≡◌, ℕ, zero, suc, ◌+◌, ◌<◌, ◌≤◌, Bool, true, false, if◌then◌else◌, List, [], ◌∷◌, ◌++◌, length, map, take, drop, get_or, slice_get, Option, Some, None, IfSome, MatchOption, Result, Ok, Err, OnOk, IfOk, IfErr, refl, ap, sym, subst, ◌∙◌, arith, ⊎_elim, ◌⊎◌, inl, inr}
use Rattle.std.proofs.lemmas.List.{length-map}
use Rattle.std.proofs.lemmas.Option.{slice_get-get_or, get_or_from_slice_get}
use Rattle.er_event.proofs.Lists.{get_front, get_last, length_push}
use Rattle.er_event.specs.declared.refusals.NoRoom.{NoRoom}
use Rattle.er_event.specs.declared.refusals.NoRoom.TheVariants.{TableFull, JournalFull, OutOfMemory}
use Rattle.er_event.specs.declared.steps.Step.{Step}
use Rattle.er_model.specs.Answers.{answer}
use Rattle.er_model.proofs.Parts.{in_range}
use Rattle.er_model.proofs.Search.{below_or_at}
use Rattle.er_parallel.specs.Crews.{AreNoted, AreUnusual, HasFollowed, HaveAnswered, IsAmong, IsAnswered}
use Rattle.er_parallel.specs.Faults.{AsksForSet, MayFail, fault_of}
use Rattle.er_parallel.specs.Inner.Crewing.{AreFresh, crewed}
use Rattle.er_parallel.specs.Inner.Faults.{HasFault, IsFaultOf, IsLeastFault, IsLesser, MayBeFull, NoFaultBelow}
use Rattle.er_parallel.specs.Inner.Merging.{AreApart, AreMerged, HasItem, NoHeadBelow, machines_of}
use Rattle.er_parallel.specs.Inner.Taking.{HasDone, HasTaken}
use Rattle.er_parallel.specs.Tasks.{worker_for}
use Rattle.er_parallel.specs.Usual.{usual}
use Rattle.er_parallel.specs.declared.config.ReplayFault.{ReplayFault}
use Rattle.er_parallel.specs.declared.worker.Share.{Share}
use Rattle.er_parallel.specs.declared.worker.Unusual.{Unusual}
use Rattle.er_parallel.specs.declared.worker.WorkFault.{WorkFault}
use Rattle.er_parallel.specs.declared.worker.Worker.{Worker}
use Rattle.er_parallel.proofs.GatheringLemmas.{get_some}
use Rattle.er_replay.specs.Standing.{Replayed, Stands}

some_same : {A : Type 0} (x y : A) → Some x ≡ Some y → x ≡ y
some_same x y e = cc

-- what holds of an outcome
pub on-ok : {A E : Type 0} (Q : Type 0) (r : Result A E) → ((a : A) → r ≡ Ok a → Q) → OnOk r Q
on-ok Q (Ok a) is = is a refl
on-ok Q (Err e) is = tt

pub if-ok : {A E : Type 0} (P : A → Type 0) (r : Result A E) → ((a : A) → r ≡ Ok a → P a) → IfOk r P
if-ok P (Ok a) is = is a refl
if-ok P (Err e) is = tt

pub if-err : {A E : Type 0} (P : E → Type 0) (r : Result A E) → ((e : E) → r ≡ Err e → P e) → IfErr r P
if-err P (Ok a) is = tt
if-err P (Err e) is = is e refl

-- the least fault among the first n workers
abbrev pub IsLeastKnown : ℕ → List Worker → Option WorkFault → Type 0
IsLeastKnown n workers known = MatchOption known (NoFaultBelow n workers) (λ fault. IsLeastFault n workers fault)

one_more : (n i : ℕ) → i < n + 1 → (i < n) ⊎ (i ≡ n)
one_more n i below = below_or_at i n (omega (arith, below))

less_or_same : (a b i n : ℕ) → a ≤ b → i ≤ n → (a < b) ⊎ ((a ≡ b) × (i ≤ n))
less_or_same a b i n low early = ⊎_elim (λ less. inl less) (λ same. inr (same, early)) (below_or_at a b (omega (arith, low)))

-- the one worker's fault
fault_is : (workers : List Worker) (i n : ℕ) (worker : Worker) (other : WorkFault) → i ≡ n → slice_get workers n ≡ Some worker → HasFault workers i other → worker.fault ≡ Some other
fault_is workers i n worker other same there has =
    let one : worker ≡ has.worker = some_same worker has.worker (sym there ∙ (ap (slice_get workers) (sym same) ∙ has.there)) in
    ap (λ (w : Worker). w.fault) one ∙ has.is

none_some : {A : Type 0} (o : Option A) (x : A) → o ≡ None → o ≡ Some x → ⊥
none_some o x none some = cc

pub fault-none : (n : ℕ) (workers : List Worker) (worker : Worker) (known : Option WorkFault) → slice_get workers n ≡ Some worker → worker.fault ≡ None → IsLeastKnown n workers known →
    IsLeastKnown (n + 1) workers known
fault-none n workers worker None there is none = λ i fault below has. ⊎_elim (λ low. none i fault low has) (λ same. none_some worker.fault fault is (fault_is workers i n worker fault same there has)) (one_more n i below)
fault-none n workers worker (Some known) there is least = record {
  at = least.at;
  there = least.there;
  least = λ i other below has. ⊎_elim (λ low. least.least i other low has) (λ same. absurd (none_some worker.fault other is (fault_is workers i n worker other same there has))) (one_more n i below);
}

module _ (n : ℕ) (workers : List Worker) (worker : Worker) (fault : WorkFault) (there : slice_get workers n ≡ Some worker) (is : worker.fault ≡ Some fault) where
  same_shard : (i : ℕ) (other : WorkFault) → i ≡ n → HasFault workers i other → fault.shard ≡ other.shard
  same_shard i other same has = ap (λ (f : WorkFault). f.shard) (some_same fault other (sym is ∙ fault_is workers i n worker other same there has))

  last_least : (known : Option WorkFault) → IfSome known (λ k. fault.shard ≤ k.shard) → IsLeastKnown n workers known → IsLeastFault (n + 1) workers fault
  last_least None lower none = record {
    at = n;
    there = record { worker = worker; there = there; is = is };
    least = λ i other below has. ⊎_elim (λ low. absurd (none i other low has)) (λ same. inr (same_shard i other same has, omega (arith, same))) (one_more n i below);
  }
  last_least (Some known) lower least = record {
    at = n;
    there = record { worker = worker; there = there; is = is };
    least = λ i other below has. ⊎_elim
        (λ low. less_or_same fault.shard other.shard i n (⊎_elim (λ less. omega (arith, less, lower)) (λ same. omega (arith, same.0, lower)) (least.least i other low has)) (omega (arith, low)))
        (λ same. inr (same_shard i other same has, omega (arith, same))) (one_more n i below);
  }

  still_least : (known : WorkFault) → known.shard < fault.shard → IsLeastFault n workers known → IsLeastFault (n + 1) workers known
  still_least known lower least = record {
    at = least.at;
    there = least.there;
    least = λ i other below has. ⊎_elim (λ low. least.least i other low has) (λ same. inl (rw (same_shard i other same has) at lower)) (one_more n i below);
  }

  pub fault-next : (known : Option WorkFault) (given : WorkFault) → IsLesser known fault given → IsLeastKnown n workers known → IsLeastFault (n + 1) workers given
  fault-next known given (inl (is, lower)) least = rw is (last_least known lower least)
  fault-next known given (inr (is, lower)) least = still_least given lower (rw is at least)

-- what is in a mapped list
map_there : {A B : Type 0} (f : A → B) (xs : List A) (i : ℕ) (y : B) → slice_get (map f xs) i ≡ Some y → (x : A) × ((slice_get xs i ≡ Some x) × (f x ≡ y))
map_there f [] i y is = cc
map_there f (x ∷ xs) zero y is = (x, (refl, some_same (f x) y is))
map_there f (x ∷ xs) (suc i) y is = map_there f xs i y is

map_at : {A B : Type 0} (f : A → B) (xs : List A) (i : ℕ) (x : A) → slice_get xs i ≡ Some x → slice_get (map f xs) i ≡ Some (f x)
map_at f [] i x is = cc
map_at f (y ∷ ys) zero x is = ap Some (ap f (some_same y x is))
map_at f (y ∷ ys) (suc i) x is = map_at f ys i x is

-- a new crew
pub new-crew : (shards : ℕ) (workers : List Worker) → AreFresh workers → HaveAnswered (crewed shards workers) []
new-crew shards workers fresh i machine is =
    let one = map_there (λ (w : Worker). w.machine) workers i machine is in
    let stands : Stands machine [] = subst (λ (m : Replayed). Stands m []) one.1.1 (fresh i one.0 one.1.0) in
    record { holdings = stands.0; words = λ w own. stands.1 w }

pub fresh-push : (workers : List Worker) (worker : Worker) → AreFresh workers → Stands worker.machine [] → AreFresh (workers ++ worker ∷ [])
fresh-push workers worker fresh stands i one is = ⊎_elim
    (λ low. fresh i one (sym (get_front workers (worker ∷ []) i low) ∙ is))
    (λ end.
    let same : worker ≡ one = some_same worker one (sym (get_last workers worker) ∙ (ap (slice_get (workers ++ worker ∷ [])) (sym end) ∙ is)) in
    subst (λ (w : Worker). Stands w.machine []) same stands)
    (below_or_at i (length workers) (omega (arith, in_range (workers ++ worker ∷ []) i one is, length_push workers worker)))

pub fresh-either : (b : Bool) (workers more : List Worker) (worker : Worker) → more ≡ (if b then workers ++ worker ∷ [] else workers) → Stands worker.machine [] → AreFresh workers → AreFresh more
fresh-either true workers more worker is stands fresh = rw is (fresh-push workers worker fresh stands)
fresh-either false workers more worker is stands fresh = rw is fresh

-- workers with the same machines are as many
pub same-long : (one other : List Worker) → machines_of one ≡ machines_of other → length one ≡ length other
same-long one other same = sym (length-map one (λ (w : Worker). w.machine)) ∙ (ap length same ∙ length-map other (λ (w : Worker). w.machine))

-- a whole list that is written back
pub whole-back : {A : Type 0} (n : ℕ) (new old : List A) → length new ≡ length old → n ≡ length old → take n (new ++ drop (length new) old) ≡ new
whole-back n [] [] same is = rw is refl
whole-back n [] (y ∷ ys) same is = absurd (omega (arith, same))
whole-back n (x ∷ xs) [] same is = absurd (omega (arith, same))
whole-back n (x ∷ xs) (y ∷ ys) same is = rw is (ap (λ rest. x ∷ rest) (whole-back (length ys) xs ys (omega (arith, same)) refl))

-- the fault of a replay that a worker's fault makes
may_fail : (steps : List Step) (fault : WorkFault) (given : ReplayFault) → given ≡ fault_of fault.cause → MayBeFull steps fault → MayFail steps given
may_fail steps fault given is full = rw is (by fault.cause full)
  where
    by : (cause : NoRoom) → (cause ≡ TableFull → AsksForSet steps) → MayFail steps (fault_of cause)
    by TableFull full = full refl
    by JournalFull full = tt
    by OutOfMemory full = tt

-- what each worker did
abbrev pub AreTaken : ℕ → Bool → List Step → List Worker → List Worker → Type 0
AreTaken shards noting batch old new = (past : List Step) (i : ℕ) (d : Worker) → i < length old → HasFollowed shards (length old) i past (get_or old i d).machine →
    HasTaken past batch (record { shards = shards; worker = i; workers = length old; noting = noting }) (get_or new i d)

module _ (past batch : List Step) (shards : ℕ) (noting : Bool) (old new : List Worker) (count : length new ≡ length old) (taken : AreTaken shards noting batch old new) (before : HaveAnswered (crewed shards old) past) where
  abbrev share : ℕ → Share
  share i = record { shards = shards; worker = i; workers = length old; noting = noting }

  taken_at : (i : ℕ) (worker : Worker) → slice_get new i ≡ Some worker → HasTaken past batch (share i) worker
  taken_at i worker there =
      let low : i < length old = omega (arith, count, in_range new i worker there) in
      let was = before i (get_or old i worker).machine (map_at (λ (w : Worker). w.machine) old i (get_or old i worker) (slice_get-get_or old i worker low)) in
      let followed : HasFollowed shards (length old) i past (get_or old i worker).machine = rw (length-map old (λ (w : Worker). w.machine)) at was in
      subst (HasTaken past batch (share i)) (get_or_from_slice_get new i worker worker there) (taken past i worker low followed)

  full_at : (i : ℕ) (worker : Worker) (fault : WorkFault) → worker.fault ≡ Some fault → HasTaken past batch (share i) worker → MayBeFull (past ++ batch) fault
  full_at i worker fault is has = rw is at has

  pub taken-fault : (given : ReplayFault) → IsFaultOf new given → MayFail (past ++ batch) given
  taken-fault given (inl (fault, (least, is))) =
      may_fail (past ++ batch) fault given is (full_at least.at least.there.worker fault least.there.is (taken_at least.at least.there.worker least.there.there))
  taken-fault given (inr (none, is)) = rw is tt

  module _ (none : NoFaultBelow (length new) new) where
    done_by : (i : ℕ) (worker : Worker) (o : Option WorkFault) → slice_get new i ≡ Some worker → worker.fault ≡ o → HasTaken past batch (share i) worker → HasDone past batch (share i) worker.found.items worker.machine
    done_by i worker None there is has = rw is at has
    done_by i worker (Some fault) there is has = absurd (none i fault (in_range new i worker there) (record { worker = worker; there = there; is = is }))

    done_at : (i : ℕ) (worker : Worker) → slice_get new i ≡ Some worker → HasDone past batch (share i) worker.found.items worker.machine
    done_at i worker there = done_by i worker worker.fault there refl (taken_at i worker there)

    right_of : (i : ℕ) (item : Unusual) → HasItem new i item → IsAnswered past batch item
    right_of i item has = (done_at i has.worker has.there).found.found.right has.has.place item has.has.there

    own_of : (i : ℕ) (item : Unusual) (step : Step) → HasItem new i item → slice_get batch item.at ≡ Some step → worker_for shards (length old) step.event ≡ i
    own_of i item step has at = (done_at i has.worker has.there).found.found.owned has.has.place item step has.has.there at

    pub done-apart : AreApart new
    done-apart = record {
      rise = λ i worker there. (done_at i worker there).found.found.rise;
      apart = λ i j one other first second same.
          let right = right_of i one first in
          sym (own_of i one right.step first right.there) ∙ own_of j other right.step second (ap (slice_get batch) (sym same) ∙ right.there);
    }

    module _ (left : List Worker) (items : List Unusual) (merged : AreMerged new left items) (bare : NoHeadBelow (length left) left) (some : 1 ≤ length old) where
      nothing_left : (i : ℕ) (item : Unusual) → HasItem left i item → ⊥
      nothing_left i item has = by has.worker.found.items refl has.has.place has.has.there
        where
          by : (list : List Unusual) → has.worker.found.items ≡ list → (place : ℕ) → slice_get list place ≡ Some item → ⊥
          by [] are place is = cc
          by (x ∷ rest) are place is = bare i x.at (in_range left i has.worker has.there) (record { worker = has.worker; there = has.there; item = x; rest = rest; is = are; is_at = refl })

      among_all : (i k : ℕ) (worker : Worker) → slice_get new i ≡ Some worker → IsAmong worker.found.items k → IsAmong items k
      among_all i k worker there among = ⊎_elim
          (λ is. record { index = is.place; item = among.item; there = is.there; at = among.at })
          (λ still. absurd (nothing_left i among.item still))
          (merged.all i among.item (record { worker = worker; there = there; has = record { place = among.index; there = among.there } }))

      pub done-unusual : AreUnusual past batch items
      done-unusual = record {
        rise = merged.rise;
        right = λ j item is. (let was = merged.had item (record { place = j; there = is }) in right_of was.0 item was.1);
        others = other_steps;
      }
        where
          other_steps : (k : ℕ) (step : Step) → slice_get batch k ≡ Some step → (answer (past ++ batch) (length past + k) ≡ usual step.event) ⊎ IsAmong items k
          other_steps k step at =
              let i : ℕ = worker_for shards (length old) step.event in
              let low : i < length old = omega (arith, some) in
              let one = get_some new i (omega (arith, low, count)) in
              ⊎_elim (λ usually. inl usually) (λ among. inr (among_all i k one.0 one.1 among))
              ((done_at i one.0 one.1).found.whole k step (in_range batch k step at) at refl)

      pub done-noted : IsTrue noting → AreNoted past batch items
      done-noted notes k step at =
          let i : ℕ = worker_for shards (length old) step.event in
          let low : i < length old = omega (arith, some) in
          let one = get_some new i (omega (arith, low, count)) in
          ⊎_elim (λ leaves. inl leaves) (λ among. inr (among_all i k one.0 one.1 among))
          ((done_at i one.0 one.1).found.noted k step (in_range batch k step at) at refl notes)

    pub done-answered : (left : List Worker) → machines_of left ≡ machines_of new → HaveAnswered (crewed shards left) (past ++ batch)
    done-answered left same i machine is =
        let one = map_there (λ (w : Worker). w.machine) new i machine (rw same at is) in
        let long : length (machines_of left) ≡ length old = ap length same ∙ (length-map new (λ (w : Worker). w.machine) ∙ count) in
        rw (long, ← one.1.1) (done_at i one.0 one.1.0).followed
