-- Numbers that are the old ones leave steps as they are.
use Rattle.std.proofs.Common.{◌≡◌, ℕ, zero, suc, ◌<◌, ◌≤◌, List, [], ◌∷◌, map, length, refl, ap, sym, ◌∙◌, arith}
use Rattle.std.specs.List.{All, AllByRecursion}
use Rattle.std.proofs.lemmas.List.{length-map}
use Rattle.std.proofs.lemmas.List.Elements.{recursion_from_All}
use Rattle.er_event.specs.declared.steps.Event.{Event}
use Rattle.er_event.specs.declared.steps.Event.TheVariants.{Acquire, Release, Access, Reuse, IgnoreOn, IgnoreOff, Show, Level, Sync}
use Rattle.er_event.specs.declared.steps.Step.{Step}
use Rattle.er_event.specs.declared.steps.Sync.{Sync as Order}
use Rattle.er_event.specs.declared.steps.Sync.TheVariants.{Start, Join, Signal, Await}
use Rattle.er_trace.specs.declared.appending.NewTable.{NewTable}
use Rattle.er_trace.specs.Names.{NameTable, AreSame, number_of}
use Rattle.er_trace.specs.Trace.{HasOrderNames, HasNames, IsNamed}
use Rattle.er_trace.specs.Appended.{AreNumbers, renumbered, renumbered_site, renumbered_order, renumbered_event, renumbered_step}
use Rattle.er_trace.proofs.RenumberingLemmas.{number_at}

-- each name keeps its number
abbrev Stays : List (List ℕ) → List (List ℕ) → Type 0
Stays old new = (n : ℕ) → n < length old → renumbered old new n ≡ n

stays : (numbers : List ℕ) (old new : List (List ℕ)) → AreSame numbers → numbers ≡ map (number_of new) old → Stays old new
stays numbers old new same are = λ n below.
    sym (number_at numbers old new n are below)
    ∙ same n (let long = ap (λ (ns : List ℕ). length ns) are ∙ length-map old (number_of new) in omega (arith, below, long))

stays_site : (old new : List (List ℕ)) (site : ℕ) → Stays old new → site ≤ length old → renumbered_site old new site ≡ site
stays_site old new zero stay below = refl
stays_site old new (suc n) stay below = let same = stay n (omega (arith, below)) in omega (arith, same)

stay_sites : (old new : List (List ℕ)) (sites : List ℕ) → Stays old new → AllByRecursion (λ site. site ≤ length old) sites → map (renumbered_site old new) sites ≡ sites
stay_sites old new [] stay all = refl
stay_sites old new (site ∷ sites) stay all =
    ap (λ (n : ℕ). n ∷ map (renumbered_site old new) sites) (stays_site old new site stay all.0) ∙ ap (λ (ns : List ℕ). site ∷ ns) (stay_sites old new sites stay all.1)

pub sites_stay : (numbers : List ℕ) (old new : List (List ℕ)) (sites : List ℕ) → AreSame numbers → numbers ≡ map (number_of new) old → All (λ site. site ≤ length old) sites
    → sites ≡ map (renumbered_site old new) sites
sites_stay numbers old new sites same are all = sym (stay_sites old new sites (stays numbers old new same are) (recursion_from_All (λ site. site ≤ length old) sites all))

module _ (old new : NameTable) (threads : Stays old.threads new.threads) (locks : Stays old.locks new.locks) (sites : Stays old.sites new.sites) where
  stays_order : (o : Order) → HasOrderNames old o → renumbered_order old new o ≡ o
  stays_order (Start thread) is = ap Start (threads thread is)
  stays_order (Join thread) is = ap Join (threads thread is)
  stays_order (Signal object) is = ap Signal (locks object is)
  stays_order (Await object) is = ap Await (locks object is)

  stays_event : (e : Event) → HasNames old e → renumbered_event old new e ≡ e
  stays_event (Acquire lock mode) is = ap (λ (n : ℕ). Acquire n mode) (locks lock is)
  stays_event (Release lock mode) is = ap (λ (n : ℕ). Release n mode) (locks lock is)
  stays_event (Access kind word site) is = ap (λ (n : ℕ). Access kind word n) (stays_site old.sites new.sites site sites is)
  stays_event (Reuse range) is = refl
  stays_event IgnoreOn is = refl
  stays_event IgnoreOff is = refl
  stays_event (Show word) is = refl
  stays_event (Level level) is = refl
  stays_event (Sync sync) is = ap Sync (stays_order sync is)

  stays_step : (s : Step) → IsNamed old s → renumbered_step old new s ≡ s
  stays_step s is =
      ap (λ (n : ℕ). record { thread = n; event = renumbered_event old new s.event }) (threads s.thread is.thread)
      ∙ ap (λ (e : Event). record { thread = s.thread; event = e }) (stays_event s.event is.event)

  stay_steps : (steps : List Step) → AllByRecursion (IsNamed old) steps → map (renumbered_step old new) steps ≡ steps
  stay_steps [] all = refl
  stay_steps (s ∷ steps) all =
      ap (λ (t : Step). t ∷ map (renumbered_step old new) steps) (stays_step s all.0) ∙ ap (λ (ts : List Step). s ∷ ts) (stay_steps steps all.1)

pub steps_stay : (numbers : NewTable) (old new : NameTable) (steps : List Step) → AreSame numbers.threads → AreSame numbers.locks → AreSame numbers.sites → AreNumbers numbers old new
    → All (IsNamed old) steps → steps ≡ map (renumbered_step old new) steps
steps_stay numbers old new steps threads locks sites are all =
    sym (stay_steps old new (stays numbers.threads old.threads new.threads threads are.threads) (stays numbers.locks old.locks new.locks locks are.locks)
    (stays numbers.sites old.sites new.sites sites are.sites) steps (recursion_from_All (IsNamed old) steps all))
