-- What the inspector of a strict replay finds is the damage of the text.
use Rattle.std.proofs.Common.{◌≡◌, ◌∙◌, ◌||◌, ◌++◌, ℕ, Bool, true, false, List, length, Option, Some, None, IfSome, Result, Ok, Err, OnOk, is_some, refl, sym, subst, arith}
use Rattle.std.proofs.lemmas.List.{length-append}
use Rattle.er_batch.specs.Analysts.{IsAnswered}
use Rattle.er_batch.specs.Runs.{IsPartOf, recorded}
use Rattle.er_event.specs.declared.steps.Step.{Step}
use Rattle.er_text.specs.Batches.{joined}
use Rattle.er_damage.specs.Damaged.{IsDamageOf, has_damage, no_damage}
use Rattle.er_damage.specs.Standing.{Inspected, StandsFor}
use Rattle.er_damage.specs.declared.damage.Damage.{Damage}
use Rattle.er_parallel.specs.declared.config.ReplayFault.{ReplayFault}
use Rattle.er_parallel.specs.declared.config.ReplayFault.TheVariants as replaying
use Rattle.er_run.specs.Faults.{fault_of}
use Rattle.er_run.specs.Inner.Inspected.{HaveSeen, IsInspected, HasFound}
use Rattle.er_run.specs.Faults.{IsNoDamage}
use Rattle.er_text.specs.Ending.{IsEndingOf}
use Rattle.er_text.specs.Trace.{IsTrace}
use Rattle.er_text.specs.declared.endings.Ending.{Ending}
use Rattle.er_text.specs.declared.endings.Lost.{Lost}
use Rattle.er_trace.specs.Names.{NameTable}
use Rattle.er_trace.specs.Trace.{Recording}

-- no damage
clean_by : (a b c d : Option ℕ) (e : Option Lost) → (is_some a || is_some b || is_some c || is_some d || is_some e) ≡ false →
    (let found : Damage = record { refused = a; held_twice = b; no_line_feed = c; no_end = d; lost = e } in found) ≡ no_damage
clean_by None None None None None none = refl
clean_by (Some a) b c d e none = absurd (cc)
clean_by None (Some b) c d e none = absurd (cc)
clean_by None None (Some c) d e none = absurd (cc)
clean_by None None None (Some d) e none = absurd (cc)
clean_by None None None None (Some e) none = absurd (cc)

clean : (damage : Damage) → has_damage damage ≡ false → damage ≡ no_damage
clean damage none = clean_by damage.refused damage.held_twice damage.no_line_feed damage.no_end damage.lost none

-- without a part the recording is the text's trace
whole-trace : (text : List ℕ) (limit : ℕ) (r : Recording) → IsPartOf None text limit r → IsTrace text limit r
whole-trace text limit r is = subst (λ (whole : Recording). IsTrace text limit whole) (sym is.kept) is.trace

-- the damage that is found is the text's
module _ (told : Option (List ℕ)) (limit : ℕ) (strict : Bool) (used : NameTable) (seen : Inspected) (ending : Ending) (damage : Damage)
    (all : IsAnswered (IsInspected (Some seen) strict) None told limit used) (ends : IfSome told (λ text. IsEndingOf text ending))
    (found : (text : List ℕ) (limit : ℕ) (recording : Recording) → IsTrace text limit recording → StandsFor seen recording.steps recording.lines → IsEndingOf text ending → IsDamageOf text limit damage) where
  is_damage : IfSome told (λ text. IsDamageOf text limit damage)
  is_damage = by told all.trace ends
    where
      by : (o : Option (List ℕ)) → IfSome o (λ text. IsPartOf None text limit all.recording) → IfSome o (λ text. IsEndingOf text ending) → IfSome o (λ text. IsDamageOf text limit damage)
      by None trace ends = tt
      by (Some text) trace ends = found text limit all.recording (whole-trace text limit all.recording trace) all.stands.stands ends

  pub some-found : has_damage damage ≡ true → HasFound told limit strict (Some damage)
  some-found some = (sym all.stands.strict, (is_damage, some))

  pub none-found : has_damage damage ≡ false → HasFound told limit strict None
  none-found none = λ _. subst (λ (d : Damage). IfSome told (λ text. IsDamageOf text limit d)) (clean damage none) is_damage

-- a batch
pub seen-on : (old new : Option Inspected) (wanted : Bool) (past : List Step) (lines sites : List ℕ) (names : NameTable) (trace : Recording) → length trace.lines ≡ length trace.steps
    → IsInspected old wanted (recorded past lines sites names) → is_some new ≡ is_some old → HaveSeen new (past ++ trace.steps) (lines ++ trace.lines) → IsInspected new wanted (joined past lines sites trace)
seen-on old new wanted past lines sites names trace level seen same stands = record {
  strict = same ∙ seen.strict;
  even = (let even : length lines ≡ length past = seen.even in omega (arith, length-append past trace.steps, length-append lines trace.lines, level));
  stands = stands;
}

pub followed : (X E : Type 0) (result : Result X E) (old new : Inspected) (wanted : Bool) (past : List Step) (lines sites : List ℕ) (names : NameTable) (trace : Recording) → length trace.lines ≡ length trace.steps
    → IsInspected (Some old) wanted (recorded past lines sites names) → OnOk result (StandsFor new (past ++ trace.steps) (lines ++ trace.lines)) → OnOk result (IsInspected (Some new) wanted (joined past lines sites trace))
followed X E (Ok x) old new wanted past lines sites names trace level seen stands = seen-on (Some old) (Some new) wanted past lines sites names trace level seen refl stands
followed X E (Err e) old new wanted past lines sites names trace level seen stands = tt

-- the workers' faults are no damage
pub workers-no_damage : (why : ReplayFault) → IsNoDamage (fault_of why)
workers-no_damage replaying.Memory = tt
workers-no_damage replaying.TableFull = tt
workers-no_damage replaying.WorkerNotStarted = tt
workers-no_damage replaying.WorkerLost = tt
