-- A run that forgets its steps is a run over all of them: a batch goes on behind what was answered, and the names may have grown.
use Rattle.std.proofs.Common.{◌≡◌, ◌<◌, ◌≤◌, ◌+◌, ℕ, List, ◌++◌, length, length-append, take, slice_index, get_or, Option, Some, None, is_some, false, refl, sym, ap, subst, ◌∙◌, arith}
use Rattle.std.proofs.lemmas.List.{take-append-le, length-take-le, get_or_append_left, get_or-append-add}
use Rattle.std.proofs.Math.Seq.{take-append_seam, take-length}
use Rattle.std.proofs.lemmas.List.Elements.{All-append}
use Rattle.std.proofs.lemmas.Option.{get_or_from_slice_get, slice_get_read}
use Rattle.er_batch.specs.Inner.Answering.{Answers, HasAnswered}
use Rattle.er_batch.specs.Runs.{MayStopAt, HasRun, IsWellFormed, recorded}
use Rattle.er_event.proofs.Lists.{get_front}
use Rattle.er_event.specs.declared.refusals.NoRoom.{NoRoom}
use Rattle.er_event.specs.declared.steps.Step.{Step}
use Rattle.er_journal.specs.declared.answers.Stopped.{Stopped}
use Rattle.er_reading.proofs.NamedLemmas.{all-known, all-named}
use Rattle.er_replay.specs.Standing.{Replayed, Stands}
use Rattle.er_report.proofs.GrowthLemmas.{reported-on}
use Rattle.er_report.specs.Builder.{Built, IsReported, GoesOn}
use Rattle.er_report.specs.Report.{stop_line}
use Rattle.er_text.specs.Batches.{joined}
use Rattle.er_text.specs.Named.{KeepsNames}
use Rattle.er_trace.specs.Names.{NameTable}
use Rattle.er_trace.specs.Trace.{Recording, IsNamed, HasSiteName}

-- the line or the site of a step in a batch
pub number-behind : (lines more : List ℕ) (n k : ℕ) → length lines ≡ n → slice_index more k ≡ slice_index (lines ++ more) (n + k)
number-behind lines more n k long = sym (ap (λ (m : ℕ). slice_index (lines ++ more) (m + k)) (sym long) ∙ get_or-append-add lines more k 0)

pub site-behind : (read sites more : List ℕ) (n k site : ℕ) → read ≡ more → length sites ≡ n → k < length read → site ≡ get_or read k site → site ≡ slice_index (sites ++ more) (n + k)
site-behind read sites more n k site same long within is =
    sym (get_or_from_slice_get read k site 0 (slice_get_read read (length read) k site refl within is)) ∙ ap (λ (xs : List ℕ). slice_index xs k) same ∙ number-behind sites more n k long

-- a stop in front of later steps is one of the longer list
stop-front : (steps more : List Step) (s : Stopped) → s.at < length steps → MayStopAt steps s → MayStopAt (steps ++ more) s
stop-front steps more s within lacks = rw (get_front steps more s.at within, take-append-le s.at steps more (omega arith)) lacks

-- the steps of a batch behind those that are past
module _ (past : List Step) (lines sites : List ℕ) (names : NameTable) (trace : Recording) (kept : KeepsNames names trace.names) (formed : IsWellFormed (recorded past lines sites names)) where
  pub goes-on : GoesOn (recorded past lines sites names) (joined past lines sites trace)
  goes-on = record {
    named = formed.named;
    long = formed.long;
    one_each = formed.one_each;
    known = formed.known;
    more = trace.steps;
    others = trace.lines;
    other_sites = trace.sites;
    steps = refl;
    lines = refl;
    places = refl;
    sites = kept.sites;
  }

  pub grown : IsWellFormed trace → IsWellFormed (joined past lines sites trace)
  grown fits = record {
    named = All-append (IsNamed trace.names) past trace.steps (all-named names trace.names kept past formed.named) fits.named;
    long = let a : length lines ≡ length past = formed.long in let b = fits.long in omega (arith, length-append lines trace.lines, length-append past trace.steps);
    known = All-append (HasSiteName trace.names) sites trace.sites (all-known names trace.names kept sites formed.known) fits.known;
    one_each = let a : length sites ≡ length past = formed.one_each in let b = fits.one_each in omega (arith, length-append sites trace.sites, length-append past trace.steps);
  }

-- a run over the steps that are past
module _ (past : List Step) (lines sites : List ℕ) (names : NameTable) (trace : Recording) (kept : KeepsNames names trace.names) (fits : IsWellFormed trace)
    (old : Replayed) (oldest : Built) (stop : Option (ℕ × NoRoom)) (run : HasRun old oldest stop (recorded past lines sites names)) where
  abbrev after : Recording
  after = joined past lines sites trace

  on : GoesOn (recorded past lines sites names) after
  on = goes-on past lines sites names trace kept run.formed

  formed : IsWellFormed after
  formed = grown past lines sites names trace kept run.formed fits

  -- a run that has stopped stays where it is
  stays-by : (o : Option Stopped) → run.stopped ≡ o → (stop ≡ None → ⊥) → HasRun old oldest stop after
  stays-by None is some = absurd (some (run.line ∙ ap (stop_line (recorded past lines sites names)) is))
  stays-by (Some s) is some =
      let within : s.at < length past = rw is at run.within in
      let same : length lines ≡ length past = run.formed.long in
      let front : take s.at (past ++ trace.steps) ≡ take s.at past = take-append-le s.at past trace.steps (omega arith) in
      let most : length (take s.at past) ≤ length past = omega (arith, length-take-le s.at past (omega arith)) in
      record {
        stopped = Some s;
        line = run.line ∙ ap (stop_line (recorded past lines sites names)) is
            ∙ ap (λ (n : ℕ). Some (n, s.cause)) (sym (get_or_append_left lines trace.lines 0 s.at (omega arith)));
        within = omega (arith, length-append past trace.steps);
        cause = stop-front past trace.steps s within (rw is at run.cause);
        reported = subst (λ (steps : List Step). IsReported oldest after (length steps)) (sym front)
            (reported-on oldest _ after (length (take s.at past)) on most (rw is at run.reported));
        stands = λ none. absurd (cc);
        formed = formed;
      }

  pub stays : (stop ≡ None → ⊥) → HasRun old oldest stop after
  stays = stays-by run.stopped refl

  -- one that hasn't has answered what is past
  goes-by : (o : Option Stopped) → run.stopped ≡ o → stop ≡ None → HasAnswered old oldest after (length past)
  goes-by None is none =
      record {
        stands = subst (Stands old) (sym (take-append_seam past trace.steps)) (run.stands is);
        reported = reported-on oldest _ after (length past) on (omega arith) (rw is at run.reported);
      }
  goes-by (Some s) is none = absurd (let clash = sym none ∙ run.line ∙ ap (stop_line (recorded past lines sites names)) is in cc)

  pub goes : stop ≡ None → HasAnswered old oldest after (length past)
  goes = goes-by run.stopped refl

  -- and goes on to the end of the batch, or stops in it
  pub whole : (machine : Replayed) (builder : Built) → Answers machine builder after (length past) None → HasRun machine builder None after
  whole machine builder answered =
      record {
        stopped = None;
        line = refl;
        within = tt;
        cause = tt;
        reported = answered.reported;
        stands = λ none. subst (Stands machine) (take-length (past ++ trace.steps)) answered.stands;
        formed = formed;
      }

  pub part : (machine : Replayed) (builder : Built) (s : Stopped) (number : ℕ) → number ≡ slice_index trace.lines s.at → Answers machine builder after (length past) (Some s)
      → HasRun machine builder (Some (number, s.cause)) after
  part machine builder s number is answered =
      record {
        stopped = Some (record { at = length past + s.at; cause = s.cause });
        line = ap (λ (n : ℕ). Some (n, s.cause)) (is ∙ number-behind lines trace.lines (length past) s.at run.formed.long);
        within = answered.1;
        cause = answered.2;
        reported = subst (IsReported builder after) (sym (length-take-le (length past + s.at) (past ++ trace.steps) (omega (arith, answered.1)))) answered.0;
        stands = λ none. absurd (cc);
        formed = formed;
      }

pub none-by : {X : Type 0} (o : Option X) → is_some o ≡ false → o ≡ None
none-by None none = refl
none-by (Some x) none = absurd (cc)
