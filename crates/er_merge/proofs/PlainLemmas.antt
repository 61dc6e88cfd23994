-- What is printed for a line has an LF at the end of each of its lines alone, if no name has one.
use Rattle.std.proofs.Common.{◌≡◌, ℕ, zero, suc, ◌-◌, ◌*◌, ◌%◌, ◌/◌, ◌<◌, Bool, true, false, cond, List, [], ◌∷◌, ◌++◌, codes, decimal, refl, ◌∙◌, arith}
use Rattle.std.specs.Char.{digit_char}
use Rattle.std.specs.List.{All, list_all}
use Rattle.std.proofs.lemmas.Bool.{and_parts}
use Rattle.std.proofs.lemmas.Bool.Decides.{nat_tests}
use Rattle.std.proofs.lemmas.List.Folds.{list_all-append}
use Rattle.er_event.specs.Lockset.{is_level_lock, level_base}
use Rattle.er_event.specs.Refusal.{text_of}
use Rattle.er_event.specs.declared.refusals.Refusal.{Refusal}
use Rattle.er_event.specs.declared.refusals.Refusal.TheVariants.{AlreadyHeld, NotHeld, WrongMode, IgnoreNotOn, IgnoreTooDeep, HeldFull, SizeTooLarge, AddressOutOfRange, JournalFull, TableFull, OutOfMemory, ForeignSeat, TooManyThreads, LevelTooHigh, LevelLock}
use Rattle.er_event.specs.declared.steps.Event.{Event}
use Rattle.er_event.specs.declared.steps.Event.TheVariants.{Acquire, Release, Access, Reuse, IgnoreOn, IgnoreOff, Show, Level, Sync}
use Rattle.er_event.specs.declared.steps.Kind.{Kind}
use Rattle.er_event.specs.declared.steps.Kind.TheVariants as kind
use Rattle.er_event.specs.declared.steps.Mode.{Mode}
use Rattle.er_event.specs.declared.steps.Mode.TheVariants as mode
use Rattle.er_event.specs.declared.steps.Sync.{Sync as SyncEvent}
use Rattle.er_event.specs.declared.steps.Sync.TheVariants.{Start, Join, Signal, Await}
use Rattle.er_event.specs.declared.steps.WordState.{WordState}
use Rattle.er_event.specs.declared.steps.WordState.TheVariants.{Virgin, Exclusive, Shared, SharedModified}
use Rattle.er_lines.specs.Number.{hex_digits}
use Rattle.er_print.specs.Printed.{bytes_between, event_text, event_verb, kind_text, label_text, lock_text, locks_text, name_at, place_text, site_text, state_text}
use Rattle.er_print.specs.Styles.{lock_in, named_site}
use Rattle.er_print.specs.Values.{more_text}
use Rattle.er_print.specs.declared.styles.Style.TheVariants as style
use Rattle.er_report.specs.Lines.{LineView, RaceView, RacedView, RefusedView, ShownView}
use Rattle.er_report.specs.declared.report.Because.{Because}
use Rattle.er_report.specs.declared.report.Deed.{Deed}
use Rattle.er_report.specs.declared.report.Deed.TheVariants as deed
use Rattle.er_report.specs.declared.report.Label.{Label}
use Rattle.er_report.specs.declared.report.Label.TheVariants as label
use Rattle.er_trace.specs.Names.{NameTable}
use Rattle.er_merge.specs.Texts.{DeedFits, EventFits, Fits, HasPlainNames, LabelFits, LineFits, ReasonFits, StateFits}
use Rattle.er_merge.proofs.BodyLemmas.{ArePrintable}
use Rattle.er_merge.proofs.EndLemmas.{decimal_plain}
use Rattle.er_merge.proofs.ReadLemmas.{ArePlain, IsPrintable, NoFeeds, no_feed}
use Rattle.er_merge.proofs.WholeLemmas.{deed_pieces, reason_pieces}

abbrev pub Plain : List ℕ → Type 0
Plain text = list_all no_feed text ≡ true

pub both : (a b : List ℕ) → Plain a → Plain b → Plain (a ++ b)
both a b first second = list_all-append no_feed a b ∙ (rw (first, second) refl)

name_plain : (names : List (List ℕ)) (n : ℕ) → list_all (list_all no_feed) names ≡ true → Plain (name_at names n)
name_plain [] zero plain = refl
name_plain [] (suc n) plain = refl
name_plain (name ∷ names) zero plain = (and_parts (list_all no_feed name) (list_all (list_all no_feed) names) plain).0
name_plain (name ∷ names) (suc n) plain = name_plain names n (and_parts (list_all no_feed name) (list_all (list_all no_feed) names) plain).1

hex_digit : (d : ℕ) → d < 16 → no_feed (digit_char d) ≡ true
hex_digit d small = grind (arith, nat_tests, small)

pub hex_plain : (count n : ℕ) → Plain (hex_digits count n)
unfolding hex_digits
hex_plain zero n = refl
hex_plain (suc k) n = both (hex_digits k (n / 16)) (digit_char (n % 16) ∷ []) (hex_plain k (n / 16)) (rw (hex_digit (n % 16) (omega arith)) refl)

lock_step : (names : NameTable) (lock : ℕ) (b : Bool) → HasPlainNames names → Fits lock → Plain (cond b (codes "!" ++ decimal (lock - level_base)) (name_at names.locks lock))
lock_step names lock true plain fit = decimal_plain (lock - level_base) (omega (arith, fit))
lock_step names lock false plain fit = name_plain names.locks lock plain.locks

lock_plain : (names : NameTable) (lock : ℕ) → HasPlainNames names → Fits lock → Plain (lock_text names lock)
lock_plain names lock plain fit = lock_step names lock (is_level_lock lock) plain fit

more_plain : (names : NameTable) (locks : List ℕ) → HasPlainNames names → All Fits locks → Plain (more_text 32 (lock_in style.Plain names) locks)
more_plain names [] plain fit = refl
more_plain names (lock ∷ locks) plain fit =
    both (32 ∷ lock_text names lock) (more_text 32 (lock_in style.Plain names) locks) (lock_plain names lock plain (fit 0 0 (omega arith))) (more_plain names locks plain (λ k d h. fit (suc k) d (omega (arith, h))))

locks_plain : (names : NameTable) (locks : List ℕ) → HasPlainNames names → All Fits locks → Plain (locks_text names locks)
locks_plain names [] plain fit = refl
locks_plain names (lock ∷ locks) plain fit =
    both (lock_text names lock) (more_text 32 (lock_in style.Plain names) locks) (lock_plain names lock plain (fit 0 0 (omega arith))) (more_plain names locks plain (λ k d h. fit (suc k) d (omega (arith, h))))

site_plain : (names : NameTable) (site : ℕ) → HasPlainNames names → Plain (site_text names site)
site_plain names zero plain = refl
site_plain names (suc n) plain = name_plain names.sites n plain.sites

named_plain : (names : NameTable) (site : ℕ) → HasPlainNames names → Plain (named_site style.Plain names (codes " at ") site)
unfolding named_site
named_plain names zero plain = refl
named_plain names (suc n) plain = name_plain names.sites n plain.sites

kind_plain : (k : Kind) → Plain (kind_text k)
kind_plain kind.Read = refl
kind_plain kind.Write = refl

verb_plain : (lock : ℕ) (m : Mode) → Plain (event_verb (Acquire lock m)) × Plain (event_verb (Release lock m))
verb_plain lock mode.Write = (refl, refl)
verb_plain lock mode.Read = (refl, refl)

sync_plain : (sync : SyncEvent) → Plain (event_verb (Sync sync))
sync_plain (Start thread) = refl
sync_plain (Join thread) = refl
sync_plain (Signal object) = refl
sync_plain (Await object) = refl

event_plain : (names : NameTable) (event : Event) → HasPlainNames names → EventFits event → Plain (event_text names event)
event_plain names (Acquire lock m) plain fit = both (event_verb (Acquire lock m) ++ codes " ") (lock_text names lock) (both (event_verb (Acquire lock m)) (codes " ") (verb_plain lock m).0 refl) (lock_plain names lock plain fit)
event_plain names (Release lock m) plain fit = both (event_verb (Release lock m) ++ codes " ") (lock_text names lock) (both (event_verb (Release lock m)) (codes " ") (verb_plain lock m).1 refl) (lock_plain names lock plain fit)
event_plain names (Access k word site) plain fit = kind_plain k
event_plain names (Reuse range) plain fit = refl
event_plain names IgnoreOn plain fit = refl
event_plain names IgnoreOff plain fit = refl
event_plain names (Show word) plain fit = refl
event_plain names (Level level) plain fit = refl
event_plain names (Sync sync) plain fit = sync_plain sync

state_plain : (names : NameTable) (state : WordState) → HasPlainNames names → StateFits state → Plain (state_text names state)
state_plain names Virgin plain fit = refl
state_plain names (Exclusive thread) plain fit = both (codes "exclusive ") (name_at names.threads thread) refl (name_plain names.threads thread plain.threads)
state_plain names (Shared locks) plain fit = both (codes "shared, candidates ") (locks_text names locks) refl (locks_plain names locks plain fit)
state_plain names (SharedModified locks) plain fit = both (codes "shared-modified, candidates ") (locks_text names locks) refl (locks_plain names locks plain fit)

label_plain : (names : NameTable) (l : Label) → HasPlainNames names → LabelFits l → Plain (label_text names l)
label_plain names label.First plain fit = refl
label_plain names label.Joined plain fit = refl
label_plain names label.Write plain fit = refl
label_plain names (label.Uncovered lock) plain fit = both (lock_text names lock) (codes " not covering") (lock_plain names lock plain fit) refl
label_plain names label.Unordered plain fit = refl

refusal_plain : (refusal : Refusal) → Plain (text_of refusal)
refusal_plain AlreadyHeld = refl
refusal_plain NotHeld = refl
refusal_plain WrongMode = refl
refusal_plain IgnoreNotOn = refl
refusal_plain IgnoreTooDeep = refl
refusal_plain HeldFull = refl
refusal_plain SizeTooLarge = refl
refusal_plain AddressOutOfRange = refl
refusal_plain JournalFull = refl
refusal_plain TableFull = refl
refusal_plain OutOfMemory = refl
refusal_plain ForeignSeat = refl
refusal_plain TooManyThreads = refl
refusal_plain LevelTooHigh = refl
refusal_plain LevelLock = refl

place_plain : (n : ℕ) → Fits n → Plain (place_text n)
place_plain n fit = both (codes "line " ++ decimal n) (codes ": ") (decimal_plain n fit) refl

reason_plain : (names : NameTable) (because : Because) → HasPlainNames names → ReasonFits because → NoFeeds (reason_pieces names because)
reason_plain names because plain fit =
    (refl, (label_plain names because.label plain fit.1, (refl, (decimal_plain because.line fit.0, (refl, (name_plain names.threads because.thread plain.threads, (refl, (kind_plain because.kind, tt))))))))

reasons_plain : (names : NameTable) (reasons : List Because) → HasPlainNames names → All ReasonFits reasons → ArePlain names reasons
reasons_plain names [] plain fit = tt
reasons_plain names (because ∷ reasons) plain fit = (reason_plain names because plain (fit 0 because (omega arith)), reasons_plain names reasons plain (λ k d h. fit (suc k) d (omega (arith, h))))

deed_plain : (names : NameTable) (race : RaceView) (d : Deed) → HasPlainNames names → DeedFits d → All Fits race.held → NoFeeds (deed_pieces names race d)
deed_plain names race (deed.Access k word) plain fit held =
    (name_plain names.threads race.thread plain.threads, (refl, (kind_plain k, (refl, (hex_plain 12 (4 * word), (refl, (site_plain names race.site plain, (refl, (locks_plain names race.held plain held, tt)))))))))
deed_plain names race (deed.Reuse range) plain fit held =
    (name_plain names.threads race.thread plain.threads, (refl, (hex_plain 12 (4 * range.lo), (refl, (decimal_plain (bytes_between range.lo range.hi) fit, (named_plain names race.site plain, tt))))))

pub printable : (names : NameTable) (line : LineView) → HasPlainNames names → LineFits line → IsPrintable names line
printable names (RacedView race) plain fit = record {
  number = fit.0;
  head = (place_plain race.line fit.0, (refl, deed_plain names race race.deed plain fit.1 fit.2));
  reasons = reasons_plain names race.explained plain fit.3;
}
printable names (RefusedView number step refusal) plain fit = record {
  number = fit.0;
  head = (place_plain number fit.0, (refl, (name_plain names.threads step.thread plain.threads, (refl, (event_plain names step.event plain fit.1, (refl, (refusal_plain refusal, tt)))))));
  reasons = tt;
}
printable names (ShownView number word state) plain fit = record {
  number = fit.0;
  head = (place_plain number fit.0, (refl, (hex_plain 12 (4 * word), (refl, (state_plain names state plain fit.1, tt)))));
  reasons = tt;
}

pub all_printable : (names : NameTable) (lines : List LineView) → HasPlainNames names → All LineFits lines → ArePrintable names lines
all_printable names [] plain fit = tt
all_printable names (line ∷ lines) plain fit = (printable names line plain (fit 0 line (omega arith)), all_printable names lines plain (λ k d h. fit (suc k) d (omega (arith, h))))
