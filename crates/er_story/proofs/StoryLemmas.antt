-- A story by its parts, and its names.
use Rattle.std.proofs.Common.{◌≡◌, ◌∙◌, ◌+◌, ◌<◌, ℕ, zero, suc, nat_lt, Bool, true, false, true≢false, cond, List, [], slice_get, slice_index, Option, Some, None, Result, Ok, refl, sym, ap, ◌==◌, length}
use Rattle.std.specs.List.{All}
use Rattle.std.specs.List.{position}
use Rattle.std.proofs.lemmas.List.Quantifiers.{position-Some}
use Rattle.std.proofs.lemmas.Bool.{eq-eqb}
use Rattle.std.proofs.lemmas.List.Elements.{All-nil, All-cons, All-append}
use Rattle.er_event.specs.declared.steps.Event.{Event}
use Rattle.er_event.specs.declared.steps.Event.TheVariants.{Acquire, Release, Access, Reuse, IgnoreOn, IgnoreOff, Show, Level, Sync}
use Rattle.er_event.specs.declared.steps.Kind.{Kind}
use Rattle.er_event.specs.declared.refusals.Refusal.{Refusal}
use Rattle.er_event.specs.declared.steps.Reply.{Reply}
use Rattle.er_event.specs.declared.steps.Reply.TheVariants.{Done, Ignored, Quiet, Race, State}
use Rattle.er_event.specs.declared.steps.Step.{Step}
use Rattle.er_event.specs.declared.steps.WordState.{WordState}
use Rattle.er_model.proofs.AnswersLemmas.{answer-step, state-step}
use Rattle.er_model.specs.Answers.{answer, answer_unless, state_at}
use Rattle.er_model.specs.Following.{locks_for, replied}
use Rattle.er_model.specs.Holdings.{Holdings, holdings_at, refused_by}
use Rattle.er_model.specs.Table.{advanced, moved, reports}
use Rattle.er_model.specs.Words.{Counted, Nothing}
use Rattle.er_report.proofs.NamedLemmas.{named_event, named_holdings, named_state, named_step, site_named}
use Rattle.er_story.specs.Inner.Past.{PastView, past_at}
use Rattle.er_story.specs.Names.{HasTurnNames, HasTaleNames, HasWordNames, HasStoryNames}
use Rattle.er_story.specs.Story.{changes, counted_since, has_word, story_at, story_of, story_on, tale_in, tale_of, turn_at, turn_by, turns_since}
use Rattle.er_story.specs.Tale.{WordTale}
use Rattle.er_story.specs.declared.story.Story.{Story}
use Rattle.er_trace.specs.Trace.{IsNamed, Recording}

-- a story by its parts
pub story-found : (r : Recording) (k : ℕ) (step : Step) (story : Story) → slice_get r.steps k ≡ Some step → story ≡ story_of r k step → story_at r k ≡ Some story
unfolding story_at
story-found r k step story is same = rw is (ap Some (sym same))

-- whose parts are these, where the thread holds this before the step
pub story-made : (r : Recording) (k : ℕ) (steps : List Step) (lines : List ℕ) (step : Step) (h : Holdings) → steps ≡ r.steps → lines ≡ r.lines → h ≡ holdings_at steps step.thread k
    → (held : List ℕ) → held ≡ h.held → (write_held : List ℕ) → write_held ≡ h.write_held → (said : Result Reply Refusal) → said ≡ answer r.steps k
    → (word : Option WordTale) → word ≡ tale_in r k step.event
    → record { line = slice_index lines k; step = step; answer = said; held = held; write_held = write_held; word = word } ≡ story_of r k step
story-made r k steps lines step h same level holds held any write_held write said answered word told = rw (told, answered, write, any, holds, same, level) refl

-- by the place of its line
pub none-found : (r : Recording) (line : ℕ) → None ≡ position (λ (l : ℕ). l == line) r.lines → None ≡ story_on r line
unfolding story_on
none-found r line is = rw (sym is) refl

pub one-found : (r : Recording) (line k : ℕ) (story : Story) → Some k ≡ position (λ (l : ℕ). l == line) r.lines → story_at r k ≡ Some story → Some story ≡ story_on r line
unfolding story_on
one-found r line k story is told = rw (sym is) (sym told)

pub place-within : (line k : ℕ) (lines : List ℕ) → Some k ≡ position (λ (l : ℕ). l == line) lines → k < length lines
place-within line k lines is = (position-Some (λ (l : ℕ). l == line) lines k 0 (sym is)).0

-- the word's state after an access
pub access-state : (steps : List Step) (k t : ℕ) (kind : Kind) (word site : ℕ) → slice_get steps k ≡ Some (record { thread = t; event = Access kind word site })
    → state_at steps word (suc k)
    ≡ cond (nat_lt 0 (holdings_at steps t k).depth) (state_at steps word k) (advanced (state_at steps word k) t kind (locks_for (holdings_at steps t k) kind))
access-state steps k t kind word site is = state-step steps k _ word is ∙ by (nat_lt 0 (holdings_at steps t k).depth)
  where
    before : WordState
    before = state_at steps word k

    cover : List ℕ
    cover = locks_for (holdings_at steps t k) kind

    by : (b : Bool) → moved before word (cond b Nothing (Counted t kind word cover)) ≡ cond b before (advanced before t kind cover)
    by true = refl
    by false = rw (eq-eqb word word refl) refl

-- what is made of an access, by what is known of its word and its thread
pub access-answer : (r : Recording) (k t : ℕ) (kind : Kind) (word site : ℕ) (h : Holdings) (p : PastView) (said : Result Reply Refusal)
    → slice_get r.steps k ≡ Some (record { thread = t; event = Access kind word site }) → h ≡ holdings_at r.steps t k → p ≡ past_at r word k
    → said ≡ Ok (cond (nat_lt 0 h.depth) Ignored (cond (reports p.state (advanced p.state t kind (locks_for h kind))) Race Quiet))
    → said ≡ answer r.steps k
unfolding past_at
access-answer r k t kind word site h p said is held known says =
    says
    ∙ ap (λ (g : Holdings). Ok (cond (nat_lt 0 g.depth) Ignored (cond (reports p.state (advanced p.state t kind (locks_for g kind))) Race Quiet))) held
    ∙ ap
    (λ (q : PastView). Ok (cond (nat_lt 0 (holdings_at r.steps t k).depth) Ignored
    (cond (reports q.state (advanced q.state t kind (locks_for (holdings_at r.steps t k) kind))) Race Quiet)))
    known
    ∙ sym (answer-step r.steps k _ is)

pub access-tale : (r : Recording) (k t : ℕ) (kind : Kind) (word site : ℕ) (h : Holdings) (p : PastView) (said : Option WordTale)
    → slice_get r.steps k ≡ Some (record { thread = t; event = Access kind word site }) → h ≡ holdings_at r.steps t k → p ≡ past_at r word k
    → said ≡ Some (record { word = word; before = p.state; after = cond (nat_lt 0 h.depth) p.state (advanced p.state t kind (locks_for h kind)); accesses = p.accesses; turns = p.turns })
    → said ≡ Some (tale_of r k word)
unfolding past_at tale_of
access-tale r k t kind word site h p said is held known says =
    says
    ∙ ap (λ (g : Holdings). Some (tale_with p (cond (nat_lt 0 g.depth) p.state (advanced p.state t kind (locks_for g kind))))) held
    ∙ ap (λ (q : PastView). Some (tale_with q (cond (nat_lt 0 (holdings_at r.steps t k).depth) q.state (advanced q.state t kind (locks_for (holdings_at r.steps t k) kind))))) known
    ∙ ap (λ (after : WordState). Some (tale_with (past_at r word k) after)) (sym (access-state r.steps k t kind word site is))
  where
    tale_with : PastView → WordState → WordTale
    tale_with q after = record { word = word; before = q.state; after = after; accesses = q.accesses; turns = q.turns }

-- an access that isn't counted leaves the state as it is
pub reply-counted : (ignored : Bool) (before counted : WordState) → cond ignored Ignored (cond (reports before (cond ignored before counted)) Race Quiet) ≡ cond ignored Ignored (cond (reports before counted) Race Quiet)
reply-counted true before counted = refl
reply-counted false before counted = refl

-- and of a show, which changes nothing
pub show-answer : (r : Recording) (k t word : ℕ) (p : PastView) (said : Result Reply Refusal) → slice_get r.steps k ≡ Some (record { thread = t; event = Show word })
    → p ≡ past_at r word k → said ≡ Ok (State p.state) → said ≡ answer r.steps k
unfolding past_at
show-answer r k t word p said is known says = says ∙ ap (λ (q : PastView). Ok (State q.state)) known ∙ sym (answer-step r.steps k _ is)

pub show-tale : (r : Recording) (k t word : ℕ) (p : PastView) (said : Option WordTale) → slice_get r.steps k ≡ Some (record { thread = t; event = Show word })
    → p ≡ past_at r word k
    → said ≡ Some (record { word = word; before = p.state; after = p.state; accesses = p.accesses; turns = p.turns }) → said ≡ Some (tale_of r k word)
unfolding past_at tale_of
show-tale r k t word p said is known says =
    says
    ∙ ap (λ (q : PastView). Some (tale_with q q.state)) known
    ∙ ap (λ (after : WordState). Some (tale_with (past_at r word k) after)) (sym (state-step r.steps k _ word is))
  where
    tale_with : PastView → WordState → WordTale
    tale_with q after = record { word = word; before = q.state; after = after; accesses = q.accesses; turns = q.turns }

-- and of a step that has no word
other-replied : (h : Holdings) (states : ℕ → WordState) (t : ℕ) (e : Event) → has_word e ≡ false → replied h states t e ≡ Done
other-replied h states t (Acquire l m) none = refl
other-replied h states t (Release l m) none = refl
other-replied h states t (Reuse range) none = refl
other-replied h states t IgnoreOn none = refl
other-replied h states t IgnoreOff none = refl
other-replied h states t (Level n) none = refl
other-replied h states t (Sync sync) none = refl
other-replied h states t (Access kind w site) none = absurd (true≢false none)
other-replied h states t (Show w) none = absurd (true≢false none)

pub other-answer : (r : Recording) (k : ℕ) (step : Step) (h : Holdings) (said : Result Reply Refusal) → slice_get r.steps k ≡ Some step
    → h ≡ holdings_at r.steps step.thread k → has_word step.event ≡ false → said ≡ answer_unless (refused_by h step.event) Done → said ≡ answer r.steps k
other-answer r k step h said is held none says =
    says
    ∙ ap (λ (g : Holdings). answer_unless (refused_by g step.event) Done) held
    ∙ ap (answer_unless (refused_by (holdings_at r.steps step.thread k) step.event))
    (sym (other-replied (holdings_at r.steps step.thread k) (λ w. state_at r.steps w k) step.thread step.event none))
    ∙ sym (answer-step r.steps k step is)

pub other-tale : (r : Recording) (k : ℕ) (e : Event) (said : Option WordTale) → has_word e ≡ false → said ≡ None → said ≡ tale_in r k e
other-tale r k (Acquire l m) said none says = says
other-tale r k (Release l m) said none says = says
other-tale r k (Reuse range) said none says = says
other-tale r k IgnoreOn said none says = says
other-tale r k IgnoreOff said none says = says
other-tale r k (Level n) said none says = says
other-tale r k (Sync sync) said none says = says
other-tale r k (Access kind w site) said none says = absurd (true≢false none)
other-tale r k (Show w) said none says = absurd (true≢false none)

module _ (r : Recording) (all : All (IsNamed r.names) r.steps) where
  turn-named : (w number k t : ℕ) (e : Event) → IsNamed r.names (record { thread = t; event = e }) → All (HasTurnNames r.names) (turn_by r w number k t e)
  turn-named w number k t (Access kind word site) named =
      All-cons (HasTurnNames r.names) _ []
      (record { thread = named.thread; place = record { site = named.event; held = (named_holdings r.names r.steps all k t).any }; state = named_state r.names r.steps all (suc k) w })
      (All-nil (HasTurnNames r.names))
  turn-named w number k t (Acquire l m) named = All-nil (HasTurnNames r.names)
  turn-named w number k t (Release l m) named = All-nil (HasTurnNames r.names)
  turn-named w number k t (Reuse range) named = All-nil (HasTurnNames r.names)
  turn-named w number k t IgnoreOn named = All-nil (HasTurnNames r.names)
  turn-named w number k t IgnoreOff named = All-nil (HasTurnNames r.names)
  turn-named w number k t (Show word) named = All-nil (HasTurnNames r.names)
  turn-named w number k t (Level n) named = All-nil (HasTurnNames r.names)
  turn-named w number k t (Sync sync) named = All-nil (HasTurnNames r.names)

  turn-at-named : (w number k : ℕ) (o : Option Step) → slice_get r.steps k ≡ o → All (HasTurnNames r.names) (turn_at r w number k o)
  turn-at-named w number k None is = All-nil (HasTurnNames r.names)
  turn-at-named w number k (Some step) is = turn-named w number k step.thread step.event (named_step r.names r.steps all k step is)

  turns-named : (w start n : ℕ) → All (HasTurnNames r.names) (turns_since r w start n)
  unfolding turns_since
  turns-named w start zero = All-nil (HasTurnNames r.names)
  turns-named w start (suc n) =
      All-append (HasTurnNames r.names) (turns_since r w start n) _ (turns-named w start n)
      (elim (changes r.steps w start n) as (λ b. All (HasTurnNames r.names) (cond b (turn_at r w (counted_since r.steps w start n + 1) n (slice_get r.steps n)) [])) [
        | true ↦ turn-at-named w (counted_since r.steps w start n + 1) n (slice_get r.steps n) refl
        | false ↦ All-nil (HasTurnNames r.names)
      ])

  tale-named : (k w : ℕ) → HasTaleNames r.names (tale_of r k w)
  unfolding tale_of
  tale-named k w =
      record {
        before = named_state r.names r.steps all k w;
        after = named_state r.names r.steps all (suc k) w;
        turns = turns-named w _ k;
      }

  word-named : (k : ℕ) (e : Event) → HasWordNames r.names (tale_in r k e)
  word-named k (Access kind w site) = tale-named k w
  word-named k (Show w) = tale-named k w
  word-named k (Acquire l m) = tt
  word-named k (Release l m) = tt
  word-named k (Reuse range) = tt
  word-named k IgnoreOn = tt
  word-named k IgnoreOff = tt
  word-named k (Level n) = tt
  word-named k (Sync sync) = tt

  -- each number of a story has a name
  pub story-named : (k : ℕ) (step : Step) → slice_get r.steps k ≡ Some step → HasStoryNames r.names (story_of r k step)
  story-named k step is =
      record {
        thread = (named_step r.names r.steps all k step is).thread;
        event = named_event r.names step.event (named_step r.names r.steps all k step is).event;
        site = site_named r.names r.steps all k step is;
        held = (named_holdings r.names r.steps all k step.thread).any;
        word = word-named k step.event;
      }
