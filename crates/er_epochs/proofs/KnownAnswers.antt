-- What is found among what is known answers a step as the definitions do by bytes.
use Rattle.std.proofs.Common.{◌≡◌, ℕ, suc, Bool, true, false, ◌&&◌, nat_lt, cond, List, [], ◌∷◌, ◌++◌, length, is_some, slice_get, Option, Some, None, refl, ap, ap₂, sym, ◌∙◌, arith}
use Rattle.std.proofs.Math.Path.{fun_ext}
use Rattle.std.specs.Option.{option_map}
use Rattle.er_event.specs.declared.addresses.PageRange.{PageRange}
use Rattle.er_event.specs.declared.refusals.Refusal.{Refusal}
use Rattle.er_event.specs.declared.steps.Event.{Event}
use Rattle.er_event.specs.declared.steps.Event.TheVariants.{Acquire, Release, Access, Reuse, IgnoreOn, IgnoreOff, Show, Level, Sync}
use Rattle.er_event.specs.declared.steps.Kind.{Kind}
use Rattle.er_event.specs.declared.steps.Reply.TheVariants.{Done, Quiet, Race, Ignored}
use Rattle.er_event.specs.declared.steps.Step.{Step}
use Rattle.er_event.proofs.Lists.{get_last}
use Rattle.er_model.specs.Search.{least_below}
use Rattle.er_model.specs.Words.{Counted, Nothing, is_within}
use Rattle.er_model.specs.Holdings.{Holdings, holdings, refused_by, holdings_at}
use Rattle.er_model.specs.Answers.{answer_unless, reading_of}
use Rattle.er_model.specs.Following.{locks_for, marked}
use Rattle.er_model.proofs.Threads.{refusal_at}
use Rattle.er_order.specs.ByBytes.{Touched, by_bytes, is_in_use_by_bytes, word_in_use_by_bytes, reply_by_bytes, answer_by_bytes, unordered_by_bytes_of, unordered_by_bytes}
use Rattle.er_order.specs.Clocks.{Clocks, OfThread, clocks_at}
use Rattle.er_order.specs.Order.{acts_of, happens_before}
use Rattle.er_order.specs.Parts.{Query}
use Rattle.er_order.specs.Races.{Order, had_race, is_reported, last_use, reuse_reply}
use Rattle.er_order.specs.Reasons.{last_unordered, use_of}
use Rattle.er_order.proofs.Following.{mark-step}
use Rattle.er_order.proofs.Reuses.{reuse-acts}
use Rattle.er_order.proofs.StepLemmas.{agree-steps, held-front, clocks-front}
use Rattle.er_epochs.specs.Known.{finds, query_of, reuse_query}
use Rattle.er_epochs.specs.Standing.{known, known_at, FollowsBytes}
use Rattle.er_epochs.specs.Words.{AllWords, known_among}
use Rattle.er_epochs.proofs.KnownSteps.{access-found, access-reported, use-found, use-known, serves-finds, known-front}

-- the answer by bytes to a step
module _ (touched : Touched) (steps : List Step) (k : ℕ) (s : Step) (is : slice_get steps k ≡ Some s) where
  abbrev by : Order
  by = by_bytes touched (happens_before (acts_of steps))

  bytes_answer : answer_by_bytes touched steps k ≡ answer_unless (refused_by (holdings_at steps s.thread k) s.event) (reply_by_bytes touched steps k s.thread s.event)
  unfolding answer_by_bytes
  bytes_answer = rw is (ap (λ (o : Option Refusal). answer_unless o (reply_by_bytes touched steps k s.thread s.event)) (refusal_at steps k s.thread s.event))

  bytes_access : (w site : ℕ) (kind : Kind) → reply_by_bytes touched steps k s.thread (Access kind w site)
      ≡ cond (nat_lt 0 (holdings_at steps s.thread k).depth) Ignored (cond (is_reported by (reading_of steps) w k) Race Quiet)
  unfolding reply_by_bytes holdings
  bytes_access w site kind = refl

  bytes_reuse : (range : PageRange) → reply_by_bytes touched steps k s.thread (Reuse range)
      ≡ cond (nat_lt 0 (holdings_at steps s.thread k).depth) Done (reuse_reply (word_in_use_by_bytes touched (happens_before (acts_of steps)) (reading_of steps) k range))
  unfolding reply_by_bytes holdings
  bytes_reuse range = refl

  other_reply : (t : ℕ) (e : Event) → ((w site : ℕ) (kind : Kind) → e ≡ Access kind w site → ⊥) → ((range : PageRange) → e ≡ Reuse range → ⊥) → reply_by_bytes touched steps k t e ≡ Done
  unfolding reply_by_bytes
  other_reply t (Access kind w site) never never_reused = absurd (never w site kind refl)
  other_reply t (Acquire l m) never never_reused = refl
  other_reply t (Release l m) never never_reused = refl
  other_reply t (Reuse range) never never_reused = absurd (never_reused range refl)
  other_reply t IgnoreOn never never_reused = refl
  other_reply t IgnoreOff never never_reused = refl
  other_reply t (Show w) never never_reused = refl
  other_reply t (Level n) never never_reused = refl
  other_reply t (Sync sync) never never_reused = refl

  pub other-answered : ((w site : ℕ) (kind : Kind) → s.event ≡ Access kind w site → ⊥) → ((range : PageRange) → s.event ≡ Reuse range → ⊥) →
      answer_by_bytes touched steps k ≡ answer_unless (refused_by (holdings_at steps s.thread k) s.event) Done
  other-answered never never_reused = bytes_answer ∙ ap (answer_unless (refused_by (holdings_at steps s.thread k) s.event)) (other_reply s.thread s.event never never_reused)

  -- what it is unordered with
  bytes_unordered : unordered_by_bytes touched steps k ≡ unordered_by_bytes_of touched steps k s.event
  unfolding unordered_by_bytes
  bytes_unordered = rw is refl

-- behind a list that the words follow
module _ {A : Type 0} (past : List Step) (s : Step) (tags : ℕ → A) (touched : Touched) (words : AllWords A) (follows : FollowsBytes tags touched words past) where
  abbrev longer : List Step
  longer = past ++ s ∷ []

  abbrev at : ℕ
  at = length past

  abbrev own : ℕ → ℕ
  own = clocks_at (acts_of past) at (OfThread s.thread)

  abbrev held : Holdings
  held = holdings_at past s.thread at

  abbrev order : Order
  order = by_bytes touched (happens_before (acts_of longer))

  held_is : holdings_at longer s.thread at ≡ held
  held_is = held-front past (s ∷ []) s.thread at (omega arith)

  found_known : (w : ℕ) (query : Query) → finds own (known_among words w) query ≡ finds (clocks_at (acts_of longer) at (OfThread s.thread)) (known (acts_of longer) (reading_of longer) tags touched w at) query
  found_known w query =
      serves-finds past s.thread (known_among words w) (known_at tags touched past w at) query (follows w)
      ∙ ap₂ (λ (clocks : Clocks) k. finds (clocks (OfThread s.thread)) k query) (sym (clocks-front past (s ∷ []) at (omega arith)))
      (sym (known-front past (s ∷ []) tags tags touched touched w at (omega arith) (λ k low. refl) (λ k low. refl)))

  -- where no race was reported before
  unraced : (had : Bool) (o : Option ℕ) → is_some (cond had None (option_map tags o)) ≡ true → cond had None (option_map tags o) ≡ option_map tags o
  unraced true o some = cc
  unraced false o some = refl

  module _ (w site : ℕ) (kind : Kind) (event : s.event ≡ Access kind w site) where
    abbrev found : Option A
    found = finds own (known_among words w) (query_of kind (touched at))

    counted_at : nat_lt 0 (holdings_at longer s.thread at).depth ≡ false → reading_of longer at ≡ Counted s.thread kind w (locks_for (holdings_at longer s.thread at) kind)
    counted_at heeds =
        mark-step longer at s (get_last past s) ∙ ap (marked (holdings_at longer s.thread at) s.thread) event
        ∙ ap (λ b. cond b Nothing (Counted s.thread kind w (locks_for (holdings_at longer s.thread at) kind))) heeds

    replied : (b : Bool) → nat_lt 0 (holdings_at longer s.thread at).depth ≡ b → cond b Ignored (cond (is_reported order (reading_of longer) w at) Race Quiet) ≡ cond b Ignored (cond (is_some found) Race Quiet)
    replied true ignores = refl
    replied false heeds =
        ap (λ b. cond b Race Quiet)
        (access-reported (acts_of longer) (reading_of longer) (agree-steps longer) tags touched w at s.thread kind (locks_for (holdings_at longer s.thread at) kind) (counted_at heeds)
        ∙ ap is_some (sym (found_known w (query_of kind (touched at)))))

    pub access-answered : answer_by_bytes touched longer at ≡ answer_unless (refused_by held s.event) (cond (nat_lt 0 held.depth) Ignored (cond (is_some found) Race Quiet))
    access-answered =
        bytes_answer touched longer at s (get_last past s)
        ∙ ap (answer_unless (refused_by (holdings_at longer s.thread at) s.event))
        (ap (reply_by_bytes touched longer at s.thread) event ∙ bytes_access touched longer at s (get_last past s) w site kind ∙ replied (nat_lt 0 (holdings_at longer s.thread at).depth) refl)
        ∙ ap (λ (h : Holdings). answer_unless (refused_by h s.event) (cond (nat_lt 0 h.depth) Ignored (cond (is_some found) Race Quiet))) held_is

    pub access-named : nat_lt 0 held.depth ≡ false → is_some found ≡ true → found ≡ option_map tags (unordered_by_bytes touched longer at)
    access-named heeds some =
        is ∙ unraced (had_race order (reading_of longer) w at) (last_unordered order (reading_of longer) w at) (ap is_some (sym is) ∙ some)
        ∙ ap (option_map tags) (sym (bytes_unordered touched longer at s (get_last past s) ∙ ap (unordered_by_bytes_of touched longer at) event))
      where
        is : found ≡ cond (had_race order (reading_of longer) w at) None (option_map tags (last_unordered order (reading_of longer) w at))
        is =
            found_known w (query_of kind (touched at))
            ∙ access-found (acts_of longer) (reading_of longer) (agree-steps longer) tags touched w at s.thread kind (locks_for (holdings_at longer s.thread at) kind)
            (counted_at (ap (λ (h : Holdings). nat_lt 0 h.depth) held_is ∙ heeds))

  module _ (range : PageRange) (event : s.event ≡ Reuse range) where
    abbrev used : ℕ → Option A
    used w = finds own (known_among words w) reuse_query

    use_is : (w : ℕ) → is_in_use_by_bytes touched (happens_before (acts_of longer)) (reading_of longer) w at ≡ is_some (used w)
    use_is w =
        use-known (acts_of longer) (reading_of longer) (agree-steps longer) tags touched w at s.thread (reuse-acts longer at s (get_last past s) range event)
        ∙ ap is_some (sym (found_known w reuse_query))

    word_is : word_in_use_by_bytes touched (happens_before (acts_of longer)) (reading_of longer) at range ≡ least_below (suc range.hi) (λ w. is_within w range && is_some (used w))
    unfolding word_in_use_by_bytes
    word_is = ap (least_below (suc range.hi)) (fun_ext (λ w. ap (λ b. is_within w range && b) (use_is w)))

    pub reuse-answered : answer_by_bytes touched longer at
        ≡ answer_unless (refused_by held s.event) (cond (nat_lt 0 held.depth) Done (reuse_reply (least_below (suc range.hi) (λ w. is_within w range && is_some (used w)))))
    reuse-answered =
        bytes_answer touched longer at s (get_last past s)
        ∙ ap (answer_unless (refused_by (holdings_at longer s.thread at) s.event))
        (ap (reply_by_bytes touched longer at s.thread) event ∙ bytes_reuse touched longer at s (get_last past s) range
        ∙ ap (λ (o : Option ℕ). cond (nat_lt 0 (holdings_at longer s.thread at).depth) Done (reuse_reply o)) word_is)
        ∙ ap (λ (h : Holdings). answer_unless (refused_by h s.event) (cond (nat_lt 0 h.depth) Done (reuse_reply (least_below (suc range.hi) (λ w. is_within w range && is_some (used w)))))) held_is

    pub reuse-named : (w : ℕ) → least_below (suc range.hi) (λ w. is_within w range && is_some (used w)) ≡ Some w → is_some (used w) ≡ true
        → used w ≡ option_map tags (unordered_by_bytes touched longer at)
    reuse-named w lowest some =
        is ∙ unraced (had_race order (reading_of longer) w at) (last_use (happens_before (acts_of longer)) (reading_of longer) w at) (ap is_some (sym is) ∙ some)
        ∙ ap (option_map tags) (sym (bytes_unordered touched longer at s (get_last past s) ∙ ap (unordered_by_bytes_of touched longer at) event ∙ ap (use_of longer at) (word_is ∙ lowest)))
      where
        is : used w ≡ cond (had_race order (reading_of longer) w at) None (option_map tags (last_use (happens_before (acts_of longer)) (reading_of longer) w at))
        is =
            found_known w reuse_query
            ∙ use-found (acts_of longer) (reading_of longer) (agree-steps longer) tags touched w at s.thread (reuse-acts longer at s (get_last past s) range event)
