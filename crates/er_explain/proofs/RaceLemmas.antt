-- Races and their explanations.
use Rattle.std.proofs.Common.{◌≡◌, ℕ, Bool, true, false, cond, List, [], ◌∷◌, flat_map, None, Result, Ok, Err, append-nil, refl, sym, ◌∙◌}
use Rattle.std.specs.Option.{option_to_list}
use Rattle.er_event.specs.declared.refusals.Refusal.{Refusal}
use Rattle.er_event.specs.declared.steps.Reply.{Reply}
use Rattle.er_event.specs.declared.steps.Reply.TheVariants.{Done, Quiet, Race, Ignored, State}
use Rattle.er_event.specs.declared.steps.Step.{Step}
use Rattle.er_model.specs.Answers.{answer}
use Rattle.er_model.specs.Explanations.{Explanation}
use Rattle.er_explain.specs.Explaining.{explanation_at}
use Rattle.er_explain.specs.Racing.{is_race}
use Rattle.er_explain.proofs.FoundLemmas.{unraced-at}

-- the explanations of the races at these positions, in their order
abbrev pub explanations_at : List Step → List ℕ → List Explanation
explanations_at steps places = flat_map (λ k. option_to_list (explanation_at steps k)) places

-- only a race is one
pub race-is : (a : Result Reply Refusal) → is_race a ≡ true → a ≡ Ok Race
race-is (Ok Race) is = refl
race-is (Ok Done) is = cc
race-is (Ok Quiet) is = cc
race-is (Ok Ignored) is = cc
race-is (Ok (State state)) is = cc
race-is (Err why) is = cc

unexplained : (steps : List Step) (k : ℕ) (a : Result Reply Refusal) → answer steps k ≡ a → is_race a ≡ false → explanation_at steps k ≡ None
unexplained steps k (Ok Race) known none = cc
unexplained steps k (Ok Done) known none = unraced-at steps k (λ race. let never = sym known ∙ race in cc)
unexplained steps k (Ok Quiet) known none = unraced-at steps k (λ race. let never = sym known ∙ race in cc)
unexplained steps k (Ok Ignored) known none = unraced-at steps k (λ race. let never = sym known ∙ race in cc)
unexplained steps k (Ok (State state)) known none = unraced-at steps k (λ race. let never = sym known ∙ race in cc)
unexplained steps k (Err why) known none = unraced-at steps k (λ race. let never = sym known ∙ race in cc)

-- a race has its explanation, and what is no race has none
pub explained-here : (steps : List Step) (k : ℕ) → explanations_at steps (cond (is_race (answer steps k)) (k ∷ []) []) ≡ option_to_list (explanation_at steps k)
explained-here steps k = by (is_race (answer steps k)) refl
  where
    by : (b : Bool) → is_race (answer steps k) ≡ b → explanations_at steps (cond b (k ∷ []) []) ≡ option_to_list (explanation_at steps k)
    by true race = append-nil (option_to_list (explanation_at steps k))
    by false none = rw (unexplained steps k (answer steps k) refl none) refl
