-- Calls of which some were left out, since they were settled before.
use Rattle.std.specs.Prelude.{ℕ, ◌≡◌, false, List, [], ◌∷◌, ◌++◌, map}
use Rattle.er_event.specs.declared.steps.Kind.{Kind}
use Rattle.er_online.specs.Taken.{access_of, state_now}
use Rattle.er_online.specs.declared.calls.ShardCall.{ShardCall}

-- a call with the locks that cover it, of which a shard was told or not
pub data Made : Type 0 where
  Told : (call : ShardCall × List ℕ) → Made
  LeftOut : (call : ShardCall × List ℕ) → Made

-- the call that was made
abbrev pub call_of : Made → ShardCall × List ℕ
call_of (Told call) = call
call_of (LeftOut call) = call

-- all calls that were made
abbrev pub all_of : List Made → List (ShardCall × List ℕ)
all_of made = map call_of made

-- the calls that the shard was told of
unfoldable pub told_of : List Made → List (ShardCall × List ℕ)
told_of [] = []
told_of (Told call ∷ made) = call ∷ told_of made
told_of (LeftOut call ∷ made) = told_of made

-- the call is a quiet access that left its word's state as it was once before, and the word has that state after these calls
pub record IsSettledAgain (calls : List (ShardCall × List ℕ)) (call : ShardCall × List ℕ) : Type 0 where
  pub thread : ℕ
  pub kind : Kind
  pub word : ℕ
  pub cover : List ℕ
  pub access : call ≡ (access_of thread kind word false, cover)
  pub before : List (ShardCall × List ℕ)
  pub left : state_now (before ++ call ∷ []) word ≡ state_now before word
  pub again : state_now calls word ≡ state_now before word

-- each call that was left out is settled after those that the shard was told of until then
unfoldable pub AreSettled : List (ShardCall × List ℕ) → List Made → Type 0
AreSettled calls [] = Unit {0}
AreSettled calls (Told call ∷ made) = AreSettled (calls ++ call ∷ []) made
AreSettled calls (LeftOut call ∷ made) = IsSettledAgain calls call × AreSettled calls made
