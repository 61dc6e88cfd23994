-- What an explanation claims of each position up to the one that it ends at. The crate's own functions speak of it; the public one cites `Explains` of
-- the model alone.
use Rattle.std.specs.Prelude.{◌≡◌, ◌≤◌, ◌↔◌, ◌==◌, ℕ, suc, cond, Bool, false, not, ◌&&◌, List, All, slice_get, Some, IsTrue}
use Rattle.er_event.specs.declared.steps.Event.{Event}
use Rattle.er_event.specs.declared.steps.Event.TheVariants.{Access, Reuse}
use Rattle.er_event.specs.declared.steps.Kind.{Kind}
use Rattle.er_event.specs.declared.steps.Step.{Step}
use Rattle.er_event.specs.Lockset.{has}
use Rattle.er_model.specs.Words.{Mark, counts, is_within, thread_of, writes, cover_of}
use Rattle.er_model.specs.Holdings.{Holdings}
use Rattle.er_model.specs.Following.{marked}
use Rattle.er_model.specs.Explanations.{Explanation, times_listed, word_of}

-- of the positions from the start up to the named one, that one passes and no other does
abbrev pub IsLeast : ℕ → ℕ → ℕ → Bool → Type 0
IsLeast start named i passes = start ≤ i → i ≤ named → (IsTrue passes ↔ (i ≡ named))

-- the first access after the joining that the lock doesn't cover is the one that the pair names
abbrev pub FitsPair : Mark → ℕ → ℕ → ℕ → ℕ × ℕ → Type 0
FitsPair m w join i pair = IsLeast (suc join) pair.1 i (counts m w && not (has (cover_of m) pair.0))

-- the pairs list each lock of the set once and no other
abbrev pub ListsOnce : List (ℕ × ℕ) → List ℕ → Type 0
ListsOnce pairs locks = (l : ℕ) → times_listed pairs l ≡ cond (has locks l) 1 0

-- what stands at position i agrees with each claim about word w, whose era starts at the start and is accessed first by thread t
pub record Agrees (w start t : ℕ) (e : Explanation) (i : ℕ) (m : Mark) : Type 0 where
  pub first : IsLeast start e.first i (counts m w)
  pub join : IsLeast start e.join i (counts m w && not (t == thread_of m))
  pub write : IsLeast e.join e.write i (counts m w && writes m)
  pub uncovers : All (FitsPair m w e.join i) e.uncovered
  pub each_once : i ≡ e.join → ListsOnce e.uncovered (cover_of m)

-- the position lies from the start to k, and its step accesses the word
pub record IsAccess (steps : List Step) (w start k i : ℕ) : Type 0 where
  pub low : start ≤ i
  pub high : i ≤ k
  pub access : word_of (slice_get steps i) ≡ Some w

-- each position that the explanation names can be what it is said to be, but for the locks and brackets of its thread
pub record NamesAccesses (steps : List Step) (w start k : ℕ) (e : Explanation) : Type 0 where
  pub first : IsAccess steps w start k e.first
  pub join : IsAccess steps w start k e.join
  pub write : IsAccess steps w e.join k e.write
  pub uncovers : All (λ pair. IsAccess steps w (suc e.join) k pair.1) e.uncovered

-- what an access of the word is to the words, by a thread that holds this
unfoldable pub accessed : Holdings → ℕ → Kind → ℕ → Mark
accessed h t kind w = marked h t (Access kind w 0)

-- the event is a reuse of the word
abbrev pub reused_by : Event → ℕ → Bool
reused_by (Reuse range) w = is_within w range
reused_by _ w = false
