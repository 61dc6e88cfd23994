-- Nothing written is no note, and notes on a text stand behind those that were asked for.
use Rattle.std.proofs.Common.{◌≡◌, ℕ, Bool, true, false, ◌&&◌, ◌||◌, cond, List, [], ◌++◌, append-nil, Option, Some, None, refl, sym, ◌∙◌, subst, inl, inr}
use Rattle.std.specs.Io.KnownBytes.{Keeps, Appends}
use Rattle.er_exit.specs.Notes.{HasAdded, notes_text}
use Rattle.er_exit.specs.Writes.{WritesBytes}
use Rattle.er_text.specs.declared.endings.Ending.{Ending}
use Rattle.er_triage.specs.Notes.{AreNotes}
use Rattle.eraser.specs.Notes.{AddsNotes, AddsNotesOn, GetsNotes, notes_on}

pub nothing : (text : List ℕ) → text ≡ [] → AreNotes text
nothing text empty = record { reports = record { lockset = None; unordered = None }; rules = []; left_out = 0; says = empty }

pub noted : (hints : Bool) (asked written : List ℕ) (ending : Ending) (unordered : ℕ) (old new : Option (List ℕ)) (failed : Bool) → HasAdded asked written (notes_on hints ending unordered) → WritesBytes old new written failed → AddsNotesOn hints ending unordered asked old new failed
noted hints asked written ending unordered old new failed (inl all) wrote = inl (subst (λ bytes. WritesBytes old new bytes failed) all wrote)
noted hints asked written ending unordered old new failed (inr none) wrote = inr (subst (λ bytes. WritesBytes old new bytes failed) none wrote)

-- nothing was written
kept : (old new : Option (List ℕ)) → Keeps old new → Appends old new []
kept None new same = tt
kept (Some x) None same = absurd same
kept (Some x) (Some y) same = same ∙ sym (append-nil x)

no_bytes : (old new : Option (List ℕ)) (failed : Bool) → Keeps old new → WritesBytes old new [] failed
no_bytes old new false same = kept old new same
no_bytes old new true same = (0, kept old new same)

-- a text of which nothing is noted but this
abbrev ending_of : Bool → Ending
ending_of no_end = record { lines = 0; is_cut = false; is_text_3 = true; is_open = no_end; lost = None }

pub none-written : (hints : Bool) (old new : Option (List ℕ)) (failed : Bool) → Keeps old new → GetsNotes hints old new failed
none-written hints old new failed same = ([], nothing [] refl, (ending_of false, 0, inr (no_bytes old new failed same)))

-- more hints allow the notes of fewer
and_none : (b : Bool) → (b && false) ≡ false
and_none true = refl
and_none false = refl

widened : (hints : Bool) (asked : List ℕ) (old new : Option (List ℕ)) (failed : Bool) → AddsNotes false asked old new failed → AddsNotes hints asked old new failed
widened false asked old new failed adds = adds
widened true asked old new failed (ending, unordered, inl all) =
    let P : Bool → Type 0 = λ cut. WritesBytes old new (asked ++ notes_text (record { no_end = ending.is_open; no_line_feed = cut; unordered = cond (ending.is_text_3 || false) unordered 0 })) failed in
    (ending_of ending.is_open, cond (ending.is_text_3 || false) unordered 0, inl (subst P (and_none ending.is_cut) all))
widened true asked old new failed (ending, unordered, inr none) = (ending_of ending.is_open, 0, inr none)

widen : (a b : Bool) → (a ≡ true → b ≡ true) → (asked : List ℕ) (old new : Option (List ℕ)) (failed : Bool) → AddsNotes a asked old new failed → AddsNotes b asked old new failed
widen true b more asked old new failed adds = subst (λ hints. AddsNotes hints asked old new failed) (sym (more refl)) adds
widen false b more asked old new failed adds = widened b asked old new failed adds

pub more-notes : (a b : Bool) → (a ≡ true → b ≡ true) → (old new : Option (List ℕ)) (failed : Bool) → GetsNotes a old new failed → GetsNotes b old new failed
more-notes a b more old new failed (asked, are, adds) = (asked, are, widen a b more asked old new failed adds)

-- what no word asks for is not asked for
pub not-asked : (asked named : Bool) → (asked ≡ true → named ≡ true) → named ≡ false → asked ≡ false
not-asked true named all none = sym (all refl) ∙ none
not-asked false named all none = refl
