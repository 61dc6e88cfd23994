-- Accesses that are of no use beside a later one may go, and lists that are alike go on to such lists.
use Rattle.std.proofs.Common.{◌≡◌, ◌∙◌, ℕ, ◌≤◌, Bool, true, false, ◌&&◌, ◌||◌, not, cond, nat_le, List, [], ◌∷◌, ◌++◌, filter, length, Option, Some, None, refl, sym, ap, subst, append_assoc, arith}
use Rattle.std.proofs.lemmas.Bool.{le-leb, leb-true, and_parts, and_from, both_ways, not_from_false, false_from_ne_true}
use Rattle.std.specs.List.{find}
use Rattle.er_event.specs.declared.steps.Step.{Step}
use Rattle.er_order.specs.Order.{acts_of}
use Rattle.er_order.specs.Clocks.{Epoch, OfThread, clocks_at, covers}
use Rattle.er_order.specs.Following.{is_unordered}
use Rattle.er_order.specs.Parts.{Part, Query, touches, hits, first_hit, is_inside, is_of_use, ArePartsAlike, IsPartNoted}
use Rattle.er_order.specs.declared.bytes.Bytes.{Bytes}
use Rattle.er_order.proofs.ByBytes.{or_neither}
use Rattle.er_order.proofs.Keeping.{covered-later, own_then, longer}
use Rattle.er_order.proofs.StepLemmas.{clocks-front}

-- what fails a test may go where none of it is looked for
pub find-kept : {E : Type 0} (p keeps : E → Bool) → ((x : E) → keeps x ≡ false → p x ≡ false) → (xs : List E) → find p (filter keeps xs) ≡ find p xs
find-kept p keeps none [] = refl
find-kept p keeps none (x ∷ xs) = by (keeps x) refl (find-kept p keeps none xs)
  where
    by : (b : Bool) → keeps x ≡ b → find p (filter keeps xs) ≡ find p xs → find p (cond (keeps x) (x ∷ filter keeps xs) (filter keeps xs)) ≡ cond (p x) (Some x) (find p xs)
    by true is rest = rw is (ap (λ o. cond (p x) (Some x) o) rest)
    by false is rest = rw (is, none x is) rest

-- behind one that isn't found
pub find-behind : {E : Type 0} (p : E → Bool) (x : E) (xs ys : List E) → (p x ≡ false → find p xs ≡ find p ys) → find p (x ∷ xs) ≡ find p (x ∷ ys)
find-behind p x xs ys same = by (p x) refl
  where
    by : (b : Bool) → p x ≡ b → cond (p x) (Some x) (find p xs) ≡ cond (p x) (Some x) (find p ys)
    by true is = rw is refl
    by false is = rw is (same is)

module _ (clock later : ℕ → ℕ) (new old : Part) (query : Query) (knows : covers later new.epoch ≡ true → (u : ℕ) → clock u ≤ later u) where
  writes_too : (a b asks : Bool) → (a && not b) ≡ false → (a || asks) ≡ true → (b || asks) ≡ true
  writes_too true true asks e f = refl
  writes_too true false asks e f = cc
  writes_too false true asks e f = refl
  writes_too false false asks e f = f

  touches_too : (asked : Option Bytes) → is_inside old.bytes new.bytes ≡ true → touches asked old.bytes ≡ true → touches asked new.bytes ≡ true
  touches_too None inside e = refl
  touches_too (Some asked) inside e =
      let in_new = and_parts (nat_le new.bytes.first old.bytes.first) (nat_le old.bytes.last new.bytes.last) inside in
      let common = and_parts (nat_le old.bytes.first asked.last) (nat_le asked.first old.bytes.last) e in
      let low = leb-true new.bytes.first old.bytes.first in_new.0 in
      let high = leb-true old.bytes.last new.bytes.last in_new.1 in
      let one = leb-true old.bytes.first asked.last common.0 in
      let two = leb-true asked.first old.bytes.last common.1 in
      and_from (nat_le new.bytes.first asked.last) (nat_le asked.first new.bytes.last)
      (le-leb new.bytes.first asked.last (omega (arith, low, one))) (le-leb asked.first new.bytes.last (omega (arith, high, two)))

  apart_too : is_unordered clock old.epoch ≡ false → is_unordered later old.epoch ≡ true → is_unordered later new.epoch ≡ true
  apart_too covered apart =
      not_from_false (covers later new.epoch)
      (false_from_ne_true (covers later new.epoch)
      (λ e. both_ways (is_unordered later old.epoch) (covered-later (λ (x : Epoch). x) clock later (knows e) old.epoch covered) apart))

  not_true : (b : Bool) → not b ≡ false → b ≡ true
  not_true true e = refl
  not_true false e = cc

  -- who would hit the old access hits the new one
  hits_too : is_of_use clock new old ≡ false → hits later query old ≡ true → hits later query new ≡ true
  hits_too useless hit =
      let outer = or_neither (is_unordered clock old.epoch) (not (is_inside old.bytes new.bytes) || (old.is_write && not new.is_write)) useless in
      let inner = or_neither (not (is_inside old.bytes new.bytes)) (old.is_write && not new.is_write) outer.1 in
      let parts = and_parts (old.is_write || query.is_write) (touches query.bytes old.bytes && is_unordered later old.epoch) hit in
      let rest = and_parts (touches query.bytes old.bytes) (is_unordered later old.epoch) parts.1 in
      and_from (new.is_write || query.is_write) (touches query.bytes new.bytes && is_unordered later new.epoch)
      (writes_too old.is_write new.is_write query.is_write inner.1 parts.0)
      (and_from (touches query.bytes new.bytes) (is_unordered later new.epoch)
      (touches_too query.bytes (not_true (is_inside old.bytes new.bytes) inner.0) rest.0)
      (apart_too outer.0 rest.1))

  pub hit-neither : is_of_use clock new old ≡ false → hits later query new ≡ false → hits later query old ≡ false
  hit-neither useless unhit = false_from_ne_true (hits later query old) (λ hit. both_ways (hits later query new) unhit (hits_too useless hit))

module _ {E : Type 0} (part : E → Part) where
  pub part-noted : (clock : ℕ → ℕ) (before : List E) (x : E) → IsPartNoted part clock before x (x ∷ filter (λ e. is_of_use clock (part x) (part e)) before)
  part-noted clock before x = record {
    noted = λ later query knows.
        find-behind (λ e. hits later query (part e)) x (filter (λ e. is_of_use clock (part x) (part e)) before) before
        (λ unhit. find-kept (λ e. hits later query (part e)) (λ e. is_of_use clock (part x) (part e)) (λ e useless. hit-neither clock later (part x) (part e) query knows useless unhit) before);
  }

  pub parts-itself : (steps : List Step) (all : List E) → ArePartsAlike part steps all all
  parts-itself steps all = record { alike = λ more n t query past. refl }

  pub parts-here : (steps : List Step) (stored all : List E) (t : ℕ) (query : Query) → ArePartsAlike part steps stored all
      → first_hit part (clocks_at (acts_of steps) (length steps) (OfThread t)) query stored ≡ first_hit part (clocks_at (acts_of steps) (length steps) (OfThread t)) query all
  parts-here steps stored all t query like =
      subst (λ (c : ℕ → ℕ). first_hit part c query stored ≡ first_hit part c query all)
      (ap (λ clocks. clocks (OfThread t)) (clocks-front steps [] (length steps) (omega arith)))
      (like.alike [] (length steps) t query (omega arith))

  module _ (steps : List Step) (s : Step) where
    abbrev grown : List Step
    grown = steps ++ s ∷ []

    abbrev own : ℕ → ℕ → ℕ
    own t = clocks_at (acts_of steps) (length steps) (OfThread t)

    pub parts-grow : (stored all : List E) → ArePartsAlike part steps stored all → ArePartsAlike part grown stored all
    parts-grow stored all like = record {
      alike = λ more n t query past.
          subst (λ (xs : List Step). first_hit part (clocks_at (acts_of xs) n (OfThread t)) query stored ≡ first_hit part (clocks_at (acts_of xs) n (OfThread t)) query all)
          (sym (append_assoc steps (s ∷ []) more))
          (like.alike (s ∷ more) n t query (let more_steps = longer steps s in omega (arith, more_steps, past)));
    }

    -- one more access
    pub parts-noted : (t : ℕ) (x : E) → (part x).epoch ≡ (t, own t t) → (stored all after : List E) → ArePartsAlike part steps stored all
        → IsPartNoted part (own t) stored x after → ArePartsAlike part grown after (x ∷ all)
    parts-noted t x now stored all after like noted = record {
      alike = λ more n u query past.
          let later : ℕ → ℕ = clocks_at (acts_of (grown ++ more)) n (OfThread u) in
          noted.noted later query
          (λ covered v. own_then steps s t more n u past (leb-true (own t t) (later t) (subst (λ (e : Epoch). covers later e ≡ true) now covered)) v)
          ∙ find-behind (λ e. hits later query (part e)) x stored all (λ unhit. (parts-grow stored all like).alike more n u query past);
    }
