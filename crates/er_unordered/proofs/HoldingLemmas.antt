-- A lock that was just taken is given back.
use Rattle.std.proofs.Common.{◌≡◌, ℕ, Bool, true, false, nat_eq, cond, List, None, refl, ap, ap₂, sym, subst, ◌∙◌}
use Rattle.std.proofs.lemmas.Bool.{eqb-true}
use Rattle.er_event.specs.Lockset.{has, is_level_lock, with_lock}
use Rattle.er_event.specs.declared.steps.Event.TheVariants.{Acquire, Release}
use Rattle.er_event.specs.declared.steps.Mode.{Mode}
use Rattle.er_event.specs.declared.steps.Mode.TheVariants.{Read, Write}
use Rattle.er_event.proofs.Bools.{itself}
use Rattle.er_event.proofs.LocksetLemmas.{has-with_lock, without_absent}
use Rattle.er_model.specs.Holdings.{Holdings, refused_by, changed_by}
use Rattle.er_held.specs.ThreadLocks.{holding_among}
use Rattle.er_held.proofs.HeldLemmas.{without-with_lock}

module _ (h : Holdings) (l : ℕ) (within : (k : ℕ) → has h.write_held k ≡ true → has h.held k ≡ true) where
  -- what an accepted acquire tells
  plain_lock : (m : Mode) (b : Bool) → is_level_lock l ≡ b → refused_by h (Acquire l m) ≡ None → is_level_lock l ≡ false
  plain_lock m true is so = let never = rw is at so in cc
  plain_lock m false is so = is

  free_lock : (m : Mode) (b c : Bool) → is_level_lock l ≡ b → has h.held l ≡ c → refused_by h (Acquire l m) ≡ None → has h.held l ≡ false
  free_lock m true c is there so = let never = rw is at so in cc
  free_lock m false true is there so = let never = rw (is, there) at so in cc
  free_lock m false false is there so = there

  unwritten : (b : Bool) → has h.write_held l ≡ b → has h.held l ≡ false → has h.write_held l ≡ false
  unwritten true there free = let held = within l there in cc
  unwritten false absent free = absent

  there_now : (xs : List ℕ) → has (with_lock l xs) l ≡ true
  there_now xs = has-with_lock l xs l ∙ rw (itself l) refl

  pub given_back : (m : Mode) → refused_by h (Acquire l m) ≡ None → refused_by (changed_by h (Acquire l m)) (Release l m) ≡ None
  given_back Read so = rw (plain_lock Read (is_level_lock l) refl so, unwritten (has h.write_held l) refl (free_lock Read (is_level_lock l) (has h.held l) refl refl so), there_now h.held) refl
  given_back Write so = rw (plain_lock Write (is_level_lock l) refl so, there_now h.write_held) refl

  pub as_before : (m : Mode) → refused_by h (Acquire l m) ≡ None → changed_by (changed_by h (Acquire l m)) (Release l m) ≡ h
  as_before Read so =
      let free = free_lock Read (is_level_lock l) (has h.held l) refl refl so in
      ap₂ (λ held write_held. record { held = held; write_held = write_held; level = h.level; depth = h.depth })
      (without-with_lock l h.held free) (without_absent h.write_held l (unwritten (has h.write_held l) refl free))
  as_before Write so =
      let free = free_lock Write (is_level_lock l) (has h.held l) refl refl so in
      ap₂ (λ held write_held. record { held = held; write_held = write_held; level = h.level; depth = h.depth })
      (without-with_lock l h.held free) (without-with_lock l h.write_held (unwritten (has h.write_held l) refl free))

-- among all threads
module _ (old mid : List (ℕ × Holdings)) (t l : ℕ) (m : Mode)
    (taken : (u : ℕ) → holding_among mid u ≡ cond (nat_eq t u) (changed_by (holding_among old t) (Acquire l m)) (holding_among old u)) where
  taken_here : holding_among mid t ≡ changed_by (holding_among old t) (Acquire l m)
  taken_here = taken t ∙ ap (λ b. cond b (changed_by (holding_among old t) (Acquire l m)) (holding_among old t)) (itself t)

  module _ (within : (k : ℕ) → has (holding_among old t).write_held k ≡ true → has (holding_among old t).held k ≡ true)
      (accepted : refused_by (holding_among old t) (Acquire l m) ≡ None) where
    pub may_give_back : refused_by (holding_among mid t) (Release l m) ≡ None
    may_give_back = subst (λ (h : Holdings). refused_by h (Release l m) ≡ None) (sym taken_here) (given_back (holding_among old t) l within m accepted)

    pub undone : (new : List (ℕ × Holdings)) →
        ((u : ℕ) → holding_among new u ≡ cond (nat_eq t u) (changed_by (holding_among mid t) (Release l m)) (holding_among mid u)) →
        (u : ℕ) → holding_among new u ≡ holding_among old u
    undone new given u =
        given u ∙ ap₂ (λ h rest. cond (nat_eq t u) h rest)
        (ap (λ h. changed_by h (Release l m)) taken_here ∙ as_before (holding_among old t) l within m accepted) (taken u)
        ∙ by (nat_eq t u) refl
      where
        by : (b : Bool) → nat_eq t u ≡ b → cond b (holding_among old t) (cond b (changed_by (holding_among old t) (Acquire l m)) (holding_among old u)) ≡ holding_among old u
        by true same = ap (holding_among old) (eqb-true t u same)
        by false same = refl
