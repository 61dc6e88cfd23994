-- Which tag is found, by what the reads and the write find.
use Rattle.std.proofs.Common.{◌≡◌, ◌∙◌, ◌^◌, ◌&&◌, ℕ, Bool, true, false, ◌||◌, nat_lt, cond, List, [], ◌++◌, is_some, Option, Some, None, refl, sym, ap}
use Rattle.std.proofs.lemmas.List.Folds.{find-append}
use Rattle.std.specs.List.{find, list_any}
use Rattle.std.specs.Option.{option_map, option_or, option_to_list}
use Rattle.er_event.specs.declared.steps.Kind.{Kind}
use Rattle.er_event.specs.declared.steps.Kind.TheVariants.{Read as reading, Write as writing}
use Rattle.er_order.specs.Following.{is_unordered}
use Rattle.er_order.specs.Keeping.{IsNoted}
use Rattle.er_order.proofs.Keeping.{any-found}
use Rattle.er_epochs.specs.declared.reads.Tagged.{Tagged}
use Rattle.er_epochs.specs.Epochs.{Stored, Accesses, Told, Alone, Listed, tag_found, tagged, access_in, pair_of, is_apart, some_apart, is_raced, latest_by, stored_by, reads_beside, rivals_of, tag_of_first, IsStoredBy}
use Rattle.er_epochs.specs.Words.{Said, stored_with}

module _ {A : Type 0} (clock : ℕ → ℕ) where
  or_tag : (o p : Option (Tagged A)) → option_map (λ access. access.tag) (option_or o p) ≡ option_or (option_map (λ access. access.tag) o) (option_map (λ access. access.tag) p)
  or_tag None p = refl
  or_tag (Some access) p = refl

  parts : (reads writes : List (Tagged A)) → tag_of_first clock (reads ++ writes) ≡ option_or (tag_of_first clock reads) (tag_of_first clock writes)
  parts reads writes = ap (option_map (λ access. access.tag)) (find-append (is_apart clock) reads writes) ∙ or_tag (find (is_apart clock) reads) (find (is_apart clock) writes)

  pub found-read : (reads writes : List (Tagged A)) (a : A) → tag_of_first clock reads ≡ Some a → Some a ≡ tag_of_first clock (reads ++ writes)
  found-read reads writes a is = sym (parts reads writes ∙ ap (λ o. option_or o (tag_of_first clock writes)) is)

  pub found-write : (reads writes : List (Tagged A)) → tag_of_first clock reads ≡ None → tag_of_first clock writes ≡ tag_of_first clock (reads ++ writes)
  found-write reads writes none = sym (parts reads writes ∙ ap (λ o. option_or o (tag_of_first clock writes)) none)

-- an access of a thread's number and its count
pub apart_in : {A : Type 0} (clock : ℕ → ℕ) (number count : ℕ) (tag : A) → some_apart clock (access_in number count tag) ≡ (nat_lt number (2 ^ 30) && is_unordered clock (number, count))
apart_in {A} clock number count tag = by (nat_lt number (2 ^ 30))
  where
    by : (b : Bool) → some_apart clock (cond b (Some (tagged {A = A} number count tag)) None) ≡ (b && is_unordered clock (number, count))
    by true = refl
    by false = refl

pub found_in : {A : Type 0} (clock : ℕ → ℕ) (number count : ℕ) (tag : A) → tag_of_first clock (option_to_list (access_in number count tag)) ≡ cond (nat_lt number (2 ^ 30) && is_unordered clock (number, count)) (Some tag) None
found_in {A} clock number count tag = by (nat_lt number (2 ^ 30)) (is_unordered clock (number, count)) refl
  where
    by : (b c : Bool) → is_unordered clock (number, count) ≡ c → tag_of_first clock (option_to_list (cond b (Some (tagged {A = A} number count tag)) None)) ≡ cond (b && is_unordered clock (number, count)) (Some tag) None
    by true true is = rw is refl
    by true false is = rw is refl
    by false c is = refl

none_if : {X : Type 0} (o : Option X) → is_some o ≡ false → None ≡ o
none_if None is = refl
none_if (Some x) is = cc

or_true : (b : Bool) → (b || true) ≡ true
or_true true = refl
or_true false = refl

module _ {A : Type 0} (clock : ℕ → ℕ) where
  told_by : (stored : Stored A) (x : Tagged A) (kind : Kind) → is_raced clock stored kind ≡ true → stored_by clock stored x kind ≡ Told
  told_by Told x kind raced = refl
  told_by (Accesses latest) x kind raced = ap (λ b. cond b Told (Accesses (latest_by clock latest x kind))) raced

  some_tag : (o : Option (Tagged A)) (a : A) → option_map (λ access. access.tag) o ≡ Some a → is_some o ≡ true
  some_tag (Some x) a is = refl
  some_tag None a is = cc

  none_tag : (o : Option (Tagged A)) → option_map (λ access. access.tag) o ≡ None → is_some o ≡ false
  none_tag (Some x) is = cc
  none_tag None is = refl

  one_if : (y : Tagged A) (b : Bool) → is_some (cond b (Some y) None) ≡ (b || false)
  one_if y true = refl
  one_if y false = refl

  one : (o : Option (Tagged A)) → is_some (find (is_apart clock) (option_to_list o)) ≡ (some_apart clock o || false)
  one None = refl
  one (Some y) = one_if y (is_apart clock y)

  some_mapped : (o : Option (Tagged A)) → is_some (option_map (λ access. access.tag) o) ≡ is_some o
  some_mapped None = refl
  some_mapped (Some x) = refl

  -- an access is reported exactly if it finds something
  pub some_raced : (stored : Stored A) (kind : Kind) → is_some (tag_found clock stored kind) ≡ is_raced clock stored kind
  some_raced Told kind = refl
  some_raced (Accesses latest) reading = some_mapped (find (is_apart clock) (option_to_list latest.write)) ∙ one latest.write
  some_raced (Accesses latest) writing =
      some_mapped (find (is_apart clock) (latest.reads ++ option_to_list latest.write))
      ∙ ap is_some (find-append (is_apart clock) latest.reads (option_to_list latest.write))
      ∙ by (find (is_apart clock) latest.reads) refl
    where
      by : (o : Option (Tagged A)) → find (is_apart clock) latest.reads ≡ o
          → is_some (option_or (find (is_apart clock) latest.reads) (find (is_apart clock) (option_to_list latest.write))) ≡ (some_apart clock latest.write || list_any (is_apart clock) latest.reads)
      by (Some x) e =
          ap (λ o. is_some (option_or o (find (is_apart clock) (option_to_list latest.write)))) e
          ∙ sym (ap (λ b. some_apart clock latest.write || b) (any-found (is_apart clock) latest.reads ∙ ap is_some e) ∙ or_true (some_apart clock latest.write))
      by None e =
          ap (λ o. is_some (option_or o (find (is_apart clock) (option_to_list latest.write)))) e
          ∙ (one latest.write ∙ sym (ap (λ b. some_apart clock latest.write || b) (any-found (is_apart clock) latest.reads ∙ ap is_some e)))

  pub quiet_found : (stored : Stored A) (kind : Kind) → is_raced clock stored kind ≡ false → None ≡ tag_found clock stored kind
  quiet_found stored kind quiet = none_if (tag_found clock stored kind) (some_raced stored kind ∙ quiet)

  -- a word that has no list says the same beside any
  pub alone_any : (word : Said A) (o : Option (Tagged A)) (a b : List (Tagged A)) → word.readers ≡ Alone o → stored_with word a ≡ stored_with word b
  alone_any word o a b alone = rw alone refl

  -- of a word of which no race was reported, the accesses that are kept are looked at
  pub untold_found : (word : Said A) (listed : List (Tagged A)) (kind : Kind) → word.told ≡ false
      → tag_of_first clock (rivals_of (record { write = word.write; reads = reads_beside word.readers listed }) kind) ≡ tag_found clock (stored_with word listed) kind
  untold_found word listed kind told = rw told refl

  -- a word of which no race was reported goes on by a write that makes no race
  pub quiet_written : (word : Said A) (listed : List (Tagged A)) (x : Tagged A) → word.told ≡ false → is_raced clock (stored_with word listed) writing ≡ false
      → stored_by clock (stored_with word listed) x writing ≡ Accesses (record { write = Some x; reads = [] })
  quiet_written word listed x told quiet = rw told (ap (λ b. cond b Told (Accesses (record { write = Some x; reads = [] }))) (rw told at quiet))

  -- a word of which no race was reported, whose last write the clock covers, and whose reads were put into a list
  module _ (word : Said A) (before gathered : List (Tagged A)) (quiet : word.told ≡ false) (ordered : some_apart clock word.write ≡ false) (is : gathered ≡ reads_beside word.readers before) where
    raced_any : is_raced clock (stored_with word before) writing ≡ is_some (find (is_apart clock) gathered)
    raced_any = rw (quiet, ordered, ← is) (any-found (is_apart clock) gathered)

    listed_raced : (a : A) → tag_of_first clock gathered ≡ Some a → is_raced clock (stored_with word before) writing ≡ true
    listed_raced a some = raced_any ∙ some_tag (find (is_apart clock) gathered) a some

    listed_quiet : tag_of_first clock gathered ≡ None → is_raced clock (stored_with word before) writing ≡ false
    listed_quiet none = raced_any ∙ none_tag (find (is_apart clock) gathered) none

    pub listed_told : (x : Tagged A) (a : A) → tag_of_first clock gathered ≡ Some a → stored_by clock (stored_with word before) x writing ≡ Told
    listed_told x a some = told_by (stored_with word before) x writing (listed_raced a some)

    pub listed_written : (x : Tagged A) → tag_of_first clock gathered ≡ None → stored_by clock (stored_with word before) x writing ≡ Accesses (record { write = Some x; reads = [] })
    listed_written x none = quiet_written word before x quiet (listed_quiet none)

    pub listed_read : (x : Tagged A) (noted : List (Tagged A)) → IsNoted pair_of clock gathered x noted
        → IsStoredBy clock (stored_with word before) x reading (stored_with (record { told = word.told; write = word.write; readers = Listed }) noted)
    listed_read x noted may = rw (quiet, ordered) (noted, refl, rw is at may)

    pub listed_found : (a : A) → tag_of_first clock gathered ≡ Some a → Some a ≡ tag_found clock (stored_with word before) writing
    listed_found a some = rw (quiet, ← is) (found-read clock gathered (option_to_list word.write) a some)

    pub listed_none : tag_of_first clock gathered ≡ None → None ≡ tag_found clock (stored_with word before) writing
    listed_none none = quiet_found (stored_with word before) writing (listed_quiet none)

    pub read_none : None ≡ tag_found clock (stored_with word before) reading
    read_none = quiet_found (stored_with word before) reading (rw (quiet, ordered) refl)
