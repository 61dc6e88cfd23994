-- An owner's own sets keep their locks while more come, and each is found by its hash.
use Rattle.std.proofs.Common.{◌≡◌, ◌∙◌, ℕ, zero, suc, ◌+◌, ◌-◌, ◌<◌, ◌≤◌, Bool, true, false, cond, nat_eq, List, [], ◌∷◌, ◌++◌, map, length, get_or, drop, Option, Some, refl, sym, ap, subst, arith, below_more, eq-eqb, length-append}
use Rattle.std.specs.List.{slice_range}
use Rattle.std.specs.List.Sorted.{IsStrictlyIncreasing}
use Rattle.std.specs.Option.{unwrap_or}
use Rattle.std.proofs.lemmas.Bool.{eqb-true}
use Rattle.std.proofs.lemmas.List.{map-append, length-map, get_or-map, get_or_append_left, take-append-le}
use Rattle.std.proofs.lemmas.Slice.{between_is, between_to_end}
use Rattle.std.proofs.Math.Seq.{get_or-append_seam, drop-append_seam}
use Rattle.er_keys.specs.declared.number_hasher.NumberHasher.{NumberHasher}
use Rattle.er_table.specs.Sets.{set_at}
use Rattle.er_table.specs.Owned.{AreChained, AreLaid, cut, hash_by}
use Rattle.er_table.specs.declared.store.Span.{Span}

-- the set at a place lies in the span there
pub cut-at : (locks : List ℕ) (spans : List Span) (p : ℕ) (span : Span) → p < length spans → span ≡ get_or spans p span
    → slice_range locks span.start span.end ≡ set_at (cut locks spans) p
cut-at locks spans p span within is = ap (λ (s : Span). slice_range locks s.start s.end) is ∙ sym (get_or-map (λ (s : Span). slice_range locks s.start s.end) spans p span [] within)

pub cut-within : (locks : List ℕ) (spans : List Span) (sets : List (List ℕ)) (p : ℕ) → cut locks spans ≡ sets → p < length sets → p < length spans
cut-within locks spans sets p is within =
    let same = ap length is in
    let all = length-map spans (λ (s : Span). slice_range locks s.start s.end) in
    omega (arith, same, all, within)

pub older-at : (spans : List Span) (p : ℕ) (span : Span) → p < length spans → span ≡ get_or spans p span → span.older ≡ get_or (map (λ (s : Span). s.older) spans) p 0
older-at spans p span within is = ap (λ (s : Span). s.older) is ∙ sym (get_or-map (λ (s : Span). s.older) spans p span 0 within)

-- what lies in the spans stays when locks come behind
slice-more : (locks more : List ℕ) (start end : ℕ) → end ≤ length locks → slice_range (locks ++ more) start end ≡ slice_range locks start end
slice-more locks more start end within = between_is (locks ++ more) start end ∙ (ap (drop start) (take-append-le end locks more within) ∙ sym (between_is locks start end))

cut-more : (locks more : List ℕ) (spans : List Span) → ((p : ℕ) (d : Span) → p < length spans → (get_or spans p d).end ≤ length locks) → cut (locks ++ more) spans ≡ cut locks spans
cut-more locks more [] ends = refl
cut-more locks more (s ∷ ss) ends =
    let first = slice-more locks more s.start s.end (ends 0 s (omega arith)) in
    let rest = cut-more locks more ss (λ p d within. ends (suc p) d (omega (arith, within))) in
    λ i. first i ∷ rest i

module _ (count : ℕ) (key older newest key2 older2 newest2 : ℕ → ℕ) (h : ℕ) (was : AreChained count key older newest)
    (keys : (p : ℕ) → p < count → key2 p ≡ key p) (last : key2 count ≡ h) (olders : (p : ℕ) → p < count → older2 p ≡ older p) (before : older2 count ≡ newest h)
    (now : (k : ℕ) → newest2 k ≡ cond (nat_eq h k) (count + 1) (newest k)) where
  within : (k : ℕ) → newest2 k ≤ count + 1
  within k = subst (λ n. n ≤ count + 1) (sym (now k)) (by (nat_eq h k))
    where
      by : (b : Bool) → cond b (count + 1) (newest k) ≤ count + 1
      by true = omega arith
      by false = omega (arith, was.newest_within k)

  named : (k : ℕ) → 0 < newest2 k → key2 (newest2 k - 1) ≡ k
  named k = subst (λ n. 0 < n → key2 (n - 1) ≡ k) (sym (now k)) (by (nat_eq h k) refl)
    where
      by : (b : Bool) → nat_eq h k ≡ b → 0 < cond b (count + 1) (newest k) → key2 (cond b (count + 1) (newest k) - 1) ≡ k
      by true same some =
          let back : count + 1 - 1 ≡ count = omega arith in
          ap key2 back ∙ (last ∙ eqb-true h k same)
      by false apart some = keys (newest k - 1) (omega (arith, some, was.newest_within k)) ∙ was.newest_key k some

  at_once : (p : ℕ) → p < count + 1 → p < newest2 (key2 p)
  at_once = below_more (λ p. p < newest2 (key2 p)) count old new
    where
      new : count < newest2 (key2 count)
      new = subst (λ n. count < n) (sym (now (key2 count))) (subst (λ b. count < cond b (count + 1) (newest (key2 count))) (sym (eq-eqb h (key2 count) (sym last))) (omega arith))

      old : (p : ℕ) → p < count → p < newest2 (key2 p)
      old p below = subst (λ k. p < newest2 k) (sym (keys p below)) (subst (λ n. p < n) (sym (now (key p))) (by (nat_eq h (key p))))
        where
          by : (b : Bool) → p < cond b (count + 1) (newest (key p))
          by true = omega (arith, below)
          by false = was.newest_first p below

  pub AreChained-push : AreChained (count + 1) key2 older2 newest2
  AreChained-push = record {
    newest_within = within;
    newest_key = named;
    newest_first = at_once;
    older_within = below_more (λ q. older2 q ≤ q) count (λ q below. subst (λ n. n ≤ q) (sym (olders q below)) (was.older_within q below)) (subst (λ n. n ≤ count) (sym before) (was.newest_within h));
    older_key = below_more (λ q. 0 < older2 q → key2 (older2 q - 1) ≡ key2 q) count
        (λ q below. subst (λ n. 0 < n → key2 (n - 1) ≡ key2 q) (sym (olders q below)) (λ some. keys (older q - 1) (omega (arith, was.older_within q below, below, some)) ∙ (was.older_key q below some ∙ sym (keys q below))))
        (subst (λ n. 0 < n → key2 (n - 1) ≡ key2 count) (sym before) (λ some. keys (newest h - 1) (omega (arith, was.newest_within h, some)) ∙ (was.newest_key h some ∙ sym last)));
    older_next = λ p q less below same. below_more (λ q. p < q → key2 p ≡ key2 q → p < older2 q) count
        (λ q below less same. subst (λ n. p < n) (sym (olders q below)) (was.older_next p q less below (sym (keys p (omega (arith, less, below))) ∙ (same ∙ keys q below))))
        (λ less same. subst (λ n. p < n) (sym before) (subst (λ k. p < newest k) (sym (keys p less) ∙ (same ∙ last)) (was.newest_first p less)))
        q below less same;
  }

-- a list that was mapped, with one more
map-left : {X Y : Type 0} (f : X → Y) (xs : List X) (x : X) (e : Y) (p : ℕ) → p < length xs → get_or (map f (xs ++ x ∷ [])) p e ≡ get_or (map f xs) p e
map-left f [] x e p below = absurd (omega (arith, below))
map-left f (y ∷ ys) x e zero below = refl
map-left f (y ∷ ys) x e (suc p) below = map-left f ys x e p (omega (arith, below))

map-last : {X Y : Type 0} (f : X → Y) (xs : List X) (x : X) (e : Y) → get_or (map f (xs ++ x ∷ [])) (length xs) e ≡ f x
map-last f [] x e = refl
map-last f (y ∷ ys) x e = map-last f ys x e

-- one more set behind the others
module _ (locks : List ℕ) (spans : List Span) (set : List ℕ) (span : Span) (ends : (p : ℕ) (d : Span) → p < length spans → (get_or spans p d).end ≤ length locks)
    (start : span.start ≡ length locks) (end : span.end ≡ length (locks ++ set)) where
  last : slice_range (locks ++ set) span.start span.end ≡ set
  last = (λ i. slice_range (locks ++ set) (start i) (end i)) ∙ (between_to_end (locks ++ set) (length locks) (length (locks ++ set)) (omega arith) ∙ drop-append_seam locks set)

  pub cut-push : cut (locks ++ set) (spans ++ span ∷ []) ≡ cut locks spans ++ set ∷ []
  cut-push = map-append (λ (s : Span). slice_range (locks ++ set) s.start s.end) spans (span ∷ []) ∙ (λ i. cut-more locks set spans ends i ++ last i ∷ [])

  set_at-left : (p : ℕ) → p < length spans → set_at (cut (locks ++ set) (spans ++ span ∷ [])) p ≡ set_at (cut locks spans) p
  set_at-left p below = map-left (λ (s : Span). slice_range (locks ++ set) s.start s.end) spans span [] p below ∙ ap (λ sets. set_at sets p) (cut-more locks set spans ends)

  set_at-last : set_at (cut (locks ++ set) (spans ++ span ∷ [])) (length spans) ≡ set
  set_at-last = map-last (λ (s : Span). slice_range (locks ++ set) s.start s.end) spans span [] ∙ last

module _ (hasher : NumberHasher) (locks : List ℕ) (spans : List Span) (newest newest2 : ℕ → Option ℕ) (set : List ℕ) (h : ℕ) (span : Span)
    (laid : AreLaid hasher locks spans newest) (hash : h ≡ hash_by hasher set) (rises : IsStrictlyIncreasing set)
    (start : span.start ≡ length locks) (end : span.end ≡ length (locks ++ set)) (older : span.older ≡ unwrap_or (newest h) 0)
    (now : (k : ℕ) → newest2 k ≡ cond (nat_eq h k) (Some (length spans + 1)) (newest k)) where
  found : (k : ℕ) → unwrap_or (newest2 k) 0 ≡ cond (nat_eq h k) (length spans + 1) (unwrap_or (newest k) 0)
  found k = ap (λ o. unwrap_or o 0) (now k) ∙ by (nat_eq h k)
    where
      by : (b : Bool) → unwrap_or (cond b (Some (length spans + 1)) (newest k)) 0 ≡ cond b (length spans + 1) (unwrap_or (newest k) 0)
      by true = refl
      by false = refl

  chained : AreChained (length spans + 1) (λ p. hash_by hasher (set_at (cut (locks ++ set) (spans ++ span ∷ [])) p)) (λ p. get_or (map (λ (s : Span). s.older) (spans ++ span ∷ [])) p 0) (λ k. unwrap_or (newest2 k) 0)
  chained = AreChained-push (length spans) (λ p. hash_by hasher (set_at (cut locks spans) p)) (λ p. get_or (map (λ (s : Span). s.older) spans) p 0) (λ k. unwrap_or (newest k) 0)
      (λ p. hash_by hasher (set_at (cut (locks ++ set) (spans ++ span ∷ [])) p)) (λ p. get_or (map (λ (s : Span). s.older) (spans ++ span ∷ [])) p 0) (λ k. unwrap_or (newest2 k) 0) h laid.chained
      (λ p below. ap (hash_by hasher) (set_at-left locks spans set span laid.ends start end p below)) (ap (hash_by hasher) (set_at-last locks spans set span laid.ends start end) ∙ sym hash)
      (λ p below. map-left (λ (s : Span). s.older) spans span 0 p below) (map-last (λ (s : Span). s.older) spans span 0 ∙ older) found

  pub AreLaid-push : AreLaid hasher (locks ++ set) (spans ++ span ∷ []) newest2
  AreLaid-push =
      let longer : length (spans ++ span ∷ []) ≡ length spans + 1 = length-append spans (span ∷ []) in
      let room = length-append locks set in
      record {
        starts = λ p d within. below_more (λ p. (get_or (spans ++ span ∷ []) p d).start ≤ (get_or (spans ++ span ∷ []) p d).end) (length spans)
            (λ p below. subst (λ (s : Span). s.start ≤ s.end) (sym (get_or_append_left spans (span ∷ []) d p below)) (laid.starts p d below))
            (subst (λ (s : Span). s.start ≤ s.end) (sym (get_or-append_seam spans span [] d)) (omega (arith, start, end, room))) p (omega (arith, within, longer));
        ends = λ p d within. below_more (λ p. (get_or (spans ++ span ∷ []) p d).end ≤ length (locks ++ set)) (length spans)
            (λ p below. subst (λ (s : Span). s.end ≤ length (locks ++ set)) (sym (get_or_append_left spans (span ∷ []) d p below)) (omega (arith, laid.ends p d below, room)))
            (subst (λ (s : Span). s.end ≤ length (locks ++ set)) (sym (get_or-append_seam spans span [] d)) (omega (arith, end))) p (omega (arith, within, longer));
        rising = λ p within. below_more (λ p. IsStrictlyIncreasing (set_at (cut (locks ++ set) (spans ++ span ∷ [])) p)) (length spans)
            (λ p below. subst IsStrictlyIncreasing (sym (set_at-left locks spans set span laid.ends start end p below)) (laid.rising p below))
            (subst IsStrictlyIncreasing (sym (set_at-last locks spans set span laid.ends start end)) rises) p (omega (arith, within, longer));
        chained = subst (λ n. AreChained n (λ p. hash_by hasher (set_at (cut (locks ++ set) (spans ++ span ∷ [])) p)) (λ p. get_or (map (λ (s : Span). s.older) (spans ++ span ∷ [])) p 0) (λ k. unwrap_or (newest2 k) 0)) (sym longer) chained;
      }
