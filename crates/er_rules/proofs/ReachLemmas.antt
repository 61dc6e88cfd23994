-- The end at a word while borders are added one by one.
use Rattle.std.proofs.Common.{◌≡◌, ◌∙◌, ℕ, suc, ◌+◌, ◌-◌, ◌≤◌, ◌<◌, Bool, true, false, cond, List, [], ◌∷◌, ◌++◌, length, take, drop, get_or, slice_index_or, nat_le, max, ◌⊎◌, inl, inr, refl, sym, ap, subst, arith, take-append-drop}
use Rattle.std.proofs.lemmas.List.{take_more, get_or_append_left, get_or_push, get_or-drop, length-drop, length_push}
use Rattle.std.proofs.lemmas.List.Sorted.{IsNonDecreasingBy-push}
use borrow.Author.Tests.{leb-true, le-leb, lt-leb}
use Rattle.er_rules.specs.declared.reach.Border.{Border}
use Rattle.er_rules.specs.Inner.Reach.{end_from, end_at, no_border, word_at, AreInOrder, IsOverlaid}

end_from-append : (before : ℕ) (xs ys : List Border) (w : ℕ) → end_from before (xs ++ ys) w ≡ end_from (end_from before xs w) ys w
unfolding end_from
end_from-append before [] ys w = refl
end_from-append before (x ∷ xs) ys w = end_from-append (cond (nat_le x.word w) x.end before) xs ys w

pub end_at-none : (w : ℕ) → end_at [] w ≡ 0
unfolding end_from
end_at-none w = refl

pub end_at-push : (xs : List Border) (b : Border) (w : ℕ) → end_at (xs ++ b ∷ []) w ≡ cond (nat_le b.word w) b.end (end_at xs w)
unfolding end_from
end_at-push xs b w = end_from-append 0 xs (b ∷ []) w

-- borders behind a word don't count there
end_from-behind : (before : ℕ) (xs : List Border) (w : ℕ) → ((k : ℕ) → k < length xs → w < word_at xs k) → end_from before xs w ≡ before
unfolding end_from
end_from-behind before [] w behind = refl
end_from-behind before (x ∷ xs) w behind =
    let here : nat_le x.word w ≡ false = lt-leb x.word w (behind 0 (omega arith)) in
    let more : (k : ℕ) → k < length xs → w < word_at xs k = λ k within. behind (suc k) (omega arith) in
    ap (λ b. end_from (cond b x.end before) xs w) here ∙ end_from-behind before xs w more

behind_from : (xs : List Border) (w n : ℕ) → ((k : ℕ) → n ≤ k → k < length xs → w < word_at xs k) → (k : ℕ) → k < length (drop n xs) → w < word_at (drop n xs) k
behind_from xs w n behind k within =
    let size = length-drop n xs in
    subst (λ (b : Border). w < b.word) (sym (get_or-drop n xs k no_border)) (behind (n + k) (omega arith) (omega (arith, size)))

-- the borders up to a word are the first n of them
up_to : (xs : List Border) (w n : ℕ) → ((k : ℕ) → n ≤ k → k < length xs → w < word_at xs k) → end_at xs w ≡ end_at (take n xs) w
up_to xs w n behind =
    ap (λ ys. end_at ys w) (sym (take-append-drop n xs)) ∙ (end_from-append 0 (take n xs) (drop n xs) w ∙ end_from-behind (end_at (take n xs) w) (drop n xs) w (behind_from xs w n behind))

pub end_at-before_all : (xs : List Border) (w n : ℕ) → n ≡ 0 → ((k : ℕ) → n ≤ k → k < length xs → w < word_at xs k) → end_at xs w ≡ 0
end_at-before_all xs w n none behind = up_to xs w n behind ∙ (ap (λ m. end_at (take m xs) w) none ∙ end_at-none w)

pub end_at-last : (xs : List Border) (w n : ℕ) → 0 < n → n ≤ length xs → ((k : ℕ) → k < n → word_at xs k ≤ w) → ((k : ℕ) → n ≤ k → k < length xs → w < word_at xs k)
    → (slice_index_or xs (n - 1) no_border).end ≡ end_at xs w
end_at-last xs w n some within before behind = sym (up_to xs w n behind ∙ (ap (λ m. end_at (take m xs) w) one_more ∙ (ap (λ ys. end_at ys w) (take_more xs (n - 1) no_border (omega arith))
    ∙ (end_at-push (take (n - 1) xs) (get_or xs (n - 1) no_border) w ∙ ap (λ b. cond b (get_or xs (n - 1) no_border).end (end_at (take (n - 1) xs) w)) (le-leb (word_at xs (n - 1)) w (before (n - 1) (omega arith)))))))
  where
    one_more : n ≡ (n - 1) + 1
    one_more = omega arith

-- no border yet
pub overlaid-none : (first second borders : List Border) → borders ≡ [] → IsOverlaid first second borders 0 0 0 0 0
overlaid-none first second borders none = subst (λ bs. IsOverlaid first second bs 0 0 0 0 0) (sym none) (record {
  i_within = omega arith;
  j_within = omega arith;
  both = λ w. end_at-none w ∙ sym (λ k. max (end_at-none w k) (end_at-none w k));
  earlier_is = λ w at. end_at-none w;
  later_is = λ w at. end_at-none w;
  first_next = λ some. omega arith;
  second_next = λ some. omega arith;
  order = λ i j d within short. absurd (omega (arith, short));
  most = λ k d short. absurd (omega (arith, short));
})

-- one more border of a list
end_at-more : (xs : List Border) (i w : ℕ) → i < length xs → end_at (take (i + 1) xs) w ≡ cond (nat_le (word_at xs i) w) (get_or xs i no_border).end (end_at (take i xs) w)
end_at-more xs i w within = ap (λ ys. end_at ys w) (take_more xs i no_border within) ∙ end_at-push (take i xs) (get_or xs i no_border) w

in_order_more : (borders : List Border) (b : Border) (bound : ℕ) → AreInOrder borders → ((k : ℕ) (d : Border) → k < length borders → (slice_index_or borders k d).word ≤ bound) → bound ≤ b.word → AreInOrder (borders ++ b ∷ [])
in_order_more borders b bound order most next = IsNonDecreasingBy-push (λ (x : Border). x.word) borders b order (λ d some. omega (arith, most (length borders - 1) d (omega arith)))

most_more : (borders : List Border) (b : Border) (bound : ℕ) → ((k : ℕ) (d : Border) → k < length borders → (slice_index_or borders k d).word ≤ bound) → bound ≤ b.word
    → (k : ℕ) (d : Border) → k < length (borders ++ b ∷ []) → (slice_index_or (borders ++ b ∷ []) k d).word ≤ b.word
most_more borders b bound most next k d within = by (cases k (length borders) (omega (arith, length_push borders b)))
  where
    cases : (m n : ℕ) → m < n + 1 → (m < n) ⊎ (n ≡ m)
    cases m n less = grind arith

    by : (k < length borders) ⊎ (length borders ≡ k) → (slice_index_or (borders ++ b ∷ []) k d).word ≤ b.word
    by (inl short) = subst (λ (x : Border). x.word ≤ b.word) (sym (get_or_append_left borders (b ∷ []) d k short)) (omega (arith, most k d short))
    by (inr last) = subst (λ (x : Border). x.word ≤ b.word) (sym (get_or_push borders b d k last)) (omega arith)

module _ (first second borders : List Border) (i j : ℕ) (earlier later : ℕ) (bound : ℕ) (b : Border) (so_far : IsOverlaid first second borders i j earlier later bound) where
  -- the next border is the first list's
  pub overlaid-first : AreInOrder first → i < length first → (j < length second → word_at first i ≤ word_at second j) → b.word ≡ word_at first i → b.end ≡ max (get_or first i no_border).end later
      → IsOverlaid first second (borders ++ b ∷ []) (i + 1) j (get_or first i no_border).end later b.word
  overlaid-first in_order within least word end =
      let next : bound ≤ b.word = omega (arith, so_far.first_next within) in
      record {
        i_within = omega arith;
        j_within = so_far.j_within;
        both = λ w. end_at-push borders b w ∙ (by w (nat_le b.word w) refl ∙ sym (ap (λ (o : ℕ). max o (end_at (take j second) w)) (end_at-more first i w within ∙ ap (λ n. cond (nat_le n w) (get_or first i no_border).end (end_at (take i first) w)) (sym word))));
        earlier_is = λ w at. end_at-more first i w within ∙ ap (λ t. cond t (get_or first i no_border).end (end_at (take i first) w)) (le-leb (word_at first i) w (omega (arith, at, word)));
        later_is = λ w at. so_far.later_is w (omega (arith, at, next));
        first_next = λ more. omega (arith, in_order i (i + 1) no_border (omega arith) more);
        second_next = λ some. omega (arith, least some);
        order = in_order_more borders b bound so_far.order so_far.most next;
        most = most_more borders b bound so_far.most next;
      }
    where
      by : (w : ℕ) (t : Bool) → nat_le b.word w ≡ t → cond t b.end (end_at borders w) ≡ max (cond t (get_or first i no_border).end (end_at (take i first) w)) (end_at (take j second) w)
      by w true here = end ∙ ap (λ o. max (get_or first i no_border).end o) (sym (so_far.later_is w (omega (arith, leb-true b.word w here, so_far.first_next within, word))))
      by w false behind = so_far.both w

  -- the next border is the second list's
  pub overlaid-second : AreInOrder second → j < length second → (i < length first → word_at second j ≤ word_at first i) → b.word ≡ word_at second j → b.end ≡ max earlier (get_or second j no_border).end
      → IsOverlaid first second (borders ++ b ∷ []) i (j + 1) earlier (get_or second j no_border).end b.word
  overlaid-second in_order within least word end =
      let next : bound ≤ b.word = omega (arith, so_far.second_next within) in
      record {
        i_within = so_far.i_within;
        j_within = omega arith;
        both = λ w. end_at-push borders b w ∙ (by w (nat_le b.word w) refl ∙ sym (ap (λ (o : ℕ). max (end_at (take i first) w) o) (end_at-more second j w within ∙ ap (λ n. cond (nat_le n w) (get_or second j no_border).end (end_at (take j second) w)) (sym word))));
        earlier_is = λ w at. so_far.earlier_is w (omega (arith, at, next));
        later_is = λ w at. end_at-more second j w within ∙ ap (λ t. cond t (get_or second j no_border).end (end_at (take j second) w)) (le-leb (word_at second j) w (omega (arith, at, word)));
        first_next = λ some. omega (arith, least some);
        second_next = λ more. omega (arith, in_order j (j + 1) no_border (omega arith) more);
        order = in_order_more borders b bound so_far.order so_far.most next;
        most = most_more borders b bound so_far.most next;
      }
    where
      by : (w : ℕ) (t : Bool) → nat_le b.word w ≡ t → cond t b.end (end_at borders w) ≡ max (end_at (take i first) w) (cond t (get_or second j no_border).end (end_at (take j second) w))
      by w true here = end ∙ ap (λ o. max o (get_or second j no_border).end) (sym (so_far.earlier_is w (omega (arith, leb-true b.word w here, so_far.second_next within, word))))
      by w false behind = so_far.both w

-- the border of one run of words
pub of_words-one : (none one : List Border) (start : Border) (first end : ℕ) → none ≡ [] → one ≡ none ++ start ∷ [] → start.word ≡ first → start.end ≡ end → (w : ℕ) → end_at one w ≡ cond (nat_le first w) end 0
of_words-one none one start first end empty is from to w =
    ap (λ bs. end_at bs w) is ∙ (end_at-push none start w ∙ ((λ k. cond (nat_le (from k) w) (to k) (end_at (empty k) w)) ∙ ap (λ n. cond (nat_le first w) end n) (end_at-none w)))
