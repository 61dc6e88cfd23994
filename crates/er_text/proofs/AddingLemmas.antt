-- Names and steps that a line adds.
use Rattle.std.proofs.Common.{◌≡◌, ℕ, suc, ◌+◌, ◌<◌, ◌≤◌, Bool, true, false, not, ◌||◌, cond, List, [], ◌∷◌, ◌++◌, length, map, refl, sym, ap, ◌∙◌, arith, add-one, append_assoc, append-nil, length-append, Option, Some, None}
use Rattle.std.specs.List.{list_any, position_or_len}
use Rattle.std.specs.Str.{bytes_eq}
use Rattle.std.proofs.lemmas.List.{map-append}
use Rattle.er_trace.specs.Names.{is_known, number_of, with_name}
use Rattle.er_event.specs.Span.{Span, parts_below, part_of}
use Rattle.er_trace.specs.Trace.{Recording, with_step, with_thread_name, with_lock_name}
use Rattle.er_event.specs.declared.addresses.PageRange.{PageRange}
use Rattle.er_event.specs.declared.steps.Step.{Step}
use Rattle.er_event.specs.declared.steps.Event.TheVariants.{Reuse}
use Rattle.er_text.specs.Events.{with_reuses, site_number, with_site_of}

place_le : {X : Type 0} (p : X → Bool) (xs : List X) → position_or_len p xs ≤ length xs
place_le p [] = omega arith
place_le p (x ∷ xs) =
    let more = place_le p xs in
    elim (p x) as (λ b. cond (not b) (1 + position_or_len p xs) 0 ≤ suc (length xs)) [ true ↦ omega arith | false ↦ omega (arith, more) ]

place_step : {X : Type 0} (p : X → Bool) (x : X) (xs : List X) (b : Bool) → (list_any p xs ≡ true → position_or_len p xs < length xs) → (b || list_any p xs) ≡ true
    → cond (not b) (1 + position_or_len p xs) 0 < suc (length xs)
place_step p x xs true more e = omega arith
place_step p x xs false more e = let inner = more e in omega (arith, inner)

place_below : {X : Type 0} (p : X → Bool) (xs : List X) → list_any p xs ≡ true → position_or_len p xs < length xs
place_below p [] e = absurd (cc)
place_below p (x ∷ xs) e = place_step p x xs (p x) (place_below p xs) e

numbered : (names : List (List ℕ)) (name : List ℕ) (b : Bool) → is_known names name ≡ b → number_of names name < length (cond b names (names ++ name ∷ []))
numbered names name true e = place_below (bytes_eq name) names e
numbered names name false e =
    let more = length-append names (name ∷ []) in
    let most = place_le (bytes_eq name) names in
    omega (arith, more, most)

-- a name that has appeared has a number
pub number_below : (names : List (List ℕ)) (name : List ℕ) → number_of names name < length (with_name names name)
number_below names name = numbered names name (is_known names name) refl

pub mapped_more : {X Y : Type 0} (f : X → Y) (ys : List Y) (xs : List X) (x : X) → (ys ++ map f xs) ++ f x ∷ [] ≡ ys ++ map f (xs ++ x ∷ [])
mapped_more f ys xs x = append_assoc ys (map f xs) (f x ∷ []) ∙ ap (λ t. ys ++ t) (sym (map-append f xs (x ∷ [])))

parts_more : (s : Span) (i : ℕ) → parts_below s (i + 1) ≡ parts_below s i ++ part_of s i ∷ []
unfolding parts_below
parts_more s i = rw (add-one i) refl

-- the step of one more page
pub one_more_part : (r t : Recording) (line thread site : ℕ) (s : Span) (i : ℕ) → t ≡ with_reuses r line thread site (parts_below s i)
    → with_step t (record { thread = thread; event = Reuse (part_of s i) }) line site ≡ with_reuses r line thread site (parts_below s (i + 1))
one_more_part r t line thread site s i e =
    let f : PageRange → Step = λ part. record { thread = thread; event = Reuse part } in
    let g : PageRange → ℕ = λ part. line in
    let h : PageRange → ℕ = λ part. site in
    let xs = parts_below s i in
    ap (λ (u : Recording). with_step u (f (part_of s i)) line site) e
    ∙ (rw (mapped_more f r.steps xs (part_of s i), mapped_more g r.lines xs (part_of s i), mapped_more h r.sites xs (part_of s i))
    (ap (with_reuses r line thread site) (sym (parts_more s i))))

pub no_part : (r : Recording) (line thread site : ℕ) (s : Span) → r ≡ with_reuses r line thread site (parts_below s 0)
unfolding parts_below
no_part r line thread site s = rw (append-nil, append-nil, append-nil) refl

pub thread_named : (r s : Recording) (name : List ℕ) (thread : ℕ) → thread ≡ number_of r.names.threads name → s ≡ with_thread_name r name → thread < length s.names.threads
thread_named r s name thread n e = rw (e, n) (number_below r.names.threads name)

pub lock_named : (r s : Recording) (name : List ℕ) (lock thread : ℕ) → thread < length r.names.threads → lock ≡ number_of r.names.locks name → s ≡ with_lock_name r name
    → (thread < length s.names.threads) × (lock < length s.names.locks)
lock_named r s name lock thread known n e = rw (e, n) (known, number_below r.names.locks name)

kept_below : (names : List (List ℕ)) (name : List ℕ) (n : ℕ) (b : Bool) → n < length names → n < length (cond b names (names ++ name ∷ []))
kept_below names name n true known = known
kept_below names name n false known = let more = length-append names (name ∷ []) in omega (arith, more, known)

pub other_named : (r s : Recording) (name : List ℕ) (other thread : ℕ) → thread < length r.names.threads → other ≡ number_of r.names.threads name → s ≡ with_thread_name r name
    → (thread < length s.names.threads) × (other < length s.names.threads)
other_named r s name other thread known n e = rw (e, n) (kept_below r.names.threads name thread (is_known r.names.threads name) known, number_below r.names.threads name)

pub site_named : (r s : Recording) (name : Option (List ℕ)) (site thread : ℕ) → thread < length r.names.threads → site ≡ site_number r name → s ≡ with_site_of r name
    → (thread < length s.names.threads) × (site ≤ length s.names.sites)
site_named r s None site thread known n e = rw (e, n) (known, omega arith)
site_named r s (Some name) site thread known n e = let less = number_below r.names.sites name in rw (e, n) (known, omega (arith, less))
