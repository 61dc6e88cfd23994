-- A pattern that is taken apart at its stars takes what it takes byte by byte.
use Rattle.std.proofs.Common.{◌≡◌, ◌==◌, ◌∙◌, ℕ, ◌+◌, ◌-◌, ◌<◌, Bool, true, false, ◌&&◌, ◌||◌, cond, position, List, [], ◌∷◌, ◌++◌, length, take, drop, get_or, Option, Some, None, refl, sym, ap, subst, arith, take-append-drop}
use Rattle.std.proofs.lemmas.Bool.Decides.{Decides-eqb}
use Rattle.std.proofs.lemmas.List.{drop-drop, drop_more, get_or_default, get_or-take, length-take-le}
use Rattle.std.proofs.lemmas.List.Folds.{list_any_none}
use Rattle.std.proofs.lemmas.List.Quantifiers.{position-Some}
use Rattle.std.proofs.lemmas.Slice.Eq.{bytes_eq-Decides, ends_is}
use Rattle.std.proofs.Math.Seq.{drop-append_seam}
use Rattle.std.specs.Str.{bytes_eq}
use Rattle.std.specs.List.{list_any}
use borrow.Author.Tests.{eqb-true}
use Rattle.er_rules.specs.Patterns.{star, has_star, takes_end, takes_byte, pattern_takes}
use Rattle.er_rules.proofs.MatchLemmas.{position-cons, later}

pub both_ways : (a b : Bool) → (a ≡ true → b ≡ true) → (b ≡ true → a ≡ true) → a ≡ b
both_ways true true f g = refl
both_ways true false f g = sym (f refl)
both_ways false true f g = g refl
both_ways false false f g = refl

neither : (a b : Bool) → (a || b) ≡ false → (a ≡ false) × (b ≡ false)
neither true b e = absurd (cc)
neither false b e = (refl, e)

both_hold : (a b : Bool) → (a && b) ≡ true → (a ≡ true) × (b ≡ true)
both_hold true b e = (refl, e)
both_hold false b e = absurd (cc)

and-assoc : (a b c : Bool) → (a && (b && c)) ≡ ((a && b) && c)
and-assoc true b c = refl
and-assoc false b c = refl

-- the name begins with the piece
abbrev pub begins : List ℕ → List ℕ → Bool
begins piece name = bytes_eq (take (length piece) name) piece

-- the rest of a pattern that begins with a byte which is no star
byte_front : (byte : ℕ) (pattern name : List ℕ) → (byte == star) ≡ false → pattern_takes (byte ∷ pattern) name ≡ takes_byte byte (pattern_takes pattern) name
unfolding pattern_takes
byte_front byte pattern name plain = ap (λ b. cond b (takes_end (pattern_takes pattern) name) (takes_byte byte (pattern_takes pattern) name)) plain

star_front : (pattern name : List ℕ) → pattern_takes (star ∷ pattern) name ≡ takes_end (pattern_takes pattern) name
unfolding pattern_takes
star_front pattern name = refl

none_front : (name : List ℕ) → pattern_takes [] name ≡ bytes_eq name []
unfolding pattern_takes
none_front [] = refl
none_front (b ∷ bs) = refl

-- a piece stands for itself
pub piece_front : (piece more name : List ℕ) → has_star piece ≡ false → pattern_takes (piece ++ more) name ≡ (begins piece name && pattern_takes more (drop (length piece) name))
piece_front [] more name plain = refl
piece_front (p ∷ ps) more [] plain = byte_front p (ps ++ more) [] (neither (p == star) (has_star ps) plain).0
piece_front (p ∷ ps) more (b ∷ bs) plain =
    let apart = neither (p == star) (has_star ps) plain in
    byte_front p (ps ++ more) (b ∷ bs) apart.0
    ∙ (ap (λ t. b == p && t) (piece_front ps more bs apart.1) ∙ and-assoc (b == p) (begins ps bs) (pattern_takes more (drop (length ps) bs)))

pub piece_whole : (piece name : List ℕ) → has_star piece ≡ false → bytes_eq name piece ≡ pattern_takes piece name
piece_whole [] name plain = sym (none_front name)
piece_whole (p ∷ ps) [] plain = sym (byte_front p ps [] (neither (p == star) (has_star ps) plain).0)
piece_whole (p ∷ ps) (b ∷ bs) plain =
    let apart = neither (p == star) (has_star ps) plain in ap (λ t. b == p && t) (piece_whole ps bs apart.1) ∙ sym (byte_front p ps (b ∷ bs) apart.0)

-- an end that passes, and the bytes in front of it
abbrev HasEnd : (List ℕ → Bool) → List ℕ → Type 0
HasEnd passes name = (front end : List ℕ) × (name ≡ front ++ end) × (passes end ≡ true)

end_cases : (a b : Bool) (passes : List ℕ → Bool) (byte : ℕ) (name : List ℕ) → passes (byte ∷ name) ≡ a → (a || b) ≡ true → (b ≡ true → HasEnd passes name) → HasEnd passes (byte ∷ name)
end_cases true b passes byte name is e more = ([], byte ∷ name, refl, is)
end_cases false b passes byte name is e more = let rest = more e in (byte ∷ rest.0, rest.1, ap (λ (n : List ℕ). byte ∷ n) rest.2, rest.3)

end_of : (passes : List ℕ → Bool) (name : List ℕ) → takes_end passes name ≡ true → HasEnd passes name
end_of passes [] e = ([], [], refl, e)
end_of passes (byte ∷ name) e = end_cases (passes (byte ∷ name)) (takes_end passes name) passes byte name refl e (λ more. end_of passes name more)

or_second : (a b : Bool) → b ≡ true → (a || b) ≡ true
or_second true b e = refl
or_second false b e = e

or_first : (a b : Bool) → a ≡ true → (a || b) ≡ true
or_first true b e = refl
or_first false b e = absurd (cc)

whole_end : (passes : List ℕ → Bool) (name : List ℕ) → passes name ≡ true → takes_end passes name ≡ true
whole_end passes [] e = e
whole_end passes (byte ∷ name) e = or_first (passes (byte ∷ name)) (takes_end passes name) e

behind : (passes : List ℕ → Bool) (front end : List ℕ) → takes_end passes end ≡ true → takes_end passes (front ++ end) ≡ true
behind passes [] end e = e
behind passes (byte ∷ front) end e = or_second (passes (byte ∷ front ++ end)) (takes_end passes (front ++ end)) (behind passes front end e)

further : (passes : List ℕ → Bool) (k : ℕ) (name : List ℕ) → takes_end passes (drop k name) ≡ true → takes_end passes name ≡ true
further passes k name e = subst (λ (n : List ℕ). takes_end passes n ≡ true) (take-append-drop k name) (behind passes (take k name) (drop k name) e)

-- a last piece ends the name
pub piece_end : (piece name : List ℕ) (r : Bool) → has_star piece ≡ false → r ≡ bytes_eq piece (drop (length name - length piece) name) → r ≡ takes_end (pattern_takes piece) name
piece_end piece name r plain is = both_ways r (takes_end (pattern_takes piece) name)
    (λ yes. let split = (ends_is Decides-eqb name piece r is).0 yes in
    subst (λ (n : List ℕ). takes_end (pattern_takes piece) n ≡ true) (sym split)
    (behind (pattern_takes piece) (take (length name - length piece) name) piece
    (whole_end (pattern_takes piece) piece (sym (piece_whole piece piece plain) ∙ (bytes_eq-Decides piece piece).1 refl))))
    (λ yes. let found = end_of (pattern_takes piece) name yes in
    let same : found.1 ≡ piece = (bytes_eq-Decides found.1 piece).0 (piece_whole piece found.1 plain ∙ found.3) in
    (ends_is Decides-eqb name piece r is).1 found.0 (found.2 ∙ ap (λ (e : List ℕ). found.0 ++ e) same))

-- a piece in front of a star
pub starred : (piece more name : List ℕ) → has_star piece ≡ false → pattern_takes (piece ++ star ∷ more) name ≡ (begins piece name && takes_end (pattern_takes more) (drop (length piece) name))
starred piece more name plain = piece_front piece (star ∷ more) name plain ∙ ap (λ t. begins piece name && t) (star_front more (drop (length piece) name))

pub starred_not : (piece more name : List ℕ) → has_star piece ≡ false → begins piece name ≡ false → pattern_takes (piece ++ star ∷ more) name ≡ false
starred_not piece more name plain not = starred piece more name plain ∙ ap (λ t. t && takes_end (pattern_takes more) (drop (length piece) name)) not

-- the first place of a piece is as good as any later one
pub first_place : (piece more name : List ℕ) → has_star piece ≡ false → begins piece name ≡ true
    → takes_end (pattern_takes (piece ++ star ∷ more)) name ≡ takes_end (pattern_takes more) (drop (length piece) name)
first_place piece more name plain here = both_ways (takes_end (pattern_takes (piece ++ star ∷ more)) name) (takes_end (pattern_takes more) (drop (length piece) name))
    (λ yes. let found = end_of (pattern_takes (piece ++ star ∷ more)) name yes in
    let rest = (both_hold (begins piece found.1) (takes_end (pattern_takes more) (drop (length piece) found.1)) (sym (starred piece more found.1 plain) ∙ found.3)).1 in
    let end : drop (length found.0) name ≡ found.1 = ap (drop (length found.0)) found.2 ∙ drop-append_seam found.0 found.1 in
    let swapped : drop (length piece) found.1 ≡ drop (length found.0) (drop (length piece) name) =
    ap (drop (length piece)) (sym end) ∙ (drop-drop (length piece) (length found.0) name ∙ (ap (λ n. drop n name) (omega arith) ∙ sym (drop-drop (length found.0) (length piece) name))) in
    further (pattern_takes more) (length found.0) (drop (length piece) name) (subst (λ (n : List ℕ). takes_end (pattern_takes more) n ≡ true) swapped rest))
    (λ yes. whole_end (pattern_takes (piece ++ star ∷ more)) name (starred piece more name plain ∙ (ap (λ t. t && takes_end (pattern_takes more) (drop (length piece) name)) here ∙ yes)))

pub no_place : (piece more : List ℕ) (byte : ℕ) (name : List ℕ) → has_star piece ≡ false → begins piece (byte ∷ name) ≡ false
    → takes_end (pattern_takes (piece ++ star ∷ more)) (byte ∷ name) ≡ takes_end (pattern_takes (piece ++ star ∷ more)) name
no_place piece more byte name plain not = ap (λ t. t || takes_end (pattern_takes (piece ++ star ∷ more)) name) (starred_not piece more (byte ∷ name) plain not)

pub nowhere : (piece more name : List ℕ) → has_star piece ≡ false → begins piece name ≡ false → length name ≡ 0 → takes_end (pattern_takes (piece ++ star ∷ more)) name ≡ false
nowhere piece more [] plain not none = starred_not piece more [] plain not
nowhere piece more (byte ∷ name) plain not none = absurd (omega (arith, none))

pub next_place : (piece more name : List ℕ) (byte : ℕ) (rest : List ℕ) → name ≡ byte ∷ rest → has_star piece ≡ false → begins piece name ≡ false
    → takes_end (pattern_takes (piece ++ star ∷ more)) name ≡ takes_end (pattern_takes (piece ++ star ∷ more)) rest
next_place piece more name byte rest is plain not =
    ap (takes_end (pattern_takes (piece ++ star ∷ more))) is ∙ no_place piece more byte rest plain (sym (ap (begins piece) is) ∙ not)

-- a pattern with no star, and one whose first piece begins the name or doesn't
pub alone : (pattern piece name : List ℕ) → has_star piece ≡ false → pattern ≡ piece → bytes_eq name piece ≡ pattern_takes pattern name
alone pattern piece name plain is = piece_whole piece name plain ∙ ap (λ (p : List ℕ). pattern_takes p name) (sym is)

pub parted : (pattern piece more name behind : List ℕ) → has_star piece ≡ false → pattern ≡ piece ++ star ∷ more → begins piece name ≡ true → behind ≡ drop (length piece) name
    → takes_end (pattern_takes more) behind ≡ pattern_takes pattern name
parted pattern piece more name behind plain is here at =
    ap (takes_end (pattern_takes more)) at ∙ (sym (starred piece more name plain ∙ ap (λ t. t && takes_end (pattern_takes more) (drop (length piece) name)) here)
    ∙ ap (λ (p : List ℕ). pattern_takes p name) (sym is))

pub apart : (pattern piece more name : List ℕ) → has_star piece ≡ false → pattern ≡ piece ++ star ∷ more → begins piece name ≡ false → false ≡ pattern_takes pattern name
apart pattern piece more name plain is not = sym (ap (λ (p : List ℕ). pattern_takes p name) is ∙ starred_not piece more name plain not)

-- where the first star is
later-none : (o : Option ℕ) → later o ≡ None → o ≡ None
later-none None e = refl
later-none (Some n) e = absurd (cc)

none_more : (t : Bool) (o : Option ℕ) (rest : Bool) → cond t (Some 0) (later o) ≡ None → (o ≡ None → rest ≡ false) → (t || rest) ≡ false
none_more true o rest e more = absurd (cc)
none_more false o rest e more = more (later-none o e)

none_passes : {X : Type 0} (p : X → Bool) (xs : List X) → position p xs ≡ None → list_any p xs ≡ false
none_passes p [] e = refl
none_passes p (x ∷ xs) e = none_more (p x) (position p xs) (list_any p xs) (sym (position-cons p x xs) ∙ e) (λ none. none_passes p xs none)

pub no_star_in : (pattern : List ℕ) → position (λ byte. byte == star) pattern ≡ None → has_star pattern ≡ false
no_star_in pattern none = none_passes (λ byte. byte == star) pattern none

pub star_splits : (pattern : List ℕ) (place : ℕ) → position (λ byte. byte == star) pattern ≡ Some place
    → (has_star (take place pattern) ≡ false) × (pattern ≡ take place pattern ++ star ∷ drop (place + 1) pattern)
star_splits pattern place is =
    let found = position-Some (λ byte. byte == star) pattern place 0 is in
    let within = found.0 in (
      list_any_none (λ byte. byte == star) (take place pattern)
          (λ i d less. let before : i < place = omega (arith, length-take-le place pattern, less) in
          let same : get_or (take place pattern) i d ≡ get_or pattern i 0 = get_or-take place pattern i d before ∙ get_or_default pattern i d 0 (omega (arith, within, before)) in
          ap (λ b. b == star) same ∙ found.2 i before),
      sym (take-append-drop place pattern) ∙ ap (λ (n : List ℕ). take place pattern ++ n) (drop_more pattern place 0 within ∙ ap (λ b. b ∷ drop (place + 1) pattern) (eqb-true (get_or pattern place 0) star found.1)),
    )
