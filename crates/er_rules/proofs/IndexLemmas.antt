-- The first rule whose words have both of two, or of a site, while rules are added one by one.
use Rattle.std.proofs.Common.{string_bytes, ◌≡◌, ◌∙◌, ℕ, ◌+◌, ◌-◌, ◌≤◌, ◌<◌, Bool, true, false, ◌&&◌, cond, zero, suc, nat_le, List, [], ◌∷◌, ◌++◌, length, take, drop, get_or, Option, Some, None, ◌⊎◌, inl, inr, refl, sym, ap, subst, arith, take-append-drop}
use Rattle.std.specs.Option.{option_or}
use Rattle.std.proofs.lemmas.List.{take_more, drop_more, take_all, get_or_append_left, get_or_push, length_push}
use Rattle.std.proofs.lemmas.Bool.Decides.{nat_tests}
use Rattle.er_event.specs.Span.{Span}
use Rattle.er_rules.specs.declared.index.Entry.{Entry}
use Rattle.er_rules.specs.declared.index.Pattern.{Pattern}
use Rattle.er_rules.specs.declared.reach.Border.{Border}
use Rattle.er_rules.specs.Targets.{span_of, takes_name}
use Rattle.er_rules.specs.Inner.Index.{first_of, first_taking, has_both, least_of}
use Rattle.er_rules.specs.Inner.Reach.{end_at}

chosen : (b : Bool) (rule : ℕ) (x y z : Option ℕ) → x ≡ option_or y z → cond b (Some rule) x ≡ option_or (cond b (Some rule) y) z
chosen true rule x y z e = refl
chosen false rule x y z e = e

first_of-append : (entries others : List Entry) (lo hi : ℕ) → first_of (entries ++ others) lo hi ≡ option_or (first_of entries lo hi) (first_of others lo hi)
unfolding first_of
first_of-append [] others lo hi = refl
first_of-append (e ∷ entries) others lo hi =
    chosen (has_both (Some (span_of e.words)) lo hi) e.rule (first_of (entries ++ others) lo hi) (first_of entries lo hi) (first_of others lo hi) (first_of-append entries others lo hi)

pub first_of-none : (entries : List Entry) (lo hi : ℕ) → entries ≡ [] → first_of entries lo hi ≡ None
unfolding first_of
first_of-none entries lo hi none = ap (λ es. first_of es lo hi) none

first_of-one : (e : Entry) (lo hi : ℕ) → first_of (e ∷ []) lo hi ≡ cond (has_both (Some (span_of e.words)) lo hi) (Some e.rule) None
unfolding first_of
first_of-one e lo hi = refl

pub first_of-push : (entries : List Entry) (e : Entry) (lo hi : ℕ) → first_of (entries ++ e ∷ []) lo hi ≡ option_or (first_of entries lo hi) (cond (has_both (Some (span_of e.words)) lo hi) (Some e.rule) None)
first_of-push entries e lo hi = first_of-append entries (e ∷ []) lo hi ∙ ap (λ o. option_or (first_of entries lo hi) o) (first_of-one e lo hi)

-- the next entry has not both, or has them
pub first_of-more : (entries : List Entry) (i lo hi : ℕ) (e : Entry) → i < length entries → first_of (take i entries) lo hi ≡ None → has_both (Some (span_of (get_or entries i e).words)) lo hi ≡ false
    → first_of (take (i + 1) entries) lo hi ≡ None
first_of-more entries i lo hi e within none fails =
    ap (λ es. first_of es lo hi) (take_more entries i e within)
    ∙ (first_of-push (take i entries) (get_or entries i e) lo hi ∙ (λ k. option_or (none k) (cond (fails k) (Some (get_or entries i e).rule) None)))

first_of-front : (e : Entry) (others : List Entry) (lo hi : ℕ) → has_both (Some (span_of e.words)) lo hi ≡ true → first_of (e ∷ others) lo hi ≡ Some e.rule
unfolding first_of
first_of-front e others lo hi has = ap (λ b. cond b (Some e.rule) (first_of others lo hi)) has

pub first_of-found : (entries : List Entry) (i lo hi : ℕ) (e : Entry) → i < length entries → first_of (take i entries) lo hi ≡ None → has_both (Some (span_of (get_or entries i e).words)) lo hi ≡ true
    → Some (get_or entries i e).rule ≡ first_of entries lo hi
first_of-found entries i lo hi e within none has = sym
    (ap (λ es. first_of es lo hi) (sym (take-append-drop i entries)) ∙ (first_of-append (take i entries) (drop i entries) lo hi
    ∙ ((λ k. option_or (none k) (first_of (drop_more entries i e within k) lo hi)) ∙ first_of-front (get_or entries i e) (drop (i + 1) entries) lo hi has)))

-- what the entries keep of one another: where each begins, and how far those from there on reach
abbrev pub Start : List Entry → Type 0
Start entries = (p : ℕ) (d : Entry) → p < length entries → (get_or entries p d).start ≤ p

abbrev pub Reaching : List Entry → Type 0
Reaching entries = (p k w : ℕ) (d e : Entry) → p < length entries → (get_or entries p d).start ≤ k → k ≤ p → (get_or entries k e).words.first ≤ w → (get_or entries k e).words.last < end_at (get_or entries p d).reach w

last_fails : (a b c : Bool) → c ≡ false → (a && (b && c)) ≡ false
last_fails true true c e = e
last_fails true false c e = refl
last_fails false b c e = refl

not_both : (first last lo hi : ℕ) → (first ≤ lo → last < hi) → ((nat_le first lo && nat_le lo last) && (nat_le first hi && nat_le hi last)) ≡ false
not_both first last lo hi short = by (nat_le first lo) refl
  where
    by : (t : Bool) → nat_le first lo ≡ t → ((t && nat_le lo last) && (nat_le first hi && nat_le hi last)) ≡ false
    by false before = refl
    by true from =
        let begins : first ≤ lo = grind (arith, nat_tests, from) in
        let ends : last < hi = short begins in
        let past : nat_le hi last ≡ false = grind (arith, nat_tests, ends) in
        last_fails (nat_le lo last) (nat_le first hi) (nat_le hi last) past

-- an entry that reaches no further than before the last of the words: none of those that it stands for has both
pub skipped : (entries : List Entry) (past width lo hi : ℕ) (d : Entry) → Reaching entries → past + width ≤ length entries → 0 < width → (get_or entries (past + width - 1) d).start ≤ past
    → end_at (get_or entries (past + width - 1) d).reach lo ≤ hi → first_of (take past entries) lo hi ≡ None → first_of (take (past + width) entries) lo hi ≡ None
skipped entries past width lo hi d reaches within some start short none = go width (omega arith)
  where
    go : (m : ℕ) → m ≤ width → first_of (take (past + m) entries) lo hi ≡ None
    go zero less = ap (λ n. first_of (take n entries) lo hi) (omega arith) ∙ none
    go (suc m) less =
        let here : first_of (take (past + m + 1) entries) lo hi ≡ None =
        first_of-more entries (past + m) lo hi d (omega arith) (go m (omega arith))
        (not_both (get_or entries (past + m) d).words.first (get_or entries (past + m) d).words.last lo hi
        (λ begins. omega (arith, short, reaches (past + width - 1) (past + m) lo d d (omega arith) (omega (arith, start)) (omega (arith, less)) begins))) in
        ap (λ n. first_of (take n entries) lo hi) (omega arith) ∙ here

-- what holds of each entry and of a new one
at_push : (P : ℕ → Entry → Type 0) (entries : List Entry) (e d : Entry) → ((k : ℕ) → k < length entries → P k (get_or entries k d)) → P (length entries) e
    → (k : ℕ) → k < length (entries ++ e ∷ []) → P k (get_or (entries ++ e ∷ []) k d)
at_push P entries e d old new k within = by (cases k (length entries) (omega (arith, length_push entries e)))
  where
    cases : (m n : ℕ) → m < n + 1 → (m < n) ⊎ (n ≡ m)
    cases m n less = grind arith

    by : (k < length entries) ⊎ (length entries ≡ k) → P k (get_or (entries ++ e ∷ []) k d)
    by (inl short) = subst (P k) (sym (get_or_append_left entries (e ∷ []) d k short)) (old k short)
    by (inr last) = subst (P k) (sym (get_or_push entries e d k last)) (subst (λ n. P n e) last new)

pub start-push : (entries : List Entry) (e : Entry) → Start entries → e.start ≤ length entries → Start (entries ++ e ∷ [])
start-push entries e starts own = λ p d. at_push (λ k x. x.start ≤ k) entries e d (λ k short. starts k d short) own p

-- a new entry reaches as far as those from its start on, and as its own words
pub record Covers (entries : List Entry) (words : Span) (start : ℕ) (reach : List Border) : Type 0 where
  pub within : start ≤ length entries
  pub front : (k w : ℕ) (e : Entry) → start ≤ k → k < length entries → (get_or entries k e).words.first ≤ w → (get_or entries k e).words.last < end_at reach w
  pub own : (w : ℕ) → words.first ≤ w → words.last < end_at reach w

pub reaching-push : (entries : List Entry) (e : Entry) → Reaching entries → Covers entries (span_of e.words) e.start e.reach → Reaching (entries ++ e ∷ [])
reaching-push entries e reaches covers = λ p k w d f below from upto begins.
    at_push (λ q x. (x.start ≤ k → k ≤ q → (get_or (entries ++ e ∷ []) k f).words.first ≤ w → (get_or (entries ++ e ∷ []) k f).words.last < end_at x.reach w)) entries e d
    (λ q short from' upto' begins'.
    let same = get_or_append_left entries (e ∷ []) f k (omega (arith, short, upto')) in
    subst (λ (x : Entry). x.words.first ≤ w → x.words.last < end_at (get_or entries q d).reach w) (sym same) (reaches q k w d f short from' upto') begins')
    (λ from' upto' begins'.
    at_push (λ m y. (e.start ≤ m → y.words.first ≤ w → y.words.last < end_at e.reach w)) entries e f
    (λ m short from'' begins''. covers.front m w f from'' short begins'') (λ from'' begins''. covers.own w begins'') k (omega (arith, length_push entries e, upto')) from' begins')
    p below from upto begins

pub both_true : (a b : Bool) → a ≡ true → b ≡ true → (a && b) ≡ true
both_true true b is also = also
both_true false b is also = is

pub first_false : (a b : Bool) → a ≡ false → (a && b) ≡ false
first_false true b is = absurd (cc)
first_false false b is = refl

pub second_false : (a b : Bool) → b ≡ false → (a && b) ≡ false
second_false true b is = is
second_false false b is = refl

-- the first rule of a pattern that takes a site's name
taking-append : (patterns others : List Pattern) (site : Option (List ℕ)) → first_taking (patterns ++ others) site ≡ option_or (first_taking patterns site) (first_taking others site)
unfolding first_taking
taking-append [] others site = refl
taking-append (p ∷ patterns) others site =
    chosen (takes_name (string_bytes p.bytes) site) p.rule (first_taking (patterns ++ others) site) (first_taking patterns site) (first_taking others site) (taking-append patterns others site)

taking-one : (p : Pattern) (site : Option (List ℕ)) → first_taking (p ∷ []) site ≡ cond (takes_name (string_bytes p.bytes) site) (Some p.rule) None
unfolding first_taking
taking-one p site = refl

pub taking-push : (patterns : List Pattern) (p : Pattern) (site : Option (List ℕ)) → first_taking (patterns ++ p ∷ []) site ≡ option_or (first_taking patterns site) (cond (takes_name (string_bytes p.bytes) site) (Some p.rule) None)
taking-push patterns p site = taking-append patterns (p ∷ []) site ∙ ap (λ o. option_or (first_taking patterns site) o) (taking-one p site)

pub taking-nowhere : (patterns : List Pattern) → first_taking patterns None ≡ None
unfolding first_taking
taking-nowhere [] = refl
taking-nowhere (p ∷ patterns) = taking-nowhere patterns

least-none : (o : Option ℕ) → o ≡ least_of o None
least-none None = refl
least-none (Some n) = refl

pub least-nowhere : (o words : Option ℕ) (patterns : List Pattern) → least_of o words ≡ least_of (least_of o (first_taking patterns None)) words
least-nowhere o words patterns = ap (λ x. least_of x words) (least-none o ∙ ap (least_of o) (sym (taking-nowhere patterns)))

pub taking-none : (patterns : List Pattern) (site : Option (List ℕ)) → patterns ≡ [] → first_taking patterns site ≡ None
unfolding first_taking
taking-none patterns site none = ap (λ ps. first_taking ps site) none

taking-front : (p : Pattern) (others : List Pattern) (site : Option (List ℕ)) → takes_name (string_bytes p.bytes) site ≡ true → first_taking (p ∷ others) site ≡ Some p.rule
unfolding first_taking
taking-front p others site takes = ap (λ b. cond b (Some p.rule) (first_taking others site)) takes

pub taking-more : (patterns : List Pattern) (i : ℕ) (site : Option (List ℕ)) (d : Pattern) → i < length patterns → first_taking (take i patterns) site ≡ None → takes_name (string_bytes (get_or patterns i d).bytes) site ≡ false
    → first_taking (take (i + 1) patterns) site ≡ None
taking-more patterns i site d within none fails =
    ap (λ ps. first_taking ps site) (take_more patterns i d within)
    ∙ (taking-push (take i patterns) (get_or patterns i d) site ∙ (λ k. option_or (none k) (cond (fails k) (Some (get_or patterns i d).rule) None)))

pub taking-found : (patterns : List Pattern) (i : ℕ) (site : Option (List ℕ)) (d : Pattern) → i < length patterns → first_taking (take i patterns) site ≡ None → takes_name (string_bytes (get_or patterns i d).bytes) site ≡ true
    → Some (get_or patterns i d).rule ≡ first_taking patterns site
taking-found patterns i site d within none takes = sym
    (ap (λ ps. first_taking ps site) (sym (take-append-drop i patterns)) ∙ (taking-append (take i patterns) (drop i patterns) site
    ∙ ((λ k. option_or (none k) (first_taking (drop_more patterns i d within k) site)) ∙ taking-front (get_or patterns i d) (drop (i + 1) patterns) site takes)))

pub taking-all : (patterns : List Pattern) (i : ℕ) (site : Option (List ℕ)) → length patterns ≤ i → first_taking (take i patterns) site ≡ None → None ≡ first_taking patterns site
taking-all patterns i site all none = sym (ap (λ ps. first_taking ps site) (sym (take_all i patterns all)) ∙ none)
