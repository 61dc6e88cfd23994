-- The numbers of a record's body are those that the definition reads.
use Rattle.std.proofs.Common.{◌≡◌, ◌∙◌, ◌⊎◌, inl, inr, ◌+◌, ◌<◌, ◌≤◌, ◌==◌, ◌&&◌, ℕ, suc, zero, Bool, true, false, nat_eq, nat_le, nat_lt, if◌then◌else◌, List, Option, Some, None, drop, length, option_map, take, refl, ap, ap₂, sym, eq-eqb, arith, rules}
use Rattle.std.proofs.lemmas.Bool.Decides.{nat_tests}
use Rattle.std.proofs.lemmas.List.{drop-take, take-take}
use Rattle.er_binary.specs.Nodes.{place_of}
use Rattle.er_binary.specs.Numbers.{number}
use Rattle.er_binary.specs.declared.state.State.{State}
use Rattle.er_places.specs.Inner.Noting.{birth_by, born_at, tells_lock}
use Rattle.er_places.specs.declared.facts.Birth.{Birth}
use Rattle.er_places.proofs.facts.Birth.read.Goals as goal
use Rattle.er_places.proofs.facts.Birth.read.Goals.{then-lock-len-via-then-lock-len, then-lock-len-via-else-lock-len+then-node-len, then-lock-len-via-else-lock-len+else-node-len+then-rest-gt1}

second : (a b c d : Bool) → b ≡ false → ((a && b) && (c && d)) ≡ false
second true b c d is = ap (λ (x : Bool). x && (c && d)) is
second false b c d is = refl

third : (a b c d : Bool) → c ≡ false → ((a && b) && (c && d)) ≡ false
third true true c d is = ap (λ (x : Bool). x && d) is
third true false c d is = refl
third false b c d is = refl

fourth : (a b c d : Bool) → d ≡ false → ((a && b) && (c && d)) ≡ false
fourth true true true d is = is
fourth true true false d is = refl
fourth true false c d is = refl
fourth false b c d is = refl

each : (a b c d : Bool) → a ≡ true → b ≡ true → c ≡ true → d ≡ true → ((a && b) && (c && d)) ≡ true
each a b c d p q r s = ap₂ (λ (x y : Bool). x && y) (ap₂ (λ (x y : Bool). x && y) p q) (ap₂ (λ (x y : Bool). x && y) r s)

not_there : (a b : ℕ) → suc a + 14 ≡ b → nat_eq b 14 ≡ false
not_there a b is = grind (arith, nat_tests)

never_none : (a : ℕ) → nat_eq (suc a) 0 ≡ false
never_none a = grind (arith, nat_tests)

same_test : (a b : ℕ) → a + 14 ≡ b → (b == 14) ≡ (a == 0)
same_test zero b is = let there : b ≡ 14 = omega arith in eq-eqb b 14 there
same_test (suc a) b is = not_there a b is ∙ sym (never_none a)

within : (n m : ℕ) → n ≤ m → nat_le n m ≡ true
within n m less = grind (arith, nat_tests)

beyond : (n m : ℕ) → m < n → nat_le n m ≡ false
beyond n m less = grind (arith, nat_tests)

below : (n m : ℕ) → n < m → nat_lt n m ≡ true
below n m less = grind (arith, nat_tests)

above : (n m : ℕ) → m ≤ n → nat_lt n m ≡ false
above n m less = grind (arith, nat_tests)

lock_at : (head body : List ℕ) (lock : ℕ) → head ≡ take 14 body → lock ≡ number (take 4 head) → number (take 4 body) ≡ lock
lock_at head body lock front is = sym (is ∙ (ap (λ (h : List ℕ). number (take 4 h)) front ∙ ap number (take-take 4 14 body (omega arith))))

node_at : (head body : List ℕ) (node : ℕ) → head ≡ take 14 body → node ≡ number (take 4 (drop 10 head)) → number (take 4 (drop 10 body)) ≡ node
node_at head body node front is =
    sym (is ∙ (ap (λ (h : List ℕ). number (take 4 (drop 10 h))) front ∙ (ap (λ (t : List ℕ). number (take 4 t)) (drop-take 10 4 body) ∙ ap number (take-take 4 4 (drop 10 body) (omega arith)))))

refused : (state : State) (head rest body : List ℕ) (lock node : ℕ) → head ≡ take 14 body → length rest + 14 ≡ length body → lock ≡ number (take 4 head) → node ≡ number (take 4 (drop 10 head))
    → (length state.locks ≤ lock) ⊎ ((length state.nodes < node) ⊎ (1 < length rest)) → tells_lock state body ≡ false
refused state head rest body lock node front all is also (inl none) =
    third (nat_le 14 (length body)) (nat_le (length body) 15) (nat_lt (number (take 4 body)) (length state.locks)) (nat_le (number (take 4 (drop 10 body))) (length state.nodes)) (ap (λ (n : ℕ). nat_lt n (length state.locks)) (lock_at head body lock front is) ∙ above lock (length state.locks) none)
refused state head rest body lock node front all is also (inr (inl none)) =
    fourth (nat_le 14 (length body)) (nat_le (length body) 15) (nat_lt (number (take 4 body)) (length state.locks)) (nat_le (number (take 4 (drop 10 body))) (length state.nodes)) (ap (λ (n : ℕ). nat_le n (length state.nodes)) (node_at head body node front also) ∙ beyond node (length state.nodes) none)
refused state head rest body lock node front all is also (inr (inr long)) = second (nat_le 14 (length body)) (nat_le (length body) 15) (nat_lt (number (take 4 body)) (length state.locks)) (nat_le (number (take 4 (drop 10 body))) (length state.nodes)) (beyond (length body) 15 (omega arith))

taken : (state : State) (head rest body : List ℕ) (lock node : ℕ) → head ≡ take 14 body → length rest + 14 ≡ length body → lock ≡ number (take 4 head) → node ≡ number (take 4 (drop 10 head))
    → lock < length state.locks → node ≤ length state.nodes → length rest ≤ 1 → tells_lock state body ≡ true
taken state head rest body lock node front all is also known reached short =
    each _ _ _ _ (within 14 (length body) (omega arith)) (within (length body) 15 (omega arith))
    (ap (λ (n : ℕ). nat_lt n (length state.locks)) (lock_at head body lock front is) ∙ below lock (length state.locks) known)
    (ap (λ (n : ℕ). nat_le n (length state.nodes)) (node_at head body node front also) ∙ within node (length state.nodes) reached)

-- what the definition makes of a body
abbrev read_by : State → List ℕ → Bool → Option (ℕ × Birth)
read_by state body told =
    if told then option_map (born_at (number (take 4 body)) (length body == 14)) (place_of state.nodes (number (take 4 (drop 10 body)))) else None

found : (state : State) (head rest body : List ℕ) (lock node place : ℕ) → head ≡ take 14 body → length rest + 14 ≡ length body → lock ≡ number (take 4 head) → node ≡ number (take 4 (drop 10 head))
    → tells_lock state body ≡ true → place_of state.nodes node ≡ Some place → birth_by state body ≡ Some (born_at lock (length rest == 0) place)
found state head rest body lock node place front all is also told there =
    ap (read_by state body) told
    ∙ (ap (option_map (born_at (number (take 4 body)) (length body == 14))) (ap (place_of state.nodes) (node_at head body node front also) ∙ there)
    ∙ ap₂ (λ (k : ℕ) (b : Bool). Some (born_at k b place)) (lock_at head body lock front is) (same_test (length rest) (length body) all))

pub returns-then-lock-len : goal.returns-then-lock-len
returns-then-lock-len c =
    let state = c.args.state.now in
    let body = c.args.body.now in
    let front : c.in_ok-head.head.now ≡ take 14 body = first_of (search rules, cc) in
    let all : length c.in_ok-head.rest.now + 14 ≡ length body = search rules in
    let none = refused state c.in_ok-head.head.now c.in_ok-head.rest.now body c.number-lock.result c.number-node.result front all c.number-lock.ensures.value c.number-node.ensures.value in
    sym (ap (read_by state body) (none (elim c.then-lock-len.branch [
      | then-lock-len-via-then-lock-len w ↦ inl (omega arith)
      | then-lock-len-via-else-lock-len+then-node-len w ↦ inr (inl (omega arith))
      | then-lock-len-via-else-lock-len+else-node-len+then-rest-gt1 w ↦ inr (inr (omega arith))
    ])))

pub returns : goal.returns
returns c =
    let state = c.args.state.now in
    let body = c.args.body.now in
    let head = c.in_ok-head.head.now in
    let rest = c.in_ok-head.rest.now in
    let front : head ≡ take 14 body = first_of (search rules, cc) in
    let all : length rest + 14 ≡ length body = search rules in
    let told = taken state head rest body c.number-lock.result c.number-node.result front all c.number-lock.ensures.value c.number-node.ensures.value (omega arith) (omega arith) (omega arith) in
    let there : place_of state.nodes c.number-node.result ≡ Some c.in_ok-place.place = first_of (search rules, cc) in
    ap (λ (b : Bool). Some (c.number-lock.result, record { place = c.in_ok-place.place; is_created = b })) c.is_empty-is_created.ensures
    ∙ sym (found state head rest body c.number-lock.result c.number-node.result c.in_ok-place.place front all c.number-lock.ensures.value c.number-node.ensures.value told there)
