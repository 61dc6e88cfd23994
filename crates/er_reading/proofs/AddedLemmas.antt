-- Pieces that are added to a trace: first their names, then the numbers of their steps, then the steps.
use Rattle.std.proofs.Common.{◌≡◌, ℕ, zero, suc, ◌+◌, ◌<◌, ◌≤◌, ◌^◌, true, List, [], ◌∷◌, ◌++◌, append_assoc, length, length-append, map, take, drop, Option, refl, sym, ap, ◌∙◌, subst, arith}
use Rattle.std.specs.List.{All}
use Rattle.std.proofs.Math.Seq.{drop-append_seam}
use Rattle.std.proofs.lemmas.List.{length-take-le, take-append-drop, take-append-le, take_all}
use Rattle.std.proofs.lemmas.List.Elements.{All-nil, All-cons, All-head, All-tail}
use Rattle.er_event.specs.declared.steps.Step.{Step}
use Rattle.er_trace.proofs.AppendedSteps.{new_named, still_named, new_sites_named, sites_still_named}
use Rattle.er_trace.specs.Appended.{AreNumbers, renumbered_site, renumbered_step, with_table}
use Rattle.er_trace.specs.Names.{NameTable}
use Rattle.er_trace.specs.Trace.{Recording, IsNamed, HasSiteName, no_steps}
use Rattle.er_text.proofs.AppendedLemmas.{appended_grows}
use Rattle.er_text.proofs.PieceGives.{past_piece, piece_few, piece_small}
use Rattle.er_text.specs.Batches.{HasRead}
use Rattle.er_text.specs.Named.{KeepsNames}
use Rattle.er_text.specs.declared.verbs.Version.{Version}
use Rattle.er_lines.specs.Lines.{AreWhole}
use Rattle.er_text.specs.Pieces.{IsPieceOf, ReadPiece, CanBeNumbered, IsEntered, IsNumbered, IsReady, MayBeAdded, StandsInFront}
use Rattle.er_text.specs.Places.{Reached, no_tail}
use Rattle.er_reading.specs.Inner.Adding.{StandInFront, IsWhole, FitBehind, first_len, names_behind, AreEntered, AreNumbered, AreReady, MayAllBeAdded}
use Rattle.er_reading.specs.Pieces.{ArePiecesOf}
use Rattle.er_reading.proofs.PieceLemmas.{first_in_front, others_in_front}

-- a piece that knows its numbers and is numbered by them is ready
ready_of : (before : ℕ) (names : NameTable) (p q z : ReadPiece) → IsEntered before names p q → IsNumbered q z → IsReady before names p z
ready_of before names p q z entered numbered =
    let known : AreNumbers q.numbers q.told.names names = subst (λ (r : Recording). AreNumbers q.numbers r.names names) (sym entered.told) entered.numbers in
    record {
      steps = subst (λ (r : Recording). z.steps ≡ map (renumbered_step r.names names) r.steps) entered.told (numbered.steps names known);
      places = subst (λ (r : Recording). z.places ≡ map (λ line. before + line) r.lines) entered.told
          (subst (λ (n : ℕ). z.places ≡ map (λ line. n + line) q.told.lines) entered.before_is numbered.places);
      sites = subst (λ (r : Recording). z.sites ≡ map (renumbered_site r.names.sites names.sites) r.sites) entered.told (numbered.sites names known);
      level = numbered.level;
      level_sites = numbered.level_sites;
      named = subst (λ (r : Recording). All (IsNamed r.names) r.steps) entered.told numbered.named;
      named_sites = subst (λ (r : Recording). All (HasSiteName r.names) r.sites) entered.told numbered.named_sites;
      lines = numbered.lines ∙ entered.lines;
      len = numbered.len ∙ entered.len;
      comment = numbered.comment ∙ entered.comment;
    }

all_ready : (before : ℕ) (names : NameTable) (ps qs zs : List ReadPiece) → AreEntered before names ps qs → AreNumbered qs zs → AreReady before names ps zs
all_ready before names [] [] [] entered numbered = tt
all_ready before names [] [] (z ∷ zs) entered numbered = absurd numbered
all_ready before names [] (q ∷ qs) zs entered numbered = absurd entered
all_ready before names (p ∷ ps) [] zs entered numbered = absurd entered
all_ready before names (p ∷ ps) (q ∷ qs) [] entered numbered = absurd numbered
all_ready before names (p ∷ ps) (q ∷ qs) (z ∷ zs) entered numbered = (
  ready_of before (with_table names p.told.names) p q z entered.0 numbered.0,
  all_ready (before + p.lines) (with_table names p.told.names) ps qs zs entered.1 numbered.1,
)

-- it can be numbered by what it knows
can_of : (before : ℕ) (names : NameTable) (p q : ReadPiece) → IsEntered before names p q → All (λ line. before + line < 2 ^ 64) p.told.lines → CanBeNumbered q
can_of before names p q entered fits = record {
  names = names;
  numbers = subst (λ (r : Recording). AreNumbers q.numbers r.names names) (sym entered.told) entered.numbers;
  fits = subst (λ (r : Recording). All (λ line. q.before + line < 2 ^ 64) r.lines) (sym entered.told)
      (subst (λ (n : ℕ). All (λ line. n + line < 2 ^ 64) p.told.lines) (sym entered.before_is) fits);
}

pub all_can : (before : ℕ) (names : NameTable) (ps qs : List ReadPiece) → AreEntered before names ps qs → FitBehind before ps → All CanBeNumbered qs
all_can before names [] [] entered fit = All-nil CanBeNumbered
all_can before names [] (q ∷ qs) entered fit = absurd entered
all_can before names (p ∷ ps) [] entered fit = absurd entered
all_can before names (p ∷ ps) (q ∷ qs) entered fit =
    All-cons CanBeNumbered q qs (can_of before (with_table names p.told.names) p q entered.0 fit.0)
    (all_can (before + p.lines) (with_table names p.told.names) ps qs entered.1 fit.2)

-- the numbers of the pieces' lines fit
fit_behind : (names : NameTable) (reader : Reached) (ps : List ReadPiece) (before room : ℕ) → StandInFront names reader ps → All IsWhole ps → before + reader.place.limit ≤ reader.place.start + room → room < 2 ^ 64
    → FitBehind before ps
fit_behind names reader [] before room all whole bound small = tt
fit_behind names reader (p ∷ ps) before room all whole bound small =
    let front = first_in_front names reader p ps all in
    let one : p.whole ≡ true = All-head IsWhole p ps whole in
    let few = piece_few names reader p front one in
    let below = piece_small names reader p front one in
    let within = front.within in (
      (λ i d h. let less = below i d h in omega (arith, less, few, within, bound, small)),
      omega (arith, few, within, bound, small),
      fit_behind (with_table names p.told.names) (past_piece reader p no_tail) ps (before + p.lines) room (others_in_front names reader (past_piece reader p no_tail) p ps all refl refl refl refl refl)
          (All-tail IsWhole p ps whole) (omega (arith, few, bound)) small,
    )

-- steps that have names have them once those of the pieces have appeared
behind_named : (names : NameTable) (ps : List ReadPiece) (steps : List Step) → All (IsNamed names) steps → All (IsNamed (names_behind names ps)) steps
behind_named names [] steps named = named
behind_named names (p ∷ ps) steps named = behind_named (with_table names p.told.names) ps steps (still_named names p.told.names steps named)

-- and so have sites
sites_behind_named : (names : NameTable) (ps : List ReadPiece) (sites : List ℕ) → All (HasSiteName names) sites → All (HasSiteName (names_behind names ps)) sites
sites_behind_named names [] sites named = named
sites_behind_named names (p ∷ ps) sites named = sites_behind_named (with_table names p.told.names) ps sites (sites_still_named names p.told.names sites named)

-- the first piece
first_by : (reader : Reached) (t : Recording) (z : ReadPiece) (zs : List ReadPiece) (names : NameTable) (read : List ReadPiece) → StandInFront names reader read → All IsWhole read
    → AreReady reader.place.number names read (z ∷ zs) → t.names ≡ names_behind names read → MayBeAdded reader t z
first_by reader t z zs names [] front whole ready named = absurd ready
first_by reader t z zs names (p ∷ ps) front whole ready named =
    let all : NameTable = with_table names p.told.names in
    let steps : All (IsNamed all) z.steps =
    subst (λ (s : List Step). All (IsNamed all) s) (sym ready.0.steps) (new_named names p.told.names p.told.steps ready.0.named) in
    let sites : All (HasSiteName all) z.sites =
    subst (λ (s : List ℕ). All (HasSiteName all) s) (sym ready.0.sites) (new_sites_named names p.told.names p.told.sites ready.0.named_sites) in
    record {
      read = p;
      before = names;
      names = all;
      front = first_in_front names reader p ps front;
      whole = All-head IsWhole p ps whole;
      ready = ready.0;
      named = subst (λ (n : NameTable). All (IsNamed n) z.steps) (sym named) (behind_named all ps z.steps steps);
      named_sites = subst (λ (n : NameTable). All (HasSiteName n) z.sites) (sym named) (sites_behind_named all ps z.sites sites);
    }

pub first_may : (reader : Reached) (t : Recording) (z : ReadPiece) (zs : List ReadPiece) → MayAllBeAdded reader t (z ∷ zs) → MayBeAdded reader t z
first_may reader t z zs may = first_by reader t z zs may.names may.read may.front may.whole may.ready may.named

-- past the first piece
module _ (old mid : Reached) (t u : Recording) (z : ReadPiece) (zs : List ReadPiece) (stage : mid.stage ≡ old.stage) (idle : mid.idle ≡ old.idle)
    (number : mid.place.number ≡ old.place.number + z.lines) (start : mid.place.start ≡ old.place.start + z.len) (limit : mid.place.limit ≡ old.place.limit)
    (ahead : mid.place.ahead ≡ drop z.len old.place.ahead) (same : u.names ≡ t.names) where
  module _ (p : ReadPiece) (ps : List ReadPiece) (names : NameTable) (front : StandInFront names old (p ∷ ps)) (ready : AreReady old.place.number names (p ∷ ps) (z ∷ zs)) where
    next_front : StandInFront (with_table names p.told.names) mid ps
    next_front =
        others_in_front names old mid p ps front stage idle (start ∙ ap (λ (n : ℕ). old.place.start + n) ready.0.len) limit (ahead ∙ ap (λ (n : ℕ). drop n old.place.ahead) ready.0.len)

    next_ready : AreReady mid.place.number (with_table names p.told.names) ps zs
    next_ready =
        subst (λ (n : ℕ). AreReady n (with_table names p.told.names) ps zs) (sym (number ∙ ap (λ (n : ℕ). old.place.number + n) ready.0.lines)) ready.1

  others_by : (names : NameTable) (read : List ReadPiece) → StandInFront names old read → All IsWhole read → AreReady old.place.number names read (z ∷ zs) → t.names ≡ names_behind names read
      → MayAllBeAdded mid u zs
  others_by names [] front whole ready named = absurd ready
  others_by names (p ∷ ps) front whole ready named = record {
    read = ps;
    names = with_table names p.told.names;
    front = next_front p ps names front ready;
    whole = All-tail IsWhole p ps whole;
    ready = next_ready p ps names front ready;
    named = same ∙ named;
  }

  pub others_may : MayAllBeAdded old t (z ∷ zs) → MayAllBeAdded mid u zs
  others_may may = others_by may.names may.read may.front may.whole may.ready may.named

  -- what the first piece gives, and then the others
  pub told_on : (text : List ℕ) (steps : List Step) (numbers sites : List ℕ) (known : Option (List ℕ)) (G : Type 0)
      → ((names : NameTable) (read : ReadPiece) → StandsInFront names old read → read.whole ≡ true → IsReady old.place.number (with_table names read.told.names) read z
      → HasRead text steps numbers sites old known (record t { names = names }) → HasRead text steps numbers sites mid known (record u { names = with_table names read.told.names }))
      → ((names : NameTable) (read : List ReadPiece) → StandInFront names mid read → All IsWhole read → AreReady mid.place.number names read zs → u.names ≡ names_behind names read
      → HasRead text steps numbers sites mid known (record u { names = names }) → G)
      → (names : NameTable) (read : List ReadPiece) → StandInFront names old read → All IsWhole read → AreReady old.place.number names read (z ∷ zs) → t.names ≡ names_behind names read
      → HasRead text steps numbers sites old known (record t { names = names }) → G
  told_on text steps numbers sites known G one others names [] front whole ready named had = absurd ready
  told_on text steps numbers sites known G one others names (p ∷ ps) front whole ready named had =
      others (with_table names p.told.names) ps (next_front p ps names front ready) (All-tail IsWhole p ps whole) (next_ready p ps names front ready) (same ∙ named)
      (one names p (first_in_front names old p ps front) (All-head IsWhole p ps whole) ready.0 had)

-- once all pieces are added the names are those of the trace
pub names_are : (n : ℕ) (names : NameTable) (read pieces : List ReadPiece) (t : Recording) → length pieces ≡ 0 → AreReady n names read pieces → t.names ≡ names_behind names read
    → record t { names = names } ≡ t
names_are n names [] [] t none ready named = ap (λ (x : NameTable). record t { names = x }) (sym named)
names_are n names [] (z ∷ zs) t none ready named = absurd ready
names_are n names (p ∷ ps) [] t none ready named = absurd ready
names_are n names (p ∷ ps) (z ∷ zs) t none ready named = absurd (omega (arith, none))

-- names that had numbers keep them
keeps_behind : (names : NameTable) (ps : List ReadPiece) → KeepsNames names (names_behind names ps)
keeps_behind names [] = record { threads = λ n x e. e; locks = λ n x e. e; sites = λ n x e. e }
keeps_behind names (p ∷ ps) =
    let first : KeepsNames names (with_table names p.told.names) =
    (appended_grows 0 (record no_steps { names = names }) (record no_steps { names = p.told.names })).names in
    let others = keeps_behind (with_table names p.told.names) ps in
    record {
      threads = λ n x e. others.threads n x (first.threads n x e);
      locks = λ n x e. others.locks n x (first.locks n x e);
      sites = λ n x e. others.sites n x (first.sites n x e);
    }

pub names_kept : (t u v : Recording) (ps : List ReadPiece) → u ≡ record t { names = names_behind t.names ps } → v.names ≡ u.names → KeepsNames t.names v.names
names_kept t u v ps is same = subst (λ (names : NameTable). KeepsNames t.names names) (sym (same ∙ ap (λ (r : Recording). r.names) is)) (keeps_behind t.names ps)

-- the first piece has as many bytes as when it was read
entered_first : (before : ℕ) (names : NameTable) (ps qs : List ReadPiece) → AreEntered before names ps qs → first_len qs ≡ first_len ps
entered_first before names [] [] entered = refl
entered_first before names [] (q ∷ qs) entered = absurd entered
entered_first before names (p ∷ ps) [] entered = absurd entered
entered_first before names (p ∷ ps) (q ∷ qs) entered = entered.0.len

numbered_first : (ps qs : List ReadPiece) → AreNumbered ps qs → first_len qs ≡ first_len ps
numbered_first [] [] numbered = refl
numbered_first [] (q ∷ qs) numbered = absurd numbered
numbered_first (p ∷ ps) [] numbered = absurd numbered
numbered_first (p ∷ ps) (q ∷ qs) numbered = numbered.0.len

pub same_first : (all some qs zs : List ReadPiece) (n before : ℕ) (names : NameTable) → some ≡ take n all → n ≡ length all → AreEntered before names some qs → AreNumbered qs zs
    → first_len zs ≡ first_len all
same_first all some qs zs n before names is whole entered numbered =
    numbered_first qs zs numbered ∙ entered_first before names some qs entered ∙ ap first_len (is ∙ take_all n all (omega (arith, whole)))

-- the first pieces in front of a reader
front_pieces : (v : Version) (names : NameTable) (front : List ℕ) (ps : List ReadPiece) (n : ℕ) → ArePiecesOf v names front ps
    → (a : List ℕ) × (b : List ℕ) × (front ≡ a ++ b) × ArePiecesOf v names a (take n ps)
front_pieces v names front ps zero are = ([], front, refl, refl)
front_pieces v names front [] (suc n) are = ([], front, refl, refl)
front_pieces v names front (p ∷ ps) (suc n) are =
    let rest = front_pieces v names (drop p.len front) ps n are.3 in
    let c : List ℕ = take p.len front in
    let long : length c ≡ p.len = length-take-le p.len front are.0 in
    let whole : take p.len (c ++ rest.0) ≡ c = take-append-le p.len c rest.0 (omega (arith, long)) ∙ take_all p.len c (omega (arith, long)) in
    let others : drop p.len (c ++ rest.0) ≡ rest.0 = ap (λ (n : ℕ). drop n (c ++ rest.0)) (sym long) ∙ drop-append_seam c rest.0 in (
      c ++ rest.0,
      rest.1,
      sym (take-append-drop p.len front) ∙ ap (λ (l : List ℕ). c ++ l) rest.2 ∙ sym (append_assoc c rest.0 rest.1),
      (
        omega (arith, long, length-append c rest.0),
        subst AreWhole (sym whole) are.1,
        subst (λ (l : List ℕ). IsPieceOf v names l p) (sym whole) are.2,
        subst (λ (l : List ℕ). ArePiecesOf v names l (take n ps)) (sym others) rest.3,
      ),
    )

front_of : (names : NameTable) (reader : Reached) (ps : List ReadPiece) (n : ℕ) → StandInFront names reader ps → StandInFront names reader (take n ps)
front_of names reader ps n all =
    let some = front_pieces all.version names all.front ps n all.read in
    record {
      version = all.version;
      stage = all.stage;
      idle = all.idle;
      front = some.0;
      more = some.1 ++ all.more;
      ahead = all.ahead ∙ ap (λ (l : List ℕ). l ++ all.more) some.2 ∙ append_assoc some.0 some.1 all.more;
      within = omega (arith, all.within, ap length some.2, length-append some.0 some.1);
      read = some.3;
    }

-- of the pieces in front those of which all was read
module _ (t : Recording) (reader : Reached) (all some : List ReadPiece) (n before : ℕ) (front : StandInFront t.names reader all) (is : some ≡ take n all) (whole : All IsWhole (take n all)) where
  some_front : StandInFront t.names reader some
  some_front = subst (λ (l : List ReadPiece). StandInFront t.names reader l) (sym is) (front_of t.names reader all n front)

  some_whole : All IsWhole some
  some_whole = subst (λ (l : List ReadPiece). All IsWhole l) (sym is) whole

  pub some_fit : before ≤ reader.place.limit + 1 → reader.place.limit ≤ 2 ^ 62 → FitBehind before some
  some_fit bound limit = fit_behind t.names reader some before (reader.place.limit + reader.place.limit + 1) some_front some_whole (omega (arith, bound)) (omega (arith, limit))

  pub may_add : (u : Recording) (qs zs : List ReadPiece) → before ≡ reader.place.number → AreEntered before t.names some qs → AreNumbered qs zs
      → u ≡ record t { names = names_behind t.names some } → MayAllBeAdded reader u zs
  may_add u qs zs number entered numbered names = record {
    read = some;
    names = t.names;
    front = some_front;
    whole = some_whole;
    ready = subst (λ (n : ℕ). AreReady n t.names some zs) number (all_ready before t.names some qs zs entered numbered);
    named = ap (λ (r : Recording). r.names) names;
  }

  -- what they give, once they are added
  pub told_some : (text : List ℕ) (steps : List Step) (numbers sites : List ℕ) (known : Option (List ℕ)) (u : Recording) (qs zs : List ReadPiece) (G : Type 0) → before ≡ reader.place.number
      → AreEntered before t.names some qs → AreNumbered qs zs → u ≡ record t { names = names_behind t.names some }
      → ((names : NameTable) (read : List ReadPiece) → StandInFront names reader read → All IsWhole read → AreReady reader.place.number names read zs → u.names ≡ names_behind names read
      → HasRead text steps numbers sites reader known (record u { names = names }) → G)
      → HasRead text steps numbers sites reader known t → G
  told_some text steps numbers sites known u qs zs G number entered numbered names gives read =
      let same : record u { names = t.names } ≡ t = ap (λ (r : Recording). record r { names = t.names }) names in
      gives t.names some some_front some_whole (subst (λ (n : ℕ). AreReady n t.names some zs) number (all_ready before t.names some qs zs entered numbered))
      (ap (λ (r : Recording). r.names) names) (subst (λ (r : Recording). HasRead text steps numbers sites reader known r) (sym same) read)
