-- A pass that forgets its steps stands for all of them, and at the end for those of the text.
use Rattle.std.proofs.Common.{◌≡◌, ℕ, Bool, false, List, [], ◌++◌, length, Option, Some, None, IfSome, IfOk, Result, Ok, Err, cond, refl, sym, ap, subst, ◌∙◌, arith}
use Rattle.std.specs.List.{All}
use Rattle.std.proofs.lemmas.List.{length-append}
use Rattle.std.proofs.lemmas.List.Elements.{All-append, All-nil}
use Rattle.er_places.specs.Facts.{FactTable}
use Rattle.er_event.specs.declared.steps.Step.{Step}
use Rattle.er_places.proofs.FrontLemmas.{in-front}
use Rattle.er_places.proofs.NameLemmas.{all-named, are-named}
use Rattle.er_places.proofs.PlaceLemmas.{found-all}
use Rattle.er_places.specs.Inner.Following.{Followed, HasAll, HasCome, HasEnded, HasFollowed}
use Rattle.er_places.specs.Places.{place_at, place_below, ArePlaces, HasPlaces, PlaceTable, place_on}
use Rattle.er_places.specs.declared.places.Place.{Place}
use Rattle.er_text.proofs.BatchLaws.{forgotten}
use Rattle.er_text.proofs.TextLaws.{same_trace}
use Rattle.er_text.specs.Batches.{joined, HasRead, GivesBatch}
use Rattle.er_text.specs.Named.{Grows, KeepsNames}
use Rattle.er_text.specs.Places.{Reached}
use Rattle.er_text.specs.Trace.{IsTrace}
use Rattle.er_lines.specs.declared.faults.ReadFault.{ReadFault}
use Rattle.er_text.specs.declared.reading.Batch.{Batch}
use Rattle.er_text.specs.declared.reading.Batch.TheVariants.{More, End}
use Rattle.er_trace.specs.Names.{NameTable, no_names}
use Rattle.er_trace.specs.Trace.{IsNamed, Recording, no_steps, without_steps}

-- a batch
module _ (wants : ℕ → Bool) (told : Option (List ℕ)) (old new : Reached) (known rest : Option (List ℕ)) (t u : Recording) (batch : Batch) (seen after_it : Followed)
    (state : HasCome wants told known old t seen)
    (gives : (text : List ℕ) (steps : List Step) (numbers sites : List ℕ) → HasRead text steps numbers sites old known t → GivesBatch text steps numbers sites new rest u (Ok batch))
    (kept : KeepsNames t.names u.names) (level : length u.lines ≡ length u.steps) (named : All (IsNamed u.names) u.steps)
    (stands : HasFollowed wants after_it (state.past ++ u.steps) (state.lines ++ u.lines)) where
  all : All (IsNamed u.names) (state.past ++ u.steps)
  all = All-append (IsNamed u.names) state.past u.steps (all-named t.names u.names kept state.past state.named) named

  part : batch ≡ More → (o : Option (List ℕ)) → IfSome o (λ text. HasRead text state.past state.lines state.sites old known t)
      → IfSome o (λ text. HasRead text (state.past ++ u.steps) (state.lines ++ u.lines) (state.sites ++ u.sites) new rest (without_steps u))
  part is None read = tt
  part is (Some text) read =
      forgotten text state.past state.lines state.sites new rest u (subst (λ (b : Batch). GivesBatch text state.past state.lines state.sites new rest u (Ok b)) is (gives text state.past state.lines state.sites read))

  pub come-part : batch ≡ More → HasCome wants told rest new (without_steps u) after_it
  come-part is =
      let even : length state.lines ≡ length state.past = state.even in
      record {
        past = state.past ++ u.steps;
        lines = state.lines ++ u.lines;
        sites = state.sites ++ u.sites;
        read = part is told state.read;
        even = omega (arith, length-append state.past u.steps, length-append state.lines u.lines);
        named = all;
        stands = stands;
      }

  abbrev found : FactTable → PlaceTable
  found facts = record { places = after_it.places; names = u.names; facts = facts }

  names_kept : KeepsNames u.names u.names
  names_kept = record { threads = λ n name is. is; locks = λ n name is. is; sites = λ n name is. is }

  -- the last batch has the rest of the text's steps
  whole : batch ≡ End → new.place.limit ≡ old.place.limit → (facts : FactTable) (o : Option (List ℕ)) → IfSome o (λ text. HasRead text state.past state.lines state.sites old known t)
      → IfSome o (λ text. ArePlaces wants text old.place.limit (found facts))
  whole is limit facts None read = tt
  whole is limit facts (Some text) read = λ r trace.
      let here : IsTrace text old.place.limit (joined state.past state.lines state.sites u) =
      subst (λ (n : ℕ). IsTrace text n (joined state.past state.lines state.sites u)) limit
      (subst (λ (b : Batch). GivesBatch text state.past state.lines state.sites new rest u (Ok b)) is (gives text state.past state.lines state.sites read)) in
      subst (λ (x : Recording). HasPlaces wants x (found facts)) (same_trace text old.place.limit (joined state.past state.lines state.sites u) r here trace)
      (record { places = stands.places; names = names_kept })

  pub come-whole : batch ≡ End → new.place.limit ≡ old.place.limit → HasEnded wants told old.place.limit u after_it
  come-whole is limit =
      record {
        named = are-named u.names (state.past ++ u.steps) (state.lines ++ u.lines) all wants after_it stands;
        found = λ facts. whole is limit facts told state.read;
      }

  -- and where each wanted line has its place, later batches change nothing
  enough : batch ≡ More → new.place.limit ≡ old.place.limit → HasAll wants after_it.places → (facts : FactTable) (o : Option (List ℕ)) → IfSome o (λ text. HasRead text state.past state.lines state.sites old known t)
      → IfSome o (λ text. ArePlaces wants text old.place.limit (found facts))
  enough is limit has facts None read = tt
  enough is limit has facts (Some text) read = λ r trace.
      let so_far : HasRead text state.past state.lines state.sites new rest u = subst (λ (b : Batch). GivesBatch text state.past state.lines state.sites new rest u (Ok b)) is (gives text state.past state.lines state.sites read) in
      let grows : Grows (joined state.past state.lines state.sites u) r = in-front text state.past state.lines state.sites new rest u r so_far (subst (λ (n : ℕ). IsTrace text n r) (sym limit) trace) in
      let even : length state.lines ≡ length state.past = state.even in
      let level_all : length (state.lines ++ u.lines) ≡ length (state.past ++ u.steps) = omega (arith, length-append state.past u.steps, length-append state.lines u.lines) in
      record {
        places = λ l. found-all wants after_it (state.past ++ u.steps) grows.more (state.lines ++ u.lines) grows.others level_all stands has l
            ∙ ap (λ (o : Option Place). cond (wants l) o None)
            (ap (λ (steps : List Step). place_below steps ((state.lines ++ u.lines) ++ grows.others) l (length steps)) (sym grows.steps)
            ∙ ap (λ (lines : List ℕ). place_below r.steps lines l (length r.steps)) (sym grows.lines));
        names = grows.names;
      }

  pub come-enough : batch ≡ More → new.place.limit ≡ old.place.limit → HasAll wants after_it.places → HasEnded wants told old.place.limit u after_it
  come-enough is limit has =
      record {
        named = are-named u.names (state.past ++ u.steps) (state.lines ++ u.lines) all wants after_it stands;
        found = λ facts. enough is limit has facts told state.read;
      }

-- before the first batch
pub come-start : (wants : ℕ → Bool) (reader : Reached) (trace : Recording) (seen : Followed) → trace ≡ no_steps → ((text : List ℕ) → HasRead text [] [] [] reader (Some text) no_steps)
    → HasFollowed wants seen [] [] → (told : Option (List ℕ)) → HasCome wants told told reader trace seen
come-start wants reader trace seen empty starts stands told =
    subst (λ (t : Recording). HasCome wants told told reader t seen) (sym empty)
    (record { past = []; lines = []; sites = []; read = read-by told; even = refl; named = All-nil (IsNamed no_names); stands = stands })
  where
    read-by : (o : Option (List ℕ)) → IfSome o (λ text. HasRead text [] [] [] reader o no_steps)
    read-by None = tt
    read-by (Some text) = starts text

-- once no more can be found
pub places-found : (wants : ℕ → Bool) (told : Option (List ℕ)) (limit : ℕ) (trace : Recording) (seen : Followed) (table : PlaceTable) → HasEnded wants told limit trace seen
    → table.places ≡ seen.places → table.names ≡ trace.names → IfSome told (λ text. ArePlaces wants text limit table)
places-found wants told limit trace seen table ended places names =
    subst (λ (x : PlaceTable). IfSome told (λ text. ArePlaces wants text limit x)) (sym (λ i. record { places = places i; names = names i; facts = table.facts })) (ended.found table.facts)

-- where nothing is asked, no place is one too many
named_none : (names : NameTable) → KeepsNames no_names names
named_none names = record { threads = λ n name is. absurd (cc); locks = λ n name is. absurd (cc); sites = λ n name is. absurd (cc) }

pub places-none : (asked : ℕ → Bool) (told : Option (List ℕ)) (limit : ℕ) (table : PlaceTable) → ((line : ℕ) → asked line ≡ false) → ((line : ℕ) → place_at table line ≡ None)
    → table.names ≡ no_names → IfSome told (λ text. ArePlaces asked text limit table)
places-none asked None limit table none empty names = tt
places-none asked (Some text) limit table none empty names = λ r is.
    record {
      places = λ line. empty line ∙ ap (λ (b : Bool). cond b (place_on r line) None) (sym (none line));
      names = subst (λ (n : NameTable). KeepsNames n r.names) (sym names) (named_none r.names);
    }

-- what is asked is what is wanted
same-cond : (one other : Bool) (o : Option Place) → one ≡ other → cond one o None ≡ cond other o None
same-cond one other o same = ap (λ (b : Bool). cond b o None) same

pub places-asked : (one other : ℕ → Bool) (told : Option (List ℕ)) (limit : ℕ) (result : Result PlaceTable ReadFault) → ((line : ℕ) → one line ≡ other line)
    → IfOk result (λ table. IfSome told (λ text. ArePlaces one text limit table)) → IfOk result (λ table. IfSome told (λ text. ArePlaces other text limit table))
places-asked one other told limit (Err why) same found = tt
places-asked one other None limit (Ok table) same found = tt
places-asked one other (Some text) limit (Ok table) same found = λ r is.
    let has : HasPlaces one r table = found r is in
    record { places = λ line. has.places line ∙ same-cond (one line) (other line) (place_on r line) (same line); names = has.names }
