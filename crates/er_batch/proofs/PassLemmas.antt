-- What stands for the steps of a text goes on with each batch, and with the last one it stands for the whole text.
use Rattle.std.proofs.Common.{◌≡◌, ◌+◌, ◌-◌, ◌^◌, ◌++◌, ℕ, min, List, [], ◌∷◌, append-nil, length, Option, Some, None, IfSome, Ok, refl, sym, ap, subst, ◌∙◌, arith}
use Rattle.std.proofs.lemmas.List.{length-append}
use Rattle.std.proofs.lemmas.List.Elements.{All-filter, filter-append}
use Rattle.std.specs.List.{count_by, filter}
use Rattle.er_batch.specs.Analysts.{HasCounted, IsAnswered}
use Rattle.er_batch.specs.Inner.Passes.{HasCome, HasEnded, StandsFor}
use Rattle.er_batch.specs.Runs.{IsPartOf, recorded}
use Rattle.er_reading.proofs.ChunkLemmas.{with_none}
use Rattle.er_reading.specs.Chunks.{AreEmpty, AreFormed, IsEmpty, IsFormed, chunk_lines, chunk_sites, chunk_steps}
use Rattle.er_reading.specs.declared.chunks.Chunk.{Chunk}
use Rattle.er_event.specs.declared.steps.Step.{Step}
use Rattle.er_parts.proofs.KeepLemmas.{count-append, kept-all, kept-append, kept-long}
use Rattle.er_parts.specs.Parts.{PartView, is_of_page, kept, kept_beside, takes}
use Rattle.er_text.specs.Batches.{joined, HasRead, GivesBatch}
use Rattle.er_text.specs.Ending.{KnowsEnd, IsEndingOf}
use Rattle.er_text.specs.Places.{Reached}
use Rattle.er_text.specs.declared.endings.Ending.{Ending}
use Rattle.er_text.specs.declared.reading.Batch.{Batch}
use Rattle.er_text.specs.declared.reading.Batch.TheVariants.{More, End}
use Rattle.er_trace.specs.Names.{NameTable}
use Rattle.er_text.specs.Trace.{IsTrace}
use Rattle.er_trace.specs.Trace.{HasSiteName, IsNamed, Recording, no_steps, without_steps}

-- two lists of which each is as long as another one
both-long : {A B : Type 0} (xs ys : List A) (steps more : List B) → length xs ≡ length steps → length ys ≡ length more → length (xs ++ ys) ≡ length (steps ++ more)
both-long xs ys steps more long others = length-append xs ys ∙ ap (λ n. n + length ys) long ∙ ap (λ n. length steps + n) others ∙ sym (length-append steps more)

-- a batch is read behind one that was read before, which is answered
module _ (Stands Later : Recording → Type 0) (told : Option (List ℕ)) (old new : Reached) (known rest : Option (List ℕ)) (t u : Recording) (last fresh : List Chunk) (batch : Batch)
    (come : HasCome Stands told known old t last)
    (gives : (text : List ℕ) (steps : List Step) (lines sites : List ℕ) → HasRead text steps lines sites old known t
    → GivesBatch text (steps ++ chunk_steps fresh) (lines ++ chunk_lines fresh) (sites ++ chunk_sites fresh) new rest u (Ok batch))
    (empty : u ≡ without_steps u)
    (goes_on : (past : List Step) (lines sites : List ℕ) → Stands (recorded past lines sites t.names) → Later (recorded (past ++ chunk_steps last) (lines ++ chunk_lines last) (sites ++ chunk_sites last) u.names)) where
  pub part : batch ≡ More → HasCome Later told rest new u fresh
  part is = record {
    past = come.past ++ chunk_steps last;
    lines = come.lines ++ chunk_lines last;
    sites = come.sites ++ chunk_sites last;
    read = by told come.read;
    empty = empty;
    stands = goes_on come.past come.lines come.sites come.stands;
  }
    where
      by : (o : Option (List ℕ)) → IfSome o (λ text. HasRead text (come.past ++ chunk_steps last) (come.lines ++ chunk_lines last) (come.sites ++ chunk_sites last) old known t)
          → IfSome o (λ text. HasRead text ((come.past ++ chunk_steps last) ++ chunk_steps fresh) ((come.lines ++ chunk_lines last) ++ chunk_lines fresh) ((come.sites ++ chunk_sites last) ++ chunk_sites fresh) new rest u)
      by None read = tt
      by (Some text) read =
          subst (λ (b : Batch). GivesBatch text ((come.past ++ chunk_steps last) ++ chunk_steps fresh) ((come.lines ++ chunk_lines last) ++ chunk_lines fresh) ((come.sites ++ chunk_sites last) ++ chunk_sites fresh) new rest u (Ok b)) is
          (gives text (come.past ++ chunk_steps last) (come.lines ++ chunk_lines last) (come.sites ++ chunk_sites last) read)

  -- with the last batch, which is answered behind that
  pub whole : (Last : Recording → Type 0)
      → ((past : List Step) (lines sites : List ℕ) → Later (recorded past lines sites u.names) → Last (recorded (past ++ chunk_steps fresh) (lines ++ chunk_lines fresh) (sites ++ chunk_sites fresh) u.names))
      → batch ≡ End → new.place.limit ≡ old.place.limit → HasEnded Last told old.place.limit u.names
  whole Last ends is limit = record {
    recording = recorded ((come.past ++ chunk_steps last) ++ chunk_steps fresh) ((come.lines ++ chunk_lines last) ++ chunk_lines fresh) ((come.sites ++ chunk_sites last) ++ chunk_sites fresh) u.names;
    trace = by told come.read;
    names = refl;
    stands = ends (come.past ++ chunk_steps last) (come.lines ++ chunk_lines last) (come.sites ++ chunk_sites last) (goes_on come.past come.lines come.sites come.stands);
  }
    where
      alone : (past : List Step) (lines sites : List ℕ) → joined past lines sites u ≡ recorded past lines sites u.names
      alone past lines sites =
          ap (joined past lines sites) empty
          ∙ ap (λ (xs : List Step). recorded xs (lines ++ []) (sites ++ []) u.names) (append-nil past)
          ∙ ap (λ (xs : List ℕ). recorded past xs (sites ++ []) u.names) (append-nil lines)
          ∙ ap (λ (xs : List ℕ). recorded past lines xs u.names) (append-nil sites)

      by : (o : Option (List ℕ)) → IfSome o (λ text. HasRead text (come.past ++ chunk_steps last) (come.lines ++ chunk_lines last) (come.sites ++ chunk_sites last) old known t)
          → IfSome o (λ text. IsTrace text old.place.limit
          (recorded ((come.past ++ chunk_steps last) ++ chunk_steps fresh) ((come.lines ++ chunk_lines last) ++ chunk_lines fresh) ((come.sites ++ chunk_sites last) ++ chunk_sites fresh) u.names))
      by None read = tt
      by (Some text) read =
          subst (λ (r : Recording). IsTrace text old.place.limit r) (alone _ _ _)
          (subst (λ (n : ℕ). IsTrace text n (joined ((come.past ++ chunk_steps last) ++ chunk_steps fresh) ((come.lines ++ chunk_lines last) ++ chunk_lines fresh) ((come.sites ++ chunk_sites last) ++ chunk_sites fresh) u)) limit
          (subst (λ (b : Batch). GivesBatch text ((come.past ++ chunk_steps last) ++ chunk_steps fresh) ((come.lines ++ chunk_lines last) ++ chunk_lines fresh) ((come.sites ++ chunk_sites last) ++ chunk_sites fresh) new rest u (Ok b)) is
          (gives text (come.past ++ chunk_steps last) (come.lines ++ chunk_lines last) (come.sites ++ chunk_sites last) read)))

-- how the text ends, behind the last batch
pub ending-of : (told : Option (List ℕ)) (reader : Reached) (ending : Ending) → IfSome told (λ text. KnowsEnd text reader) → ((text : List ℕ) → KnowsEnd text reader → IsEndingOf text ending)
    → IfSome told (λ text. IsEndingOf text ending)
ending-of None reader ending knows ends = tt
ending-of (Some text) reader ending knows ends = ends text knows

-- before the first batch
pub begun : (Stands : Recording → Type 0) (reader : Reached) (trace : Recording) (last : List Chunk) → trace ≡ no_steps → AreEmpty last
    → ((text : List ℕ) → HasRead text [] [] [] reader (Some text) no_steps) → Stands no_steps → (told : Option (List ℕ)) → HasCome Stands told told reader trace last
begun Stands reader trace last empty none starts stands told =
    rw empty
    (record { past = []; lines = []; sites = []; read = read-by told; empty = refl; stands = stands })
  where
    read-by : (o : Option (List ℕ)) → IfSome o (λ text. HasRead text (chunk_steps last) (chunk_lines last) (chunk_sites last) reader o no_steps)
    read-by None = tt
    read-by (Some text) = with_none (λ (s : List Step) (n p : List ℕ). HasRead text s n p reader (Some text) no_steps) [] [] [] last none (starts text)

-- where a pass has come to, by other names of the same
pub moved : (Stands : Recording → Type 0) (told rest left : Option (List ℕ)) (new reader : Reached) (u v : Recording) (fresh last : List Chunk) → left ≡ rest → reader ≡ new → v ≡ u → last ≡ fresh
    → HasCome Stands told rest new u fresh → HasCome Stands told left reader v last
moved Stands told rest left new reader u v fresh last text same trace chunks come = rw (text, same, trace, chunks) come

-- what goes on with a batch, by other names of the same
pub on-moved : (Later Last : Recording → Type 0) (u v : Recording) (fresh last : List Chunk) → v ≡ u → last ≡ fresh
    → ((past : List Step) (lines sites : List ℕ) → Later (recorded past lines sites v.names) → Last (recorded (past ++ chunk_steps last) (lines ++ chunk_lines last) (sites ++ chunk_sites last) v.names))
    → (past : List Step) (lines sites : List ℕ) → Later (recorded past lines sites u.names) → Last (recorded (past ++ chunk_steps fresh) (lines ++ chunk_lines fresh) (sites ++ chunk_sites fresh) u.names)
on-moved Later Last u v fresh last same chunks on = rw (same, chunks) at on

-- the chunks of a batch have a line and a site for each step
pub chunks-long : (names : NameTable) (cs : List Chunk) → AreFormed names cs → length (chunk_lines cs) ≡ length (chunk_steps cs)
chunks-long names [] formed = refl
chunks-long names (c ∷ cs) formed = both-long c.lines.items (chunk_lines cs) c.steps.items (chunk_steps cs) formed.0.long (chunks-long names cs formed.1)

pub chunks-sited : (names : NameTable) (cs : List Chunk) → AreFormed names cs → length (chunk_sites cs) ≡ length (chunk_steps cs)
chunks-sited names [] formed = refl
chunks-sited names (c ∷ cs) formed = both-long c.sites.items (chunk_sites cs) c.steps.items (chunk_steps cs) formed.0.one_each (chunks-sited names cs formed.1)

-- a chunk without steps behind others
pub last-empty : (cs : List Chunk) (c : Chunk) → AreEmpty cs → IsEmpty c → AreEmpty (cs ++ c ∷ [])
last-empty [] c empty one = (one, tt)
last-empty (d ∷ ds) c empty one = (empty.0, last-empty ds c empty.1 one)

-- without chunks nothing is kept
pub kept-none-lines : (part : PartView) (cs : List Chunk) → length cs ≡ 0 → chunk_lines cs ≡ kept_beside part (chunk_steps cs) (chunk_lines cs)
unfolding kept_beside
kept-none-lines part [] none = refl
kept-none-lines part (c ∷ cs) none = absurd (omega (arith, none))

pub kept-none-sites : (part : PartView) (cs : List Chunk) → length cs ≡ 0 → chunk_sites cs ≡ kept_beside part (chunk_steps cs) (chunk_sites cs)
unfolding kept_beside
kept-none-sites part [] none = refl
kept-none-sites part (c ∷ cs) none = absurd (omega (arith, none))

-- what stands beside some steps and others is kept as each of them
pub kept-first : (part : PartView) (steps more : List Step) (xs ys kept others : List ℕ) → length xs ≡ length steps → kept ≡ kept_beside part steps xs → others ≡ kept_beside part more ys
    → kept ++ others ≡ kept_beside part (steps ++ more) (xs ++ ys)
kept-first part steps more xs ys kept others long is are = rw (is, are) (sym (kept-append part steps more xs ys long))

-- what is kept of a chunk keeps its form
pub kept-chunk : (part : PartView) (names : NameTable) (c d : Chunk) → d.steps.items ≡ filter (takes part) c.steps.items → d.lines.items ≡ kept_beside part c.steps.items c.lines.items
    → d.sites.items ≡ kept_beside part c.steps.items c.sites.items → IsFormed names c → IsFormed names d
kept-chunk part names c d steps lines sites formed = record {
  named = rw steps (All-filter (takes part) (IsNamed names) c.steps.items formed.named);
  long = rw (steps, lines) (kept-long part c.steps.items c.lines.items formed.long);
  known = rw sites (kept-all (HasSiteName names) part c.steps.items c.sites.items formed.known);
  one_each = rw (steps, sites) (kept-long part c.steps.items c.sites.items formed.one_each);
}

-- what stands for what is kept of the steps so far goes on with what is kept of the next ones
module _ (Before Later : Recording → Type 0) (old mid new : NameTable) (last : List Step) (numbers places : List ℕ) (count counted : ℕ)
    (long : length numbers ≡ length last) (one_each : length places ≡ length last) where
  pub on : (part : Option PartView)
      → ((past : List Step) (lines sites : List ℕ) → Before (recorded past lines sites old)
      → Later (recorded (past ++ (kept part (recorded last numbers places mid)).steps) (lines ++ (kept part (recorded last numbers places mid)).lines) (sites ++ (kept part (recorded last numbers places mid)).sites) new))
      → ((before : List Step) → HasCounted part count before → HasCounted part counted (before ++ (kept part (recorded last numbers places mid)).steps))
      → (past : List Step) (lines sites : List ℕ) → StandsFor part Before count (recorded past lines sites old)
      → StandsFor part Later counted (recorded (past ++ last) (lines ++ numbers) (sites ++ places) new)
  on None step counts past lines sites stands =
      record {
        stands = step past lines sites stands.stands;
        counted = tt;
        long = both-long lines numbers past last stands.long long;
        one_each = both-long sites places past last stands.one_each one_each;
      }
  on (Some part) step counts past lines sites stands =
      record {
        stands =
            rw (filter-append (takes part) past last, kept-append part past last lines numbers stands.long, kept-append part past last sites places stands.one_each)
            (step (filter (takes part) past) (kept_beside part past lines) (kept_beside part past sites) stands.stands);
        counted = rw (filter-append (takes part) past last) (counts (filter (takes part) past) stands.counted);
        long = both-long lines numbers past last stands.long long;
        one_each = both-long sites places past last stands.one_each one_each;
      }

  -- by what was kept
  pub on-kept : (part : Option PartView) (k : Recording) → k ≡ kept part (recorded last numbers places mid)
      → ((past : List Step) (lines sites : List ℕ) → Before (recorded past lines sites old) → Later (recorded (past ++ k.steps) (lines ++ k.lines) (sites ++ k.sites) new))
      → ((before : List Step) → HasCounted part count before → HasCounted part counted (before ++ k.steps))
      → (past : List Step) (lines sites : List ℕ) → StandsFor part Before count (recorded past lines sites old)
      → StandsFor part Later counted (recorded (past ++ last) (lines ++ numbers) (sites ++ places) new)
  on-kept part k is = rw is (on part)

-- the steps of pages of so many steps more
pub counted-more : (part : PartView) (count more all : ℕ) (before steps : List Step) → HasCounted (Some part) count before → more ≡ count_by is_of_page steps
    → all ≡ min (count + more) (2 ^ 64 - 1) → HasCounted (Some part) all (before ++ steps)
counted-more part count more all before steps so_far is sum =
    let known : count ≡ min (count_by is_of_page before) (2 ^ 64 - 1) = so_far in
    let both : count_by is_of_page (before ++ steps) ≡ count_by is_of_page before + count_by is_of_page steps = count-append is_of_page before steps in
    omega (arith, is, sum, known, both)

-- before any step
pub stands-first : (part : Option PartView) (Stands : Recording → Type 0) → Stands no_steps → StandsFor part Stands 0 no_steps
unfolding kept_beside
stands-first None Stands stands = record { stands = stands; counted = tt; long = refl; one_each = refl }
stands-first (Some part) Stands stands = record { stands = stands; counted = refl; long = refl; one_each = refl }

-- at the end of the text
pub answered-by : (part : Option PartView) (Stands : Recording → Type 0) (count : ℕ) (told : Option (List ℕ)) (limit : ℕ) (used : NameTable)
    → HasEnded (StandsFor part Stands count) told limit used → IsAnswered (λ r. Stands r × HasCounted part count r.steps) part told limit used
answered-by part Stands count told limit used ended =
    record {
      recording = kept part ended.recording;
      trace = by told ended.trace;
      names = ended.names ∙ same part;
      stands = (ended.stands.stands, ended.stands.counted);
    }
  where
    by : (o : Option (List ℕ)) → IfSome o (λ text. IsTrace text limit ended.recording) → IfSome o (λ text. IsPartOf part text limit (kept part ended.recording))
    by None trace = tt
    by (Some text) trace = record { whole = ended.recording; trace = trace; kept = refl }

    same : (o : Option PartView) → ended.recording.names ≡ (kept o ended.recording).names
    same None = refl
    same (Some one) = refl

-- one of two
pub first : (P Q : Recording → Type 0) (part : Option PartView) (told : Option (List ℕ)) (limit : ℕ) (used : NameTable) → IsAnswered (λ r. P r × Q r) part told limit used → IsAnswered P part told limit used
first P Q part told limit used all = record { recording = all.recording; trace = all.trace; names = all.names; stands = all.stands.0 }

pub second : (P Q : Recording → Type 0) (part : Option PartView) (told : Option (List ℕ)) (limit : ℕ) (used : NameTable) → IsAnswered (λ r. P r × Q r) part told limit used → IsAnswered Q part told limit used
second P Q part told limit used all = record { recording = all.recording; trace = all.trace; names = all.names; stands = all.stands.1 }
