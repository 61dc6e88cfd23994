-- The names that a trace numbers are such as its lines may write.
use Rattle.std.proofs.Common.{◌≡◌, ℕ, Bool, true, false, cond, List, [], ◌∷◌, ◌++◌, Option, Some, None, All, codes, refl, sym, subst, arith}
use Rattle.std.specs.Str.{bytes_eq}
use Rattle.std.proofs.lemmas.List.Elements.{All-push}
use Rattle.er_text.specs.Events.{EventLine, Operation, Acquires, Releases, Accesses, Reuses, IgnoresOn, IgnoresOff, Shows, Levels, Starts, Joins, Signals, Awaits, with_line, with_operation, with_site_of}
use Rattle.er_lines.specs.Lines.{Placed}
use Rattle.er_lines.specs.Naming.{is_name, is_site_name}
use Rattle.er_text.specs.Naming.{is_site_word}
use Rattle.er_text.specs.Trace.{AllSay, IsOperation, IsReuseSite, IsSite, IsTrace, with_lines}
use Rattle.er_text.specs.declared.verbs.Version.{Version}
use Rattle.er_text.specs.declared.verbs.Version.TheVariants.{One, Two, Three}
use Rattle.er_text.proofs.SiteLemmas.{name_word}
use Rattle.er_trace.specs.Names.{is_known, number_of, with_name}
use Rattle.er_trace.specs.Trace.{Recording, no_steps, with_thread_name}
use Rattle.er_triage.specs.Sound.{AreSound, NamesSite}

-- a name more
grown : (P : List ℕ → Type 0) (names : List (List ℕ)) (name : List ℕ) → All P names → P name → All P (with_name names name)
grown P names name all one = by (is_known names name)
  where
    by : (b : Bool) → All P (cond b names (names ++ name ∷ []))
    by true = all
    by false = All-push P names name all one

thread_more : (r : Recording) (name : List ℕ) → AreSound r.names → is_name name ≡ true → AreSound (with_thread_name r name).names
thread_more r name sound is = record { threads = grown (λ n. is_name n ≡ true) r.names.threads name sound.threads is; sites = sound.sites }

-- each version's sites are names of the third
third : (v : Version) (word : List ℕ) → is_site_word v word ≡ true → is_site_name word ≡ true
third One word is = name_word Three word is
third Two word is = name_word Three word is
third Three word is = is

some_site : (r : Recording) (word : List ℕ) (dash : Bool) → bytes_eq word (codes "-") ≡ dash → is_site_name word ≡ true → AreSound r.names
    → AreSound (with_site_of r (cond dash None (Some word))).names
some_site r word true e is sound = sound
some_site r word false e is sound = record { threads = sound.threads; sites = grown NamesSite r.names.sites word sound.sites (is, e) }

site_more : (v : Version) (words : List (List ℕ)) (site : Option (List ℕ)) (r : Recording) → IsSite v words site → AreSound r.names → AreSound (with_site_of r site).names
site_more v [] site r is sound = subst (λ (o : Option (List ℕ)). AreSound (with_site_of r o).names) (sym is) sound
site_more v (word ∷ []) site r is sound =
    subst (λ (o : Option (List ℕ)). AreSound (with_site_of r o).names) (sym is.1) (some_site r word (bytes_eq word (codes "-")) refl (third v word is.0) sound)
site_more v (word ∷ more ∷ words) site r is sound = absurd is

reuse_more : (v : Version) (words : List (List ℕ)) (site : Option (List ℕ)) (r : Recording) → IsReuseSite v words site → AreSound r.names → AreSound (with_site_of r site).names
reuse_more v [] site r is sound = site_more v [] site r is sound
reuse_more v (word ∷ words) site r is sound = site_more v (word ∷ words) site r is.1 sound

operation_more : (v : Version) (words : List (List ℕ)) (thread : List ℕ) (line number : ℕ) (d : Operation) (r : Recording) → IsOperation v words thread d → AreSound r.names
    → AreSound (with_operation line number d r).names
operation_more v words thread line number (Acquires lock m) r is sound = record { threads = sound.threads; sites = sound.sites }
operation_more v words thread line number (Releases lock m) r is sound = record { threads = sound.threads; sites = sound.sites }
operation_more v words thread line number (Accesses k w site) r is sound = site_more v is.2 site r is.7 sound
operation_more v words thread line number (Reuses run site) r is sound = reuse_more v is.4 site r is.12 sound
operation_more v words thread line number IgnoresOn r is sound = sound
operation_more v words thread line number IgnoresOff r is sound = sound
operation_more v words thread line number (Shows w) r is sound = sound
operation_more v words thread line number (Levels n) r is sound = sound
operation_more v words thread line number (Starts other) r is sound = thread_more r other sound is.1
operation_more v words thread line number (Joins other) r is sound = thread_more r other sound is.1
operation_more v words thread line number (Signals object) r is sound = record { threads = sound.threads; sites = sound.sites }
operation_more v words thread line number (Awaits object) r is sound = record { threads = sound.threads; sites = sound.sites }

lines_more : (v : Version) (events : List Placed) (lines : List EventLine) (r : Recording) → AllSay v events lines → AreSound r.names → AreSound (with_lines events lines r).names
lines_more v [] [] r says sound = sound
lines_more v [] (s ∷ ss) r says sound = absurd says
lines_more v (p ∷ ps) [] r says sound = absurd says
lines_more v (p ∷ ps) (s ∷ ss) r says sound =
    lines_more v ps ss (with_line p.number s r) says.1
    (operation_more v _ s.thread p.number (number_of r.names.threads s.thread) s.operation (with_thread_name r s.thread) says.0.1 (thread_more r s.thread sound says.0.0))

pub trace_names : (text : List ℕ) (limit : ℕ) (t : Recording) → IsTrace text limit t → AreSound t.names
trace_names text limit t is =
    let none : AreSound no_steps.names = record { threads = λ k d h. absurd (omega arith); sites = λ k d h. absurd (omega arith) } in
    subst (λ (r : Recording). AreSound r.names) (sym is.told) (lines_more is.version is.events is.event_lines no_steps is.says none)
