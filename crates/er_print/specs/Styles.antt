-- How each style writes names.
use Rattle.std.specs.Prelude.{ℕ, zero, suc, ◌-◌, ◌==◌, ◌||◌, cond, nat_le, List, [], ◌∷◌, ◌++◌, flat_map, slice_index_or, drop, length, codes, decimal}
use Rattle.er_event.specs.Lockset.{is_level_lock, level_base}
use Rattle.er_print.specs.Values.{array_text, more_text}
use Rattle.er_print.specs.declared.styles.Style.{Style}
use Rattle.er_print.specs.declared.styles.Style.TheVariants as style
use Rattle.er_report.specs.declared.report.Label.{Label}
use Rattle.er_report.specs.declared.report.Label.TheVariants as label
use Rattle.er_trace.specs.Names.{NameTable}

-- the name of a number, counted from 0
abbrev pub name_at : List (List ℕ) → ℕ → List ℕ
name_at names n = slice_index_or names n []

-- a byte of a string of JSON: a quotation mark and a backslash have a backslash before them
abbrev pub escaped : ℕ → List ℕ
escaped byte = cond (byte == 34 || byte == 92) (92 ∷ byte ∷ []) (byte ∷ [])

-- the bytes of a string
abbrev pub escaped_text : List ℕ → List ℕ
escaped_text bytes = flat_map escaped bytes

-- a string
abbrev pub string_text : List ℕ → List ℕ
string_text bytes = 34 ∷ escaped_text bytes ++ 34 ∷ []

-- a name in so many bytes at most: of a longer one the end
abbrev pub short : ℕ → List ℕ → List ℕ
short most name = cond (nat_le (length name) most) name (codes ".." ++ drop (length name - (most - 2)) name)

-- a name; so many bytes of it are enough where names are short
abbrev pub name_in : Style → ℕ → List ℕ → List ℕ
name_in style.Plain most name = name
name_in style.Json most name = string_text name
name_in style.InString most name = escaped_text name
name_in style.Short most name = short most name

-- the name of a thread
abbrev pub thread_in : Style → NameTable → ℕ → List ℕ
thread_in style names thread = name_in style 24 (name_at names.threads thread)

-- the lock of a level is a mark and the level
abbrev pub level_in : Style → ℕ → List ℕ
level_in style.Plain level = codes "!" ++ decimal level
level_in style.Json level = codes "\"!" ++ decimal level ++ 34 ∷ []
level_in style.InString level = codes "!" ++ decimal level
level_in style.Short level = codes "!" ++ decimal level

-- a lock, which has a name or is that of a level
abbrev pub lock_in : Style → NameTable → ℕ → List ℕ
lock_in style names lock = cond (is_level_lock lock) (level_in style (lock - level_base)) (name_in style 32 (name_at names.locks lock))

-- the missing site
abbrev pub missing_in : Style → List ℕ
missing_in style.Plain = codes "-"
missing_in style.Json = codes "null"
missing_in style.InString = codes "-"
missing_in style.Short = codes "-"

-- sites count from 1
abbrev pub site_in : Style → NameTable → ℕ → List ℕ
site_in style names zero = missing_in style
site_in style names (suc n) = name_in style 72 (name_at names.sites n)

-- a site that has a name, behind these bytes; of the missing one nothing
unfoldable pub named_site : Style → NameTable → List ℕ → ℕ → List ℕ
named_site style names before zero = []
named_site style names before (suc n) = before ++ site_in style names (suc n)

-- locks with spaces between them
abbrev pub spaced_in : Style → NameTable → List ℕ → List ℕ
spaced_in style names [] = codes "none"
spaced_in style names (lock ∷ locks) = lock_in style names lock ++ more_text 32 (lock_in style names) locks

-- in JSON they are an array
abbrev pub locks_in : Style → NameTable → List ℕ → List ℕ
locks_in style.Plain names locks = spaced_in style.Plain names locks
locks_in style.Json names locks = array_text (lock_in style.Json names) locks
locks_in style.InString names locks = spaced_in style.InString names locks
locks_in style.Short names locks = spaced_in style.Short names locks

-- what an access has to do with a race
abbrev pub label_in : Style → NameTable → Label → List ℕ
label_in style names label.First = codes "first"
label_in style names label.Joined = codes "joined"
label_in style names label.Write = codes "write"
label_in style names (label.Uncovered lock) = lock_in style names lock ++ codes " not covering"
label_in style names label.Unordered = codes "unordered with"
