-- The sites that stand in headers of the system: a fault there is mostly one of the program that uses them.
use Rattle.std.specs.Prelude.{ℕ, nat_eq, ◌||◌, Bool, false, List, Option, Some, None, codes}
use Rattle.std.specs.List.{starts_with}
use Rattle.er_report.specs.Report.{site_name}
use Rattle.er_trace.specs.Names.{NameTable}

-- below one of the folders in which compilers and packages keep their headers; a program's own sources may stand below /usr/src or /usr/local
abbrev pub is_system_name : List ℕ → Bool
is_system_name name = starts_with nat_eq name (codes "/usr/include/") || starts_with nat_eq name (codes "/usr/lib/")

-- the missing site has no name
abbrev pub is_system_by : Option (List ℕ) → Bool
is_system_by None = false
is_system_by (Some name) = is_system_name name

-- the site is a line of a system header
abbrev pub is_system_site : NameTable → ℕ → Bool
is_system_site names site = is_system_by (site_name names site)
