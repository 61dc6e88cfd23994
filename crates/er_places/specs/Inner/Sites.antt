-- The sites that have races of each kind, each as a number.
use Rattle.std.specs.Prelude.{ℕ, ◌+◌, ◌*◌, nat_eq, Bool, List}
use Rattle.std.specs.List.{list_any}
use Rattle.er_event.specs.declared.steps.Kind.{Kind}
use Rattle.er_event.specs.declared.steps.Kind.TheVariants as kind

-- a site and a kind as one number: no two of them have the same
abbrev pub site_key : ℕ → Kind → ℕ
site_key s kind.Read = 2 * s
site_key s kind.Write = 2 * s + 1

-- the site has races of this kind
abbrev pub has_site : List ℕ → ℕ → Kind → Bool
has_site keys s k = list_any (nat_eq (site_key s k)) keys
