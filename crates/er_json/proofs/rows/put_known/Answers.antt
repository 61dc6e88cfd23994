-- Each of the locks has a name, and so has each of those that are held to read.
use Rattle.std.proofs.Common.{◌∙◌, subst, sym}
use Rattle.std.proofs.lemmas.List.Elements.{All-filter}
use Rattle.er_json.specs.Document.{is_held_to_read}
use Rattle.er_report.specs.Names.{HasLockName, HasLockNames}
use Rattle.er_trace.specs.Names.{NameTable}
use Rattle.er_json.proofs.rows.put_known.Goals as goal

pub put-requires : goal.put-requires
put-requires c =
    let names : NameTable = c.args.names.now in
    let held : HasLockNames names c.as_slice-held.result.now = subst (HasLockNames names) (sym c.as_slice-held.ensures.locks) c.requires.held in
    let to_read : HasLockNames names c.deref.result.now = subst (HasLockNames names) (sym (c.deref.ensures.value ∙ c.in_ok-to_read.ensures))
    (All-filter (is_held_to_read c.args.place.now.write_held) (HasLockName names) c.as_slice-held.result.now held) in
    (c.requires.site, (held, (to_read, tt)))
