use Rattle.std.proofs.Common.{◌≡◌, ◌∙◌, ◌<◌, List, Some, slice_get, length, take, refl, sym, ap, subst, arith}
use Rattle.std.proofs.lemmas.List.{length-take-le, get_or-take}
use Rattle.std.proofs.lemmas.Option.{slice_get_read}
use Rattle.er_event.specs.declared.steps.Step.{Step}
use Rattle.er_explain.specs.Book.{access_of, name_of}
use Rattle.er_explain.specs.Following.{HasFollowed}
use Rattle.er_explain.specs.Naming.{named_book}
use Rattle.er_explain.specs.WordBooks.{book_in}
use Rattle.er_held.specs.ThreadLocks.{held_by}
use Rattle.er_model.specs.Following.{marked}
use Rattle.er_explain.proofs.NamingLemmas.{named-step}
use Rattle.er_explain.proofs.Passes.{followed-start, followed-next}
use Rattle.er_explain.proofs.one_access.books_of.Goals as goal

pub loop-at-init : goal.loop-at-init
loop-at-init c w =
    subst (λ book. HasFollowed c.args.steps.now w c.new-locks.result (named_book name_of book) 0) (sym (c.keyed-books.ensures w))
    (followed-start c.args.steps.now w c.new-locks.result c.new-locks.ensures)

pub loop-at-preserved : goal.loop-at-preserved
loop-at-preserved c w =
    let steps : List Step = c.args.steps.now in
    let whole : length (take c.args.end steps) ≡ c.args.end = length-take-le c.args.end steps c.requires in
    let small : c.loop-at.at < c.args.end = omega arith in
    let here : slice_get steps c.loop-at.at ≡ Some c.step-item.result =
    slice_get_read steps (length steps) c.loop-at.at c.step-item.result refl (omega arith)
    (c.step-item.is ∙ get_or-take c.args.end steps c.loop-at.at c.step-item.result small) in
    followed-next c.args.steps.now w c.loop-at.at c.step-item.result c.loop-at.locks c.follow-in-loop-at.new.self
    (named_book name_of (book_in c.loop-at.books w)) (named_book name_of (book_in c.follow.new.self w)) here
    (c.loop-at.invariant w)
    (ap (named_book name_of) (c.in_ok-follow.ensures (held_by c.loop-at.locks c.step-item.result.thread) (rw c.get.ensures at c.cover_in-cover.ensures) w)
    ∙ named-step name_of (book_in c.loop-at.books w) w (access_of c.loop-at.at c.step-item.result) (marked (held_by c.loop-at.locks c.step-item.result.thread) c.step-item.result.thread c.step-item.result.event))
    c.in_ok-follow-2.ensures.threads
