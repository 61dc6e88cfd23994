-- The book of a word that has none begins, and so it goes on as an empty one does.
use Rattle.std.proofs.Common.{◌≡◌, ◌==◌, ◌∙◌, ◌/◌, ◌%◌, ℕ, Bool, true, false, cond, List, nat_lt, Some, ap, refl, subst, sym}
use borrow.Author.Tests.{eqb-true}
use Rattle.std.proofs.lemmas.Result.{on_ok_weaker}
use Rattle.er_event.specs.declared.steps.Event.{Event}
use Rattle.er_event.specs.declared.steps.Event.TheVariants.{Access as Accessing}
use Rattle.er_event.specs.declared.steps.Kind.{Kind}
use Rattle.er_explain.specs.Book.{Book, Owned, Untouched, access_named, access_of, event_kind}
use Rattle.er_explain.specs.Books.{book_accessed, book_after}
use Rattle.er_explain.specs.Following.{CountsWhere}
use Rattle.er_explain.specs.WordBooks.{Blocks, book_in}
use Rattle.er_explain.specs.declared.book.Access.{Access}
use Rattle.er_model.specs.Following.{locks_for, marked}
use Rattle.er_model.specs.Holdings.{Holdings}
use Rattle.er_model.specs.Words.{Counted, Nothing}
use Rattle.indexmap.specs.IndexMap.{with_value_at}
use Rattle.er_explain.proofs.BlockLemmas.{found_book, one_book}
use Rattle.er_keys.proofs.MapLemmas.{entry_found, entry_put}
use Rattle.er_explain.proofs.word_books.WordBooks.begin.Goals as goal

-- what a first access makes of a book is what any access makes of an empty one
begun : {A : Type 0} (b : Bool) (books now : ℕ → Book A) (t word : ℕ) (kind : Kind) (cover : List ℕ) (a : A)
    → (books word ≡ Untouched → (w : ℕ) → now w ≡ cond (word == w) (Owned t a) (books w))
    → CountsWhere (cond b Nothing (Counted t kind word cover)) (λ w. books w ≡ Untouched) → (w : ℕ) → now w ≡ book_after (books w) w a (cond b Nothing (Counted t kind word cover))
begun true books now t word kind cover a goes never w = absurd never
begun false books now t word kind cover a goes empty w = goes empty w ∙ by (word == w) refl
  where
    by : (same : Bool) → (word == w) ≡ same → cond same (Owned t a) (books w) ≡ cond same (book_accessed (books w) a t kind cover) (books w)
    by true here = ap (λ book. book_accessed book a t kind cover) (sym (ap books (sym (eqb-true word w here)) ∙ empty))
    by false other = refl

began : {A : Type 0} (h : Holdings) (event : Event) (kind : Kind) (word site : ℕ) → event ≡ Accessing kind word site → (books now : ℕ → Book (Access A)) (t : ℕ) (at : A)
    → (books word ≡ Untouched → (w : ℕ) → now w ≡ cond (word == w) (Owned t (access_named at t kind)) (books w))
    → CountsWhere (marked h t event) (λ w. books w ≡ Untouched) → (w : ℕ) → now w ≡ book_after (books w) w (access_named at t (event_kind event)) (marked h t event)
began h event kind word site is books now t at goes =
    subst (λ (e : Event). CountsWhere (marked h t e) (λ w. books w ≡ Untouched) → (w : ℕ) → now w ≡ book_after (books w) w (access_named at t (event_kind e)) (marked h t e)) (sym is)
    (begun (nat_lt 0 h.depth) books now t word kind (locks_for h kind) (access_named at t kind) goes)

pub returns-in_ok-put-in-Some : goal.returns-in_ok-put-in-Some
returns-in_ok-put-in-Some g c h =
    let blocks : Blocks (Access g.row.A.Denot) = c.self.inside.blocks.entries in
    let after : Blocks (Access g.row.A.Denot) = (with_value_at c.self.inside.blocks c.in-Some.index c.put.new.self).entries in
    let found = entry_found c.self.inside.blocks c.in-Some.index (c.number-at.result / 256) c.index_mut-block.result.now c.in-Some.ensures.unique c.in-Some.ensures.key c.index_mut-block.ensures.value in
    let number : c.number-at.result / 256 ≡ c.in-Access.word / 256 = ap (λ n. n / 256) c.number-at.ensures.value in
    let place : c.number-at.result % 256 ≡ c.in-Access.word % 256 = ap (λ n. n % 256) c.number-at.ensures.value in
    subst (λ (old : Blocks (Access g.row.A.Denot)). CountsWhere (marked h c.args.step.now.thread c.args.step.now.event) (λ w. book_in old w ≡ Untouched)
    → (w : ℕ) → book_in after w ≡ book_after (book_in old w) w (access_of c.args.at c.args.step.now) (marked h c.args.step.now.thread c.args.step.now.event)) c.self.view_is
    (began h c.args.step.now.event c.in-Access.kind c.in-Access.word c.in-Access.field-2 c.in-Access.is (book_in blocks) (book_in after) c.args.step.now.thread c.args.at
    (λ empty. one_book blocks after c.in-Access.word (c.number-at.result / 256) (c.number-at.result % 256) (Some c.index_mut-block.result.now) c.put.new.self
    (λ _. Owned c.args.step.now.thread (access_named c.args.at c.args.step.now.thread c.in-Access.kind)) number place found
    (entry_put c.self.inside.blocks c.in-Some.index (c.number-at.result / 256) c.index_mut-block.result.now c.in-Some.ensures.unique c.in-Some.ensures.key c.index_mut-block.ensures.value c.put.new.self)
    (c.in_ok-put-in-Some.ensures
    (found_book blocks c.in-Access.word (c.number-at.result / 256) (c.number-at.result % 256) (Some c.index_mut-block.result.now) number place found ∙ empty))))

pub returns-in-None : goal.returns-in-None
returns-in-None g c h counts =
    on_ok_weaker c.begin_block.result
    (λ goes. began h c.args.step.now.event c.in-Access.kind c.in-Access.word c.in-Access.field-2 c.in-Access.is (book_in c.args.self.now) (book_in c.begin_block.new.self) c.args.step.now.thread c.args.at
    (λ empty. goes) counts)
    c.begin_block.ensures.books
