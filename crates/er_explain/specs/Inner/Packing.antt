-- How a book is kept in 16 bytes.
use Rattle.er_explain.specs.Book.{Book, Owned, Joined, access_named}
use Rattle.er_explain.specs.declared.book.Access.{Access}
use Rattle.er_explain.specs.declared.book.Packed.{Packed}
use Rattle.er_explain.specs.declared.book.Packed.TheVariants.{Alone, Together}

-- the book, with the thread of its first access twice
abbrev pub unpacked : {A : Type 0} → Packed A → Book (Access A)
unpacked (Alone kind thread at) = Owned thread (access_named at thread kind)
unpacked (Together joining) = Joined joining
