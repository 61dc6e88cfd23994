-- What a reply in one byte stands for. No public clause cites this file.
use Rattle.er_event.specs.declared.steps.Reply.{Reply}
use Rattle.er_event.specs.declared.steps.Reply.TheVariants as reply
use Rattle.er_journal.specs.declared.replies.PlainReply.{PlainReply}
use Rattle.er_journal.specs.declared.replies.PlainReply.TheVariants as plain

-- the reply in full
abbrev pub reply_of : PlainReply → Reply
reply_of plain.Done = reply.Done
reply_of plain.Quiet = reply.Quiet
reply_of plain.Race = reply.Race
reply_of plain.Ignored = reply.Ignored

-- the reply in one byte; that of a show has none, since it tells a state
abbrev pub plain_of : Reply → PlainReply
plain_of reply.Done = plain.Done
plain_of reply.Quiet = plain.Quiet
plain_of reply.Race = plain.Race
plain_of reply.Ignored = plain.Ignored
plain_of (reply.State state) = plain.Done
