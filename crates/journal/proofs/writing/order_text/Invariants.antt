use Rattle.std.proofs.Common.{take, string_bytes}
use Rattle.journal.specs.Journals.{order}
use Rattle.journal.specs.WrittenOrder.{IsWritten}
use Rattle.journal.proofs.writing.order_text.Given as goal

abbrev pub invariant-entries : goal.invariant-entries
invariant-entries l = IsWritten (order (take l.entry-index l.journal.items)) (string_bytes l.text) l.last
