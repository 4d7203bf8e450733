-- The messages of some acts of one server, kind by kind.
use Rattle.std.specs.Prelude.{ℕ, ◌==◌, List}
use Rattle.fr_base.specs.Lists.{tot, one}
use Rattle.fr_base.specs.Kinds.{kind_number}
use Rattle.fr_base.specs.declared.message.Kind.{Kind}
use Rattle.journal.specs.declared.act.Act.{Act}
use Rattle.coloured_heap.specs.Sends.{Sending, sendings, counts}

-- a kind and a server as a message
abbrev pub as_sending : Kind × ℕ → Sending
as_sending m = record { kind = m.0; target = m.1 }

-- how many messages of that kind these acts of a server send to others
abbrev pub sent : ℕ → List Act → Kind → ℕ
sent here acts k = tot (λ m. one (counts here k m)) (sendings acts)

-- one, where the kinds are the same
abbrev pub one_of : Kind → Kind → ℕ
one_of j k = one (kind_number j == kind_number k)
