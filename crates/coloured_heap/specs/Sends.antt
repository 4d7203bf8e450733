-- Which message an act sends, and how many messages a journal's acts send (this project's rule).
use Rattle.std.specs.Prelude.{ℕ, Bool, true, not, ◌&&◌, ◌==◌, List, Option, Some, None, filter_map}
use Rattle.fr_base.specs.Lists.{tot, one}
use Rattle.fr_base.specs.Names.{home_of, released_home}
use Rattle.fr_base.specs.declared.message.Kind.{Kind}
use Rattle.fr_base.specs.declared.message.Kind.TheVariants as kind
use Rattle.fr_base.specs.Kinds.{kind_number}
use Rattle.global_addr.specs.Words.{server_of}
use Rattle.journal.specs.declared.act.Act.{Act}
use Rattle.journal.specs.declared.act.Act.TheVariants as act
use Rattle.journal.specs.View.{EntryView}

-- a message's kind, and the server that it goes to
pub record Sending : Type 0 where
  pub kind : Kind
  pub target : ℕ

abbrev to : Kind → ℕ → Option Sending
to k target = Some (record { kind = k; target = target })

-- the message that an act sends: to a word's server, to a home, to the server that asked or to the one that a thread goes to. The act
-- alone tells it: there is no state here that would know which servers hold copies, so nobody is told of a write, a new colour, the
-- end of a borrow or an eviction.
abbrev pub sends : Act → Option Sending
sends (act.Ask p w) = to kind.Fetch (server_of w)
sends (act.Serve p w there) = to kind.Fetched there
sends (act.Pull p w) = to kind.Move (server_of w)
sends (act.Give p w there) = to kind.Moved there
sends (act.Condemn p w) = to kind.Drop (server_of w)
sends (act.AskLock m) = to kind.Lock m.home
sends (act.Grant m t there) = to kind.Granted there
sends (act.GiveBack m) = to kind.Unlock m.home
sends (act.AskDup m) = to kind.Dup m.home
sends (act.Dupped m t there) = to kind.Dupped there
sends (act.LetGo x) = to kind.Release (released_home x)
sends (act.Start t there) = to kind.Start there
sends (act.AskJoin t) = to kind.Join (home_of t)
sends (act.Answer t asker there) = to kind.Joined there
sends (act.Finish t) = to kind.Finished (home_of t)
sends (act.Depart t there) = to kind.Migrate there
sends _ = None

-- the messages that acts send, in order
abbrev pub sendings : List Act → List Sending
sendings acts = filter_map sends acts

-- it goes to another server
abbrev pub leaves : ℕ → Sending → Bool
leaves here m = not (m.target == here)

-- it is of that kind and goes to another server
abbrev pub counts : ℕ → Kind → Sending → Bool
counts here k m = (kind_number m.kind == kind_number k) && leaves here m

-- how many messages that pass the test the acts of a journal send; the test is told the entry's server
abbrev pub sent_by : (ℕ → Sending → Bool) → List EntryView → ℕ
sent_by test es = tot (λ e. tot (λ m. one (test e.server m)) (sendings e.acts)) es

-- how many messages of that kind the acts send to other servers
abbrev pub count : List EntryView → Kind → ℕ
count es k = sent_by (λ here. counts here k) es

-- how many messages of all kinds they send to other servers
abbrev pub messages : List EntryView → ℕ
messages es = sent_by leaves es

-- how many they send at all, to the entry's own server too
abbrev pub all_messages : List EntryView → ℕ
all_messages es = sent_by (λ here m. true) es
