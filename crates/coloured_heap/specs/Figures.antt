-- What a report counts of a journal (this project's rule).
use Rattle.std.specs.Prelude.{ℕ, Bool, true, false, not, ◌&&◌, List, [], ◌∷◌, length, map, is_some, is_none}
use Rattle.fr_base.specs.Lists.{tot, one}
use Rattle.fr_base.specs.declared.message.Kind.{Kind}
use Rattle.fr_base.specs.declared.message.Kind.TheVariants as kind
use Rattle.journal.specs.declared.act.Act.{Act}
use Rattle.journal.specs.declared.act.Act.TheVariants as act
use Rattle.journal.specs.View.{EntryView}
use Rattle.coloured_heap.specs.Lists.{has}
use Rattle.coloured_heap.specs.Rules.{issued_by}
use Rattle.coloured_heap.specs.Sends.{count, messages}

-- how many acts of a journal pass the test
abbrev pub acts_that : (Act → Bool) → List EntryView → ℕ
acts_that test es = tot (λ e. tot (λ a. one (test a)) e.acts) es

-- the entries with a plain step
abbrev pub steps : List EntryView → ℕ
steps es = tot (λ e. one (is_some e.done)) es

abbrev pub events : List EntryView → ℕ
events es = length es

-- the words that were issued: to new objects, to those that came, as next colours and for new addresses
abbrev pub issues : List EntryView → ℕ
issues es = acts_that (λ a. is_some (issued_by a)) es

abbrev is_renewal : Act → Bool
is_renewal (act.Renew p old new) = true
is_renewal _ = false

abbrev pub renewals : List EntryView → ℕ
renewals es = acts_that is_renewal es

abbrev is_hit : Act → Bool
is_hit (act.Hit p w) = true
is_hit _ = false

abbrev pub hits : List EntryView → ℕ
hits es = acts_that is_hit es

abbrev is_eviction : Act → Bool
is_eviction (act.Evict w) = true
is_eviction _ = false

abbrev pub evictions : List EntryView → ℕ
evictions es = acts_that is_eviction es

-- the entry delivers a message: it names no thread and evicts nothing
abbrev is_delivery : EntryView → Bool
is_delivery e = is_none e.thread && not (has is_eviction e.acts)

abbrev pub deliveries : List EntryView → ℕ
deliveries es = tot (λ e. one (is_delivery e)) es

-- the kinds of messages by number
abbrev pub kinds : List Kind
kinds = kind.Fetch ∷ kind.Fetched ∷ kind.Move ∷ kind.Moved ∷ kind.Drop ∷ kind.Lock ∷ kind.Granted ∷ kind.Unlock ∷ kind.Dup ∷ kind.Dupped ∷ kind.Release ∷ kind.Start ∷ kind.Join ∷ kind.Joined ∷ kind.Finished ∷ kind.Migrate ∷ []

-- the messages between different servers, kind by kind
abbrev pub by_kind : List EntryView → List ℕ
by_kind es = map (count es) kinds

pub record Figures : Type 0 where
  pub steps : ℕ
  pub events : ℕ
  pub issued : ℕ
  pub renewed : ℕ
  pub hits : ℕ
  pub evictions : ℕ
  pub messages : ℕ

abbrev pub figures : List EntryView → Figures
figures es = record { steps = steps es; events = events es; issued = issues es; renewed = renewals es; hits = hits es; evictions = evictions es; messages = messages es }
