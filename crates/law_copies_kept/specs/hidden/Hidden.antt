-- WORDS WITHOUT COPIES (this project's rule): what an object may do under a word of which no copy is there, nor asked for.
use Rattle.std.specs.Prelude.{◌≡◌, ◌⊎◌, ◌==◌, ℕ, false, None}
use Rattle.law_copies_kept.specs.Below.journal.View.{EntryView}
use Rattle.law_copies_kept.specs.Below.server_msgs.declared.message.Message.{Message}
use Rattle.law_copies_kept.specs.Below.server_msgs.declared.message.Message.TheVariants.{Fetch, Fetched}
use Rattle.law_copies_kept.specs.Below.server_model.declared.event.Event.{Event}
use Rattle.law_copies_kept.specs.Below.server_model.Servers.{Cluster}
use Rattle.law_copies_kept.specs.Below.server_model.Clusters.{apply}
use Rattle.law_copies_kept.specs.Below.coherent_memory.Names.{tot, one}
use Rattle.law_copies_kept.specs.Below.coherent_memory.Things.{Thing, copied, sent, things_of}
use Rattle.law_copies_kept.specs.Below.coherent_memory.Sight.{sight, issued}
use Rattle.law_copies_kept.specs.Below.coherent_memory.Placing.{clean_cell}
use Rattle.law_copies_kept.specs.Below.coherent_memory.Coherent.{Holds, IsSound, copies_agree}
use Rattle.law_copies_kept.specs.Below.law_counts_sums.Laws.{Gives, FewEvents}

-- a message that asks for a copy under the word, or brings one
abbrev pub sent_under : ℕ → Message → ℕ
sent_under w (Fetch v o s t) = one (v == w)
sent_under w (Fetched v c t) = one (v == w)
sent_under w m = 0

-- so does a copy in a cache
abbrev pub under_word : ℕ → Thing → ℕ
under_word w (copied s c) = one (c.word == w)
under_word w (sent s m) = sent_under w m
under_word w x = 0

-- no copy under the word is there, cached or on its way, nor is one asked for
abbrev pub NoneUnder : Cluster → ℕ → Type 0
NoneUnder k w = tot (under_word w) (things_of k) ≡ 0

-- the live object that has a word, which isn't changed through a reference, is the same one with the same cell; or there is none any more, or the word is a new one, or no copy was under it
abbrev pub CellsGoOnUnder : Cluster → Cluster → Type 0
CellsGoOnUnder k z = (w : ℕ) → (clean_cell (sight z) w ≡ clean_cell (sight k) w) ⊎ ((clean_cell (sight z) w ≡ None) ⊎ ((issued (sight k) w ≡ false) ⊎ NoneUnder k w))

-- an event of whatever kind that has cells go on so, from a sound cluster, with its messages handed over, leaves copies that are present cells
abbrev pub CopiesComeUnderWords : Type 0
CopiesComeUnderWords = (k : Cluster) (e : Event) → IsSound k → FewEvents k → Gives (λ (d : Cluster × EntryView). CellsGoOnUnder k d.0 → Holds d.0 copies_agree) (apply k e)
