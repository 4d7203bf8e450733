-- Which words were issued, and which are new (this project's rule): a word is never issued twice, and no earlier colour of
-- an address after a later one.
use Rattle.std.specs.Prelude.{◌≡◌, ℕ, Bool, true, false, ◌||◌, ◌==◌, ◌<◌, ◌≤◌, ◌^◌, ◌≢◌, All, length}
use Rattle.heap_partition.specs.declared.value.Cell.{Cell}
use Rattle.heap_partition.specs.declared.value.Owned.{Owned}
use Rattle.global_addr.specs.Words.{colour_of, spot_of, server_of, address_of}
use Rattle.owner_box.specs.View.{PartitionState}
use Rattle.owner_box.specs.Partition.{LeadsTo, IsTidy, IsLast, new_word, started, made, stored, freed, renewed}

-- a set of words, as the test whether a word is in it
abbrev pub WordSet : Type 0
WordSet = ℕ → Bool

abbrev pub no_word : WordSet
no_word w = false

-- a set of words and one word more
abbrev pub with_word : WordSet → ℕ → WordSet
with_word issued word w = issued w || (w == word)

-- the word was never issued, and no later colour of its spot was
abbrev pub IsFresh : WordSet → ℕ → Type 0
IsFresh issued word = (w : ℕ) → issued w ≡ true → spot_of w ≡ spot_of word → colour_of w < colour_of word

-- no later colour of the word's spot was issued
abbrev pub IsLatest : WordSet → ℕ → Type 0
IsLatest issued word = (w : ℕ) → issued w ≡ true → spot_of w ≡ spot_of word → colour_of w ≤ colour_of word

-- the words that were issued, by the partition or as tints, fit its state: an address that was never used has none, and
-- a free address goes on above all of its own
pub record Fits (p : PartitionState) (issued : WordSet) : Type 0 where
  pub used : (w : ℕ) → issued w ≡ true → server_of w ≡ p.server → address_of w < length p.cells
  pub free : (w : ℕ) → issued w ≡ true → server_of w ≡ p.server → All (λ pair. pair.0 ≡ address_of w → colour_of w < pair.1) p.free

-- a partition that was never used fits each set without words of its server
abbrev pub StartedFits : Type 0
StartedFits = (server limit : ℕ) (issued : WordSet) → ((w : ℕ) → issued w ≡ true → server_of w ≢ server) → Fits (started server limit) issued

-- a new object's word is fresh
abbrev pub MadeFresh : Type 0
MadeFresh = (p : PartitionState) (cell : Cell) (issued : WordSet) → p.server < 2 ^ 8 → IsTidy p → length p.cells < 2 ^ 40 → Fits p issued
    → IsFresh issued (new_word p) × Fits (made p cell) (with_word issued (new_word p))

-- a renewed object's word is fresh
abbrev pub RenewedFresh : Type 0
RenewedFresh = (p : PartitionState) (word : ℕ) (issued : WordSet) → p.server < 2 ^ 8 → IsTidy p → length p.cells < 2 ^ 40 → LeadsTo p word
    → IsLast p word → IsLatest issued word → Fits p issued
    → IsFresh issued (new_word (freed p word)) × Fits (renewed p word) (with_word issued (new_word (freed p word)))

-- an address is freed by a word that no later colour of it was issued after
abbrev pub FreedFits : Type 0
FreedFits = (p : PartitionState) (word : ℕ) (issued : WordSet) → IsTidy p → LeadsTo p word → IsLatest issued word → Fits p issued → Fits (freed p word) issued

-- a change of an object's value issues nothing
abbrev pub StoredFits : Type 0
StoredFits = (p : PartitionState) (word : ℕ) (value : Owned) (issued : WordSet) → LeadsTo p word → Fits p issued → Fits (stored p word value) issued

-- a live object may be tinted: another word that leads to it is issued elsewhere
abbrev pub TintedFits : Type 0
TintedFits = (p : PartitionState) (word : ℕ) (issued : WordSet) → IsTidy p → LeadsTo p word → Fits p issued → Fits p (with_word issued word)

-- words of other servers are nothing to it
abbrev pub OthersFit : Type 0
OthersFit = (p : PartitionState) (word : ℕ) (issued : WordSet) → server_of word ≢ p.server → Fits p issued → Fits p (with_word issued word)
