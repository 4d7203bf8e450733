-- Runs of calls on a partition, and the words that they give. What a partition has room for plays no part.
use Rattle.std.specs.Prelude.{◌≢◌, ℕ, ◌<◌, ◌≤◌, ◌^◌, ⊤, List, [], ◌∷◌, All, length, Option, Some, None, IfSome}
use Rattle.heap_partition.specs.declared.value.Cell.{Cell}
use Rattle.heap_partition.specs.declared.value.Owned.{Owned}
use Rattle.owner_box.specs.View.{PartitionState}
use Rattle.owner_box.specs.Partition.{LeadsTo, IsTidy, IsLast, new_word, started, made, stored, freed, renewed}
use Rattle.owner_box.specs.Issued.{WordSet, no_word, with_word, IsFresh, IsLatest, Fits}

-- a call on a partition, `Reserve` for so many objects; a tint is none, but a word that somebody gives to a pointer to a live object
pub data Call : Type 0 where
  Reserve : (n : ℕ) → Call
  Make : (cell : Cell) → Call
  Store : (word : ℕ) (value : Owned) → Call
  Give : (word : ℕ) → Call
  Renew : (word : ℕ) → Call
  Free : (word : ℕ) → Call
  Tint : (word : ℕ) → Call

-- the partition after a call
abbrev pub after : PartitionState → Call → PartitionState
after p (Reserve n) = p
after p (Make cell) = made p cell
after p (Store word value) = stored p word value
after p (Give word) = freed p word
after p (Renew word) = renewed p word
after p (Free word) = freed p word
after p (Tint word) = p

-- the new word that the partition gives
abbrev pub word_given : PartitionState → Call → Option ℕ
word_given p (Make cell) = Some (new_word p)
word_given p (Renew word) = Some (new_word (freed p word))
word_given p _ = None

-- the words that were issued once a call is done
abbrev pub issued_after : PartitionState → WordSet → Call → WordSet
issued_after p issued (Make cell) = with_word issued (new_word p)
issued_after p issued (Renew word) = with_word issued (new_word (freed p word))
issued_after p issued (Tint word) = with_word issued word
issued_after p issued _ = issued

-- the conditions of a call; a word that is handed to give, renew or free has at least the colour of every word of its
-- address that was issued before
abbrev pub IsAllowed : PartitionState → WordSet → Call → Type 0
IsAllowed p issued (Reserve n) = ⊤
IsAllowed p issued (Make cell) = length p.cells < 2 ^ 40
IsAllowed p issued (Store word value) = LeadsTo p word
IsAllowed p issued (Give word) = LeadsTo p word × IsLatest issued word
IsAllowed p issued (Renew word) = LeadsTo p word × IsLatest issued word × IsLast p word × (length p.cells < 2 ^ 40)
IsAllowed p issued (Free word) = LeadsTo p word × IsLatest issued word
IsAllowed p issued (Tint word) = LeadsTo p word

abbrev pub AreAllowed : PartitionState → WordSet → List Call → Type 0
AreAllowed p issued [] = ⊤
AreAllowed p issued (call ∷ rest) = IsAllowed p issued call × AreAllowed (after p call) (issued_after p issued call) rest

abbrev pub with_given : Option ℕ → List ℕ → List ℕ
with_given None words = words
with_given (Some word) words = word ∷ words

-- the words that a run of calls gives, in order
abbrev pub words_of : PartitionState → List Call → List ℕ
words_of p [] = []
words_of p (call ∷ rest) = with_given (word_given p call) (words_of (after p call) rest)

abbrev pub AllDifferent : List ℕ → Type 0
AllDifferent [] = ⊤
AllDifferent (word ∷ rest) = All (λ other. other ≢ word) rest × AllDifferent rest

-- each word is fresh when it is given
abbrev pub AllFresh : PartitionState → WordSet → List Call → Type 0
AllFresh p issued [] = ⊤
AllFresh p issued (call ∷ rest) = IfSome (word_given p call) (IsFresh issued) × AllFresh (after p call) (issued_after p issued call) rest

-- no word is issued twice: the words of a run from the start, with any colour limit, are pairwise different, and none was
-- issued before, as a tint or otherwise
abbrev pub NoWordTwice : Type 0
NoWordTwice = (server limit : ℕ) (calls : List Call) → server < 2 ^ 8 → 1 ≤ limit → limit ≤ 65536 → AreAllowed (started server limit) no_word calls
    → AllDifferent (words_of (started server limit) calls) × AllFresh (started server limit) no_word calls

-- the same of a run from any partition, over the words that were issued before
abbrev pub NoneAgain : Type 0
NoneAgain = (p : PartitionState) (issued : WordSet) (calls : List Call) → p.server < 2 ^ 8 → IsTidy p → Fits p issued → AreAllowed p issued calls
    → AllDifferent (words_of p calls) × All (IsFresh issued) (words_of p calls) × AllFresh p issued calls
