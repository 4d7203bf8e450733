-- Packing a thread that leaves (this project's rules): it takes no use of a cached copy along.
use Rattle.std.specs.Prelude.{if◌then◌else◌, ℕ, Bool, true, false, List, [], ◌∷◌, ◌++◌, Option, Some, None, map, option_map}
use Rattle.read_cache.specs.Cache.{Copy, can_unpin, unpin}
use Rattle.mut_borrow.specs.declared.shared.SharedRef.{SharedRef}
use Rattle.thread_state.specs.View.{ThreadState}
use Rattle.thread_state.specs.declared.value.Value.{Value}
use Rattle.thread_state.specs.declared.value.Value.TheVariants as value

-- a shared reference that keeps no copy in use; other values stay
abbrev pub unpinned : Value → Value
unpinned (value.Shared r) = value.Shared (record r { pinned = false })
unpinned v = v

-- one use less of each of the words
abbrev pub unpin_all : List ℕ → List Copy → Option (List Copy)
unpin_all [] cs = Some cs
unpin_all (w ∷ ws) cs = if can_unpin cs w then unpin_all ws (unpin cs w) else None

-- the word that a reference keeps in use
abbrev pub pinned_word : SharedRef → Bool → List ℕ → List ℕ
pinned_word r true ws = r.word ∷ ws
pinned_word r false ws = ws

-- the words whose copies the references among these values keep in use
abbrev pub pinned_words : List Value → List ℕ
pinned_words [] = []
pinned_words (value.Shared r ∷ vs) = pinned_word r r.pinned (pinned_words vs)
pinned_words (v ∷ vs) = pinned_words vs

-- all the uses of a thread
abbrev pub used_words : ThreadState → List ℕ
used_words t = t.walk ++ pinned_words t.slots ++ pinned_words t.temps

-- the thread with an empty walk and without a pinned reference
abbrev pub packed : ThreadState → ThreadState
packed t = record t { walk = []; slots = map unpinned t.slots; temps = map unpinned t.temps }

-- a thread as a parcel, and the copies after its uses of them have ended; None where one of them has no user
abbrev pub pack_thread : ThreadState → List Copy → Option (ThreadState × List Copy)
pack_thread t cs = option_map (λ left. (packed t, left)) (unpin_all (used_words t) cs)
