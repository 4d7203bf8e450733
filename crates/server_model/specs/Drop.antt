-- Letting values go (this project's rules): a dropped box sends `drop` to the server of its word, and a dropped mutex value or task
-- `release` to its home. What a box holds goes when that message is delivered.
use Rattle.std.specs.Prelude.{ℕ, Bool, true, false, if◌then◌else◌, List, [], ◌∷◌, Option, Some, None}
pub use Rattle.fr_base.specs.Names.{home_of}
use Rattle.fr_base.specs.declared.label.Label.{Label}
use Rattle.fr_base.specs.declared.label.Label.TheVariants as label
use Rattle.fr_base.specs.declared.release.Released.TheVariants as released
use Rattle.global_addr.specs.Words.{server_of}
use Rattle.place_walk.specs.Below.heap_partition.declared.value.Owned.{Owned}
use Rattle.place_walk.specs.Below.heap_partition.declared.value.Owned.TheVariants as owned
use Rattle.mut_borrow.specs.Refs.{finish_word}
use Rattle.mut_borrow.specs.declared.shared.SharedRef.{SharedRef}
use Rattle.mut_borrow.specs.declared.mutable.MutRef.{MutRef}
use Rattle.place_walk.specs.Below.read_cache.Cache.{can_unpin, unpin}
use Rattle.place_walk.specs.Below.thread_state.declared.value.Value.{Value}
use Rattle.place_walk.specs.Below.thread_state.declared.value.Value.TheVariants as value
use Rattle.server_msgs.specs.declared.message.Message.TheVariants as message
use Rattle.journal.specs.declared.act.Act.TheVariants as act
use Rattle.server_model.specs.Work.{Work, Hand, send, note, with_cache, working}
use Rattle.server_model.specs.Places.{Spot, set_pointer}

-- an owned value goes, and its owner's server tells whoever has what it leads to
abbrev pub give_up : Owned → Work → Work
give_up (owned.Box p) w = send (server_of p.word) (message.Drop p.word p.object) (note (act.Condemn p.object p.word) w)
give_up (owned.Mutex m) w = send m.home (message.Release (released.Mutex m)) (note (act.LetGo (released.Mutex m)) w)
give_up (owned.Task t) w = send (home_of t) (message.Release (released.Task t)) (note (act.LetGo (released.Task t)) w)
give_up v w = w

-- the object whose pointer a step drops; what it owns has no label of its own
abbrev pub drop_labels : Value → List Label
drop_labels (value.Own (owned.Box p)) = label.Drop p.object ∷ []
drop_labels v = []

-- a pinned reference gives its use back
abbrev pub unpin_ref : SharedRef → Bool → Hand → Option Hand
unpin_ref r false h = Some h
unpin_ref r true h = if can_unpin h.work.rest.cache r.word then Some (working (with_cache (unpin h.work.rest.cache r.word)) h) else None

-- the pointer at the holder gets a word
abbrev pub finished_at : Spot → Option ℕ → Hand → Option Hand
finished_at holder None h = Some h
finished_at holder (Some w) h = set_pointer holder w h

-- a clean mutable reference ends, and the pointer at its holder gets its word
abbrev pub finish : Spot → MutRef → Hand → Option Hand
finish holder r h = if r.dirty then None else finished_at holder (finish_word r) h

-- a value that was taken out is dropped; the spot is that of the holder's pointer where a mutable reference ends
abbrev pub drop_value : Spot → Value → Hand → Option Hand
drop_value holder (value.Own v) h = Some (working (give_up v) h)
drop_value holder (value.Shared r) h = unpin_ref r r.pinned h
drop_value holder (value.Mut r) h = finish holder r h
drop_value holder v h = Some h
