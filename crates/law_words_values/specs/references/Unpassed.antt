-- A SLOT THAT NO HOLDER PASSES (this project's rule): the place of no mutable reference's holder comes to it, whatever stands in it.
use Rattle.std.specs.Prelude.{◌≡◌, ◌≤◌, ℕ, Some}
use Rattle.law_words_values.specs.Below.mut_borrow.declared.mutable.MutRef.{MutRef}
use Rattle.law_words_values.specs.Below.thread_state.declared.value.Value.TheVariants as value
use Rattle.law_words_values.specs.Below.server_model.Servers.{Cluster}
use Rattle.law_words_values.specs.Below.fr_store.Keys.{slot_k}
use Rattle.law_words_values.specs.Below.fr_store.Typed.{Unnamed}
use Rattle.law_words_values.specs.Below.coherent_memory.Things.{Location, at_slot}
use Rattle.law_words_values.specs.Below.coherent_memory.Follow.{value_in}
use Rattle.law_words_values.specs.Below.coherent_memory.Stale.{holder_of}
use Rattle.law_words_values.specs.Below.coherent_memory.Sight.{sight}
use Rattle.law_words_values.specs.Below.law_words_paths.paths.HeapStore.{HasPaths}

-- however many stars of the holder's place are taken
abbrev pub IsUnpassed : Cluster → Location → Type 0
IsUnpassed k s = (l m : Location) (r : MutRef) (d : ℕ) → value_in (sight k).ground l ≡ Some (value.Mut r) → holder_of (sight k).ground l r.holder ≡ Some m → d ≤ r.holder.depth
    → holder_of (sight k).ground l (record r.holder { depth = d }) ≡ Some s → ⊥

-- such is a slot that no type names
abbrev pub UnnamedAreUnpassed : Type 0
UnnamedAreUnpassed = (k : Cluster) (c : HasPaths k) (t i : ℕ) → Unnamed c.types.typing.exact (slot_k t i) → IsUnpassed k (at_slot t i)
