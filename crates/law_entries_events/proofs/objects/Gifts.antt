-- Gifts stay the contents of the mutexes that they were, where what places pass shows the same.
use Rattle.std.proofs.Common.{◌≡◌, ℕ, Bool, false, Option, Some, is_some, refl, sym, ap, ◌∙◌}
use Rattle.std.specs.Prelude.{slice_get}
use Rattle.law_runs_whole.specs.Below.law_words_ends.Below.fr_base.declared.name.MutexNo.{MutexNo}
use Rattle.law_runs_whole.specs.Below.law_words_ends.Below.fr_base.declared.name.ObjNo.{ObjNo}
use Rattle.law_runs_whole.specs.Below.law_words_ends.Below.fr_base.declared.instruction.Instr.{Instr}
use Rattle.law_runs_whole.specs.Below.law_words_ends.Below.fr_base.declared.instruction.Instr.TheVariants as instr
use Rattle.law_runs_whole.specs.Below.server_model.Servers.{Cluster}
use Rattle.law_runs_whole.specs.Below.coherent_memory.Names.{one, if_so}
use Rattle.law_runs_whole.specs.Below.coherent_memory.Things.{things_of}
use Rattle.law_runs_whole.specs.Below.coherent_memory.Follow.{Standing, locate}
use Rattle.law_runs_whole.specs.Below.coherent_memory.Sight.{sight}
use Rattle.law_runs_whole.specs.Below.coherent_memory.Requests.{locked_mutex, is_mutex}
use Rattle.law_runs_whole.specs.Below.coherent_memory.Sharing.{gift_content}
use Rattle.law_runs_whole.specs.Below.coherent_memory.OneHeap.{object_n}
use Rattle.law_runs_whole.specs.Below.coherent_memory.Coherent.{IsSound}
use Rattle.law_entries_writes.specs.Below.law_entries_variables.Below.law_heap_still.events.Shows.{is_named}
use Rattle.law_runs_whole.proofs.Below.law_words_ends.Below.law_heap_still.events.Alike.{SeenAt, HeedAlike, mutex_same}
use Rattle.law_runs_whole.proofs.Below.law_words_ends.Below.law_heap_still.events.Counting.{no_stray}
use Rattle.law_runs_whole.proofs.Below.law_words_ends.Below.law_heap_still.events.Once.{shown_once}

abbrev pub GiftsKept : Cluster → Cluster → Type 0
GiftsKept k d = (m : MutexNo) (x : Standing) → gift_content (sight d) m x ≡ gift_content (sight k) m x

-- where objects may be left out that nothing names and that no place passes
pub gifts_kept : (k d : Cluster) → IsSound k → d.code ≡ k.code → (seen : ObjNo → Bool) → ((o : ObjNo) → seen o ≡ false → is_named (sight k) (object_n o) ≡ false) → ((t slot n : ℕ) → SeenAt seen (locate (sight k).ground t slot n))
    → HeedAlike seen (sight k) (things_of k) (things_of d) → GiftsKept k d
gifts_kept k d sound code seen covers passes alike m x =
    ap (λ cs. if_so (is_some x.thread.gift) (one (is_mutex m (locked_mutex (sight d) x (slice_get cs x.thread.pc))))) code ∙ ap (λ o. if_so (is_some x.thread.gift) (one (is_mutex m o))) (by (slice_get k.code x.thread.pc))
  where
    by : (i : Option Instr) → locked_mutex (sight d) x i ≡ locked_mutex (sight k) x i
    by (Some (instr.Lock w)) =
        sym (mutex_same k d (things_of k) (things_of d) code (shown_once k sound) seen covers (λ t y v h i n l. passes y.thread.number v.slot n) alike (no_stray k (shown_once k sound).threads) (no_stray d) x.thread.number w (λ n l. passes x.thread.number w.slot n))
    by _ = refl
