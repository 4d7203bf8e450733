-- Where copies come from: each one was there, or is served where one was asked for.
use Rattle.std.proofs.Common.{◌≡◌, ℕ, ◌≤◌, List, Some, refl, arith}
use Rattle.std.specs.Prelude.{slice_get}
use Rattle.law_words_borrows.specs.Below.fr_base.declared.name.ObjNo.{ObjNo}
use Rattle.law_words_borrows.specs.Below.fr_base.declared.instruction.Instr.{Instr}
use Rattle.law_words_borrows.specs.Below.heap_partition.declared.value.BoxPtr.{BoxPtr}
use Rattle.law_words_borrows.specs.Below.heap_partition.declared.value.Cell.{Cell}
use Rattle.law_words_borrows.specs.Below.thread_state.View.{ThreadState}
use Rattle.law_words_borrows.specs.Below.journal.View.{EntryView}
use Rattle.law_words_borrows.specs.Below.server_msgs.declared.message.Message.TheVariants.{Fetch}
use Rattle.law_words_borrows.specs.Below.server_model.declared.event.Event.{Event}
use Rattle.law_words_borrows.specs.Below.server_model.declared.event.What.TheVariants.{Step}
use Rattle.law_words_borrows.specs.Below.server_model.Servers.{Server, Cluster, server_at}
use Rattle.law_words_borrows.specs.Below.server_model.Work.{thread_in, look_object}
use Rattle.law_words_borrows.specs.Below.server_model.Prepare.{access_of}
use Rattle.law_words_borrows.specs.Below.server_model.Clusters.{apply}
use Rattle.law_words_borrows.specs.Below.coherent_memory.Names.{tot}
use Rattle.law_words_borrows.specs.Below.coherent_memory.Things.{Thing, things_of}
use Rattle.law_words_borrows.specs.Below.coherent_memory.Coherent.{IsSound}
use Rattle.law_words_borrows.specs.Below.law_counts_sums.Laws.{Gives, FewEvents}
use Rattle.law_words_borrows.proofs.Below.law_counts_sums.Results.{weaker}
use Rattle.law_words_borrows.proofs.Below.law_counts_sums.Boxes.{tot_le}
use Rattle.law_words_borrows.proofs.Below.law_counts_things.things.Small.{Follows}
use Rattle.law_words_borrows.proofs.Below.law_counts_things.names.Named.{Also, names}
use Rattle.law_words_borrows.proofs.Below.law_counts_things.names.Sums.{copy_of, stray}
use Rattle.law_words_borrows.proofs.Below.law_counts_things.names.Kept.{GoneOn, ends_as, gone_on}
use Rattle.law_words_borrows.proofs.Below.law_counts_things.names.Sentences.{nothing, nobody, no_object, no_holder, no_mark, no_askers, no_objects, no_going, unmarked_by}

-- copies and the words of which one was asked for weigh something, and no other names
abbrev copying : (ℕ → Cell → ℕ) → (ℕ → ℕ) → Also
copying f g = record { holder = nothing; mark = 0; asker = nobody; object = no_object; going = nobody; copy = f; wanted = g }

-- a copy that a server may serve weighs nothing
abbrev pub ServedWeighNothing : Cluster → (ℕ → Cell → ℕ) → Type 0
ServedWeighNothing k f = (number : ℕ) (s : Server) → server_at k.servers number ≡ Some s → (i v : ℕ) (o : ObjNo) (r t : ℕ) (c : Cell) → slice_get s.rest.inbox i ≡ Some (Fetch v o r t) → look_object s.rest.partition v o ≡ Some c → f v c ≡ 0

-- nor does a word that a step asks for
abbrev pub AskedWeighNothing : Cluster → Event → (ℕ → ℕ) → Type 0
AskedWeighNothing k e g = (s : Server) → server_at k.servers e.server ≡ Some s → (t : ℕ) (y : ThreadState) (i : Instr) → e.what ≡ Step t → thread_in s.threads t ≡ Some y → slice_get k.code y.pc ≡ Some i → Follows (access_of i y) → (p : BoxPtr) → g p.word ≡ 0

-- so all copies weigh nothing afterwards, where they did before
pub copies_come : (k : Cluster) (e : Event) (f : ℕ → Cell → ℕ) (g : ℕ → ℕ) → IsSound k → FewEvents k → tot (copy_of f g) (things_of k) ≡ 0 → ServedWeighNothing k f → AskedWeighNothing k e g
    → Gives (λ (d : Cluster × EntryView). tot (copy_of f g) (things_of d.0) ≡ 0) (apply k e)
copies_come k e f g sound few none served asked =
    weaker (λ (d : Cluster × EntryView). GoneOn k also (ends_as k e (server_at k.servers e.server)) d.0) (λ (d : Cluster × EntryView). tot (copy_of f g) (things_of d.0) ≡ 0) (apply k e)
    (gone_on k e also sound few
    (record { holders = no_holder b; marks_none = no_mark b; askers = no_askers b; objects = no_objects b; lives = no_going b; copies = none; served = served })
    (λ s here t y i q there at on. record {
      stands = refl;
      lives = λ z. refl;
      boxed = λ o z. (refl, refl);
      young = λ c low high. refl;
      lends = λ p m c z. refl;
      asks = asked s here t y i q there at;
      moves = λ j p c h h2 x v z r u. unmarked_by k also j v refl;
    }))
    (λ d gone. let left = gone.none in omega (arith, left, tot_le (copy_of f g) (stray (names k also (ends_as k e (server_at k.servers e.server)))) weighs_in (things_of d.0)))
  where
    also : Also
    also = copying f g

    b : List Thing
    b = things_of k

    weighs_in : (x : Thing) → copy_of f g x ≤ stray (names k (copying f g) (ends_as k e (server_at k.servers e.server))) x
    weighs_in x = omega arith
