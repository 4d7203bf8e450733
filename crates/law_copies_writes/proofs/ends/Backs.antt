-- The end of a reference, as a hand sees it: what the word that its holder's pointer gets changes, and that words stay and each object is what it was, or covered, however the reference goes.
use Rattle.std.proofs.Common.{◌≡◌, ℕ, List, Some}
use Rattle.std.specs.Prelude.{slice_get, slice_set}
use Rattle.law_copies_writes.specs.Below.mut_borrow.declared.mutable.MutRef.{MutRef}
use Rattle.law_copies_writes.specs.Below.thread_state.View.{ThreadState}
use Rattle.law_copies_writes.specs.Below.thread_state.declared.value.Value.{Value}
use Rattle.law_copies_writes.specs.Below.server_model.Servers.{Rest, Server, Cluster, server_at}
use Rattle.law_copies_writes.specs.Below.server_model.Work.{Hand, thread_in}
use Rattle.law_copies_writes.specs.Below.server_model.Places.{Spot}
use Rattle.law_copies_writes.specs.Below.server_model.Drop.{finish}
use Rattle.law_copies_writes.specs.Below.coherent_types.ClusterTypes.{IsCoherent}
use Rattle.law_copies_writes.specs.Below.law_counts_sums.Laws.{Gives}
use Rattle.law_copies_writes.proofs.Below.law_words_values.carried.Passing.{Here, slot}
use Rattle.law_words_ends.proofs.variables.EndHands.{Goes}
use Rattle.law_words_ends.proofs.stars.Returns.{Shape, after}
use Rattle.law_copies_writes.proofs.writes.Hops.{Now}

module _ (k : Cluster) (coherent : IsCoherent k) (s : Server) (here_it : server_at k.servers s.rest.number ≡ Some s) (t : ℕ) (y : ThreadState) (at : thread_in s.threads t ≡ Some y) (H : Hand) (r : MutRef) where
  pub record Back (base : Hand) (sp : Spot) (from : Here) : Type 0 where
    pub rest : Rest
    pub slots : List Value → List Value
    pub finish_so : (F : Hand) → F.work.rest ≡ H.work.rest → ((m : ℕ) → (slot m ≡ from → ⊥) → slice_get F.thread.slots m ≡ slice_get H.thread.slots m)
        → Gives (λ (h2 : Hand). (h2.work.rest ≡ rest) × (h2.thread ≡ record F.thread { slots = slots F.thread.slots })) (finish sp r F)
    pub leaves : (x : ThreadState) → Shape k coherent.sound s here_it t y at H r x from → Goes k coherent.sound s here_it t y at base (after k coherent.sound s here_it t y at H r rest slots x)
    pub settles : (x : ThreadState) → Shape k coherent.sound s here_it t y at H r x from → Now k coherent s here_it t y at (after k coherent.sound s here_it t y at H r rest slots x)
    pub commutes : (i : ℕ) (vs : List Value) (v : Value) → slot i ≡ from → slots (slice_set vs i v) ≡ slice_set (slots vs) i v
    pub beside : (i : ℕ) (vs : List Value) → slot i ≡ from → slice_get (slots vs) i ≡ slice_get vs i
