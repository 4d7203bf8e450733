-- The first word of a new reference is that of its pointer.
use Rattle.std.proofs.Common.{◌≡◌, ℕ, zero, suc, true, false, [], ◌∷◌, Option, Some, None, option_map, refl, sym, ap, subst, ◌∙◌}
use Rattle.std.specs.Prelude.{slice_get}
use Rattle.law_walks_own.specs.Below.fr_base.declared.place.Lval.{Lval}
use Rattle.law_walks_own.specs.Below.fr_base.declared.step.Fresh.TheVariants as fresh
use Rattle.law_walks_own.specs.Below.fr_base.declared.instruction.Instr.{Instr}
use Rattle.law_walks_own.specs.Below.fr_base.declared.instruction.Instr.TheVariants as instr
use Rattle.law_walks_own.specs.Below.heap_partition.declared.value.Owned.TheVariants as owned
use Rattle.law_walks_own.specs.Below.migration.Packing.{unpin_all}
use Rattle.law_walks_own.specs.Below.mut_borrow.declared.mutable.MutRef.{MutRef}
use Rattle.law_walks_own.specs.Below.thread_state.View.{ThreadState}
use Rattle.law_walks_own.specs.Below.thread_state.declared.phase.Phase.{Phase}
use Rattle.law_walks_own.specs.Below.thread_state.declared.phase.Phase.TheVariants as phase
use Rattle.law_walks_own.specs.Below.thread_state.declared.value.Value.{Value}
use Rattle.law_walks_own.specs.Below.thread_state.declared.value.Value.TheVariants as value
use Rattle.law_walks_own.specs.Below.server_model.declared.event.What.TheVariants.{Step}
use Rattle.law_walks_own.specs.Below.server_model.Servers.{Server, Cluster, server_at}
use Rattle.law_walks_own.specs.Below.server_model.Work.{Hand, push_temp, thread_in, then_some}
use Rattle.law_walks_own.specs.Below.server_model.Places.{Spot, in_slot, value_at}
use Rattle.law_walks_own.specs.Below.server_model.Prepare.{Prepared, ready, requested, nothing, LendTo, lend_pointer}
use Rattle.law_walks_own.specs.Below.server_model.Commit.{go_on, goes_on, lent_word, mutable_from, borrow_mut_from, settle}
use Rattle.law_walks_own.specs.Below.server_model.Events.{Stepped, enabled, begin_work, done_step, committed, prepared, step}
use Rattle.law_walks_own.specs.Below.coherent_memory.Names.{tot}
use Rattle.law_walks_own.specs.Below.coherent_memory.Things.{things_of}
use Rattle.law_walks_own.specs.Below.coherent_memory.Placing.{words}
use Rattle.law_walks_own.specs.Below.coherent_types.ClusterTypes.{IsCoherent}
use Rattle.law_walks_own.specs.Below.law_counts_sums.Laws.{Gives, FewEvents}
use Rattle.law_walks_own.proofs.Below.law_counts_sums.Results.{map_gives, over_gives}
use Rattle.law_walks_own.proofs.Below.law_counts_sums.Known.{all_append}
use Rattle.law_walks_own.proofs.Below.law_counts_things.things.Small.{Of, Made, prepare_makes}
use Rattle.law_words_issued.specs.old.Old.{pointer_word}
use Rattle.law_words_issued.proofs.old.Values.{Fine, AllFine}
use Rattle.law_words_issued.proofs.old.Walk.{F, small, passes}
use Rattle.law_words_issued.proofs.old.Lent.{Lent, lent_old}

some_same : {X : Type 0} {a b : X} → Some a ≡ Some b → a ≡ b
some_same e = cc

-- an object that was taken gives its reference another word, but not another first one
same_first : (p : Phase) (r : MutRef) → (lent_word p r).first ≡ r.first
same_first (phase.Taken w) r = refl
same_first _ r = refl

module _ (f : ℕ → ℕ) where
  made_fine : (p : Phase) (r : MutRef) (u : Value) → f r.first ≡ 0 → Some (value.Mut (lent_word p r)) ≡ Some u → Fine f u
  made_fine p r u z e = subst (Fine f) (some_same e) (ap f (same_first p r) ∙ z)

  lent_fine : (p : Phase) (w : Lval) (v u : Value) → mutable_from p w v ≡ Some u → pointer_word f (Some v) ≡ 0 → Fine f u
  lent_fine p w (value.MutSlot i) u e z = subst (Fine f) (some_same e) refl
  lent_fine p w (value.Own (owned.Box b)) u e z = made_fine p (record { word = b.word; first = b.word; object = b.object; dirty = false; holder = w }) u z e
  lent_fine p w (value.Mut r) u e z = made_fine p (record { word = r.word; first = r.word; object = r.object; dirty = r.dirty; holder = w }) u z e
  lent_fine p w (value.Own owned.Nothing) u e z = absurd (cc e)
  lent_fine p w (value.Own owned.Unit) u e z = absurd (cc e)
  lent_fine p w (value.Own (owned.Int n)) u e z = absurd (cc e)
  lent_fine p w (value.Own (owned.Mutex m)) u e z = absurd (cc e)
  lent_fine p w (value.Own (owned.Task t)) u e z = absurd (cc e)
  lent_fine p w value.Gone u e z = absurd (cc e)
  lent_fine p w (value.SharedSlot i) u e z = absurd (cc e)
  lent_fine p w (value.Shared r) u e z = absurd (cc e)
  lent_fine p w (value.Held m) u e z = absurd (cc e)

  abbrev Then : Stepped → Type 0
  Then d = Of (F f) d.hand

  -- the step is done
  ended : (h : Hand) → Of (F f) h → Gives Then (committed (goes_on (Some h)))
  ended h g = over_gives (Of (F f)) Then (settle (go_on h)) (done_step fresh.None) (map_gives (Of (F f)) (unpin_all h.thread.walk h.work.rest.cache) _ (λ cs q. g)) (λ h2 u. u)

  pushed : (v : Value) (h : Hand) → Fine f v → Of (F f) h → Of (F f) (push_temp v h)
  pushed v h a g = (g.0, all_append (Fine f) h.thread.temps (v ∷ []) g.1 (a, tt))

  borrowed : (w : Lval) (d : ℕ) (sp : Spot) (h : Hand) → (o : Option Value) → pointer_word f o ≡ 0 → Of (F f) h → Gives Then (committed (goes_on (then_some o (λ v. option_map (λ r. push_temp r h) (mutable_from h.thread.phase (record w { depth = d }) v)))))
  borrowed w d sp h None z g = tt
  borrowed w d sp h (Some v) z g = by (mutable_from h.thread.phase (record w { depth = d }) v) refl
    where
      by : (m : Option Value) → mutable_from h.thread.phase (record w { depth = d }) v ≡ m → Gives Then (committed (goes_on (option_map (λ r. push_temp r h) m)))
      by None e = tt
      by (Some u) e = ended (push_temp u h) (pushed u h (lent_fine h.thread.phase (record w { depth = d }) v u e z) g)

module _ (k : Cluster) (coherent : IsCoherent k) (few : FewEvents k) (n : ℕ) (s : Server) (here : server_at k.servers n ≡ Some s) (t : ℕ) (y : ThreadState) (at : thread_in s.threads t ≡ Some y)
    (on : enabled k.options s (Step t) ≡ true) (w : Lval) (code : slice_get k.code y.pc ≡ Some (instr.BorrowMut w)) (f : ℕ → ℕ) (all : tot (words f) (things_of k) ≡ 0) (fine : AllFine f y) where
  abbrev i : Instr
  i = instr.BorrowMut w

  abbrev h0 : Hand
  h0 = record { work = begin_work s.rest; thread = y }

  -- what is ready has the fact
  made : Made (F f) (F f) (lend_pointer w w.depth h0)
  made = prepare_makes (Some (LendTo w)) h0 (λ z. small f) (λ z. passes f) fine

  of_variable : w.depth ≡ zero → Gives (Then f) (prepared k.options.servers i (lend_pointer w w.depth h0))
  of_variable flat =
      subst (λ d. Gives (Then f) (prepared k.options.servers i (lend_pointer w d h0))) (sym flat)
      (subst (λ d. Gives (Then f) (committed (goes_on (borrow_mut_from w d (in_slot w.slot) h0)))) (sym flat) (ended f (push_temp (value.MutSlot w.slot) h0) (pushed f (value.MutSlot w.slot) h0 refl fine)))

  of_pointer : (d : ℕ) → w.depth ≡ suc d → Gives (Then f) (prepared k.options.servers i (lend_pointer w w.depth h0))
  of_pointer d deep =
      subst (λ m. Gives (Then f) (prepared k.options.servers i (lend_pointer w m h0))) (sym deep)
      (by (lend_pointer w (suc d) h0) (subst (λ m. Made (F f) (F f) (lend_pointer w m h0)) deep made) (lent_old k coherent few n s here t y at on w d deep code f all))
    where
      by : (p : Prepared) → Made (F f) (F f) p → Lent k coherent few n s here t y at on w d deep code f all p → Gives (Then f) (prepared k.options.servers i p)
      by (ready h sp) g a = subst (λ m. Gives (Then f) (committed (goes_on (borrow_mut_from w m sp h)))) (sym deep) (borrowed f w d sp h (value_at h sp) a g)
      by (requested h) g a = g
      by nothing g a = tt

  pub lending_fine : Gives (λ (d : Stepped). AllFine f d.hand.thread) (step k.options.servers i h0)
  lending_fine = by w.depth refl
    where
      by : (d : ℕ) → w.depth ≡ d → Gives (λ (d : Stepped). AllFine f d.hand.thread) (step k.options.servers i h0)
      by zero flat = of_variable flat
      by (suc d) deep = of_pointer d deep
