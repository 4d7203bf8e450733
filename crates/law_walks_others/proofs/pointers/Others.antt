-- What the step of one thread leaves of each other one: all of it, and the pointers on its way, words included.
use Rattle.std.proofs.Common.{◌≡◌, ℕ, zero, suc, ◌-◌, ◌≤◌, ◌==◌, ◌&&◌, Bool, true, false, Some, refl, sym, ap, subst, ◌∙◌, arith}
use Rattle.law_words_values.proofs.Below.fr_typing.PlaceLemmas.{eq_cases}
use Rattle.law_words_values.specs.Below.fr_base.declared.place.Lval.{Lval}
use Rattle.law_words_values.specs.Below.fr_base.declared.name.ObjNo.{ObjNo}
use Rattle.law_words_values.specs.Below.fr_base.Names.{same_object}
use Rattle.law_words_values.specs.Below.heap_partition.Same.{same_owned}
use Rattle.law_words_values.specs.Below.heap_partition.declared.value.Owned.{Owned}
use Rattle.law_words_values.specs.Below.journal.View.{EntryView}
use Rattle.law_words_values.specs.Below.server_model.declared.event.Event.{Event}
use Rattle.law_words_values.specs.Below.server_model.Servers.{Cluster}
use Rattle.law_words_values.specs.Below.server_model.Clusters.{apply}
use Rattle.law_words_values.specs.Below.coherent_memory.Names.{tot, one, if_so}
use Rattle.law_words_values.specs.Below.coherent_memory.Things.{Location, at_slot, in_cell, Thing, lies, flies, stands, sent, things_of}
use Rattle.law_words_values.specs.Below.coherent_memory.Follow.{Standing, locate}
use Rattle.law_words_values.specs.Below.coherent_memory.Paths.{Awaited}
use Rattle.law_words_values.specs.Below.coherent_memory.Sight.{sight}
use Rattle.law_words_values.specs.Below.coherent_memory.Walking.{asks_for, asked_for}
use Rattle.law_words_values.specs.Below.coherent_types.ClusterTypes.{IsCoherent}
use Rattle.law_words_values.specs.Below.law_words_paths.paths.HeapStore.{GoesOn, HasPaths}
use Rattle.law_words_values.proofs.Below.law_words_paths.paths.MayWrites.{may_write_there}
use Rattle.law_words_values.proofs.Below.law_words_paths.paths.Sole.{some_is}
use Rattle.law_counts_waiting.specs.Below.law_words_paths.words.Reworded.{HasPlaces}
use Rattle.law_counts_waiting.proofs.Below.law_words_kept.reads.FreshReads.{reading_of}
use Rattle.law_words_values.specs.Below.law_counts_sums.Laws.{Gives, FewEvents}
use Rattle.law_words_values.proofs.Below.law_counts_sums.Results.{both_give, weaker}
use Rattle.law_words_values.proofs.Below.law_counts_sums.Sending.{applied_part}
use Rattle.law_words_values.proofs.Below.law_heap_still.events.Tests.{IsTest, objects}
use Rattle.law_words_values.proofs.Below.law_heap_still.events.Told.{tot_same, at_thread}
use Rattle.law_counts_waiting.specs.waits.Places.{Follows, reads, writes, ends_at}
use Rattle.law_counts_waiting.proofs.waits.Places.{Apart, reads_apart, chain_apart}
use Rattle.law_counts_waiting.proofs.waits.Written.{Written, chain_of, chain_of_holder}
use Rattle.law_walks_others.specs.pointers.Pointers.{SamePointers, OthersStepsLeavePointers}
use Rattle.law_walks_others.proofs.pointers.Cells.{Seeing, cell_weight}
use Rattle.law_walks_others.proofs.pointers.Clusters.{Unseen, SeesOn, SeenIn, step_sees}
use Rattle.law_walks_others.proofs.pointers.Still.{places_of, shows, Lasts, pointers_same}

truth_cases : (b : Bool) (P : Bool → Type 0) → (b ≡ true → P true) → (b ≡ false → P false) → P b
truth_cases true P f g = f refl
truth_cases false P f g = g refl

-- WHAT LASTS

-- all that the thread doesn't own or write
abbrev pub Own : ℕ → ℕ → Type 0
Own t n = n ≡ t

module _ (k c : Cluster) (p : HasPaths k) (t : ℕ) (sees : SeesOn k p t (things_of k) (things_of c)) where
  pub step_lasts : Lasts k c (Own t) (Written k p t)
  step_lasts = record { threads = threads; cells = cells; asked = asked }
    where
      weigh : (see : Seeing) (f : Thing → ℕ) → ((x : Thing) → cell_weight see x ≡ f x) → Unseen k p t see → tot f (things_of k) ≤ tot f (things_of c)
      weigh see f same unseen = omega (arith, sees see unseen, tot_same (cell_weight see) f same (things_of k), tot_same (cell_weight see) f same (things_of c))

      threads : (g : Standing → ℕ) (n : ℕ) → (n ≡ t → ⊥) → tot (at_thread g n) (things_of k) ≤ tot (at_thread g n) (things_of c)
      threads g n ne = weigh (record { cells = λ r o v. 0; messages = λ s m. 0; threads = λ s b u. if_so (u.number == n) (g (record { server = s; packed = b; thread = u })) }) (at_thread g n) so (record {
        thread = λ s b u e. eq_cases (λ q. if_so q (g (record { server = s; packed = b; thread = u })) ≡ 0) u.number n (λ same. absurd (ne (sym same ∙ e))) (λ other. refl);
        written = λ o h r v. refl;
      })
        where
          so : (x : Thing) → cell_weight (record { cells = λ r o v. 0; messages = λ s m. 0; threads = λ s b u. if_so (u.number == n) (g (record { server = s; packed = b; thread = u })) }) x ≡ at_thread g n x
          so (stands s b u) = refl
          so (lies s a d) = refl
          so (flies w d) = refl
          so (sent s m) = refl
          so _ = refl

      cells : (o : ObjNo) (v : Owned) → (Written k p t o → ⊥) → tot (shows o v) (things_of k) ≤ tot (shows o v) (things_of c)
      cells o v free = weigh (record { cells = λ r q u. one (same_object q o && same_owned u v); threads = λ s b u. 0; messages = λ s m. 0 }) (shows o v) so (record {
        thread = λ s b u e. refl;
        written = λ q h r u. truth_cases (same_object q o) (λ b. one (b && same_owned u v) ≡ 0) (λ e. (let test : IsTest same_object = objects in absurd (free (subst (λ a. Written k p t a) (test.tells q o e) h)))) (λ e. refl);
      })
        where
          so : (x : Thing) → cell_weight (record { cells = λ r q u. one (same_object q o && same_owned u v); threads = λ s b u. 0; messages = λ s m. 0 }) x ≡ shows o v x
          so (stands s b u) = refl
          so (lies s a d) = refl
          so (flies w d) = refl
          so (sent s m) = refl
          so _ = refl

      asked : (n : ℕ) (b : Awaited) → tot (asked_for n b) (things_of k) ≤ tot (asked_for n b) (things_of c)
      asked n b = weigh (record { cells = λ r o v. 0; threads = λ r q u. 0; messages = λ r m. one (asks_for n b m) }) (asked_for n b) so (record { thread = λ r q u e. refl; written = λ o h r v. refl })
        where
          so : (x : Thing) → cell_weight (record { cells = λ r o v. 0; threads = λ r q u. 0; messages = λ r m. one (asks_for n b m) }) x ≡ asked_for n b x
          so (sent r m) = refl
          so (lies r q d) = refl
          so (flies w d) = refl
          so (stands r q u) = refl
          so _ = refl

-- WHAT A THREAD FOLLOWS

-- a slot is no cell
slot_apart : (k : Cluster) (p : HasPaths k) (x : Standing) (t i : ℕ) → Apart k p x (at_slot t i)
slot_apart k p x t i u o e w = absurd (cc e)

-- with fewer stars too, its place is apart from what others write
pub follows_apart : (k : Cluster) (p : HasPaths k) (x : Standing) (g : GoesOn k x) (w : Lval) → Follows k x w → (d : ℕ) (l : Location) → d ≤ w.depth → locate (sight k).ground x.thread.number w.slot d ≡ Some l → Apart k p x l
follows_apart k p x g w (reads i n at r) d l le located = reads_apart k p x l (reading_of k p x i w n d l g at r (w.depth - d) (omega (arith, le)) located)
follows_apart k p x g w (writes i at r) d l le located = chain_apart k p x l (chain_of k p x g w d l (may_write_there k p x g i w at r) le located)
follows_apart k p x g w (ends_at r is same) d l le located = by d le located
  where
    by : (d : ℕ) → d ≤ w.depth → locate (sight k).ground x.thread.number w.slot d ≡ Some l → Apart k p x l
    by zero le located = subst (λ z. Apart k p x z) (some_is located) (slot_apart k p x x.thread.number w.slot)
    by (suc d) le located =
        chain_apart k p x l
        (chain_of_holder k p x g r is d l (let deep = ap (λ (v : Lval). v.depth) same in omega (arith, le, deep)) (subst (λ (v : Lval). locate (sight k).ground x.thread.number v.slot (suc d) ≡ Some l) (sym same) located))

-- THE STEP

-- what is known of the cluster afterwards
abbrev pub Known : (k : Cluster) (e : Event) → IsCoherent k → FewEvents k → Cluster × EntryView → Type 0
Known k e coherent few d = HasPlaces d.0 × SeenIn k e coherent few d

pub known : (k : Cluster) (e : Event) (coherent : IsCoherent k) (few : FewEvents k) → Gives (Known k e coherent few) (apply k e)
known k e coherent few =
    both_give (λ (d : Cluster × EntryView). HasPlaces d.0) (SeenIn k e coherent few) (Known k e coherent few) (apply k e)
    (applied_part HasPlaces (λ c s. record { numbers_differ = s.numbers_differ; home_of_each = s.home_of_each; owner_of_each = s.owner_of_each }) k e coherent.sound few) (step_sees k e coherent few) (λ d a b. (a, b))

pub others_step : OthersStepsLeavePointers
others_step k e t is coherent few x w g ne follows =
    weaker (Known k e coherent few) (λ (d : Cluster × EntryView). SamePointers k d.0 x.thread.number w) (apply k e) (known k e coherent few) (λ d a.
    pointers_same k d.0 (Own t) (Written k (a.1 t is).0 t) (places_of coherent) a.0 (step_lasts k d.0 (a.1 t is).0 t (a.1 t is).1) (a.1 t is).0 x g ne w (λ m o le located h. ne (follows_apart k (a.1 t is).0 x g w follows m (in_cell o) le located t o refl h)))
