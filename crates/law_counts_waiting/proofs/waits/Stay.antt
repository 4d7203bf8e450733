-- The place that a thread follows leads where it led, after each event that isn't its own step.
use Rattle.std.proofs.Common.{◌≡◌, ◌≢◌, ℕ, zero, suc, ◌+◌, ◌-◌, ◌≤◌, true, Option, Some, None, refl, sym, ap, subst, ◌∙◌, arith}
use Rattle.law_counts_asking.specs.Below.fr_base.declared.place.Lval.{Lval}
use Rattle.law_counts_asking.specs.Below.fr_base.declared.step.Fresh.{Fresh}
use Rattle.law_counts_asking.specs.Below.fr_plain.PlainState.{SameState, place_in}
use Rattle.law_counts_asking.specs.Below.journal.View.{EntryView}
use Rattle.law_counts_asking.specs.Below.server_model.declared.event.Event.{Event}
use Rattle.law_counts_asking.specs.Below.server_model.declared.event.What.TheVariants.{Step}
use Rattle.law_counts_asking.specs.Below.server_model.Servers.{Cluster}
use Rattle.law_counts_asking.specs.Below.server_model.Clusters.{apply}
use Rattle.law_counts_asking.specs.Below.coherent_memory.Things.{Location, at_slot, in_cell, things_of}
use Rattle.law_counts_asking.specs.Below.coherent_memory.Follow.{Standing, locate}
use Rattle.law_counts_asking.specs.Below.coherent_memory.Sight.{sight}
use Rattle.law_counts_asking.specs.Below.coherent_memory.OneHeap.{one_heap, running_at}
use Rattle.law_counts_asking.specs.Below.coherent_types.ClusterTypes.{IsCoherent}
use Rattle.law_counts_asking.specs.Below.law_words_paths.paths.HeapStore.{GoesOn, HasPaths}
use Rattle.law_counts_asking.proofs.Below.law_words_paths.paths.Alike.{coherent_has_paths}
use Rattle.law_counts_asking.proofs.Below.law_words_paths.paths.MayWrites.{may_write_there}
use Rattle.law_counts_asking.proofs.Below.law_words_paths.paths.Shown.{is_running}
use Rattle.law_counts_asking.proofs.Below.law_words_paths.paths.Sole.{some_is}
use Rattle.law_words_asked.specs.Below.law_words_paths.words.Reworded.{HasPlaces}
use Rattle.law_words_asked.proofs.Below.law_words_kept.reads.FreshReads.{reading_of}
use Rattle.law_counts_asking.specs.Below.law_counts_sums.Laws.{Gives, FewEvents}
use Rattle.law_counts_asking.proofs.Below.law_counts_sums.Results.{both_give, weaker}
use Rattle.law_counts_asking.proofs.Below.law_counts_sums.Sending.{applied_part}
use Rattle.law_counts_asking.proofs.Below.law_heap_still.undone.Undone.{each_undone}
use Rattle.law_counts_asking.proofs.SameHeap.{Runs, runs, SeesSame, place_kept as kept_in_heap}
use Rattle.law_counts_waiting.specs.waits.Places.{Follows, reads, writes, ends_at, LeadsAsItDid, OthersLeavePlaces, UndoneLeavePlaces}
use Rattle.law_counts_waiting.proofs.waits.Written.{chain_of, chain_of_holder}
use Rattle.law_counts_waiting.proofs.waits.Clusters.{Done, step_done}
use Rattle.law_counts_waiting.proofs.waits.Places.{Apart, reads_apart, chain_apart, place_kept}

-- WHERE NO PLAIN STEP IS DONE

same_heap : (k c : Cluster) (p : HasPaths k) (x : Standing) (g : GoesOn k x) (w : Lval) → SameState (one_heap c) (one_heap k) → LeadsAsItDid k c x.thread.number w
same_heap k c p x g w same n le =
    let number = x.thread.number in
    let r : Runs (sight c) number (running_at x.thread) = runs (sight c) number (running_at x.thread) (ap (λ l. place_in l) (same.threads number) ∙ is_running k p x g) in
    let sees : SeesSame k c number = record { place = ap (λ l. place_in l) (same.threads number); objects = λ o v f. same.objects o ∙ f } in
    sym (kept_in_heap k p c x r.standing g sees r.found (sym r.alike) w.slot n)

pub undone_leave : UndoneLeavePlaces
undone_leave k e coherent few x w g =
    weaker (λ (d : Cluster × EntryView). d.1.done ≡ None → SameState (one_heap d.0) (one_heap k)) (λ (d : Cluster × EntryView). d.1.done ≡ None → LeadsAsItDid k d.0 x.thread.number w) (apply k e) (each_undone k e coherent few)
    (λ d same none. same_heap k d.0 (coherent_has_paths k coherent) x g w (same none))

-- WHERE ANOTHER THREAD'S STEP IS DONE

-- a slot is no cell
slot_apart : (k : Cluster) (p : HasPaths k) (x : Standing) (t i : ℕ) → Apart k p x (at_slot t i)
slot_apart k p x t i u o e w = absurd (cc e)

-- with fewer stars too, its place is apart from what others write
follows_apart : (k : Cluster) (p : HasPaths k) (x : Standing) (g : GoesOn k x) (w : Lval) → Follows k x w → (d : ℕ) (l : Location) → d ≤ w.depth → locate (sight k).ground x.thread.number w.slot d ≡ Some l → Apart k p x l
follows_apart k p x g w (reads i n at r) d l le located = reads_apart k p x l (reading_of k p x i w n d l g at r (w.depth - d) (omega (arith, le)) located)
follows_apart k p x g w (writes i at r) d l le located = chain_apart k p x l (chain_of k p x g w d l (may_write_there k p x g i w at r) le located)
follows_apart k p x g w (ends_at r is same) d l le located = by d le located
  where
    by : (d : ℕ) → d ≤ w.depth → locate (sight k).ground x.thread.number w.slot d ≡ Some l → Apart k p x l
    by zero le located = subst (λ z. Apart k p x z) (some_is located) (slot_apart k p x x.thread.number w.slot)
    by (suc d) le located =
        chain_apart k p x l
        (chain_of_holder k p x g r is d l (let deep = ap (λ (v : Lval). v.depth) same in omega (arith, le, deep)) (subst (λ (v : Lval). locate (sight k).ground x.thread.number v.slot (suc d) ≡ Some l) (sym same) located))

pub others_leave : OthersLeavePlaces
others_leave k e coherent few x w g other follows =
    both_give (λ (d : Cluster × EntryView). d.1.done ≡ None → LeadsAsItDid k d.0 x.thread.number w) (λ (d : Cluster × EntryView). HasPlaces d.0 × ((names : Fresh) → d.1.done ≡ Some names → Done k e.what (things_of k) (things_of d.0)))
    (λ (d : Cluster × EntryView). LeadsAsItDid k d.0 x.thread.number w) (apply k e) (undone_leave k e coherent few x w g)
    (both_give (λ (d : Cluster × EntryView). HasPlaces d.0) (λ (d : Cluster × EntryView). (names : Fresh) → d.1.done ≡ Some names → Done k e.what (things_of k) (things_of d.0))
    (λ (d : Cluster × EntryView). HasPlaces d.0 × ((names : Fresh) → d.1.done ≡ Some names → Done k e.what (things_of k) (things_of d.0))) (apply k e)
    (applied_part HasPlaces (λ c s. record { numbers_differ = s.numbers_differ; home_of_each = s.home_of_each; owner_of_each = s.owner_of_each }) k e coherent.sound few) (step_done k e coherent few) (λ d a b. (a, b)))
    (λ d u v. by d u v d.1.done refl)
  where
    by : (d : Cluster × EntryView) → (d.1.done ≡ None → LeadsAsItDid k d.0 x.thread.number w) → HasPlaces d.0 × ((names : Fresh) → d.1.done ≡ Some names → Done k e.what (things_of k) (things_of d.0)) → (o : Option Fresh) → d.1.done ≡ o
        → LeadsAsItDid k d.0 x.thread.number w
    by d u v None q = u q
    by d u v (Some names) q = λ n le.
        let done = v.1 names q in
        let ne : x.thread.number ≢ done.thread = λ (f : x.thread.number ≡ done.thread). other (done.is ∙ ap (λ m. Step m) (sym f)) in
        sym (place_kept k d.0 done.thread done.server done.paths v.0 done.leaves x g ne w (λ m l less located. follows_apart k done.paths x g w follows m l less located) n le)
