-- After each event what a thread has taken it has under another word than the pointer has that its place follows last.
use Rattle.std.proofs.Common.{◌≡◌, ℕ, false, Some, refl, sym, ap, ◌∙◌}
use Rattle.law_words_ends.proofs.Below.fr_typing.PlaceLemmas.{eq_cases}
use Rattle.law_words_ends.specs.Below.thread_state.declared.phase.Phase.{Phase}
use Rattle.law_words_ends.specs.Below.thread_state.declared.phase.Phase.TheVariants as phase
use Rattle.law_words_ends.specs.Below.journal.View.{EntryView}
use Rattle.law_words_ends.specs.Below.server_model.declared.event.Event.{Event}
use Rattle.law_words_ends.specs.Below.server_model.declared.event.What.TheVariants.{Step}
use Rattle.law_words_ends.specs.Below.server_model.Servers.{Cluster}
use Rattle.law_words_ends.specs.Below.server_model.Prepare.{is_taken}
use Rattle.law_words_ends.specs.Below.server_model.Clusters.{apply}
use Rattle.law_words_ends.specs.Below.coherent_memory.Names.{Among}
use Rattle.law_words_ends.specs.Below.coherent_memory.Things.{things_of}
use Rattle.law_words_ends.specs.Below.coherent_memory.Follow.{Standing, threads_in, thread_at}
use Rattle.law_words_ends.specs.Below.coherent_memory.Sight.{Sight, sight}
use Rattle.law_words_ends.specs.Below.coherent_memory.Requests.{old_word}
use Rattle.law_words_ends.specs.Below.coherent_memory.Coherent.{Holds, taken_is_new}
use Rattle.law_words_ends.proofs.Below.coherent_memory.Words.{none_all}
use Rattle.law_words_ends.specs.Below.coherent_types.ClusterTypes.{IsCoherent}
use Rattle.law_words_ends.proofs.Below.law_words_paths.paths.Sole.{some_is}
use Rattle.law_words_ends.specs.Below.law_words_paths.words.Reworded.{HasPlaces}
use Rattle.law_words_ends.specs.Below.law_counts_sums.Laws.{Gives, FewEvents}
use Rattle.law_words_ends.proofs.Below.law_counts_sums.Results.{both_give, weaker}
use Rattle.law_words_ends.proofs.Below.law_counts_sums.Sending.{applied_part}
use Rattle.law_words_ends.proofs.Below.law_heap_still.events.Told.{found}
use Rattle.law_words_ends.specs.Below.law_counts_things.things.Laws.{EachCoherentEventKeeps}
use Rattle.law_walks_others.proofs.Below.law_counts_waiting.waits.Steady.{new_steady}
use Rattle.law_walks_others.proofs.pointers.Delivered.{moves_taken, drops_taken}
use Rattle.law_walks_others.proofs.pointers.Followed.{others_taken}
use Rattle.law_walks_own.proofs.taken.After.{Stays, stays_there}
use Rattle.law_walks_own.proofs.taken.Own.{Untaken, own_untaken}
use Rattle.law_walks_own.proofs.taken.Moved.{known, Known, moved_new}
use Rattle.law_walks_own.proofs.taken.Ways.{each_way}

-- who has taken nothing
none_old : (s : Sight) (x : Standing) (p : Phase) → is_taken p ≡ false → old_word s x p ≡ 0
none_old s x (phase.Taken w) e = absurd (cc e)
none_old s x phase.Ready e = refl
none_old s x phase.Got e = refl
none_old s x (phase.WaitCell w) e = refl
none_old s x (phase.WaitLock m) e = refl
none_old s x (phase.WaitDup m) e = refl
none_old s x (phase.WaitJoin u) e = refl
none_old s x (phase.WaitPar a b) e = refl
none_old s x (phase.GotPar a b) e = refl
none_old s x phase.Over e = refl

-- a thread that stepped, and others
module _ (z : Cluster) (places : HasPlaces z) (t : ℕ) (own : Untaken t (things_of z)) (others : (x : Standing) → Among x (sight z).ground.threads → (x.thread.number ≡ t → ⊥) → old_word (sight z) x x.thread.phase ≡ 0) where
  abbrev wrong : Standing → ℕ
  wrong x = old_word (sight z) x x.thread.phase

  stepped_new : Holds z taken_is_new
  stepped_new = none_all wrong (threads_in (things_of z)) (λ x among. eq_cases (λ b. wrong x ≡ 0) x.thread.number t (λ number. its x among number) (λ ne. others x among ne))
    where
      its : (x : Standing) → Among x (threads_in (things_of z)) → x.thread.number ≡ t → wrong x ≡ 0
      its x among number =
          let st : Stays z (record { server = own.server; packed = false; thread = own.thread }) = stays_there z places own.server own.thread own.there in
          let here : thread_at (sight z).ground.threads x.thread.number ≡ Some x = found x (things_of z) (places.numbers_differ x.thread.number) among in
          let same : st.standing ≡ x = some_is (sym st.found ∙ ap (thread_at (sight z).ground.threads) (own.number ∙ sym number) ∙ here) in
          ap wrong (sym same) ∙ st.same wrong ∙ none_old (sight z) (record { server = own.server; packed = false; thread = own.thread }) own.thread.phase own.untaken

steps_new : (k : Cluster) (e : Event) (t : ℕ) → e.what ≡ Step t → IsCoherent k → FewEvents k → Gives (λ (d : Cluster × EntryView). Holds d.0 taken_is_new) (apply k e)
steps_new k e t is coherent few =
    both_give (λ (d : Cluster × EntryView). HasPlaces d.0 × Untaken t (things_of d.0)) (λ (d : Cluster × EntryView). (x : Standing) → Among x (sight d.0).ground.threads → (x.thread.number ≡ t → ⊥) → old_word (sight d.0) x x.thread.phase ≡ 0)
    (λ (d : Cluster × EntryView). Holds d.0 taken_is_new) (apply k e)
    (both_give (λ (d : Cluster × EntryView). HasPlaces d.0) (λ (d : Cluster × EntryView). Untaken t (things_of d.0)) (λ (d : Cluster × EntryView). HasPlaces d.0 × Untaken t (things_of d.0)) (apply k e)
    (applied_part HasPlaces (λ z s. record { numbers_differ = s.numbers_differ; home_of_each = s.home_of_each; owner_of_each = s.owner_of_each }) k e coherent.sound few) (own_untaken k e t is coherent.sound few) (λ d a b. (a, b)))
    (others_taken k e t is coherent few) (λ d a b. stepped_new d.0 a.0 t a.1 b)

pub each_new : EachCoherentEventKeeps taken_is_new
each_new k e coherent few = each_way k (λ z. Holds z taken_is_new) (record {
  steps = λ f t is. steps_new k f t is coherent few;
  steady = λ kind steady f is. new_steady kind steady k f is coherent.sound few;
  moves = λ f w o a t d. moves_taken w o a t k f d coherent few;
  drops = λ f w o d. drops_taken w o k f d coherent few;
  comes = λ f w c t d. weaker (λ (x : Cluster × EntryView). Known k f w t c x.0) (λ (x : Cluster × EntryView). Holds x.0 taken_is_new) (apply k f) (known k f w t c d coherent few) (λ x a. moved_new k f w t c coherent few x.0 a);
}) e
