-- A step begins, and is done: what is known of each object goes on.
use Rattle.std.proofs.Common.{◌≡◌, inl, ℕ, ◌+◌, [], Option, Some, None, refl}
use Rattle.law_counts_waiting.specs.Below.fr_base.declared.step.Fresh.TheVariants as fresh
use Rattle.law_counts_waiting.specs.Below.thread_state.View.{ThreadState}
use Rattle.law_counts_waiting.specs.Below.server_model.Servers.{Server, Cluster, server_at}
use Rattle.law_counts_waiting.specs.Below.server_model.Work.{Hand, thread_in, set_thread, put_back}
use Rattle.law_counts_waiting.specs.Below.server_model.Commit.{goes_on, go_on, settle}
use Rattle.law_counts_waiting.specs.Below.server_model.Events.{begin_work, begin_at, Stepped, done_step, committed}
use Rattle.law_counts_waiting.specs.Below.coherent_memory.Things.{things_of}
use Rattle.law_counts_waiting.specs.Below.coherent_memory.Sight.{sight}
use Rattle.law_counts_waiting.specs.Below.coherent_memory.Words.{HasWords}
use Rattle.law_counts_waiting.specs.Below.coherent_types.ClusterTypes.{IsCoherent}
use Rattle.law_words_ends.specs.Below.law_words_paths.words.Reworded.{HasPlaces}
use Rattle.law_counts_waiting.specs.Below.law_counts_sums.Laws.{Gives, FewEvents}
use Rattle.law_counts_waiting.proofs.Below.law_counts_sums.Results.{over_gives}
use Rattle.law_words_ends.proofs.Below.law_words_kept.stays.Alike.{Alike}
use Rattle.law_words_ends.proofs.Below.law_words_kept.stays.Sites.{HandAlike, put_alike, begun_alike, servers_alike}
use Rattle.law_words_ends.proofs.Below.law_words_kept.stays.Steps.{TakesNoneHere, hand_itself, settles}
use Rattle.law_words_ends.proofs.Below.law_words_kept.prepared.Hands.{put, places, first_hand}
use Rattle.law_words_ends.proofs.Below.law_words_values.carried.Hands.{Together, each_together, together_chain, puts_alike}
use Rattle.law_words_ends.proofs.Below.law_words_values.carried.Steps.{goes_next}
use Rattle.law_words_ends.proofs.Below.law_words_asked.writes.Passing.{Fits}
use Rattle.law_copies_kept.proofs.copies.Clean.{all_goes}
use Rattle.law_copies_kept.proofs.references.Kept.{places_before}
use Rattle.law_copies_kept.proofs.hidden.Settled.{Settled, settled_on}
use Rattle.law_copies_writes.proofs.writes.Hops.{Now}

-- a cluster itself
pub settled_itself : (k : Cluster) (before : HasWords (sight k)) → Settled k k before
settled_itself k before = record { after = before; each = λ p. inl (record { word = refl; on = λ c o m. m; back = λ c o m. m; dirty = refl }) }

module _ (k : Cluster) (coherent : IsCoherent k) (few : FewEvents k) (s : Server) (here : server_at k.servers s.rest.number ≡ Some s) (t : ℕ) (y : ThreadState) (at : thread_in s.threads t ≡ Some y) where
  abbrev n : ℕ
  n = s.rest.number

  abbrev O : Hand → Type 0
  O = Fits k coherent s here t y at

  abbrev P : Hand → Cluster
  P = put k coherent s here t y at

  abbrev h0 : Hand
  h0 = record { work = begin_work s.rest; thread = y }

  abbrev N : Hand → Type 0
  N = Now k coherent s here t y at

  -- the event begins
  pub start_now : N h0
  start_now =
      let g : O h0 = (first_hand k coherent s here t y at).ok in
      let c0 : HasPlaces k = places_before k coherent.sound in
      let c1 : HasPlaces (P h0) = places k coherent s here t y at h0 g in
      let alike : Alike k.code (things_of k) (things_of (P h0)) =
      servers_alike n k.servers s (record { rest = h0.work.rest; threads = set_thread s.threads h0.thread; events = s.events + 1 }) here (begun_alike s s.events None None (put_back s.threads h0) (put_alike k.code [] t (begin_at s) y at h0 (hand_itself k.code n h0))) in
      settled_on k k (P h0) c0 c1 coherent.sound.words.have_words (settled_itself k coherent.sound.words.have_words) (all_goes.seen k (P h0) c0 c1 refl alike)

  -- a hand that words see as one of which it is known
  pub record Settles (h : Hand) : Type 0 where
    pub reached : Hand
    pub now : N reached
    pub fits : O reached
    pub same : Together k.code n reached h
    pub untaken : TakesNoneHere k.code h.thread

  -- what is told of a step's hand
  abbrev pub Ends : Stepped → Type 0
  Ends x = HasPlaces (P x.hand) → N x.hand

  -- the step is done
  pub over : (r : Option Hand) → Gives Settles r → Gives Ends (committed (goes_on r))
  over None g = tt
  over (Some h2) g =
      over_gives (HandAlike k.code n [] (go_on h2)) Ends (settle (go_on h2)) (done_step fresh.None) (settles k.code n (go_on h2))
      (λ h3 a spread.
      let same : Together k.code n g.reached h3 = together_chain g.same (together_chain (goes_next k.code n h2 g.untaken) (each_together a)) in
      let c : HasPlaces (P g.reached) = places k coherent s here t y at g.reached g.fits in
      settled_on k (P g.reached) (P h3) c spread coherent.sound.words.have_words g.now (all_goes.seen (P g.reached) (P h3) c spread refl (puts_alike k coherent.sound s here t y at g.reached h3 g.fits.number g.fits.thread same)))
