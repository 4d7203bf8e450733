-- What a mutable borrow leaves of objects, where it is done: with each reference that it makes each object is what it was.
use Rattle.std.proofs.Common.{◌≡◌, ℕ, suc, List, [], ◌++◌, Option, Some, None, option_map, refl, sym, subst}
use Rattle.std.specs.Prelude.{slice_get}
use Rattle.law_copies_kept.specs.Below.fr_base.declared.place.Lval.{Lval}
use Rattle.law_copies_kept.specs.Below.fr_base.declared.instruction.Instr.{Instr}
use Rattle.law_copies_kept.specs.Below.thread_state.View.{ThreadState}
use Rattle.law_copies_kept.specs.Below.thread_state.declared.value.Value.{Value}
use Rattle.law_copies_kept.specs.Below.server_model.Servers.{Server, Cluster, server_at}
use Rattle.law_copies_kept.specs.Below.server_model.Work.{Hand, push_temp, thread_in, without_thread, then_some}
use Rattle.law_copies_kept.specs.Below.server_model.Places.{Spot, value_at}
use Rattle.law_copies_kept.specs.Below.server_model.Commit.{go_on, goes_on, mutable_from, commit, borrow_mut, borrow_mut_from}
use Rattle.law_copies_kept.specs.Below.server_model.Events.{Stepped, committed}
use Rattle.law_copies_kept.specs.Below.coherent_memory.Things.{Thing, servers_things}
use Rattle.law_copies_kept.specs.Below.coherent_memory.Sight.{sight}
use Rattle.law_copies_kept.specs.Below.coherent_types.ClusterTypes.{IsCoherent}
use Rattle.law_words_borrows.specs.Below.law_words_paths.words.Reworded.{HasPlaces}
use Rattle.law_copies_kept.specs.Below.law_counts_sums.Laws.{Gives, FewEvents}
use Rattle.law_copies_kept.proofs.Below.law_counts_sums.Results.{both_give}
use Rattle.law_copies_kept.proofs.Below.law_counts_sums.Bags.{all_standing}
use Rattle.law_copies_kept.proofs.Below.law_counts_sums.Events.{others_of}
use Rattle.law_words_borrows.proofs.Below.law_words_kept.stays.Sites.{HandAlike}
use Rattle.law_words_borrows.proofs.Below.law_words_kept.prepared.Hands.{Ok, put, places}
use Rattle.law_copies_kept.proofs.Below.law_counts_sums.RulesKeep.{sums_kept}
use Rattle.law_copies_kept.proofs.Below.law_counts_sums.AllSteps.{commits}
use Rattle.law_copies_kept.proofs.Below.law_counts_sums.Commits.{CommittedOk}
use Rattle.law_copies_kept.proofs.Below.law_counts_sums.Steps.{SteppedOk, committed_keeps}
use Rattle.law_words_borrows.proofs.Below.law_words_kept.stays.Alike.{turned as turned_round}
use Rattle.law_words_borrows.proofs.Pushed.{hands_alike}
use Rattle.law_copies_kept.specs.Below.fr_base.declared.instruction.Instr.TheVariants as instr
use Rattle.law_copies_kept.specs.Below.server_model.Servers.{Rest}
use Rattle.law_copies_kept.specs.Below.coherent_memory.Words.{HasWords}
use Rattle.law_words_borrows.proofs.Below.law_counts_things.things.Mail.{Mailed}
use Rattle.law_words_borrows.proofs.Below.law_counts_things.things.Messages.{Light}
use Rattle.law_copies_kept.proofs.copies.Clean.{all_goes}
use Rattle.law_copies_kept.proofs.references.Asked.{asking, ready_asks}
use Rattle.law_copies_kept.proofs.objects.Turned.{Turned, turned_on, none_or_idle}
use Rattle.law_copies_kept.proofs.objects.Outcome.{Left, Sends, turned}

-- what is shown under a premise
pub under_premise : {A : Type 0} {X : Type 0} (P : X → Type 0) (o : Option X) → (A → Gives P o) → Gives (λ x. A → P x) o
under_premise P None f = tt
under_premise P (Some x) f = f

module _ (k : Cluster) (coherent : IsCoherent k) (few : FewEvents k) (s : Server) (here : server_at k.servers s.rest.number ≡ Some s) (t : ℕ) (y : ThreadState) (at : thread_in s.threads t ≡ Some y) (w : Lval) (m : ℕ) (deep : w.depth ≡ suc m) (code : slice_get k.code y.pc ≡ Some (instr.BorrowMut w)) where
  abbrev n : ℕ
  n = s.rest.number

  abbrev i : Instr
  i = instr.BorrowMut w

  abbrev IsOk : Hand → Type 0
  IsOk = Ok k coherent s here t y at

  abbrev Put : Hand → Cluster
  Put = put k coherent s here t y at

  abbrev b : List Thing
  b = all_standing n (without_thread s.threads t) ++ servers_things (others_of k.servers n)

  abbrev holder : Lval
  holder = record w { depth = m }

  -- the hand's cluster has places
  placed : (h : Hand) → IsOk h → HasPlaces (Put h)
  placed h q = places k coherent s here t y at h q

  abbrev start : HasWords (sight k)
  start = coherent.sound.words.have_words

  abbrev pub Ends_well : Stepped → Type 0
  Ends_well = Left k coherent.sound few s here t y at i code

  abbrev pub Sent : (ℕ → ℕ) → Rest → Type 0
  Sent f r = Mailed (Light (asking f)) n s.rest.outbox r

  -- each object is what it was, or turned, in a hand of which words see the same
  pub record Ended (h2 : Hand) : Type 0 where
    pub middle : Hand
    pub ok : IsOk middle
    pub turned : Turned k (Put middle) start
    pub alike : HandAlike k.code n [] middle h2

  abbrev pub Ends : Stepped → Type 0
  Ends d = Ended d.hand

  -- from what stands there a reference is made, and with each one objects are so: so they are with its thread put back
  module _ (h : Hand) (sp : Spot) (ok : IsOk h) (mails : (f : ℕ → ℕ) → Sent f s.rest → Sent f h.work.rest) (X : Value → Type 0) (found : (v : Value) → value_at h sp ≡ Some v → X v)
      (pushed : (v u : Value) → X v → mutable_from h.thread.phase holder v ≡ Some u → IsOk (go_on (push_temp u h)) → Gives Ends (committed (goes_on (Some (push_temp u h))))) where
    -- where one is made
    made_from : (v : Value) → value_at h sp ≡ Some v → (o : Option Value) → mutable_from h.thread.phase holder v ≡ o → CommittedOk IsOk (goes_on (option_map (λ u. push_temp u h) o)) → Gives Ends (committed (goes_on (option_map (λ u. push_temp u h) o)))
    made_from v e None f after = tt
    made_from v e (Some u) f after = pushed v u (found v e) f after

    -- where one stands
    by_value : (o : Option Value) → value_at h sp ≡ o → CommittedOk IsOk (goes_on (then_some o (λ v. option_map (λ u. push_temp u h) (mutable_from h.thread.phase holder v))))
        → Gives Ends (committed (goes_on (then_some o (λ v. option_map (λ u. push_temp u h) (mutable_from h.thread.phase holder v)))))
    by_value None e after = tt
    by_value (Some v) e after = made_from v e (mutable_from h.thread.phase holder v) refl after

    -- the sums afterwards
    all_ok : CommittedOk IsOk (goes_on (borrow_mut w sp h))
    all_ok = commits sums_kept n s.events t b 0 i sp h tt (λ z. absurd z) ok

    -- the borrow ends so
    ended : Gives Ends (committed (goes_on (borrow_mut w sp h)))
    ended =
        subst (λ d. CommittedOk IsOk (goes_on (borrow_mut_from w d sp h)) → Gives Ends (committed (goes_on (borrow_mut_from w d sp h)))) (sym deep) (by_value (value_at h sp) refl) all_ok

    abbrev done : Option Stepped
    done = committed (goes_on (borrow_mut w sp h))

    abbrev Mails : Stepped → Type 0
    Mails = Sends k coherent.sound few s here t y at i code (none_or_idle k)

    mailed : Gives Mails done
    mailed = under_premise (λ (d : Stepped). Sent (none_or_idle k) d.hand.work.rest) done (λ mail. ready_asks (none_or_idle k) 0 n s.rest.outbox i sp h (mails (none_or_idle k) mail))

    abbrev Both : Stepped → Type 0
    Both d = Ends d × Mails d

    -- with its thread put back
    pub left : Gives Ends_well (committed (commit 0 i sp h))
    left =
        both_give (SteppedOk sums_kept n s.events t b) Both Ends_well done (committed_keeps sums_kept n s.events t b (goes_on (borrow_mut w sp h)) all_ok) (both_give Ends Mails Both done ended mailed (λ d a c. (a, c)))
        (λ d after both.
        let x = both.0 in (
          turned
              (turned_on k (Put x.middle) (Put d.hand) (placed x.middle x.ok) (placed d.hand after) start x.turned
              (all_goes.seen (Put x.middle) (Put d.hand) (placed x.middle x.ok) (placed d.hand after) refl (turned_round (hands_alike k coherent s here t y at [] x.middle d.hand x.ok after x.alike)))) both.1,
          placed d.hand after,
        ))
