-- What a step has done so far to its thread and its server, as the coloured heap sees it: these things went, those came, these acts are noted, and nothing is loaded or stored.
use Rattle.std.proofs.Common.{◌≡◌, ℕ, ◌+◌, true, false, List, [], ◌∷◌, ◌++◌, Some, None, refl, sym, ap, ap₂, ◌∙◌, arith, append-nil}
use Rattle.law_words_ends.specs.Below.fr_base.declared.label.Label.{Label}
use Rattle.law_words_ends.specs.Below.fr_base.declared.label.Label.TheVariants as label
use Rattle.law_words_ends.specs.Below.fr_base.declared.step.Fresh.TheVariants as fresh
use Rattle.law_words_ends.specs.Below.law_words_values.Below.read_cache.Cache.{Copy}
use Rattle.law_entries_variables.specs.Below.migration.Packing.{unpin_all}
use Rattle.law_words_ends.specs.Below.thread_state.View.{ThreadState}
use Rattle.law_words_ends.specs.Below.thread_state.declared.value.Value.{Value}
use Rattle.law_words_ends.specs.Below.journal.View.{EntryView}
use Rattle.law_words_ends.specs.Below.journal.declared.act.Act.{Act}
use Rattle.law_words_ends.specs.Below.server_model.Servers.{Server}
use Rattle.law_words_ends.specs.Below.server_model.Work.{Work, Hand, Site, label_all, working, with_slots, with_cache, thread_in, set_thread}
use Rattle.law_words_ends.specs.Below.server_model.Events.{begin_work, begin_at}
use Rattle.law_entries_variables.specs.Below.coloured_heap.Heap.{Coloured}
use Rattle.law_entries_variables.specs.Below.coloured_heap.Changes.{stored}
use Rattle.law_entries_variables.specs.Below.coloured_heap.Reach.{reaches}
use Rattle.law_words_ends.specs.Below.coherent_memory.Names.{tot}
use Rattle.law_words_ends.specs.Below.coherent_memory.Things.{Thing, stands, things_at, slot_things, copy_things, server_things}
use Rattle.law_words_ends.proofs.Below.law_counts_sums.Trades.{tot-append, trade_whole}
use Rattle.law_words_ends.proofs.Below.law_counts_sums.Bags.{all_standing, rest_things, of_cache, tot-without, tot-set}
use Rattle.law_entries_variables.proofs.deliveries.Weighed.{Seen, Turned, WorkTurns, SiteTurns, marks_of, thread_seen, site_things, server_turns}
use Rattle.law_entries_variables.proofs.still.Settled.{unpinned_unseen, StoreNothing}

-- LABELS

-- a load or a store
abbrev pub loud : Label → ℕ
loud (label.Load p v) = 1
loud (label.Store p v) = 1
loud l = 0

silent_stores : (ls : List Label) → tot loud ls ≡ 0 → (c : Coloured) → stored ls c ≡ c
silent_stores [] z c = refl
silent_stores (label.Load p v ∷ ls) z c = absurd (omega (arith, z))
silent_stores (label.Store p v ∷ ls) z c = absurd (omega (arith, z))
silent_stores (_ ∷ ls) z c = silent_stores ls (omega (arith, z)) c

silent_reaches : (e : EntryView) (ls : List Label) → tot loud ls ≡ 0 → (c : Coloured) → reaches e ls c ≡ true
silent_reaches e [] z c = refl
silent_reaches e (label.Load p v ∷ ls) z c = absurd (omega (arith, z))
silent_reaches e (label.Store p v ∷ ls) z c = absurd (omega (arith, z))
silent_reaches e (_ ∷ ls) z c = silent_reaches e ls (omega (arith, z)) c

-- labels that store nothing
pub silent : (ls : List Label) → tot loud ls ≡ 0 → StoreNothing ls
silent ls z = (silent_stores ls z, λ e c. silent_reaches e ls z c)

-- THE STEP SO FAR

-- how far a step is
pub record Turning (s : Server) (y : ThreadState) (olds news : List Thing) (acts : List Act) (h : Hand) : Type 0 where
  pub named : h.thread.number ≡ y.number
  pub number : h.work.rest.number ≡ s.rest.number
  pub noted : h.work.acts ≡ acts
  pub labels : tot loud h.work.labels ≡ 0
  pub things : (f : Thing → ℕ) (i : Seen f) → (marks_of f i h.thread + tot f (rest_things s.rest.number 0 h.work.rest)) + tot f olds ≡ (marks_of f i y + tot f (rest_things s.rest.number 0 s.rest)) + tot f news

-- nothing is done yet
pub begins : (s : Server) (y : ThreadState) → Turning s y [] [] [] (record { work = begin_work s.rest; thread = y })
begins s y = record { named = refl; number = refl; noted = refl; labels = refl; things = λ f i. refl }

module _ (s : Server) (y : ThreadState) (olds news : List Thing) (acts : List Act) (h : Hand) (t : Turning s y olds news acts h) where
  abbrev n : ℕ
  n = s.rest.number

  -- of a thread its number and its slots count
  pub rethreaded : (z : ThreadState) → z.number ≡ h.thread.number → z.slots ≡ h.thread.slots → Turning s y olds news acts (record h { thread = z })
  rethreaded z named slots = record {
    named = named ∙ t.named;
    number = t.number;
    noted = t.noted;
    labels = t.labels;
    things = λ f i. let same : marks_of f i z ≡ marks_of f i h.thread = ap₂ (λ j l. tot f (things_at (slot_things 0 j) 0 l)) named slots in omega (arith, same, t.things f i);
  }

  -- labels that neither load nor store
  pub labelled : (ls : List Label) → tot loud ls ≡ 0 → Turning s y olds news acts (working (label_all ls) h)
  labelled ls z = record { named = t.named; number = t.number; noted = t.noted; labels = omega (arith, t.labels, z, tot-append loud h.work.labels ls); things = t.things }

  -- slots change
  pub reslotted : (vs : List Value) (gone come : List Thing) → ((f : Thing → ℕ) (i : Seen f) → tot f (things_at (slot_things 0 h.thread.number) 0 vs) + tot f gone ≡ marks_of f i h.thread + tot f come)
      → Turning s y (olds ++ gone) (news ++ come) acts (with_slots vs h)
  reslotted vs gone come e = record {
    named = t.named;
    number = t.number;
    noted = t.noted;
    labels = t.labels;
    things = λ f i. omega (arith, t.things f i, e f i, tot-append f olds gone, tot-append f news come);
  }

  -- but for their marks
  pub slots_alike : (vs : List Value) → ((f : Thing → ℕ) (i : Seen f) → tot f (things_at (slot_things 0 h.thread.number) 0 vs) ≡ marks_of f i h.thread) → Turning s y olds news acts (with_slots vs h)
  slots_alike vs e = record { named = t.named; number = t.number; noted = t.noted; labels = t.labels; things = λ f i. omega (arith, t.things f i, e f i) }

  -- what stands beside the threads changes
  module _ (w : Work) where
    here : (f : Thing → ℕ) → tot f (rest_things h.work.rest.number 0 h.work.rest) ≡ tot f (rest_things n 0 h.work.rest)
    here f = ap (λ j. tot f (rest_things j 0 h.work.rest)) t.number

    there : (f : Thing → ℕ) → tot f (rest_things h.work.rest.number 0 w.rest) ≡ tot f (rest_things n 0 w.rest)
    there f = ap (λ j. tot f (rest_things j 0 w.rest)) t.number

    pub worked : (gone come : List Thing) (more : List Act) → WorkTurns h.work gone come more w → Turning s y (olds ++ gone) (news ++ come) (acts ++ more) (record h { work = w })
    worked gone come more u = record {
      named = t.named;
      number = u.number ∙ t.number;
      noted = u.noted ∙ ap (λ l. l ++ more) t.noted;
      labels = ap (tot loud) u.labels ∙ t.labels;
      things = λ f i. omega (arith, t.things f i, u.things f i, here f, there f, tot-append f olds gone, tot-append f news come);
    }

    pub worked_alike : WorkTurns h.work [] [] [] w → Turning s y olds news acts (record h { work = w })
    worked_alike u = record {
      named = t.named;
      number = u.number ∙ t.number;
      noted = u.noted ∙ append-nil h.work.acts ∙ t.noted;
      labels = ap (tot loud) u.labels ∙ t.labels;
      things = λ f i. omega (arith, t.things f i, u.things f i, here f, there f);
    }

  -- THE SERVER

  -- with the thread put back
  pub turned_server : (at : thread_in s.threads y.number ≡ Some y) → Turned (server_things s) (stands n false y ∷ olds) (stands n false h.thread ∷ news) (server_things (record { rest = h.work.rest; threads = set_thread s.threads h.thread; events = s.events + 1 }))
  turned_server at = server_turns s x (stands n false y ∷ olds) (stands n false h.thread ∷ news) h.work.acts s.events None (Some fresh.None) turns
    where
      bare : Work
      bare = record { rest = h.work.rest; acts = h.work.acts; labels = [] }

      x : Site
      x = record { work = bare; threads = set_thread s.threads h.thread }

      turns : SiteTurns (begin_at s) (stands n false y ∷ olds) (stands n false h.thread ∷ news) h.work.acts x
      turns = record {
        number = t.number;
        noted = refl;
        labels = refl;
        things = λ f i.
            let ts = set_thread s.threads h.thread in
            let there : tot f (site_things x) ≡ tot f (all_standing n ts ++ rest_things n 0 h.work.rest) = ap (λ j. tot f (all_standing j ts ++ rest_things j 0 h.work.rest)) t.number in
            omega (
              arith,
              there,
              t.things f i,
              thread_seen f i n false y,
              thread_seen f i n false h.thread,
              tot-without n f s.threads y.number y at,
              tot-set n f s.threads y.number y h.thread at t.named,
              tot-append f (all_standing n s.threads) (rest_things n 0 s.rest),
              tot-append f (all_standing n ts) (rest_things n 0 h.work.rest),
            );
      }

-- USES OF COPIES END

pub uses_end : (x : Work) (ws : List ℕ) (cs : List Copy) → unpin_all ws x.rest.cache ≡ Some cs → WorkTurns x [] [] [] (with_cache cs x)
uses_end x ws cs e = record {
  number = refl;
  noted = sym (append-nil x.acts);
  labels = refl;
  things = λ f i.
      let n = x.rest.number in
      let t = of_cache n 0 x.rest cs (trade_whole (things_at (copy_things n) 0 x.rest.cache) (things_at (copy_things n) 0 cs)) in
      omega (arith, t.before f, t.after f, unpinned_unseen f i.unused n ws x.rest.cache cs e);
}
