-- A step that follows a place for reading: from the hand in which the place is ready to what the step leaves.
use Rattle.std.proofs.Common.{◌≡◌, ℕ, true, List, [], Option, Some, None, is_some, refl, ap, ◌∙◌, arith}
use Rattle.std.specs.Prelude.{slice_get}
use Rattle.law_copies_kept.specs.Below.fr_base.declared.place.Lval.{Lval}
use Rattle.law_copies_kept.specs.Below.fr_base.declared.instruction.Instr.{Instr}
use Rattle.law_copies_kept.specs.Below.thread_state.View.{ThreadState}
use Rattle.law_copies_kept.specs.Below.thread_state.declared.value.Value.{Value}
use Rattle.law_copies_kept.specs.Below.server_model.declared.event.Event.{Event}
use Rattle.law_copies_kept.specs.Below.server_model.Servers.{Server, Cluster, server_at}
use Rattle.law_copies_kept.specs.Below.server_model.Work.{Hand, thread_in}
use Rattle.law_copies_kept.specs.Below.server_model.Places.{Spot, in_slot, value_at}
use Rattle.law_copies_kept.specs.Below.server_model.Prepare.{Prepared, ready, requested, nothing, and_then, read_stars}
use Rattle.law_copies_kept.specs.Below.server_model.Commit.{goes_on}
use Rattle.law_copies_kept.specs.Below.server_model.Events.{begin_work, Stepped, committed, prepared}
use Rattle.law_entries_variables.specs.Below.coloured_heap.Heap.{Coloured}
use Rattle.law_copies_kept.specs.Below.coherent_memory.Follow.{Ground}
use Rattle.law_copies_kept.specs.Below.coherent_memory.Sight.{sight}
use Rattle.law_copies_kept.specs.Below.coherent_memory.Colours.{StandsColoured}
use Rattle.law_copies_kept.specs.Below.coherent_memory.Coherent.{IsSound}
use Rattle.law_copies_kept.specs.Below.coherent_types.ClusterTypes.{IsCoherent}
use Rattle.law_copies_kept.specs.Below.law_counts_sums.Laws.{Gives, FewEvents}
use Rattle.law_copies_kept.proofs.Below.law_counts_sums.Results.{both_give, weaker}
use Rattle.law_copies_kept.specs.Below.law_words_kept.reads.Reading.{Reads}
use Rattle.law_copies_kept.proofs.Below.law_words_kept.stays.Alike.{chain}
use Rattle.law_copies_kept.proofs.Below.law_words_kept.stays.Sites.{HandAlike}
use Rattle.law_copies_kept.proofs.Below.law_words_kept.stays.Steps.{TakesNoneHere, Goes, hand_itself, goes_over}
use Rattle.law_copies_kept.proofs.Below.law_words_borrows.Below.law_heap_steps.turns.Events.{AtStep}
use Rattle.law_copies_kept.proofs.Below.law_words_borrows.Below.law_heap_steps.turns.ReadWalk.{Finds, At, Comes, reads as walk}
use Rattle.law_copies_kept.proofs.Below.law_words_borrows.Below.law_heap_steps.turns.StarLines.{finds}
use Rattle.law_entries_reads.proofs.places.Still.{Still, Walked, Reaches}
use Rattle.law_entries_reads.proofs.places.Walk.{stars_reached}
use Rattle.law_entries_reads.proofs.places.Done.{Kept, Left, done_from}
use Rattle.law_entries_reads.proofs.places.Steps as steps
use Rattle.law_entries_reads.proofs.places.Steps.{Fades, fades_all}

-- a hand after a place was followed, with other temporary values and without a gift
pub kept_as : (k : Cluster) (c0 : Coloured) (s : Server) (y : ThreadState) (h : Hand) (vs : List Value) → Still k.options c0 s y h → Kept k.options c0 s y (record h { thread = record h.thread { temps = vs; gift = None } })
kept_as k c0 s y h vs q = record { rest = q.rest; copies = q.copies; number = ap (λ (z : ThreadState). z.number) q.thread; slots = q.slots; gift = refl; acts = q.acts; labels = q.labels }

-- WHAT A STEP LEAVES

-- what is left for the coloured heap and for words, where it is done
abbrev pub Ends : Cluster → Coloured → Server → ThreadState → Stepped → Type 0
Ends k c0 s y d = is_some d.names ≡ true → Left k.options c0 s y d × Fades k s y d.hand

-- a hand from which the step is done
pub record Goal (k : Cluster) (c0 : Coloured) (s : Server) (y : ThreadState) (h : Hand) : Type 0 where
  pub kept : Kept k.options c0 s y h
  pub fades : Fades k s y h
  pub untaken : TakesNoneHere k.code h.thread

-- where words see nothing new
pub goal_by : (k : Cluster) (c0 : Coloured) (s : Server) (y : ThreadState) (h : Hand) → IsSound k → Kept k.options c0 s y h → Goes k.code s.rest.number (record { work = begin_work s.rest; thread = y }) h → Goal k c0 s y h
goal_by k c0 s y h sound q g = record { kept = q; fades = fades_all k s y h sound g.alike; untaken = g.untaken }

-- so it is in the event
pub ends_event : (k : Cluster) (sound : IsSound k) (few : FewEvents k) (number t : ℕ) (s : Server) (y : ThreadState) (i : Instr) (here : server_at k.servers number ≡ Some s) (at : thread_in s.threads t ≡ Some y) (code : slice_get k.code y.pc ≡ Some i) (c0 : Coloured) (is_coloured : StandsColoured k c0)
    → (o : Option Stepped) → Gives (Ends k c0 s y) o → Gives (steps.Ends k sound few number t s y i here at code c0 is_coloured) o
ends_event k sound few number t s y i here at code c0 is_coloured o g =
    weaker (Ends k c0 s y) (steps.Ends k sound few number t s y i here at code c0 is_coloured) o g (λ d r q. ((r q).0, steps.words_fade k sound few number t s y i here at code c0 is_coloured d (r q).1))

-- another hand of which words see the same
fades_on : (k : Cluster) (s : Server) (y : ThreadState) (h h2 : Hand) → Fades k s y h → HandAlike k.code s.rest.number [] h h2 → Fades k s y h2
fades_on k s y h h2 f a = record {
  more = f.more;
  alike = record { number = a.number ∙ f.alike.number; named = a.named ∙ f.alike.named; thread = chain f.alike.thread a.thread; rest = chain f.alike.rest a.rest };
  leaves = f.leaves;
}

-- so the step leaves
pub ends_from : (k : Cluster) (c0 : Coloured) (s : Server) (y : ThreadState) (f : Option Hand) → Gives (Goal k c0 s y) f → Gives (Ends k c0 s y) (committed (goes_on f))
ends_from k c0 s y None r = tt
ends_from k c0 s y (Some h) r =
    both_give (Left k.options c0 s y) (λ (d : Stepped). HandAlike k.code s.rest.number [] h d.hand) (Ends k c0 s y) (committed (goes_on (Some h))) (done_from k.options c0 s y (Some h) r.kept)
    (goes_over k.code s.rest.number h (Some h) (record { alike = hand_itself k.code s.rest.number h; untaken = r.untaken })) (λ d m n q. (m, fades_on k s y h d.hand r.fades n))

-- A PLACE THAT IS READ

module _ (k : Cluster) (co : IsCoherent k) (e : Event) (i : Instr) (s : Server) (t : ℕ) (y : ThreadState) (a : AtStep k e i s t y) (c0 : Coloured) (is_coloured : StandsColoured k c0) (w : Lval) (n : ℕ) (reads : Reads i w n) where
  abbrev g : Ground
  g = (sight k).ground

  abbrev h0 : Hand
  h0 = record { work = begin_work s.rest; thread = y }

  abbrev pub found : Finds g y s.rest w n
  found = finds k co e i s t y a w n reads

  -- what is known where the place is ready and something stands there
  abbrev pub Follows : Hand → Spot → Type 0
  Follows h p = (v : Value) → value_at h p ≡ Some v → Walked k.options c0 s y h p × At (sight k).ground y s.rest w n (finds k co e i s t y a w n reads) n h p

  -- the step follows its place, and goes on from there to what is left where it is done
  pub follows_to : (Q : Stepped → Type 0) (servers : ℕ) (next : Hand → Spot → Prepared) → ((h : Hand) (p : Spot) → Follows h p → Gives (λ (d : Stepped). is_some d.names ≡ true → Q d) (prepared servers i (next h p)))
      → Gives (λ (d : Stepped). is_some d.names ≡ true → Q d) (prepared servers i (and_then next (read_stars n h0 (in_slot w.slot))))
  follows_to Q servers next go = by (read_stars n h0 (in_slot w.slot)) (walk g y s.rest w n found n (omega arith)) (stars_reached k co e i s t y a c0 is_coloured w n reads n (omega arith))
    where
      by : (x : Prepared) → Comes g y s.rest w n found n x → Reaches k.options c0 s y x → Gives (λ (d : Stepped). is_some d.names ≡ true → Q d) (prepared servers i (and_then next x))
      by (ready h p) c r = go h p (λ v q. (r v q, c v q))
      by (requested h) c r = λ q. absurd (cc q)
      by nothing c r = tt

  -- the same to what is left for the coloured heap and for words
  pub follows : (servers : ℕ) (next : Hand → Spot → Prepared) → ((h : Hand) (p : Spot) → Follows h p → Gives (Ends k c0 s y) (prepared servers i (next h p))) → Gives (Ends k c0 s y) (prepared servers i (and_then next (read_stars n h0 (in_slot w.slot))))
  follows = follows_to (λ d. Left k.options c0 s y d × Fades k s y d.hand)
