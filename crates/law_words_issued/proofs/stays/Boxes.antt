-- The step of a thread that makes an object: its server's partition takes it, and its word is new.
use Rattle.std.proofs.Common.{◌≡◌, ℕ, true, nat_lt, Option, Some, None, option_map, refl, sym, ap, subst, ◌∙◌}
use Rattle.std.specs.Prelude.{slice_get}
use Rattle.law_words_issued.specs.Below.fr_base.Lists.{last_of}
use Rattle.law_words_issued.specs.Below.fr_base.declared.name.ObjNo.{ObjNo}
use Rattle.law_words_issued.specs.Below.fr_base.declared.instruction.Instr.TheVariants as instr
use Rattle.law_words_issued.specs.Below.fr_base.declared.instruction.Operand.{Operand}
use Rattle.law_words_issued.specs.Below.fr_base.declared.instruction.Operand.TheVariants as operand
use Rattle.law_words_issued.specs.Below.fr_base.declared.step.Fresh.TheVariants as fresh
use Rattle.law_words_issued.specs.Below.global_addr.Words.{colour_of}
use Rattle.law_words_issued.specs.Below.heap_partition.declared.value.Cell.{Cell}
use Rattle.law_words_issued.specs.Below.heap_partition.declared.value.Owned.{Owned}
use Rattle.law_words_issued.specs.Below.journal.View.{EntryView}
use Rattle.law_words_issued.specs.Below.journal.declared.act.Act.TheVariants as act
use Rattle.law_words_issued.specs.Below.migration.Packing.{unpin_all}
use Rattle.law_words_issued.specs.Below.owner_box.View.{PartitionState}
use Rattle.law_words_issued.specs.Below.owner_box.Partition.{made}
use Rattle.law_words_issued.specs.Below.thread_state.View.{ThreadState}
use Rattle.law_words_issued.specs.Below.thread_state.declared.value.Value.{Value}
use Rattle.law_words_issued.specs.Below.server_model.declared.event.Event.{Event}
use Rattle.law_words_issued.specs.Below.server_model.declared.event.What.TheVariants.{Step}
use Rattle.law_words_issued.specs.Below.server_model.Servers.{Rest, Server, Cluster, server_at}
use Rattle.law_words_issued.specs.Below.server_model.Work.{Hand, Popped, pop, pop_owned, taken_as, owned_of, then_some, thread_in}
use Rattle.law_words_issued.specs.Below.server_model.NewWords.{NewWord, can_grow, issue_placed}
use Rattle.law_words_issued.specs.Below.server_model.Commit.{go_on, goes_on, next_object, push_box, make_box, box_up, settle}
use Rattle.law_words_issued.specs.Below.server_model.Events.{Stepped, begin_work, done_step, committed, step, step_in, stepped, does}
use Rattle.law_words_issued.specs.Below.server_model.Clusters.{apply}
use Rattle.law_words_issued.specs.Below.coherent_memory.Names.{Among}
use Rattle.law_words_issued.specs.Below.coherent_memory.Things.{lies, things_of}
use Rattle.law_words_issued.specs.Below.coherent_memory.Sight.{issued, sight}
use Rattle.law_words_issued.specs.Below.coherent_memory.Words.{HasWords, WordsLaw}
use Rattle.law_words_issued.proofs.Below.coherent_memory.Words.{words_law}
use Rattle.law_words_issued.specs.Below.coherent_types.ClusterTypes.{IsCoherent}
use Rattle.law_walks_own.proofs.Below.law_words_paths.paths.Sole.{some_is}
use Rattle.law_words_issued.specs.Below.law_counts_sums.Laws.{Gives, FewEvents}
use Rattle.law_words_issued.proofs.Below.law_counts_sums.Results.{map_gives, over_gives, bind_gives, test_gives, both_give}
use Rattle.law_words_issued.proofs.Below.law_heap_still.events.Addresses.{InPlace, in_place}
use Rattle.law_words_issued.proofs.Below.law_heap_still.events.Leaving.{others, placed_here}
use Rattle.law_walks_own.specs.Below.law_words_kept.prepared.Requests.{WordsRise}
use Rattle.law_walks_own.specs.Below.law_words_values.made.Boxes.{HasNewWord}
use Rattle.law_walks_own.proofs.Below.law_words_ends.Below.law_words_values.made.Boxes.{boxes_keep}
use Rattle.law_walks_own.proofs.Below.law_words_ends.arrivals.Each.{words_rise}
use Rattle.law_words_issued.specs.stays.Issued.{BoxesKeepWhatWasIssued}
use Rattle.law_words_issued.proofs.stays.Places.{next_address, Comes, comes_made}
use Rattle.law_words_issued.proofs.stays.Coming.{Brought, ComesTo, comes_to, issued_where_it_comes}

-- an object has one word
one_word : (d : Cluster) (h g : HasWords (sight d)) (r a : ℕ) (c : Cell) → Among (lies r a c) (things_of d) → h.word c.object ≡ g.word c.object
one_word d h g r a c m = let law : WordsLaw = words_law in some_is (sym (law.first_tells d h c.object (h.live r a c m)) ∙ law.first_tells d g c.object (g.live r a c m))

module _ (k : Cluster) (number t : ℕ) (s : Server) (y : ThreadState) (o : Operand) (coherent : IsCoherent k) (few : FewEvents k) (here : server_at k.servers number ≡ Some s) (at : thread_in s.threads t ≡ Some y) (code : slice_get k.code y.pc ≡ Some (instr.Box o)) where
  abbrev n : ℕ
  n = s.rest.number

  abbrev C : ℕ
  C = k.options.colours

  abbrev p : PartitionState
  p = s.rest.partition

  abbrev new : ObjNo
  new = record { thread = y.number; count = y.made }

  abbrev e : Event
  e = record { server = number; what = Step t }

  abbrev h0 : Hand
  h0 = record { work = begin_work s.rest; thread = y }

  placed : InPlace n p
  placed = in_place n s.events s.rest (others k coherent.sound number s here) (placed_here k coherent.sound number s here)

  abbrev Well : Rest → Type 0
  Well r = (r.number ≡ n) × Comes C n new p r.partition

  -- nothing is changed so far that counts
  abbrev Kept : Hand → Type 0
  Kept h = (h.work.rest ≡ s.rest) × (h.thread.number ≡ y.number) × (h.thread.made ≡ y.made)

  pops : (x : Operand) → Gives (λ (q : Popped Value). Kept q.hand) (pop x h0)
  pops (operand.Const m) = (refl, refl, refl)
  pops operand.Unit = (refl, refl, refl)
  pops operand.Pop = map_gives (λ (q : Popped Value). Kept q.hand) (last_of h0.thread.temps) _ (λ v q. (refl, refl, refl))

  pops_owned : Gives (λ (q : Popped Owned). Kept q.hand) (pop_owned o h0)
  pops_owned =
      bind_gives (λ (q : Popped Value). Kept q.hand) (λ (q : Popped Owned). Kept q.hand) (pop o h0) (taken_as owned_of) (pops o)
      (λ q u. map_gives (λ (r : Popped Owned). Kept r.hand) (owned_of q.item) _ (λ v z. u))

  -- the object lies there
  abbrev with_cell : Owned → Rest → ℕ → ℕ → Rest
  with_cell v r a b = record r { partition = made r.partition (record { object = record { thread = a; count = b }; value = v }) }

  lies_there : (v : Owned) (h : Hand) → Kept h → Well (with_cell v h.work.rest h.thread.number h.thread.made)
  lies_there v h q =
      subst (λ (r : Rest). Well (with_cell v r h.thread.number h.thread.made)) (sym q.0)
      (subst (λ a. Well (with_cell v s.rest a h.thread.made)) (sym q.1) (subst (λ b. Well (with_cell v s.rest y.number b)) (sym q.2) (refl, comes_made C n p (record { object = new; value = v }) placed)))

  makes : (v : Owned) (h : Hand) → Kept h → Gives (λ (h2 : Hand). Well h2.work.rest) (make_box v h)
  makes v h q =
      over_gives (λ (m : NewWord). Well m.work.rest) (λ (h2 : Hand). Well h2.work.rest) (issue_placed (act.Make (next_object h)) (record { object = next_object h; value = v }) h.work) (λ m. push_box v m h)
      (test_gives (λ (m : NewWord). Well m.work.rest) (can_grow h.work.rest.partition) _ (λ z. lies_there v h q)) (λ m u. u)

  ends : (x : Option Hand) → Gives (λ (h : Hand). Well h.work.rest) x → Gives (λ (d : Stepped). Well d.hand.work.rest) (committed (goes_on x))
  ends None g = tt
  ends (Some h) g =
      over_gives (λ (z : Hand). Well z.work.rest) (λ (d : Stepped). Well d.hand.work.rest) (settle (go_on h)) (done_step fresh.None) (map_gives (λ (z : Hand). Well z.work.rest) (unpin_all h.thread.walk h.work.rest.cache) _ (λ cs q. g)) (λ z u. u)

  boxing : Gives (λ (d : Stepped). Well d.hand.work.rest) (step k.options.servers (instr.Box o) h0)
  boxing = ends (box_up o h0) (bind_gives (λ (q : Popped Owned). Kept q.hand) (λ (h : Hand). Well h.work.rest) (pop_owned o h0) _ pops_owned (λ q u. makes q.item q.hand u))

  brings : Gives (Brought k e s here new) (does k.code k.options s (Step t))
  brings =
      subst (λ x. Gives (Brought k e s here new) (option_map (stepped s) (then_some (option_map (λ z. record { work = begin_work s.rest; thread = z }) x) (step_in k.code k.options.servers)))) (sym at)
      (subst (λ x. Gives (Brought k e s here new) (option_map (stepped s) (then_some x (λ z. step k.options.servers z h0)))) (sym code)
      (over_gives (λ (d : Stepped). Well d.hand.work.rest) (Brought k e s here new) (step k.options.servers (instr.Box o) h0) (stepped s) boxing (λ d u. u)))

  abbrev words : HasWords (sight k)
  words = coherent.sound.words.have_words

  abbrev Then : Cluster × EntryView → Type 0
  Then d = (w : ℕ) → nat_lt (colour_of w) k.options.colours ≡ true → issued (sight k) w ≡ true → issued (sight d.0) w ≡ true

  keeps : Gives Then (apply k e)
  keeps =
      both_give (λ (d : Cluster × EntryView). WordsRise k d.0 × HasNewWord k d.0 new words) (λ (d : Cluster × EntryView). ComesTo k n (next_address p) new d.0) Then (apply k e)
      (both_give (λ (d : Cluster × EntryView). WordsRise k d.0) (λ (d : Cluster × EntryView). HasNewWord k d.0 new words) (λ (d : Cluster × EntryView). WordsRise k d.0 × HasNewWord k d.0 new words) (apply k e)
      (words_rise k e coherent few) (boxes_keep k number t s y o words coherent few here at code) (λ d a b. (a, b)))
      (comes_to k e s here new coherent.sound few brings)
      (λ d a b.
      let rise = a.0 in
      let its = a.1 in
      issued_where_it_comes k d.0 n (next_address p) new coherent.sound rise b (λ r q c m same.
      let after = its.keeps.words.after in
      let is : rise.has_words.word new ≡ its.word = ap rise.has_words.word (sym same) ∙ one_word d.0 rise.has_words after r q c m ∙ ap after.word same ∙ its.keeps.words.new in
      ap (issued (sight k)) is ∙ its.new))

pub boxes_keep_issued : BoxesKeepWhatWasIssued
boxes_keep_issued k number t s y o coherent few here at code = keeps k number t s y o coherent few here at code
