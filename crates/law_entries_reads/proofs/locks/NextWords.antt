-- A box's object has the next word of its server's partition.
use Rattle.std.proofs.Common.{◌≡◌, ℕ, ◌++◌, ◌+◌, ◌∷◌, length, List, [], Option, Some, None, option_map, true, false, refl, sym, ap, subst, ◌∙◌, arith}
use Rattle.std.specs.Prelude.{slice_get}
use Rattle.law_entries_reads.specs.Below.law_words_borrows.Below.fr_base.declared.name.ObjNo.{ObjNo}
use Rattle.law_entries_reads.specs.Below.law_words_borrows.Below.fr_base.declared.instruction.Operand.{Operand}
use Rattle.law_entries_reads.specs.Below.law_words_borrows.Below.fr_base.declared.instruction.Operand.TheVariants as operand
use Rattle.law_entries_reads.specs.Below.law_words_borrows.Below.fr_base.declared.instruction.Instr.TheVariants as instr
use Rattle.law_entries_reads.specs.Below.law_words_borrows.Below.fr_base.declared.step.Fresh.TheVariants as fresh
use Rattle.law_entries_reads.specs.Below.law_words_borrows.Below.heap_partition.declared.value.BoxPtr.{BoxPtr}
use Rattle.law_entries_reads.specs.Below.law_words_borrows.Below.heap_partition.declared.value.Owned.{Owned}
use Rattle.law_entries_reads.specs.Below.law_words_borrows.Below.heap_partition.declared.value.Owned.TheVariants as owned
use Rattle.law_entries_reads.specs.Below.law_entries_variables.Below.owner_box.Partition.{new_word, made}
use Rattle.law_entries_reads.specs.Below.law_words_borrows.Below.journal.View.{EntryView}
use Rattle.law_entries_reads.specs.Below.law_words_borrows.Below.journal.declared.act.Act.TheVariants as act
use Rattle.law_entries_reads.specs.Below.law_words_borrows.Below.thread_state.View.{ThreadState, is_over}
use Rattle.law_entries_reads.specs.Below.law_words_borrows.Below.thread_state.declared.phase.Phase.{Phase}
use Rattle.law_entries_reads.specs.Below.law_words_borrows.Below.thread_state.declared.phase.Phase.TheVariants as phase
use Rattle.law_entries_reads.specs.Below.law_words_borrows.Below.thread_state.declared.value.Value.{Value}
use Rattle.law_entries_reads.specs.Below.law_words_borrows.Below.thread_state.declared.value.Value.TheVariants as value
use Rattle.law_entries_reads.specs.Below.law_words_borrows.Below.server_model.declared.event.What.TheVariants.{Step}
use Rattle.law_entries_reads.specs.Below.law_words_borrows.Below.server_model.Servers.{Server, Cluster, server_at}
use Rattle.law_entries_reads.specs.Below.law_words_borrows.Below.server_model.Work.{Hand, Popped, last_of, front_of, thread_in, without_thread, then_some, owned_of, taken_as, with_temps, note, with_partition}
use Rattle.law_entries_reads.specs.Below.law_words_borrows.Below.server_model.NewWords.{NewWord, can_grow, issue_placed}
use Rattle.law_entries_reads.specs.Below.law_words_borrows.Below.server_model.Commit.{go_on, goes_on, next_object, push_box, make_box, box_up, settle}
use Rattle.law_entries_reads.specs.Below.law_words_borrows.Below.server_model.Events.{can_step, has_phase, enabled, begin_work, begin_at, Stepped, done_step, committed, step, step_in, stepped, does}
use Rattle.law_entries_reads.specs.Below.law_words_borrows.Below.server_model.Clusters.{apply}
use Rattle.law_entries_reads.specs.Below.law_words_borrows.Below.coherent_memory.Names.{tot}
use Rattle.law_entries_reads.specs.Below.law_words_borrows.Below.coherent_memory.Things.{in_hand, at_temp, holds, Thing, server_things, servers_things, things_of}
use Rattle.law_entries_reads.specs.Below.law_words_borrows.Below.coherent_memory.Weights.{cells, tasks_of}
use Rattle.law_entries_reads.specs.Below.law_words_borrows.Below.coherent_memory.Follow.{value_in, temp_of}
use Rattle.law_entries_reads.specs.Below.law_words_borrows.Below.coherent_memory.Sight.{sight, issued}
use Rattle.law_entries_reads.specs.Below.law_words_borrows.Below.coherent_memory.Words.{HasWords}
use Rattle.law_entries_reads.specs.Below.law_words_borrows.Below.coherent_types.ClusterTypes.{IsCoherent}
use Rattle.law_entries_reads.specs.Below.law_words_borrows.Below.law_counts_sums.Laws.{Gives, FewEvents}
use Rattle.law_entries_reads.proofs.Below.law_words_borrows.Below.law_counts_sums.Trades.{tot-append}
use Rattle.law_entries_reads.proofs.Below.law_words_borrows.Below.law_counts_sums.Results.{over_gives, test_gives, both_give}
use Rattle.law_entries_reads.proofs.Below.law_words_borrows.Below.law_counts_sums.RulesKeep.{Counted, counted_kept}
use Rattle.law_entries_reads.proofs.Below.law_words_borrows.Below.law_counts_sums.Bags.{HandOk, all_standing}
use Rattle.law_entries_reads.proofs.Below.law_words_borrows.Below.law_counts_sums.Boxes.{New, new_kept, boxes_up}
use Rattle.law_entries_reads.proofs.Below.law_words_borrows.Below.law_counts_sums.Chains.{takes}
use Rattle.law_entries_reads.proofs.Below.law_words_borrows.Below.law_counts_sums.Commits.{goes_keep}
use Rattle.law_entries_reads.proofs.Below.law_words_borrows.Below.law_counts_sums.Steps.{committed_keeps}
use Rattle.law_entries_reads.proofs.Below.law_words_borrows.Below.law_counts_sums.Events.{others_of, tot-server, begins_site}
use Rattle.law_entries_reads.proofs.Below.law_words_borrows.Below.law_counts_sums.Sound.{sound_has_sums}
use Rattle.law_entries_reads.proofs.Below.law_words_borrows.Below.law_counts_sums.GiftsTaken.{gift_fits}
use Rattle.law_entries_reads.specs.Below.law_words_borrows.Below.law_words_paths.words.Reworded.{HasPlaces}
use Rattle.law_entries_reads.specs.Below.law_words_borrows.Below.law_words_paths.words.Unmoved.{taking_by}
use Rattle.law_entries_reads.specs.Below.law_words_borrows.Below.law_words_paths.words.WordsAfter.{KeepsWords}
use Rattle.law_entries_reads.proofs.Below.law_words_borrows.Below.law_words_paths.words.Unmoved.{untouched_stays}
use Rattle.law_entries_reads.proofs.Below.law_words_borrows.Below.law_words_kept.stays.Alike.{blank}
use Rattle.law_entries_reads.proofs.Below.law_words_borrows.Below.law_words_kept.stays.Sites.{HandAlike}
use Rattle.law_entries_reads.proofs.Below.law_words_borrows.Below.law_words_kept.stays.Seen.{seen_alike}
use Rattle.law_entries_reads.proofs.Below.law_words_borrows.Below.law_words_kept.stays.Steps.{TakesNoneHere, settles}
use Rattle.law_entries_reads.proofs.Below.law_words_borrows.Below.law_words_kept.prepared.Hands.{calm_goes}
use Rattle.law_entries_reads.proofs.Below.law_words_borrows.Below.law_words_kept.prepared.Asking.{found_number}
use Rattle.law_entries_reads.proofs.Below.law_words_borrows.Below.law_words_values.made.Boxing.{keeps_leaves, none_named, Given, unseen_given, top_given, Boxed, is_boxed}
use Rattle.law_entries_reads.proofs.Below.law_words_borrows.Below.law_words_paths.words.Put.{put_split}
use Rattle.law_entries_reads.proofs.Below.law_words_borrows.Below.law_words_kept.reads.Homes.{fresh_word}
use Rattle.law_entries_reads.proofs.Below.law_words_values.carried.Replaced.{at_b}
use Rattle.law_entries_reads.proofs.Below.law_words_values.carried.Places.{end_is}
use Rattle.law_entries_reads.proofs.Below.law_words_values.carried.Hands.{ThereBy, stands_here, put, places, h0, each_together, together_chain, puts_alike}
use Rattle.law_entries_reads.proofs.Below.law_words_values.carried.Steps.{goes_next}
use Rattle.law_entries_reads.proofs.Below.law_copies_kept.references.WordedCopies.{then_holds}
use Rattle.law_entries_reads.proofs.locks.OnTop.{temp_fresh}
use Rattle.law_entries_reads.specs.locks.Boxes.{HasNextWord, BoxesTakeNextWords}

-- nothing is taken at a box
none_taken : (t : ℕ) (p : Phase) (o : Operand) → taking_by t p (Some (instr.Box o)) ≡ None
none_taken t (phase.Taken w) o = refl
none_taken t _ o = refl

-- what is owned
owned_is : (v : Value) (u : Owned) → owned_of v ≡ Some u → v ≡ value.Own u
owned_is (value.Own w) u e = let same : w ≡ u = cc in ap (λ z. value.Own z) same
owned_is value.Gone u e = absurd (cc e)
owned_is (value.SharedSlot i) u e = absurd (cc e)
owned_is (value.MutSlot i) u e = absurd (cc e)
owned_is (value.Shared r) u e = absurd (cc e)
owned_is (value.Mut r) u e = absurd (cc e)
owned_is (value.Held m) u e = absurd (cc e)

module _ (k : Cluster) (coherent : IsCoherent k) (few : FewEvents k) (s : Server) (here : server_at k.servers s.rest.number ≡ Some s) (t : ℕ) (y : ThreadState) (at : thread_in s.threads t ≡ Some y)
    (on : enabled k.options s (Step t) ≡ true) (o : Operand) (code : slice_get k.code y.pc ≡ Some (instr.Box o)) (start : HasWords (sight k)) where
  abbrev n : ℕ
  n = s.rest.number

  abbrev Put : Hand → Cluster
  Put = put k coherent.sound s here t y at

  abbrev first : Hand
  first = h0 k coherent.sound s here t y at

  abbrev name : ObjNo
  name = next_object first

  -- the thread runs
  going : is_over y.phase ≡ false
  going = calm_goes y.phase (subst (λ x. has_phase can_step x ≡ true) at on)

  none : TakesNoneHere k.code y
  none = subst (λ j. taking_by y.number y.phase j ≡ None) (sym code) (none_taken y.number y.phase o)

  free : y.gift ≡ None
  free = (gift_fits k coherent.sound n s here t y at (instr.Box o) code).0

  -- THE SUMS

  abbrev w : ℕ → ℕ
  w i = tot (tasks_of i) (things_of k)

  abbrev others : List Thing
  others = servers_things (others_of k.servers n)

  abbrev Fine : Hand → Type 0
  Fine = HandOk (Counted w) n s.events t (all_standing n (without_thread s.threads t) ++ others)

  -- an object of that name isn't there
  counted : HandOk (New w name) n s.events t (all_standing n (without_thread s.threads t) ++ others) first
  counted =
      let all : Counted w (server_things s ++ others) = (counted_kept w).same (things_of k) (server_things s ++ others) (λ f. omega (arith, (tot-server f k.servers n s s here).0, tot-append f (server_things s) others)) (record { sums = sound_has_sums k coherent.sound; tasks = λ i. refl }) in
      let new : tot (cells name) (server_things s ++ others) ≡ 0 = omega (arith, none_named k coherent few s here t y at going none free start, (tot-server (cells name) k.servers n s s here).0, tot-append (cells name) (server_things s) others) in
      takes (new_kept w name) n s.events others t (begin_at s) y at (begins_site (new_kept w name) others s (all, new))

  placed : (h : Hand) → Fine h → HasPlaces (Put h)
  placed h g = let b = g.bag in places k coherent.sound s here t y at h (record { number = g.number; thread = g.thread; bag = b.sums })

  -- THE OBJECT

  -- it was made, with that word
  abbrev Made : Hand → Type 0
  Made h = (b : Boxed k coherent few s here t y at going none free start h) × (b.word ≡ new_word s.rest.partition)

  -- as a box of it is on top, under that word
  word_on_top : (ts : List Value) (h : Hand) → HasPlaces (Put h) → h.work.rest.number ≡ n → h.thread.number ≡ t → (p : BoxPtr) → h.thread.temps ≡ ts ++ value.Own (owned.Box p) ∷ [] → (words : HasWords (sight (Put h))) (v : ℕ) → words.word p.object ≡ v → v ≡ p.word
  word_on_top ts h there number named p top words v e =
      let split = put_split k n s.threads (s.events + 1) h h (stands_here k coherent.sound s here t y at h number named) refl refl in
      let stands : value_in (sight (Put h)).ground (at_temp h.thread.number (length ts)) ≡ Some (value.Own (owned.Box p)) = ap (λ o. temp_of o (length ts)) (at_b (Put h) (Put h) n h.thread h.thread refl split there there) ∙ ap (λ l. slice_get l (length ts)) top ∙ end_is ts (value.Own (owned.Box p)) in
      sym (fresh_word (Put h) words (at_temp h.thread.number (length ts)) (value.Own (owned.Box p)) p stands refl (temp_fresh (Put h) h.thread.number (length ts)) ∙ e)

  abbrev MadeSo : Hand → Type 0
  MadeSo h = HasPlaces (Put h) → Made h

  makes : (u : Owned) (ts : List Value) → Given k coherent few s here t y at going none free start u ts → Gives MadeSo (make_box u (record first { thread = record y { temps = ts } }))
  makes u ts given =
      let h : Hand = record first { thread = record y { temps = ts } } in
      over_gives (λ (m : NewWord). MadeSo (push_box u m h)) MadeSo (issue_placed (act.Make name) (record { object = name; value = u }) first.work) (λ m. push_box u m h)
      (test_gives (λ (m : NewWord). MadeSo (push_box u m h)) (can_grow s.rest.partition) _ (λ grows there.
      let b = is_boxed k coherent few s here t y at going none free start u ts given grows there in
      (b, word_on_top ts (last u ts) there b.rest_number b.thread_number (record { word = new_word s.rest.partition; object = name }) refl b.keeps.words.after b.word b.keeps.words.new))) (λ m g. g)
    where
      last : Owned → List Value → Hand
      last v us = push_box v (record { word = new_word s.rest.partition; work = note (act.Make name (new_word s.rest.partition)) (with_partition (made s.rest.partition (record { object = name; value = v })) first.work) }) (record first { thread = record y { temps = us } })

  boxed : (q : Operand) → Gives MadeSo (box_up q first)
  boxed (operand.Const i) = makes (owned.Int i) y.temps (unseen_given k coherent few s here t y at going none free start (owned.Int i) (blank (holds in_hand (owned.Int i)) (λ p e m. m)))
  boxed operand.Unit = makes owned.Unit y.temps (unseen_given k coherent few s here t y at going none free start owned.Unit (blank (holds in_hand owned.Unit) (λ p e m. m)))
  boxed operand.Pop = by (last_of y.temps) refl
    where
      h1 : Hand
      h1 = with_temps (front_of y.temps) first

      as_owned : (v : Value) → last_of y.temps ≡ Some v → (q : Option Owned) → owned_of v ≡ q → Gives MadeSo (then_some {X = Popped Owned} (option_map (λ u. record { item = u; hand = h1 }) q) (λ x. make_box x.item x.hand))
      as_owned v e None q = tt
      as_owned v e (Some u) q = makes u (front_of y.temps) (top_given k coherent few s here t y at going none free start u (e ∙ ap Some (owned_is v u q)))

      by : (q : Option Value) → last_of y.temps ≡ q → Gives MadeSo (then_some {X = Popped Owned} (then_some {X = Popped Value} (option_map (λ v. record { item = v; hand = h1 }) q) (taken_as owned_of)) (λ x. make_box x.item x.hand))
      by None e = tt
      by (Some v) e = as_owned v e (owned_of v) refl

  -- THE STEP

  abbrev Left : Stepped → Type 0
  Left d = HasNextWord k (Put d.hand) s y start × HasPlaces (Put d.hand)

  -- it goes on from there
  ended : (q : Option Hand) → Gives Made q → Gives Fine q → Gives Left (committed (goes_on q))
  ended None g f = tt
  ended (Some h) g f =
      both_give (λ (d : Stepped). HandAlike k.code n [] (go_on h) d.hand) (λ (d : Stepped). Fine d.hand) Left (option_map (done_step fresh.None) (settle (go_on h)))
      (over_gives (HandAlike k.code n [] (go_on h)) (λ (d : Stepped). HandAlike k.code n [] (go_on h) d.hand) (settle (go_on h)) (done_step fresh.None) (settles k.code n (go_on h)) (λ x a. a))
      (committed_keeps (counted_kept w) n s.events t (all_standing n (without_thread s.threads t) ++ others) (goes_on (Some h)) (goes_keep (counted_kept w) n s.events t (all_standing n (without_thread s.threads t) ++ others) (Some h) f)) (λ d a c.
      let before = placed h f in
      let after = placed d.hand c in
      let b = g.0 in
      let alike = puts_alike k coherent.sound s here t y at h d.hand b.rest_number b.thread_number (together_chain (goes_next k.code n h b.untaken) (each_together a)) in
      let kept = keeps_leaves b.keeps (untouched_stays (Put h) (Put d.hand) before after (seen_alike (Put h) (Put d.hand) before after refl alike)) in
      (record { new = subst (λ v. issued (sight k) v ≡ false) g.1 b.new; keeps = subst (λ v. KeepsWords k (Put d.hand) name v start) g.1 kept }, after))

  steps : Gives Left (step k.options.servers (instr.Box o) first)
  steps =
      let fine : Gives Fine (box_up o first) = boxes_up w n s.events t (all_standing n (without_thread s.threads t) ++ others) o first counted in
      ended (box_up o first) (both_give Fine MadeSo Made (box_up o first) fine (boxed o) (λ h f g. g (placed h f))) fine

  -- at its server
  pub server_boxes : Gives (ThereBy (λ a c. HasNextWord k c s y start) k s) (does k.code k.options s (Step t))
  server_boxes =
      let Kept = ThereBy (λ a c. HasNextWord k c s y start) k s in
      subst (λ x. Gives Kept (option_map (stepped s) (then_some (option_map (λ v. record { work = begin_work s.rest; thread = v }) x) (step_in k.code k.options.servers)))) (sym at)
      (subst (λ x. Gives Kept (option_map (stepped s) (then_some x (λ j. step k.options.servers j first)))) (sym code) (over_gives Left Kept (step k.options.servers (instr.Box o) first) (stepped s) steps (λ d g. g)))

-- in its cluster
pub boxes_take : BoxesTakeNextWords
boxes_take k number t s y o start coherent few here at code =
    subst (λ n. server_at k.servers n ≡ Some s → Gives (λ (d : Cluster × EntryView). HasNextWord k d.0 s y start) (apply k (record { server = n; what = Step t }))) (found_number number k.servers s here)
    (λ h. then_holds (λ c. HasNextWord k c s y start) (λ a b g stay. record { new = g.new; keeps = keeps_leaves g.keeps stay.0 }) k s t coherent.sound few h (λ on. server_boxes k coherent few s h t y at on o code start)) here
