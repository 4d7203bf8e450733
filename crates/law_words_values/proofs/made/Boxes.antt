-- The step of a box in its cluster.
use Rattle.std.proofs.Common.{◌≡◌, ℕ, ◌++◌, List, [], Option, Some, None, option_map, true, false, refl, sym, ap, subst, ◌∙◌, arith}
use Rattle.std.specs.Prelude.{slice_get, length, take, drop as drop_first}
use Rattle.law_counts_things.specs.Below.fr_base.declared.instruction.Operand.{Operand}
use Rattle.law_counts_things.specs.Below.fr_base.declared.instruction.Operand.TheVariants as operand
use Rattle.law_counts_things.specs.Below.fr_base.declared.instruction.Instr.TheVariants as instr
use Rattle.law_counts_things.specs.Below.fr_base.declared.step.Fresh.TheVariants as fresh
use Rattle.law_counts_things.specs.Below.fr_base.declared.name.ObjNo.{ObjNo}
use Rattle.law_counts_things.specs.Below.heap_partition.declared.value.Owned.{Owned}
use Rattle.law_counts_things.specs.Below.heap_partition.declared.value.Owned.TheVariants as owned
use Rattle.law_counts_things.specs.Below.journal.View.{EntryView}
use Rattle.law_counts_things.specs.Below.thread_state.View.{ThreadState, is_over}
use Rattle.law_counts_things.specs.Below.thread_state.declared.phase.Phase.{Phase}
use Rattle.law_counts_things.specs.Below.thread_state.declared.phase.Phase.TheVariants as phase
use Rattle.law_counts_things.specs.Below.thread_state.declared.value.Value.{Value}
use Rattle.law_counts_things.specs.Below.thread_state.declared.value.Value.TheVariants as value
use Rattle.law_counts_things.specs.Below.server_model.declared.event.What.TheVariants.{Step}
use Rattle.law_counts_things.specs.Below.server_model.Servers.{Server, Cluster, server_at}
use Rattle.law_counts_things.specs.Below.server_model.Work.{Hand, Popped, last_of, front_of, thread_in, without_thread, then_some, owned_of, taken_as, with_temps}
use Rattle.law_counts_things.specs.Below.server_model.Commit.{go_on, goes_on, next_object, make_box, box_up, settle}
use Rattle.law_counts_things.specs.Below.server_model.Events.{can_step, has_phase, enabled, begin_work, begin_at, Stepped, done_step, committed, step, step_in, stepped, does}
use Rattle.law_counts_things.specs.Below.server_model.Clusters.{with_server, hand_over_newer, done_at, apply}
use Rattle.law_counts_things.specs.Below.coherent_memory.Names.{tot}
use Rattle.law_counts_things.specs.Below.coherent_memory.Things.{in_hand, holds, Thing, server_things, servers_things, things_of}
use Rattle.law_counts_things.specs.Below.coherent_memory.Weights.{cells, tasks_of}
use Rattle.law_counts_things.specs.Below.coherent_memory.Sight.{sight}
use Rattle.law_counts_things.specs.Below.coherent_memory.Words.{HasWords}
use Rattle.law_counts_things.specs.Below.coherent_types.ClusterTypes.{IsCoherent}
use Rattle.law_counts_things.proofs.Below.law_words_paths.paths.Sole.{some_is}
use Rattle.law_counts_things.specs.Below.law_counts_sums.Laws.{Gives, GoTo, FewEvents}
use Rattle.law_counts_things.proofs.Below.law_counts_sums.Trades.{tot-append}
use Rattle.law_counts_things.proofs.Below.law_counts_sums.Results.{over_gives, test_gives, both_give}
use Rattle.law_counts_things.proofs.Below.law_counts_sums.RulesKeep.{Counted, counted_kept}
use Rattle.law_counts_things.proofs.Below.law_counts_sums.Bags.{HandOk, all_standing}
use Rattle.law_counts_things.proofs.Below.law_counts_sums.Boxes.{New, new_kept, boxes_up}
use Rattle.law_counts_things.proofs.Below.law_counts_sums.Chains.{takes}
use Rattle.law_counts_things.proofs.Below.law_counts_sums.Commits.{goes_keep}
use Rattle.law_counts_things.proofs.Below.law_counts_sums.Steps.{committed_keeps}
use Rattle.law_counts_things.proofs.Below.law_counts_sums.Events.{others_of, tot-server, begins_site}
use Rattle.law_counts_things.proofs.Below.law_counts_sums.Sound.{sound_has_sums}
use Rattle.law_counts_things.proofs.Below.law_counts_sums.GiftsTaken.{gift_fits}
use Rattle.law_counts_things.proofs.Below.law_counts_sums.Applied.{go_with}
use Rattle.law_counts_things.proofs.Below.law_counts_sums.Sending.{applied_part, each_event_sends}
use Rattle.law_words_values.specs.Below.law_words_paths.words.Reworded.{HasPlaces}
use Rattle.law_words_values.specs.Below.law_words_paths.words.Unmoved.{taking_by}
use Rattle.law_words_values.proofs.Below.law_words_paths.words.Unmoved.{untouched_stays}
use Rattle.law_words_values.proofs.Below.law_words_kept.stays.Alike.{Alike, blank}
use Rattle.law_words_values.proofs.Below.law_words_kept.stays.Sites.{HandAlike, handed_over}
use Rattle.law_words_values.proofs.Below.law_words_kept.stays.Seen.{seen_alike}
use Rattle.law_words_values.proofs.Below.law_words_kept.stays.Steps.{TakesNoneHere, settles}
use Rattle.law_words_values.proofs.Below.law_words_kept.prepared.Hands.{calm_goes}
use Rattle.law_words_values.proofs.Below.law_words_kept.prepared.Asking.{found_number}
use Rattle.law_words_values.proofs.carried.Hands.{put, places, h0, each_together, together_chain, puts_alike}
use Rattle.law_words_values.proofs.carried.Steps.{goes_next}
use Rattle.law_words_values.specs.made.Boxes.{HasNewWord, BoxesKeep}
use Rattle.law_words_values.proofs.made.Boxing.{keeps_leaves, none_named, Given, unseen_given, top_given, Boxed, makes}

box_takes : (t : ℕ) (p : Phase) (o : Operand) → taking_by t p (Some (instr.Box o)) ≡ None
box_takes t (phase.Taken w) o = refl
box_takes t _ o = refl

-- what is popped for an owned value
is_owned : (v : Value) (u : Owned) → owned_of v ≡ Some u → v ≡ value.Own u
is_owned (value.Own w) u e = ap (λ z. value.Own z) (some_is e)
is_owned value.Gone u e = absurd cc
is_owned (value.SharedSlot i) u e = absurd cc
is_owned (value.MutSlot i) u e = absurd cc
is_owned (value.Shared r) u e = absurd cc
is_owned (value.Mut r) u e = absurd cc
is_owned (value.Held m) u e = absurd cc

module _ (k : Cluster) (coherent : IsCoherent k) (few : FewEvents k) (s : Server) (here : server_at k.servers s.rest.number ≡ Some s) (t : ℕ) (y : ThreadState) (at : thread_in s.threads t ≡ Some y)
    (on : enabled k.options s (Step t) ≡ true) (o : Operand) (code : slice_get k.code y.pc ≡ Some (instr.Box o)) (start : HasWords (sight k)) where
  abbrev n : ℕ
  n = s.rest.number

  abbrev Put : Hand → Cluster
  Put = put k coherent.sound s here t y at

  abbrev first : Hand
  first = h0 k coherent.sound s here t y at

  going : is_over y.phase ≡ false
  going = calm_goes y.phase (subst (λ x. has_phase can_step x ≡ true) at on)

  none : TakesNoneHere k.code y
  none = subst (λ j. taking_by y.number y.phase j ≡ None) (sym code) (box_takes y.number y.phase o)

  free : y.gift ≡ None
  free = (gift_fits k coherent.sound n s here t y at (instr.Box o) code).0

  abbrev GivenAs : Owned → List Value → Type 0
  GivenAs = Given k coherent few s here t y at going none free start

  abbrev Made : Hand → Type 0
  Made = Boxed k coherent few s here t y at going none free start

  -- THE SUMS

  abbrev w : ℕ → ℕ
  w i = tot (tasks_of i) (things_of k)

  abbrev beside_it : List Thing
  beside_it = all_standing n (without_thread s.threads t) ++ servers_things (others_of k.servers n)

  counted : HandOk (New w (next_object first)) n s.events t beside_it first
  counted =
      let others = servers_things (others_of k.servers n) in
      let name = next_object first in
      let all : Counted w (server_things s ++ others) = (counted_kept w).same (things_of k) (server_things s ++ others) (λ f. omega (arith, (tot-server f k.servers n s s here).0, tot-append f (server_things s) others)) (record { sums = sound_has_sums k coherent.sound; tasks = λ i. refl }) in
      let new : tot (cells name) (server_things s ++ others) ≡ 0 = omega (arith, none_named k coherent few s here t y at going none free start, (tot-server (cells name) k.servers n s s here).0, tot-append (cells name) (server_things s) others) in
      takes (new_kept w name) n s.events others t (begin_at s) y at (begins_site (new_kept w name) others s (all, new))

  abbrev Fine : Hand → Type 0
  Fine = HandOk (Counted w) n s.events t beside_it

  place_of : (h : Hand) → Fine h → HasPlaces (Put h)
  place_of h g = let b = g.bag in places k coherent.sound s here t y at h (record { number = g.number; thread = g.thread; bag = b.sums })

  boxed_fine : Gives Fine (box_up o first)
  boxed_fine = boxes_up w n s.events t beside_it o first counted

  -- THE OPERAND

  boxed : (q : Operand) → Gives (λ (h : Hand). HasPlaces (Put h) → Made h) (box_up q first)
  boxed (operand.Const i) = makes k coherent few s here t y at going none free start (owned.Int i) y.temps (unseen_given k coherent few s here t y at going none free start (owned.Int i) (blank (holds in_hand (owned.Int i)) (λ p e m. m)))
  boxed operand.Unit = makes k coherent few s here t y at going none free start owned.Unit y.temps (unseen_given k coherent few s here t y at going none free start owned.Unit (blank (holds in_hand owned.Unit) (λ p e m. m)))
  boxed operand.Pop = by (last_of y.temps) refl
    where
      h1 : Hand
      h1 = with_temps (front_of y.temps) first

      as_owned : (v : Value) → last_of y.temps ≡ Some v → (q : Option Owned) → owned_of v ≡ q → Gives (λ (h : Hand). HasPlaces (Put h) → Made h) (then_some {X = Popped Owned} (option_map (λ u. record { item = u; hand = h1 }) q) (λ x. make_box x.item x.hand))
      as_owned v e None q = tt
      as_owned v e (Some u) q = makes k coherent few s here t y at going none free start u (front_of y.temps) (top_given k coherent few s here t y at going none free start u (e ∙ ap Some (is_owned v u q)))

      by : (q : Option Value) → last_of y.temps ≡ q → Gives (λ (h : Hand). HasPlaces (Put h) → Made h) (then_some {X = Popped Owned} (then_some {X = Popped Value} (option_map (λ v. record { item = v; hand = h1 }) q) (taken_as owned_of)) (λ x. make_box x.item x.hand))
      by None e = tt
      by (Some v) e = as_owned v e (owned_of v) refl

  -- THE STEP

  abbrev Left : Stepped → Type 0
  Left d = HasNewWord k (Put d.hand) (record { thread = y.number; count = y.made }) start × HasPlaces (Put d.hand)

  ended : (q : Option Hand) → Gives Made q → Gives Fine q → Gives Left (committed (goes_on q))
  ended None g f = tt
  ended (Some h) g f =
      both_give (λ (d : Stepped). HandAlike k.code n [] (go_on h) d.hand) (λ (d : Stepped). Fine d.hand) Left (option_map (done_step fresh.None) (settle (go_on h)))
      (over_gives (HandAlike k.code n [] (go_on h)) (λ (d : Stepped). HandAlike k.code n [] (go_on h) d.hand) (settle (go_on h)) (done_step fresh.None) (settles k.code n (go_on h)) (λ x a. a))
      (committed_keeps (counted_kept w) n s.events t beside_it (goes_on (Some h)) (goes_keep (counted_kept w) n s.events t beside_it (Some h) f)) (λ d a c.
      let before = place_of h f in
      let after = place_of d.hand c in
      let alike = puts_alike k coherent.sound s here t y at h d.hand g.rest_number g.thread_number (together_chain (goes_next k.code n h g.untaken) (each_together a)) in
      (record { word = g.word; new = g.new; keeps = keeps_leaves g.keeps (untouched_stays (Put h) (Put d.hand) before after (seen_alike (Put h) (Put d.hand) before after refl alike)) }, after))

  steps : Gives Left (step k.options.servers (instr.Box o) first)
  steps = ended (box_up o first) (both_give Fine (λ (h : Hand). HasPlaces (Put h) → Made h) Made (box_up o first) boxed_fine (boxed o) (λ h f g. g (place_of h f))) boxed_fine

  abbrev pub Kept : Server × EntryView → Type 0
  Kept r =
      HasNewWord k (record k { servers = with_server k.servers n r.0 }) (record { thread = y.number; count = y.made }) start × HasPlaces (record k { servers = with_server k.servers n r.0 })

  pub server_boxes : Gives Kept (does k.code k.options s (Step t))
  server_boxes =
      subst (λ x. Gives Kept (option_map (stepped s) (then_some (option_map (λ v. record { work = begin_work s.rest; thread = v }) x) (step_in k.code k.options.servers)))) (sym at)
      (subst (λ x. Gives Kept (option_map (stepped s) (then_some x (λ j. step k.options.servers j first)))) (sym code) (over_gives Left Kept (step k.options.servers (instr.Box o) first) (stepped s) steps (λ d g. g)))

-- IN THE CLUSTER

module _ (k : Cluster) (s : Server) (name : ObjNo) (start : HasWords (sight k)) where
  abbrev m : ℕ
  m = s.rest.number

  abbrev Kept_there : Server × EntryView → Type 0
  Kept_there r = HasNewWord k (record k { servers = with_server k.servers m r.0 }) name start × HasPlaces (record k { servers = with_server k.servers m r.0 })

  handed : server_at k.servers m ≡ Some s → (x : Option (Server × EntryView)) → Gives Kept_there x → Gives (λ (r : Server × EntryView). GoTo (with_server k.servers m r.0) (drop_first (length s.rest.outbox) r.0.rest.outbox)) x
      → Gives (λ (d : Cluster × EntryView). HasPlaces d.0 → HasNewWord k d.0 name start) (option_map (λ r. (record k { servers = hand_over_newer m (length s.rest.outbox) r.0 k.servers }, r.1)) x)
  handed here None a g = tt
  handed here (Some r) a g = λ q.
      let older = length s.rest.outbox in
      let mid : Cluster = record k { servers = with_server k.servers m r.0 } in
      let end : Cluster = record k { servers = hand_over_newer m older r.0 k.servers } in
      let alike : Alike k.code (things_of mid) (things_of end) = handed_over m older s r.0 k.servers here (go_with k.servers m r.0 (take older r.0.rest.outbox) (drop_first older r.0.rest.outbox) g) in
      let new = a.0 in
      record { word = new.word; new = new.new; keeps = keeps_leaves new.keeps (untouched_stays mid end a.1 q (seen_alike mid end a.1 q refl alike)) }

  -- with its messages handed over
  kept_where : (t : ℕ) → IsCoherent k → FewEvents k → server_at k.servers m ≡ Some s → (enabled k.options s (Step t) ≡ true → Gives Kept_there (does k.code k.options s (Step t)))
      → Gives (λ (d : Cluster × EntryView). HasNewWord k d.0 name start) (apply k (record { server = m; what = Step t }))
  kept_where t coherent few h go =
      both_give (λ (d : Cluster × EntryView). HasPlaces d.0 → HasNewWord k d.0 name start) (λ (d : Cluster × EntryView). HasPlaces d.0) (λ (d : Cluster × EntryView). HasNewWord k d.0 name start) (apply k (record { server = m; what = Step t }))
      (subst (λ x. Gives (λ (d : Cluster × EntryView). HasPlaces d.0 → HasNewWord k d.0 name start) (then_some x (λ z. option_map (λ d. (record k { servers = hand_over_newer m (length z.rest.outbox) d.0 k.servers }, d.1)) (done_at k (Step t) z)))) (sym h)
      (handed h (done_at k (Step t) s) (test_gives Kept_there (enabled k.options s (Step t)) (does k.code k.options s (Step t)) go) (each_event_sends k (record { server = m; what = Step t }) coherent.sound few s h)))
      (applied_part HasPlaces (λ c g. record { numbers_differ = g.numbers_differ; home_of_each = g.home_of_each; owner_of_each = g.owner_of_each }) k (record { server = m; what = Step t }) coherent.sound few)
      (λ d a c. a c)

pub boxes_keep : BoxesKeep
boxes_keep k number t s y o start coherent few here at code =
    subst (λ n. server_at k.servers n ≡ Some s → Gives (λ (d : Cluster × EntryView). HasNewWord k d.0 (record { thread = y.number; count = y.made }) start) (apply k (record { server = n; what = Step t }))) (found_number number k.servers s here)
    (λ h. kept_where k s (record { thread = y.number; count = y.made }) start t coherent few h (λ on. server_boxes k coherent few s h t y at on o code start)) here
