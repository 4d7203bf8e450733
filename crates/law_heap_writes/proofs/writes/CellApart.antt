-- A cell that lies at an event's server in front of all other things of its cluster, beside the event's thread and its server's counts: before the event, and
-- afterwards with what comes in their place.
use Rattle.std.proofs.Common.{◌≡◌, ℕ, ◌+◌, ◌≤◌, ◌==◌, ◌&&◌, ◌||◌, not, true, false, List, [], ◌∷◌, ◌++◌, length, take, drop, Some, None, option_map, refl, sym, ap, ap₂, ◌∙◌, subst, arith}
use Rattle.std.specs.List.{AllByRecursion}
use Rattle.law_heap_writes.specs.Below.fr_base.declared.step.Fresh.{Fresh}
use Rattle.law_heap_writes.specs.Below.fr_base.declared.instruction.Instr.{Instr}
use Rattle.law_heap_writes.specs.Below.fr_plain.PlainState.{SameState, plain_state}
use Rattle.law_heap_writes.specs.Below.fr_code.Machine.{CodeWhole}
use Rattle.law_heap_writes.specs.Below.global_addr.Words.{address_of}
use Rattle.law_heap_writes.specs.Below.heap_partition.declared.value.Cell.{Cell}
use Rattle.law_heap_writes.specs.Below.heap_partition.declared.value.Owned.{Owned}
use Rattle.law_heap_writes.specs.Below.heap_partition.declared.value.Owned.TheVariants as owned
use Rattle.law_heap_writes.specs.Below.owner_box.Partition.{stored}
use Rattle.law_heap_writes.specs.Below.owner_box.View.{PartitionState}
use Rattle.law_heap_writes.specs.Below.thread_state.View.{ThreadState}
use Rattle.law_heap_writes.specs.Below.server_model.declared.event.Event.{Event}
use Rattle.law_heap_writes.specs.Below.server_model.Servers.{Server, Cluster}
use Rattle.law_heap_writes.specs.Below.server_model.Work.{look, set_thread, without_thread, put_back}
use Rattle.law_heap_writes.specs.Below.server_model.Events.{Stepped, stepped}
use Rattle.law_heap_writes.specs.Below.coherent_memory.Names.{tot, some}
use Rattle.law_heap_writes.specs.Below.coherent_memory.Things.{Spot, Thing, stands, lies, gift_things, servers_things, things_of}
use Rattle.law_heap_writes.specs.Below.coherent_memory.Follow.{threads_in, thread_at, locate}
use Rattle.law_heap_writes.specs.Below.coherent_memory.Sight.{Sight, sight, with_things}
use Rattle.law_heap_writes.specs.Below.coherent_memory.Requests.{home_of, is_par_end}
use Rattle.law_heap_writes.specs.Below.coherent_memory.Naming.{count_of, started_at}
use Rattle.law_heap_writes.specs.Below.coherent_memory.Weights.{is_thread}
use Rattle.law_heap_writes.specs.Below.coherent_memory.OneHeap.{is_given_thread, one_heap, state_of, spot_owner}
use Rattle.law_heap_writes.specs.Below.coherent_memory.Coherent.{IsSound}
use Rattle.law_heap_writes.proofs.Below.law_counts_sums.Trades.{Trade, Same, tot-append}
use Rattle.law_heap_writes.proofs.Below.law_counts_sums.Bags.{counts_of, body_things, all_standing, rest_things, had_by, tot-without, tot-set, server_same, of_partition}
use Rattle.law_heap_writes.proofs.Below.law_counts_sums.Events.{others_of, tot-server}
use Rattle.law_heap_writes.proofs.Below.law_counts_sums.Applied.{go_with}
use Rattle.law_heap_writes.proofs.Below.law_counts_sums.Handing.{hand_over_newer_law}
use Rattle.law_heap_writes.proofs.Below.law_counts_sums.Values.{stores}
use Rattle.law_words_writes.specs.Below.law_heap_still.events.Shows.{sign_of, ShowAlike}
use Rattle.law_words_writes.proofs.Below.law_heap_still.events.Alike.{Once, same_state, same_once, same_spots, same_threads, same_places}
use Rattle.law_words_writes.proofs.Below.law_heap_still.events.Counting.{nought, stray, no_stray, no_stray_in}
use Rattle.law_words_writes.proofs.Below.law_heap_still.events.Gifts.{placed, telling, places_told}
use Rattle.law_words_writes.proofs.Below.law_heap_still.events.Once.{shown_once}
use Rattle.law_words_writes.proofs.Below.law_heap_still.events.PlainValues.{shown_of}
use Rattle.law_words_writes.proofs.Below.law_heap_still.events.Sites.{Moves, ends}
use Rattle.law_heap_writes.specs.Below.law_heap_steps.turns.Turns.{StepsTo, IsPlainStep}
use Rattle.law_heap_writes.proofs.Below.law_heap_steps.turns.Parts.{Own}
use Rattle.law_heap_writes.proofs.Below.law_heap_steps.turns.OneTurn.{of_thread}
use Rattle.law_heap_writes.proofs.Below.law_heap_steps.turns.Events.{AtStep, Sends, then_same}
use Rattle.law_heap_writes.proofs.Below.law_heap_steps.mutexes.Beside.{giftless, IsBeside, all_of, tot_of, thread_parted}
use Rattle.law_heap_writes.proofs.Below.law_heap_steps.mutexes.OneThread.{next, stray_stays}
use Rattle.law_heap_writes.proofs.Below.law_heap_steps.mutexes.Changed as changed
use Rattle.law_heap_writes.proofs.Below.law_heap_steps.mutexes.ThreadTurns.{Next}

module _ (k : Cluster) (sound : IsSound k) (e : Event) (i : Instr) (single : is_par_end (Some i) ≡ false) (s : Server) (t : ℕ) (x : ThreadState) (at : AtStep k e i s t x) (bare : x.gift ≡ None) (w : ℕ) (c : Cell) (there : look s.rest.partition w ≡ Some c) where
  abbrev pub n : ℕ
  n = s.rest.number

  -- the cell with that value
  abbrev pub cell_with : Owned → Thing
  cell_with v = lies n (address_of w) (record c { value = v })

  abbrev pub counts_here : Thing
  counts_here = counts_of n s.events s.rest

  abbrev pub counts_then : Thing
  counts_then = counts_of n 0 s.rest

  abbrev emptied : PartitionState
  emptied = stored s.rest.partition w owned.Nothing

  abbrev apart : Trade (rest_things n s.events s.rest) (counts_here ∷ lies n (address_of w) c ∷ []) (counts_of n s.events (record s.rest { partition = emptied }) ∷ cell_with owned.Nothing ∷ []) (rest_things n s.events (record s.rest { partition = emptied }))
  apart = of_partition n s.events s.rest emptied (stores n s.rest.partition w c owned.Nothing there)

  -- the counts and the cell
  abbrev pub G : List Thing
  G = counts_here ∷ lies n (address_of w) c ∷ []

  -- all others
  abbrev pub R : List Thing
  R = apart.rest ++ (all_standing n (without_thread s.threads t) ++ servers_things (others_of k.servers e.server))

  abbrev pub a : List Thing
  a = all_of n x G R

  pub no_gift : (f : Thing → ℕ) → tot f (gift_things x.number x.gift) ≡ 0
  no_gift f = ap (λ g. tot f (gift_things x.number g)) bare

  pub same_things : Same (things_of k) a
  same_things f =
      let ts = all_standing n (without_thread s.threads t) in
      let os = servers_things (others_of k.servers e.server) in
      let had = had_by n (giftless x) in
      let whole : tot f a ≡ f (stands n false x) + tot f ((G ++ had) ++ R) = refl in
      omega (
        arith,
        thread_parted n x f,
        no_gift f,
        apart.before f,
        whole,
        (tot-server f k.servers e.server s s at.here).0,
        server_same s f,
        tot-append f (all_standing n s.threads) (rest_things n s.events s.rest),
        tot-without n f s.threads t x at.at,
        tot-append f (G ++ had) R,
        tot-append f G had,
        tot-append f apart.rest (ts ++ os),
        tot-append f ts os,
      )

  alike : ShowAlike (things_of k) a
  alike q z = same_things (λ v. q (sign_of v))

  pub unstray : tot (stray (sight k)) (things_of k) ≡ 0
  unstray = no_stray k sound.names.numbers_differ

  pub places : (gift : ℕ → ℕ) → tot (placed nought nought gift) a ≡ tot (telling nought nought gift) a
  places gift = omega (arith, places_told nought nought gift k, same_things (placed nought nought gift), same_things (telling nought nought gift))

  pub unstray_in : ((u : ℕ) → tot (is_thread u) a ≤ 1) → tot (stray (with_things k a)) a ≡ 0
  unstray_in = no_stray_in k a places

  pub none_stray : tot (stray (with_things k a)) a ≡ 0
  none_stray = unstray_in (λ u. omega (arith, sound.names.numbers_differ u, same_things (is_thread u)))

  -- it stands for the one heap
  pub state_before : SameState (state_of (with_things k a)) (one_heap k)
  state_before = same_state k (things_of k) a (shown_once k sound) alike unstray unstray_in

  pub once_before : Once (with_things k a)
  once_before = same_once k (things_of k) a (shown_once k sound) alike unstray unstray_in

  pub spots_before : (p : Spot) → spot_owner (sight k) p ≡ spot_owner (with_things k a) p
  spots_before = same_spots k (things_of k) a (shown_once k sound) alike unstray unstray_in

  pub threads_before : (u : ℕ) → option_map shown_of (thread_at (threads_in (things_of k)) u) ≡ option_map shown_of (thread_at (threads_in a) u)
  threads_before = same_threads k (things_of k) a (shown_once k sound) alike unstray unstray_in

  pub places_before : (u slot m : ℕ) → locate (sight k).ground u slot m ≡ locate (with_things k a).ground u slot m
  places_before = same_places k (things_of k) a (shown_once k sound) alike unstray unstray_in

  -- nothing else is of the thread, and its name was given
  abbrev G0 : List Thing
  G0 = changed.G k sound e s at.here t x at.at at.number

  abbrev R0 : List Thing
  R0 = changed.R k sound e s at.here t x at.at at.number

  pub lone : tot (of_thread x.number) R ≡ 0
  lone =
      let f = of_thread x.number in
      let flat : Own (λ v. f v ≡ 0) → tot f R ≡ 0 = λ own. omega (
        arith,
        changed.lone k sound e s at.here t x at.at at.number,
        changed.same_things k sound e s at.here t x at.at at.number f,
        same_things f,
        tot_of n x G0 R0 f own,
        tot_of n x G R f own,
        no_gift f,
        tot-append f (gift_things x.number x.gift) (counts_here ∷ []),
      ) in
      flat (record { slots = λ u j v. refl; temps = λ u j v. refl; shared = λ l r. refl; lent = λ l r. refl; marks = λ l m. refl; used = λ u m. refl })

  pub given : is_given_thread (with_things k a) x.number ≡ true
  given =
      let f = started_at (home_of x.number) (count_of x.number) in
      ap (λ m. x.number == 0 || (not (count_of x.number == 0) && some m)) (sym (same_things f) ∙ changed.same_things k sound e s at.here t x at.at at.number f) ∙ changed.given k sound e s at.here t x at.at at.number

  pub rest_less : (f : Thing → ℕ) → tot f R ≤ tot f (things_of k)
  rest_less f =
      let had = had_by n (giftless x) in
      let whole : tot f a ≡ f (stands n false x) + tot f ((G ++ had) ++ R) = refl in
      omega (arith, same_things f, whole, tot-append f (G ++ had) R)

  -- AFTERWARDS

  module _ (d : Stepped) (became : ThreadState) (thread : d.hand.thread ≡ next x became) (G2 : List Thing) (moves : Moves G2 (counts_then ∷ lies n (address_of w) c ∷ []) s.rest d.hand.work.rest) (sends : Sends k e s (stepped s d)) where
    abbrev y : ThreadState
    y = next x became

    abbrev pub b : List Thing
    b = all_of n y G2 R

    abbrev s3 : Server
    s3 = (stepped s d).0

    abbrev pub k3 : Cluster
    k3 = Next k sound e i single s t x at d

    pub alike_then : ShowAlike b (things_of k3)
    alike_then q z =
        let g : Thing → ℕ = λ v. q (sign_of v) in
        let older = length s.rest.outbox in
        let goes = go_with k.servers e.server s3 (take older s3.rest.outbox) (drop older s3.rest.outbox) sends in
        let r2 = d.hand.work.rest in
        let ts = all_standing n (without_thread s.threads t) in
        let os = servers_things (others_of k.servers e.server) in
        let body = body_things n s.rest in
        let had = had_by n (giftless y) in
        let none : tot g (gift_things y.number y.gift) ≡ 0 = refl in
        let rest : tot g (rest_things n 0 s.rest) ≡ g counts_then + tot g body = refl in
        let rest_then : tot g (rest_things n s.events s.rest) ≡ g counts_here + tot g body = refl in
        let whole : tot g b ≡ g (stands n false y) + tot g ((G2 ++ had) ++ R) = refl in
        let site : tot g (all_standing r2.number (set_thread s.threads d.hand.thread) ++ rest_things r2.number 0 r2) ≡ tot g (all_standing n (set_thread s.threads y) ++ rest_things n 0 r2) =
        ap₂ (λ (m : ℕ) (v : ThreadState). tot g (all_standing m (set_thread s.threads v) ++ rest_things m 0 r2)) moves.number thread in
        omega (
          arith,
          hand_over_newer_law g e.server older s s3 k.servers at.here goes,
          (tot-server g k.servers e.server s s3 at.here).1,
          ends s.events (Some d.hand.thread.number) d.names (put_back s.threads d.hand) q z,
          site,
          thread_parted n y g,
          none,
          rest,
          rest_then,
          apart.before g,
          whole,
          tot-append g (all_standing n (set_thread s.threads y)) (rest_things n 0 r2),
          tot-set n g s.threads t x y at.at at.number,
          moves.alike q z,
          tot-append g G2 (rest_things n 0 s.rest),
          tot-append g (G2 ++ had) R,
          tot-append g G2 had,
          tot-append g apart.rest (ts ++ os),
          tot-append g ts os,
        )

    module _ (beside : AllByRecursion IsBeside G2) (giftless2 : tot (stray (with_things k b)) G2 ≡ 0) where
      unstray_then : tot (stray (with_things k b)) b ≡ 0
      unstray_then =
          let flat : (r : Sight) → Own (λ v. stray r v ≡ 0) = λ r. record { slots = λ u i v. refl; temps = λ u i v. refl; shared = λ l m. refl; lent = λ l m. refl; marks = λ l m. refl; used = λ u m. refl } in
          let others : tot (stray (with_things k a)) R ≡ tot (stray (with_things k b)) R = stray_stays k R G G2 n x became (tt, (tt, tt)) beside lone in
          omega (arith, none_stray, tot_of n x G R (stray (with_things k a)) (flat (with_things k a)), others, tot_of n y G2 R (stray (with_things k b)) (flat (with_things k b)), giftless2)

      -- it stands for the one heap of the cluster afterwards
      pub state_after : Once (with_things k b) → SameState (one_heap k3) (state_of (with_things k b))
      state_after once = same_state k b (things_of k3) once alike_then unstray_then (no_stray k3)

  -- what the thread became, what comes in the place of the counts and the cell, and that the plain machine does the same
  pub record CellTurn (d : Stepped) : Type 0 where
    pub became : ThreadState
    pub names : Fresh
    pub thread : d.hand.thread ≡ next x became
    pub named : d.names ≡ Some names
    pub comes : List Thing
    pub moves : Moves comes (counts_then ∷ lies n (address_of w) c ∷ []) s.rest d.hand.work.rest
    pub beside : AllByRecursion IsBeside comes
    pub unstray : tot (stray (with_things k (all_of n (next x became) comes R))) comes ≡ 0
    pub once : Once (with_things k (all_of n (next x became) comes R))
    pub steps : (v : CodeWhole) → SameState (plain_state v) (one_heap k) → StepsTo k.code v x.number names (state_of (with_things k (all_of n (next x became) comes R))) d.hand.work.labels

  pub is_step : (d : Stepped) → CellTurn d → Sends k e s (stepped s d) → IsPlainStep k (Next k sound e i single s t x at d, (stepped s d).1)
  is_step d turn sends u names who done v same =
      let own : x.number ≡ u = sym (ap (λ (z : ThreadState). z.number) turn.thread) ∙ (let r : d.hand.thread.number ≡ u = cc in r) in
      let named : turn.names ≡ names = (let r : Some turn.names ≡ Some names = sym turn.named ∙ done in cc) in
      let end = state_of (with_things k (all_of n (next x turn.became) turn.comes R)) in
      let steps : StepsTo k.code v x.number turn.names end d.hand.work.labels = turn.steps v same in
      let after : SameState (one_heap (Next k sound e i single s t x at d)) end = state_after d turn.became turn.thread turn.comes turn.moves sends turn.beside turn.unstray turn.once in
      let at_end : StepsTo k.code v x.number turn.names (one_heap (Next k sound e i single s t x at d)) d.hand.work.labels = record {
        after = steps.after;
        steps = steps.steps;
        same = then_same (plain_state steps.after.state) end (one_heap (Next k sound e i single s t x at d)) steps.same after;
        labelled = steps.labelled;
      } in
      subst (λ z. StepsTo k.code v z names (one_heap (Next k sound e i single s t x at d)) d.hand.work.labels) own (subst (λ f. StepsTo k.code v x.number f (one_heap (Next k sound e i single s t x at d)) d.hand.work.labels) named at_end)
