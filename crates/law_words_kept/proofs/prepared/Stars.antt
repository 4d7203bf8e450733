-- A place is followed for reading: star by star, until it is ready or a request is sent.
use Rattle.std.proofs.Common.{◌≡◌, ℕ, zero, suc, ◌+◌, ◌<◌, ◌==◌, Bool, true, false, nat_lt, if◌then◌else◌, List, ◌++◌, Option, Some, None, refl, sym, ap, subst, ◌∙◌, arith}
use Rattle.std.specs.Prelude.{⊤, slice_get}
use Rattle.law_words_kept.specs.Below.fr_base.declared.place.Lval.{Lval}
use Rattle.law_words_kept.specs.Below.fr_base.declared.instruction.Instr.{Instr}
use Rattle.law_words_kept.specs.Below.global_addr.Words.{colour_of, server_of}
use Rattle.law_words_kept.specs.Below.heap_partition.declared.value.BoxPtr.{BoxPtr}
use Rattle.law_words_kept.specs.Below.heap_partition.declared.value.Cell.{Cell}
use Rattle.law_words_kept.specs.Below.heap_partition.declared.value.Owned.{Owned}
use Rattle.law_words_kept.specs.Below.heap_partition.declared.value.Owned.TheVariants as owned
use Rattle.law_words_kept.specs.Below.read_cache.Cache.{Copy, is_cached}
use Rattle.law_words_kept.specs.Below.mut_borrow.Refs.{cleaned_answer}
use Rattle.law_words_kept.specs.Below.mut_borrow.declared.shared.SharedRef.{SharedRef}
use Rattle.law_words_kept.specs.Below.mut_borrow.declared.mutable.MutRef.{MutRef}
use Rattle.law_words_kept.specs.Below.mut_borrow.declared.mutable.Cleaned.{Cleaned}
use Rattle.law_words_kept.specs.Below.mut_borrow.declared.mutable.Cleaned.TheVariants as cleaned
use Rattle.law_words_kept.specs.Below.journal.declared.act.Act.{Act}
use Rattle.law_words_kept.specs.Below.journal.declared.act.Act.TheVariants as act
use Rattle.law_words_kept.specs.Below.thread_state.View.{ThreadState}
use Rattle.law_words_kept.specs.Below.thread_state.declared.phase.Phase.TheVariants as phase
use Rattle.law_words_kept.specs.Below.thread_state.declared.value.Value.{Value}
use Rattle.law_words_kept.specs.Below.thread_state.declared.value.Value.TheVariants as value
use Rattle.law_words_kept.specs.Below.place_walk.declared.hop.Hop.{Hop}
use Rattle.law_words_kept.specs.Below.place_walk.declared.hop.Hop.TheVariants as hop
use Rattle.law_words_kept.specs.Below.place_walk.Hops.{clean_hop, dirty_hop, read_hop}
use Rattle.law_words_kept.specs.Below.server_msgs.declared.message.Message.TheVariants as message
use Rattle.law_words_kept.specs.Below.server_model.declared.event.What.TheVariants.{Step}
use Rattle.law_words_kept.specs.Below.server_model.Servers.{Server, Cluster, server_at}
use Rattle.law_words_kept.specs.Below.server_model.Work.{Hand, note, working, thread_in, without_thread, then_some}
use Rattle.law_words_kept.specs.Below.server_model.NewWords.{issue_tint, issue_renewal}
use Rattle.law_words_kept.specs.Below.server_model.Places.{Spot, in_slot, in_cell, in_copy, value_at, value_in as cell_value, cell_at, load_at, pointer_of, put_word}
use Rattle.law_words_kept.specs.Below.server_model.Prepare.{Prepared, ready, requested, nothing, and_then, ready_at, ask_copy, ask_object, request_by, box_of, cleaned_by, clean_value, pinned_once, use_copy, hopped, hit_by, read_by, read_value, read_clean, tinted_first, read_star, read_stars}
use Rattle.law_words_kept.specs.Below.server_model.Events.{enabled}
use Rattle.law_words_kept.specs.Below.coherent_memory.Things.{Location, at_slot, servers_things}
use Rattle.law_words_kept.specs.Below.coherent_memory.Follow.{Ground, value_in, value_behind, leads, locate}
use Rattle.law_words_kept.specs.Below.coherent_memory.Sight.{sight}
use Rattle.law_words_kept.specs.Below.coherent_types.ClusterTypes.{IsCoherent}
use Rattle.law_words_kept.proofs.Below.law_words_paths.words.Tints.{slot_stands}
use Rattle.law_words_kept.specs.Below.law_counts_sums.Laws.{Gives}
use Rattle.law_words_kept.proofs.Below.law_counts_sums.Results.{given_by}
use Rattle.law_words_kept.proofs.Below.law_counts_sums.RulesKeep.{sums_kept}
use Rattle.law_words_kept.proofs.Below.law_counts_sums.Bags.{all_standing, thread_number}
use Rattle.law_words_kept.proofs.Below.law_counts_sums.Events.{others_of}
use Rattle.law_words_kept.proofs.Below.law_counts_sums.NewWords.{puts_word}
use Rattle.law_words_kept.specs.reads.Reading.{Reads}
use Rattle.law_words_kept.proofs.stays.Steps.{TakesNoneHere}
use Rattle.law_words_kept.proofs.prepared.Hands.{Ok, put, places, stands, State, Walks, noted, loaded, uses_copy, pins_copy, requests, cleans_slot}

-- WHICH HOPS ARE TO SLOTS, AND WHICH WANT A TINT

some_hop : {a b : Hop} → Some a ≡ Some b → a ≡ b
some_hop e = cc

clean_no_slot : (server : ℕ) (cache : List Copy) (w j : ℕ) → Some (clean_hop server cache w) ≡ Some (hop.Slot j) → ⊥
clean_no_slot server cache w j e = by (server_of w == server) (is_cached cache w) e
  where
    by : (p q : Bool) → Some (if p then hop.Direct w else (if q then hop.Hit w else hop.NeedCopy w)) ≡ Some (hop.Slot j) → ⊥
    by true q f = absurd cc
    by false true f = absurd cc
    by false false f = absurd cc

clean_no_tint : (server : ℕ) (cache : List Copy) (w v : ℕ) → Some (clean_hop server cache w) ≡ Some (hop.NeedTint v) → ⊥
clean_no_tint server cache w v e = by (server_of w == server) (is_cached cache w) e
  where
    by : (p q : Bool) → Some (if p then hop.Direct w else (if q then hop.Hit w else hop.NeedCopy w)) ≡ Some (hop.NeedTint v) → ⊥
    by true q f = absurd cc
    by false true f = absurd cc
    by false false f = absurd cc

dirty_no_slot : (server w j : ℕ) → Some (dirty_hop server w) ≡ Some (hop.Slot j) → ⊥
dirty_no_slot server w j e = by (server_of w == server) e
  where
    by : (p : Bool) → Some (if p then hop.Direct w else hop.NeedTint w) ≡ Some (hop.Slot j) → ⊥
    by true f = absurd cc
    by false f = absurd cc

dirty_away : (server w v : ℕ) → Some (dirty_hop server w) ≡ Some (hop.NeedTint v) → (server_of w == server) ≡ false
dirty_away server w v e = by (server_of w == server) e
  where
    by : (p : Bool) → Some (if p then hop.Direct w else hop.NeedTint w) ≡ Some (hop.NeedTint v) → p ≡ false
    by true f = absurd cc
    by false f = refl

-- a hop to a slot leads there
to_slot : (t server : ℕ) (cache : List Copy) (v : Value) (j : ℕ) → read_hop server cache v ≡ Some (hop.Slot j) → leads t (Some v) ≡ Some (at_slot t j)
to_slot t server cache (value.SharedSlot i) j e = let s : i ≡ j = cc in ap (λ q. Some (at_slot t q)) s
to_slot t server cache (value.MutSlot i) j e = let s : i ≡ j = cc in ap (λ q. Some (at_slot t q)) s
to_slot t server cache (value.Own (owned.Box p)) j e = absurd (clean_no_slot server cache p.word j e)
to_slot t server cache (value.Shared r) j e = absurd (clean_no_slot server cache r.word j e)
to_slot t server cache (value.Mut r) j e = by r.dirty e
  where
    by : (d : Bool) → Some (if d then dirty_hop server r.word else clean_hop server cache r.word) ≡ Some (hop.Slot j) → leads t (Some (value.Mut r)) ≡ Some (at_slot t j)
    by true f = absurd (dirty_no_slot server r.word j f)
    by false f = absurd (clean_no_slot server cache r.word j f)
to_slot t server cache (value.Own owned.Nothing) j e = absurd cc
to_slot t server cache (value.Own owned.Unit) j e = absurd cc
to_slot t server cache (value.Own (owned.Int i)) j e = absurd cc
to_slot t server cache (value.Own (owned.Mutex i)) j e = absurd cc
to_slot t server cache (value.Own (owned.Task i)) j e = absurd cc
to_slot t server cache value.Gone j e = absurd cc
to_slot t server cache (value.Held i) j e = absurd cc

own_no_slot : (server : ℕ) (cache : List Copy) (u : Owned) (j : ℕ) → read_hop server cache (value.Own u) ≡ Some (hop.Slot j) → ⊥
own_no_slot server cache (owned.Box p) j e = clean_no_slot server cache p.word j e
own_no_slot server cache owned.Nothing j e = absurd cc
own_no_slot server cache owned.Unit j e = absurd cc
own_no_slot server cache (owned.Int i) j e = absurd cc
own_no_slot server cache (owned.Mutex i) j e = absurd cc
own_no_slot server cache (owned.Task i) j e = absurd cc

-- what wants a tint is a dirty reference to an object elsewhere
record WantsTint (server : ℕ) (v : Value) : Type 0 where
  reference : MutRef
  is : v ≡ value.Mut reference
  dirty : reference.dirty ≡ true
  away : (server_of reference.word == server) ≡ false

wants_tint : (server : ℕ) (cache : List Copy) (v : Value) (u : ℕ) → read_hop server cache v ≡ Some (hop.NeedTint u) → WantsTint server v
wants_tint server cache (value.Mut r) u e = by r.dirty refl e
  where
    by : (d : Bool) → r.dirty ≡ d → Some (if d then dirty_hop server r.word else clean_hop server cache r.word) ≡ Some (hop.NeedTint u) → WantsTint server (value.Mut r)
    by true q f = record { reference = r; is = refl; dirty = q; away = dirty_away server r.word u f }
    by false q f = absurd (clean_no_tint server cache r.word u f)
wants_tint server cache (value.SharedSlot i) u e = absurd cc
wants_tint server cache (value.MutSlot i) u e = absurd cc
wants_tint server cache (value.Own (owned.Box p)) u e = absurd (clean_no_tint server cache p.word u e)
wants_tint server cache (value.Shared r) u e = absurd (clean_no_tint server cache r.word u e)
wants_tint server cache (value.Own owned.Nothing) u e = absurd cc
wants_tint server cache (value.Own owned.Unit) u e = absurd cc
wants_tint server cache (value.Own (owned.Int i)) u e = absurd cc
wants_tint server cache (value.Own (owned.Mutex i)) u e = absurd cc
wants_tint server cache (value.Own (owned.Task i)) u e = absurd cc
wants_tint server cache value.Gone u e = absurd cc
wants_tint server cache (value.Held i) u e = absurd cc

-- after so many stars the spot is the slot to which these lead, or in memory
pub data Spotted (g : Ground) (t slot d : ℕ) : Spot → Type 0 where
  a_slot : (j : ℕ) → locate g t slot d ≡ Some (at_slot t j) → Spotted g t slot d (in_slot j)
  a_cell : (v : ℕ) (through : Option ℕ) → Spotted g t slot d (in_cell v through)
  a_copy : (v : ℕ) → Spotted g t slot d (in_copy v)

own_shared : (u : Owned) (r : SharedRef) → value.Own u ≡ value.Shared r → ⊥
own_shared u r e = absurd cc

module _ (k : Cluster) (coherent : IsCoherent k) (s : Server) (here : server_at k.servers s.rest.number ≡ Some s) (t : ℕ) (y : ThreadState) (at : thread_in s.threads t ≡ Some y)
    (on : enabled k.options s (Step t) ≡ true) (i : Instr) (code : slice_get k.code y.pc ≡ Some i) (w : Lval) (m : ℕ) (reads : Reads i w m) where
  abbrev W : Hand → Type 0
  W = Walks k coherent s here t y at

  abbrev S : Hand → Type 0
  S = State k coherent s here t y at

  abbrev At : ℕ → Spot → Type 0
  At d sp = Spotted (sight k).ground y.number w.slot d sp

  abbrev pub ReadsOk : ℕ → Prepared → Type 0
  ReadsOk d (ready h sp) = W h × At d sp
  ReadsOk d (requested h) = TakesNoneHere k.code y → S h
  ReadsOk d nothing = ⊤

  then_ok : (d e : ℕ) (x : Prepared) (go : Hand → Spot → Prepared) → ReadsOk d x → ((h : Hand) (sp : Spot) → W h → At d sp → ReadsOk e (go h sp)) → ReadsOk e (and_then go x)
  then_ok d e (ready h sp) go g f = f h sp g.0 g.1
  then_ok d e (requested h) go g f = g
  then_ok d e nothing go g f = tt

  ready_ok : (d : ℕ) (sp : Spot) (o : Option Hand) → Gives W o → At d sp → ReadsOk d (ready_at sp o)
  ready_ok d sp None g a = tt
  ready_ok d sp (Some h) g a = (g, a)

  if_ok : (d : ℕ) (b : Bool) (x z : Prepared) → ReadsOk d x → ReadsOk d z → ReadsOk d (if b then x else z)
  if_ok d true x z f g = f
  if_ok d false x z f g = g

  -- REQUESTS

  pub asks_copy : (p : BoxPtr) (h : Hand) → TakesNoneHere k.code y → W h → S (ask_copy p h)
  asks_copy p h free g = requests k coherent s here t y at (act.Ask p.object p.word) (server_of p.word) (message.Fetch p.word p.object h.work.rest.number h.thread.number) (phase.WaitCell p.word) h refl refl (λ q e z. z) (λ c j. refl) free g

  pub asks_object : (p : BoxPtr) (h : Hand) → TakesNoneHere k.code y → W h → S (ask_object p h)
  asks_object p h free g = requests k coherent s here t y at (act.Pull p.object p.word) (server_of p.word) (message.Move p.word p.object h.work.rest.number h.thread.number) (phase.WaitCell p.word) h refl refl (λ q e z. z) (λ c j. refl) free g

  asked_ok : (d : ℕ) (h : Hand) (o : Option BoxPtr) → W h → ReadsOk d (request_by ask_copy h o)
  asked_ok d h None g = tt
  asked_ok d h (Some p) g = λ free. asks_copy p h free g

  -- ONE HOP

  walks_noted : (a : Act) (h : Hand) → W h → W (working (note a) h)
  walks_noted a h g = record { state = noted k coherent s here t y at a h g.state; untaken = g.untaken; gift = g.gift }

  pub walks_loaded : (sp : Spot) (h : Hand) → W h → W (load_at sp h)
  walks_loaded sp h g = record { state = loaded k coherent s here t y at sp h g.state; untaken = g.untaken; gift = g.gift }

  hops : (f : BoxPtr → Act) (o : Option BoxPtr) (h : Hand) → W h → W (hopped (λ p. note (f p)) o h)
  hops f None h g = g
  hops f (Some p) h g = walks_noted (f p) h g

  hop_slots : (f : BoxPtr → Act) (o : Option BoxPtr) (h : Hand) (j : ℕ) → slice_get (hopped (λ p. note (f p)) o h).thread.slots j ≡ slice_get h.thread.slots j
  hop_slots f None h j = refl
  hop_slots f (Some p) h j = refl

  -- a shared reference stands in a slot
  abbrev InSlot : Spot → Value → Hand → Type 0
  InSlot sp v h = (r : SharedRef) → v ≡ value.Shared r → (j : ℕ) × (sp ≡ in_slot j) × (slice_get h.thread.slots j ≡ Some v)

  copies : (sp : Spot) (v : Value) (u : ℕ) (h : Hand) → InSlot sp v h → W h → Gives W (use_copy sp v u h)
  copies sp (value.Shared r) u h f g =
      let q = f r refl in
      subst (λ z. Gives W (pinned_once z r r.pinned h)) (sym q.1) (pins_copy k coherent s here t y at q.0 r r.pinned h refl q.2 g)
  copies sp _ u h f g = uses_copy k coherent s here t y at u h g

  hop_ok : (d : ℕ) (sp : Spot) (v : Value) (o : Option Hop) (h : Hand) → W h → ((j : ℕ) → o ≡ Some (hop.Slot j) → At (suc d) (in_slot j)) → InSlot sp v h → ReadsOk (suc d) (read_by sp v o h)
  hop_ok d sp v (Some (hop.Slot j)) h g f c = (g, f j refl)
  hop_ok d sp v (Some (hop.Direct u)) h g f c = (hops (λ p. act.Local p.object p.word) (pointer_of v) h g, a_cell u None)
  hop_ok d sp v (Some (hop.Hit u)) h g f c =
      ready_ok (suc d) (in_copy u) (use_copy sp v u (hit_by v h))
      (copies sp v u (hit_by v h) (λ r e. let q = c r e in (q.0, q.1, hop_slots (λ p. act.Hit p.object p.word) (pointer_of v) h q.0 ∙ q.2)) (hops (λ p. act.Hit p.object p.word) (pointer_of v) h g)) (a_copy u)
  hop_ok d sp v (Some (hop.NeedCopy u)) h g f c = asked_ok (suc d) h (pointer_of v) g
  hop_ok d sp v (Some (hop.NeedMove u)) h g f c = tt
  hop_ok d sp v (Some (hop.NeedTint u)) h g f c = tt
  hop_ok d sp v (Some (hop.AtCell u)) h g f c = tt
  hop_ok d sp v None h g f c = tt

  -- where the value of a slot leads, it led
  lead_on : (d j : ℕ) (h : Hand) (v : Value) (j2 : ℕ) → W h → locate (sight k).ground y.number w.slot d ≡ Some (at_slot y.number j) → slice_get h.thread.slots j ≡ Some v → read_hop h.work.rest.number h.work.rest.cache v ≡ Some (hop.Slot j2)
      → locate (sight k).ground y.number w.slot (suc d) ≡ Some (at_slot y.number j2)
  lead_on d j h v j2 g located e q =
      let named : h.thread.number ≡ y.number = g.state.ok.thread ∙ sym (thread_number s.threads t y at) in
      let l : Location = at_slot y.number j in
      let now : value_in (sight (put k coherent s here t y at h)).ground l ≡ Some v =
      ap (λ c. value_in (sight (put k coherent s here t y at h)).ground (at_slot c j)) (sym named)
      ∙ slot_stands k s.rest.number s.threads (s.events + 1) h j v (stands k coherent s here t y at h g.state.ok) (places k coherent s here t y at h g.state.ok) e in
      ap (λ o. leads y.number (value_behind (sight k).ground o)) located ∙ sym (g.state.along.slots_lead y.number y.number j) ∙ ap (leads y.number) now ∙ to_slot y.number h.work.rest.number h.work.rest.cache v j2 q

  in_memory : (d : ℕ) (sp : Spot) (o : Option Cell) (h : Hand) → W h → ReadsOk (suc d) (read_value sp (cell_value o) h)
  in_memory d sp None h g = tt
  in_memory d sp (Some c) h g =
      hop_ok d sp (value.Own c.value) (read_hop h.work.rest.number h.work.rest.cache (value.Own c.value)) h g (λ j e. absurd (own_no_slot h.work.rest.number h.work.rest.cache c.value j e)) (λ r e. absurd (own_shared c.value r e))

  value_ok : (d : ℕ) (h : Hand) (sp : Spot) → W h → At d sp → ReadsOk (suc d) (read_value sp (value_at h sp) h)
  value_ok d h _ g (a_slot j located) = by (slice_get h.thread.slots j) refl
    where
      by : (o : Option Value) → slice_get h.thread.slots j ≡ o → ReadsOk (suc d) (read_value (in_slot j) o h)
      by None e = tt
      by (Some v) e =
          hop_ok d (in_slot j) v (read_hop h.work.rest.number h.work.rest.cache v) h g (λ j2 q. a_slot j2 (lead_on d j h v j2 g located e q)) (λ r q. (j, refl, e))
  value_ok d h _ g (a_cell v through) = in_memory d (in_cell v through) (cell_at h (in_cell v through)) h g
  value_ok d h _ g (a_copy v) = in_memory d (in_copy v) (cell_at h (in_copy v)) h g

  -- CLEANING

  tinted : (d j : ℕ) (r : MutRef) (h : Hand) → W h → d < m → r.dirty ≡ true → slice_get h.thread.slots j ≡ Some (value.Mut r) → (located : locate (sight k).ground y.number w.slot d ≡ Some (at_slot y.number j))
      → ReadsOk d (ready_at (in_slot j) (put_word (in_slot j) (issue_tint (box_of r) h.work) h))
  tinted d j r h g lt dirty e located = by (put_word (in_slot j) (issue_tint (box_of r) h.work) h) refl
    where
      ok : Gives (Ok k coherent s here t y at) (put_word (in_slot j) (issue_tint (box_of r) h.work) h)
      ok = puts_word sums_kept s.rest.number s.events t (all_standing s.rest.number (without_thread s.threads t) ++ servers_things (others_of k.servers s.rest.number)) (in_slot j) (issue_tint (box_of r) h.work) h (record { number = g.state.ok.number; thread = g.state.ok.thread; bag = g.state.ok.bag })

      by : (o : Option Hand) → put_word (in_slot j) (issue_tint (box_of r) h.work) h ≡ o → ReadsOk d (ready_at (in_slot j) o)
      by None q = tt
      by (Some h2) q =
          (cleans_slot k coherent s here t y at on i code w m reads h h2 j d r g (given_by (Ok k coherent s here t y at) (put_word (in_slot j) (issue_tint (box_of r) h.work) h) h2 ok q) e dirty lt located q, a_slot j located)

  cleaned_ok : (d j : ℕ) (r : MutRef) (a : Cleaned) (h : Hand) → W h → d < m → r.dirty ≡ true → (server_of r.word == h.work.rest.number) ≡ false → slice_get h.thread.slots j ≡ Some (value.Mut r) → locate (sight k).ground y.number w.slot d ≡ Some (at_slot y.number j)
      → ReadsOk d (cleaned_by a (in_slot j) r h)
  cleaned_ok d j r cleaned.Same h g lt dirty away e located = (g, a_slot j located)
  cleaned_ok d j r (cleaned.Tinted v) h g lt dirty away e located = tinted d j r h g lt dirty e located
  cleaned_ok d j r cleaned.MustRenew h g lt dirty away e located =
      subst (λ b. ReadsOk d (if b then ready_at (in_slot j) (then_some (issue_renewal (box_of r) h.work) (λ c. put_word (in_slot j) c h)) else requested (ask_object (box_of r) h))) (sym away) (λ free. asks_object (box_of r) h free g)

  slot_clean : (d j : ℕ) (v : Value) (o : Option Hop) (h : Hand) → read_hop h.work.rest.number h.work.rest.cache v ≡ o → W h → d < m → slice_get h.thread.slots j ≡ Some v → locate (sight k).ground y.number w.slot d ≡ Some (at_slot y.number j)
      → ReadsOk d (read_clean (in_slot j) v o h)
  slot_clean d j v (Some (hop.NeedTint u)) h q g lt e located =
      let x = wants_tint h.work.rest.number h.work.rest.cache v u q in
      let r : MutRef = x.reference in
      subst (λ z. ReadsOk d (clean_value (in_slot j) (Some z) h)) (sym x.is)
      (if_ok d (nat_lt (colour_of r.word) h.work.rest.partition.limit) (cleaned_by (cleaned_answer h.work.rest.partition.limit r) (in_slot j) r h) nothing
      (cleaned_ok d j r (cleaned_answer h.work.rest.partition.limit r) h g lt x.dirty x.away (e ∙ ap Some x.is) located) tt)
  slot_clean d j v (Some (hop.Slot u)) h q g lt e located = (g, a_slot j located)
  slot_clean d j v (Some (hop.Direct u)) h q g lt e located = (g, a_slot j located)
  slot_clean d j v (Some (hop.Hit u)) h q g lt e located = (g, a_slot j located)
  slot_clean d j v (Some (hop.NeedCopy u)) h q g lt e located = (g, a_slot j located)
  slot_clean d j v (Some (hop.NeedMove u)) h q g lt e located = (g, a_slot j located)
  slot_clean d j v (Some (hop.AtCell u)) h q g lt e located = (g, a_slot j located)
  slot_clean d j v None h q g lt e located = (g, a_slot j located)

  memory_clean : (d : ℕ) (sp : Spot) (u : Owned) (o : Option Hop) (h : Hand) → W h → At d sp → ReadsOk d (read_clean sp (value.Own u) o h)
  memory_clean d sp u (Some (hop.NeedTint c)) h g a = (g, a)
  memory_clean d sp u (Some (hop.Slot c)) h g a = (g, a)
  memory_clean d sp u (Some (hop.Direct c)) h g a = (g, a)
  memory_clean d sp u (Some (hop.Hit c)) h g a = (g, a)
  memory_clean d sp u (Some (hop.NeedCopy c)) h g a = (g, a)
  memory_clean d sp u (Some (hop.NeedMove c)) h g a = (g, a)
  memory_clean d sp u (Some (hop.AtCell c)) h g a = (g, a)
  memory_clean d sp u None h g a = (g, a)

  memory_first : (d : ℕ) (sp : Spot) (o : Option Cell) (h : Hand) → W h → At d sp → ReadsOk d (tinted_first sp (cell_value o) h)
  memory_first d sp None h g a = tt
  memory_first d sp (Some c) h g a = memory_clean d sp c.value (read_hop h.work.rest.number h.work.rest.cache (value.Own c.value)) h g a

  first_ok : (d : ℕ) (h : Hand) (sp : Spot) → d < m → W h → At d sp → ReadsOk d (tinted_first sp (value_at h sp) (load_at sp h))
  first_ok d h _ lt g (a_slot j located) = by (slice_get h.thread.slots j) refl
    where
      by : (o : Option Value) → slice_get h.thread.slots j ≡ o → ReadsOk d (tinted_first (in_slot j) o (load_at (in_slot j) h))
      by None e = tt
      by (Some v) e = slot_clean d j v (read_hop h.work.rest.number h.work.rest.cache v) (load_at (in_slot j) h) refl (walks_loaded (in_slot j) h g) lt e located
  first_ok d h _ lt g (a_cell v through) = memory_first d (in_cell v through) (cell_at h (in_cell v through)) (load_at (in_cell v through) h) (walks_loaded (in_cell v through) h g) (a_cell v through)
  first_ok d h _ lt g (a_copy v) = memory_first d (in_copy v) (cell_at h (in_copy v)) (load_at (in_copy v) h) (walks_loaded (in_copy v) h g) (a_copy v)

  -- ALL STARS

  star_ok : (d : ℕ) (h : Hand) (sp : Spot) → d < m → W h → At d sp → ReadsOk (suc d) (read_star h sp)
  star_ok d h sp lt g a = then_ok d (suc d) (tinted_first sp (value_at h sp) (load_at sp h)) _ (first_ok d h sp lt g a) (λ h2 s2 g2 a2. value_ok d h2 s2 g2 a2)

  pub stars_ok : (c d : ℕ) (h : Hand) (sp : Spot) → d + c ≡ m → W h → At d sp → ReadsOk m (read_stars c h sp)
  stars_ok zero d h sp e g a = (g, subst (λ q. At q sp) (let z : d ≡ m = omega (arith, e) in z) a)
  stars_ok (suc c) d h sp e g a = then_ok (suc d) m (read_star h sp) (read_stars c) (star_ok d h sp (omega (arith, e)) g a) (λ h2 s2 g2 a2. stars_ok c (suc d) h2 s2 (omega (arith, e)) g2 a2)
