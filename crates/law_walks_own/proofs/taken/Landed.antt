-- What the delivery of an object leaves in its cluster: each cell with its value, or with a box that gets the new word; and its thread goes on, or has taken the object.
use Rattle.std.proofs.Common.{◌≡◌, ℕ, zero, suc, ◌+◌, ◌-◌, ◌≤◌, ◌==◌, nat_lt, is_some, Bool, true, false, if◌then◌else◌, List, ◌++◌, Option, Some, None, option_map, refl, sym, ap, subst, ◌∙◌, arith}
use Rattle.std.specs.Prelude.{slice_get, length}
use Rattle.std.proofs.lemmas.Bool.{eqb-true}
use Rattle.law_words_ends.specs.Below.fr_base.declared.name.ObjNo.{ObjNo}
use Rattle.law_words_ends.specs.Below.fr_base.declared.place.Lval.{Lval}
use Rattle.law_words_ends.specs.Below.fr_base.declared.instruction.Instr.{Instr}
use Rattle.law_words_ends.specs.Below.heap_partition.declared.value.BoxPtr.{BoxPtr}
use Rattle.law_words_ends.specs.Below.heap_partition.declared.value.Cell.{Cell}
use Rattle.law_words_ends.specs.Below.heap_partition.declared.value.Owned.{Owned}
use Rattle.law_words_ends.specs.Below.heap_partition.declared.value.Owned.TheVariants as owned
use Rattle.law_words_ends.specs.Below.owner_box.View.{PartitionState}
use Rattle.law_words_ends.specs.Below.owner_box.Partition.{cell_of, made, new_word, stored}
use Rattle.law_words_ends.specs.Below.thread_state.View.{ThreadState}
use Rattle.law_words_ends.specs.Below.thread_state.declared.phase.Phase.{Phase}
use Rattle.law_words_ends.specs.Below.thread_state.declared.phase.Phase.TheVariants as phase
use Rattle.law_words_ends.specs.Below.thread_state.declared.value.Value.{Value}
use Rattle.law_words_ends.specs.Below.thread_state.declared.value.Value.TheVariants as value
use Rattle.law_words_ends.specs.Below.server_msgs.declared.message.Message.TheVariants as message
use Rattle.law_words_ends.specs.Below.journal.View.{EntryView}
use Rattle.law_words_ends.specs.Below.journal.declared.act.Act.TheVariants as act
use Rattle.law_words_ends.specs.Below.server_model.declared.event.Event.{Event}
use Rattle.law_words_ends.specs.Below.server_model.declared.event.What.{What}
use Rattle.law_words_ends.specs.Below.server_model.declared.event.What.TheVariants.{Deliver}
use Rattle.law_words_ends.specs.Below.server_model.Servers.{Rest, Server, Cluster, server_at}
use Rattle.law_words_ends.specs.Below.server_model.Work.{Hand, Site, leads_here, look, note, put_back, receive, thread_in, without_thread, with_partition, with_phase, working, then_some}
use Rattle.law_words_ends.specs.Below.server_model.NewWords.{NewWord, can_grow}
use Rattle.law_words_ends.specs.Below.server_model.Places.{Spot, in_slot, on_top, in_cell, in_copy, nowhere, note_write, put_at, set_pointer, value_at, value_in, with_word}
use Rattle.law_words_ends.specs.Below.server_model.Prepare.{Access, ReadTo, ReadPointer, WriteTo, LendTo, EndRef, access_of, passing, write_stars}
use Rattle.law_words_ends.specs.Below.server_model.Objects.{waits_for_cell, chased, waits_under, arrived_at, arrived_slot, arrived_write, arrived_lend, arrived_end, passed_spot, arrived, instr_access, came, deliver_moved}
use Rattle.law_words_ends.specs.Below.server_model.Events.{enabled, received, deliver_message, left_by, does}
use Rattle.law_words_ends.specs.Below.server_model.Clusters.{with_server, done_at, act_at, apply}
use Rattle.law_words_ends.specs.Below.coherent_memory.Names.{tot}
use Rattle.law_words_ends.specs.Below.coherent_memory.Things.{Thing, stands, thread_things, server_things, servers_things, things_of}
use Rattle.law_words_ends.specs.Below.coherent_memory.Coherent.{IsSound}
use Rattle.law_words_ends.proofs.Below.coherent_memory.Sums.{tot-append}
use Rattle.law_words_ends.specs.Below.law_counts_sums.Laws.{Gives, FewEvents}
use Rattle.law_words_ends.proofs.Below.law_counts_sums.Applied.{handed_on}
use Rattle.law_words_ends.proofs.Below.law_counts_sums.Bags.{all_standing, rest_things, server_same, thread_number, tot-without, tot-set, of_partition, of_receiving}
use Rattle.law_words_ends.proofs.Below.law_counts_sums.Events.{tot-server}
use Rattle.law_words_ends.proofs.Below.law_counts_sums.Objects.{makes}
use Rattle.law_words_ends.proofs.Below.law_counts_sums.Results.{then_gives, over_gives, both_give, test_gives, weaker}
use Rattle.law_words_ends.proofs.Below.law_counts_sums.Sending.{each_event_sends}
use Rattle.law_words_ends.proofs.Below.law_counts_sums.Values.{stores}
use Rattle.law_words_ends.proofs.Below.law_heap_still.events.Addresses.{in_place, next_empty}
use Rattle.law_words_ends.proofs.Below.law_heap_still.events.Leaving.{others, placed_here}
use Rattle.law_words_ends.proofs.Below.law_counts_things.things.Goes.{Goes, IsGotten, moved_goes}
use Rattle.law_words_ends.specs.Below.law_words_paths.words.Unmoved.{Delivers}
use Rattle.law_walks_others.proofs.pointers.Cells.{Seeing, cell_weight, amount, rest_seen, thread_seen}
use Rattle.law_walks_others.proofs.pointers.Clusters.{goes_number}
use Rattle.law_walks_others.proofs.pointers.Ready.{led_here, place_unseen}

-- of each weight, and so of all
pub all_give : {A X : Type 0} (P : A → X → Type 0) (o : Option X) → ((a : A) → Gives (P a) o) → Gives (λ x. (a : A) → P a x) o
all_give P None g = tt
all_give P (Some x) g = λ a. g a

module _ (cs : List Instr) (s : Server) (old t : ℕ) (c : Cell) (y : ThreadState) where
  abbrev n : ℕ
  n = s.rest.number

  abbrev p : PartitionState
  p = s.rest.partition

  -- the word that the object gets
  abbrev pub new : ℕ
  new = new_word p

  -- the weight sees nothing of the thread
  pub record Lands (see : Seeing) : Type 0 where
    pub own : (u : ThreadState) → u.number ≡ t → see.threads n false u ≡ 0

  -- and no less of a box that gets the new word
  pub record Rewords (see : Seeing) : Type 0 where
    pub base : Lands see
    pub gets : (o : ObjNo) (b : BoxPtr) → see.cells (Some n) o (owned.Box b) ≤ see.cells (Some n) o (owned.Box (record b { word = new }))

  -- what its instruction needs
  abbrev pub access_at : Option Instr → Option Access
  access_at None = None
  access_at (Some i) = access_of i y

  -- AT ITS SERVER

  abbrev least : Seeing → ℕ
  least see = amount see n p s.rest.inbox s.rest.outbox

  -- what is seen of the object where it lies, and of the message
  abbrev pub gain : Seeing → ℕ
  gain see = see.cells (Some n) c.object c.value

  abbrev pub loss : Seeing → ℕ
  loss see = see.messages n (message.Moved old c t) + see.cells None c.object c.value

  -- no less is seen, but for the message, and the object besides
  abbrev More : Seeing → Hand → Type 0
  More see h = (h.work.rest.number ≡ n) × (least see + gain see ≤ amount see n h.work.rest.partition h.work.rest.inbox h.work.rest.outbox + loss see)

  -- at a mutable borrow no reference on the way had waited for it
  abbrev NoWay : ℕ → ℕ → Type 0
  NoWay slot d = (m : ℕ) → d ≡ suc (suc m) → waits_under old (slice_get y.slots (chased m y.slots slot)) ≡ false

  abbrev pub Untold : Type 0
  Untold = (w : Lval) × (access_at (slice_get cs y.pc) ≡ Some (LendTo w)) × NoWay w.slot w.depth

  -- a thread that goes on, or has taken the object from a pointer that stays
  pub data Came (h : Hand) : Type 0 where
    gets_it : h.thread.phase ≡ phase.Got → ((w : (see : Seeing) × Rewords see) → More w.0 h) → Came h
    takes_it : Untold → h.thread ≡ record y { phase = phase.Taken new } → ((w : (see : Seeing) × Lands see) → More w.0 h) → Came h

  abbrev Changed : Hand → Type 0
  Changed h = (w : (see : Seeing) × Rewords see) → More w.0 h

  boxed : (see : Seeing) → Rewords see → (o : ObjNo) (u v : Owned) → with_word new (value.Own u) ≡ Some (value.Own v) → see.cells (Some n) o u ≤ see.cells (Some n) o v
  boxed see r o (owned.Box b) v e = subst (λ z. see.cells (Some n) o (owned.Box b) ≤ see.cells (Some n) o z) (is e) (r.gets o b)
    where
      is : {a b : Owned} → Some (value.Own a) ≡ Some (value.Own b) → a ≡ b
      is h = cc
  boxed see r o owned.Nothing v e = absurd (cc e)
  boxed see r o owned.Unit v e = absurd (cc e)
  boxed see r o (owned.Int m) v e = absurd (cc e)
  boxed see r o (owned.Mutex m) v e = absurd (cc e)
  boxed see r o (owned.Task m) v e = absurd (cc e)

  notes : (see : Seeing) (q : Option ℕ) (h : Hand) → More see h → More see (note_write q h)
  notes see None h g = g
  notes see (Some i) h g = g

  cell_puts : (see : Seeing) → Rewords see → (u : ℕ) (q : Option ℕ) (v : Value) (new2 : Value) (h : Hand) → value_in (look h.work.rest.partition u) ≡ Some v → with_word new v ≡ Some new2 → More see h → Gives (More see) (put_at (in_cell u q) new2 h)
  cell_puts see r u q v (value.Own w) h there worded g =
      test_gives (More see) (leads_here h.work.rest.partition u) _ (λ on. notes see q (working (with_partition (stored h.work.rest.partition u w)) h) (by on (cell_of h.work.rest.partition u) refl))
    where
      some_value : {a b : Value} → Some a ≡ Some b → a ≡ b
      some_value e = cc

      by : leads_here h.work.rest.partition u ≡ true → (o : Option Cell) → cell_of h.work.rest.partition u ≡ o → More see (working (with_partition (stored h.work.rest.partition u w)) h)
      by on None e = absurd (cc (sym (ap is_some e) ∙ led_here h.work.rest.partition u on))
      by on (Some d) e =
          let x = h.work.rest.partition in
          let here : look x u ≡ Some d = subst (λ b. (if b then cell_of x u else None) ≡ Some d) (sym on) e in
          let its : value.Own d.value ≡ v = some_value (sym (ap value_in here) ∙ there) in
          let less = boxed see r d.object d.value w (ap (with_word new) its ∙ worded) in
          let tr = stores n x u d w here in
          let f = cell_weight see in
          (g.0, omega (arith, g.1, tr.before f, tr.after f, less))
  cell_puts see r u q v value.Gone h there worded g = tt
  cell_puts see r u q v (value.SharedSlot i) h there worded g = tt
  cell_puts see r u q v (value.MutSlot i) h there worded g = tt
  cell_puts see r u q v (value.Shared i) h there worded g = tt
  cell_puts see r u q v (value.Mut i) h there worded g = tt
  cell_puts see r u q v (value.Held i) h there worded g = tt

  sets : (see : Seeing) → Rewords see → (sp : Spot) (h : Hand) → More see h → Gives (More see) (set_pointer sp new h)
  sets see r sp h g = then_gives (More see) (value_at h sp) _ (λ v e. then_gives (More see) (with_word new v) _ (λ new2 q. by sp v new2 e q))
    where
      by : (sp : Spot) (v new2 : Value) → value_at h sp ≡ Some v → with_word new v ≡ Some new2 → Gives (More see) (put_at sp new2 h)
      by (in_slot i) v new2 e q = test_gives (More see) (nat_lt i (length h.thread.slots)) _ (λ on. g)
      by on_top v new2 e q = g
      by (in_cell u through) v new2 e q = cell_puts see r u through v new2 h e q g
      by (in_copy u) v new2 e q = tt
      by nowhere v new2 e q = tt

  arrives_at : (sp : Spot) (h : Hand) → Changed h → Gives Came (arrived_at sp new h)
  arrives_at sp h g =
      over_gives Changed Came (set_pointer sp new h) (with_phase phase.Got) (all_give (λ (w : (see : Seeing) × Rewords see) (x : Hand). More w.0 x) (set_pointer sp new h) (λ w. sets w.0 w.1 sp h (g w))) (λ x q. gets_it refl q)

  arrives_slot : (j : ℕ) (h : Hand) → Changed h → Gives Came (arrived_slot old new j h)
  arrives_slot j h g = test_gives Came (waits_under old (slice_get h.thread.slots j)) _ (λ z. arrives_at (in_slot j) h g)

  arrives_write : (w : Lval) (h : Hand) → Changed h → Gives Came (arrived_write w new h)
  arrives_write w h g = then_gives Came (passed_spot (write_stars h.thread.passed 0 h (in_slot w.slot))) _ (λ sp q. arrives_at sp (passing (h.thread.passed + 1) h) g)

  arrives_lend : (slot d : ℕ) (h : Hand) → h.thread ≡ y → ((w : (see : Seeing) × Lands see) → More w.0 h) → (NoWay slot d → Untold) → Gives Came (arrived_lend slot d old new h)
  arrives_lend slot zero h e g told = tt
  arrives_lend slot (suc zero) h e g told = takes_it (told (λ m f. absurd (cc f))) (ap (λ (x : ThreadState). record x { phase = phase.Taken new }) e) g
  arrives_lend slot (suc (suc d)) h e g told = by (waits_under old (slice_get h.thread.slots (chased d h.thread.slots slot))) refl
    where
      same_depth : {a b : ℕ} → suc (suc a) ≡ suc (suc b) → a ≡ b
      same_depth f = cc

      none : (x : ThreadState) → x ≡ y → waits_under old (slice_get x.slots (chased d x.slots slot)) ≡ false → NoWay slot (suc (suc d))
      none x f q m g2 = subst (λ k. waits_under old (slice_get y.slots (chased k y.slots slot)) ≡ false) (same_depth g2) (subst (λ (v : ThreadState). waits_under old (slice_get v.slots (chased d v.slots slot)) ≡ false) f q)

      by : (b : Bool) → waits_under old (slice_get h.thread.slots (chased d h.thread.slots slot)) ≡ b → Gives Came (if b then arrived_at (in_slot (chased d h.thread.slots slot)) new h else Some (with_phase (phase.Taken new) h))
      by true q = arrives_at (in_slot (chased d h.thread.slots slot)) h (λ w. let r = w.1 in g (w.0, r.base))
      by false q = takes_it (told (none h.thread e q)) (ap (λ (x : ThreadState). record x { phase = phase.Taken new }) e) g

  arrives_end : (sp : Spot) (v : Option Value) (h : Hand) → Changed h → Gives Came (arrived_end sp v old new h)
  arrives_end sp (Some (value.Mut q)) h g = by (q.word == old)
    where
      by : (b : Bool) → Gives Came (if b then arrived_at sp new h else arrived_write q.holder new h)
      by true = arrives_at sp h g
      by false = arrives_write q.holder h g
  arrives_end sp None h g = tt
  arrives_end sp (Some (value.Own v)) h g = tt
  arrives_end sp (Some value.Gone) h g = tt
  arrives_end sp (Some (value.SharedSlot j)) h g = tt
  arrives_end sp (Some (value.MutSlot j)) h g = tt
  arrives_end sp (Some (value.Shared r)) h g = tt
  arrives_end sp (Some (value.Held m)) h g = tt

  arrives : (a : Option Access) (h : Hand) → access_at (slice_get cs y.pc) ≡ a → h.thread ≡ y → ((w : (see : Seeing) × Lands see) → More w.0 h) → Gives Came (arrived a old new h)
  arrives None h f e g = tt
  arrives (Some (ReadTo w)) h f e g = arrives_slot (chased (w.depth - 1) h.thread.slots w.slot) h (λ u. let r = u.1 in g (u.0, r.base))
  arrives (Some (ReadPointer w)) h f e g = arrives_slot (chased (w.depth - 1) h.thread.slots w.slot) h (λ u. let r = u.1 in g (u.0, r.base))
  arrives (Some (WriteTo w)) h f e g = arrives_write w h (λ u. let r = u.1 in g (u.0, r.base))
  arrives (Some (LendTo w)) h f e g = arrives_lend w.slot w.depth h e g (λ none. (w, f, none))
  arrives (Some (EndRef sp)) h f e g = arrives_end sp (value_at h sp) h (λ u. let r = u.1 in g (u.0, r.base))

  -- IN THE THINGS OF ITS CLUSTER

  -- which thread it is then, and what is no less
  pub data Ends (z : ThreadState) (a b : List Thing) : Type 0 where
    gets_there : z.phase ≡ phase.Got → ((w : (see : Seeing) × Rewords see) → tot (cell_weight w.0) a + gain w.0 ≤ tot (cell_weight w.0) b + loss w.0) → Ends z a b
    takes_there : Untold → z ≡ record y { phase = phase.Taken new } → ((w : (see : Seeing) × Lands see) → tot (cell_weight w.0) a + gain w.0 ≤ tot (cell_weight w.0) b + loss w.0) → Ends z a b

  pub record Comes (a b : List Thing) : Type 0 where
    pub thread : ThreadState
    pub number : thread.number ≡ t
    pub there : (f : Thing → ℕ) → f (stands n false thread) ≤ tot f b
    pub waited : y.phase ≡ phase.WaitCell old
    pub grown : can_grow p ≡ true
    pub ends : Ends thread a b

  -- among other things too
  pub comes_on : (a b a2 b2 : List Thing) → ((f : Thing → ℕ) → ((m l : ℕ) → tot f a + m ≤ tot f b + l → tot f a2 + m ≤ tot f b2 + l) × (tot f b ≤ tot f b2)) → Comes a b → Comes a2 b2
  comes_on a b a2 b2 go x = record { thread = x.thread; number = x.number; waited = x.waited; grown = x.grown; there = λ f. (let l = x.there f in let g = go f in omega (arith, l, g.1)); ends = by x.ends }
    where
      by : Ends x.thread a b → Ends x.thread a2 b2
      by (gets_there e m) = gets_there e (λ w. let g = go (cell_weight w.0) in g.0 (gain w.0) (loss w.0) (m w))
      by (takes_there u e m) = takes_there u e (λ w. let g = go (cell_weight w.0) in g.0 (gain w.0) (loss w.0) (m w))

module _ (k : Cluster) (sound : IsSound k) (number : ℕ) (s : Server) (here : server_at k.servers number ≡ Some s) (i old t : ℕ) (c : Cell) (message_there : slice_get s.rest.inbox i ≡ Some (message.Moved old c t)) (y : ThreadState) (at : thread_in s.threads t ≡ Some y) where
  abbrev n1 : ℕ
  n1 = s.rest.number

  abbrev p1 : PartitionState
  p1 = s.rest.partition

  abbrev w1 : ℕ
  w1 = new k.code s old t c y

  abbrev Came1 : Hand → Type 0
  Came1 = Came k.code s old t c y

  abbrev gain1 : Seeing → ℕ
  gain1 = gain k.code s old t c y

  abbrev loss1 : Seeing → ℕ
  loss1 = loss k.code s old t c y

  abbrev More1 : Seeing → Hand → Type 0
  More1 see h = (h.work.rest.number ≡ n1) × (amount see n1 p1 s.rest.inbox s.rest.outbox + gain1 see ≤ amount see n1 h.work.rest.partition h.work.rest.inbox h.work.rest.outbox + loss1 see)

  abbrev before : Hand
  before = record { work = (received i s).work; thread = y }

  abbrev landed : Hand
  landed = record { work = note (act.Take c.object old w1) (with_partition (made p1 c) before.work); thread = y }

  lands_there : (w : (see : Seeing) × Lands k.code s old t c y see) → More1 w.0 landed
  lands_there w =
      let see = w.0 in
      let f = cell_weight see in
      let r0 : Rest = receive s.rest i in
      let tr = of_receiving n1 0 s.rest i (message.Moved old c t) message_there in
      let u = of_partition n1 0 r0 (made p1 c) (makes n1 p1 c p1.free (next_empty n1 p1 (in_place n1 s.events s.rest (others k sound number s here) (placed_here k sound number s here)))) in (
        refl,
        omega (arith, tr.before f, tr.after f, u.before f, u.after f, rest_seen see n1 0 s.rest, rest_seen see n1 0 (record r0 { partition = made p1 c }), place_unseen see n1 p1.free),
      )

  abbrev Came2 : Hand → Type 0
  Came2 h = Came1 h × (y.phase ≡ phase.WaitCell old) × (can_grow p1 ≡ true)

  comes : Gives Came2 (deliver_moved k.code old c before)
  comes = by (waits_for_cell y.phase old) refl
    where
      waits_is : (q : Phase) (w : ℕ) → waits_for_cell q w ≡ true → q ≡ phase.WaitCell w
      waits_is (phase.WaitCell v) w e = ap phase.WaitCell (eqb-true v w e)
      waits_is _ w e = absurd (cc e)

      its_access : (o : Option Instr) → access_at k.code s old t c y o ≡ instr_access before o
      its_access None = refl
      its_access (Some j) = refl

      lands_so : (b : Bool) → can_grow p1 ≡ b → Gives (λ h. Came1 h × (can_grow p1 ≡ true)) (then_some (if b then Some (record { word = w1; work = landed.work }) else None) (λ (m : NewWord). arrived (instr_access before (slice_get k.code y.pc)) old m.word (record before { work = m.work })))
      lands_so false e = tt
      lands_so true e = weaker Came1 (λ h. Came1 h × (can_grow p1 ≡ true)) (arrived (instr_access before (slice_get k.code y.pc)) old w1 landed) (arrives k.code s old t c y (instr_access before (slice_get k.code y.pc)) landed (its_access (slice_get k.code y.pc)) refl lands_there) (λ h g. (g, e))

      by : (b : Bool) → waits_for_cell y.phase old ≡ b → Gives Came2 (if b then came k.code old c before else None)
      by false e = tt
      by true e = weaker (λ h. Came1 h × (can_grow p1 ≡ true)) Came2 (came k.code old c before) (lands_so (can_grow p1) refl) (λ h g. (g.0, waits_is y.phase old e, g.1))

  module _ (h : Hand) (numbered : h.thread.number ≡ t) (placed : h.work.rest.number ≡ n1) where
    abbrev s2 : Server
    s2 = (left_by s.events None None (put_back s.threads h)).0

    parts : (f : Thing → ℕ) → tot f (server_things s2) ≡ tot f (thread_things n1 false h.thread) + tot f (all_standing n1 (without_thread s.threads t)) + tot f (rest_things n1 s2.events s2.rest)
    parts f =
        let whole : tot f (server_things s2) ≡ tot f (all_standing n1 s2.threads ++ rest_things n1 s2.events s2.rest) = subst (λ u. tot f (server_things s2) ≡ tot f (all_standing u s2.threads ++ rest_things u s2.events s2.rest)) placed (server_same s2 f) in
        omega (arith, whole, tot-append f (all_standing n1 s2.threads) (rest_things n1 s2.events s2.rest), tot-set n1 f s.threads t y h.thread at numbered)

    more : (see : Seeing) → Lands k.code s old t c y see → amount see n1 p1 s.rest.inbox s.rest.outbox + gain1 see ≤ amount see n1 h.work.rest.partition h.work.rest.inbox h.work.rest.outbox + loss1 see
        → tot (cell_weight see) (server_things s) + gain1 see ≤ tot (cell_weight see) (server_things s2) + loss1 see
    more see a less =
        let f : Thing → ℕ = cell_weight see in
        let none : see.threads n1 false y ≡ 0 = a.own y (thread_number s.threads t y at) in
        omega (
          arith,
          less,
          none,
          parts f,
          server_same s f,
          tot-append f (all_standing n1 s.threads) (rest_things n1 s.events s.rest),
          tot-without n1 f s.threads t y at,
          thread_seen see n1 false y,
          rest_seen see n1 s.events s.rest,
          rest_seen see n1 s2.events s2.rest,
        )

    comes_there : y.phase ≡ phase.WaitCell old → can_grow p1 ≡ true → Came1 h → Comes k.code s old t c y (server_things s) (server_things s2)
    comes_there waits grows (gets_it e g) = record { thread = h.thread; number = numbered; waited = waits; grown = grows; there = λ f. omega (arith, parts f); ends = gets_there e (λ w. let r = w.1 in more w.0 r.base (g w).1) }
    comes_there waits grows (takes_it u e g) = record { thread = h.thread; number = numbered; waited = waits; grown = grows; there = λ f. omega (arith, parts f); ends = takes_there u e (λ w. more w.0 w.1 (g w).1) }

  -- nothing at all is seen
  none_seen : (see : Seeing) × Rewords k.code s old t c y see
  none_seen = (record { cells = λ q o v. 0; threads = λ r b u. 0; messages = λ r m. 0 }, record { base = record { own = λ u e. refl }; gets = λ o b. omega arith })

  numbered_so : (h : Hand) → Came1 h → h.work.rest.number ≡ n1
  numbered_so h (gets_it e g) = (g none_seen).0
  numbered_so h (takes_it u e g) = let r = none_seen.1 in (g (none_seen.0, r.base)).0

  server_so : Gives (λ (r : Server × EntryView). Comes k.code s old t c y (server_things s) (server_things r.0)) (does k.code k.options s (Deliver i))
  server_so =
      let Q : Site → Type 0 = λ x. Comes k.code s old t c y (server_things s) (server_things (left_by s.events None None x).0) in
      over_gives Q (λ (r : Server × EntryView). Comes k.code s old t c y (server_things s) (server_things r.0)) (Rattle.law_words_ends.specs.Below.server_model.Events.deliver k.code i s) (left_by s.events None None)
      (subst (λ o. Gives Q (then_some o (λ m. deliver_message k.code m (received i s)))) (sym message_there)
      (subst (λ r. Gives Q (then_some (option_map (λ v. record { work = (received i s).work; thread = v }) r) (λ h. option_map (put_back s.threads) (deliver_moved k.code old c h)))) (sym at)
      (over_gives (λ h. Came2 h × (h.thread.number ≡ t)) Q (deliver_moved k.code old c before) (put_back s.threads)
      (both_give Came2 (λ h. h.thread.number ≡ t) (λ h. Came2 h × (h.thread.number ≡ t)) (deliver_moved k.code old c before) comes
      (weaker (λ h. Goes k.code y h.thread) (λ h. h.thread.number ≡ t) (deliver_moved k.code old c before) (goes_so) (λ h g. goes_number g ∙ thread_number s.threads t y at)) (λ h a b. (a, b)))
      (λ h q. comes_there h q.1 (numbered_so h (q.0).0) (q.0).1 (q.0).2 (q.0).0)))) (λ x q. q)
    where
      goes_so : Gives (λ h. Goes k.code y h.thread) (deliver_moved k.code old c before)
      goes_so = weaker (λ h. (g : Goes k.code y h.thread) × IsGotten g) (λ h. Goes k.code y h.thread) (deliver_moved k.code old c before) (moved_goes k.code y old c before refl) (λ h g. g.0)

-- IN ITS CLUSTER

-- where the message's thread stands at its server, it comes there
pub record Landed (k : Cluster) (e : Event) (old t : ℕ) (c : Cell) (z : Cluster) : Type 0 where
  pub server : Server
  pub here : server_at k.servers e.server ≡ Some server
  pub place : ℕ
  pub message_there : slice_get server.rest.inbox place ≡ Some (message.Moved old c t)
  pub thread : ThreadState
  pub at : thread_in server.threads t ≡ Some thread
  pub comes : Comes k.code server old t c thread (things_of k) (things_of z)

module _ (k : Cluster) (e : Event) (old t : ℕ) (c : Cell) (d : Delivers k e (message.Moved old c t)) (sound : IsSound k) (few : FewEvents k) where
  server_is : {a b : Server} → Some a ≡ Some b → a ≡ b
  server_is h = cc

  none_there : (what : What) (s : Server) → what ≡ Deliver d.place → thread_in s.threads t ≡ None → slice_get s.rest.inbox d.place ≡ Some (message.Moved old c t) → (P : Server × EntryView → Type 0) → Gives P (does k.code k.options s what)
  none_there what s is gone there P =
      subst (λ w. Gives P (does k.code k.options s w)) (sym is)
      (subst (λ o. Gives P (option_map (left_by s.events None None) (then_some o (λ m. deliver_message k.code m (received d.place s))))) (sym there)
      (subst (λ r. Gives P (option_map (left_by s.events None None) (then_some (option_map (λ v. record { work = (received d.place s).work; thread = v }) r) (λ h. option_map (put_back s.threads) (deliver_moved k.code old c h))))) (sym gone) tt))

  acted : Gives (λ (x : Cluster × EntryView). Landed k e old t c x.0) (act_at k e)
  acted =
      then_gives (λ (x : Cluster × EntryView). Landed k e old t c x.0) (server_at k.servers e.server) _ (λ s here.
      let there : slice_get s.rest.inbox d.place ≡ Some (message.Moved old c t) = ap (λ (x : Server). slice_get x.rest.inbox d.place) (server_is (sym here ∙ d.there)) ∙ d.message in
      by s here there (thread_in s.threads t) refl)
    where
      by : (s : Server) → server_at k.servers e.server ≡ Some s → slice_get s.rest.inbox d.place ≡ Some (message.Moved old c t) → (o : Option ThreadState) → thread_in s.threads t ≡ o
          → Gives (λ (x : Cluster × EntryView). Landed k e old t c x.0) (option_map (λ r. (record k { servers = with_server k.servers e.server r.0 }, r.1)) (done_at k e.what s))
      by s here there None q =
          over_gives (λ (r : Server × EntryView). ⊥) (λ (x : Cluster × EntryView). Landed k e old t c x.0) (done_at k e.what s) _
          (test_gives (λ (r : Server × EntryView). ⊥) (enabled k.options s e.what) (does k.code k.options s e.what) (λ able. none_there e.what s d.what q there (λ r. ⊥))) (λ r g. absurd g)
      by s here there (Some y) q =
          over_gives (λ (r : Server × EntryView). Comes k.code s old t c y (server_things s) (server_things r.0)) (λ (x : Cluster × EntryView). Landed k e old t c x.0) (done_at k e.what s) _
          (test_gives (λ (r : Server × EntryView). Comes k.code s old t c y (server_things s) (server_things r.0)) (enabled k.options s e.what) (does k.code k.options s e.what)
          (λ able. subst (λ w. Gives (λ (r : Server × EntryView). Comes k.code s old t c y (server_things s) (server_things r.0)) (does k.code k.options s w)) (sym d.what) (server_so k sound e.server s here d.place old t c there y q)))
          (λ r g. record {
            server = s;
            here = here;
            place = d.place;
            message_there = there;
            thread = y;
            at = q;
            comes = comes_on k.code s old t c y (server_things s) (server_things r.0) (things_of k) (servers_things (with_server k.servers e.server r.0))
                (λ f. let b = tot-server f k.servers e.server s r.0 here in (λ m q l. omega (arith, l, b.0, b.1), omega (arith, b.1))) g;
          })

  pub lands_in : Gives (λ (x : Cluster × EntryView). Landed k e old t c x.0) (apply k e)
  lands_in =
      handed_on (Landed k e old t c)
      (λ z a b same g. record {
        server = g.server;
        here = g.here;
        place = g.place;
        message_there = g.message_there;
        thread = g.thread;
        at = g.at;
        comes = comes_on k.code g.server old t c g.thread (things_of k) (servers_things a) (things_of k) (servers_things b) (λ f. let h = same f in (λ m q l. omega (arith, l, h), omega (arith, h))) g.comes;
      })
      k e (each_event_sends k e sound few) acted
