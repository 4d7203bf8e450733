-- After each event different objects have different words.
use Rattle.std.proofs.Common.{◌≡◌, ◌⊎◌, inl, inr, ⊎_elim, ℕ, ◌==◌, ◌≤◌, ◌&&◌, Bool, true, false, Option, Some, None, option_map, refl, sym, ap, ap₂, subst, ◌∙◌, arith}
use Rattle.std.specs.Prelude.{length, nat_lt, slice_get}
use Rattle.std.proofs.lemmas.Bool.{eq-eqb}
use Rattle.law_walks_own.specs.Below.fr_base.declared.name.ObjNo.{ObjNo}
use Rattle.law_walks_own.specs.Below.fr_base.declared.instruction.Operand.{Operand}
use Rattle.law_walks_own.specs.Below.fr_base.declared.instruction.Instr.{Instr}
use Rattle.law_walks_own.specs.Below.fr_base.declared.instruction.Instr.TheVariants as instr
use Rattle.law_walks_own.specs.Below.heap_partition.declared.value.Cell.{Cell}
use Rattle.law_walks_own.specs.Below.journal.View.{EntryView}
use Rattle.law_walks_own.specs.Below.thread_state.View.{ThreadState}
use Rattle.law_walks_own.specs.Below.server_msgs.declared.message.Message.{Message}
use Rattle.law_walks_own.specs.Below.server_msgs.declared.message.Message.TheVariants as message
use Rattle.law_walks_own.specs.Below.server_model.declared.event.Event.{Event}
use Rattle.law_walks_own.specs.Below.server_model.declared.event.What.{What}
use Rattle.law_walks_own.specs.Below.server_model.declared.event.What.TheVariants.{Step, Deliver, Evict, Migrate}
use Rattle.law_walks_own.specs.Below.server_model.Servers.{Server, Cluster, server_at}
use Rattle.law_walks_own.specs.Below.server_model.Work.{thread_in, then_some}
use Rattle.law_walks_own.specs.Below.server_model.Events.{left_by, received, deliver_message}
use Rattle.law_walks_own.specs.Below.server_model.Clusters.{hand_over_newer, done_at, apply}
use Rattle.law_walks_own.specs.Below.coherent_memory.Names.{Among, tot, one}
use Rattle.law_walks_own.specs.Below.coherent_memory.Things.{Thing, lies, flies, counts, things_of}
use Rattle.law_walks_own.specs.Below.coherent_memory.Sight.{Pointer, pointers_in, taken_pointers, issued, word, sight}
use Rattle.law_walks_own.specs.Below.coherent_memory.Weights.{cells, states, below}
use Rattle.law_walks_own.specs.Below.coherent_memory.Balances.{AtMostOne}
use Rattle.law_walks_own.specs.Below.coherent_memory.Words.{HasWords}
use Rattle.law_walks_own.specs.Below.coherent_memory.Coherent.{Holds, IsSound, different_words}
use Rattle.law_walks_own.specs.Below.coherent_types.ClusterTypes.{IsCoherent}
use Rattle.law_walks_own.proofs.Below.law_words_paths.paths.InState.{only_one}
use Rattle.law_walks_own.proofs.Below.law_words_paths.paths.Origins.{among_first}
use Rattle.law_walks_own.specs.Below.law_counts_sums.Kinds.{Kind, fetch, fetched, asks_lock, granted, unlocked, asks_dup, dupped, released, starts, asks_join, joined, finished, arrives, step_box, evicts, migrates, message_kind, instr_kind, kind_at, kind_of}
use Rattle.law_walks_own.specs.Below.law_counts_sums.Laws.{Gives, FewEvents}
use Rattle.law_walks_own.specs.Below.law_counts_sums.Sums.{Sums, is_server}
use Rattle.law_walks_own.proofs.Below.law_counts_sums.Results.{both_give, weaker}
use Rattle.law_walks_own.proofs.Below.law_counts_sums.Boxes.{tot_le}
use Rattle.law_walks_own.proofs.Below.law_counts_sums.Sending.{applied_part}
use Rattle.law_walks_own.specs.Below.law_words_paths.words.Unmoved.{Delivers, LeavesWords, WordsStay}
use Rattle.law_walks_own.proofs.Below.law_words_paths.words.Standing.{CellOf, lying, flying, pointers_among}
use Rattle.law_walks_own.specs.Below.law_words_kept.stays.Laws.{LeaveWords}
use Rattle.law_walks_own.proofs.Below.law_words_kept.stays.StayKinds.{kind_stays}
use Rattle.law_walks_own.specs.Below.law_words_kept.prepared.Requests.{WordsRise}
use Rattle.law_walks_own.proofs.Below.law_words_ends.Below.law_words_values.carried.Leaving.{moves_leave}
use Rattle.law_walks_own.proofs.Below.law_words_ends.Below.law_words_values.made.Apart.{stay_apart, new_apart}
use Rattle.law_walks_own.proofs.Below.law_words_ends.Below.law_words_values.freed.Drops.{drops_leave}
use Rattle.law_walks_own.proofs.Below.law_words_ends.arrivals.Arrivals.{none_done}
use Rattle.law_walks_own.proofs.Below.law_words_ends.arrivals.Each.{words_rise}
use Rattle.law_words_issued.specs.apart.Words.{ObjectsStayApart}
use Rattle.law_words_issued.proofs.apart.UnderWay.{FlightsIssued, step_flights, landing_flights}
use Rattle.law_words_issued.proofs.apart.Objects.{Live, told, Apart, from_counts, to_counts, same_told, tells_same, live_issued, not_box, none_comes, not_none, live_or_none, for_each}

-- EACH ADDRESS HAS ONE STATE

fewer : (p q : Bool) → one (p && q) ≤ one p
fewer true true = omega arith
fewer true false = omega arith
fewer false q = omega arith

below_server : (at : ℕ × ℕ) (x : Thing) → below at x ≤ is_server at.0 x
below_server at (counts r next old started made events) = fewer (r == at.0) (nat_lt at.1 next)
below_server at _ = omega arith

states_differ : (k : Cluster) → Sums (things_of k) → AtMostOne states (things_of k)
states_differ k sums at = omega (arith, sums.one_state at, tot_le (below at) (is_server at.0) (below_server at) (things_of k), sums.servers_differ at.0)

same_spot : (r a s d : ℕ) → s ≡ r → d ≡ a → one (s == r && d == a) ≡ 1
same_spot r a s d e f = ap₂ (λ p q. one (p && q)) (eq-eqb s r e) (eq-eqb d a f)

same_lying : (r a s d : ℕ) (c b : Cell) → lies r a c ≡ lies s d b → c ≡ b
same_lying r a s d c b e = cc

-- WHERE WORDS RISE

module _ (k d : Cluster) (sound : IsSound k) (rise : WordsRise k d) (differ : AtMostOne states (things_of d)) (old : (o : ObjNo) → Live d o → Live k o) (flights : FlightsIssued k d) where
  abbrev now : ObjNo → ℕ
  now = rise.has_words.word

  no_clash : (u v : ℕ) → u ≡ v → issued (sight k) u ≡ true → issued (sight k) v ≡ false → ⊥
  no_clash u v e i n = let t : true ≡ false = sym i ∙ ap (issued (sight k)) e ∙ n in absurd (cc t)

  -- what is under way has a word that was issued
  flying_issued : (v : ℕ) (c : Cell) → Among (flies v c) (things_of d) → issued (sight k) (now c.object) ≡ true
  flying_issued v c h =
      let p : Pointer = record { at = None; word = v; object = c.object } in
      let it = rise.has_words.same p (among_first p (pointers_in (things_of d)) (taken_pointers (sight d).code (sight d).ground (sight d).ground.threads) (pointers_among p (flies v c) (things_of d) h (inl refl))) in
      let same : v ≡ now c.object = ⊎_elim (λ (s : ⊥). absurd s) (λ (s : v ≡ now c.object). s) it in
      subst (λ w. issued (sight k) w ≡ true) same (flights v c h)

  -- two that lie under one word are one
  lying_same : (r a s b : ℕ) (c e : Cell) → Among (lies r a c) (things_of d) → Among (lies s b e) (things_of d) → now c.object ≡ now e.object → c.object ≡ e.object
  lying_same r a s b c e h m same =
      let first = rise.has_words.home r a c h in
      let second = subst (λ w. Rattle.law_walks_own.specs.Below.coherent_memory.Words.LeadsTo s b w) (sym same) (rise.has_words.home s b e m) in
      let server : s ≡ r = sym second.server ∙ first.server in
      let address : b ≡ a = sym second.address ∙ first.address in
      let x : lies r a c ≡ lies s b e = only_one (states (r, a)) (lies r a c) (lies s b e) (things_of d) (differ (r, a)) h m (omega (arith, same_spot r a r a refl refl)) (omega (arith, same_spot r a s b server address)) in
      ap (λ (y : Cell). y.object) (same_lying r a s b c e x)

  both_new : (o q : ObjNo) → Live d o → Live d q → now o ≡ now q → issued (sight k) (now o) ≡ false → issued (sight k) (now q) ≡ false → q ≡ o
  both_new o q x y same n m = by x.thing y.thing x.is y.is x.among y.among
    where
      by : (u v : Thing) → CellOf x.cell u → CellOf y.cell v → Among u (things_of d) → Among v (things_of d) → q ≡ o
      by _ v (flying w) i h g = absurd (no_clash (now (x.cell).object) (now o) (ap now x.object) (flying_issued w x.cell h) n)
      by _ _ (lying r a) (flying w) h g = absurd (no_clash (now (y.cell).object) (now q) (ap now y.object) (flying_issued w y.cell g) m)
      by _ _ (lying r a) (lying s b) h g = sym y.object ∙ sym (lying_same r a s b x.cell y.cell h g (ap now x.object ∙ same ∙ sym (ap now y.object))) ∙ x.object

  pub rise_apart : Apart k → Apart d
  rise_apart f o q x y t = by (rise.rises o) (rise.rises q)
    where
      same : now q ≡ now o
      same = same_told (word (sight d) q) (word (sight d) o) (now q) (now o) (told d rise.has_words q y) (told d rise.has_words o x) t

      before : HasWords (sight k)
      before = rise.began

      by : (now o ≡ before.word o) ⊎ (issued (sight k) (now o) ≡ false) → (now q ≡ before.word q) ⊎ (issued (sight k) (now q) ≡ false) → q ≡ o
      by (inl e) (inl g) =
          let was : before.word q ≡ before.word o = sym g ∙ same ∙ e in
          f o q (old o x) (old q y) (tells_same (word (sight k) q) (word (sight k) o) (before.word q) (before.word o) (told k before q (old q y)) (told k before o (old o x)) was)
      by (inl e) (inr g) = absurd (no_clash (before.word o) (now q) (sym e ∙ sym same) (live_issued k sound before o (old o x)) g)
      by (inr e) (inl g) = absurd (no_clash (before.word q) (now o) (sym g ∙ same) (live_issued k sound before q (old q y)) e)
      by (inr e) (inr g) = both_new o q x y (sym same) e g

-- KIND BY KIND

module _ (k : Cluster) (number : ℕ) (s : Server) (coherent : IsCoherent k) (few : FewEvents k) (here : server_at k.servers number ≡ Some s) where
  abbrev Keeps : What → Type 0
  Keeps w = Gives (λ (d : Cluster × EntryView). Holds d.0 different_words) (apply k (record { server = number; what = w }))

  abbrev at : What → Event
  at w = record { server = number; what = w }

  -- no object comes with an event that is no box
  none_come : (w : What) → (kind_of k (at w) ≡ Some step_box → ⊥) → Gives (λ (d : Cluster × EntryView). (o : ObjNo) → Live d.0 o → Live k o) (apply k (at w))
  none_come w other =
      weaker (λ (d : Cluster × EntryView). (o : ObjNo) → tot (cells o) (things_of k) ≡ 0 → tot (cells o) (things_of d.0) ≡ 0) (λ (d : Cluster × EntryView). (o : ObjNo) → Live d.0 o → Live k o) (apply k (at w))
      (for_each {B = λ o. tot (cells o) (things_of k) ≡ 0} (λ o (d : Cluster × EntryView). tot (cells o) (things_of d.0) ≡ 0) (apply k (at w)) (λ o z. none_comes k (at w) coherent.sound few o (λ s2 here2 t y i p what there code box. absurd (not_box k (at w) other s2 here2 t y i p what there code box)) z))
      (λ d none o x. ⊎_elim (λ (l : Live k o). l) (λ (z : tot (cells o) (things_of k) ≡ 0). absurd (not_none d.0 o x (none o z))) (live_or_none k o))

  -- where words rise and what is under way was
  risen : (w : What) → (kind_of k (at w) ≡ Some step_box → ⊥) → Gives (λ (d : Cluster × EntryView). FlightsIssued k d.0) (apply k (at w)) → Keeps w
  risen w other flights =
      both_give (λ (d : Cluster × EntryView). WordsRise k d.0 × (AtMostOne states (things_of d.0))) (λ (d : Cluster × EntryView). ((o : ObjNo) → Live d.0 o → Live k o) × FlightsIssued k d.0) (λ (d : Cluster × EntryView). Holds d.0 different_words) (apply k (at w))
      (both_give (λ (d : Cluster × EntryView). WordsRise k d.0) (λ (d : Cluster × EntryView). AtMostOne states (things_of d.0)) (λ (d : Cluster × EntryView). WordsRise k d.0 × AtMostOne states (things_of d.0)) (apply k (at w))
      (words_rise k (at w) coherent few) (applied_part (λ c. AtMostOne states (things_of c)) states_differ k (at w) coherent.sound few) (λ d a b. (a, b)))
      (both_give (λ (d : Cluster × EntryView). (o : ObjNo) → Live d.0 o → Live k o) (λ (d : Cluster × EntryView). FlightsIssued k d.0) (λ (d : Cluster × EntryView). ((o : ObjNo) → Live d.0 o → Live k o) × FlightsIssued k d.0) (apply k (at w))
      (none_come w other) flights (λ d a b. (a, b)))
      (λ d a b. to_counts d.0 (rise_apart k d.0 coherent.sound a.0 a.1 b.0 b.1 (from_counts k coherent.sound.words.different_words)))

  -- where words stay
  left : (w : What) → (kind_of k (at w) ≡ Some step_box → ⊥) → Gives (λ (d : Cluster × EntryView). LeavesWords k d.0) (apply k (at w)) → Keeps w
  left w other leaves =
      let before = coherent.sound.words.have_words in
      both_give (λ (d : Cluster × EntryView). LeavesWords k d.0) (λ (d : Cluster × EntryView). WordsStay (sight k) (sight d.0) before → Holds d.0 different_words) (λ (d : Cluster × EntryView). Holds d.0 different_words) (apply k (at w))
      leaves (stay_apart k (at w) before other coherent.sound few) (λ d l go. go (l.words before))

  kind_here : (w : What) → kind_of k (at w) ≡ kind_at k w s
  kind_here w = ap (λ o. then_some o (kind_at k w)) here

  other_kind : {a b : Kind} → Some a ≡ Some b → a ≡ b
  other_kind e = cc

  -- by its kind
  of_kind : (kind : Kind) (w : What) → kind_at k w s ≡ Some kind → (kind ≡ step_box → ⊥) → LeaveWords kind → Keeps w
  of_kind kind w is other law = left w (λ e. other (other_kind (sym is ∙ sym (kind_here w) ∙ e))) (law k (at w) (kind_here w ∙ is) coherent.sound few)

  -- THE DELIVERY OF A MESSAGE

  module _ (i : ℕ) where
    delivers : (m : Message) → slice_get s.rest.inbox i ≡ Some m → Delivers k (at (Deliver i)) m
    delivers m e = record { place = i; what = refl; server = s; there = here; message = e }

    its_kind : (m : Message) → slice_get s.rest.inbox i ≡ Some m → kind_at k (Deliver i) s ≡ Some (message_kind m)
    its_kind m e = ap (option_map message_kind) e

    no_box : (m : Message) → slice_get s.rest.inbox i ≡ Some m → (message_kind m ≡ step_box → ⊥) → kind_of k (at (Deliver i)) ≡ Some step_box → ⊥
    no_box m e other q = other (other_kind (sym (its_kind m e) ∙ sym (kind_here (Deliver i)) ∙ q))

    of_message : (m : Message) → slice_get s.rest.inbox i ≡ Some m → Keeps (Deliver i)
    of_message (message.Fetch w o a t) e = of_kind fetch (Deliver i) (its_kind (message.Fetch w o a t) e) (λ q. absurd (cc q)) (kind_stays fetch tt)
    of_message (message.Fetched w v t) e = of_kind fetched (Deliver i) (its_kind (message.Fetched w v t) e) (λ q. absurd (cc q)) (kind_stays fetched tt)
    of_message (message.Move w o a t) e = left (Deliver i) (no_box (message.Move w o a t) e (λ q. absurd (cc q))) (moves_leave k (at (Deliver i)) w o a t (delivers (message.Move w o a t) e) coherent.sound few)
    of_message (message.Moved w v t) e = risen (Deliver i) (no_box (message.Moved w v t) e (λ q. absurd (cc q))) (landing_flights k coherent.sound few number i w s v t here e)
    of_message (message.Drop w o) e = left (Deliver i) (no_box (message.Drop w o) e (λ q. absurd (cc q))) (drops_leave k (at (Deliver i)) w o (delivers (message.Drop w o) e) coherent few)
    of_message (message.Lock m a t) e = of_kind asks_lock (Deliver i) (its_kind (message.Lock m a t) e) (λ q. absurd (cc q)) (kind_stays asks_lock tt)
    of_message (message.Granted m v t) e = of_kind granted (Deliver i) (its_kind (message.Granted m v t) e) (λ q. absurd (cc q)) (kind_stays granted tt)
    of_message (message.Unlock m v) e = of_kind unlocked (Deliver i) (its_kind (message.Unlock m v) e) (λ q. absurd (cc q)) (kind_stays unlocked tt)
    of_message (message.Dup m a t) e = of_kind asks_dup (Deliver i) (its_kind (message.Dup m a t) e) (λ q. absurd (cc q)) (kind_stays asks_dup tt)
    of_message (message.Dupped m t) e = of_kind dupped (Deliver i) (its_kind (message.Dupped m t) e) (λ q. absurd (cc q)) (kind_stays dupped tt)
    of_message (message.Release r) e = of_kind released (Deliver i) (its_kind (message.Release r) e) (λ q. absurd (cc q)) (kind_stays released tt)
    of_message (message.Start t) e = of_kind starts (Deliver i) (its_kind (message.Start t) e) (λ q. absurd (cc q)) (kind_stays starts tt)
    of_message (message.Join u a t) e = of_kind asks_join (Deliver i) (its_kind (message.Join u a t) e) (λ q. absurd (cc q)) (kind_stays asks_join tt)
    of_message (message.Joined u v t) e = of_kind joined (Deliver i) (its_kind (message.Joined u v t) e) (λ q. absurd (cc q)) (kind_stays joined tt)
    of_message (message.Finished u v) e = of_kind finished (Deliver i) (its_kind (message.Finished u v) e) (λ q. absurd (cc q)) (kind_stays finished tt)
    of_message (message.Migrate t) e = of_kind arrives (Deliver i) (its_kind (message.Migrate t) e) (λ q. absurd (cc q)) (kind_stays arrives tt)

    of_delivery : (o : Option Message) → slice_get s.rest.inbox i ≡ o → Keeps (Deliver i)
    of_delivery None e =
        none_done k number (Deliver i) s (λ (d : Cluster × EntryView). Holds d.0 different_words) here
        (subst (λ o. Gives (λ (r : Server × EntryView). ⊥) (option_map (left_by s.events None None) (then_some o (λ m. deliver_message k.code m (received i s))))) (sym e) tt)
    of_delivery (Some m) e = of_message m e

  -- THE STEP OF A THREAD

  module _ (t : ℕ) where
    step_kind : (y : ThreadState) → thread_in s.threads t ≡ Some y → (i : Option Instr) → slice_get k.code y.pc ≡ i → kind_at k (Step t) s ≡ option_map instr_kind i
    step_kind y there i code = ap (λ o. then_some o (λ (x : ThreadState). option_map instr_kind (slice_get k.code x.pc))) there ∙ ap (option_map instr_kind) code

    no_thread : thread_in s.threads t ≡ None → kind_at k (Step t) s ≡ None
    no_thread none = ap (λ o. then_some o (λ (x : ThreadState). option_map instr_kind (slice_get k.code x.pc))) none

    -- a step of another kind
    plain : (o : Option Kind) → kind_at k (Step t) s ≡ o → (o ≡ Some step_box → ⊥) → Keeps (Step t)
    plain o is other = risen (Step t) (λ e. other (sym is ∙ sym (kind_here (Step t)) ∙ e)) (step_flights k coherent.sound few number t)

    -- of any other instruction
    is_plain : (i : Instr) → ((o : Operand) → i ≡ instr.Box o → ⊥) → instr_kind i ≡ step_box → ⊥
    is_plain (instr.Box o) f e = f o refl
    is_plain (instr.Let o) f e = absurd (cc e)
    is_plain (instr.Assign w o) f e = absurd (cc e)
    is_plain (instr.Read w true) f e = absurd (cc e)
    is_plain (instr.Read w false) f e = absurd (cc e)
    is_plain (instr.Borrow w) f e = absurd (cc e)
    is_plain (instr.BorrowMut w) f e = absurd (cc e)
    is_plain (instr.Arith g a b) f e = absurd (cc e)
    is_plain (instr.Print o) f e = absurd (cc e)
    is_plain instr.Discard f e = absurd (cc e)
    is_plain instr.DropSlot f e = absurd (cc e)
    is_plain (instr.Spawn cs pc) f e = absurd (cc e)
    is_plain (instr.Join o) f e = absurd (cc e)
    is_plain (instr.Mutex o) f e = absurd (cc e)
    is_plain (instr.Dup w) f e = absurd (cc e)
    is_plain (instr.Lock w) f e = absurd (cc e)
    is_plain instr.Unlock f e = absurd (cc e)
    is_plain (instr.Par cs pc ds other) f e = absurd (cc e)
    is_plain instr.ParEnd f e = absurd (cc e)
    is_plain (instr.End o) f e = absurd (cc e)

    none_box : (i : Instr) → ((o : Operand) → i ≡ instr.Box o → ⊥) → Some (instr_kind i) ≡ Some step_box → ⊥
    none_box i f e = is_plain i f (other_kind e)

    of_instruction : (y : ThreadState) → thread_in s.threads t ≡ Some y → (i : Instr) → slice_get k.code y.pc ≡ Some i → ((o : Operand) × (i ≡ instr.Box o)) ⊎ ((o : Operand) → i ≡ instr.Box o → ⊥) → Keeps (Step t)
    of_instruction y there i code (inl u) = new_apart k number t s y u.0 coherent few here there (code ∙ ap (λ x. Some x) u.1)
    of_instruction y there i code (inr f) = plain (Some (instr_kind i)) (step_kind y there (Some i) code) (none_box i f)

    box_or_not : (i : Instr) → ((o : Operand) × (i ≡ instr.Box o)) ⊎ ((o : Operand) → i ≡ instr.Box o → ⊥)
    box_or_not (instr.Box o) = inl (o, refl)
    box_or_not (instr.Let o) = inr (λ p e. absurd (cc e))
    box_or_not (instr.Assign w o) = inr (λ p e. absurd (cc e))
    box_or_not (instr.Read w b) = inr (λ p e. absurd (cc e))
    box_or_not (instr.Borrow w) = inr (λ p e. absurd (cc e))
    box_or_not (instr.BorrowMut w) = inr (λ p e. absurd (cc e))
    box_or_not (instr.Arith g a b) = inr (λ p e. absurd (cc e))
    box_or_not (instr.Print o) = inr (λ p e. absurd (cc e))
    box_or_not instr.Discard = inr (λ p e. absurd (cc e))
    box_or_not instr.DropSlot = inr (λ p e. absurd (cc e))
    box_or_not (instr.Spawn cs pc) = inr (λ p e. absurd (cc e))
    box_or_not (instr.Join o) = inr (λ p e. absurd (cc e))
    box_or_not (instr.Mutex o) = inr (λ p e. absurd (cc e))
    box_or_not (instr.Dup w) = inr (λ p e. absurd (cc e))
    box_or_not (instr.Lock w) = inr (λ p e. absurd (cc e))
    box_or_not instr.Unlock = inr (λ p e. absurd (cc e))
    box_or_not (instr.Par cs pc ds other) = inr (λ p e. absurd (cc e))
    box_or_not instr.ParEnd = inr (λ p e. absurd (cc e))
    box_or_not (instr.End o) = inr (λ p e. absurd (cc e))

    of_step : (o : Option ThreadState) → thread_in s.threads t ≡ o → Keeps (Step t)
    of_step None none = plain None (no_thread none) (λ e. absurd (cc e))
    of_step (Some y) there = by (slice_get k.code y.pc) refl
      where
        by : (o : Option Instr) → slice_get k.code y.pc ≡ o → Keeps (Step t)
        by None code = plain None (step_kind y there None code) (λ e. absurd (cc e))
        by (Some i) code = of_instruction y there i code (box_or_not i)

  of_event : (w : What) → Keeps w
  of_event (Step t) = of_step t (thread_in s.threads t) refl
  of_event (Deliver i) = of_delivery i (slice_get s.rest.inbox i) refl
  of_event (Evict w) = of_kind evicts (Evict w) refl (λ q. absurd (cc q)) (kind_stays evicts tt)
  of_event (Migrate t target) = of_kind migrates (Migrate t target) refl (λ q. absurd (cc q)) (kind_stays migrates tt)

pub objects_stay_apart : ObjectsStayApart
objects_stay_apart k e coherent few = by (server_at k.servers e.server) refl
  where
    by : (o : Option Server) → server_at k.servers e.server ≡ o → Gives (λ (d : Cluster × EntryView). Holds d.0 different_words) (apply k e)
    by None none = subst (λ o. Gives (λ (d : Cluster × EntryView). Holds d.0 different_words) (then_some o (λ s. option_map (λ d. (record k { servers = hand_over_newer e.server (length s.rest.outbox) d.0 k.servers }, d.1)) (done_at k e.what s)))) (sym none) tt
    by (Some s) here = of_event k e.server s coherent few here e.what
