-- The plain step of an end: the reference goes, the pointer at its holder is back, and where it is assigned over the value comes then. Each object is what it was, or covered.
use Rattle.std.proofs.Common.{◌≡◌, ℕ, nat_lt, Bool, true, false, if◌then◌else◌, List, Option, Some, None, option_map, refl, sym, ap, subst, ◌∙◌}
use Rattle.std.specs.Prelude.{slice_get, slice_set, length}
use Rattle.law_copies_writes.specs.Below.fr_base.declared.place.Lval.{Lval}
use Rattle.law_copies_writes.specs.Below.fr_base.declared.instruction.Operand.{Operand}
use Rattle.law_copies_writes.specs.Below.fr_base.declared.instruction.Operand.TheVariants as operand
use Rattle.law_copies_writes.specs.Below.fr_base.declared.instruction.Instr.TheVariants as instr
use Rattle.law_copies_writes.specs.Below.fr_base.declared.step.Fresh.TheVariants as fresh
use Rattle.law_copies_writes.specs.Below.heap_partition.declared.value.Owned.TheVariants as owned
use Rattle.law_copies_writes.specs.Below.mut_borrow.declared.mutable.MutRef.{MutRef}
use Rattle.law_copies_writes.specs.Below.thread_state.View.{ThreadState}
use Rattle.law_copies_writes.specs.Below.thread_state.declared.value.Value.{Value}
use Rattle.law_copies_writes.specs.Below.thread_state.declared.value.Value.TheVariants as value
use Rattle.law_copies_writes.specs.Below.server_model.Servers.{Server, Cluster, server_at}
use Rattle.law_copies_writes.specs.Below.server_model.Work.{Hand, Popped, last_of, front_of, with_slots, with_temps, thread_in, then_some, pop, unit}
use Rattle.law_copies_writes.specs.Below.server_model.Places.{Spot, put_slot}
use Rattle.law_copies_writes.specs.Below.server_model.Drop.{drop_value, finish}
use Rattle.law_copies_writes.specs.Below.server_model.Commit.{goes_on, commit, label_dropped, assign, replace_slot, discard, drop_slot}
use Rattle.law_copies_writes.specs.Below.server_model.Events.{Stepped, committed}
use Rattle.law_copies_writes.specs.Below.coherent_memory.Coherent.{IsSound}
use Rattle.law_copies_writes.proofs.Below.law_words_paths.words.Slots.{set_other}
use Rattle.law_copies_writes.specs.Below.law_counts_sums.Laws.{Gives}
use Rattle.law_copies_writes.proofs.Below.law_counts_sums.Results.{weaker}
use Rattle.law_copies_writes.proofs.Below.law_counts_sums.Values.{last_split}
use Rattle.law_copies_writes.proofs.Below.law_words_kept.stays.Steps.{TakesNoneHere, owned_unseen}
use Rattle.law_copies_writes.proofs.Below.law_words_values.carried.Hands.{Ok, Moved, seen, moved_on, places as then_places}
use Rattle.law_copies_writes.proofs.Below.law_words_values.carried.Passing.{Here, slot, temp}
use Rattle.law_copies_writes.proofs.Below.law_words_values.carried.Places.{end_other}
use Rattle.law_copies_writes.proofs.Below.law_words_values.carried.Steps.{Does, goes_over}
use Rattle.law_words_ends.proofs.Below.law_words_values.references.Chains.{cluster}
use Rattle.law_words_ends.proofs.Below.law_words_values.references.RefSteps.{emptied as emptied_hand, plain_comes, top_comes}
use Rattle.law_copies_writes.proofs.Below.law_words_writes.Marking.{together_by}
use Rattle.law_words_ends.proofs.variables.EndHands.{Base, Goes}
use Rattle.law_words_ends.proofs.stars.Returns.{Shape, newest, top, emptied, after}
use Rattle.law_copies_writes.specs.Below.coherent_types.ClusterTypes.{IsCoherent}
use Rattle.law_copies_writes.proofs.Below.law_words_values.carried.Hands.{moved_over}
use Rattle.law_copies_writes.proofs.Below.law_copies_kept.copies.Clean.{all_goes}
use Rattle.law_copies_writes.proofs.Below.law_copies_kept.hidden.Settled.{settled_on}
use Rattle.law_copies_writes.proofs.writes.Hops.{Now}
use Rattle.law_copies_writes.proofs.ends.Backs.{Back}

module _ (k : Cluster) (coherent : IsCoherent k) (s : Server) (here_it : server_at k.servers s.rest.number ≡ Some s) (t : ℕ) (y : ThreadState) (at : thread_in s.threads t ≡ Some y) (H : Hand) (r : MutRef) (hb : Hand) (sp : Spot) where
  abbrev sound : IsSound k
  sound = coherent.sound

  abbrev n : ℕ
  n = s.rest.number

  abbrev x0 : ThreadState
  x0 = H.thread

  abbrev P : Hand → Cluster
  P h = cluster k coherent.sound s here_it t y at h

  abbrev N : Hand → Type 0
  N = Now k coherent s here_it t y at

  abbrev Returned : Here → Type 0
  Returned from = Back k coherent s here_it t y at H r hb sp from

  abbrev ShapeOf : ThreadState → Here → Type 0
  ShapeOf = Shape k coherent.sound s here_it t y at H r

  abbrev then_hand : {from : Here} → Returned from → ThreadState → Hand
  then_hand b x = after k coherent.sound s here_it t y at H r b.rest b.slots x

  -- the end is behind, inside of the step and with its end
  pub record Through (h2 : Hand) : Type 0 where
    pub middle : Hand
    pub way : Goes k coherent.sound s here_it t y at hb middle
    pub now : N middle
    pub does : Does k.code n middle h2

  pub record Past (h2 : Hand) : Type 0 where
    pub middle : Hand
    pub way : Goes k coherent.sound s here_it t y at hb middle
    pub now : N middle
    pub moved : Moved k.code n middle h2

  -- what was left of the step leaves each object what it was, or covered
  pub past_now : Base k coherent.sound s here_it t y at hb → (h2 : Hand) → Ok k coherent.sound s here_it t y at h2 → Past h2 → N h2
  past_now base h2 ok p =
      let w = p.way in
      settled_on k (P p.middle) (P h2) w.places (then_places k coherent.sound s here_it t y at h2 ok) coherent.sound.words.have_words p.now
      (moved_over k coherent.sound s here_it t y at all_goes p.middle h2 w.number w.named w.places (then_places k coherent.sound s here_it t y at h2 ok) w.rooted (w.leaves.holders base.words.first_at_holder) p.moved)

  through_over : (o : Option Hand) → Gives Through o → Gives (λ (d : Stepped). Past d.hand) (committed (goes_on o))
  through_over None g = tt
  through_over (Some h2) g =
      weaker (λ (d : Stepped). Moved k.code n g.middle d.hand) (λ (d : Stepped). Past d.hand) (committed (goes_on (Some h2))) (goes_over k.code n g.middle fresh.None (Some h2) g.does) (λ d m. record { middle = g.middle; way = g.way; now = g.now; moved = m })

  module _ (none : TakesNoneHere k.code x0) where
    -- other slots are as they were
    kept : (x : ThreadState) (from : Here) → ShapeOf x from → (m : ℕ) → (slot m ≡ from → ⊥) → slice_get x.slots m ≡ slice_get x0.slots m
    kept _ _ (newest ss e) m ne = sym (end_other ss (value.Mut r) m (λ q. ne (ap slot q))) ∙ sym (ap (λ vs. slice_get vs m) e)
    kept _ _ (top ts e) m ne = refl
    kept _ _ (emptied i e) m ne = set_other x0.slots i m value.Gone (λ q. ne (ap slot q))

    untaken : (x : ThreadState) (from : Here) → ShapeOf x from → TakesNoneHere k.code x
    untaken _ _ (newest ss e) = none
    untaken _ _ (top ts e) = none
    untaken _ _ (emptied i e) = none

    -- the end of a value that goes and isn't replaced
    goes_alone : (from : Here) (b : Returned from) (x : ThreadState) → ShapeOf x from → Gives Through (finish sp r (label_dropped (value.Mut r) (record H { thread = x })))
    goes_alone from b x shape =
        let F : Hand = label_dropped (value.Mut r) (record H { thread = x }) in
        weaker (λ (h2 : Hand). (h2.work.rest ≡ b.rest) × (h2.thread ≡ record F.thread { slots = b.slots F.thread.slots })) Through (finish sp r F) (b.finish_so F refl (kept x from shape))
        (λ h2 g. record {
          middle = then_hand b x;
          way = b.leaves x shape;
          now = b.settles x shape;
          does = record { moved = seen (together_by (then_hand b x) h2 g.1 g.0); untaken = subst (λ (v : ThreadState). TakesNoneHere k.code v) (sym g.1) (untaken x from shape) };
        })

    -- the newest slot goes
    pub slot_ends : last_of x0.slots ≡ Some (value.Mut r) → Returned (slot (length (front_of x0.slots))) → Gives (λ (d : Stepped). Past d.hand) (committed (goes_on (drop_slot sp H)))
    slot_ends e b =
        let ss : List Value = front_of x0.slots in
        through_over (drop_slot sp H)
        (subst (λ o. Gives Through (then_some {X = Popped Value} (option_map (λ w. record { item = w; hand = with_slots ss H }) o) (λ z. drop_value sp z.item (label_dropped z.item z.hand)))) (sym e)
        (goes_alone (slot (length ss)) b (record x0 { slots = ss }) (newest ss (last_split x0.slots (value.Mut r) e))))

    -- the value in the hand goes
    pub top_ends : last_of x0.temps ≡ Some (value.Mut r) → Returned (temp (length (front_of x0.temps))) → Gives (λ (d : Stepped). Past d.hand) (committed (goes_on (discard sp H)))
    top_ends e b =
        let ts : List Value = front_of x0.temps in
        through_over (discard sp H)
        (subst (λ o. Gives Through (then_some {X = Popped Value} (option_map (λ w. record { item = w; hand = with_temps ts H }) o) (λ z. drop_value sp z.item (label_dropped z.item z.hand)))) (sym e)
        (goes_alone (temp (length ts)) b (record x0 { temps = ts }) (top ts (last_split x0.temps (value.Mut r) e))))

    -- A VARIABLE IS ASSIGNED

    module _ (i : ℕ) (e : slice_get x0.slots i ≡ Some (value.Mut r)) (b : Returned (slot i)) where
      -- the holder's pointer is back, and the reference there
      abbrev K : Hand
      K = then_hand b x0

      stood : slice_get K.thread.slots i ≡ Some (value.Mut r)
      stood = b.beside i x0.slots refl ∙ e

      abbrev gone : ThreadState
      gone = record x0 { slots = slice_set x0.slots i value.Gone }

      -- with those temporary values the value comes
      abbrev Comes : Value → List Value → Type 0
      Comes v ts = Does k.code n (emptied_hand k.code n K none i) (with_slots (slice_set K.thread.slots i v) (label_dropped (value.Mut r) (with_temps ts K)))

      filled : (v : Value) (ts : List Value) → Comes v ts → Gives Through (finish sp r (with_slots (slice_set x0.slots i v) (label_dropped (value.Mut r) (with_temps ts H))))
      filled v ts d =
          let F : Hand = with_slots (slice_set x0.slots i v) (label_dropped (value.Mut r) (with_temps ts H)) in
          let Z : Hand = with_slots (slice_set K.thread.slots i v) (label_dropped (value.Mut r) (with_temps ts K)) in
          weaker (λ (h2 : Hand). (h2.work.rest ≡ b.rest) × (h2.thread ≡ record F.thread { slots = b.slots F.thread.slots })) Through (finish sp r F) (b.finish_so F refl (λ m ne. set_other x0.slots i m v (λ q. ne (ap slot q))))
          (λ h2 g.
          let same : h2.thread ≡ Z.thread = g.1 ∙ ap (λ vs. record F.thread { slots = vs }) (b.commutes i x0.slots v refl) in
          let on : Does k.code n (emptied_hand k.code n K none i) h2 = record { moved = moved_on d.moved (together_by Z h2 same g.0); untaken = subst (λ (u : ThreadState). TakesNoneHere k.code u) (sym same) d.untaken } in
          record { middle = then_hand b gone; way = b.leaves gone (emptied i e); now = b.settles gone (emptied i e); does = subst (λ vs. Does k.code n (with_slots vs K) h2) (sym (b.commutes i x0.slots value.Gone refl)) on })

      -- the value is replaced
      replaced_by : (v : Value) (ts : List Value) → Comes v ts → Gives Through (replace_slot i sp v (with_temps ts H))
      replaced_by v ts d = subst (λ z. Gives Through (then_some z (λ u. then_some (put_slot i v (label_dropped u (with_temps ts H))) (drop_value sp u)))) (sym e) (by (nat_lt i (length x0.slots)))
        where
          by : (c : Bool) → Gives Through (then_some (if c then Some (with_slots (slice_set x0.slots i v) (label_dropped (value.Mut r) (with_temps ts H))) else None) (drop_value sp (value.Mut r)))
          by false = tt
          by true = filled v ts d

      -- by whatever operand
      assigned_value : (z : Operand) → Gives Through (then_some (pop z H) (λ u. replace_slot i sp u.item u.hand))
      assigned_value (operand.Const c) = replaced_by (value.Own (owned.Int c)) x0.temps (plain_comes k.code n K none i (value.Mut r) stood (value.Own (owned.Int c)) refl (owned_unseen (owned.Int c) refl))
      assigned_value operand.Unit = replaced_by unit x0.temps (plain_comes k.code n K none i (value.Mut r) stood unit refl (owned_unseen owned.Unit refl))
      assigned_value operand.Pop = by (last_of x0.temps) refl
        where
          by : (z : Option Value) → last_of x0.temps ≡ z → Gives Through (then_some {X = Popped Value} (option_map (λ v. record { item = v; hand = with_temps (front_of x0.temps) H }) z) (λ u. replace_slot i sp u.item u.hand))
          by None f = tt
          by (Some v) f = replaced_by v (front_of x0.temps) (top_comes k.code n K none i (value.Mut r) stood v f)

      -- the whole step
      pub variable_ends : (servers : ℕ) (w : Lval) (o : Operand) → w.slot ≡ i → w.depth ≡ 0 → Gives (λ (d : Stepped). Past d.hand) (committed (commit servers (instr.Assign w o) sp H))
      variable_ends servers w o at_i flat =
          subst (λ d. Gives (λ (x : Stepped). Past x.hand) (committed (goes_on (assign w d o sp H)))) (sym flat)
          (subst (λ j. Gives (λ (x : Stepped). Past x.hand) (committed (goes_on (then_some (pop o H) (λ u. replace_slot j sp u.item u.hand))))) (sym at_i)
          (through_over (then_some (pop o H) (λ u. replace_slot i sp u.item u.hand)) (assigned_value o)))
