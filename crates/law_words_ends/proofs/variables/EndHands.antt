-- A mutable reference ends at a hand, where it is clean and no star is followed: the words stay from there.
use Rattle.std.proofs.Common.{◌≡◌, ◌≢◌, ◌⊎◌, inl, inr, ⊎_elim, ℕ, zero, suc, ◌+◌, ◌==◌, Bool, true, false, if◌then◌else◌, List, [], ◌∷◌, ◌++◌, Option, Some, None, option_map, refl, sym, ap, subst, ◌∙◌, arith}
use Rattle.std.proofs.lemmas.Bool.Decides.{nat_tests}
use Rattle.std.specs.Prelude.{nat_lt, slice_get, slice_set, length}
use Rattle.law_words_borrows.specs.Below.fr_base.declared.place.Lval.{Lval}
use Rattle.law_words_borrows.specs.Below.fr_base.declared.instruction.Operand.{Operand}
use Rattle.law_words_borrows.specs.Below.fr_base.declared.instruction.Operand.TheVariants as operand
use Rattle.law_words_borrows.specs.Below.fr_base.declared.instruction.Instr.{Instr}
use Rattle.law_words_borrows.specs.Below.fr_base.declared.instruction.Instr.TheVariants as instr
use Rattle.law_words_borrows.specs.Below.fr_base.declared.step.Fresh.TheVariants as fresh
use Rattle.law_words_borrows.specs.Below.heap_partition.declared.value.Owned.TheVariants as owned
use Rattle.law_words_borrows.specs.Below.mut_borrow.declared.mutable.MutRef.{MutRef}
use Rattle.law_words_borrows.specs.Below.mut_borrow.Refs.{finish_word}
use Rattle.law_words_borrows.specs.Below.thread_state.View.{ThreadState}
use Rattle.law_words_borrows.specs.Below.thread_state.declared.value.Value.{Value}
use Rattle.law_words_borrows.specs.Below.thread_state.declared.value.Value.TheVariants as value
use Rattle.law_words_borrows.specs.Below.server_model.Servers.{Server, Cluster, server_at}
use Rattle.law_words_borrows.specs.Below.server_model.Work.{Hand, Popped, last_of, front_of, with_slots, with_temps, thread_in, then_some, pop, unit}
use Rattle.law_words_borrows.specs.Below.server_model.Drop.{drop_value, finish, finished_at}
use Rattle.law_words_borrows.specs.Below.server_model.Places.{Spot, nowhere as no_spot, in_slot as spot_slot, value_at, with_word, put_slot, set_pointer}
use Rattle.law_words_borrows.specs.Below.server_model.Prepare.{Prepared, and_then, unlabelled, follow_ended, follow_holder, write_stars}
use Rattle.law_words_borrows.specs.Below.server_model.Commit.{goes_on, commit, label_dropped, assign, replace_slot, discard, drop_slot}
use Rattle.law_words_borrows.specs.Below.server_model.Events.{does, Stepped, committed, prepared}
use Rattle.law_words_borrows.specs.Below.coherent_memory.Names.{Among, other}
use Rattle.law_words_borrows.specs.Below.coherent_memory.Things.{Location, at_slot, at_temp, thread_things, things_of}
use Rattle.law_words_borrows.specs.Below.coherent_memory.Follow.{Ground, value_in, value_behind, locate}
use Rattle.law_words_borrows.specs.Below.coherent_memory.Stale.{Reference, references, holder_of, is_among, lent_places, is_held_at}
use Rattle.law_words_borrows.specs.Below.coherent_memory.Sight.{sight}
use Rattle.law_words_borrows.specs.Below.coherent_memory.Placing.{is_first, other_first}
use Rattle.law_words_borrows.proofs.Below.coherent_memory.Words.{none_at}
use Rattle.law_words_borrows.proofs.Below.law_words_paths.paths.Contained.{reference_there}
use Rattle.law_words_borrows.proofs.Below.law_words_paths.paths.Sole.{some_is}
use Rattle.law_words_borrows.specs.Below.law_words_paths.words.Reworded.{HasPlaces}
use Rattle.law_words_borrows.specs.Below.law_words_paths.words.Unmoved.{takings, LeavesWords}
use Rattle.law_words_borrows.proofs.Below.law_words_paths.words.Put.{Split}
use Rattle.law_words_borrows.proofs.Below.law_words_paths.words.Slots.{set_other}
use Rattle.law_words_borrows.specs.Below.law_counts_sums.Laws.{Gives}
use Rattle.law_words_borrows.proofs.Below.law_counts_sums.Results.{weaker}
use Rattle.law_words_borrows.proofs.Below.law_counts_sums.Values.{last_split}
use Rattle.law_words_borrows.proofs.Below.law_words_kept.stays.Steps.{TakesNoneHere, owned_unseen}
use Rattle.law_words_borrows.proofs.Below.law_words_values.carried.Replaced.{places_on}
use Rattle.law_words_borrows.proofs.Below.law_words_values.carried.Passing.{Here, slot, temp, nowhere, located, here}
use Rattle.law_words_borrows.proofs.Below.law_words_values.carried.Places.{end_is}
use Rattle.law_words_borrows.proofs.Below.law_words_values.carried.Steps.{Does, goes_over}
use Rattle.law_words_borrows.specs.Below.law_words_values.references.Unpassed.{IsUnpassed}
use Rattle.law_words_borrows.proofs.Below.law_words_values.references.Chains.{rooted_over, cluster}
use Rattle.law_words_borrows.proofs.Below.law_words_values.references.RefSteps.{relabelled, emptied, plain_comes, top_comes}
use Rattle.law_words_ends.proofs.variables.EndSteps.{Finishes, taken_same, same_takings, end_leaves}
use Rattle.law_words_ends.proofs.variables.EndPlaces.{Without, newest_without, emptied_without, top_without, first_finishes, word_finishes}
use Rattle.law_words_borrows.proofs.Below.law_words_values.carried.Hands.{Ok, Moved, leaves_chain}
use Rattle.std.proofs.Common.{IsSome}
use Rattle.law_words_borrows.specs.Below.server_model.Work.{working}
use Rattle.law_words_borrows.specs.Below.coherent_memory.Coherent.{IsSound}
use Rattle.law_words_borrows.specs.Below.coherent_memory.Words.{IsStale}
use Rattle.law_words_borrows.specs.Below.law_words_paths.words.PutBack.{StandsHere}
use Rattle.law_words_borrows.proofs.Below.law_words_paths.words.Put.{put_split}
use Rattle.law_words_borrows.proofs.Below.law_words_values.carried.Hands.{RootedIn, moved_from, places as then_places}
use Rattle.law_words_borrows.specs.Below.law_words_kept.prepared.Requests.{WordsRise}

-- a value is pushed
pub length_end : {A : Type 0} (xs : List A) (v : A) → length (xs ++ v ∷ []) ≡ suc (length xs)
length_end [] v = refl
length_end (x ∷ xs) v = ap suc (length_end xs v)

-- where the newest one stands
pub newest_there : (xs : List Value) (v : Value) → last_of xs ≡ Some v → (slice_get xs (length (front_of xs)) ≡ Some v) × (length xs ≡ suc (length (front_of xs)))
newest_there xs v e = let parts = last_split xs v e in (ap (λ vs. slice_get vs (length (front_of xs))) parts ∙ end_is (front_of xs) v, ap length parts ∙ length_end (front_of xs) v)

-- two slots that are set, either first
pub set_apart : {A : Type 0} (xs : List A) (i j : ℕ) (a b : A) → (i ≡ j → ⊥) → slice_set (slice_set xs i a) j b ≡ slice_set (slice_set xs j b) i a
set_apart [] i j a b ne = refl
set_apart (x ∷ xs) zero zero a b ne = absurd (ne refl)
set_apart (x ∷ xs) zero (suc j) a b ne = refl
set_apart (x ∷ xs) (suc i) zero a b ne = refl
set_apart (x ∷ xs) (suc i) (suc j) a b ne = ap (λ l. x ∷ l) (set_apart xs i j a b (λ e. ne (ap suc e)))

-- what is tested
pub is_so : (b : Bool) → other b ≡ 0 → b ≡ true
is_so true e = refl
is_so false e = absurd cc

-- where a reference's first word stands, something does
first_stands : (r : MutRef) (v : Option Value) → is_first r v ≡ true → (u : Value) × (v ≡ Some u)
first_stands r None e = absurd cc
first_stands r (Some u) e = (u, refl)

-- THE WORD AT THE END

-- the reference has its first word
same_word : (r : MutRef) → (r.word == r.first) ≡ true → r.word ≡ r.first
same_word r e = grind (arith, nat_tests, e)

-- or another one
other_word : (r : MutRef) → (r.word == r.first) ≡ false → r.word ≢ r.first
other_word r e = λ q. (let z : true ≡ false = grind (arith, nat_tests, e, q) in absurd cc)

-- where the holder's place leads, once it is ready
abbrev pub SpotIs : MutRef → Spot → Type 0
SpotIs r sp = (((r.word == r.first) ≡ true) × (sp ≡ no_spot)) ⊎ (((r.word == r.first) ≡ false) × (r.holder.depth ≡ 0) × (sp ≡ spot_slot r.holder.slot))

module _ (k : Cluster) (sound : IsSound k) (s : Server) (here_it : server_at k.servers s.rest.number ≡ Some s) (t : ℕ) (y : ThreadState) (at : thread_in s.threads t ≡ Some y) (hand : Hand) where
  abbrev n : ℕ
  n = s.rest.number

  abbrev x0 : ThreadState
  x0 = hand.thread

  abbrev pub cluster_of : Hand → Cluster
  cluster_of h = cluster k sound s here_it t y at h

  abbrev kb : Cluster
  kb = cluster_of hand

  abbrev gb : Ground
  gb = (sight kb).ground

  abbrev pub changed_to : ThreadState → Hand
  changed_to x = record hand { thread = x }

  abbrev IsOk : Hand → Type 0
  IsOk h = Ok k sound s here_it t y at h

  -- the hand from which it ends
  pub record Base : Type 0 where
    pub number : hand.work.rest.number ≡ n
    pub named : x0.number ≡ t
    pub places : HasPlaces kb
    pub rooted : RootedIn kb
    pub words : WordsRise k kb

  -- a reference stands there that was made from the pointer at h alone, and none from it
  pub record AtEnd (l h : Location) (r : MutRef) : Type 0 where
    pub clean : r.dirty ≡ false
    pub stood : value_in gb l ≡ Some (value.Mut r)
    pub held : holder_of gb l r.holder ≡ Some h
    pub fresh : IsStale (sight kb) (Some l) → ⊥
    pub only : (q : Reference) → Among q (references gb (things_of kb)) → is_held_at h q.holder ≡ true → q.at ≡ l
    pub untaken : is_among h (lent_places kb.code gb gb.threads) ≡ true → ⊥
    pub unmade : (q : Reference) → Among q (references gb (things_of kb)) → is_held_at l q.holder ≡ true → ⊥
    pub unpassed : IsUnpassed kb l

  -- a hand to which the words stay
  pub record Goes (h : Hand) : Type 0 where
    pub number : h.work.rest.number ≡ n
    pub named : h.thread.number ≡ t
    pub places : HasPlaces (cluster_of h)
    pub rooted : RootedIn (cluster_of h)
    pub leaves : LeavesWords kb (cluster_of h)

  -- what is left of the step, inside and with its end
  pub record Through (h2 : Hand) : Type 0 where
    pub thread : ThreadState
    pub way : Goes (changed_to thread)
    pub does : Does k.code n (changed_to thread) h2

  pub record Past (h2 : Hand) : Type 0 where
    pub thread : ThreadState
    pub way : Goes (changed_to thread)
    pub moved : Moved k.code n (changed_to thread) h2

  -- what was left of the step leaves the words
  pub past_leaves : Base → (h2 : Hand) → IsOk h2 → Past h2 → LeavesWords kb (cluster_of h2)
  past_leaves base h2 ok p =
      let w = p.way in
      leaves_chain w.leaves (moved_from k sound s here_it t y at (changed_to p.thread) h2 w.number w.named w.places (then_places k sound s here_it t y at h2 ok) w.rooted (w.leaves.holders base.words.first_at_holder) p.moved)

  -- the step goes on
  through_over : (o : Option Hand) → Gives Through o → Gives (λ (d : Stepped). Past d.hand) (committed (goes_on o))
  through_over None g = tt
  through_over (Some h2) g =
      weaker (λ (d : Stepped). Moved k.code n (changed_to g.thread) d.hand) (λ (d : Stepped). Past d.hand) (committed (goes_on (Some h2))) (goes_over k.code n (changed_to g.thread) fresh.None (Some h2) g.does) (λ d m. record { thread = g.thread; way = g.way; moved = m })

  -- a slot's pointer gets a word
  pointer_set : (Q : Hand → Type 0) (w j : ℕ) (hp : Hand) → ((v u : Value) → slice_get hp.thread.slots j ≡ Some v → with_word w v ≡ Some u → Q (with_slots (slice_set hp.thread.slots j u) hp)) → Gives Q (set_pointer (spot_slot j) w hp)
  pointer_set Q w j hp go = by (slice_get hp.thread.slots j) refl
    where
      put : (u : Value) → Q (with_slots (slice_set hp.thread.slots j u) hp) → (b : Bool) → Gives Q (if b then Some (with_slots (slice_set hp.thread.slots j u) hp) else None)
      put u q true = q
      put u q false = tt

      worded : (v : Value) → slice_get hp.thread.slots j ≡ Some v → (o : Option Value) → with_word w v ≡ o → Gives Q (then_some o (λ u. put_slot j u hp))
      worded v e None z = tt
      worded v e (Some u) z = put u (go v u e z) (nat_lt j (length hp.thread.slots))

      by : (o : Option Value) → slice_get hp.thread.slots j ≡ o → Gives Q (then_some o (λ v. then_some (with_word w v) (λ u. put_slot j u hp)))
      by None e = tt
      by (Some v) e = worded v e (with_word w v) refl

  module _ (base : Base) (from : Here) (l h : Location) (r : MutRef) (place : located x0.number from ≡ Some l) (is : here x0 from ≡ Some (value.Mut r)) (ended : AtEnd l h r) where
    -- it isn't its own holder
    not_its_own : h ≡ l → ⊥
    not_its_own e = ended.unpassed l h r r.holder.depth ended.stood ended.held (omega arith) (ended.held ∙ ap Some e)

    -- something stands at its holder
    old : (v : Value) × (value_in gb h ≡ Some v)
    old =
        let q : Reference = record { at = l; holder = holder_of gb l r.holder; reference = r } in
        first_stands r (value_in gb h) (is_so (is_first r (value_in gb h)) (subst (λ o. other (is_first r (value_behind gb o)) ≡ 0) ended.held (none_at (other_first gb) q (references gb (things_of kb)) base.words.first_at_holder (reference_there kb l r ended.stood))))

    -- then the words stay
    pub finishes : (x : ThreadState) → Finishes k.code n x0 x from l h r → Goes (changed_to x)
    finishes x p = record {
      number = base.number;
      named = p.number ∙ base.named;
      places = places_after;
      rooted = rooted_over kb after (λ z m. subst (λ ts. Among z ts) takings_same m) (λ z m. (taken_same kb after n x0 x from l h r p spl refl base.places places_after base.words.first_at_holder base.rooted ended.unpassed ended.held old.0 old.1 z m).0) base.rooted;
      leaves = end_leaves kb after n x0 x from l h r p spl refl base.places places_after base.words.first_at_holder base.rooted ended.unpassed ended.held old.0 old.1 ended.clean ended.fresh ended.only ended.untaken ended.unmade base.words.has_words base.words.past_words;
    }
      where
        after : Cluster
        after = cluster_of (changed_to x)

        stands : StandsHere k n s.threads hand
        stands = record {
          server = subst (λ o. IsSome o) (sym here_it) refl;
          number = base.number;
          thread = subst (λ m. IsSome (thread_in s.threads m)) (sym base.named) (subst (λ o. IsSome o) (sym at) refl);
        }

        spl : Split (things_of kb) (things_of after) (thread_things n false x0) (thread_things n false x)
        spl = put_split k n s.threads (s.events + 1) hand (changed_to x) stands refl p.number

        places_after : HasPlaces after
        places_after = places_on kb after n x0 x p.number spl p.owns base.places

        takings_same : takings after.code (sight after).ground.threads ≡ takings kb.code gb.threads
        takings_same = same_takings kb after n x0 x from l h r p spl refl base.places places_after base.words.first_at_holder base.rooted ended.unpassed ended.held old.0 old.1

    -- a holder without stars is a variable of the thread, another one
    flat : (m : Here) → located x0.number m ≡ Some l → r.holder.depth ≡ 0 → h ≡ at_slot x0.number r.holder.slot
    flat (slot i) e d = some_is (sym ended.held ∙ ap (λ z. holder_of gb z r.holder) (sym (some_is e)) ∙ ap (λ z. locate gb x0.number r.holder.slot z) d)
    flat (temp i) e d = some_is (sym ended.held ∙ ap (λ z. holder_of gb z r.holder) (sym (some_is e)) ∙ ap (λ z. locate gb x0.number r.holder.slot z) d)
    flat nowhere e d = absurd cc

    -- the holder is another slot
    other_slot : r.holder.depth ≡ 0 → slot r.holder.slot ≡ from → ⊥
    other_slot d e = not_its_own (flat from place d ∙ some_is (ap (located x0.number) e ∙ place))

    -- with its first word nothing is put back
    finish_first : (hp : Hand) → (r.word == r.first) ≡ true → finish no_spot r hp ≡ Some hp
    finish_first hp e = ap (λ b. if b then None else finished_at no_spot (finish_word r) hp) ended.clean ∙ ap (λ b. finished_at no_spot (if b then None else Some r.word) hp) e

    -- with another one the holder's slot gets it
    finish_in : (j : ℕ) (hp : Hand) → (r.word == r.first) ≡ false → finish (spot_slot j) r hp ≡ set_pointer (spot_slot j) r.word hp
    finish_in j hp e = ap (λ b. if b then None else finished_at (spot_slot j) (finish_word r) hp) ended.clean ∙ ap (λ b. finished_at (spot_slot j) (if b then None else Some r.word) hp) e

    -- the reference is without its thread, and then its holder has its word or had it
    module _ (none : TakesNoneHere k.code x0) (x : ThreadState) (w : Without k.code n x0 x from) where
      -- so the words stay
      way_first : (r.word == r.first) ≡ true → Goes (changed_to x)
      way_first e = finishes x (first_finishes k.code n x0 x from l h r none place is w (same_word r e))

      -- with the holder's slot put back too
      way_word : (r.word == r.first) ≡ false → r.holder.depth ≡ 0 → (v u : Value) → slice_get x.slots r.holder.slot ≡ Some v → with_word r.word v ≡ Some u → Goes (changed_to (record x { slots = slice_set x.slots r.holder.slot u }))
      way_word e d v u there worded = finishes (record x { slots = slice_set x.slots r.holder.slot u }) (word_finishes k.code n x0 x from l h r none place is w r.holder.slot v u (other_slot d) (flat from place d) there worded (other_word r e))

      -- the end of a value that goes and isn't replaced
      goes_alone : TakesNoneHere k.code x → (sp : Spot) → SpotIs r sp → Gives Through (finish sp r (label_dropped (value.Mut r) (changed_to x)))
      goes_alone untaken sp (inl q) =
          subst (λ z. Gives Through (finish z r (label_dropped (value.Mut r) (changed_to x)))) (sym q.1)
          (subst (λ o. Gives Through o) (sym (finish_first (label_dropped (value.Mut r) (changed_to x)) q.0)) (record { thread = x; way = way_first q.0; does = relabelled k.code n hand none (changed_to x) (value.Mut r) untaken }))
      goes_alone untaken sp (inr q) =
          subst (λ z. Gives Through (finish z r (label_dropped (value.Mut r) (changed_to x)))) (sym q.2)
          (subst (λ o. Gives Through o) (sym (finish_in r.holder.slot (label_dropped (value.Mut r) (changed_to x)) q.0))
          (pointer_set Through r.word r.holder.slot (label_dropped (value.Mut r) (changed_to x))
          (λ v u e z. record {
            thread = record x { slots = slice_set x.slots r.holder.slot u };
            way = way_word q.0 q.1 v u e z;
            does = relabelled k.code n hand none (changed_to (record x { slots = slice_set x.slots r.holder.slot u })) (value.Mut r) untaken;
          })))

  module _ (base : Base) (none : TakesNoneHere k.code x0) (h : Location) (r : MutRef) where
    -- the newest slot goes
    pub slot_ends : last_of x0.slots ≡ Some (value.Mut r) → AtEnd (at_slot x0.number (length (front_of x0.slots))) h r → (sp : Spot) → SpotIs r sp → Gives (λ (d : Stepped). Past d.hand) (committed (goes_on (drop_slot sp hand)))
    slot_ends e ended sp q =
        let ss : List Value = front_of x0.slots in
        let parts : x0.slots ≡ ss ++ value.Mut r ∷ [] = last_split x0.slots (value.Mut r) e in
        let is : slice_get x0.slots (length ss) ≡ Some (value.Mut r) = ap (λ vs. slice_get vs (length ss)) parts ∙ end_is ss (value.Mut r) in
        through_over (drop_slot sp hand)
        (subst (λ o. Gives Through (then_some {X = Popped Value} (option_map (λ w. record { item = w; hand = with_slots ss hand }) o) (λ z. drop_value sp z.item (label_dropped z.item z.hand)))) (sym e)
        (goes_alone base (slot (length ss)) (at_slot x0.number (length ss)) h r refl is ended none (record x0 { slots = ss }) (newest_without k.code n x0 none r ss parts) none sp q))

    -- the value in the hand goes
    pub top_ends : last_of x0.temps ≡ Some (value.Mut r) → AtEnd (at_temp x0.number (length (front_of x0.temps))) h r → (sp : Spot) → SpotIs r sp → Gives (λ (d : Stepped). Past d.hand) (committed (goes_on (discard sp hand)))
    top_ends e ended sp q =
        let ts : List Value = front_of x0.temps in
        let parts : x0.temps ≡ ts ++ value.Mut r ∷ [] = last_split x0.temps (value.Mut r) e in
        let is : slice_get x0.temps (length ts) ≡ Some (value.Mut r) = ap (λ vs. slice_get vs (length ts)) parts ∙ end_is ts (value.Mut r) in
        through_over (discard sp hand)
        (subst (λ o. Gives Through (then_some {X = Popped Value} (option_map (λ w. record { item = w; hand = with_temps ts hand }) o) (λ z. drop_value sp z.item (label_dropped z.item z.hand)))) (sym e)
        (goes_alone base (temp (length ts)) (at_temp x0.number (length ts)) h r refl is ended none (record x0 { temps = ts }) (top_without k.code n x0 none r ts parts) none sp q))

    -- a variable is assigned
    module _ (i : ℕ) (e : slice_get x0.slots i ≡ Some (value.Mut r)) (ended : AtEnd (at_slot x0.number i) h r) where
      abbrev l : Location
      l = at_slot x0.number i

      -- a hand whose slots are these, once the reference's labels are there
      abbrev slotted : List Value → Hand → Hand
      slotted vs hp = with_slots vs (label_dropped (value.Mut r) hp)

      abbrev with_word_at : ℕ → Value → Hand
      with_word_at j u = with_slots (slice_set x0.slots j u) hand

      -- the thread without the reference
      gone : Without k.code n x0 (record x0 { slots = slice_set x0.slots i value.Gone }) (slot i)
      gone = emptied_without k.code n x0 none r i e

      -- the value comes where the reference was, and then the holder's pointer is back
      put : (hp : Hand) (v : Value) → hp.thread.slots ≡ x0.slots → Does k.code n (emptied k.code n hand none i) (slotted (slice_set x0.slots i v) hp)
          → ((j : ℕ) (u : Value) → (i ≡ j → ⊥) → Does k.code n (changed_to (record x0 { slots = slice_set (slice_set x0.slots j u) i value.Gone })) (slotted (slice_set (slice_set x0.slots j u) i v) hp))
          → (sp : Spot) → SpotIs r sp → Gives Through (finish sp r (slotted (slice_set x0.slots i v) hp))
      put hp v same does worded sp (inl q) =
          subst (λ z. Gives Through (finish z r (slotted (slice_set x0.slots i v) hp))) (sym q.1)
          (subst (λ z. Gives Through z) (sym (finish_first base (slot i) l h r refl e ended (slotted (slice_set x0.slots i v) hp) q.0))
          (record { thread = record x0 { slots = slice_set x0.slots i value.Gone }; way = way_first base (slot i) l h r refl e ended none (record x0 { slots = slice_set x0.slots i value.Gone }) gone q.0; does = does }))
      put hp v same does worded sp (inr q) =
          let j : ℕ = r.holder.slot in
          let apart : i ≡ j → ⊥ = (λ z. other_slot base (slot i) l h r refl e ended q.1 (ap slot (sym z))) in
          subst (λ z. Gives Through (finish z r (slotted (slice_set x0.slots i v) hp))) (sym q.2)
          (subst (λ z. Gives Through z) (sym (finish_in base (slot i) l h r refl e ended j (slotted (slice_set x0.slots i v) hp) q.0))
          (pointer_set Through r.word j (slotted (slice_set x0.slots i v) hp)
          (λ old u there z. record {
            thread = record x0 { slots = slice_set (slice_set x0.slots i value.Gone) j u };
            way = way_word base (slot i) l h r refl e ended none (record x0 { slots = slice_set x0.slots i value.Gone }) gone q.0 q.1 old u
                (set_other x0.slots i j value.Gone (λ f. apart (sym f)) ∙ sym (set_other x0.slots i j v (λ f. apart (sym f))) ∙ there) z;
            does = subst (λ vs. Does k.code n (changed_to (record x0 { slots = vs })) (slotted (slice_set (slice_set x0.slots i v) j u) hp)) (sym (set_apart x0.slots i j value.Gone u apart))
                (subst (λ vs. Does k.code n (changed_to (record x0 { slots = slice_set (slice_set x0.slots j u) i value.Gone })) (slotted vs hp)) (sym (set_apart x0.slots i j v u apart)) (worded j u apart));
          })))

      -- what stands there once the holder's pointer has its word
      still : (j : ℕ) (u : Value) → (i ≡ j → ⊥) → slice_get (slice_set x0.slots j u) i ≡ Some (value.Mut r)
      still j u apart = set_other x0.slots j i u apart ∙ e

      -- the value is replaced
      replaced_by : (sp : Spot) (q : SpotIs r sp) (hp : Hand) (v : Value) → hp.thread.slots ≡ x0.slots → Gives Through (finish sp r (slotted (slice_set hp.thread.slots i v) hp)) → Gives Through (replace_slot i sp v hp)
      replaced_by sp q hp v same g = subst (λ z. Gives Through (then_some z (λ u. then_some (put_slot i v (label_dropped u hp)) (drop_value sp u)))) (sym (ap (λ vs. slice_get vs i) same ∙ e)) (by (nat_lt i (length hp.thread.slots)))
        where
          by : (b : Bool) → Gives Through (then_some (if b then Some (slotted (slice_set hp.thread.slots i v) hp) else None) (drop_value sp (value.Mut r)))
          by false = tt
          by true = g

      -- by whatever operand
      assigned_value : (sp : Spot) → SpotIs r sp → (z : Operand) → Gives Through (then_some (pop z hand) (λ u. replace_slot i sp u.item u.hand))
      assigned_value sp q (operand.Const c) =
          let v : Value = value.Own (owned.Int c) in
          replaced_by sp q hand v refl
          (put hand v refl (plain_comes k.code n hand none i (value.Mut r) e v refl (owned_unseen (owned.Int c) refl))
          (λ j u apart. plain_comes k.code n (with_word_at j u) none i (value.Mut r) (still j u apart) v refl (owned_unseen (owned.Int c) refl)) sp q)
      assigned_value sp q operand.Unit =
          replaced_by sp q hand unit refl
          (put hand unit refl (plain_comes k.code n hand none i (value.Mut r) e unit refl (owned_unseen owned.Unit refl))
          (λ j u apart. plain_comes k.code n (with_word_at j u) none i (value.Mut r) (still j u apart) unit refl (owned_unseen owned.Unit refl)) sp q)
      assigned_value sp q operand.Pop = by (last_of x0.temps) refl
        where
          by : (z : Option Value) → last_of x0.temps ≡ z → Gives Through (then_some {X = Popped Value} (option_map (λ v. record { item = v; hand = with_temps (front_of x0.temps) hand }) z) (λ u. replace_slot i sp u.item u.hand))
          by None f = tt
          by (Some v) f =
              let hp : Hand = with_temps (front_of x0.temps) hand in
              replaced_by sp q hp v refl
              (put hp v refl (top_comes k.code n hand none i (value.Mut r) e v f) (λ j u apart. top_comes k.code n (with_word_at j u) none i (value.Mut r) (still j u apart) v f) sp q)

      -- the whole step
      pub variable_ends : (servers : ℕ) (w : Lval) (o : Operand) → w.slot ≡ i → w.depth ≡ 0 → (sp : Spot) → SpotIs r sp → Gives (λ (d : Stepped). Past d.hand) (committed (commit servers (instr.Assign w o) sp hand))
      variable_ends servers w o at_i flat_place sp q =
          subst (λ d. Gives (λ (x : Stepped). Past x.hand) (committed (goes_on (assign w d o sp hand)))) (sym flat_place)
          (subst (λ j. Gives (λ (x : Stepped). Past x.hand) (committed (goes_on (then_some (pop o hand) (λ u. replace_slot j sp u.item u.hand))))) (sym at_i)
          (through_over (then_some (pop o hand) (λ u. replace_slot i sp u.item u.hand)) (assigned_value sp q o)))

-- WHERE IT IS CLEAN, ITS PLACE IS READY

-- a hand whose entry has no labels
abbrev pub bare : Hand → Hand
bare h = working (λ w. record w { labels = [] }) h

abbrev pub follow : Hand → Spot → Prepared
follow h2 s2 = follow_ended (value_at h2 s2) h2

-- the place is ready
pub ready_end : (servers : ℕ) (i : Instr) (hand : Hand) (sp : Spot) (r : MutRef) → value_at hand sp ≡ Some (value.Mut r) → (r.word ≡ r.first) ⊎ (r.holder.depth ≡ 0) → (P : Stepped → Type 0)
    → ((r.word == r.first) ≡ true → Gives P (committed (commit servers i no_spot (bare hand))))
    → ((r.word == r.first) ≡ false → r.holder.depth ≡ 0 → Gives P (committed (commit servers i (spot_slot r.holder.slot) (bare hand))))
    → Gives P (prepared servers i (and_then unlabelled (follow hand sp)))
ready_end servers i hand sp r there near P first word =
    subst (λ o. Goal (follow_ended o hand)) (sym there) (at_holder (r.word == r.first) refl)
  where
    Goal : Prepared → Type 0
    Goal p = Gives P (prepared servers i (and_then unlabelled p))

    at_holder : (b : Bool) → (r.word == r.first) ≡ b → Goal (follow_holder r (if b then None else Some r.word) hand)
    at_holder true e = first e
    at_holder false e =
        let d : r.holder.depth ≡ 0 = ⊎_elim (λ (q : r.word ≡ r.first). absurd (other_word r e q)) (λ (z : r.holder.depth ≡ 0). z) near in
        subst (λ z. Goal (write_stars z 0 hand (spot_slot r.holder.slot))) (sym d) (word e d)
