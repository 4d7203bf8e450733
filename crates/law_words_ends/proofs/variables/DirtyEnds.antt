-- A mutable reference ends that was made from a variable's own pointer: one that is dirty gets the next colour or a new address first, or its object is asked for.
use Rattle.std.proofs.Common.{◌≡◌, ◌≢◌, inl, inr, ⊎_elim, ℕ, ◌+◌, ◌-◌, ◌==◌, Bool, true, false, if◌then◌else◌, List, [], ◌∷◌, ◌++◌, Option, Some, None, IsSome, refl, sym, ap, subst, ◌∙◌, arith}
use Rattle.std.specs.Prelude.{nat_lt, slice_get, slice_set, length}
use Rattle.law_words_borrows.specs.Below.fr_base.declared.place.Lval.{Lval}
use Rattle.law_words_borrows.specs.Below.fr_base.declared.instruction.Operand.{Operand}
use Rattle.law_words_borrows.specs.Below.fr_base.declared.instruction.Instr.{Instr}
use Rattle.law_words_borrows.specs.Below.fr_base.declared.instruction.Instr.TheVariants as instr
use Rattle.law_words_borrows.specs.Below.fr_base.declared.name.ObjNo.{ObjNo}
use Rattle.law_words_borrows.specs.Below.global_addr.Words.{colour_of, next_word, server_of}
use Rattle.law_words_borrows.specs.Below.journal.View.{EntryView}
use Rattle.law_words_borrows.specs.Below.journal.declared.act.Act.TheVariants as act
use Rattle.law_words_borrows.specs.Below.mut_borrow.declared.mutable.MutRef.{MutRef}
use Rattle.law_words_borrows.specs.Below.mut_borrow.declared.mutable.Cleaned.TheVariants.{Same, Tinted, MustRenew}
use Rattle.law_words_borrows.specs.Below.mut_borrow.Refs.{cleaned_answer}
use Rattle.law_words_borrows.specs.Below.thread_state.View.{ThreadState}
use Rattle.law_words_borrows.specs.Below.thread_state.declared.phase.Phase.TheVariants as phase
use Rattle.law_words_borrows.specs.Below.thread_state.declared.value.Value.{Value}
use Rattle.law_words_borrows.specs.Below.thread_state.declared.value.Value.TheVariants as value
use Rattle.law_words_borrows.specs.Below.server_msgs.declared.message.Message.TheVariants as message
use Rattle.law_words_borrows.specs.Below.server_model.declared.event.What.TheVariants.{Step}
use Rattle.law_words_borrows.specs.Below.server_model.Servers.{Server, Cluster, server_at}
use Rattle.law_words_borrows.specs.Below.server_model.Work.{Work, Hand, last_of, front_of, with_temps, thread_in, without_thread, then_some}
use Rattle.law_words_borrows.specs.Below.server_model.Clusters.{apply}
use Rattle.law_words_borrows.specs.Below.server_model.NewWords.{NewWord, issue_tint, issue_renewal}
use Rattle.law_words_borrows.specs.Below.server_model.Places.{Spot, nowhere as no_spot, in_slot, on_top, took, with_word, put_at, set_pointer, put_word, value_at}
use Rattle.law_words_borrows.specs.Below.server_model.Prepare.{EndRef, Prepared, requested, nothing, and_then, ready_at, ask_object, box_of, unlabelled, cleaned_by, clean_value, ending, assigned, prepare}
use Rattle.law_words_borrows.specs.Below.server_model.Commit.{commit}
use Rattle.law_words_borrows.specs.Below.server_model.Events.{can_step, has_phase, enabled, does, Stepped, committed, prepared, step}
use Rattle.law_words_borrows.specs.Below.coherent_memory.Things.{Location, at_slot, at_temp, thread_things, servers_things, things_of}
use Rattle.law_words_borrows.specs.Below.coherent_memory.Follow.{value_in, temp_of}
use Rattle.law_words_borrows.specs.Below.coherent_memory.Stale.{holder_of}
use Rattle.law_words_borrows.specs.Below.coherent_memory.Sight.{Pointer, pointers_in, taken_pointers, sight, issued}
use Rattle.law_words_borrows.specs.Below.coherent_memory.Words.{IsStale, HasWords, LeadsTo}
use Rattle.law_words_borrows.specs.Below.coherent_memory.Paths.{ends, path_of, assigning, ending as path_ending}
use Rattle.law_words_borrows.specs.Below.coherent_memory.Walking.{path}
use Rattle.law_words_borrows.specs.Below.coherent_types.ClusterTypes.{IsCoherent}
use Rattle.law_words_borrows.specs.Below.law_words_paths.paths.Pointing.{assigns as assigns_to}
use Rattle.law_words_borrows.proofs.Below.law_words_paths.paths.Contained.{reference_there}
use Rattle.law_words_borrows.proofs.Below.law_words_paths.paths.Origins.{among_first}
use Rattle.law_words_borrows.specs.Below.law_words_kept.ends.Dropped.{written, dropped}
use Rattle.law_words_borrows.proofs.Below.law_words_kept.ends.Lying.{ended_lies_there}
use Rattle.law_words_borrows.specs.Below.law_words_kept.reads.Reading.{LiesUnder}
use Rattle.law_words_borrows.proofs.Below.law_words_kept.reads.Lookups.{one_state}
use Rattle.law_words_borrows.specs.Below.law_words_paths.words.Reworded.{HasPlaces, LiesThere, Reworded}
use Rattle.law_words_borrows.specs.Below.law_words_paths.words.PutBack.{put_in, StandsHere, LeadsHome}
use Rattle.law_words_borrows.specs.Below.law_words_paths.words.Unmoved.{LeavesWords}
use Rattle.law_words_borrows.proofs.Below.law_words_paths.words.Grounds.{of_borrows}
use Rattle.law_words_borrows.proofs.Below.law_words_paths.words.NewWord.{is_new}
use Rattle.law_words_borrows.proofs.Below.law_words_paths.words.Past.{first_issued}
use Rattle.law_words_borrows.proofs.Below.law_words_paths.words.Slots.{set_same}
use Rattle.law_words_borrows.proofs.Below.law_words_paths.words.Standing.{told}
use Rattle.law_words_borrows.proofs.Below.law_words_paths.words.Tints.{word_put, next_leads, slot_stands as standing_now, slots_reword}
use Rattle.law_words_borrows.proofs.Below.law_words_paths.words.Put.{Split, put_split}
use Rattle.law_words_borrows.proofs.Below.law_words_kept.moves.Relaid.{relaid_rewords, renewals_reword}
use Rattle.law_words_borrows.specs.Below.law_counts_sums.Laws.{Gives, FewEvents}
use Rattle.law_words_borrows.proofs.Below.law_counts_sums.RulesKeep.{sums_kept}
use Rattle.law_words_borrows.proofs.Below.law_counts_sums.Bags.{all_standing, thread_number}
use Rattle.law_words_borrows.proofs.Below.law_counts_sums.Events.{others_of}
use Rattle.law_words_borrows.proofs.Below.law_counts_sums.Values.{last_split}
use Rattle.law_words_borrows.proofs.Below.law_counts_sums.NewWords.{hand_renews, puts_word}
use Rattle.law_words_borrows.proofs.Below.law_counts_sums.Results.{given_by, weaker}
use Rattle.law_words_borrows.specs.Below.law_counts_sums.Kinds.{instr_kind}
use Rattle.law_words_borrows.proofs.Below.law_counts_sums.Proved.{IsProvedKind}
use Rattle.law_words_borrows.proofs.Below.law_words_kept.stays.Steps.{TakesNoneHere}
use Rattle.law_words_borrows.specs.Below.law_words_kept.prepared.Requests.{WordsRise}
use Rattle.law_words_borrows.proofs.Below.law_words_kept.prepared.Rising.{rise_itself}
use Rattle.law_words_borrows.proofs.Below.law_words_kept.prepared.Hands.{Walks, first_hand, calm_waits, requests, stands, places}
use Rattle.law_words_borrows.proofs.Below.law_words_kept.prepared.Along.{Along, along_cleaned}
use Rattle.law_words_borrows.proofs.Below.law_words_kept.prepared.Asking.{found_number}
use Rattle.law_words_borrows.proofs.Renews.{Renewed, renewed_at}
use Rattle.law_words_borrows.proofs.Below.law_words_values.carried.Hands.{Ok, first_ok, step_by}
use Rattle.law_words_borrows.proofs.Below.law_words_values.carried.Places.{end_is}
use Rattle.law_words_borrows.proofs.Below.law_words_values.carried.Replaced.{at_a, lies_back}
use Rattle.law_words_borrows.proofs.Below.law_words_values.carried.Locks.{Kept, kept_where, holds_on}
use Rattle.law_words_borrows.specs.Below.law_words_values.references.Unpassed.{IsUnpassed}
use Rattle.law_words_borrows.proofs.Below.law_words_values.references.Chains.{cluster}
use Rattle.law_words_ends.specs.variables.Ends.{EndsReference, drops, discards, assigns, FlatEndsKeep}
use Rattle.law_words_ends.proofs.variables.EndHands.{newest_there, SpotIs, Base, AtEnd, Past, past_leaves, bare, variable_ends, follow, ready_end}
use Rattle.law_words_ends.proofs.variables.Tops.{top_reworded}
use Rattle.law_words_ends.proofs.variables.EndEvents.{drop_takes, discard_takes, assign_takes, hand, me, going, given_unpassed, temp_unpassed, slot_stands, temp_stands as hand_stands, untaken_here, ok_steps, ends_at_hand_leave_words}
use Rattle.law_words_ends.proofs.variables.Recoloured.{h as holder_at, fresh_before, base, at_end, last_end, drop_done, discard_done}

-- what is some is one value
value_is : {u v : Value} → Some u ≡ Some v → u ≡ v
value_is e = cc

-- or one hand
some_hand : {a b : Hand} → Some a ≡ Some b → a ≡ b
some_hand e = cc

-- what stands in the hand of a thread stands there in the cluster
pub temp_stands : (k : Cluster) (n : ℕ) (ts : List ThreadState) (e : ℕ) (h : Hand) (i : ℕ) (v : Value) → StandsHere k n ts h → HasPlaces (put_in k n ts e h) → slice_get h.thread.temps i ≡ Some v → value_in (sight (put_in k n ts e h)).ground (at_temp h.thread.number i) ≡ Some v
temp_stands k n ts e h i v here c at =
    let z = put_in k n ts e h in
    let split : Split (things_of z) (things_of z) (thread_things n false h.thread) (thread_things n false h.thread) = put_split k n ts e h h here refl refl in
    ap (λ o. temp_of o i) (at_a z z n h.thread h.thread refl split c c) ∙ at

module _ (k : Cluster) (coherent : IsCoherent k) (few : FewEvents k) (s : Server) (here_it : server_at k.servers s.rest.number ≡ Some s) (t : ℕ) (y : ThreadState) (at : thread_in s.threads t ≡ Some y) (on : enabled k.options s (Step t) ≡ true) where
  abbrev n : ℕ
  n = s.rest.number

  abbrev start : Hand
  start = hand k coherent s here_it t y at on

  abbrev IsOk : Hand → Type 0
  IsOk h = Ok k coherent.sound s here_it t y at h

  abbrev put : Hand → Cluster
  put h = cluster k coherent.sound s here_it t y at h

  -- an end of the event: the reference ended from some hand, or a request was sent
  data Left (h : Hand) : Type 0 where
    ended : (hb : Hand) → Base k coherent.sound s here_it t y at hb → Past k coherent.sound s here_it t y at hb h → Left h
    asked : WordsRise k (put h) → Left h

  -- either way the words hold
  left_words : (h : Hand) → IsOk h → Left h → WordsRise k (put h)
  left_words h ok (ended hb base p) = holds_on (past_leaves k coherent.sound s here_it t y at hb base h ok p) base.words
  left_words h ok (asked w) = w

  -- THE PLACE OF THE REFERENCE

  -- the spot shows it; with a word the thread is that other one, and all else is as it was
  pub record Place (sp : Spot) (l : Location) (other : MutRef → ThreadState) (r : MutRef) : Type 0 where
    pub shown : value_at start sp ≡ Some (value.Mut r)
    pub there : value_in (sight (put start)).ground l ≡ Some (value.Mut r)
    pub puts : (v : Work) (h2 : Hand) (w : ℕ) → set_pointer sp w (record start { work = v }) ≡ Some h2 → (h2.thread ≡ other (took r w)) × (h2.work.rest ≡ v.rest)
    pub shows : (h2 : Hand) (q : MutRef) → h2.thread ≡ other q → value_at h2 sp ≡ Some (value.Mut q)
    pub now : (h2 : Hand) (w : ℕ) → IsOk h2 → h2.thread ≡ other (took r w) → value_in (sight (put h2)).ground l ≡ Some (value.Mut (took r w))
    pub rewords : (v : Work) (h2 : Hand) (w : ℕ) → v.rest.number ≡ n → set_pointer sp w (record start { work = v }) ≡ Some h2 → HasPlaces (put (record start { work = v })) → HasPlaces (put h2) → LeadsHome (put (record start { work = v })) (record { word = w; object = r.object }) → w ≢ r.first
        → Reworded (put (record start { work = v })) (put h2) l r.object w

  -- the thread stands here, whatever is done at its server
  here_start : (v : Work) → v.rest.number ≡ n → StandsHere k n s.threads (record start { work = v })
  here_start v number = record {
    server = subst (λ o. IsSome o) (sym here_it) refl;
    number = number;
    thread = subst (λ m. IsSome (thread_in s.threads m)) (sym (thread_number s.threads t y at)) (subst (λ o. IsSome o) (sym at) refl);
  }

  -- the sums of the hand at the start
  start_ok : IsOk start
  start_ok = first_ok k coherent.sound s here_it t y at

  -- its cluster has places
  start_places : HasPlaces (put start)
  start_places = places k coherent s here_it t y at start (first_hand k coherent s here_it t y at).ok

  -- a slot
  pub slot_place : (j : ℕ) (r : MutRef) → slice_get y.slots j ≡ Some (value.Mut r) → Place (in_slot j) (at_slot y.number j) (λ q. record y { slots = slice_set y.slots j (value.Mut q) }) r
  slot_place j r e = record {
    shown = e;
    there = standing_now k n s.threads (s.events + 1) start j (value.Mut r) (here_start start.work refl) start_places e;
    puts = λ v h2 w a. (let wrote = word_put (record start { work = v }) h2 j w (value.Mut r) e a in (wrote.thread ∙ ap (λ u. record y { slots = slice_set y.slots j u }) (value_is (sym wrote.worded)), wrote.rest));
    shows = λ h2 q f. ap (λ (x : ThreadState). slice_get x.slots j) f ∙ set_same y.slots j (value.Mut r) (value.Mut q) e;
    now = λ h2 w ok f.
        ap (λ (x : ThreadState). value_in (sight (put h2)).ground (at_slot x.number j)) (sym f)
        ∙ standing_now k n s.threads (s.events + 1) h2 j (value.Mut (took r w)) (stands k coherent s here_it t y at h2 ok) (places k coherent s here_it t y at h2 ok) (ap (λ (x : ThreadState). slice_get x.slots j) f ∙ set_same y.slots j (value.Mut r) (value.Mut (took r w)) e);
    rewords = λ v h2 w number a c d home other.
        slots_reword k n s.threads (s.events + 1) (record start { work = v }) h2 j w (value.Mut r) (box_of r) (here_start v number) e refl a c d home (λ x f z. (let same : r ≡ x = cc in other (z ∙ sym (ap (λ (m : MutRef). m.first) same))));
  }

  -- the top of the hand
  pub top_place : (ts : List Value) (r : MutRef) → y.temps ≡ ts ++ value.Mut r ∷ [] → front_of y.temps ≡ ts → last_of y.temps ≡ Some (value.Mut r) → Place on_top (at_temp y.number (length ts)) (λ q. record y { temps = ts ++ value.Mut q ∷ [] }) r
  top_place ts r temps front last = record {
    shown = last;
    there = temp_stands k n s.threads (s.events + 1) start (length ts) (value.Mut r) (here_start start.work refl) start_places (ap (λ vs. slice_get vs (length ts)) temps ∙ end_is ts (value.Mut r));
    puts = λ v h2 w a. (let z = put_is v h2 w a in (ap (λ (x : Hand). x.thread) (sym z), ap (λ (x : Hand). x.work.rest) (sym z)));
    shows = λ h2 q f. ap (λ (x : ThreadState). last_of x.temps) f ∙ last_end ts (value.Mut q);
    now = λ h2 w ok f. temp_there h2 (took r w) ok f;
    rewords = λ v h2 w number a c d home other. (let z = put_is v h2 w a in reworded v h2 w number z c d home other);
  }
    where
      put_is : (v : Work) (h2 : Hand) (w : ℕ) → set_pointer on_top w (record start { work = v }) ≡ Some h2 → with_temps (ts ++ value.Mut (took r w) ∷ []) (record start { work = v }) ≡ h2
      put_is v h2 w a =
          some_hand
          (subst (λ vs. Some (with_temps (vs ++ value.Mut (took r w) ∷ []) (record start { work = v })) ≡ Some h2) front
          (subst (λ o. then_some o (λ u. then_some (with_word w u) (λ new. put_at on_top new (record start { work = v }))) ≡ Some h2) last a))

      temp_there : (h2 : Hand) (q : MutRef) → IsOk h2 → h2.thread ≡ record y { temps = ts ++ value.Mut q ∷ [] } → value_in (sight (put h2)).ground (at_temp y.number (length ts)) ≡ Some (value.Mut q)
      temp_there h2 q ok f =
          ap (λ (x : ThreadState). value_in (sight (put h2)).ground (at_temp x.number (length ts))) (sym f)
          ∙ temp_stands k n s.threads (s.events + 1) h2 (length ts) (value.Mut q) (stands k coherent s here_it t y at h2 ok) (places k coherent s here_it t y at h2 ok) (ap (λ (x : ThreadState). slice_get x.temps (length ts)) f ∙ end_is ts (value.Mut q))

      reworded : (v : Work) (h2 : Hand) (w : ℕ) → v.rest.number ≡ n → with_temps (ts ++ value.Mut (took r w) ∷ []) (record start { work = v }) ≡ h2 → HasPlaces (put (record start { work = v })) → HasPlaces (put h2) → LeadsHome (put (record start { work = v })) (record { word = w; object = r.object }) → w ≢ r.first
          → Reworded (put (record start { work = v })) (put h2) (at_temp y.number (length ts)) r.object w
      reworded v h2 w number z c d home other =
          subst (λ h. Reworded (put (record start { work = v })) (put h) (at_temp y.number (length ts)) r.object w) z
          (top_reworded (put (record start { work = v })) (put (with_temps (ts ++ value.Mut (took r w) ∷ []) (record start { work = v }))) n w y ts r temps
          (put_split k n s.threads (s.events + 1) (record start { work = v }) (with_temps (ts ++ value.Mut (took r w) ∷ []) (record start { work = v })) (here_start v number) refl refl) refl c (subst (λ h. HasPlaces (put h)) (sym z) d) other home.server home.address home.lying home.leads)

  -- THE REFERENCE

  module _ (sp : Spot) (l : Location) (other : MutRef → ThreadState) (r : MutRef) (place : Place sp l other r) (stood : value_in (sight k).ground l ≡ Some (value.Mut r)) (does_end : path (sight k) (me k coherent s here_it t y at on) ≡ ends r) (unpassed : IsUnpassed k l) (dirty : r.dirty ≡ true) (none : TakesNoneHere k.code y) where
    -- the reference isn't stale at the start
    fresh : IsStale (sight k) (Some l) → ⊥
    fresh = fresh_before k coherent s here_it t y at on l r stood does_end unpassed

    -- its object lies under its word
    under : LiesUnder k (box_of r)
    under = ended_lies_there k coherent (me k coherent s here_it t y at on) r (going k coherent s here_it t y at on) (λ u. calm_waits y.phase u (subst (λ o. has_phase can_step o ≡ true) at on)) does_end

    -- the hand at the start, of a thread that has taken nothing
    walks : Walks k coherent s here_it t y at start
    walks = record { state = first_hand k coherent s here_it t y at; untaken = λ e. e; gift = refl }

    -- there it stands in the cluster of the hand
    there : value_in (sight (put start)).ground l ≡ Some (value.Mut r)
    there = place.there

    -- the reference has that word
    pub record Worded (h2 : Hand) (w : ℕ) : Type 0 where
      pub ok : IsOk h2
      pub thread : h2.thread ≡ other (took r w)
      pub words : WordsRise k (put h2)
      pub fresh : IsStale (sight (put h2)) (Some l) → ⊥
      pub reworded : Reworded (put start) (put h2) l r.object w
      pub now : value_in (sight (put h2)).ground l ≡ Some (value.Mut (took r w))

    -- the sums stay where a word is put
    put_ok : (nw : NewWord) (h2 : Hand) → IsOk (record start { work = nw.work }) → put_word sp nw start ≡ Some h2 → IsOk h2
    put_ok nw h2 ok a = given_by IsOk (put_word sp nw start) h2 (puts_word sums_kept n s.events t (all_standing n (without_thread s.threads t) ++ servers_things (others_of k.servers n)) sp nw start ok) a

    -- THE NEXT COLOUR

    abbrev pointer : Pointer
    pointer = record { at = Some l; word = r.word; object = r.object }

    -- a reference that isn't stale has its object's word
    word_in : (c : Cluster) (b : HasWords (sight c)) → value_in (sight c).ground l ≡ Some (value.Mut r) → (IsStale (sight c) (Some l) → ⊥) → r.word ≡ b.word r.object
    word_in c b f z =
        ⊎_elim (λ (q : IsStale (sight c) (Some l)). absurd (z q)) (λ (q : r.word ≡ b.word r.object). q)
        (b.same pointer (among_first pointer (pointers_in (things_of c)) (taken_pointers (sight c).code (sight c).ground (sight c).ground.threads) (told c l (value.Mut r) pointer f (inl refl))))

    -- objects have words at the start
    words_start : HasWords (sight (put start))
    words_start = walks.state.along.words.has_words

    -- the next colour wasn't issued
    new : issued (sight k) (next_word r.word) ≡ false
    new = ap (λ v. issued (sight k) (next_word v)) (word_in k coherent.sound.words.have_words stood fresh) ∙ is_new k coherent.sound.words.have_words (one_state k coherent.sound) under.server under.address r.object under.there

    -- the word leads to where the object lies
    home : LeadsHome (put start) (box_of r)
    home =
        let its_word : r.word ≡ words_start.word r.object = word_in (put start) words_start there (λ z. fresh (walks.state.along.fresher l z)) in
        record { server = under.server; address = under.address; lying = walks.state.along.lies_on under.server under.address r.object under.there; leads = λ a b c q f. subst (λ v. LeadsTo a b v) (ap words_start.word f ∙ sym its_word) (words_start.home a b c q) }

    -- the next colour isn't the reference's first word
    not_first : next_word r.word ≢ r.first
    not_first z =
        let known : issued (sight k) r.first ≡ true = first_issued k coherent.sound.words.are_issued l r (of_borrows (sight k).ground (record { at = l; holder = holder_of (sight k).ground l r.holder; reference = r }) (things_of k) (reference_there k l r stood)).among in
        let no : true ≡ false = sym known ∙ ap (issued (sight k)) (sym z) ∙ new in
        absurd (cc no)

    -- with the next colour
    pub tint : (h2 : Hand) → put_word sp (issue_tint (box_of r) start.work) start ≡ Some h2 → Worded h2 (next_word r.word)
    tint h2 a = record {
      ok = ok;
      thread = both.0;
      words = after.words;
      fresh = λ x. fresh (after.fresher l x);
      reworded = reworded;
      now = now;
    }
      where
        both : (h2.thread ≡ other (took r (next_word r.word))) × (h2.work.rest ≡ (issue_tint (box_of r) start.work).work.rest)
        both = place.puts (issue_tint (box_of r) start.work).work h2 (next_word r.word) a

        ok : IsOk h2
        ok = put_ok (issue_tint (box_of r) start.work) h2 (record { number = start_ok.number; thread = start_ok.thread; bag = start_ok.bag }) a

        then_places : HasPlaces (put h2)
        then_places = places k coherent s here_it t y at h2 ok

        reworded : Reworded (put start) (put h2) l r.object (next_word r.word)
        reworded =
            place.rewords (issue_tint (box_of r) start.work).work h2 (next_word r.word) refl a start_places then_places
            (record { server = home.server; address = home.address; lying = home.lying; leads = λ i g c m f. next_leads i g r.word (home.leads i g c m f) }) not_first

        now : value_in (sight (put h2)).ground l ≡ Some (value.Mut (took r (next_word r.word)))
        now = place.now h2 (next_word r.word) ok both.0

        named : h2.thread.number ≡ y.number
        named = ok.thread ∙ sym (thread_number s.threads t y at)

        split : Split (things_of (put start)) (things_of (put h2)) (thread_things n false y) (thread_things n false h2.thread)
        split = put_split k n s.threads (s.events + 1) start h2 (here_start start.work refl) both.1 named

        still : (m g : ℕ) (o : ObjNo) → LiesThere (put start) m g o → LiesThere (put h2) m g o
        still m g o q = record {
          cell = q.cell;
          among = lies_back (put h2) (put start) n h2.thread y (sym named) (record { left = split.left; right = split.right; before = split.after; after = split.before }) then_places start_places m g q.cell q.among;
          object = q.object;
        }

        after : Along k (put h2)
        after = along_cleaned k (put start) (put h2) l r (next_word r.word) coherent.sound.words.are_issued new start_places then_places walks.state.along there dirty fresh reworded now still

    -- A NEW ADDRESS

    -- with a new address
    pub renew : (server_of r.word == n) ≡ true → (nw : NewWord) → issue_renewal (box_of r) start.work ≡ Some nw → (h2 : Hand) → put_word sp nw start ≡ Some h2 → Worded h2 nw.word
    renew mine nw issues h2 a = record {
      ok = ok;
      thread = both.0;
      words = it.words;
      fresh = it.fresh;
      reworded = it.reworded;
      now = it.now;
    }
      where
        moved : IsOk (record start { work = nw.work })
        moved = given_by (λ (u : NewWord). IsOk (record start { work = u.work })) (issue_renewal (box_of r) start.work) nw (hand_renews sums_kept n s.events t (all_standing n (without_thread s.threads t) ++ servers_things (others_of k.servers n)) (box_of r) start start_ok) issues

        ok : IsOk h2
        ok = put_ok nw h2 moved a

        both : (h2.thread ≡ other (took r nw.word)) × (h2.work.rest ≡ nw.work.rest)
        both = place.puts nw.work h2 nw.word a

        it : Renewed k coherent few s here_it t y at start h2 l r nw.word
        it =
            renewed_at k coherent few s here_it t y at start h2 l r nw walks ok refl there dirty fresh under mine issues
            (λ renewal c different.
            relaid_rewords (put start) (put (record start { work = nw.work })) (put h2) l r.object nw.word (renewals_reword.relays k n s.threads (s.events + 1) start (box_of r) nw renewal)
            (place.rewords nw.work h2 nw.word moved.number a renewal.moved c renewal.home different)) (place.now h2 nw.word ok both.0)

    -- THE STEP, ONCE IT IS CLEAN

    module _ (i : Instr) (flat : r.holder.depth ≡ 0) (goes : (h2 : Hand) (w : ℕ) → Worded h2 w → (z : Spot) → SpotIs (took r w) z → Gives (λ (d : Stepped). Past k coherent.sound s here_it t y at (bare h2) d.hand) (committed (commit k.options.servers i z (bare h2)))) where
      abbrev Goal : Prepared → Type 0
      Goal p = Gives (λ (d : Stepped). Left d.hand) (prepared k.options.servers i (and_then unlabelled p))

      -- once it is clean the step goes on
      at_clean : (h2 : Hand) (w : ℕ) → Worded h2 w → Goal (follow h2 sp)
      at_clean h2 w c =
          ready_end k.options.servers i h2 sp (took r w) (place.shows h2 (took r w) c.thread) (inr flat) (λ (d : Stepped). Left d.hand) (λ f. done no_spot (inl (f, refl))) (λ f d. done (in_slot r.holder.slot) (inr (f, d, refl)))
        where
          done : (z : Spot) → SpotIs (took r w) z → Gives (λ (d : Stepped). Left d.hand) (committed (commit k.options.servers i z (bare h2)))
          done z q =
              weaker (λ (d : Stepped). Past k coherent.sound s here_it t y at (bare h2) d.hand) (λ (d : Stepped). Left d.hand) (committed (commit k.options.servers i z (bare h2))) (goes h2 w c z q)
              (λ d p. ended (bare h2) (base k coherent s here_it t y at on l r stood does_end unpassed h2 c.ok w c.words c.fresh c.reworded c.now) p)

      -- after the next colour
      tinted : (o : Option Hand) → put_word sp (issue_tint (box_of r) start.work) start ≡ o → Goal (and_then follow (ready_at sp o))
      tinted None a = tt
      tinted (Some h2) a = at_clean h2 (next_word r.word) (tint h2 a)

      -- after a renewal
      renewed : (server_of r.word == n) ≡ true → (nw : NewWord) → issue_renewal (box_of r) start.work ≡ Some nw → (o : Option Hand) → put_word sp nw start ≡ o → Goal (and_then follow (ready_at sp o))
      renewed mine nw f None a = tt
      renewed mine nw f (Some h2) a = at_clean h2 nw.word (renew mine nw f h2 a)

      -- if there is one
      renewals : (server_of r.word == n) ≡ true → (o : Option NewWord) → issue_renewal (box_of r) start.work ≡ o → Goal (and_then follow (ready_at sp (then_some o (λ nw. put_word sp nw start))))
      renewals mine None f = tt
      renewals mine (Some nw) f = renewed mine nw f (put_word sp nw start) refl

      -- at the last colour
      at_last : (c : Bool) → (server_of r.word == n) ≡ c → Goal (and_then follow (if c then ready_at sp (then_some (issue_renewal (box_of r) start.work) (λ nw. put_word sp nw start)) else requested (ask_object (box_of r) start)))
      at_last true f = renewals f (issue_renewal (box_of r) start.work) refl
      at_last false f =
          asked (requests k coherent s here_it t y at (act.Pull r.object r.word) (server_of r.word) (message.Move r.word r.object start.work.rest.number start.thread.number) (phase.WaitCell r.word) start refl refl (λ q c z. z) (λ c i. refl) none walks).along.words

      -- by its colour
      by_colour : (c : Bool) → Goal (and_then follow (cleaned_by (if c then Tinted (next_word r.word) else MustRenew) sp r start))
      by_colour true = tinted (put_word sp (issue_tint (box_of r) start.work) start) refl
      by_colour false = at_last (server_of r.word == n) refl

      -- as it is dirty
      by_mark : Goal (and_then follow (cleaned_by (cleaned_answer start.work.rest.partition.limit r) sp r start))
      by_mark = subst (λ b. Goal (and_then follow (cleaned_by (if b then (if nat_lt (colour_of r.word + 1) start.work.rest.partition.limit then Tinted (next_word r.word) else MustRenew) else Same) sp r start))) (sym dirty) (by_colour (nat_lt (colour_of r.word + 1) start.work.rest.partition.limit))

      -- if its colour is below the limit
      at_limit : (b : Bool) → Goal (and_then follow (if b then cleaned_by (cleaned_answer start.work.rest.partition.limit r) sp r start else nothing))
      at_limit true = by_mark
      at_limit false = tt

      -- the whole step
      dirty_end : Gives (λ (d : Stepped). Left d.hand) (prepared k.options.servers i (prepare (Some (EndRef sp)) start))
      dirty_end = subst (λ o. Goal (and_then follow (clean_value sp o start))) (sym place.shown) (at_limit (nat_lt (colour_of r.word) start.work.rest.partition.limit))

  -- THE EVENT

  -- so the words hold with the server put back
  kept : (i : Instr) → IsProvedKind (instr_kind i) → slice_get k.code y.pc ≡ Some i → Gives (λ (d : Stepped). Left d.hand) (step k.options.servers i start) → Gives (Kept k s) (does k.code k.options s (Step t))
  kept i kind code g = step_by (λ a b. WordsRise k b) k coherent.sound s here_it t y at i code Left left_words (ok_steps k coherent s here_it t y at on i kind) g

  -- the newest slot goes
  drops_there : (r : MutRef) → last_of y.slots ≡ Some (value.Mut r) → r.holder.depth ≡ 0 → r.dirty ≡ true → slice_get k.code y.pc ≡ Some instr.DropSlot → Gives (Kept k s) (does k.code k.options s (Step t))
  drops_there r e flat dirty code =
      let j : ℕ = length (front_of y.slots) in
      let l : Location = at_slot y.number j in
      let it = newest_there y.slots (value.Mut r) e in
      let number : length y.slots - 1 ≡ j = (let z = it.1 in omega (arith, z)) in
      let stood = slot_stands k coherent s here_it t y at on j (value.Mut r) it.0 in
      let ending_it : path (sight k) (me k coherent s here_it t y at on) ≡ ends r = ap (λ o. path_of o y) code ∙ ap path_ending e in
      let unpassed = given_unpassed k coherent s here_it t y at on instr.DropSlot (record { slot = j; depth = 0 }) code (dropped j it.1) in
      let none : TakesNoneHere k.code y = untaken_here k coherent s here_it t y at on instr.DropSlot code (drop_takes y.number y.phase) in
      kept instr.DropSlot tt code
      (subst (λ o. Gives (λ (d : Stepped). Left d.hand) (prepared k.options.servers instr.DropSlot (prepare (ending (in_slot (length y.slots - 1)) o) start))) (sym e)
      (subst (λ i. Gives (λ (d : Stepped). Left d.hand) (prepared k.options.servers instr.DropSlot (prepare (Some (EndRef (in_slot i))) start))) (sym number)
      (dirty_end (in_slot j) l (λ q. record y { slots = slice_set y.slots j (value.Mut q) }) r (slot_place j r it.0) stood ending_it unpassed dirty none instr.DropSlot flat
      (λ h2 w c z q.
      drop_done k coherent.sound s here_it t y at h2 (base k coherent s here_it t y at on l r stood ending_it unpassed h2 c.ok w c.words c.fresh c.reworded c.now) (holder_at k coherent s here_it t y at on l r stood ending_it unpassed) r (took r w) (subst (λ (x : ThreadState). TakesNoneHere k.code x) (sym c.thread) none) y.slots
      (ap (λ (x : ThreadState). x.slots) c.thread) e
      (subst (λ (x : ThreadState). AtEnd k coherent.sound s here_it t y at (bare h2) (at_slot x.number j) (holder_at k coherent s here_it t y at on l r stood ending_it unpassed) (took r w)) (sym c.thread) (at_end k coherent s here_it t y at on l r stood ending_it unpassed h2 c.ok w c.words c.fresh c.reworded c.now)) z q))))

  -- the top of the hand goes
  discards_there : (r : MutRef) → last_of y.temps ≡ Some (value.Mut r) → r.holder.depth ≡ 0 → r.dirty ≡ true → slice_get k.code y.pc ≡ Some instr.Discard → Gives (Kept k s) (does k.code k.options s (Step t))
  discards_there r e flat dirty code =
      let ts : List Value = front_of y.temps in
      let l : Location = at_temp y.number (length ts) in
      let temps : y.temps ≡ ts ++ value.Mut r ∷ [] = last_split y.temps (value.Mut r) e in
      let stood = hand_stands k coherent s here_it t y at on (length ts) (value.Mut r) (ap (λ vs. slice_get vs (length ts)) temps ∙ end_is ts (value.Mut r)) in
      let ending_it : path (sight k) (me k coherent s here_it t y at on) ≡ ends r = ap (λ o. path_of o y) code ∙ ap path_ending e in
      let unpassed = temp_unpassed k coherent s here_it t y at on (length ts) in
      let none : TakesNoneHere k.code y = untaken_here k coherent s here_it t y at on instr.Discard code (discard_takes y.number y.phase) in
      kept instr.Discard tt code
      (subst (λ o. Gives (λ (d : Stepped). Left d.hand) (prepared k.options.servers instr.Discard (prepare (ending on_top o) start))) (sym e)
      (dirty_end on_top l (λ q. record y { temps = ts ++ value.Mut q ∷ [] }) r (top_place ts r temps refl e) stood ending_it unpassed dirty none instr.Discard flat
      (λ h2 w c z q.
      discard_done k coherent.sound s here_it t y at h2 (base k coherent s here_it t y at on l r stood ending_it unpassed h2 c.ok w c.words c.fresh c.reworded c.now) (holder_at k coherent s here_it t y at on l r stood ending_it unpassed) r (took r w) (subst (λ (x : ThreadState). TakesNoneHere k.code x) (sym c.thread) none) ts
      (ap (λ (x : ThreadState). x.temps) c.thread)
      (subst (λ (x : ThreadState). AtEnd k coherent.sound s here_it t y at (bare h2) (at_temp x.number (length ts)) (holder_at k coherent s here_it t y at on l r stood ending_it unpassed) (took r w)) (sym c.thread) (at_end k coherent s here_it t y at on l r stood ending_it unpassed h2 c.ok w c.words c.fresh c.reworded c.now)) z q)))

  -- a variable is assigned
  assigns_there : (v : Lval) (o : Operand) (r : MutRef) → v.depth ≡ 0 → slice_get y.slots v.slot ≡ Some (value.Mut r) → r.holder.depth ≡ 0 → r.dirty ≡ true → slice_get k.code y.pc ≡ Some (instr.Assign v o) → Gives (Kept k s) (does k.code k.options s (Step t))
  assigns_there v o r flat_place e flat dirty code =
      let j : ℕ = v.slot in
      let l : Location = at_slot y.number j in
      let stood = slot_stands k coherent s here_it t y at on j (value.Mut r) e in
      let ending_it : path (sight k) (me k coherent s here_it t y at on) ≡ ends r = ap (λ z. path_of z y) code ∙ ap (λ d. assigning y.slots v d) flat_place ∙ ap path_ending e in
      let unpassed = given_unpassed k coherent s here_it t y at on (instr.Assign v o) v code (written assigns_to) in
      let none : TakesNoneHere k.code y = untaken_here k coherent s here_it t y at on (instr.Assign v o) code (assign_takes y.number y.phase v o) in
      kept (instr.Assign v o) tt code
      (subst (λ d. Gives (λ (x : Stepped). Left x.hand) (prepared k.options.servers (instr.Assign v o) (prepare (assigned v d y) start))) (sym flat_place)
      (subst (λ a. Gives (λ (x : Stepped). Left x.hand) (prepared k.options.servers (instr.Assign v o) (prepare (ending (in_slot j) a) start))) (sym e)
      (dirty_end (in_slot j) l (λ q. record y { slots = slice_set y.slots j (value.Mut q) }) r (slot_place j r e) stood ending_it unpassed dirty none (instr.Assign v o) flat
      (λ h2 w c z q.
      variable_ends k coherent.sound s here_it t y at (bare h2) (base k coherent s here_it t y at on l r stood ending_it unpassed h2 c.ok w c.words c.fresh c.reworded c.now) (subst (λ (x : ThreadState). TakesNoneHere k.code x) (sym c.thread) none) (holder_at k coherent s here_it t y at on l r stood ending_it unpassed) (took r w) j
      ((slot_place j r e).shows h2 (took r w) c.thread)
      (subst (λ (x : ThreadState). AtEnd k coherent.sound s here_it t y at (bare h2) (at_slot x.number j) (holder_at k coherent s here_it t y at on l r stood ending_it unpassed) (took r w)) (sym c.thread) (at_end k coherent s here_it t y at on l r stood ending_it unpassed h2 c.ok w c.words c.fresh c.reworded c.now)) k.options.servers v o refl flat_place z q))))

  -- each of the three
  all_there : (r : MutRef) (i : Instr) → EndsReference y r i → r.holder.depth ≡ 0 → r.dirty ≡ true → slice_get k.code y.pc ≡ Some i → Gives (Kept k s) (does k.code k.options s (Step t))
  all_there r _ (drops e) flat dirty code = drops_there r e flat dirty code
  all_there r _ (discards e) flat dirty code = discards_there r e flat dirty code
  all_there r _ (assigns v o flat_place e) flat dirty code = assigns_there v o r flat_place e flat dirty code

-- WHETHER IT IS CLEAN OR NOT

-- THE LAW
pub flat_ends_keep : FlatEndsKeep
flat_ends_keep k number t s y i r coherent few here_it at code ends_it flat = by r.dirty refl
  where
    words : WordsRise k k
    words = rise_itself k coherent.sound

    by : (b : Bool) → r.dirty ≡ b → Gives (λ (d : Cluster × EntryView). WordsRise k d.0) (apply k (record { server = number; what = Step t }))
    by true dirty =
        subst (λ c. server_at k.servers c ≡ Some s → Gives (λ (d : Cluster × EntryView). WordsRise k d.0) (apply k (record { server = c; what = Step t }))) (found_number number k.servers s here_it)
        (λ h. kept_where k s t coherent few h (λ on. all_there k coherent few s h t y at on r i ends_it flat dirty code)) here_it
    by false clean =
        weaker (λ (d : Cluster × EntryView). LeavesWords k d.0) (λ (d : Cluster × EntryView). WordsRise k d.0) (apply k (record { server = number; what = Step t }))
        (ends_at_hand_leave_words k number t s y i r coherent few here_it at code ends_it (record { clean = clean; near = inr flat })) (λ d g. holds_on g words)
