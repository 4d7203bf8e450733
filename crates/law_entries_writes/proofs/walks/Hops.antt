-- One hop of a write that is made ready: a box gets a word, and the reference that led there its mark; with the act that the coloured heap allows.
use Rattle.std.proofs.Common.{◌≡◌, ◌⊎◌, inl, inr, ℕ, zero, suc, ◌+◌, ◌<◌, ◌≤◌, ◌^◌, ◌==◌, ◌&&◌, ◌||◌, nat_lt, Bool, true, false, if◌then◌else◌, List, [], ◌∷◌, ◌++◌, length, Option, Some, None, refl, sym, ap, ap₂, subst, ◌∙◌, arith}
use Rattle.std.specs.Prelude.{⊤, slice_get}
use Rattle.std.proofs.lemmas.Bool.{eq-eqb}
use Rattle.std.proofs.lemmas.Bool.Decides.{nat_tests}
use Rattle.std.proofs.lemmas.List.{length-set}
use Rattle.law_heap_writes.specs.Below.fr_base.declared.name.ObjNo.{ObjNo}
use Rattle.law_heap_writes.specs.Below.global_addr.Words.{colour_of, server_of, address_of, next_word}
use Rattle.law_heap_writes.specs.Below.heap_partition.declared.value.BoxPtr.{BoxPtr}
use Rattle.law_heap_writes.specs.Below.heap_partition.declared.value.Cell.{Cell}
use Rattle.law_heap_writes.specs.Below.heap_partition.declared.value.Owned.{Owned}
use Rattle.law_heap_writes.specs.Below.heap_partition.declared.value.Owned.TheVariants as owned
use Rattle.law_heap_writes.specs.Below.mut_borrow.declared.mutable.MutRef.{MutRef}
use Rattle.law_heap_writes.specs.Below.owner_box.View.{PartitionState}
use Rattle.law_heap_writes.specs.Below.owner_box.Partition.{freed, renewed, next_place, new_word, stored}
use Rattle.law_heap_writes.specs.Below.journal.declared.act.Act.TheVariants as act
use Rattle.law_heap_writes.specs.Below.thread_state.View.{ThreadState}
use Rattle.law_heap_writes.specs.Below.thread_state.declared.value.Value.{Value}
use Rattle.law_heap_writes.specs.Below.thread_state.declared.value.Value.TheVariants as value
use Rattle.law_heap_writes.specs.Below.server_model.Servers.{Rest, Server, Cluster, server_at}
use Rattle.law_heap_writes.specs.Below.server_model.Work.{Work, Hand, leads_here, thread_in, without_thread}
use Rattle.law_heap_writes.specs.Below.server_model.NewWords.{NewWord, is_last, can_grow, issue_tint, issue_renewal}
use Rattle.law_heap_writes.specs.Below.server_model.Places.{Spot, in_slot, on_top, in_cell, in_copy, nowhere, value_at, pointer_of, note_slot, note_write, put_at, with_word, put_word}
use Rattle.law_heap_writes.specs.Below.server_model.Prepare.{Prepared, ready, requested, nothing, ask_object}
use Rattle.law_entries_reads.specs.Below.law_entries_variables.Below.coloured_heap.Heap.{Coloured, lies_at}
use Rattle.law_heap_writes.specs.Below.coherent_memory.Names.{tot, one, some, same_object}
use Rattle.law_heap_writes.specs.Below.coherent_memory.Things.{Location, Thing, in_cell as in_object, partition_things, servers_things, things_of}
use Rattle.law_heap_writes.specs.Below.coherent_memory.Follow.{value_in}
use Rattle.law_heap_writes.specs.Below.coherent_memory.Sight.{sight, issued}
use Rattle.law_heap_writes.specs.Below.coherent_memory.Words.{LeadsTo}
use Rattle.law_heap_writes.specs.Below.coherent_memory.Colours.{StandsColoured}
use Rattle.law_heap_writes.proofs.Below.law_words_asked.Below.coherent_memory.Words.{itself, named}
use Rattle.law_heap_writes.specs.Below.coherent_types.ClusterTypes.{IsCoherent}
use Rattle.law_heap_writes.proofs.Below.law_words_paths.paths.Sole.{some_is}
use Rattle.law_heap_writes.specs.Below.law_words_paths.words.Reworded.{HasPlaces, Reworded}
use Rattle.law_heap_writes.specs.Below.law_words_paths.words.PutBack.{StandsHere}
use Rattle.law_heap_writes.specs.Below.law_words_paths.words.WordsAfter.{Rewrites}
use Rattle.law_heap_writes.proofs.Below.law_words_paths.words.Only.{are_only}
use Rattle.law_heap_writes.proofs.Below.law_words_paths.words.Outlines.{soles_stay}
use Rattle.law_heap_writes.proofs.Below.law_counts_sums.Results.{then_gives, test_gives, given_by}
use Rattle.law_heap_writes.specs.Below.law_counts_sums.Laws.{Gives}
use Rattle.law_heap_writes.proofs.Below.law_counts_sums.RulesKeep.{sums_kept}
use Rattle.law_heap_writes.proofs.Below.law_counts_sums.Bags.{all_standing}
use Rattle.law_heap_writes.proofs.Below.law_counts_sums.Events.{others_of}
use Rattle.law_heap_writes.proofs.Below.law_counts_sums.NewWords.{hand_renews, puts_word}
use Rattle.law_heap_writes.proofs.Below.law_words_asked.Below.law_words_kept.reads.Homes.{fresh_word}
use Rattle.law_heap_writes.proofs.Below.law_results_reads.Pointing.{its_partition}
use Rattle.law_heap_writes.specs.Below.law_words_asked.Below.law_words_kept.moves.Relaid.{Renewal, NextIsVacant}
use Rattle.law_heap_writes.proofs.Below.law_words_asked.Below.law_words_kept.prepared.Hands.{put, places, stands}
use Rattle.law_heap_writes.proofs.Below.law_results_events.writes.Memory.{looks, Given as Issued, renewal_issued}
use Rattle.law_heap_writes.specs.Below.law_words_asked.Below.law_heap_still.events.Shows.{frame_of}
use Rattle.law_heap_writes.proofs.Below.law_words_asked.writes.Onward.{Lies, IsWritten}
use Rattle.law_heap_writes.proofs.Below.law_words_asked.writes.Later.{renewal_unissued, next_vacant}
use Rattle.law_heap_writes.proofs.Below.law_words_asked.writes.Passing.{Fits, State}
use Rattle.law_heap_writes.proofs.Below.law_words_asked.writes.Hops.{renewed_work, home_under, lies_here, Boxed}
use Rattle.law_entries_reads.proofs.Below.law_entries_variables.deliveries.Answers.{Answers}
use Rattle.law_entries_reads.proofs.Below.law_entries_variables.deliveries.Live.{issued_by}
use Rattle.law_entries_reads.proofs.asks.Recoloured.{NewWords, recoloured, Named, tint_allowed, renew_allowed}
use Rattle.law_entries_reads.proofs.asks.NextColour.{one_word_more}
use Rattle.law_entries_reads.proofs.asks.Frames.{SameFrames}
use Rattle.law_entries_reads.proofs.asks.KeptRest.{set_frames}
use Rattle.law_entries_reads.proofs.asks.Pointed.{Pointed}
use Rattle.law_entries_writes.proofs.walks.Weights.{Blind}
use Rattle.law_entries_writes.proofs.walks.Partitions.{renewed_blind, renewal_issues}
use Rattle.law_entries_writes.proofs.walks.Given.{words_by, q0, Given, issue_sums, next_unissued, once_more, named_now, lies_so, given_word}

pub no_reference : (u : Owned) (r : MutRef) → value.Own u ≡ value.Mut r → ⊥
no_reference u r e = absurd (cc e)

pub in_object_is : {a b : ObjNo} → in_object a ≡ in_object b → a ≡ b
in_object_is e = cc

-- WHAT IS NOTED WHERE A WORD IS PUT

-- a value that is put notes nothing
puts_so : (sp : Spot) (v : Value) (h : Hand) → Gives (λ (u : Hand). u.work.acts ≡ h.work.acts) (put_at sp v h)
puts_so (in_slot i) v h = test_gives (λ (u : Hand). u.work.acts ≡ h.work.acts) (nat_lt i (length h.thread.slots)) _ (λ on. refl)
puts_so on_top v h = refl
puts_so (in_cell w q) (value.Own v) h = test_gives (λ (u : Hand). u.work.acts ≡ h.work.acts) (leads_here h.work.rest.partition w) _ (λ on. by q)
  where
    by : (q : Option ℕ) → (note_write q (record h { work = record h.work { rest = record h.work.rest { partition = stored h.work.rest.partition w v } } })).work.acts ≡ h.work.acts
    by None = refl
    by (Some i) = refl
puts_so (in_cell w q) value.Gone h = tt
puts_so (in_cell w q) (value.SharedSlot i) h = tt
puts_so (in_cell w q) (value.MutSlot i) h = tt
puts_so (in_cell w q) (value.Shared r) h = tt
puts_so (in_cell w q) (value.Mut r) h = tt
puts_so (in_cell w q) (value.Held m) h = tt
puts_so (in_copy w) v h = tt
puts_so nowhere v h = tt

-- the acts are those with which the word was issued
pub put_acts : (sp : Spot) (nw : NewWord) (h h2 : Hand) → put_word sp nw h ≡ Some h2 → h2.work.acts ≡ nw.work.acts
put_acts sp nw h h2 e =
    let hm : Hand = record h { work = nw.work } in
    given_by (λ (u : Hand). u.work.acts ≡ nw.work.acts) (put_word sp nw h) h2
    (then_gives (λ (u : Hand). u.work.acts ≡ nw.work.acts) (value_at hm sp) _ (λ v at. then_gives (λ (u : Hand). u.work.acts ≡ nw.work.acts) (with_word nw.word v) _ (λ new worded. puts_so sp new hm))) e

-- a renewal notes itself
pub renewal_acts : (p : BoxPtr) (x : Work) (nw : NewWord) → issue_renewal p x ≡ Some nw → nw.work.acts ≡ x.acts ++ act.Renew p.object p.word nw.word ∷ []
renewal_acts p x nw e =
    given_by (λ (m : NewWord). m.work.acts ≡ x.acts ++ act.Renew p.object p.word m.word ∷ []) (issue_renewal p x) nw
    (test_gives (λ (m : NewWord). m.work.acts ≡ x.acts ++ act.Renew p.object p.word m.word ∷ []) (leads_here x.rest.partition p.word && (is_last x.rest.partition p.word && can_grow x.rest.partition)) _ (λ on. refl)) e

next_colour_is : (w : ℕ) → colour_of (next_word w) ≡ colour_of w + 1
next_colour_is w = omega arith

-- FRAMES

-- a box with another word shows the same
pub box_frame : (p : BoxPtr) (w : ℕ) (new : Value) → with_word w (value.Own (owned.Box p)) ≡ Some new → frame_of new ≡ frame_of (value.Own (owned.Box p))
box_frame p w new e = ap frame_of (sym (some_is e))

-- so does a reference with a mark
pub marked_frames : (vs : List Value) (i : ℕ) (a : MutRef) → slice_get vs i ≡ Some (value.Mut a) → SameFrames (note_slot vs i (slice_get vs i)) vs
marked_frames vs i a e = subst (λ o. SameFrames (note_slot vs i o) vs) (sym e) (set_frames vs i (value.Mut a) (value.Mut (record a { dirty = true })) e refl)

some_true : (m : ℕ) → 1 ≤ m → some m ≡ true
some_true zero l = absurd (omega (arith, l))
some_true (suc m) l = refl

or_some : (b : Bool) (i j : ℕ) → j ≡ i + one b → b || some i ≡ some j
or_some true i j e = sym (some_true j (omega (arith, e)))
or_some false i j e = ap some (omega (arith, e))

module _ (k : Cluster) (coherent : IsCoherent k) (s : Server) (here : server_at k.servers s.rest.number ≡ Some s) (t : ℕ) (y : ThreadState) (at : thread_in s.threads t ≡ Some y) (c0 : Coloured) (is_coloured : StandsColoured k c0) where
  abbrev n : ℕ
  n = s.rest.number

  abbrev e : ℕ
  e = s.events + 1

  abbrev O : Hand → Type 0
  O = Fits k coherent s here t y at

  abbrev P : Hand → Cluster
  P = put k coherent s here t y at

  abbrev St : Hand → Type 0
  St = State k coherent s here t y at

  abbrev G : Hand → NewWords → Type 0
  G = Given k coherent s here t y at c0 is_coloured

  abbrev W : NewWords → ObjNo → ℕ
  W = words_by k coherent s here t y at c0 is_coloured

  abbrev colours : ℕ
  colours = k.options.colours

  abbrev answers : Answers
  answers = q0 k coherent s here t y at c0 is_coloured

  abbrev spread : (h : Hand) → O h → HasPlaces (P h)
  spread h g = places k coherent s here t y at h g

  abbrev stand : (h : Hand) → O h → StandsHere k n s.threads h
  stand h g = stands k coherent s here t y at h g

  begun : HasPlaces k
  begun = record { numbers_differ = coherent.sound.names.numbers_differ; home_of_each = coherent.sound.one_home.home_of_each; owner_of_each = coherent.sound.one_owner.owner_of_each }

  -- the pointer through which an object is written, in the hand's cluster
  pub rewrites : (h h2 : Hand) (st : St h) → O h2 → (l : Location) (o : ObjNo) (w : ℕ) → IsWritten k l o → Reworded (P h) (P h2) l o w → Rewrites (P h) (P h2) l o w
  rewrites h h2 st g2 l o w written r = record {
    before = spread h st.ok;
    only = are_only.soles (P h) l o (soles_stay.soles k (P h) l o begun (spread h st.ok) st.onward.outlines written.sole);
    fresh = st.onward.fresh l o written.sole written.fresh;
    firsts = st.onward.words.first_at_holder;
    places = spread h2 g2;
    reworded = r;
  }

  -- the word today of a pointer through which an object is written
  pub word_now : (h : Hand) (st : St h) (l : NewWords) → G h l → (u : Location) (v : Value) (p : BoxPtr) → IsWritten k u p.object → value_in (sight (P h)).ground u ≡ Some v → pointer_of v ≡ Some p → p.word ≡ W l p.object
  word_now h st l g u v p written stood pointer = fresh_word (P h) (g.rewords).after u v p stood pointer (st.onward.fresh u p.object written.sole written.fresh) ∙ (g.rewords).word p.object

  abbrev others : List Thing
  others = all_standing n (without_thread s.threads t) ++ servers_things (others_of k.servers n)

  puts : (sp : Spot) (nw : NewWord) (h h2 : Hand) → O (record h { work = nw.work }) → put_word sp nw h ≡ Some h2 → O h2
  puts sp nw h h2 g q = given_by O (put_word sp nw h) h2 (puts_word sums_kept n s.events t others sp nw h g) q

  tint_ok : (p : BoxPtr) (h : Hand) → O h → O (record h { work = (issue_tint p h.work).work })
  tint_ok p h g = record { number = g.number; thread = g.thread; bag = g.bag }

  abbrev Known : Hand → BoxPtr → Cell → Type 0
  Known = Boxed k coherent s here t y at

  -- WHAT IS KNOWN WHERE A PLACE LEADS

  -- at a cell the word is that of its object
  abbrev pub WordAt : NewWords → Spot → Location → Type 0
  WordAt l (in_cell w q) m = (o : ObjNo) → m ≡ in_object o → w ≡ W l o
  WordAt l sp m = ⊤

  pub record Led (h : Hand) (sp : Spot) (m : Location) : Type 0 where
    pub words : NewWords
    pub given : G h words
    pub word : WordAt words sp m

  -- an object is asked for, which lies elsewhere
  pub record Wishes (h : Hand) : Type 0 where
    pub pointer : BoxPtr
    pub hand : Hand
    pub asks : h ≡ ask_object pointer hand
    pub state : St hand
    pub words : NewWords
    pub given : G hand words
    pub named : Named (recoloured words answers) pointer.object pointer.word
    pub away : lies_at n named.living.place ≡ false

  -- ready so, or asked for so
  abbrev pub LedAll : Location → Prepared → Type 0
  LedAll m (ready h sp) = Led h sp m
  LedAll m (requested h) = Wishes h
  LedAll m nothing = ⊤

  -- the word of an object that just got it
  its_new : (l : NewWords) (o p : ObjNo) (w : ℕ) → p ≡ o → W ((o, w) ∷ l) p ≡ w
  its_new l o p w same = ap (λ b. if b then w else W l p) (itself p o same)

  other_words : (l : NewWords) (o : ObjNo) (w : ℕ) (p : ObjNo) → (p ≡ o) ⊎ (W ((o, w) ∷ l) p ≡ W l p)
  other_words l o w p = by (same_object p o) refl
    where
      by : (b : Bool) → same_object p o ≡ b → (p ≡ o) ⊎ (W ((o, w) ∷ l) p ≡ W l p)
      by true f = inl (named p o f)
      by false f = inr (ap (λ b. if b then w else W l p) f)

  -- THE NEXT COLOUR

  module _ (h h2 : Hand) (st : St h) (l : NewWords) (g : G h l) (ok2 : O h2) (p : BoxPtr) (pt : Pointed k coherent p) (now : p.word ≡ W l p.object) (u : Location) (rw : Rewrites (P h) (P h2) u p.object (next_word p.word)) (lying : Lies (P h) p.object)
      (low : nat_lt (colour_of p.word + 1) h.work.rest.partition.limit ≡ true) (limit : h.work.rest.partition.limit ≡ colours) (noted : h2.work.acts ≡ h.work.acts ++ act.Tint p.object p.word (next_word p.word) ∷ [])
      (parts : (f : Thing → ℕ) → Blind f → tot f (partition_things n h2.work.rest.partition) ≡ tot f (partition_things n h.work.rest.partition))
      (issues : (i : ObjNo → ℕ) (v : ℕ) → tot (issued_by i colours v) (partition_things n h2.work.rest.partition) ≡ tot (issued_by i colours v) (partition_things n h.work.rest.partition)) (frames : SameFrames h2.thread.slots h.thread.slots)
      (rest : h2.work.rest ≡ record h.work.rest { partition = h2.work.rest.partition }) (thread : h2.thread ≡ record h.thread { slots = h2.thread.slots; temps = h2.thread.temps }) where
    abbrev o : ObjNo
    o = p.object

    abbrev w : ℕ
    w = next_word p.word

    rest2 : h2.work.rest ≡ record s.rest { partition = h2.work.rest.partition }
    rest2 = rest ∙ ap (λ (x : Rest). record x { partition = h2.work.rest.partition }) g.rest

    one_more : (v : ℕ) → (w == v) || some (tot (issued_by (W l) colours v) (things_of (P h))) ≡ some (tot (issued_by (W ((o, w) ∷ l)) colours v) (things_of (P h2)))
    one_more v =
        ap (λ i. (next_word i == v) || some (tot (issued_by (W l) colours v) (things_of (P h)))) now
        ∙ one_word_more (things_of (P h)) (W l) (W ((o, w) ∷ l)) o colours (λ q a c m. subst (LeadsTo q a) ((g.rewords).word c.object) ((g.rewords).after.home q a c m)) lying.server lying.address lying.there.cell lying.there.among lying.there.object
        (its_new l o o w refl ∙ ap next_word now) (other_words l o w) v
        ∙ ap some
        (omega (
          arith,
          issue_sums k coherent s here t y at c0 is_coloured (W ((o, w) ∷ l)) v h st.ok g.frames g.rest,
          issue_sums k coherent s here t y at c0 is_coloured (W ((o, w) ∷ l)) v h2 ok2 (frames ∙ g.frames) rest2,
          issues (W ((o, w) ∷ l)) v,
        ))

    pub tint_comes : G h2 ((o, w) ∷ l)
    tint_comes = given_word k coherent s here t y at c0 is_coloured h h2 l g o w (act.Tint o p.word w) (record {
      location = u;
      rewrites = rw;
      acts = noted;
      allowed = λ ev own d f.
          tint_allowed k.options ev d answers l o p.word f (named_now k coherent s here t y at c0 is_coloured l p pt now) refl (ap₂ nat_lt (next_colour_is p.word) (sym limit) ∙ low)
          (next_unissued k coherent s here t y at c0 is_coloured h st.ok l g lying.server lying.address p lying.there now);
      issues = one_more;
      blind = parts;
      frames = frames;
      rest = rest;
      thread = thread;
    })

  -- ANOTHER ADDRESS

  module _ (h : Hand) (p : BoxPtr) (c : Cell) (b : Known h p c) (nw : NewWord) (issued_so : issue_renewal p h.work ≡ Some nw) where
    abbrev Q : PartitionState
    Q = h.work.rest.partition

    abbrev hm : Hand
    hm = record h { work = nw.work }

    pub left : (nw.word ≡ new_word (freed Q p.word)) × (nw.work.rest ≡ record h.work.rest { partition = renewed Q p.word }) × (colour_of p.word + 1 ≡ Q.limit)
    left = renewed_work p h.work nw issued_so

    vacant_next : NextIsVacant (freed Q p.word)
    vacant_next = next_vacant Q p.word b.sane left.2

    pub given : Issued Q nw.work.rest.partition nw.word c
    given =
        let r = renewal_issued p h.work c b.sane b.leads left.2 b.room in
        let same : r.0 ≡ nw = some_is (sym r.1 ∙ issued_so) in
        subst (λ (x : NewWord). Issued Q x.work.rest.partition x.word c) same r.2.given

    pub moved_ok : O hm
    moved_ok = given_by (λ (m : NewWord). O (record h { work = m.work })) (issue_renewal p h.work) nw (hand_renews sums_kept n s.events t others p h b.state.ok) issued_so

    its_number : Q.server ≡ n
    its_number = b.later.server ∙ (its_partition k coherent.sound n s here).0

    its_limit : Q.limit ≡ colours
    its_limit = b.later.limit ∙ (its_partition k coherent.sound n s here).1

    its_server : server_of nw.word ≡ n
    its_server = given.new.server ∙ given.server ∙ its_number

    pub renewal : Renewal k n s.threads e h p nw
    renewal = record {
      stands = stand h b.state.ok;
      cell = c;
      here = looks Q p.word c b.leads;
      object = b.object;
      room = vacant_next;
      issued = issued_so;
      before = spread h b.state.ok;
      moved = spread hm moved_ok;
      home = home_under k coherent s here t y at hm moved_ok nw.word c p.object b.object given.new.there its_server;
    }

    small : (next_place (freed Q p.word)).0 < 2 ^ 40
    small =
        let as_long : length (freed Q p.word).cells ≡ length Q.cells = length-set Q.cells (address_of p.word) None in
        let m = vacant_next.within in
        let r = b.room in
        omega (arith, m, r, as_long)

    -- its word wasn't issued when the event began
    pub renewed_was : issued (sight k) nw.word ≡ false
    renewed_was = ap (issued (sight k)) left.0 ∙ renewal_unissued k coherent.sound n s here Q p.word b.later left.2 b.sane.small small

    -- its partition is that one, but for a word that is put in a cell
    module _ (h2 : Hand) (l : NewWords) (g : G h l) (ok2 : O h2) (pt : Pointed k coherent p) (now : p.word ≡ W l p.object) (u : Location) (rw : Rewrites (P h) (P h2) u p.object nw.word)
        (noted : h2.work.acts ≡ nw.work.acts) (parts : (f : Thing → ℕ) → Blind f → tot f (partition_things n h2.work.rest.partition) ≡ tot f (partition_things n nw.work.rest.partition))
        (issues : (i : ObjNo → ℕ) (v : ℕ) → tot (issued_by i colours v) (partition_things n h2.work.rest.partition) ≡ tot (issued_by i colours v) (partition_things n nw.work.rest.partition)) (frames : SameFrames h2.thread.slots h.thread.slots)
        (rest : h2.work.rest ≡ record h.work.rest { partition = h2.work.rest.partition }) (thread : h2.thread ≡ record h.thread { slots = h2.thread.slots; temps = h2.thread.temps }) where
      abbrev was : ObjNo → ℕ
      was = W l

      abbrev is : ObjNo → ℕ
      is = W ((p.object, nw.word) ∷ l)

      rest_now : h2.work.rest ≡ record s.rest { partition = h2.work.rest.partition }
      rest_now = rest ∙ ap (λ (x : Rest). record x { partition = h2.work.rest.partition }) g.rest

      renewed_parts : nw.work.rest.partition ≡ renewed Q p.word
      renewed_parts = ap (λ (x : Rest). x.partition) left.1

      count : (v : ℕ) → tot (issued_by is colours v) (things_of (P h2)) ≡ tot (issued_by was colours v) (things_of (P h)) + one (nw.word == v)
      count v =
          renewal_issues n Q p.word c b.leads.there b.sane its_number left.2 small p.object b.object was is colours v its_limit (sym now) (its_new l p.object p.object nw.word refl ∙ left.0) (things_of (P h)) (things_of (P h2)) (lies_here k coherent s here t y at h b.state.ok p.word c b.leads)
          ((spread h b.state.ok).home_of_each p.object) (other_words l p.object nw.word)
          (omega (
            arith,
            issue_sums k coherent s here t y at c0 is_coloured is v h b.state.ok g.frames g.rest,
            issue_sums k coherent s here t y at c0 is_coloured is v h2 ok2 (frames ∙ g.frames) rest_now,
            issues is v,
            ap (λ q. tot (issued_by is colours v) (partition_things n q)) renewed_parts,
          ))
          ∙ ap (λ i. tot (issued_by was colours v) (things_of (P h)) + one (i == v)) (sym left.0)

      unissued : (recoloured l answers).issued nw.word ≡ false
      unissued =
          once_more k coherent s here t y at c0 is_coloured h h2 ok2 l ((p.object, nw.word) ∷ l) g nw.word
          (count nw.word ∙ ap (λ q. tot (issued_by was colours nw.word) (things_of (P h)) + one q) (eq-eqb nw.word nw.word refl))

      pub renewal_comes : G h2 ((p.object, nw.word) ∷ l)
      renewal_comes = given_word k coherent s here t y at c0 is_coloured h h2 l g p.object nw.word (act.Renew p.object p.word nw.word) (record {
        location = u;
        rewrites = rw;
        acts = noted ∙ renewal_acts p h.work nw issued_so;
        allowed = λ ev own d f.
            renew_allowed k.options ev d answers l p.object p.word nw.word f (named_now k coherent s here t y at c0 is_coloured l p pt now)
            (lies_so k coherent s here t y at c0 is_coloured p pt n ev.server true own (eq-eqb (server_of p.word) n (b.leads.server ∙ its_number))) (eq-eqb (colour_of p.word + 1) colours (left.2 ∙ its_limit))
            (eq-eqb (server_of nw.word) ev.server (its_server ∙ sym own)) (let below = given.new.colour in let same = given.limit in grind (arith, nat_tests, below, same, its_limit)) unissued;
        issues = λ v. or_some (nw.word == v) (tot (issued_by was colours v) (things_of (P h))) (tot (issued_by is colours v) (things_of (P h2))) (count v);
        blind = λ f m. parts f m ∙ ap (λ q. tot f (partition_things n q)) renewed_parts ∙ renewed_blind n Q p.word c b.leads.there b.sane its_number left.2 f m;
        frames = frames;
        rest = rest;
        thread = thread;
      })
