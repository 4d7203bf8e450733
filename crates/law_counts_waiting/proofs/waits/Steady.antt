-- Who has taken an object has it, under a word that the pointer doesn't have that the place follows last, after each event that words don't see.
use Rattle.std.proofs.Common.{◌≡◌, ℕ, zero, suc, ◌+◌, ◌≤◌, ◌==◌, ◌&&◌, not, Bool, true, false, List, [], ◌∷◌, Option, Some, None, is_some, option_map, refl, sym, ap, subst, ◌∙◌, arith}
use Rattle.std.specs.Prelude.{⊤, slice_get}
use Rattle.law_counts_asking.specs.Below.fr_base.declared.name.ObjNo.{ObjNo}
use Rattle.law_counts_asking.specs.Below.fr_base.declared.place.Lval.{Lval}
use Rattle.law_counts_asking.specs.Below.fr_base.declared.instruction.Instr.{Instr}
use Rattle.law_counts_asking.specs.Below.heap_partition.declared.value.Cell.{Cell}
use Rattle.law_counts_asking.specs.Below.heap_partition.declared.value.Owned.TheVariants as owned
use Rattle.law_counts_asking.specs.Below.migration.Packing.{packed}
use Rattle.law_counts_asking.specs.Below.thread_state.View.{ThreadState, new_thread}
use Rattle.law_counts_asking.specs.Below.thread_state.declared.phase.Phase.{Phase}
use Rattle.law_counts_asking.specs.Below.thread_state.declared.phase.Phase.TheVariants as phase
use Rattle.law_counts_asking.specs.Below.thread_state.declared.value.Value.{Value}
use Rattle.law_counts_asking.specs.Below.thread_state.declared.value.Value.TheVariants as value
use Rattle.law_counts_asking.specs.Below.server_msgs.declared.message.Message.{Message}
use Rattle.law_counts_asking.specs.Below.server_msgs.declared.message.Message.TheVariants as message
use Rattle.law_counts_asking.specs.Below.journal.View.{EntryView}
use Rattle.law_counts_asking.specs.Below.server_model.declared.event.Event.{Event}
use Rattle.law_counts_asking.specs.Below.server_model.declared.event.What.{What}
use Rattle.law_counts_asking.specs.Below.server_model.declared.event.What.TheVariants.{Deliver}
use Rattle.law_counts_asking.specs.Below.server_model.Prepare.{is_taken}
use Rattle.law_counts_asking.specs.Below.server_model.Servers.{Server, Cluster, server_at}
use Rattle.law_counts_asking.specs.Below.server_model.Work.{Hand, thread_in, then_some}
use Rattle.law_counts_asking.specs.Below.server_model.Objects.{waits_for_cell, filled, deliver_fetched}
use Rattle.law_counts_asking.specs.Below.server_model.Events.{Stepped, can_step, has_phase, is_ready, begin_work, received, step}
use Rattle.law_counts_asking.specs.Below.server_model.Clusters.{apply}
use Rattle.law_counts_asking.specs.Below.coherent_memory.Names.{tot, one, other, some, if_so, same_object, Among}
use Rattle.law_counts_asking.specs.Below.coherent_memory.Things.{Location, at_slot, at_temp, in_cell, Thing, holds, shares, borrows, locks, lies, flies, vacant, retired, copied, uses, sent, stands, at_home, queued, noted, counts, things_of}
use Rattle.law_counts_asking.specs.Below.coherent_memory.Follow.{Standing, Ground, threads_in, thread_at, value_in, value_behind, leads, locate, place_at, hop_at}
use Rattle.law_counts_asking.specs.Below.coherent_memory.Sight.{Sight, sight, is_word, word}
use Rattle.law_counts_asking.specs.Below.coherent_memory.Placing.{sum_over}
use Rattle.law_counts_asking.specs.Below.coherent_memory.Weights.{lies_at}
use Rattle.law_counts_asking.specs.Below.coherent_memory.Walking.{instr_of}
use Rattle.law_counts_asking.specs.Below.coherent_memory.Requests.{in_phase, lent_place, lies_here, taken_there, taken_phase, has_word, last_hop, taken_again, old_word}
use Rattle.law_counts_asking.specs.Below.coherent_memory.Words.{HasWords, WordsLaw}
use Rattle.law_counts_asking.specs.Below.coherent_memory.Coherent.{IsSound, Holds, taken_stands, taken_is_new}
use Rattle.law_counts_asking.proofs.Below.coherent_memory.Names.{and_left, and_right, same_number}
use Rattle.law_counts_asking.proofs.Below.coherent_memory.Words.{none_at, none_all, named, itself, equal_numbers, words_law}
use Rattle.law_counts_asking.specs.Below.law_counts_sums.Kinds.{Kind, evicts, migrates, starts, arrives, fetch, fetched, asks_lock, granted, unlocked, asks_dup, dupped, released, asks_join, joined, finished, moved, step_print, step_arith, step_par_end, message_kind, kind_at}
use Rattle.law_counts_asking.specs.Below.law_counts_sums.Laws.{Gives, FewEvents}
use Rattle.law_counts_asking.proofs.Below.law_counts_sums.Results.{map_gives, test_gives, both_give, weaker}
use Rattle.law_counts_asking.proofs.Below.law_counts_sums.Sending.{applied_part}
use Rattle.law_words_asked.proofs.Below.law_heap_still.events.Told.{found}
use Rattle.law_words_asked.specs.Below.law_words_paths.words.Reworded.{HasPlaces}
use Rattle.law_words_asked.specs.Below.law_words_paths.words.Unmoved.{pointing, Untouched, LeavesWords, WordsStay}
use Rattle.law_words_asked.proofs.Below.law_words_paths.words.Follows.{seen_places_lead}
use Rattle.law_words_asked.proofs.Below.law_words_paths.words.Takings.{leads_pointing}
use Rattle.law_words_asked.proofs.Below.law_words_paths.words.Unmoved.{untouched_stays}
use Rattle.law_counts_asking.proofs.Below.law_counts_things.things.Goes.{Goes, thread_goes}
use Rattle.law_counts_asking.proofs.Below.law_counts_things.things.Handed.{Stood, InParcel}
use Rattle.law_words_asked.specs.Below.law_words_kept.stays.Laws.{IsOfKind}
use Rattle.law_words_asked.proofs.Below.law_words_kept.stays.Alike.{Alike}
use Rattle.law_words_asked.proofs.Below.law_words_kept.stays.Seen.{seen_alike}
use Rattle.law_words_asked.proofs.Below.law_words_kept.stays.StayKinds.{Stays, Seen, kind_seen}
use Rattle.law_counts_waiting.specs.waits.Steady.{IsSteady, EachSteadyEventKeeps}
use Rattle.law_counts_waiting.proofs.waits.Found.{Weighing, weighing, among_weighs}
use Rattle.law_counts_waiting.proofs.waits.Fates.{Fates, fated}
use Rattle.law_counts_waiting.proofs.waits.Takers.{step_untaken}

-- WHO HAD TAKEN SOMETHING

-- a weight of a thread by its phase that is nothing but in `Taken`
record ByTaking (h : Standing → Phase → ℕ) : Type 0 where
  untaken : (x : Standing) (p : Phase) → is_taken p ≡ false → h x p ≡ 0
  parcels : (n : ℕ) (t : ThreadState) (p : Phase) → h (record { server = n; packed = false; thread = t }) p ≡ h (record { server = n; packed = true; thread = t }) p

both_none : (b : Bool) (m n : ℕ) → m ≡ 0 → n ≡ 0 → if_so b m + if_so (not b) n ≡ 0
both_none true m n e f = omega (arith, e)
both_none false m n e f = omega (arith, f)

taken_none : (s : Sight) (x : Standing) (p : Phase) → is_taken p ≡ false → taken_phase s x p ≡ 0
taken_none s x (phase.Taken w) e = absurd (cc e)
taken_none s x phase.Ready e = refl
taken_none s x phase.Got e = refl
taken_none s x (phase.WaitCell w) e = refl
taken_none s x (phase.WaitLock m) e = refl
taken_none s x (phase.WaitDup m) e = refl
taken_none s x (phase.WaitJoin u) e = refl
taken_none s x (phase.WaitPar a b) e = refl
taken_none s x (phase.GotPar a b) e = refl
taken_none s x phase.Over e = refl

old_none : (s : Sight) (x : Standing) (p : Phase) → is_taken p ≡ false → old_word s x p ≡ 0
old_none s x (phase.Taken w) e = absurd (cc e)
old_none s x phase.Ready e = refl
old_none s x phase.Got e = refl
old_none s x (phase.WaitCell w) e = refl
old_none s x (phase.WaitLock m) e = refl
old_none s x (phase.WaitDup m) e = refl
old_none s x (phase.WaitJoin u) e = refl
old_none s x (phase.WaitPar a b) e = refl
old_none s x (phase.GotPar a b) e = refl
old_none s x phase.Over e = refl

taken_parcels : (s : Sight) (n : ℕ) (t : ThreadState) (p : Phase) → taken_phase s (record { server = n; packed = false; thread = t }) p ≡ taken_phase s (record { server = n; packed = true; thread = t }) p
taken_parcels s n t (phase.Taken w) = by (lent_place (slice_get s.code t.pc))
  where
    by : (o : Option Lval) → taken_there s (record { server = n; packed = false; thread = t }) w o ≡ taken_there s (record { server = n; packed = true; thread = t }) w o
    by None = refl
    by (Some p) = refl
taken_parcels s n t phase.Ready = refl
taken_parcels s n t phase.Got = refl
taken_parcels s n t (phase.WaitCell w) = refl
taken_parcels s n t (phase.WaitLock m) = refl
taken_parcels s n t (phase.WaitDup m) = refl
taken_parcels s n t (phase.WaitJoin u) = refl
taken_parcels s n t (phase.WaitPar a b) = refl
taken_parcels s n t (phase.GotPar a b) = refl
taken_parcels s n t phase.Over = refl

hop_parcels : (s : Sight) (n : ℕ) (t : ThreadState) (w : ℕ) (p : Lval) (d : ℕ) → last_hop s (record { server = n; packed = false; thread = t }) w p d ≡ last_hop s (record { server = n; packed = true; thread = t }) w p d
hop_parcels s n t w p zero = refl
hop_parcels s n t w p (suc d) = refl

old_parcels : (s : Sight) (n : ℕ) (t : ThreadState) (p : Phase) → old_word s (record { server = n; packed = false; thread = t }) p ≡ old_word s (record { server = n; packed = true; thread = t }) p
old_parcels s n t (phase.Taken w) = by (lent_place (slice_get s.code t.pc))
  where
    by : (o : Option Lval) → taken_again s (record { server = n; packed = false; thread = t }) w o ≡ taken_again s (record { server = n; packed = true; thread = t }) w o
    by None = refl
    by (Some p) = ap one (hop_parcels s n t w p p.depth)
old_parcels s n t phase.Ready = refl
old_parcels s n t phase.Got = refl
old_parcels s n t (phase.WaitCell w) = refl
old_parcels s n t (phase.WaitLock m) = refl
old_parcels s n t (phase.WaitDup m) = refl
old_parcels s n t (phase.WaitJoin u) = refl
old_parcels s n t (phase.WaitPar a b) = refl
old_parcels s n t (phase.GotPar a b) = refl
old_parcels s n t phase.Over = refl

taken_by : (s : Sight) → ByTaking (λ x p. taken_phase s x p)
taken_by s = record { untaken = taken_none s; parcels = taken_parcels s }

old_by : (s : Sight) → ByTaking (λ x p. old_word s x p)
old_by s = record { untaken = old_none s; parcels = old_parcels s }

module _ (k : Cluster) (h : Standing → Phase → ℕ) where
  -- in k that thread had taken something
  abbrev pub was : Standing → Bool
  was x = in_phase is_taken (thread_at (sight k).ground.threads x.thread.number)

  -- it weighs so where it had, and else one where it has now
  abbrev pub weight : Standing → ℕ
  weight x = if_so (was x) (h x x.thread.phase) + if_so (not (was x)) (one (is_taken x.thread.phase))

  module _ (by : ByTaking h) where
    none : (x : Standing) → is_taken x.thread.phase ≡ false → weight x ≡ 0
    none x e = both_none (was x) (h x x.thread.phase) (one (is_taken x.thread.phase)) (by.untaken x x.thread.phase e) (ap one e)

    -- before the event
    before : IsSound k → tot (λ x. h x x.thread.phase) (threads_in (things_of k)) ≡ 0 → tot weight (threads_in (things_of k)) ≡ 0
    before sound z = none_all weight (threads_in (things_of k)) (λ x among. each x among (is_taken x.thread.phase) refl)
      where
        each : (x : Standing) → Among x (threads_in (things_of k)) → (b : Bool) → is_taken x.thread.phase ≡ b → weight x ≡ 0
        each x among false e = none x e
        each x among true e =
            let there : thread_at (sight k).ground.threads x.thread.number ≡ Some x = found x (things_of k) (sound.names.numbers_differ x.thread.number) among in
            let is : was x ≡ true = ap (in_phase is_taken) there ∙ e in
            let own : h x x.thread.phase ≡ 0 = none_at (λ y. h y y.thread.phase) x (threads_in (things_of k)) z among in
            let whole : weight x ≡ h x x.thread.phase + 0 = ap (λ b. if_so b (h x x.thread.phase) + if_so (not b) (one (is_taken x.thread.phase))) is in
            omega (arith, whole, own)

    -- a thread of the server that stands, or a parcel
    module _ (e : Event) (kind : Kind) (steady : IsSteady kind) (s : Server) (here : kind_at k e.what s ≡ Some kind) where
      same_kind : {a b : Kind} → Some a ≡ Some b → b ≡ a
      same_kind e = cc

      no_object : (i t v : ℕ) (c : Cell) → e.what ≡ Deliver i → slice_get s.rest.inbox i ≡ Some (message.Moved v c t) → ⊥
      no_object i t v c is there =
          let at : option_map message_kind (slice_get s.rest.inbox i) ≡ Some kind = sym (ap (λ z. kind_at k z s) is) ∙ here in
          let q : Some moved ≡ Some kind = sym (ap (option_map message_kind) there) ∙ at in
          subst IsSteady (same_kind q) steady

      fates : Fates k.code k.options s e.what (Stood weight s.rest.number) (InParcel weight)
      fates = record {
        steps = λ t y i is able there p code.
            weaker (λ (d : Stepped). Goes k.code y d.hand.thread) (λ (d : Stepped). Stood weight s.rest.number d.hand.thread) (step k.options.servers i (record { work = begin_work s.rest; thread = y }))
            (thread_goes k.code k.options.servers i y code s.rest (record { work = begin_work s.rest; thread = y }) refl)
            (λ d g. none (record { server = s.rest.number; packed = false; thread = d.hand.thread }) (step_untaken (subst (λ o. has_phase can_step o ≡ true) there able) g));
        comes = λ i t v c y is there at p. absurd (no_object i t v c is there);
        copied = λ i t v c y is there at p.
            test_gives (λ (h2 : Hand). Stood weight s.rest.number h2.thread) (waits_for_cell y.phase v) _ (λ z.
            map_gives (λ (h2 : Hand). Stood weight s.rest.number h2.thread) (filled v c (record { work = (received i s).work; thread = y })) _ (λ h2 q. none (record { server = s.rest.number; packed = false; thread = record h2.thread { phase = phase.Got } }) refl));
        given_it = λ t y v at p a. none (record { server = s.rest.number; packed = false; thread = record y { gift = Some v; phase = phase.Got } }) refl;
        paired = λ t a b y at p q. none (record { server = s.rest.number; packed = false; thread = record y { phase = phase.GotPar a b } }) refl;
        arrives = λ t q. ap (λ m. if_so (was (record { server = s.rest.number; packed = false; thread = t })) m + if_so (not (was (record { server = s.rest.number; packed = false; thread = t }))) (one (is_taken t.phase))) (by.parcels s.rest.number t t.phase) ∙ q;
        starts = λ t n y i u pc vs at p there d. none (record { server = n; packed = true; thread = new_thread u pc vs }) refl;
        leaves = λ t n y at p r. none (record { server = n; packed = true; thread = packed (record y { moved_since_step = true }) }) (ready_untaken y.phase r);
      }
        where
          ready_untaken : (p : Phase) → is_ready p ≡ true → is_taken p ≡ false
          ready_untaken phase.Ready r = refl
          ready_untaken p r = absurd (cc r)

    -- after a steady event
    held : (kind : Kind) → IsSteady kind → (e : Event) → IsOfKind kind k e → IsSound k → FewEvents k → tot (λ x. h x x.thread.phase) (threads_in (things_of k)) ≡ 0 → Gives (λ (d : Cluster × EntryView). tot weight (threads_in (things_of d.0)) ≡ 0) (apply k e)
    held kind steady e q sound few z =
        fated weight k e sound few (before sound z) (λ s here. fates e kind steady s (subst (λ o. then_some o (kind_at k e.what) ≡ Some kind) here q))

-- PLACES AND WORDS

no_temp : (t : ℕ) (v : Option Value) (u i : ℕ) → leads t v ≡ Some (at_temp u i) → ⊥
no_temp t None u i e = absurd (cc e)
no_temp t (Some value.Gone) u i e = absurd (cc e)
no_temp t (Some (value.Own (owned.Box p))) u i e = absurd (cc e)
no_temp t (Some (value.Own owned.Nothing)) u i e = absurd (cc e)
no_temp t (Some (value.Own owned.Unit)) u i e = absurd (cc e)
no_temp t (Some (value.Own (owned.Int n))) u i e = absurd (cc e)
no_temp t (Some (value.Own (owned.Mutex m))) u i e = absurd (cc e)
no_temp t (Some (value.Own (owned.Task m))) u i e = absurd (cc e)
no_temp t (Some (value.SharedSlot j)) u i e = absurd (cc e)
no_temp t (Some (value.MutSlot j)) u i e = absurd (cc e)
no_temp t (Some (value.Shared r)) u i e = absurd (cc e)
no_temp t (Some (value.Mut r)) u i e = absurd (cc e)
no_temp t (Some (value.Held m)) u i e = absurd (cc e)

place_no_temp : (g : Ground) (t slot n u i : ℕ) → locate g t slot n ≡ Some (at_temp u i) → ⊥
place_no_temp g t slot zero u i e = absurd (cc e)
place_no_temp g t slot (suc n) u i e = no_temp t (value_behind g (locate g t slot n)) u i e

word_pointing : (w : ℕ) (v : Option Value) → has_word w (pointing v) ≡ has_word w v
word_pointing w None = refl
word_pointing w (Some value.Gone) = refl
word_pointing w (Some (value.Own (owned.Box p))) = refl
word_pointing w (Some (value.Own owned.Nothing)) = refl
word_pointing w (Some (value.Own owned.Unit)) = refl
word_pointing w (Some (value.Own (owned.Int n))) = refl
word_pointing w (Some (value.Own (owned.Mutex m))) = refl
word_pointing w (Some (value.Own (owned.Task m))) = refl
word_pointing w (Some (value.SharedSlot j)) = refl
word_pointing w (Some (value.MutSlot j)) = refl
word_pointing w (Some (value.Shared r)) = refl
word_pointing w (Some (value.Mut r)) = refl
word_pointing w (Some (value.Held m)) = refl

none_true : (b : Bool) → other b ≡ 0 → b ≡ true
none_true true z = refl
none_true false z = absurd (cc z)

some_one : (m : ℕ) → some m ≡ true → 1 ≤ m
some_one zero e = absurd (cc e)
some_one (suc m) e = omega arith

one_some : (m : ℕ) → 1 ≤ m → some m ≡ true
one_some zero l = absurd (omega (arith, l))
one_some (suc m) l = refl

truly : (b : Bool) → 1 ≤ one b → b ≡ true
truly true l = refl
truly false l = absurd (omega (arith, l))

-- the object lies there
record LiesIn (r : ℕ) (o : ObjNo) (b : List Thing) : Type 0 where
  address : ℕ
  cell : Cell
  among : Among (lies r address cell) b
  object : cell.object ≡ o

lies_in : (r : ℕ) (o : ObjNo) (b : List Thing) → 1 ≤ tot (lies_at r o) b → LiesIn r o b
lies_in r o b l = let y = weighing (lies_at r o) b l in by y.thing y.among y.weighs
  where
    by : (x : Thing) → Among x b → 1 ≤ lies_at r o x → LiesIn r o b
    by (lies s a c) h w =
        let both = truly (s == r && same_object c.object o) w in
        record { address = a; cell = c; among = subst (λ n. Among (lies n a c) b) (same_number s r (and_left (s == r) (same_object c.object o) both)) h; object = named c.object o (and_right (s == r) (same_object c.object o) both) }
    by (flies v c) h w = absurd (omega (arith, w))
    by (noted s t) h w = absurd (omega (arith, w))
    by (stands s p t) h w = absurd (omega (arith, w))
    by (holds q u) h w = absurd (omega (arith, w))
    by (shares l r) h w = absurd (omega (arith, w))
    by (borrows l r) h w = absurd (omega (arith, w))
    by (locks l m) h w = absurd (omega (arith, w))
    by (vacant s a c) h w = absurd (omega (arith, w))
    by (retired s a) h w = absurd (omega (arith, w))
    by (copied s c) h w = absurd (omega (arith, w))
    by (uses s u) h w = absurd (omega (arith, w))
    by (sent s m) h w = absurd (omega (arith, w))
    by (at_home s m) h w = absurd (omega (arith, w))
    by (queued m s u) h w = absurd (omega (arith, w))
    by (counts s a d c m e) h w = absurd (omega (arith, w))

-- AFTERWARDS

module _ (k c : Cluster) (sound : IsSound k) (after : HasPlaces c) (code : c.code ≡ k.code) (alike : Alike k.code (things_of k) (things_of c)) where
  abbrev G : Ground
  G = (sight k).ground

  abbrev G2 : Ground
  G2 = (sight c).ground

  abbrev here : HasPlaces k
  here = record { numbers_differ = sound.names.numbers_differ; home_of_each = sound.one_home.home_of_each; owner_of_each = sound.one_owner.owner_of_each }

  untouched : Untouched k c
  untouched = seen_alike k c here after code alike

  in_slots : (t u i : ℕ) → leads t (value_in G2 (at_slot u i)) ≡ leads t (value_in G (at_slot u i))
  in_slots t u i = sym (leads_pointing t (value_in G2 (at_slot u i))) ∙ ap (leads t) (let y = untouched in y.stands (at_slot u i)) ∙ leads_pointing t (value_in G (at_slot u i))

  in_cells : (t : ℕ) (o : ObjNo) → leads t (value_in G2 (in_cell o)) ≡ leads t (value_in G (in_cell o))
  in_cells t o = sym (leads_pointing t (value_in G2 (in_cell o))) ∙ ap (leads t) (let y = untouched in y.stands (in_cell o)) ∙ leads_pointing t (value_in G (in_cell o))

  place_same : (t slot n : ℕ) → locate G2 t slot n ≡ locate G t slot n
  place_same t slot n = seen_places_lead G G2 in_slots in_cells t slot n

  words : WordsStay (sight k) (sight c) sound.words.have_words
  words = let stays : LeavesWords k c = untouched_stays k c here after untouched in stays.words sound.words.have_words

  -- where an object lies it has the word that it had
  word_same : (r a : ℕ) (d : Cell) → Among (lies r a d) (things_of k) → Among (lies r a d) (things_of c) → word (sight c) d.object ≡ word (sight k) d.object
  word_same r a d h h2 =
      let law : WordsLaw = words_law in
      let was_words = sound.words.have_words in
      let w = words in
      let is_words = w.after in
      law.first_tells c is_words d.object (is_words.live r a d h2) ∙ ap Some (w.same d.object) ∙ sym (law.first_tells k was_words d.object (was_words.live r a d h))

  lies_then : (r w : ℕ) (l : Option Location) → other (lies_here (sight k) r w l) ≡ 0 → other (lies_here (sight c) r w l) ≡ 0
  lies_then r w None z = absurd (cc z)
  lies_then r w (Some (at_slot t i)) z = absurd (cc z)
  lies_then r w (Some (at_temp t i)) z = absurd (cc z)
  lies_then r w (Some (in_cell o)) z =
      let both = none_true (is_word (word (sight k) o) w && some (sum_over (sight k) (lies_at r o))) z in
      let first = and_left (is_word (word (sight k) o) w) (some (sum_over (sight k) (lies_at r o))) both in
      let lay = lies_in r o (things_of k) (some_one (sum_over (sight k) (lies_at r o)) (and_right (is_word (word (sight k) o) w) (some (sum_over (sight k) (lies_at r o))) both)) in
      let there : Among (lies r lay.address lay.cell) (things_of c) = alike.on (lies r lay.address lay.cell) lay.among in
      let same : word (sight c) o ≡ word (sight k) o = subst (λ q. word (sight c) q ≡ word (sight k) q) lay.object (word_same r lay.address lay.cell lay.among there) in
      let mine : lies_at r o (lies r lay.address lay.cell) ≡ 1 = subst (λ q. lies_at r q (lies r lay.address lay.cell) ≡ 1) lay.object (ap one (itself_there r lay.cell.object)) in
      let sum : some (sum_over (sight c) (lies_at r o)) ≡ true = one_some (sum_over (sight c) (lies_at r o)) (omega (arith, mine, among_weighs (lies_at r o) (lies r lay.address lay.cell) (things_of c) there)) in
      ap other (both_true (is_word (word (sight c) o) w) (some (sum_over (sight c) (lies_at r o))) (ap (λ q. is_word q w) same ∙ first) sum)
    where
      both_true : (p q : Bool) → p ≡ true → q ≡ true → (p && q) ≡ true
      both_true true q a b = b
      both_true false q a b = absurd (cc a)

      itself_there : (r : ℕ) (o : ObjNo) → (r == r && same_object o o) ≡ true
      itself_there r o = both_true (r == r) (same_object o o) (equal_numbers r r refl) (itself o o refl)

  there_then : (x : Standing) (w : ℕ) (o : Option Lval) → taken_there (sight k) x w o ≡ 0 → taken_there (sight c) x w o ≡ 0
  there_then x w None z = absurd (cc z)
  there_then x w (Some p) z = ap (λ l. other (lies_here (sight c) x.server w l)) (place_same x.thread.number p.slot p.depth) ∙ lies_then x.server w (place_at G x.thread.number p) z

  -- the pointer that a star follows has the word that it had
  hop_same : (t w : ℕ) (p : Lval) (n : ℕ) → has_word w (hop_at G2 t p n) ≡ has_word w (hop_at G t p n)
  hop_same t w p n = ap (λ l. has_word w (value_behind G2 l)) (place_same t p.slot n) ∙ by (locate G t p.slot n) refl
    where
      by : (l : Option Location) → locate G t p.slot n ≡ l → has_word w (value_behind G2 l) ≡ has_word w (value_behind G l)
      by None e = refl
      by (Some (at_slot u i)) e = sym (word_pointing w (value_in G2 (at_slot u i))) ∙ ap (has_word w) (let y = untouched in y.stands (at_slot u i)) ∙ word_pointing w (value_in G (at_slot u i))
      by (Some (in_cell o)) e = sym (word_pointing w (value_in G2 (in_cell o))) ∙ ap (has_word w) (let y = untouched in y.stands (in_cell o)) ∙ word_pointing w (value_in G (in_cell o))
      by (Some (at_temp u i)) e = absurd (place_no_temp G t p.slot n u i e)

  last_same : (x : Standing) (w : ℕ) (p : Lval) (d : ℕ) → last_hop (sight c) x w p d ≡ last_hop (sight k) x w p d
  last_same x w p zero = refl
  last_same x w p (suc n) = hop_same x.thread.number w p n

  again_then : (x : Standing) (w : ℕ) (o : Option Lval) → taken_again (sight k) x w o ≡ 0 → taken_again (sight c) x w o ≡ 0
  again_then x w None z = refl
  again_then x w (Some p) z = ap one (last_same x w p p.depth) ∙ z

  -- who has taken something had taken it before
  had : (h : Standing → Phase → ℕ) (x : Standing) (w : ℕ) → x.thread.phase ≡ phase.Taken w → weight k h x ≡ 0 → h x (phase.Taken w) ≡ 0
  had h x w e z = by (was k h x) (subst (λ p. if_so (was k h x) (h x p) + if_so (not (was k h x)) (one (is_taken p)) ≡ 0) e z)
    where
      by : (b : Bool) → if_so b (h x (phase.Taken w)) + if_so (not b) (one (is_taken (phase.Taken w))) ≡ 0 → h x (phase.Taken w) ≡ 0
      by true q = omega (arith, q)
      by false q = absurd (omega (arith, q))

  -- the instruction is the same
  at_instr : (x : Standing) → instr_of (sight c) x ≡ instr_of (sight k) x
  at_instr x = ap (λ is. slice_get is x.thread.pc) code

  stands_then : (x : Standing) (q : Phase) → x.thread.phase ≡ q → weight k (λ y p. taken_phase (sight k) y p) x ≡ 0 → taken_phase (sight c) x q ≡ 0
  stands_then x (phase.Taken w) e z =
      ap (λ i. taken_there (sight c) x w (lent_place i)) (at_instr x) ∙ there_then x w (lent_place (instr_of (sight k) x)) (had (λ y p. taken_phase (sight k) y p) x w e z)
  stands_then x phase.Ready e z = refl
  stands_then x phase.Got e z = refl
  stands_then x (phase.WaitCell w) e z = refl
  stands_then x (phase.WaitLock m) e z = refl
  stands_then x (phase.WaitDup m) e z = refl
  stands_then x (phase.WaitJoin u) e z = refl
  stands_then x (phase.WaitPar a b) e z = refl
  stands_then x (phase.GotPar a b) e z = refl
  stands_then x phase.Over e z = refl

  new_then : (x : Standing) (q : Phase) → x.thread.phase ≡ q → weight k (λ y p. old_word (sight k) y p) x ≡ 0 → old_word (sight c) x q ≡ 0
  new_then x (phase.Taken w) e z =
      ap (λ i. taken_again (sight c) x w (lent_place i)) (at_instr x) ∙ again_then x w (lent_place (instr_of (sight k) x)) (had (λ y p. old_word (sight k) y p) x w e z)
  new_then x phase.Ready e z = refl
  new_then x phase.Got e z = refl
  new_then x (phase.WaitCell w) e z = refl
  new_then x (phase.WaitLock m) e z = refl
  new_then x (phase.WaitDup m) e z = refl
  new_then x (phase.WaitJoin u) e z = refl
  new_then x (phase.WaitPar a b) e z = refl
  new_then x (phase.GotPar a b) e z = refl
  new_then x phase.Over e z = refl

  pub stands_still : tot (weight k (λ y p. taken_phase (sight k) y p)) (threads_in (things_of c)) ≡ 0 → Holds c taken_stands
  stands_still z = none_all (λ x. taken_phase (sight c) x x.thread.phase) (threads_in (things_of c)) (λ x among. stands_then x x.thread.phase refl (none_at (weight k (λ y p. taken_phase (sight k) y p)) x (threads_in (things_of c)) z among))

  pub new_still : tot (weight k (λ y p. old_word (sight k) y p)) (threads_in (things_of c)) ≡ 0 → Holds c taken_is_new
  new_still z = none_all (λ x. old_word (sight c) x x.thread.phase) (threads_in (things_of c)) (λ x among. new_then x x.thread.phase refl (none_at (weight k (λ y p. old_word (sight k) y p)) x (threads_in (things_of c)) z among))

-- THE EVENT

steady_stays : (kind : Kind) → IsSteady kind → Stays kind
steady_stays evicts p = tt
steady_stays migrates p = tt
steady_stays starts p = tt
steady_stays arrives p = tt
steady_stays fetch p = tt
steady_stays fetched p = tt
steady_stays asks_lock p = tt
steady_stays granted p = tt
steady_stays unlocked p = tt
steady_stays asks_dup p = tt
steady_stays dupped p = tt
steady_stays released p = tt
steady_stays asks_join p = tt
steady_stays joined p = tt
steady_stays finished p = tt
steady_stays step_print p = tt
steady_stays step_arith p = tt
steady_stays step_par_end p = tt
steady_stays kind p = absurd p

module _ (kind : Kind) (steady : IsSteady kind) (k : Cluster) (e : Event) (q : IsOfKind kind k e) (sound : IsSound k) (few : FewEvents k) where
  abbrev Kept : Cluster × EntryView → Type 0
  Kept d = HasPlaces d.0 × ((d.0.code ≡ k.code) × Alike k.code (things_of k) (things_of d.0))

  kept : Gives Kept (apply k e)
  kept =
      both_give (λ (d : Cluster × EntryView). HasPlaces d.0) (Seen k e (λ v. ⊤)) Kept (apply k e)
      (applied_part HasPlaces (λ c g. record { numbers_differ = g.numbers_differ; home_of_each = g.home_of_each; owner_of_each = g.owner_of_each }) k e sound few) (kind_seen kind (steady_stays kind steady) k e q sound few) (λ d a b. (a, b tt))

pub stands_steady : EachSteadyEventKeeps taken_stands
stands_steady kind steady k e q sound few =
    both_give (Kept kind steady k e q sound few) (λ (d : Cluster × EntryView). tot (weight k (λ y p. taken_phase (sight k) y p)) (threads_in (things_of d.0)) ≡ 0) (λ (d : Cluster × EntryView). Holds d.0 taken_stands) (apply k e) (kept kind steady k e q sound few)
    (held k (λ y p. taken_phase (sight k) y p) (taken_by (sight k)) kind steady e q sound few sound.requests.taken_stands) (λ d a z. stands_still k d.0 sound a.0 a.1.0 a.1.1 z)

pub new_steady : EachSteadyEventKeeps taken_is_new
new_steady kind steady k e q sound few =
    both_give (Kept kind steady k e q sound few) (λ (d : Cluster × EntryView). tot (weight k (λ y p. old_word (sight k) y p)) (threads_in (things_of d.0)) ≡ 0) (λ (d : Cluster × EntryView). Holds d.0 taken_is_new) (apply k e) (kept kind steady k e q sound few)
    (held k (λ y p. old_word (sight k) y p) (old_by (sight k)) kind steady e q sound few sound.requests.taken_is_new) (λ d a z. new_still k d.0 sound a.0 a.1.0 a.1.1 z)
