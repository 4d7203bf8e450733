-- A mutable reference that ends is cleaned first: its object gets the next colour, or at the last colour another address, and the coloured heap allows the act.
use Rattle.std.proofs.Common.{◌≡◌, ◌⊎◌, inl, inr, ℕ, ◌+◌, ◌==◌, nat_lt, Bool, true, false, if◌then◌else◌, [], ◌∷◌, length, Option, Some, None, refl, sym, ap, subst, ◌∙◌, arith}
use Rattle.std.specs.Prelude.{⊤, slice_get}
use Rattle.std.proofs.lemmas.Bool.Decides.{nat_tests}
use Rattle.law_entries_reads.specs.Below.law_entries_variables.Below.law_words_ends.Below.fr_base.declared.instruction.Instr.{Instr}
use Rattle.law_entries_reads.specs.Below.law_entries_variables.Below.law_words_ends.Below.fr_base.declared.name.ObjNo.{ObjNo}
use Rattle.law_entries_reads.specs.Below.law_entries_variables.Below.law_words_ends.Below.global_addr.Words.{colour_of, server_of, next_word}
use Rattle.law_entries_reads.specs.Below.law_entries_variables.Below.law_words_ends.Below.heap_partition.declared.value.Owned.TheVariants as owned
use Rattle.law_entries_reads.specs.Below.law_entries_variables.Below.law_words_ends.Below.mut_borrow.declared.mutable.MutRef.{MutRef}
use Rattle.law_entries_reads.specs.Below.law_entries_variables.Below.law_words_ends.Below.mut_borrow.declared.mutable.Cleaned.TheVariants.{Same, Tinted, MustRenew}
use Rattle.law_entries_reads.specs.Below.law_entries_variables.Below.law_words_ends.Below.mut_borrow.Refs.{cleaned_answer}
use Rattle.law_entries_reads.specs.Below.law_entries_variables.Below.law_words_ends.Below.owner_box.View.{PartitionState}
use Rattle.law_entries_reads.specs.Below.law_entries_variables.Below.law_words_ends.Below.owner_box.Partition.{freed, renewed, new_word}
use Rattle.law_entries_reads.specs.Below.law_entries_variables.Below.law_words_ends.Below.thread_state.View.{ThreadState}
use Rattle.law_entries_reads.specs.Below.law_entries_variables.Below.law_words_ends.Below.thread_state.declared.value.Value.{Value}
use Rattle.law_entries_reads.specs.Below.law_entries_variables.Below.law_words_ends.Below.thread_state.declared.value.Value.TheVariants as value
use Rattle.law_entries_reads.specs.Below.law_entries_variables.Below.law_words_ends.Below.server_model.declared.event.What.TheVariants.{Step}
use Rattle.law_entries_reads.specs.Below.law_entries_variables.Below.law_words_ends.Below.server_model.Servers.{Rest, Server, Cluster, server_at}
use Rattle.law_entries_reads.specs.Below.law_entries_variables.Below.law_words_ends.Below.server_model.Work.{Work, Hand, thread_in, then_some, last_of, front_of}
use Rattle.law_entries_reads.specs.Below.law_entries_variables.Below.law_words_ends.Below.server_model.NewWords.{NewWord, issue_tint, issue_renewal}
use Rattle.law_entries_reads.specs.Below.law_entries_variables.Below.law_words_ends.Below.server_model.Places.{Spot, in_slot, on_top, with_word, put_word, value_at}
use Rattle.law_entries_reads.specs.Below.law_entries_variables.Below.law_words_ends.Below.server_model.Prepare.{Prepared, ready, requested, nothing, ready_at, ask_object, box_of, cleaned_by, clean_value}
use Rattle.law_entries_reads.specs.Below.law_entries_variables.Below.law_words_ends.Below.server_model.Events.{enabled, begin_work}
use Rattle.law_entries_writes.specs.Below.law_entries_variables.Below.coloured_heap.Heap.{Coloured}
use Rattle.law_entries_reads.specs.Below.law_entries_variables.Below.law_words_ends.Below.coherent_memory.Names.{tot}
use Rattle.law_entries_reads.specs.Below.law_entries_variables.Below.law_words_ends.Below.coherent_memory.Things.{Location, at_slot, partition_things}
use Rattle.law_entries_reads.specs.Below.law_entries_variables.Below.law_words_ends.Below.coherent_memory.Sight.{sight}
use Rattle.law_entries_reads.specs.Below.law_entries_variables.Below.law_words_ends.Below.coherent_memory.Words.{IsStale, HasWords}
use Rattle.law_entries_reads.specs.Below.law_entries_variables.Below.law_words_ends.Below.coherent_memory.Colours.{StandsColoured}
use Rattle.law_entries_reads.specs.Below.law_entries_variables.Below.law_words_ends.Below.coherent_types.ClusterTypes.{IsCoherent}
use Rattle.law_entries_reads.specs.Below.law_entries_variables.Below.law_words_ends.Below.law_counts_sums.Laws.{Gives, FewEvents}
use Rattle.law_entries_reads.proofs.Below.law_entries_variables.Below.law_words_ends.Below.law_counts_sums.Results.{then_gives, test_gives, given_by}
use Rattle.law_entries_reads.proofs.Below.law_entries_variables.Below.law_words_ends.Below.law_words_paths.paths.Sole.{some_is}
use Rattle.law_entries_reads.specs.Below.law_entries_variables.Below.law_words_ends.Below.law_words_kept.reads.Reading.{LiesUnder}
use Rattle.law_entries_reads.specs.Below.law_entries_variables.Below.law_words_ends.Below.law_words_paths.words.WordsAfter.{Rewrites}
use Rattle.law_entries_reads.proofs.Below.law_entries_variables.Below.law_words_ends.Below.law_words_paths.words.Only.{are_only}
use Rattle.law_entries_reads.proofs.Below.law_entries_variables.Below.law_words_ends.Below.law_words_paths.words.Standing.{told, told_standing}
use Rattle.law_entries_reads.proofs.Below.law_entries_variables.Below.law_words_ends.Below.law_results_reads.Known.{Steps}
use Rattle.law_entries_reads.proofs.Below.law_entries_variables.Below.law_words_ends.Below.law_results_reads.Pointing.{leads_home, its_partition}
use Rattle.law_heap_writes.proofs.Below.law_words_writes.Below.law_words_kept.prepared.Hands.{put, places, first_hand}
use Rattle.law_heap_writes.proofs.Below.law_results_events.writes.Memory.{Leads, looked}
use Rattle.law_heap_writes.proofs.Below.law_results_events.writes.StepRoutes.{sane_there, roomy}
use Rattle.law_heap_writes.proofs.Below.law_words_writes.Below.law_words_asked.writes.Onward.{Lies}
use Rattle.law_heap_writes.proofs.Below.law_words_writes.Below.law_words_asked.writes.Later.{later_itself}
use Rattle.law_heap_writes.proofs.Below.law_words_writes.Below.law_words_asked.writes.Passing.{State, first_state}
use Rattle.law_heap_writes.proofs.Below.law_words_writes.Below.law_words_asked.writes.Hops.{Boxed, renewed_work}
use Rattle.law_entries_reads.proofs.Below.law_entries_variables.Below.law_words_ends.variables.DirtyEnds.{Worded, tint, renew}
use Rattle.law_entries_reads.proofs.Below.law_entries_variables.Below.law_words_ends.variables.Recoloured.{last_end}
use Rattle.law_copies_writes.proofs.Below.law_words_ends.stars.Cleaned.{steps, End, fresh, lies}
use Rattle.law_entries_writes.specs.Below.law_entries_variables.Below.law_heap_still.events.Shows.{frame_of}
use Rattle.law_entries_writes.proofs.Below.law_entries_variables.deliveries.Live.{issued_by}
use Rattle.law_entries_reads.proofs.Below.law_entries_variables.variables.Slots.{IsUnmarked}
use Rattle.law_entries_reads.proofs.Below.law_entries_variables.variables.Tops.{top_unmarked}
use Rattle.law_entries_reads.proofs.Below.law_entries_variables.variables.InStep.{by_number}
use Rattle.law_entries_writes.proofs.Below.law_entries_reads.asks.Recoloured.{NewWords}
use Rattle.law_entries_writes.proofs.Below.law_entries_reads.asks.Frames.{SameFrames}
use Rattle.law_entries_writes.proofs.Below.law_entries_reads.asks.KeptRest.{set_frames}
use Rattle.law_entries_writes.proofs.Below.law_entries_reads.asks.Pointed.{Pointed, pointed}
use Rattle.law_entries_writes.proofs.walks.Given.{Given, given_start}
use Rattle.law_entries_writes.proofs.walks.Hops.{tint_comes, renewal_comes}
use Rattle.law_entries_writes.proofs.ends.Finishing.{GivesWords}

-- WHERE A WORD IS PUT

-- a pointer with another word shows the same
worded_frame : (w : ℕ) (v new : Value) → with_word w v ≡ Some new → frame_of new ≡ frame_of v
worded_frame w (value.Own (owned.Box p)) new e = ap frame_of (sym (some_is e))
worded_frame w (value.Mut r) new e = ap frame_of (sym (some_is e))
worded_frame w (value.Own owned.Nothing) new e = absurd (cc e)
worded_frame w (value.Own owned.Unit) new e = absurd (cc e)
worded_frame w (value.Own (owned.Int i)) new e = absurd (cc e)
worded_frame w (value.Own (owned.Mutex m)) new e = absurd (cc e)
worded_frame w (value.Own (owned.Task u)) new e = absurd (cc e)
worded_frame w value.Gone new e = absurd (cc e)
worded_frame w (value.SharedSlot i) new e = absurd (cc e)
worded_frame w (value.MutSlot i) new e = absurd (cc e)
worded_frame w (value.Shared q) new e = absurd (cc e)
worded_frame w (value.Held m) new e = absurd (cc e)

-- nor is it a mark
worded_unmarked : (w : ℕ) (v new : Value) → with_word w v ≡ Some new → IsUnmarked new
worded_unmarked w (value.Own (owned.Box p)) new e = subst IsUnmarked (some_is e) tt
worded_unmarked w (value.Mut r) new e = subst IsUnmarked (some_is e) tt
worded_unmarked w (value.Own owned.Nothing) new e = absurd (cc e)
worded_unmarked w (value.Own owned.Unit) new e = absurd (cc e)
worded_unmarked w (value.Own (owned.Int i)) new e = absurd (cc e)
worded_unmarked w (value.Own (owned.Mutex m)) new e = absurd (cc e)
worded_unmarked w (value.Own (owned.Task u)) new e = absurd (cc e)
worded_unmarked w value.Gone new e = absurd (cc e)
worded_unmarked w (value.SharedSlot i) new e = absurd (cc e)
worded_unmarked w (value.MutSlot i) new e = absurd (cc e)
worded_unmarked w (value.Shared q) new e = absurd (cc e)
worded_unmarked w (value.Held m) new e = absurd (cc e)

-- the work is that with which the word was issued, slots show what they showed, and no mark comes on top
record Puts (nw : NewWord) (h u : Hand) : Type 0 where
  work : u.work ≡ nw.work
  frames : SameFrames u.thread.slots h.thread.slots
  thread : u.thread ≡ record h.thread { slots = u.thread.slots; temps = u.thread.temps }
  tops : ((v : Value) → last_of h.thread.temps ≡ Some v → IsUnmarked v) → (v : Value) → last_of u.thread.temps ≡ Some v → IsUnmarked v

slot_puts : (j : ℕ) (nw : NewWord) (h : Hand) → Gives (Puts nw h) (put_word (in_slot j) nw h)
slot_puts j nw h =
    then_gives (Puts nw h) (slice_get h.thread.slots j) _ (λ v at. then_gives (Puts nw h) (with_word nw.word v) _ (λ new worded. test_gives (Puts nw h) (nat_lt j (length h.thread.slots)) _ (λ low. record { work = refl; frames = set_frames h.thread.slots j v new at (worded_frame nw.word v new worded); thread = refl; tops = λ f. f })))

top_puts : (nw : NewWord) (h : Hand) → Gives (Puts nw h) (put_word on_top nw h)
top_puts nw h = then_gives (Puts nw h) (last_of h.thread.temps) _ (λ v at. then_gives (Puts nw h) (with_word nw.word v) _ (λ new worded. record {
  work = refl;
  frames = refl;
  thread = refl;
  tops = λ f u is. (let same : new ≡ u = some_is (sym (last_end (front_of h.thread.temps) new) ∙ is) in subst IsUnmarked same (worded_unmarked nw.word v new worded));
}))

put_so : (sp : Spot) → ((j : ℕ) × (sp ≡ in_slot j)) ⊎ (sp ≡ on_top) → (nw : NewWord) (h u : Hand) → put_word sp nw h ≡ Some u → Puts nw h u
put_so sp (inl f) nw h u e = given_by (Puts nw h) (put_word sp nw h) u (subst (λ b. Gives (Puts nw h) (put_word b nw h)) (sym f.1) (slot_puts f.0 nw h)) e
put_so sp (inr f) nw h u e = given_by (Puts nw h) (put_word sp nw h) u (subst (λ b. Gives (Puts nw h) (put_word b nw h)) (sym f) (top_puts nw h)) e

module _ (k : Cluster) (coherent : IsCoherent k) (few : FewEvents k) (s : Server) (here_it : server_at k.servers s.rest.number ≡ Some s) (t : ℕ) (y : ThreadState) (at : thread_in s.threads t ≡ Some y) (on : enabled k.options s (Step t) ≡ true) (c0 : Coloured) (is_coloured : StandsColoured k c0)
    (i : Instr) (code : slice_get k.code y.pc ≡ Some i) (r : MutRef) (sp : Spot) (other : MutRef → ThreadState) (e : End k coherent few s here_it t y at on i code r sp other) where
  abbrev n : ℕ
  n = s.rest.number

  abbrev p : PartitionState
  p = s.rest.partition

  abbrev z : Steps k n t s y i
  z = steps k coherent few s here_it t y at on i code

  abbrev start : Hand
  start = record { work = begin_work s.rest; thread = y }

  abbrev P : Hand → Cluster
  P = put k coherent s here_it t y at

  abbrev before : HasWords (sight k)
  before = coherent.sound.words.have_words

  abbrev G : Hand → NewWords → Type 0
  G = Given k coherent s here_it t y at c0 is_coloured

  abbrev colours : ℕ
  colours = k.options.colours

  abbrev l : Location
  l = e.it.at

  abbrev o : ObjNo
  o = r.object

  abbrev Words : Hand → Type 0
  Words = GivesWords k coherent few s here_it t y at on c0 is_coloured

  -- so where it is clean
  abbrev pub CleanGiven : Prepared → Type 0
  CleanGiven (ready h b) = Words h
  CleanGiven (requested h) = ⊤
  CleanGiven nothing = ⊤

  started : State k coherent s here_it t y at start
  started = first_state k coherent s here_it t y at e.untaken

  under : LiesUnder k (box_of r)
  under = lies k coherent few s here_it t y at on i code r sp other e

  pt : Pointed k coherent (box_of r)
  pt = pointed k coherent y.number l (value.Mut r) (box_of r) e.it.stands refl (fresh k coherent few s here_it t y at on i code r sp other e) under

  lying : Lies (P start) o
  lying = started.onward.lies_on o (record { server = under.server; address = under.address; there = under.there })

  g0 : G start []
  g0 = given_start k coherent s here_it t y at c0 is_coloured

  form : ((j : ℕ) × (sp ≡ in_slot j)) ⊎ (sp ≡ on_top)
  form = by e.form
    where
      by : ((j : ℕ) × (sp ≡ in_slot j) × (e.it.at ≡ at_slot y.number j)) ⊎ (sp ≡ on_top) → ((j : ℕ) × (sp ≡ in_slot j)) ⊎ (sp ≡ on_top)
      by (inl f) = inl (f.0, f.1)
      by (inr f) = inr f

  unmarked : (v : Value) → last_of y.temps ≡ Some v → IsUnmarked v
  unmarked v f = top_unmarked k coherent.sound n s here_it y (by_number s t y at) v f

  its_limit : p.limit ≡ colours
  its_limit = (its_partition k coherent.sound n s here_it).1

  module _ (dirty : r.dirty ≡ true) where
    abbrev Given_word : Hand → ℕ → Type 0
    Given_word = Worded k coherent few s here_it t y at on sp l other r e.place e.it.stands e.is e.unpassed dirty e.untaken

    fresh_x : IsStale (sight (P start)) (Some l) → ⊥
    fresh_x f = fresh k coherent few s here_it t y at on i code r sp other e ((first_hand k coherent s here_it t y at).along.fresher l f)

    rewrites : (h2 : Hand) (w : ℕ) → Given_word h2 w → Rewrites (P start) (P h2) l o w
    rewrites h2 w u = record {
      before = places k coherent s here_it t y at start started.ok;
      only = are_only.dirty (P start) l r (places k coherent s here_it t y at start started.ok) started.onward.words.dirty_alone e.place.there dirty fresh_x;
      fresh = fresh_x;
      firsts = started.onward.words.first_at_holder;
      places = places k coherent s here_it t y at h2 u.ok;
      reworded = u.reworded;
    }

    -- THE NEXT COLOUR

    module _ (low : nat_lt (colour_of r.word + 1) p.limit ≡ true) (h2 : Hand) (puts_it : put_word sp (issue_tint (box_of r) start.work) start ≡ Some h2) where
      abbrev w : ℕ
      w = next_word r.word

      u : Given_word h2 w
      u = tint k coherent few s here_it t y at on sp l other r e.place e.it.stands e.is e.unpassed dirty e.untaken h2 puts_it

      q : Puts (issue_tint (box_of r) start.work) start h2
      q = put_so sp form (issue_tint (box_of r) start.work) start h2 puts_it

      same_rest : h2.work.rest ≡ s.rest
      same_rest = ap (λ (x : Work). x.rest) q.work

      tinted_given : G h2 ((o, w) ∷ [])
      tinted_given =
          tint_comes k coherent s here_it t y at c0 is_coloured start h2 started [] g0 u.ok (box_of r) pt pt.word l (rewrites h2 w u) lying low its_limit (ap (λ (x : Work). x.acts) q.work) (λ f b. ap (λ (x : Rest). tot f (partition_things n x.partition)) same_rest)
          (λ j v. ap (λ (x : Rest). tot (issued_by j colours v) (partition_things n x.partition)) same_rest) q.frames (same_rest ∙ ap (λ (x : Rest). record s.rest { partition = x.partition }) (sym same_rest)) q.thread

    -- ANOTHER ADDRESS

    module _ (mine : (server_of r.word == n) ≡ true) (nw : NewWord) (issued_so : issue_renewal (box_of r) start.work ≡ Some nw) (h2 : Hand) (puts_it : put_word sp nw start ≡ Some h2) where
      v : Given_word h2 nw.word
      v = renew k coherent few s here_it t y at on sp l other r e.place e.it.stands e.is e.unpassed dirty e.untaken mine nw issued_so h2 puts_it

      x : Puts nw start h2
      x = put_so sp form nw start h2 puts_it

      leads : Leads p r.word under.there.cell
      leads =
          looked p r.word under.there.cell
          (leads_home k coherent.sound n s here_it (record { at = Some l; word = r.word; object = o }) (record { pointers = told k l (value.Mut r) (record { at = Some l; word = r.word; object = o }) e.it.stands (inl refl); standing = told_standing k l (value.Mut r) (record { at = Some l; word = r.word; object = o }) e.it.stands (inl refl) })
          (fresh k coherent few s here_it t y at on i code r sp other e) under.there.cell under.server under.address under.there.among under.there.object (grind (arith, nat_tests, mine)))

      known : Boxed k coherent s here_it t y at start (box_of r) under.there.cell
      known = record { state = started; later = later_itself p; word = pt.word; leads = leads; object = under.there.object; sane = sane_there k n t s y i z; room = (let b = roomy k n t s y i z in omega (arith, b)) }

      left : (nw.word ≡ new_word (freed p r.word)) × (nw.work.rest ≡ record s.rest { partition = renewed p r.word }) × (colour_of r.word + 1 ≡ p.limit)
      left = renewed_work (box_of r) start.work nw issued_so

      renewed_given : G h2 ((o, nw.word) ∷ [])
      renewed_given =
          renewal_comes k coherent s here_it t y at c0 is_coloured start (box_of r) under.there.cell known nw issued_so h2 [] g0 v.ok pt pt.word l (rewrites h2 nw.word v) (ap (λ (c : Work). c.acts) x.work) (λ f b. ap (λ (c : Work). tot f (partition_things n c.rest.partition)) x.work)
          (λ j d. ap (λ (c : Work). tot (issued_by j colours d) (partition_things n c.rest.partition)) x.work) x.frames
          (ap (λ (c : Work). c.rest) x.work ∙ left.1 ∙ ap (λ b. record s.rest { partition = b }) (sym (ap (λ (c : Work). c.rest.partition) x.work ∙ ap (λ (c : Rest). c.partition) left.1))) x.thread

    -- WHICHEVER

    tinted : nat_lt (colour_of r.word + 1) p.limit ≡ true → (x : Option Hand) → put_word sp (issue_tint (box_of r) start.work) start ≡ x → CleanGiven (ready_at sp x)
    tinted low None f = tt
    tinted low (Some h2) f = record { words = (o, next_word r.word) ∷ []; given = tinted_given low h2 f; tops = (put_so sp form (issue_tint (box_of r) start.work) start h2 f).tops unmarked }

    moved : (server_of r.word == n) ≡ true → (nw : NewWord) → issue_renewal (box_of r) start.work ≡ Some nw → (x : Option Hand) → put_word sp nw start ≡ x → CleanGiven (ready_at sp x)
    moved mine nw f None a = tt
    moved mine nw f (Some h2) a = record { words = (o, nw.word) ∷ []; given = renewed_given mine nw f h2 a; tops = (put_so sp form nw start h2 a).tops unmarked }

    renewals : (server_of r.word == n) ≡ true → (x : Option NewWord) → issue_renewal (box_of r) start.work ≡ x → CleanGiven (ready_at sp (then_some x (λ nw. put_word sp nw start)))
    renewals mine None f = tt
    renewals mine (Some nw) f = moved mine nw f (put_word sp nw start) refl

    at_last : (b : Bool) → (server_of r.word == n) ≡ b → CleanGiven (if b then ready_at sp (then_some (issue_renewal (box_of r) start.work) (λ nw. put_word sp nw start)) else requested (ask_object (box_of r) start))
    at_last true f = renewals f (issue_renewal (box_of r) start.work) refl
    at_last false f = tt

    by_colour : (b : Bool) → nat_lt (colour_of r.word + 1) p.limit ≡ b → CleanGiven (cleaned_by (if b then Tinted (next_word r.word) else MustRenew) sp r start)
    by_colour true low = tinted low (put_word sp (issue_tint (box_of r) start.work) start) refl
    by_colour false low = at_last (server_of r.word == n) refl

  by_mark : (b : Bool) → r.dirty ≡ b → CleanGiven (cleaned_by (if b then (if nat_lt (colour_of r.word + 1) p.limit then Tinted (next_word r.word) else MustRenew) else Same) sp r start)
  by_mark true d = by_colour d (nat_lt (colour_of r.word + 1) p.limit) refl
  by_mark false d = record { words = []; given = g0; tops = unmarked }

  at_limit : (b : Bool) → CleanGiven (if b then cleaned_by (cleaned_answer p.limit r) sp r start else nothing)
  at_limit true = by_mark r.dirty refl
  at_limit false = tt

  -- cleaned, with the word that its object got
  pub cleans_given : CleanGiven (clean_value sp (value_at start sp) start)
  cleans_given = subst (λ v. CleanGiven (clean_value sp v start)) (sym e.place.shown) (at_limit (nat_lt (colour_of r.word) p.limit))
