-- A mutable reference that a step ends is cleaned first: with the act that the coloured heap allows, or its object is asked for.
use Rattle.std.proofs.Common.{◌≡◌, inl, ℕ, ◌+◌, ◌==◌, nat_lt, Bool, true, false, if◌then◌else◌, [], ◌∷◌, Option, Some, None, refl, sym, ap, subst, ◌∙◌, arith}
use Rattle.std.specs.Prelude.{⊤, slice_get}
use Rattle.std.proofs.lemmas.Bool.Decides.{nat_tests}
use Rattle.law_copies_writes.specs.Below.fr_base.declared.instruction.Instr.{Instr}
use Rattle.law_copies_writes.specs.Below.global_addr.Words.{colour_of, server_of, next_word}
use Rattle.law_copies_writes.specs.Below.heap_partition.declared.value.BoxPtr.{BoxPtr}
use Rattle.law_copies_writes.specs.Below.mut_borrow.Refs.{cleaned_answer}
use Rattle.law_copies_writes.specs.Below.mut_borrow.declared.mutable.Cleaned.TheVariants.{Same, Tinted, MustRenew}
use Rattle.law_copies_writes.specs.Below.mut_borrow.declared.mutable.MutRef.{MutRef}
use Rattle.law_copies_writes.specs.Below.owner_box.View.{PartitionState}
use Rattle.law_copies_writes.specs.Below.thread_state.View.{ThreadState}
use Rattle.law_copies_writes.specs.Below.thread_state.declared.value.Value.TheVariants as value
use Rattle.law_copies_writes.specs.Below.server_model.declared.event.What.TheVariants.{Step}
use Rattle.law_copies_writes.specs.Below.server_model.Servers.{Rest, Server, Cluster, server_at}
use Rattle.law_copies_writes.specs.Below.server_model.Work.{Hand, thread_in, then_some}
use Rattle.law_copies_writes.specs.Below.server_model.NewWords.{NewWord, issue_tint, issue_renewal}
use Rattle.law_copies_writes.specs.Below.server_model.Places.{Spot, put_word, took, value_at}
use Rattle.law_copies_writes.specs.Below.server_model.Prepare.{Prepared, ready, requested, nothing, ready_at, ask_object, box_of, cleaned_by, clean_value}
use Rattle.law_copies_writes.specs.Below.server_model.Events.{enabled, begin_work}
use Rattle.law_entries_writes.specs.Below.law_entries_variables.Below.coloured_heap.Heap.{Coloured}
use Rattle.law_copies_writes.specs.Below.coherent_memory.Names.{tot}
use Rattle.law_copies_writes.specs.Below.coherent_memory.Things.{Location, partition_things}
use Rattle.law_copies_writes.specs.Below.coherent_memory.Sight.{Pointer, sight}
use Rattle.law_copies_writes.specs.Below.coherent_memory.Words.{IsStale}
use Rattle.law_copies_writes.specs.Below.coherent_memory.Colours.{StandsColoured}
use Rattle.law_copies_writes.specs.Below.coherent_types.ClusterTypes.{IsCoherent}
use Rattle.law_copies_writes.specs.Below.law_words_paths.words.WordsAfter.{Rewrites}
use Rattle.law_copies_writes.proofs.Below.law_words_paths.words.Only.{are_only}
use Rattle.law_copies_writes.proofs.Below.law_words_paths.words.Standing.{told, told_standing}
use Rattle.law_copies_writes.specs.Below.law_counts_sums.Laws.{FewEvents}
use Rattle.law_copies_writes.specs.Below.law_words_kept.reads.Reading.{LiesUnder}
use Rattle.law_copies_writes.proofs.Below.law_words_kept.reads.Homes.{fresh_word}
use Rattle.law_copies_writes.proofs.Below.law_results_reads.Known.{Steps}
use Rattle.law_copies_writes.proofs.Below.law_results_reads.Pointing.{Stands, its_partition, leads_home}
use Rattle.law_copies_writes.proofs.Below.law_words_kept.prepared.Hands.{put, places, first_hand}
use Rattle.law_copies_writes.proofs.Below.law_results_events.writes.Memory.{Leads, looked}
use Rattle.law_copies_writes.proofs.Below.law_results_events.writes.StepRoutes.{sane_there, roomy}
use Rattle.law_copies_writes.proofs.Below.law_words_asked.writes.Onward.{Lies}
use Rattle.law_copies_writes.proofs.Below.law_words_asked.writes.Passing.{State, first_state}
use Rattle.law_copies_writes.proofs.Below.law_words_asked.writes.Later.{later_itself}
use Rattle.law_copies_writes.proofs.Below.law_words_asked.writes.Hops.{Boxed}
use Rattle.law_copies_writes.proofs.Below.law_words_ends.variables.DirtyEnds.{Worded, tint, renew}
use Rattle.law_copies_writes.proofs.Below.law_words_ends.stars.Cleaned.{steps, End, fresh, lies}
use Rattle.law_entries_writes.proofs.Below.law_entries_variables.deliveries.Live.{issued_by}
use Rattle.law_entries_writes.proofs.Below.law_entries_reads.asks.Recoloured.{NewWords}
use Rattle.law_entries_writes.proofs.Below.law_entries_reads.asks.Frames.{SameFrames}
use Rattle.law_entries_writes.proofs.Below.law_entries_reads.asks.Pointed.{Pointed, pointed}
use Rattle.law_entries_writes.proofs.walks.Given.{words_by, Given, given_start, named_now, lies_so}
use Rattle.law_entries_writes.proofs.walks.Hops.{put_acts, Wishes, tint_comes, left, renewal_comes}

module _ (k : Cluster) (coherent : IsCoherent k) (few : FewEvents k) (s : Server) (here_it : server_at k.servers s.rest.number ≡ Some s) (t : ℕ) (y : ThreadState) (at : thread_in s.threads t ≡ Some y) (on : enabled k.options s (Step t) ≡ true) (i : Instr) (code : slice_get k.code y.pc ≡ Some i)
    (r : MutRef) (sp : Spot) (other : MutRef → ThreadState) (e : End k coherent few s here_it t y at on i code r sp other) (alike : (q : MutRef) → q.object ≡ r.object → q.holder ≡ r.holder → SameFrames (other q).slots y.slots) (c0 : Coloured) (is_coloured : StandsColoured k c0) where
  abbrev n : ℕ
  n = s.rest.number

  abbrev z : Steps k n t s y i
  z = steps k coherent few s here_it t y at on i code

  abbrev P : Hand → Cluster
  P = put k coherent s here_it t y at

  abbrev p : PartitionState
  p = s.rest.partition

  abbrev start : Hand
  start = record { work = begin_work s.rest; thread = y }

  abbrev G : Hand → NewWords → Type 0
  G = Given k coherent s here_it t y at c0 is_coloured

  -- cleaned so, or asked for so
  abbrev pub CleanLed : Prepared → Type 0
  CleanLed (ready h b) = (ws : NewWords) × Given k coherent s here_it t y at c0 is_coloured h ws
  CleanLed (requested h) = Wishes k coherent s here_it t y at c0 is_coloured h
  CleanLed nothing = ⊤

  abbrev l : Location
  l = e.it.at

  abbrev box : BoxPtr
  box = box_of r

  abbrev colours : ℕ
  colours = k.options.colours

  started : State k coherent s here_it t y at start
  started = first_state k coherent s here_it t y at e.untaken

  gave : G start []
  gave = given_start k coherent s here_it t y at c0 is_coloured

  fresh_k : IsStale (sight k) (Some l) → ⊥
  fresh_k = fresh k coherent few s here_it t y at on i code r sp other e

  under : LiesUnder k box
  under = lies k coherent few s here_it t y at on i code r sp other e

  lying : Lies k r.object
  lying = record { server = under.server; address = under.address; there = under.there }

  pt : Pointed k coherent box
  pt = pointed k coherent y.number l (value.Mut r) box e.it.stands refl fresh_k under

  now : r.word ≡ words_by k coherent s here_it t y at c0 is_coloured [] r.object
  now = fresh_word k coherent.sound.words.have_words l (value.Mut r) box e.it.stands refl fresh_k

  abbrev pointer : Pointer
  pointer = record { at = Some l; word = r.word; object = r.object }

  stands_so : Stands k pointer
  stands_so = record { pointers = told k l (value.Mut r) pointer e.it.stands (inl refl); standing = told_standing k l (value.Mut r) pointer e.it.stands (inl refl) }

  -- its word leads here where it is of this server
  home : server_of r.word ≡ n → Leads p r.word under.there.cell
  home mine = looked p r.word under.there.cell (leads_home k coherent.sound n s here_it pointer stands_so fresh_k under.there.cell under.server under.address under.there.among under.there.object mine)

  -- WITH A WORD

  module _ (dirty : r.dirty ≡ true) where
    abbrev Word_so : Hand → ℕ → Type 0
    Word_so = Worded k coherent few s here_it t y at on sp l other r e.place e.it.stands e.is e.unpassed dirty e.untaken

    module _ (h2 : Hand) (w : ℕ) (u : Word_so h2 w) where
      fresh_x : IsStale (sight (P start)) (Some l) → ⊥
      fresh_x f = fresh_k ((first_hand k coherent s here_it t y at).along.fresher l f)

      rewrites : Rewrites (P start) (P h2) l r.object w
      rewrites = record {
        before = places k coherent s here_it t y at start started.ok;
        only = are_only.dirty (P start) l r (places k coherent s here_it t y at start started.ok) started.onward.words.dirty_alone e.place.there dirty fresh_x;
        fresh = fresh_x;
        firsts = started.onward.words.first_at_holder;
        places = places k coherent s here_it t y at h2 u.ok;
        reworded = u.reworded;
      }

      frames : SameFrames h2.thread.slots y.slots
      frames = subst (λ (x : ThreadState). SameFrames x.slots y.slots) (sym u.thread) (alike (took r w) refl refl)

      thread : h2.thread ≡ record y { slots = h2.thread.slots; temps = h2.thread.temps }
      thread = u.thread ∙ e.thread (took r w) ∙ sym (ap (λ (x : ThreadState). record y { slots = x.slots; temps = x.temps }) u.thread)

    -- after the next colour
    tinted : nat_lt (colour_of r.word + 1) p.limit ≡ true → (o : Option Hand) → put_word sp (issue_tint box start.work) start ≡ o → CleanLed (ready_at sp o)
    tinted low None f = tt
    tinted low (Some h2) f =
        let u = tint k coherent few s here_it t y at on sp l other r e.place e.it.stands e.is e.unpassed dirty e.untaken h2 f in
        let rest : h2.work.rest ≡ s.rest = (e.place.puts (issue_tint box start.work).work h2 (next_word r.word) f).1 in
        let parts : h2.work.rest.partition ≡ p = ap (λ (x : Rest). x.partition) rest in (
          (r.object, next_word r.word) ∷ [],
          tint_comes k coherent s here_it t y at c0 is_coloured start h2 started [] gave u.ok box pt now l (rewrites h2 (next_word r.word) u) (started.onward.lies_on r.object lying) low (its_partition k coherent.sound n s here_it).1
              (put_acts sp (issue_tint box start.work) start h2 f) (λ d x. ap (λ q. tot d (partition_things n q)) parts) (λ j x. ap (λ q. tot (issued_by j colours x) (partition_things n q)) parts) (frames h2 (next_word r.word) u)
              (rest ∙ ap (λ q. record s.rest { partition = q }) (sym parts)) (thread h2 (next_word r.word) u),
        )

    -- after a renewal
    module _ (mine : (server_of r.word == n) ≡ true) (nw : NewWord) (issues : issue_renewal box start.work ≡ Some nw) where
      known : Boxed k coherent s here_it t y at start box under.there.cell
      known = record {
        state = started;
        later = later_itself p;
        word = now;
        leads = home (grind (arith, nat_tests, mine));
        object = under.there.object;
        sane = sane_there k n t s y i z;
        room = (let b = roomy k n t s y i z in omega (arith, b));
      }

      moved : (o : Option Hand) → put_word sp nw start ≡ o → CleanLed (ready_at sp o)
      moved None f = tt
      moved (Some h2) f =
          let u = renew k coherent few s here_it t y at on sp l other r e.place e.it.stands e.is e.unpassed dirty e.untaken mine nw issues h2 f in
          let rest : h2.work.rest ≡ nw.work.rest = (e.place.puts nw.work h2 nw.word f).1 in
          let parts : h2.work.rest.partition ≡ nw.work.rest.partition = ap (λ (x : Rest). x.partition) rest in
          let its = left k coherent s here_it t y at c0 is_coloured start box under.there.cell known nw issues in (
            (r.object, nw.word) ∷ [],
            renewal_comes k coherent s here_it t y at c0 is_coloured start box under.there.cell known nw issues h2 [] gave u.ok pt now l (rewrites h2 nw.word u) (put_acts sp nw start h2 f) (λ d x. ap (λ q. tot d (partition_things n q)) parts)
                (λ j x. ap (λ q. tot (issued_by j colours x) (partition_things n q)) parts) (frames h2 nw.word u) (rest ∙ its.1 ∙ ap (λ q. record s.rest { partition = q }) (sym (parts ∙ ap (λ (x : Rest). x.partition) its.1))) (thread h2 nw.word u),
          )

    renewals : (server_of r.word == n) ≡ true → (o : Option NewWord) → issue_renewal box start.work ≡ o → CleanLed (ready_at sp (then_some o (λ nw. put_word sp nw start)))
    renewals mine None f = tt
    renewals mine (Some nw) f = moved mine nw f (put_word sp nw start) refl

    -- at the last colour
    at_last : (c : Bool) → (server_of r.word == n) ≡ c → CleanLed (if c then ready_at sp (then_some (issue_renewal box start.work) (λ nw. put_word sp nw start)) else requested (ask_object box start))
    at_last true f = renewals f (issue_renewal box start.work) refl
    at_last false f = record {
      pointer = box;
      hand = start;
      asks = refl;
      state = started;
      words = [];
      given = gave;
      named = named_now k coherent s here_it t y at c0 is_coloured [] box pt now;
      away = lies_so k coherent s here_it t y at c0 is_coloured box pt n n false refl f;
    }

    by_colour : (c : Bool) → nat_lt (colour_of r.word + 1) p.limit ≡ c → CleanLed (cleaned_by (if c then Tinted (next_word r.word) else MustRenew) sp r start)
    by_colour true low = tinted low (put_word sp (issue_tint box start.work) start) refl
    by_colour false low = at_last (server_of r.word == n) refl

  by_mark : (b : Bool) → r.dirty ≡ b → CleanLed (cleaned_by (if b then (if nat_lt (colour_of r.word + 1) p.limit then Tinted (next_word r.word) else MustRenew) else Same) sp r start)
  by_mark true d = by_colour d (nat_lt (colour_of r.word + 1) p.limit) refl
  by_mark false d = ([], gave)

  at_limit : (b : Bool) → CleanLed (if b then cleaned_by (cleaned_answer p.limit r) sp r start else nothing)
  at_limit true = by_mark r.dirty refl
  at_limit false = tt

  -- cleaned, or asked for
  pub cleans_led : CleanLed (clean_value sp (value_at start sp) start)
  cleans_led = subst (λ o. CleanLed (clean_value sp o start)) (sym e.place.shown) (at_limit (nat_lt (colour_of r.word) p.limit))
