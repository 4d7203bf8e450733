-- What becomes of a step, by its hand: all stays, one object gets a word under which a copy of it may be asked for, or objects turn. Copies are right after each of these.
use Rattle.std.proofs.Common.{◌≡◌, ℕ, Bool, true, false, Option, Some, None, option_map, refl, sym, subst, ◌∙◌}
use Rattle.std.specs.Prelude.{slice_get}
use Rattle.law_copies_kept.specs.Below.fr_base.declared.name.ObjNo.{ObjNo}
use Rattle.law_copies_kept.specs.Below.fr_base.declared.instruction.Instr.{Instr}
use Rattle.law_copies_kept.specs.Below.heap_partition.declared.value.Cell.{Cell}
use Rattle.law_copies_kept.specs.Below.thread_state.View.{ThreadState}
use Rattle.law_copies_kept.specs.Below.server_model.declared.event.Event.{Event}
use Rattle.law_copies_kept.specs.Below.server_model.declared.event.What.TheVariants.{Step}
use Rattle.law_copies_kept.specs.Below.server_model.Servers.{Server, Cluster, server_at}
use Rattle.law_copies_kept.specs.Below.server_model.Work.{Hand, thread_in, then_some}
use Rattle.law_copies_kept.specs.Below.server_model.Events.{enabled, begin_work, Stepped, step, step_in, stepped, does}
use Rattle.law_copies_kept.specs.Below.coherent_memory.Names.{Among}
use Rattle.law_copies_kept.specs.Below.coherent_memory.Things.{things_of}
use Rattle.law_copies_kept.specs.Below.coherent_memory.Follow.{cells_in}
use Rattle.law_copies_kept.specs.Below.coherent_memory.Sight.{is_object_among, sight, issued}
use Rattle.law_copies_kept.specs.Below.coherent_memory.Words.{HasWords}
use Rattle.law_copies_kept.specs.Below.coherent_memory.Coherent.{IsSound}
use Rattle.law_words_borrows.specs.Below.law_words_paths.words.Reworded.{HasPlaces}
use Rattle.law_copies_kept.specs.Below.law_counts_sums.Laws.{Gives, FewEvents}
use Rattle.law_copies_kept.proofs.Below.law_counts_sums.Results.{over_gives}
use Rattle.law_words_borrows.proofs.Below.law_counts_things.things.Mail.{Mailed}
use Rattle.law_words_borrows.proofs.Below.law_counts_things.things.Messages.{Light}
use Rattle.law_words_borrows.proofs.Below.law_words_values.carried.Hands.{ThereBy, put, left_by}
use Rattle.law_copies_kept.proofs.copies.Clean.{Leaves, all_goes}
use Rattle.law_copies_kept.proofs.references.Asked.{asking}
use Rattle.law_copies_kept.proofs.references.Kept.{has_none, none_before, kept_where, step_asks}
use Rattle.law_copies_kept.proofs.references.Worded.{Worded, worded_on, has_none_but}
use Rattle.law_copies_kept.proofs.references.WordedCopies.{then_holds, none_but_before, worded_right}
use Rattle.law_copies_kept.specs.objects.Fresh.{LeavesRight}
use Rattle.law_copies_kept.proofs.objects.Turned.{Turned, none_idle, none_or_idle, turned_right}
use Rattle.law_copies_kept.proofs.objects.Handed.{then_turned}

module _ (k : Cluster) (sound : IsSound k) (few : FewEvents k) (s : Server) (here : server_at k.servers s.rest.number ≡ Some s) (t : ℕ) (y : ThreadState) (at : thread_in s.threads t ≡ Some y) (i : Instr) (code : slice_get k.code y.pc ≡ Some i) where
  abbrev n : ℕ
  n = s.rest.number

  abbrev e : Event
  e = record { server = n; what = Step t }

  abbrev start : Hand
  start = record { work = begin_work s.rest; thread = y }

  abbrev Put : Hand → Cluster
  Put = put k sound s here t y at

  abbrev before : HasWords (sight k)
  before = sound.words.have_words

  -- what is sent asks for no copy under a word that weighs something
  abbrev pub Sends : (ℕ → ℕ) → Stepped → Type 0
  Sends f d = Mailed (Light (asking f)) n s.rest.outbox s.rest → Mailed (Light (asking f)) n s.rest.outbox d.hand.work.rest

  -- an object that has a cell and is changed through a reference gets a word that wasn't issued
  pub record OneWorded (d : Stepped) : Type 0 where
    pub object : ObjNo
    pub word : ℕ
    pub fresh : issued (sight k) word ≡ false
    pub dirty : is_object_among object (sight k).dirty ≡ true
    pub its : (c : Cell) × Among c (cells_in (things_of k)) × (c.object ≡ object)
    pub worded : Worded k (Put d.hand) object word before
    pub sends : Sends (has_none_but k word) d

  pub data Outcome (d : Stepped) : Type 0 where
    stayed : Leaves k (Put d.hand) → Sends (has_none k) d → Outcome d
    one_worded : OneWorded d → Outcome d
    turned : Turned k (Put d.hand) before → Sends (none_or_idle k) d → Outcome d

  abbrev pub Left : Stepped → Type 0
  Left d = Outcome d × HasPlaces (Put d.hand)

  -- AT ITS SERVER

  module _ (R : Cluster → Cluster → Type 0) where
    abbrev There_too : Stepped → Type 0
    There_too d = R k (Put d.hand) × HasPlaces (Put d.hand)

    at_server : Gives There_too (step k.options.servers i start) → Gives (ThereBy R k s) (does k.code k.options s (Step t))
    at_server g =
        subst (λ o. Gives (ThereBy R k s) (option_map (stepped s) (then_some (option_map (λ v. record { work = begin_work s.rest; thread = v }) o) (step_in k.code k.options.servers)))) (sym at)
        (subst (λ o. Gives (ThereBy R k s) (option_map (stepped s) (then_some o (λ j. step k.options.servers j start)))) (sym code)
        (over_gives There_too (ThereBy R k s) (step k.options.servers i start) (stepped s) g (λ d q. q)))

  -- ITS COPIES

  abbrev Right : Type 0
  Right = LeavesRight k e

  abbrev Sent : (ℕ → ℕ) → Stepped → Type 0
  Sent f d = Mailed (Light (asking f)) n s.rest.outbox d.hand.work.rest

  all_stayed : (enabled k.options s (Step t) ≡ true → Gives (λ (d : Stepped). Leaves k (Put d.hand) × HasPlaces (Put d.hand)) (step k.options.servers i start)) → (enabled k.options s (Step t) ≡ true → Mailed (Light (asking (has_none k))) n s.rest.outbox s.rest → Gives (Sent (has_none k)) (step k.options.servers i start))
      → Right
  all_stayed g mails = kept_where k e sound few (left_by all_goes k s t sound few here (λ on. at_server Leaves (g on))) (step_asks k n t s y i sound few here at code (has_none k) (none_before k sound) mails)

  one_gets : (d : Stepped) → step k.options.servers i start ≡ Some d → OneWorded d → HasPlaces (Put d.hand) → Right
  one_gets d same w places =
      worded_right k e sound few w.object w.word w.fresh w.dirty w.its
      (then_holds (λ b. Worded k b w.object w.word before) (λ b c u l. worded_on u l) k s t sound few here (λ on. at_server (λ b c. Worded k c w.object w.word before) (subst (Gives (λ (x : Stepped). Worded k (Put x.hand) w.object w.word before × HasPlaces (Put x.hand))) (sym same) (w.worded, places))))
      (step_asks k n t s y i sound few here at code (has_none_but k w.word) (none_but_before k w.word sound) (λ on mail. subst (Gives (Sent (has_none_but k w.word))) (sym same) (w.sends mail)))

  some_turn : (d : Stepped) → step k.options.servers i start ≡ Some d → Turned k (Put d.hand) before → Sends (none_or_idle k) d → HasPlaces (Put d.hand) → Right
  some_turn d same turns sends places =
      turned_right k e sound few
      (then_turned k s t sound few here (λ on. at_server (λ b c. Turned k c before) (subst (Gives (λ (x : Stepped). Turned k (Put x.hand) before × HasPlaces (Put x.hand))) (sym same) (turns, places))))
      (step_asks k n t s y i sound few here at code (none_or_idle k) (none_idle k sound) (λ on mail. subst (Gives (Sent (none_or_idle k))) (sym same) (sends mail)))

  by_step : (o : Option Stepped) → step k.options.servers i start ≡ o → Gives Left o → Right
  by_step None same g = all_stayed (λ on. subst (Gives (λ (d : Stepped). Leaves k (Put d.hand) × HasPlaces (Put d.hand))) (sym same) tt) (λ on mail. subst (Gives (Sent (has_none k))) (sym same) tt)
  by_step (Some d) same (stayed l sends, places) =
      all_stayed (λ on. subst (Gives (λ (x : Stepped). Leaves k (Put x.hand) × HasPlaces (Put x.hand))) (sym same) (l, places)) (λ on mail. subst (Gives (Sent (has_none k))) (sym same) (sends mail))
  by_step (Some d) same (one_worded w, places) = one_gets d same w places
  by_step (Some d) same (turned turns sends, places) = some_turn d same turns sends places

  pub right_by : (enabled k.options s (Step t) ≡ true → Gives Left (step k.options.servers i start)) → Right
  right_by go = by (enabled k.options s (Step t)) refl
    where
      by : (b : Bool) → enabled k.options s (Step t) ≡ b → Right
      by true on = by_step (step k.options.servers i start) refl (go on)
      by false off = all_stayed (λ on. let no : false ≡ true = sym off ∙ on in absurd cc) (λ on mail. let no : false ≡ true = sym off ∙ on in absurd cc)
