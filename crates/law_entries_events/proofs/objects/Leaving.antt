-- A block is freed at its server: its address is free with the next colour, or retired, and the same words were issued there.
use Rattle.std.proofs.Common.{◌≡◌, ℕ, ◌+◌, ◌&&◌, Bool, true, false, nat_lt, if◌then◌else◌, [], ◌∷◌, length, Some, refl, sym, ap, ◌∙◌, arith, append-nil}
use Rattle.std.specs.Prelude.{nat_le, slice_get}
use Rattle.law_runs_whole.specs.Below.law_words_ends.Below.fr_base.declared.name.ObjNo.{ObjNo}
use Rattle.law_runs_whole.specs.Below.law_words_ends.Below.global_addr.Words.{colour_of, address_of}
use Rattle.law_runs_whole.specs.Below.law_words_ends.Below.heap_partition.declared.value.Cell.{Cell}
use Rattle.law_runs_whole.specs.Below.law_words_ends.Below.owner_box.View.{PartitionState}
use Rattle.law_runs_whole.specs.Below.law_words_ends.Below.owner_box.Partition.{freed}
use Rattle.law_runs_whole.specs.Below.server_model.Servers.{Rest, Server, Cluster, server_at}
use Rattle.law_runs_whole.specs.Below.server_model.Work.{Work, with_partition, look_object}
use Rattle.law_runs_whole.specs.Below.server_model.Events.{received}
use Rattle.law_runs_whole.specs.Below.coherent_memory.Names.{one}
use Rattle.law_runs_whole.specs.Below.coherent_memory.Things.{Thing, lies, vacant, retired, is_free}
use Rattle.law_runs_whole.specs.Below.coherent_memory.Sight.{is_word, colour_up_to, is_spot, sight, word}
use Rattle.law_runs_whole.specs.Below.coherent_memory.Words.{HasWords}
use Rattle.law_runs_whole.specs.Below.coherent_memory.Coherent.{IsSound}
use Rattle.law_runs_whole.proofs.Below.law_counts_sums.Bags.{of_partition}
use Rattle.law_runs_whole.proofs.Below.law_counts_sums.Cells.{left_by, looked, frees}
use Rattle.law_runs_whole.proofs.Below.law_counts_sums.ObjectMessages.{looked_object}
use Rattle.law_runs_whole.proofs.Below.law_words_ends.Below.law_heap_still.events.Addresses.{in_place, lies_alone}
use Rattle.law_runs_whole.proofs.Below.law_words_ends.Below.law_heap_still.events.Leaving.{others, placed_here}
use Rattle.law_runs_whole.proofs.Below.law_words_ends.Below.law_results_reads.Pointing.{its_partition}
use Rattle.law_entries_writes.proofs.Below.law_entries_variables.deliveries.Weighed.{WorkTurns}
use Rattle.law_entries_writes.proofs.Below.law_entries_variables.deliveries.Live.{word_told as live_word, issued_by}
use Rattle.law_entries_writes.proofs.Below.law_entries_reads.served.Lying.{word_told, has_cell}
use Rattle.law_entries_writes.proofs.Below.law_entries_reads.served.Gives.{up_to, below_limit, last_colour}

module _ (k : Cluster) (sound : IsSound k) (number : ℕ) (s : Server) (here : server_at k.servers number ≡ Some s) where
  -- a partition has the colours of the run
  pub limit_is : s.rest.partition.limit ≡ k.options.colours
  limit_is = (its_partition k sound number s here).1

  module _ (i w : ℕ) (o : ObjNo) (c : Cell) (q : look_object s.rest.partition w o ≡ Some c) where
    abbrev n : ℕ
    n = s.rest.number

    abbrev p : PartitionState
    p = s.rest.partition

    cell_at : slice_get p.cells (address_of w) ≡ Some (Some c)
    cell_at = looked p w c (looked_object p w o c q).0

    abbrev pub spot : Thing
    spot = lies n (address_of w) c

    abbrev pub left : Thing
    left = left_by n p.limit w

    abbrev pub away : Work
    away = with_partition (freed p w) (received i s).work

    pub leaves : WorkTurns (received i s).work (spot ∷ []) (left ∷ []) [] away
    leaves = record {
      number = refl;
      noted = sym (append-nil (received i s).work.acts);
      labels = refl;
      things = λ f h.
          let r : Rest = (received i s).work.rest in
          let free : is_free (address_of w) p.free ≡ false = lies_alone n p (in_place n s.events s.rest (others k sound number s here) (placed_here k sound number s here)) (address_of w) c cell_at in
          let u = of_partition n 0 r (freed p w) (frees n p w c cell_at free) in
          omega (arith, u.before f, u.after f, h.counted n (length p.cells) p.retired r.started r.mutexes.made 0, h.counted n (length (freed p w).cells) (freed p w).retired r.started r.mutexes.made 0);
    }

    pub left_none : (f : Thing → ℕ) → ((r b m : ℕ) → f (vacant r b m) ≡ 0) → ((r b : ℕ) → f (retired r b) ≡ 0) → f left ≡ 0
    left_none f v u = by (nat_lt (colour_of w + 1) p.limit)
      where
        by : (b : Bool) → f (if b then vacant n (address_of w) (colour_of w + 1) else retired n (address_of w)) ≡ 0
        by true = v n (address_of w) (colour_of w + 1)
        by false = u n (address_of w)

    -- at its address the same words were issued
    pub same_issued : (h : ObjNo → ℕ) → h c.object ≡ w → (v : ℕ) → issued_by h k.options.colours v spot ≡ issued_by h k.options.colours v left
    same_issued h its v = by (nat_lt (colour_of w + 1) p.limit) refl
      where
        first : one (is_spot n (address_of w) v && colour_up_to (Some (h c.object)) v) ≡ one (is_spot n (address_of w) v && nat_lt (colour_of v) (colour_of w + 1))
        first = ap (λ z. one (is_spot n (address_of w) v && z)) (ap (λ u. nat_le (colour_of v) (colour_of u)) its ∙ up_to (colour_of v) (colour_of w))

        by : (b : Bool) → nat_lt (colour_of w + 1) p.limit ≡ b → one (is_spot n (address_of w) v && colour_up_to (Some (h c.object)) v) ≡ issued_by h k.options.colours v (if b then vacant n (address_of w) (colour_of w + 1) else retired n (address_of w))
        by true e = first
        by false e =
            first ∙ ap (λ z. one (is_spot n (address_of w) v && nat_lt (colour_of v) z)) (sym (last_colour (colour_of w) p.limit (below_limit p w c (looked_object p w o c q).0) e) ∙ limit_is)

    -- the object's word leads there
    pub its_word : is_word (word (sight k) o) w ≡ true → (before : HasWords (sight k)) → before.word c.object ≡ w
    its_word named before =
        let both : Some (before.word o) ≡ Some w = sym (live_word k before o (has_cell k sound number s here w o c q)) ∙ word_told (word (sight k) o) w named in
        ap before.word (looked_object p w o c q).1 ∙ cc
