-- New words: a tint changes nothing, and a renewal takes an object from its address and puts it to another one.
use Rattle.std.proofs.Common.{◌≡◌, ℕ, ◌+◌, ◌==◌, ◌&&◌, Bool, true, false, nat_lt, if◌then◌else◌, List, ◌++◌, Option, Some, None, refl, sym, ap, subst, ◌∙◌}
use Rattle.std.specs.Prelude.{is_some}
use Rattle.coherent_memory.specs.Below.global_addr.Words.{colour_of, server_of}
use Rattle.coherent_memory.specs.Below.heap_partition.declared.value.BoxPtr.{BoxPtr}
use Rattle.coherent_memory.specs.Below.heap_partition.declared.value.Cell.{Cell}
use Rattle.coherent_memory.specs.Below.owner_box.Partition.{freed, made_again, renewed, cell_of}
use Rattle.coherent_memory.specs.Below.server_model.Work.{Work, Hand, with_partition, leads_here, look}
use Rattle.coherent_memory.specs.Below.server_model.NewWords.{NewWord, can_grow, is_last, issue_tint, issue_renewal, issue_colour}
use Rattle.coherent_memory.specs.Below.server_model.Places.{Spot, put_word}
use Rattle.coherent_memory.specs.Things.{Thing, thread_things}
use Rattle.coherent_memory.proofs.Names.{and_left, and_right}
use Rattle.law_counts_sums.specs.Laws.{Gives}
use Rattle.law_counts_sums.proofs.Rules.{Kept}
use Rattle.law_counts_sums.proofs.Results.{test_gives}
use Rattle.law_counts_sums.proofs.Bags.{WorkOk, HandOk}
use Rattle.law_counts_sums.proofs.Chains.{beside_hand, to_hand}
use Rattle.law_counts_sums.proofs.Objects.{leaves_keeps, comes_keeps}
use Rattle.law_counts_sums.proofs.Pointers.{sets_pointer}

module _ {K : List Thing → Type 0} (k : Kept K) (n e : ℕ) where
  -- an object is renewed
  renews : (others : List Thing) (x : Work) (w : ℕ) → leads_here x.rest.partition w ≡ true → WorkOk K n e others x → WorkOk K n e others (with_partition (renewed x.rest.partition w) x)
  renews others x w on g = by (cell_of x.rest.partition w) refl
    where
      by : (o : Option Cell) → cell_of x.rest.partition w ≡ o → WorkOk K n e others (with_partition (renewed x.rest.partition w) x)
      by None q =
          let live : is_some (cell_of x.rest.partition w) ≡ true = and_right (server_of w == x.rest.partition.server) (is_some (cell_of x.rest.partition w)) (and_left ((server_of w == x.rest.partition.server) && is_some (cell_of x.rest.partition w)) (nat_lt (colour_of w) x.rest.partition.limit) on) in
          absurd (cc (sym (ap is_some q) ∙ live))
      by (Some c) q =
          let here : look x.rest.partition w ≡ Some c = subst (λ b. (if b then cell_of x.rest.partition w else None) ≡ Some c) (sym on) q in
          let left = leaves_keeps k n e others x w c here g in
          subst (λ o. WorkOk K n e others (with_partition (made_again (freed x.rest.partition w) o) x)) (sym q)
          (comes_keeps k n e others (with_partition (freed x.rest.partition w) x) w c left)

  issues_renewal : (others : List Thing) (p : BoxPtr) (x : Work) → WorkOk K n e others x → Gives (λ (m : NewWord). WorkOk K n e others m.work) (issue_renewal p x)
  issues_renewal others p x g =
      test_gives (λ (m : NewWord). WorkOk K n e others m.work) (leads_here x.rest.partition p.word && (is_last x.rest.partition p.word && can_grow x.rest.partition)) _ (λ on.
      let new = renews others x p.word (and_left (leads_here x.rest.partition p.word) (is_last x.rest.partition p.word && can_grow x.rest.partition) on) g in
      record { number = new.number; bag = new.bag })

  issues_colour : (others : List Thing) (p : BoxPtr) (x : Work) → WorkOk K n e others x → Gives (λ (m : NewWord). WorkOk K n e others m.work) (issue_colour p x)
  issues_colour others p x g = by (nat_lt (colour_of p.word + 1) x.rest.partition.limit)
    where
      by : (b : Bool) → Gives (λ (m : NewWord). WorkOk K n e others m.work) (if b then Some (issue_tint p x) else issue_renewal p x)
      by true = record { number = g.number; bag = g.bag }
      by false = issues_renewal others p x g

  module _ (t : ℕ) (others : List Thing) where
    -- the work changes beside the thread
    in_work : (o : Option NewWord) (h : Hand) → HandOk K n e t others h → (WorkOk K n e (thread_things n false h.thread ++ others) h.work → Gives (λ (m : NewWord). WorkOk K n e (thread_things n false h.thread ++ others) m.work) o)
        → Gives (λ (m : NewWord). HandOk K n e t others (record h { work = m.work })) o
    in_work o h g go =
        let front = thread_things n false h.thread in
        by o (go (beside_hand k n e t others h g))
      where
        by : (o : Option NewWord) → Gives (λ (m : NewWord). WorkOk K n e (thread_things n false h.thread ++ others) m.work) o → Gives (λ (m : NewWord). HandOk K n e t others (record h { work = m.work })) o
        by None u = tt
        by (Some m) u = to_hand k n e t others m.work h.thread g.thread u

    pub hand_renews : (p : BoxPtr) (h : Hand) → HandOk K n e t others h → Gives (λ (m : NewWord). HandOk K n e t others (record h { work = m.work })) (issue_renewal p h.work)
    hand_renews p h g = in_work (issue_renewal p h.work) h g (λ u. issues_renewal (thread_things n false h.thread ++ others) p h.work u)

    pub hand_colours : (p : BoxPtr) (h : Hand) → HandOk K n e t others h → Gives (λ (m : NewWord). HandOk K n e t others (record h { work = m.work })) (issue_colour p h.work)
    hand_colours p h g = in_work (issue_colour p h.work) h g (λ u. issues_colour (thread_things n false h.thread ++ others) p h.work u)

    pub puts_word : (s : Spot) (m : NewWord) (h : Hand) → HandOk K n e t others (record h { work = m.work }) → Gives (HandOk K n e t others) (put_word s m h)
    puts_word s m h g = sets_pointer k n e t others s m.word (record h { work = m.work }) g
