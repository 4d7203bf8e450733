-- A reference that ends goes, and its holder's slot has its word or nothing is put back: each object is what it was, or covered.
use Rattle.std.proofs.Common.{◌≡◌, ◌≢◌, ℕ, ◌+◌, ◌==◌, nat_lt, Bool, true, false, if◌then◌else◌, length, Option, Some, None, refl, sym, ap, subst, ◌∙◌, arith}
use Rattle.std.specs.Prelude.{slice_get, slice_set}
use Rattle.std.proofs.lemmas.Bool.Decides.{nat_tests}
use Rattle.law_copies_writes.specs.Below.mut_borrow.declared.mutable.MutRef.{MutRef}
use Rattle.law_copies_writes.specs.Below.thread_state.View.{ThreadState}
use Rattle.law_copies_writes.specs.Below.thread_state.declared.value.Value.{Value}
use Rattle.law_copies_writes.specs.Below.thread_state.declared.value.Value.TheVariants as value
use Rattle.law_copies_writes.specs.Below.server_model.Servers.{Server, Cluster, server_at}
use Rattle.law_copies_writes.specs.Below.server_model.Work.{Hand, with_slots, thread_in, then_some}
use Rattle.law_copies_writes.specs.Below.server_model.Places.{in_slot as spot_slot, nowhere as no_spot, with_word, put_at, set_pointer}
use Rattle.law_copies_writes.specs.Below.server_model.Drop.{finish, finished_at}
use Rattle.law_copies_writes.specs.Below.mut_borrow.Refs.{finish_word}
use Rattle.law_copies_writes.specs.Below.law_counts_sums.Laws.{Gives}
use Rattle.law_copies_writes.proofs.Below.law_words_paths.words.Slots.{set_other}
use Rattle.law_copies_writes.specs.Below.coherent_memory.Names.{Among, other}
use Rattle.law_copies_writes.specs.Below.coherent_memory.Things.{Location, at_slot, thread_things, things_of}
use Rattle.law_copies_writes.specs.Below.coherent_memory.Follow.{Ground, cells_in, value_in, value_behind}
use Rattle.law_copies_writes.specs.Below.coherent_memory.Stale.{Reference, references, holder_of}
use Rattle.law_copies_writes.specs.Below.coherent_memory.Sight.{sight}
use Rattle.law_copies_writes.specs.Below.coherent_memory.Placing.{is_first, other_first}
use Rattle.law_copies_writes.proofs.Below.coherent_memory.Words.{none_at}
use Rattle.law_copies_writes.specs.Below.coherent_types.ClusterTypes.{IsCoherent}
use Rattle.law_copies_writes.proofs.Below.law_words_paths.paths.Contained.{reference_there}
use Rattle.law_copies_writes.proofs.Below.law_words_paths.words.Put.{Split, put_split}
use Rattle.law_copies_writes.specs.Below.law_words_kept.moves.Ended.{Ended}
use Rattle.law_copies_writes.proofs.Below.law_words_kept.prepared.Hands.{put}
use Rattle.law_copies_writes.proofs.Below.law_words_values.carried.Hands.{stands_here}
use Rattle.law_copies_writes.proofs.Below.law_words_values.carried.Passing.{Here, slot, located, here}
use Rattle.law_copies_writes.proofs.Below.law_words_values.carried.Replaced.{cells_same}
use Rattle.law_words_ends.proofs.variables.EndHands.{set_apart, is_so, Base, AtEnd, Goes, finishes}
use Rattle.law_words_ends.proofs.variables.EndSteps.{Finishes, is_end}
use Rattle.law_words_ends.proofs.variables.EndPlaces.{Without, newest_without, emptied_without, top_without, first_finishes, word_finishes}
use Rattle.law_words_ends.proofs.stars.Returns.{Shape, newest, top, emptied}
use Rattle.law_copies_writes.proofs.Below.law_words_kept.stays.Steps.{TakesNoneHere}
use Rattle.law_copies_writes.proofs.Below.law_copies_kept.hidden.EndMarks.{leaving_by, end_marks}
use Rattle.law_copies_writes.proofs.writes.Hops.{Now}
use Rattle.law_copies_writes.proofs.writes.Others.{settled_marks}
use Rattle.law_copies_writes.specs.Below.server_model.Places.{Spot}
use Rattle.law_copies_writes.proofs.ends.Backs.{Back}

same_word : (r : MutRef) → (r.word == r.first) ≡ true → r.word ≡ r.first
same_word r e = grind (arith, nat_tests, e)

other_word : (r : MutRef) → (r.word == r.first) ≡ false → r.word ≢ r.first
other_word r e = λ q. (let z : true ≡ false = grind (arith, nat_tests, e, q) in absurd (cc z))

-- with its first word nothing is put back
finish_first : (r : MutRef) (h : Hand) → r.dirty ≡ false → (r.word == r.first) ≡ true → finish no_spot r h ≡ Some h
finish_first r h clean e = ap (λ b. if b then None else finished_at no_spot (finish_word r) h) clean ∙ ap (λ b. finished_at no_spot (if b then None else Some r.word) h) e

-- with another one the holder's pointer gets it
finish_word_at : (r : MutRef) (sp : Spot) (h : Hand) → r.dirty ≡ false → (r.word == r.first) ≡ false → finish sp r h ≡ set_pointer sp r.word h
finish_word_at r sp h clean e = ap (λ b. if b then None else finished_at sp (finish_word r) h) clean ∙ ap (λ b. finished_at sp (if b then None else Some r.word) h) e

-- where a reference's first word stands, something does
first_stands : (r : MutRef) (v : Option Value) → is_first r v ≡ true → (u : Value) × (v ≡ Some u)
first_stands r None e = absurd cc
first_stands r (Some u) e = (u, refl)

module _ (k : Cluster) (coherent : IsCoherent k) (s : Server) (here_it : server_at k.servers s.rest.number ≡ Some s) (t : ℕ) (y : ThreadState) (at : thread_in s.threads t ≡ Some y) (H : Hand) (r : MutRef) where
  abbrev n : ℕ
  n = s.rest.number

  abbrev P : Hand → Cluster
  P = put k coherent s here_it t y at

  abbrev x0 : ThreadState
  x0 = H.thread

  -- the thread without the reference
  pub without : TakesNoneHere k.code x0 → (x : ThreadState) (f : Here) → Shape k coherent.sound s here_it t y at H r x f → Without k.code n x0 x f
  without none _ _ (newest ss e) = newest_without k.code n x0 none r ss e
  without none _ _ (top ts e) = top_without k.code n x0 none r ts e
  without none _ _ (emptied i e) = emptied_without k.code n x0 none r i e

  module _ (base : Base k coherent.sound s here_it t y at H) (from : Here) (l h : Location) (place : located x0.number from ≡ Some l) (is : here x0 from ≡ Some (value.Mut r)) (ended : AtEnd k coherent.sound s here_it t y at H l h r) (x : ThreadState) (p : Finishes k.code n x0 x from l h r) where
    abbrev hx : Hand
    hx = record H { thread = x }

    goes : Goes k coherent.sound s here_it t y at H hx
    goes = finishes k coherent.sound s here_it t y at H base from l h r place is ended x p

    split : Split (things_of (P H)) (things_of (P hx)) (thread_things n false x0) (thread_things n false x)
    split = put_split k n s.threads (s.events + 1) H hx (stands_here k coherent.sound s here_it t y at H base.number base.named) refl p.number

    abbrev gb : Ground
    gb = (sight (P H)).ground

    -- something stands at its holder
    old : (v : Value) × (value_in gb h ≡ Some v)
    old =
        let q : Reference = record { at = l; holder = holder_of gb l r.holder; reference = r } in
        first_stands r (value_in gb h) (is_so (is_first r (value_in gb h)) (subst (λ o. other (is_first r (value_behind gb o)) ≡ 0) ended.held (none_at (other_first gb) q (references gb (things_of (P H))) base.words.first_at_holder (reference_there (P H) l r ended.stood))))

    its_end : Ended (P H) (P hx) l h r
    its_end =
        is_end (P H) (P hx) n x0 x from l h r p split refl base.places goes.places base.words.first_at_holder base.rooted ended.unpassed ended.held old.0 old.1 ended.clean ended.fresh ended.only ended.untaken ended.unmade

    cells : cells_in (things_of (P hx)) ≡ cells_in (things_of (P H))
    cells = cells_same (P H) (P hx) n x0 x p.number split base.places goes.places

    pub finished_now : Now k coherent s here_it t y at H → Now k coherent s here_it t y at hx
    finished_now now =
        settled_marks k (P H) (P hx) coherent.sound.words.have_words now goes.leaves
        (end_marks (P H) (P hx) l h r base.places goes.places (leaving_by (P H) (P hx) l h r its_end) base.words.dirty_alone (goes.leaves.dirty base.words.dirty_alone)) (λ c m. subst (λ b. Among c b) (sym cells) m) (λ c m. subst (λ b. Among c b) cells m)

  module _ (base : Base k coherent.sound s here_it t y at H) (none : TakesNoneHere k.code x0) (from : Here) (l h : Location) (place : located x0.number from ≡ Some l) (is : here x0 from ≡ Some (value.Mut r)) (ended : AtEnd k coherent.sound s here_it t y at H l h r) (now : Now k coherent s here_it t y at H) where
    pub back_first : (r.word == r.first) ≡ true → Back k coherent s here_it t y at H r H no_spot from
    back_first e = record {
      rest = H.work.rest;
      slots = λ vs. vs;
      finish_so = λ F same kept. subst (λ o. Gives (λ (h2 : Hand). (h2.work.rest ≡ H.work.rest) × (h2.thread ≡ F.thread)) o) (sym (finish_first r F ended.clean e)) (same, refl);
      leaves = λ x w. finishes k coherent.sound s here_it t y at H base from l h r place is ended x (first_finishes k.code n x0 x from l h r none place is (without none x from w) (same_word r e));
      settles = λ x w. finished_now base from l h place is ended x (first_finishes k.code n x0 x from l h r none place is (without none x from w) (same_word r e)) now;
      commutes = λ i vs v q. refl;
      beside = λ i vs q. refl;
    }

    pub back_slot : (j : ℕ) (v u : Value) → (r.word == r.first) ≡ false → h ≡ at_slot x0.number j → (slot j ≡ from → ⊥) → slice_get x0.slots j ≡ Some v → with_word r.word v ≡ Some u → Back k coherent s here_it t y at H r H (spot_slot j) from
    back_slot j v u e there away stands worded = record {
      rest = H.work.rest;
      slots = λ vs. slice_set vs j u;
      finish_so = puts;
      leaves = λ x w. finishes k coherent.sound s here_it t y at H base from l h r place is ended (record x { slots = slice_set x.slots j u }) (word_end x w);
      settles = λ x w. finished_now base from l h place is ended (record x { slots = slice_set x.slots j u }) (word_end x w) now;
      commutes = λ i vs w q. set_apart vs i j w u (λ f. away (ap slot (sym f) ∙ q));
      beside = λ i vs q. set_other vs j i u (λ f. away (ap slot (sym f) ∙ q));
    }
      where
        word_end : (x : ThreadState) → Shape k coherent.sound s here_it t y at H r x from → Finishes k.code n x0 (record x { slots = slice_set x.slots j u }) from l h r
        word_end x w = word_finishes k.code n x0 x from l h r none place is (without none x from w) j v u away there ((without none x from w).slots j away ∙ stands) worded (other_word r e)

        puts : (F : Hand) → F.work.rest ≡ H.work.rest → ((m : ℕ) → (slot m ≡ from → ⊥) → slice_get F.thread.slots m ≡ slice_get x0.slots m)
            → Gives (λ (h2 : Hand). (h2.work.rest ≡ H.work.rest) × (h2.thread ≡ record F.thread { slots = slice_set F.thread.slots j u })) (finish (spot_slot j) r F)
        puts F same kept =
            subst (λ o. Gives Done o) (sym (finish_word_at r (spot_slot j) F ended.clean e))
            (subst (λ o. Gives Done (then_some o (λ a. then_some (with_word r.word a) (λ b. put_at (spot_slot j) b F)))) (sym (kept j away ∙ stands))
            (subst (λ o. Gives Done (then_some o (λ b. put_at (spot_slot j) b F))) (sym worded) (by (nat_lt j (length F.thread.slots)))))
          where
            Done : Hand → Type 0
            Done h2 = (h2.work.rest ≡ H.work.rest) × (h2.thread ≡ record F.thread { slots = slice_set F.thread.slots j u })

            by : (b : Bool) → Gives Done (if b then Some (with_slots (slice_set F.thread.slots j u) F) else None)
            by true = (same, refl)
            by false = tt
