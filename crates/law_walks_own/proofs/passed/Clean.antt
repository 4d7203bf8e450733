-- A reference that is cleaned leaves a later partition.
use Rattle.std.proofs.Common.{◌≡◌, ℕ, ◌==◌, nat_lt, Bool, true, false, if◌then◌else◌, Option, Some, None, refl, sym, ap, subst, ◌∙◌}
use Rattle.std.specs.Bool.{⊤}
use Rattle.law_copies_kept.specs.Below.fr_base.Lists.{last_of}
use Rattle.law_copies_kept.specs.Below.global_addr.Words.{colour_of, server_of}
use Rattle.law_copies_kept.specs.Below.mut_borrow.Refs.{cleaned_answer}
use Rattle.law_copies_kept.specs.Below.mut_borrow.declared.mutable.Cleaned.{Cleaned}
use Rattle.law_copies_kept.specs.Below.mut_borrow.declared.mutable.Cleaned.TheVariants as cleaned
use Rattle.law_copies_kept.specs.Below.mut_borrow.declared.mutable.MutRef.{MutRef}
use Rattle.law_copies_kept.specs.Below.owner_box.View.{PartitionState}
use Rattle.law_copies_kept.specs.Below.thread_state.declared.value.Value.{Value}
use Rattle.law_copies_kept.specs.Below.thread_state.declared.value.Value.TheVariants as value
use Rattle.law_copies_kept.specs.Below.server_model.Servers.{Rest}
use Rattle.law_copies_kept.specs.Below.server_model.Work.{Hand, then_some}
use Rattle.law_copies_kept.specs.Below.server_model.NewWords.{NewWord, issue_tint, issue_renewal}
use Rattle.law_copies_kept.specs.Below.server_model.Places.{Spot, in_slot, on_top, put_at, with_word, put_word}
use Rattle.law_copies_kept.specs.Below.server_model.Prepare.{ready, requested, nothing, ready_at, ask_object, box_of, cleaned_by, clean_value}
use Rattle.law_walks_others.proofs.Below.law_words_asked.writes.Later.{Later, later_itself, later_renewed}
use Rattle.law_walks_others.proofs.Below.law_words_asked.writes.Hops.{renewed_work}
use Rattle.law_walks_own.proofs.passed.Good.{sets_slot}

-- in a slot, or on top of the temporary values
pub data OfThread : Spot → Type 0 where
  of_slot : (j : ℕ) → OfThread (in_slot j)
  of_top : OfThread on_top

ready_is : {a b : Hand} {s u : Spot} → ready a s ≡ ready b u → b ≡ a
ready_is e = cc

some_hand : {a b : Hand} → Some a ≡ Some b → b ≡ a
some_hand e = cc

-- a word there leaves the partition
word_leaves : (sp : Spot) → OfThread sp → (n : NewWord) (h h2 : Hand) → put_word sp n h ≡ Some h2 → h2.work.rest.partition ≡ n.work.rest.partition
word_leaves _ (of_slot j) n h h2 e = let s = sets_slot (λ w. ⊤) j n.word (record h { work = n.work }) h2 tt e in s.partition
word_leaves _ of_top n h h2 e = by (last_of h.thread.temps) e
  where
    worded : (o : Option Value) → then_some o (λ new. put_at on_top new (record h { work = n.work })) ≡ Some h2 → h2.work.rest.partition ≡ n.work.rest.partition
    worded None f = absurd (cc f)
    worded (Some new) f = ap (λ (x : Hand). x.work.rest.partition) (some_hand f)

    by : (o : Option Value) → then_some o (λ v. then_some (with_word n.word v) (λ new. put_at on_top new (record h { work = n.work }))) ≡ Some h2 → h2.work.rest.partition ≡ n.work.rest.partition
    by None f = absurd (cc f)
    by (Some v) f = worded (with_word n.word v) f

module _ (sp : Spot) (of : OfThread sp) (r : MutRef) (h h1 : Hand) (b : Spot) where
  abbrev P : PartitionState
  P = h.work.rest.partition

  ready_later : (n : NewWord) → Later P n.work.rest.partition → (o : Option Hand) → put_word sp n h ≡ o → ready_at sp o ≡ ready h1 b → Later P h1.work.rest.partition
  ready_later n l None e f = absurd (cc f)
  ready_later n l (Some a) e f = subst (Later P) (sym (word_leaves sp of n h a e) ∙ ap (λ (x : Hand). x.work.rest.partition) (sym (ready_is f))) l

  renewed_later : (o : Option NewWord) → issue_renewal (box_of r) h.work ≡ o → ready_at sp (then_some o (λ n. put_word sp n h)) ≡ ready h1 b → Later P h1.work.rest.partition
  renewed_later None e f = absurd (cc f)
  renewed_later (Some n) e f =
      let left = renewed_work (box_of r) h.work n e in
      ready_later n (subst (Later P) (sym (ap (λ (x : Rest). x.partition) left.1)) (later_renewed P P r.word left.2 (later_itself P))) (put_word sp n h) refl f

  by_answer : (c : Cleaned) → cleaned_by c sp r h ≡ ready h1 b → Later P h1.work.rest.partition
  by_answer cleaned.Same e = subst (λ (x : Hand). Later P x.work.rest.partition) (sym (ready_is e)) (later_itself P)
  by_answer (cleaned.Tinted w) e = ready_later (issue_tint (box_of r) h.work) (later_itself P) (put_word sp (issue_tint (box_of r) h.work) h) refl e
  by_answer cleaned.MustRenew e = by (server_of r.word == h.work.rest.number) e
    where
      by : (t : Bool) → (if t then ready_at sp (then_some (issue_renewal (box_of r) h.work) (λ n. put_word sp n h)) else requested (ask_object (box_of r) h)) ≡ ready h1 b → Later P h1.work.rest.partition
      by true f = renewed_later (issue_renewal (box_of r) h.work) refl f
      by false f = absurd (cc f)

  pub clean_later : clean_value sp (Some (value.Mut r)) h ≡ ready h1 b → Later h.work.rest.partition h1.work.rest.partition
  clean_later e = by (nat_lt (colour_of r.word) P.limit) e
    where
      by : (t : Bool) → (if t then cleaned_by (cleaned_answer P.limit r) sp r h else nothing) ≡ ready h1 b → Later P h1.work.rest.partition
      by true f = by_answer (cleaned_answer P.limit r) f
      by false f = absurd (cc f)
