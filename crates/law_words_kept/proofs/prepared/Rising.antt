-- How words rise from one small step of an event to the next.
use Rattle.std.proofs.Common.{◌≡◌, ◌⊎◌, inl, inr, ⊎_elim, ℕ, true, false, refl, sym, ap, subst, ◌∙◌}
use Rattle.law_words_kept.specs.Below.fr_base.declared.name.ObjNo.{ObjNo}
use Rattle.law_words_kept.proofs.Below.fr_store.Keys.{object_cases}
use Rattle.law_words_kept.specs.Below.server_model.Servers.{Cluster}
use Rattle.law_words_kept.specs.Below.coherent_memory.Sight.{sight, issued}
use Rattle.law_words_kept.specs.Below.coherent_memory.Coherent.{Holds, IsSound, first_at_holder}
use Rattle.law_words_kept.specs.Below.coherent_memory.Dirty.{DirtyAlone, PastWords}
use Rattle.law_words_kept.specs.Below.law_words_paths.words.Unmoved.{LeavesWords}
use Rattle.law_words_kept.specs.Below.law_words_paths.words.WordsAfter.{WordsAfter}
use Rattle.law_words_kept.specs.prepared.Requests.{WordsHold, WordsRise}

-- at the start
pub rise_itself : (k : Cluster) → IsSound k → WordsRise k k
rise_itself k s = record {
  has_words = s.words.have_words;
  first_at_holder = s.words.first_at_holder;
  dirty_alone = s.words.dirty_alone;
  past_words = s.words.past_words;
  began = s.words.have_words;
  rises = λ o. inl refl;
}

-- where words are left
pub rise_left : {k a b : Cluster} → LeavesWords a b → WordsRise k a → WordsRise k b
rise_left {k = k} p w = record {
  has_words = (p.words w.has_words).after;
  first_at_holder = p.holders w.first_at_holder;
  dirty_alone = p.dirty w.dirty_alone;
  past_words = p.past w.past_words;
  began = w.began;
  rises = λ o. (let same = (p.words w.has_words).same o in ⊎_elim (λ e. inl (same ∙ e)) (λ e. inr (ap (issued (sight k)) same ∙ e)) (w.rises o));
}

-- where one object has another word, which is the one that it had, or wasn't issued at the start
pub rise_changed : (k x z : Cluster) (o : ObjNo) (w : ℕ) (t : WordsRise k x) → WordsAfter (sight x) (sight z) o w t.has_words → (w ≡ t.has_words.word o) ⊎ (issued (sight k) w ≡ false) → Holds z first_at_holder → DirtyAlone (sight z) → PastWords (sight z) → WordsRise k z
rise_changed k x z o w t a new holders dirty past = record {
  has_words = a.after;
  first_at_holder = holders;
  dirty_alone = dirty;
  past_words = past;
  began = t.began;
  rises = λ p. object_cases (λ b. (a.after.word p ≡ t.began.word p) ⊎ (issued (sight k) (a.after.word p) ≡ false)) p o (λ e. its p e) (λ n. others p n);
}
  where
    on : (p : ObjNo) → a.after.word p ≡ t.has_words.word p → (a.after.word p ≡ t.began.word p) ⊎ (issued (sight k) (a.after.word p) ≡ false)
    on p same = ⊎_elim (λ e. inl (same ∙ e)) (λ e. inr (ap (issued (sight k)) same ∙ e)) (t.rises p)

    its : (p : ObjNo) → p ≡ o → (a.after.word p ≡ t.began.word p) ⊎ (issued (sight k) (a.after.word p) ≡ false)
    its p e =
        let now : a.after.word p ≡ w = ap a.after.word e ∙ a.new in
        ⊎_elim (λ f. on p (now ∙ f ∙ ap t.has_words.word (sym e))) (λ f. inr (ap (issued (sight k)) now ∙ f)) new

    others : (p : ObjNo) → (p ≡ o → ⊥) → (a.after.word p ≡ t.began.word p) ⊎ (issued (sight k) (a.after.word p) ≡ false)
    others p n = on p (a.others p n)

-- words that rise hold
pub holds_so : {k z : Cluster} → WordsRise k z → WordsHold z
holds_so w = record { has_words = w.has_words; first_at_holder = w.first_at_holder; dirty_alone = w.dirty_alone; past_words = w.past_words }
